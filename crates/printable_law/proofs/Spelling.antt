-- The spelling of a message that has octets.
use Rattle.std.proofs.Common.{ℕ, Bool, true, false, List, [], ◌∷◌, ◌++◌, length, map, Option, Some, None, arith}
use Rattle.std.specs.Prelude.{IfSome}
use Rattle.std.specs.List.{AllByRecursion, concat}
use Rattle.q713_shape.specs.declared.rules.VarRule.{VarRule}
use Rattle.q713_shape.specs.Format.{Format, Values, is_long}
use Rattle.q713_shape.specs.Writing.{number_octets, variables, given, all_given, ended, optional_part, pointers, octets_of}
use Rattle.q713_codec.specs.Names.{Message}
use Rattle.q713_codec.specs.declared.message.Message.TheVariants.{Cr, Cc, Cref, Rlsd, Rlc, Dt1, Dt2, Ak, Udt, Udts, Ed, Ea, Rsr, Rsc, Err as Error, It, Xudt, Xudts, Ludt, Ludts}
use Rattle.q713_codec.specs.Messages.{in_one, octets3, format_in, values_of_message}
use Rattle.q713_codec.specs.Writing.{spelling_of}
use Rattle.printable_law.specs.OctetLaw.{IsOctet, AreOctets, HasOctets}
use Rattle.printable_law.proofs.Lists.{all-append, all-concat, all-given}

-- The octets of parts.

abbrev AreOptional : Option (List ℕ) → Type 0
AreOptional x = IfSome x AreOctets

number-octets : (wide : Bool) (n : ℕ) → AreOctets (number_octets wide n)
number-octets true n = (omega arith, (omega arith, tt))
number-octets false n = (omega arith, tt)

variables-octets : (rules : List VarRule) (values : List (List ℕ)) → AllByRecursion AreOctets values → AllByRecursion AreOctets (variables rules values)
variables-octets [] values all = tt
variables-octets (rule ∷ rules) [] all = tt
variables-octets (rule ∷ rules) (value ∷ values) all =
    (all-append IsOctet (number_octets (is_long rule) (length value)) value (number-octets (is_long rule) (length value)) all.0, variables-octets rules values all.1)

given-octets : (name : ℕ) (value : Option (List ℕ)) → IsOctet name → AreOptional value → AreOctets (given name value)
given-octets name None small are = tt
given-octets name (Some value) small are = (small, (omega arith, are))

all_given-octets : (names : List ℕ) (values : List (Option (List ℕ))) → AreOctets names → AllByRecursion AreOptional values → AreOctets (all_given names values)
all_given-octets [] values small all = tt
all_given-octets (name ∷ names) [] small all = tt
all_given-octets (name ∷ names) (value ∷ values) small all =
    all-append IsOctet (given name value) (all_given names values) (given-octets name value small.0 all.0) (all_given-octets names values small.1 all.1)

ended-octets : (octets : List ℕ) → AreOctets octets → AreOctets (ended octets)
ended-octets [] are = tt
ended-octets (octet ∷ octets) are = all-append IsOctet (octet ∷ octets) (0 ∷ []) are (omega arith, tt)

optional-octets : (names : Option (List ℕ)) (values : List (Option (List ℕ))) → IfSome names AreOctets → AllByRecursion AreOptional values
    → AreOctets (optional_part names values)
optional-octets None values small all = tt
optional-octets (Some names) values small all = ended-octets (all_given names values) (all_given-octets names values small all)

-- The octets of a message.

pub record HaveOctets (values : Values) : Type 0 where
  pub fixed : AreOctets values.fixed
  pub vars : AllByRecursion AreOctets values.vars
  pub options : AllByRecursion AreOptional values.options

octets-written : (format : Format) (values : Values) → IsOctet format.kind → IfSome format.options AreOctets → HaveOctets values → AreOctets (octets_of format values)
unfolding octets_of
octets-written format values kind names have =
    let numbers = concat (map (number_octets format.wide) (pointers format values)) in
    let parts = concat (variables format.vars values.vars) in
    let last = optional_part format.options values.options in (
      kind,
      all-append IsOctet (values.fixed ++ numbers ++ parts) last
          (all-append IsOctet (values.fixed ++ numbers) parts
          (all-append IsOctet values.fixed numbers have.fixed
          (all-concat IsOctet (map (number_octets format.wide) (pointers format values))
          (all-given AreOctets (number_octets format.wide) (number-octets format.wide) (pointers format values))))
          (all-concat IsOctet (variables format.vars values.vars) (variables-octets format.vars values.vars have.vars)))
          (optional-octets format.options values.options names have.options),
    )

one : (x : Option ℕ) → IfSome x IsOctet → AreOptional (in_one x)
one None small = tt
one (Some octet) small = (small, tt)

parts : (fixed : List ℕ) (a b c : List ℕ) (d e f g h : Option (List ℕ)) → AreOctets fixed → AreOctets a → AreOctets b → AreOctets c
    → AreOptional d → AreOptional e → AreOptional f → AreOptional g → AreOptional h
    → HaveOctets (record { fixed = fixed; vars = a ∷ b ∷ c ∷ []; options = d ∷ e ∷ f ∷ g ∷ h ∷ [] })
parts fixed a b c d e f g h i j k l m n o p q = record { fixed = i; vars = (j, (k, (l, tt))); options = (m, (n, (o, (p, (q, tt))))) }

fixed-alone : (fixed : List ℕ) → AreOctets fixed → HaveOctets (record { fixed = fixed; vars = [] ∷ [] ∷ [] ∷ []; options = None ∷ None ∷ None ∷ None ∷ None ∷ [] })
fixed-alone fixed are = parts fixed [] [] [] None None None None None are tt tt tt tt tt tt tt tt

reference : (n : ℕ) (more : List ℕ) → AreOctets more → AreOctets (octets3 n ++ more)
reference n more are = (omega arith, (omega arith, (omega arith, are)))

-- one or two references, and what stands behind them
of_one : (dlr : ℕ) → AreOctets (octets3 dlr)
of_one dlr = (omega arith, (omega arith, (omega arith, tt)))

of_two : (dlr slr : ℕ) (more : List ℕ) → AreOctets more → AreOctets (octets3 dlr ++ octets3 slr ++ more)
of_two dlr slr more are = reference dlr (octets3 slr ++ more) (reference slr more are)

values-octets : (m : Message) → HasOctets m → HaveOctets (values_of_message m)
values-octets (Cr slr class called credit calling body hop importance) h =
    parts _ called [] [] (in_one credit) calling body (in_one hop) (in_one importance) (reference slr (class ∷ []) (h.0, tt)) h.1 tt tt (one credit h.2) h.3 h.4 (one hop h.5) (one importance h.6)
values-octets (Cc dlr slr class credit called body importance) h =
    parts _ [] [] [] (in_one credit) called body (in_one importance) None (of_two dlr slr (class ∷ []) (h.0, tt)) tt tt tt (one credit h.1) h.2 h.3 (one importance h.4) tt
values-octets (Cref dlr cause called body importance) h =
    parts _ [] [] [] called body (in_one importance) None None (reference dlr (cause ∷ []) (h.0, tt)) tt tt tt h.1 h.2 (one importance h.3) tt tt
values-octets (Rlsd dlr slr cause body importance) h =
    parts _ [] [] [] body (in_one importance) None None None (of_two dlr slr (cause ∷ []) (h.0, tt)) tt tt tt h.1 (one importance h.2) tt tt tt
values-octets (Rlc dlr slr) h = fixed-alone _ (reference dlr (octets3 slr) (of_one slr))
values-octets (Dt1 dlr segmenting body) h = parts _ body [] [] None None None None None (reference dlr (segmenting ∷ []) (h.0, tt)) h.1 tt tt tt tt tt tt tt
values-octets (Dt2 dlr sequencing body) h = parts _ body [] [] None None None None None (reference dlr sequencing h.0) h.1 tt tt tt tt tt tt tt
values-octets (Ak dlr receive credit) h = fixed-alone _ (reference dlr (receive ∷ credit ∷ []) (h.0, (h.1, tt)))
values-octets (Udt class called calling body) h = parts _ called calling body None None None None None (h.0, tt) h.1 h.2 h.3 tt tt tt tt tt
values-octets (Udts cause called calling body) h = parts _ called calling body None None None None None (h.0, tt) h.1 h.2 h.3 tt tt tt tt tt
values-octets (Ed dlr body) h = parts _ body [] [] None None None None None (of_one dlr) h tt tt tt tt tt tt tt
values-octets (Ea dlr) h = fixed-alone _ (of_one dlr)
values-octets (Rsr dlr slr cause) h = fixed-alone _ (of_two dlr slr (cause ∷ []) (h, tt))
values-octets (Rsc dlr slr) h = fixed-alone _ (reference dlr (octets3 slr) (of_one slr))
values-octets (Error dlr cause) h = fixed-alone _ (reference dlr (cause ∷ []) (h, tt))
values-octets (It dlr slr class sequencing credit) h =
    fixed-alone _ (of_two dlr slr (class ∷ sequencing ++ credit ∷ []) (h.0, all-append IsOctet sequencing (credit ∷ []) h.1 (h.2, tt)))
values-octets (Xudt class hop called calling body segmentation importance) h =
    parts _ called calling body segmentation (in_one importance) None None None (h.0, (h.1, tt)) h.2 h.3 h.4 h.5 (one importance h.6) tt tt tt
values-octets (Xudts cause hop called calling body segmentation importance) h =
    parts _ called calling body segmentation (in_one importance) None None None (h.0, (h.1, tt)) h.2 h.3 h.4 h.5 (one importance h.6) tt tt tt
values-octets (Ludt class hop called calling body segmentation importance) h =
    parts _ called calling body segmentation (in_one importance) None None None (h.0, (h.1, tt)) h.2 h.3 h.4 h.5 (one importance h.6) tt tt tt
values-octets (Ludts cause hop called calling body segmentation importance) h =
    parts _ called calling body segmentation (in_one importance) None None None (h.0, (h.1, tt)) h.2 h.3 h.4 h.5 (one importance h.6) tt tt tt

-- the type octets and the names of the optional parameters
names : (m : Message) → IsOctet (format_in m).kind × IfSome (format_in m).options AreOctets
names (Cr _ _ _ _ _ _ _ _) = (omega arith, (omega arith, (omega arith, (omega arith, (omega arith, (omega arith, tt))))))
names (Cc _ _ _ _ _ _ _) = (omega arith, (omega arith, (omega arith, (omega arith, (omega arith, tt)))))
names (Cref _ _ _ _ _) = (omega arith, (omega arith, (omega arith, (omega arith, tt))))
names (Rlsd _ _ _ _ _) = (omega arith, (omega arith, (omega arith, tt)))
names (Rlc _ _) = (omega arith, tt)
names (Dt1 _ _ _) = (omega arith, tt)
names (Dt2 _ _ _) = (omega arith, tt)
names (Ak _ _ _) = (omega arith, tt)
names (Udt _ _ _ _) = (omega arith, tt)
names (Udts _ _ _ _) = (omega arith, tt)
names (Ed _ _) = (omega arith, tt)
names (Ea _) = (omega arith, tt)
names (Rsr _ _ _) = (omega arith, tt)
names (Rsc _ _) = (omega arith, tt)
names (Error _ _) = (omega arith, tt)
names (It _ _ _ _ _) = (omega arith, tt)
names (Xudt _ _ _ _ _ _ _) = (omega arith, (omega arith, (omega arith, tt)))
names (Xudts _ _ _ _ _ _ _) = (omega arith, (omega arith, (omega arith, tt)))
names (Ludt _ _ _ _ _ _ _) = (omega arith, (omega arith, (omega arith, tt)))
names (Ludts _ _ _ _ _ _ _) = (omega arith, (omega arith, (omega arith, tt)))

pub spelling-octets : (m : Message) → HasOctets m → AreOctets (spelling_of m)
unfolding spelling_of
spelling-octets m has = octets-written (format_in m) (values_of_message m) (names m).0 (names m).1 (values-octets m has)
