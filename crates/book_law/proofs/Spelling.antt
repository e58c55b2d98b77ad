-- How many octets a message has whose parts are short.
use Rattle.std.proofs.Common.{◌≡◌, ℕ, ◌+◌, ◌*◌, ◌≤◌, Bool, true, false, List, [], ◌∷◌, ◌++◌, length, map, Option, Some, None, refl, arith, length-append}
use Rattle.std.specs.List.{AllByRecursion, concat}
use Rattle.m3ua_port.specs.declared.limits.TheConstants.{LONGEST_CARRIED}
use Rattle.q713_shape.specs.declared.rules.VarRule.{VarRule}
use Rattle.q713_shape.specs.Format.{Format, Values, option_count, pointer_width, is_long}
use Rattle.q713_shape.specs.Writing.{number_octets, variable, variables, given, all_given, ended, optional_part, skips, option_skip, pointers, octets_of}
use Rattle.q713_codec.specs.Names.{Message}
use Rattle.q713_codec.specs.declared.message.Message.TheVariants.{Cr, Cc, Cref, Rlsd, Rlc, Dt1, Dt2, Ak, Udt, Udts, Ed, Ea, Rsr, Rsc, Err as Error, It, Xudt, Xudts, Ludt, Ludts}
use Rattle.q713_codec.specs.Messages.{in_one, format_in, values_of_message}
use Rattle.q713_codec.specs.Writing.{spelling_of}

-- a part of a message: no parameter of Q.713 has more than 3,952 octets
abbrev pub IsShort : List ℕ → Type 0
IsShort octets = length octets ≤ 4_000

abbrev pub IsShortOption : Option (List ℕ) → Type 0
IsShortOption None = Unit {0}
IsShortOption (Some octets) = IsShort octets

-- The octets of parts.

length-number : (wide : Bool) (n : ℕ) → length (number_octets wide n) ≤ 2
length-number true n = omega arith
length-number false n = omega arith

length-numbers : (wide : Bool) (numbers : List ℕ) → length (concat (map (number_octets wide) numbers)) ≤ 2 * length numbers
length-numbers wide [] = omega arith
length-numbers wide (n ∷ numbers) =
    omega (arith, length-append (number_octets wide n) (concat (map (number_octets wide) numbers)), length-number wide n, length-numbers wide numbers)

length-skips : (width behind before : ℕ) (parts : List (List ℕ)) → length (skips width behind before parts) ≡ length parts
length-skips width behind before [] = refl
length-skips width behind before (part ∷ parts) = omega (arith, length-skips width behind (before + length part) parts)

length-option_skip : (options : Option (List ℕ)) (before : ℕ) (part : List ℕ) → length (option_skip options before part) ≤ 1
length-option_skip None before part = omega arith
length-option_skip (Some names) before part = omega arith

few-variables : (rules : List VarRule) (values : List (List ℕ)) → length (variables rules values) ≤ length values
few-variables [] values = omega arith
few-variables (rule ∷ rules) [] = omega arith
few-variables (rule ∷ rules) (value ∷ values) = omega (arith, few-variables rules values)

length-variable : (rule : VarRule) (value : List ℕ) → IsShort value → length (variable rule value) ≤ 4_002
length-variable rule value short = omega (arith, short, length-append (number_octets (is_long rule) (length value)) value, length-number (is_long rule) (length value))

length-variables : (rules : List VarRule) (values : List (List ℕ)) → AllByRecursion IsShort values → length (concat (variables rules values)) ≤ 4_002 * length values
length-variables [] values short = omega arith
length-variables (rule ∷ rules) [] short = omega arith
length-variables (rule ∷ rules) (value ∷ values) short =
    omega (arith, length-append (variable rule value) (concat (variables rules values)), length-variable rule value short.0, length-variables rules values short.1)

length-given : (name : ℕ) (value : Option (List ℕ)) → IsShortOption value → length (given name value) ≤ 4_002
length-given name None short = omega arith
length-given name (Some value) short = omega (arith, short)

length-all_given : (names : List ℕ) (values : List (Option (List ℕ))) → AllByRecursion IsShortOption values → length (all_given names values) ≤ 4_002 * length values
length-all_given [] values short = omega arith
length-all_given (name ∷ names) [] short = omega arith
length-all_given (name ∷ names) (value ∷ values) short =
    omega (arith, length-append (given name value) (all_given names values), length-given name value short.0, length-all_given names values short.1)

length-ended : (octets : List ℕ) → length (ended octets) ≤ length octets + 1
length-ended [] = omega arith
length-ended (octet ∷ octets) = omega (arith, length-append octets (0 ∷ []))

length-optional_part : (options : Option (List ℕ)) (values : List (Option (List ℕ))) → AllByRecursion IsShortOption values
    → length (optional_part options values) ≤ 4_002 * length values + 1
length-optional_part None values short = omega arith
length-optional_part (Some names) values short = omega (arith, length-ended (all_given names values), length-all_given names values short)

-- The octets of a message.

pub record AreShort (values : Values) : Type 0 where
  pub fixed : IsShort values.fixed
  pub vars : AllByRecursion IsShort values.vars
  pub options : AllByRecursion IsShortOption values.options
  pub few_vars : length values.vars ≤ 3
  pub few_options : length values.options ≤ 5

length-pointers : (format : Format) (values : Values) → length values.vars ≤ 3 → length (pointers format values) ≤ 4
length-pointers format values few =
    let parts = variables format.vars values.vars in
    let behind = skips (pointer_width format.wide) (option_count format.options) 0 parts in
    let last = option_skip format.options (length (concat parts)) (optional_part format.options values.options) in
    omega (
      arith,
      few,
      length-append behind last,
      length-skips (pointer_width format.wide) (option_count format.options) 0 parts,
      length-option_skip format.options (length (concat parts)) (optional_part format.options values.options),
      few-variables format.vars values.vars,
    )

octets-carried : (format : Format) (values : Values) → AreShort values → length (octets_of format values) ≤ LONGEST_CARRIED
unfolding octets_of
octets-carried format values short =
    let numbers = concat (map (number_octets format.wide) (pointers format values)) in
    let parts = concat (variables format.vars values.vars) in
    let last = optional_part format.options values.options in
    omega (
      arith,
      short.fixed,
      short.few_vars,
      short.few_options,
      length-append values.fixed numbers,
      length-append (values.fixed ++ numbers) parts,
      length-append (values.fixed ++ numbers ++ parts) last,
      length-numbers format.wide (pointers format values),
      length-pointers format values short.few_vars,
      length-variables format.vars values.vars short.vars,
      length-optional_part format.options values.options short.options,
    )

-- the parts of a message that aren't of one length
abbrev pub HasShortParts : Message → Type 0
HasShortParts (Cr _ _ called _ calling body _ _) = IsShort called × IsShortOption calling × IsShortOption body
HasShortParts (Cc _ _ _ _ called body _) = IsShortOption called × IsShortOption body
HasShortParts (Cref _ _ called body _) = IsShortOption called × IsShortOption body
HasShortParts (Rlsd _ _ _ body _) = IsShortOption body
HasShortParts (Rlc _ _) = Unit {0}
HasShortParts (Dt1 _ _ body) = IsShort body
HasShortParts (Dt2 _ sequencing body) = (length sequencing ≤ 2) × IsShort body
HasShortParts (Ak _ _ _) = Unit {0}
HasShortParts (Udt _ called calling body) = IsShort called × IsShort calling × IsShort body
HasShortParts (Udts _ called calling body) = IsShort called × IsShort calling × IsShort body
HasShortParts (Ed _ body) = IsShort body
HasShortParts (Ea _) = Unit {0}
HasShortParts (Rsr _ _ _) = Unit {0}
HasShortParts (Rsc _ _) = Unit {0}
HasShortParts (Error _ _) = Unit {0}
HasShortParts (It _ _ _ sequencing _) = length sequencing ≤ 2
HasShortParts (Xudt _ _ called calling body segmentation _) = IsShort called × IsShort calling × IsShort body × IsShortOption segmentation
HasShortParts (Xudts _ _ called calling body segmentation _) = IsShort called × IsShort calling × IsShort body × IsShortOption segmentation
HasShortParts (Ludt _ _ called calling body segmentation _) = IsShort called × IsShort calling × IsShort body × IsShortOption segmentation
HasShortParts (Ludts _ _ called calling body segmentation _) = IsShort called × IsShort calling × IsShort body × IsShortOption segmentation

one : (x : Option ℕ) → IsShortOption (in_one x)
one None = tt
one (Some octet) = omega arith

none : IsShort []
none = omega arith

small : (fixed : List ℕ) (a b c : List ℕ) (d e f g h : Option (List ℕ)) → IsShort fixed → IsShort a → IsShort b → IsShort c
    → IsShortOption d → IsShortOption e → IsShortOption f → IsShortOption g → IsShortOption h
    → AreShort (record { fixed = fixed; vars = a ∷ b ∷ c ∷ []; options = d ∷ e ∷ f ∷ g ∷ h ∷ [] })
small fixed a b c d e f g h i j k l m n o p q = record {
  fixed = i;
  vars = (j, (k, (l, tt)));
  options = (m, (n, (o, (p, (q, tt)))));
  few_vars = omega arith;
  few_options = omega arith;
}

fixed-alone : (fixed : List ℕ) → IsShort fixed → AreShort (record { fixed = fixed; vars = [] ∷ [] ∷ [] ∷ []; options = None ∷ None ∷ None ∷ None ∷ None ∷ [] })
fixed-alone fixed short = small fixed [] [] [] None None None None None short none none none tt tt tt tt tt

parts-short : (m : Message) → HasShortParts m → AreShort (values_of_message m)
parts-short (Cr slr class called credit calling body hop importance) h =
    small _ called [] [] (in_one credit) calling body (in_one hop) (in_one importance) (omega arith) h.0 none none (one credit) h.1 h.2 (one hop) (one importance)
parts-short (Cc dlr slr class credit called body importance) h =
    small _ [] [] [] (in_one credit) called body (in_one importance) None (omega arith) none none none (one credit) h.0 h.1 (one importance) tt
parts-short (Cref dlr cause called body importance) h =
    small _ [] [] [] called body (in_one importance) None None (omega arith) none none none h.0 h.1 (one importance) tt tt
parts-short (Rlsd dlr slr cause body importance) h =
    small _ [] [] [] body (in_one importance) None None None (omega arith) none none none h (one importance) tt tt tt
parts-short (Rlc dlr slr) h = fixed-alone _ (omega arith)
parts-short (Dt1 dlr segmenting body) h =
    small _ body [] [] None None None None None (omega arith) h none none tt tt tt tt tt
parts-short (Dt2 dlr sequencing body) h =
    small _ body [] [] None None None None None (omega (arith, h.0)) h.1 none none tt tt tt tt tt
parts-short (Ak dlr receive credit) h = fixed-alone _ (omega arith)
parts-short (Udt class called calling body) h =
    small _ called calling body None None None None None (omega arith) h.0 h.1 h.2 tt tt tt tt tt
parts-short (Udts cause called calling body) h =
    small _ called calling body None None None None None (omega arith) h.0 h.1 h.2 tt tt tt tt tt
parts-short (Ed dlr body) h =
    small _ body [] [] None None None None None (omega arith) h none none tt tt tt tt tt
parts-short (Ea dlr) h = fixed-alone _ (omega arith)
parts-short (Rsr dlr slr cause) h = fixed-alone _ (omega arith)
parts-short (Rsc dlr slr) h = fixed-alone _ (omega arith)
parts-short (Error dlr cause) h = fixed-alone _ (omega arith)
parts-short (It dlr slr class sequencing credit) h = fixed-alone _ (omega (arith, h, length-append sequencing (credit ∷ [])))
parts-short (Xudt class hop called calling body segmentation importance) h =
    small _ called calling body segmentation (in_one importance) None None None (omega arith) h.0 h.1 h.2 h.3 (one importance) tt tt tt
parts-short (Xudts cause hop called calling body segmentation importance) h =
    small _ called calling body segmentation (in_one importance) None None None (omega arith) h.0 h.1 h.2 h.3 (one importance) tt tt tt
parts-short (Ludt class hop called calling body segmentation importance) h =
    small _ called calling body segmentation (in_one importance) None None None (omega arith) h.0 h.1 h.2 h.3 (one importance) tt tt tt
parts-short (Ludts cause hop called calling body segmentation importance) h =
    small _ called calling body segmentation (in_one importance) None None None (omega arith) h.0 h.1 h.2 h.3 (one importance) tt tt tt

pub spelled : (m : Message) → HasShortParts m → length (spelling_of m) ≤ LONGEST_CARRIED
unfolding spelling_of
spelled m short = octets-carried (format_in m) (values_of_message m) (parts-short m short)
