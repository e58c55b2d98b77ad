-- What octets are read as has octets, and a fault of theirs names a small number.
use Rattle.std.proofs.Common.{ℕ, zero, suc, ◌+◌, ◌*◌, ◌<◌, ◌≤◌, ◌==◌, ◌||◌, ◌&&◌, nat_lt, nat_le, not, Bool, true, false, List, [], ◌∷◌, length, drop, map, slice_get, slice_index_or, Option, Some, None, Ok, Err, arith}
use Rattle.std.specs.Prelude.{IfSome, MatchResult}
use Rattle.std.specs.List.{AllByRecursion, list_any, filter}
use Rattle.std.specs.declared.result.Result.{Result}
use Rattle.relay_base.specs.Giving.{◌>>=◌}
use Rattle.relay_base.specs.declared.words.ReadFault.{ReadFault}
use Rattle.relay_base.specs.declared.words.ReadFault.TheVariants.{Empty, Short, PointerOut, ValueLength}
use Rattle.q713_shape.specs.declared.rules.VarRule.{VarRule}
use Rattle.q713_shape.specs.Format.{Format, Values, pointer_width, is_long, length_width, is_length_of, is_option_length, place_behind_pointers}
use Rattle.q713_shape.specs.Reading.{number_at, target_of, value_at, variable_at, variables_at, filled_variables, Item, item, cut, items_in, first_fault, first_value, unless_fault, options_among, options_in, options_at, values_of}
use Rattle.q713_codec.specs.Formats.{cr_format, cc_format, cref_format, rlsd_format, rlc_format, dt1_format, dt2_format, ak_format, udt_format, udts_format, ed_format, ea_format, rsr_format, rsc_format, err_format, it_format, xudt_format, xudts_format, ludt_format, ludts_format}
use Rattle.q713_codec.specs.Messages.{one_octet, four_octets, cr_of, cc_of, cref_of, rlsd_of, rlc_of, dt1_of, dt2_of, ak_of, udt_of, udts_of, ed_of, ea_of, rsr_of, rsc_of, err_of, it_of, xudt_of, xudts_of, ludt_of, ludts_of}
use Rattle.q713_codec.specs.Reading.{Kind, kind_of, kinds, kind_at, message_as, message_by, reading_of}
use Rattle.printable_law.specs.OctetLaw.{IsOctet, AreOctets, HasOctets, IsSmallFault}
use Rattle.printable_law.proofs.Lists.{either, all-filled, all-take, all-drop, all-at, octet-at}
use Rattle.printable_law.proofs.Spelling.{HaveOctets}

-- this is said of what was read, or a fault is small
abbrev pub ReadsAs : {A : Type 0} → (A → Type 0) → Result A ReadFault → Type 0
ReadsAs P r = MatchResult r P IsSmallFault

then-reads : {A B : Type 0} (P : A → Type 0) (Q : B → Type 0) (r : Result A ReadFault) (f : A → Result B ReadFault) → ReadsAs P r → ((x : A) → P x → ReadsAs Q (f x))
    → ReadsAs Q (r >>= f)
then-reads P Q (Ok x) f first next = next x first
then-reads P Q (Err fault) f first next = first

abbrev AreOptional : Option (List ℕ) → Type 0
AreOptional x = IfSome x AreOctets

-- The variable parameters.

abbrev AreNamed : List VarRule → Type 0
AreNamed rules = AllByRecursion (λ (rule : VarRule). IsOctet rule.name) rules

value-octets : (b : List ℕ) (rule : VarRule) (place : ℕ) → AreOctets b → IsOctet rule.name → ReadsAs AreOctets (value_at b rule place)
unfolding value_at
value-octets b rule place are name =
    let size : ℕ = number_at (is_long rule) b place in
    let start : ℕ = place + length_width rule in
    either (ReadsAs AreOctets) (nat_lt (length b) (start + size)) (Err Short) _ tt
    (either (ReadsAs AreOctets) (not (is_length_of rule size)) (Err (ValueLength rule.name)) _ name
    (all-take IsOctet size (drop start b) (all-drop IsOctet start b are)))

variable-octets : (wide : Bool) (b : List ℕ) (place : ℕ) (rule : VarRule) → AreOctets b → IsOctet rule.name → place < 65_536
    → ReadsAs AreOctets (variable_at wide b place rule)
unfolding variable_at
variable-octets wide b place rule are name small =
    either (ReadsAs AreOctets) (number_at wide b place == 0 || nat_le (length b) (target_of wide b place)) (Err (PointerOut place)) _ small
    (value-octets b rule (target_of wide b place) are name)

width : (wide : Bool) → pointer_width wide ≤ 2
width true = omega arith
width false = omega arith

variables-octets : (wide : Bool) (b : List ℕ) (place : ℕ) (rules : List VarRule) → AreOctets b → AreNamed rules → place + 2 * length rules < 65_536
    → ReadsAs (AllByRecursion AreOctets) (variables_at wide b place rules)
unfolding variables_at
variables-octets wide b place [] are names small = tt
variables-octets wide b place (rule ∷ rules) are names small =
    then-reads AreOctets (AllByRecursion AreOctets) (variable_at wide b place rule) _ (variable-octets wide b place rule are names.0 (omega (arith, small))) (λ first f.
    then-reads (AllByRecursion AreOctets) (AllByRecursion AreOctets) (variables_at wide b (place + pointer_width wide) rules) _
    (variables-octets wide b (place + pointer_width wide) rules are names.1 (omega (arith, small, width wide)))
    (λ rest r. (f, r)))

-- The optional parameters.

abbrev IsItem : Item → Type 0
IsItem (item name value) = IsOctet name × AreOctets value
IsItem cut = Unit {0}

items-octets : (n : ℕ) (b : List ℕ) → AreOctets b → AllByRecursion IsItem (items_in n b)
items-octets zero b are = tt
items-octets (suc n) [] are = tt
items-octets (suc n) (name ∷ []) are = either (AllByRecursion IsItem) (name == 0) [] (cut ∷ []) tt (tt, tt)
items-octets (suc n) (name ∷ size ∷ rest) are =
    either (AllByRecursion IsItem) (name == 0) [] _ tt
    (either (AllByRecursion IsItem) (nat_lt (length rest) size) (cut ∷ []) _ (tt, tt)
    ((are.0, all-take IsOctet size rest are.1.1), items-octets n (drop size rest) (all-drop IsOctet size rest are.1.1)))

fault-small : (names : List ℕ) (items : List Item) → AllByRecursion IsItem items → IfSome (first_fault names items) IsSmallFault
fault-small names [] all = tt
fault-small names (cut ∷ items) all = tt
fault-small names (item name value ∷ items) all =
    either (λ (fault : Option ReadFault). IfSome fault IsSmallFault) (list_any (λ n. n == name) names && not (is_option_length name (length value))) (Some (ValueLength name)) _
    all.0.0
    (fault-small (filter (λ n. not (n == name)) names) items all.1)

first-octets : (items : List Item) (name : ℕ) → AllByRecursion IsItem items → AreOptional (first_value items name)
first-octets [] name all = tt
first-octets (cut ∷ items) name all = tt
first-octets (item n value ∷ items) name all = either AreOptional (name == n) (Some value) (first_value items name) all.0.1 (first-octets items name all.1)

firsts-octets : (items : List Item) (names : List ℕ) → AllByRecursion IsItem items → AllByRecursion AreOptional (map (first_value items) names)
firsts-octets items [] all = tt
firsts-octets items (name ∷ names) all = (first-octets items name all, firsts-octets items names all)

unless-reads : {A : Type 0} (P : A → Type 0) (fault : Option ReadFault) (x : A) → IfSome fault IsSmallFault → P x → ReadsAs P (unless_fault fault x)
unless-reads P None x small f = f
unless-reads P (Some fault) x small f = small

among-octets : (names : List ℕ) (items : List Item) → AllByRecursion IsItem items → ReadsAs (AllByRecursion AreOptional) (options_among names items)
among-octets names items all =
    unless-reads (AllByRecursion AreOptional) (first_fault names items) _ (fault-small names items all)
    (all-filled AreOptional 5 None (map (first_value items) names) tt (firsts-octets items names all))

options-octets : (wide : Bool) (b : List ℕ) (place : ℕ) (names : Option (List ℕ)) → AreOctets b → place < 65_536
    → ReadsAs (AllByRecursion AreOptional) (options_at wide b place names)
unfolding options_at options_in
options-octets wide b place None are small = among-octets [] [] tt
options-octets wide b place (Some names) are small =
    let rest : List ℕ = drop (target_of wide b place) b in
    either (ReadsAs (AllByRecursion AreOptional)) (number_at wide b place == 0) (options_among names []) _ (among-octets names [] tt)
    (either (ReadsAs (AllByRecursion AreOptional)) (nat_lt (length b) (target_of wide b place)) (Err (PointerOut place)) _ small
    (among-octets names (items_in (length rest) rest) (items-octets (length rest) rest (all-drop IsOctet (target_of wide b place) b are))))

-- The values of a message.

-- the names of a format are octets, and its fixed part is no longer than this
pub record IsSmallFormat (format : Format) : Type 0 where
  pub fixed : length format.fixed ≤ 100
  pub vars : length format.vars ≤ 100
  pub names : AreNamed format.vars

values-octets : (format : Format) (b : List ℕ) → IsSmallFormat format → AreOctets b → ReadsAs HaveOctets (values_of format b)
unfolding values_of
values-octets format b small are =
    let place : ℕ = 1 + length format.fixed in
    let next : ℕ = place + pointer_width format.wide * length format.vars in
    let near : next < 65_536 = next-near format.wide (length format.fixed) (length format.vars) small.fixed small.vars in
    either (ReadsAs HaveOctets) (length b == 0) (Err Empty) _ tt
    (either (ReadsAs HaveOctets) (nat_lt (length b) (place_behind_pointers format)) (Err Short) _ tt
    (then-reads (AllByRecursion AreOctets) HaveOctets (filled_variables format.wide b place format.vars) _
    (then-reads (AllByRecursion AreOctets) (AllByRecursion AreOctets) (variables_at format.wide b place format.vars) _
    (variables-octets format.wide b place format.vars are small.names (omega (arith, small.fixed, small.vars)))
    (λ vars all. all-filled AreOctets 3 [] vars tt all)) (λ vars all.
    then-reads (AllByRecursion AreOptional) HaveOctets (options_at format.wide b next format.options) _ (options-octets format.wide b next format.options are near) (λ options o. record {
      fixed = all-take IsOctet (length format.fixed) (drop 1 b) (all-drop IsOctet 1 b are);
      vars = all;
      options = o;
    }))))
  where
    next-near : (wide : Bool) (fixed vars : ℕ) → fixed ≤ 100 → vars ≤ 100 → 1 + fixed + pointer_width wide * vars < 65_536
    next-near true fixed vars f v = omega (arith, f, v)
    next-near false fixed vars f v = omega (arith, f, v)

-- The messages of these values.

one : (x : Option (List ℕ)) → AreOptional x → IfSome (one_octet x) IsOctet
one None are = tt
one (Some []) are = tt
one (Some (octet ∷ [])) are = are.0
one (Some (a ∷ b ∷ more)) are = tt

four : (x : Option (List ℕ)) → AreOptional x → AreOptional (four_octets x)
four None are = tt
four (Some []) are = tt
four (Some (a ∷ [])) are = tt
four (Some (a ∷ b ∷ [])) are = tt
four (Some (a ∷ b ∷ c ∷ [])) are = tt
four (Some (a ∷ b ∷ c ∷ d ∷ [])) are = are
four (Some (a ∷ b ∷ c ∷ d ∷ e ∷ more)) are = tt

fixed-at : (values : Values) (place : ℕ) → HaveOctets values → IsOctet (slice_index_or values.fixed place 0)
fixed-at values place have = octet-at values.fixed place have.fixed

variable-at : (values : Values) (place : ℕ) → HaveOctets values → AreOctets (slice_index_or values.vars place [])
variable-at values place have = all-at AreOctets values.vars place [] tt have.vars

optional-at : (values : Values) (place : ℕ) → HaveOctets values → AreOptional (slice_index_or values.options place None)
optional-at values place have = all-at AreOptional values.options place None tt have.options

one-at : (values : Values) (place : ℕ) → HaveOctets values → IfSome (one_octet (slice_index_or values.options place None)) IsOctet
one-at values place have = one (slice_index_or values.options place None) (optional-at values place have)

four-at : (values : Values) (place : ℕ) → HaveOctets values → AreOptional (four_octets (slice_index_or values.options place None))
four-at values place have = four (slice_index_or values.options place None) (optional-at values place have)

-- a type of message has a small format, and its message has octets where the values do
abbrev Reads : Kind → Type 0
Reads kind = IsSmallFormat kind.format × ((values : Values) → HaveOctets values → HasOctets (kind.message values))

small-format : (format : Format) → length format.fixed ≤ 100 → length format.vars ≤ 100 → AreNamed format.vars → IsSmallFormat format
small-format format fixed vars names = record { fixed = fixed; vars = vars; names = names }

cr-reads : Reads (kind_of cr_format cr_of)
cr-reads = (small-format cr_format (omega arith) (omega arith) (omega arith, tt), λ v h. (fixed-at v 3 h, variable-at v 0 h, one-at v 0 h, optional-at v 1 h, optional-at v 2 h, one-at v 3 h, one-at v 4 h))

cc-reads : Reads (kind_of cc_format cc_of)
cc-reads = (small-format cc_format (omega arith) (omega arith) tt, λ v h. (fixed-at v 6 h, one-at v 0 h, optional-at v 1 h, optional-at v 2 h, one-at v 3 h))

cref-reads : Reads (kind_of cref_format cref_of)
cref-reads = (small-format cref_format (omega arith) (omega arith) tt, λ v h. (fixed-at v 3 h, optional-at v 0 h, optional-at v 1 h, one-at v 2 h))

rlsd-reads : Reads (kind_of rlsd_format rlsd_of)
rlsd-reads = (small-format rlsd_format (omega arith) (omega arith) tt, λ v h. (fixed-at v 6 h, optional-at v 0 h, one-at v 1 h))

rlc-reads : Reads (kind_of rlc_format rlc_of)
rlc-reads = (small-format rlc_format (omega arith) (omega arith) tt, λ v h. tt)

dt1-reads : Reads (kind_of dt1_format dt1_of)
dt1-reads = (small-format dt1_format (omega arith) (omega arith) (omega arith, tt), λ v h. (fixed-at v 3 h, variable-at v 0 h))

dt2-reads : Reads (kind_of dt2_format dt2_of)
dt2-reads = (small-format dt2_format (omega arith) (omega arith) (omega arith, tt), λ v h. ((fixed-at v 3 h, (fixed-at v 4 h, tt)), variable-at v 0 h))

ak-reads : Reads (kind_of ak_format ak_of)
ak-reads = (small-format ak_format (omega arith) (omega arith) tt, λ v h. (fixed-at v 3 h, fixed-at v 4 h))

udt-reads : Reads (kind_of udt_format udt_of)
udt-reads = (small-format udt_format (omega arith) (omega arith) (omega arith, (omega arith, (omega arith, tt))), λ v h. (fixed-at v 0 h, variable-at v 0 h, variable-at v 1 h, variable-at v 2 h))

udts-reads : Reads (kind_of udts_format udts_of)
udts-reads = (small-format udts_format (omega arith) (omega arith) (omega arith, (omega arith, (omega arith, tt))), λ v h. (fixed-at v 0 h, variable-at v 0 h, variable-at v 1 h, variable-at v 2 h))

ed-reads : Reads (kind_of ed_format ed_of)
ed-reads = (small-format ed_format (omega arith) (omega arith) (omega arith, tt), λ v h. variable-at v 0 h)

ea-reads : Reads (kind_of ea_format ea_of)
ea-reads = (small-format ea_format (omega arith) (omega arith) tt, λ v h. tt)

rsr-reads : Reads (kind_of rsr_format rsr_of)
rsr-reads = (small-format rsr_format (omega arith) (omega arith) tt, λ v h. fixed-at v 6 h)

rsc-reads : Reads (kind_of rsc_format rsc_of)
rsc-reads = (small-format rsc_format (omega arith) (omega arith) tt, λ v h. tt)

err-reads : Reads (kind_of err_format err_of)
err-reads = (small-format err_format (omega arith) (omega arith) tt, λ v h. fixed-at v 3 h)

it-reads : Reads (kind_of it_format it_of)
it-reads = (small-format it_format (omega arith) (omega arith) tt, λ v h. (fixed-at v 6 h, (fixed-at v 7 h, (fixed-at v 8 h, tt)), fixed-at v 9 h))

xudt-reads : Reads (kind_of xudt_format xudt_of)
xudt-reads = (small-format xudt_format (omega arith) (omega arith) (omega arith, (omega arith, (omega arith, tt))), λ v h. (fixed-at v 0 h, fixed-at v 1 h, variable-at v 0 h, variable-at v 1 h, variable-at v 2 h, four-at v 0 h, one-at v 1 h))

xudts-reads : Reads (kind_of xudts_format xudts_of)
xudts-reads = (small-format xudts_format (omega arith) (omega arith) (omega arith, (omega arith, (omega arith, tt))), λ v h. (fixed-at v 0 h, fixed-at v 1 h, variable-at v 0 h, variable-at v 1 h, variable-at v 2 h, four-at v 0 h, one-at v 1 h))

ludt-reads : Reads (kind_of ludt_format ludt_of)
ludt-reads = (small-format ludt_format (omega arith) (omega arith) (omega arith, (omega arith, (omega arith, tt))), λ v h. (fixed-at v 0 h, fixed-at v 1 h, variable-at v 0 h, variable-at v 1 h, variable-at v 2 h, four-at v 0 h, one-at v 1 h))

ludts-reads : Reads (kind_of ludts_format ludts_of)
ludts-reads = (small-format ludts_format (omega arith) (omega arith) (omega arith, (omega arith, (omega arith, tt))), λ v h. (fixed-at v 0 h, fixed-at v 1 h, variable-at v 0 h, variable-at v 1 h, variable-at v 2 h, four-at v 0 h, one-at v 1 h))

-- of each type
all-read : AllByRecursion Reads kinds
all-read = (cr-reads, (cc-reads, (cref-reads, (rlsd-reads, (rlc-reads, (dt1-reads, (dt2-reads, (ak-reads, (udt-reads, (udts-reads, (ed-reads, (ea-reads, (rsr-reads, (rsc-reads, (err-reads, (it-reads, (xudt-reads, (xudts-reads, (ludt-reads, (ludts-reads, tt))))))))))))))))))))

reads-at : (rest : List Kind) → AllByRecursion Reads rest → (n : ℕ) → IfSome (slice_get rest n) Reads
reads-at [] all n = tt
reads-at (kind ∷ rest) all zero = all.0
reads-at (kind ∷ rest) all (suc n) = reads-at rest all.1 n

reads-kind : (octet : ℕ) → IfSome (kind_at octet) Reads
reads-kind zero = tt
reads-kind (suc n) = reads-at kinds all-read n

message-reads : (kind : Option Kind) (octet : ℕ) (b : List ℕ) → IfSome kind Reads → IsOctet octet → AreOctets b → ReadsAs HasOctets (message_by kind octet b)
unfolding message_as
message-reads None octet b reads small are = small
message-reads (Some kind) octet b reads small are =
    then-reads HaveOctets HasOctets (values_of kind.format b) _ (values-octets kind.format b reads.0 are) reads.1

pub octets-read : (octets : List ℕ) → AreOctets octets → ReadsAs HasOctets (reading_of octets)
unfolding reading_of
octets-read [] are = tt
octets-read (octet ∷ rest) are = message-reads (kind_at octet) octet (octet ∷ rest) (reads-kind octet) are.0 are
