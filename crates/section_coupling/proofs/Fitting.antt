-- Whether CR may be written as it goes on, by the lengths of its parameters.
use Rattle.std.proofs.Common.{◌≡◌, ℕ, suc, ◌+◌, ◌*◌, ◌/◌, ◌%◌, ◌==◌, ◌&&◌, nat_le, Bool, true, false, List, [], ◌∷◌, ◌++◌, length, refl, sym, ap, ◌∙◌, arith, length-append, le-leb, if◌then◌else◌}
use Rattle.std.specs.Prelude.{Option, Some, None}
use Rattle.q713_codec.specs.declared.longest.TheConstants.{LONGEST}
use Rattle.relay_base.specs.declared.limits.TheConstants.{GREATEST_OCTET, LONGEST_PARAMETER}
use Rattle.sccp_address.specs.declared.address.Selector.{Selector}
use Rattle.sccp_address.specs.Form.{Form}
use Rattle.sccp_address.specs.Digits.{digit_octets}
use Rattle.sccp_address.specs.Titles.{lead_of}
use Rattle.sccp_address.specs.Spelling.{point_octets, ssn_octets, lead_octets, title_octets, address_spelling}
use Rattle.sccp_address.proofs.DigitLemmas.{length-digit_octets}
use Rattle.plant_core.specs.declared.answer.Rewrite.{Rewrite}
use Rattle.q713_shape.specs.Writing.{given, all_given, ended, is_option, are_in_range, octets_of, optional_skip_of}
use Rattle.q713_codec.specs.Messages.{in_one}
use Rattle.q713_codec.specs.Writing.{spelling_of, is_in_range, InRange}
use Rattle.q713_codec.specs.declared.message.Message.TheVariants.{Cr}
use Rattle.plant_core.specs.Rewriting.{called_onward}
use Rattle.section_model.specs.Line.{credit_of}
use Rattle.section_model.specs.Opening.{Wanted, onward, fits}
use Rattle.section_coupling.specs.Inner.Sizes.{option_size, octet_size, options_size, part_size, are_fitting}

-- the length of an address
pub length_spelling : (a : Form) → length (address_spelling a) ≡ 1 + length (point_octets a.point) + length (ssn_octets a.ssn) + length (title_octets a.title)
unfolding address_spelling
length_spelling a =
    omega (arith, length-append (point_octets a.point ++ ssn_octets a.ssn) (title_octets a.title), length-append (point_octets a.point) (ssn_octets a.ssn))

pub length_lead : (s : Selector) (odd : Bool) → length (lead_octets s odd) ≡ lead_of s.gti
length_lead s odd = by_test (s.gti == 1) (s.gti == 3)
  where
    by_test : (first second : Bool) → length (if first then (128 * (if odd then 1 else 0) + s.nai) ∷ [] else if second then s.tt ∷ (16 * s.np + (if odd then 1 else 2)) ∷ [] else s.tt ∷ (16 * s.np + (if odd then 1 else 2)) ∷ s.nai ∷ []) ≡ (if first then 1 else if second then 2 else 3)
    by_test true second = refl
    by_test false true = refl
    by_test false false = refl

pub length_digits : (digits : List ℕ) → length (digit_octets digits) ≡ (length digits + 1) / 2
length_digits digits = omega (arith, length-digit_octets digits)

-- the optional parameters of CR, in their order
abbrev parameters : Option ℕ → Option (List ℕ) → Option (List ℕ) → Option ℕ → Option ℕ → List ℕ
parameters credit calling body hop importance =
    all_given (0x09 ∷ 0x04 ∷ 0x0F ∷ 0x11 ∷ 0x12 ∷ []) (in_one credit ∷ calling ∷ body ∷ in_one hop ∷ in_one importance ∷ [])

length-given : (name : ℕ) (x : Option (List ℕ)) → length (given name x) ≡ option_size x
length-given name None = refl
length-given name (Some octets) = omega arith

length-one : (name : ℕ) (x : Option ℕ) → length (given name (in_one x)) ≡ octet_size x
length-one name None = refl
length-one name (Some octet) = refl

five : (a b c d e : List ℕ) (k l m n o : ℕ) → length a ≡ k → length b ≡ l → length c ≡ m → length d ≡ n → length e ≡ o
    → length (a ++ (b ++ (c ++ (d ++ (e ++ []))))) ≡ k + l + m + n + o
five a b c d e k l m n o f g h i j =
    omega (arith, f, g, h, i, j, length-append a (b ++ (c ++ (d ++ (e ++ [])))), length-append b (c ++ (d ++ (e ++ []))), length-append c (d ++ (e ++ [])), length-append d (e ++ []), length-append {A = ℕ} e [])

length-parameters : (credit : Option ℕ) (calling body : Option (List ℕ)) (hop importance : Option ℕ) →
    length (parameters credit calling body hop importance) ≡ octet_size credit + option_size calling + option_size body + octet_size hop + octet_size importance
length-parameters credit calling body hop importance =
    five (given 0x09 (in_one credit)) (given 0x04 calling) (given 0x0F body) (given 0x11 (in_one hop)) (given 0x12 (in_one importance)) _ _ _ _ _
    (length-one 0x09 credit) (length-given 0x04 calling) (length-given 0x0F body) (length-one 0x11 hop) (length-one 0x12 importance)

not-zero : (n : ℕ) → (suc n == 0) ≡ false
not-zero n = grind arith

length-ended : (octets : List ℕ) → length (ended octets) ≡ part_size (length octets)
length-ended [] = refl
length-ended (octet ∷ octets) = rw (not-zero (length octets)) (omega (arith, length-append octets (0 ∷ [])))

-- the pointer of the optional part
skip : (before : ℕ) (octets : List ℕ) → optional_skip_of before (length (ended octets)) ≡ (if length octets == 0 then 0 else 1 + before)
skip before [] = refl
skip before (octet ∷ octets) = rw (not-zero (length octets), not-zero (length (octets ++ 0 ∷ []))) refl

one : (name : ℕ) (x : Option ℕ) → is_option name (Some (0 ∷ [])) ≡ true → is_option name (in_one x) ≡ true
one name None h = refl
one name (Some octet) h = h

-- the tests of CR's lengths and pointers
tests : (z x a b c d e q : Bool) → z ≡ true → a ≡ true → d ≡ true → e ≡ true
    → ((((z && x) && true) && (a && (b && (c && (d && (e && true)))))) && (true && (q && true))) ≡ (x && b && c && q)
tests z x a b c d e q y f g h = rw (y, f, g, h) (by_cases x b c q)
  where
    by_cases : (x b c q : Bool) → (((x && true) && (true && (b && (c && (true && (true && true)))))) && (true && (q && true))) ≡ (x && b && c && q)
    by_cases true true true true = refl
    by_cases true true true false = refl
    by_cases true true false q = refl
    by_cases true false c q = refl
    by_cases false b c q = refl

in_range-by : (mine class : ℕ) (called : List ℕ) (credit : Option ℕ) (calling body : Option (List ℕ)) (hop importance : Option ℕ) →
    is_in_range (Cr mine class called credit calling body hop importance)
    ≡ (nat_le (length called) LONGEST_PARAMETER && is_option 0x04 calling && is_option 0x0F body && nat_le (optional_skip_of (length ((length called % 256 ∷ called) ++ [])) (length (ended (parameters credit calling body hop importance)))) GREATEST_OCTET)
unfolding is_in_range are_in_range
in_range-by mine class called credit calling body hop importance =
    tests (nat_le 0 (length called)) (nat_le (length called) LONGEST_PARAMETER) (is_option 0x09 (in_one credit)) (is_option 0x04 calling) (is_option 0x0F body) (is_option 0x11 (in_one hop)) (is_option 0x12 (in_one importance)) _
    (le-leb 0 (length called) (omega arith)) (one 0x09 credit refl) (one 0x11 hop refl) (one 0x12 importance refl)

length-cr : (mine class : ℕ) (called : List ℕ) (credit : Option ℕ) (calling body : Option (List ℕ)) (hop importance : Option ℕ) →
    length (spelling_of (Cr mine class called credit calling body hop importance)) ≡ 8 + length called + length (ended (parameters credit calling body hop importance))
unfolding spelling_of octets_of
length-cr mine class called credit calling body hop importance =
    omega (arith, length-append called [], length-append called (ended (parameters credit calling body hop importance)), length-append (called ++ []) (ended (parameters credit calling body hop importance)))

length-variable : (n : ℕ) (called : List ℕ) → length ((n ∷ called) ++ []) ≡ 1 + length called
length-variable n called = omega (arith, length-append called [])

pointer : (before options size : ℕ) (octets : List ℕ) → length octets ≡ options → before ≡ 1 + size
    → optional_skip_of before (length (ended octets)) ≡ (if options == 0 then 0 else 2 + size)
pointer before options size octets e f =
    let two : 1 + before ≡ 2 + size = omega (arith, f) in
    skip before octets ∙ ap (λ n. if n == 0 then 0 else 1 + before) e ∙ ap (λ n. if options == 0 then 0 else n) two

rearranged : (x b c q r : Bool) → ((x && b && c && q) && r) ≡ (b && c && (x && q && r))
rearranged true true true true r = refl
rearranged true true true false r = refl
rearranged true true false q r = refl
rearranged true false c q r = refl
rearranged false true true q r = refl
rearranged false true false q r = refl
rearranged false false c q r = refl

by-lengths : (x b c q r s t : Bool) → s ≡ (x && b && c && q) → t ≡ r → (s && t) ≡ (b && c && (x && q && r))
by-lengths x b c q r s t e f = rw (e, f) (rearranged x b c q r)

fits-message : (mine class : ℕ) (called : List ℕ) (credit : Option ℕ) (calling body : Option (List ℕ)) (hop importance : Option ℕ) (size options : ℕ) → size ≡ length called
    → octet_size credit + option_size calling + option_size body + octet_size hop + octet_size importance ≡ options
    → (is_in_range (Cr mine class called credit calling body hop importance) && nat_le (length (spelling_of (Cr mine class called credit calling body hop importance))) LONGEST)
    ≡ (is_option 0x04 calling && is_option 0x0F body && are_fitting size options)
fits-message mine class called credit calling body hop importance size options e f =
    let given = parameters credit calling body hop importance in
    let count : length given ≡ options = length-parameters credit calling body hop importance ∙ f in
    let behind : optional_skip_of (length ((length called % 256 ∷ called) ++ [])) (length (ended given)) ≡ (if options == 0 then 0 else 2 + length called) =
    pointer _ options (length called) given count (length-variable (length called % 256) called) in
    let whole : length (spelling_of (Cr mine class called credit calling body hop importance)) ≡ 8 + length called + part_size options =
    length-cr mine class called credit calling body hop importance ∙ ap (λ n. 8 + length called + n) (length-ended given ∙ ap part_size count) in
    rw e (by-lengths (nat_le (length called) LONGEST_PARAMETER) (is_option 0x04 calling) (is_option 0x0F body) (nat_le (if options == 0 then 0 else 2 + length called) GREATEST_OCTET) (nat_le (8 + length called + part_size options) LONGEST) _ _
    (in_range-by mine class called credit calling body hop importance ∙ ap (λ n. nat_le (length called) LONGEST_PARAMETER && is_option 0x04 calling && is_option 0x0F body && nat_le n GREATEST_OCTET) behind)
    (ap (λ n. nat_le n LONGEST) whole))

-- CR fits by the lengths of its parameters
fits-by : (w : Wanted) (rewrite : Rewrite) (hop : Option ℕ) (size : ℕ) → size ≡ length (called_onward rewrite w.called)
    → fits w rewrite hop ≡ (is_option 0x04 w.calling && is_option 0x0F w.body && are_fitting size (options_size w hop))
fits-by w rewrite hop size e =
    fits-message 0 w.class (called_onward rewrite w.called) (credit_of w.class w.credit) w.calling w.body hop w.importance size (options_size w hop) e refl

-- what fits from one reference may be written from another
pub fits-from : (w : Wanted) (rewrite : Rewrite) (hop : Option ℕ) (mine : ℕ) → fits w rewrite hop ≡ true → InRange (onward w rewrite hop mine)
unfolding is_in_range are_in_range
fits-from w rewrite hop mine e = first-of (is_in_range (onward w rewrite hop mine)) _ e
  where
    first-of : (a b : Bool) → (a && b) ≡ true → a ≡ true
    first-of true b h = refl
    first-of false b h = cc

-- by the tests of the calling address and the data, and then by the sizes
barred : (a b c : Bool) → (a && b) ≡ false → false ≡ (a && b && c)
barred true true c e = absurd (cc)
barred true false c e = refl
barred false b c e = refl

allowed : (a b c : Bool) → (a && b) ≡ true → c ≡ (a && b && c)
allowed true true c e = refl
allowed true false c e = absurd (cc)
allowed false b c e = absurd (cc)

pub fits-barred : (w : Wanted) (rewrite : Rewrite) (hop : Option ℕ) → (is_option 0x04 w.calling && is_option 0x0F w.body) ≡ false → false ≡ fits w rewrite hop
fits-barred w rewrite hop e =
    barred (is_option 0x04 w.calling) (is_option 0x0F w.body) (are_fitting (length (called_onward rewrite w.called)) (options_size w hop)) e ∙ sym (fits-by w rewrite hop (length (called_onward rewrite w.called)) refl)

pub fits-allowed : (w : Wanted) (rewrite : Rewrite) (hop : Option ℕ) (size : ℕ) → (is_option 0x04 w.calling && is_option 0x0F w.body) ≡ true → size ≡ length (called_onward rewrite w.called)
    → are_fitting size (options_size w hop) ≡ fits w rewrite hop
fits-allowed w rewrite hop size e f =
    allowed (is_option 0x04 w.calling) (is_option 0x0F w.body) (are_fitting size (options_size w hop)) e ∙ sym (fits-by w rewrite hop size f)
