-- Every address in form reads back as itself.
use Rattle.std.proofs.Common.{◌≡◌, ℕ, suc, ◌+◌, ◌-◌, ◌*◌, ◌/◌, ◌%◌, ◌<◌, List, [], ◌∷◌, ◌++◌, length, drop, Bool, true, false, not, nat_eq, nat_lt, if◌then◌else◌, IsTrue, Option, Some, None, Ok, refl, sym, ap, append_assoc, ◌∙◌, arith, subst, inl, inr}
use Rattle.std.specs.Prelude.{◌==◌, ◌&&◌, ◌||◌, is_some, IfSome}
use Rattle.std.proofs.lemmas.Bool.{ne_eqb, le-ltb, le-leb, eqb-true, ltb-true}
use Rattle.std.proofs.lemmas.Bool.Decides.{eqb_tells}
use Rattle.relay_base.specs.declared.limits.TheConstants.{MOST_DIGITS, POINT_CODES}
use Rattle.sccp_address.specs.declared.address.TheConstants.{NATURES, NUMBERING_PLANS, TITLE_INDICATORS}
use Rattle.sccp_address.specs.declared.address.Selector.{Selector}
use Rattle.sccp_address.specs.declared.titles.Parity.TheVariants.{Odd, Even}
use Rattle.sccp_address.specs.Form.{Form, TitleForm, no_title, bcd, other}
use Rattle.sccp_address.specs.Digits.{digits_in, digit_octets}
use Rattle.sccp_address.specs.Titles.{has_digits, lead_of, encoding_of, selector_of, is_title_short, is_bcd, title_at, is_carried, is_in_form}
use Rattle.sccp_address.specs.Parsing.{point_at, ssn_at, address_of, IsInForm}
use Rattle.sccp_address.specs.Ranges.{IsInRange, HasFewDigits}
use Rattle.sccp_address.specs.Spelling.{point_octets, ssn_octets, is_odd, bit, encoding, lead_octets, title_octets, gti_of, indicator_of, address_spelling}
use Rattle.sccp_address.proofs.DigitLemmas.{digits_in-digit_octets, length-digit_octets}

-- The parts of the indicator.

bit-below : (b : Bool) → bit b < 2
bit-below true = omega arith
bit-below false = omega arith

bit-is : (b : Bool) (n : ℕ) → n ≡ bit b → (n == 1) ≡ b
bit-is true n e = rw e refl
bit-is false n e = rw e refl

abbrev indicator : Bool → Bool → ℕ → Bool → ℕ
indicator p s gti o = bit p + 2 * bit s + 4 * gti + 64 * bit o

has_point : (p s : Bool) (gti : ℕ) (o : Bool) → (indicator p s gti o % 2 == 1) ≡ p
has_point p s gti o = bit-is p (indicator p s gti o % 2) (omega (arith, bit-below p))

has_ssn : (p s : Bool) (gti : ℕ) (o : Bool) → (indicator p s gti o / 2 % 2 == 1) ≡ s
has_ssn p s gti o = bit-is s (indicator p s gti o / 2 % 2) (omega (arith, bit-below p, bit-below s))

has_gti : (p s : Bool) (gti : ℕ) (o : Bool) → gti < TITLE_INDICATORS → indicator p s gti o / 4 % 16 ≡ gti
has_gti p s gti o h = omega (arith, bit-below p, bit-below s)

has_route : (p s : Bool) (gti : ℕ) (o : Bool) → gti < TITLE_INDICATORS → (indicator p s gti o / 64 % 2 == 1) ≡ o
has_route p s gti o h = bit-is o (indicator p s gti o / 64 % 2) (omega (arith, bit-below p, bit-below s, bit-below o))

-- The point code and the subsystem number.

point_back : (p : Option ℕ) (rest : List ℕ) → IfSome p (λ point. point < POINT_CODES) → point_at (is_some p) (point_octets p ++ rest) ≡ Ok (p, rest)
unfolding point_at
point_back None rest h = refl
point_back (Some point) rest h =
    let whole : nat_lt (suc (suc (length rest))) 2 ≡ false = le-ltb (suc (suc (length rest))) 2 (omega arith) in
    let value : (point % 256 + 256 * (point / 256)) % POINT_CODES ≡ point = omega arith in
    rw (whole, value) refl

ssn_back : (s : Option ℕ) (rest : List ℕ) → ssn_at (is_some s) (ssn_octets s ++ rest) ≡ Ok (s, rest)
unfolding ssn_at
ssn_back None rest = refl
ssn_back (Some ssn) rest =
    let some : nat_eq (suc (length rest)) 0 ≡ false = ne_eqb (suc (length rest)) 0 (λ e. absurd (omega (arith, e))) in
    rw some refl

-- The title.

-- a title of a selector with digits
digital_back : (gti : ℕ) (octets digits : List ℕ) (s : Selector) → nat_eq gti 0 ≡ false → is_title_short gti octets ≡ false → is_bcd gti octets ≡ true
    → selector_of gti octets ≡ s → digits_in (encoding_of gti octets == 1) (drop (lead_of gti) octets) ≡ digits → title_at gti octets ≡ Ok (bcd s digits)
unfolding title_at
digital_back gti octets digits s nonzero whole digital selected numbers = rw (nonzero, whole, digital, selected, numbers) refl

encoding-is : (odd : Bool) → (encoding odd == 1) ≡ odd
encoding-is true = refl
encoding-is false = refl

encoding-some : (odd : Bool) → is_some (if encoding odd == 1 then Some Odd else if encoding odd == 2 then Some Even else None) ≡ true
encoding-some true = refl
encoding-some false = refl

encoding-of : (odd : Bool) (plan : ℕ) → (16 * plan + encoding odd) % 16 ≡ encoding odd
encoding-of true plan = omega arith
encoding-of false plan = omega arith

encoding-of_nature : (odd : Bool) (nature : ℕ) → nature < NATURES → 2 - (128 * bit odd + nature) / 128 ≡ encoding odd
encoding-of_nature true nature h = omega arith
encoding-of_nature false nature h = omega arith

plan-of : (odd : Bool) (plan : ℕ) → (16 * plan + encoding odd) / 16 ≡ plan
plan-of true plan = omega arith
plan-of false plan = omega arith

not_short : (less odd none : Bool) → less ≡ false → (odd ≡ true → none ≡ false) → (true && (less || (odd && none))) ≡ false
not_short true odd none e f = cc
not_short false false none e f = refl
not_short false true none e f = f refl

-- octets after what stands before the digits
octets_after : (digits : List ℕ) → is_odd digits ≡ true → 0 < length (digit_octets digits)
octets_after digits e = omega (arith, length-digit_octets digits, eqb-true (length digits % 2) 1 e)

after_lead : (gti : ℕ) (lead digits : List ℕ) (s : Selector) → has_digits gti ≡ true → nat_eq gti 0 ≡ false
    → length (lead ++ digit_octets digits) ≡ lead_of gti + length (digit_octets digits)
    → encoding_of gti (lead ++ digit_octets digits) ≡ encoding (is_odd digits)
    → selector_of gti (lead ++ digit_octets digits) ≡ s
    → drop (lead_of gti) (lead ++ digit_octets digits) ≡ digit_octets digits
    → HasFewDigits (bcd s digits) → title_at gti (lead ++ digit_octets digits) ≡ Ok (bcd s digits)
after_lead gti lead digits s digital nonzero size parity selected rest few =
    digital_back gti (lead ++ digit_octets digits) digits s nonzero
    (rw (digital, size, parity, encoding-is (is_odd digits))
    (not_short (nat_lt (lead_of gti + length (digit_octets digits)) (lead_of gti)) (is_odd digits) (lead_of gti + length (digit_octets digits) == lead_of gti)
    (le-ltb (lead_of gti + length (digit_octets digits)) (lead_of gti) (omega arith))
    (λ odd. ne_eqb (lead_of gti + length (digit_octets digits)) (lead_of gti) (λ e. absurd (omega (arith, e, octets_after digits odd))))))
    (rw (digital, parity, encoding-some (is_odd digits), size) (le-leb (2 * (lead_of gti + length (digit_octets digits) - lead_of gti)) MOST_DIGITS (omega (arith, few.0, length-digit_octets digits))))
    selected
    (rw (parity, encoding-is (is_odd digits), rest) (digits_in-digit_octets digits few.1))

both : (a b : Bool) → IsTrue (a && b) → (a ≡ true) × (b ≡ true)
both true true h = (refl, refl)
both true false h = cc
both false true h = cc
both false false h = cc

not-true : (b : Bool) → not b ≡ true → b ≡ false
not-true true h = cc
not-true false h = refl

-- The title of each indicator with digits.

abbrev back : Selector → List ℕ → Type 0
back s digits = title_at s.gti (lead_octets s (is_odd digits) ++ digit_octets digits) ≡ Ok (bcd s digits)

nature-of : (odd : Bool) (nature : ℕ) → nature < NATURES → (128 * bit odd + nature) % 128 ≡ nature
nature-of true nature h = omega arith
nature-of false nature h = omega arith

nature_back : (nai : ℕ) (digits : List ℕ) → nai < NATURES → HasFewDigits (bcd (record { gti = 1; tt = 0; np = 0; nai = nai }) digits)
    → back (record { gti = 1; tt = 0; np = 0; nai = nai }) digits
nature_back nai digits h few =
    let small : nai % 128 ≡ nai = omega arith in
    after_lead 1 ((128 * bit (is_odd digits) + nai) ∷ []) digits (record { gti = 1; tt = 0; np = 0; nai = nai }) refl refl (omega arith)
    (encoding-of_nature (is_odd digits) nai h)
    (ap (λ (n : ℕ). let s : Selector = record { gti = 1; tt = 0; np = 0; nai = n } in s) (nature-of (is_odd digits) nai h)) refl few

plan_back : (type plan : ℕ) (digits : List ℕ) → HasFewDigits (bcd (record { gti = 3; tt = type; np = plan; nai = 0 }) digits)
    → back (record { gti = 3; tt = type; np = plan; nai = 0 }) digits
plan_back type plan digits few =
    after_lead 3 (type ∷ (16 * plan + encoding (is_odd digits)) ∷ []) digits (record { gti = 3; tt = type; np = plan; nai = 0 }) refl refl (omega arith)
    (encoding-of (is_odd digits) plan)
    (ap (λ (n : ℕ). let s : Selector = record { gti = 3; tt = type; np = n; nai = 0 } in s) (plan-of (is_odd digits) plan)) refl few

whole_back : (type plan nature : ℕ) (digits : List ℕ) → nature < NATURES → HasFewDigits (bcd (record { gti = 4; tt = type; np = plan; nai = nature }) digits)
    → back (record { gti = 4; tt = type; np = plan; nai = nature }) digits
whole_back type plan nature digits h few =
    let small : nature % 128 ≡ nature = omega arith in
    after_lead 4 (type ∷ (16 * plan + encoding (is_odd digits)) ∷ nature ∷ []) digits (record { gti = 4; tt = type; np = plan; nai = nature }) refl refl (omega arith)
    (encoding-of (is_odd digits) plan)
    (ap (λ (n : ℕ). let s : Selector = record { gti = 4; tt = type; np = n; nai = nature % 128 } in s) (plan-of (is_odd digits) plan)
    ∙ ap (λ (n : ℕ). let s : Selector = record { gti = 4; tt = type; np = plan; nai = n } in s) small) refl few

selector-is : (s : Selector) (gti tt' np nai : ℕ) → s.gti ≡ gti → s.tt ≡ tt' → s.np ≡ np → s.nai ≡ nai
    → (let t : Selector = record { gti = gti; tt = tt'; np = np; nai = nai } in t) ≡ s
selector-is s gti type np nai a b c d =
    sym (ap (λ (n : ℕ). let t : Selector = record { gti = n; tt = s.tt; np = s.np; nai = s.nai } in t) a
    ∙ ap (λ (n : ℕ). let t : Selector = record { gti = gti; tt = n; np = s.np; nai = s.nai } in t) b
    ∙ ap (λ (n : ℕ). let t : Selector = record { gti = gti; tt = type; np = n; nai = s.nai } in t) c
    ∙ ap (λ (n : ℕ). let t : Selector = record { gti = gti; tt = type; np = np; nai = n } in t) d)

carried_back : (s : Selector) (digits : List ℕ) → IsTrue (is_carried s) → HasFewDigits (bcd s digits) → back s digits
carried_back s digits carried few =
    elim (eqb_tells s.gti 1) [
      | inl one ↦
          let fields = rw (one.0) at carried in
          let parts = both (s.tt == 0 && s.np == 0) (nat_lt s.nai NATURES) fields in
          let zeros = both (s.tt == 0) (s.np == 0) parts.0 in
          subst (λ t. back t digits) (selector-is s 1 0 0 s.nai one.1 (eqb-true s.tt 0 zeros.0) (eqb-true s.np 0 zeros.1) refl)
          (nature_back s.nai digits (ltb-true s.nai NATURES parts.1) few)
      | inr not_one ↦ elim (eqb_tells s.gti 3) [
        | inl three ↦
            let fields = rw (not_one.0, three.0) at carried in
            let parts = both (nat_lt s.np NUMBERING_PLANS) (s.nai == 0) fields in
            subst (λ t. back t digits) (selector-is s 3 s.tt s.np 0 three.1 refl refl (eqb-true s.nai 0 parts.1))
            (plan_back s.tt s.np digits few)
        | inr not_three ↦ elim (eqb_tells s.gti 4) [
          | inl four ↦
              let fields = rw (not_one.0, not_three.0, four.0) at carried in
              let parts = both (nat_lt s.np NUMBERING_PLANS) (nat_lt s.nai NATURES) fields in
              subst (λ t. back t digits) (selector-is s 4 s.tt s.np s.nai four.1 refl refl refl)
              (whole_back s.tt s.np s.nai digits (ltb-true s.nai NATURES parts.1) few)
          | inr not_four ↦ (let none = rw (not_one.0, not_three.0, not_four.0) at carried in cc)
        ]
      ]
    ]

-- octets that stay as they are
other_back : (gti : ℕ) (octets : List ℕ) → IsTrue (is_in_form (other gti octets)) → title_at gti octets ≡ Ok (other gti octets)
unfolding title_at
other_back gti octets h =
    let digital = both (not (gti == 0) && nat_lt gti TITLE_INDICATORS && not (is_title_short gti octets)) (not (is_bcd gti octets)) h in
    let short = both (not (gti == 0) && nat_lt gti TITLE_INDICATORS) (not (is_title_short gti octets)) digital.0 in
    let zero = both (not (gti == 0)) (nat_lt gti TITLE_INDICATORS) short.0 in
    rw (not-true (gti == 0) zero.0, not-true (is_title_short gti octets) short.1, not-true (is_bcd gti octets) digital.1) refl

title_back : (t : TitleForm) → IsTrue (is_in_form t) → HasFewDigits t → title_at (gti_of t) (title_octets t) ≡ Ok t
unfolding title_at title_octets
title_back no_title h few = refl
title_back (bcd s digits) h few = carried_back s digits h few
title_back (other gti octets) h few = other_back gti octets h

gti_below : (t : TitleForm) → IsTrue (is_in_form t) → gti_of t < TITLE_INDICATORS
gti_below no_title h = omega arith
gti_below (bcd s digits) h =
    elim (eqb_tells s.gti 1) [
      | inl one ↦ omega (arith, one.1)
      | inr not_one ↦ elim (eqb_tells s.gti 3) [
        | inl three ↦ omega (arith, three.1)
        | inr not_three ↦ elim (eqb_tells s.gti 4) [
          | inl four ↦ omega (arith, four.1)
          | inr not_four ↦ (let none = rw (not_one.0, not_three.0, not_four.0) at h in cc)
        ]
      ]
    ]
gti_below (other gti octets) h =
    let digital = both (not (gti == 0) && nat_lt gti TITLE_INDICATORS && not (is_title_short gti octets)) (not (is_bcd gti octets)) h in
    let short = both (not (gti == 0) && nat_lt gti TITLE_INDICATORS) (not (is_title_short gti octets)) digital.0 in
    ltb-true gti TITLE_INDICATORS ((both (not (gti == 0)) (nat_lt gti TITLE_INDICATORS) short.0).1)

-- The whole address.

-- an indicator, and what is read after it
read_back : (i gti : ℕ) (after_i after_point after_ssn : List ℕ) (p s o : Bool) (point ssn : Option ℕ) (title : TitleForm)
    → (i % 2 == 1) ≡ p → (i / 2 % 2 == 1) ≡ s → i / 4 % 16 ≡ gti → (i / 64 % 2 == 1) ≡ o
    → point_at p after_i ≡ Ok (point, after_point) → ssn_at s after_point ≡ Ok (ssn, after_ssn) → title_at gti after_ssn ≡ Ok title
    → address_of (i ∷ after_i) ≡ Ok (record { point = point; ssn = ssn; title = title; on_ssn = o })
unfolding address_of
read_back i gti after_i after_point after_ssn p s o point ssn title with_point with_ssn with_gti with_o read_point read_ssn read_title =
    let some : nat_eq (suc (length after_i)) 0 ≡ false = ne_eqb (suc (length after_i)) 0 (λ e. absurd (omega (arith, e))) in
    rw (some, with_point, read_point, with_ssn, read_ssn, with_gti, read_title, with_o) refl

-- every address in form reads back as itself
pub spelling_back : (a : Form) → IsInForm a → IsInRange a → address_of (address_spelling a) ≡ Ok a
unfolding address_spelling
spelling_back a form range =
    let below = gti_below a.title form in
    subst (λ l. address_of l ≡ Ok a)
    (sym (ap (λ l. indicator_of a ∷ l) (append_assoc (point_octets a.point) (ssn_octets a.ssn) (title_octets a.title))))
    (read_back (indicator_of a) (gti_of a.title) (point_octets a.point ++ (ssn_octets a.ssn ++ title_octets a.title))
    (ssn_octets a.ssn ++ title_octets a.title) (title_octets a.title) (is_some a.point) (is_some a.ssn) a.on_ssn a.point a.ssn a.title
    (has_point (is_some a.point) (is_some a.ssn) (gti_of a.title) a.on_ssn)
    (has_ssn (is_some a.point) (is_some a.ssn) (gti_of a.title) a.on_ssn)
    (has_gti (is_some a.point) (is_some a.ssn) (gti_of a.title) a.on_ssn below)
    (has_route (is_some a.point) (is_some a.ssn) (gti_of a.title) a.on_ssn below)
    (point_back a.point (ssn_octets a.ssn ++ title_octets a.title) range.point)
    (ssn_back a.ssn (title_octets a.title))
    (title_back a.title form range.digits))
