-- Units that are put together.
use Rattle.std.proofs.Common.{◌≡◌, ℕ, zero, suc, ◌+◌, ◌*◌, ◌≤◌, nat_lt, Bool, true, false, List, [], ◌∷◌, ◌++◌, length, take, drop, map, refl, sym, ◌∙◌, ap, arith, append_assoc, append-nil, drop-drop, length-drop, take_all}
use Rattle.std.specs.List.{flat_map, range_with_len}
use Rattle.std.proofs.lemmas.Bool.{lt-ltb, le-ltb}
use Rattle.std.proofs.lemmas.List.{take-append-drop}
use Rattle.std.proofs.lemmas.List.Sums.{fold-append}
use Rattle.section_model.specs.declared.limits.TheConstants.{LONGEST_UNIT}
use Rattle.section_model.specs.Ends.{DataUnit}
use Rattle.section_model.specs.UserEnd.{unit_count, unit_at, units_of}
use Rattle.hop_law.specs.Texts.{Joined, joins, joined_from, joined}
use Rattle.hop_law.specs.TextLaw.{CutAndJoined, IsPartOf, FewUnitsFewTexts}

abbrev at : List (List ℕ) → List ℕ → Joined
at texts rest = record { texts = texts; rest = rest }

-- What is whole stands before what comes of the rest and of more units.

pub apart : (units : List DataUnit) (texts : List (List ℕ)) (rest : List ℕ)
    → joined_from (at texts rest) units ≡ at (texts ++ (joined_from (at [] rest) units).texts) (joined_from (at [] rest) units).rest
apart [] texts rest = ap (λ whole. at whole rest) (sym (append-nil texts))
apart (u ∷ units) texts rest = by_more u.more (apart units texts (rest ++ u.body)) (apart units (texts ++ (rest ++ u.body) ∷ []) []) (apart units ((rest ++ u.body) ∷ []) [])
  where
    whole : List ℕ
    whole = rest ++ u.body

    Apart : List (List ℕ) → List ℕ → Type 0
    Apart before next = let j = joined_from (at [] next) units in joined_from (at before next) units ≡ at (before ++ j.texts) j.rest

    by_more : (more : Bool) → Apart texts whole → Apart (texts ++ whole ∷ []) [] → Apart (whole ∷ []) []
        → (let v : DataUnit = record { more = more; body = u.body } in
        let j = joined_from (joins (at [] rest) v) units in joined_from (joins (at texts rest) v) units ≡ at (texts ++ j.texts) j.rest)
    by_more true longer one other = longer
    by_more false longer one other =
        let j = joined_from (at [] []) units in
        one ∙ (ap (λ texts. at texts j.rest) (append_assoc texts (whole ∷ []) j.texts) ∙ sym (ap (λ (k : Joined). at (texts ++ k.texts) k.rest) other))

-- The units of one text, from one of them on.

last_is : (body : List ℕ) (k : ℕ) → k + 1 ≡ unit_count body → nat_lt (k + 1) (unit_count body) ≡ false
last_is body k e = le-ltb (k + 1) (unit_count body) (omega (arith, e))

others_are : (body : List ℕ) (k m : ℕ) → k + suc (suc m) ≡ unit_count body → nat_lt (k + 1) (unit_count body) ≡ true
others_are body k m e = lt-ltb (k + 1) (unit_count body) (omega (arith, e))

last_whole : (body : List ℕ) (k : ℕ) → k + 1 ≡ unit_count body → take LONGEST_UNIT (drop (LONGEST_UNIT * k) body) ≡ drop (LONGEST_UNIT * k) body
last_whole body k e =
    take_all LONGEST_UNIT (drop (LONGEST_UNIT * k) body) (rw (length-drop (LONGEST_UNIT * k) body) (omega (arith, e)))

next_drop : (body : List ℕ) (k : ℕ) → drop LONGEST_UNIT (drop (LONGEST_UNIT * k) body) ≡ drop (LONGEST_UNIT * (k + 1)) body
next_drop body k = drop-drop LONGEST_UNIT (LONGEST_UNIT * k) body ∙ ap (λ n. drop n body) (omega arith)

from_unit : (m k : ℕ) (body rest : List ℕ) → k + suc m ≡ unit_count body
    → joined_from (at [] rest) (map (unit_at body) (range_with_len k (suc m))) ≡ at ((rest ++ drop (LONGEST_UNIT * k) body) ∷ []) []
from_unit zero k body rest e = rw (last_is body k e, last_whole body k e) refl
from_unit (suc m) k body rest e =
    let part = take LONGEST_UNIT (drop (LONGEST_UNIT * k) body) in
    rw (others_are body k m e)
    (from_unit m (k + 1) body (rest ++ part) (omega (arith, e))
    ∙ ap (λ text. at (text ∷ []) [])
    (append_assoc rest part (drop (LONGEST_UNIT * (k + 1)) body)
    ∙ ap (λ more. rest ++ more) (ap (λ more. part ++ more) (sym (next_drop body k)) ∙ take-append-drop LONGEST_UNIT (drop (LONGEST_UNIT * k) body))))

text_joined : (body : List ℕ) → 1 ≤ length body → joined (units_of body) ≡ at (body ∷ []) []
text_joined body some = by_count (unit_count body) refl (omega (arith, some))
  where
    by_count : (n : ℕ) → n ≡ unit_count body → 1 ≤ n → joined (map (unit_at body) (range_with_len 0 n)) ≡ at (body ∷ []) []
    by_count zero e h = absurd (omega (arith, h))
    by_count (suc m) e h = from_unit m 0 body [] (omega (arith, e))

pub cut_joined : CutAndJoined
cut_joined [] are = refl
cut_joined (text ∷ texts) are =
    fold-append joins (at [] []) (units_of text) (flat_map units_of texts)
    ∙ (ap (λ (j : Joined). joined_from j (flat_map units_of texts)) (text_joined text are.0)
    ∙ (apart (flat_map units_of texts) (text ∷ []) []
    ∙ ap (λ (j : Joined). at (text ∷ j.texts) j.rest) (cut_joined texts are.1)))

-- The first units.

-- what comes of the rest and of more units: nothing is whole yet, or first a text is that begins with the rest
data Goes (rest : List ℕ) (j : Joined) : Type 0 where
  on : (more : List ℕ) → j.texts ≡ [] → j.rest ≡ rest ++ more → Goes rest j
  whole : (more : List ℕ) (texts : List (List ℕ)) → j.texts ≡ (rest ++ more) ∷ texts → Goes rest j

longer : (rest body : List ℕ) (j : Joined) → Goes (rest ++ body) j → Goes rest j
longer rest body j (on more e f) = on (body ++ more) e (f ∙ append_assoc rest body more)
longer rest body j (whole more texts e) = whole (body ++ more) texts (e ∙ ap (λ (text : List ℕ). text ∷ texts) (append_assoc rest body more))

goes : (units : List DataUnit) (rest : List ℕ) → Goes rest (joined_from (at [] rest) units)
goes [] rest = on [] refl (sym (append-nil rest))
goes (u ∷ units) rest = by_more u.more (goes units (rest ++ u.body))
  where
    by_more : (more : Bool) → Goes (rest ++ u.body) (joined_from (at [] (rest ++ u.body)) units)
        → Goes rest (joined_from (joins (at [] rest) (record { more = more; body = u.body })) units)
    by_more true g = longer rest u.body (joined_from (at [] (rest ++ u.body)) units) g
    by_more false g = whole u.body (joined_from (at [] []) units).texts (ap (λ (j : Joined). j.texts) (apart units ((rest ++ u.body) ∷ []) []))

nothing_of : (rest more : List ℕ) → [] ≡ rest ++ more → rest ≡ []
nothing_of [] more e = refl
nothing_of (x ∷ rest) more e = cc

part_of : (rest : List ℕ) (j : Joined) → Goes rest j → j.rest ≡ [] → IsPartOf rest j.texts
part_of rest j (on more e f) none = rw e (nothing_of rest more (sym none ∙ f))
part_of rest j (whole more texts e) none = rw e (record { more = more; is = refl })

pub few_texts : FewUnitsFewTexts
few_texts texts units more are e =
    let j = joined units in
    let k = joined_from (at [] j.rest) more in
    let all : at texts [] ≡ at (j.texts ++ k.texts) k.rest =
    sym (cut_joined texts are) ∙ (ap joined e ∙ (fold-append joins (at [] []) units more ∙ apart more j.texts j.rest)) in
    record {
      later = k.texts;
      are = ap (λ (j : Joined). j.texts) all;
      part = part_of j.rest k (goes more j.rest) (sym (ap (λ (j : Joined). j.rest) all));
    }
