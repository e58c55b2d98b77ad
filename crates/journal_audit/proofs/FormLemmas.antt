-- Some of the lanes that were read of a text.
use Rattle.std.proofs.Common.{◌≡◌, ◌∙◌, ℕ, zero, suc, ◌+◌, ◌<◌, List, [], ◌∷◌, length, get_or, take, drop, refl, sym, ap, subst, arith}
use Rattle.std.proofs.lemmas.List.{at_drop_more}
use Rattle.journal_form.specs.declared.parts.LaneForm.{LaneForm}
use Rattle.journal_form.specs.Parts.{LanePart}
use Rattle.journal_form.specs.Inner.Seen.{seen_lane, seen_lanes}
use Rattle.journal_audit.specs.Inner.Judging.{IsShort, AreShort}

pub seen_front : (n : ℕ) (forms : List LaneForm) → seen_lanes (take n forms) ≡ take n (seen_lanes forms)
seen_front zero forms = refl
seen_front (suc n) [] = refl
seen_front (suc n) (form ∷ forms) = ap (λ l. seen_lane form ∷ l) (seen_front n forms)

pub seen_rest : (n : ℕ) (forms : List LaneForm) → seen_lanes (drop n forms) ≡ drop n (seen_lanes forms)
seen_rest zero forms = refl
seen_rest (suc n) [] = refl
seen_rest (suc n) (form ∷ forms) = seen_rest n forms

pub short_front : (n : ℕ) (forms : List LaneForm) → AreShort (seen_lanes forms) → AreShort (seen_lanes (take n forms))
short_front zero forms short = tt
short_front (suc n) [] short = tt
short_front (suc n) (form ∷ forms) short = (short.0, short_front n forms short.1)

pub short_rest : (n : ℕ) (forms : List LaneForm) → AreShort (seen_lanes forms) → AreShort (seen_lanes (drop n forms))
short_rest zero forms short = short
short_rest (suc n) [] short = tt
short_rest (suc n) (form ∷ forms) short = short_rest n forms short.1

short-there : (forms : List LaneForm) (n : ℕ) (none : LaneForm) → AreShort (seen_lanes forms) → n < length forms → IsShort (seen_lane (get_or forms n none))
short-there [] n none short lt = absurd (omega (arith, lt))
short-there (form ∷ forms) zero none short lt = short.0
short-there (form ∷ forms) (suc n) none short lt = short-there forms n none short.1 (omega (arith, lt))

-- a lane of them
module _ (forms : List LaneForm) (n : ℕ) (form : LaneForm) (lt : n < length forms) (is : form ≡ get_or forms n form) where
  pub short_at : AreShort (seen_lanes forms) → IsShort (seen_lane form)
  short_at short = subst (λ f. IsShort (seen_lane f)) (sym is) (short-there forms n form short lt)

  pub lanes_at : {Y : Type 0} (F : List LanePart → Y) → F (seen_lanes (drop n forms)) ≡ F (seen_lane form ∷ seen_lanes (drop (n + 1) forms))
  lanes_at F = at_drop_more (λ l. F (seen_lanes l)) forms n form lt ∙ ap (λ f. F (seen_lane f ∷ seen_lanes (drop (n + 1) forms))) (sym is)
