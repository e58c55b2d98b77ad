-- What an opening comes to, by its cases.
use Rattle.std.proofs.Common.{◌-◌, ◌≡◌, ℕ, ◌≤◌, ◌<◌, true, false, List, [], ◌∷◌, length, get_or, refl, sym, subst, arith}
use Rattle.std.specs.Prelude.{slice_get, Option, Some, None, is_some}
use Rattle.relay_base.specs.declared.causes.TheConstants.{REFUSAL_NOT_AVAILABLE, REFUSAL_UNQUALIFIED}
use Rattle.relay_base.specs.declared.limits.TheConstants.{LONGEST_GIVEN_ADDRESS}
use Rattle.plant_core.specs.declared.answer.Rewrite.{Rewrite}
use Rattle.plant_core.specs.declared.answer.Answer.{Answer}
use Rattle.plant_core.specs.declared.answer.Answer.TheVariants.{Local, Forward}
use Rattle.plant_core.specs.declared.terms.Terms.{Terms}
use Rattle.q713_codec.specs.Writing.{InRange}
use Rattle.plant_core.specs.Rewriting.{called_onward}
use Rattle.plant_core.proofs.AddressLengths.{length-called_onward}
use Rattle.section_model.specs.Line.{credit_of}
use Rattle.section_model.specs.declared.limits.TheConstants.{LONGEST_ADDRESS}
use Rattle.section_model.specs.Lengths.{IsAddress, IsData}
use Rattle.section_model.specs.Opening.{Wanted, by_cr, onward, fits, cref_to, not_opened, opened_onward, opened_by_cr, opened, slots_needed}
use Rattle.section_model.proofs.InRanges.{cr-in_range}

-- CR that doesn't fit, one for which too few references are free, and one that goes on
pub onward-unfit : (terms : Terms) (w : Wanted) (point : ℕ) (rewrite : Rewrite) (hop : Option ℕ) (refs : List ℕ) → fits w rewrite hop ≡ false
    → opened_by_cr terms w (Forward point rewrite hop) refs ≡ not_opened (cref_to w REFUSAL_UNQUALIFIED ∷ [])
unfolding opened_by_cr
onward-unfit terms w point rewrite hop [] e = rw e refl
onward-unfit terms w point rewrite hop (mine ∷ []) e = rw e refl
onward-unfit terms w point rewrite hop (mine ∷ next ∷ refs) e = rw e refl

pub onward-few : (terms : Terms) (w : Wanted) (point : ℕ) (rewrite : Rewrite) (hop : Option ℕ) (refs : List ℕ) → fits w rewrite hop ≡ true → length refs < 2
    → opened_by_cr terms w (Forward point rewrite hop) refs ≡ not_opened (cref_to w REFUSAL_NOT_AVAILABLE ∷ [])
unfolding opened_by_cr
onward-few terms w point rewrite hop [] e few = rw e refl
onward-few terms w point rewrite hop (mine ∷ []) e few = rw e refl
onward-few terms w point rewrite hop (mine ∷ next ∷ refs) e few = absurd (omega (arith, few))

pub onward-enough : (terms : Terms) (w : Wanted) (point : ℕ) (rewrite : Rewrite) (hop : Option ℕ) (refs : List ℕ) (d e : ℕ) → fits w rewrite hop ≡ true → 2 ≤ length refs
    → opened_by_cr terms w (Forward point rewrite hop) refs ≡ opened_onward terms w point rewrite hop (get_or refs 0 d) (get_or refs 1 e)
unfolding opened_by_cr
onward-enough terms w point rewrite hop [] d e f enough = absurd (omega (arith, enough))
onward-enough terms w point rewrite hop (mine ∷ []) d e f enough = absurd (omega (arith, enough))
onward-enough terms w point rewrite hop (mine ∷ next ∷ refs) d e f enough = rw f refl

pub onward-found : (terms : Terms) (w : Wanted) (point : ℕ) (rewrite : Rewrite) (hop : Option ℕ) (refs : List ℕ) (mine next : ℕ) → fits w rewrite hop ≡ true → 2 ≤ length refs
    → mine ≡ get_or refs 0 mine → next ≡ get_or refs 1 next → opened_by_cr terms w (Forward point rewrite hop) refs ≡ opened_onward terms w point rewrite hop mine next
onward-found terms w point rewrite hop refs mine next f enough e g =
    subst (λ n. opened_by_cr terms w (Forward point rewrite hop) refs ≡ opened_onward terms w point rewrite hop n next) (sym e)
    (subst (λ n. opened_by_cr terms w (Forward point rewrite hop) refs ≡ opened_onward terms w point rewrite hop (get_or refs 0 mine) n) (sym g) (onward-enough terms w point rewrite hop refs mine next f enough))

pub local-none : (terms : Terms) (w : Wanted) (answer : Answer) (ssn : ℕ) (refs : List ℕ) → answer ≡ Local ssn → None ≡ slice_get refs 0
    → opened_by_cr terms w answer refs ≡ not_opened (cref_to w REFUSAL_NOT_AVAILABLE ∷ [])
unfolding opened_by_cr
local-none terms w answer ssn [] e f = rw e refl
local-none terms w answer ssn (mine ∷ refs) e f = absurd (cc)

-- a user's CR may be written
pub user-in_range : (w : Wanted) (rewrite : Rewrite) (hop : Option ℕ) (mine : ℕ) → length w.called ≤ LONGEST_GIVEN_ADDRESS → IsAddress w.calling → IsData w.body → InRange (onward w rewrite hop mine)
user-in_range w rewrite hop mine called calling body =
    let short : length (called_onward rewrite w.called) ≤ LONGEST_ADDRESS - 2 = omega (arith, called, length-called_onward rewrite w.called) in
    cr-in_range mine w.class (called_onward rewrite w.called) (credit_of w.class w.credit) w.calling w.body hop w.importance short calling body

-- a CR of which routing wasn't asked
pub unasked : (terms : Terms) (w : Wanted) (a : Option Answer) (refs : List ℕ) → is_some a ≡ false → opened terms (by_cr w) a refs ≡ not_opened (cref_to w REFUSAL_UNQUALIFIED ∷ [])
unfolding opened
unasked terms w None refs e = refl
unasked terms w (Some answer) refs e = absurd (cc)

-- CR that goes on takes two references where it fits
pub slots-two : (w : Wanted) (answer : Answer) (point : ℕ) (rewrite : Rewrite) (hop : Option ℕ) → answer ≡ Forward point rewrite hop → fits w rewrite hop ≡ true → 2 ≡ slots_needed (by_cr w) (Some answer)
unfolding slots_needed
slots-two w answer point rewrite hop e f = rw (e, f) refl

pub slots-none : (w : Wanted) (answer : Answer) (point : ℕ) (rewrite : Rewrite) (hop : Option ℕ) → answer ≡ Forward point rewrite hop → fits w rewrite hop ≡ false → 0 ≡ slots_needed (by_cr w) (Some answer)
unfolding slots_needed
slots-none w answer point rewrite hop e f = rw (e, f) refl
