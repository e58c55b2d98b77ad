-- What a section does, with its other end.
use Rattle.std.proofs.Common.{◌≡◌, ℕ, ◌+◌, ◌-◌, ◌≤◌, ◌==◌, ◌&&◌, ◌||◌, nat_le, not, true, false, List, [], ◌∷◌, ◌++◌, length, Option, Some, None, refl, arith, zero-le}
use Rattle.std.proofs.lemmas.Bool.{eqb-false, not-false}
use Rattle.std.proofs.lemmas.List.{length_push}
use Rattle.relay_base.specs.declared.causes.TheConstants.{ERROR_CLASS_MISMATCH, REFUSAL_UNQUALIFIED, RELEASE_INCONSISTENT_DATA, RELEASE_UNQUALIFIED, RESET_INCORRECT_RECEIVE_NUMBER, RESET_OUT_OF_WINDOW, RESET_REMOTE_PROCEDURE_ERROR}
use Rattle.relay_base.specs.declared.limits.TheConstants.{GREATEST_CREDIT}
use Rattle.section_model.specs.declared.hand.Hand.{Hand}
use Rattle.section_flow.specs.declared.unit.Unit.{Unit as DataUnit}
use Rattle.section_model.specs.declared.hand.Hand.TheVariants as hand
use Rattle.section_model.specs.declared.hand.Acted.{Acted}
use Rattle.section_model.specs.declared.hand.KeptRelease.{KeptRelease}
use Rattle.plant_core.specs.declared.terms.Ticks.{Ticks}
use Rattle.relay_base.specs.declared.words.Output.{Output}
use Rattle.section_model.specs.declared.cell.SectionState.{SectionState}
use Rattle.section_model.specs.declared.cell.SectionState.TheVariants.{Asking, Up, Resetting, Ending, Gone}
use Rattle.section_model.specs.Parameters.{Parameters}
use Rattle.section_model.specs.Ends.{End, wire, owner, SectionHead, Line, Section, Timers, gives, gives_then, cleared, only_cause}
use Rattle.section_flow.specs.Windows.{Windows, is_valid, acknowledged, wrong_number}
use Rattle.section_model.specs.Line.{confirms, hears_error, hears_test, agreed}
use Rattle.section_model.specs.Windowed.{Windowed, resets, is_next, is_used_up, accepts_unit, takes_data, takes_acknowledgement, takes_expedited as windows_take_expedited, sends_expedited, takes_answer}
use Rattle.section_model.specs.Acting.{timed, by_windows, line_in, by_line}
use Rattle.section_flow.proofs.Counting.{count-between}
use Rattle.connection_law.specs.InStep.{Stage, asking, connected, over, Meets, stage_at, section_stage, AreInStep, ResetIsAwaited, SendsAllWith, InCredit, InWindow, PassesOn}
use Rattle.connection_law.proofs.Flow.Ends.{kept_back, awaited_back}
use Rattle.connection_law.proofs.Flow.Taking.{at, Settles, TakesInStep, alone, handed_on, NotRenewing, Agree, MayEnd, cleared_in, nothing_passed, nothing_left, takes_end, takes_refusal, takes_acceptance}
use Rattle.connection_law.proofs.Flow.Flowing.{either, open_can_end, open_other, takes_expedited, takes_reset, takes_unit_of, takes_left, expedited_left, within_given}

-- an act of a section, of its windows, and of its line
unfoldable pub Acts : Ticks → Section → End → Section × Acted → Type 0
Acts ticks x that done = Settles ticks that (timed ticks x done)

unfoldable pub ActsWindowed : Ticks → Section → End → Windowed × Acted → Type 0
ActsWindowed ticks x that done = Acts ticks x that (by_windows (λ w. done) x)

unfoldable pub ActsLine : Ticks → Section → End → Line × Acted → Type 0
ActsLine ticks x that done = Acts ticks x that (by_line (λ l. done) x)

-- one thing is handed over
acts_then : (ticks : Ticks) (x x' : Section) (that : End) (outs : List Output) (h : Hand) → TakesInStep 1 ticks h that (timed ticks x (x', gives_then outs (h ∷ []))).0 → Acts ticks x that (x', gives_then outs (h ∷ []))
unfolding Acts
acts_then ticks x x' that outs h t = handed_on ticks (timed ticks x (x', gives_then outs (h ∷ []))).0 that outs h t

-- whatever its timers are
pub acts_then_at : (ticks : Ticks) (x x' : Section) (that : End) (outs : List Output) (h : Hand) → ((t : Timers) → TakesInStep 1 ticks h that (wire (record x' { timers = t }))) → Acts ticks x that (x', gives_then outs (h ∷ []))
unfolding Acts
acts_then_at ticks x x' that outs h t = handed_on ticks (timed ticks x (x', gives_then outs (h ∷ []))).0 that outs h (t _)

pub acts_alone : (ticks : Ticks) (x x' : Section) (that : End) (outs : List Output) → AreInStep (wire x') that → Acts ticks x that (x', gives outs)
unfolding Acts
acts_alone ticks x x' that outs k = alone ticks (timed ticks x (x', gives outs)).0 that outs k

-- with the other end first
pub other_first : (x : Section) (that : End) → AreInStep (wire x) that → AreInStep that (wire x)
other_first x that k = kept_back (record { this = wire x; that = that }) k

-- The reset.

not_renewing : (x : Section) (that : End) → ResetIsAwaited (wire (at Up x)) that → NotRenewing that
not_renewing x (wire y) r = tt
not_renewing x (owner u) r = r

pub cleared_flows : (credit : ℕ) → credit ≤ GREATEST_CREDIT → InCredit credit (cleared credit) × InWindow (cleared credit) × PassesOn (cleared credit) 0 []
cleared_flows credit fits = let c = cleared_in credit fits in (c.0, c.1, nothing_passed credit 0 [] refl refl)

pub resets_as : (s : SectionState) (ticks : Ticks) (cause : ℕ) (x : Section) (that : End) (outs : List Output) → Meets connected (section_stage s) → AreInStep (wire (at Up x)) that
    → Acts ticks (at Up x) that (record (at s x) { windows = cleared x.head.credit }, gives_then outs (hand.Reset cause ∷ []))
resets_as s ticks cause x that outs o k =
    let b = other_first (at Up x) that k in
    acts_then ticks (at Up x) (record (at s x) { windows = cleared x.head.credit }) that outs (hand.Reset cause)
    (takes_reset ticks cause that _ (k.0, o, b.1, b.2, tt, λ three. (not_renewing x that (k.4 (rw k.1 three)).0, refl, refl, cleared_flows x.head.credit k.2.0), λ two. (nothing_left that, (b.5 two).1)))

window_resets : (ticks : Ticks) (cause : ℕ) (x : Section) (that : End) → AreInStep (wire (at Up x)) that
    → ActsWindowed ticks (at Up x) that (resets cause (record { head = (at Up x).head; windows = x.windows }))
unfolding ActsWindowed
window_resets ticks cause x that k = resets_as Resetting ticks cause x that _ tt k

-- DT2.

pub acked_in_window : (pr : ℕ) (w : Windows) → is_valid pr w ≡ true → InWindow w → InWindow (acknowledged pr w)
acked_in_window pr w valid k =
    let count = count-between pr w.acked w.sent k.0 in
    (count.1, omega (arith, k.1, count.0), k.2)

pub came_in_credit : (credit : ℕ) (w : Windows) (u : DataUnit) → ((length w.got - w.told == credit) ≡ false) → InCredit credit w
    → (w.told ≤ w.passed) × (w.passed ≤ length (w.got ++ u ∷ [])) × (length (w.got ++ u ∷ []) ≤ w.told + credit)
came_in_credit credit w u d k =
    let e : length w.got - w.told ≡ credit → ⊥ = eqb-false _ _ d in
    let a = k.0 in let b = k.1 in let c = k.2 in
    (a, rw (length_push w.got u) (omega (arith, b)), rw (length_push w.got u) (grind (arith, e, a, b, c)))

-- one more that came, and left
pub one_more_left : (e : End) (u : DataUnit) (passed : ℕ) (got : List DataUnit) → SendsAllWith e passed got → SendsAllWith e (passed + 1) (got ++ u ∷ [])
one_more_left (wire x) u passed got e = rw (length_push got u) (omega (arith, e))
one_more_left (owner v) u passed got e = tt

unit_accepted : (ticks : Ticks) (m : Parameters) (x : Section) (that : End) → AreInStep (wire (at Up x)) that
    → is_used_up (record { head = (at Up x).head; windows = x.windows }) ≡ false → is_valid m.pr x.windows ≡ true
    → ActsWindowed ticks (at Up x) that (accepts_unit m (record { head = (at Up x).head; windows = x.windows }))
unfolding ActsWindowed
unit_accepted ticks m x that k not_used valid =
    let b = other_first (at Up x) that k in
    let u : DataUnit = record { more = m.more; body = m.data_octets } in
    let x' : Section = record (at Up x) { windows = record (acknowledged m.pr x.windows) { got = x.windows.got ++ u ∷ [] } } in
    acts_then_at ticks (at Up x) x' that [] (hand.Unit m.more m.data_octets)
    (λ t. takes_unit_of ticks u x.windows.got that (record x' { timers = t }) (
      k.0,
      tt,
      b.1,
      b.2,
      λ three. let f = b.4 three in
          (awaited_back (wire (record x' { timers = t })) that (k.4 (rw k.1 three)).0, (came_in_credit x.head.credit x.windows u not_used f.2.0, acked_in_window m.pr x.windows valid f.2.1, f.2.2), f.1, f.2.0.1, refl),
      λ two. let f = b.5 two in (f.1, one_more_left that u x.windows.passed x.windows.got f.0),
    ))

pub data_taken : (ticks : Ticks) (m : Parameters) (x : Section) (that : End) → AreInStep (wire (at Up x)) that
    → ActsWindowed ticks (at Up x) that (takes_data m (record { head = (at Up x).head; windows = x.windows }))
data_taken ticks m x that k =
    let w : Windowed = record { head = (at Up x).head; windows = x.windows } in
    either (ActsWindowed ticks (at Up x) that) (not (is_next m w)) _ _ (λ _. window_resets ticks (wrong_number w.windows) x that k)
    (λ _. either (ActsWindowed ticks (at Up x) that) (is_used_up w) _ _ (λ _. window_resets ticks RESET_OUT_OF_WINDOW x that k)
    (λ not_used. either (ActsWindowed ticks (at Up x) that) (not (is_valid m.pr x.windows)) _ _ (λ _. window_resets ticks RESET_INCORRECT_RECEIVE_NUMBER x that k)
    (λ valid. unit_accepted ticks m x that k not_used (not-false _ valid))))

-- AK.

pub acknowledgement_taken : (ticks : Ticks) (m : Parameters) (x : Section) (that : End) → AreInStep (wire (at Up x)) that
    → ActsWindowed ticks (at Up x) that (takes_acknowledgement m (record { head = (at Up x).head; windows = x.windows }))
unfolding ActsWindowed
acknowledgement_taken ticks m x that k =
    either (ActsWindowed ticks (at Up x) that) (is_valid m.pr x.windows) _ _
    (λ valid. acts_alone ticks (at Up x) _ that [] (
      k.0,
      k.1,
      k.2,
      k.3,
      λ three. let f = k.4 three in
          let w = acked_in_window m.pr x.windows valid f.1.1 in (f.0, (f.1.0, (w.0, w.1, omega arith), f.1.2), f.2),
      k.5,
    ))
    (λ _. window_resets ticks RESET_INCORRECT_RECEIVE_NUMBER x that k)

-- ED and EA.

pub expedited_taken : (ticks : Ticks) (m : Parameters) (x : Section) (that : End) → AreInStep (wire (at Up x)) that
    → ActsWindowed ticks (at Up x) that (windows_take_expedited m (record { head = (at Up x).head; windows = x.windows }))
unfolding ActsWindowed
expedited_taken ticks m x that k =
    either (ActsWindowed ticks (at Up x) that) x.windows.owed _ _ (λ _. window_resets ticks RESET_REMOTE_PROCEDURE_ERROR x that k)
    (λ _. let x' : Section = record (at Up x) { windows = record x.windows { owed = true } } in
    acts_then_at ticks (at Up x) x' that [] (hand.Expedited m.data_octets)
    (λ t. takes_expedited ticks m.data_octets that (record x' { timers = t }) (other_first (record x' { timers = t }) that k)))

pub expedited_leaves : (ticks : Ticks) (waiting : Option (List ℕ)) (x : Section) (that : End) → Meets connected (section_stage x.head.state) → AreInStep (wire x) that
    → ActsWindowed ticks x that (sends_expedited waiting (record { head = x.head; windows = record x.windows { unanswered = false } }))
unfolding ActsWindowed
expedited_leaves ticks None x that o k = acts_alone ticks x _ that [] k
expedited_leaves ticks (Some body) x that o k =
    acts_then ticks x _ that _ (hand.Left 0 true) (takes_left 1 ticks 0 true that _ (expedited_left that _ o k (within_given that x k)))

pub answer_taken : (ticks : Ticks) (x : Section) (that : End) → AreInStep (wire (at Up x)) that
    → ActsWindowed ticks (at Up x) that (takes_answer (record { head = (at Up x).head; windows = x.windows }))
unfolding ActsWindowed
answer_taken ticks x that k =
    either (ActsWindowed ticks (at Up x) that) x.windows.unanswered _ _ (λ _. expedited_leaves ticks x.windows.waiting (at Up x) that tt k)
    (λ _. acts_alone ticks (at Up x) _ that _ k)

-- The end.

pub open_may_end : (e : End) → Meets connected (stage_at e) → MayEnd e
open_may_end (wire x) o = open_can_end (section_stage x.head.state) o
open_may_end (owner u) o = tt

pub ends_as : (s : SectionState) (ticks : Ticks) (cause : ℕ) (body : Option (List ℕ)) (importance : Option ℕ) (kept : KeptRelease) (x : Section) (that : End) (outs : List Output)
    → Meets over (section_stage s) → Meets connected (section_stage x.head.state) → AreInStep (wire x) that
    → Acts ticks x that (record (at s x) { kept = kept }, gives_then outs (hand.End cause body importance ∷ []))
ends_as s ticks cause body importance kept x that outs o p k =
    let b = other_first x that k in
    acts_then ticks x (record (at s x) { kept = kept }) that outs (hand.End cause body importance)
    (takes_end 1 ticks cause body importance that _ (open_may_end that (open_other (section_stage x.head.state) (stage_at that) p k.0)) o
    (b.1, b.2, b.3, λ three. let f = b.4 three in (f.1, f.2), b.5))

-- A section that is over stays so.

over_awaited : (s : SectionState) (y : Section) (that : End) → Meets over (section_stage s) → ResetIsAwaited (wire (at s y)) that
over_awaited Up y that o = absurd o
over_awaited _ y (wire x) o = tt
over_awaited _ y (owner u) o = tt

over_meets : (s t r : Stage) → Meets over s → Meets over t → Meets s r → Meets t r
over_meets over over r o p m = m
over_meets over _ r o p m = absurd p
over_meets _ t r o p m = absurd o

pub over_as : (s : SectionState) (x : Section) (that : End) → Meets over (section_stage x.head.state) → Meets over (section_stage s) → AreInStep (wire x) that
    → AreInStep (wire (at s x)) that
over_as s x that o p k = (over_meets (section_stage x.head.state) (section_stage s) (stage_at that) o p k.0, k.1, k.2, k.3, λ three. let f = k.4 three in (over_awaited s x that p, f.1, f.2), k.5)

-- The setting up.

pub refuses_as : (ticks : Ticks) (cause : ℕ) (called body : Option (List ℕ)) (importance : Option ℕ) (x x' : Section) (that : End) (outs : List Output)
    → Meets asking (stage_at that) → Meets over (section_stage x'.head.state) → Agree that (wire x') → Acts ticks x that (x', gives_then outs (hand.Refuse cause called body importance ∷ []))
refuses_as ticks cause called body importance x x' that outs m o k =
    acts_then_at ticks x x' that outs (hand.Refuse cause called body importance)
    (λ t. takes_refusal 1 ticks cause called body importance that (wire (record x' { timers = t })) m o k)

pub agreement : (x : Section) (that : End) → AreInStep (wire x) that → Agree that (wire x)
agreement x that k = let b = other_first x that k in (b.1, b.2, b.3, λ three. let f = b.4 three in (f.1, f.2), b.5)

pub refusal_heard : (ticks : Ticks) (cause : ℕ) (called body : Option (List ℕ)) (importance : Option ℕ) (x : Section) (that : End) → AreInStep (wire (at Asking x)) that
    → Acts ticks (at Asking x) that (at Gone x, gives_then [] (hand.Refuse cause called body importance ∷ []))
refusal_heard ticks cause called body importance x that k =
    refuses_as ticks cause called body importance (at Asking x) (at Gone x) that [] k.0 tt (agreement (at Asking x) that k)

agreed_fits : (x : SectionHead) (m : Parameters) → x.credit ≤ GREATEST_CREDIT → agreed x m ≤ GREATEST_CREDIT
agreed_fits x m fits = either (λ (n : ℕ). n ≤ GREATEST_CREDIT) (m.class == 3) _ _ (λ _. omega (arith, fits)) (λ _. zero-le)

pub confirmation_heard : (ticks : Ticks) (point : ℕ) (m : Parameters) (x : Section) (that : End) → AreInStep (wire (at Asking x)) that
    → ActsLine ticks (at Asking x) that (confirms point m (line_in (at Asking x)))
unfolding ActsLine
confirmation_heard ticks point m x that k =
    let a = agreed (at Asking x).head m in
    let fits : a ≤ GREATEST_CREDIT = agreed_fits (at Asking x).head m k.2.0 in
    let up : Section = record x { head = record x.head { point = point; other = m.slr; state = Up; class = m.class; credit = a }; windows = cleared a } in
    let ending : Section = record x { head = record x.head { point = point; other = m.slr; state = Ending }; kept = only_cause RELEASE_INCONSISTENT_DATA } in
    either (ActsLine ticks (at Asking x) that) ((m.class == 2 || m.class == 3) && nat_le m.class x.head.class) _ _
    (λ _. acts_then_at ticks (at Asking x) up that [] (hand.Accept m.class a m.called m.body m.importance)
    (λ t. takes_acceptance 1 ticks m.class a m.called m.body m.importance that (wire (record up { timers = t })) k.0 k.3.1
    (tt, refl, fits, fits, tt, refl, refl, cleared_flows a fits) tt))
    (λ _. refuses_as ticks REFUSAL_UNQUALIFIED None None None (at Asking x) ending that _ k.0 tt (agreement (at Asking x) that k))

-- What ends a connection.

pub failure_heard : (s : SectionState) (ticks : Ticks) (m : Parameters) (x : Section) (that : End) → Meets connected (section_stage s) → AreInStep (wire (at s x)) that
    → ActsLine ticks (at s x) that (hears_error m (line_in (at s x)))
unfolding ActsLine
failure_heard Up ticks m x that o k =
    either (ActsLine ticks (at Up x) that) (m.cause == ERROR_CLASS_MISMATCH) _ _ (λ _. ends_as Ending ticks RELEASE_UNQUALIFIED None None (only_cause RELEASE_UNQUALIFIED) (at Up x) that _ tt tt k) (λ _. ends_as Gone ticks RELEASE_UNQUALIFIED None None x.kept (at Up x) that [] tt tt k)
failure_heard Resetting ticks m x that o k =
    either (ActsLine ticks (at Resetting x) that) (m.cause == ERROR_CLASS_MISMATCH) _ _ (λ _. ends_as Ending ticks RELEASE_UNQUALIFIED None None (only_cause RELEASE_UNQUALIFIED) (at Resetting x) that _ tt tt k) (λ _. ends_as Gone ticks RELEASE_UNQUALIFIED None None x.kept (at Resetting x) that [] tt tt k)
failure_heard _ ticks m x that o k = absurd o

pub test_heard : (s : SectionState) (ticks : Ticks) (m : Parameters) (x : Section) (that : End) → Meets connected (section_stage s) → AreInStep (wire (at s x)) that
    → ActsLine ticks (at s x) that (hears_test m (line_in (at s x)))
unfolding ActsLine
test_heard Up ticks m x that o k =
    either (ActsLine ticks (at Up x) that) (m.slr == x.head.other && m.class == x.head.class) _ _ (λ _. acts_alone ticks (at Up x) (at Up x) that [] k) (λ _. ends_as Ending ticks RELEASE_INCONSISTENT_DATA None None (only_cause RELEASE_INCONSISTENT_DATA) (at Up x) that _ tt tt k)
test_heard Resetting ticks m x that o k =
    either (ActsLine ticks (at Resetting x) that) (m.slr == x.head.other && m.class == x.head.class) _ _ (λ _. acts_alone ticks (at Resetting x) (at Resetting x) that [] k) (λ _. ends_as Ending ticks RELEASE_INCONSISTENT_DATA None None (only_cause RELEASE_INCONSISTENT_DATA) (at Resetting x) that _ tt tt k)
test_heard _ ticks m x that o k = absurd o
