-- A section hears a message, or one of its timers fires.
use Rattle.std.proofs.Common.{◌≡◌, ℕ, ◌==◌, List, [], ◌∷◌, ◌++◌, if◌then◌else◌, Option, Some, None, false, ◌∙◌}
use Rattle.std.proofs.lemmas.Bool.{eqb-false}
use Rattle.relay_base.specs.declared.causes.TheConstants.{REFUSAL_ESTABLISHMENT_EXPIRED, RELEASE_INACTIVITY_EXPIRED, RELEASE_RESET_EXPIRED}
use Rattle.section_model.specs.declared.hand.Hand.TheVariants as hand
use Rattle.section_flow.specs.declared.unit.Unit.{Unit as DataUnit}
use Rattle.section_model.specs.declared.hand.Acted.{Acted}
use Rattle.plant_core.specs.declared.terms.Ticks.{Ticks}
use Rattle.relay_base.specs.declared.words.Output.{Output}
use Rattle.section_model.specs.declared.cell.SectionState.{SectionState}
use Rattle.section_model.specs.declared.cell.SectionState.TheVariants.{Asked, Asking, Waning, Up, Resetting, Ending, Gone}
use Rattle.section_model.specs.declared.cell.Occasion.{Occasion}
use Rattle.section_model.specs.declared.cell.Occasion.TheVariants as on
use Rattle.section_model.specs.declared.cell.Cell.{Cell}
use Rattle.section_model.specs.declared.cell.Timer.{Timer}
use Rattle.section_model.specs.declared.cell.Timer.TheVariants as timer
use Rattle.section_model.specs.Parameters.{Parameters}
use Rattle.section_model.specs.Ends.{End, wire, Section, Connection, only_cause, gives, gives_then}
use Rattle.section_model.specs.Table.{section_row, section_cell}
use Rattle.section_model.specs.Line.{line_hears, line_fires, takes_unit}
use Rattle.section_model.specs.Windowed.{windowed_hears, windowed_fires}
use Rattle.section_model.specs.Acting.{by_windows, line_in, by_line, in_windows, section_hears, section_fires}
use Rattle.section_model.specs.Step.{checked, hears_checked, hears_message, in_touch, is_from_elsewhere, fires_on}
use Rattle.section_model.specs.Timing.{firing, rearmed}
use Rattle.connection_law.specs.InStep.{IsInStep, AreInStep}
use Rattle.connection_law.proofs.Flow.Taking.{at, Settles}
use Rattle.connection_law.proofs.Flow.Flowing.{either, takes_done, takes_unit_of}
use Rattle.connection_law.proofs.Flow.Acting.{Acts, ActsWindowed, ActsLine, acts_alone, acts_then_at, other_first, agreement, resets_as, one_more_left, data_taken, acknowledgement_taken, expedited_taken, answer_taken, ends_as, over_as, refuses_as, refusal_heard, confirmation_heard, failure_heard, test_heard}

-- what a section hears by the table
abbrev heard : Cell → ℕ → Parameters → Section → Section × Acted
heard c point m x = if in_windows c x then by_windows (windowed_hears c m) x else by_line (line_hears c point m) x

abbrev Hears : Ticks → Occasion → ℕ → Parameters → SectionState → Section → End → Type 0
Hears ticks o point m s x that = Acts ticks (at s x) that (heard (section_cell s o) point m (at s x))

-- the reset is over
reset_done : (ticks : Ticks) (x : Section) (that : End) → AreInStep (wire (at Resetting x)) that → Acts ticks (at Resetting x) that (at Up x, gives_then [] (hand.Done ∷ []))
reset_done ticks x that k =
    acts_then_at ticks (at Resetting x) (at Up x) that [] hand.Done (λ t. takes_done ticks that (record (at Up x) { timers = t }) k.0 tt (agreement (at Resetting x) that k))

-- whatever its class is, nothing is handed over
by_class : (ticks : Ticks) (x : Section) (one other : Section × List Output) (that : End) → AreInStep (wire one.0) that → AreInStep (wire other.0) that
    → Acts ticks x that (if x.head.class == 3 then (one.0, gives one.1) else (other.0, gives other.1))
by_class ticks x one other that k l =
    either (Acts ticks x that) (x.head.class == 3) _ _ (λ _. acts_alone ticks x one.0 that one.1 k) (λ _. acts_alone ticks x other.0 that other.1 l)

-- an act of class 3 alone
in_class_3 : (ticks : Ticks) (x : Section) (one other : Section × Acted) (that : End) → Acts ticks x that one → Acts ticks x that other → Acts ticks x that (if x.head.class == 3 then one else other)
in_class_3 ticks x one other that k l = either (Acts ticks x that) (x.head.class == 3) _ _ (λ _. k) (λ _. l)

-- DT1, in another class than 3
data_heard : (ticks : Ticks) (m : Parameters) (x : Section) (that : End) → AreInStep (wire (at Up x)) that → (x.head.class == 3) ≡ false
    → ActsLine ticks (at Up x) that (takes_unit m (line_in (at Up x)))
unfolding ActsLine
data_heard ticks m x that k other =
    let b = other_first (at Up x) that k in
    let u : DataUnit = record { more = m.more; body = m.data_octets } in
    let x' : Section = record (at Up x) { windows = record x.windows { got = x.windows.got ++ u ∷ [] } } in
    acts_then_at ticks (at Up x) x' that [] (hand.Unit m.more m.data_octets)
    (λ t. takes_unit_of ticks u [] that (record x' { timers = t })
    (k.0, tt, b.1, b.2, λ three. absurd (eqb-false _ _ other (k.1 ∙ three)), λ two. let f = b.5 two in (f.1, one_more_left that u x.windows.passed x.windows.got f.0)))

hears_as : (o : Occasion) (s : SectionState) (ticks : Ticks) (point : ℕ) (m : Parameters) (x : Section) (that : End) → AreInStep (wire (at s x)) that → Hears ticks o point m s x that
unfolding ActsWindowed ActsLine section_row line_hears windowed_hears
hears_as on.Cc Asking ticks point m x that k = confirmation_heard ticks point m x that k
hears_as on.Cc Waning ticks point m x that k = acts_alone ticks _ _ that _ (over_as Ending (at Waning x) that tt tt k)
hears_as on.Cc _ ticks point m x that k = acts_alone ticks _ _ that _ k
hears_as on.Cref Asking ticks point m x that k = refusal_heard ticks m.cause m.called m.body m.importance x that k
hears_as on.Cref Waning ticks point m x that k = acts_alone ticks _ _ that _ (over_as Gone (at Waning x) that tt tt k)
hears_as on.Cref _ ticks point m x that k = acts_alone ticks _ _ that _ k
hears_as on.Rlsd Up ticks point m x that k = ends_as Gone ticks m.cause m.body m.importance x.kept (at Up x) that _ tt tt k
hears_as on.Rlsd Resetting ticks point m x that k = ends_as Gone ticks m.cause m.body m.importance x.kept (at Resetting x) that _ tt tt k
hears_as on.Rlsd Ending ticks point m x that k = acts_alone ticks _ _ that _ (over_as Gone (at Ending x) that tt tt k)
hears_as on.Rlsd _ ticks point m x that k = acts_alone ticks _ _ that _ k
hears_as on.Rlc Ending ticks point m x that k = acts_alone ticks _ _ that _ (over_as Gone (at Ending x) that tt tt k)
hears_as on.Rlc _ ticks point m x that k = acts_alone ticks _ _ that _ k
hears_as on.Dt1 Up ticks point m x that k =
    either (Acts ticks (at Up x) that) (x.head.class == 3) _ _ (λ _. acts_alone ticks _ _ that _ k) (λ other. data_heard ticks m x that k other)
hears_as on.Dt1 _ ticks point m x that k = acts_alone ticks _ _ that _ k
hears_as on.Dt2 Up ticks point m x that k = in_class_3 ticks (at Up x) _ _ that (data_taken ticks m x that k) (acts_alone ticks _ _ that _ k)
hears_as on.Dt2 _ ticks point m x that k = acts_alone ticks _ _ that _ k
hears_as on.Ak Up ticks point m x that k = in_class_3 ticks (at Up x) _ _ that (acknowledgement_taken ticks m x that k) (acts_alone ticks _ _ that _ k)
hears_as on.Ak _ ticks point m x that k = acts_alone ticks _ _ that _ k
hears_as on.Ed Up ticks point m x that k = in_class_3 ticks (at Up x) _ _ that (expedited_taken ticks m x that k) (acts_alone ticks _ _ that _ k)
hears_as on.Ed _ ticks point m x that k = acts_alone ticks _ _ that _ k
hears_as on.Ea Up ticks point m x that k = in_class_3 ticks (at Up x) _ _ that (answer_taken ticks x that k) (acts_alone ticks _ _ that _ k)
hears_as on.Ea _ ticks point m x that k = acts_alone ticks _ _ that _ k
hears_as on.Rsr Up ticks point m x that k = in_class_3 ticks (at Up x) _ _ that (resets_as Up ticks m.cause x that _ tt k) (acts_alone ticks _ _ that _ k)
hears_as on.Rsr Resetting ticks point m x that k = in_class_3 ticks (at Resetting x) _ _ that (reset_done ticks x that k) (acts_alone ticks _ _ that _ k)
hears_as on.Rsr _ ticks point m x that k = acts_alone ticks _ _ that _ k
hears_as on.Rsc Resetting ticks point m x that k = in_class_3 ticks (at Resetting x) _ _ that (reset_done ticks x that k) (acts_alone ticks _ _ that _ k)
hears_as on.Rsc _ ticks point m x that k = acts_alone ticks _ _ that _ k
hears_as on.Err Up ticks point m x that k = failure_heard Up ticks m x that tt k
hears_as on.Err Resetting ticks point m x that k = failure_heard Resetting ticks m x that tt k
hears_as on.Err Ending ticks point m x that k = acts_alone ticks _ _ that _ (over_as Gone (at Ending x) that tt tt k)
hears_as on.Err _ ticks point m x that k = acts_alone ticks _ _ that _ k
hears_as on.It Up ticks point m x that k = test_heard Up ticks m x that tt k
hears_as on.It Resetting ticks point m x that k = test_heard Resetting ticks m x that tt k
hears_as on.It _ ticks point m x that k = acts_alone ticks _ _ that _ k
hears_as on.IasFires Up ticks point m x that k = by_class ticks (at Up x) _ _ that k k
hears_as on.IasFires Resetting ticks point m x that k = by_class ticks (at Resetting x) _ _ that k k
hears_as on.IasFires _ ticks point m x that k = acts_alone ticks _ _ that _ k
hears_as on.UnitComes Up ticks point m x that k = by_class ticks (at Up x) _ _ that k k
hears_as on.UnitComes Resetting ticks point m x that k = by_class ticks (at Resetting x) _ _ that k k
hears_as on.UnitComes _ ticks point m x that k = acts_alone ticks _ _ that _ k
hears_as on.ExpeditedComes Up ticks point m x that k = by_class ticks (at Up x) _ _ that k k
hears_as on.ExpeditedComes Resetting ticks point m x that k = by_class ticks (at Resetting x) _ _ that k k
hears_as on.ExpeditedComes _ ticks point m x that k = acts_alone ticks _ _ that _ k
hears_as on.ResetComes Up ticks point m x that k = by_class ticks (at Up x) _ _ that k k
hears_as on.ResetComes Resetting ticks point m x that k = by_class ticks (at Resetting x) _ _ that k k
hears_as on.ResetComes _ ticks point m x that k = acts_alone ticks _ _ that _ k
hears_as on.ConnectFires Waning ticks point m x that k = acts_alone ticks _ _ that _ (over_as Gone (at Waning x) that tt tt k)
hears_as on.ConnectFires Asked ticks point m x that k = acts_alone ticks _ _ that _ k
hears_as on.ConnectFires _ ticks point m x that k = acts_alone ticks _ _ that _ k
hears_as on.ResetFires Asked ticks point m x that k = acts_alone ticks _ _ that _ k
hears_as on.ResetFires _ ticks point m x that k = acts_alone ticks _ _ that _ k
hears_as on.IarFires Asked ticks point m x that k = acts_alone ticks _ _ that _ k
hears_as on.IarFires _ ticks point m x that k = acts_alone ticks _ _ that _ k
hears_as on.RelFires Asked ticks point m x that k = acts_alone ticks _ _ that _ k
hears_as on.RelFires _ ticks point m x that k = acts_alone ticks _ _ that _ k
hears_as on.IntFires Asked ticks point m x that k = acts_alone ticks _ _ that _ k
hears_as on.IntFires Ending ticks point m x that k = acts_alone ticks _ _ that _ (over_as Gone (at Ending x) that tt tt k)
hears_as on.IntFires _ ticks point m x that k = acts_alone ticks _ _ that _ k
hears_as on.RepeatFires Asked ticks point m x that k = acts_alone ticks _ _ that _ k
hears_as on.RepeatFires _ ticks point m x that k = acts_alone ticks _ _ that _ k
hears_as on.AcceptComes Asked ticks point m x that k = acts_alone ticks _ _ that _ k
hears_as on.AcceptComes _ ticks point m x that k = acts_alone ticks _ _ that _ k
hears_as on.RefuseComes Asked ticks point m x that k = acts_alone ticks _ _ that _ k
hears_as on.RefuseComes _ ticks point m x that k = acts_alone ticks _ _ that _ k
hears_as on.EndComes Asked ticks point m x that k = acts_alone ticks _ _ that _ k
hears_as on.EndComes _ ticks point m x that k = acts_alone ticks _ _ that _ k
hears_as on.DoneComes Asked ticks point m x that k = acts_alone ticks _ _ that _ k
hears_as on.DoneComes _ ticks point m x that k = acts_alone ticks _ _ that _ k

-- The checks before the table.

hears_as_checked : (c : Option Output) (o : Occasion) (s : SectionState) (ticks : Ticks) (point : ℕ) (m : Parameters) (x : Section) (that : End) → AreInStep (wire (at s x)) that
    → Settles ticks that (hears_checked ticks o point m (at s x) c)
unfolding Acts section_hears
hears_as_checked (Some out) o s ticks point m x that k = acts_alone ticks (at s x) (at s x) that (out ∷ []) k
hears_as_checked None o s ticks point m x that k = hears_as o s ticks point m x that k

pub hears_kept : (ticks : Ticks) (o : Occasion) (point : ℕ) (m : Parameters) (x : Section) (that : End) → AreInStep (wire x) that → IsInStep (hears_message ticks o point m x that).0
unfolding hears_message Settles
hears_kept ticks o point m x that k =
    either (λ (r : Connection × List Output). IsInStep r.0) (is_from_elsewhere point x.head) _ _ (λ _. k)
    (λ _. hears_as_checked (checked o m x.head) o x.head.state ticks point m (in_touch ticks x) that k)

-- The timers.

abbrev fired : Cell → Section → Section × Acted
fired c x = if in_windows c x then by_windows windowed_fires x else by_line (line_fires c) x

abbrev Fires : Ticks → Timer → SectionState → Section → End → Type 0
Fires ticks timer s x that = Acts ticks (at s x) that (fired (section_cell s (firing timer)) (at s x))

fires_as : (t : Timer) (s : SectionState) (ticks : Ticks) (x : Section) (that : End) → AreInStep (wire (at s x)) that → Fires ticks t s x that
unfolding section_row line_fires windowed_fires
fires_as timer.Connect Asking ticks x that k =
    refuses_as ticks REFUSAL_ESTABLISHMENT_EXPIRED None None None (at Asking x) (at Gone x) that [] k.0 tt (agreement (at Asking x) that k)
fires_as timer.Connect Waning ticks x that k = acts_alone ticks _ _ that _ (over_as Gone (at Waning x) that tt tt k)
fires_as timer.Connect _ ticks x that k = acts_alone ticks _ _ that _ k
fires_as timer.Reset Resetting ticks x that k = ends_as Ending ticks RELEASE_RESET_EXPIRED None None (only_cause RELEASE_RESET_EXPIRED) (at Resetting x) that _ tt tt k
fires_as timer.Reset _ ticks x that k = acts_alone ticks _ _ that _ k
fires_as timer.Iar Up ticks x that k = ends_as Ending ticks RELEASE_INACTIVITY_EXPIRED None None (only_cause RELEASE_INACTIVITY_EXPIRED) (at Up x) that _ tt tt k
fires_as timer.Iar Resetting ticks x that k = ends_as Ending ticks RELEASE_INACTIVITY_EXPIRED None None (only_cause RELEASE_INACTIVITY_EXPIRED) (at Resetting x) that _ tt tt k
fires_as timer.Iar _ ticks x that k = acts_alone ticks _ _ that _ k
fires_as timer.Ias Up ticks x that k = by_class ticks (at Up x) _ _ that k k
fires_as timer.Ias Resetting ticks x that k = by_class ticks (at Resetting x) _ _ that k k
fires_as timer.Ias _ ticks x that k = acts_alone ticks _ _ that _ k
fires_as timer.Rel Asked ticks x that k = acts_alone ticks _ _ that _ k
fires_as timer.Rel _ ticks x that k = acts_alone ticks _ _ that _ k
fires_as timer.Int Ending ticks x that k = acts_alone ticks _ _ that _ (over_as Gone (at Ending x) that tt tt k)
fires_as timer.Int _ ticks x that k = acts_alone ticks _ _ that _ k
fires_as timer.Repeat Asked ticks x that k = acts_alone ticks _ _ that _ k
fires_as timer.Repeat _ ticks x that k = acts_alone ticks _ _ that _ k

pub fires_kept : (ticks : Ticks) (timer : Timer) (x : Section) (that : End) → AreInStep (wire x) that → IsInStep (fires_on ticks timer x that).0
unfolding Acts Settles section_fires
fires_kept ticks timer x that k = fires_as timer x.head.state ticks (record x { timers = rearmed ticks timer x.timers }) that k
