-- When a unit is taken.
use Rattle.std.proofs.Common.{◌≡◌, ◌⊎◌, inl, inr, ℕ, ◌==◌, ◌&&◌, ◌||◌, not, Bool, true, false, List, [], ◌∷◌, ◌++◌, Some, None, refl, sym, ◌∙◌, subst, eq-eqb}
use Rattle.std.specs.List.{list_any}
use Rattle.std.proofs.lemmas.Bool.{false≢true}
use Rattle.std.proofs.lemmas.List.Folds.{list_any-append}
use Rattle.relay_base.specs.declared.causes.TheConstants.{RESET_INCORRECT_RECEIVE_NUMBER, RESET_OUT_OF_WINDOW}
use Rattle.relay_base.specs.declared.words.Event.TheVariants.{Message as Arrived}
use Rattle.relay_base.specs.declared.words.Output.{Output}
use Rattle.plant_core.specs.declared.terms.Ticks.{Ticks}
use Rattle.q713_shape.specs.Writing.{octets_of}
use Rattle.q713_codec.specs.Writing.{spelling_of}
use Rattle.section_model.specs.declared.cell.Cell.TheVariants as cell
use Rattle.section_model.specs.declared.cell.Occasion.{Occasion}
use Rattle.section_model.specs.declared.cell.Occasion.TheVariants as on
use Rattle.section_model.specs.declared.cell.SectionState.TheVariants.{Up}
use Rattle.section_model.specs.declared.hand.Acted.{Acted}
use Rattle.section_model.specs.Table.{section_row, section_cell}
use Rattle.section_model.specs.Parameters.{Parameters, Arrival, arrival_in}
use Rattle.section_model.specs.Ends.{End, wire, DataUnit, SectionHead, Section, Timers, Connection, turned, gives_then, is_reached}
use Rattle.section_flow.specs.Windows.{is_valid, wrong_number}
use Rattle.section_model.specs.Line.{line_hears}
use Rattle.section_model.specs.Windowed.{Windowed, windowed_hears, is_next, is_used_up, resets, leaves, acknowledges}
use Rattle.section_model.specs.UserEnd.{handed}
use Rattle.section_model.specs.Acting.{timed, by_windows, line_in, section_hears}
use Rattle.section_model.specs.Coupling.{exchange, settles}
use Rattle.section_model.specs.Step.{names_both, ends_both, is_of_other_class, checked, hears_checked, in_touch, is_from_elsewhere, hears_message, on_windows, after_event, is_named, at_this as this_end, at_reference, heard_by, event_step, connection_step}
use Rattle.connection_law.specs.InStep.{connected, Meets, section_stage, stage_at, AreInStep, IsInStep, got_at}
use Rattle.connection_law.specs.Messages.{is_of_type}
use Rattle.connection_law.proofs.Flow.Flowing.{either, three_is_not_two}
use Rattle.connection_law.proofs.Flow.Ends.{kept_back}
use Rattle.connection_law.proofs.Flow.Ordering.{this_left}
use Rattle.connection_law.proofs.Message.Sent.{after_leaving}
use Rattle.hop_law.specs.TakingLaw.{AsksReset, IsFor, StandsAt, at_this, at_that, IsTaken, UnitsAreTaken}
use Rattle.hop_law.proofs.Exchanging.{both}
use Rattle.hop_law.proofs.Taking.{state_kept, Passes, unit_passes}
use Rattle.hop_law.proofs.Passing.{unit_in_message}

-- an end hands over a unit that came in
unit_kept : (ticks : Ticks) (done that : End) (u : DataUnit) → Meets connected (stage_at that) → got_at (settles ticks (done, gives_then [] (handed u ∷ [])) that).0.this ≡ got_at done
unfolding exchange Passes
unit_kept ticks done that u m = (unit_passes ticks u that done m).1

-- no check answers a message of data in its class
checked_none : (o : Occasion) (m : Parameters) (x : SectionHead) → names_both o ≡ false → ends_both o ≡ false → is_of_other_class o x ≡ false → checked o m x ≡ None
checked_none o m x a b c = rw (a, b, c) refl

from_its_point : (point : ℕ) (x : SectionHead) → x.point ≡ point → is_from_elsewhere point x ≡ false
from_its_point point x e = neither (is_reached x.state) (point == x.point) (eq-eqb point x.point (sym e))
  where
    neither : (a b : Bool) → b ≡ true → (a && not b) ≡ false
    neither true true e = refl
    neither true false e = absurd (false≢true e)
    neither false b e = refl

-- a message that the checks let through
heard_as : (P : Connection × List Output → Type 0) (ticks : Ticks) (o : Occasion) (point : ℕ) (m : Parameters) (x : Section) (that : End)
    → x.head.point ≡ point → checked o m x.head ≡ None → P (settles ticks (section_hears ticks (section_cell x.head.state o) point m (in_touch ticks x)) that)
    → P (hears_message ticks o point m x that)
unfolding hears_message
heard_as P ticks o point m x that e none p =
    either P (is_from_elsewhere point x.head) _ _ (λ elsewhere. absurd (false≢true (sym (from_its_point point x.head e) ∙ elsewhere)))
    (λ _. subst (λ c. P (settles ticks (hears_checked ticks o point m (in_touch ticks x) c) that)) (sym none) p)

-- DT1 in class 2.

GetsUnit : Section → Parameters → Connection × List Output → Type 0
GetsUnit x m r = got_at r.0.this ≡ x.windows.got ++ unit_in_message m ∷ []

line_takes_unit : (ticks : Ticks) (point : ℕ) (m : Parameters) (x : Section) (t : Timers) (that : End) → x.head.class ≡ 2 → Meets connected (stage_at that)
    → GetsUnit x m (settles ticks (section_hears ticks cell.TakeData point m (record x { timers = t })) that)
unfolding GetsUnit section_hears line_hears
line_takes_unit ticks point m x t that two meets =
    either (λ (done : Section × Acted). got_at (settles ticks (timed ticks (record x { timers = t }) done) that).0.this ≡ x.windows.got ++ unit_in_message m ∷ []) (x.head.class == 3) _ _
    (λ three. absurd (three_is_not_two x.head.class three two))
    (λ _. let u = unit_in_message m in
    unit_kept ticks _ that u meets ∙ state_kept (record x { timers = t }) (record (line_in x) { got = x.windows.got ++ u ∷ [] }) refl)

dt1_heard : (ticks : Ticks) (point : ℕ) (m : Parameters) (x : Section) (that : End) → x.head.state ≡ Up → x.head.point ≡ point → x.head.class ≡ 2 → Meets connected (stage_at that)
    → GetsUnit x m (hears_message ticks on.Dt1 point m x that)
unfolding section_row
dt1_heard ticks point m x that up e two meets =
    heard_as (GetsUnit x m) ticks on.Dt1 point m x that e (checked_none on.Dt1 m x.head refl refl (rw (up, two) refl))
    (subst (λ s. GetsUnit x m (settles ticks (section_hears ticks (section_cell s on.Dt1) point m (in_touch ticks x)) that)) (sym up)
    (line_takes_unit ticks point m x (in_touch ticks x).timers that two meets))

-- DT2 in class 3.

GetsOrResets : Section → Parameters → Connection × List Output → Type 0
GetsOrResets x m r = (got_at r.0.this ≡ x.windows.got ++ unit_in_message m ∷ []) ⊎ AsksReset r.1

unfoldable WindowsGet : Ticks → Parameters → Section → Timers → End → Windowed × Acted → Type 0
WindowsGet ticks m x t that r = GetsOrResets x m (settles ticks (timed ticks (record x { timers = t }) (by_windows (λ w. r) (record x { timers = t }))) that)

reset_asked : (ticks : Ticks) (m : Parameters) (x : Section) (t : Timers) (that : End) (cause : ℕ) → WindowsGet ticks m x t that (resets cause (record { head = x.head; windows = x.windows }))
unfolding WindowsGet GetsOrResets exchange spelling_of octets_of
reset_asked ticks m x t that cause = inr refl

windows_take_unit : (ticks : Ticks) (point : ℕ) (m : Parameters) (x : Section) (t : Timers) (that : End) → x.head.class ≡ 3 → Meets connected (stage_at that)
    → GetsOrResets x m (settles ticks (section_hears ticks cell.TakeNumberedData point m (record x { timers = t })) that)
unfolding WindowsGet GetsOrResets section_hears windowed_hears
windows_take_unit ticks point m x t that three meets =
    let w : Windowed = record { head = x.head; windows = x.windows } in
    either (λ (done : Section × Acted). GetsOrResets x m (settles ticks (timed ticks (record x { timers = t }) done) that)) (x.head.class == 3) _ _
    (λ _. either (WindowsGet ticks m x t that) (not (is_next m w)) _ _ (λ _. reset_asked ticks m x t that (wrong_number x.windows))
    (λ _. either (WindowsGet ticks m x t that) (is_used_up w) _ _ (λ _. reset_asked ticks m x t that RESET_OUT_OF_WINDOW)
    (λ _. either (WindowsGet ticks m x t that) (not (is_valid m.pr x.windows)) _ _ (λ _. reset_asked ticks m x t that RESET_INCORRECT_RECEIVE_NUMBER)
    (λ _. inl (unit_kept ticks _ that (unit_in_message m) meets)))))
    (λ other. absurd (false≢true (sym other ∙ eq-eqb x.head.class 3 three)))

dt2_heard : (ticks : Ticks) (point : ℕ) (m : Parameters) (x : Section) (that : End) → x.head.state ≡ Up → x.head.point ≡ point → x.head.class ≡ 3 → Meets connected (stage_at that)
    → GetsOrResets x m (hears_message ticks on.Dt2 point m x that)
unfolding section_row
dt2_heard ticks point m x that up e three meets =
    heard_as (GetsOrResets x m) ticks on.Dt2 point m x that e (checked_none on.Dt2 m x.head refl refl (rw (up, three) refl))
    (subst (λ s. GetsOrResets x m (settles ticks (section_hears ticks (section_cell s on.Dt2) point m (in_touch ticks x)) that)) (sym up)
    (windows_take_unit ticks point m x (in_touch ticks x).timers that three meets))

-- At an end of a connection.

meets_up : (x : Section) (that : End) → x.head.state ≡ Up → AreInStep (wire x) that → Meets connected (stage_at that)
meets_up x that up k = subst (λ s. Meets (section_stage s) (stage_at that)) up k.0

pub any_first : (p : Output → Bool) (a b : List Output) → list_any p a ≡ true → list_any p (a ++ b) ≡ true
any_first p a b is = rw (list_any-append p a b, is) refl

pub any_last : (p : Output → Bool) (a b : List Output) → list_any p b ≡ true → list_any p (a ++ b) ≡ true
any_last p a b is = rw (list_any-append p a b, is) (either_way (list_any p a))
  where
    either_way : (first : Bool) → (first || true) ≡ true
    either_way true = refl
    either_way false = refl

-- the outputs of the event are among those of the step
pub any_after : (p : Output → Bool) (ticks : Ticks) (r : Connection × List Output) → list_any p r.1 ≡ true → list_any p (after_event ticks r).1 ≡ true
unfolding after_event
any_after p ticks r is =
    let d = this_left ticks r.0 in
    let after = this_left ticks (turned d) in
    let f = (on_windows ticks acknowledges after.that after.this).0 in
    four_more r.1 (on_windows ticks leaves r.0.this r.0.that).1 (on_windows ticks leaves d.that d.this).1
    (on_windows ticks acknowledges after.that after.this).1 (on_windows ticks acknowledges f.that f.this).1 is
  where
    four_more : (a b c d e : List Output) → list_any p a ≡ true → list_any p ((((a ++ b) ++ c) ++ d) ++ e) ≡ true
    four_more a b c d e is = any_first p (((a ++ b) ++ c) ++ d) e (any_first p ((a ++ b) ++ c) d (any_first p (a ++ b) c (any_first p a b is)))

-- where a message acts
at_end : (P : End → List Output → Type 0) (part : Section → End → Connection × List Output) (reference : ℕ) (c : Connection) (x : Section) (end : Connection → End)
    → IsInStep c → is_named reference (wire x) ≡ true → StandsAt reference c x end → ((that : End) → AreInStep (wire x) that → P (part x that).0.this (part x that).1)
    → P (end (at_reference reference part c).0) (at_reference reference part c).1
at_end P part reference c x end k named (at_this e) acts =
    either (λ (r : Connection × List Output). P r.0.this r.1) (is_named reference c.this) _ _
    (λ _. subst (λ this. P (this_end part (both this c.that)).0.this (this_end part (both this c.that)).1) (sym e) (acts c.that (subst (λ this. AreInStep this c.that) e k)))
    (λ no. absurd (false≢true (sym no ∙ subst (λ this. is_named reference this ≡ true) (sym e) named)))
at_end P part reference c x end k named (at_that e other) acts =
    either (λ (r : Connection × List Output). P r.0.that r.1) (is_named reference c.this) _ _
    (λ yes. absurd (false≢true (sym other ∙ yes)))
    (λ _. subst (λ that. P (this_end part (both that c.this)).0.this (this_end part (both that c.this)).1) (sym e) (acts c.this (subst (λ that. AreInStep that c.this) e (kept_back c k))))

-- what follows the event keeps what came in at either end
end_after : (ticks : Ticks) (c : Connection) (x : Section) (reference : ℕ) (end : Connection → End) (r : Connection × List Output) → StandsAt reference c x end
    → got_at (end (after_event ticks r).0) ≡ got_at (end r.0)
end_after ticks c x reference end r (at_this e) = (after_leaving ticks r).0.got
end_after ticks c x reference end r (at_that e other) = (after_leaving ticks r).1.got

heard_at : (P : End → List Output → Type 0) (ticks : Ticks) (c : Connection) (point sls : ℕ) (bytes : List ℕ) (a : Arrival) (x : Section) (end : Connection → End)
    → IsInStep c → arrival_in bytes ≡ Some a → IsFor point a x → StandsAt a.parameters.dlr c x end
    → ((that : End) → AreInStep (wire x) that → let r = hears_message ticks a.occasion point a.parameters x that in P r.0.this r.1)
    → (let r = event_step ticks c (Arrived point sls bytes) in P (end r.0) r.1)
heard_at P ticks c point sls bytes a x end k e for stands acts =
    subst (λ b. let r = heard_by ticks point b c in P (end r.0) r.1) (sym e)
    (at_end P (hears_message ticks a.occasion point a.parameters) a.parameters.dlr c x end k for.named stands acts)

dt1_taken : (ticks : Ticks) (c : Connection) (point sls : ℕ) (bytes : List ℕ) (a : Arrival) (x : Section) (end : Connection → End)
    → IsInStep c → arrival_in bytes ≡ Some a → a.occasion ≡ on.Dt1 → IsFor point a x → StandsAt a.parameters.dlr c x end → x.head.class ≡ 2
    → IsTaken x a (end (connection_step ticks c (Arrived point sls bytes)).0)
unfolding connection_step GetsUnit
dt1_taken ticks c point sls bytes a x end k e occasion for stands two =
    end_after ticks c x a.parameters.dlr end (event_step ticks c (Arrived point sls bytes)) stands
    ∙ heard_at (λ after outs. IsTaken x a after) ticks c point sls bytes a x end k e for stands
    (λ that in_step. subst (λ o. IsTaken x a (hears_message ticks o point a.parameters x that).0.this) (sym occasion)
    (dt1_heard ticks point a.parameters x that for.up for.point two (meets_up x that for.up in_step)))

dt2_taken : (ticks : Ticks) (c : Connection) (point sls : ℕ) (bytes : List ℕ) (a : Arrival) (x : Section) (end : Connection → End)
    → IsInStep c → arrival_in bytes ≡ Some a → a.occasion ≡ on.Dt2 → IsFor point a x → StandsAt a.parameters.dlr c x end → x.head.class ≡ 3
    → (let r = connection_step ticks c (Arrived point sls bytes) in IsTaken x a (end r.0) ⊎ AsksReset r.1)
unfolding connection_step GetsOrResets
dt2_taken ticks c point sls bytes a x end k e occasion for stands three =
    let r = event_step ticks c (Arrived point sls bytes) in
    afterwards r (end_after ticks c x a.parameters.dlr end r stands)
    (heard_at (λ after outs. IsTaken x a after ⊎ AsksReset outs) ticks c point sls bytes a x end k e for stands
    (λ that in_step. subst (λ o. let r = hears_message ticks o point a.parameters x that in IsTaken x a r.0.this ⊎ AsksReset r.1) (sym occasion)
    (dt2_heard ticks point a.parameters x that for.up for.point three (meets_up x that for.up in_step))))
  where
    afterwards : (r : Connection × List Output) → got_at (end (after_event ticks r).0) ≡ got_at (end r.0) → IsTaken x a (end r.0) ⊎ AsksReset r.1
        → IsTaken x a (end (after_event ticks r).0) ⊎ AsksReset (after_event ticks r).1
    afterwards r same (inl taken) = inl (same ∙ taken)
    afterwards r same (inr asked) = inr (any_after (is_of_type 0x0D) ticks r asked)

pub units_are_taken : UnitsAreTaken
units_are_taken = record { dt1 = dt1_taken; dt2 = dt2_taken }
