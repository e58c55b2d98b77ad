-- What was sent as DT2 on each end of a connection since the counts were last cleared (Q.714, 3.5.2).
use Rattle.std.specs.Prelude.{◌≡◌, ℕ, ◌==◌, ◌&&◌, ◌≤◌, List, [], ◌∷◌, ◌++◌, length, take, if◌then◌else◌, Option, Some}
use Rattle.relay_base.specs.declared.words.Event.{Event}
use Rattle.plant_core.specs.declared.answer.Answer.{Answer}
use Rattle.plant_core.specs.declared.terms.Terms.{Terms}
use Rattle.plant_core.specs.declared.terms.Ticks.{Ticks}
use Rattle.relay_base.specs.declared.limits.TheConstants.{GREATEST_CREDIT}
use Rattle.section_flow.specs.declared.unit.Unit.{Unit as DataUnit}
use Rattle.section_model.specs.Ends.{End, wire, owner, Connection, is_up}
use Rattle.section_model.specs.Windowed.{leaves}
use Rattle.section_flow.specs.Windows.{may_leave}
use Rattle.section_model.specs.Step.{event_step, on_windows}
use Rattle.section_model.specs.Opening.{wish_of, opened}
use Rattle.section_model.specs.Lane.{next, heard, follow}
use Rattle.connection_law.specs.InStep.{passed_at, got_at}

-- The units that left on the one end and on the other, in order.
pub record SentUnits : Type 0 where
  pub this : List DataUnit
  pub that : List DataUnit

-- the units that leave on an end after an event
abbrev pub leaving_count : End → ℕ
leaving_count (wire x) = if is_up x.head.state && x.head.class == 3 then may_leave x.windows else 0
leaving_count (owner u) = 0

abbrev pub leaving : End → List DataUnit
leaving (wire x) = take (leaving_count (wire x)) x.windows.waits
leaving (owner u) = []

-- those sent before, which are none where the event cleared the counts: then the count of units sent is 0
abbrev pub since_cleared : End → List DataUnit → List DataUnit
since_cleared (wire x) before = if x.windows.sent == 0 then [] else before
since_cleared (owner u) before = before

abbrev pub with_leaving : End → List DataUnit → List DataUnit
with_leaving e before = since_cleared e before ++ leaving e

-- after one more event: units leave on the one end, and then on the other
abbrev pub sent_next : Ticks → Connection → Event → SentUnits → SentUnits
sent_next ticks c event before =
    let acted = (event_step ticks c event).0 in
    let this_left = (on_windows ticks leaves acted.this acted.that).0 in
    record { this = with_leaving acted.this before.this; that = with_leaving this_left.that before.that }

unfoldable pub sent_along : Ticks → Connection → List Event → SentUnits → SentUnits
sent_along ticks c [] before = before
sent_along ticks c (event ∷ events) before = sent_along ticks (next ticks c event) events (sent_next ticks c event before)

-- on a section of class 3 these are the first units of the other end, as many as left, and as many as the count of units sent says
abbrev pub AreSentInOrder : List DataUnit → End → End → Type 0
AreSentInOrder units (wire x) other = x.head.class ≡ 3 → (units ≡ take (passed_at other) (got_at other)) × (length units ≡ x.windows.sent)
AreSentInOrder units (owner u) other = Unit {0}

abbrev pub AllSentInOrder : SentUnits → Connection → Type 0
AllSentInOrder sent c = AreSentInOrder sent.this c.this c.that × AreSentInOrder sent.that c.that c.this

-- The law, from an opening on.
abbrev pub OrderLaw : Type 0
OrderLaw =
    (terms : Terms) (event : Event) (answer : Option Answer) (references : List ℕ) (c : Connection) (events : List Event)
    → terms.credit ≤ GREATEST_CREDIT
    → (opened terms (wish_of terms event) answer references).connection ≡ Some c
    → (let hears = heard terms.ticks c events in
    AllSentInOrder (sent_along terms.ticks c hears (record { this = []; that = [] })) (follow terms.ticks c hears))
