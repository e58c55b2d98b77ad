-- The units that leave on a section in one step (Q.714, 3.5.1 and 3.5.2), as they are read of its messages: in class 2 those that come in at the other
-- end by it, and in class 3 the next ones of the other end.
use Rattle.std.specs.Prelude.{IsTrue, ◌≡◌, ◌≢◌, ◌⊎◌, ◌<◌, List, [], ◌++◌, take, drop}
use Rattle.relay_base.specs.declared.limits.TheConstants.{REFERENCES}
use Rattle.relay_base.specs.declared.words.Event.{Event}
use Rattle.plant_core.specs.declared.terms.Ticks.{Ticks}
use Rattle.section_model.specs.Ends.{End, wire, owner, DataUnit, SectionHead, Section, Connection}
use Rattle.section_model.specs.Lengths.{UnitsWithin}
use Rattle.section_model.specs.Step.{hears, connection_step}
use Rattle.hop_law.specs.Units.{units_on}
use Rattle.connection_law.specs.InStep.{class_at, got_at, sent_at, IsInStep}
use Rattle.connection_law.specs.Messages.{acted, stepped}

-- the end that is meant, and the other one
pub data AreSides : (Connection → End) → (Connection → End) → Type 0 where
  this_and_that : AreSides (λ c. c.this) (λ c. c.that)
  that_and_this : AreSides (λ c. c.that) (λ c. c.this)

-- the other end is no section to the same point
abbrev pub IsApart : SectionHead → End → Type 0
IsApart y (wire x) = x.head.point ≢ y.point
IsApart y (owner u) = Unit {0}

-- these units come in at an end, and no others; or what came in begins anew, and they are none
abbrev pub ComeIn : List DataUnit → End → End → Type 0
ComeIn units before after = (got_at after ≡ got_at before ++ units) ⊎ ((units ≡ []) × (got_at after ≡ []))

-- on a section that is of class 2 before and after the step
abbrev pub LeavesAtOnce : Type 0
LeavesAtOnce =
    (ticks : Ticks) (c : Connection) (event : Event) (end other : Connection → End) (y : Section) →
    IsTrue (hears c event) → IsInStep c → AreSides end other → end c ≡ wire y → y.head.class ≡ 2 → class_at (end (stepped ticks c event)) ≡ 2 →
    y.head.other < REFERENCES → IsApart y.head (other c) →
    ComeIn (units_on y.head (connection_step ticks c event).1) (other c) (other (stepped ticks c event))

-- on a section that is of class 3, before the step and as the event itself leaves it
abbrev pub LeavesInWindow : Type 0
LeavesInWindow =
    (ticks : Ticks) (c : Connection) (event : Event) (end other : Connection → End) (y : Section) →
    IsTrue (hears c event) → IsInStep c → AreSides end other → class_at (end c) ≡ 3 → end (acted ticks c event) ≡ wire y → y.head.class ≡ 3 →
    y.head.other < REFERENCES → IsApart y.head (other (acted ticks c event)) →
    (let d = stepped ticks c event in
    let units = drop y.windows.sent (take (sent_at (end d)) (got_at (other d))) in
    UnitsWithin units → units_on y.head (connection_step ticks c event).1 ≡ units)

pub record UnitsLeave : Type 0 where
  pub at_once : LeavesAtOnce
  pub in_window : LeavesInWindow
