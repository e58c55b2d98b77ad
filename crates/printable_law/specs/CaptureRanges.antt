-- The laws of the ranges of captures: their heads, their stamps and their events are in them.
use Rattle.std.specs.Prelude.{◌≡◌, ℕ, ◌<◌, ◌≤◌, List, length, Ok, IfOk}
use Rattle.std.specs.List.{AllByRecursion}
use Rattle.relay_base.specs.declared.limits.TheConstants.{MOST_LANES}
use Rattle.relay_base.specs.declared.words.Stamp.{Stamp}
use Rattle.plant_core.specs.declared.entry.ControlEvent.{ControlEvent}
use Rattle.plant_core.specs.declared.terms.Replicate.{Replicate}
use Rattle.node_head.specs.Head.{head_of_text}
use Rattle.node_head.specs.declared.head.Head.{Head}
use Rattle.capture_form.specs.Capture.{capture_of}
use Rattle.capture_form.specs.Events.{Stamped, all_events}
use Rattle.capture_form.specs.declared.capture.Capture.{Capture}
use Rattle.printable_law.specs.OctetLaw.{IsOctet}
use Rattle.printable_law.specs.Ranges.{IsPoint, RowInRange, ControlEventInRange}

-- what lanes are told of a head
pub record HeadInRange (head : Head) : Type 0 where
  pub point : IsPoint head.point
  pub conn_lanes : head.conn_lanes ≤ MOST_LANES
  pub links : head.links < 256
  pub credit : IsOctet head.credit
  pub concerned : AllByRecursion IsPoint head.concerned
  pub rows : AllByRecursion RowInRange head.row
  pub replicates : AllByRecursion (λ (r : Replicate). IsOctet r.ssn × IsPoint r.point) head.replicate

-- a stamp's phase and line have four octets, and its link one
pub record StampInRange (stamp : Stamp) : Type 0 where
  pub phase : stamp.phase < 4_294_967_296
  pub link : IsOctet stamp.link
  pub line : stamp.line < 4_294_967_296

abbrev pub StampedInRange : Stamp × ControlEvent → Type 0
StampedInRange e = StampInRange e.0 × ControlEventInRange e.1

abbrev pub PhasesInRange : List (List Stamped) → Type 0
PhasesInRange phases = AllByRecursion (λ (lists : List Stamped). AllByRecursion (λ (events : Stamped). AllByRecursion StampedInRange events) lists) phases

-- a head and phases in their ranges, whose events have four octets for their number
pub record InputInRange (head : Head) (phases : List (List Stamped)) : Type 0 where
  pub told : HeadInRange head
  pub events : PhasesInRange phases
  pub few : length (all_events phases) < 4_294_967_296

abbrev pub HeadsAreInRange : Type 0
HeadsAreInRange = (text : List ℕ) → IfOk (head_of_text text) HeadInRange

abbrev pub CapturesAreInRange : Type 0
CapturesAreInRange = (bytes : List ℕ) (capture : Capture) → capture_of bytes ≡ Ok capture → InputInRange capture.head capture.phases
