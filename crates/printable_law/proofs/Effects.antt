-- What an event of the control lane does is in its ranges.
use Rattle.std.proofs.Common.{ℕ, zero, suc, ◌+◌, ◌≤◌, ◌==◌, ◌||◌, ◌&&◌, not, Bool, true, false, List, [], ◌∷◌, map, filter, find, Option, Some, None, arith}
use Rattle.std.specs.Prelude.{IfSome}
use Rattle.std.specs.List.{AllByRecursion, range_with_len}
use Rattle.relay_base.specs.declared.words.Event.TheVariants.{Message as Arrived, Asked as Requested, Tick as TickEvent}
use Rattle.relay_base.specs.declared.words.Output.TheVariants.{Told}
use Rattle.relay_base.specs.declared.words.Request.{Request}
use Rattle.relay_base.specs.declared.words.Request.TheVariants as request
use Rattle.relay_base.specs.declared.words.Tell.{Tell}
use Rattle.relay_base.specs.declared.words.Tell.TheVariants as tell
use Rattle.plant_core.specs.Changes.{verdict_on, is_alters, alone, group_verdict, plant_after}
use Rattle.plant_core.specs.Plant.{RoutingData, is_in_service}
use Rattle.plant_core.specs.declared.change.Change.{Change}
use Rattle.plant_core.specs.declared.change.Change.TheVariants.{AddRow, DelRow, BarPoint, FreePoint, BarSub, FreeSub, LocalUp, LocalDown}
use Rattle.plant_core.specs.declared.change.Group.{Group}
use Rattle.plant_core.specs.declared.change.Verdict.{Verdict}
use Rattle.plant_core.specs.declared.change.Verdict.TheVariants.{Alters, Same, Duplicate, RowsFull, NoRow}
use Rattle.plant_core.specs.declared.entry.ControlEvent.{ControlEvent}
use Rattle.plant_core.specs.declared.entry.ControlEvent.TheVariants.{Plain, Change as Changing}
use Rattle.plant_core.specs.declared.statuses.RemoteSubsystem.{RemoteSubsystem}
use Rattle.plant_core.specs.declared.terms.Replicate.{Replicate}
use Rattle.scmg_messages.specs.declared.message.Format.{Format}
use Rattle.scmg_messages.specs.declared.message.Format.TheVariants.{Allowed, Prohibited, StatusTest as Tested, OutOfServiceRequest, OutOfServiceGrant}
use Rattle.scmg_messages.specs.declared.message.Notice.{Notice}
use Rattle.scmg_messages.specs.Messages.{data_in, notice_in}
use Rattle.scmg.specs.declared.effect.Act.{Act}
use Rattle.scmg.specs.declared.effect.Act.TheVariants as act
use Rattle.scmg.specs.declared.effect.Effect.{Effect}
use Rattle.scmg.specs.declared.head.ControlHead.{ControlHead}
use Rattle.scmg.specs.declared.timed.Coordination.{Coordination}
use Rattle.scmg.specs.Control.{StatusTest, Control, told_all, subsystems, is_told, service_format, to_concerned, service_known, made_known, only_among, known_by, publishes, refusal, is_by_operator, changes, announced, tested, is_replicate, asked_out, is_asked_of, granted, dropped, hears_notice, hears_data, hears, replicate_of, is_under_way, coordinates_with, may_grant, grants, asks, subsystem_of, test_sent, denied, is_due_test, is_due_coordination, tests_sent, ticks, effect_of}
use Rattle.printable_law.specs.OctetLaw.{IsOctet, AreOctets}
use Rattle.printable_law.specs.Ranges.{IsPoint, RequestInRange, ChangeInRange, GroupInRange, ControlEventInRange, RoutingInRange, NoticeInRange, TellInRange, OutputInRange, OutputsInRange}
use Rattle.printable_law.proofs.Lists.{either, all-append, all-map, all-filter}
use Rattle.printable_law.proofs.Management.{management_keeps_ranges}
use Rattle.printable_law.proofs.Routing.{routing_keeps_ranges}
use Rattle.printable_law.specs.ManagementRanges.{ReplicateInRange, ControlHeadInRange}

-- What the lane keeps.

abbrev pub SubsystemInRange : RemoteSubsystem → Type 0
SubsystemInRange s = IsPoint s.point × IsOctet s.ssn

abbrev pub TestInRange : StatusTest → Type 0
TestInRange t = IsPoint t.point × IsOctet t.ssn

abbrev pub CoordinationInRange : Coordination → Type 0
CoordinationInRange x = IsOctet x.ssn × IsPoint x.point

pub record ControlInRange (c : Control) : Type 0 where
  pub routing : RoutingInRange c.routing
  pub tests : AllByRecursion TestInRange c.tests
  pub coordinations : AllByRecursion CoordinationInRange c.coordinations

abbrev pub ActInRange : Act → Type 0
ActInRange (act.Publish group) = GroupInRange group
ActInRange (act.Begin r) = ReplicateInRange r
ActInRange _ = Unit {0}

abbrev pub EffectInRange : Effect → Type 0
EffectInRange effect = OutputsInRange effect.outs × ActInRange effect.act

-- Changes.

range-octets : (first count : ℕ) → first + count ≤ 256 → AllByRecursion IsOctet (range_with_len first count)
range-octets first zero few = tt
range-octets first (suc count) few = (omega (arith, few), range-octets (first + 1) count (omega (arith, few)))

subsystems-octets : AllByRecursion IsOctet subsystems
unfolding subsystems
subsystems-octets = range-octets 0 256 (omega arith)

told-given : (p : RoutingData) (subject : Option ℕ) (t : Tell) → TellInRange t → OutputsInRange (told_all p subject t)
told-given p subject t in_range =
    all-map IsOctet OutputInRange (λ ssn. Told ssn t) (λ ssn small. (small, in_range)) (filter (is_told p subject) subsystems)
    (all-filter IsOctet (is_told p subject) subsystems subsystems-octets)

known-given : (head : ControlHead) (p : RoutingData) (up : Bool) (ssn : ℕ) → ControlHeadInRange head → RoutingInRange p → IsOctet ssn
    → OutputsInRange (service_known head p up ssn)
known-given head p up ssn told routing small =
    all-append OutputInRange (told_all p (Some ssn) (tell.State ssn p.own up)) (to_concerned head p up ssn)
    (told-given p (Some ssn) (tell.State ssn p.own up) (small, routing.own))
    (all-map IsPoint OutputInRange _ (λ to at. management_keeps_ranges.sent to (service_format up) ssn p.own at small routing.own) head.concerned told.concerned)

made-given : (head : ControlHead) (p : RoutingData) (change : Change) → ControlHeadInRange head → RoutingInRange p → ChangeInRange change
    → OutputsInRange (made_known head p change)
made-given head p (AddRow row) told routing in_range = tt
made-given head p (DelRow selector prefix) told routing in_range = tt
made-given head p (BarPoint point) told routing in_range = told-given p None (tell.Point point false) in_range
made-given head p (FreePoint point) told routing in_range = told-given p None (tell.Point point true) in_range
made-given head p (BarSub point ssn) told routing in_range = told-given p None (tell.State ssn point false) (in_range.1, in_range.0)
made-given head p (FreeSub point ssn) told routing in_range = told-given p None (tell.State ssn point true) (in_range.1, in_range.0)
made-given head p (LocalUp ssn) told routing in_range = known-given head p true ssn told routing in_range
made-given head p (LocalDown ssn) told routing in_range = known-given head p false ssn told routing in_range

known_by-given : (head : ControlHead) (p : RoutingData) (change : Option Change) → ControlHeadInRange head → RoutingInRange p → IfSome change ChangeInRange
    → OutputsInRange (known_by head p change)
known_by-given head p None told routing in_range = tt
known_by-given head p (Some change) told routing in_range = made-given head p change told routing in_range

pub only-in : (changes : List Change) → AllByRecursion ChangeInRange changes → IfSome (only_among changes) ChangeInRange
only-in [] all = tt
only-in (change ∷ []) all = all.0
only-in (change ∷ other ∷ more) all = tt

published-given : (head : ControlHead) (p : RoutingData) (group : Group) → ControlHeadInRange head → RoutingInRange p → GroupInRange group
    → EffectInRange (publishes head p group)
published-given head p group told routing in_range =
    (known_by-given head (plant_after p group) (only_among group.changes) told (routing_keeps_ranges.changes p group routing in_range) (only-in group.changes in_range), in_range)

refusal-given : (verdict : Verdict) → OutputsInRange (refusal verdict)
refusal-given Alters = tt
refusal-given Same = (tt, tt)
refusal-given Duplicate = (tt, tt)
refusal-given RowsFull = (tt, tt)
refusal-given NoRow = (tt, tt)

changes-given : (head : ControlHead) (c : Control) (group : Group) → ControlHeadInRange head → ControlInRange c → GroupInRange group → EffectInRange (changes head c group)
changes-given head c group told kept in_range =
    either EffectInRange (not (is_by_operator group)) _ _ (tt, tt)
    (either EffectInRange (is_alters (group_verdict c.routing group)) _ _ (published-given head c.routing group told kept.routing in_range)
    (refusal-given (group_verdict c.routing group), tt))

-- Messages.

announced-given : (head : ControlHead) (c : Control) (change : Change) → ControlHeadInRange head → ControlInRange c → ChangeInRange change
    → EffectInRange (announced head c change)
announced-given head c change told kept in_range =
    either EffectInRange (is_alters (verdict_on c.routing change)) _ _ (published-given head c.routing (alone change) told kept.routing (in_range, tt)) (tt, tt)

tested-given : (c : Control) (opc ssn : ℕ) → ControlInRange c → IsPoint opc → IsOctet ssn → EffectInRange (tested c opc ssn)
tested-given c opc ssn kept p small =
    either EffectInRange (ssn == 1 || is_in_service c.routing ssn) _ _ ((management_keeps_ranges.sent opc Allowed ssn c.routing.own p small kept.routing.own, tt), tt) (tt, tt)

asked-given : (head : ControlHead) (c : Control) (point ssn : ℕ) → IsPoint point → IsOctet ssn → EffectInRange (asked_out head c point ssn)
asked-given head c point ssn p small =
    either EffectInRange (is_replicate head point ssn && is_in_service c.routing ssn) _ _ (((small, p), tt), tt) ((tt, tt), tt)

granted-given : (c : Control) (opc ssn : ℕ) → IsPoint opc → IsOctet ssn → EffectInRange (granted c opc ssn)
granted-given c opc ssn p small = either EffectInRange (is_asked_of c opc ssn) _ _ (((small, p), tt), tt) ((tt, tt), tt)

by_case : {A : Type 0} (P : A → Type 0) (b : Bool) (x y : A) → P x → P y → P (elim b [ true ↦ x | false ↦ y ])
by_case P true x y f g = f
by_case P false x y f g = g

abbrev noticed : Format → ℕ → ℕ → Notice
noticed format ssn point = record { format = format; ssn = ssn; point = point }

notice-given : (head : ControlHead) (c : Control) (opc : ℕ) (format : Format) (ssn point : ℕ) → ControlHeadInRange head → ControlInRange c → IsPoint opc
    → IsOctet ssn → IsPoint point → EffectInRange (hears_notice head c opc (noticed format ssn point))
notice-given head c opc Allowed ssn point told kept p small at =
    by_case EffectInRange (point == c.routing.own) dropped (announced head c (FreeSub point ssn)) ((tt, tt), tt) (announced-given head c (FreeSub point ssn) told kept (at, small))
notice-given head c opc Prohibited ssn point told kept p small at =
    by_case EffectInRange (point == c.routing.own) dropped (announced head c (BarSub point ssn)) ((tt, tt), tt) (announced-given head c (BarSub point ssn) told kept (at, small))
notice-given head c opc Tested ssn point told kept p small at =
    by_case EffectInRange (point == c.routing.own) (tested c opc ssn) dropped (tested-given c opc ssn kept p small) ((tt, tt), tt)
notice-given head c opc OutOfServiceRequest ssn point told kept p small at = asked-given head c point ssn at small
notice-given head c opc OutOfServiceGrant ssn point told kept p small at =
    by_case EffectInRange (point == c.routing.own) (granted c opc ssn) dropped (granted-given c opc ssn p small) ((tt, tt), tt)

data-given : (head : ControlHead) (c : Control) (opc : ℕ) (notice : Option Notice) → ControlHeadInRange head → ControlInRange c → IsPoint opc
    → IfSome notice NoticeInRange → EffectInRange (hears_data head c opc notice)
data-given head c opc None told kept p in_range = ((tt, tt), tt)
data-given head c opc (Some n) told kept p in_range = notice-given head c opc n.format n.ssn n.point told kept p in_range.0 in_range.1

heard-given : (head : ControlHead) (c : Control) (opc : ℕ) (bytes : Option (List ℕ)) → ControlHeadInRange head → ControlInRange c → IsPoint opc
    → IfSome bytes AreOctets → EffectInRange (hears head c opc bytes)
heard-given head c opc None told kept p are = (tt, tt)
heard-given head c opc (Some b) told kept p are = data-given head c opc (notice_in b) told kept p (management_keeps_ranges.noticed b are)

-- Requests.

found-replicate : (ssn : ℕ) (replicates : List Replicate) → AllByRecursion ReplicateInRange replicates → IfSome (find (λ r. r.ssn == ssn) replicates) ReplicateInRange
found-replicate ssn [] all = tt
found-replicate ssn (r ∷ replicates) all =
    either (λ (found : Option Replicate). IfSome found ReplicateInRange) (r.ssn == ssn) (Some r) (find (λ r. r.ssn == ssn) replicates) all.0 (found-replicate ssn replicates all.1)

coordinated-given : (c : Control) (ssn : ℕ) (r : Option Replicate) → ControlInRange c → IsOctet ssn → IfSome r ReplicateInRange → EffectInRange (coordinates_with c ssn r)
coordinated-given c ssn None kept small in_range = (((small, tt), tt), tt)
coordinated-given c ssn (Some r) kept small in_range =
    either EffectInRange (is_under_way c ssn) _ _ (((small, tt), tt), tt)
    ((management_keeps_ranges.sent r.point OutOfServiceRequest ssn c.routing.own in_range.1 small kept.routing.own, tt), in_range)

grants-given : (c : Control) (ssn point : ℕ) → IsOctet ssn → IsPoint point → EffectInRange (grants c ssn point)
grants-given c ssn point small p =
    either EffectInRange (may_grant c point ssn) _ _ ((management_keeps_ranges.sent point OutOfServiceGrant ssn point p small p, tt), tt) (((small, tt), tt), tt)

asks-given : (head : ControlHead) (c : Control) (ssn : ℕ) (r : Request) → ControlHeadInRange head → ControlInRange c → IsOctet ssn → RequestInRange r
    → EffectInRange (asks head c ssn r)
asks-given head c ssn request.Coord told kept small asked = coordinated-given c ssn (replicate_of head ssn) kept small (found-replicate ssn head.replicates told.replicates)
asks-given head c ssn (request.Grant point) told kept small asked = grants-given c ssn point small asked
asks-given head c ssn _ told kept small asked = (tt, tt)

-- A tick.

ticks-given : (c : Control) → ControlInRange c → EffectInRange (ticks c)
ticks-given c kept = (
  all-append OutputInRange (tests_sent c.tests) (map denied (filter is_due_coordination c.coordinations))
      (all-map SubsystemInRange OutputInRange test_sent (λ s in_range. management_keeps_ranges.sent s.point Tested s.ssn s.point in_range.0 in_range.1 in_range.0)
      (map subsystem_of (filter is_due_test c.tests))
      (all-map TestInRange SubsystemInRange subsystem_of (λ t in_range. in_range) (filter is_due_test c.tests) (all-filter TestInRange is_due_test c.tests kept.tests)))
      (all-map CoordinationInRange OutputInRange denied (λ x in_range. in_range) (filter is_due_coordination c.coordinations)
      (all-filter CoordinationInRange is_due_coordination c.coordinations kept.coordinations)),
  tt,
)

pub effect-given : (head : ControlHead) (c : Control) (event : ControlEvent) → ControlHeadInRange head → ControlInRange c → ControlEventInRange event
    → EffectInRange (effect_of head c event)
unfolding effect_of
effect-given head c (Changing group) told kept taken = changes-given head c group told kept taken
effect-given head c (Plain (Arrived opc sls bytes)) told kept taken = heard-given head c opc (data_in bytes) told kept taken.0 (management_keeps_ranges.heard bytes taken.2)
effect-given head c (Plain (Requested ssn r)) told kept taken = asks-given head c ssn r told kept taken.0 taken.1
effect-given head c (Plain TickEvent) told kept taken = ticks-given c kept
