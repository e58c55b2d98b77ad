-- SCCP management (Q.714, 5.2 and 5.3): what each event of the control lane does, and a legal control journal.
use Rattle.std.specs.Prelude.{◌≡◌, ℕ, pred, ◌+◌, ◌*◌, ◌==◌, ◌&&◌, ◌||◌, nat_lt, nat_le, not, Bool, true, false, List, [], ◌∷◌, ◌++◌, length, map, filter, find, min, if◌then◌else◌, Option, Some, None, option_map, option_to_list}
use Rattle.std.specs.List.{list_any, list_all, insert, position_or_len, range_with_len}
use Rattle.relay_base.specs.declared.limits.TheConstants.{SUBSYSTEM_NUMBERS}
use Rattle.relay_base.specs.declared.words.Output.{Output}
use Rattle.relay_base.specs.declared.words.Output.TheVariants.{Told, Lost as Dropped}
use Rattle.relay_base.specs.declared.words.Lost.TheVariants as lost
use Rattle.relay_base.specs.declared.words.Reason.{Reason}
use Rattle.relay_base.specs.declared.words.Reason.TheVariants as reason
use Rattle.relay_base.specs.declared.words.Tell.{Tell}
use Rattle.relay_base.specs.declared.words.Tell.TheVariants as tell
use Rattle.relay_base.specs.declared.words.Request.{Request}
use Rattle.relay_base.specs.declared.words.Request.TheVariants as request
use Rattle.relay_base.specs.declared.words.Event.TheVariants.{Message as Arrived, Asked as Requested, Tick as TickEvent}
use Rattle.plant_core.specs.declared.change.Change.{Change}
use Rattle.plant_core.specs.declared.change.Change.TheVariants.{AddRow, DelRow, BarPoint, FreePoint, BarSub, FreeSub, LocalUp, LocalDown}
use Rattle.plant_core.specs.declared.change.Group.{Group}
use Rattle.plant_core.specs.declared.change.Verdict.{Verdict}
use Rattle.plant_core.specs.declared.change.Verdict.TheVariants.{Alters, Same, Duplicate, RowsFull, NoRow}
use Rattle.plant_core.specs.declared.entry.ControlEvent.{ControlEvent}
use Rattle.plant_core.specs.declared.entry.ControlEvent.TheVariants.{Plain, Change as Changing}
use Rattle.plant_core.specs.declared.entry.ControlEntry.{ControlEntry}
use Rattle.plant_core.specs.declared.statuses.RemoteSubsystem.{RemoteSubsystem}
use Rattle.plant_core.specs.declared.terms.Replicate.{Replicate}
use Rattle.plant_core.specs.declared.terms.Ticks.{Ticks}
use Rattle.plant_core.specs.Plant.{RoutingData, is_same_subsystem, is_in_service}
use Rattle.plant_core.specs.Changes.{verdict_on, is_alters, alone, group_verdict, plant_after, plant_after_all}
use Rattle.scmg.specs.declared.head.ControlHead.{ControlHead}
use Rattle.scmg.specs.declared.timed.Coordination.{Coordination}
use Rattle.scmg.specs.declared.effect.Act.{Act}
use Rattle.scmg.specs.declared.effect.Act.TheVariants.{Nothing, Publish, Remember, Forget, Begin, End, Tick}
use Rattle.scmg.specs.declared.effect.Effect.{Effect}
use Rattle.scmg_messages.specs.declared.message.Format.{Format}
use Rattle.scmg_messages.specs.declared.message.Format.TheVariants.{Allowed, Prohibited, StatusTest as Tested, OutOfServiceRequest, OutOfServiceGrant}
use Rattle.scmg_messages.specs.declared.message.Notice.{Notice}
use Rattle.scmg_messages.specs.Messages.{sent, notice_in, data_in}

-- The test of a subsystem of another point that is out of service: the ticks that go by before the one that sends it, and how many it was armed
-- with (Q.714, 5.3.4).
pub record StatusTest : Type 0 where
  pub point : ℕ
  pub ssn : ℕ
  pub left : ℕ
  pub interval : ℕ

-- What the control lane keeps: the routing data; the status tests, by rising point and subsystem; the coordinated changes that were asked for,
-- by rising subsystem; and the requests to go out of service that a user may still grant.
pub record Control : Type 0 where
  pub routing : RoutingData
  pub tests : List StatusTest
  pub coordinations : List Coordination
  pub grants : List RemoteSubsystem

abbrev pub start_of_control : RoutingData → Control
start_of_control routing = record { routing = routing; tests = []; coordinations = []; grants = [] }

-- Effects: outputs, and what is done with all this.

abbrev pub only : List Output → Effect
only outs = record { outs = outs; act = Nothing }

abbrev pub one : Output → Act → Effect
one output act = record { outs = output ∷ []; act = act }

abbrev pub quiet : Effect
quiet = only []

abbrev pub dropped : Effect
dropped = only (Dropped lost.Manage ∷ [])

abbrev pub refused : ℕ → Reason → Effect
refused ssn why = only (Told ssn (tell.No why) ∷ [])

-- Who is told: the users in service by rising number, but not the one that it is about (Q.714, 5.2 and 5.3).

abbrev pub is_about : Option ℕ → ℕ → Bool
is_about None ssn = false
is_about (Some subject) ssn = ssn == subject

abbrev pub is_told : RoutingData → Option ℕ → ℕ → Bool
is_told p subject ssn = is_in_service p ssn && not (is_about subject ssn)

abbrev pub told_among : RoutingData → Option ℕ → Tell → List ℕ → List Output
told_among p subject t numbers = map (λ ssn. Told ssn t) (filter (is_told p subject) numbers)

unfoldable pub subsystems : List ℕ
subsystems = range_with_len 0 SUBSYSTEM_NUMBERS

abbrev pub told_all : RoutingData → Option ℕ → Tell → List Output
told_all p subject t = told_among p subject t subsystems

-- A group of changes that alters the routing data is published whole. What its only change makes known, by the routing data after it: to the
-- users, and of a local subsystem to each concerned point. Several changes are of rows, which make nothing known.

abbrev pub service_format : Bool → Format
service_format up = if up then Allowed else Prohibited

abbrev pub to_concerned : ControlHead → RoutingData → Bool → ℕ → List Output
to_concerned head p up ssn = map (λ to. sent to (service_format up) ssn p.own) head.concerned

abbrev pub service_known : ControlHead → RoutingData → Bool → ℕ → List Output
service_known head p up ssn = told_all p (Some ssn) (tell.State ssn p.own up) ++ to_concerned head p up ssn

abbrev pub made_known : ControlHead → RoutingData → Change → List Output
made_known head p (AddRow row) = []
made_known head p (DelRow selector prefix) = []
made_known head p (BarPoint point) = told_all p None (tell.Point point false)
made_known head p (FreePoint point) = told_all p None (tell.Point point true)
made_known head p (BarSub point ssn) = told_all p None (tell.State ssn point false)
made_known head p (FreeSub point ssn) = told_all p None (tell.State ssn point true)
made_known head p (LocalUp ssn) = service_known head p true ssn
made_known head p (LocalDown ssn) = service_known head p false ssn

abbrev pub only_among : List Change → Option Change
only_among (change ∷ []) = Some change
only_among _ = None

abbrev pub known_by : ControlHead → RoutingData → Option Change → List Output
known_by head p None = []
known_by head p (Some change) = made_known head p change

abbrev pub publishes : ControlHead → RoutingData → Group → Effect
publishes head p group = record { outs = known_by head (plant_after p group) (only_among group.changes); act = Publish group }

-- A group of changes by an operator. Several changes together are of rows, and a subsystem of another point is barred and freed by messages
-- alone (Q.714, 5.2 and 5.3).

abbrev pub refusal : Verdict → List Output
refusal Alters = []
refusal Same = Dropped lost.Same ∷ []
refusal Duplicate = Dropped lost.Duplicate ∷ []
refusal RowsFull = Dropped lost.RowsFull ∷ []
refusal NoRow = Dropped lost.NoRow ∷ []

abbrev pub is_by_message : Change → Bool
is_by_message (BarSub point ssn) = true
is_by_message (FreeSub point ssn) = true
is_by_message _ = false

abbrev pub is_of_row : Change → Bool
is_of_row (AddRow row) = true
is_of_row (DelRow selector prefix) = true
is_of_row _ = false

abbrev pub is_by_operator : Group → Bool
is_by_operator group =
    not (list_any is_by_message group.changes) && (nat_le (length group.changes) 1 || list_all is_of_row group.changes)

abbrev pub changes : ControlHead → Control → Group → Effect
changes head c group =
    if not (is_by_operator group) then quiet
    else if is_alters (group_verdict c.routing group) then publishes head c.routing group
    else only (refusal (group_verdict c.routing group))

-- A message of management (Q.714, 5.3).

-- a change by a message is published where it alters the routing data, and else nothing comes of it
abbrev pub announced : ControlHead → Control → Change → Effect
announced head c change = if is_alters (verdict_on c.routing change) then publishes head c.routing (alone change) else quiet

-- a status test is answered where the subsystem is management or a user in service (Q.714, 5.3.4)
abbrev pub tested : Control → ℕ → ℕ → Effect
tested c opc ssn = if ssn == 1 || is_in_service c.routing ssn then only (sent opc Allowed ssn c.routing.own ∷ []) else quiet

abbrev pub is_replicate : ControlHead → ℕ → ℕ → Bool
is_replicate head point ssn = list_any (λ r. r.ssn == ssn && r.point == point) head.replicates

-- a replicate asks to go out of service: the user is told, and may grant it (Q.714, 5.3.5)
abbrev pub asked_out : ControlHead → Control → ℕ → ℕ → Effect
asked_out head c point ssn =
    if is_replicate head point ssn && is_in_service c.routing ssn
    then one (Told ssn (tell.Coord point)) (Remember (record { point = point; ssn = ssn })) else dropped

-- a coordinated change that was asked of this point (Q.714, 5.3.5)
abbrev pub is_asked_of : Control → ℕ → ℕ → Bool
is_asked_of c point ssn = list_any (λ x. x.ssn == ssn && x.point == point) c.coordinations

abbrev pub granted : Control → ℕ → ℕ → Effect
granted c opc ssn = if is_asked_of c opc ssn then one (Told ssn (tell.Granted opc)) (End ssn) else dropped

abbrev pub hears_notice : ControlHead → Control → ℕ → Notice → Effect
hears_notice head c opc n = hears n.format (n.point == c.routing.own)
  where
    hears : Format → Bool → Effect
    hears Allowed false = announced head c (FreeSub n.point n.ssn)
    hears Prohibited false = announced head c (BarSub n.point n.ssn)
    hears Tested true = tested c opc n.ssn
    hears OutOfServiceRequest _ = asked_out head c n.point n.ssn
    hears OutOfServiceGrant true = granted c opc n.ssn
    hears _ _ = dropped

abbrev pub hears_data : ControlHead → Control → ℕ → Option Notice → Effect
hears_data head c opc None = dropped
hears_data head c opc (Some notice) = hears_notice head c opc notice

abbrev pub hears : ControlHead → Control → ℕ → Option (List ℕ) → Effect
hears head c opc None = quiet
hears head c opc (Some b) = hears_data head c opc (notice_in b)

-- A user's request (Q.714, 5.3.5).

abbrev pub replicate_of : ControlHead → ℕ → Option Replicate
replicate_of head ssn = find (λ r. r.ssn == ssn) head.replicates

abbrev pub is_under_way : Control → ℕ → Bool
is_under_way c ssn = list_any (λ x. x.ssn == ssn) c.coordinations

abbrev pub coordinates_with : Control → ℕ → Option Replicate → Effect
coordinates_with c ssn None = refused ssn reason.Replicate
coordinates_with c ssn (Some r) =
    if is_under_way c ssn then refused ssn reason.State else one (sent r.point OutOfServiceRequest ssn c.routing.own) (Begin r)

abbrev pub may_grant : Control → ℕ → ℕ → Bool
may_grant c point ssn = list_any (is_same_subsystem point ssn) c.grants

abbrev pub grants : Control → ℕ → ℕ → Effect
grants c ssn point =
    if may_grant c point ssn
    then one (sent point OutOfServiceGrant ssn point) (Forget (record { point = point; ssn = ssn })) else refused ssn reason.State

abbrev pub asks : ControlHead → Control → ℕ → Request → Effect
asks head c ssn request.Coord = coordinates_with c ssn (replicate_of head ssn)
asks head c ssn (request.Grant point) = grants c ssn point
asks head c ssn _ = quiet

-- A tick: a status test that is due is sent to its point (Q.714, 5.3.4), and a coordinated change that is due is denied.

abbrev pub is_due_test : StatusTest → Bool
is_due_test t = t.left == 0

abbrev pub is_due_coordination : Coordination → Bool
is_due_coordination x = nat_le x.left 1

abbrev pub subsystem_of : StatusTest → RemoteSubsystem
subsystem_of t = record { point = t.point; ssn = t.ssn }

abbrev pub test_sent : RemoteSubsystem → Output
test_sent s = sent s.point Tested s.ssn s.point

abbrev pub denied : Coordination → Output
denied x = Told x.ssn (tell.Denied x.point)

abbrev pub tests_sent : List StatusTest → List Output
tests_sent tests = map test_sent (map subsystem_of (filter is_due_test tests))

abbrev pub ticks : Control → Effect
ticks c = record { outs = tests_sent c.tests ++ map denied (filter is_due_coordination c.coordinations); act = Tick }

unfoldable pub effect_of : ControlHead → Control → ControlEvent → Effect
effect_of head c (Changing group) = changes head c group
effect_of head c (Plain (Arrived opc sls bytes)) = hears head c opc (data_in bytes)
effect_of head c (Plain (Requested ssn r)) = asks head c ssn r
effect_of head c (Plain TickEvent) = ticks c

-- What an act leaves.

abbrev pub is_test_of : ℕ → ℕ → StatusTest → Bool
is_test_of point ssn t = t.point == point && t.ssn == ssn

abbrev pub test_begun : ℕ → ℕ → ℕ → StatusTest
test_begun ticks point ssn = record { point = point; ssn = ssn; left = pred ticks; interval = ticks }

-- a test stands before those of later points, and of later subsystems of its point
abbrev pub is_test_before : StatusTest → StatusTest → Bool
is_test_before t other = nat_lt t.point other.point || (t.point == other.point && nat_lt t.ssn other.ssn)

-- in place of one of its subsystem
abbrev pub with_test : StatusTest → List StatusTest → List StatusTest
with_test t tests = filter (λ other. is_test_before other t) tests ++ t ∷ filter (is_test_before t) tests

-- a test begins with its subsystem's going out of service, and ends with its coming back (Q.714, 5.3.4)
abbrev pub tests_after : Ticks → Option Change → List StatusTest → List StatusTest
tests_after ticks (Some (BarSub point ssn)) tests = with_test (test_begun ticks.status point ssn) tests
tests_after ticks (Some (FreeSub point ssn)) tests = filter (λ t. not (is_test_of point ssn t)) tests
tests_after ticks _ tests = tests

-- a test that was sent has twice the ticks, but no more than the most (Q.714, 5.3.4)
abbrev pub next_interval : Ticks → StatusTest → ℕ
next_interval ticks t = min (2 * t.interval) ticks.status_max

abbrev pub test_after_tick : Ticks → StatusTest → StatusTest
test_after_tick ticks t =
    if is_due_test t then test_begun (next_interval ticks t) t.point t.ssn else record t { left = pred t.left }

abbrev pub is_coordination_before : Coordination → Coordination → Bool
is_coordination_before x other = nat_lt x.ssn other.ssn

abbrev pub with_coordination : Coordination → List Coordination → List Coordination
with_coordination x list = insert list (position_or_len (is_coordination_before x) list) x

abbrev pub coordination_begun : Ticks → Replicate → Coordination
coordination_begun ticks r = record { ssn = r.ssn; point = r.point; left = ticks.coord }

abbrev pub without_coordination : ℕ → List Coordination → List Coordination
without_coordination ssn list = filter (λ x. not (x.ssn == ssn)) list

abbrev pub lowered : Coordination → Coordination
lowered x = record x { left = pred x.left }

abbrev pub coordinations_after_tick : List Coordination → List Coordination
coordinations_after_tick list = map lowered (filter (λ x. not (is_due_coordination x)) list)

abbrev pub without_grant : RemoteSubsystem → List RemoteSubsystem → List RemoteSubsystem
without_grant g list = filter (λ x. not (is_same_subsystem g.point g.ssn x)) list

-- two requests of one subsystem are granted once (Q.714, 5.3.5)
abbrev pub with_grant : RemoteSubsystem → List RemoteSubsystem → List RemoteSubsystem
with_grant g list = without_grant g list ++ g ∷ []

unfoldable pub control_after : Ticks → Control → Act → Control
control_after ticks c Nothing = c
control_after ticks c (Publish group) = record c {
  routing = plant_after c.routing group;
  tests = tests_after ticks (only_among group.changes) c.tests;
}
control_after ticks c (Remember g) = record c { grants = with_grant g c.grants }
control_after ticks c (Forget g) = record c { grants = without_grant g c.grants }
control_after ticks c (Begin r) = record c { coordinations = with_coordination (coordination_begun ticks r) c.coordinations }
control_after ticks c (End ssn) = record c { coordinations = without_coordination ssn c.coordinations }
control_after ticks c Tick = record c { tests = map (test_after_tick ticks) c.tests; coordinations = coordinations_after_tick c.coordinations }

abbrev pub change_of : Act → Option Group
change_of (Publish group) = Some group
change_of _ = None

-- What an event does: the outputs, what is kept after it, and the group of changes that it publishes.
pub record Managed : Type 0 where
  pub control : Control
  pub outs : List Output
  pub published : Option Group

abbrev pub managed_by : ControlHead → Control → Effect → Managed
managed_by head c effect = record { control = control_after head.ticks c effect.act; outs = effect.outs; published = change_of effect.act }

unfoldable pub managed : ControlHead → Control → ControlEvent → Managed
managed head c event = managed_by head c (effect_of head c event)

-- The journal.

-- a group that is published makes the next edition
abbrev pub edition_after : ℕ → Option Group → Option ℕ
edition_after edition group = option_map (λ _. edition + 1) group

abbrev pub count_after : ℕ → Option Group → ℕ
count_after edition None = edition
count_after edition (Some group) = edition + 1

-- an entry: its outputs, and the edition that it published, where so many were published before it
pub record IsLegalEntry (head : ControlHead) (c : Control) (edition : ℕ) (entry : ControlEntry) : Type 0 where
  pub outputs : entry.outs ≡ (managed head c entry.event).outs
  pub published : entry.published ≡ edition_after edition (managed head c entry.event).published

abbrev pub after_entry : ControlHead → Control → ControlEntry → Control
after_entry head c entry = (managed head c entry.event).control

abbrev pub LegalFrom : ControlHead → Control → ℕ → List ControlEntry → Type 0
LegalFrom head c edition [] = Unit {0}
LegalFrom head c edition (entry ∷ more) =
    IsLegalEntry head c edition entry
    × LegalFrom head (after_entry head c entry) (count_after edition (managed head c entry.event).published) more

-- the groups of changes that the entries publish, one after another
abbrev pub changes_from : ControlHead → Control → List ControlEntry → List Group
changes_from head c [] = []
changes_from head c (entry ∷ more) = option_to_list (managed head c entry.event).published ++ changes_from head (after_entry head c entry) more

-- the journal of a control lane that began with these routing data
abbrev pub IsControlJournal : ControlHead → RoutingData → List ControlEntry → Type 0
IsControlJournal head start journal = LegalFrom head (start_of_control start) 0 journal

abbrev pub changes_in : ControlHead → RoutingData → List ControlEntry → List Group
changes_in head start journal = changes_from head (start_of_control start) journal

abbrev pub routing_after : RoutingData → List Group → RoutingData
routing_after = plant_after_all
