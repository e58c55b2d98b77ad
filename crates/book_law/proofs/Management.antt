-- What the control lane sends is short: messages of management have two addresses of two octets, and five octets of data.
use Rattle.std.proofs.Common.{ℕ, ◌==◌, ◌||◌, ◌&&◌, not, Bool, true, false, List, [], ◌∷◌, map, filter, Option, Some, None, sym, subst, arith}
use Rattle.std.specs.List.{AllByRecursion}
use Rattle.relay_base.specs.declared.words.Event.TheVariants.{Message as Arrived, Asked as Requested, Tick as TickEvent}
use Rattle.relay_base.specs.declared.words.Output.TheVariants.{Told}
use Rattle.relay_base.specs.declared.words.Request.{Request}
use Rattle.relay_base.specs.declared.words.Request.TheVariants as request
use Rattle.relay_base.specs.declared.words.Tell.{Tell}
use Rattle.relay_base.specs.declared.words.Tell.TheVariants as tell
use Rattle.plant_core.specs.Changes.{verdict_on, is_alters, alone, group_verdict, plant_after}
use Rattle.plant_core.specs.Plant.{RoutingData, is_in_service}
use Rattle.plant_core.specs.declared.change.Change.{Change}
use Rattle.plant_core.specs.declared.change.Change.TheVariants.{AddRow, DelRow, BarPoint, FreePoint, BarSub, FreeSub, LocalUp, LocalDown}
use Rattle.plant_core.specs.declared.change.Group.{Group}
use Rattle.plant_core.specs.declared.change.Verdict.{Verdict}
use Rattle.plant_core.specs.declared.change.Verdict.TheVariants.{Alters, Same, Duplicate, RowsFull, NoRow}
use Rattle.plant_core.specs.declared.entry.ControlEntry.{ControlEntry}
use Rattle.plant_core.specs.declared.entry.ControlEvent.{ControlEvent}
use Rattle.plant_core.specs.declared.entry.ControlEvent.TheVariants.{Plain, Change as Changing}
use Rattle.plant_core.specs.declared.terms.Replicate.{Replicate}
use Rattle.q713_codec.specs.declared.message.Message.TheVariants.{Udt}
use Rattle.scmg_messages.specs.declared.message.Format.{Format}
use Rattle.scmg_messages.specs.declared.message.Format.TheVariants.{Allowed, Prohibited, StatusTest as Tested, OutOfServiceRequest, OutOfServiceGrant}
use Rattle.scmg_messages.specs.declared.message.Notice.{Notice}
use Rattle.scmg_messages.specs.Messages.{management, data_of, octets_of, data_in, notice_in}
use Rattle.scmg.specs.declared.effect.Effect.{Effect}
use Rattle.scmg.specs.declared.head.ControlHead.{ControlHead}
use Rattle.scmg.specs.Control.{Control, start_of_control, told_all, subsystems, is_told, service_format, to_concerned, service_known, made_known, only_among, known_by, publishes, refusal, is_by_operator, changes, announced, tested, is_replicate, asked_out, is_asked_of, granted, dropped, hears_notice, hears_data, hears, replicate_of, is_under_way, coordinates_with, may_grant, grants, asks, subsystem_of, test_sent, denied, is_due_test, is_due_coordination, tests_sent, ticks, effect_of, managed, count_after, after_entry, LegalFrom}
use Rattle.book_law.specs.LengthLaw.{FitsOne, IsCarried, AreCarried, ControlIsCarried}
use Rattle.book_law.proofs.Outputs.{either, all-append, all-given}
use Rattle.book_law.proofs.Spelling.{spelled}

pub management-fits : (format : Format) (ssn point : ℕ) → FitsOne (octets_of format ssn point)
management-fits format ssn point = spelled (Udt 0 management management (data_of format ssn point)) (omega arith, omega arith, omega arith)

abbrev EffectCarried : Effect → Type 0
EffectCarried effect = AreCarried effect.outs

-- Changes.

told-carried : (p : RoutingData) (subject : Option ℕ) (t : Tell) → AreCarried (told_all p subject t)
told-carried p subject t = all-given IsCarried (λ ssn. Told ssn t) (λ ssn. tt) (filter (is_told p subject) subsystems)

known-carried : (head : ControlHead) (p : RoutingData) (up : Bool) (ssn : ℕ) → AreCarried (service_known head p up ssn)
known-carried head p up ssn =
    all-append IsCarried (told_all p (Some ssn) (tell.State ssn p.own up)) (to_concerned head p up ssn)
    (told-carried p (Some ssn) (tell.State ssn p.own up))
    (all-given IsCarried _ (λ to. management-fits (service_format up) ssn p.own) head.concerned)

made-carried : (head : ControlHead) (p : RoutingData) (change : Change) → AreCarried (made_known head p change)
made-carried head p (AddRow row) = tt
made-carried head p (DelRow selector prefix) = tt
made-carried head p (BarPoint point) = told-carried p None (tell.Point point false)
made-carried head p (FreePoint point) = told-carried p None (tell.Point point true)
made-carried head p (BarSub point ssn) = told-carried p None (tell.State ssn point false)
made-carried head p (FreeSub point ssn) = told-carried p None (tell.State ssn point true)
made-carried head p (LocalUp ssn) = known-carried head p true ssn
made-carried head p (LocalDown ssn) = known-carried head p false ssn

known_by-carried : (head : ControlHead) (p : RoutingData) (change : Option Change) → AreCarried (known_by head p change)
known_by-carried head p None = tt
known_by-carried head p (Some change) = made-carried head p change

published-carried : (head : ControlHead) (p : RoutingData) (group : Group) → EffectCarried (publishes head p group)
published-carried head p group = known_by-carried head (plant_after p group) (only_among group.changes)

refusal-carried : (verdict : Verdict) → AreCarried (refusal verdict)
refusal-carried Alters = tt
refusal-carried Same = (tt, tt)
refusal-carried Duplicate = (tt, tt)
refusal-carried RowsFull = (tt, tt)
refusal-carried NoRow = (tt, tt)

changes-carried : (head : ControlHead) (c : Control) (group : Group) → EffectCarried (changes head c group)
changes-carried head c group =
    either EffectCarried (not (is_by_operator group)) _ _ tt
    (either EffectCarried (is_alters (group_verdict c.routing group)) _ _ (published-carried head c.routing group) (refusal-carried (group_verdict c.routing group)))

-- Messages.

announced-carried : (head : ControlHead) (c : Control) (change : Change) → EffectCarried (announced head c change)
announced-carried head c change = either EffectCarried (is_alters (verdict_on c.routing change)) _ _ (published-carried head c.routing (alone change)) tt

tested-carried : (c : Control) (opc ssn : ℕ) → EffectCarried (tested c opc ssn)
tested-carried c opc ssn = either EffectCarried (ssn == 1 || is_in_service c.routing ssn) _ _ (management-fits Allowed ssn c.routing.own, tt) tt

asked-carried : (head : ControlHead) (c : Control) (point ssn : ℕ) → EffectCarried (asked_out head c point ssn)
asked-carried head c point ssn = either EffectCarried (is_replicate head point ssn && is_in_service c.routing ssn) _ _ (tt, tt) (tt, tt)

granted-carried : (c : Control) (opc ssn : ℕ) → EffectCarried (granted c opc ssn)
granted-carried c opc ssn = either EffectCarried (is_asked_of c opc ssn) _ _ (tt, tt) (tt, tt)

by_case : {A : Type 0} (P : A → Type 0) (b : Bool) (x y : A) → P x → P y → P (elim b [ true ↦ x | false ↦ y ])
by_case P true x y f g = f
by_case P false x y f g = g

abbrev noticed : Format → ℕ → ℕ → Notice
noticed format ssn point = record { format = format; ssn = ssn; point = point }

notice-carried : (head : ControlHead) (c : Control) (opc : ℕ) (format : Format) (ssn point : ℕ) → EffectCarried (hears_notice head c opc (noticed format ssn point))
notice-carried head c opc Allowed ssn point =
    by_case EffectCarried (point == c.routing.own) dropped (announced head c (FreeSub point ssn)) (tt, tt) (announced-carried head c (FreeSub point ssn))
notice-carried head c opc Prohibited ssn point =
    by_case EffectCarried (point == c.routing.own) dropped (announced head c (BarSub point ssn)) (tt, tt) (announced-carried head c (BarSub point ssn))
notice-carried head c opc Tested ssn point =
    by_case EffectCarried (point == c.routing.own) (tested c opc ssn) dropped (tested-carried c opc ssn) (tt, tt)
notice-carried head c opc OutOfServiceRequest ssn point = asked-carried head c point ssn
notice-carried head c opc OutOfServiceGrant ssn point =
    by_case EffectCarried (point == c.routing.own) (granted c opc ssn) dropped (granted-carried c opc ssn) (tt, tt)

data-carried : (head : ControlHead) (c : Control) (opc : ℕ) (notice : Option Notice) → EffectCarried (hears_data head c opc notice)
data-carried head c opc None = (tt, tt)
data-carried head c opc (Some n) = notice-carried head c opc n.format n.ssn n.point

heard-carried : (head : ControlHead) (c : Control) (opc : ℕ) (bytes : Option (List ℕ)) → EffectCarried (hears head c opc bytes)
heard-carried head c opc None = tt
heard-carried head c opc (Some b) = data-carried head c opc (notice_in b)

-- Requests.

coordinated-carried : (c : Control) (ssn : ℕ) (r : Option Replicate) → EffectCarried (coordinates_with c ssn r)
coordinated-carried c ssn None = (tt, tt)
coordinated-carried c ssn (Some r) = either EffectCarried (is_under_way c ssn) _ _ (tt, tt) (management-fits OutOfServiceRequest ssn c.routing.own, tt)

grants-carried : (c : Control) (ssn point : ℕ) → EffectCarried (grants c ssn point)
grants-carried c ssn point = either EffectCarried (may_grant c point ssn) _ _ (management-fits OutOfServiceGrant ssn point, tt) (tt, tt)

asks-carried : (head : ControlHead) (c : Control) (ssn : ℕ) (r : Request) → EffectCarried (asks head c ssn r)
asks-carried head c ssn request.Coord = coordinated-carried c ssn (replicate_of head ssn)
asks-carried head c ssn (request.Grant point) = grants-carried c ssn point
asks-carried head c ssn _ = tt

-- A tick.

ticks-carried : (c : Control) → EffectCarried (ticks c)
ticks-carried c =
    all-append IsCarried (tests_sent c.tests) (map denied (filter is_due_coordination c.coordinations))
    (all-given IsCarried test_sent (λ s. management-fits Tested s.ssn s.point) (map subsystem_of (filter is_due_test c.tests)))
    (all-given IsCarried denied (λ x. tt) (filter is_due_coordination c.coordinations))

effect-carried : (head : ControlHead) (c : Control) (event : ControlEvent) → EffectCarried (effect_of head c event)
unfolding effect_of
effect-carried head c (Changing group) = changes-carried head c group
effect-carried head c (Plain (Arrived opc sls bytes)) = heard-carried head c opc (data_in bytes)
effect-carried head c (Plain (Requested ssn r)) = asks-carried head c ssn r
effect-carried head c (Plain TickEvent) = ticks-carried c

-- The journal.

managed-carried : (head : ControlHead) (c : Control) (event : ControlEvent) → AreCarried (managed head c event).outs
unfolding managed
managed-carried head c event = effect-carried head c event

journal-carried : (head : ControlHead) (c : Control) (edition : ℕ) (journal : List ControlEntry) → LegalFrom head c edition journal
    → AllByRecursion (λ e. AreCarried e.outs) journal
journal-carried head c edition [] legal = tt
journal-carried head c edition (entry ∷ journal) legal = (
  subst AreCarried (sym legal.0.outputs) (managed-carried head c entry.event),
  journal-carried head (after_entry head c entry) (count_after edition (managed head c entry.event).published) journal legal.1,
)

pub control_is_carried : ControlIsCarried
control_is_carried head start journal legal = journal-carried head (start_of_control start) 0 journal legal
