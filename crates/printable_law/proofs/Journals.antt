-- What the control lane gives, and what it publishes, is in its ranges.
use Rattle.std.proofs.Common.{ℕ, ◌==◌, not, List, [], ◌∷◌, take, drop, filter, Option, Some, None, sym, subst}
use Rattle.std.specs.Prelude.{IfSome, option_to_list}
use Rattle.std.specs.List.{AllByRecursion, position_or_len}
use Rattle.plant_core.specs.Plant.{RoutingData}
use Rattle.plant_core.specs.declared.change.Change.{Change}
use Rattle.plant_core.specs.declared.change.Change.TheVariants.{AddRow, DelRow, BarPoint, FreePoint, BarSub, FreeSub, LocalUp, LocalDown}
use Rattle.plant_core.specs.declared.change.Group.{Group}
use Rattle.plant_core.specs.declared.entry.ControlEntry.{ControlEntry}
use Rattle.plant_core.specs.declared.entry.ControlEvent.{ControlEvent}
use Rattle.plant_core.specs.declared.terms.Ticks.{Ticks}
use Rattle.scmg.specs.declared.effect.Act.{Act}
use Rattle.scmg.specs.declared.effect.Act.TheVariants as act
use Rattle.scmg.specs.declared.head.ControlHead.{ControlHead}
use Rattle.scmg.specs.declared.timed.Coordination.{Coordination}
use Rattle.scmg.specs.Control.{StatusTest, Control, start_of_control, only_among, effect_of, is_test_of, test_begun, is_test_before, with_test, tests_after, is_due_test, test_after_tick, is_due_coordination, is_coordination_before, with_coordination, coordination_begun, lowered, control_after, change_of, managed, count_after, after_entry, LegalFrom, changes_from}
use Rattle.printable_law.specs.Ranges.{ChangeInRange, GroupInRange, ControlEventInRange, RoutingInRange, OutputsInRange}
use Rattle.printable_law.proofs.Lists.{either, all-append, all-map, all-filter, all-take, all-drop}
use Rattle.printable_law.proofs.Routing.{routing_keeps_ranges}
use Rattle.printable_law.specs.ManagementRanges.{ControlHeadInRange, EventsInRange, ControlKeepsRanges}
use Rattle.printable_law.proofs.Effects.{TestInRange, CoordinationInRange, ControlInRange, ActInRange, EffectInRange, only-in, effect-given}

-- What an act leaves.

abbrev TestsInRange : List StatusTest → Type 0
TestsInRange tests = AllByRecursion TestInRange tests

with_test-in : (t : StatusTest) (tests : List StatusTest) → TestInRange t → TestsInRange tests → TestsInRange (with_test t tests)
with_test-in t tests one all =
    all-append TestInRange (filter (λ other. is_test_before other t) tests) (t ∷ filter (is_test_before t) tests)
    (all-filter TestInRange (λ other. is_test_before other t) tests all) (one, all-filter TestInRange (is_test_before t) tests all)

tests-in : (ticks : Ticks) (change : Option Change) (tests : List StatusTest) → IfSome change ChangeInRange → TestsInRange tests → TestsInRange (tests_after ticks change tests)
tests-in ticks None tests in_range all = all
tests-in ticks (Some (AddRow row)) tests in_range all = all
tests-in ticks (Some (DelRow selector prefix)) tests in_range all = all
tests-in ticks (Some (BarPoint point)) tests in_range all = all
tests-in ticks (Some (FreePoint point)) tests in_range all = all
tests-in ticks (Some (BarSub point ssn)) tests in_range all = with_test-in (test_begun ticks.status point ssn) tests in_range all
tests-in ticks (Some (FreeSub point ssn)) tests in_range all = all-filter TestInRange (λ t. not (is_test_of point ssn t)) tests all
tests-in ticks (Some (LocalUp ssn)) tests in_range all = all
tests-in ticks (Some (LocalDown ssn)) tests in_range all = all

ticked-test : (ticks : Ticks) (t : StatusTest) → TestInRange t → TestInRange (test_after_tick ticks t)
ticked-test ticks t in_range = either TestInRange (is_due_test t) _ _ in_range in_range

coordination-in : (x : Coordination) (list : List Coordination) → CoordinationInRange x → AllByRecursion CoordinationInRange list
    → AllByRecursion CoordinationInRange (with_coordination x list)
coordination-in x list one all =
    let place = position_or_len (is_coordination_before x) list in
    all-append CoordinationInRange (take place list) (x ∷ drop place list) (all-take CoordinationInRange place list all) (one, all-drop CoordinationInRange place list all)

act-leaves : (ticks : Ticks) (c : Control) (a : Act) → ControlInRange c → ActInRange a → ControlInRange (control_after ticks c a)
unfolding control_after
act-leaves ticks c act.Nothing kept in_range = kept
act-leaves ticks c (act.Publish group) kept in_range = record {
  routing = routing_keeps_ranges.changes c.routing group kept.routing in_range;
  tests = tests-in ticks (only_among group.changes) c.tests (only-in group.changes in_range) kept.tests;
  coordinations = kept.coordinations;
}
act-leaves ticks c (act.Remember g) kept in_range = record { routing = kept.routing; tests = kept.tests; coordinations = kept.coordinations }
act-leaves ticks c (act.Forget g) kept in_range = record { routing = kept.routing; tests = kept.tests; coordinations = kept.coordinations }
act-leaves ticks c (act.Begin r) kept in_range =
    record { routing = kept.routing; tests = kept.tests; coordinations = coordination-in (coordination_begun ticks r) c.coordinations in_range kept.coordinations }
act-leaves ticks c (act.End ssn) kept in_range =
    record { routing = kept.routing; tests = kept.tests; coordinations = all-filter CoordinationInRange (λ x. not (x.ssn == ssn)) c.coordinations kept.coordinations }
act-leaves ticks c act.Tick kept in_range = record {
  routing = kept.routing;
  tests = all-map TestInRange TestInRange (test_after_tick ticks) (ticked-test ticks) c.tests kept.tests;
  coordinations =
      all-map CoordinationInRange CoordinationInRange lowered (λ x one. one) (filter (λ x. not (is_due_coordination x)) c.coordinations)
      (all-filter CoordinationInRange (λ x. not (is_due_coordination x)) c.coordinations kept.coordinations);
}

act-publishes : (a : Act) → ActInRange a → IfSome (change_of a) GroupInRange
act-publishes act.Nothing in_range = tt
act-publishes (act.Publish group) in_range = in_range
act-publishes (act.Remember g) in_range = tt
act-publishes (act.Forget g) in_range = tt
act-publishes (act.Begin r) in_range = tt
act-publishes (act.End ssn) in_range = tt
act-publishes act.Tick in_range = tt

-- An event.

pub record ManagedInRange (head : ControlHead) (c : Control) (event : ControlEvent) : Type 0 where
  pub outs : OutputsInRange (managed head c event).outs
  pub after : ControlInRange (managed head c event).control
  pub published : IfSome (managed head c event).published GroupInRange

managed-in : (head : ControlHead) (c : Control) (event : ControlEvent) → ControlHeadInRange head → ControlInRange c → ControlEventInRange event → ManagedInRange head c event
unfolding managed
managed-in head c event told kept taken =
    let good : EffectInRange (effect_of head c event) = effect-given head c event told kept taken in record {
      outs = good.0;
      after = act-leaves head.ticks c (effect_of head c event).act kept good.1;
      published = act-publishes (effect_of head c event).act good.1;
    }

-- The journal.

started : (start : RoutingData) → RoutingInRange start → ControlInRange (start_of_control start)
started start routing = record { routing = routing; tests = tt; coordinations = tt }

journal-given : (head : ControlHead) (c : Control) (edition : ℕ) (journal : List ControlEntry) → ControlHeadInRange head → ControlInRange c → LegalFrom head c edition journal
    → EventsInRange journal → AllByRecursion (λ e. OutputsInRange e.outs) journal
journal-given head c edition [] told kept legal events = tt
journal-given head c edition (entry ∷ journal) told kept legal events =
    let step = managed-in head c entry.event told kept events.0 in (
      subst OutputsInRange (sym legal.0.outputs) step.outs,
      journal-given head (after_entry head c entry) (count_after edition (managed head c entry.event).published) journal told step.after legal.1 events.1,
    )

listed : (group : Option Group) → IfSome group GroupInRange → AllByRecursion GroupInRange (option_to_list group)
listed None in_range = tt
listed (Some group) in_range = (in_range, tt)

changes-given : (head : ControlHead) (c : Control) (journal : List ControlEntry) → ControlHeadInRange head → ControlInRange c → EventsInRange journal
    → AllByRecursion GroupInRange (changes_from head c journal)
changes-given head c [] told kept events = tt
changes-given head c (entry ∷ journal) told kept events =
    let step = managed-in head c entry.event told kept events.0 in
    all-append GroupInRange (option_to_list (managed head c entry.event).published) (changes_from head (after_entry head c entry) journal)
    (listed (managed head c entry.event).published step.published) (changes-given head (after_entry head c entry) journal told step.after events.1)

pub control_keeps_ranges : ControlKeepsRanges
control_keeps_ranges = record {
  outputs = λ head start journal told routing legal events. journal-given head (start_of_control start) 0 journal told (started start routing) legal events;
  changes = λ head start journal told routing events. changes-given head (start_of_control start) journal told (started start routing) events;
}
