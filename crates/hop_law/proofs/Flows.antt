-- The units on their way from one section to the other, once both know each other.
use Rattle.std.proofs.Common.{◌≡◌, ◌≢◌, ◌⊎◌, inl, inr, ℕ, ◌==◌, ◌&&◌, true, false, List, [], ◌∷◌, ◌++◌, Option, Some, None, refl, sym, ◌∙◌, ap, subst, append-nil}
use Rattle.std.specs.List.{AllByRecursion, list_any}
use Rattle.std.proofs.lemmas.Bool.{false≢true, eqb-true}
use Rattle.relay_base.specs.declared.words.Event.{Event}
use Rattle.relay_base.specs.declared.words.Event.TheVariants.{Message as Arrived, Asked as Requested, Tick}
use Rattle.plant_core.specs.declared.terms.Ticks.{Ticks}
use Rattle.section_model.specs.declared.cell.SectionState.{SectionState}
use Rattle.section_model.specs.declared.cell.SectionState.TheVariants.{Asked, Asking, Up, Resetting, Gone}
use Rattle.section_model.specs.Parameters.{Arrival, arrival_in}
use Rattle.section_model.specs.Ends.{End, wire, DataUnit, SectionHead, Section, Connection, is_up, is_gone, is_connected}
use Rattle.section_model.specs.Step.{destination_of}
use Rattle.section_model.specs.Lane.{fed, part_by}
use Rattle.hop_law.specs.Units.{carries, units_by, units_for}
use Rattle.connection_law.specs.InStep.{class_at}
use Rattle.connection_law.proofs.Flow.Flowing.{either}
use Rattle.hop_law.specs.ClearingLaw.{is_reset}
use Rattle.hop_law.specs.ClosingLaw.{may_take, is_resetting}
use Rattle.hop_law.proofs.Passing.{second_true}
use Rattle.hop_law.specs.Waiting.{Waiting, messages_to, units_waiting}
use Rattle.hop_law.specs.TakenAlong.{brought_to, ArrivalFits, Fits}
use Rattle.hop_law.specs.Hop.{GotNothing, IsElsewhere}
use Rattle.hop_law.proofs.Along.{not_before}
use Rattle.hop_law.proofs.Lists.{all_joined}
use Rattle.hop_law.specs.SectionLaw.{is_early}
use Rattle.hop_law.specs.Going.{BringsOfClass, BringOfClass}
use Rattle.hop_law.specs.Unset.{Nothing}
use Rattle.hop_law.proofs.ComingIn.{units_come_in}
use Rattle.hop_law.proofs.Going.{sends_of_class}
use Rattle.hop_law.proofs.Unset.{nothing_passes}
use Rattle.hop_law.proofs.Queues.{none_first, none_alone, none_of_class, NoneConfirm}
use Rattle.hop_law.proofs.Counts.{Counted, counted_sent, counted_joined, counted_still, counted_taken}
use Rattle.hop_law.proofs.Sides.{IsSide, NoConfirmBy, Moved}

-- What a node meets: an event from elsewhere, or the first of the messages that wait for it; and the messages that wait then.
pub data Comes (point : ℕ) (e : End) (queue : List Waiting) : Event → List Waiting → Type 0 where
  elsewhere : (event : Event) → IsElsewhere point e event → Comes point e queue event queue
  first : (m : Waiting) (rest : List Waiting) → queue ≡ m ∷ rest → Comes point e queue (Arrived point m.sls m.bytes) rest

comes_rest : (point : ℕ) (e : End) (queue rest : List Waiting) (event : Event) (P : Waiting → Type 0) → Comes point e queue event rest → AllByRecursion P queue → AllByRecursion P rest
comes_rest point e queue rest event P (elsewhere _ is) all = all
comes_rest point e queue rest event P (first m _ is) all =
    let both : AllByRecursion P (m ∷ rest) = subst (AllByRecursion P) is all in both.1

-- no message that waits is CC for the other end, and so the event isn't
pub comes_no_confirm : (point : ℕ) (e : End) (queue rest : List Waiting) (event : Event) (reference : Option ℕ) → Comes point e queue event rest → NoneConfirm reference queue
    → NoConfirmBy point reference event × NoneConfirm reference rest
comes_no_confirm point e queue rest event reference (elsewhere _ is) none = (by_event event is, none)
  where
    by_event : (event : Event) → IsElsewhere point e event → NoConfirmBy point reference event
    by_event (Arrived from sls bytes) is = λ same. absurd (is.0 same)
    by_event (Requested ssn r) is = tt
    by_event Tick is = tt
comes_no_confirm point e queue rest event reference (first m _ is) none =
    let all : NoneConfirm reference (m ∷ rest) = subst (NoneConfirm reference) is none in (λ same. all.0, all.1)

-- From elsewhere comes nothing for the section.

not_for : (mine : ℕ) (a : Arrival) → destination_of (Some a) ≢ Some mine → (carries a.occasion && a.parameters.dlr == mine) ≡ true → ⊥
not_for mine a differs carried = differs (ap (λ (dlr : ℕ). Some dlr) (eqb-true a.parameters.dlr mine (second_true (carries a.occasion) (a.parameters.dlr == mine) carried)))

none_for : (mine : ℕ) (a : Option Arrival) → destination_of a ≢ Some mine → units_by mine a ≡ []
none_for mine None differs = refl
none_for mine (Some a) differs =
    either (λ (units : List DataUnit). units ≡ []) (carries a.occasion && a.parameters.dlr == mine) _ _ (λ carried. absurd (not_for mine a differs carried)) (λ _. refl)

elsewhere_none : (point : ℕ) (r : Section) (event : Event) → IsElsewhere point (wire r) event → brought_to (wire r) event ≡ []
unfolding units_for
elsewhere_none point r (Arrived from sls bytes) is =
    either (λ (units : List DataUnit). units ≡ []) (is_up r.head.state) _ _ (λ _. none_for r.head.mine (arrival_in bytes) is.1) (λ _. refl)
elsewhere_none point r (Requested ssn request) is = refl
elsewhere_none point r Tick is = refl

elsewhere_fits : (point : ℕ) (r : Section) (event : Event) → IsElsewhere point (wire r) event → Fits (wire r) event
elsewhere_fits point r (Arrived from sls bytes) is = λ up. by_arrival (arrival_in bytes) is.1
  where
    by_arrival : (a : Option Arrival) → destination_of a ≢ Some r.head.mine → ArrivalFits from r.head a
    by_arrival None differs = tt
    by_arrival (Some a) differs = λ carried. absurd (not_for r.head.mine a differs carried)
elsewhere_fits point r (Requested ssn request) is = tt
elsewhere_fits point r Tick is = tt

-- what comes to the section is of its class
pub fits_event : (point : ℕ) (r : Section) (queue rest : List Waiting) (event : Event) → Comes point (wire r) queue event rest → r.head.point ≡ point
    → (may_take r.head.state ≡ true → BringOfClass r.head.mine r.head.class queue) → Fits (wire r) event
fits_event point r queue rest event (elsewhere _ is) from of_class = elsewhere_fits point r event is
fits_event point r queue rest event (first m _ is) from of_class =
    λ up. by_arrival (arrival_in m.bytes) (subst (BringOfClass r.head.mine r.head.class) is (of_class (ap may_take up))).0
  where
    by_arrival : (a : Option Arrival) → BringsOfClass r.head.mine r.head.class a → ArrivalFits point r.head a
    by_arrival None fits = tt
    by_arrival (Some a) fits = λ carried. (from, fits carried)

-- where no unit for the section waits, none comes
pub brought_none : (point : ℕ) (r : Section) (queue rest : List Waiting) (event : Event) → Comes point (wire r) queue event rest → units_waiting r.head.mine queue ≡ []
    → brought_to (wire r) event ≡ []
brought_none point r queue rest event (elsewhere _ is) none = elsewhere_none point r event is
brought_none point r queue rest event (first m _ is) none =
    either (λ (units : List DataUnit). units ≡ []) (is_up r.head.state) _ _
    (λ _. (none_first r.head.mine m rest (sym (ap (units_waiting r.head.mine) is) ∙ none)).0) (λ _. refl)

pub comes_none : (point : ℕ) (e : End) (queue rest : List Waiting) (event : Event) (reference : ℕ) → Comes point e queue event rest → units_waiting reference queue ≡ []
    → units_waiting reference rest ≡ []
comes_none point e queue rest event reference (elsewhere _ is) none = none
comes_none point e queue rest event reference (first m _ is) none = (none_first reference m rest (sym (ap (units_waiting reference) is) ∙ none)).1

-- States of a section.

up_only : (s : SectionState) → may_take s ≡ true → is_early s ≡ false → is_up s ≡ true
up_only Up may set = refl
up_only Asked may set = absurd (false≢true (sym set))
up_only Asking may set = absurd (false≢true (sym set))
up_only _ may set = absurd (false≢true may)

not_up : (s : SectionState) → may_take s ≡ false → is_up s ≡ false
not_up Up not = not
not_up _ not = refl

not_connected : (s : SectionState) → may_take s ≡ false → is_resetting s ≡ false → is_connected s ≡ false
not_connected Up not done = not
not_connected Resetting not done = done
not_connected _ not done = refl

pub gone_only : (s : SectionState) → is_gone s ≡ true → s ≡ Gone
gone_only Gone e = refl
gone_only _ e = absurd (false≢true e)

-- What came in, after what a node meets.

counted_received : (point : ℕ) (r later : Section) (sent : List DataUnit) (queue rest : List Waiting) (event : Event) → Comes point (wire r) queue event rest
    → later.windows.got ≡ r.windows.got ++ brought_to (wire r) event → (may_take later.head.state ≡ true → may_take r.head.state ≡ true) → is_early r.head.state ≡ false
    → Counted r.head.mine r sent queue → Counted r.head.mine later sent rest
counted_received point r later sent queue rest event (elsewhere _ is) come opens set k =
    counted_still r.head.mine r later sent queue (come ∙ rw (elsewhere_none point r event is) (append-nil r.windows.got)) opens k
counted_received point r later sent queue rest event (first m _ is) come opens set k =
    counted_taken r.head.mine r later sent (brought_to (wire r) (Arrived point m.sls m.bytes)) m rest come opens (λ may. rw (up_only r.head.state may set) refl)
    (λ not. rw (not_up r.head.state not) refl) (subst (Counted r.head.mine r sent) is k)

-- a connection at which nothing came in, and whose section takes no units: it will send none
abbrev pub IsIdle : Connection → Section → Type 0
IsIdle c s = (may_take s.head.state ≡ false) × GotNothing c

-- Of what was sent from the section `s` of a connection for the reference of `r`: what came in there, and what waits. As long as units are taken, what
-- waits is of the section's class, and so is what will be sent, if anything will.
pub record Flows (reference : ℕ) (c : Connection) (s r : Section) (sent : List DataUnit) (queue : List Waiting) : Type 0 where
  pub counted : Counted reference r sent queue
  pub of_class : may_take r.head.state ≡ true → BringOfClass reference r.head.class queue
  pub agrees : may_take r.head.state ≡ true → (s.head.class ≡ r.head.class) ⊎ IsIdle c s

-- the connection of `s` meets an event
pub flows_sent : (ticks : Ticks) (event : Event) (h : SectionHead) (reference : Option ℕ) (end other : Connection → End) (c : Connection) (s r : Section) (sent : List DataUnit)
    (queue : List Waiting) → IsSide h reference end other c s → (moved : Moved h reference end other (fed ticks c event) s) → is_early s.head.state ≡ false → Flows h.other c s r sent queue
    → (let more = messages_to h.point (part_by ticks event c) in
    Flows h.other (fed ticks c event) moved.after.section r (sent ++ units_waiting h.other more) (queue ++ more))
flows_sent ticks event h reference end other c s r sent queue side moved set flows = record {
  counted = counted_sent h.other r sent queue more flows.counted;
  of_class = λ may. all_joined (λ (m : Waiting). BringsOfClass h.other r.head.class (arrival_in m.bytes)) queue more (flows.of_class may) (more_of_class (flows.agrees may));
  agrees = λ may. later_agrees (flows.agrees may);
}
  where
    more : List Waiting
    more = messages_to h.point (part_by ticks event c)

    d : Connection
    d = fed ticks c event

    nothing : IsIdle c s → Nothing d (part_by ticks event c)
    nothing idle = nothing_passes ticks c event end other s side.sound side.sides side.is (not_connected s.head.state idle.0 side.not_reset) idle.1

    more_of_class : (s.head.class ≡ r.head.class) ⊎ IsIdle c s → BringOfClass h.other r.head.class more
    more_of_class (inl same) =
        subst (λ (class : ℕ). BringOfClass h.other class more) (ap class_at moved.after.is ∙ ((moved.after.class set).class ∙ same))
        (sends_of_class ticks c event end other h h.other side.sound side.sides side.apart moved.side.apart)
    more_of_class (inr idle) = none_of_class h.other r.head.class more ((nothing idle).waits h.other h.point)

    later_agrees : (s.head.class ≡ r.head.class) ⊎ IsIdle c s → (moved.after.section.head.class ≡ r.head.class) ⊎ IsIdle d moved.after.section
    later_agrees (inl same) = inl ((moved.after.class set).class ∙ same)
    later_agrees (inr idle) = inr (not_before (may_take moved.after.section.head.state) (may_take s.head.state) moved.opens idle.0, (nothing idle).came)

-- the connection of `r` meets an event
pub flows_received : (ticks : Ticks) (event : Event) (point : ℕ) (h : SectionHead) (reference : Option ℕ) (end other : Connection → End) (c from : Connection) (s r : Section)
    (sent : List DataUnit) (queue rest : List Waiting) → IsSide h reference end other c r → (moved : Moved h reference end other (fed ticks c event) r)
    → Comes point (end c) queue event rest → r.head.point ≡ point → is_early r.head.state ≡ false → list_any is_reset (part_by ticks event c) ≡ false
    → Flows h.mine from s r sent queue → Flows h.mine from s moved.after.section sent rest
flows_received ticks event point h reference end other c from s r sent queue rest side moved comes at set no_reset flows = record {
  counted = subst (λ (mine : ℕ). Counted mine later sent rest) side.mine
      (counted_received point r later sent queue rest event comes_here come moved.opens set (subst (λ (mine : ℕ). Counted mine r sent queue) (sym side.mine) flows.counted));
  of_class = λ may. rw same (rest_of_class comes_here (flows.of_class (moved.opens may)));
  agrees = λ may. rw same (flows.agrees (moved.opens may));
}
  where
    later : Section
    later = moved.after.section

    same : later.head.class ≡ r.head.class
    same = (moved.after.class set).class

    comes_here : Comes point (wire r) queue event rest
    comes_here = subst (λ e. Comes point e queue event rest) side.is comes

    come : later.windows.got ≡ r.windows.got ++ brought_to (wire r) event
    come =
        units_come_in ticks c event end other r later side.sound side.sides side.is moved.after.is
        (fits_event point r queue rest event comes_here at (λ may. subst (λ (mine : ℕ). BringOfClass mine r.head.class queue) (sym side.mine) (flows.of_class may))) no_reset

    rest_of_class : Comes point (wire r) queue event rest → BringOfClass h.mine r.head.class queue → BringOfClass h.mine r.head.class rest
    rest_of_class = comes_rest point (wire r) queue rest event (λ (m : Waiting). BringsOfClass h.mine r.head.class (arrival_in m.bytes))

-- a message of others joins those that wait
pub flows_joined : (reference : ℕ) (c : Connection) (s r : Section) (sent : List DataUnit) (queue : List Waiting) (m : Waiting) → units_for reference m.bytes ≡ []
    → Flows reference c s r sent queue → Flows reference c s r sent (queue ++ m ∷ [])
flows_joined reference c s r sent queue m none flows = record {
  counted = counted_joined reference r sent queue (m ∷ []) (none_alone reference m none) flows.counted;
  of_class = λ may.
      all_joined (λ (m : Waiting). BringsOfClass reference r.head.class (arrival_in m.bytes)) queue (m ∷ []) (flows.of_class may)
      (none_of_class reference r.head.class (m ∷ []) (none_alone reference m none));
  agrees = flows.agrees;
}
