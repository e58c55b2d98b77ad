-- The law of one hop of a connection along a chain of nodes (Q.714, 3.1 and 3.5): two neighbours, and what waits between them. Each message that one
-- sends to the other waits until those before it have arrived; none is lost. The law is the contract of `one_hop`, in the crate `course_law`.
use Rattle.std.specs.Prelude.{◌≡◌, ◌≢◌, ◌⊎◌, ℕ, ◌<◌, Bool, true, false, List, [], ◌∷◌, ◌++◌, Option, Some, None}
use Rattle.std.specs.List.{AllByRecursion, list_any}
use Rattle.relay_base.specs.declared.limits.TheConstants.{REFERENCES}
use Rattle.relay_base.specs.declared.words.Event.{Event}
use Rattle.relay_base.specs.declared.words.Event.TheVariants.{Message as Arrived}
use Rattle.relay_base.specs.declared.words.Output.{Output}
use Rattle.plant_core.specs.declared.terms.Ticks.{Ticks}
use Rattle.section_model.specs.declared.cell.Occasion.{Occasion}
use Rattle.section_model.specs.declared.cell.Occasion.TheVariants as on
use Rattle.section_model.specs.declared.cell.SectionState.TheVariants.{Asked}
use Rattle.section_model.specs.Parameters.{Arrival, arrival_in}
use Rattle.section_model.specs.Ends.{End, wire, Section, Connection, is_reached, is_gone}
use Rattle.section_model.specs.Step.{destination_of}
use Rattle.section_model.specs.Lane.{fed, part_by, reference_of}
use Rattle.hop_law.specs.Units.{units_on}
use Rattle.connection_law.specs.InStep.{got_at, IsInStep}
use Rattle.hop_law.specs.TextLaw.{Begins}
use Rattle.hop_law.specs.ClassLaw.{IsOfAClass}
use Rattle.hop_law.specs.LeavingLaw.{IsApart}
use Rattle.hop_law.specs.ClearingLaw.{is_reset}
use Rattle.hop_law.specs.ClosingLaw.{may_take}
use Rattle.hop_law.specs.Waiting.{Waiting, messages_to, units_waiting}

-- The connection as it is at the node that asked for it, and at the one that was asked: the sections to each other are `that` at the near node, and
-- `this` at the far one. And all the messages that wait, in order, of this connection and of others.
pub record Hop : Type 0 where
  pub near : Connection
  pub far : Connection
  pub forward : List Waiting
  pub back : List Waiting

-- the points of the two nodes, and the ticks of their timers
pub record Neighbours : Type 0 where
  pub near : ℕ
  pub far : ℕ
  pub near_ticks : Ticks
  pub far_ticks : Ticks

-- What happens: one of the connections meets an event that is no message of the other node; the first message that waits arrives; or a node sends a
-- message to the other one that isn't this connection's.
pub data HopStep : Type 0 where
  near_meets : Event → HopStep
  far_meets : Event → HopStep
  comes_forward : HopStep
  comes_back : HopStep
  joins_forward : Waiting → HopStep
  joins_back : Waiting → HopStep

-- A hop later on, and what each connection sent until then.
pub record Course : Type 0 where
  pub hop : Hop
  pub near_outs : List Output
  pub far_outs : List Output

abbrev pub near_fed : Neighbours → Event → Course → Course
near_fed n event g =
    let outs = part_by n.near_ticks event g.hop.near in record {
      hop = record g.hop { near = fed n.near_ticks g.hop.near event; forward = g.hop.forward ++ messages_to n.far outs };
      near_outs = g.near_outs ++ outs;
      far_outs = g.far_outs;
    }

abbrev pub far_fed : Neighbours → Event → Course → Course
far_fed n event g =
    let outs = part_by n.far_ticks event g.hop.far in record {
      hop = record g.hop { far = fed n.far_ticks g.hop.far event; back = g.hop.back ++ messages_to n.near outs };
      near_outs = g.near_outs;
      far_outs = g.far_outs ++ outs;
    }

-- the first of the messages that wait arrives, if there is one
abbrev pub come_forward : Neighbours → List Waiting → Course → Course
come_forward n [] g = g
come_forward n (m ∷ more) g = far_fed n (Arrived n.near m.sls m.bytes) (record g { hop = record g.hop { forward = more } })

abbrev pub come_back : Neighbours → List Waiting → Course → Course
come_back n [] g = g
come_back n (m ∷ more) g = near_fed n (Arrived n.far m.sls m.bytes) (record g { hop = record g.hop { back = more } })

abbrev pub hop_step : Neighbours → Course → HopStep → Course
hop_step n g (near_meets event) = near_fed n event g
hop_step n g (far_meets event) = far_fed n event g
hop_step n g comes_forward = come_forward n g.hop.forward g
hop_step n g comes_back = come_back n g.hop.back g
hop_step n g (joins_forward m) = record g { hop = record g.hop { forward = g.hop.forward ++ m ∷ [] } }
hop_step n g (joins_back m) = record g { hop = record g.hop { back = g.hop.back ++ m ∷ [] } }

unfoldable pub hop_along : Neighbours → Course → List HopStep → Course
hop_along n g [] = g
hop_along n g (step ∷ steps) = hop_along n (hop_step n g step) steps

abbrev pub begun : Hop → Course
begun h = record { hop = h; near_outs = []; far_outs = [] }

-- The premise on references: no reference is given twice. So a message that isn't this connection's names none of its references, or it answers what
-- nobody heard (RLC, or ERR); and no message from elsewhere names a reference of the sections to each other.
abbrev pub is_stray_answer : Occasion → Bool
is_stray_answer on.Rlc = true
is_stray_answer on.Err = true
is_stray_answer _ = false

abbrev pub IsStrange : Connection → Option Arrival → Type 0
IsStrange c None = Unit {0}
IsStrange c (Some a) =
    (reference_of c.this ≡ Some a.parameters.dlr) ⊎ (reference_of c.that ≡ Some a.parameters.dlr) → is_stray_answer a.occasion ≡ true

abbrev pub IsElsewhere : ℕ → End → Event → Type 0
IsElsewhere point e (Arrived from sls bytes) = (from ≢ point) × (destination_of (arrival_in bytes) ≢ reference_of e)
IsElsewhere point e _ = Unit {0}

abbrev pub IsFair : Neighbours → Hop → HopStep → Type 0
IsFair n h (near_meets event) = IsElsewhere n.far h.near.that event
IsFair n h (far_meets event) = IsElsewhere n.near h.far.this event
IsFair n h (joins_forward m) = IsStrange h.far (arrival_in m.bytes)
IsFair n h (joins_back m) = IsStrange h.near (arrival_in m.bytes)
IsFair n h _ = Unit {0}

unfoldable pub AreFair : Neighbours → Course → List HopStep → Type 0
AreFair n g [] = Unit {0}
AreFair n g (step ∷ steps) = IsFair n g.hop step × AreFair n (hop_step n g step) steps

-- Where the hop begins: CR came, and the far node was asked; the near one waits for CC, or its section is over. Nothing came in yet anywhere, and the
-- messages that wait are those of others.
abbrev pub GotNothing : Connection → Type 0
GotNothing c = (got_at c.this ≡ []) × (got_at c.that ≡ [])

pub record IsBegun (n : Neighbours) (h : Hop) : Type 0 where
  pub asking : Section
  pub asked : Section
  pub is_asking : h.near.that ≡ wire asking
  pub is_asked : h.far.this ≡ wire asked
  pub waits : (is_reached asking.head.state ≡ false) ⊎ (is_gone asking.head.state ≡ true)
  pub state : asked.head.state ≡ Asked
  pub point : asked.head.point ≡ n.near
  pub named : asked.head.other ≡ asking.head.mine
  pub references : (asking.head.mine < REFERENCES) × (asked.head.mine < REFERENCES)
  pub class : IsOfAClass asking.head.class × IsOfAClass asked.head.class
  pub in_step : IsInStep h.near × IsInStep h.far
  pub nothing : GotNothing h.near × GotNothing h.far
  pub other_references : (reference_of h.near.this ≢ reference_of h.near.that) × (reference_of h.far.this ≢ reference_of h.far.that)
  pub apart : IsApart (record asking.head { point = n.far }) h.near.this × IsApart asked.head h.far.that
  pub forward : AllByRecursion (λ (m : Waiting). IsStrange h.far (arrival_in m.bytes)) h.forward
  pub back : AllByRecursion (λ (m : Waiting). IsStrange h.near (arrival_in m.bytes)) h.back

-- What came in at a section begins the units that left on the other one; and while it may take them, the rest waits, in order.
abbrev pub IsCarried : List Output → End → End → List Waiting → Type 0
IsCarried outs (wire y) (wire x) queue =
    Begins x.windows.got (units_on y.head outs)
    × (may_take x.head.state ≡ true → units_on y.head outs ≡ x.windows.got ++ units_waiting x.head.mine queue)
IsCarried outs _ _ queue = ⊥

-- The law, in both directions, as long as neither connection sent RSR or RSC.
abbrev pub HopLaw : Type 0
HopLaw =
    (n : Neighbours) (h : Hop) (steps : List HopStep) → IsBegun n h → AreFair n (begun h) steps →
    (let g = hop_along n (begun h) steps in
    list_any is_reset g.near_outs ≡ false → list_any is_reset g.far_outs ≡ false →
    IsCarried g.near_outs g.hop.near.that g.hop.far.this g.hop.forward × IsCarried g.far_outs g.hop.far.this g.hop.near.that g.hop.back)
