-- A legal data journal: what each event asks of routing, and what comes of it by the answer and by what the entries before it left.
use Rattle.std.specs.Prelude.{◌≡◌, ℕ, ◌+◌, ◌/◌, ◌%◌, Bool, true, false, List, [], ◌∷◌, ◌++◌, map, slice_index, if◌then◌else◌, Option, Some, None, is_some}
use Rattle.relay_base.specs.declared.causes.TheConstants.{RETURN_SEGMENTATION_FAILURE, RETURN_LOCAL_PROCESSING}
use Rattle.relay_base.specs.declared.words.Event.{Event}
use Rattle.relay_base.specs.declared.words.Stamp.{Stamp}
use Rattle.relay_base.specs.declared.words.Output.{Output}
use Rattle.relay_base.specs.declared.words.Output.TheVariants.{Told, Lost as Dropped}
use Rattle.relay_base.specs.declared.words.Lost.TheVariants.{Segment as SegmentLost}
use Rattle.relay_base.specs.declared.words.Tell.TheVariants.{Unit as UnitTold}
use Rattle.plant_core.specs.Plant.{PlantState}
use Rattle.plant_core.specs.Asking.{Question, asked_at, answer_in}
use Rattle.plant_core.specs.declared.answer.Answer.{Answer}
use Rattle.plant_core.specs.declared.entry.Asked.{Asked}
use Rattle.plant_core.specs.declared.entry.Entry.{Entry}
use Rattle.plant_core.specs.declared.terms.LaneHead.{LaneHead}
use Rattle.reassembly.specs.Reassembly.{takes, ended_by_tick, after_tick}
use Rattle.reassembly.specs.declared.piece.Piece.{Piece}
use Rattle.reassembly.specs.declared.piece.Now.{Now}
use Rattle.reassembly.specs.declared.piece.Now.TheVariants.{Waiting, Whole, NoRoom, Orphan, Broken}
use Rattle.reassembly.specs.declared.piece.Taken.{Taken}
use Rattle.reassembly.specs.declared.process.Process.{Process}
use Rattle.connectionless.specs.declared.segment.Segment.{Segment}
use Rattle.connectionless.specs.declared.segment.Next.{Next}
use Rattle.connectionless.specs.declared.segment.Next.TheVariants.{Done, Gather}
use Rattle.connectionless.specs.Returning.{refusal_output, unit_in}
use Rattle.connectionless.specs.Given.{Sending, given_outcome, reference_after}
use Rattle.connectionless.specs.Asking.{Matter, from_network, from_user, settled, of_tick, matter_of, question_in}
use Rattle.long_interwork.specs.Routed.{Routed, routed}
use Rattle.data_lane.specs.declared.effect.Effect.{Effect}
use Rattle.data_lane.specs.declared.effect.Work.{Work}
use Rattle.data_lane.specs.declared.effect.Work.TheVariants as work

-- what an event asks of routing
abbrev pub question_of : Event → Option Question
question_of e = question_in (matter_of e)

-- the routing that an event asks, at the edition of these routing data
abbrev pub asked_of : PlantState → Event → Option Asked
asked_of plant e = asked_at plant.edition plant.routing (question_of e)

-- What comes of an event before the reassemblies have it.

-- a segment for a local subsystem
abbrev pub piece_of : Segment → ℕ → Piece
piece_of s ssn = record {
  opc = s.opc;
  sls = s.sls;
  class_octet = s.class_octet;
  called = s.called;
  calling = s.calling;
  body = s.body;
  segmentation = s.segmentation;
  importance = s.importance;
  ssn = ssn;
}

abbrev pub work_of : Next → Work
work_of Done = work.Nothing
work_of (Gather segment ssn) = work.Segment (piece_of segment ssn)

abbrev pub effect_with : List Output → Work → Effect
effect_with outs todo = record { outs = outs; is_cut = false; work = todo }

abbrev pub of_routed : Routed → Effect
of_routed x = record { outs = x.outs; is_cut = x.is_cut; work = work_of x.next }

abbrev pub of_sending : Sending → Effect
of_sending x = record { outs = x.outs; is_cut = x.is_cut; work = work.Nothing }

-- by the answer to what was asked, in the lane of this number after so many units that were cut
abbrev pub effect_by : LaneHead → ℕ → ℕ → Matter → Option Answer → Effect
effect_by head number cut (from_network opc sls x q) (Some answer) =
    of_routed (routed head.short head.terms.own opc sls x answer (reference_after number cut))
effect_by head number cut (from_user g q) (Some answer) = of_sending (given_outcome g answer (reference_after number cut))
effect_by head number cut (settled outs) answer = effect_with outs work.Nothing
effect_by head number cut of_tick answer = effect_with [] work.Tick
effect_by head number cut _ None = effect_with [] work.Nothing

-- What comes of the reassemblies (Q.714, 4.1.1): a failed one is returned, and so is one without room.

abbrev pub failure : ℕ → ℕ → Piece → Output
failure own cause p = refusal_output own p.opc p.sls cause (unit_in p)

abbrev pub failures : ℕ → Option Piece → List Output
failures own None = []
failures own (Some p) = failure own RETURN_SEGMENTATION_FAILURE p ∷ []

-- bit 7 of the segmentation's first octet
abbrev pub class_bit : Piece → ℕ
class_bit p = slice_index p.segmentation 0 / 64 % 2

-- a whole one is told to its user, in the class of its first segment
abbrev pub whole_told : Piece → Output
whole_told p = Told p.ssn (UnitTold (class_bit p) p.called p.calling p.body)

abbrev pub of_now : ℕ → Now → List Output
of_now own Waiting = []
of_now own Orphan = Dropped SegmentLost ∷ []
of_now own Broken = Dropped SegmentLost ∷ []
of_now own (NoRoom p) = failure own RETURN_LOCAL_PROCESSING p ∷ []
of_now own (Whole p) = whole_told p ∷ []

abbrev pub is_no_room : Now → Bool
is_no_room (NoRoom p) = true
is_no_room _ = false

-- The reassemblies after their work, and its outputs.
pub record Worked : Type 0 where
  pub processes : List Process
  pub outs : List Output

abbrev pub taken_outs : ℕ → Taken → List Output
taken_outs own taken = failures own taken.failed ++ of_now own taken.now

abbrev pub of_taken : ℕ → List Process × Taken → Worked
of_taken own x = record { processes = x.0; outs = taken_outs own x.1 }

abbrev pub worked : ℕ → ℕ → List Process → Work → Worked
worked own ticks processes work.Nothing = record { processes = processes; outs = [] }
worked own ticks processes (work.Segment piece) = of_taken own (takes ticks processes piece)
worked own ticks processes work.Tick = record { processes = after_tick processes; outs = map (failure own RETURN_SEGMENTATION_FAILURE) (ended_by_tick processes) }

-- What the entries before leave: how many of them cut a unit into segments, and the reassemblies under way.
pub record State : Type 0 where
  pub cut : ℕ
  pub processes : List Process

abbrev pub at_first : State
at_first = record { cut = 0; processes = [] }

-- The outputs of an event, and what it leaves.
pub record Step : Type 0 where
  pub outs : List Output
  pub after : State

abbrev pub joined : ℕ → Effect → Worked → Step
joined cut effect done = record { outs = effect.outs ++ done.outs; after = record { cut = cut + (if effect.is_cut then 1 else 0); processes = done.processes } }

abbrev pub step_by : LaneHead → State → Effect → Step
step_by head s effect = joined s.cut effect (worked head.terms.own head.reassembly s.processes effect.work)

unfoldable pub step_of : LaneHead → ℕ → State → Event → Option Answer → Step
step_of head number s e answer = step_by head s (effect_by head number s.cut (matter_of e) answer)

-- The journal.

-- an entry: it asked where its event asks, and has the outputs of its event and answer
pub record IsLegalEntry (head : LaneHead) (number : ℕ) (s : State) (entry : Entry) : Type 0 where
  pub routed : is_some entry.asked ≡ is_some (question_of entry.event)
  pub outputs : entry.outs ≡ (step_of head number s entry.event (answer_in entry.asked)).outs

-- what an entry leaves
abbrev pub entry_after : LaneHead → ℕ → State → Entry → State
entry_after head number s entry = (step_of head number s entry.event (answer_in entry.asked)).after

-- what entries leave, one after another
abbrev pub state_after : LaneHead → ℕ → State → List Entry → State
state_after head number s [] = s
state_after head number s (entry ∷ more) = state_after head number (entry_after head number s entry) more

abbrev pub LegalFrom : LaneHead → ℕ → State → List Entry → Type 0
LegalFrom head number s [] = Unit {0}
LegalFrom head number s (entry ∷ more) = IsLegalEntry head number s entry × LegalFrom head number (entry_after head number s entry) more

-- the journal of the data lane of this number
abbrev pub IsDataJournal : LaneHead → ℕ → List Entry → Type 0
IsDataJournal head number journal = LegalFrom head number at_first journal

-- what a data lane is seen as
pub record LaneState : Type 0 where
  pub head : LaneHead
  pub number : ℕ
  pub journal : List Entry

-- an event was taken with these routing data: the journal has one entry more
pub record AddsEntry (plant : PlantState) (stamp : Stamp) (e : Event) (old new : LaneState) : Type 0 where
  pub entry : Entry
  pub journal : new.journal ≡ old.journal ++ entry ∷ []
  pub stamped : entry.stamp ≡ stamp
  pub of_event : entry.event ≡ e
  pub answered : entry.asked ≡ asked_of plant e
  pub head : new.head ≡ old.head
  pub number : new.number ≡ old.number
