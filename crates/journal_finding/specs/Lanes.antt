-- The lanes of a head, each with what the capture places in it and what its definition makes of an event: the control lane, and the connection lanes and data lanes, whose
-- routings name the editions that the control lane published.
use Rattle.std.specs.Prelude.{ℕ, List, [], length, Option, None, Some}
use Rattle.relay_base.specs.declared.words.Event.{Event}
use Rattle.relay_base.specs.declared.words.Output.{Output}
use Rattle.relay_base.specs.declared.words.Stamp.{Stamp}
use Rattle.plant_core.specs.Asking.{answer_in}
use Rattle.plant_core.specs.declared.answer.Answer.{Answer}
use Rattle.plant_core.specs.declared.entry.Asked.{Asked}
use Rattle.plant_core.specs.declared.entry.ControlEntry.{ControlEntry}
use Rattle.plant_core.specs.declared.entry.ControlEvent.{ControlEvent}
use Rattle.plant_core.specs.declared.entry.ControlEvent.TheVariants.{Plain, Change}
use Rattle.plant_core.specs.declared.entry.Entry.{Entry}
use Rattle.section_model.specs.Journals.{lane_of}
use Rattle.section_model.specs.Lane.{legal_outputs}
use Rattle.section_model.specs.Laws.{openings_from}
use Rattle.data_lane.specs.Legal.{at_first, state_after, step_of}
use Rattle.scmg.specs.Control.{Control, Managed, managed, edition_after, start_of_control, changes_in}
use Rattle.scmg.specs.Inner.Kept.{after_entries}
use Rattle.node_head.specs.declared.head.Head.{Head}
use Rattle.capture_form.specs.Events.{Stamped}
use Rattle.book_output.specs.Print.{line_of_control, line_of_entry}
use Rattle.right_book.specs.Heads.{routing_of, lane_head_of, control_head_of}
use Rattle.right_book.specs.Placed.{in_control, placed}
use Rattle.right_book.specs.Editions.{edition_of, editions_before, editions_upto}
use Rattle.right_book.specs.Lanes.{LaneKind, conn_kind, data_kind}
use Rattle.journal_finding.specs.Entries.{LaneRules}

-- ---- the control lane

-- what the control lane keeps after these entries
abbrev pub control_of : Head → List ControlEntry → Control
control_of head journal = after_entries (control_head_of head) (start_of_control (routing_of head)) journal

-- what management does with an event after these entries
abbrev pub managed_next : Head → List ControlEntry → ControlEvent → Managed
managed_next head journal event = managed (control_head_of head) (control_of head journal) event

abbrev pub control_entry : Head → List ControlEntry → Stamp → ControlEvent → Option Asked → ControlEntry
control_entry head journal stamp event asked =
    let done = managed_next head journal event in
    let edition = length (changes_in (control_head_of head) (routing_of head) journal) in
    record { stamp = stamp; event = event; published = edition_after edition done.published; outs = done.outs }

abbrev pub control_rules : Head → List (List Stamped) → LaneRules ControlEvent ControlEntry
control_rules head phases = record {
  events = placed in_control head phases;
  event = λ event. Some event;
  question = λ event. None;
  first = λ phase. 0;
  last = λ phase. 0;
  routing = λ edition. routing_of head;
  entry = control_entry head;
  stamp = λ e. e.stamp;
  asked = λ e. None;
  line = line_of_control;
  outs = λ e. e.outs;
}

-- ---- the other lanes, whose events are no changes of routing data

abbrev pub plain_event : ControlEvent → Option Event
plain_event (Plain event) = Some event
plain_event (Change group) = None

-- the lane of a kind, whose outputs come of the entries before, the event and its answer
abbrev pub rules_of : LaneKind → (List Entry → Event → Option Answer → List Output) → ℕ → Head → List (List Stamped) → List ControlEntry → LaneRules Event Entry
rules_of kind outs number head phases control = record {
  events = placed (kind.is_in number) head phases;
  event = plain_event;
  question = kind.question;
  first = λ phase. editions_before phase control;
  last = λ phase. editions_upto phase control;
  routing = edition_of head control;
  entry = λ journal stamp event asked. record { stamp = stamp; event = event; asked = asked; outs = outs journal event (answer_in asked) };
  stamp = λ e. e.stamp;
  asked = λ e. e.asked;
  line = line_of_entry;
  outs = λ e. e.outs;
}

abbrev pub conn_outs : Head → ℕ → List Entry → Event → Option Answer → List Output
conn_outs head number journal event answer =
    let lane = lane_of (lane_head_of head) number in legal_outputs lane (openings_from lane [] journal) event answer

abbrev pub conn_rules : Head → List (List Stamped) → List ControlEntry → ℕ → LaneRules Event Entry
conn_rules head phases control number = rules_of (conn_kind head) (conn_outs head number) number head phases control

abbrev pub data_outs : Head → ℕ → List Entry → Event → Option Answer → List Output
data_outs head number journal event answer =
    (step_of (lane_head_of head) number (state_after (lane_head_of head) number at_first journal) event answer).outs

abbrev pub data_rules : Head → List (List Stamped) → List ControlEntry → ℕ → LaneRules Event Entry
data_rules head phases control number = rules_of data_kind (data_outs head number) number head phases control
