-- The law of the sequenced service (class 1; Q.714, 4.1), over a right book: the units of one key, which are those of one originating point and one
-- link selection, stand in one lane as they came, and with them what was sent and told. Messages of management are apart.
use Rattle.std.specs.Prelude.{◌≡◌, ◌≢◌, ◌<◌, ℕ, ◌==◌, ◌&&◌, not, Bool, true, false, List, [], ◌∷◌, ◌++◌, length, filter, slice_get, slice_index_or, Ok, Err, Some, ◌%◌}
use Rattle.std.specs.declared.result.Result.{Result}
use Rattle.std.specs.List.{flat_map}
use Rattle.relay_base.specs.declared.words.ReadFault.{ReadFault}
use Rattle.relay_base.specs.declared.words.Event.TheVariants.{Message as Arrived, Asked as Requested, Tick}
use Rattle.relay_base.specs.declared.words.Request.{Request}
use Rattle.relay_base.specs.declared.words.Request.TheVariants.{Unit as UnitRequest}
use Rattle.q713_codec.specs.Names.{Message}
use Rattle.q713_codec.specs.declared.message.Message.TheVariants.{Udt}
use Rattle.q713_codec.specs.Reading.{reading_of}
use Rattle.q713_codec.specs.Writing.{is_unit}
use Rattle.scmg_messages.specs.Messages.{is_for_management}
use Rattle.plant_core.specs.declared.entry.Entry.{Entry}
use Rattle.plant_core.specs.declared.entry.ControlEvent.{ControlEvent}
use Rattle.plant_core.specs.declared.entry.ControlEvent.TheVariants.{Plain, Change as Changed}
use Rattle.node_head.specs.declared.head.Head.{Head}
use Rattle.journal_text.specs.declared.book.Book.{Book}
use Rattle.capture_form.specs.Events.{Stamped}
use Rattle.unit_law.specs.OwnOutputs.{StandsAlone, outputs_after}
use Rattle.right_book.specs.Own.{pairs_of}
use Rattle.right_book.specs.Heads.{lane_head_of}
use Rattle.right_book.specs.Right.{IsRight}

-- a unit or a service message, but none of management
abbrev pub is_of_users : Message → Bool
is_of_users (Udt _ called _ _) = not (is_for_management called)
is_of_users message = is_unit message

abbrev pub reads_as_unit : Result Message ReadFault → Bool
reads_as_unit (Ok message) = is_of_users message
reads_as_unit (Err fault) = false

-- a user's unit with this link selection
abbrev pub asks_unit : ℕ → Request → Bool
asks_unit sls (UnitRequest selection _ _ _ _ _) = selection == sls
asks_unit sls _ = false

-- a unit of the key of a point and a link selection; a user's unit has the node's own point
abbrev pub is_of_key : ℕ → ℕ → ℕ → ControlEvent → Bool
is_of_key own point sls (Plain (Arrived opc selection bytes)) = opc == point && (selection == sls && reads_as_unit (reading_of bytes))
is_of_key own point sls (Plain (Requested ssn r)) = own == point && asks_unit sls r
is_of_key own point sls (Plain Tick) = false
is_of_key own point sls (Changed group) = false

abbrev pub of_key : Head → ℕ → ℕ → Stamped → Stamped
of_key head point sls events = filter (λ e. is_of_key head.point point sls e.1) events

-- the events with the stamp of a link, and those that the phases of a capture have for it, in order
abbrev pub on_link : ℕ → Stamped → Stamped
on_link link events = filter (λ e. e.0.link == link) events

abbrev pub events_on : List (List Stamped) → ℕ → Stamped
events_on phases link = flat_map (λ phase. slice_index_or phase link []) phases

-- the data lane of a link selection
abbrev pub lane_of : Head → ℕ → ℕ
lane_of head sls = sls % head.data_lanes

pub record IsInSequence (head : Head) (phases : List (List Stamped)) (book : Book) (point sls : ℕ) : Type 0 where
  -- there is a lane for it
  pub there : 0 < head.data_lanes → lane_of head sls < length book.units
  -- what came of the key on a link stands in it, once and in the order of the capture
  pub in_order :
      (journal : List Entry) (link : ℕ) → slice_get book.units (lane_of head sls) ≡ Some journal →
      of_key head point sls (on_link link (pairs_of journal)) ≡ of_key head point sls (events_on phases link)
  -- and in no other data lane
  pub nowhere_else :
      (number : ℕ) (journal : List Entry) (link : ℕ) → number ≢ lane_of head sls → slice_get book.units number ≡ Some journal →
      of_key head point sls (on_link link (pairs_of journal)) ≡ []
  -- each that waits for no other has its own outputs
  pub own :
      (number : ℕ) (before : List Entry) (entry : Entry) (after : List Entry) →
      slice_get book.units number ≡ Some (before ++ entry ∷ after) → StandsAlone (lane_head_of head) entry →
      entry.outs ≡ outputs_after (lane_head_of head) number before entry

abbrev pub SequenceLaw : Type 0
SequenceLaw =
    (head : Head) (phases : List (List Stamped)) (book : Book) (point sls : ℕ) → IsRight head phases book →
    IsInSequence head phases book point sls
