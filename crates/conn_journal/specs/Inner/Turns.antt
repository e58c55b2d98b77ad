-- What comes of an event in a connection lane, from what it keeps of its openings.
use Rattle.std.specs.Prelude.{◌≡◌, ℕ, ◌≤◌, ◌<◌, List, [], ◌∷◌, ◌++◌, length, map, Option, Some, None}
use Rattle.relay_base.specs.declared.limits.TheConstants.{MOST_LANES}
use Rattle.relay_base.specs.declared.words.Event.{Event}
use Rattle.relay_base.specs.declared.words.Event.TheVariants.{Message as Arrived, Asked as Requested, Tick}
use Rattle.relay_base.specs.declared.words.Output.{Output}
use Rattle.plant_core.specs.declared.answer.Answer.{Answer}
use Rattle.plant_core.specs.declared.entry.Entry.{Entry}
use Rattle.plant_core.specs.declared.terms.LaneHead.{LaneHead}
use Rattle.plant_core.specs.declared.terms.Ticks.{Ticks}
use Rattle.section_model.specs.Ends.{Connection}
use Rattle.section_model.specs.Laws.{openings_from}
use Rattle.section_model.specs.Opening.{Wish, by_cr, by_user, no_wish, slots_needed, opened, Opened}
use Rattle.section_model.specs.Lane.{Lane, stray_answer}
use Rattle.section_coupling.specs.Sound.{IsCredit}
use Rattle.conn_journal.specs.Inner.Remnants.{Remnant, remnant_of, remnant_after, first_part, all_parts, lowest_in}
use Rattle.conn_journal.specs.Laws.{unheard}
use Rattle.section_model.specs.Journals.{IsConnJournal, lane_of}
use Rattle.conn_journal.specs.Inner.Stands.{Stands}
use Rattle.conn_journal.specs.Inner.Views.{OpeningsState}

-- the opening for a wish, with the lowest free references
abbrev pub opened_in : Lane → List Remnant → Wish → Option Answer → Opened
opened_in lane keeps wish answer = opened lane.terms wish answer (lowest_in lane keeps (slots_needed wish answer))

abbrev pub other_outs_in : List Remnant → Event → List Output
other_outs_in keeps (Arrived point sls bytes) = unheard (first_part (Arrived point sls bytes) keeps) (stray_answer (Arrived point sls bytes))
other_outs_in keeps (Requested ssn r) = unheard (first_part (Requested ssn r) keeps) (stray_answer (Requested ssn r))
other_outs_in keeps Tick = all_parts Tick keeps

abbrev pub outs_in : Lane → List Remnant → Event → Wish → Option Answer → List Output
outs_in lane keeps event (by_cr w) answer = (opened_in lane keeps (by_cr w) answer).outs
outs_in lane keeps event (by_user ssn tag w) answer = (opened_in lane keeps (by_user ssn tag w) answer).outs
outs_in lane keeps event no_wish answer = other_outs_in keeps event

-- what is kept of a new connection
abbrev pub new_remnant : Ticks → Option Connection → List Remnant
new_remnant ticks None = []
new_remnant ticks (Some c) = remnant_of ticks (record { first = c; since = [] }) ∷ []

abbrev pub keeps_in : Lane → List Remnant → Event → Wish → Option Answer → List Remnant
keeps_in lane keeps event wish answer =
    map (remnant_after event) keeps ++ new_remnant lane.terms.ticks (opened_in lane keeps wish answer).connection

-- what the lane keeps stands for the openings of its journal
pub record KeepsOpenings (head : LaneHead) (number : ℕ) (journal : List Entry) (o : OpeningsState) : Type 0 where
  pub stands : Stands (map (remnant_of head.terms.ticks) (openings_from (lane_of head number) [] journal)) o
  pub lane : o.slots.lane ≡ number
  pub freeze : o.slots.freeze ≡ head.terms.ticks.freeze
  pub few : o.taken ≤ length journal
  pub many : length o.kept ≤ length journal

-- the journal is legal, and the lane keeps what it has to
pub record IsConnLane (head : LaneHead) (number : ℕ) (journal : List Entry) (openings : OpeningsState) : Type 0 where
  pub legal : IsConnJournal head number journal
  pub keeps : KeepsOpenings head number journal openings
  pub lanes : number < MOST_LANES
  pub credit : IsCredit head.terms.credit
