-- A lane at its place, from which it looks at the published routing data.
use Rattle.std.specs.Prelude.{◌≡◌, ◌≤◌, ◌-◌, ℕ, Bool, List, [], ◌∷◌, ◌++◌, Option, Some, None, take}
use Rattle.std.specs.List.{AllByRecursion}
use Rattle.std.specs.List.Sorted.{IsNonDecreasing}
use Rattle.relay_base.specs.declared.words.Event.{Event}
use Rattle.relay_base.specs.declared.words.Stamp.{Stamp}
use Rattle.plant_core.specs.Asking.{Question, answer_to, asked_at}
use Rattle.plant_core.specs.Plant.{RoutingData}
use Rattle.plant_core.specs.Changes.{plant_after_all}
use Rattle.plant_core.specs.declared.entry.Asked.{Asked}
use Rattle.plant_core.specs.declared.entry.Entry.{Entry}
use Rattle.plant_core.specs.declared.terms.LaneHead.{LaneHead}
use Rattle.gtt_editions.specs.Standing.{Standing, LooksFrom, newest_of}
use Rattle.data_lane.specs.Legal.{LaneState}
use Rattle.data_lane.specs.Legal.{question_of as question_of_unit}
use Rattle.node_head.specs.declared.head.Head.{Head}
use Rattle.capture_form.specs.declared.lane_place.LanePlace.{LanePlace}
use Rattle.capture_form.specs.Events.{Stamped}
use Rattle.right_book.specs.Own.{pairs_of}
use Rattle.right_book.specs.Placed.{in_conn, in_data}
use Rattle.right_book.specs.Editions.{editions_in}
use Rattle.right_book.specs.Lanes.{conn_question}
use Rattle.lane_seats.specs.Plans.{planned, AreWhole}

-- a lane of a kind, and its place
pub record SeatState (A : Type 0) : Type 0 where
  pub lane : A
  pub place : Standing

-- what is said of a lane of either kind, with its place
pub record Seated : Type 0 where
  pub head : LaneHead
  pub number : ℕ
  pub journal : List Entry
  pub place : Standing

abbrev pub data_seated : SeatState LaneState → Seated
data_seated s = record { head = s.lane.head; number = s.lane.number; journal = s.lane.journal; place = s.place }

-- which places are in the lane of a number, and what an event asks of routing there, by what the lane was told
pub record SeatKind : Type 0 where
  pub is_in : ℕ → LanePlace → Bool
  pub question : LaneHead → Event → Option Question

abbrev pub conn_seat : SeatKind
conn_seat = record { is_in = in_conn; question = conn_question }

abbrev pub data_seat : SeatKind
data_seat = record { is_in = in_data; question = λ told. question_of_unit }

-- a journal has one entry more: that of an event, with the routing that an edition answers
pub record Extends (asks : Option Question) (edition : ℕ) (routing : RoutingData) (stamp : Stamp) (e : Event) (old new : List Entry) : Type 0 where
  pub entry : Entry
  pub journal : new ≡ old ++ entry ∷ []
  pub stamped : entry.stamp ≡ stamp
  pub of_event : entry.event ≡ e
  pub answered : entry.asked ≡ asked_at edition routing asks

-- a lane takes an event, with the routing data of its own newest look
pub record Takes (kind : SeatKind) (stamp : Stamp) (e : Event) (old new : Seated) : Type 0 where
  pub looks : LooksFrom old.place new.place
  pub journal : Extends (kind.question old.head e) (newest_of new.place).number (newest_of new.place).routing stamp e old.journal new.journal
  pub head_kept : new.head ≡ old.head
  pub number_kept : new.number ≡ old.number

-- a lane is as before, and may have looked
pub record HasLooked {A : Type 0} (old new : SeatState A) : Type 0 where
  pub lane : new.lane ≡ old.lane
  pub looks : LooksFrom old.place new.place

-- a routing by an edition that was seen, no older than this one
pub record IsSeen (oldest : ℕ) (s : Standing) (asks : Question) (asked : Asked) : Type 0 where
  pub least : oldest ≤ asked.edition
  pub most : asked.edition ≤ (newest_of s).number
  pub answer : asked.answer ≡ answer_to (plant_after_all s.opened.routing (take (asked.edition - s.opened.number) s.seen.changes)) asks

-- there is one exactly where one is asked
abbrev pub IsSeenRouting : ℕ → Standing → Option Question → Option Asked → Type 0
IsSeenRouting oldest s None None = Unit {0}
IsSeenRouting oldest s (Some asks) (Some asked) = IsSeen oldest s asks asked
IsSeenRouting oldest s _ _ = ⊥

abbrev pub IsSeenEntry : (Event → Option Question) → ℕ → Standing → Entry → Type 0
IsSeenEntry question oldest s entry = IsSeenRouting oldest s (question entry.event) entry.asked

-- a lane went on with entries of these events, each routed by an edition that was seen; and the editions never fall
pub record GoneOn (kind : SeatKind) (Own : Stamped → Type 0) (old new : Seated) : Type 0 where
  pub entries : List Entry
  pub journal : new.journal ≡ old.journal ++ entries
  pub own : Own (pairs_of entries)
  pub looks : LooksFrom old.place new.place
  pub routed : AllByRecursion (IsSeenEntry (kind.question old.head) (newest_of old.place).number new.place) entries
  pub rising : IsNonDecreasing (editions_in entries)
  pub head_kept : new.head ≡ old.head
  pub number_kept : new.number ≡ old.number

-- its events are those of a phase that are placed in it, of each link all of them in order
abbrev pub WentOn : SeatKind → Head → List Stamped → ℕ → Seated → Seated → Type 0
WentOn kind head lists number = GoneOn kind (AreWhole (planned (kind.is_in number) head lists))
