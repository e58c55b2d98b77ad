-- In a capture whose events come one after another a lane's routings are those of the editions before each phase.
use Rattle.std.proofs.Common.{◌≡◌, ℕ, Bool, true, false, List, Option, Some, None, Result, Ok, Err, refl, sym, ◌∙◌, subst, inl, inr}
use Rattle.std.specs.List.{AllByRecursion}
use Rattle.relay_base.specs.declared.words.Stamp.{Stamp}
use Rattle.relay_base.specs.declared.words.Event.{Event}
use Rattle.relay_base.specs.declared.words.Event.TheVariants.{Message as Arrived, Asked as Requested, Tick}
use Rattle.relay_base.specs.declared.words.Request.{Request}
use Rattle.relay_base.specs.declared.words.Request.TheVariants as request
use Rattle.relay_base.specs.declared.words.ReadFault.{ReadFault}
use Rattle.q713_codec.specs.Names.{Message}
use Rattle.q713_codec.specs.declared.message.Message.TheVariants as message
use Rattle.q713_codec.specs.Longest.{is_too_long}
use Rattle.q713_codec.specs.Reading.{reading_of}
use Rattle.scmg_messages.specs.Messages.{is_for_management}
use Rattle.plant_core.specs.Asking.{Question}
use Rattle.plant_core.specs.declared.entry.Asked.{Asked}
use Rattle.plant_core.specs.declared.entry.Entry.{Entry}
use Rattle.plant_core.specs.declared.entry.ControlEntry.{ControlEntry}
use Rattle.plant_core.specs.declared.entry.ControlEvent.{ControlEvent}
use Rattle.plant_core.specs.declared.entry.ControlEvent.TheVariants.{Plain}
use Rattle.connectionless.specs.Asking.{matter_of}
use Rattle.section_model.specs.Opening.{wish_of}
use Rattle.section_model.specs.Opening.{question_of as question_of_wish}
use Rattle.node_head.specs.declared.head.Head.{Head}
use Rattle.scmg.specs.Control.{IsControlJournal}
use Rattle.capture_form.specs.declared.lane_place.LanePlace.{LanePlace}
use Rattle.capture_form.specs.declared.lane_place.LanePlace.TheVariants.{All, Control, Conn, Unit as Data}
use Rattle.capture_form.specs.Place.{in_data, place_of, place_of_event, place_of_octets, place_of_reading, place_of_message, place_of_request}
use Rattle.capture_form.specs.Events.{Stamped}
use Rattle.capture_form.specs.Links.{AreLinked}
use Rattle.right_book.specs.Own.{events_at, pairs_of, control_pairs_of}
use Rattle.right_book.specs.Placed.{in_control, in_conn, IsOfLane}
use Rattle.right_book.specs.Placed.{in_data as in_data_lane}
use Rattle.right_book.specs.Heads.{routing_of, control_head_of}
use Rattle.right_book.specs.Editions.{IsRouting}
use Rattle.right_book.specs.Lanes.{LaneKind, conn_kind, data_kind, IsServed, IsRouted}
use Rattle.right_book.proofs.ListLemmas.{all-mapped, weaker-two}
use Rattle.book_law.specs.Sequential.{IsSequential}
use Rattle.book_law.proofs.Booleans.{either}
use Rattle.book_law.proofs.Events.{members}
use Rattle.book_law.proofs.Editions.{asked_before, one_routing, no_routing, one_edition}
use Rattle.book_law.proofs.Places.{placed_at}
use Rattle.book_law.proofs.Quiet.{OfControl, quiet_or_control}
use Rattle.book_law.proofs.Published.{taken_all, all_given, calm}
use Rattle.book_law.proofs.Journals.{AreAsked}

-- ---- ticks alone stand in all lanes

abbrev is_all : LanePlace → Bool
is_all All = true
is_all Control = false
is_all (Conn n) = false
is_all (Data n) = false

abbrev NotAll : LanePlace → Type 0
NotAll place = is_all place ≡ false

message_place : (head : Head) (opc sls : ℕ) (m : Message) → NotAll (place_of_message head opc sls m)
unfolding place_of_message
message_place head opc sls (message.Cr _ _ _ _ _ _ _ _) = refl
message_place head opc sls (message.Cc _ _ _ _ _ _ _) = refl
message_place head opc sls (message.Cref _ _ _ _ _) = refl
message_place head opc sls (message.Rlsd _ _ _ _ _) = refl
message_place head opc sls (message.Rlc _ _) = refl
message_place head opc sls (message.Dt1 _ _ _) = refl
message_place head opc sls (message.Dt2 _ _ _) = refl
message_place head opc sls (message.Ak _ _ _) = refl
message_place head opc sls (message.Udt _ called _ _) = either NotAll (is_for_management called) Control (in_data head sls) refl refl
message_place head opc sls (message.Udts _ _ _ _) = refl
message_place head opc sls (message.Ed _ _) = refl
message_place head opc sls (message.Ea _) = refl
message_place head opc sls (message.Rsr _ _ _) = refl
message_place head opc sls (message.Rsc _ _) = refl
message_place head opc sls (message.Err _ _) = refl
message_place head opc sls (message.It _ _ _ _ _) = refl
message_place head opc sls (message.Xudt _ _ _ _ _ _ _) = refl
message_place head opc sls (message.Xudts _ _ _ _ _ _ _) = refl
message_place head opc sls (message.Ludt _ _ _ _ _ _ _) = refl
message_place head opc sls (message.Ludts _ _ _ _ _ _ _) = refl

reading_place : (head : Head) (opc sls : ℕ) (r : Result Message ReadFault) → NotAll (place_of_reading head opc sls r)
reading_place head opc sls (Ok m) = message_place head opc sls m
reading_place head opc sls (Err fault) = refl

octets_place : (head : Head) (opc sls : ℕ) (bytes : List ℕ) → NotAll (place_of_octets head opc sls bytes)
octets_place head opc sls bytes =
    either NotAll (is_too_long bytes) (in_data head sls) (place_of_reading head opc sls (reading_of bytes)) refl (reading_place head opc sls (reading_of bytes))

request_place : (head : Head) (r : Request) → NotAll (place_of_request head r)
unfolding place_of_request
request_place head (request.Unit _ _ _ _ _ _) = refl
request_place head (request.Conn _ _ _ _ _) = refl
request_place head (request.Accept _ _ _ _) = refl
request_place head (request.Refuse _ _ _) = refl
request_place head (request.Send _ _) = refl
request_place head (request.Expedite _ _) = refl
request_place head (request.Reset _) = refl
request_place head (request.Disc _ _ _) = refl
request_place head request.Coord = refl
request_place head (request.Grant _) = refl

-- ---- what stands in the control lane and in another one asks nothing

-- a kind of lane in which no event asks routing that the control lane takes too
abbrev AsksApart : LaneKind → Head → Type 0
AsksApart kind head = (number : ℕ) (e : Event) → kind.is_in number (place_of head (Plain e)) ≡ true → in_control (place_of head (Plain e)) ≡ true → kind.question e ≡ None

data_apart : (number : ℕ) (place : LanePlace) → NotAll place → in_data_lane number place ≡ true → in_control place ≡ true → ⊥
data_apart number All h f g = cc
data_apart number Control h f g = cc
data_apart number (Conn n) h f g = cc
data_apart number (Data n) h f g = cc

conn_apart : (number : ℕ) (place : LanePlace) → NotAll place → in_conn number place ≡ true → in_control place ≡ true → ⊥
conn_apart number All h f g = cc
conn_apart number Control h f g = cc
conn_apart number (Conn n) h f g = cc
conn_apart number (Data n) h f g = cc

pub data_asks : (head : Head) → AsksApart data_kind head
unfolding place_of place_of_event matter_of
data_asks head number (Arrived opc sls bytes) f g = absurd (data_apart number (place_of_octets head opc sls bytes) (octets_place head opc sls bytes) f g)
data_asks head number (Requested ssn r) f g = absurd (data_apart number (place_of_request head r) (request_place head r) f g)
data_asks head number Tick f g = refl

pub conn_asks : (head : Head) → AsksApart (conn_kind head) head
unfolding place_of place_of_event wish_of question_of_wish
conn_asks head number (Arrived opc sls bytes) f g = absurd (conn_apart number (place_of_octets head opc sls bytes) (octets_place head opc sls bytes) f g)
conn_asks head number (Requested ssn r) f g = absurd (conn_apart number (place_of_request head r) (request_place head r) f g)
conn_asks head number Tick f g = refl

-- ---- the routings of a lane

-- the routing of an event: that of the edition before its phase
abbrev pub asks_before : LaneKind → Head → List ControlEntry → Stamp → Event → Option Asked
asks_before kind head control stamp e = asked_before head control stamp.phase (kind.question e)

-- an event is of its lane, and of the control lane where all of its phase are
abbrev Keeps : (LanePlace → Bool) → Head → List (List Stamped) → ℕ → ControlEvent → Type 0
Keeps in_lane head phases phase e = (in_lane (place_of head e) ≡ true) × (OfControl head phases phase → in_control (place_of head e) ≡ true)

lane_members : (in_lane : LanePlace → Bool) (head : Head) (phases : List (List Stamped)) (events : Stamped) → IsOfLane in_lane head phases events
    → AllByRecursion (λ e. Keeps in_lane head phases e.0.phase e.1) events
lane_members in_lane head phases events own =
    members (λ p e. Keeps in_lane head phases p e.1) events (λ p k.
    subst (AllByRecursion (λ (e : Stamp × ControlEvent). Keeps in_lane head phases p e.1)) (sym (own.in_order p k ∙ placed_at in_lane head phases p k))
    (taken_all in_lane head (λ e. OfControl head phases p → in_control (place_of head e.1) ≡ true) (λ e. Keeps in_lane head phases p e.1) (events_at phases p k) (λ e h place. (place, h))
    (all_given (OfControl head phases p) (λ e. in_control (place_of head e.1) ≡ true) (events_at phases p k) (λ all. all k))))

asked_none : (head : Head) (control : List ControlEntry) (phase : ℕ) (asks : Option Question) (asked : Option Asked) → asks ≡ None → IsRouting head control phase asks asked → asked ≡ asked_before head control phase asks
asked_none head control phase None asked none h = no_routing head control phase asked h
asked_none head control phase (Some q) asked none h = absurd cc

-- the control journal of right books of such phases
pub record IsOfPhases (head : Head) (phases : List (List Stamped)) (control : List ControlEntry) : Type 0 where
  pub linked : AreLinked phases
  pub sequential : IsSequential head phases
  pub own : IsOfLane in_control head phases (control_pairs_of control)
  pub legal : IsControlJournal (control_head_of head) (routing_of head) control

is_asked : (kind : LaneKind) (head : Head) (phases : List (List Stamped)) (control : List ControlEntry) (number : ℕ) (e : Entry) → AsksApart kind head → IsOfPhases head phases control
    → Keeps (kind.is_in number) head phases e.stamp.phase (Plain e.event) → IsRouted kind.question head control e → e.asked ≡ asks_before kind head control e.stamp e.event
is_asked kind head phases control number e apart of keeps routed = elim (quiet_or_control head phases of.linked of.sequential e.stamp.phase) [
  | inl quiet ↦ one_routing head control e.stamp.phase (kind.question e.event) e.asked
      (one_edition e.stamp.phase control (calm head (control_head_of head) _ phases e.stamp.phase control of.legal quiet of.own)) routed
  | inr all ↦ asked_none head control e.stamp.phase (kind.question e.event) e.asked (apart number e.event keeps.0 (keeps.1 all)) routed
]

pub are_asked : (kind : LaneKind) (head : Head) (phases : List (List Stamped)) (control : List ControlEntry) (number : ℕ) (journal : List Entry) → AsksApart kind head → IsOfPhases head phases control
    → IsServed kind head phases control number journal → AreAsked (asks_before kind head control) journal
are_asked kind head phases control number journal apart of served =
    weaker-two (λ (e : Entry). Keeps (kind.is_in number) head phases e.stamp.phase (Plain e.event)) (IsRouted kind.question head control) (λ e. e.asked ≡ asks_before kind head control e.stamp e.event) journal
    (λ e. is_asked kind head phases control number e apart of)
    (all-mapped (λ (e : Stamp × ControlEvent). Keeps (kind.is_in number) head phases e.0.phase e.1) (λ (e : Entry). (e.stamp, Plain e.event)) journal (lane_members (kind.is_in number) head phases (pairs_of journal) served.own))
    served.routed
