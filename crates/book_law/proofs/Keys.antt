-- The lane of a key, and the events of a key among those of a lane.
use Rattle.std.proofs.Common.{◌≡◌, ℕ, zero, suc, ◌==◌, ◌&&◌, not, Bool, true, false, cond, List, [], ◌∷◌, ◌++◌, map, refl, sym, ap, ◌∙◌, Ok, Err, if◌then◌else◌, eqb-true}
use Rattle.std.specs.Prelude.{filter, slice_index_or}
use Rattle.std.specs.declared.result.Result.{Result}
use Rattle.std.proofs.lemmas.Bool.{and_parts, not-true, cond-false, false_from_ne_true, both_ways}
use Rattle.std.proofs.lemmas.List.Elements.{filter-append}
use Rattle.relay_base.specs.declared.words.ReadFault.{ReadFault}
use Rattle.relay_base.specs.declared.words.Event.TheVariants.{Message as Arrived, Asked as Requested, Tick}
use Rattle.relay_base.specs.declared.words.Request.{Request}
use Rattle.relay_base.specs.declared.words.Request.TheVariants.{Unit as UnitRequest}
use Rattle.q713_codec.specs.Names.{Message}
use Rattle.q713_codec.specs.declared.message.Message.TheVariants.{Udt, Udts, Xudt, Xudts, Ludt, Ludts}
use Rattle.q713_codec.specs.Longest.{is_too_long}
use Rattle.q713_codec.specs.Reading.{reading_of}
use Rattle.scmg_messages.specs.Messages.{is_for_management}
use Rattle.plant_core.specs.declared.entry.ControlEvent.{ControlEvent}
use Rattle.plant_core.specs.declared.entry.ControlEvent.TheVariants.{Plain, Change as Changed}
use Rattle.node_head.specs.declared.head.Head.{Head}
use Rattle.capture_form.specs.declared.lane_place.LanePlace.{LanePlace}
use Rattle.capture_form.specs.declared.lane_place.LanePlace.TheVariants.{Control, Unit as Data}
use Rattle.capture_form.specs.Events.{Stamped}
use Rattle.capture_form.specs.Place.{place_of, place_of_event, place_of_message, place_of_request, place_of_octets, place_of_reading}
use Rattle.right_book.specs.Placed.{taken, placed}
use Rattle.book_law.specs.SequenceLaw.{is_of_users, reads_as_unit, asks_unit, is_of_key, events_on, lane_of}

-- A key has its place.

udt_place : (head : Head) (sls : ℕ) (called : List ℕ) → not (is_for_management called) ≡ true
    → (if is_for_management called then Control else Data (lane_of head sls)) ≡ Data (lane_of head sls)
udt_place head sls called is = rw (not-true (is_for_management called) is) refl

message_place : (head : Head) (opc sls : ℕ) (m : Message) → is_of_users m ≡ true → place_of_message head opc sls m ≡ Data (lane_of head sls)
unfolding place_of_message
message_place head opc sls (Udt class called calling body) is = udt_place head sls called is
message_place head opc sls (Udts cause called calling body) is = refl
message_place head opc sls (Xudt class hop called calling body segmentation importance) is = refl
message_place head opc sls (Xudts cause hop called calling body segmentation importance) is = refl
message_place head opc sls (Ludt class hop called calling body segmentation importance) is = refl
message_place head opc sls (Ludts cause hop called calling body segmentation importance) is = refl
message_place head opc sls _ is = absurd (cc)

reading_place : (head : Head) (opc sls : ℕ) (r : Result Message ReadFault) → reads_as_unit r ≡ true → place_of_reading head opc sls r ≡ Data (lane_of head sls)
reading_place head opc sls (Ok m) is = message_place head opc sls m is
reading_place head opc sls (Err fault) is = refl

octets_place : (head : Head) (opc sls : ℕ) (bytes : List ℕ) → reads_as_unit (reading_of bytes) ≡ true → place_of_octets head opc sls bytes ≡ Data (lane_of head sls)
octets_place head opc sls bytes is = by_test (is_too_long bytes) (reading_place head opc sls (reading_of bytes) is)
  where
    by_test : (b : Bool) → place_of_reading head opc sls (reading_of bytes) ≡ Data (lane_of head sls)
        → (if b then Data (lane_of head sls) else place_of_reading head opc sls (reading_of bytes)) ≡ Data (lane_of head sls)
    by_test true reads = refl
    by_test false reads = reads

request_place : (head : Head) (sls : ℕ) (r : Request) → asks_unit sls r ≡ true → place_of_request head r ≡ Data (lane_of head sls)
unfolding place_of_request
request_place head sls (UnitRequest selection class ret called calling body) is = ap (λ s. Data (lane_of head s)) (eqb-true selection sls is)
request_place head sls _ is = absurd (cc)

key_place : (head : Head) (point sls : ℕ) (e : ControlEvent) → is_of_key head.point point sls e ≡ true → place_of head e ≡ Data (lane_of head sls)
unfolding place_of place_of_event
key_place head point sls (Plain (Arrived opc selection bytes)) is =
    let parts = and_parts (selection == sls) (reads_as_unit (reading_of bytes)) (and_parts (opc == point) (selection == sls && reads_as_unit (reading_of bytes)) is).1 in
    octets_place head opc selection bytes parts.1 ∙ ap (λ s. Data (lane_of head s)) (eqb-true selection sls parts.0)
key_place head point sls (Plain (Requested ssn r)) is = request_place head sls r (and_parts (head.point == point) (asks_unit sls r) is).1
key_place head point sls (Plain Tick) is = absurd (cc)
key_place head point sls (Changed group) is = absurd (cc)

-- Filters, one after another.

module _ {X : Type 0} (p q : X → Bool) where
  pub filter_within : ((x : X) → p x ≡ true → q x ≡ true) → (xs : List X) → filter p (filter q xs) ≡ filter p xs
  filter_within so [] = refl
  filter_within so (x ∷ xs) = by_test (q x) (so x) (filter_within so xs)
    where
      by_test : (b : Bool) → (p x ≡ true → b ≡ true) → filter p (filter q xs) ≡ filter p xs
          → filter p (cond b (x ∷ filter q xs) (filter q xs)) ≡ cond (p x) (x ∷ filter p xs) (filter p xs)
      by_test true is rest = ap (λ (l : List X). cond (p x) (x ∷ l) l) rest
      by_test false is rest =
          rest ∙ sym (cond-false (p x) (x ∷ filter p xs) (filter p xs) (false_from_ne_true (p x) (λ t. both_ways false refl (is t))))

  pub filter_apart : ((x : X) → p x ≡ true → q x ≡ false) → (xs : List X) → filter p (filter q xs) ≡ []
  filter_apart so [] = refl
  filter_apart so (x ∷ xs) = by_test (q x) (so x) (filter_apart so xs)
    where
      by_test : (b : Bool) → (p x ≡ true → b ≡ false) → filter p (filter q xs) ≡ [] → filter p (cond b (x ∷ filter q xs) (filter q xs)) ≡ []
      by_test true is rest =
          cond-false (p x) (x ∷ filter p (filter q xs)) (filter p (filter q xs)) (false_from_ne_true (p x) (λ t. both_ways true (is t) refl)) ∙ rest
      by_test false is rest = rest

-- What a lane takes of a link.

list_taken : (in_lane : LanePlace → Bool) (head : Head) (lists : List Stamped) (link : ℕ)
    → slice_index_or (map (taken in_lane head) lists) link [] ≡ taken in_lane head (slice_index_or lists link [])
list_taken in_lane head [] link = refl
list_taken in_lane head (events ∷ lists) zero = refl
list_taken in_lane head (events ∷ lists) (suc link) = list_taken in_lane head lists link

pub link_taken : (in_lane : LanePlace → Bool) (head : Head) (phases : List (List Stamped)) (link : ℕ)
    → events_on (placed in_lane head phases) link ≡ taken in_lane head (events_on phases link)
link_taken in_lane head [] link = refl
link_taken in_lane head (lists ∷ phases) link =
    ap (λ l. l ++ events_on (placed in_lane head phases) link) (list_taken in_lane head lists link)
    ∙ (ap (λ l. taken in_lane head (slice_index_or lists link []) ++ l) (link_taken in_lane head phases link)
    ∙ sym (filter-append (λ e. in_lane (place_of head e.1)) (slice_index_or lists link []) (events_on phases link)))

-- The events of a key stand in its lane, and in no other.
pub key_in : (head : Head) (point sls : ℕ) (in_lane : LanePlace → Bool) (b : Bool) → in_lane (Data (lane_of head sls)) ≡ b
    → (e : ControlEvent) → is_of_key head.point point sls e ≡ true → in_lane (place_of head e) ≡ b
key_in head point sls in_lane b is e of = ap in_lane (key_place head point sls e of) ∙ is
