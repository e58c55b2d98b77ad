-- What comes on links, and which of it a lane is to take.
use Rattle.std.specs.Prelude.{◌≡◌, ℕ, Bool, List, [], filter, map, slice_index_or}
use Rattle.std.specs.List.{AllByRecursion}
use Rattle.relay_base.specs.declared.words.Stamp.{Stamp}
use Rattle.capture_form.specs.declared.lane_place.LanePlace.{LanePlace}
use Rattle.right_book.specs.Placed.{in_control, in_conn, in_data}
use Rattle.link_threads.specs.declared.arrivals.Arrival.{Arrival}
use Rattle.link_threads.specs.declared.lane_name.LaneName.{LaneName}
use Rattle.link_threads.specs.declared.lane_name.LaneName.TheVariants as name

-- the places that are in the lane of a name
abbrev pub is_in : LaneName → LanePlace → Bool
is_in name.Control place = in_control place
is_in (name.Conn number) place = in_conn number place
is_in (name.Data number) place = in_data number place

-- what comes on a link, in its order
abbrev pub Link : Type 0 → Type 0
Link E = List (Arrival E)

module _ {E : Type 0} where
  -- the events, with their stamps
  abbrev pub events_in : Link E → List (Stamp × E)
  events_in link = map (λ a. (a.stamp, a.event)) link

  -- those of a link's events that are for the lane of a name
  abbrev pub events_for : LaneName → Link E → List (Stamp × E)
  events_for name link = events_in (filter (λ a. is_in name a.place) link)

  -- the link of a number; of a number that no link has nothing comes
  abbrev pub link_at : List (Link E) → ℕ → Link E
  link_at links number = slice_index_or links number []

  -- of the link of a number
  abbrev pub planned_for : LaneName → List (Link E) → ℕ → List (Stamp × E)
  planned_for name links number = events_for name (link_at links number)

  -- each event of a link is stamped with this number
  abbrev pub IsStamped : ℕ → Link E → Type 0
  IsStamped number link = AllByRecursion (λ a. a.stamp.link ≡ number) link
