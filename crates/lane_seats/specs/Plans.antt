-- What a lane is to take of a phase.
use Rattle.std.specs.Prelude.{◌≡◌, ℕ, ◌+◌, ◌==◌, Bool, List, [], filter, length, take, slice_index_or}
use Rattle.node_head.specs.declared.head.Head.{Head}
use Rattle.capture_form.specs.declared.lane_place.LanePlace.{LanePlace}
use Rattle.capture_form.specs.Events.{Stamped, AreOfLinks}
use Rattle.right_book.specs.Placed.{taken}

-- those of a list that came on a link
abbrev pub of_link : ℕ → Stamped → Stamped
of_link link events = filter (λ e. e.0.link == link) events

-- those of a link's list that are placed in the lane
abbrev pub planned : (LanePlace → Bool) → Head → List Stamped → ℕ → Stamped
planned in_lane head lists link = taken in_lane head (slice_index_or lists link [])

-- of each link these are the first of its plan, in order
abbrev pub AreBegun : (ℕ → Stamped) → Stamped → Type 0
AreBegun plan events = (link : ℕ) → of_link link events ≡ take (length (of_link link events)) (plan link)

-- of each link these are all of its plan, in order; nothing is said of the order between links
abbrev pub AreWhole : (ℕ → Stamped) → Stamped → Type 0
AreWhole plan events = (link : ℕ) → of_link link events ≡ plan link

-- a list for each link of the head, whose stamps name the list's link, and one phase
pub record IsPhase (head : Head) (lists : List Stamped) : Type 0 where
  pub number : ℕ
  pub count : length lists ≡ head.links + 1
  pub stamped : AreOfLinks number 0 lists
