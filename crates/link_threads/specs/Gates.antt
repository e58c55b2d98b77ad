-- The gates of lanes, the passes that each link's thread holds, and what was delivered through them.
use Rattle.std.specs.Prelude.{◌≡◌, ◌≢◌, ℕ, ◌<◌, ◌≤◌, true, false, Bool, List, [], ◌∷◌, ◌++◌, length, slice_get, slice_index_or, All, Some}
use Rattle.std.specs.declared.vec.Vec.{Vec}
use Rattle.std.specs.declared.alloc.Global.{Global}
use Rattle.relay_base.specs.declared.words.Stamp.{Stamp}
use Rattle.capture_form.specs.declared.lane_place.LanePlace.{LanePlace}
use Rattle.lane_gate.specs.declared.gate.Gate.{Gate}
use Rattle.lane_gate.specs.declared.pass.Pass.{Pass}
use Rattle.lane_gate.specs.Gates.{origin_of, callers_of, IsPassOf, AreAllPasses}
use Rattle.lane_gate.specs.Passes.{done_of}
use Rattle.lane_gate.specs.Plan.{Plan}
use Rattle.right_book.specs.Lanes.{LanesFrom}
use Rattle.link_threads.specs.declared.arrivals.Arrival.{Arrival}
use Rattle.link_threads.specs.declared.lane_name.LaneName.{LaneName}
use Rattle.link_threads.specs.declared.door.Door.{Door}
use Rattle.block_threads.specs.Items.{Beside}
use Rattle.link_threads.specs.Links.{Link, IsStamped, is_in, events_in, events_for, link_at, planned_for}

-- passes that one thread holds, one of each gate
abbrev pub Hand : Type 0
Hand = Vec Pass Global

-- ---- lanes

module _ {L E B : Type 0} (plan : L → Plan B E) where
  -- a lane that is to take of each link what is for its name, and has taken nothing
  pub record IsAtOpening (has_taken : L → ℕ → ℕ) (name : L → LaneName) (links : List (Link E)) (lane : L) : Type 0 where
    pub plan_is : (number : ℕ) → (plan lane).links number ≡ planned_for (name lane) links number
    pub fresh : (number : ℕ) → has_taken lane number ≡ 0

  -- a lane with the same plan, which has taken all of it
  pub record HasTaken (has_taken : L → ℕ → ℕ) (old new : L) : Type 0 where
    pub same : plan new ≡ plan old
    pub all : (number : ℕ) → has_taken new number ≡ length ((plan old).links number)

  -- the gate of a lane that is to take of each link what is for the name, with a caller for each link
  pub record IsDoorOf (links : List (Link E)) (door : Door L E) : Type 0 where
    pub plan_is : (number : ℕ) → (plan (origin_of door.gate)).links number ≡ planned_for door.name links number
    pub callers : callers_of door.gate ≡ length links

-- ---- dealing

module _ {L E : Type 0} where
  -- a new pass of this gate and of this link
  pub record IsNewPass (number : ℕ) (gate : Gate L E) (pass : Pass) : Type 0 where
    pub own : IsPassOf gate pass
    pub number_is : pass.number ≡ number
    pub unused : done_of pass ≡ 0

  -- new passes of a gate, numbered from 0
  pub record AreNew (gate : Gate L E) (passes : List Pass) : Type 0 where
    pub own : All (IsPassOf gate) passes
    pub numbered : (k : ℕ) (p : Pass) → slice_get passes k ≡ Some p → p.number ≡ k
    pub unused : All (λ p. done_of p ≡ 0) passes

  -- the hand of a link has one pass more
  pub record GetsPass (gate : Gate L E) (number : ℕ) (old new : Hand) : Type 0 where
    pub pass : Pass
    pub items : new.items ≡ old.items ++ pass ∷ []
    pub is_new : IsNewPass number gate pass

  -- from this link on, each hand has one pass more
  pub record IsDealt (gate : Gate L E) (from number : ℕ) (old new : Hand) : Type 0 where
    pub before : number < from → new ≡ old
    pub after : from ≤ number → GetsPass gate number old new

  -- the hand of a link has a new pass of each gate
  abbrev pub HasNewOfEach : List (Door L E) → ℕ → Hand → Type 0
  HasNewOfEach doors number hand = Beside (λ door pass. IsNewPass number door.gate pass) doors hand.items

module _ {L E B : Type 0} (plan : L → Plan B E) (links : List (Link E)) where
  -- gates of lanes, and in each link's hand a new pass of each
  pub record AreDealt (doors : List (Door L E)) (hands : List Hand) : Type 0 where
    pub each : All (IsDoorOf plan links) doors
    pub count : length hands ≡ length links
    pub passes : LanesFrom (HasNewOfEach doors) 0 hands

-- ---- feeding

module _ {L E B : Type 0} (plan : L → Plan B E) where
  -- What came before on the link for the lane went through its pass of this gate, and the lane is to take what is left of it too.
  pub record HasFed (number : ℕ) (left : Link E) (door : Door L E) (pass : Pass) : Type 0 where
    pub had : List (Stamp × E)
    pub plan_is : (plan (origin_of door.gate)).links number ≡ had ++ events_for door.name left
    pub own : IsPassOf door.gate pass
    pub number_is : pass.number ≡ number
    pub done : done_of pass ≡ length had

  -- the lanes before this one had the event, and the others have it before them
  pub record IsFedBelow (arrival : Arrival E) (left : Link E) (far : ℕ) (doors : List (Door L E)) (passes : List Pass) : Type 0 where
    pub size : length passes ≡ length doors
    pub before : (k : ℕ) (g : Door L E) (d : Pass) → k < far → k < length doors → HasFed arrival.stamp.link left (slice_index_or doors k g) (slice_index_or passes k d)
    pub after : (k : ℕ) (g : Door L E) (d : Pass) → far ≤ k → k < length doors → HasFed arrival.stamp.link (arrival ∷ left) (slice_index_or doors k g) (slice_index_or passes k d)

module _ {L E : Type 0} (place : LanePlace) where
  -- the place is in no lane
  abbrev pub IsForNone : List (Door L E) → Type 0
  IsForNone doors = All (λ door. is_in door.name place ≡ false) doors

  -- this is the first lane in which the place is
  pub record IsFirstFor (doors : List (Door L E)) (first : ℕ) : Type 0 where
    pub within : first < length doors
    pub here : (d : Door L E) → is_in (slice_index_or doors first d).name place ≡ true
    pub before : (k : ℕ) (d : Door L E) → k < first → is_in (slice_index_or doors k d).name place ≡ false

  -- this is the last lane in which the place is
  pub record IsLastFor (doors : List (Door L E)) (last : ℕ) : Type 0 where
    pub within : last < length doors
    pub here : (d : Door L E) → is_in (slice_index_or doors last d).name place ≡ true
    pub behind : (k : ℕ) (d : Door L E) → last < k → k < length doors → is_in (slice_index_or doors k d).name place ≡ false

  -- this is the only lane in which the place is
  pub record IsOnlyFor (doors : List (Door L E)) (lane : ℕ) : Type 0 where
    pub within : lane < length doors
    pub here : (d : Door L E) → is_in (slice_index_or doors lane d).name place ≡ true
    pub others : (k : ℕ) (d : Door L E) → k ≢ lane → k < length doors → is_in (slice_index_or doors k d).name place ≡ false

-- ---- units that wait

-- none waits for any lane
abbrev pub NoneWaits : {E : Type 0} → List (Link E) → Type 0
NoneWaits waiting = All (λ units. units ≡ []) waiting

module _ {L E B : Type 0} (plan : L → Plan B E) where
  -- What came before on the link for the lane went through its pass of this gate but for the units that wait, and the lane is to take these, and then what is
  -- left of it.
  pub record HasFedBut (number : ℕ) (units left : Link E) (door : Door L E) (pass : Pass) : Type 0 where
    pub had : List (Stamp × E)
    pub plan_is : (plan (origin_of door.gate)).links number ≡ had ++ (events_in units ++ events_for door.name left)
    pub stamped : IsStamped number units
    pub own : IsPassOf door.gate pass
    pub number_is : pass.number ≡ number
    pub done : done_of pass ≡ length had

  -- so it is with each lane
  pub record HaveFedBut (number : ℕ) (left : Link E) (doors : List (Door L E)) (waiting : List (Link E)) (passes : List Pass) : Type 0 where
    pub lanes : length waiting ≡ length doors
    pub size : length passes ≡ length doors
    pub each : (k : ℕ) (g : Door L E) (d : Pass) → k < length doors
        → HasFedBut number (slice_index_or waiting k []) left (slice_index_or doors k g) (slice_index_or passes k d)

-- ---- feeders

-- a feeder: the gates, the number of its link and what is left of it, and a pass of each gate; and whether it came to its end
pub record FeederState (L E : Type 0) : Type 0 where
  pub doors : List (Door L E)
  pub number : ℕ
  pub left : Link E
  pub passes : Hand
  pub ended : Bool

module _ {L E B : Type 0} (plan : L → Plan B E) where
  -- before the first event
  pub record IsReady (f : FeederState L E) : Type 0 where
    pub stamped : IsStamped f.number f.left
    pub ready : Beside (HasFed plan f.number f.left) f.doors f.passes.items

  -- after the last one, if it came to its end: all events of its link went through the passes
  abbrev pub HasRun : FeederState L E → FeederState L E → Type 0
  HasRun old new = new.ended ≡ true → Beside (HasFed plan old.number []) old.doors new.passes.items

-- the feeder of a link, with the passes that a hand held
pub record IsFeederOf {L E : Type 0} (doors : List (Door L E)) (links : List (Link E)) (number : ℕ) (hand : Hand) (f : FeederState L E) : Type 0 where
  pub doors_are : f.doors ≡ doors
  pub number_is : f.number ≡ number
  pub left_is : f.left ≡ link_at links number
  pub passes_are : f.passes ≡ hand

-- ---- closing

module _ {L E B : Type 0} (plan : L → Plan B E) where
  -- all events of the link went through its pass of this gate
  pub record HasUsed (number : ℕ) (door : Door L E) (pass : Pass) : Type 0 where
    pub own : IsPassOf door.gate pass
    pub number_is : pass.number ≡ number
    pub done : done_of pass ≡ length ((plan (origin_of door.gate)).links number)

  -- and so did they through its pass of each gate
  abbrev pub HasUsedEach : List (Door L E) → ℕ → Hand → Type 0
  HasUsedEach doors number hand = Beside (HasUsed number) doors hand.items

  -- and those of each link
  pub record AreUsed (links : List (Link E)) (doors : List (Door L E)) (hands : List Hand) : Type 0 where
    pub each : All (IsDoorOf plan links) doors
    pub count : length hands ≡ length links
    pub used : LanesFrom (HasUsedEach doors) 0 hands

  -- and so did those of all links
  pub record HaveUsed (doors : List (Door L E)) (hands : List Hand) : Type 0 where
    pub links : List (Link E)
    pub used : AreUsed links doors hands

  -- what closing a gate needs: the passes are all, and used up, and no other link has events
  pub record AreUsedUp (gate : Gate L E) (passes : List Pass) : Type 0 where
    pub all : AreAllPasses gate passes
    pub few : All (λ p. p.number < callers_of gate) passes
    pub done : All (λ p. done_of p ≡ length ((plan (origin_of gate)).links p.number)) passes
    pub others : (number : ℕ) → callers_of gate ≤ number → (plan (origin_of gate)).links number ≡ []

-- a hand gave its last pass
abbrev pub GivesPass : Hand → Hand → Pass → Type 0
GivesPass old new pass = old.items ≡ new.items ++ pass ∷ []

-- and so did each hand of a list
abbrev pub GivePasses : List Hand → List Hand → List Pass → Type 0
GivePasses [] [] [] = Unit {0}
GivePasses (old ∷ olds) (new ∷ news) (pass ∷ passes) = GivesPass old new pass × GivePasses olds news passes
GivePasses _ _ _ = ⊥
