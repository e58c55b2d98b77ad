-- The ranges of what a head states.
use Rattle.std.specs.Prelude.{◌≡◌, ℕ, ◌-◌, ◌==◌, ◌≤◌, nat_eq, true, false, List, [], length, map, IsTrue}
use Rattle.std.specs.List.{AllByRecursion, IsDistinct, list_any}
use Rattle.relay_base.specs.declared.limits.TheConstants.{GREATEST_CREDIT, MOST_LANES, POINT_CODES}
use Rattle.node_head.specs.declared.head.TheConstants.{GREATEST_USER, LEAST_USER, MOST_LINKS}
use Rattle.node_head.specs.declared.numbers.TheConstants.{MOST_NUMBERS}
use Rattle.plant_core.specs.Terms.{IsWithin, AreTicks}
use Rattle.plant_core.specs.declared.terms.Replicate.{Replicate}
use Rattle.node_head.specs.declared.head.Head.{Head}
use Rattle.node_head.specs.Addable.{are_addable}

-- at most 16 different numbers, from the one to the other
pub record AreNumbers (least : ℕ) (numbers : List ℕ) (most : ℕ) : Type 0 where
  pub each : AllByRecursion (λ n. IsWithin least n most) numbers
  pub distinct : IsDistinct nat_eq numbers
  pub few : length numbers ≤ MOST_NUMBERS

-- at most 16 different points, not the own one
pub record AreOthers (own : ℕ) (points : List ℕ) : Type 0 where
  pub numbers : AreNumbers 0 points (POINT_CODES - 1)
  pub others : list_any (λ point. point == own) points ≡ false

-- a user, and another point that has it too
pub record IsReplicate (own : ℕ) (users : List ℕ) (replicate : Replicate) : Type 0 where
  pub user : list_any (λ user. user == replicate.ssn) users ≡ true
  pub point : (replicate.point == own) ≡ false

-- at most one replicate for each user
pub record AreReplicates (own : ℕ) (users : List ℕ) (replicates : List Replicate) : Type 0 where
  pub each : AllByRecursion (λ r. IsReplicate own users r) replicates
  pub distinct : IsDistinct nat_eq (map (λ r. r.ssn) replicates)

-- what a head that was read states is in its ranges
pub record IsHead (head : Head) : Type 0 where
  pub users : AreNumbers LEAST_USER head.users GREATEST_USER
  pub conn_lanes : IsWithin 1 head.conn_lanes MOST_LANES
  pub data_lanes : IsWithin 1 head.data_lanes MOST_LANES
  pub links : IsWithin 1 head.links MOST_LINKS
  pub credit : IsWithin 1 head.credit GREATEST_CREDIT
  pub concerned : AreOthers head.point head.concerned
  pub timers : AreTicks head.timers
  pub rows : IsTrue (are_addable [] head.row)
  pub replicates : AreReplicates head.point head.users head.replicate
  pub short : AreOthers head.point head.short
