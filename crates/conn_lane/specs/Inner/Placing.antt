-- The connections of a lane that aren't over, each in a place of its own, with its number in the lane's journal.
use Rattle.std.specs.Prelude.{◌≡◌, ℕ, ◌<◌, List, map, Option, Some, None, option_map}
use Rattle.std.specs.List.{range_with_len}
use Rattle.section_coupling.specs.Duos.{DuoState}
use Rattle.conn_lane.specs.declared.placed.Placed.{Placed}

-- The connections by their numbers, each until it is over, and for how many more memory is there.
pub record ConnectionsState : Type 0 where
  pub kept : List (Option DuoState)
  pub room : ℕ

-- what stands in the place of a number, if it has one
abbrev pub one_in : (ℕ → Option Placed) → Option ℕ → Option DuoState
one_in placed None = None
one_in placed (Some place) = option_map (λ p. p.one) (placed place)

abbrev pub one_of : (ℕ → Option Placed) → (ℕ → Option ℕ) → ℕ → Option DuoState
one_of placed places number = one_in placed (places number)

-- the connections of the numbers up to this one
abbrev pub kept_in : (ℕ → Option Placed) → (ℕ → Option ℕ) → ℕ → List (Option DuoState)
kept_in placed places opened = map (one_of placed places) (range_with_len 0 opened)

-- a connection of this number
pub record IsOfNumber (number : ℕ) (placed : Option Placed) : Type 0 where
  pub one : Placed
  pub is : placed ≡ Some one
  pub number_is : one.number ≡ number

-- each number that has a place is that of an opening, and its connection stands there; and what stands somewhere is in the place of its
-- number, so that none stands twice
pub record ArePlaced (placed : ℕ → Option Placed) (places : ℕ → Option ℕ) (opened : ℕ) : Type 0 where
  pub opens : (number place : ℕ) → places number ≡ Some place → number < opened
  pub found : (number place : ℕ) → places number ≡ Some place → IsOfNumber number (placed place)
  pub known : (place : ℕ) (p : Placed) → placed place ≡ Some p → places p.number ≡ Some place
