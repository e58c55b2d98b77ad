-- Sets of numbers as marks.
use Rattle.std.specs.Prelude.{◌≡◌, ◌⊎◌, ℕ, suc, Bool, false, List, [], ◌∷◌, ◌++◌, length, map, replicate, cond}
use Rattle.relay_base.specs.declared.limits.TheConstants.{SUBSYSTEM_NUMBERS}
use Rattle.plant_core.specs.declared.statuses.RemoteSubsystem.{RemoteSubsystem}

-- a set of numbers below a size, and whether one can be put in without memory
pub record MembersState : Type 0 where
  pub members : List ℕ
  pub size : ℕ
  pub has_room : Bool

-- a set of subsystems of other points, and how many can be put in without memory
pub record SubsystemsState : Type 0 where
  pub members : List RemoteSubsystem
  pub room : ℕ

-- the numbers from this one on that are marked
abbrev pub marked_from : ℕ → List Bool → List ℕ
marked_from n [] = []
marked_from n (mark ∷ more) = cond mark (n ∷ marked_from (suc n) more) (marked_from (suc n) more)

abbrev pub subsystem : ℕ → ℕ → RemoteSubsystem
subsystem point ssn = record { point = point; ssn = ssn }

-- the subsystems that are marked, of the points from this one on
abbrev pub subsystems_from : ℕ → List (List Bool) → List RemoteSubsystem
subsystems_from point [] = []
subsystems_from point (row ∷ rows) = map (subsystem point) (marked_from 0 row) ++ subsystems_from (suc point) rows

-- marks for all subsystems of a point, or none
abbrev pub IsWhole : List Bool → Type 0
IsWhole row = (row ≡ []) ⊎ (length row ≡ SUBSYSTEM_NUMBERS)

-- marks for all subsystems of a point, of which none is set
abbrev pub IsCleared : List Bool → Type 0
IsCleared row = row ≡ replicate SUBSYSTEM_NUMBERS false
