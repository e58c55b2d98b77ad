-- The local references that the connections of a node took, as the code has it.
use Rattle.std.specs.Prelude.{◌≡◌, ℕ, ◌==◌, Bool, false, List, Option, Some, None}
use Rattle.chain_step.specs.Fresh.{is_among, has_twice}

-- those that were taken, in any order, whether one was taken twice, and how many can be taken without memory
pub record ReferencesState : Type 0 where
  pub taken : List ℕ
  pub twice : Bool
  pub room : ℕ

-- it is the reference that an end takes, if it takes one
abbrev pub is_it : Option ℕ → ℕ → Bool
is_it None r = false
is_it (Some mine) r = mine == r

-- that one was taken before
abbrev pub had : Option ℕ → List ℕ → Bool
had None taken = false
had (Some mine) taken = is_among mine taken

-- the same ones were taken
pub record AreSame (old new : ReferencesState) : Type 0 where
  pub each : (mine : ℕ) → is_among mine new.taken ≡ is_among mine old.taken
  pub twice : new.twice ≡ old.twice

-- those of this list were taken
pub record AreTaken (references : ReferencesState) (list : List ℕ) : Type 0 where
  pub each : (mine : ℕ) → is_among mine references.taken ≡ is_among mine list
  pub twice : references.twice ≡ has_twice list
