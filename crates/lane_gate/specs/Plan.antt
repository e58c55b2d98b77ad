-- What a lane is to take, and how far it has come.
use Rattle.std.specs.Prelude.{◌≡◌, ◌≢◌, ℕ, ◌+◌, List, slice_get, Some}
use Rattle.relay_base.specs.declared.words.Stamp.{Stamp}

-- the base is plain data of the lane's own, and each link has its list
pub record Plan (B E : Type 0) : Type 0 where
  pub base : B
  pub links : ℕ → List (Stamp × E)

-- the pair is the member of its link's list at the place `taken`
abbrev pub IsNext : {B E : Type 0} → Plan B E → (ℕ → ℕ) → Stamp → E → Type 0
IsNext plan taken stamp event = slice_get (plan.links stamp.link) (taken stamp.link) ≡ Some (stamp, event)

-- the number of this link rises by one, and the others stay
pub record Raises (old new : ℕ → ℕ) (link : ℕ) : Type 0 where
  pub here : new link ≡ old link + 1
  pub others : (j : ℕ) → j ≢ link → new j ≡ old j

abbrev pub Stays : (ℕ → ℕ) → (ℕ → ℕ) → Type 0
Stays old new = (j : ℕ) → new j ≡ old j
