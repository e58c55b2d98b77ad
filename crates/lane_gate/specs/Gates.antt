-- What contracts see of a gate, and which passes are its own.
use Rattle.std.specs.Prelude.{◌≡◌, ℕ, ◌<◌, List, All, Any, length, slice_get, Some}
use Rattle.lane_gate.specs.declared.gate.Gate.{Gate}
use Rattle.lane_gate.specs.declared.pass.Pass.{Pass}

-- the type of a gate takes its lane's type of events too
module _ {L E : Type 0} where
  -- the lane as it was put in
  abbrev pub origin_of : Gate L E → L
  origin_of gate = gate.table.shared.key.lane.value

  abbrev pub callers_of : Gate L E → ℕ
  callers_of gate = gate.table.shared.key.callers

  abbrev pub IsPassOf : Gate L E → Pass → Type 0
  IsPassOf gate pass = pass.badge.table_id ≡ gate.table.shared.table_id

  -- these are all passes of the gate, in whatever order
  pub record AreAllPasses (gate : Gate L E) (passes : List Pass) : Type 0 where
    pub own : All (IsPassOf gate) passes
    pub each : (k : ℕ) → k < callers_of gate → Any (λ p. p.number ≡ k) passes

-- the passes are numbered from 0, as many as there are callers
pub record AreNumbered (callers : ℕ) (passes : List Pass) : Type 0 where
  pub count : length passes ≡ callers
  pub each : (k : ℕ) (p : Pass) → slice_get passes k ≡ Some p → p.number ≡ k
