-- What the lane of the tests is to take: of each link 500 events.
use Rattle.std.specs.Prelude.{◌≡◌, ℕ, ◌+◌, ◌*◌, ◌<◌, List, length, map, slice_index_or}
use Rattle.std.specs.List.{range_with_len}
use Rattle.relay_base.specs.declared.words.Stamp.{Stamp}
use Rattle.lane_gate.specs.declared.gate.Gate.{Gate}
use Rattle.lane_gate.specs.declared.pass.Pass.{Pass}
use Rattle.lane_gate.specs.Gates.{IsPassOf}
use Rattle.lane_gate.specs.Passes.{done_of}

abbrev pub events_of : ℕ → List (Stamp × ℕ)
events_of link = map (λ line. (record { phase = 1; link = link; line = line }, link * 1000 + line)) (range_with_len 0 500)

-- a new pass of the gate
abbrev pub IsReady : {L E : Type 0} → Gate L E → Pass → Type 0
IsReady gate pass = IsPassOf gate pass × (done_of pass ≡ 0)

-- the new pass of the caller k, and the same after use
abbrev pub IsDealt : {L E : Type 0} → Gate L E → ℕ → Pass → Type 0
IsDealt gate k pass = (pass.number ≡ k) × IsReady gate pass

abbrev pub IsServed : {L E : Type 0} → Gate L E → ℕ → Pass → Type 0
IsServed gate k pass = (pass.number ≡ k) × IsPassOf gate pass

abbrev pub EachAt : {X : Type 0} → (ℕ → X → Type 0) → List X → Type 0
EachAt P xs = (k : ℕ) (d : _) → k < length xs → P k (slice_index_or xs k d)
