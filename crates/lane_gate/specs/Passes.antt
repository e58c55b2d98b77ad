-- What contracts see of a pass.
use Rattle.std.specs.Prelude.{◌≡◌, ◌≢◌, ℕ, ◌+◌, ◌<◌}
use Rattle.lane_gate.specs.Inner.Views.{only_view, done_in}
use Rattle.lane_gate.specs.declared.table.View.{View}
use Rattle.lane_gate.specs.declared.pass.Pass.{Pass}
use Rattle.lane_gate.specs.declared.pass.Refused.{Refused}
use Rattle.lane_gate.specs.declared.pass.Refused.TheVariants.{Busy, Memory}

abbrev pub view_of : Pass → View
view_of pass = only_view pass.badge.views

-- the number of events delivered through it
abbrev pub done_of : Pass → ℕ
done_of pass = done_in (view_of pass)

-- its caller, with the number of events delivered
abbrev pub count_of : Pass → ℕ × ℕ
count_of pass = (pass.number, done_of pass)

-- how often it tried to take the turn, and what it found the last time
abbrev pub tries_of : Pass → ℕ
tries_of pass = (view_of pass).tries

abbrev pub saw_of : Pass → ℕ
saw_of pass = (view_of pass).saw

-- the pass of the same caller of the same gate
pub record IsSamePass (old new : Pass) : Type 0 where
  pub number : new.number ≡ old.number
  pub gate : new.badge.table_id ≡ old.badge.table_id

-- the turn was tried in a call, and the last time it was free
pub record HadItsTurn (old new : View) : Type 0 where
  pub tried : old.tries < new.tries
  pub free : new.saw ≡ 0

-- The event comes back, and this call tried the turn once. Where the lane was busy, it found there the number of another of the gate's callers; where memory ran out, it had the turn.
abbrev pub TellsWhy : {E : Type 0} → ℕ → ℕ → View → View → E → Refused E → Type 0
TellsWhy callers number old new event (Busy back holder) = (back ≡ event) × (new.tries ≡ old.tries + 1) × (new.saw ≡ holder + 1) × (holder ≢ number) × (holder < callers)
TellsWhy callers number old new event (Memory back) = (back ≡ event) × (new.tries ≡ old.tries + 1) × (new.saw ≡ 0)
