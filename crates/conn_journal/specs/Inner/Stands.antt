-- What the code of a lane keeps stands for the openings of its journal.
use Rattle.std.specs.Prelude.{◌≡◌, ℕ, ◌≤◌, true, false, List, map, All, Option, IfSome}
use Rattle.section_model.specs.References.{slot_of, lane_number_of}
use Rattle.conn_journal.specs.Inner.Remnants.{Seat, Remnant, sits, times_in}
use Rattle.conn_journal.specs.Inner.Seated.{AreOrderly}
use Rattle.conn_journal.specs.Inner.Uses.{use_of, AreUsed, AreCounted}
use Rattle.conn_journal.specs.Inner.Views.{OpeningsState, lives_at}

-- a reference of the lane of this number
abbrev pub IsOfLane : ℕ → Option Seat → Type 0
IsOfLane lane seat = IfSome seat (λ s. (1 ≤ slot_of s.mine) × (lane_number_of s.mine ≡ lane))

-- an opening whose ends have references of the lane, no slot both, and freeze as the lane does
pub record IsPlaced (lane freeze : ℕ) (k : Remnant) : Type 0 where
  pub this : IsOfLane lane k.this
  pub that : IsOfLane lane k.that
  pub ends : (slot : ℕ) → sits slot k.this ≡ true → sits slot k.that ≡ false
  pub freezes : IfSome k.live (λ l. l.ticks.freeze ≡ freeze)

-- each connection that isn't over is kept under its number, for its state; each slot is held, or frozen with so many ticks left, or
-- free, as these openings make it, and has the generation of its next turn; and the index has exactly the ends with a reference that aren't
-- gone
pub record Stands (keeps : List Remnant) (o : OpeningsState) : Type 0 where
  pub lives : lives_at o.taken o.kept ≡ map (λ k. k.live) keeps
  pub orderly : AreOrderly keeps
  pub placed : All (IsPlaced o.slots.lane o.slots.freeze) keeps
  pub uses : AreUsed (use_of keeps) o.slots o.owners
  pub turns : AreCounted (times_in keeps) o.slots

pub record IsStanding (o : OpeningsState) : Type 0 where
  pub keeps : List Remnant
  pub stands : Stands keeps o
