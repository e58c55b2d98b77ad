-- What the reading of a text's lines has come to.
use Rattle.std.specs.Prelude.{ℕ, ◌≡◌, ◌+◌, ◌≤◌, ◌<◌, zero, suc, Bool, false, List, [], ◌∷◌, length, take, drop, Some, None}
use Rattle.journal_form.specs.declared.parts.FormRefused.{FormRefused}
use Rattle.journal_form.specs.declared.parts.FormRefused.TheVariants.{Fault, Memory}
use Rattle.journal_form.specs.Words.{same}
use Rattle.journal_form.specs.Form.{Place, AtTop, InLane, first_fault}
use Rattle.journal_form.specs.Parts.{EntryPart, LanePart, IsLane, entry_at, entries_size, lane_size, lanes_size, AreEntries, AreLanes}

-- these entries were read from a place on, up to another
pub record HasRead (from : ℕ) (lines : List (List ℕ)) (entries : List EntryPart) (at : ℕ) : Type 0 where
  pub stand : AreEntries from lines entries
  pub place : at ≡ from + entries_size entries
  pub within : at ≤ length lines

-- where the lines behind so many lanes stand
abbrev pub place_of : ℕ → Place
place_of zero = AtTop
place_of (suc n) = InLane

-- these lanes were read, the first k of the names, up to a place, and no line so far is a fault
pub record HasLanes (names : List (List ℕ)) (lines : List (List ℕ)) (k : ℕ) (lanes : List LanePart) (at : ℕ) : Type 0 where
  pub stand : AreLanes 0 lines (take k names) lanes
  pub place : at ≡ lanes_size lanes
  pub within : at ≤ length lines
  pub end : 0 < k → entry_at at lines ≡ None
  pub fault : (rest : List ℕ) → first_fault names AtTop 1 rest lines ≡ first_fault (drop k names) (place_of k) (at + 1) rest (drop at lines)

-- a line of this text stands at the front
abbrev pub front_is : List (List ℕ) → List ℕ → Bool
front_is [] name = false
front_is (line ∷ more) name = same line name

-- a lane of this name was read at a place, up to another
pub record HasLane (at : ℕ) (lines : List (List ℕ)) (name : List ℕ) (lane : LanePart) (next : ℕ) : Type 0 where
  pub stands : IsLane at lines name lane
  pub place : next ≡ at + lane_size lane
  pub within : next ≤ length lines

-- no lane of this name stands at a place
abbrev pub LacksLane : ℕ → List (List ℕ) → List ℕ → FormRefused → Type 0
LacksLane at lines name (Fault n) = (n ≡ at + 1) × (front_is (drop at lines) name ≡ false)
LacksLane at lines name Memory = Unit {0}

-- the fault of a text's lines, whatever stands behind them
abbrev pub BreaksForm : List (List ℕ) → List (List ℕ) → FormRefused → Type 0
BreaksForm names lines (Fault n) = (rest : List ℕ) → first_fault names AtTop 1 rest lines ≡ Some n
BreaksForm names lines Memory = Unit {0}
