-- What a seat of the gate's table knows, and how seats are cut and joined.
use Rattle.std.specs.Prelude.{◌≡◌, ℕ, zero, suc, ◌+◌, List, [], ◌∷◌, ◌++◌, take, drop, Option, None}
use Rattle.lane_gate.specs.declared.table.View.{View}

-- callers in order, from this one on, which have delivered nothing
abbrev pub fresh_counts : ℕ → ℕ → List (ℕ × ℕ)
fresh_counts from zero = []
fresh_counts from (suc more) = (from, 0) ∷ fresh_counts (from + 1) more

-- a seat of these callers which has tried nothing
abbrev pub new_view : List (ℕ × ℕ) → View
new_view counts = record { counts = counts; tries = 0; saw = 0; noted = None }

-- the seat that was joined into another
abbrev pub spent_view : View
spent_view = new_view []

-- the first caller of a seat, and how much it has delivered
abbrev pub first_count : List (ℕ × ℕ) → ℕ × ℕ
first_count [] = (0, 0)
first_count (c ∷ cs) = c

abbrev pub caller_in : View → ℕ
caller_in v = (first_count v.counts).0

abbrev pub done_in : View → ℕ
done_in v = (first_count v.counts).1

-- the turn was tried
abbrev pub tried_view : View → ℕ → Option (List ℕ) → View
tried_view v saw noted = record v { tries = v.tries + 1; saw = saw; noted = noted }

-- one caller, not in mid-call
abbrev pub resting_view : View → ℕ → ℕ → View
resting_view v caller done = record v { counts = (caller, done) ∷ []; noted = None }

-- the first caller, and those behind it
abbrev pub front_view : View → View
front_view v = record v { counts = take 1 v.counts }

abbrev pub rear_view : View → View
rear_view v = record v { counts = drop 1 v.counts }

-- a seat with another one's callers before its own
abbrev pub joined_view : View → View → View
joined_view v w = record v { counts = w.counts ++ v.counts }

abbrev pub IsResting : View → ℕ → Type 0
IsResting v caller = v ≡ resting_view v caller (done_in v)

-- the seat has one caller, of this number, and nothing in hand
abbrev pub IsIdle : {S : Type 0} → View × List (ℕ × S) → ℕ → Type 0
IsIdle m caller = IsResting m.0 caller × (m.1 ≡ [])

-- the one view of a badge
abbrev pub only_view : List View → View
only_view [] = spent_view
only_view (v ∷ vs) = v

abbrev pub IsAlone : List View → ℕ → Type 0
IsAlone views caller = views ≡ resting_view (only_view views) caller (done_in (only_view views)) ∷ []
