-- The rule of the gate's table, and what each step tells.
use Rattle.std.specs.Prelude.{◌≡◌, ◌≢◌, ◌⊎◌, ℕ, ◌+◌, ◌<◌, ◌≤◌, List, [], ◌∷◌, Contains, length, slice_index, Option, Some, None}
use mathlib.Core.Option.{some, none}
use lib.ListN.{get_elem?}
use Rattle.atomic_table.specs.Table.{State, Me, Step, step}
use Rattle.lane_gate.specs.Inner.Views.{fresh_counts, new_view, tried_view, resting_view, caller_in, done_in}
use Rattle.lane_gate.specs.declared.gate.TheConstants.{MOST_CALLERS}
use Rattle.lane_gate.specs.declared.table.View.{View}
use Rattle.lane_gate.specs.declared.table.Opening.{Opening}

-- the view of the first seat, to which all callers belong
abbrev pub whole_view : {L : Type 0} → Opening L → View
whole_view key = new_view (fresh_counts 0 key.callers)

module _ {L P : Type 0} (plan : L → P) (taken : L → ℕ → ℕ) where
  -- the lane is at home, and no caller is in mid-call
  pub record IsFree (key : Opening L) (s : State (Option L) View) (account : ℕ → ℕ) : Type 0 where
    pub lane : L
    pub turn : slice_index s.words 0 ≡ 0
    pub home : get_elem? s.homes 0 ≡ some (some (Some lane))
    pub planned : plan lane ≡ plan key.lane.value
    pub counted : (j : ℕ) → taken lane j ≡ account j
    pub idle_views : (i : ℕ) (v : View) → get_elem? s.views i ≡ some v → v.noted ≡ None

-- one caller is in mid-call, has the turn, and noted what the lane had taken
pub record IsTaken {S : Type 0} (s : State S View) (account : ℕ → ℕ) : Type 0 where
  pub seat : ℕ
  pub view : View
  pub there : get_elem? s.views seat ≡ some view
  pub caller : ℕ
  pub done : ℕ
  pub alone : view.counts ≡ (caller, done) ∷ []
  pub turn : slice_index s.words 0 ≡ caller + 1
  pub noted : List ℕ
  pub notes : view.noted ≡ Some noted
  pub counted : (j : ℕ) → slice_index noted j ≡ account j
  pub idle_others : (i : ℕ) (v : View) → get_elem? s.views i ≡ some v → i ≢ seat → v.noted ≡ None

module _ {L P : Type 0} (plan : L → P) (taken : L → ℕ → ℕ) where
  -- Each caller has one account: what it has delivered, and what the lane at home has taken of its link
  pub record IsKept (key : Opening L) (s : State (Option L) View) : Type 0 where
    pub account : ℕ → ℕ
    pub one_word : length s.words ≡ 1
    pub few : key.callers ≤ MOST_CALLERS
    pub nothing_past : (j : ℕ) → key.callers ≤ j → account j ≡ 0
    pub counted : (i j d : ℕ) (v : View) → get_elem? s.views i ≡ some v → Contains v.counts (j, d) → (j < key.callers) × (account j ≡ d)
    pub apart : (i k j d e : ℕ) (v w : View) → get_elem? s.views i ≡ some v → get_elem? s.views k ≡ some w → Contains v.counts (j, d) → Contains w.counts (j, e) → i ≡ k
    pub stands : IsFree plan taken key s account ⊎ IsTaken s account

module _ {L : Type 0} (taken : L → ℕ → ℕ) where
  -- what a caller noted when it took the lane out
  pub record IsNoted (v : View) (noted : List ℕ) (lane : L) : Type 0 where
    pub counted : (j : ℕ) → taken lane j ≡ slice_index noted j
    pub own : slice_index noted (caller_in v) ≡ done_in v

  -- the turn was free, and the lane was taken with it; or another one of so many callers has it
  abbrev pub Enters : (L → Type 0) → ℕ → Step (Option L) → Me (Option L) View → ℕ → Me (Option L) View → Type 0
  Enters known callers st m found m' =
      (found ≡ 0 → (lane : L) × (noted : List ℕ) × (m' ≡ (tried_view m.0 0 (Some noted), (0, Some lane) ∷ m.1)) × known lane × IsNoted m.0 noted lane)
      × (0 < found → (m' ≡ (tried_view m.0 found None, m.1)) × (callers ≤ MOST_CALLERS) × (found ≤ callers) × (found ≢ caller_in m.0 + 1))

  -- the seat has taken this lane out, and left nothing in its slot
  pub record HasEntered (old new : Me (Option L) View) (lane : L) : Type 0 where
    pub noted : List ℕ
    pub out : new ≡ (tried_view old.0 0 (Some noted), (0, None) ∷ [])
    pub right : IsNoted old.0 noted lane

module _ {L : Type 0} where
  -- the lane went home with one event more
  abbrev pub Finishes : Step (Option L) → Me (Option L) View → ℕ → Me (Option L) View → Type 0
  Finishes st m found m' = m' ≡ (resting_view m.0 (caller_in m.0) (done_in m.0 + 1), [])

  -- a seat with this lane in hand, and the step by which the turn is given back: word 0 becomes 0
  abbrev pub holding : Me (Option L) View → L → Me (Option L) View
  holding m lane = (m.0, (0, Some lane) ∷ [])

  abbrev pub turn_given_back : Step (Option L)
  turn_given_back = step 1 0 0 0 none

  -- the lane went home as it was
  abbrev pub Abandons : Step (Option L) → Me (Option L) View → ℕ → Me (Option L) View → Type 0
  Abandons st m found m' = m' ≡ (resting_view m.0 (caller_in m.0) (done_in m.0), [])
