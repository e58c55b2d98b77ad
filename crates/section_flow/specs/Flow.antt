-- The flow control of a section (Q.714, 3.5.2): its counts as whole numbers, its credits, and the units that wait.
use Rattle.std.specs.Prelude.{ℕ, suc, ◌+◌, ◌-◌, ◌%◌, ◌==◌, Bool, false, not, List, [], ◌∷◌, ◌++◌, length, if◌then◌else◌, Option, Some, None, unwrap_or}
use Rattle.relay_base.specs.declared.causes.TheConstants.{RESET_INCORRECT_RECEIVE_NUMBER, RESET_OUT_OF_WINDOW}
use Rattle.section_flow.specs.declared.unit.Unit.{Unit as DataUnit}
use Rattle.section_flow.specs.declared.limits.TheConstants.{SEQUENCE_NUMBERS}
use Rattle.section_flow.specs.Windows.{Windows, count_of, is_valid, wrong_number}
use Rattle.section_flow.specs.declared.counts.Counts.{Counts}
pub use Rattle.section_flow.specs.Held.{IsWithinWindows}

-- The credit that was agreed on, how many units may be sent beyond the last P(R) received, the counts, the units of the other end that
-- wait, and how many more may be put behind them without memory.
pub record FlowState : Type 0 where
  pub agreed : ℕ
  pub credit : ℕ
  pub counts : Counts
  pub waits : List DataUnit
  pub room : ℕ

-- the windows of a section without expedited data
abbrev pub windows_of : FlowState → Windows
windows_of f = record {
  got = f.counts.got;
  passed = f.counts.passed;
  told = f.counts.told;
  sent = f.counts.sent;
  acked = f.counts.acked;
  credit = f.credit;
  waits = f.waits;
  waiting = None;
  unanswered = false;
  owed = false;
}

abbrev pub no_counts : Counts
no_counts = record { got = []; passed = 0; told = 0; sent = 0; acked = 0 }

-- The counts begin, or begin again, with the credit that was agreed on.
abbrev pub cleared_flow : ℕ → ℕ → FlowState
cleared_flow credit room = record { agreed = credit; credit = credit; counts = no_counts; waits = []; room = room }

-- Why a unit with P(S) and P(R) isn't accepted, as the cause of the reset: another P(S) is expected, the window is used up, or P(R)
-- isn't valid.
abbrev pub unit_refusal : ℕ → ℕ → FlowState → Option ℕ
unit_refusal ps pr f =
    if not (ps == length f.counts.got % SEQUENCE_NUMBERS) then Some (wrong_number (windows_of f))
    else if length f.counts.got - f.counts.told == f.agreed then Some RESET_OUT_OF_WINDOW
    else if not (is_valid pr (windows_of f)) then Some RESET_INCORRECT_RECEIVE_NUMBER
    else None

abbrev pub acked_after : ℕ → Counts → ℕ
acked_after pr c = unwrap_or (count_of pr c.acked c.sent) c.acked

-- A unit is accepted, and its P(R) is taken.
abbrev pub counts_after_unit : ℕ → Bool → List ℕ → Counts → Counts
counts_after_unit pr more body c = record c { got = c.got ++ record { more = more; body = body } ∷ []; acked = acked_after pr c }

-- P(R) is taken.
abbrev pub counts_after_acknowledgement : ℕ → Counts → Counts
counts_after_acknowledgement pr c = record c { acked = acked_after pr c }

-- A unit is sent; it carries P(R) too.
abbrev pub counts_after_sending : Counts → Counts
counts_after_sending c = record c { sent = suc c.sent; told = c.passed }

-- So many units left on the other end.
abbrev pub counts_after_leaving : ℕ → Counts → Counts
counts_after_leaving units c = record c { passed = c.passed + units }

-- P(R) is sent.
abbrev pub counts_after_telling : Counts → Counts
counts_after_telling c = record c { told = c.passed }

-- the P(R) that is to be sent, where it isn't the last one sent
abbrev pub due_of : Counts → Option ℕ
due_of c = if c.passed == c.told then None else Some (c.passed % SEQUENCE_NUMBERS)
