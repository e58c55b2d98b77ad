-- The windows of a section of class 3 (Q.714, 3.5.2 and 3.6), and what its counts say.
use Rattle.std.specs.Prelude.{ℕ, ◌+◌, ◌-◌, ◌%◌, ◌==◌, Bool, List, length, find, Option, if◌then◌else◌, unwrap_or, is_some, min}
use Rattle.std.specs.List.{range_with_len}
use Rattle.relay_base.specs.declared.causes.TheConstants.{RESET_INCORRECT_FIRST_NUMBER, RESET_INCORRECT_SEND_NUMBER}
use Rattle.section_flow.specs.declared.limits.TheConstants.{SEQUENCE_NUMBERS}
use Rattle.section_flow.specs.declared.unit.Unit.{Unit as DataUnit}

-- The counts, as whole numbers since they were last cleared, and what waits. In class 2 there are the first two alone.
pub record Windows : Type 0 where
  pub got : List DataUnit  -- in both classes, the units that came in on this section
  pub passed : ℕ  -- in both classes, how many of them left on the other end
  pub told : ℕ  -- the last P(R) sent
  pub sent : ℕ  -- the units sent on this section
  pub acked : ℕ  -- the last P(R) received
  pub credit : ℕ  -- how many units may be sent beyond it
  pub waits : List DataUnit  -- the units of the other end that have not left
  pub waiting : Option (List ℕ)  -- expedited data that has not left
  pub unanswered : Bool  -- expedited data left, and its EA has not come
  pub owed : Bool  -- expedited data came, and its EA has not left

-- The count that a P(R) stands for (Q.714, 3.5.2): of those from the last P(R) received up to the units sent, the one with that remainder.
abbrev pub count_of : ℕ → ℕ → ℕ → Option ℕ
count_of pr acked sent =
    find (λ count. count % SEQUENCE_NUMBERS == pr % SEQUENCE_NUMBERS) (range_with_len acked ((sent - acked) + 1))

-- a P(R) is valid where it stands for one, and is taken as that
abbrev pub is_valid : ℕ → Windows → Bool
is_valid pr w = is_some (count_of pr w.acked w.sent)

abbrev pub acknowledged : ℕ → Windows → Windows
acknowledged pr w = record w { acked = unwrap_or (count_of pr w.acked w.sent) w.acked }

-- the cause of the reset where another P(S) is expected (Q.713, 3.13)
abbrev pub wrong_number : Windows → ℕ
wrong_number w = if length w.got == 0 then RESET_INCORRECT_FIRST_NUMBER else RESET_INCORRECT_SEND_NUMBER

-- how many waiting units may leave now
abbrev pub may_leave : Windows → ℕ
may_leave w = min (length w.waits) (w.credit - (w.sent - w.acked))
