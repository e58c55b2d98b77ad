-- What the code holds of the counts of a section.
use Rattle.std.specs.Prelude.{ℕ, ◌≡◌, ◌≤◌, ◌+◌, ◌%◌, ◌==◌, not, length}
use Rattle.relay_base.specs.declared.limits.TheConstants.{GREATEST_CREDIT}
use Rattle.section_flow.specs.declared.limits.TheConstants.{SEQUENCE_NUMBERS}
use Rattle.section_flow.specs.declared.counts.Counts.{Counts}
use Rattle.section_flow.specs.declared.counts.Remainders.{Remainders}

-- The window law of one section (Q.714, 3.5.2), of its counts and the credit that was agreed on: the units that came in stay within the window
-- beyond the last P(R) sent, and a remainder modulo 128 determines each count that it stands for.
pub record IsWithinWindows (agreed : ℕ) (c : Counts) : Type 0 where
  pub told : c.told ≤ c.passed
  pub passed : c.passed ≤ length c.got
  pub got : length c.got ≤ c.told + agreed
  pub acked : c.acked ≤ c.sent
  pub sent : c.sent ≤ c.acked + GREATEST_CREDIT

-- the code holds this of the counts
pub record Stands (agreed credit : ℕ) (r : Remainders) (c : Counts) : Type 0 where
  pub agreed_fits : agreed ≤ GREATEST_CREDIT
  pub credit_fits : credit ≤ GREATEST_CREDIT
  pub windows : IsWithinWindows agreed c
  pub acked : r.acked ≡ c.acked % SEQUENCE_NUMBERS
  pub outstanding : c.sent ≡ c.acked + r.outstanding
  pub expected : r.expected ≡ length c.got % SEQUENCE_NUMBERS
  pub untold : length c.got ≡ c.told + r.untold
  pub unleft : length c.got ≡ c.passed + r.unleft
  pub has_accepted : r.has_accepted ≡ not (length c.got == 0)
