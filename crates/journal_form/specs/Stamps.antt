-- The stamp that an entry's line writes.
use Rattle.std.specs.Prelude.{ℕ, nat_lt, List, Option, Some, None, option_and_then, if◌then◌else◌}
use Rattle.relay_base.specs.Decimal.{number_of}
use Rattle.relay_base.specs.declared.words.Stamp.{Stamp}
use Rattle.journal_form.specs.Headings.{EntryWords}

infixl 10 ◌>>=◌
abbrev ◌>>=◌ : {A B : Type 0} → Option A → (A → Option B) → Option B
o >>= f = option_and_then f o

-- a number below a limit
abbrev pub number_below : ℕ → List ℕ → Option ℕ
number_below limit word = option_and_then (λ n. if nat_lt n limit then Some n else None) (number_of word)

-- the stamp of these numbers; None where one of them is too large for the stamp of a capture
abbrev pub stamp_of : EntryWords → Option Stamp
stamp_of e = do
  phase ← number_below 4294967296 e.phase
  link ← number_below 256 e.link
  line ← number_below 4294967296 e.line
  Some (record { phase = phase; link = link; line = line })
