-- The lines that state something, each with its number.
use Rattle.std.specs.Prelude.{ℕ, not, List}
use Rattle.std.specs.List.{filter, enumerate_from}
use Rattle.capture_form.specs.Capture.{is_skipped}
use Rattle.capture_form.specs.declared.stated.StatedLine.{StatedLine}

-- a line, and its number
abbrev pub Stated : Type 0
Stated = ℕ × List ℕ

-- those of these lines, of which the first has this number
abbrev pub numbered : ℕ → List (List ℕ) → List Stated
numbered number ls = filter (λ l. not (is_skipped l.1)) (enumerate_from number ls)

-- what is seen of a line
abbrev pub seen_line : StatedLine → Stated
seen_line line = (line.number, line.octets.now)
