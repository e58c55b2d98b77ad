-- The text of a head, line by line.
use Rattle.std.specs.Prelude.{ℕ, ◌+◌, List, ◌++◌, length, Option, option_map}
use Rattle.node_head.specs.Lines.{joined}
use Rattle.node_head.specs.declared.lines.HeadText.{HeadText}

-- a text of so many lines, and the lines that are left
abbrev pub with_rest : List (List ℕ) → Option HeadText → Option (List ℕ × ℕ × List (List ℕ))
with_rest rest found = option_map (λ h. (h.text.items, h.count, rest)) found

-- a text goes on with lines, and a count with their number
abbrev pub extended : List ℕ → ℕ → Option (List (List ℕ) × List (List ℕ)) → Option (List ℕ × ℕ × List (List ℕ))
extended text count found = option_map (λ h. (text ++ joined h.0, count + length h.0, h.1)) found
