-- How many entries and outputs the journals of a book have, and the line that says so.
use Rattle.std.specs.Prelude.{ℕ, ◌+◌, ◌==◌, ◌++◌, codes, true, false, Bool, List, [], ◌∷◌, length, map, if◌then◌else◌}
use Rattle.std.specs.List.{flat_map, count_by, sum_by}
use Rattle.std.specs.Fmt.{decimal}
use Rattle.std.specs.Int.Digits.{digits_of}
use Rattle.relay_base.specs.declared.words.Output.{Output}
use Rattle.relay_base.specs.declared.words.Output.TheVariants.{Sent, Told, Lost}
use Rattle.plant_core.specs.declared.entry.Entry.{Entry}
use Rattle.journal_text.specs.Print.{spaced}
use Rattle.journal_text.specs.declared.book.Book.{Book}

abbrev pub is_sent : Output → Bool
is_sent (Sent point sls bytes) = true
is_sent _ = false

abbrev pub is_told : Output → Bool
is_told (Told ssn tell) = true
is_told _ = false

abbrev pub is_lost : Output → Bool
is_lost (Lost loss) = true
is_lost _ = false

-- the outputs of each entry of a lane's journal
abbrev pub journal_outputs : List Entry → List (List Output)
journal_outputs journal = map (λ e. e.outs) journal

-- the outputs of each entry of a book, in the order of its print
abbrev pub outputs_in : Book → List (List Output)
outputs_in book = map (λ e. e.outs) book.control ++ flat_map journal_outputs book.conns ++ flat_map journal_outputs book.units

-- how many of the outputs are of a kind
abbrev pub many : (Output → Bool) → List (List Output) → ℕ
many is outputs = sum_by (count_by is) outputs

-- a number of any size in decimal digits
abbrev pub whole : ℕ → List ℕ
whole n = if n == 0 then codes "0" else map (λ digit. 48 + digit) (digits_of 10 n)

-- how many lines and entries there are, and how many of their outputs are messages that were sent, what users were told, and losses
abbrev pub counts_line : ℕ → ℕ → ℕ → ℕ → ℕ → List ℕ
counts_line lines entries sent told lost = spaced (
    codes "lines" ∷ decimal lines ∷ codes "entries" ∷ whole entries ∷ codes "sent" ∷ whole sent
    ∷ codes "told" ∷ whole told ∷ codes "lost" ∷ whole lost ∷ []
    )

abbrev pub counts_text : ℕ → Book → List ℕ
counts_text lines book =
    let outputs = outputs_in book in
    counts_line lines (length outputs) (many is_sent outputs) (many is_told outputs) (many is_lost outputs)
