-- The commands that words state.
use Rattle.std.specs.Prelude.{ℕ, ◌&&◌, nat_eq, nat_le, codes, Bool, List, [], ◌∷◌, if◌then◌else◌, Option, Some, None}
use lib.Pointwise.{pointwise}
use Rattle.relay_base.specs.Decimal.{number_of}
use Rattle.relay_base.specs.declared.limits.TheConstants.{MOST_GENERATED_LINES}
use Rattle.command_words.specs.declared.command.Command.{Command}
use Rattle.command_words.specs.declared.command.Command.TheVariants.{Run, Generate, Stream, Frames, Chain, Audit}

-- the word is this text
abbrev pub same : List ℕ → List ℕ → Bool
same word text = pointwise nat_eq word text

-- ---- numbers

abbrev pub within : ℕ → ℕ → Option ℕ → Option ℕ
within least most None = None
within least most (Some n) = if nat_le least n && nat_le n most then Some n else None

-- a number in a range
unfoldable pub number_in : ℕ → ℕ → List ℕ → Option ℕ
number_in least most word = within least most (number_of word)

-- ---- commands

abbrev pub generate_of : Option ℕ → Option ℕ → Option Command
generate_of (Some number) (Some lines) = Some (Generate number lines)
generate_of _ _ = None

-- what `gen` is given: a number, and how many lines
abbrev pub generate_in : List ℕ → List ℕ → Option Command
generate_in number lines = generate_of (number_in 0 4294967295 number) (number_in 1 MOST_GENERATED_LINES lines)

-- a command of one word
abbrev pub command_of_word : List ℕ → Option Command
command_of_word word =
    if same word (codes "run") then Some Run
    else if same word (codes "m3ua") then Some Stream
    else if same word (codes "chain") then Some Chain
    else if same word (codes "audit") then Some Audit
    else None

-- what `m3ua` is given: that it writes frames
abbrev pub stream_in : List ℕ → Option Command
stream_in output = if same output (codes "frames") then Some Frames else None

-- the command that words state: `run` alone, `gen` with a number and lines, `m3ua` alone, `m3ua frames`, `chain` alone, or `audit` alone
abbrev pub command_in : List (List ℕ) → Option Command
command_in [] = None
command_in (word ∷ []) = command_of_word word
command_in (word ∷ output ∷ []) = if same word (codes "m3ua") then stream_in output else None
command_in (word ∷ number ∷ lines ∷ []) = if same word (codes "gen") then generate_in number lines else None
command_in _ = None
