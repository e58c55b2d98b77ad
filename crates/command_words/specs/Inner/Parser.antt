-- The parser of the words, and the command of what it found.
use Rattle.std.specs.Prelude.{ℕ, ◌==◌, ◌&&◌, ◌||◌, codes, Bool, true, false, List, [], ◌∷◌, map, if◌then◌else◌, Option, Some, None, option_map, String, string_bytes}
use Rattle.std.specs.Borrow.{Bor}
use Rattle.std.specs.declared.alloc.Global.{Global}
use Rattle.clap.specs.Words.{App, Row, Rule, Text, first_of, new_app, new_rule, with_rule, with_subcommand}
use Rattle.std.specs.List.{list_any}
use Rattle.command_words.specs.Commands.{same, generate_in, stream_in, command_of_word}
use Rattle.command_words.specs.declared.command.Command.{Command}

-- an argument that has to be given
abbrev pub required_rule : Text → Rule
required_rule id = record (new_rule id) { required = true }

-- gen <number> <lines>
abbrev pub generate_app : App
generate_app = with_rule (with_rule (new_app (codes "gen")) (required_rule (codes "number"))) (required_rule (codes "lines"))

-- m3ua [<output>]
abbrev pub stream_app : App
stream_app = with_rule (new_app (codes "m3ua")) (new_rule (codes "output"))

-- no program's name stands before the words
abbrev pub top_app : App
top_app = record { top = record (new_app (codes "relay")).top { no_binary_name = true; subcommand_required = true }; subs = [] }

-- `run`, `chain` or `audit`
abbrev pub plain_app : App
plain_app =
    with_subcommand (with_subcommand (with_subcommand top_app (new_app (codes "run")).top) (new_app (codes "chain")).top) (new_app (codes "audit")).top

-- one of these, or `gen` or `m3ua` with its arguments
abbrev pub relay_app : App
relay_app = with_subcommand (with_subcommand plain_app generate_app.top) stream_app.top

-- a text that was given, if one was
abbrev pub given : Option (Bor Text) → Option Text
given word = option_map (λ s. s.now) word

-- the texts of words
abbrev pub texts : List (String Global) → List Text
texts words = map string_bytes words

-- the text was given, and is this word
abbrev pub is_given : Option Text → Text → Bool
is_given None word = false
is_given (Some text) word = same word text

-- the command of a name, where this is the word
abbrev pub word_found : Text → Text → Option Command
word_found name word = if same word name then command_of_word name else None

-- the command of a name and of what was given, where these are the two words
abbrev pub stream_found : Text → Option Text → Text → Text → Option Command
stream_found name output word second =
    if same name (codes "m3ua") && (same word name && is_given output second) then stream_in second else None

-- the command of a name and of what was given, where these are the three words
abbrev pub generate_found : Text → Option Text → Option Text → Text → Text → Text → Option Command
generate_found name number lines word first second =
    if same name (codes "gen") && (same word name && (is_given number first && is_given lines second)) then generate_in first second else None

-- the command of a name and of what was given, where these are the words
abbrev pub command_found : Text → Option Text → Option Text → Option Text → List Text → Option Command
command_found name number lines output [] = None
command_found name number lines output (word ∷ []) = word_found name word
command_found name number lines output (word ∷ second ∷ []) = stream_found name output word second
command_found name number lines output (word ∷ first ∷ second ∷ []) = generate_found name number lines word first second
command_found name number lines output _ = None

-- the command of the subcommand that was found, and its values
abbrev pub command_of_rows : Option (Text × List Row) → List Text → Option Command
command_of_rows None words = None
command_of_rows (Some found) words =
    command_found found.0 (first_of (codes "number") found.1) (first_of (codes "lines") found.1) (first_of (codes "output") found.1) words

-- ---- words that are refused before they are parsed

abbrev pub is_dashed : List ℕ → Bool
is_dashed [] = false
is_dashed (first ∷ more) = first == 45

abbrev pub asks_help : List (List ℕ) → Bool
asks_help [] = false
asks_help (word ∷ more) = same word (codes "help")

-- a word begins with a dash, or the first is `help`
abbrev pub is_refused : List (List ℕ) → Bool
is_refused words = list_any is_dashed words || asks_help words
