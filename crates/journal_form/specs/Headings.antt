-- The line of an entry: its stamp, the routing that it asked for, and the number of the edition that it published, each of these two where it has one.
use Rattle.std.specs.Prelude.{ℕ, ◌==◌, ◌||◌, ◌&&◌, codes, Bool, List, [], ◌∷◌, Option, Some, None, option_and_then, is_some, if◌then◌else◌}
use Rattle.journal_form.specs.Words.{same, parted, words, is_number}

infixl 10 ◌>>=◌
abbrev ◌>>=◌ : {A B : Type 0} → Option A → (A → Option B) → Option B
o >>= f = option_and_then f o

-- the words of a routing: the digits of its edition, and the two words of its answer
pub record RoutingWords : Type 0 where
  pub edition : List ℕ
  pub way : List ℕ
  pub value : List ℕ

-- the words of an entry: the digits of its stamp's numbers, its routing, and the digits of the edition that it published
pub record EntryWords : Type 0 where
  pub phase : List ℕ
  pub link : List ℕ
  pub line : List ℕ
  pub asked : Option RoutingWords
  pub published : Option (List ℕ)

abbrev pub is_cause : List ℕ → Bool
is_cause word =
    same word (codes "nature") || same word (codes "address") || same word (codes "point") || same word (codes "subsystem")
    || same word (codes "unequipped") || same word (codes "hop")

-- local <ssn>, to <dpc> or no <cause>
abbrev pub is_answer : List ℕ → List ℕ → Bool
is_answer way value =
    if same way (codes "local") || same way (codes "to") then is_number value
    else same way (codes "no") && is_cause value

-- e<edition>
abbrev pub edition_of : List ℕ → Option (List ℕ)
edition_of [] = None
edition_of (mark ∷ digits) = if mark == 101 && is_number digits then Some digits else None

-- e<edition> and an answer
abbrev pub routing_of : List ℕ → List ℕ → List ℕ → Option RoutingWords
routing_of edition way value = do
  digits ← edition_of edition
  if is_answer way value then Some (record { edition = digits; way = way; value = value }) else None

-- new e<edition>
abbrev pub published_of : List ℕ → List ℕ → Option (List ℕ)
published_of word edition = if same word (codes "new") then edition_of edition else None

-- an entry whose stamp has these parts
abbrev pub stamped_of : List (List ℕ) → Option RoutingWords → Option (List ℕ) → Option EntryWords
stamped_of (phase ∷ link ∷ line ∷ []) asked published =
    if is_number phase && is_number link && is_number line
    then Some (record { phase = phase; link = link; line = line; asked = asked; published = published })
    else None
stamped_of _ asked published = None

-- the entry with this stamp and routing, by the words behind them
abbrev pub publishing : List (List ℕ) → Option RoutingWords → List (List ℕ) → Option EntryWords
publishing stamp asked [] = stamped_of stamp asked None
publishing stamp asked (word ∷ number ∷ []) = do
  published ← published_of word number
  stamped_of stamp asked (Some published)
publishing stamp asked _ = None

-- the entry with this stamp, by the words of its routing and those behind them
abbrev pub asking : List (List ℕ) → List ℕ → List ℕ → List ℕ → List (List ℕ) → Option EntryWords
asking stamp edition way value more = do
  asked ← routing_of edition way value
  publishing stamp (Some asked) more

-- the entry with this stamp, by the words behind it
abbrev pub entry_with : List (List ℕ) → List (List ℕ) → Option EntryWords
entry_with stamp (edition ∷ way ∷ value ∷ more) = asking stamp edition way value more
entry_with stamp more = publishing stamp None more

-- the entry that these words write, of which the first is <phase>.<link>.<line>
abbrev pub entry_in : List (List ℕ) → Option EntryWords
entry_in [] = None
entry_in (stamp ∷ more) = entry_with (parted 46 stamp) more

-- what the line of an entry says; None for any other line
unfoldable pub heading_of : List ℕ → Option EntryWords
heading_of line = entry_in (words line)

abbrev pub is_entry_line : List ℕ → Bool
is_entry_line line = is_some (heading_of line)
