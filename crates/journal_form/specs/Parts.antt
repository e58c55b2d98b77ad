-- The parts of a text that has the form: lanes, their entries, and the lines of these entries' outputs.
use Rattle.std.specs.Prelude.{ℕ, ◌≡◌, ◌+◌, List, [], ◌∷◌, length, drop, true, false, Option, Some, None, option_map}
use Rattle.std.specs.List.{flat_map}
use Rattle.journal_form.specs.Words.{parted}
use Rattle.journal_form.specs.declared.parts.FormRefused.{FormRefused}
use Rattle.journal_form.specs.declared.parts.FormRefused.TheVariants.{Fault, Memory}
use Rattle.journal_form.specs.Form.{ended_lines, last_piece, fault_in}
use Rattle.journal_form.specs.Outputs.{is_output_line}
use Rattle.journal_form.specs.Headings.{EntryWords, heading_of}

-- the number of its line, that line, what it says, and the lines of its outputs
pub record EntryPart : Type 0 where
  pub number : ℕ
  pub text : List ℕ
  pub words : EntryWords
  pub outs : List (List ℕ)

-- the number of its line, that line, and its entries
pub record LanePart : Type 0 where
  pub number : ℕ
  pub text : List ℕ
  pub entries : List EntryPart

-- the lines of outputs that stand at the front
abbrev pub outs_front : List (List ℕ) → List (List ℕ)
outs_front [] = []
outs_front (line ∷ more) = elim (is_output_line line) [ true ↦ line ∷ outs_front more | false ↦ [] ]

abbrev pub entry_front : ℕ → List (List ℕ) → Option EntryPart
entry_front number [] = None
entry_front number (line ∷ more) = option_map (λ w. record { number = number; text = line; words = w; outs = outs_front more }) (heading_of line)

-- the entry behind so many lines, where one stands there
abbrev pub entry_at : ℕ → List (List ℕ) → Option EntryPart
entry_at at lines = entry_front (at + 1) (drop at lines)

-- how many lines an entry has, entries have, and a lane has
abbrev pub entry_size : EntryPart → ℕ
entry_size e = 1 + length e.outs

abbrev pub entries_size : List EntryPart → ℕ
entries_size [] = 0
entries_size (e ∷ more) = entry_size e + entries_size more

abbrev pub lane_size : LanePart → ℕ
lane_size lane = 1 + entries_size lane.entries

-- these entries stand one after the other behind so many lines
abbrev pub AreEntries : ℕ → List (List ℕ) → List EntryPart → Type 0
AreEntries at lines [] = Unit {0}
AreEntries at lines (e ∷ more) = (entry_at at lines ≡ Some e) × AreEntries (at + entry_size e) lines more

-- the lines of an entry, and of a lane
abbrev pub entry_lines : EntryPart → List (List ℕ)
entry_lines e = e.text ∷ e.outs

abbrev pub lines_of : LanePart → List (List ℕ)
lines_of lane = lane.text ∷ flat_map entry_lines lane.entries

-- a lane of this name stands behind so many lines, with all the entries under it
pub record IsLane (at : ℕ) (lines : List (List ℕ)) (name : List ℕ) (lane : LanePart) : Type 0 where
  pub number : lane.number ≡ at + 1
  pub text : lane.text ≡ name
  pub line : drop at lines ≡ name ∷ drop (at + 1) lines
  pub entries : AreEntries (at + 1) lines lane.entries
  pub end : entry_at (at + lane_size lane) lines ≡ None

-- these lanes stand one after the other behind so many lines
abbrev pub AreLanes : ℕ → List (List ℕ) → List (List ℕ) → List LanePart → Type 0
AreLanes at lines [] [] = Unit {0}
AreLanes at lines (name ∷ names) (lane ∷ lanes) = IsLane at lines name lane × AreLanes (at + lane_size lane) lines names lanes
AreLanes at lines _ _ = ⊥

abbrev pub lanes_size : List LanePart → ℕ
lanes_size [] = 0
lanes_size (lane ∷ more) = lane_size lane + lanes_size more

-- the lines of a text, of which these are the pieces, are those of these lanes, and nothing stands behind the last line feed
pub record IsForm (names : List (List ℕ)) (pieces : List (List ℕ)) (lanes : List LanePart) : Type 0 where
  pub stand : AreLanes 0 (ended_lines pieces) names lanes
  pub whole : flat_map lines_of lanes ≡ ended_lines pieces
  pub end : last_piece pieces ≡ []
  pub right : fault_in names pieces ≡ None

-- a text has the form of a journal with lanes of these names: it is the lines of these lanes
abbrev pub HasForm : List (List ℕ) → List ℕ → List LanePart → Type 0
HasForm names text lanes = IsForm names (parted 10 text) lanes

-- the refusal is this fault, unless memory ran out
abbrev pub TellsFault : Option ℕ → FormRefused → Type 0
TellsFault found (Fault n) = found ≡ Some n
TellsFault found Memory = Unit {0}
