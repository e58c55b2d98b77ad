-- What is found of a journal's text beside a capture: the form first, then the lanes in their order, and in each lane its entries in theirs.
use Rattle.std.specs.Prelude.{◌≡◌, ℕ, ◌+◌, List, [], ◌∷◌, take, drop, Option, None, Some, Ok, Err}
use Rattle.std.specs.declared.result.Result.{Result}
use Rattle.plant_core.specs.declared.entry.Entry.{Entry}
use Rattle.relay_base.specs.declared.words.Event.{Event}
use Rattle.node_head.specs.declared.head.Head.{Head}
use Rattle.journal_text.specs.declared.book.Book.{Book}
use Rattle.capture_form.specs.Events.{Stamped}
use Rattle.journal_form.specs.Form.{lane_lines, form_fault}
use Rattle.journal_form.specs.Parts.{LanePart, HasForm, lane_size}
use Rattle.journal_finding.specs.declared.finding.FindingKind.TheVariants.{Form}
use Rattle.journal_finding.specs.Entries.{LaneRules, ◌>>=◌, journal_from}
use Rattle.journal_finding.specs.declared.finding.Fault.{Fault}
use Rattle.journal_finding.specs.Lanes.{control_rules, conn_rules, data_rules}

-- the journal that a lane of the text writes, or its first fault
abbrev pub journal_in : {V E : Type 0} → LaneRules V E → LanePart → Result (List E) Fault
journal_in rules lane = journal_from rules (lane.number + lane_size lane) [] lane.entries

-- those that lanes of a kind write, from a number on
abbrev pub journals_in : (ℕ → LaneRules Event Entry) → ℕ → List LanePart → Result (List (List Entry)) Fault
journals_in rules number [] = Ok []
journals_in rules number (lane ∷ more) = do
  journal ← journal_in (rules number) lane
  others ← journals_in rules (number + 1) more
  Ok (journal ∷ others)

-- the book that lanes of a text write, or the first fault
abbrev pub book_in : Head → List (List Stamped) → List LanePart → Result Book Fault
book_in head phases [] = Ok (record { control = []; conns = []; units = [] })
book_in head phases (lane ∷ more) = do
  control ← journal_in (control_rules head phases) lane
  conns ← journals_in (conn_rules head phases control) 0 (take head.conn_lanes more)
  units ← journals_in (data_rules head phases control) 0 (drop head.conn_lanes more)
  Ok (record { control = control; conns = conns; units = units })

-- the lanes that a text has, and what is found of them
pub record FindsInLanes (head : Head) (phases : List (List Stamped)) (text : List ℕ) (found : Result Book Fault) : Type 0 where
  pub lanes : List LanePart
  pub have : HasForm (lane_lines head.conn_lanes head.data_lanes) text lanes
  pub is : found ≡ book_in head phases lanes

-- the line that breaks the form, or what is found of the lanes
abbrev pub FindsBy : Head → List (List Stamped) → List ℕ → Result Book Fault → Option ℕ → Type 0
FindsBy head phases text found (Some line) = found ≡ Err (record { line = line; kind = Form })
FindsBy head phases text found None = FindsInLanes head phases text found

-- What is found of a text: the book that it writes, where it is legal, or its first fault.
abbrev pub Finds : Head → List (List Stamped) → List ℕ → Result Book Fault → Type 0
Finds head phases text found = FindsBy head phases text found (form_fault (lane_lines head.conn_lanes head.data_lanes) text)
