-- What is found of a text beside the capture of one tick, which each lane takes.
use Rattle.std.specs.Prelude.{codes, ℕ, ◌+◌, List, [], ◌∷◌, Option, Some, None, Ok, Err, option_to_list}
use Rattle.std.specs.declared.result.Result.{Result}
use Rattle.std.specs.Fmt.{digits}
use Rattle.relay_base.specs.Decimal.{number_of}
use Rattle.relay_base.specs.declared.words.Event.TheVariants.{Tick}
use Rattle.plant_core.specs.declared.entry.ControlEvent.TheVariants.{Plain}
use Rattle.plant_core.specs.declared.terms.TheConstants.{USUAL_TICKS}
use Rattle.connectionless.specs.Asking.{matter_of}
use Rattle.section_model.specs.Opening.{wish_of, question_of, slots_needed, opened}
use Rattle.section_model.specs.Lane.{lowest_free, legal_outputs, openings_after}
use Rattle.data_lane.specs.Legal.{step_of}
use Rattle.scmg.specs.Control.{effect_of, control_after, managed}
use Rattle.node_head.specs.declared.head.Head.{Head}
use Rattle.journal_text.specs.declared.book.Book.{Book}
use Rattle.capture_form.specs.Events.{Stamped}
use Rattle.capture_form.specs.Place.{place_of, place_of_event}
use Rattle.journal_form.specs.Headings.{heading_of}
use Rattle.journal_form.specs.Parts.{LanePart, entry_front}
use Rattle.journal_finding.specs.declared.finding.Fault.{Fault}
use Rattle.journal_finding.specs.declared.finding.FindingKind.{FindingKind}
use Rattle.journal_finding.specs.Entries.{entry_of}
use Rattle.journal_finding.specs.Finding.{book_in}

-- a node with one lane of each kind and no rows
abbrev pub small : Head
small = record {
  point = 100;
  users = 8 ∷ [];
  conn_lanes = 1;
  data_lanes = 1;
  links = 1;
  credit = 127;
  concerned = [];
  timers = USUAL_TICKS;
  row = [];
  replicate = [];
  short = [];
}

-- one phase, whose tick stands in line 4 of the capture
abbrev pub ticked : List (List Stamped)
ticked = (((record { phase = 1; link = 0; line = 4 }, Plain Tick) ∷ []) ∷ [] ∷ []) ∷ []

-- a lane of this number, with the entry that this line is of, or with none where it is no entry's
abbrev pub lane : ℕ → List ℕ → List ℕ → LanePart
lane number text line = record { number = number; text = text; entries = option_to_list (entry_front (number + 1) (line ∷ [])) }

abbrev pub at : ℕ → FindingKind → Option Fault
at line kind = Some (record { line = line; kind = kind })

abbrev pub fault_in : Result Book Fault → Option Fault
fault_in (Ok book) = None
fault_in (Err fault) = Some fault

-- the first fault where the lanes have the entries of these lines, if there is one. A proof that unfolds this unfolds all that it computes with.
unfoldable pub fault : List ℕ → List ℕ → List ℕ → Option Fault
unfolding entry_of heading_of number_of digits place_of place_of_event effect_of control_after managed matter_of step_of wish_of question_of slots_needed opened lowest_free legal_outputs openings_after
fault control conn unit =
    fault_in (book_in small ticked (lane 1 (codes "= control") control ∷ lane 3 (codes "= conn 0") conn ∷ lane 5 (codes "= data 0") unit ∷ []))
