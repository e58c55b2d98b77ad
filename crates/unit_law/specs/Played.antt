-- A legal data journal is what one run gives, and it parts anywhere.
use Rattle.std.specs.Prelude.{◌≡◌, ◌↔◌, ℕ, List, [], ◌∷◌, ◌++◌, map, Option, is_some}
use Rattle.std.specs.List.{AllByRecursion}
use Rattle.relay_base.specs.declared.words.Event.{Event}
use Rattle.relay_base.specs.declared.words.Output.{Output}
use Rattle.plant_core.specs.Asking.{answer_in}
use Rattle.plant_core.specs.declared.answer.Answer.{Answer}
use Rattle.plant_core.specs.declared.entry.Entry.{Entry}
use Rattle.plant_core.specs.declared.terms.LaneHead.{LaneHead}
use Rattle.data_lane.specs.Legal.{State, at_first, step_of, question_of, state_after, LegalFrom, IsDataJournal}

-- the outputs of a run over events with their answers, from what the entries before left
abbrev pub played_from : LaneHead → ℕ → State → List (Event × Option Answer) → List (List Output)
played_from head number s [] = []
played_from head number s (x ∷ more) =
    (step_of head number s x.0 x.1).outs ∷ played_from head number (step_of head number s x.0 x.1).after more

abbrev pub played : LaneHead → ℕ → List (Event × Option Answer) → List (List Output)
played head number given = played_from head number at_first given

-- an entry's event and answer
abbrev pub given_of : Entry → Event × Option Answer
given_of entry = (entry.event, answer_in entry.asked)

-- each entry has a routing exactly where its event asks one, and the outputs are those of the run
pub record IsPlayed (head : LaneHead) (number : ℕ) (journal : List Entry) : Type 0 where
  pub routed : AllByRecursion (λ e. is_some e.asked ≡ is_some (question_of e.event)) journal
  pub outputs : map (λ e. e.outs) journal ≡ played head number (map given_of journal)

abbrev pub LegalIsPlayed : Type 0
LegalIsPlayed = (head : LaneHead) (number : ℕ) (journal : List Entry) → IsDataJournal head number journal ↔ IsPlayed head number journal

-- wherever a journal is parted, whatever it began with
abbrev pub JournalSplits : Type 0
JournalSplits =
    (head : LaneHead) (number : ℕ) (s : State) (one other : List Entry) →
    LegalFrom head number s (one ++ other) ↔ (LegalFrom head number s one × LegalFrom head number (state_after head number s one) other)
