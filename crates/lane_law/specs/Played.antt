-- A legal connection journal is what one run gives, and it parts anywhere.
use Rattle.std.specs.Prelude.{◌≡◌, ◌↔◌, List, [], ◌∷◌, ◌++◌, map, Option, is_some}
use Rattle.std.specs.List.{AllByRecursion}
use Rattle.relay_base.specs.declared.words.Event.{Event}
use Rattle.relay_base.specs.declared.words.Output.{Output}
use Rattle.plant_core.specs.declared.answer.Answer.{Answer}
use Rattle.plant_core.specs.declared.entry.Entry.{Entry}
use Rattle.section_model.specs.Opening.{wish_of, question_of}
use Rattle.section_model.specs.Lane.{Lane, Opening, legal_outputs, openings_after, answer_of, IsLegalFrom, IsConnectionJournal}
use Rattle.section_model.specs.Laws.{openings_from}

-- the outputs of a run over events with their answers, after these openings
unfoldable pub played_from : Lane → List Opening → List (Event × Option Answer) → List (List Output)
played_from lane openings [] = []
played_from lane openings (x ∷ more) =
    legal_outputs lane openings x.0 x.1 ∷ played_from lane (openings_after lane openings x.0 x.1) more

abbrev pub played : Lane → List (Event × Option Answer) → List (List Output)
played lane given = played_from lane [] given

-- an entry's event and answer
abbrev pub given_of : Entry → Event × Option Answer
given_of entry = (entry.event, answer_of entry)

-- an entry has a routing exactly where its event asks one
abbrev pub IsRouted : Lane → Entry → Type 0
IsRouted lane entry = is_some entry.asked ≡ is_some (question_of (wish_of lane.terms entry.event))

-- each entry is so, and the outputs are those of the run
pub record IsPlayed (lane : Lane) (journal : List Entry) : Type 0 where
  pub routed : AllByRecursion (IsRouted lane) journal
  pub outputs : map (λ e. e.outs) journal ≡ played lane (map given_of journal)

abbrev pub LegalIsPlayed : Type 0
LegalIsPlayed = (lane : Lane) (journal : List Entry) → IsConnectionJournal lane journal ↔ IsPlayed lane journal

-- wherever a journal is parted, whatever openings it began with
abbrev pub JournalSplits : Type 0
JournalSplits =
    (lane : Lane) (openings : List Opening) (one other : List Entry) →
    IsLegalFrom lane openings (one ++ other) ↔ (IsLegalFrom lane openings one × IsLegalFrom lane (openings_from lane openings one) other)
