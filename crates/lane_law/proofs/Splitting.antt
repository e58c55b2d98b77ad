-- A journal parts anywhere.
use Rattle.std.proofs.Common.{List, [], ◌∷◌, ◌++◌}
use Rattle.plant_core.specs.declared.entry.Entry.{Entry}
use Rattle.section_model.specs.Lane.{Lane, Opening, openings_after, answer_of, IsLegalFrom}
use Rattle.section_model.specs.Laws.{openings_from}
use Rattle.lane_law.specs.Played.{JournalSplits}

parted : (lane : Lane) (openings : List Opening) (one other : List Entry) → IsLegalFrom lane openings (one ++ other)
    → IsLegalFrom lane openings one × IsLegalFrom lane (openings_from lane openings one) other
parted lane openings [] other legal = (tt, legal)
parted lane openings (entry ∷ one) other legal =
    let rest = parted lane (openings_after lane openings entry.event (answer_of entry)) one other legal.1 in ((legal.0, rest.0), rest.1)

joined : (lane : Lane) (openings : List Opening) (one other : List Entry)
    → IsLegalFrom lane openings one → IsLegalFrom lane (openings_from lane openings one) other → IsLegalFrom lane openings (one ++ other)
joined lane openings [] other first second = second
joined lane openings (entry ∷ one) other first second =
    (first.0, joined lane (openings_after lane openings entry.event (answer_of entry)) one other first.1 second)

pub splits : JournalSplits
splits lane openings one other =
    (λ legal. parted lane openings one other legal, λ both. joined lane openings one other both.0 both.1)
