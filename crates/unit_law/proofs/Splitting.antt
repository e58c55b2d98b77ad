-- A journal parts anywhere.
use Rattle.std.proofs.Common.{ℕ, List, [], ◌∷◌, ◌++◌}
use Rattle.plant_core.specs.declared.entry.Entry.{Entry}
use Rattle.plant_core.specs.declared.terms.LaneHead.{LaneHead}
use Rattle.data_lane.specs.Legal.{State, entry_after, state_after, LegalFrom}
use Rattle.unit_law.specs.Played.{JournalSplits}

pub parted : (head : LaneHead) (number : ℕ) (s : State) (one other : List Entry) → LegalFrom head number s (one ++ other)
    → LegalFrom head number s one × LegalFrom head number (state_after head number s one) other
parted head number s [] other legal = (tt, legal)
parted head number s (entry ∷ one) other legal =
    let rest = parted head number (entry_after head number s entry) one other legal.1 in ((legal.0, rest.0), rest.1)

joined : (head : LaneHead) (number : ℕ) (s : State) (one other : List Entry)
    → LegalFrom head number s one → LegalFrom head number (state_after head number s one) other → LegalFrom head number s (one ++ other)
joined head number s [] other first second = second
joined head number s (entry ∷ one) other first second =
    (first.0, joined head number (entry_after head number s entry) one other first.1 second)

pub splits : JournalSplits
splits head number s one other =
    (λ legal. parted head number s one other legal, λ both. joined head number s one other both.0 both.1)
