-- A legal control journal is what one run gives, and it parts anywhere.
use Rattle.std.specs.Prelude.{◌≡◌, ◌↔◌, ℕ, ◌+◌, List, [], ◌∷◌, ◌++◌, length, map, Option}
use Rattle.relay_base.specs.declared.words.Output.{Output}
use Rattle.plant_core.specs.Plant.{RoutingData}
use Rattle.plant_core.specs.declared.entry.ControlEntry.{ControlEntry}
use Rattle.plant_core.specs.declared.entry.ControlEvent.{ControlEvent}
use Rattle.scmg.specs.declared.head.ControlHead.{ControlHead}
use Rattle.scmg.specs.Control.{Control, start_of_control, managed, edition_after, count_after, changes_from, LegalFrom, IsControlJournal}
use Rattle.scmg.specs.Inner.Kept.{after_entries}

-- the outputs of a run over events, each with the edition that is published, after so many editions
abbrev pub played_from : ControlHead → Control → ℕ → List ControlEvent → List (List Output × Option ℕ)
played_from head c edition [] = []
played_from head c edition (event ∷ more) =
    ((managed head c event).outs, edition_after edition (managed head c event).published)
    ∷ played_from head (managed head c event).control (count_after edition (managed head c event).published) more

abbrev pub played : ControlHead → RoutingData → List ControlEvent → List (List Output × Option ℕ)
played head start events = played_from head (start_of_control start) 0 events

abbrev pub LegalIsPlayed : Type 0
LegalIsPlayed =
    (head : ControlHead) (start : RoutingData) (journal : List ControlEntry) →
    IsControlJournal head start journal ↔ (map (λ e. (e.outs, e.published)) journal ≡ played head start (map (λ e. e.event) journal))

-- wherever a journal is parted, whatever it began with; each group of changes that is published makes an edition
abbrev pub JournalSplits : Type 0
JournalSplits =
    (head : ControlHead) (c : Control) (edition : ℕ) (one other : List ControlEntry) →
    LegalFrom head c edition (one ++ other)
    ↔ (LegalFrom head c edition one × LegalFrom head (after_entries head c one) (edition + length (changes_from head c one)) other)
