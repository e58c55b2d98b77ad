-- What a step does to a copy.
use Rattle.std.specs.Prelude.{true, [], ◌∷◌, ◌++◌}
use Rattle.gtt_editions.specs.declared.step.Step.{Step}
use Rattle.gtt_editions.specs.declared.step.Step.TheVariants.{Open, Room, Change as Changed, End}
use Rattle.gtt_editions.specs.declared.store.Store.{Store}
use Rattle.gtt_editions.specs.Shown.{Shown}
use Rattle.gtt_editions.specs.Editions.{edition_of, edition_after}
use Rattle.gtt_editions.specs.Published.{Published, published}

abbrev pub shown_by : Store → Shown
shown_by s = record { edition = edition_of s.plant; changes = s.changes.items; opened = s.opened; ended = s.ended }

abbrev pub list_of : Shown → Published
list_of x = published x.changes x.ended

abbrev pub marked : Shown → Step → Shown
marked x Open = record x { opened = true }
marked x (Room group) = x
marked x (Changed group) = record x { edition = edition_after x.edition group; changes = x.changes ++ group ∷ [] }
marked x End = record x { ended = true }
