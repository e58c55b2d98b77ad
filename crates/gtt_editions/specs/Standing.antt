-- What a contract sees of a place, a look and a publisher.
use Rattle.std.specs.Prelude.{◌≡◌, Bool, true, false, [], ◌∷◌, ◌++◌}
use Rattle.plant_core.specs.Plant.{PlantState}
use Rattle.plant_core.specs.declared.change.Group.{Group}
use Rattle.gtt_editions.specs.Editions.{Edition, edition_of, edition_after_all}
use Rattle.gtt_editions.specs.Published.{Published, published, nothing, Begins}

-- the edition at the opening, and what is published as far as it was seen
pub record Standing : Type 0 where
  pub opened : Edition
  pub seen : Published

-- the same of the publisher, who has seen all; one to whom memory was refused is spent
pub record Publishing : Type 0 where
  pub opened : Edition
  pub seen : Published
  pub spent : Bool

-- a later standing of the same place
pub record LooksFrom (before after : Standing) : Type 0 where
  pub opened : after.opened ≡ before.opened
  pub seen : Begins after.seen before.seen

-- the edition that was seen last
abbrev pub newest_of : Standing → Edition
newest_of s = edition_after_all s.opened s.seen.changes

-- a place of this publisher that has seen nothing
pub record IsNewPlace (of : Publishing) (place : Standing) : Type 0 where
  pub opened : place.opened ≡ of.opened
  pub seen : place.seen ≡ nothing

-- a publisher who has published nothing since this plant
pub record IsOpenedOn (plant : PlantState) (p : Publishing) : Type 0 where
  pub opened : p.opened ≡ edition_of plant
  pub seen : p.seen ≡ nothing
  pub fresh : p.spent ≡ false

-- a group of changes more is published
abbrev pub with_change : Publishing → Group → Publishing
with_change p group = record p { seen = published (p.seen.changes ++ group ∷ []) false }

-- the end of what this publisher published
pub record IsEndOf (p : Publishing) (ended : Standing) : Type 0 where
  pub opened : ended.opened ≡ p.opened
  pub seen : ended.seen ≡ published p.seen.changes true
