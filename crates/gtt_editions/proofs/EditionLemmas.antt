-- Editions after groups of changes.
use Rattle.std.proofs.Common.{◌≡◌, ◌+◌, List, [], ◌∷◌, ◌++◌, length, refl, length-append, arith}
use Rattle.plant_core.specs.Plant.{RoutingData}
use Rattle.plant_core.specs.Changes.{plant_after, plant_after_all}
use Rattle.plant_core.specs.declared.change.Group.{Group}
use Rattle.gtt_editions.specs.Editions.{Edition, edition_after, edition_after_all}

plant-one_more : (p : RoutingData) (changes : List Group) (group : Group) → plant_after_all p (changes ++ group ∷ []) ≡ plant_after (plant_after_all p changes) group
plant-one_more p [] group = refl
plant-one_more p (g ∷ gs) group = plant-one_more (plant_after p g) gs group

pub after_none : (e : Edition) → edition_after_all e [] ≡ e
after_none e = let same : e.number + 0 ≡ e.number = omega arith in λ i. record { routing = e.routing; number = same i }

pub after_one_more : (e : Edition) (changes : List Group) (group : Group) → edition_after_all e (changes ++ group ∷ []) ≡ edition_after (edition_after_all e changes) group
after_one_more e changes group =
    let count : e.number + length (changes ++ group ∷ []) ≡ e.number + length changes + 1 = omega (arith, length-append changes (group ∷ [])) in
    let routing = plant-one_more e.routing changes group in λ i. record { routing = routing i; number = count i }
