-- The changes of a list that keeps an only one in place.
use Rattle.std.specs.Prelude.{List, [], ◌∷◌}
use Rattle.plant_core.specs.declared.change.Change.{Change}
use Rattle.plant_core.specs.declared.change_list.Items.{Items}
use Rattle.plant_core.specs.declared.change_list.Items.TheVariants.{One, Many}

abbrev pub listed : Items → List Change
listed (One change) = change ∷ []
listed (Many changes) = changes.items
