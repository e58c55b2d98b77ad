-- The cells of a row of the tables by the numbers of the states, and the events of a section by where they come from.
use Rattle.std.specs.Prelude.{Bool, true, false, not, ◌||◌, List, map}
use Rattle.section_model.specs.declared.cell.Cell.{Cell}
use Rattle.section_model.specs.declared.cell.Occasion.{Occasion}
use Rattle.section_model.specs.declared.cell.Occasion.TheVariants as on
use Rattle.section_model.specs.Table.{Row, UserRow, in_state, in_user_state}
use Rattle.section_model.specs.Views.{section_states}
use Rattle.section_grid.specs.Grids.{user_states}

abbrev pub section_cells : Row → List Cell
section_cells row = map (λ s. in_state s row) section_states

abbrev pub user_cells : UserRow → List Cell
user_cells row = map (λ s. in_user_state s row) user_states

abbrev pub is_timer : Occasion → Bool
is_timer on.ConnectFires = true
is_timer on.ResetFires = true
is_timer on.IarFires = true
is_timer on.IasFires = true
is_timer on.RelFires = true
is_timer on.IntFires = true
is_timer on.RepeatFires = true
is_timer _ = false

-- comes of the other end
abbrev pub is_effect : Occasion → Bool
is_effect on.AcceptComes = true
is_effect on.RefuseComes = true
is_effect on.EndComes = true
is_effect on.UnitComes = true
is_effect on.ExpeditedComes = true
is_effect on.ResetComes = true
is_effect on.DoneComes = true
is_effect _ = false

abbrev pub is_message : Occasion → Bool
is_message occasion = not (is_timer occasion || is_effect occasion)
