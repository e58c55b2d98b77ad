-- The cell at the number of a state is the row's cell for that state.
use Rattle.std.proofs.Common.{ℕ, zero, suc, ◌≡◌, refl, slice_index_or}
use Rattle.section_model.specs.declared.cell.Cell.TheVariants.{Nothing}
use Rattle.section_grid.specs.Grids.{user_state_numbered}
use Rattle.section_model.specs.Views.{state_numbered}
use Rattle.section_model.specs.Table.{Row, UserRow, in_state, in_user_state}
use Rattle.section_grid.specs.Inner.Rows.{section_cells, user_cells}

pub section_cells-at : (row : Row) (n : ℕ) → slice_index_or (section_cells row) n Nothing ≡ in_state (state_numbered n) row
section_cells-at row zero = refl
section_cells-at row (suc zero) = refl
section_cells-at row (suc (suc zero)) = refl
section_cells-at row (suc (suc (suc zero))) = refl
section_cells-at row (suc (suc (suc (suc zero)))) = refl
section_cells-at row (suc (suc (suc (suc (suc zero))))) = refl
section_cells-at row (suc (suc (suc (suc (suc (suc zero)))))) = refl
section_cells-at row (suc (suc (suc (suc (suc (suc (suc n))))))) = refl

pub user_cells-at : (row : UserRow) (n : ℕ) → slice_index_or (user_cells row) n Nothing ≡ in_user_state (user_state_numbered n) row
user_cells-at row zero = refl
user_cells-at row (suc zero) = refl
user_cells-at row (suc (suc zero)) = refl
user_cells-at row (suc (suc (suc zero))) = refl
user_cells-at row (suc (suc (suc (suc zero)))) = refl
user_cells-at row (suc (suc (suc (suc (suc n))))) = refl
