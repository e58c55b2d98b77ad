use Rattle.std.proofs.Common.{rules, ◌≡◌, [], slice_index_or}
use Rattle.section_model.specs.declared.cell.UserOccasion.TheVariants.{DoneTold}
use Rattle.section_grid.specs.Grids.{user_occasions}
use Rattle.section_model.specs.Table.{user_row}
use Rattle.section_grid.specs.Inner.Rows.{user_cells}
use Rattle.section_grid.proofs.RowLemmas.{user_cells-at}
use Rattle.section_grid.proofs.user_table.user_grid.Goals as goal

pub returns : goal.returns
returns c = λ state event low small.
    let occasion = slice_index_or user_occasions event DoneTold in
    let called = c.map.ensures.items.at event DoneTold [] small in
    let row : slice_index_or c.map.result event [] ≡ user_cells (user_row occasion) = search (rules, called) in
    rw row (user_cells-at (user_row occasion) state)
