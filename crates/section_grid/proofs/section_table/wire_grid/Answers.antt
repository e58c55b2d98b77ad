use Rattle.std.proofs.Common.{rules, ◌≡◌, [], slice_index_or}
use Rattle.section_model.specs.declared.cell.Occasion.TheVariants.{DoneComes}
use Rattle.section_grid.specs.Grids.{occasions}
use Rattle.section_model.specs.Table.{section_row}
use Rattle.section_grid.specs.Inner.Rows.{section_cells}
use Rattle.section_grid.proofs.RowLemmas.{section_cells-at}
use Rattle.section_grid.proofs.section_table.wire_grid.Goals as goal

pub returns : goal.returns
returns c = λ state event low small.
    let occasion = slice_index_or occasions event DoneComes in
    let called = c.map.ensures.items.at event DoneComes [] small in
    let row : slice_index_or c.map.result event [] ≡ section_cells (section_row occasion) = search (rules, called) in
    rw row (section_cells-at (section_row occasion) state)
