use Rattle.std.proofs.Common.{◌≡◌, ◌<◌, [], false, List, length, IsTrue, subst, sym, ap, arith}
use Rattle.gtt_table.specs.Rows.{has_row}
use Rattle.gtt_table.specs.declared.row.Row.{Row}
use Rattle.gtt_table.specs.declared.table.TheConstants.Table.{MOST}
use Rattle.std.proofs.lemmas.Grind.{common_steps}
use Rattle.node_head.specs.Addable.{are_addable}
use Rattle.node_head.proofs.AddableLemmas.{free, addable_more}
use Rattle.node_head.proofs.rows.rows.Goals as goal

pub put-requires : goal.put-requires
put-requires c =
    let few : length c.loop-table.found.rows < MOST = omega (arith, ap length c.loop-table.invariant.found, c.loop-table.invariant.count, c.loop-table-test.true, c.requires) in
    free c.loop-table.found.rows c.in_ok-row.row few c.in_ok-row.ensures.apart

pub loop-table-preserved : goal.loop-table-preserved
loop-table-preserved c =
    let apart : has_row c.in_ok-row.row.selector c.in_ok-row.row.prefix c.loop-table.rows ≡ false =
    subst (λ (rows : List Row). has_row c.in_ok-row.row.selector c.in_ok-row.row.prefix rows ≡ false) c.loop-table.invariant.found c.in_ok-row.ensures.apart in record {
      rest = grind (arith, common_steps);
      found = grind (arith, common_steps);
      count = grind (arith, common_steps);
      addable = subst (λ rows. IsTrue (are_addable [] rows)) (sym c.in_ok-push.ensures.ok) (addable_more c.loop-table.rows c.in_ok-row.row c.loop-table.invariant.addable (omega (arith, c.loop-table.invariant.count, c.loop-table-test.true, c.requires)) apart);
    }
