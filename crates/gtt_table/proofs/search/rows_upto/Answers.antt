use Rattle.std.proofs.Common.{rules}
use Rattle.std.proofs.lemmas.List.Sorted.{IsPartitionPoint-from_clause}
use Rattle.std.specs.Ordering.{is_le}
use Rattle.gtt_table.specs.Inner.Order.{row_cmp}
use Rattle.gtt_table.proofs.OrderLemmas.{searchable}
use Rattle.gtt_table.proofs.UptoLemmas.{parted_upto}
use Rattle.gtt_table.proofs.search.rows_upto.Goals as goal

pub returns-clause-parted : goal.returns-clause-parted
returns-clause-parted c =
    let rises = searchable c.args.selector.now c.args.digits.now c.args.rows.now c.requires in
    IsPartitionPoint-from_clause (λ row. is_le (row_cmp c.args.selector.now c.args.digits.now row)) _ _ c.partition_point.ensures.partitioned
    (parted_upto c.args.selector.now c.args.digits.now c.args.rows.now rises) (λ a r f k. search rules)
