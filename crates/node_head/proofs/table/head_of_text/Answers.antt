use Rattle.toml.specs.View.{table_view}
use Rattle.node_head.proofs.RangeLemmas.{read_in_range}
use Rattle.node_head.proofs.table.head_of_text.Goals as goal

pub returns-clause-range : goal.returns-clause-range
returns-clause-range c = read_in_range c.values.result (table_view c.in_ok-table.table) c.values.ensures.value
