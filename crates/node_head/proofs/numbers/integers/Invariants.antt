use Rattle.std.proofs.Common.{◌≡◌, drop, []}
use Rattle.toml.specs.View.{items_view}
use Rattle.node_head.specs.Numbers.{integers_after}
use Rattle.node_head.proofs.numbers.integers.Given as goal

-- the integers so far, and those of what is left
abbrev pub invariant-loop-value : goal.invariant-loop-value
invariant-loop-value l = integers_after l.found.items (items_view (drop l.value-index l.array.items)) ≡ integers_after [] (items_view l.array.items)
