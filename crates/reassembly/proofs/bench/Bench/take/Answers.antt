use Rattle.reassembly.proofs.Within.{at_ticks, bounds_after}
use Rattle.reassembly.proofs.bench.Bench.take.Goals as goal

pub invariant_of-self : goal.invariant_of-self
invariant_of-self c =
    bounds_after c.self.inside.ticks c.self.inside.processes.items c.take_first.new.processes.items c.args.piece c.take_first.result c.take_first.ensures.ok c.take_first.ensures.err c.self.invariant

pub invariant_of-self-else-is_first : goal.invariant_of-self-else-is_first
invariant_of-self-else-is_first c =
    bounds_after c.self.inside.ticks c.self.inside.processes.items c.take_later.new.processes.items c.args.piece c.take_later.result (at_ticks c.self.inside.ticks c.self.inside.processes.items c.take_later.new.processes.items c.args.piece c.take_later.result c.take_later.ensures.ok) c.take_later.ensures.err c.self.invariant

pub returns-then-is_first-clause-bounds : goal.returns-then-is_first-clause-bounds
returns-then-is_first-clause-bounds c =
    bounds_after c.self.inside.ticks c.self.inside.processes.items c.take_first.new.processes.items c.args.piece c.take_first.result c.take_first.ensures.ok c.take_first.ensures.err c.self.invariant

pub returns-else-is_first-clause-bounds : goal.returns-else-is_first-clause-bounds
returns-else-is_first-clause-bounds c =
    bounds_after c.self.inside.ticks c.self.inside.processes.items c.take_later.new.processes.items c.args.piece c.take_later.result (at_ticks c.self.inside.ticks c.self.inside.processes.items c.take_later.new.processes.items c.args.piece c.take_later.result c.take_later.ensures.ok) c.take_later.ensures.err c.self.invariant

pub returns-else-is_first-clause-ok : goal.returns-else-is_first-clause-ok
returns-else-is_first-clause-ok c =
    let ok = at_ticks c.self.inside.ticks c.self.inside.processes.items c.take_later.new.processes.items c.args.piece c.take_later.result c.take_later.ensures.ok in
    rw (← c.self.view_is) ok
