use Rattle.std.proofs.Common.{◌≡◌, arith}
use Rattle.std.proofs.lemmas.Grind.{common_steps}
use Rattle.reassembly.specs.Reassembly.{after_tick}
use Rattle.reassembly.proofs.Within.{after_a_tick}
use Rattle.reassembly.proofs.bench.Bench.tick.Goals as goal

pub invariant_of-self : goal.invariant_of-self
invariant_of-self c =
    let aged : c.part.new.kept.items ≡ after_tick c.self.inside.processes.items = grind (arith, common_steps) in
    rw aged (after_a_tick c.self.inside.processes.items c.self.invariant)

pub returns-clause-bounds : goal.returns-clause-bounds
returns-clause-bounds c =
    let aged : c.part.new.kept.items ≡ after_tick c.self.inside.processes.items = grind (arith, common_steps) in
    rw aged (after_a_tick c.self.inside.processes.items c.self.invariant)
