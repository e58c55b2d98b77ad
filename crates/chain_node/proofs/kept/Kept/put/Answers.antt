use Rattle.std.proofs.Common.{◌++◌}
use Rattle.chain_step.specs.Fresh.{listed}
use Rattle.chain_node.proofs.Fresh.{taken_one}
use Rattle.chain_node.proofs.kept.Kept.put.Goals as goal

pub returns-clause-references : goal.returns-clause-references
returns-clause-references c = λ taken are.
    taken_one c.take.new.self c.take-2.new.self (taken ++ listed c.args.this) c.args.that
    (taken_one c.args.self.now.references c.take.new.self taken c.args.this are c.take.ensures.taken c.take.ensures.twice)
    c.take-2.ensures.taken c.take-2.ensures.twice
