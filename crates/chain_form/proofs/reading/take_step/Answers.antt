use Rattle.std.proofs.Common.{arith}
use Rattle.chain_form.proofs.StepLemmas.{steps_pushed}
use Rattle.chain_form.proofs.reading.take_step.Goals as goal

pub returns-clause-steps : goal.returns-clause-steps
returns-clause-steps c =
    steps_pushed c.args.nodes c.args.steps.now c.push.new.self (record { line = c.args.number; step = c.in_ok-step.step }) c.requires
    c.in_ok-step.ensures.step (omega arith) c.in_ok-push.ensures.ok
