use Rattle.std.proofs.Common.{[]}
use Rattle.relay_chain.proofs.chain.no_steps.Given as goal

abbrev pub ghost-after : goal.ghost-after
ghost-after a = []
