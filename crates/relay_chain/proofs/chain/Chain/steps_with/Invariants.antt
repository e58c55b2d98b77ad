use Rattle.std.proofs.Common.{[], ◌∷◌, ◌++◌}
use Rattle.relay_chain.proofs.chain.Chain.steps_with.Given as goal

abbrev pub ghost-after : goal.ghost-after
ghost-after a = a.seen.now.0.now.steps ++ a.seen.now.1.now ∷ []
