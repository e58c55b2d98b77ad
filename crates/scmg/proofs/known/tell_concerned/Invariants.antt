use Rattle.std.proofs.Common.{◌≡◌, ◌++◌, map, drop}
use Rattle.scmg_messages.specs.Messages.{sent}
use Rattle.scmg.proofs.known.tell_concerned.Given as goal

-- with those to come, the outputs are all
abbrev pub invariant-loop-to : goal.invariant-loop-to
invariant-loop-to l =
    l.outs ++ map (λ to. sent to l.format l.ssn l.plant.routing.own) (drop l.to-index l.to-items) ≡ l.fn.outs ++ map (λ to. sent to l.format l.ssn l.plant.routing.own) l.to-items
