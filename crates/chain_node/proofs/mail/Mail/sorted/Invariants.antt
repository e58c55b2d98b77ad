use Rattle.std.proofs.Common.{◌≡◌}
use Rattle.chain_step.specs.Run.{tells_in, messages_in}
use Rattle.chain_node.proofs.mail.Mail.sorted.Given as goal

abbrev pub invariant-loop-out : goal.invariant-loop-out
invariant-loop-out l =
    (l.mail.tells.items ≡ tells_in l.place.number l.yielded)
    × (l.mail.ahead.items ≡ messages_in l.place.number l.place.ahead l.yielded)
    × (l.mail.back.items ≡ messages_in l.place.number l.place.back l.yielded)
