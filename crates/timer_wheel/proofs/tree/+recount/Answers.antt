use Rattle.std.proofs.Common.{rules}
use Rattle.timer_wheel.proofs.Order.{recounted_bound}
use Rattle.timer_wheel.proofs.tree.+recount.Goals as goal

pub returns-in-Fork-clause-sound : goal.returns-in-Fork-clause-sound
returns-in-Fork-clause-sound t c =
    let sound = rw c.in-Fork.is at c.requires.sound in
    let bound = recounted_bound _ _ _ _ c.args.ticks sound.2 in
    (search (rules, c.recount.ensures.sound), search (rules, c.recount-in-Fork.ensures.sound), search (rules, bound))
