use Rattle.std.proofs.Common.{◌≡◌, length, sym, subst, arith}
use Rattle.link_threads.specs.Gates.{GivePasses}
use Rattle.link_threads.proofs.CloseLemmas.{gives_by}
use Rattle.link_threads.proofs.dealing.take_back.Goals as goal

pub returns : goal.returns
returns c =
    let inv = c.loop-hand.invariant in
    let all : length c.loop-hand.passes.items ≡ length c.args.hands.now = omega (arith, inv.count, c.loop-hand.auto.hand-index-end, c.loop-hand-test.false) in
    subst (GivePasses c.args.hands.now c.loop-hand.hands) (sym c.from.ensures)
    (gives_by c.args.hands.now c.loop-hand.hands c.loop-hand.passes.items c.loop-hand.auto.hands all (λ k d e lt. inv.given k d e (omega (arith, lt, all, inv.count))))
