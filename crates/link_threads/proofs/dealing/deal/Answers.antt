use Rattle.std.proofs.Common.{◌≡◌, ◌+◌, ◌<◌, ◌++◌, [], ◌∷◌, List, length, ap, arith, length-append, length-set}
use Rattle.lane_gate.specs.declared.pass.Pass.{Pass}
use Rattle.link_threads.proofs.DealLemmas.{new_pop, dealt_step, dealt_all}
use Rattle.link_threads.proofs.dealing.deal.Goals as goal

pub loop-pass-preserved : goal.loop-pass-preserved
loop-pass-preserved g c =
    let inv = c.loop-pass.invariant in
    let rest : List Pass = c.pop.new.self.items in
    let pass : Pass = c.in-Some.pass in
    let is : c.loop-pass.passes.items ≡ rest ++ pass ∷ [] = c.in-Some.ensures.items in
    let both = new_pop c.args.gate.now c.loop-pass.passes.items rest pass is inv.left in
    let size : length c.loop-pass.passes.items ≡ length rest + 1 = omega (arith, ap length is, length-append rest (pass ∷ [])) in
    let link : c.len-link.result ≡ length rest = omega (arith, c.len-link.ensures, c.pop.new.self.ok.0) in
    let within : length rest < length c.loop-pass.hands = omega (arith, size, inv.within) in
    record {
      left = both.0;
      within = omega (arith, within, length-set c.loop-pass.hands c.len-link.result c.push.new.self);
      dealt = dealt_step c.args.gate.now c.args.hands.now c.loop-pass.hands (length rest) (length c.loop-pass.passes.items) c.len-link.result c.push.new.self pass c.index-hands-link.result size link within c.in_ok-push.ensures.items both.1 inv.dealt;
    }

pub returns : goal.returns
returns g c =
    let none : length c.loop-pass.passes.items ≡ 0 = grind (arith, c.in_default.ensures.variant, c.in_default.ensures.cases) in
    dealt_all c.args.gate.now c.args.hands.now c.loop-pass.hands (length c.loop-pass.passes.items) none c.loop-pass.auto.hands c.loop-pass.invariant.dealt
