use Rattle.std.proofs.Common.{◌<◌, arith}
use Rattle.relay_base.specs.declared.limits.TheConstants.{DIGIT_VALUES}
use Rattle.relay_base.proofs.DigitLemmas.{IsFilled-set}
use Rattle.relay_base.proofs.digits.Digits.push.Goals as goal

pub invariant_of-self : goal.invariant_of-self
invariant_of-self c =
    let small : c.number.result < DIGIT_VALUES = omega (arith, c.number.ensures.value, c.number.ensures.range) in
    IsFilled-set c.self.inside.digits c.args.self.now c.self.inside.count c.number.result c.self.invariant c.self.view_is c.requires small
