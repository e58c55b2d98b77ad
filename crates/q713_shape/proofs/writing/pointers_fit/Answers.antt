use Rattle.std.proofs.Common.{[], false, true, refl, sym, ◌∙◌}
use Rattle.q713_shape.proofs.Counting.{IsCounted-length, IsCounted-next}
use Rattle.q713_shape.proofs.Pointing.{fit-next}
use Rattle.q713_shape.proofs.writing.pointers_fit.Goals as goal

pub returns-then-not-fits : goal.returns-then-not-fits
returns-then-not-fits c = sym (c.loop-i.invariant.left ∙ fit-next c.args.rules.now c.args.values.now c.args.wide c.args.behind c.loop-i.before _ c.skip.result c.loop-i.i (record { name = 0; least = 0; most = 0 }) (record { ref_ptr = (0, 0); now = [] }) false c.loop-i-test.true c.requires.values refl c.skip.ensures (sym c.if-not-fits.ensures))

pub variable_len-before-requires : goal.variable_len-before-requires
variable_len-before-requires c = IsCounted-length c.args.rules.now c.args.values.now c.loop-i.before c.loop-i.i _ _ c.loop-i-test.true c.requires.values c.loop-i.invariant.counted

pub loop-i-preserved : goal.loop-i-preserved
loop-i-preserved c = record {
  counted = IsCounted-next c.args.rules.now c.args.values.now c.loop-i.before c.loop-i.i c.variable_len-before.result _ _ c.loop-i-test.true c.requires.values c.variable_len-before.ensures.value c.variable_len-before.ensures.small c.loop-i.invariant.counted;
  left = c.loop-i.invariant.left ∙ fit-next c.args.rules.now c.args.values.now c.args.wide c.args.behind c.loop-i.before c.variable_len-before.result c.skip.result c.loop-i.i _ _ true c.loop-i-test.true c.requires.values c.variable_len-before.ensures.value c.skip.ensures (sym c.if-not-fits.ensures);
}
