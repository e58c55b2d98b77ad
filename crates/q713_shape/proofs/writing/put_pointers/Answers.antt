use Rattle.std.proofs.Common.{◌+◌, ◌++◌, drop, map, ap, sym, ◌∙◌}
use Rattle.std.specs.List.{concat}
use Rattle.q713_shape.specs.Format.{pointer_width}
use Rattle.q713_shape.specs.Parts.{slices}
use Rattle.q713_shape.specs.Writing.{skips, variables, number_octets}
use Rattle.q713_shape.proofs.Counting.{IsCounted-length, IsCounted-next}
use Rattle.q713_shape.proofs.Pointing.{pointers-next}
use Rattle.q713_shape.proofs.writing.put_pointers.Goals as goal

pub variable_len-before-requires : goal.variable_len-before-requires
variable_len-before-requires c = IsCounted-length c.args.rules.now c.args.values.now c.loop-i.before c.loop-i.i _ _ c.loop-i-test.true c.requires.values c.loop-i.invariant.counted

pub loop-i-preserved : goal.loop-i-preserved
loop-i-preserved c = record {
  counted = IsCounted-next c.args.rules.now c.args.values.now c.loop-i.before c.loop-i.i c.variable_len-before.result _ _ c.loop-i-test.true c.requires.values c.variable_len-before.ensures.value c.variable_len-before.ensures.small c.loop-i.invariant.counted;
  left =
      c.loop-i.invariant.left ∙ pointers-next c.args.rules.now c.args.values.now c.args.wide c.loop-i.out c.args.behind c.loop-i.before c.variable_len-before.result c.skip.result c.loop-i.i _ _ c.loop-i-test.true c.requires.values c.variable_len-before.ensures.value c.skip.ensures
      ∙ ap (λ x. x ++ concat (map (number_octets c.args.wide) (skips (pointer_width c.args.wide) c.args.behind (c.loop-i.before + c.variable_len-before.result) (variables (drop (c.loop-i.i + 1) c.args.rules.now) (drop (c.loop-i.i + 1) (slices c.args.values.now)))))) (sym c.in_ok-put_number.ensures);
}
