use Rattle.std.proofs.Common.{◌+◌, ◌++◌, drop, ap, sym, ◌∙◌}
use Rattle.std.specs.List.{concat}
use Rattle.q713_shape.specs.Parts.{slices}
use Rattle.q713_shape.specs.Writing.{variables}
use Rattle.q713_shape.proofs.Pointing.{variables-next}
use Rattle.q713_shape.proofs.writing.put_variables.Goals as goal

pub loop-i-preserved : goal.loop-i-preserved
loop-i-preserved c =
    c.loop-i.invariant ∙ variables-next c.args.rules.now c.args.values.now c.loop-i.out c.loop-i.i _ _ c.loop-i-test.true c.requires
    ∙ ap (λ x. x ++ concat (variables (drop (c.loop-i.i + 1) c.args.rules.now) (drop (c.loop-i.i + 1) (slices c.args.values.now)))) (sym c.in_ok-put_variable.ensures)
