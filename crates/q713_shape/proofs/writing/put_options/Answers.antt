use Rattle.std.proofs.Common.{◌+◌, ◌++◌, drop, ap, sym, ◌∙◌}
use Rattle.q713_shape.specs.Parts.{optional_slices}
use Rattle.q713_shape.specs.Writing.{all_given}
use Rattle.q713_shape.proofs.Pointing.{options-next}
use Rattle.q713_shape.proofs.writing.put_options.Goals as goal

pub loop-i-preserved : goal.loop-i-preserved
loop-i-preserved c =
    c.loop-i.invariant ∙ options-next c.args.names.now c.args.values.now c.loop-i.out c.loop-i.i c.loop-i-test.true c.requires
    ∙ ap (λ x. x ++ all_given (drop (c.loop-i.i + 1) c.args.names.now) (drop (c.loop-i.i + 1) (optional_slices c.args.values.now))) (sym c.in_ok-put_option.ensures)
