use Rattle.std.proofs.Common.{rules}
use Rattle.q713_shape.proofs.Variables.{IsReadTo-next, IsReadTo-fault, IsReadTo-whole}
use Rattle.q713_shape.proofs.reading.variables.Goals as goal

pub returns-in_err-values : goal.returns-in_err-values
returns-in_err-values c =
    let fault = IsReadTo-fault c.args.wide c.args.bytes.now c.args.place c.pointer_octets-width.result c.args.rules.now c.loop-i.values c.loop-i.i _ c.in_err-values.field-0.0 c.loop-i-test.true c.in_err-values.ensures c.loop-i.invariant in
    rw fault (search rules)

pub loop-i-preserved : goal.loop-i-preserved
loop-i-preserved c = IsReadTo-next c.args.wide c.args.bytes.now c.args.place c.pointer_octets-width.result c.args.rules.now c.loop-i.values c.loop-i.i _ c.in_ok-values.field-0 c.pointer_octets-width.ensures c.requires.few c.loop-i-test.true c.in_ok-values.ensures c.loop-i.invariant

pub returns : goal.returns
returns c = IsReadTo-whole c.args.wide c.args.bytes.now c.args.place c.pointer_octets-width.result c.args.rules.now c.loop-i.values c.loop-i.i c.requires.few c.loop-i.auto.i-end c.loop-i-test.false c.loop-i.invariant
