use Rattle.std.proofs.Common.{◌+◌, length, inl, inr, ap, sym, arith, rules}
use Rattle.std.proofs.lemmas.Bool.{eqb-true}
use Rattle.q713_shape.proofs.Scanning.{IsScannedTo-start, IsScannedTo-next, IsScannedTo-fault, IsScannedTo-whole}
use Rattle.q713_shape.proofs.reading.options.Goals.{then-loop-rest-test+else-rest-ne0, else-loop-rest-test}
use Rattle.q713_shape.proofs.reading.options.Goals as goal

pub loop-rest-init : goal.loop-rest-init
loop-rest-init c = IsScannedTo-start c.args.names.now c.args.part.now c.requires

pub returns-in_err-take_option : goal.returns-in_err-take_option
returns-in_err-take_option c =
    let fault = IsScannedTo-fault c.args.names.now c.args.part.now c.loop-rest.values c.loop-rest.rest.now (2 + c.from-end.result) c.in_err-take_option.field-0.0 c.if-rest-ne0.true (ap (λ n. 2 + n) (search rules)) c.if-rest-lt2.false (omega arith) c.in_err-take_option.ensures.taken c.loop-rest.invariant in
    rw fault (search rules)

pub loop-rest-preserved : goal.loop-rest-preserved
loop-rest-preserved c =
    IsScannedTo-next c.args.names.now c.args.part.now c.loop-rest.values c.take_option.new.values c.loop-rest.rest.now (2 + c.from-end.result) _ c.if-rest-ne0.true (ap (λ n. 2 + n) (search rules)) c.if-rest-lt2.false (omega arith) c.in_ok-take_option.ensures.taken c.take_option.ensures.room (omega arith) c.loop-rest.invariant

pub returns : goal.returns
returns c =
    elim c.loop-rest-test.branch [
      | then-loop-rest-test+else-rest-ne0 w ↦
          IsScannedTo-whole c.args.names.now c.args.part.now c.loop-rest.values c.loop-rest.rest.now c.requires (inr w.if-rest-ne0.false) c.loop-rest.invariant
      | else-loop-rest-test w ↦
          IsScannedTo-whole c.args.names.now c.args.part.now c.loop-rest.values c.loop-rest.rest.now c.requires (inl (eqb-true (length c.loop-rest.rest.now) 0 (sym w.loop-rest-test.ensures))) c.loop-rest.invariant
    ]
