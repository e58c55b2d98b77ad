use Rattle.std.proofs.Common.{◌≡◌, false, true, get_or, inl, inr, sym}
use Rattle.std.specs.Prelude.{None}
use Rattle.std.specs.Option.{is_some}
use Rattle.std.proofs.lemmas.Bool.{ne_eqb}
use Rattle.q713_shape.proofs.Taking.{IsTakenTo-same, IsTakenTo-set, IsTakenTo-fault, IsTakenTo-whole}
use Rattle.q713_shape.proofs.reading.take_option.Goals.{then-names-i+then-is_none+else-not-is_option_len, else-names-i, else-names-i-via-then-names-i+else-is_none, else-names-i-via-else-names-i}
use Rattle.q713_shape.proofs.reading.take_option.Goals as goal

pub returns-then-not-is_option_len-clause-taken : goal.returns-then-not-is_option_len-clause-taken
returns-then-not-is_option_len-clause-taken c =
    let none : is_some (get_or c.loop-i.values c.loop-i.i None) ≡ false = c.if-is_none.ensures in
    IsTakenTo-fault c.args.names.now c.args.name c.args.value.now c.args.values.now c.loop-i.values c.loop-i.i c.loop-i-test.true c.requires none c.if-names-i.true (sym c.if-not-is_option_len.ensures) c.loop-i.invariant

pub loop-i-preserved : goal.loop-i-preserved
loop-i-preserved c =
    elim c.if-names-i.branch [
      | then-names-i+then-is_none+else-not-is_option_len w ↦
          (let none : is_some (get_or c.loop-i.values c.loop-i.i None) ≡ false = w.if-is_none.ensures in
          let set = IsTakenTo-set c.args.names.now c.args.name c.args.value c.args.values.now c.loop-i.values c.loop-i.i c.loop-i-test.true c.requires none w.if-names-i.true (sym w.if-not-is_option_len.ensures) c.loop-i.invariant in
          rw w.values-is set)
      | else-names-i w ↦ elim w.else-names-i.branch [
        | else-names-i-via-then-names-i+else-is_none w' ↦
            (let some : is_some (get_or c.loop-i.values c.loop-i.i None) ≡ true = w'.if-is_none.ensures in
            rw w.values-is (IsTakenTo-same c.args.names.now c.args.name c.args.value.now c.args.values.now c.loop-i.values c.loop-i.i c.loop-i-test.true c.requires (inl some) c.loop-i.invariant))
        | else-names-i-via-else-names-i w' ↦
            rw w.values-is (IsTakenTo-same c.args.names.now c.args.name c.args.value.now c.args.values.now c.loop-i.values c.loop-i.i c.loop-i-test.true c.requires (inr (ne_eqb (get_or c.args.names.now c.loop-i.i 0) c.args.name w'.if-names-i.false)) c.loop-i.invariant)
      ]
    ]

pub returns-clause-taken : goal.returns-clause-taken
returns-clause-taken c = IsTakenTo-whole c.args.names.now c.args.name c.args.value.now c.args.values.now c.loop-i.values c.loop-i.i c.loop-i-test.false c.loop-i.invariant
