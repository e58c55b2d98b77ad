use Rattle.std.proofs.Common.{◌≡◌, ◌+◌, length, refl, ap, ◌∙◌, arith, rules, take, drop}
use Rattle.q713_shape.specs.Parts.{format_of, slices, optional_slices}
use Rattle.q713_shape.proofs.Whole.{values_of-variable_fault, values_of-option_fault, values_of-values}
use Rattle.q713_shape.proofs.shape.Shape.parts_in.Goals as goal

pub returns-in_err-found : goal.returns-in_err-found
returns-in_err-found g c =
    rw (values_of-variable_fault (format_of c.args.self.now) c.args.bytes.now _ c.in_err-found.field-0.0 c.requires (omega arith) c.in_err-found.ensures) (search rules)

pub returns-in_err-optional : goal.returns-in_err-optional
returns-in_err-optional g c =
    let count : length c.args.self.now.vars ≡ g.row.V = omega arith in
    rw (values_of-option_fault (format_of c.args.self.now) c.args.bytes.now (1 + g.row.F) _ (slices c.in_ok-found.found.values) c.in_err-optional.field-0.0 c.requires (omega arith) (rw (count, c.pointer_octets.ensures) refl) c.in_ok-found.ensures c.in_err-optional.ensures) (search rules)

pub returns : goal.returns
returns g c =
    let count : length c.args.self.now.vars ≡ g.row.V = omega arith in
    values_of-values (format_of c.args.self.now) c.args.bytes.now (1 + g.row.F) _ c.copy_from_slice.new.self (slices c.in_ok-found.found.values) (optional_slices c.in_ok-optional.optional.values) c.requires (omega arith) (rw (count, c.pointer_octets.ensures) refl) (c.copy_from_slice.ensures.after ∙ ap (λ n. take n (drop 1 c.args.bytes.now)) {y = length c.args.self.now.fixed} (omega arith)) c.in_ok-found.ensures c.in_ok-optional.ensures
