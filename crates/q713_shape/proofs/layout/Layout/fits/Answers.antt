use Rattle.std.proofs.Common.{◌&&◌, ap, sym, ◌∙◌}
use Rattle.q713_shape.specs.Parts.{layout_format, layout_values}
use Rattle.q713_shape.proofs.Ranges.{are_in_range-length, are_in_range-option, are_in_range-pointers, are_in_range-pointer}
use Rattle.q713_shape.proofs.layout.Layout.fits.Goals as goal

pub returns-then-not-are_lengths : goal.returns-then-not-are_lengths
returns-then-not-are_lengths c = sym (are_in_range-length (layout_format c.args.self.now) (layout_values c.args.self.now) (sym c.if-not-are_lengths.ensures))

pub returns-then-not-are_options : goal.returns-then-not-are_options
returns-then-not-are_options c = sym (are_in_range-option (layout_format c.args.self.now) (layout_values c.args.self.now) (sym c.if-not-are_lengths.ensures) (sym c.if-not-are_options.ensures))

pub returns-then-pointers_fit : goal.returns-then-pointers_fit
returns-then-pointers_fit c =
    let p = rw c.count.ensures at c.pointers_fit.ensures in
    sym (are_in_range-pointers (layout_format c.args.self.now) (layout_values c.args.self.now) c.variables_len-before.result c.pointers_fit.result c.optional_pointer_fits.result (sym c.if-not-are_lengths.ensures) (sym c.if-not-are_options.ensures) c.variables_len-before.ensures.value p c.optional_pointer_fits.ensures ∙ ap (λ t. t && c.optional_pointer_fits.result) c.if-pointers_fit.true)

pub returns-else-pointers_fit : goal.returns-else-pointers_fit
returns-else-pointers_fit c =
    let p = rw c.count.ensures at c.pointers_fit.ensures in
    are_in_range-pointer (layout_format c.args.self.now) (layout_values c.args.self.now) c.pointers_fit.result (sym c.if-not-are_lengths.ensures) (sym c.if-not-are_options.ensures) p c.if-pointers_fit.false
