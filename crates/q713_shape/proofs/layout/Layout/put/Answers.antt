use Rattle.q713_shape.specs.Parts.{layout_format, layout_values}
use Rattle.q713_shape.proofs.Ranges.{in_range-lengths, in_range-options, octets_of-written}
use Rattle.q713_shape.proofs.layout.Layout.put.Goals as goal

pub variables_len-before-requires-clause-lengths : goal.variables_len-before-requires-clause-lengths
variables_len-before-requires-clause-lengths c = in_range-lengths (layout_format c.args.self.now) (layout_values c.args.self.now) c.requires

pub put_pointers-requires-clause-lengths : goal.put_pointers-requires-clause-lengths
put_pointers-requires-clause-lengths c = in_range-lengths (layout_format c.args.self.now) (layout_values c.args.self.now) c.requires

pub put_optional_pointer-requires-clause-options : goal.put_optional_pointer-requires-clause-options
put_optional_pointer-requires-clause-options c = in_range-options (layout_format c.args.self.now) (layout_values c.args.self.now) c.requires

pub put_optional_part-requires-clause-options : goal.put_optional_part-requires-clause-options
put_optional_part-requires-clause-options c = in_range-options (layout_format c.args.self.now) (layout_values c.args.self.now) c.requires

pub returns : goal.returns
returns c =
    octets_of-written (layout_format c.args.self.now) (layout_values c.args.self.now) c.variables_len-before.result c.count.result c.in_ok-out.out c.push.new.self c.extend.new.self c.put_pointers.new.out c.put_optional_pointer.new.out c.put_variables.new.out c.put_optional_part.new.out c.variables_len-before.ensures.value c.count.ensures c.in_ok-out.ensures c.in_ok-push.ensures.ok c.in_ok-extend.ensures.ok c.in_ok-put_pointers.ensures c.in_ok-put_optional_pointer.ensures c.in_ok-put_variables.ensures c.in_ok-put_optional_part.ensures
