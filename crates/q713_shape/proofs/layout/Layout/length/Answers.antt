use Rattle.std.proofs.Common.{ℕ, List, arith}
use Rattle.std.specs.Borrow.{Bor}
use Rattle.std.proofs.lemmas.List.{length-map}
use Rattle.q713_shape.specs.Parts.{layout_format, layout_values}
use Rattle.q713_shape.proofs.Ranges.{in_range-lengths, in_range-options, length-octets_of}
use Rattle.q713_shape.proofs.layout.Layout.length.Goals as goal

pub variables_len-requires-clause-lengths : goal.variables_len-requires-clause-lengths
variables_len-requires-clause-lengths c = in_range-lengths (layout_format c.args.self.now) (layout_values c.args.self.now) c.requires

pub optional_len-requires-clause-options : goal.optional_len-requires-clause-options
optional_len-requires-clause-options c = in_range-options (layout_format c.args.self.now) (layout_values c.args.self.now) c.requires

pub returns : goal.returns
returns c = omega (arith, length-octets_of (layout_format c.args.self.now) (layout_values c.args.self.now) (omega (arith, length-map c.args.self.now.vars (λ (x : Bor (List ℕ)). x.now))))
