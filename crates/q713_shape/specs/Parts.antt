-- What a clause sees of a shape and of parts.
use Rattle.std.specs.Prelude.{ℕ, List, [], map, Option}
use Rattle.std.specs.Option.{option_map}
use Rattle.std.specs.Borrow.{Bor}
use Rattle.q713_shape.specs.declared.shape.Shape.{Shape}
use Rattle.q713_shape.specs.declared.parts.Parts.{Parts}
use Rattle.q713_shape.specs.declared.layout.Layout.{Layout}
use Rattle.q713_shape.specs.Format.{Format, Values}
use Rattle.q713_shape.specs.Rules.{names_of}

abbrev pub format_of : {F V : ℕ} → Shape F V → Format
format_of shape = record {
  kind = shape.kind;
  fixed = shape.fixed;
  vars = shape.vars;
  options = names_of shape.options;
  wide = shape.wide;
}

abbrev pub slices : List (Bor (List ℕ)) → List (List ℕ)
slices = map (λ v. v.now)

abbrev pub optional_slices : List (Option (Bor (List ℕ))) → List (Option (List ℕ))
optional_slices = map (option_map (λ v. v.now))

abbrev pub values_seen : {F V : ℕ} → Parts F V → Values
values_seen parts = record {
  fixed = parts.fixed;
  vars = slices parts.vars;
  options = optional_slices parts.options;
}

-- a layout has no names of fixed octets
abbrev pub layout_format : Layout → Format
layout_format l = record { kind = l.kind; fixed = []; vars = l.rules.now; options = names_of l.names; wide = l.wide }

abbrev pub layout_values : Layout → Values
layout_values l = record { fixed = l.fixed.now; vars = slices l.vars; options = optional_slices l.options }
