-- A message as it is written, in place.
use Rattle.std.specs.Prelude.{◌≡◌, ℕ, List, [], take, Option}
use Rattle.std.specs.Borrow.{Bor}
use Rattle.q713_shape.specs.declared.rules.VarRule.{VarRule}
use Rattle.q713_shape.specs.Format.{Format, Values}
use Rattle.q713_shape.specs.Inner.Nameless.{nameless}
use Rattle.q713_shape.specs.Parts.{slices, optional_slices}
use Rattle.q713_shape.specs.Rules.{names_of}
use Rattle.q713_codec.specs.declared.written.FixedPart.{FixedPart}
use Rattle.q713_codec.specs.declared.written.Rules.{Rules}
use Rattle.q713_codec.specs.declared.written.Written.{Written}
use Rattle.q713_codec.specs.Names.{Message}
use Rattle.q713_codec.specs.Messages.{format_in, values_of_message}
use Rattle.q713_codec.specs.Types.{HasTypes}

abbrev pub octets_in : FixedPart → List ℕ
octets_in part = take part.count part.octets

abbrev pub rules_in : Rules → List VarRule
rules_in rules = take rules.count rules.items

abbrev pub values_with : List ℕ → List (Bor (List ℕ)) → List (Option (Bor (List ℕ))) → Values
values_with fixed vars options = record { fixed = fixed; vars = slices vars; options = optional_slices options }

abbrev pub written_format : Written → Format
written_format w = record { kind = w.kind; fixed = []; vars = rules_in w.rules; options = names_of w.names; wide = w.wide }

abbrev pub written_values : Written → Values
written_values w = values_with (octets_in w.fixed) w.vars w.options

-- it is this message as it is written
pub record IsWritten (w : Written) (message : Message) : Type 0 where
  pub format : written_format w ≡ nameless (format_in message)
  pub values : written_values w ≡ values_of_message message
  pub types : HasTypes message
