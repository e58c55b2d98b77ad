-- The arrays of tables in a head.
use Rattle.std.specs.Prelude.{List, [], ◌∷◌, ◌++◌, Option, Some, None, option_and_then, Ok}
use Rattle.std.specs.declared.result.Result.{Result}
use Rattle.toml.specs.Data.{Data, Items, no_items, item, Members, as_array, as_table}
use Rattle.node_head.specs.declared.fault.HeadFault.{HeadFault}
use Rattle.node_head.specs.declared.fault.HeadKind.TheVariants as kind
use Rattle.node_head.specs.declared.section.TableArray.{TableArray}
use Rattle.node_head.specs.Keys.{array_key}
use Rattle.node_head.specs.Refusals.{fault, or_fault}

-- the tables that the items are, where each one is one, after those found
abbrev pub tables_after : List Members → Items → Option (List Members)
tables_after found no_items = Some found
tables_after found (item d ds) = option_and_then (λ t. tables_after (found ++ t ∷ []) ds) (as_table d)

-- the tables of an array, none where the key is absent
unfoldable pub tables_value : TableArray → Option Data → Result (List Members) HeadFault
tables_value array None = Ok []
tables_value array (Some d) = or_fault (option_and_then (tables_after []) (as_array d)) (fault kind.Kind (array_key array))
