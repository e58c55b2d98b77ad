-- A table of a head as the code holds it, and the refusals that it makes.
use Rattle.std.specs.Prelude.{◌≡◌, ℤ, ◌≤◌, Bool, not, List, Vec, map, String, Option, IfSome, option_map, unwrap_or, string_bytes}
use Rattle.std.specs.Borrow.{Bor}
use Rattle.std.specs.BTreeMap.{BTreeMap}
use Rattle.std.specs.declared.alloc.Global.{Global}
use Rattle.toml.specs.Data.{Data, Items, no_items, Members, no_members}
use Rattle.toml.specs.View.{view, table_view, array_view}
use Rattle.toml.specs.declared.value.Value.{Value}
use Rattle.node_head.specs.declared.fault.HeadFault.{HeadFault}
use Rattle.node_head.specs.declared.fault.HeadRefused.{HeadRefused}
use Rattle.node_head.specs.declared.section.Bounds.{Bounds}
use Rattle.node_head.specs.declared.section.Place.{Place}
use Rattle.node_head.specs.declared.section.Section.{Section}
use Rattle.node_head.specs.Keys.{is_stated}
use Rattle.node_head.specs.Refusals.{fault_in}

-- the refusal is this fault, unless memory ran out
abbrev pub Refuses : HeadRefused → HeadFault → Type 0
Refuses refused f = IfSome (fault_in refused) (λ g. g ≡ f)

-- the members of a table, none where there is no table
abbrev pub table_in : Option (Bor (BTreeMap (String Global) Value)) → Members
table_in table = unwrap_or (option_map (λ t. table_view t.now) table) no_members

abbrev pub members_of : Section → Members
members_of s = table_in s.table

-- the members of tables
abbrev pub tables_in : List (Bor (BTreeMap (String Global) Value)) → List Members
tables_in tables = map (λ t. table_view t.now) tables

abbrev pub found_tables : Option (Vec (Bor (BTreeMap (String Global) Value)) Global) → Option (List Members)
found_tables found = option_map (λ v. tables_in v.items) found

-- the items of an array, none where there is no array
abbrev pub array_in : Option (Bor (Vec Value Global)) → Items
array_in array = unwrap_or (option_map (λ a. array_view a.now) array) no_items

abbrev pub integers_in : Option (Vec ℤ Global) → Option (List ℤ)
integers_in found = option_map (λ v. v.items) found

-- the data of a value, if there is one
abbrev pub data_in : Option (Bor Value) → Option Data
data_in value = option_map (λ v. view v.now) value

-- a key that is not stated for a table
abbrev pub is_unknown : Place → String Global → Bool
is_unknown place key = not (is_stated place (string_bytes key))

-- the default is not above the greatest value
abbrev pub IsBounds : Bounds → Type 0
IsBounds b = IfSome b.default (λ d. d ≤ b.most)
