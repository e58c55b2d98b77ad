-- The rows of a head (Q.714, 2.4).
use Rattle.std.specs.Prelude.{ℕ, ◌+◌, ◌-◌, ◌==◌, nat_lt, codes, List, [], ◌∷◌, ◌++◌, length, if◌then◌else◌, Option, Some, None, option_and_then, Ok, Err}
use Rattle.std.specs.declared.result.Result.{Result}
use Rattle.relay_base.specs.declared.limits.TheConstants.{GREATEST_OCTET}
use Rattle.relay_base.specs.Giving.{◌>>=◌}
use Rattle.sccp_address.specs.declared.address.TheConstants.{NATURES, NUMBERING_PLANS}
use Rattle.sccp_address.specs.declared.address.Selector.{Selector}
use Rattle.gtt_table.specs.declared.row.Row.{Row}
use Rattle.gtt_table.specs.declared.row.Entity.{Entity}
use Rattle.gtt_table.specs.Rows.{has_row}
use Rattle.gtt_table.specs.declared.table.TheConstants.Table.{MOST}
use Rattle.toml.specs.Data.{Data, Members, get_member}
use Rattle.node_head.specs.declared.fault.HeadFault.{HeadFault}
use Rattle.node_head.specs.declared.fault.HeadKind.TheVariants as kind
use Rattle.node_head.specs.declared.section.Place.{Place}
use Rattle.node_head.specs.declared.section.Place.TheVariants.{Nth}
use Rattle.node_head.specs.declared.section.TableArray.TheVariants.{Rows}
use Rattle.node_head.specs.Keys.{path, required, usual, number_at, text_at}
use Rattle.node_head.specs.Entity.{digits_of, entity_of}
use Rattle.node_head.specs.Tables.{tables_value}
use Rattle.node_head.specs.Refusals.{fault, or_fault}

-- the indicator: 1, 3 or 4
unfoldable pub indicator_at : Place → Members → Result ℕ HeadFault
indicator_at place ms = do
  gti ← number_at place ms (codes "gti") (required 1 4)
  if gti == 2 then Err (fault kind.Range (path place (codes "gti"))) else Ok gti

-- what the titles of the indicator carry (Q.713, 3.4); 0 stands for what they don't
unfoldable pub selector_at : Place → Members → Result Selector HeadFault
selector_at place ms = do
  gti ← indicator_at place ms
  tt ← number_at place ms (codes "tt") (usual 0 0 (if gti == 1 then 0 else GREATEST_OCTET))
  np ← number_at place ms (codes "np") (usual 0 0 (if gti == 1 then 0 else NUMBERING_PLANS - 1))
  nai ← number_at place ms (codes "nai") (usual 0 0 (if gti == 3 then 0 else NATURES - 1))
  Ok (record { gti = gti; tt = tt; np = np; nai = nai })

-- digits under which, with this selector, no row was found
abbrev pub new_prefix : List Row → Selector → List ℕ → Option (List ℕ)
new_prefix found selector text = option_and_then (λ digits. if has_row selector digits found then None else Some digits) (digits_of text)

unfoldable pub prefix_at : List Row → Selector → Place → Members → Result (List ℕ) HeadFault
prefix_at found selector place ms = do
  text ← text_at place ms (codes "digits")
  or_fault (new_prefix found selector text) (fault kind.Range (path place (codes "digits")))

unfoldable pub entity_at : ℕ → Place → Members → List ℕ → Result Entity HeadFault
entity_at own place ms key = do
  text ← text_at place ms key
  or_fault (entity_of own text) (fault kind.Range (path place key))

-- the second entity, where there is one
unfoldable pub second_at : ℕ → Place → Members → Result (Option Entity) HeadFault
second_at own place ms = second_value (get_member (codes "second") ms) where
  second_value : Option Data → Result (Option Entity) HeadFault
  second_value None = Ok None
  second_value (Some d) = do
    entity ← entity_at own place ms (codes "second")
    Ok (Some entity)

-- a row, behind those found
unfoldable pub row_of : ℕ → List Row → Place → Members → Result Row HeadFault
row_of own found place ms = do
  selector ← selector_at place ms
  prefix ← prefix_at found selector place ms
  first ← entity_at own place ms (codes "first")
  second ← second_at own place ms
  Ok (record { selector = selector; prefix = prefix; first = first; second = second })

-- the rows found, and those of more tables
abbrev pub rows_after : ℕ → List Row → List Members → Result (List Row) HeadFault
rows_after own found [] = Ok found
rows_after own found (ms ∷ more) = do
  row ← row_of own found (Nth Rows (length found + 1)) ms
  rows_after own (found ++ row ∷ []) more

-- at most 4,096 rows, none where the key is absent
unfoldable pub rows_value : ℕ → Option Data → Result (List Row) HeadFault
rows_value own d = do
  tables ← tables_value Rows d
  if nat_lt MOST (length tables) then Err (fault kind.Range (codes "row")) else rows_after own [] tables
