-- Which rows are added to the translation (Q.714, 2.4), and why the others aren't.
use Rattle.std.specs.Prelude.{◌≡◌, nat_le, List, length, if◌then◌else◌, Option, Some, None, Ok, Err}
use Rattle.std.specs.declared.result.Result.{Result}
use Rattle.gtt_table.specs.declared.row.Row.{Row}
use Rattle.gtt_table.specs.declared.table.AddFault.{AddFault}
use Rattle.gtt_table.specs.declared.table.AddFault.TheVariants.{Duplicate, RowsFull, Memory}
use Rattle.gtt_table.specs.declared.table.TheConstants.Table.{MOST}
use Rattle.gtt_table.specs.Rows.{has_row}

-- a second row under one key, or one more than a table holds
unfoldable pub add_refusal : List Row → Row → Option AddFault
add_refusal rows row =
    if has_row row.selector row.prefix rows then Some Duplicate
    else if nat_le MOST (length rows) then Some RowsFull
    else None

-- the answer is this refusal, or none; want of memory may stand in its place
abbrev pub Refuses : Result (Unit {0}) AddFault → Option AddFault → Type 0
Refuses (Ok done) refusal = refusal ≡ None
Refuses (Err Duplicate) refusal = refusal ≡ Some Duplicate
Refuses (Err RowsFull) refusal = refusal ≡ Some RowsFull
Refuses (Err Memory) refusal = Unit {0}

-- memory wasn't wanting
abbrev pub HasMemory : Result (Unit {0}) AddFault → Type 0
HasMemory (Ok done) = Unit {0}
HasMemory (Err Duplicate) = Unit {0}
HasMemory (Err RowsFull) = Unit {0}
HasMemory (Err Memory) = ⊥
