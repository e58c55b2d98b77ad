-- The row that translates digits: of those whose prefix begins them, the one with the most digits in its prefix
-- (Q.714, 2.4).
use Rattle.std.specs.Prelude.{ℕ, ◌≤◌, nat_lt, IsTrue, Bool, List, [], ◌∷◌, length, if◌then◌else◌, Option, Some, None, All, Contains}
use Rattle.std.specs.List.{list_any}
use Rattle.sccp_address.specs.declared.address.Selector.{Selector}
use Rattle.gtt_table.specs.declared.row.Row.{Row}
use Rattle.gtt_table.specs.declared.table.Look.{Look}
use Rattle.gtt_table.specs.declared.table.Look.TheVariants as look
use Rattle.gtt_table.specs.Rows.{is_same_selector, is_match}

-- no row has the selector; no prefix begins the digits; the row that translates them
pub data Found : Type 0 where
  no_selector : Found
  no_prefix : Found
  found : Row → Found

abbrev pub seen_look : Look → Found
seen_look look.NoSelector = no_selector
seen_look look.NoPrefix = no_prefix
seen_look (look.Row row) = found row.now

-- the row that a search gave
abbrev pub IfRow : Look → (Row → Type 0) → Type 0
IfRow look.NoSelector P = Unit {0}
IfRow look.NoPrefix P = Unit {0}
IfRow (look.Row row) P = P row.now

-- of two rows the one with the longer prefix
abbrev pub longer : Option Row → Option Row → Option Row
longer None row = row
longer (Some row) None = Some row
longer (Some row) (Some other) = if nat_lt (length row.prefix) (length other.prefix) then Some other else Some row

abbrev pub longest_match : Selector → List ℕ → List Row → Option Row
longest_match selector digits [] = None
longest_match selector digits (row ∷ rest) =
    longer (if is_match selector digits row then Some row else None) (longest_match selector digits rest)

abbrev pub has_selector : Selector → List Row → Bool
has_selector selector rows = list_any (λ row. is_same_selector row.selector selector) rows

abbrev pub found_row : Option Row → Found
found_row None = no_prefix
found_row (Some row) = found row

unfoldable pub translation_of : List Row → Selector → List ℕ → Found
translation_of rows selector digits =
    if has_selector selector rows then found_row (longest_match selector digits rows) else no_selector

-- a row that matches the digits, and no matching row has a longer prefix
pub record IsLongestMatch (rows : List Row) (selector : Selector) (digits : List ℕ) (row : Row) : Type 0 where
  pub present : Contains rows row
  pub matches : IsTrue (is_match selector digits row)
  pub longest : All (λ other. IsTrue (is_match selector digits other) → length other.prefix ≤ length row.prefix) rows
