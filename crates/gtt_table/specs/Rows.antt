-- The rows of the translation (Q.714, 2.4) as a list, in the order in which they were added.
use Rattle.std.specs.Prelude.{ℕ, ◌≡◌, ◌==◌, ◌&&◌, nat_eq, not, Bool, false, List, filter, AllPairs}
use Rattle.std.specs.List.{list_any, starts_with}
use lib.Pointwise.{pointwise}
use Rattle.sccp_address.specs.declared.address.Selector.{Selector}
use Rattle.gtt_table.specs.declared.row.Row.{Row}

-- what a table holds: its rows, and how many more can be added without memory
pub record Rows : Type 0 where
  pub rows : List Row
  pub room : ℕ

abbrev pub is_same_selector : Selector → Selector → Bool
is_same_selector s t = s.gti == t.gti && s.tt == t.tt && s.np == t.np && s.nai == t.nai

-- the row stands under this selector and this prefix
abbrev pub has_key : Selector → List ℕ → Row → Bool
has_key selector prefix row = is_same_selector row.selector selector && pointwise nat_eq row.prefix prefix

abbrev pub has_row : Selector → List ℕ → List Row → Bool
has_row selector prefix rows = list_any (has_key selector prefix) rows

-- no two rows stand under one selector and one prefix
abbrev pub HasDistinctKeys : List Row → Type 0
HasDistinctKeys rows = AllPairs (λ row later. has_key later.selector later.prefix row ≡ false) rows

-- the rows under any other key
abbrev pub without : Selector → List ℕ → List Row → List Row
without selector prefix rows = filter (λ row. not (has_key selector prefix row)) rows

-- the row is of this selector, and its prefix begins these digits
abbrev pub is_match : Selector → List ℕ → Row → Bool
is_match selector digits row = is_same_selector row.selector selector && starts_with nat_eq digits row.prefix
