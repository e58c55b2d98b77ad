-- The order in which the rows are kept, and what ties it to the order in which they were added.
use Rattle.std.specs.Prelude.{◌≡◌, ℕ, List, length, All, AllPairs, Contains}
use Rattle.std.specs.declared.cmp.Ordering.{Ordering}
use Rattle.std.specs.declared.cmp.Ordering.TheVariants.{Less}
use Rattle.std.specs.Ordering.{nat_cmp, ordering_then}
use Rattle.std.specs.Cmp.Lexicographic.{slice_cmp}
use Rattle.sccp_address.specs.declared.address.Selector.{Selector}
use Rattle.gtt_table.specs.declared.row.Row.{Row}
use Rattle.gtt_table.specs.Rows.{HasDistinctKeys}

abbrev pub selector_cmp : Selector → Selector → Ordering
selector_cmp s t =
    let types = ordering_then (nat_cmp s.gti t.gti) (nat_cmp s.tt t.tt) in
    ordering_then (ordering_then types (nat_cmp s.np t.np)) (nat_cmp s.nai t.nai)

-- where a row stands to a selector and a prefix
abbrev pub row_cmp : Selector → List ℕ → Row → Ordering
row_cmp selector prefix row =
    ordering_then (selector_cmp row.selector selector) (slice_cmp nat_cmp row.prefix prefix)

-- each row stands before all later ones
abbrev pub IsOrdered : List Row → Type 0
IsOrdered rows = AllPairs (λ row later. row_cmp later.selector later.prefix row ≡ Less) rows

-- the rows that are kept are those that were added
pub record AreKept (kept added : List Row) : Type 0 where
  pub ordered : IsOrdered kept
  pub distinct : HasDistinctKeys added
  pub were_added : All (Contains added) kept
  pub stay : All (Contains kept) added
  pub count : length kept ≡ length added
