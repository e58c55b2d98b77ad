-- What the last row that doesn't stand behind digits tells of the rows whose prefix begins them.
use Rattle.std.proofs.Common.{◌≡◌, ℕ, zero, suc, ◌<◌, ◌≤◌, List, [], ◌∷◌, length, take, get_or, Bool, true, false, refl, sym, ap, ap₂, ◌∙◌, arith, leb, cond, Some, None, inl, inr}
use Rattle.std.specs.Prelude.{◌&&◌, nat_eq}
use Rattle.std.specs.List.{starts_with, common_prefix_len}
use Rattle.std.specs.List.Sorted.{IsPartitionPoint, IsPartitionedBy, IsNonDecreasingBy}
use Rattle.std.specs.Cmp.Lexicographic.{slice_cmp}
use Rattle.std.specs.declared.cmp.Ordering.{Ordering}
use Rattle.std.specs.declared.cmp.Ordering.TheVariants.{Less, Equal, Greater}
use Rattle.std.specs.Ordering.{nat_cmp, ordering_reverse, ordering_index, is_eq, is_le}
use Rattle.std.proofs.lemmas.Bool.Decides.{leb_tells}
use Rattle.std.proofs.lemmas.List.{get_or_default}
use Rattle.std.proofs.lemmas.List.Sorted.{IsPartitionedBy-leb}
use Rattle.sccp_address.specs.declared.address.Selector.{Selector}
use Rattle.gtt_table.specs.declared.row.Row.{Row}
use Rattle.gtt_table.specs.Rows.{is_same_selector, is_match}
use Rattle.gtt_table.specs.Translation.{longer, longest_match}
use Rattle.gtt_table.specs.Inner.Order.{selector_cmp, row_cmp, IsOrdered}
use Rattle.gtt_table.proofs.KeyLemmas.{both, selector_same}
use Rattle.gtt_table.proofs.KeptLemmas.{longest_is, no_match}
use Rattle.gtt_table.proofs.OrderLemmas.{ordered_distinct, same_selector, selector_total, tied_row}
use Rattle.gtt_table.proofs.PrefixLemmas.{tied, first_upto, then_upto, prefix_upto, between_shares, whole_starts, starts_cut, starts_short}

tied_selectors : (s t : Selector) → is_same_selector s t ≡ true → selector_cmp s t ≡ Equal
tied_selectors s t h = tied (selector_cmp s t) (sym (same_selector s t) ∙ h)

tied_between : (o p : Ordering) → o ≡ ordering_reverse p → is_le o ≡ true → is_le p ≡ true → p ≡ Equal
tied_between o Less h low high = cc
tied_between o Equal h low high = refl
tied_between o Greater h low high = cc

-- no match stands behind the digits
match_upto : (selector : Selector) (digits : List ℕ) (row : Row) → is_match selector digits row ≡ true → is_le (row_cmp selector digits row) ≡ true
match_upto selector digits row h =
    let parts = both (is_same_selector row.selector selector) (starts_with nat_eq digits row.prefix) h in
    rw (tied_selectors row.selector selector parts.0) (prefix_upto row.prefix digits parts.1)

-- what stands between a match and the digits has the selector, and shares with the digits all of the match's prefix
abbrev Shares : Selector → List ℕ → Row → Row → Type 0
Shares selector digits last row = (is_same_selector last.selector selector ≡ true) × (length row.prefix ≤ common_prefix_len nat_eq last.prefix digits)

match_shares : (selector : Selector) (digits : List ℕ) (row last : Row) → is_match selector digits row ≡ true → is_le (row_cmp last.selector last.prefix row) ≡ true
    → is_le (row_cmp selector digits last) ≡ true → Shares selector digits last row
match_shares selector digits row last h low high =
    let parts = both (is_same_selector row.selector selector) (starts_with nat_eq digits row.prefix) h in
    let own : row.selector ≡ selector = selector_same row.selector selector parts.0 in
    let above : is_le (selector_cmp selector last.selector) ≡ true =
    ap (λ s. is_le (selector_cmp s last.selector)) (sym own) ∙ first_upto (selector_cmp row.selector last.selector) (slice_cmp nat_cmp row.prefix last.prefix) low in
    let below : is_le (selector_cmp last.selector selector) ≡ true = first_upto (selector_cmp last.selector selector) (slice_cmp nat_cmp last.prefix digits) high in
    let turned : selector_cmp selector last.selector ≡ ordering_reverse (selector_cmp last.selector selector) = selector_total.antisymm selector last.selector in
    let same : selector_cmp last.selector selector ≡ Equal =
    tied_between (selector_cmp selector last.selector) (selector_cmp last.selector selector) turned above below in
    let same_row : selector_cmp row.selector last.selector ≡ Equal = ap (λ s. selector_cmp s last.selector) own ∙ turned ∙ ap ordering_reverse same in (
      same_selector last.selector selector ∙ ap is_eq same,
      between_shares row.prefix last.prefix digits parts.1
          (then_upto (selector_cmp row.selector last.selector) (slice_cmp nat_cmp row.prefix last.prefix) same_row low)
          (then_upto (selector_cmp last.selector selector) (slice_cmp nat_cmp last.prefix digits) same high),
    )

-- so many rows don't stand behind the digits
abbrev pub AreUpto : Selector → List ℕ → List Row → ℕ → Type 0
AreUpto selector digits rows upto =
    IsPartitionPoint (λ row. is_le (row_cmp selector digits row) ≡ true) (λ row. is_le (row_cmp selector digits row) ≡ false) rows upto

behind : (selector : Selector) (digits : List ℕ) (row : Row) → is_le (row_cmp selector digits row) ≡ false → is_match selector digits row ≡ false
behind selector digits row e = by_test (is_match selector digits row) refl
  where
    by_test : (b : Bool) → is_match selector digits row ≡ b → is_match selector digits row ≡ false
    by_test true h = (let no : true ≡ false = sym (match_upto selector digits row h) ∙ e in cc)
    by_test false h = h

ordered_upto : (rows : List Row) (n k : ℕ) (last : Row) → IsOrdered rows → n < length rows → k ≤ n → last ≡ get_or rows n last
    → is_le (row_cmp last.selector last.prefix (get_or rows k last)) ≡ true
ordered_upto rows n k last order inside below at = elim (leb_tells (suc k) n) [
  | inl t ↦ ap (λ (x : Row). is_le (row_cmp x.selector x.prefix (get_or rows k last))) at ∙ ap is_le (order k n last t.1 inside)
  | inr f ↦ (let same : k ≡ n = omega (arith, below, f.1) in
      ap (λ j. is_le (row_cmp last.selector last.prefix (get_or rows j last))) same ∙ ap (λ x. is_le (row_cmp last.selector last.prefix x)) (sym at) ∙ ap is_le (tied_row last))
]

-- a match among rows in order, and the last of them that doesn't stand behind the digits
shares_at : (selector : Selector) (digits : List ℕ) (rows : List Row) (n : ℕ) (last : Row) → IsOrdered rows → n < length rows → AreUpto selector digits rows (suc n)
    → last ≡ get_or rows n last → (k : ℕ) (d : Row) → k < length rows → is_match selector digits (get_or rows k d) ≡ true → Shares selector digits last (get_or rows k d)
shares_at selector digits rows n last order inside parted at k d within h = elim (leb_tells k n) [
  | inl t ↦ (let is = get_or_default rows k d last within in
      match_shares selector digits (get_or rows k d) last h
      (ap (λ x. is_le (row_cmp last.selector last.prefix x)) is ∙ ordered_upto rows n k last order inside t.1 at)
      (ap (λ x. is_le (row_cmp selector digits x)) at ∙ parted.0 n last (omega arith) (omega arith)))
  | inr f ↦ (let no : true ≡ false = sym h ∙ behind selector digits (get_or rows k d) (parted.1 k d (omega (arith, f.1)) within) in cc)
]

-- where all rows stand behind the digits there is no match
pub none_upto : (selector : Selector) (digits : List ℕ) (rows : List Row) → AreUpto selector digits rows zero → longest_match selector digits rows ≡ None
none_upto selector digits rows parted = no_match selector digits rows (λ k d within. behind selector digits (get_or rows k d) (parted.1 k d (omega arith) within))

-- nor where the last row that doesn't has another selector
pub other_upto : (selector : Selector) (digits : List ℕ) (rows : List Row) (n : ℕ) (last : Row) → IsOrdered rows → n < length rows → AreUpto selector digits rows (suc n)
    → last ≡ get_or rows n last → is_same_selector last.selector selector ≡ false → longest_match selector digits rows ≡ None
other_upto selector digits rows n last order inside parted at other = no_match selector digits rows (λ k d within. by_test k d within (is_match selector digits (get_or rows k d)) refl)
  where
    by_test : (k : ℕ) (d : Row) → k < length rows → (b : Bool) → is_match selector digits (get_or rows k d) ≡ b → is_match selector digits (get_or rows k d) ≡ false
    by_test k d within true h = (let no : true ≡ false = sym (shares_at selector digits rows n last order inside parted at k d within h).0 ∙ other in cc)
    by_test k d within false h = h

-- it is the longest match where its prefix begins the digits
pub last_upto : (selector : Selector) (digits : List ℕ) (rows : List Row) (n : ℕ) (last : Row) → IsOrdered rows → n < length rows → AreUpto selector digits rows (suc n)
    → last ≡ get_or rows n last → is_same_selector last.selector selector ≡ true → common_prefix_len nat_eq last.prefix digits ≡ length last.prefix
    → longest_match selector digits rows ≡ Some last
last_upto selector digits rows n last order inside parted at same whole =
    longest_is selector digits rows last (ordered_distinct rows order) (n, inside, sym at)
    (ap₂ (λ a b. a && b) same (whole_starts last.prefix digits whole))
    (λ k d within h. omega (arith, (shares_at selector digits rows n last order inside parted at k d within h).1, whole))

-- the matches of digits among the first rows match fewer digits too, and no other row matches
matched_alike : (selector : Selector) (digits fewer : List ℕ) (rows : List Row) (n : ℕ)
    → IsPartitionPoint (λ row. is_match selector digits row ≡ is_match selector fewer row) (λ row. is_match selector digits row ≡ false) rows n
    → longest_match selector digits rows ≡ longest_match selector fewer (take n rows)
matched_alike selector digits fewer rows zero h = no_match selector digits rows (λ k d within. h.1 k d (omega arith) within)
matched_alike selector digits fewer [] (suc n) h = refl
matched_alike selector digits fewer (row ∷ rows) (suc n) h =
    ap₂ (λ b o. longer (cond b (Some row) None) o) (h.0 zero row (omega arith) (omega arith))
    (matched_alike selector digits fewer rows n
    ((λ k d low below. h.0 (suc k) d (omega arith) (omega (arith, below))), (λ k d low below. h.1 (suc k) d (omega (arith, low)) (omega (arith, below)))))

-- where it shares a part of the digits alone, the longest match is that of what it shares, among the rows before it
pub shared_upto : (selector : Selector) (digits : List ℕ) (rows : List Row) (n : ℕ) (last : Row) → IsOrdered rows → n < length rows → AreUpto selector digits rows (suc n)
    → last ≡ get_or rows n last → common_prefix_len nat_eq last.prefix digits < length last.prefix
    → longest_match selector digits rows ≡ longest_match selector (take (common_prefix_len nat_eq last.prefix digits) digits) (take n rows)
shared_upto selector digits rows n last order inside parted at part =
    matched_alike selector digits (take shared digits) rows n
    ((λ k d low below. alike k d (omega (arith, below, inside))), (λ k d low within. unmatched k d within low (is_match selector digits (get_or rows k d)) refl))
  where
    shared : ℕ
    shared = common_prefix_len nat_eq last.prefix digits

    longer_prefix : (k : ℕ) (d : Row) → k < length rows → shared < length (get_or rows k d).prefix → (b : Bool) → is_match selector digits (get_or rows k d) ≡ b
        → (b' : Bool) → is_match selector (take shared digits) (get_or rows k d) ≡ b' → is_match selector digits (get_or rows k d) ≡ is_match selector (take shared digits) (get_or rows k d)
    longer_prefix k d within long true h b' h' = absurd (omega (arith, long, (shares_at selector digits rows n last order inside parted at k d within h).1))
    longer_prefix k d within long false h true h' =
        absurd (omega (arith, long, starts_short (get_or rows k d).prefix digits shared (both (is_same_selector (get_or rows k d).selector selector) _ h').1))
    longer_prefix k d within long false h false h' = h ∙ sym h'

    alike : (k : ℕ) (d : Row) → k < length rows → is_match selector digits (get_or rows k d) ≡ is_match selector (take shared digits) (get_or rows k d)
    alike k d within = elim (leb_tells (length (get_or rows k d).prefix) shared) [
      | inl t ↦ ap (λ b. is_same_selector (get_or rows k d).selector selector && b) (starts_cut (get_or rows k d).prefix digits shared t.1)
      | inr f ↦ longer_prefix k d within f.1 (is_match selector digits (get_or rows k d)) refl (is_match selector (take shared digits) (get_or rows k d)) refl
    ]

    unmatched : (k : ℕ) (d : Row) → k < length rows → n ≤ k → (b : Bool) → is_match selector digits (get_or rows k d) ≡ b → is_match selector digits (get_or rows k d) ≡ false
    unmatched k d within low true h = elim (leb_tells (suc k) (suc n)) [
      | inl t ↦ (let same : k ≡ n = omega (arith, low, t.1) in
          let is : get_or rows k d ≡ last = ap (λ j. get_or rows j d) same ∙ get_or_default rows n d last inside ∙ sym at in
          absurd (omega (arith, part, ap (λ (x : Row). length x.prefix) is, (shares_at selector digits rows n last order inside parted at k d within h).1)))
      | inr f ↦ behind selector digits (get_or rows k d) (parted.1 k d (omega (arith, f.1)) within)
    ]
    unmatched k d within low false h = h

is_le_index : (o : Ordering) → is_le o ≡ leb (ordering_index o) 1
is_le_index Less = refl
is_le_index Equal = refl
is_le_index Greater = refl

-- what a search among rows in order asks of the test
pub parted_upto : (selector : Selector) (digits : List ℕ) (rows : List Row) → IsNonDecreasingBy (λ row. ordering_index (row_cmp selector digits row)) rows
    → IsPartitionedBy (λ row. is_le (row_cmp selector digits row)) rows
parted_upto selector digits rows rises = λ i j d low below up.
    is_le_index (row_cmp selector digits (get_or rows i d))
    ∙ IsPartitionedBy-leb (λ row. ordering_index (row_cmp selector digits row)) rows 1 rises i j d low below (sym (is_le_index (row_cmp selector digits (get_or rows j d))) ∙ up)
