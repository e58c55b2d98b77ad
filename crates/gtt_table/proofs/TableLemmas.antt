-- The rows that are kept stay those that were added.
use Rattle.std.proofs.Common.{◌≡◌, ℕ, zero, suc, ◌<◌, ◌≤◌, List, [], ◌∷◌, ◌++◌, length, take, drop, get_or, true, false, refl, sym, ◌∙◌, arith, subst, inl, inr, take-append-drop, length-append, length-take, length-drop}
use Rattle.std.specs.declared.result.Result.{Result}
use Rattle.std.specs.Prelude.{Contains, MatchResult, is_ok}
use Rattle.std.specs.List.{HoldsAt, insert, remove}
use Rattle.std.specs.List.Sorted.{IsPartitionPoint, IsSearchInRange}
use Rattle.std.specs.declared.cmp.Ordering.TheVariants.{Less, Equal, Greater}
use Rattle.std.proofs.lemmas.List.Elements.{All-append, All-cons, All-drop, All-push, All-take, All-weaker, Contains-append_cases, Contains-append_left, Contains-append_right, Contains-get_or, Contains-push}
use Rattle.std.proofs.lemmas.List.Kept.{AllPairs-filter}
use Rattle.sccp_address.specs.declared.address.Selector.{Selector}
use Rattle.gtt_table.specs.declared.row.Row.{Row}
use Rattle.gtt_table.specs.Rows.{has_key, has_row, without}
use Rattle.gtt_table.specs.Inner.Order.{row_cmp, AreKept}
use Rattle.gtt_table.proofs.RowLemmas.{find-some}
use Rattle.gtt_table.proofs.KeyLemmas.{HasDistinctKeys-push, HasDistinctKeys-without, length-without}
use Rattle.gtt_table.proofs.KeptLemmas.{any_same, found_is, removed_is, without_of}
use Rattle.gtt_table.proofs.OrderLemmas.{ordered_distinct, ordered_insert, row_found}

inserted_has : {X : Type 0} (xs : List X) (at : ℕ) (y x : X) → Contains xs x → Contains (insert xs at y) x
inserted_has xs at y x c =
    elim (Contains-append_cases (take at xs) (drop at xs) x (rw (take-append-drop at xs) c)) [
      | inl front ↦ Contains-append_left (take at xs) (y ∷ drop at xs) x front
      | inr back ↦ Contains-append_right (take at xs) (y ∷ drop at xs) x (suc back.0, omega (arith, back.1), back.2)
    ]

-- what a search among the kept rows tells of those that were added
pub table_found : (selector : Selector) (prefix : List ℕ) (kept added : List Row) (r : Result ℕ ℕ) → AreKept kept added → IsSearchInRange r (length kept)
    → MatchResult r (HoldsAt (λ row. row_cmp selector prefix row ≡ Equal) kept)
    (IsPartitionPoint (λ row. row_cmp selector prefix row ≡ Less) (λ row. row_cmp selector prefix row ≡ Greater) kept)
    → is_ok r ≡ has_row selector prefix added
table_found selector prefix kept added r h range found =
    row_found selector prefix kept r range found ∙ any_same (has_key selector prefix) kept added h.were_added h.stay

pub kept_insert : (kept added : List Row) (at : ℕ) (row : Row) → AreKept kept added → at ≤ length kept → has_row row.selector row.prefix added ≡ false
    → IsPartitionPoint (λ x. row_cmp row.selector row.prefix x ≡ Less) (λ x. row_cmp row.selector row.prefix x ≡ Greater) kept at
    → AreKept (insert kept at row) (added ++ row ∷ [])
kept_insert kept added at row h within none parted =
    let there = All-weaker (Contains added) (Contains (added ++ row ∷ [])) (λ x c. Contains-append_left added (row ∷ []) x c) kept h.were_added in
    let front = length-take at kept in
    let back = length-drop at kept in
    record {
      ordered = ordered_insert kept at row h.ordered within parted;
      distinct = HasDistinctKeys-push added row h.distinct none;
      were_added = All-append (Contains (added ++ row ∷ [])) (take at kept) (row ∷ drop at kept) (All-take (Contains (added ++ row ∷ [])) at kept there)
          (All-cons (Contains (added ++ row ∷ [])) row (drop at kept) (Contains-push added row) (All-drop (Contains (added ++ row ∷ [])) at kept there));
      stay = All-push (Contains (insert kept at row)) added row
          (All-weaker (Contains kept) (Contains (insert kept at row)) (λ x c. inserted_has kept at row x c) added h.stay)
          (Contains-append_right (take at kept) (row ∷ drop at kept) row (zero, omega arith, refl));
      count = omega (arith, length-append (take at kept) (row ∷ drop at kept), length-append added (row ∷ []), front, back, within, h.count);
    }

pub kept_remove : (selector : Selector) (prefix : List ℕ) (kept added : List Row) (at : ℕ) (d : Row) → AreKept kept added → at < length kept
    → has_key selector prefix (get_or kept at d) ≡ true → AreKept (remove kept at) (without selector prefix added)
kept_remove selector prefix kept added at d h below key =
    let distinct = ordered_distinct kept h.ordered in
    let is = removed_is selector prefix kept at d distinct below key in
    let has : has_row selector prefix kept ≡ true =
    find-some (has_key selector prefix) kept (get_or kept at d) (found_is selector prefix kept (get_or kept at d) distinct (Contains-get_or kept at d below) key) in
    let had : has_row selector prefix added ≡ true = sym (any_same (has_key selector prefix) kept added h.were_added h.stay) ∙ has in
    subst (λ l. AreKept l (without selector prefix added)) (sym is) (record {
      ordered = AllPairs-filter (λ row later. row_cmp later.selector later.prefix row ≡ Less) _ kept h.ordered;
      distinct = HasDistinctKeys-without selector prefix added h.distinct;
      were_added = without_of selector prefix kept added h.were_added;
      stay = without_of selector prefix added kept h.stay;
      count = omega (arith, length-without selector prefix kept distinct has, length-without selector prefix added h.distinct had, h.count);
    })
