-- What the order of the rows tells of a search among them.
use Rattle.std.proofs.Common.{◌≡◌, ℕ, zero, suc, ◌+◌, ◌<◌, ◌≤◌, List, [], ◌∷◌, ◌++◌, length, take, drop, get_or, Bool, true, false, All, refl, sym, ap, ap₂, ◌∙◌, arith, Ok, Err, inl, inr}
use Rattle.std.specs.Prelude.{◌==◌, ◌&&◌, nat_eq, AllPairs, MatchResult, is_ok}
use Rattle.std.specs.List.{list_any, HoldsAt, insert}
use Rattle.std.specs.List.Sorted.{IsNonDecreasingBy, IsPartitionPoint, IsSearchInRange}
use Rattle.std.specs.declared.result.Result.{Result}
use Rattle.std.specs.Cmp.{IsTotalOrder}
use Rattle.std.specs.Cmp.Lexicographic.{slice_cmp}
use Rattle.std.specs.declared.cmp.Ordering.{Ordering}
use Rattle.std.specs.declared.cmp.Ordering.TheVariants.{Less, Equal, Greater}
use Rattle.std.specs.Ordering.{nat_cmp, ordering_then, ordering_reverse, ordering_index, is_lt, is_eq}
use Rattle.std.proofs.lemmas.Cmp.{nat_cmp_total, nat_list_cmp_total, then_total, on_total, tied_itself}
use Rattle.std.proofs.lemmas.List.Sorted.{searchable_from_sorted}
use Rattle.std.proofs.lemmas.Bool.Decides.{leb_tells}
use Rattle.std.proofs.lemmas.List.Elements.{All-head, All-tail, All-cons, All-append, All-take, All-weaker}
use Rattle.std.proofs.lemmas.List.Kept.{AllPairs-cons}
use lib.Pointwise.{pointwise}
use Rattle.sccp_address.specs.declared.address.Selector.{Selector}
use Rattle.gtt_table.specs.declared.row.Row.{Row}
use Rattle.gtt_table.specs.Rows.{is_same_selector, has_key, has_row, HasDistinctKeys}
use Rattle.gtt_table.specs.Translation.{has_selector}
use Rattle.gtt_table.specs.Inner.Order.{selector_cmp, row_cmp, IsOrdered}
use Rattle.gtt_table.proofs.KeptLemmas.{none_any, some_any}

pub same_number : (a b : ℕ) → (a == b) ≡ is_eq (nat_cmp a b)
same_number a b = grind arith

same_both : (o p : Ordering) → (is_eq o && is_eq p) ≡ is_eq (ordering_then o p)
same_both Less Less = refl
same_both Less Equal = refl
same_both Less Greater = refl
same_both Equal p = refl
same_both Greater Less = refl
same_both Greater Equal = refl
same_both Greater Greater = refl

same_list : (xs ys : List ℕ) → pointwise nat_eq xs ys ≡ is_eq (slice_cmp nat_cmp xs ys)
same_list [] [] = refl
same_list [] (y ∷ ys) = refl
same_list (x ∷ xs) [] = refl
same_list (x ∷ xs) (y ∷ ys) = ap₂ (λ a b. a && b) (same_number x y) (same_list xs ys) ∙ same_both (nat_cmp x y) (slice_cmp nat_cmp xs ys)

pub same_selector : (s t : Selector) → is_same_selector s t ≡ is_eq (selector_cmp s t)
same_selector s t =
    ap₂ (λ a b. a && b)
    (ap₂ (λ a b. a && b) (ap₂ (λ a b. a && b) (same_number s.gti t.gti) (same_number s.tt t.tt) ∙ same_both (nat_cmp s.gti t.gti) (nat_cmp s.tt t.tt)) (same_number s.np t.np)
    ∙ same_both (ordering_then (nat_cmp s.gti t.gti) (nat_cmp s.tt t.tt)) (nat_cmp s.np t.np))
    (same_number s.nai t.nai)
    ∙ same_both (ordering_then (ordering_then (nat_cmp s.gti t.gti) (nat_cmp s.tt t.tt)) (nat_cmp s.np t.np)) (nat_cmp s.nai t.nai)

pub same_key_cmp : (selector : Selector) (prefix : List ℕ) (row : Row) → has_key selector prefix row ≡ is_eq (row_cmp selector prefix row)
same_key_cmp selector prefix row =
    ap₂ (λ a b. a && b) (same_selector row.selector selector) (same_list row.prefix prefix)
    ∙ same_both (selector_cmp row.selector selector) (slice_cmp nat_cmp row.prefix prefix)

pub selector_total : IsTotalOrder selector_cmp
selector_total =
    then_total (then_total (then_total (on_total (λ (s : Selector). s.gti) nat_cmp_total) (on_total (λ (s : Selector). s.tt) nat_cmp_total))
    (on_total (λ (s : Selector). s.np) nat_cmp_total)) (on_total (λ (s : Selector). s.nai) nat_cmp_total)

key_cmp : Selector × List ℕ → Selector × List ℕ → Ordering
key_cmp x y = ordering_then (selector_cmp x.0 y.0) (slice_cmp nat_cmp x.1 y.1)

key_of : Row → Selector × List ℕ
key_of row = (row.selector, row.prefix)

key_total : IsTotalOrder key_cmp
unfolding key_cmp
key_total = then_total (on_total (λ (k : Selector × List ℕ). k.0) selector_total) (on_total (λ (k : Selector × List ℕ). k.1) nat_list_cmp_total)

pub tied_row : (row : Row) → row_cmp row.selector row.prefix row ≡ Equal
unfolding key_cmp key_of key_total
tied_row row = tied_itself key_total (key_of row)

not_less : (o p : Ordering) → o ≡ ordering_reverse p → p ≡ Less → is_lt o ≡ false
not_less o p h e = rw (h, e) refl

pub searchable : (selector : Selector) (prefix : List ℕ) (rows : List Row) → IsOrdered rows → IsNonDecreasingBy (λ row. ordering_index (row_cmp selector prefix row)) rows
unfolding key_cmp key_of key_total
searchable selector prefix rows h =
    searchable_from_sorted key_total key_of rows (selector, prefix)
    (λ k d low below. not_less _ _ (key_total.antisymm (key_of (get_or rows (k + 1) d)) (key_of (get_or rows k d))) (h k (k + 1) d (omega arith) below))

first_rises : (o p : Ordering) (q : Ordering) → q ≡ ordering_reverse o → ordering_then o p ≡ Less → is_lt q ≡ false
first_rises Less p q h e = rw h refl
first_rises Equal p q h e = rw h refl
first_rises Greater p q h e = cc

pub selector_searchable : (selector : Selector) (rows : List Row) → IsOrdered rows → IsNonDecreasingBy (λ row. ordering_index (selector_cmp row.selector selector)) rows
unfolding selector_total
selector_searchable selector rows h =
    searchable_from_sorted selector_total (λ (row : Row). row.selector) rows selector
    (λ k d low below.
    first_rises (selector_cmp (get_or rows k d).selector (get_or rows (k + 1) d).selector) (slice_cmp nat_cmp (get_or rows k d).prefix (get_or rows (k + 1) d).prefix) _
    (selector_total.antisymm (get_or rows (k + 1) d).selector (get_or rows k d).selector) (h k (k + 1) d (omega arith) below))

-- rows that are in order have distinct keys
pub ordered_distinct : (rows : List Row) → IsOrdered rows → HasDistinctKeys rows
ordered_distinct rows h = λ i j d before below. same_key_cmp (get_or rows j d).selector (get_or rows j d).prefix (get_or rows i d) ∙ ap is_eq (h i j d before below)

-- a search that found no row under a key
pub none_between : (selector : Selector) (prefix : List ℕ) (rows : List Row) (at : ℕ)
    → IsPartitionPoint (λ row. row_cmp selector prefix row ≡ Less) (λ row. row_cmp selector prefix row ≡ Greater) rows at → All (λ row. has_key selector prefix row ≡ false) rows
none_between selector prefix rows at h = λ k d below. same_key_cmp selector prefix (get_or rows k d) ∙ elim (leb_tells (suc k) at) [
  | inl t ↦ ap is_eq (h.0 k d (omega arith) t.1)
  | inr f ↦ ap is_eq (h.1 k d (omega (arith, f.1)) below)
]

pub none_of_selector : (selector : Selector) (rows : List Row) (at : ℕ)
    → IsPartitionPoint (λ row. selector_cmp row.selector selector ≡ Less) (λ row. selector_cmp row.selector selector ≡ Greater) rows at
    → All (λ row. is_same_selector row.selector selector ≡ false) rows
none_of_selector selector rows at h = λ k d below. same_selector (get_or rows k d).selector selector ∙ elim (leb_tells (suc k) at) [
  | inl t ↦ ap is_eq (h.0 k d (omega arith) t.1)
  | inr f ↦ ap is_eq (h.1 k d (omega (arith, f.1)) below)
]

pairs_append : {X : Type 0} (R : X → X → Type 0) (xs ys : List X) → AllPairs R xs → AllPairs R ys → All (λ x. All (R x) ys) xs → AllPairs R (xs ++ ys)
pairs_append R [] ys h k between = k
pairs_append R (x ∷ xs) ys h k between =
    AllPairs-cons R x (xs ++ ys) (All-append (R x) xs ys (λ j d below. h 0 (suc j) d (omega arith) (omega (arith, below))) (All-head (λ x. All (R x) ys) x xs between))
    (pairs_append R xs ys (λ i j d before below. h (suc i) (suc j) d (omega (arith, before)) (omega (arith, below))) k (All-tail (λ x. All (R x) ys) x xs between))

pairs_take : {X : Type 0} (R : X → X → Type 0) (n : ℕ) (xs : List X) → AllPairs R xs → AllPairs R (take n xs)
pairs_take R zero xs h = λ i j d before below. absurd (omega (arith, below))
pairs_take R (suc n) [] h = h
pairs_take R (suc n) (x ∷ xs) h =
    AllPairs-cons R x (take n xs) (All-take (R x) n xs (λ j d below. h 0 (suc j) d (omega arith) (omega (arith, below))))
    (pairs_take R n xs (λ i j d before below. h (suc i) (suc j) d (omega (arith, before)) (omega (arith, below))))

pairs_drop : {X : Type 0} (R : X → X → Type 0) (n : ℕ) (xs : List X) → AllPairs R xs → AllPairs R (drop n xs)
pairs_drop R zero xs h = h
pairs_drop R (suc n) [] h = h
pairs_drop R (suc n) (x ∷ xs) h = pairs_drop R n xs (λ i j d before below. h (suc i) (suc j) d (omega (arith, before)) (omega (arith, below)))

parted_front : {X : Type 0} (P Q : X → Type 0) (xs : List X) (at : ℕ) → IsPartitionPoint P Q xs at → All P (take at xs)
parted_front P Q xs zero h = λ k d below. absurd (omega (arith, below))
parted_front P Q [] (suc at) h = λ k d below. absurd (omega (arith, below))
parted_front P Q (x ∷ xs) (suc at) h =
    All-cons P x (take at xs) (h.0 0 x (omega arith) (omega arith))
    (parted_front P Q xs at ((λ k d low below. h.0 (suc k) d (omega arith) (omega (arith, below))), (λ k d low below. h.1 (suc k) d (omega (arith, low)) (omega (arith, below)))))

parted_back : {X : Type 0} (P Q : X → Type 0) (xs : List X) (at : ℕ) → IsPartitionPoint P Q xs at → All Q (drop at xs)
parted_back P Q xs zero h = λ k d below. h.1 k d (omega arith) below
parted_back P Q [] (suc at) h = λ k d below. absurd (omega (arith, below))
parted_back P Q (x ∷ xs) (suc at) h =
    parted_back P Q xs at ((λ k d low below. h.0 (suc k) d (omega arith) (omega (arith, below))), (λ k d low below. h.1 (suc k) d (omega (arith, low)) (omega (arith, below))))

less_back : (o p : Ordering) → o ≡ ordering_reverse p → p ≡ Greater → o ≡ Less
less_back o p h e = rw (h, e) refl

-- a row that comes to its place
pub ordered_insert : (rows : List Row) (at : ℕ) (row : Row) → IsOrdered rows → at ≤ length rows
    → IsPartitionPoint (λ x. row_cmp row.selector row.prefix x ≡ Less) (λ x. row_cmp row.selector row.prefix x ≡ Greater) rows at → IsOrdered (insert rows at row)
unfolding key_cmp key_of key_total
ordered_insert rows at row h within parted =
    let R : Row → Row → Type 0 = λ a b. row_cmp b.selector b.prefix a ≡ Less in
    let first : All (λ a. R a row) (take at rows) = parted_front (λ a. R a row) (λ x. row_cmp row.selector row.prefix x ≡ Greater) rows at parted in
    let behind : All (λ x. row_cmp row.selector row.prefix x ≡ Greater) (drop at rows) =
    parted_back (λ a. R a row) (λ x. row_cmp row.selector row.prefix x ≡ Greater) rows at parted in
    let last : All (R row) (drop at rows) =
    All-weaker (λ (x : Row). row_cmp row.selector row.prefix x ≡ Greater) (R row) (λ x e. less_back _ _ (key_total.antisymm (key_of row) (key_of x)) e) (drop at rows) behind in
    pairs_append R (take at rows) (row ∷ drop at rows) (pairs_take R at rows h) (AllPairs-cons R row (drop at rows) last (pairs_drop R at rows h))
    (λ k d below. All-cons (R (get_or (take at rows) k d)) row (drop at rows) (first k d below)
    (λ j e within. key_total.trans (key_of (get_or (take at rows) k d)) (key_of row) (key_of (get_or (drop at rows) j e)) (first k d below) (last j e within)))

pub with_order : {A : Type 0} (P Q : ℕ → Type 0) (r : Result ℕ ℕ) → MatchResult r P (λ i. A → Q i) → A → MatchResult r P Q
with_order P Q (Ok at) h order = h
with_order P Q (Err at) h order = h order

holds_any : (test : Row → Bool) (rows : List Row) (at : ℕ) → at < length rows → ((d : Row) → test (get_or rows at d) ≡ true) → list_any test rows ≡ true
holds_any test [] at below h = absurd (omega (arith, below))
holds_any test (x ∷ rows) at below h = some_any test (x ∷ rows) at x below (h x)

pub selector_found : (selector : Selector) (rows : List Row) (r : Result ℕ ℕ) → IsSearchInRange r (length rows)
    → MatchResult r (HoldsAt (λ row. selector_cmp row.selector selector ≡ Equal) rows)
    (IsPartitionPoint (λ row. selector_cmp row.selector selector ≡ Less) (λ row. selector_cmp row.selector selector ≡ Greater) rows)
    → is_ok r ≡ has_selector selector rows
selector_found selector rows (Ok at) below h =
    sym (holds_any (λ row. is_same_selector row.selector selector) rows at below (λ d. same_selector (get_or rows at d).selector selector ∙ ap is_eq (h d)))
selector_found selector rows (Err at) below h = sym (none_any (λ row. is_same_selector row.selector selector) rows (none_of_selector selector rows at h))

pub row_found : (selector : Selector) (prefix : List ℕ) (rows : List Row) (r : Result ℕ ℕ) → IsSearchInRange r (length rows)
    → MatchResult r (HoldsAt (λ row. row_cmp selector prefix row ≡ Equal) rows)
    (IsPartitionPoint (λ row. row_cmp selector prefix row ≡ Less) (λ row. row_cmp selector prefix row ≡ Greater) rows)
    → is_ok r ≡ has_row selector prefix rows
row_found selector prefix rows (Ok at) below h =
    sym (holds_any (has_key selector prefix) rows at below (λ d. same_key_cmp selector prefix (get_or rows at d) ∙ ap is_eq (h d)))
row_found selector prefix rows (Err at) below h = sym (none_any (has_key selector prefix) rows (none_between selector prefix rows at h))
