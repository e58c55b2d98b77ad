-- Rows under distinct keys.
use Rattle.std.proofs.Common.{◌≡◌, ℕ, zero, suc, ◌+◌, ◌<◌, List, [], ◌∷◌, ◌++◌, length, get_or, Bool, true, false, not, filter, refl, sym, ap, ◌∙◌, arith, None}
use Rattle.gtt_table.specs.Adding.{add_refusal}
use Rattle.std.specs.Prelude.{◌==◌, ◌&&◌, ◌||◌, nat_eq}
use Rattle.std.specs.List.{list_any}
use Rattle.std.specs.Cmp.Lexicographic.{same_text}
use Rattle.std.proofs.lemmas.Bool.{eqb-true}
use Rattle.std.proofs.lemmas.List.Kept.{AllPairs-filter}
use Rattle.std.proofs.lemmas.List.Quantifiers.{all_pairs_push}
use lib.Pointwise.{pointwise}
use Rattle.sccp_address.specs.declared.address.Selector.{Selector}
use Rattle.gtt_table.specs.declared.row.Row.{Row}
use Rattle.gtt_table.specs.Rows.{is_same_selector, has_key, has_row, HasDistinctKeys, without}

neither : (a b : Bool) → (a || b) ≡ false → (a ≡ false) × (b ≡ false)
neither true true h = cc
neither true false h = cc
neither false true h = cc
neither false false h = (refl, refl)

pub both : (a b : Bool) → (a && b) ≡ true → (a ≡ true) × (b ≡ true)
both true true h = (refl, refl)
both true false h = cc
both false true h = cc
both false false h = cc

-- where no element passes, the test fails at each
pub fails_at : {X : Type 0} (test : X → Bool) (xs : List X) → list_any test xs ≡ false → (k : ℕ) (d : X) → k < length xs → test (get_or xs k d) ≡ false
fails_at test [] h k d below = absurd (omega (arith, below))
fails_at test (x ∷ xs) h zero d below = (neither (test x) (list_any test xs) h).0
fails_at test (x ∷ xs) h (suc k) d below = fails_at test xs ((neither (test x) (list_any test xs) h).1) k d (omega (arith, below))

pub HasDistinctKeys-push : (rows : List Row) (row : Row) → HasDistinctKeys rows → has_row row.selector row.prefix rows ≡ false → HasDistinctKeys (rows ++ row ∷ [])
HasDistinctKeys-push rows row h none =
    all_pairs_push (λ earlier later. has_key later.selector later.prefix earlier ≡ false) rows row h (fails_at (has_key row.selector row.prefix) rows none)

pub HasDistinctKeys-without : (selector : Selector) (prefix : List ℕ) (rows : List Row) → HasDistinctKeys rows → HasDistinctKeys (without selector prefix rows)
HasDistinctKeys-without selector prefix rows h =
    AllPairs-filter (λ earlier later. has_key later.selector later.prefix earlier ≡ false) (λ row. not (has_key selector prefix row)) rows h

-- One row alone stands under a key.

pub selector_same : (s t : Selector) → is_same_selector s t ≡ true → s ≡ t
selector_same s t h =
    let nai = both (s.gti == t.gti && s.tt == t.tt && s.np == t.np) (s.nai == t.nai) h in
    let np = both (s.gti == t.gti && s.tt == t.tt) (s.np == t.np) nai.0 in
    let type = both (s.gti == t.gti) (s.tt == t.tt) np.0 in
    ap (λ (n : ℕ). let u : Selector = record { gti = n; tt = s.tt; np = s.np; nai = s.nai } in u) (eqb-true s.gti t.gti type.0)
    ∙ ap (λ (n : ℕ). let u : Selector = record { gti = t.gti; tt = n; np = s.np; nai = s.nai } in u) (eqb-true s.tt t.tt type.1)
    ∙ ap (λ (n : ℕ). let u : Selector = record { gti = t.gti; tt = t.tt; np = n; nai = s.nai } in u) (eqb-true s.np t.np np.1)
    ∙ ap (λ (n : ℕ). let u : Selector = record { gti = t.gti; tt = t.tt; np = t.np; nai = n } in u) (eqb-true s.nai t.nai nai.1)

-- two rows under one key stand each under the other's
pub same_key : (selector : Selector) (prefix : List ℕ) (row later : Row) → has_key selector prefix row ≡ true → has_key selector prefix later ≡ true
    → has_key later.selector later.prefix row ≡ true
same_key selector prefix row later h e =
    let parts = both (is_same_selector later.selector selector) (pointwise nat_eq later.prefix prefix) e in
    ap (λ s. has_key s later.prefix row) (selector_same later.selector selector parts.0)
    ∙ ap (λ p. has_key selector p row) (same_text later.prefix prefix (sym parts.1)) ∙ h

-- a row under a key, and one that isn't under its key
pub other_key : (selector : Selector) (prefix : List ℕ) (row later : Row) → has_key selector prefix row ≡ true → has_key later.selector later.prefix row ≡ false
    → has_key selector prefix later ≡ false
other_key selector prefix row later h e = by_test (has_key selector prefix later) refl
  where
    by_test : (b : Bool) → has_key selector prefix later ≡ b → has_key selector prefix later ≡ false
    by_test true t = (let both_ways : true ≡ false = sym (same_key selector prefix row later h t) ∙ e in cc)
    by_test false t = t

none_out : {X : Type 0} (test : X → Bool) (xs : List X) → ((k : ℕ) (d : X) → k < length xs → test (get_or xs k d) ≡ false) → length (filter (λ x. not (test x)) xs) ≡ length xs
none_out test [] h = refl
none_out test (x ∷ xs) h = rw (h zero x (omega arith)) (ap suc (none_out test xs (λ k d below. h (suc k) d (omega (arith, below)))))

pub length-without : (selector : Selector) (prefix : List ℕ) (rows : List Row) → HasDistinctKeys rows → has_row selector prefix rows ≡ true
    → length (without selector prefix rows) + 1 ≡ length rows
length-without selector prefix [] h some = cc
length-without selector prefix (first ∷ rest) h some =
    by_first (λ more. length-without selector prefix rest (λ i j d before below. h (suc i) (suc j) d (omega (arith, before)) (omega (arith, below))) more) (has_key selector prefix first) refl
  where
    by_first : (has_row selector prefix rest ≡ true → length (without selector prefix rest) + 1 ≡ length rest) → (b : Bool) → has_key selector prefix first ≡ b
        → length (without selector prefix (first ∷ rest)) + 1 ≡ length (first ∷ rest)
    by_first later true e =
        rw e (let kept : length (without selector prefix rest) ≡ length rest = none_out (has_key selector prefix) rest
        (λ k d below. other_key selector prefix first (get_or rest k d) e (h zero (suc k) d (omega arith) (omega (arith, below)))) in omega (arith, kept))
    by_first later false e =
        let some_later : has_row selector prefix rest ≡ true = rw e at some in
        rw e (omega (arith, later some_later))

-- a row that isn't refused has a new key
pub new_key : (rows : List Row) (row : Row) → None ≡ add_refusal rows row → has_row row.selector row.prefix rows ≡ false
unfolding add_refusal
new_key rows row h = by_test (has_row row.selector row.prefix rows) refl
  where
    by_test : (b : Bool) → has_row row.selector row.prefix rows ≡ b → has_row row.selector row.prefix rows ≡ false
    by_test true e = (let duplicate = rw e at h in cc)
    by_test false e = e
