-- Lists of the same rows under distinct keys answer alike, in whatever order they are.
use Rattle.std.proofs.Common.{◌≡◌, ℕ, zero, suc, ◌<◌, ◌≤◌, List, [], ◌∷◌, length, take, get_or, Bool, true, false, not, find, filter, All, refl, sym, ap, ap₂, ◌∙◌, arith, subst, cond, Option, None, Some, inl, inr}
use Rattle.std.specs.Prelude.{◌&&◌, ◌||◌, nat_eq, Contains}
use Rattle.std.specs.List.{list_any, starts_with, remove}
use Rattle.std.specs.Cmp.Lexicographic.{same_text}
use Rattle.std.proofs.lemmas.Bool.Decides.{leb_tells}
use Rattle.std.proofs.lemmas.Cmp.{nat_list_eq_equiv}
use Rattle.std.proofs.lemmas.List.{get_or_default}
use Rattle.std.proofs.lemmas.List.Elements.{All-contains, All-head, All-tail, All-filter, filter_passes}
use Rattle.sccp_address.specs.declared.address.Selector.{Selector}
use Rattle.gtt_table.specs.declared.row.Row.{Row}
use Rattle.gtt_table.specs.Rows.{is_same_selector, has_key, is_match, HasDistinctKeys, without}
use Rattle.gtt_table.specs.Translation.{longest_match, has_selector}
use Rattle.gtt_table.proofs.RowLemmas.{find-none}
use Rattle.gtt_table.proofs.KeyLemmas.{same_key, other_key, fails_at, both}
use Rattle.gtt_table.proofs.LongestLemmas.{longest_match-longest, IsBest, IsBest-longest_match}

pub carried : {X : Type 0} (P : X → Type 0) (xs ys : List X) → All (Contains ys) xs → All P ys → All P xs
carried P xs ys sub h = λ k d below. All-contains P ys (get_or xs k d) h (sub k d below)

pub none_any : {X : Type 0} (test : X → Bool) (xs : List X) → All (λ x. test x ≡ false) xs → list_any test xs ≡ false
none_any test [] h = refl
none_any test (x ∷ xs) h = rw (All-head (λ x. test x ≡ false) x xs h) (none_any test xs (All-tail (λ x. test x ≡ false) x xs h))

pub none_found : {X : Type 0} (test : X → Bool) (xs : List X) → All (λ x. test x ≡ false) xs → find test xs ≡ None
none_found test [] h = refl
none_found test (x ∷ xs) h = rw (All-head (λ x. test x ≡ false) x xs h) (none_found test xs (All-tail (λ x. test x ≡ false) x xs h))

pub any_same : {X : Type 0} (test : X → Bool) (xs ys : List X) → All (Contains ys) xs → All (Contains xs) ys → list_any test xs ≡ list_any test ys
any_same test xs ys sub sup = by_test (list_any test xs) refl (list_any test ys) refl
  where
    by_test : (b : Bool) → list_any test xs ≡ b → (b' : Bool) → list_any test ys ≡ b' → list_any test xs ≡ list_any test ys
    by_test true e true e' = e ∙ sym e'
    by_test false e false e' = e ∙ sym e'
    by_test true e false e' = (let none : true ≡ false = sym e ∙ none_any test xs (carried (λ x. test x ≡ false) xs ys sub (fails_at test ys e')) in cc)
    by_test false e true e' = (let none : true ≡ false = sym e' ∙ none_any test ys (carried (λ x. test x ≡ false) ys xs sup (fails_at test xs e)) in cc)

-- what is found is there, and passes
pub found_there : {X : Type 0} (test : X → Bool) (xs : List X) (y : X) → find test xs ≡ Some y → Contains xs y × (test y ≡ true)
found_there test [] y h = cc
found_there test (x ∷ xs) y h = by_test (found_there test xs y) (test x) refl
  where
    by_test : (find test xs ≡ Some y → Contains xs y × (test y ≡ true)) → (b : Bool) → test x ≡ b → Contains (x ∷ xs) y × (test y ≡ true)
    by_test later true e = (let same : x ≡ y = cc (rw e at h) in ((zero, omega arith, same), ap test (sym same) ∙ e))
    by_test later false e = (let there = later (rw e at h) in ((suc there.0.0, omega (arith, there.0.1), there.0.2), there.1))

apart : (rows : List Row) (i j : ℕ) (a b : Row) → HasDistinctKeys rows → i < j → j < length rows → get_or rows i a ≡ a → get_or rows j b ≡ b
    → has_key b.selector b.prefix a ≡ false
apart rows i j a b h before below ei ej =
    let there : get_or rows j a ≡ b = get_or_default rows j a b below ∙ ej in
    sym (ap₂ (λ (x y : Row). has_key y.selector y.prefix x) ei there) ∙ h i j a before below

-- one row alone stands under a key
pub one_row : (selector : Selector) (prefix : List ℕ) (rows : List Row) (a b : Row) → HasDistinctKeys rows → Contains rows a → Contains rows b
    → has_key selector prefix a ≡ true → has_key selector prefix b ≡ true → a ≡ b
one_row selector prefix rows a b h ca cb ka kb =
    elim (leb_tells (suc ca.0) cb.0) [
      | inl t ↦ (let no : true ≡ false = sym (same_key selector prefix a b ka kb) ∙ apart rows ca.0 cb.0 a b h t.1 cb.1 ca.2 cb.2 in cc)
      | inr f ↦ elim (leb_tells (suc cb.0) ca.0) [
        | inl t ↦ (let no : true ≡ false = sym (same_key selector prefix b a kb ka) ∙ apart rows cb.0 ca.0 b a h t.1 ca.1 cb.2 ca.2 in cc)
        | inr g ↦ (let same : ca.0 ≡ cb.0 = omega (arith, f.1, g.1) in sym ca.2 ∙ get_or_default rows ca.0 a b ca.1 ∙ ap (λ k. get_or rows k b) same ∙ cb.2)
      ]
    ]

pub found_is : (selector : Selector) (prefix : List ℕ) (rows : List Row) (a : Row) → HasDistinctKeys rows → Contains rows a → has_key selector prefix a ≡ true
    → find (has_key selector prefix) rows ≡ Some a
found_is selector prefix rows a h ca ka = by_found (find (has_key selector prefix) rows) refl
  where
    by_found : (o : Option Row) → find (has_key selector prefix) rows ≡ o → find (has_key selector prefix) rows ≡ Some a
    by_found None e =
        let no : true ≡ false = sym ka ∙ All-contains (λ x. has_key selector prefix x ≡ false) rows a (fails_at (has_key selector prefix) rows (find-none (has_key selector prefix) rows e)) ca in cc
    by_found (Some b) e =
        let there = found_there (has_key selector prefix) rows b e in
        e ∙ ap Some (one_row selector prefix rows b a h there.0 ca there.1 ka)

pub find_same : (selector : Selector) (prefix : List ℕ) (xs ys : List Row) → HasDistinctKeys ys → All (Contains ys) xs → All (Contains xs) ys
    → find (has_key selector prefix) xs ≡ find (has_key selector prefix) ys
find_same selector prefix xs ys h sub sup = by_found (find (has_key selector prefix) xs) refl
  where
    by_found : (o : Option Row) → find (has_key selector prefix) xs ≡ o → find (has_key selector prefix) xs ≡ find (has_key selector prefix) ys
    by_found None e =
        let none = fails_at (has_key selector prefix) xs (find-none (has_key selector prefix) xs e) in
        e ∙ sym (none_found (has_key selector prefix) ys (carried (λ x. has_key selector prefix x ≡ false) ys xs sup none))
    by_found (Some a) e =
        let there = found_there (has_key selector prefix) xs a e in
        e ∙ sym (found_is selector prefix ys a h (All-contains (Contains ys) xs a sub there.0) there.1)

-- a prefix of digits is their front
pub begins : (digits p : List ℕ) → starts_with nat_eq digits p ≡ true → p ≡ take (length p) digits
begins digits p h = same_text p (take (length p) digits) (sym h)

matching_key : (selector : Selector) (digits : List ℕ) (row : Row) → is_match selector digits row ≡ true → has_key selector row.prefix row ≡ true
matching_key selector digits row h =
    let parts = both (is_same_selector row.selector selector) (starts_with nat_eq digits row.prefix) h in
    ap₂ (λ a b. a && b) parts.0 (nat_list_eq_equiv.refl row.prefix)

same_prefix : (selector : Selector) (digits : List ℕ) (a b : Row) → is_match selector digits a ≡ true → is_match selector digits b ≡ true → length a.prefix ≡ length b.prefix
    → a.prefix ≡ b.prefix
same_prefix selector digits a b ma mb e =
    let pa = both (is_same_selector a.selector selector) (starts_with nat_eq digits a.prefix) ma in
    let pb = both (is_same_selector b.selector selector) (starts_with nat_eq digits b.prefix) mb in
    begins digits a.prefix pa.1 ∙ ap (λ n. take n digits) e ∙ sym (begins digits b.prefix pb.1)

-- a match than which none is longer is the longest match
pub longest_is : (selector : Selector) (digits : List ℕ) (rows : List Row) (a : Row) → HasDistinctKeys rows → Contains rows a → is_match selector digits a ≡ true
    → All (λ b. is_match selector digits b ≡ true → length b.prefix ≤ length a.prefix) rows → longest_match selector digits rows ≡ Some a
longest_is selector digits rows a h ca ma longest = by_best (longest_match selector digits rows) refl
  where
    by_best : (o : Option Row) → longest_match selector digits rows ≡ o → longest_match selector digits rows ≡ Some a
    by_best None e =
        let none : IsBest selector digits rows None = subst (IsBest selector digits rows) e (IsBest-longest_match selector digits rows) in
        let no : true ≡ false = sym ma ∙ All-contains (λ x. is_match selector digits x ≡ false) rows a none ca in cc
    by_best (Some b) e =
        let best = longest_match-longest selector digits rows b (sym e) in
        let up : length b.prefix ≤ length a.prefix = All-contains (λ x. is_match selector digits x ≡ true → length x.prefix ≤ length a.prefix) rows b longest best.present best.matches in
        let down : length a.prefix ≤ length b.prefix = All-contains (λ x. is_match selector digits x ≡ true → length x.prefix ≤ length b.prefix) rows a best.longest ca ma in
        let same = same_prefix selector digits b a best.matches ma (omega (arith, up, down)) in
        let kb : has_key selector a.prefix b ≡ true = subst (λ p. has_key selector p b ≡ true) same (matching_key selector digits b best.matches) in
        e ∙ ap Some (one_row selector a.prefix rows b a h best.present ca kb (matching_key selector digits a ma))

pub no_match : (selector : Selector) (digits : List ℕ) (rows : List Row) → All (λ row. is_match selector digits row ≡ false) rows → longest_match selector digits rows ≡ None
no_match selector digits [] h = refl
no_match selector digits (x ∷ rows) h =
    rw (All-head (λ row. is_match selector digits row ≡ false) x rows h) (no_match selector digits rows (All-tail (λ row. is_match selector digits row ≡ false) x rows h))

pub longest_same : (selector : Selector) (digits : List ℕ) (xs ys : List Row) → HasDistinctKeys ys → All (Contains ys) xs → All (Contains xs) ys
    → longest_match selector digits xs ≡ longest_match selector digits ys
longest_same selector digits xs ys h sub sup = by_best (longest_match selector digits xs) refl
  where
    by_best : (o : Option Row) → longest_match selector digits xs ≡ o → longest_match selector digits xs ≡ longest_match selector digits ys
    by_best None e =
        let none : IsBest selector digits xs None = subst (IsBest selector digits xs) e (IsBest-longest_match selector digits xs) in
        e ∙ sym (no_match selector digits ys (carried (λ x. is_match selector digits x ≡ false) ys xs sup none))
    by_best (Some a) e =
        let best = longest_match-longest selector digits xs a (sym e) in
        e ∙ sym (longest_is selector digits ys a h (All-contains (Contains ys) xs a sub best.present) best.matches
        (carried (λ x. is_match selector digits x ≡ true → length x.prefix ≤ length a.prefix) ys xs sup best.longest))

filter_keeps : {X : Type 0} (test : X → Bool) (xs : List X) (y : X) → Contains xs y → test y ≡ true → Contains (filter test xs) y
filter_keeps test [] y c t = absurd (omega (arith, c.1))
filter_keeps test (x ∷ xs) y (zero, below, e) t = rw (ap test e ∙ t) (zero, omega arith, e)
filter_keeps test (x ∷ xs) y (suc k, below, e) t = by_test (test x) (filter_keeps test xs y (k, omega (arith, below), e) t)
  where
    by_test : (b : Bool) → Contains (filter test xs) y → Contains (cond b (x ∷ filter test xs) (filter test xs)) y
    by_test true rest = (suc rest.0, omega (arith, rest.1), rest.2)
    by_test false rest = rest

filter_of : {X : Type 0} (test : X → Bool) (xs ys : List X) → All (Contains ys) xs → All (Contains (filter test ys)) (filter test xs)
filter_of test xs ys sub = λ k d below. filter_keeps test ys (get_or (filter test xs) k d) (All-filter test (Contains ys) xs sub k d below) (filter_passes test xs k d below)

pub without_of : (selector : Selector) (prefix : List ℕ) (xs ys : List Row) → All (Contains ys) xs → All (Contains (without selector prefix ys)) (without selector prefix xs)
without_of selector prefix xs ys sub = filter_of (λ row. not (has_key selector prefix row)) xs ys sub

none_out : (selector : Selector) (prefix : List ℕ) (rows : List Row) → All (λ row. has_key selector prefix row ≡ false) rows → without selector prefix rows ≡ rows
none_out selector prefix [] h = refl
none_out selector prefix (x ∷ rows) h =
    rw (All-head (λ row. has_key selector prefix row ≡ false) x rows h) (ap (λ l. x ∷ l) (none_out selector prefix rows (All-tail (λ row. has_key selector prefix row ≡ false) x rows h)))

-- to take the row under a key away leaves the rows under other keys
pub removed_is : (selector : Selector) (prefix : List ℕ) (rows : List Row) (at : ℕ) (d : Row) → HasDistinctKeys rows → at < length rows
    → has_key selector prefix (get_or rows at d) ≡ true → remove rows at ≡ without selector prefix rows
removed_is selector prefix [] at d h below k = absurd (omega (arith, below))
removed_is selector prefix (x ∷ rows) zero d h below k =
    rw k (sym (none_out selector prefix rows (λ j e within. other_key selector prefix x (get_or rows j e) k (h zero (suc j) e (omega arith) (omega (arith, within))))))
removed_is selector prefix (x ∷ rows) (suc at) d h below k =
    let rest = removed_is selector prefix rows at d (λ i j e before within. h (suc i) (suc j) e (omega (arith, before)) (omega (arith, within))) (omega (arith, below)) k in
    let apart : has_key (get_or rows at d).selector (get_or rows at d).prefix x ≡ false = h zero (suc at) d (omega arith) (omega (arith, below)) in
    let other : has_key selector prefix x ≡ false = not_both (has_key selector prefix x) refl apart in
    rw other (ap (λ l. x ∷ l) rest)
  where
    not_both : (b : Bool) → has_key selector prefix x ≡ b → has_key (get_or rows at d).selector (get_or rows at d).prefix x ≡ false → has_key selector prefix x ≡ false
    not_both true e apart = (let no : true ≡ false = sym (same_key selector prefix x (get_or rows at d) e k) ∙ apart in cc)
    not_both false e apart = e

pub some_any : {X : Type 0} (test : X → Bool) (xs : List X) (k : ℕ) (d : X) → k < length xs → test (get_or xs k d) ≡ true → list_any test xs ≡ true
some_any test [] k d below t = absurd (omega (arith, below))
some_any test (x ∷ xs) zero d below t = rw t refl
some_any test (x ∷ xs) (suc k) d below t = rw (some_any test xs k d (omega (arith, below)) t) (or_true (test x))
  where
    or_true : (b : Bool) → (b || true) ≡ true
    or_true true = refl
    or_true false = refl

-- where there is a longest match, a row has the selector
pub match_has_selector : (selector : Selector) (digits : List ℕ) (rows : List Row) (row : Row) → Some row ≡ longest_match selector digits rows → has_selector selector rows ≡ true
match_has_selector selector digits rows row e =
    let best = longest_match-longest selector digits rows row e in
    let parts = both (is_same_selector row.selector selector) (starts_with nat_eq digits row.prefix) best.matches in
    some_any (λ x. is_same_selector x.selector selector) rows best.present.0 row best.present.1 (ap (λ (x : Row). is_same_selector x.selector selector) best.present.2 ∙ parts.0)
