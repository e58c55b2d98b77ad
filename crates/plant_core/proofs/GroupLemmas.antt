-- Groups of single changes: what stands after them, how many rows there are, and their verdict.
use Rattle.std.proofs.Common.{◌≡◌, ℕ, ◌+◌, ◌<◌, ◌==◌, ◌&&◌, ◌||◌, not, Bool, true, false, cond, List, [], ◌∷◌, ◌++◌, filter, length, refl, ap, sym, ◌∙◌, arith, length-append, nat_lt, take, drop, get_or}
use Rattle.std.specs.List.{list_any}
use Rattle.std.specs.Cmp.Lexicographic.{same_text}
use Rattle.std.specs.Prelude.{nat_eq, nat_le, if◌then◌else◌, Some, None}
use Rattle.std.proofs.lemmas.List.{take_more, drop_more, take-append-drop}
use lib.Pointwise.{pointwise}
use Rattle.relay_base.specs.declared.digits.Digits.{Digits}
use Rattle.sccp_address.specs.declared.address.Selector.{Selector}
use Rattle.gtt_table.specs.declared.row.Row.{Row}
use Rattle.gtt_table.specs.declared.table.AddFault.TheVariants as fault
use Rattle.gtt_table.specs.declared.table.TheConstants.Table.{MOST}
use Rattle.gtt_table.specs.Rows.{is_same_selector, has_key, has_row, HasDistinctKeys}
use Rattle.gtt_table.specs.Adding.{add_refusal}
use Rattle.gtt_table.proofs.KeyLemmas.{both, selector_same, HasDistinctKeys-push, HasDistinctKeys-without, length-without}
use Rattle.plant_core.specs.declared.change.Change.{Change}
use Rattle.plant_core.specs.declared.change.Change.TheVariants.{AddRow, DelRow, BarPoint, FreePoint, BarSub, FreeSub, LocalUp, LocalDown}
use Rattle.plant_core.specs.declared.change.Verdict.{Verdict}
use Rattle.plant_core.specs.declared.change.Verdict.TheVariants.{Alters, Same, Duplicate, RowsFull, NoRow}
use Rattle.plant_core.specs.declared.statuses.RemoteSubsystem.{RemoteSubsystem}
use Rattle.plant_core.specs.declared.subject.Subject.{Subject}
use Rattle.plant_core.specs.declared.subject.Subject.TheVariants as subject
use Rattle.plant_core.specs.Plant.{RoutingData, is_among, is_same_subsystem}
use Rattle.plant_core.specs.Changes.{verdict_on, verdict_by, changed, changed_all, first_verdict, verdict_on_all, group_verdict, is_alters, alone, but_for, with_number, is_before, with_subsystem}
use Rattle.plant_core.specs.Inner.Members.{subsystem}
use Rattle.plant_core.specs.Inner.Subjects.{puts, is_about, stands}
use Rattle.plant_core.proofs.MemberLemmas.{any-append}

-- ---- lists into which an element is put, and from which some are taken

or-true : (b : Bool) → (b || true) ≡ true
or-true true = refl
or-true false = refl

in_both : (t f g r : Bool) → (f || g) ≡ r → ((t || f) || (t || g)) ≡ (t || r)
in_both true f g r e = refl
in_both false f g r e = e

in_first : (t f g r : Bool) → (f || g) ≡ r → ((t || f) || g) ≡ (t || r)
in_first true f g r e = refl
in_first false f g r e = e

in_second : (t f g r : Bool) → (f || g) ≡ r → (f || (t || g)) ≡ (t || r)
in_second true f g r e = or-true f
in_second false f g r e = e

in_none : (t f g r : Bool) → (t ≡ true → false ≡ true) → (f || g) ≡ r → (f || g) ≡ (t || r)
in_none true f g r h e = let never : false ≡ true = h refl in absurd (cc)
in_none false f g r h e = e

parts-more : {X : Type 0} (test : X → Bool) (x : X) (fs gs xs : List X) (b a : Bool) → (test x ≡ true → (b || a) ≡ true) → (list_any test fs || list_any test gs) ≡ list_any test xs
    → (list_any test (cond b (x ∷ fs) fs) || list_any test (cond a (x ∷ gs) gs)) ≡ (test x || list_any test xs)
parts-more test x fs gs xs true true h e = in_both (test x) (list_any test fs) (list_any test gs) (list_any test xs) e
parts-more test x fs gs xs true false h e = in_first (test x) (list_any test fs) (list_any test gs) (list_any test xs) e
parts-more test x fs gs xs false true h e = in_second (test x) (list_any test fs) (list_any test gs) (list_any test xs) e
parts-more test x fs gs xs false false h e = in_none (test x) (list_any test fs) (list_any test gs) (list_any test xs) h e

-- what passes the test stands in the one part or in the other
any-parts : {X : Type 0} (test before after : X → Bool) (xs : List X) → ((x : X) → test x ≡ true → (before x || after x) ≡ true)
    → (list_any test (filter before xs) || list_any test (filter after xs)) ≡ list_any test xs
any-parts test before after [] kept = refl
any-parts test before after (x ∷ xs) kept =
    parts-more test x (filter before xs) (filter after xs) xs (before x) (after x) (kept x) (any-parts test before after xs kept)

-- an element is put between those before it and those after it
any-put : {X : Type 0} (test before after : X → Bool) (y : X) (xs : List X) → (test y ≡ false → (x : X) → test x ≡ true → (before x || after x) ≡ true)
    → list_any test (filter before xs ++ y ∷ filter after xs) ≡ cond (test y) true (list_any test xs)
any-put {X = X} test before after y xs kept = any-append test (filter before xs) (y ∷ filter after xs) ∙ by (test y) kept
  where
    by : (t : Bool) → (t ≡ false → (x : X) → test x ≡ true → (before x || after x) ≡ true)
        → (list_any test (filter before xs) || (t || list_any test (filter after xs))) ≡ cond t true (list_any test xs)
    by true h = or-true (list_any test (filter before xs))
    by false h = any-parts test before after xs (h refl)

-- nothing that is taken out passes the test, or all that does is
any-other : {X : Type 0} (test out : X → Bool) (xs : List X) → ((x : X) → test x ≡ true → out x ≡ false) → list_any test (filter (λ x. not (out x)) xs) ≡ list_any test xs
any-other test out [] h = refl
any-other test out (x ∷ xs) h = by (out x) (test x) (h x) (any-other test out xs h) refl
  where
    by : (o t : Bool) → (t ≡ true → o ≡ false) → list_any test (filter (λ x. not (out x)) xs) ≡ list_any test xs → test x ≡ t
        → list_any test (cond (not o) (x ∷ filter (λ x. not (out x)) xs) (filter (λ x. not (out x)) xs)) ≡ (test x || list_any test xs)
    by true true k rest e = let never : true ≡ false = k refl in absurd (cc)
    by true false k rest e = rw e rest
    by false t k rest e = ap (λ r. test x || r) rest

any-same : {X : Type 0} (test out : X → Bool) (xs : List X) → ((x : X) → test x ≡ true → out x ≡ true) → list_any test (filter (λ x. not (out x)) xs) ≡ false
any-same test out [] h = refl
any-same test out (x ∷ xs) h = by (out x) (test x) (h x) (any-same test out xs h) refl
  where
    by : (o t : Bool) → (t ≡ true → o ≡ true) → list_any test (filter (λ x. not (out x)) xs) ≡ false → test x ≡ t
        → list_any test (cond (not o) (x ∷ filter (λ x. not (out x)) xs) (filter (λ x. not (out x)) xs)) ≡ false
    by true t k rest e = rest
    by false true k rest e = let never : false ≡ true = k refl in absurd (cc)
    by false false k rest e = rw e rest

any-take : {X : Type 0} (test out : X → Bool) (xs : List X) (same : Bool) → (same ≡ true → (x : X) → test x ≡ true → out x ≡ true) → (same ≡ false → (x : X) → test x ≡ true → out x ≡ false)
    → list_any test (filter (λ x. not (out x)) xs) ≡ cond same false (list_any test xs)
any-take test out xs true all none = any-same test out xs (all refl)
any-take test out xs false all none = any-other test out xs (none refl)

-- ---- what stands after a single change

key_is : (selector : Selector) (prefix : List ℕ) (row : Row) → has_key selector prefix row ≡ true → (row.selector ≡ selector) × (row.prefix ≡ prefix)
key_is selector prefix row h =
    let parts = both (is_same_selector row.selector selector) (pointwise nat_eq row.prefix prefix) h in
    (selector_same row.selector selector parts.0, same_text row.prefix prefix (sym parts.1))

row-added : (p : RoutingData) (row : Row) (s : Selector) (d : List ℕ) → has_row s d (p.rows ++ row ∷ []) ≡ cond (has_key s d row) true (has_row s d p.rows)
row-added p row s d = any-append (has_key s d) p.rows (row ∷ []) ∙ by (has_key s d row)
  where
    by : (t : Bool) → (has_row s d p.rows || (t || false)) ≡ cond t true (has_row s d p.rows)
    by true = or-true (has_row s d p.rows)
    by false = or-none (has_row s d p.rows)
      where
        or-none : (b : Bool) → (b || false) ≡ b
        or-none true = refl
        or-none false = refl

same-keys : (s t : Selector) (d e : List ℕ) → (is_same_selector t s && pointwise nat_eq e d) ≡ true → (x : Row) → has_key s d x ≡ true → has_key t e x ≡ true
same-keys s t d e h x k =
    let parts = both (is_same_selector t s) (pointwise nat_eq e d) h in
    ap (λ u. has_key u e x) (selector_same t s parts.0) ∙ ap (λ u. has_key s u x) (same_text e d (sym parts.1)) ∙ k

other-keys : (s t : Selector) (d e : List ℕ) → (is_same_selector t s && pointwise nat_eq e d) ≡ false → (x : Row) → has_key s d x ≡ true → has_key t e x ≡ false
other-keys s t d e h x k = by (has_key t e x) refl
  where
    by : (b : Bool) → has_key t e x ≡ b → has_key t e x ≡ false
    by true is =
        let there = key_is t e x is in
        let same : (is_same_selector t s && pointwise nat_eq e d) ≡ true =
        ap (λ u. is_same_selector u s && pointwise nat_eq e d) (sym there.0) ∙ ap (λ u. is_same_selector x.selector s && pointwise nat_eq u d) (sym there.1) ∙ k in
        let never : true ≡ false = sym same ∙ h in cc
    by false is = is

number-put : (n m : ℕ) (list : List ℕ) → is_among n (with_number m list) ≡ cond (m == n) true (is_among n list)
number-put n m list = any-put (λ x. x == n) (λ x. nat_lt x m) (nat_lt m) m list (λ other x is. grind (arith, other, is))

number-taken : (n m : ℕ) (list : List ℕ) → is_among n (but_for m list) ≡ cond (m == n) false (is_among n list)
number-taken n m list = any-take (λ x. x == n) (λ x. x == m) list (m == n) (λ same x is. grind (arith, same, is)) (λ other x is. grind (arith, other, is))

between : (p s m k a b : ℕ) → (a == p && b == s) ≡ true → (m == p && k == s) ≡ false
    → ((nat_lt a m || (a == m && nat_lt b k)) || (nat_lt m a || (m == a && nat_lt k b))) ≡ true
between p s m k a b is other = grind (arith, is, other)

subsystem-put : (p s : ℕ) (x : RemoteSubsystem) (list : List RemoteSubsystem)
    → list_any (is_same_subsystem p s) (with_subsystem x list) ≡ cond (is_same_subsystem p s x) true (list_any (is_same_subsystem p s) list)
subsystem-put p s x list =
    any-put (is_same_subsystem p s) (λ other. is_before other x) (is_before x) x list (λ other y is. between p s x.point x.ssn y.point y.ssn is other)

subsystem-taken : (p s m k : ℕ) (list : List RemoteSubsystem)
    → list_any (is_same_subsystem p s) (filter (λ x. not (is_same_subsystem m k x)) list) ≡ cond (m == p && k == s) false (list_any (is_same_subsystem p s) list)
subsystem-taken p s m k list =
    any-take (is_same_subsystem p s) (is_same_subsystem m k) list (m == p && k == s) (λ same x is. grind (arith, same, is)) (λ other x is. grind (arith, other, is))

pub stands-changed : (p : RoutingData) (c : Change) (x : Subject) → stands (changed p c) x ≡ cond (is_about x c) (puts c) (stands p x)
unfolding changed
stands-changed p (AddRow row) (subject.Row s d) = row-added p row s d
stands-changed p (DelRow t e) (subject.Row s d) =
    any-take (has_key s d) (has_key t e) p.rows (is_same_selector t s && pointwise nat_eq e d) (same-keys s t d e) (other-keys s t d e)
stands-changed p (BarPoint m) (subject.Point n) = number-put n m p.barred_points
stands-changed p (FreePoint m) (subject.Point n) = number-taken n m p.barred_points
stands-changed p (BarSub m k) (subject.Subsystem n s) = subsystem-put n s (subsystem m k) p.barred_subsystems
stands-changed p (FreeSub m k) (subject.Subsystem n s) = subsystem-taken n s m k p.barred_subsystems
stands-changed p (LocalUp m) (subject.User n) = number-taken n m p.out_of_service
stands-changed p (LocalDown m) (subject.User n) = number-put n m p.out_of_service
stands-changed p _ _ = refl

-- ---- several changes

pub all_push : (p : RoutingData) (xs : List Change) (c : Change) → changed_all p (xs ++ c ∷ []) ≡ changed (changed_all p xs) c
all_push p [] c = refl
all_push p (x ∷ xs) c = all_push (changed p x) xs c

pub one_more : (p : RoutingData) (changes : List Change) (at : ℕ) (d : Change) → at < length changes
    → changed_all p (take (at + 1) changes) ≡ changed (changed_all p (take at changes)) (get_or changes at d)
one_more p changes at d within = ap (changed_all p) (take_more changes at d within) ∙ all_push p (take at changes) (get_or changes at d)

pub users_all : (p : RoutingData) (xs : List Change) → (changed_all p xs).users ≡ p.users
unfolding changed
users_all p [] = refl
users_all p (x ∷ xs) = users_all (changed p x) xs ∙ same x
  where
    same : (c : Change) → (changed p c).users ≡ p.users
    same (AddRow row) = refl
    same (DelRow t e) = refl
    same (BarPoint m) = refl
    same (FreePoint m) = refl
    same (BarSub m k) = refl
    same (FreeSub m k) = refl
    same (LocalUp m) = refl
    same (LocalDown m) = refl

-- a first change that is followed by a verdict Alters alters, and so do the others after it
pub alters_first : (p : RoutingData) (c : Change) (more : List Change) → first_verdict p (c ∷ more) ≡ Alters → (verdict_on p c ≡ Alters) × (first_verdict (changed p c) more ≡ Alters)
alters_first p c more h = by (verdict_on p c) h
  where
    by : (v : Verdict) → elim (is_alters v) [ true ↦ first_verdict (changed p c) more | false ↦ v ] ≡ Alters → (v ≡ Alters) × (first_verdict (changed p c) more ≡ Alters)
    by Alters e = (refl, e)
    by Same e = absurd (cc)
    by Duplicate e = absurd (cc)
    by RowsFull e = absurd (cc)
    by NoRow e = absurd (cc)

goes_on : (v after : Verdict) → v ≡ Alters → elim (is_alters v) [ true ↦ after | false ↦ v ] ≡ after
goes_on Alters after e = refl
goes_on Same after e = absurd (cc)
goes_on Duplicate after e = absurd (cc)
goes_on RowsFull after e = absurd (cc)
goes_on NoRow after e = absurd (cc)

-- behind changes that each alter the verdict is that on the others
pub verdict_behind : (p : RoutingData) (xs ys : List Change) → first_verdict p xs ≡ Alters → first_verdict p (xs ++ ys) ≡ first_verdict (changed_all p xs) ys
verdict_behind p [] ys h = refl
verdict_behind p (x ∷ xs) ys h =
    let first = alters_first p x xs h in
    goes_on (verdict_on p x) (first_verdict (changed p x) (xs ++ ys)) first.0 ∙ verdict_behind (changed p x) xs ys first.1

-- a change that doesn't alter decides
pub decides : (p : RoutingData) (c : Change) (more : List Change) → is_alters (verdict_on p c) ≡ false → first_verdict p (c ∷ more) ≡ verdict_on p c
decides p c more h = by (verdict_on p c) h
  where
    by : (v : Verdict) → is_alters v ≡ false → elim (is_alters v) [ true ↦ first_verdict (changed p c) more | false ↦ v ] ≡ v
    by Alters e = absurd (cc)
    by Same e = refl
    by Duplicate e = refl
    by RowsFull e = refl
    by NoRow e = refl

-- the next change decides, or alters as those before it
pub decided_at : (p : RoutingData) (xs : List Change) (at : ℕ) (d : Change) → at < length xs → first_verdict p (take at xs) ≡ Alters
    → is_alters (verdict_on (changed_all p (take at xs)) (get_or xs at d)) ≡ false → verdict_on_all p xs ≡ verdict_on (changed_all p (take at xs)) (get_or xs at d)
decided_at p [] at d within h halts = absurd (omega (arith, within))
decided_at p (c ∷ more) at d within h halts =
    let xs = c ∷ more in
    let q = changed_all p (take at xs) in
    ap (first_verdict p) (sym (take-append-drop at xs)) ∙ verdict_behind p (take at xs) (drop at xs) h
    ∙ ap (first_verdict q) (drop_more xs at d within) ∙ decides q (get_or xs at d) (drop (at + 1) xs) halts

pub alters_on : (p : RoutingData) (xs : List Change) (at : ℕ) (d : Change) → at < length xs → first_verdict p (take at xs) ≡ Alters
    → verdict_on (changed_all p (take at xs)) (get_or xs at d) ≡ Alters → first_verdict p (take (at + 1) xs) ≡ Alters
alters_on p xs at d within h alters =
    let q = changed_all p (take at xs) in
    ap (first_verdict p) (take_more xs at d within) ∙ verdict_behind p (take at xs) (get_or xs at d ∷ []) h
    ∙ goes_on (verdict_on q (get_or xs at d)) Alters alters

pub other_verdict : (v : Verdict) → (v ≡ Alters → ⊥) → is_alters v ≡ false
other_verdict Alters h = absurd (h refl)
other_verdict Same h = refl
other_verdict Duplicate h = refl
other_verdict RowsFull h = refl
other_verdict NoRow h = refl

-- each change of a group that alters does
pub all_alter : (p : RoutingData) (changes : List Change) → verdict_on_all p changes ≡ Alters → first_verdict p changes ≡ Alters
all_alter p [] h = refl
all_alter p (c ∷ more) h = h

pub verdict_alone : (p : RoutingData) (c : Change) → group_verdict p (alone c) ≡ verdict_on p c
unfolding group_verdict
verdict_alone p c = by (verdict_on p c)
  where
    by : (v : Verdict) → elim (is_alters v) [ true ↦ Alters | false ↦ v ] ≡ v
    by Alters = refl
    by Same = refl
    by Duplicate = refl
    by RowsFull = refl
    by NoRow = refl

-- the next change alters, and so do those after it
pub next_alters : (p : RoutingData) (xs : List Change) (at : ℕ) (d : Change) → at < length xs → first_verdict (changed_all p (take at xs)) (drop at xs) ≡ Alters
    → (verdict_on (changed_all p (take at xs)) (get_or xs at d) ≡ Alters) × (first_verdict (changed_all p (take (at + 1) xs)) (drop (at + 1) xs) ≡ Alters)
next_alters p xs at d within h =
    let q = changed_all p (take at xs) in
    let both_alter = alters_first q (get_or xs at d) (drop (at + 1) xs) (ap (first_verdict q) (sym (drop_more xs at d within)) ∙ h) in
    (both_alter.0, ap (λ (r : RoutingData). first_verdict r (drop (at + 1) xs)) (one_more p xs at d within) ∙ both_alter.1)

-- ---- how many rows there are

pub row_alters : (p : RoutingData) (row : Row) → verdict_on p (AddRow row) ≡ Alters → (has_row row.selector row.prefix p.rows ≡ false) × (length p.rows < MOST)
unfolding verdict_on add_refusal
row_alters p row h = by (has_row row.selector row.prefix p.rows) (nat_le MOST (length p.rows)) refl refl h
  where
    by : (there full : Bool) → has_row row.selector row.prefix p.rows ≡ there → nat_le MOST (length p.rows) ≡ full
        → verdict_by (if there then Some fault.Duplicate else if full then Some fault.RowsFull else None) ≡ Alters
        → (has_row row.selector row.prefix p.rows ≡ false) × (length p.rows < MOST)
    by true full a b e = absurd (cc)
    by false true a b e = absurd (cc)
    by false false a b e = (a, grind (arith, b))

pub gone_alters : (p : RoutingData) (s : Selector) (d : List ℕ) → verdict_on p (DelRow s d) ≡ Alters → has_row s d p.rows ≡ true
unfolding verdict_on
gone_alters p s d h = by (has_row s d p.rows) refl h
  where
    by : (there : Bool) → has_row s d p.rows ≡ there → (if there then Alters else NoRow) ≡ Alters → has_row s d p.rows ≡ true
    by true a e = a
    by false a e = absurd (cc)

-- rows stay under distinct keys
pub distinct_after : (p : RoutingData) (c : Change) → HasDistinctKeys p.rows → verdict_on p c ≡ Alters → HasDistinctKeys (changed p c).rows
unfolding changed
distinct_after p (AddRow row) h v = HasDistinctKeys-push p.rows row h (row_alters p row v).0
distinct_after p (DelRow s d) h v = HasDistinctKeys-without s d p.rows h
distinct_after p (BarPoint m) h v = h
distinct_after p (FreePoint m) h v = h
distinct_after p (BarSub m k) h v = h
distinct_after p (FreeSub m k) h v = h
distinct_after p (LocalUp m) h v = h
distinct_after p (LocalDown m) h v = h

pub rows_more : (p : RoutingData) (row : Row) → length (changed p (AddRow row)).rows ≡ length p.rows + 1
unfolding changed
rows_more p row = length-append p.rows (row ∷ [])

pub rows_less : (p : RoutingData) (s : Selector) (d : List ℕ) → HasDistinctKeys p.rows → verdict_on p (DelRow s d) ≡ Alters
    → length (changed p (DelRow s d)).rows + 1 ≡ length p.rows
unfolding changed
rows_less p s d h v = length-without s d p.rows h (gone_alters p s d v)

pub rows_same : (p : RoutingData) (c : Change) → ((row : Row) → c ≡ AddRow row → ⊥) → ((s : Selector) (d : Digits) → c ≡ DelRow s d → ⊥)
    → length (changed p c).rows ≡ length p.rows
unfolding changed
rows_same p (AddRow row) add del = absurd (add row refl)
rows_same p (DelRow s d) add del = absurd (del s d refl)
rows_same p (BarPoint m) add del = refl
rows_same p (FreePoint m) add del = refl
rows_same p (BarSub m k) add del = refl
rows_same p (FreeSub m k) add del = refl
rows_same p (LocalUp m) add del = refl
rows_same p (LocalDown m) add del = refl
