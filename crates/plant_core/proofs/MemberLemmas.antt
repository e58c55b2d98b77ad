-- Sets of numbers as marks: what a mark that is put in or taken out does.
use Rattle.std.proofs.Common.{◌≡◌, ℕ, zero, suc, ◌+◌, ◌<◌, ◌≤◌, ◌==◌, ◌&&◌, ◌||◌, ◌⊎◌, inl, ⊎_elim, not, Bool, true, false, cond, List, [], ◌∷◌, ◌++◌, map, filter, get_or, set, length, replicate, refl, ap, ap₂, sym, ◌∙◌, arith, append_assoc, append-nil, All, IsTrue, nat_lt}
use Rattle.std.specs.List.{list_any}
use Rattle.std.proofs.lemmas.List.{map-append}
use Rattle.std.proofs.lemmas.List.Elements.{All-nil, All-cons, All-head, All-tail, All-append, All-map, All-weaker, filter-append, filter_agree}
use Rattle.plant_core.specs.declared.statuses.RemoteSubsystem.{RemoteSubsystem}
use Rattle.plant_core.specs.Plant.{is_among, is_same_subsystem}
use Rattle.plant_core.specs.Changes.{but_for, is_before, with_number, with_subsystem}
use Rattle.plant_core.specs.Inner.Members.{IsWhole, marked_from, subsystem, subsystems_from}

filter_all : {X : Type 0} (test : X → Bool) (xs : List X) → All (λ x. test x ≡ true) xs → filter test xs ≡ xs
filter_all test [] h = refl
filter_all test (x ∷ xs) h = rw (All-head (λ x. test x ≡ true) x xs h) (ap (λ l. x ∷ l) (filter_all test xs (All-tail (λ x. test x ≡ true) x xs h)))

filter_none : {X : Type 0} (test : X → Bool) (xs : List X) → All (λ x. test x ≡ false) xs → filter test xs ≡ []
filter_none test [] h = refl
filter_none test (x ∷ xs) h = rw (All-head (λ x. test x ≡ false) x xs h) (filter_none test xs (All-tail (λ x. test x ≡ false) x xs h))

filter_mapped : {X Y : Type 0} (f : X → Y) (test : Y → Bool) (xs : List X) → filter test (map f xs) ≡ map f (filter (λ x. test (f x)) xs)
filter_mapped f test [] = refl
filter_mapped f test (x ∷ xs) = by (test (f x)) (filter_mapped f test xs)
  where
    by : (b : Bool) → filter test (map f xs) ≡ map f (filter (λ x. test (f x)) xs)
        → cond b (f x ∷ filter test (map f xs)) (filter test (map f xs)) ≡ map f (cond b (x ∷ filter (λ x. test (f x)) xs) (filter (λ x. test (f x)) xs))
    by true rest = ap (λ l. f x ∷ l) rest
    by false rest = rest

any-none : {X : Type 0} (test : X → Bool) (xs : List X) → All (λ x. test x ≡ false) xs → list_any test xs ≡ false
any-none test [] h = refl
any-none test (x ∷ xs) h = rw (All-head (λ x. test x ≡ false) x xs h) (any-none test xs (All-tail (λ x. test x ≡ false) x xs h))

pub any-append : {X : Type 0} (test : X → Bool) (xs ys : List X) → list_any test (xs ++ ys) ≡ (list_any test xs || list_any test ys)
any-append test [] ys = refl
any-append test (x ∷ xs) ys = by (test x) (any-append test xs ys)
  where
    by : (b : Bool) → list_any test (xs ++ ys) ≡ (list_any test xs || list_any test ys) → (b || list_any test (xs ++ ys)) ≡ ((b || list_any test xs) || list_any test ys)
    by true rest = refl
    by false rest = rest

any-mapped : {X Y : Type 0} (f : X → Y) (test : Y → Bool) (other : X → Bool) (xs : List X) → ((x : X) → test (f x) ≡ other x) → list_any test (map f xs) ≡ list_any other xs
any-mapped f test other [] same = refl
any-mapped f test other (x ∷ xs) same = ap₂ (λ a b. a || b) (same x) (any-mapped f test other xs same)

or-none : (b : Bool) → (b || false) ≡ b
or-none true = refl
or-none false = refl

isnt-below : (n x : ℕ) → suc n ≤ x → nat_lt x n ≡ false
isnt-below n x h = grind (arith, h)

is-above : (n x : ℕ) → suc n ≤ x → nat_lt n x ≡ true
is-above n x h = grind (arith, h)

isnt-same : (n x : ℕ) → suc n ≤ x → (x == n) ≡ false
isnt-same n x h = grind (arith, h)

isnt-later : (n x : ℕ) → suc n ≤ x → (n == x) ≡ false
isnt-later n x h = grind (arith, h)

below-none : (n : ℕ) → nat_lt n n ≡ false
below-none n = grind arith

is-same : (n : ℕ) → (n == n) ≡ true
is-same n = grind arith

-- the numbers that are marked begin where the marks do
from-on : (m n : ℕ) (marks : List Bool) → m ≤ n → All (λ x. m ≤ x) (marked_from n marks)
from-on m n [] h = All-nil (λ x. m ≤ x)
from-on m n (true ∷ more) h = All-cons (λ x. m ≤ x) n (marked_from (suc n) more) h (from-on m (suc n) more (omega (arith, h)))
from-on m n (false ∷ more) h = from-on m (suc n) more (omega (arith, h))

later-than : (n : ℕ) (more : List Bool) → All (λ x. suc n ≤ x) (marked_from (suc n) more)
later-than n more = from-on (suc n) (suc n) more (omega arith)

-- a number before all others goes first
goes-first : (n : ℕ) (b : Bool) (list : List ℕ) → All (λ x. suc n ≤ x) list → n ∷ list ≡ with_number n (cond b (n ∷ list) list)
goes-first n b list h = by b
  where
    front : filter (λ x. nat_lt x n) list ≡ []
    front = filter_none (λ x. nat_lt x n) list (All-weaker (λ x. suc n ≤ x) (λ x. nat_lt x n ≡ false) (λ x k. isnt-below n x k) list h)

    back : filter (nat_lt n) list ≡ list
    back = filter_all (nat_lt n) list (All-weaker (λ x. suc n ≤ x) (λ x. nat_lt n x ≡ true) (λ x k. is-above n x k) list h)

    by : (b : Bool) → n ∷ list ≡ with_number n (cond b (n ∷ list) list)
    by true =
        ap₂ (λ f g. f ++ n ∷ g) (sym front) (sym back)
        ∙ ap₂ (λ c d. cond c (n ∷ filter (λ x. nat_lt x n) list) (filter (λ x. nat_lt x n) list) ++ n ∷ cond d (n ∷ filter (nat_lt n) list) (filter (nat_lt n) list))
        (sym (below-none n)) (sym (below-none n))
    by false = ap₂ (λ f g. f ++ n ∷ g) (sym front) (sym back)

-- a number before the one that is put in stays
stays-first : (n m : ℕ) (b : Bool) (list after : List ℕ) → suc n ≤ m → after ≡ with_number m list → cond b (n ∷ after) after ≡ with_number m (cond b (n ∷ list) list)
stays-first n m true list after h is =
    ap (λ l. n ∷ l) is
    ∙ ap₂ (λ c d. cond c (n ∷ filter (λ x. nat_lt x m) list) (filter (λ x. nat_lt x m) list) ++ m ∷ cond d (n ∷ filter (nat_lt m) list) (filter (nat_lt m) list))
    (sym (is-above n m h)) (sym (isnt-below n m h))
stays-first n m false list after h is = is

-- a number is put in
pub put-at : (n k : ℕ) (marks : List Bool) → k < length marks → marked_from n (set marks k true) ≡ with_number (n + k) (marked_from n marks)
put-at n k [] h = absurd (omega (arith, h))
put-at n zero (b ∷ more) h = let e : n + 0 ≡ n = omega arith in rw e (goes-first n b (marked_from (suc n) more) (later-than n more))
put-at n (suc k) (b ∷ more) h =
    let e : n + suc k ≡ suc n + k = omega arith in
    rw e (stays-first n (suc n + k) b (marked_from (suc n) more) (marked_from (suc n) (set more k true)) (omega arith) (put-at (suc n) k more (omega (arith, h))))

-- a number is taken out
pub take-at : (n k : ℕ) (marks : List Bool) → marked_from n (set marks k false) ≡ but_for (n + k) (marked_from n marks)
take-at n k [] = refl
take-at n zero (b ∷ more) = let e : n + 0 ≡ n = omega arith in rw e (by b)
  where
    list : List ℕ
    list = marked_from (suc n) more

    rest : but_for n list ≡ list
    rest =
        filter_all (λ x. not (x == n)) list
        (All-weaker (λ x. suc n ≤ x) (λ x. not (x == n) ≡ true) (λ x k. ap not (isnt-same n x k)) list (later-than n more))

    by : (b : Bool) → list ≡ but_for n (cond b (n ∷ list) list)
    by true = sym rest ∙ ap (λ c. cond (not c) (n ∷ but_for n list) (but_for n list)) (sym (is-same n))
    by false = sym rest
take-at n (suc k) (b ∷ more) = let e : n + suc k ≡ suc n + k = omega arith in rw e (by b (take-at (suc n) k more))
  where
    m : ℕ
    m = suc n + k

    list : List ℕ
    list = marked_from (suc n) more

    after : List ℕ
    after = marked_from (suc n) (set more k false)

    by : (b : Bool) → after ≡ but_for m list → cond b (n ∷ after) after ≡ but_for m (cond b (n ∷ list) list)
    by true is = ap (λ l. n ∷ l) is ∙ ap (λ c. cond (not c) (n ∷ but_for m list) (but_for m list)) (sym (isnt-later n m (omega arith)))
    by false is = is

-- a number is among those that are marked where its mark is there
pub has-at : (n k : ℕ) (marks : List Bool) → get_or marks k false ≡ is_among (n + k) (marked_from n marks)
has-at n k [] = refl
has-at n zero (b ∷ more) = let e : n + 0 ≡ n = omega arith in rw e (by b)
  where
    list : List ℕ
    list = marked_from (suc n) more

    none : is_among n list ≡ false
    none = any-none (λ x. x == n) list (All-weaker (λ x. suc n ≤ x) (λ x. (x == n) ≡ false) (λ x k. isnt-same n x k) list (later-than n more))

    by : (b : Bool) → b ≡ is_among n (cond b (n ∷ list) list)
    by true = ap (λ c. c || is_among n list) (sym (is-same n))
    by false = sym none
has-at n (suc k) (b ∷ more) = let e : n + suc k ≡ suc n + k = omega arith in rw e (by b (has-at (suc n) k more))
  where
    m : ℕ
    m = suc n + k

    list : List ℕ
    list = marked_from (suc n) more

    by : (b : Bool) → get_or more k false ≡ is_among m list → get_or more k false ≡ is_among m (cond b (n ∷ list) list)
    by true is = is ∙ ap (λ c. c || is_among m list) (sym (isnt-later n m (omega arith)))
    by false is = is

-- marks of which none is set
pub none-marked : (n size : ℕ) → marked_from n (replicate size false) ≡ []
none-marked n zero = refl
none-marked n (suc size) = none-marked (suc n) size

pub set-past : {X : Type 0} (xs : List X) (k : ℕ) (y : X) → length xs ≤ k → set xs k y ≡ xs
set-past [] k y h = refl
set-past (x ∷ xs) zero y h = absurd (omega (arith, h))
set-past (x ∷ xs) (suc k) y h = ap (λ l. x ∷ l) (set-past xs k y (omega (arith, h)))

-- marks that are spare have none set
pub spare-none : (size : ℕ) (spare : List Bool) → (spare ≡ []) ⊎ (spare ≡ replicate size false) → marked_from 0 spare ≡ []
spare-none size spare h =
    ⊎_elim (λ (e : spare ≡ []). ap (marked_from 0) e) (λ (e : spare ≡ replicate size false). ap (marked_from 0) e ∙ none-marked 0 size) h

pub no-room : (marks spare size : ℕ) → (marks == 0) ≡ true → (spare == 0) ≡ true → 0 < size → IsTrue (marks == size || spare == size) → ⊥
no-room marks spare size h k some room = grind (arith, h, k, some, room)

-- marks that are taken where there were none
pub none-there : (marks : List Bool) → (length marks == 0) ≡ true → marks ≡ []
none-there [] h = refl
none-there (x ∷ marks) h = absurd (grind (arith, h))

-- The subsystems of the points from one on.

points-from : (m point : ℕ) (rows : List (List Bool)) → m ≤ point → All (λ x. m ≤ x.point) (subsystems_from point rows)
points-from m point [] h = All-nil (λ x. m ≤ x.point)
points-from m point (row ∷ rows) h =
    All-append (λ x. m ≤ x.point) (map (subsystem point) (marked_from 0 row)) (subsystems_from (suc point) rows)
    (All-map (λ x. m ≤ x.point) (subsystem point) (marked_from 0 row) (λ k d lt. h))
    (points-from m (suc point) rows (omega (arith, h)))

-- a subsystem among those of its point
in-point : (point s t : ℕ) → is_before (subsystem point s) (subsystem point t) ≡ nat_lt s t
in-point point s t = ap₂ (λ a b. a || (b && nat_lt s t)) (below-none point) (is-same point)

-- and beside those of later points
isnt-after : (x y : RemoteSubsystem) → suc x.point ≤ y.point → is_before y x ≡ false
isnt-after x y h = ap₂ (λ a b. a || (b && nat_lt y.ssn x.ssn)) (isnt-below x.point y.point h) (isnt-same x.point y.point h)

is-first : (x y : RemoteSubsystem) → suc x.point ≤ y.point → is_before x y ≡ true
is-first x y h = ap (λ a. a || (x.point == y.point && nat_lt x.ssn y.ssn)) (is-above x.point y.point h)

of-later : (point : ℕ) (rows : List (List Bool)) → All (λ x. suc point ≤ x.point) (subsystems_from (suc point) rows)
of-later point rows = points-from (suc point) (suc point) rows (omega arith)

pub put-sub : (point k s : ℕ) (rows : List (List Bool)) → k < length rows → s < length (get_or rows k [])
    → subsystems_from point (set rows k (set (get_or rows k []) s true)) ≡ with_subsystem (subsystem (point + k) s) (subsystems_from point rows)
put-sub point k s [] h within = absurd (omega (arith, h))
put-sub point zero s (row ∷ rows) h within = let e : point + 0 ≡ point = omega arith in rw e here
  where
    x : RemoteSubsystem
    x = subsystem point s

    list : List ℕ
    list = marked_from 0 row

    rest : List RemoteSubsystem
    rest = subsystems_from (suc point) rows

    before : List ℕ
    before = filter (λ t. nat_lt t s) list

    behind : List ℕ
    behind = filter (nat_lt s) list

    front : filter (λ o. is_before o x) (map (subsystem point) list ++ rest) ≡ map (subsystem point) before
    front =
        filter-append (λ o. is_before o x) (map (subsystem point) list) rest
        ∙ ap₂ (λ f g. f ++ g)
        (filter_mapped (subsystem point) (λ o. is_before o x) list
        ∙ ap (map (subsystem point)) (filter_agree (λ t. is_before (subsystem point t) x) (λ t. nat_lt t s) (λ t. in-point point t s) list))
        (filter_none (λ o. is_before o x) rest
        (All-weaker (λ (y : RemoteSubsystem). suc point ≤ y.point) (λ y. is_before y x ≡ false) (λ y k. isnt-after x y k) rest (of-later point rows)))
        ∙ append-nil (map (subsystem point) before)

    back : filter (is_before x) (map (subsystem point) list ++ rest) ≡ map (subsystem point) behind ++ rest
    back =
        filter-append (is_before x) (map (subsystem point) list) rest
        ∙ ap₂ (λ f g. f ++ g)
        (filter_mapped (subsystem point) (is_before x) list
        ∙ ap (map (subsystem point)) (filter_agree (λ t. is_before x (subsystem point t)) (nat_lt s) (λ t. in-point point s t) list))
        (filter_all (is_before x) rest
        (All-weaker (λ (y : RemoteSubsystem). suc point ≤ y.point) (λ y. is_before x y ≡ true) (λ y k. is-first x y k) rest (of-later point rows)))

    here : map (subsystem point) (marked_from 0 (set row s true)) ++ rest ≡ with_subsystem x (map (subsystem point) list ++ rest)
    here =
        let e : 0 + s ≡ s = omega arith in
        ap (λ l. map (subsystem point) l ++ rest) (put-at 0 s row within ∙ ap (λ m. with_number m list) e)
        ∙ ap (λ l. l ++ rest) (map-append (subsystem point) before (s ∷ behind))
        ∙ append_assoc (map (subsystem point) before) (x ∷ map (subsystem point) behind) rest
        ∙ ap₂ (λ f g. f ++ x ∷ g) (sym front) (sym back)
put-sub point (suc k) s (row ∷ rows) h within =
    let e : point + suc k ≡ suc point + k = omega arith in
    rw e (here (put-sub (suc point) k s rows (omega (arith, h)) within))
  where
    y : RemoteSubsystem
    y = subsystem (suc point + k) s

    own : List RemoteSubsystem
    own = map (subsystem point) (marked_from 0 row)

    rest : List RemoteSubsystem
    rest = subsystems_from (suc point) rows

    after : List RemoteSubsystem
    after = subsystems_from (suc point) (set rows k (set (get_or rows k []) s true))

    less : suc point ≤ y.point
    less = omega arith

    front : filter (λ o. is_before o y) (own ++ rest) ≡ own ++ filter (λ o. is_before o y) rest
    front =
        filter-append (λ o. is_before o y) own rest
        ∙ ap (λ f. f ++ filter (λ o. is_before o y) rest)
        (filter_all (λ o. is_before o y) own
        (All-map (λ o. is_before o y ≡ true) (subsystem point) (marked_from 0 row) (λ i d lt. is-first (subsystem point (get_or (marked_from 0 row) i d)) y less)))

    back : filter (is_before y) (own ++ rest) ≡ filter (is_before y) rest
    back =
        filter-append (is_before y) own rest
        ∙ ap (λ f. f ++ filter (is_before y) rest)
        (filter_none (is_before y) own
        (All-map (λ o. is_before y o ≡ false) (subsystem point) (marked_from 0 row) (λ i d lt. isnt-after (subsystem point (get_or (marked_from 0 row) i d)) y less)))

    here : after ≡ with_subsystem y rest → own ++ after ≡ with_subsystem y (own ++ rest)
    here is =
        ap (λ l. own ++ l) is
        ∙ sym (append_assoc own (filter (λ o. is_before o y) rest) (y ∷ filter (is_before y) rest))
        ∙ ap₂ (λ f g. f ++ y ∷ g) (sym front) (sym back)

abbrev pub is_other : ℕ → ℕ → RemoteSubsystem → Bool
is_other point ssn x = not (is_same_subsystem point ssn x)

same-in : (point s t : ℕ) → is_same_subsystem point s (subsystem point t) ≡ (t == s)
same-in point s t = ap (λ a. a && (t == s)) (is-same point)

same-later : (point s : ℕ) (x : RemoteSubsystem) → suc point ≤ x.point → is_same_subsystem point s x ≡ false
same-later point s x h = ap (λ a. a && (x.ssn == s)) (isnt-same point x.point h)

same-earlier : (point s : ℕ) (x : RemoteSubsystem) → suc x.point ≤ point → is_same_subsystem point s x ≡ false
same-earlier point s x h = ap (λ a. a && (x.ssn == s)) (isnt-later x.point point h)

pub take-sub : (point k s : ℕ) (rows : List (List Bool))
    → subsystems_from point (set rows k (set (get_or rows k []) s false)) ≡ filter (is_other (point + k) s) (subsystems_from point rows)
take-sub point k s [] = refl
take-sub point zero s (row ∷ rows) = let e : point + 0 ≡ point = omega arith in rw e here
  where
    list : List ℕ
    list = marked_from 0 row

    rest : List RemoteSubsystem
    rest = subsystems_from (suc point) rows

    here : map (subsystem point) (marked_from 0 (set row s false)) ++ rest ≡ filter (is_other point s) (map (subsystem point) list ++ rest)
    here =
        let e : 0 + s ≡ s = omega arith in
        ap (λ l. map (subsystem point) l ++ rest) (take-at 0 s row ∙ ap (λ m. but_for m list) e)
        ∙ ap₂ (λ f g. f ++ g)
        (ap (map (subsystem point)) (sym (filter_agree (λ t. is_other point s (subsystem point t)) (λ t. not (t == s)) (λ t. ap not (same-in point s t)) list))
        ∙ sym (filter_mapped (subsystem point) (is_other point s) list))
        (sym (filter_all (is_other point s) rest
        (All-weaker (λ (x : RemoteSubsystem). suc point ≤ x.point) (λ x. is_other point s x ≡ true) (λ x k. ap not (same-later point s x k)) rest (of-later point rows))))
        ∙ sym (filter-append (is_other point s) (map (subsystem point) list) rest)
take-sub point (suc k) s (row ∷ rows) =
    let e : point + suc k ≡ suc point + k = omega arith in rw e (here (take-sub (suc point) k s rows))
  where
    at : ℕ
    at = suc point + k

    own : List RemoteSubsystem
    own = map (subsystem point) (marked_from 0 row)

    rest : List RemoteSubsystem
    rest = subsystems_from (suc point) rows

    less : suc point ≤ at
    less = omega arith

    here : subsystems_from (suc point) (set rows k (set (get_or rows k []) s false)) ≡ filter (is_other at s) rest
        → own ++ subsystems_from (suc point) (set rows k (set (get_or rows k []) s false)) ≡ filter (is_other at s) (own ++ rest)
    here is =
        ap₂ (λ f g. f ++ g)
        (sym (filter_all (is_other at s) own
        (All-map (λ x. is_other at s x ≡ true) (subsystem point) (marked_from 0 row) (λ i d lt. ap not (same-earlier at s (subsystem point (get_or (marked_from 0 row) i d)) less)))))
        is
        ∙ sym (filter-append (is_other at s) own rest)

pub has-sub : (point k s : ℕ) (rows : List (List Bool)) → get_or (get_or rows k []) s false ≡ list_any (is_same_subsystem (point + k) s) (subsystems_from point rows)
has-sub point k s [] = refl
has-sub point zero s (row ∷ rows) = let e : point + 0 ≡ point = omega arith in rw e here
  where
    list : List ℕ
    list = marked_from 0 row

    rest : List RemoteSubsystem
    rest = subsystems_from (suc point) rows

    here : get_or row s false ≡ list_any (is_same_subsystem point s) (map (subsystem point) list ++ rest)
    here =
        let e : 0 + s ≡ s = omega arith in
        has-at 0 s row ∙ ap (λ m. is_among m list) e ∙ sym (or-none (is_among s list))
        ∙ ap₂ (λ a b. a || b)
        (sym (any-mapped (subsystem point) (is_same_subsystem point s) (λ t. t == s) list (λ t. same-in point s t)))
        (sym (any-none (is_same_subsystem point s) rest
        (All-weaker (λ (x : RemoteSubsystem). suc point ≤ x.point) (λ x. is_same_subsystem point s x ≡ false) (λ x k. same-later point s x k) rest (of-later point rows))))
        ∙ sym (any-append (is_same_subsystem point s) (map (subsystem point) list) rest)
has-sub point (suc k) s (row ∷ rows) =
    let e : point + suc k ≡ suc point + k = omega arith in rw e (has-sub (suc point) k s rows ∙ here)
  where
    at : ℕ
    at = suc point + k

    own : List RemoteSubsystem
    own = map (subsystem point) (marked_from 0 row)

    rest : List RemoteSubsystem
    rest = subsystems_from (suc point) rows

    less : suc point ≤ at
    less = omega arith

    here : list_any (is_same_subsystem at s) rest ≡ list_any (is_same_subsystem at s) (own ++ rest)
    here =
        ap (λ a. a || list_any (is_same_subsystem at s) rest)
        (sym (any-none (is_same_subsystem at s) own
        (All-map (λ x. is_same_subsystem at s x ≡ false) (subsystem point) (marked_from 0 row) (λ i d lt. same-earlier at s (subsystem point (get_or (marked_from 0 row) i d)) less))))
        ∙ sym (any-append (is_same_subsystem at s) own rest)

-- a point without marks at the end
pub empty-row : (point : ℕ) (rows : List (List Bool)) → subsystems_from point (rows ++ [] ∷ []) ≡ subsystems_from point rows
empty-row point [] = refl
empty-row point (row ∷ rows) = ap (λ l. map (subsystem point) (marked_from 0 row) ++ l) (empty-row (suc point) rows)

-- marks of the same subsystems in the place of others
pub same-row : (point k : ℕ) (rows : List (List Bool)) (row : List Bool) → marked_from 0 row ≡ marked_from 0 (get_or rows k [])
    → subsystems_from point (set rows k row) ≡ subsystems_from point rows
same-row point k [] row same = refl
same-row point zero (first ∷ rows) row same = ap (λ l. map (subsystem point) l ++ subsystems_from (suc point) rows) same
same-row point (suc k) (first ∷ rows) row same = ap (λ l. map (subsystem point) (marked_from 0 first) ++ l) (same-row (suc point) k rows row same)

whole-at : (rows : List (List Bool)) (k : ℕ) → All IsWhole rows → IsWhole (get_or rows k [])
whole-at [] k h = inl refl
whole-at (row ∷ rows) zero h = All-head IsWhole row rows h
whole-at (row ∷ rows) (suc k) h = whole-at rows k (All-tail IsWhole row rows h)
