-- What is seen of the timers after each call.
use Rattle.std.proofs.Common.{◌≡◌, ℕ, ◌+◌, ◌-◌, ◌<◌, ◌≤◌, List, [], ◌∷◌, ◌++◌, length, length-append, get_or, map, Bool, true, false, not, cond, filter, All, refl, sym, ap, ap₂, ◌∙◌, arith}
use Rattle.std.specs.Prelude.{◌==◌, ◌&&◌, ◌*◌, nat_le, max, min, if◌then◌else◌, AllPairs}
use Rattle.std.proofs.lemmas.List.Elements.{All-nil, All-cons, All-head, All-tail, All-append, All-weaker, All-map, filter_passes}
use Rattle.std.proofs.lemmas.List.Kept.{AllPairs-cons, AllPairs-filter}
use Rattle.std.proofs.lemmas.List.{map-append, length-map}
use Rattle.timer_wheel.specs.declared.due.Due.{Due}
use Rattle.timer_wheel.specs.declared.due.Alarm.{Alarm}
use Rattle.timer_wheel.specs.Order.{is_before}
use Rattle.timer_wheel.specs.Timers.{Armed, is_timer, others, with_armed, due_now, lowered, after_tick, again, after_tick_again, IsRising, AreRunning}
use Rattle.timer_wheel.specs.Inner.Tree.{before, behind, fires, not_fires, recounted, started_again, Rises}
use Rattle.timer_wheel.specs.Inner.Turning.{left_at, armed_at}
use Rattle.timer_wheel.proofs.Order.{before-trans, before-asym, filter_none, head_of, tail_of}

filter_mapped : {X Y : Type 0} (f : X → Y) (test : Y → Bool) (xs : List X) → filter test (map f xs) ≡ map f (filter (λ x. test (f x)) xs)
filter_mapped f test [] = refl
filter_mapped f test (x ∷ xs) = by_test (test (f x)) (filter_mapped f test xs)
  where
    by_test : (b : Bool) → filter test (map f xs) ≡ map f (filter (λ x. test (f x)) xs)
        → cond b (f x ∷ filter test (map f xs)) (filter test (map f xs)) ≡ map f (cond b (x ∷ filter (λ x. test (f x)) xs) (filter (λ x. test (f x)) xs))
    by_test true rest = ap (λ l. f x ∷ l) rest
    by_test false rest = rest

pub with_at : (now ticks interval : ℕ) (due : Due) (list : List Alarm)
    → with_armed (record { due = due; ticks = ticks; interval = interval }) (armed_at now list)
    ≡ armed_at now (before due list ++ record { due = due; tick = now + ticks; interval = interval } ∷ behind due list)
with_at now ticks interval due list =
    let all : now + ticks - now ≡ ticks = omega arith in
    ap₂ (λ l r. l ++ record { due = due; ticks = ticks; interval = interval } ∷ r) (filter_mapped (left_at now) (λ a. is_before a.due due) list)
    (filter_mapped (left_at now) (λ a. is_before due a.due) list)
    ∙ ap (λ n. armed_at now (before due list) ++ record { due = due; ticks = n; interval = interval } ∷ armed_at now (behind due list)) (sym all)
    ∙ sym (map-append (left_at now) (before due list) (record { due = due; tick = now + ticks; interval = interval } ∷ behind due list))

not_same : Due → Alarm → Bool
not_same due a = not (a.due.conn == due.conn && a.due.timer == due.timer)

first_other : (due : Due) (a : Alarm) → is_before a.due due ≡ true → not_same due a ≡ true
unfolding not_same
first_other due a h = grind (arith, h)

later_other : (due : Due) (a : Alarm) → is_before due a.due ≡ true → not_same due a ≡ true
unfolding not_same
later_other due a h = grind (arith, h)

neither_other : (due : Due) (a : Alarm) → is_before a.due due ≡ false → is_before due a.due ≡ false → not_same due a ≡ false
unfolding not_same
neither_other due a h k = grind (arith, h, k)

-- in order, the others are those before it and those behind it
apart : (due : Due) (list : List Alarm) → Rises list → filter (not_same due) list ≡ before due list ++ behind due list
apart due [] h = refl
apart due (x ∷ list) h =
    by_test (apart due list (tail_of (λ a b. is_before a.due b.due ≡ true) x list h)) (is_before x.due due) refl (is_before due x.due) refl
  where
    by_test : filter (not_same due) list ≡ before due list ++ behind due list → (b : Bool) → is_before x.due due ≡ b → (b' : Bool) → is_before due x.due ≡ b'
        → filter (not_same due) (x ∷ list) ≡ before due (x ∷ list) ++ behind due (x ∷ list)
    by_test rest true first b' e =
        let late = before-asym x.due due first in
        rw (first_other due x first, first, late) (ap (λ l. x ∷ l) rest)
    by_test rest false e true later =
        let none : before due list ≡ [] = filter_none (λ a. is_before a.due due) list
        (All-weaker (λ (a : Alarm). is_before x.due a.due ≡ true) (λ a. is_before a.due due ≡ false)
        (λ a k. before-asym due a.due (before-trans due x.due a.due later k)) list (head_of (λ a b. is_before a.due b.due ≡ true) x list h)) in
        rw (later_other due x later, e, later) (ap (λ l. x ∷ l) rest ∙ rw none refl)
    by_test rest false e false e' = rw (neither_other due x e e', e, e') rest

pub others_at : (now : ℕ) (due : Due) (list : List Alarm) → Rises list → others due (armed_at now list) ≡ armed_at now (before due list ++ behind due list)
unfolding not_same
others_at now due list h = filter_mapped (left_at now) (λ a. not (is_timer due a)) list ∙ ap (armed_at now) (apart due list h)

pub others_count : (now : ℕ) (due : Due) (list : List Alarm) → Rises list → length (others due (armed_at now list)) ≡ length (before due list) + length (behind due list)
others_count now due list h =
    ap length (others_at now due list h) ∙ length-map (before due list ++ behind due list) (left_at now) ∙ length-append (before due list) (behind due list)

pairs_append : {X : Type 0} (R : X → X → Type 0) (xs ys : List X) → AllPairs R xs → AllPairs R ys → All (λ x. All (R x) ys) xs → AllPairs R (xs ++ ys)
pairs_append R [] ys h k between = k
pairs_append R (x ∷ xs) ys h k between =
    AllPairs-cons R x (xs ++ ys) (All-append (R x) xs ys (head_of R x xs h) (All-head (λ x. All (R x) ys) x xs between))
    (pairs_append R xs ys (tail_of R x xs h) k (All-tail (λ x. All (R x) ys) x xs between))

between : (due : Due) (list : List Alarm) → All (λ a. All (λ b. is_before a.due b.due ≡ true) (behind due list)) (before due list)
between due list =
    All-weaker (λ (a : Alarm). is_before a.due due ≡ true) (λ a. All (λ b. is_before a.due b.due ≡ true) (behind due list))
    (λ a first. All-weaker (λ (b : Alarm). is_before due b.due ≡ true) (λ b. is_before a.due b.due ≡ true) (λ b later. before-trans a.due due b.due first later)
    (behind due list) (filter_passes (λ b. is_before due b.due) list))
    (before due list) (filter_passes (λ a. is_before a.due due) list)

pub rises_without : (due : Due) (list : List Alarm) → Rises list → Rises (before due list ++ behind due list)
rises_without due list h =
    let R : Alarm → Alarm → Type 0 = λ a b. is_before a.due b.due ≡ true in
    pairs_append R (before due list) (behind due list) (AllPairs-filter R (λ a. is_before a.due due) list h) (AllPairs-filter R (λ a. is_before due a.due) list h) (between due list)

pub rises_with : (x : Alarm) (list : List Alarm) → Rises list → Rises (before x.due list ++ x ∷ behind x.due list)
rises_with x list h =
    let R : Alarm → Alarm → Type 0 = λ a b. is_before a.due b.due ≡ true in
    let back = behind x.due list in
    pairs_append R (before x.due list) (x ∷ back) (AllPairs-filter R (λ a. is_before a.due x.due) list h)
    (AllPairs-cons R x back (filter_passes (λ b. is_before x.due b.due) list) (AllPairs-filter R (λ a. is_before x.due a.due) list h))
    (λ k d below. All-cons (R (get_or (before x.due list) k d)) x back (filter_passes (λ a. is_before a.due x.due) list k d below) (between x.due list k d below))

-- one tick is left of what fires at the next
one_left : (now at : ℕ) → now < at → (at - now == 1) ≡ nat_le at (now + 1)
one_left now at h = grind (arith, h)

pub due_at : (now : ℕ) (list : List Alarm) → All (λ a. now < a.tick) list → due_now (armed_at now list) ≡ map (λ a. a.due) (filter (fires (now + 1)) list)
due_at now [] h = refl
due_at now (x ∷ list) h =
    rw (one_left now x.tick (All-head (λ (a : Alarm). now < a.tick) x list h))
    (by_test (nat_le x.tick (now + 1)) (due_at now list (All-tail (λ (a : Alarm). now < a.tick) x list h)))
  where
    by_test : (b : Bool) → due_now (armed_at now list) ≡ map (λ a. a.due) (filter (fires (now + 1)) list)
        → map (λ a. a.due) (cond b (left_at now x ∷ filter (λ a. a.ticks == 1) (armed_at now list)) (filter (λ a. a.ticks == 1) (armed_at now list)))
        ≡ map (λ a. a.due) (cond b (x ∷ filter (fires (now + 1)) list) (filter (fires (now + 1)) list))
    by_test true rest = ap (λ l. x.due ∷ l) rest
    by_test false rest = rest

pub after_at : (now : ℕ) (list : List Alarm) → All (λ a. now < a.tick) list → after_tick (armed_at now list) ≡ armed_at (now + 1) (filter (not_fires (now + 1)) list)
after_at now [] h = refl
after_at now (x ∷ list) h =
    rw (one_left now x.tick (All-head (λ (a : Alarm). now < a.tick) x list h))
    (by_test (nat_le x.tick (now + 1)) (after_at now list (All-tail (λ (a : Alarm). now < a.tick) x list h)))
  where
    by_test : (b : Bool) → after_tick (armed_at now list) ≡ armed_at (now + 1) (filter (not_fires (now + 1)) list)
        → map lowered
        (cond (not b) (left_at now x ∷ filter (λ a. not (a.ticks == 1)) (armed_at now list)) (filter (λ a. not (a.ticks == 1)) (armed_at now list)))
        ≡ armed_at (now + 1) (cond (not b) (x ∷ filter (not_fires (now + 1)) list) (filter (not_fires (now + 1)) list))
    by_test true rest = rest
    by_test false rest =
        let less : x.tick - now - 1 ≡ x.tick - (now + 1) = omega arith in
        ap₂ (λ n l. record { due = x.due; ticks = n; interval = x.interval } ∷ l) less rest

later_stays : (tick at : ℕ) → not (nat_le at tick) ≡ true → tick < at
later_stays tick at h = grind (arith, h)

pub later_after : (tick : ℕ) (list : List Alarm) → All (λ a. tick < a.tick) (filter (not_fires tick) list)
later_after tick list =
    All-weaker (λ (a : Alarm). not_fires tick a ≡ true) (λ a. tick < a.tick) (λ a h. later_stays tick a.tick h) (filter (not_fires tick) list)
    (filter_passes (not_fires tick) list)

-- a timer that a tick starts again
one_again : (now most : ℕ) (x : Alarm) → now < x.tick → left_at (now + 1) (started_again (now + 1) most x) ≡ after_tick_again most (left_at now x)
one_again now most x h = by_test (nat_le x.tick (now + 1)) ∙ sym (ap stepped (one_left now x.tick h))
  where
    n : ℕ
    n = min (2 * x.interval) most

    stepped : Bool → Armed
    stepped b = if b then again n (left_at now x) else lowered (left_at now x)

    started : Bool → Alarm
    started b = record { due = x.due; tick = if b then now + 1 + max 1 n else x.tick; interval = if b then n else x.interval }

    by_test : (b : Bool) → left_at (now + 1) (started b) ≡ stepped b
    by_test true =
        let all : now + 1 + max 1 n - (now + 1) ≡ max 1 n = omega arith in
        ap (λ ticks. let a : Armed = record { due = x.due; ticks = ticks; interval = n } in a) all
    by_test false =
        let less : x.tick - (now + 1) ≡ x.tick - now - 1 = omega arith in
        ap (λ ticks. let a : Armed = record { due = x.due; ticks = ticks; interval = x.interval } in a) less

pub again_at : (now most : ℕ) (list : List Alarm) → All (λ a. now < a.tick) list
    → armed_at (now + 1) (map (started_again (now + 1) most) list) ≡ map (after_tick_again most) (armed_at now list)
again_at now most [] h = refl
again_at now most (x ∷ list) h =
    ap₂ (λ a l. a ∷ l) (one_again now most x (All-head (λ (a : Alarm). now < a.tick) x list h))
    (again_at now most list (All-tail (λ (a : Alarm). now < a.tick) x list h))

later_one : (tick most at interval : ℕ) → tick < (if nat_le at tick then tick + max 1 (min (2 * interval) most) else at)
later_one tick most at interval = grind arith

pub later_again : (tick most : ℕ) (list : List Alarm) → All (λ a. tick < a.tick) (map (started_again tick most) list)
later_again tick most [] = All-nil (λ (a : Alarm). tick < a.tick)
later_again tick most (x ∷ list) =
    All-cons (λ (a : Alarm). tick < a.tick) (started_again tick most x) (map (started_again tick most) list)
    (later_one tick most x.tick x.interval) (later_again tick most list)

pub recounted_at : (now : ℕ) (list : List Alarm) → armed_at 0 (map (recounted now) list) ≡ armed_at now list
recounted_at now [] = refl
recounted_at now (x ∷ list) =
    let none : x.tick - now - 0 ≡ x.tick - now = omega arith in ap₂ (λ n l. record { due = x.due; ticks = n; interval = x.interval } ∷ l) none (recounted_at now list)

pub later_recounted : (now : ℕ) (list : List Alarm) → All (λ a. now < a.tick) list → All (λ a. 0 < a.tick) (map (recounted now) list)
later_recounted now list h =
    All-map (λ (a : Alarm). 0 < a.tick) (recounted now) list (All-weaker (λ (a : Alarm). now < a.tick) (λ a. 0 < a.tick - now) (λ a k. omega (arith, k)) list h)

pairs_map : {X Y : Type 0} (R : Y → Y → Type 0) (f : X → Y) (xs : List X) → AllPairs (λ a b. R (f a) (f b)) xs → AllPairs R (map f xs)
pairs_map R f [] h = λ i j d under below. absurd (omega (arith, below))
pairs_map R f (x ∷ xs) h =
    AllPairs-cons R (f x) (map f xs) (All-map (R (f x)) f xs (head_of (λ a b. R (f a) (f b)) x xs h)) (pairs_map R f xs (tail_of (λ a b. R (f a) (f b)) x xs h))

pub rises_recounted : (now : ℕ) (list : List Alarm) → Rises list → Rises (map (recounted now) list)
rises_recounted now list h = pairs_map (λ (a b : Alarm). is_before a.due b.due ≡ true) (recounted now) list h

pub rises_again : (tick most : ℕ) (list : List Alarm) → Rises list → Rises (map (started_again tick most) list)
rises_again tick most list h = pairs_map (λ (a b : Alarm). is_before a.due b.due ≡ true) (started_again tick most) list h

pub rising_at : (now : ℕ) (list : List Alarm) → Rises list → IsRising (armed_at now list)
rising_at now list h = pairs_map (λ (a b : Armed). is_before a.due b.due ≡ true) (left_at now) list h

pub running_at : (now : ℕ) (list : List Alarm) → All (λ a. now < a.tick) list → AreRunning (armed_at now list)
running_at now list h =
    All-map (λ (a : Armed). 1 ≤ a.ticks) (left_at now) list (All-weaker (λ (a : Alarm). now < a.tick) (λ a. 1 ≤ a.tick - now) (λ a k. omega (arith, k)) list h)
