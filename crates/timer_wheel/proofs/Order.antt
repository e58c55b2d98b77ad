-- Timers in order: what a tree's root parts, and what stays in order.
use Rattle.std.proofs.Common.{◌≡◌, ℕ, suc, ◌+◌, ◌<◌, ◌≤◌, List, [], ◌∷◌, ◌++◌, map, Bool, true, false, not, filter, All, ◌-◌, refl, sym, ap, ap₂, ◌∙◌, append_assoc, arith, subst, cond}
use Rattle.std.specs.Prelude.{◌*◌, nat_le, max, min, if◌then◌else◌, AllPairs}
use Rattle.std.proofs.Math.Nat.{min-le_left, min-le_right}
use Rattle.std.proofs.lemmas.List.Elements.{All-nil, All-cons, All-head, All-tail, All-append, All-filter, All-weaker, All-map, filter-append}
use Rattle.std.proofs.lemmas.List.{append-nil, map-append}
use Rattle.std.proofs.lemmas.List.Kept.{AllPairs-cons}
use Rattle.timer_wheel.specs.declared.due.Due.{Due}
use Rattle.timer_wheel.specs.declared.due.Alarm.{Alarm}
use Rattle.timer_wheel.specs.Order.{is_before}
use Rattle.timer_wheel.specs.Inner.Tree.{before, behind, fires, not_fires, recounted, started_again, Rises}

pub filter_all : {X : Type 0} (test : X → Bool) (xs : List X) → All (λ x. test x ≡ true) xs → filter test xs ≡ xs
filter_all test [] h = refl
filter_all test (x ∷ xs) h = rw (All-head (λ x. test x ≡ true) x xs h) (ap (λ l. x ∷ l) (filter_all test xs (All-tail (λ x. test x ≡ true) x xs h)))

pub filter_none : {X : Type 0} (test : X → Bool) (xs : List X) → All (λ x. test x ≡ false) xs → filter test xs ≡ []
filter_none test [] h = refl
filter_none test (x ∷ xs) h = rw (All-head (λ x. test x ≡ false) x xs h) (filter_none test xs (All-tail (λ x. test x ≡ false) x xs h))

late : (tick soonest at : ℕ) → tick < soonest → soonest ≤ at → nat_le at tick ≡ false
late tick soonest at early bound = grind (arith, early, bound)

-- before the soonest tick nothing fires
pub none_fires : (alarms : List Alarm) (tick soonest : ℕ) → All (λ a. soonest ≤ a.tick) alarms → tick < soonest → filter (fires tick) alarms ≡ []
none_fires alarms tick soonest h early =
    filter_none (fires tick) alarms (All-weaker (λ (a : Alarm). soonest ≤ a.tick) (λ a. fires tick a ≡ false) (λ a bound. late tick soonest a.tick early bound) alarms h)

pub all_stay : (alarms : List Alarm) (tick soonest : ℕ) → All (λ a. soonest ≤ a.tick) alarms → tick < soonest → filter (not_fires tick) alarms ≡ alarms
all_stay alarms tick soonest h early =
    filter_all (not_fires tick) alarms
    (All-weaker (λ (a : Alarm). soonest ≤ a.tick) (λ a. not_fires tick a ≡ true) (λ a bound. ap not (late tick soonest a.tick early bound)) alarms h)

-- those that stay of a whole are those of its parts
pub stay_parted : (tick : ℕ) (all left : List Alarm) (x : Alarm) (right before after : List Alarm) → all ≡ left ++ x ∷ right
    → before ≡ filter (not_fires tick) left → after ≡ filter (not_fires tick) right → before ++ filter (not_fires tick) (x ∷ []) ++ after ≡ filter (not_fires tick) all
stay_parted tick all left x right before after is first later =
    rw (is, first, later)
    (append_assoc (filter (not_fires tick) left) (filter (not_fires tick) (x ∷ [])) (filter (not_fires tick) right)
    ∙ ap (λ l. filter (not_fires tick) left ++ l) (sym (filter-append (not_fires tick) (x ∷ []) right))
    ∙ sym (filter-append (not_fires tick) left (x ∷ right)))

-- before the soonest tick none is started again
pub none_again : (alarms : List Alarm) (tick most soonest : ℕ) → All (λ a. soonest ≤ a.tick) alarms → tick < soonest → map (started_again tick most) alarms ≡ alarms
none_again [] tick most soonest h early = refl
none_again (x ∷ alarms) tick most soonest h early =
    let none = late tick soonest x.tick early (All-head (λ (a : Alarm). soonest ≤ a.tick) x alarms h) in
    ap₂ (λ b l. let a : Alarm =
    record { due = x.due; tick = if b then tick + max 1 (min (2 * x.interval) most) else x.tick; interval = if b then min (2 * x.interval) most else x.interval } in a ∷ l)
    none (none_again alarms tick most soonest (All-tail (λ (a : Alarm). soonest ≤ a.tick) x alarms h) early)

pub before-trans : (a b c : Due) → is_before a b ≡ true → is_before b c ≡ true → is_before a c ≡ true
before-trans a b c h k = grind (arith, h, k)

pub before-asym : (a b : Due) → is_before a b ≡ true → is_before b a ≡ false
before-asym a b h = grind (arith, h)

pub neither-same : (a b : Due) → is_before a b ≡ false → is_before b a ≡ false → a ≡ b
neither-same a b h k = grind (arith, h, k)

pub head_of : {X : Type 0} (R : X → X → Type 0) (x : X) (xs : List X) → AllPairs R (x ∷ xs) → All (R x) xs
head_of R x xs h = λ k d below. h 0 (suc k) d (omega arith) (omega (arith, below))

pub tail_of : {X : Type 0} (R : X → X → Type 0) (x : X) (xs : List X) → AllPairs R (x ∷ xs) → AllPairs R xs
tail_of R x xs h = λ i j d under below. h (suc i) (suc j) d (omega (arith, under)) (omega (arith, below))

all_front : {X : Type 0} (P : X → Type 0) (xs ys : List X) → All P (xs ++ ys) → All P xs
all_front P [] ys h = All-nil P
all_front P (x ∷ xs) ys h = All-cons P x xs (All-head P x (xs ++ ys) h) (all_front P xs ys (All-tail P x (xs ++ ys) h))

all_rest : {X : Type 0} (P : X → Type 0) (xs ys : List X) → All P (xs ++ ys) → All P ys
all_rest P [] ys h = h
all_rest P (x ∷ xs) ys h = all_rest P xs ys (All-tail P x (xs ++ ys) h)

-- an ordered list at one of its items
pub record OrderedAt {X : Type 0} (R : X → X → Type 0) (left : List X) (x : X) (right : List X) : Type 0 where
  pub left_ordered : AllPairs R left
  pub right_ordered : AllPairs R right
  pub below : All (λ a. R a x) left
  pub above : All (R x) right

pub ordered_at : {X : Type 0} (R : X → X → Type 0) (left : List X) (x : X) (right : List X) → AllPairs R (left ++ x ∷ right) → OrderedAt R left x right
ordered_at R [] x right h = record {
  left_ordered = λ i j d under below. absurd (omega (arith, below));
  right_ordered = tail_of R x right h;
  below = All-nil (λ a. R a x);
  above = head_of R x right h;
}
ordered_at R (y ∷ left) x right h =
    let rest = ordered_at R left x right (tail_of R y (left ++ x ∷ right) h) in
    let later = head_of R y (left ++ x ∷ right) h in
    record {
      left_ordered = AllPairs-cons R y left (all_front (R y) left (x ∷ right) later) rest.left_ordered;
      right_ordered = rest.right_ordered;
      below = All-cons (λ a. R a x) y left (All-head (R y) x right (all_rest (R y) left (x ∷ right) later)) rest.below;
      above = rest.above;
    }

-- what stands before a timer, and what behind it
pub record Parted (due : Due) (all front back : List Alarm) : Type 0 where
  pub front_is : before due all ≡ front
  pub back_is : behind due all ≡ back

kept_with : {X : Type 0} (test : X → Bool) (left : List X) (x : X) (right : List X) → test x ≡ true → filter test (left ++ x ∷ right) ≡ filter test left ++ x ∷ filter test right
kept_with test left x right h = filter-append test left (x ∷ right) ∙ ap (λ b. filter test left ++ cond b (x ∷ filter test right) (filter test right)) h

kept_without : {X : Type 0} (test : X → Bool) (left : List X) (x : X) (right : List X) → test x ≡ false → filter test (left ++ x ∷ right) ≡ filter test left ++ filter test right
kept_without test left x right h = filter-append test left (x ∷ right) ∙ ap (λ b. filter test left ++ cond b (x ∷ filter test right) (filter test right)) h

right_parts : (due : Due) (left : List Alarm) (x : Alarm) (right : List Alarm) → Rises (left ++ x ∷ right) → is_before x.due due ≡ true
    → Parted due (left ++ x ∷ right) (left ++ x ∷ before due right) (behind due right)
right_parts due left x right h first =
    let at = ordered_at (λ a b. is_before a.due b.due ≡ true) left x right h in
    let early : All (λ a. is_before a.due due ≡ true) left =
    All-weaker (λ (a : Alarm). is_before a.due x.due ≡ true) (λ a. is_before a.due due ≡ true) (λ a k. before-trans a.due x.due due k first) left at.below in
    record {
      front_is = kept_with (λ a. is_before a.due due) left x right first ∙ ap (λ l. l ++ x ∷ before due right) (filter_all (λ a. is_before a.due due) left early);
      back_is = kept_without (λ a. is_before due a.due) left x right (before-asym x.due due first)
          ∙ ap (λ l. l ++ behind due right)
          (filter_none (λ a. is_before due a.due) left
          (All-weaker (λ (a : Alarm). is_before a.due due ≡ true) (λ a. is_before due a.due ≡ false) (λ a k. before-asym a.due due k) left early));
    }

left_parts : (due : Due) (left : List Alarm) (x : Alarm) (right : List Alarm) → Rises (left ++ x ∷ right) → is_before due x.due ≡ true
    → Parted due (left ++ x ∷ right) (before due left) (behind due left ++ x ∷ right)
left_parts due left x right h later =
    let at = ordered_at (λ a b. is_before a.due b.due ≡ true) left x right h in
    let late : All (λ a. is_before due a.due ≡ true) right =
    All-weaker (λ (a : Alarm). is_before x.due a.due ≡ true) (λ a. is_before due a.due ≡ true) (λ a k. before-trans due x.due a.due later k) right at.above in
    record {
      front_is = kept_without (λ a. is_before a.due due) left x right (before-asym due x.due later)
          ∙ ap (λ l. before due left ++ l)
          (filter_none (λ a. is_before a.due due) right
          (All-weaker (λ (a : Alarm). is_before due a.due ≡ true) (λ a. is_before a.due due ≡ false) (λ a k. before-asym due a.due k) right late))
          ∙ append-nil (before due left);
      back_is = kept_with (λ a. is_before due a.due) left x right later
          ∙ ap (λ l. behind due left ++ x ∷ l) (filter_all (λ a. is_before due a.due) right late);
    }

root_parts : (due : Due) (left : List Alarm) (x : Alarm) (right : List Alarm) → Rises (left ++ x ∷ right) → is_before x.due due ≡ false → is_before due x.due ≡ false
    → Parted due (left ++ x ∷ right) left right
root_parts due left x right h not_first not_later =
    let at = ordered_at (λ a b. is_before a.due b.due ≡ true) left x right h in
    let same = neither-same x.due due not_first not_later in
    let early : All (λ a. is_before a.due due ≡ true) left = subst (λ k. All (λ (a : Alarm). is_before a.due k ≡ true) left) same at.below in
    let late : All (λ a. is_before due a.due ≡ true) right = subst (λ k. All (λ (a : Alarm). is_before k a.due ≡ true) right) same at.above in
    record {
      front_is = kept_without (λ a. is_before a.due due) left x right not_first
          ∙ ap₂ (λ l r. l ++ r) (filter_all (λ a. is_before a.due due) left early)
          (filter_none (λ a. is_before a.due due) right
          (All-weaker (λ (a : Alarm). is_before due a.due ≡ true) (λ a. is_before a.due due ≡ false) (λ a k. before-asym due a.due k) right late))
          ∙ append-nil left;
      back_is = kept_without (λ a. is_before due a.due) left x right not_later
          ∙ ap₂ (λ l r. l ++ r)
          (filter_none (λ a. is_before due a.due) left
          (All-weaker (λ (a : Alarm). is_before a.due due ≡ true) (λ a. is_before due a.due ≡ false) (λ a k. before-asym a.due due k) left early))
          (filter_all (λ a. is_before due a.due) right late);
    }

pub recounted_bound : (left right : List Alarm) (x : Alarm) (soonest ticks : ℕ) → All (λ a. soonest ≤ a.tick) (left ++ x ∷ right)
    → All (λ a. soonest - ticks ≤ a.tick) (map (recounted ticks) left ++ recounted ticks x ∷ map (recounted ticks) right)
recounted_bound left right x soonest ticks h =
    subst (All (λ a. soonest - ticks ≤ a.tick)) (map-append (recounted ticks) left (x ∷ right))
    (All-map (λ a. soonest - ticks ≤ a.tick) (recounted ticks) (left ++ x ∷ right)
    (All-weaker (λ (a : Alarm). soonest ≤ a.tick) (λ a. soonest - ticks ≤ a.tick - ticks) (λ a k. omega (arith, k)) (left ++ x ∷ right) h))

pub right_parted : (due : Due) (all left : List Alarm) (x : Alarm) (right : List Alarm) → all ≡ left ++ x ∷ right → Rises all → is_before x.due due ≡ true
    → Parted due all (left ++ x ∷ before due right) (behind due right)
right_parted due all left x right is h first = rw is (right_parts due left x right (rw is at h) first)

pub left_parted : (due : Due) (all left : List Alarm) (x : Alarm) (right : List Alarm) → all ≡ left ++ x ∷ right → Rises all → is_before due x.due ≡ true
    → Parted due all (before due left) (behind due left ++ x ∷ right)
left_parted due all left x right is h later = rw is (left_parts due left x right (rw is at h) later)

pub root_parted : (due : Due) (all left : List Alarm) (x : Alarm) (right : List Alarm) → all ≡ left ++ x ∷ right → Rises all → is_before x.due due ≡ false → is_before due x.due ≡ false
    → Parted due all left right
root_parted due all left x right is h not_first not_later = rw is (root_parts due left x right (rw is at h) not_first not_later)

pub rising_at : (all left : List Alarm) (x : Alarm) (right : List Alarm) → all ≡ left ++ x ∷ right → Rises all → OrderedAt (λ a b. is_before a.due b.due ≡ true) left x right
rising_at all left x right is h = ordered_at (λ a b. is_before a.due b.due ≡ true) left x right (rw is at h)

-- a side is changed at a timer as the whole is
pub right_again : (due : Due) (here all left : List Alarm) (x : Alarm) (right new : List Alarm) → all ≡ left ++ x ∷ right → Rises all → is_before x.due due ≡ true
    → new ≡ before due right ++ (here ++ behind due right) → left ++ x ∷ new ≡ before due all ++ (here ++ behind due all)
right_again due here all left x right new is h first changed =
    let parted = right_parted due all left x right is h first in
    ap (λ l. left ++ x ∷ l) changed ∙ sym (append_assoc left (x ∷ before due right) (here ++ behind due right))
    ∙ ap₂ (λ f b. f ++ (here ++ b)) (sym parted.front_is) (sym parted.back_is)

pub left_again : (due : Due) (here all left : List Alarm) (x : Alarm) (right new : List Alarm) → all ≡ left ++ x ∷ right → Rises all → is_before due x.due ≡ true
    → new ≡ before due left ++ (here ++ behind due left) → new ++ x ∷ right ≡ before due all ++ (here ++ behind due all)
left_again due here all left x right new is h later changed =
    let parted = left_parted due all left x right is h later in
    ap (λ l. l ++ x ∷ right) changed ∙ append_assoc (before due left) (here ++ behind due left) (x ∷ right)
    ∙ ap (λ l. before due left ++ l) (append_assoc here (behind due left) (x ∷ right))
    ∙ ap₂ (λ f b. f ++ (here ++ b)) (sym parted.front_is) (sym parted.back_is)

-- what holds of all and of what is put in their midst holds of what comes of it
pub all_again : (P : Alarm → Type 0) (due : Due) (here all : List Alarm) → All P here → All P all → All P (before due all ++ (here ++ behind due all))
all_again P due here all new h =
    All-append P (before due all) (here ++ behind due all) (All-filter (λ a. is_before a.due due) P all h)
    (All-append P here (behind due all) new (All-filter (λ a. is_before due a.due) P all h))

-- none fires before the soonest that was, or that came
pub soonest_again : (due : Due) (here all new : List Alarm) (soonest came : ℕ) → All (λ a. came ≤ a.tick) here → All (λ a. soonest ≤ a.tick) all
    → new ≡ before due all ++ (here ++ behind due all) → All (λ a. min soonest came ≤ a.tick) new
soonest_again due here all new soonest came later h is =
    subst (All (λ a. min soonest came ≤ a.tick)) (sym is)
    (all_again (λ a. min soonest came ≤ a.tick) due here all
    (All-weaker (λ (a : Alarm). came ≤ a.tick) (λ a. min soonest came ≤ a.tick) (λ a k. omega (arith, k, min-le_right soonest came)) here later)
    (All-weaker (λ (a : Alarm). soonest ≤ a.tick) (λ a. min soonest came ≤ a.tick) (λ a k. omega (arith, k, min-le_left soonest came)) all h))
