-- Status tests that run as timers, and what a tick does with them.
use Rattle.std.proofs.Common.{◌≡◌, ℕ, ◌-◌, ◌*◌, ◌<◌, ◌≤◌, ◌==◌, nat_lt, not, IsTrue, Bool, true, false, cond, List, [], ◌∷◌, ◌++◌, map, filter, length, pred, min, max, refl, ap, ap₂, sym, ◌∙◌, arith, if◌then◌else◌, All}
use Rattle.std.proofs.lemmas.List.{map-append}
use Rattle.std.proofs.lemmas.List.Elements.{All-nil, All-head, All-tail, All-cons, All-append, All-filter, All-map}
use Rattle.std.proofs.lemmas.List.Sums.{length-filter, count_by-le-length}
use Rattle.plant_core.specs.declared.terms.Ticks.{Ticks}
use Rattle.timer_wheel.specs.declared.due.Due.{Due}
use Rattle.timer_wheel.specs.Order.{is_before}
use Rattle.timer_wheel.specs.Timers.{Armed, with_interval, before, behind, others, is_timer, due_now, lowered, again, after_tick_again, AreRunning}
use Rattle.scmg.specs.Control.{StatusTest, is_due_test, is_test_before, subsystem_of, test_begun, test_after_tick, with_test, next_interval}
use Rattle.scmg.specs.Inner.Tests.{test_of, subsystem_at}

-- the tests of the timers that pass are those that pass
pub kept : (q : StatusTest → Bool) (armed : List Armed) → map test_of (filter (λ a. q (test_of a)) armed) ≡ filter q (map test_of armed)
kept q [] = refl
kept q (a ∷ armed) = by (q (test_of a)) (kept q armed)
  where
    by : (b : Bool) → map test_of (filter (λ a. q (test_of a)) armed) ≡ filter q (map test_of armed)
        → map test_of (cond b (a ∷ filter (λ a. q (test_of a)) armed) (filter (λ a. q (test_of a)) armed))
        ≡ cond b (test_of a ∷ filter q (map test_of armed)) (filter q (map test_of armed))
    by true rest = ap (λ tests. test_of a ∷ tests) rest
    by false rest = rest

-- a timer that starts with an interval has its test
begun-left : (n : ℕ) → max 1 n - 1 ≡ pred n
begun-left n = omega arith

begun-test : (due : Due) (n : ℕ) → test_of (record { due = due; ticks = max 1 n; interval = n }) ≡ test_begun n due.conn due.timer
begun-test due n = ap (λ left. let t : StatusTest = record { point = due.conn; ssn = due.timer; left = left; interval = n } in t) (begun-left n)

-- a test that begins
pub begun : (due : Due) (n : ℕ) (armed : List Armed) → map test_of (with_interval due n armed) ≡ with_test (test_begun n due.conn due.timer) (map test_of armed)
begun due n armed =
    let t = test_begun n due.conn due.timer in
    let front = kept (λ other. is_test_before other t) armed in
    let back = kept (is_test_before t) armed in
    map-append test_of (before due armed) (record { due = due; ticks = max 1 n; interval = n } ∷ behind due armed)
    ∙ ap₂ (λ xs ys. xs ++ ys) front (ap₂ (λ x xs. x ∷ xs) (begun-test due n) back)

due-by : (ticks : ℕ) → 1 ≤ ticks → (ticks - 1 == 0) ≡ (ticks == 1)
due-by ticks h = grind (arith, h)

-- the subsystems of timers that are due
pub due-subsystems : (armed : List Armed) → AreRunning armed → map subsystem_at (due_now armed) ≡ map subsystem_of (filter is_due_test (map test_of armed))
due-subsystems [] running = refl
due-subsystems (a ∷ more) running =
    by (a.ticks == 1) (due-subsystems more (All-tail (λ (a : Armed). 1 ≤ a.ticks) a more running))
    ∙ ap (λ b. map subsystem_of (cond b (test_of a ∷ later) later)) (sym (due-by a.ticks (All-head (λ (a : Armed). 1 ≤ a.ticks) a more running)))
  where
    later : List StatusTest
    later = filter is_due_test (map test_of more)

    by : (b : Bool) → map subsystem_at (due_now more) ≡ map subsystem_of later
        → map subsystem_at (map (λ a. a.due) (cond b (a ∷ filter (λ a. a.ticks == 1) more) (filter (λ a. a.ticks == 1) more)))
        ≡ map subsystem_of (cond b (test_of a ∷ later) later)
    by true rest = ap (λ l. subsystem_at a.due ∷ l) rest
    by false rest = rest

-- how a tick leaves a test
ticked-one : (ticks : Ticks) (a : Armed) → 1 ≤ a.ticks → test_of (after_tick_again ticks.status_max a) ≡ test_after_tick ticks (test_of a)
ticked-one ticks a runs = by (a.ticks == 1) ∙ sym (ap stepped (due-by a.ticks runs))
  where
    n : ℕ
    n = next_interval ticks (test_of a)

    stepped : Bool → StatusTest
    stepped b = if b then test_begun n a.due.conn a.due.timer else record (test_of a) { left = pred (a.ticks - 1) }

    by : (b : Bool) → test_of (if b then again n a else lowered a) ≡ stepped b
    by true = begun-test a.due n
    by false =
        let less : a.ticks - 1 - 1 ≡ pred (a.ticks - 1) = omega arith in
        ap (λ left. let t : StatusTest = record { point = a.due.conn; ssn = a.due.timer; left = left; interval = a.interval } in t) less

pub ticked : (ticks : Ticks) (armed : List Armed) → AreRunning armed → map test_of (map (after_tick_again ticks.status_max) armed) ≡ map (test_after_tick ticks) (map test_of armed)
ticked ticks [] running = refl
ticked ticks (a ∷ more) running =
    ap₂ (λ t ts. t ∷ ts) (ticked-one ticks a (All-head (λ (a : Armed). 1 ≤ a.ticks) a more running))
    (ticked ticks more (All-tail (λ (a : Armed). 1 ≤ a.ticks) a more running))

pub others-length : (due : Due) (armed : List Armed) → length (others due armed) ≤ length armed
others-length due armed =
    let count = length-filter (λ (a : Armed). not (is_timer due a)) armed in
    let most = count_by-le-length (λ (a : Armed). not (is_timer due a)) armed in
    omega (arith, count, most)

-- where there is room for one more test
pub room-for : (n room : ℕ) → IsTrue (nat_lt n room) → n < room
room-for n room h = grind (arith, h)

-- what holds of the points of all timers
abbrev pub AllAt : (ℕ → Type 0) → List Armed → Type 0
AllAt P armed = All (λ a. P a.due.conn) armed

pub with-all : (P : ℕ → Type 0) (due : Due) (n : ℕ) (armed : List Armed) → P due.conn → AllAt P armed → AllAt P (with_interval due n armed)
with-all P due n armed here h =
    let new : Armed = record { due = due; ticks = max 1 n; interval = n } in
    All-append (λ (a : Armed). P a.due.conn) (before due armed) (new ∷ behind due armed)
    (All-filter (λ a. is_before a.due due) (λ a. P a.due.conn) armed h)
    (All-cons (λ (a : Armed). P a.due.conn) new (behind due armed) here (All-filter (λ a. is_before due a.due) (λ a. P a.due.conn) armed h))

pub dues-all : (P : ℕ → Type 0) (armed : List Armed) → AllAt P armed → All (λ d. P d.conn) (due_now armed)
dues-all P armed h = All-map (λ d. P d.conn) (λ (a : Armed). a.due) (filter (λ a. a.ticks == 1) armed) (All-filter (λ a. a.ticks == 1) (λ a. P a.due.conn) armed h)

pub ticked-all : (P : ℕ → Type 0) (most : ℕ) (armed : List Armed) → AllAt P armed → AllAt P (map (after_tick_again most) armed)
ticked-all P most [] h = All-nil (λ (a : Armed). P a.due.conn)
ticked-all P most (a ∷ armed) h =
    All-cons (λ (a : Armed). P a.due.conn) (after_tick_again most a) (map (after_tick_again most) armed) (by (a.ticks == 1))
    (ticked-all P most armed (All-tail (λ (a : Armed). P a.due.conn) a armed h))
  where
    here : P a.due.conn
    here = All-head (λ (a : Armed). P a.due.conn) a armed h

    by : (b : Bool) → P (if b then again (min (2 * a.interval) most) a else lowered a).due.conn
    by true = here
    by false = here
