-- What a sweep leaves, and when the next one is due.
use Rattle.std.proofs.Common.{◌≡◌, ℕ, zero, suc, ◌+◌, ◌-◌, ◌<◌, ◌≤◌, min, List, [], ◌∷◌, ◌++◌, length, map, take, drop, get_or, replicate, refl, sym, ap, ap₂, ◌∙◌, arith, take_all, append-nil}
use Rattle.std.specs.Prelude.{Some, slice_get, slice_set}
use Rattle.std.proofs.Math.ListN.{drop_of_length-le}
use Rattle.std.proofs.lemmas.List.{drop_more, map-set}
use Rattle.local_refs.specs.declared.state.TheConstants.{LONGEST}
use Rattle.local_refs.specs.declared.state.SlotState.{SlotState}
use Rattle.local_refs.specs.declared.state.SlotState.TheVariants.{Free, Held, Frozen}
use Rattle.local_refs.specs.Slots.{lowered, frozen_for}
use Rattle.local_refs.specs.Inner.Swept.{swept, swept_all, soonest_in, left_of}

pub swept_free : (n ticks : ℕ) → swept_all ticks (replicate n Free) ≡ replicate n Free
swept_free zero ticks = refl
swept_free (suc n) ticks = ap (λ xs. Free ∷ xs) (swept_free n ticks)

pub soonest_free : (n : ℕ) → soonest_in (replicate n Free) ≡ LONGEST
unfolding soonest_in
soonest_free zero = refl
soonest_free (suc n) = let rest : soonest_in (replicate n Free) ≡ LONGEST = soonest_free n in omega (arith, rest)

pub soonest_bound : (states : List SlotState) → soonest_in states ≤ LONGEST
unfolding soonest_in
soonest_bound [] = omega arith
soonest_bound (state ∷ more) = let rest : soonest_in more ≤ LONGEST = soonest_bound more in omega (arith, rest)

-- a slot that is held makes nothing due sooner
pub soonest_held : (states : List SlotState) (i : ℕ) → soonest_in states ≤ soonest_in (slice_set states i Held)
unfolding soonest_in
soonest_held [] i = omega arith
soonest_held (state ∷ more) zero = let rest : soonest_in more ≤ LONGEST = soonest_bound more in omega (arith, rest)
soonest_held (state ∷ more) (suc i) = let rest : soonest_in more ≤ soonest_in (slice_set more i Held) = soonest_held more i in omega (arith, rest)

pub soonest_freed : (states : List SlotState) (i : ℕ) → soonest_in states ≤ soonest_in (slice_set states i Free)
unfolding soonest_in
soonest_freed [] i = omega arith
soonest_freed (state ∷ more) zero = omega (arith, soonest_bound more)
soonest_freed (state ∷ more) (suc i) = omega (arith, soonest_freed more i)

-- a slot that freezes makes it no sooner than it is due itself
pub soonest_frozen : (states : List SlotState) (i until : ℕ) → min (soonest_in states) until ≤ soonest_in (slice_set states i (Frozen until))
unfolding soonest_in
soonest_frozen [] i until = omega arith
soonest_frozen (state ∷ more) zero until = omega arith
soonest_frozen (state ∷ more) (suc i) until =
    let rest : min (soonest_in more) until ≤ soonest_in (slice_set more i (Frozen until)) = soonest_frozen more i until in omega (arith, rest)

-- a loop over all meets a slot
pub soonest_step : (states : List SlotState) (i : ℕ) (other : SlotState) (left : ℕ) → left ≡ left_of (get_or states i other) → i < length states
    → soonest_in (drop i states) ≡ min (soonest_in (drop (i + 1) states)) left
unfolding soonest_in
soonest_step states i other left is within =
    ap soonest_in (drop_more states i other within) ∙ ap (λ n. min (soonest_in (drop (i + 1) states)) n) (sym is)

pub soonest_past : (states : List SlotState) (i : ℕ) → length states ≤ i → soonest_in (drop i states) ≡ LONGEST
unfolding soonest_in
soonest_past [] zero past = refl
soonest_past [] (suc i) past = refl
soonest_past (state ∷ more) zero past = absurd (omega (arith, past))
soonest_past (state ∷ more) (suc i) past = soonest_past more i (omega (arith, past))

after_frozen : (left n : ℕ) → 0 < n → 0 < min n (left_of (frozen_for left))
unfolding frozen_for
after_frozen zero n some = omega (arith, some)
after_frozen (suc left) n some = omega (arith, some)

-- after a sweep something is left of each freezing
pub soonest_after : (states : List SlotState) (ticks : ℕ) → 0 < soonest_in (swept_all ticks states)
unfolding soonest_in
soonest_after [] ticks = omega arith
soonest_after (Free ∷ more) ticks = let rest : 0 < soonest_in (swept_all ticks more) = soonest_after more ticks in omega (arith, rest)
soonest_after (Held ∷ more) ticks = let rest : 0 < soonest_in (swept_all ticks more) = soonest_after more ticks in omega (arith, rest)
soonest_after (Frozen left ∷ more) ticks = after_frozen (left - ticks) (soonest_in (swept_all ticks more)) (soonest_after more ticks)

none_frozen : (left : ℕ) → swept 0 (frozen_for left) ≡ frozen_for left
unfolding frozen_for
none_frozen zero = refl
none_frozen (suc left) = let all : suc left - 0 ≡ suc left = omega arith in ap frozen_for all

none_one : (state : SlotState) (ticks : ℕ) → swept 0 (swept ticks state) ≡ swept ticks state
none_one Free ticks = refl
none_one Held ticks = refl
none_one (Frozen left) ticks = none_frozen (left - ticks)

-- no tick passes
pub swept_none : (states : List SlotState) (ticks : ℕ) → swept_all 0 (swept_all ticks states) ≡ swept_all ticks states
swept_none [] ticks = refl
swept_none (state ∷ more) ticks = ap₂ (λ x xs. x ∷ xs) (none_one state ticks) (swept_none more ticks)

lowered_frozen : (left : ℕ) → lowered (frozen_for left) ≡ frozen_for (left - 1)
unfolding frozen_for
lowered_frozen zero = refl
lowered_frozen (suc left) = refl

more_one : (state : SlotState) (ticks : ℕ) → swept (ticks + 1) state ≡ lowered (swept ticks state)
more_one Free ticks = refl
more_one Held ticks = refl
more_one (Frozen left) ticks =
    let less : left - (ticks + 1) ≡ (left - ticks) - 1 = omega arith in ap frozen_for less ∙ sym (lowered_frozen (left - ticks))

-- one more tick
pub swept_more : (states : List SlotState) (ticks : ℕ) → swept_all (ticks + 1) states ≡ map lowered (swept_all ticks states)
swept_more [] ticks = refl
swept_more (state ∷ more) ticks = ap₂ (λ x xs. x ∷ xs) (more_one state ticks) (swept_more more ticks)

pub frozen_for_some : (left : ℕ) → 0 < left → frozen_for left ≡ Frozen left
unfolding frozen_for
frozen_for_some zero some = absurd (omega (arith, some))
frozen_for_some (suc left) some = refl

-- a slot that froze now has all its ticks left
pub frozen_now : (states : List SlotState) (i passed freeze : ℕ)
    → swept_all passed (slice_set states i (Frozen (passed + freeze))) ≡ slice_set (swept_all passed states) i (frozen_for freeze)
frozen_now states i passed freeze =
    let left : (passed + freeze) - passed ≡ freeze = omega arith in
    map-set (swept passed) states i (Frozen (passed + freeze))
    ∙ ap (λ x. slice_set (swept_all passed states) i x) (ap frozen_for left)

-- a slot that is given up by a lane that freezes for no ticks is free
pub free_now : (states : List SlotState) (i passed freeze : ℕ) → freeze ≡ 0
    → swept_all passed (slice_set states i Free) ≡ slice_set (swept_all passed states) i (frozen_for freeze)
unfolding frozen_for
free_now states i passed freeze none = map-set (swept passed) states i Free ∙ ap (λ n. slice_set (swept_all passed states) i (frozen_for n)) (sym none)

-- a sweep comes to the next slot
swept_step : (states : List SlotState) (ticks i : ℕ) (other : SlotState) → i < length states
    → slice_set (swept_all ticks (take i states) ++ drop i states) i (swept ticks (get_or (swept_all ticks (take i states) ++ drop i states) i other))
    ≡ swept_all ticks (take (i + 1) states) ++ drop (i + 1) states
swept_step [] ticks i other within = absurd (omega (arith, within))
swept_step (state ∷ more) ticks zero other within = refl
swept_step (state ∷ more) ticks (suc i) other within =
    let next : suc i + 1 ≡ suc (i + 1) = omega arith in rw next (ap (λ xs. swept ticks state ∷ xs) (swept_step more ticks i other (omega (arith, within))))

pub swept_next : (states now : List SlotState) (ticks i : ℕ) (other next : SlotState) → now ≡ swept_all ticks (take i states) ++ drop i states
    → next ≡ swept ticks (get_or now i other) → i < length states → slice_set now i next ≡ swept_all ticks (take (i + 1) states) ++ drop (i + 1) states
swept_next states now ticks i other next so_far is within =
    ap (slice_set now i) is ∙ ap (λ xs. slice_set xs i (swept ticks (get_or xs i other))) so_far ∙ swept_step states ticks i other within

-- a list that replaces one of its length
pub with_all : (items new : List SlotState) (len : ℕ) → length new ≡ length items → length items ≡ len → take len (new ++ drop (length new) items) ≡ new
with_all items new len same all =
    let none : drop (length new) items ≡ [] = drop_of_length-le items (omega (arith, same)) in
    ap (λ xs. take len (new ++ xs)) none ∙ ap (take len) (append-nil new) ∙ take_all len new (omega (arith, same, all))

-- a slot that was just taken is seen as held
pub held_seen : (states : List SlotState) (passed i : ℕ) → i < length states → slice_get (swept_all passed (slice_set states i Held)) i ≡ Some Held
held_seen [] passed i within = absurd (omega (arith, within))
held_seen (state ∷ more) passed zero within = refl
held_seen (state ∷ more) passed (suc i) within = held_seen more passed i (omega (arith, within))
