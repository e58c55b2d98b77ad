-- How many events a lane takes: those of each phase and link are no more than all of a capture.
use Rattle.std.proofs.Common.{◌≡◌, ℕ, zero, suc, ◌*◌, ◌<◌, ◌≤◌, ◌==◌, ◌&&◌, not, Bool, true, false, List, [], ◌∷◌, length, map, filter, if◌then◌else◌, refl, ap, arith, length-append}
use Rattle.std.specs.Prelude.{slice_index_or}
use Rattle.std.specs.List.{AllByRecursion}
use Rattle.std.proofs.Math.Nat.{suc-mul}
use Rattle.std.proofs.lemmas.Bool.Decides.{nat_tests}
use Rattle.std.proofs.lemmas.List.Filters.{length-filter_both}
use Rattle.std.proofs.lemmas.List.Sums.{count_by-le-length, length-filter}
use Rattle.relay_base.specs.declared.words.Stamp.{Stamp}
use Rattle.plant_core.specs.declared.entry.ControlEvent.{ControlEvent}
use Rattle.node_head.specs.declared.head.Head.{Head}
use Rattle.capture_form.specs.declared.lane_place.LanePlace.{LanePlace}
use Rattle.capture_form.specs.Events.{Stamped, is_at, phase_events, all_events}
use Rattle.capture_form.specs.Place.{place_of}
use Rattle.right_book.specs.Own.{events_at}
use Rattle.right_book.specs.Placed.{taken, placed, IsOfLane}
use Rattle.printable_law.proofs.Lists.{either, all-filter}
use Rattle.printable_law.specs.CaptureRanges.{StampedInRange}

through : (a b c : ℕ) → a ≤ b → b ≤ c → a ≤ c
through a b c ab bc = omega (arith, ab, bc)

-- What a test keeps.

with-one : {A : Type 0} (x : A) (xs ys : List A) (t : Bool) → length xs ≤ length ys → length (if t then x ∷ xs else xs) ≤ length (if t then x ∷ ys else ys)
with-one x xs ys true few = omega (arith, few)
with-one x xs ys false few = few

or-one : {A : Type 0} (x : A) (xs ys : List A) (t : Bool) → length xs ≤ length ys → length xs ≤ length (if t then x ∷ ys else ys)
or-one x xs ys true few = omega (arith, few)
or-one x xs ys false few = few

-- a test keeps no more of what another one kept than of all
few-of-kept : {A : Type 0} (p q : A → Bool) (xs : List A) → length (filter p (filter q xs)) ≤ length (filter p xs)
few-of-kept p q [] = omega arith
few-of-kept p q (x ∷ xs) =
    either (λ ys. length (filter p ys) ≤ length (filter p (x ∷ xs))) (q x) (x ∷ filter q xs) (filter q xs)
    (with-one x (filter p (filter q xs)) (filter p xs) (p x) (few-of-kept p q xs)) (or-one x (filter p (filter q xs)) (filter p xs) (p x) (few-of-kept p q xs))

-- two tests, one behind the other, keep no more than both
one-of-both : {A : Type 0} (x : A) (xs ys : List A) (q : A → Bool) (t : Bool) → length (filter q xs) ≤ length ys
    → length (filter q (if t then x ∷ xs else xs)) ≤ length (if t && q x then x ∷ ys else ys)
one-of-both x xs ys q true few = with-one x (filter q xs) ys (q x) few
one-of-both x xs ys q false few = few

few-of-both : {A : Type 0} (p q : A → Bool) (xs : List A) → length (filter q (filter p xs)) ≤ length (filter (λ x. p x && q x) xs)
few-of-both p q [] = omega arith
few-of-both p q (x ∷ xs) = one-of-both x (filter p xs) (filter (λ x. p x && q x) xs) q (p x) (few-of-both p q xs)

-- Lists whose elements have few keys, of which each is that of few elements.

less : (k n : ℕ) → k < suc n → (k == n) ≡ false → k < n
less k n small other = grind (arith, nat_tests)

one-less : {A : Type 0} (key : A → ℕ) (n : ℕ) (x : A) (xs : List A) (t : Bool) → (key x == n) ≡ t → key x < suc n → AllByRecursion (λ x. key x < n) xs
    → AllByRecursion (λ x. key x < n) (if not t then x ∷ xs else xs)
one-less key n x xs true e small all = all
one-less key n x xs false e small all = (less (key x) n small e, all)

all-less : {A : Type 0} (key : A → ℕ) (n : ℕ) (xs : List A) → AllByRecursion (λ x. key x < suc n) xs
    → AllByRecursion (λ x. key x < n) (filter (λ x. not (key x == n)) xs)
all-less key n [] all = tt
all-less key n (x ∷ xs) all = one-less key n x (filter (λ x. not (key x == n)) xs) (key x == n) refl all.0 (all-less key n xs all.1)

few-keys : {A : Type 0} (key : A → ℕ) (most n : ℕ) (xs : List A) → AllByRecursion (λ x. key x < n) xs
    → ((k : ℕ) → length (filter (λ x. key x == k) xs) ≤ most) → length xs ≤ n * most
few-keys key most zero [] all few = omega arith
few-keys key most zero (x ∷ xs) all few = absurd (omega (arith, all.0))
few-keys key most (suc n) xs all few =
    let others = filter (λ x. not (key x == n)) xs in
    let more : length others ≤ n * most = few-keys key most n others (all-less key n xs all) (λ k. through _ _ _ (few-of-kept (λ x. key x == k) (λ x. not (key x == n)) xs) (few k)) in
    omega (arith, more, few n, suc-mul n most, length-filter_both (λ x. key x == n) (λ x. not (key x == n)) (λ x. refl) xs)

-- The events of a lane.

abbrev StampedEvent : Type 0
StampedEvent = Stamp × ControlEvent

abbrev most_events : ℕ
most_events = 4_294_967_296

links : (events : Stamped) → AllByRecursion StampedInRange events → AllByRecursion (λ (e : StampedEvent). e.0.link < 256) events
links [] all = tt
links (e ∷ events) all = (all.0.0.link, links events all.1)

phases_of : (events : Stamped) → AllByRecursion StampedInRange events → AllByRecursion (λ (e : StampedEvent). e.0.phase < most_events) events
phases_of [] all = tt
phases_of (e ∷ events) all = (all.0.0.phase, phases_of events all.1)

few-of-phase : (phase : ℕ) (events : Stamped) → AllByRecursion StampedInRange events
    → ((phase link : ℕ) → length (filter (is_at phase link) events) ≤ most_events)
    → length (filter (λ e. e.0.phase == phase) events) ≤ 256 * most_events
few-of-phase phase events all few =
    few-keys (λ e. e.0.link) most_events 256 (filter (λ e. e.0.phase == phase) events)
    (links (filter (λ e. e.0.phase == phase) events) (all-filter StampedInRange (λ e. e.0.phase == phase) events all))
    (λ link. through _ _ _ (few-of-both (λ e. e.0.phase == phase) (λ e. e.0.link == link) events) (few phase link))

few-in-all : (events : Stamped) → AllByRecursion StampedInRange events → ((phase link : ℕ) → length (filter (is_at phase link) events) ≤ most_events)
    → length events ≤ most_events * (256 * most_events)
few-in-all events all few =
    few-keys (λ e. e.0.phase) (256 * most_events) most_events events (phases_of events all) (λ phase. few-of-phase phase events all few)

few-of-link : (lists : List Stamped) (link : ℕ) → length (slice_index_or lists link []) ≤ length (phase_events lists)
few-of-link [] link = omega arith
few-of-link (events ∷ lists) zero = omega (arith, length-append events (phase_events lists))
few-of-link (events ∷ lists) (suc link) = omega (arith, few-of-link lists link, length-append events (phase_events lists))

few-at : (phases : List (List Stamped)) (phase link : ℕ) → length (slice_index_or (slice_index_or phases phase []) link []) ≤ length (all_events phases)
few-at [] phase link = omega arith
few-at (lists ∷ phases) zero link = omega (arith, few-of-link lists link, length-append (phase_events lists) (all_events phases))
few-at (lists ∷ phases) (suc phase) link = omega (arith, few-at phases phase link, length-append (phase_events lists) (all_events phases))

events-few : (phases : List (List Stamped)) (phase link : ℕ) → length (events_at phases phase link) ≤ length (all_events phases)
events-few phases zero link = omega arith
events-few phases (suc n) link = few-at phases n link

taken-of-phase : (in_lane : LanePlace → Bool) (head : Head) (lists : List Stamped) → length (phase_events (map (taken in_lane head) lists)) ≤ length (phase_events lists)
taken-of-phase in_lane head [] = omega arith
taken-of-phase in_lane head (events ∷ lists) =
    omega (
      arith,
      taken-of-phase in_lane head lists,
      length-filter (λ (e : StampedEvent). in_lane (place_of head e.1)) events,
      count_by-le-length (λ (e : StampedEvent). in_lane (place_of head e.1)) events,
      length-append (taken in_lane head events) (phase_events (map (taken in_lane head) lists)),
      length-append events (phase_events lists),
    )

taken-few : (in_lane : LanePlace → Bool) (head : Head) (phases : List (List Stamped)) → length (all_events (placed in_lane head phases)) ≤ length (all_events phases)
taken-few in_lane head [] = omega arith
taken-few in_lane head (lists ∷ phases) =
    omega (
      arith,
      taken-few in_lane head phases,
      taken-of-phase in_lane head lists,
      length-append (phase_events (map (taken in_lane head) lists)) (all_events (placed in_lane head phases)),
      length-append (phase_events lists) (all_events phases),
    )

-- the events of a lane are fewer than a number of 22 digits
pub few-own : (in_lane : LanePlace → Bool) (head : Head) (phases : List (List Stamped)) (events : Stamped) → length (all_events phases) < most_events
    → IsOfLane in_lane head phases events → AllByRecursion StampedInRange events → length events ≤ most_events * (256 * most_events)
few-own in_lane head phases events few own all =
    few-in-all events all (λ phase link. omega (arith, ap length (own.in_order phase link), events-few (placed in_lane head phases) phase link, taken-few in_lane head phases, few))
