-- The events of a lane are among those of the phases, and so in their ranges.
use Rattle.std.proofs.Common.{◌≡◌, ℕ, zero, suc, ◌==◌, ◌&&◌, Bool, true, false, List, [], ◌∷◌, map, filter, if◌then◌else◌, sym, subst, arith}
use Rattle.std.specs.Prelude.{slice_index_or}
use Rattle.std.specs.List.{AllByRecursion}
use Rattle.std.proofs.lemmas.Bool.Decides.{nat_tests}
use Rattle.relay_base.specs.declared.words.Stamp.{Stamp}
use Rattle.plant_core.specs.declared.entry.ControlEvent.{ControlEvent}
use Rattle.node_head.specs.declared.head.Head.{Head}
use Rattle.capture_form.specs.declared.lane_place.LanePlace.{LanePlace}
use Rattle.capture_form.specs.Events.{Stamped, is_at}
use Rattle.capture_form.specs.Place.{place_of}
use Rattle.right_book.specs.Own.{events_at}
use Rattle.right_book.specs.Placed.{taken, placed, IsOfLane}
use Rattle.printable_law.proofs.Lists.{all-at, all-map, all-filter}
use Rattle.printable_law.specs.CaptureRanges.{StampedInRange, PhasesInRange}

abbrev StampedEvent : Type 0
StampedEvent = Stamp × ControlEvent

at-itself : (e : StampedEvent) → is_at e.0.phase e.0.link e ≡ true
at-itself e = both e.0.phase e.0.link
  where
    both : (m n : ℕ) → ((m == m) && (n == n)) ≡ true
    both m n = grind (arith, nat_tests)

here : (P : StampedEvent → Type 0) (e : StampedEvent) (events : Stamped) (t : Bool) → t ≡ true → AllByRecursion P (if t then e ∷ events else events) → P e
here P e events true is all = all.0
here P e events false is all = absurd (cc)

behind : (P : StampedEvent → Type 0) (e : StampedEvent) (events : Stamped) (t : Bool) → AllByRecursion P (if t then e ∷ events else events) → AllByRecursion P events
behind P e events true all = all.1
behind P e events false all = all

-- what holds of those of each phase and link holds of all
of-each : (P : StampedEvent → Type 0) (events : Stamped) → ((phase link : ℕ) → AllByRecursion P (filter (is_at phase link) events)) → AllByRecursion P events
of-each P [] each = tt
of-each P (e ∷ events) each = (
  here P e (filter (is_at e.0.phase e.0.link) events) (is_at e.0.phase e.0.link e) (at-itself e) (each e.0.phase e.0.link),
  of-each P events (λ phase link. behind P e (filter (is_at phase link) events) (is_at phase link e) (each phase link)),
)

abbrev EventsInRange : Stamped → Type 0
EventsInRange events = AllByRecursion StampedInRange events

abbrev PhaseInRange : List Stamped → Type 0
PhaseInRange lists = AllByRecursion EventsInRange lists

placed-in : (in_lane : LanePlace → Bool) (head : Head) (phases : List (List Stamped)) → PhasesInRange phases → PhasesInRange (placed in_lane head phases)
placed-in in_lane head phases all =
    all-map PhaseInRange PhaseInRange (map (taken in_lane head)) (λ lists phase.
    all-map EventsInRange EventsInRange (taken in_lane head) (λ events kept. all-filter StampedInRange (λ e. in_lane (place_of head e.1)) events kept) lists phase) phases all

at-in : (phases : List (List Stamped)) (phase link : ℕ) → PhasesInRange phases → EventsInRange (events_at phases phase link)
at-in phases zero link all = tt
at-in phases (suc n) link all = all-at EventsInRange (slice_index_or phases n []) link [] tt (all-at PhaseInRange phases n [] tt all)

pub own-in : (in_lane : LanePlace → Bool) (head : Head) (phases : List (List Stamped)) (events : Stamped) → PhasesInRange phases → IsOfLane in_lane head phases events
    → AllByRecursion StampedInRange events
own-in in_lane head phases events all own =
    of-each StampedInRange events (λ phase link.
    subst EventsInRange (sym (own.in_order phase link)) (at-in (placed in_lane head phases) phase link (placed-in in_lane head phases all)))
