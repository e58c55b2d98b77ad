-- A connection that hears a message or a request holds the slot of the reference that it names.
use Rattle.std.proofs.Common.{◌≡◌, ℕ, ◌==◌, not, Bool, true, false, List, [], ◌∷◌, Option, Some, None, if◌then◌else◌, count_by, refl, sym, subst, ap, ◌∙◌, ⊎_elim, eqb-true}
use Rattle.std.proofs.lemmas.Bool.{both_ways, not-true, eq-eqb, and_parts, and_from, or_cases, or_left, or_right}
use Rattle.relay_base.specs.declared.words.Event.{Event}
use Rattle.relay_base.specs.declared.words.Event.TheVariants.{Message as Arrived, Asked as Requested, Tick}
use Rattle.plant_core.specs.declared.terms.Ticks.{Ticks}
use Rattle.section_model.specs.Ends.{End, wire, owner, Connection, is_gone}
use Rattle.section_model.specs.Parameters.{arrival_in}
use Rattle.section_model.specs.Step.{hears, names, named, is_named, is_in_range, destination_of, end_is_gone}
use Rattle.section_model.specs.References.{slot_of}
use Rattle.section_model.specs.Lane.{Opening, next, fed, heard, follow, connection_of, gone_for, is_tick, is_at, is_kept_by, reference_of, holds, holds_by}
use Rattle.section_model.specs.Laws.{openings_from}
use Rattle.connection_law.specs.ReferenceLaw.{Stays}
use Rattle.connection_law.proofs.Reference.Following.{following_stays}
use Rattle.lane_law.specs.HearingLaw.{OneHears}
use Rattle.lane_law.proofs.Standing.{apart_from, one_place}

-- the reference that a message or a request names
abbrev reference_in : Event → Option ℕ
reference_in (Arrived point sls bytes) = destination_of (arrival_in bytes)
reference_in (Requested ssn r) = named r
reference_in Tick = None

hears_named : (c : Connection) (event : Event) → is_tick event ≡ false → hears c event ≡ true → names (reference_in event) c ≡ true
unfolding hears
hears_named c (Arrived point sls bytes) untimed heard = heard
hears_named c (Requested ssn r) untimed heard = (and_parts (is_in_range r) (names (named r) c) heard).1
hears_named c Tick untimed heard = absurd (cc)

-- an end that has a name has its reference, and isn't gone
named_parts : (reference : ℕ) (end : End) → is_named reference end ≡ true → (reference_of end ≡ Some reference) × (end_is_gone end ≡ false)
named_parts reference (wire x) is =
    let parts = and_parts (x.head.mine == reference) (not (is_gone x.head.state)) is in
    (ap Some (eqb-true x.head.mine reference parts.0), not-true (is_gone x.head.state) parts.1)
named_parts reference (owner u) is = absurd (cc)

-- An end that isn't gone now never was.

abbrev EndStays : Ticks → (Connection → End) → Type 0
EndStays ticks end = (c : Connection) (events : List Event) → Stays (end c) (end (follow ticks c events))

-- the first of the events may be fed on its own
led_first : (ticks : Ticks) (c : Connection) (event : Event) (events : List Event)
    → follow ticks c (heard ticks c (event ∷ events)) ≡ follow ticks (fed ticks c event) (heard ticks (fed ticks c event) events)
unfolding heard follow
led_first ticks c event events = by_test (hears c event)
  where
    by_test : (b : Bool)
        → follow ticks c (elim b [ true ↦ event ∷ heard ticks (next ticks c event) events | false ↦ heard ticks c events ])
        ≡ (let d : Connection = elim b [ true ↦ next ticks c event | false ↦ c ] in follow ticks d (heard ticks d events))
    by_test true = refl
    by_test false = refl

-- the count of ticks of an end as it was opened
abbrev begun : Bool → Option ℕ
begun is_gone = if is_gone then Some 0 else None

-- or after more events
abbrev counted : Bool → ℕ → Option ℕ → Option ℕ
counted is_gone count later = elim is_gone [ true ↦ Some count | false ↦ later ]

never_gone : (ticks : Ticks) (end : Connection → End) (stays : EndStays ticks end) (c : Connection) (events : List Event)
    → end_is_gone (end (follow ticks c (heard ticks c events))) ≡ false → gone_for ticks end c events ≡ None
unfolding gone_for heard follow
never_gone ticks end stays c [] on = by_test (end_is_gone (end c)) on
  where
    by_test : (b : Bool) → b ≡ false → begun b ≡ None
    by_test true on = absurd (cc)
    by_test false on = refl
never_gone ticks end stays c (event ∷ events) on =
    by_test (end_is_gone (end c)) (λ gone. both_ways _ on ((stays c (heard ticks c (event ∷ events))).gone gone))
    (never_gone ticks end stays (fed ticks c event) events (subst (λ d. end_is_gone (end d) ≡ false) (led_first ticks c event events) on))
  where
    by_test : (b : Bool) → (b ≡ true → ⊥) → gone_for ticks end (fed ticks c event) events ≡ None
        → counted b (count_by is_tick (event ∷ events)) (gone_for ticks end (fed ticks c event) events) ≡ None
    by_test true on rest = absurd (on refl)
    by_test false on rest = rest

-- So it holds the slot of its reference.

end_holds : (ticks : Ticks) (end : Connection → End) (stays : EndStays ticks end) (o : Opening) (reference : ℕ)
    → is_named reference (end (connection_of ticks o)) ≡ true → holds_by ticks (slot_of reference) end o ≡ true
end_holds ticks end stays o reference is =
    let parts = named_parts reference (end (connection_of ticks o)) is in
    let mine : reference_of (end o.first) ≡ Some reference = sym (stays o.first (heard ticks o.first o.since)).reference ∙ parts.0 in
    and_from (is_at (slot_of reference) (reference_of (end o.first))) (is_kept_by ticks.freeze (gone_for ticks end o.first o.since))
    (ap (is_at (slot_of reference)) mine ∙ eq-eqb (slot_of reference) (slot_of reference) refl)
    (ap (is_kept_by ticks.freeze) (never_gone ticks end stays o.first o.since parts.1))

named_holds : (ticks : Ticks) (o : Opening) (reference : ℕ) → names (Some reference) (connection_of ticks o) ≡ true → holds ticks (slot_of reference) o ≡ true
named_holds ticks o reference is =
    let c = connection_of ticks o in
    let this = holds_by ticks (slot_of reference) (λ d. d.this) o in
    let that = holds_by ticks (slot_of reference) (λ d. d.that) o in
    ⊎_elim
    (λ (e : is_named reference c.this ≡ true). or_left this that (end_holds ticks (λ d. d.this) (λ d events. (following_stays ticks d events).this) o reference e))
    (λ (e : is_named reference c.that ≡ true). or_right this that (end_holds ticks (λ d. d.that) (λ d events. (following_stays ticks d events).that) o reference e))
    (or_cases (is_named reference c.this) (is_named reference c.that) is)

-- Two that hear one event.

both_hold : (ticks : Ticks) (reference : Option ℕ) (one other : Opening) → names reference (connection_of ticks one) ≡ true → names reference (connection_of ticks other) ≡ true
    → (slot : ℕ) × ((holds ticks slot one ≡ true) × (holds ticks slot other ≡ true))
both_hold ticks None one other first second = absurd (cc)
both_hold ticks (Some reference) one other first second =
    (slot_of reference, (named_holds ticks one reference first, named_holds ticks other reference second))

pub one_hears : OneHears
one_hears lane journal event i j one other within untimed first second heard too =
    let ticks : Ticks = lane.terms.ticks in
    let held = both_hold ticks (reference_in event) one other
    (hears_named (connection_of ticks one) event untimed heard) (hears_named (connection_of ticks other) event untimed too) in
    one_place ticks held.0 (openings_from lane [] journal) i j one other (apart_from lane [] journal within tt) first second held.1.0 held.1.1
