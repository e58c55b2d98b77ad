-- No slot is taken by two openings, whatever happens: an opening takes no slot later that it doesn't take already.
use Rattle.std.proofs.Common.{◌≡◌, ℕ, ◌-◌, ◌==◌, ◌||◌, not, Bool, true, false, List, [], ◌∷◌, ◌++◌, map, Option, Some, None, refl, ◌∙◌, ⊎_elim, arith, eqb-true}
use Rattle.std.specs.List.{list_any}
use Rattle.std.proofs.lemmas.Bool.{both_ways, not-true, not_from_false, eq-eqb, and_parts, and_from, or_cases, or_parts, or_from, or_left, or_right, false_from_ne_true}
use Rattle.std.proofs.lemmas.List.Folds.{list_any-append}
use Rattle.relay_base.specs.declared.words.Event.{Event}
use Rattle.section_model.specs.Step.{end_is_gone}
use Rattle.section_model.specs.References.{slot_of}
use Rattle.section_model.specs.Lane.{fed}
use Rattle.conn_journal.specs.Inner.Remnants.{Live, Seat, Remnant, ticks_in, left_after, seat_after, remnant_after, is_frozen_out, sits, takes_slot}
use Rattle.conn_journal.specs.Inner.Seated.{AreApart}

-- One opening.

-- a freeze only runs down
not_run_down : (left ticks : ℕ) → not (left - ticks == 0) ≡ true → not (left == 0) ≡ true
not_run_down left ticks some =
    not_from_false (left == 0)
    (false_from_ne_true (left == 0) (λ none. both_ways (left - ticks == 0) (not-true (left - ticks == 0) some) (eq-eqb (left - ticks) 0 (omega (arith, eqb-true left 0 none)))))

left_before : (freeze : ℕ) (event : Event) (is_gone : Bool) (left : Option ℕ)
    → not (is_frozen_out (left_after freeze event is_gone left)) ≡ true → not (is_frozen_out left) ≡ true
left_before freeze event is_gone None later = refl
left_before freeze event is_gone (Some left) later = not_run_down left (ticks_in event) later

pub sits_before : (slot freeze : ℕ) (event : Event) (is_gone : Bool) (seat : Option Seat)
    → sits slot (seat_after freeze event is_gone seat) ≡ true → sits slot seat ≡ true
sits_before slot freeze event is_gone None later = later
sits_before slot freeze event is_gone (Some s) later =
    let parts = and_parts (slot_of s.mine == slot) (not (is_frozen_out (left_after freeze event is_gone s.left))) later in
    and_from (slot_of s.mine == slot) (not (is_frozen_out s.left)) parts.0 (left_before freeze event is_gone s.left parts.1)

either_before : (a b a' b' : Bool) → (a' ≡ true → a ≡ true) → (b' ≡ true → b ≡ true) → (a' || b') ≡ true → (a || b) ≡ true
either_before a b a' b' first second later =
    ⊎_elim (λ (e : a' ≡ true). or_left a b (first e)) (λ (e : b' ≡ true). or_right a b (second e)) (or_cases a' b' later)

takes_parts : (slot : ℕ) (event : Event) (live : Option Live) (this that : Option Seat)
    → takes_slot slot (remnant_after event (record { live = live; this = this; that = that })) ≡ true → (sits slot this || sits slot that) ≡ true
takes_parts slot event None this that later =
    either_before (sits slot this) (sits slot that) (sits slot (seat_after 0 event false this)) (sits slot (seat_after 0 event false that))
    (sits_before slot 0 event false this) (sits_before slot 0 event false that) later
takes_parts slot event (Some l) this that later =
    let c = fed l.ticks l.connection event in
    either_before (sits slot this) (sits slot that)
    (sits slot (seat_after l.ticks.freeze event (end_is_gone c.this) this)) (sits slot (seat_after l.ticks.freeze event (end_is_gone c.that) that))
    (sits_before slot l.ticks.freeze event (end_is_gone c.this) this) (sits_before slot l.ticks.freeze event (end_is_gone c.that) that) later

-- a slot that an opening takes after one more event it takes already
pub takes_later : (slot : ℕ) (event : Event) (k : Remnant) → takes_slot slot (remnant_after event k) ≡ true → takes_slot slot k ≡ true
takes_later slot event k later = takes_parts slot event k.live k.this k.that later

takes_never : (slot : ℕ) (event : Event) (k : Remnant) → takes_slot slot k ≡ false → takes_slot slot (remnant_after event k) ≡ false
takes_never slot event k free =
    false_from_ne_true (takes_slot slot (remnant_after event k)) (λ later. both_ways (takes_slot slot k) free (takes_later slot event k later))

-- All openings.

-- a slot that nobody takes stays free
pub free_after : (slot : ℕ) (event : Event) (keeps : List Remnant)
    → list_any (takes_slot slot) keeps ≡ false → list_any (takes_slot slot) (map (remnant_after event) keeps) ≡ false
free_after slot event [] free = refl
free_after slot event (k ∷ keeps) free =
    let parts = or_parts (takes_slot slot k) (list_any (takes_slot slot) keeps) free in
    or_from (takes_slot slot (remnant_after event k)) (list_any (takes_slot slot) (map (remnant_after event) keeps))
    (takes_never slot event k parts.0) (free_after slot event keeps parts.1)

pub apart_after : (event : Event) (keeps : List Remnant) → AreApart keeps → AreApart (map (remnant_after event) keeps)
apart_after event [] apart = tt
apart_after event (k ∷ keeps) apart =
    (λ slot takes. free_after slot event keeps (apart.0 slot (takes_later slot event k takes)), apart_after event keeps apart.1)

-- One opening more, which takes no slot that another takes.

-- a slot of one that stands already isn't taken by the new one
not_by_new : (slot : ℕ) (k x : Remnant) (keeps : List Remnant) → (takes_slot slot k ≡ true → list_any (takes_slot slot) (x ∷ keeps) ≡ false)
    → takes_slot slot x ≡ true → takes_slot slot k ≡ false
not_by_new slot k x keeps new takes =
    false_from_ne_true (takes_slot slot k) (λ too. both_ways (takes_slot slot x) (or_parts (takes_slot slot x) (list_any (takes_slot slot) keeps) (new too)).0 takes)

pub apart_with : (keeps : List Remnant) (k : Remnant) → AreApart keeps → ((slot : ℕ) → takes_slot slot k ≡ true → list_any (takes_slot slot) keeps ≡ false)
    → AreApart (keeps ++ k ∷ [])
apart_with [] k apart new = (λ slot takes. refl, tt)
apart_with (x ∷ keeps) k apart new = (
  λ slot takes. list_any-append (takes_slot slot) keeps (k ∷ [])
      ∙ or_from (list_any (takes_slot slot) keeps) (takes_slot slot k || false)
      (apart.0 slot takes) (or_from (takes_slot slot k) false (not_by_new slot k x keeps (new slot) takes) refl),
  apart_with keeps k apart.1 (λ slot takes. (or_parts (takes_slot slot x) (list_any (takes_slot slot) keeps) (new slot takes)).1),
)
