-- The free references are those that what is kept leaves.
use Rattle.std.proofs.Common.{◌≡◌, ℕ, ◌-◌, ◌==◌, ◌&&◌, ◌||◌, nat_lt, not, Bool, true, false, cond, List, [], ◌∷◌, length, map, take, filter, Option, Some, None, if◌then◌else◌, refl, sym, ap, ap₂, ◌∙◌, arith, ⊎_elim}
use Rattle.std.specs.Prelude.{option_map}
use Rattle.std.specs.List.{list_any, range_with_len}
use Rattle.std.proofs.lemmas.Bool.{cases_Bool, ltb-true, ltb-false, eq-eqb, ne_eqb}
use Rattle.relay_base.specs.declared.limits.TheConstants.{SLOTS}
use Rattle.plant_core.specs.declared.terms.Ticks.{Ticks}
use Rattle.section_model.specs.References.{slot_of, generation_after, reference_of_slot}
use Rattle.section_model.specs.Lane.{Lane, Opening, gone_for, reference_of, is_at, is_kept_by, holds, is_held, took, times_taken, reference_at, lowest_free, enough}
use Rattle.lane_law.proofs.Turns.{counted_mapped}
use Rattle.conn_journal.specs.Inner.Remnants.{Remnant, remnant_of, takes_slot, took_slot, sits, seat_by, is_frozen_out, frozen_by, free_in, times_in, lowest_in}

left_over : (freeze count : ℕ) → nat_lt count freeze ≡ not (freeze - count == 0)
left_over freeze count =
    ⊎_elim
    (λ (e : nat_lt count freeze ≡ true). let h = ltb-true count freeze e in rw (e, ne_eqb (freeze - count) 0 (λ n. omega (arith, h, n))) refl)
    (λ (e : nat_lt count freeze ≡ false). let h = ltb-false count freeze e in rw (e, eq-eqb (freeze - count) 0 (omega (arith, h))) refl)
    (cases_Bool (nat_lt count freeze))

kept_is_left : (freeze : ℕ) (count : Option ℕ) → is_kept_by freeze count ≡ not (is_frozen_out (frozen_by freeze count))
kept_is_left freeze None = refl
kept_is_left freeze (Some count) = left_over freeze count

holds_is_sits : (slot freeze : ℕ) (count mine : Option ℕ) → (is_at slot mine && is_kept_by freeze count) ≡ sits slot (seat_by freeze count mine)
holds_is_sits slot freeze count None = refl
holds_is_sits slot freeze count (Some m) = ap (λ b. slot_of m == slot && b) (kept_is_left freeze count)

pub holds_is_takes : (ticks : Ticks) (slot : ℕ) (o : Opening) → holds ticks slot o ≡ takes_slot slot (remnant_of ticks o)
holds_is_takes ticks slot o =
    ap₂ (λ a b. a || b)
    (holds_is_sits slot ticks.freeze (gone_for ticks (λ c. c.this) o.first o.since) (reference_of o.first.this))
    (holds_is_sits slot ticks.freeze (gone_for ticks (λ c. c.that) o.first o.since) (reference_of o.first.that))

held_is_taken : (ticks : Ticks) (slot : ℕ) (openings : List Opening) → is_held ticks openings slot ≡ list_any (takes_slot slot) (map (remnant_of ticks) openings)
held_is_taken ticks slot [] = refl
held_is_taken ticks slot (o ∷ openings) = ap₂ (λ a b. a || b) (holds_is_takes ticks slot o) (held_is_taken ticks slot openings)

pub filter_alike : {X : Type 0} (p q : X → Bool) → ((x : X) → p x ≡ q x) → (xs : List X) → filter p xs ≡ filter q xs
filter_alike p q alike [] = refl
filter_alike p q alike (x ∷ xs) = ap₂ (λ b ys. cond b (x ∷ ys) ys) (alike x) (filter_alike p q alike xs)

mine_of : (freeze : ℕ) (count mine : Option ℕ) → option_map (λ s. s.mine) (seat_by freeze count mine) ≡ mine
mine_of freeze count None = refl
mine_of freeze count (Some m) = refl

took_alike : (ticks : Ticks) (slot : ℕ) (o : Opening) → took_slot slot (remnant_of ticks o) ≡ took slot o
took_alike ticks slot o =
    ap₂ (λ a b. is_at slot a || is_at slot b)
    (mine_of ticks.freeze (gone_for ticks (λ c. c.this) o.first o.since) (reference_of o.first.this))
    (mine_of ticks.freeze (gone_for ticks (λ c. c.that) o.first o.since) (reference_of o.first.that))

mapped_alike : (lane : Lane) (f g : ℕ → ℕ) → ((slot : ℕ) → f slot ≡ g slot) → (free : List ℕ) → map (reference_at lane f) free ≡ map (reference_at lane g) free
mapped_alike lane f g same [] = refl
mapped_alike lane f g same (slot ∷ free) =
    ap₂ (λ n xs. reference_of_slot lane.number (generation_after n) slot ∷ xs) (same slot) (mapped_alike lane f g same free)

pub keeps_free : (lane : Lane) (openings : List Opening) (count : ℕ) → lowest_free lane openings count ≡ lowest_in lane (map (remnant_of lane.terms.ticks) openings) count
unfolding lowest_free
keeps_free lane openings count =
    let ticks : Ticks = lane.terms.ticks in
    let keeps : List Remnant = map (remnant_of ticks) openings in
    let free : List ℕ = take count (free_in keeps) in
    ap (λ slots. enough lane (times_taken openings) count (take count slots))
    (filter_alike (λ slot. not (is_held ticks openings slot)) (λ slot. not (list_any (takes_slot slot) keeps)) (λ slot. ap not (held_is_taken ticks slot openings)) (range_with_len 1 SLOTS))
    ∙ ap (λ refs. if length free == count then refs else [])
    (mapped_alike lane (times_taken openings) (times_in keeps) (λ slot. sym (counted_mapped (took slot) (took_slot slot) (remnant_of ticks) (took_alike ticks slot) openings 0)) free)
