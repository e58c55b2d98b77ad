-- A new opening takes free slots of the lane alone.
use Rattle.std.proofs.Common.{◌≡◌, ℕ, ◌==◌, ◌<◌, ◌≤◌, not, Bool, true, false, List, [], ◌++◌, map, All, Option, Some, None, is_some, IfSome, if◌then◌else◌, refl, sym, subst, ⊎_elim, append-nil, eqb-true}
use Rattle.std.specs.List.{list_any}
use Rattle.std.proofs.lemmas.Bool.{and_parts, or_cases}
use Rattle.std.proofs.lemmas.List.Elements.{All-nil, All-push}
use Rattle.relay_base.specs.declared.limits.TheConstants.{MOST_LANES}
use Rattle.relay_base.specs.declared.words.Event.{Event}
use Rattle.plant_core.specs.declared.answer.Answer.{Answer}
use Rattle.plant_core.specs.declared.terms.Ticks.{Ticks}
use Rattle.section_model.specs.Ends.{End, Connection}
use Rattle.section_model.specs.Opening.{Wish, slots_needed}
use Rattle.section_model.specs.Step.{end_is_gone}
use Rattle.section_model.specs.References.{slot_of, generation_after, lane_number_of}
use Rattle.section_model.specs.Lane.{Lane, heard, follow, gone_for, reference_of, reference_at}
use Rattle.section_model.proofs.References.{slot_read, lane_read}
use Rattle.lane_law.proofs.Opened.{EndsAre, AreAmong, opened_among, IsSlotWithout, enough_are}
use Rattle.conn_journal.specs.Inner.Remnants.{Remnant, frozen_by, seat_by, remnant_of, remnant_after, sits, takes_slot, is_frozen_out, times_in, lowest_in}
use Rattle.conn_journal.specs.Inner.Seated.{SeatIs, IsSeated, AreOrderly}
use Rattle.conn_journal.specs.Inner.Turns.{opened_in, new_remnant, keeps_in}
use Rattle.conn_journal.proofs.Seated.{seated_live, all_seated_after}
use Rattle.conn_journal.proofs.Apart.{free_after, apart_after, apart_with}

-- The lowest free references.

-- a reference of a slot of the lane that nobody takes
pub record IsFree (lane : ℕ) (keeps : List Remnant) (mine : ℕ) : Type 0 where
  pub some : 1 ≤ slot_of mine
  pub reference : lane_number_of mine ≡ lane
  pub free : list_any (takes_slot (slot_of mine)) keeps ≡ false

free_reference : (lane : Lane) (keeps : List Remnant) (slot : ℕ) → lane.number < MOST_LANES → IsSlotWithout (λ s. list_any (takes_slot s) keeps) slot
    → IsFree lane.number keeps (reference_at lane (times_in keeps) slot)
free_reference lane keeps slot within is =
    let generation : ℕ = generation_after (times_in keeps slot) in
    let same : slot ≡ slot_of (reference_at lane (times_in keeps) slot) = sym (slot_read lane.number generation slot within is.below) in
    record {
      some = subst (λ s. 1 ≤ s) same is.some;
      reference = lane_read lane.number generation slot within;
      free = subst (λ s. list_any (takes_slot s) keeps ≡ false) same is.free;
    }

lowest_free : (lane : Lane) (keeps : List Remnant) (count : ℕ) → lane.number < MOST_LANES → All (IsFree lane.number keeps) (lowest_in lane keeps count)
lowest_free lane keeps count within =
    enough_are (IsFree lane.number keeps) (λ slot. list_any (takes_slot slot) keeps) lane (times_in keeps) count (λ slot is. free_reference lane keeps slot within is)

-- The seats of a new opening.

begun : (freeze : ℕ) (gone : Bool) → is_some (frozen_by freeze (if gone then Some 0 else None)) ≡ gone
begun freeze true = refl
begun freeze false = refl

seat_begins : (freeze : ℕ) (end : End) (mine : Option ℕ) → reference_of end ≡ mine
    → SeatIs end (seat_by freeze (if end_is_gone end then Some 0 else None) mine)
seat_begins freeze end None is = (sym is, tt)
seat_begins freeze end (Some m) is = (sym is, begun freeze (end_is_gone end))

seat_is_free : (lane : ℕ) (keeps : List Remnant) (freeze slot : ℕ) (count mine : Option ℕ) → IfSome mine (IsFree lane keeps) → sits slot (seat_by freeze count mine) ≡ true
    → list_any (takes_slot slot) keeps ≡ false
seat_is_free lane keeps freeze slot count None is takes = absurd (cc)
seat_is_free lane keeps freeze slot count (Some m) is takes =
    subst (λ s. list_any (takes_slot s) keeps ≡ false)
    (eqb-true (slot_of m) slot (and_parts (slot_of m == slot) (not (is_frozen_out (frozen_by freeze count))) takes).0) is.free

abbrev new_of : Ticks → Connection → Remnant
new_of ticks c = remnant_of ticks (record { first = c; since = [] })

new_is_seated : (ticks : Ticks) (c : Connection) → IsSeated (new_of ticks c)
unfolding heard follow gone_for
new_is_seated ticks c =
    seated_live ticks c
    (seat_by ticks.freeze (if end_is_gone c.this then Some 0 else None) (reference_of c.this))
    (seat_by ticks.freeze (if end_is_gone c.that then Some 0 else None) (reference_of c.that))
    (seat_begins ticks.freeze c.this (reference_of c.this) refl) (seat_begins ticks.freeze c.that (reference_of c.that) refl)

new_is_apart : (lane : ℕ) (keeps : List Remnant) (ticks : Ticks) (c : Connection) (slot : ℕ) → EndsAre (IsFree lane keeps) c → takes_slot slot (new_of ticks c) ≡ true
    → list_any (takes_slot slot) keeps ≡ false
new_is_apart lane keeps ticks c slot are takes =
    let this : Option ℕ = gone_for ticks (λ d. d.this) c [] in
    let that : Option ℕ = gone_for ticks (λ d. d.that) c [] in
    ⊎_elim
    (seat_is_free lane keeps ticks.freeze slot this (reference_of c.this) are.0)
    (seat_is_free lane keeps ticks.freeze slot that (reference_of c.that) are.1)
    (or_cases (sits slot (seat_by ticks.freeze this (reference_of c.this))) (sits slot (seat_by ticks.freeze that (reference_of c.that))) takes)

pub among_free : (lane : Lane) (keeps : List Remnant) (wish : Wish) (answer : Option Answer) → lane.number < MOST_LANES → AreAmong (IsFree lane.number keeps) (opened_in lane keeps wish answer).connection
among_free lane keeps wish answer within =
    opened_among (IsFree lane.number keeps) lane.terms wish answer (lowest_in lane keeps (slots_needed wish answer)) (lowest_free lane keeps (slots_needed wish answer) within)

-- What is kept is orderly.

orderly_with : (lane : ℕ) (event : Event) (keeps : List Remnant) (ticks : Ticks) (connection : Option Connection)
    → AreAmong (IsFree lane keeps) connection → AreOrderly (map (remnant_after event) keeps) → AreOrderly (map (remnant_after event) keeps ++ new_remnant ticks connection)
orderly_with lane event keeps ticks None are orderly = subst AreOrderly (sym (append-nil (map (remnant_after event) keeps))) orderly
orderly_with lane event keeps ticks (Some c) are orderly =
    record {
      seated = All-push IsSeated (map (remnant_after event) keeps) (new_of ticks c) orderly.seated (new_is_seated ticks c);
      apart = apart_with (map (remnant_after event) keeps) (new_of ticks c) orderly.apart
          (λ slot takes. free_after slot event keeps (new_is_apart lane keeps ticks c slot are takes));
    }

pub orderly_after : (event : Event) (keeps : List Remnant) → AreOrderly keeps → AreOrderly (map (remnant_after event) keeps)
orderly_after event keeps orderly =
    record { seated = all_seated_after event keeps orderly.seated; apart = apart_after event keeps orderly.apart }

-- one more event, and what it opens
pub orderly_keeps : (lane : Lane) (keeps : List Remnant) (event : Event) (wish : Wish) (answer : Option Answer)
    → lane.number < MOST_LANES → AreOrderly keeps → AreOrderly (keeps_in lane keeps event wish answer)
orderly_keeps lane keeps event wish answer within orderly =
    orderly_with lane.number event keeps lane.terms.ticks (opened_in lane keeps wish answer).connection
    (among_free lane keeps wish answer within) (orderly_after event keeps orderly)

-- no opening
pub orderly_none : AreOrderly []
orderly_none = record { seated = All-nil IsSeated; apart = tt }
