-- A new opening has its references among those that are free, each in the next turn of its slot.
use Rattle.std.proofs.Common.{◌≡◌, ℕ, zero, suc, ◌+◌, ◌==◌, ◌<◌, ◌≤◌, not, Bool, true, false, List, [], ◌∷◌, length, map, take, filter, get_or, All, Option, Some, None, IfSome, if◌then◌else◌, sym, subst, ap, arith}
use Rattle.std.specs.List.{range_with_len}
use Rattle.std.proofs.lemmas.Bool.{not-true}
use Rattle.std.proofs.lemmas.List.Elements.{All-nil, All-cons, All-head, All-tail, All-map, All-take, All-weaker, All-filter, filter_passes}
use Rattle.relay_base.specs.declared.causes.TheConstants.{REFUSAL_UNQUALIFIED}
use Rattle.plant_core.specs.declared.answer.Rewrite.{Rewrite}
use Rattle.plant_core.specs.declared.answer.Answer.{Answer}
use Rattle.plant_core.specs.declared.answer.Answer.TheVariants.{Local, Forward, Refused}
use Rattle.plant_core.specs.declared.terms.Terms.{Terms}
use Rattle.plant_core.specs.declared.terms.Ticks.{Ticks}
use Rattle.section_model.specs.Ends.{Connection}
use Rattle.section_model.specs.Opening.{Wanted, Wish, by_cr, by_user, no_wish, fits, slots_needed, opened_by_cr, opened_by_user, opened, opened_through, not_opened, cref_to}
use Rattle.relay_base.specs.declared.limits.TheConstants.{MOST_LANES, SLOTS}
use Rattle.section_model.specs.References.{slot_of, generation_after}
use Rattle.section_model.specs.Lane.{Lane, Opening, reference_of, reference_at, times_taken, is_held, enough, lowest_free, opening_of}
use Rattle.section_model.proofs.References.{slot_read}
use Rattle.lane_law.specs.TurnLaw.{IsInTurn}

-- What is opened has its references among those that are given.

abbrev pub EndsAre : (ℕ → Type 0) → Connection → Type 0
EndsAre P c = IfSome (reference_of c.this) P × IfSome (reference_of c.that) P

abbrev pub AreAmong : (ℕ → Type 0) → Option Connection → Type 0
AreAmong P connection = IfSome connection (EndsAre P)

through_among : (P : ℕ → Type 0) (terms : Terms) (w : Wanted) (point : ℕ) (rewrite : Rewrite) (hop : Option ℕ) (refs : List ℕ) → All P refs
    → AreAmong P (opened_through terms w point rewrite hop refs).connection
through_among P terms w point rewrite hop [] good = tt
through_among P terms w point rewrite hop (mine ∷ []) good = tt
through_among P terms w point rewrite hop (mine ∷ next ∷ refs) good =
    (All-head P mine (next ∷ refs) good, All-head P next refs (All-tail P mine (next ∷ refs) good))

by_cr_among : (P : ℕ → Type 0) (terms : Terms) (w : Wanted) (answer : Answer) (refs : List ℕ) → All P refs → AreAmong P (opened_by_cr terms w answer refs).connection
unfolding opened_by_cr
by_cr_among P terms w (Refused cause local) refs good = tt
by_cr_among P terms w (Local ssn) [] good = tt
by_cr_among P terms w (Local ssn) (mine ∷ refs) good = (All-head P mine refs good, tt)
by_cr_among P terms w (Forward point rewrite hop) refs good = by_test (fits w rewrite hop)
  where
    by_test : (b : Bool) → AreAmong P (if b then opened_through terms w point rewrite hop refs else not_opened (cref_to w REFUSAL_UNQUALIFIED ∷ [])).connection
    by_test true = through_among P terms w point rewrite hop refs good
    by_test false = tt

by_user_among : (P : ℕ → Type 0) (terms : Terms) (ssn tag : ℕ) (w : Wanted) (answer : Answer) (refs : List ℕ) → All P refs
    → AreAmong P (opened_by_user terms ssn tag w answer refs).connection
unfolding opened_by_user
by_user_among P terms ssn tag w (Refused cause local) refs good = tt
by_user_among P terms ssn tag w (Local other) refs good = tt
by_user_among P terms ssn tag w (Forward point rewrite hop) [] good = tt
by_user_among P terms ssn tag w (Forward point rewrite hop) (mine ∷ refs) good = (tt, All-head P mine refs good)

pub opened_among : (P : ℕ → Type 0) (terms : Terms) (wish : Wish) (answer : Option Answer) (refs : List ℕ) → All P refs → AreAmong P (opened terms wish answer refs).connection
unfolding opened
opened_among P terms (by_cr w) (Some answer) refs good = by_cr_among P terms w answer refs good
opened_among P terms (by_cr w) None refs good = tt
opened_among P terms (by_user ssn tag w) (Some answer) refs good = by_user_among P terms ssn tag w answer refs good
opened_among P terms (by_user ssn tag w) None refs good = tt
opened_among P terms no_wish answer refs good = tt

-- The lowest free references.

abbrev pub IsFreeSlot : Ticks → List Opening → ℕ → Type 0
IsFreeSlot ticks openings slot = is_held ticks openings slot ≡ false

-- the reference that an opening after these has for a slot that nobody holds
pub record IsNext (lane : Lane) (openings : List Opening) (mine : ℕ) : Type 0 where
  pub some : 1 ≤ slot_of mine
  pub free : IsFreeSlot lane.terms.ticks openings (slot_of mine)
  pub turn : IsInTurn lane openings mine

pub below_end : (a n last : ℕ) → a + n ≤ last → All (λ slot. slot < last) (range_with_len a n)
below_end a zero last within = All-nil (λ slot. slot < last)
below_end a (suc n) last within =
    All-cons (λ slot. slot < last) a (range_with_len (a + 1) n) (omega (arith, within)) (below_end (a + 1) n last (omega (arith, within)))

pub above_start : (first a n : ℕ) → first ≤ a → All (λ slot. first ≤ slot) (range_with_len a n)
above_start first a zero within = All-nil (λ slot. first ≤ slot)
above_start first a (suc n) within =
    All-cons (λ slot. first ≤ slot) a (range_with_len (a + 1) n) within (above_start first (a + 1) n (omega (arith, within)))

-- the slots of a lane of which this isn't said
pub record IsSlotWithout (held : ℕ → Bool) (slot : ℕ) : Type 0 where
  pub some : 1 ≤ slot
  pub below : slot < SLOTS + 1
  pub free : held slot ≡ false

pub slots_without : (held : ℕ → Bool) → All (IsSlotWithout held) (filter (λ slot. not (held slot)) (range_with_len 1 SLOTS))
slots_without held = λ k d within.
    record {
      some = All-filter (λ slot. not (held slot)) (λ slot. 1 ≤ slot) (range_with_len 1 SLOTS) (above_start 1 1 SLOTS (omega arith)) k d within;
      below = All-filter (λ slot. not (held slot)) (λ slot. slot < SLOTS + 1) (range_with_len 1 SLOTS) (below_end 1 SLOTS (SLOTS + 1) (omega arith)) k d within;
      free = not-true (held (get_or (filter (λ slot. not (held slot)) (range_with_len 1 SLOTS)) k d)) (filter_passes (λ slot. not (held slot)) (range_with_len 1 SLOTS) k d within);
    }

-- the references of some of these slots, or none
pub enough_are : (P : ℕ → Type 0) (held : ℕ → Bool) (lane : Lane) (times : ℕ → ℕ) (count : ℕ) → ((slot : ℕ) → IsSlotWithout held slot → P (reference_at lane times slot))
    → All P (enough lane times count (take count (filter (λ slot. not (held slot)) (range_with_len 1 SLOTS))))
enough_are P held lane times count is = by_test (length free == count)
  where
    slots : List ℕ
    slots = filter (λ slot. not (held slot)) (range_with_len 1 SLOTS)

    free : List ℕ
    free = take count slots

    by_test : (b : Bool) → All P (if b then map (reference_at lane times) free else [])
    by_test true =
        All-map P (reference_at lane times) free
        (All-weaker (IsSlotWithout held) (λ slot. P (reference_at lane times slot)) is free
        (All-take (IsSlotWithout held) count slots (slots_without held)))
    by_test false = All-nil P

reference_is_next : (lane : Lane) (openings : List Opening) (slot : ℕ) → lane.number < MOST_LANES
    → IsSlotWithout (is_held lane.terms.ticks openings) slot → IsNext lane openings (reference_at lane (times_taken openings) slot)
reference_is_next lane openings slot within is =
    let same : slot ≡ slot_of (reference_at lane (times_taken openings) slot) =
    sym (slot_read lane.number (generation_after (times_taken openings slot)) slot within is.below) in
    record {
      some = subst (λ s. 1 ≤ s) same is.some;
      free = subst (IsFreeSlot lane.terms.ticks openings) same is.free;
      turn = ap (reference_at lane (times_taken openings)) same;
    }

-- what an event opens has free references, in the next turns of their slots
pub opens_next : (lane : Lane) (openings : List Opening) (wish : Wish) (answer : Option Answer) → lane.number < MOST_LANES
    → AreAmong (IsNext lane openings) (opening_of lane openings wish answer).connection
unfolding lowest_free
opens_next lane openings wish answer within =
    opened_among (IsNext lane openings) lane.terms wish answer (lowest_free lane openings (slots_needed wish answer))
    (enough_are (IsNext lane openings) (is_held lane.terms.ticks openings) lane (times_taken openings) (slots_needed wish answer)
    (λ slot is. reference_is_next lane openings slot within is))
