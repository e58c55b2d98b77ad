-- How often the slots were taken, as openings change and join.
use Rattle.std.proofs.Common.{◌≡◌, ℕ, ◌+◌, ◌-◌, ◌==◌, ◌<◌, ◌≤◌, ◌||◌, Bool, true, false, cond, List, [], ◌∷◌, ◌++◌, map, get_or, set, replicate, Option, Some, None, IfSome, refl, sym, ap, ap₂, ◌∙◌, arith, eqb-true}
use Rattle.std.specs.Prelude.{option_map}
use Rattle.std.proofs.lemmas.Bool.{both_ways, eq-eqb, eqb-false, and_from}
use Rattle.std.proofs.lemmas.List.{get_or-set_same, get_or-set_other, get_or-replicate, length-set, length-replicate}
use Rattle.std.proofs.lemmas.List.Sums.{sum_by_push}
use Rattle.relay_base.specs.declared.limits.TheConstants.{SLOTS}
use Rattle.relay_base.specs.declared.words.Event.{Event}
use Rattle.local_refs.specs.Slots.{LaneSlots, generation_at, with_taken, after_tick}
use Rattle.local_refs.specs.declared.state.SlotState.TheVariants.{Free}
use Rattle.section_model.specs.Ends.{Connection}
use Rattle.section_model.specs.Step.{end_is_gone}
use Rattle.section_model.specs.References.{slot_of, generation_after}
use Rattle.section_model.specs.Lane.{fed, is_at}
use Rattle.section_model.proofs.References.{slot_below, once_more}
use Rattle.lane_law.proofs.Turns.{counted_mapped}
use Rattle.conn_journal.specs.declared.change.Next.{Next}
use Rattle.conn_journal.specs.Inner.Changes.{given_up, taken, put, put_all}
use Rattle.conn_journal.specs.Inner.Remnants.{Live, Seat, Remnant, seat_after, remnant_after, sits, took_slot, times_in}
use Rattle.conn_journal.specs.Inner.Uses.{AreCounted}
use Rattle.conn_journal.specs.Inner.Views.{OpeningsState}
use Rattle.conn_journal.proofs.Seated.{kept_as}

counted_alike : (times more : ℕ → ℕ) (slots : LaneSlots) → ((slot : ℕ) → more slot ≡ times slot) → AreCounted times slots → AreCounted more slots
counted_alike times more slots same counted =
    record { count = counted.count; each = λ slot some below. counted.each slot some below ∙ ap generation_after (sym (same slot)) }

-- An event takes no slot of an opening.

mine_after : (freeze : ℕ) (event : Event) (gone : Bool) (seat : Option Seat) → option_map (λ s. s.mine) (seat_after freeze event gone seat) ≡ option_map (λ s. s.mine) seat
mine_after freeze event gone None = refl
mine_after freeze event gone (Some s) = refl

took_parts : (slot : ℕ) (event : Event) (live : Option Live) (this that : Option Seat)
    → took_slot slot (remnant_after event (kept_as live this that)) ≡ took_slot slot (kept_as live this that)
took_parts slot event None this that = ap₂ (λ a b. is_at slot a || is_at slot b) (mine_after 0 event false this) (mine_after 0 event false that)
took_parts slot event (Some l) this that =
    let c : Connection = fed l.ticks l.connection event in
    ap₂ (λ a b. is_at slot a || is_at slot b)
    (mine_after l.ticks.freeze event (end_is_gone c.this) this) (mine_after l.ticks.freeze event (end_is_gone c.that) that)

pub counted_after : (event : Event) (keeps : List Remnant) (slots : LaneSlots) → AreCounted (times_in keeps) slots → AreCounted (times_in (map (remnant_after event) keeps)) slots
counted_after event keeps slots counted =
    counted_alike (times_in keeps) (times_in (map (remnant_after event) keeps)) slots
    (λ slot. counted_mapped (took_slot slot) (took_slot slot) (remnant_after event) (λ k. took_parts slot event k.live k.this k.that) keeps 0) counted

-- Nor is one taken where an end gives its reference up, or by a tick.

pub counted_given : {times : ℕ → ℕ} (g : Option ℕ) (slots : LaneSlots) → AreCounted times slots → AreCounted times (given_up g slots)
counted_given None slots counted = counted
counted_given (Some m) slots counted = record { count = counted.count; each = counted.each }

pub counted_ticked : {times : ℕ → ℕ} (slots : LaneSlots) → AreCounted times slots → AreCounted times (after_tick slots)
counted_ticked slots counted = record { count = counted.count; each = counted.each }

pub counted_put : {times : ℕ → ℕ} (nexts : List Next) (o : OpeningsState) → AreCounted times o.slots → AreCounted times (put_all nexts o).slots
counted_put [] o counted = counted
counted_put (next ∷ more) o counted =
    counted_put more (put next o) (counted_given next.that (given_up next.this o.slots) (counted_given next.this o.slots counted))

-- The ends of a new opening take slots.

abbrev pub seat_new : Option ℕ → Option Seat
seat_new mine = option_map (λ m. record { mine = m; left = None }) mine

counted_one : (times : ℕ → ℕ) (m : ℕ) (slots : LaneSlots) → 1 ≤ slot_of m → AreCounted times slots
    → AreCounted (λ slot. times slot + cond (is_at slot (Some m)) 1 0) (with_taken slots (slot_of m))
counted_one times m slots taken counted =
    record { count = length-set slots.generations place next ∙ counted.count; each = λ slot some below. by_test slot some below (slot_of m == slot) refl }
  where
    place : ℕ
    place = slot_of m - 1

    next : ℕ
    next = generation_after (generation_at slots (slot_of m) + 1)

    by_test : (slot : ℕ) → 1 ≤ slot → slot < SLOTS + 1 → (b : Bool) → (slot_of m == slot) ≡ b → get_or (set slots.generations place next) (slot - 1) 0 ≡ generation_after (times slot + cond b 1 0)
    by_test slot some below true e =
        let same : slot_of m ≡ slot = eqb-true (slot_of m) slot e in
        let here : slot - 1 ≡ slot_of m - 1 = ap (λ n. n - 1) (sym same) in
        ap (λ n. get_or (set slots.generations place next) n 0) here
        ∙ get_or-set_same slots.generations place next 0 (omega (arith, taken, slot_below m, counted.count))
        ∙ ap (λ g. generation_after (g + 1)) (counted.each (slot_of m) taken (slot_below m)) ∙ once_more (times (slot_of m))
        ∙ ap (λ n. generation_after (times n + 1)) same
    by_test slot some below false e =
        let none : times slot ≡ times slot + 0 = omega arith in
        get_or-set_other slots.generations place (slot - 1) next 0 (λ f. eqb-false (slot_of m) slot e (omega (arith, f, taken, some)))
        ∙ counted.each slot some below ∙ ap generation_after none

counted_end : (times : ℕ → ℕ) (g : Option ℕ) (slots : LaneSlots) → IfSome g (λ m. 1 ≤ slot_of m) → AreCounted times slots
    → AreCounted (λ slot. times slot + cond (is_at slot g) 1 0) (taken g slots)
counted_end times None slots some counted = counted_alike times (λ slot. times slot + 0) slots (λ slot. omega arith) counted
counted_end times (Some m) slots some counted = counted_one times m slots some counted

-- no slot is taken by both
never_both : (slot : ℕ) (g h : Option ℕ) → IfSome h (λ m. sits (slot_of m) (seat_new g) ≡ false) → is_at slot g ≡ true → is_at slot h ≡ true → ⊥
never_both slot None h apart one other = absurd (cc)
never_both slot (Some n) None apart one other = absurd (cc)
never_both slot (Some n) (Some m) apart one other =
    both_ways (sits (slot_of m) (seat_new (Some n))) apart
    (and_from (slot_of n == slot_of m) true (eq-eqb (slot_of n) (slot_of m) (eqb-true (slot_of n) slot one ∙ sym (eqb-true (slot_of m) slot other))) refl)

each_counts : (a b : Bool) → (a ≡ true → b ≡ true → ⊥) → cond (a || b) 1 0 ≡ cond a 1 0 + cond b 1 0
each_counts true true never = absurd (never refl refl)
each_counts true false never = refl
each_counts false true never = refl
each_counts false false never = refl

mine_new : (g : Option ℕ) → option_map (λ s. s.mine) (seat_new g) ≡ g
mine_new None = refl
mine_new (Some m) = refl

pub counted_opened : (keeps : List Remnant) (live : Option Live) (g h : Option ℕ) (slots : LaneSlots) → IfSome g (λ m. 1 ≤ slot_of m) → IfSome h (λ m. 1 ≤ slot_of m)
    → IfSome h (λ m. sits (slot_of m) (seat_new g) ≡ false) → AreCounted (times_in keeps) slots
    → AreCounted (times_in (keeps ++ kept_as live (seat_new g) (seat_new h) ∷ [])) (taken h (taken g slots))
counted_opened keeps live g h slots some_this some_that apart counted =
    counted_alike (λ slot. times_in keeps slot + cond (is_at slot g) 1 0 + cond (is_at slot h) 1 0) (times_in (keeps ++ k ∷ [])) (taken h (taken g slots)) more
    (counted_end (λ slot. times_in keeps slot + cond (is_at slot g) 1 0) h (taken g slots) some_that (counted_end (times_in keeps) g slots some_this counted))
  where
    k : Remnant
    k = kept_as live (seat_new g) (seat_new h)

    more : (slot : ℕ) → times_in (keeps ++ k ∷ []) slot ≡ times_in keeps slot + cond (is_at slot g) 1 0 + cond (is_at slot h) 1 0
    more slot =
        let took : took_slot slot k ≡ (is_at slot g || is_at slot h) = ap₂ (λ a b. is_at slot a || is_at slot b) (mine_new g) (mine_new h) in
        let as_ends : cond (took_slot slot k) 1 0 ≡ cond (is_at slot g || is_at slot h) 1 0 = ap (λ (b : Bool). cond {A = ℕ} b 1 0) took in
        let pushed = sum_by_push (λ x. cond (took_slot slot x) 1 0) keeps k in
        let both = each_counts (is_at slot g) (is_at slot h) (never_both slot g h apart) in
        omega (arith, pushed, as_ends, both)

-- none is taken yet
pub counted_none : (lane freeze : ℕ) → AreCounted (times_in []) (record { lane = lane; freeze = freeze; states = replicate SLOTS Free; generations = replicate SLOTS 0 })
counted_none lane freeze =
    record {
      count = length-replicate {A = ℕ} SLOTS 0;
      each = λ slot some below. get_or-replicate SLOTS (slot - 1) 0 0 (omega (arith, some, below));
    }
