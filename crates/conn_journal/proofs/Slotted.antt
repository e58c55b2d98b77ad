-- The slots and the index of a lane, as ends give references up or take them.
use Rattle.std.proofs.Common.{◌≡◌, ℕ, zero, suc, ◌+◌, ◌-◌, ◌==◌, ◌<◌, ◌≤◌, ◌⊎◌, inl, inr, not, Bool, true, false, cond, List, [], ◌∷◌, All, length, map, get_or, set, replicate, Option, Some, None, refl, sym, ap, ap₂, ◌∙◌, ⊎_elim, arith, filter, take, if◌then◌else◌}
use Rattle.std.specs.Prelude.{slice_get, slice_set}
use Rattle.std.specs.List.{list_any, range_with_len}
use Rattle.std.proofs.lemmas.Bool.{cases_Bool, eqb-true, eqb-false}
use Rattle.std.proofs.lemmas.Option.{slice_get-get_or, get_or_from_slice_get}
use Rattle.std.proofs.lemmas.List.Elements.{All-head, All-tail, All-take}
use Rattle.std.proofs.lemmas.List.{get_or-set_same, get_or-set_other, get_or-map, get_or-replicate, length-set, length-map, length-replicate}
use Rattle.section_model.specs.References.{slot_of, lane_number_of, reference_of_slot}
use Rattle.relay_base.specs.declared.limits.TheConstants.{SLOTS}
use Rattle.local_refs.specs.Slots.{LaneSlots, is_free, free_from, next_reference, free_references, lowered, with_state, with_taken, after_tick, IsHeld}
use Rattle.local_refs.specs.declared.state.SlotState.{SlotState}
use Rattle.local_refs.specs.declared.state.SlotState.TheVariants.{Free, Held}
use Rattle.section_model.specs.Lane.{Lane, reference_at}
use Rattle.section_model.proofs.References.{slot_below}
use Rattle.lane_law.proofs.Opened.{IsSlotWithout, slots_without}
use Rattle.conn_journal.specs.Inner.Remnants.{Remnant, takes_slot, free_in, times_in, lowest_in}
use Rattle.conn_journal.specs.Inner.Seated.{AreApart}
use Rattle.conn_journal.specs.Inner.Lowest.{lowest_of}
use Rattle.conn_journal.specs.Inner.Ticking.{waited}
use Rattle.conn_journal.specs.Inner.Uses.{Use, use_from, use_of, state_of, owner_of, owner_at, AreUsed, AreCounted}
use Rattle.conn_journal.proofs.Used.{EndsApart, all_use, use_lowered}

same_slot : (m n : ℕ) → (m ≡ n) ⊎ (m ≡ n → ⊥)
same_slot m n = ⊎_elim (λ (e : (m == n) ≡ true). inl (eqb-true m n e)) (λ (e : (m == n) ≡ false). inr (eqb-false m n e)) (cases_Bool (m == n))

-- One slot is used otherwise.

pub used_at : (before after : ℕ → Option Use) (slots : LaneSlots) (owners : List (Option ℕ)) (slot : ℕ) (state : SlotState) (owner : Option ℕ)
    → 1 ≤ slot → slot < SLOTS + 1 → state_of (after slot) ≡ state → owner_of (after slot) ≡ owner → ((other : ℕ) → (other ≡ slot → ⊥) → after other ≡ before other)
    → AreUsed before slots owners → AreUsed after (with_state slots slot state) (slice_set owners slot owner)
used_at before after slots owners slot state owner some within is has others used =
    record {
      count = length-set slots.states (slot - 1) state ∙ used.count;
      states = λ place below. state_at place below (same_slot place (slot - 1));
      many = length-set owners slot owner ∙ used.many;
      owners = λ other below. owner_here other below (same_slot other slot);
    }
  where
    state_at : (place : ℕ) → place < SLOTS → (place ≡ slot - 1) ⊎ (place ≡ slot - 1 → ⊥) → slice_get (set slots.states (slot - 1) state) place ≡ Some (state_of (after (place + 1)))
    state_at place below (inl e) =
        let here : place + 1 ≡ slot = omega (arith, e, some) in
        slice_get-get_or (set slots.states (slot - 1) state) place Free (omega (arith, below, used.count, length-set slots.states (slot - 1) state))
        ∙ ap Some (ap (λ n. get_or (set slots.states (slot - 1) state) n Free) e ∙ (get_or-set_same slots.states (slot - 1) state Free (omega (arith, within, some, used.count)) ∙ (sym is ∙ ap (λ n. state_of (after n)) (sym here))))
    state_at place below (inr e) =
        slice_get-get_or (set slots.states (slot - 1) state) place Free (omega (arith, below, used.count, length-set slots.states (slot - 1) state))
        ∙ (ap Some (get_or-set_other slots.states (slot - 1) place state Free e)
        ∙ (sym (slice_get-get_or slots.states place Free (omega (arith, below, used.count)))
        ∙ (used.states place below ∙ ap (λ u. Some (state_of u)) (sym (others (place + 1) (λ f. e (omega (arith, f))))))))

    owner_here : (other : ℕ) → other < SLOTS + 1 → (other ≡ slot) ⊎ (other ≡ slot → ⊥) → owner_at (set owners slot owner) other ≡ owner_of (after other)
    owner_here other below (inl e) =
        ap (λ n. get_or (set owners slot owner) n None) e ∙ (get_or-set_same owners slot owner None (omega (arith, within, used.many)) ∙ (sym has ∙ ap (λ n. owner_of (after n)) (sym e)))
    owner_here other below (inr e) = get_or-set_other owners slot other owner None e ∙ (used.owners other below ∙ ap owner_of (sym (others other e)))

-- it is taken
pub used_taken : (before after : ℕ → Option Use) (slots : LaneSlots) (owners : List (Option ℕ)) (slot : ℕ) (owner : Option ℕ) → 1 ≤ slot → slot < SLOTS + 1
    → state_of (after slot) ≡ Held → owner_of (after slot) ≡ owner → ((other : ℕ) → (other ≡ slot → ⊥) → after other ≡ before other)
    → AreUsed before slots owners → AreUsed after (with_taken slots slot) (slice_set owners slot owner)
used_taken before after slots owners slot owner some within is has others used =
    let at = used_at before after slots owners slot Held owner some within is has others used in
    record { count = at.count; states = at.states; many = at.many; owners = at.owners }

-- the same uses
pub used_alike : (before after : ℕ → Option Use) (slots : LaneSlots) (owners : List (Option ℕ)) → ((slot : ℕ) → after slot ≡ before slot) → AreUsed before slots owners → AreUsed after slots owners
used_alike before after slots owners same used =
    record {
      count = used.count;
      states = λ place below. used.states place below ∙ ap (λ u. Some (state_of u)) (sym (same (place + 1)));
      many = used.many;
      owners = λ slot below. used.owners slot below ∙ ap owner_of (sym (same slot));
    }

-- a slot that an end has, of a reference of the lane
pub is_held : (uses : ℕ → Option Use) (slots : LaneSlots) (owners : List (Option ℕ)) (mine number : ℕ) → AreUsed uses slots owners → lane_number_of mine ≡ slots.lane
    → 1 ≤ slot_of mine → uses (slot_of mine) ≡ Some (record { number = number; left = None }) → IsHeld slots mine
is_held uses slots owners mine number used reference some has =
    let within : slot_of mine < SLOTS + 1 = slot_below mine in
    let next : (slot_of mine - 1) + 1 ≡ slot_of mine = omega (arith, some) in
    (reference, (some, used.states (slot_of mine - 1) (omega (arith, some, within)) ∙ ap Some (ap (λ n. state_of (uses n)) next ∙ ap state_of has)))

-- A tick.

pub used_waited : (keeps : List Remnant) (slots : LaneSlots) (owners : List (Option ℕ)) → AreApart keeps → All EndsApart keeps
    → AreUsed (use_of keeps) slots owners → AreUsed (use_of (map waited keeps)) (after_tick slots) owners
used_waited keeps slots owners apart ends used =
    record {
      count = length-map slots.states lowered ∙ used.count;
      states = λ place below.
          slice_get-get_or (map lowered slots.states) place Free (omega (arith, below, used.count, length-map slots.states lowered))
          ∙ ap Some (get_or-map lowered slots.states place Free Free (omega (arith, below, used.count))
          ∙ (ap lowered (get_or_from_slice_get slots.states place (state_of (use_of keeps (place + 1))) Free (used.states place below))
          ∙ sym (use_lowered (place + 1) keeps apart ends).0));
      many = used.many;
      owners = λ slot below. used.owners slot below ∙ sym (use_lowered slot keeps apart ends).1;
    }

-- The lowest free references.

free_alike : (slot : ℕ) (states : List SlotState) (p : ℕ → Bool) → ((place : ℕ) → place < length states → is_free (get_or states place Held) ≡ p (slot + place))
    → free_from slot states ≡ filter p (range_with_len slot (length states))
unfolding free_from
free_alike slot [] p same = refl
free_alike slot (state ∷ more) p same =
    let here : slot + 0 ≡ slot = omega arith in
    let first : is_free state ≡ p slot = same 0 (omega arith) ∙ ap p here in
    let rest : free_from (slot + 1) more ≡ filter p (range_with_len (slot + 1) (length more)) =
    free_alike (slot + 1) more p (λ place below. let next : slot + suc place ≡ slot + 1 + place = omega arith in same (suc place) (omega (arith, below)) ∙ ap p next) in
    ap₂ (λ b xs. cond b (slot ∷ xs) xs) first rest

pub free_slots_are : (keeps : List Remnant) (slots : LaneSlots) (owners : List (Option ℕ)) → AreUsed (use_of keeps) slots owners → free_from 1 slots.states ≡ free_in keeps
free_slots_are keeps slots owners used =
    free_alike 1 slots.states (λ slot. not (list_any (takes_slot slot) keeps))
    (λ place below.
    let next : place + 1 ≡ 1 + place = omega arith in
    ap is_free (get_or_from_slice_get slots.states place (state_of (use_of keeps (place + 1))) Held (used.states place (omega (arith, below, used.count))))
    ∙ ((all_use 0 (place + 1) keeps).free ∙ ap (λ slot. not (list_any (takes_slot slot) keeps)) next))
    ∙ ap (λ n. filter (λ slot. not (list_any (takes_slot slot) keeps)) (range_with_len 1 n)) used.count

take_mapped : {X Y : Type 0} (f : X → Y) (n : ℕ) (xs : List X) → take n (map f xs) ≡ map f (take n xs)
take_mapped f zero xs = refl
take_mapped f (suc n) [] = refl
take_mapped f (suc n) (x ∷ xs) = ap (λ ys. f x ∷ ys) (take_mapped f n xs)

-- the references of these slots are those of the next turns
mapped_next : (lane : Lane) (keeps : List Remnant) (slots : LaneSlots) → slots.lane ≡ lane.number → AreCounted (times_in keeps) slots
    → (free : List ℕ) → All (IsSlotWithout (λ slot. list_any (takes_slot slot) keeps)) free → map (next_reference slots) free ≡ map (reference_at lane (times_in keeps)) free
mapped_next lane keeps slots same counted [] are = refl
mapped_next lane keeps slots same counted (slot ∷ free) are =
    let is = All-head (IsSlotWithout (λ s. list_any (takes_slot s) keeps)) slot free are in
    ap₂ (λ x xs. x ∷ xs) (ap₂ (λ l g. reference_of_slot l g slot) same (counted.each slot is.some is.below))
    (mapped_next lane keeps slots same counted free (All-tail (IsSlotWithout (λ s. list_any (takes_slot s) keeps)) slot free are))

pub lowest_are : (lane : Lane) (keeps : List Remnant) (slots : LaneSlots) (owners : List (Option ℕ)) (count : ℕ) → slots.lane ≡ lane.number → AreUsed (use_of keeps) slots owners
    → AreCounted (times_in keeps) slots → lowest_of slots count ≡ lowest_in lane keeps count
lowest_are lane keeps slots owners count same used counted =
    let free : List ℕ = take count (free_in keeps) in
    let few : take count (free_references slots) ≡ map (reference_at lane (times_in keeps)) free =
    take_mapped (next_reference slots) count (free_from 1 slots.states) ∙ ap (λ xs. map (next_reference slots) (take count xs)) (free_slots_are keeps slots owners used)
    ∙ mapped_next lane keeps slots same counted free
    (All-take (IsSlotWithout (λ slot. list_any (takes_slot slot) keeps)) count (free_in keeps) (slots_without (λ slot. list_any (takes_slot slot) keeps))) in
    ap (λ xs. if length xs == count then xs else []) few
    ∙ ap (λ n. if n == count then map (reference_at lane (times_in keeps)) free else []) (length-map free (reference_at lane (times_in keeps)))

-- No opening yet.

pub unused_none : (lane freeze : ℕ) → AreUsed (use_of []) (record { lane = lane; freeze = freeze; states = replicate SLOTS Free; generations = replicate SLOTS 0 }) (replicate (SLOTS + 1) None)
unfolding use_from
unused_none lane freeze =
    record {
      count = length-replicate SLOTS Free;
      states = λ place below. slice_get-get_or (replicate SLOTS Free) place Free (omega (arith, below, length-replicate SLOTS Free)) ∙ ap Some (get_or-replicate SLOTS place Free Free below);
      many = length-replicate {A = Option ℕ} (SLOTS + 1) None;
      owners = λ slot below. get_or-replicate (SLOTS + 1) slot None None below;
    }
