-- The slots and the index, once ends of one opening give their references up.
use Rattle.std.proofs.Common.{◌≡◌, ℕ, ◌+◌, ◌==◌, ◌<◌, ◌≤◌, not, Bool, true, false, List, length, get_or, set, Option, Some, None, if◌then◌else◌, refl, sym, subst, ap, ◌∙◌, arith}
use Rattle.std.proofs.lemmas.Bool.{both_ways, eq-eqb, eqb-true, or_left, or_right, and_parts, and_from, false_from_ne_true}
use Rattle.std.proofs.lemmas.List.{set-get_or}
use Rattle.section_model.specs.References.{slot_of, lane_number_of}
use Rattle.local_refs.specs.Slots.{LaneSlots, frozen_for}
use Rattle.local_refs.specs.declared.state.SlotState.TheVariants.{Free}
use Rattle.conn_journal.specs.Inner.Remnants.{Live, Seat, Remnant, is_frozen_out, sits, takes_slot}
use Rattle.conn_journal.specs.Inner.Seated.{AreApart}
use Rattle.conn_journal.specs.Inner.Stands.{IsOfLane}
use Rattle.conn_journal.specs.Inner.Changes.{given_up, owned, CanGiveUp}
use Rattle.conn_journal.specs.Inner.Ticking.{nothing, frozen_if, HasHeld}
use Rattle.conn_journal.specs.Inner.Uses.{use_by, first_use, use_at, use_of, state_of, owner_of, AreUsed}
use Rattle.conn_journal.proofs.Used.{EndsApart, unused, first_none, use_there, use_alike, seat_state}
use Rattle.section_model.proofs.References.{slot_below}
use Rattle.conn_journal.proofs.Slotted.{used_at, used_alike, is_held}

abbrev pub kept_as : Option Live → Option Seat → Option Seat → Remnant
kept_as live this that = record { live = live; this = this; that = that }

abbrev pub held : ℕ → Option Seat
held m = Some (record { mine = m; left = None })

abbrev frozen : ℕ → ℕ → Option Seat
frozen freeze m = Some (record { mine = m; left = Some freeze })

pub held_sits : (m : ℕ) → sits (slot_of m) (held m) ≡ true
held_sits m = and_from (slot_of m == slot_of m) true (eq-eqb (slot_of m) (slot_of m) refl) refl

pub held_use : (number m : ℕ) → use_by number (slot_of m) (held m) ≡ Some (record { number = number; left = None })
held_use number m = ap (λ b. if b then Some (record { number = number; left = None }) else None) (held_sits m)

frozen_state : (number freeze m : ℕ) → state_of (use_by number (slot_of m) (frozen freeze m)) ≡ frozen_for freeze
frozen_state number freeze m = seat_state number (slot_of m) (record { mine = m; left = Some freeze }) ∙ ap (λ b. if b then frozen_for freeze else Free) (eq-eqb (slot_of m) (slot_of m) refl)

frozen_owner : (number freeze m slot : ℕ) → owner_of (use_by number slot (frozen freeze m)) ≡ None
frozen_owner number freeze m slot = by_test (sits slot (frozen freeze m))
  where
    by_test : (b : Bool) → owner_of (if b then Some (record { number = number; left = Some freeze }) else None) ≡ None
    by_test true = refl
    by_test false = refl

pub elsewhere : (m slot : ℕ) (left : Option ℕ) → (slot ≡ slot_of m → ⊥) → sits slot (Some (record { mine = m; left = left })) ≡ false
elsewhere m slot left apart =
    false_from_ne_true (sits slot (Some (record { mine = m; left = left })))
    (λ e. apart (sym (eqb-true (slot_of m) slot (and_parts (slot_of m == slot) (not (is_frozen_out left)) e).0)))

-- a reference of the lane, of an opening that is somewhere
pub record IsGiver (keeps : List Remnant) (number lane m : ℕ) : Type 0 where
  pub within : number < length keeps
  pub apart : AreApart keeps
  pub takes : takes_slot (slot_of m) (get_or keeps number nothing) ≡ true
  pub reference : lane_number_of m ≡ lane
  pub some : 1 ≤ slot_of m

-- One end gives its reference up, by which the opening `k` becomes `l`.
gives_one : (keeps : List Remnant) (number m : ℕ) (k l : Remnant) (slots : LaneSlots) (owners : List (Option ℕ)) → IsGiver keeps number slots.lane m
    → use_at number (slot_of m) k ≡ Some (record { number = number; left = None }) → use_at number (slot_of m) l ≡ use_by number (slot_of m) (frozen slots.freeze m)
    → ((slot : ℕ) → (slot ≡ slot_of m → ⊥) → use_at number slot l ≡ use_at number slot k) → AreUsed (use_of (set keeps number k)) slots owners
    → CanGiveUp (Some m) slots × AreUsed (use_of (set keeps number l)) (given_up (Some m) slots) (owned (Some m) None owners)
gives_one keeps number m k l slots owners giver has frozen_now others used = (
  is_held (use_of (set keeps number k)) slots owners m number used giver.reference giver.some (there k ∙ has),
  used_at (use_of (set keeps number k)) (use_of (set keeps number l)) slots owners (slot_of m) (frozen_for slots.freeze) None giver.some (slot_below m)
      (ap state_of (there l ∙ frozen_now) ∙ frozen_state number slots.freeze m)
      (ap owner_of (there l ∙ frozen_now) ∙ frozen_owner number slots.freeze m (slot_of m))
      (λ slot apart. use_alike 0 slot number keeps l k (ap (λ n. use_at n slot l) first ∙ (others slot apart ∙ ap (λ n. use_at n slot k) (sym first))))
      used,
)
  where
    first : 0 + number ≡ number
    first = omega arith

    there : (x : Remnant) → use_of (set keeps number x) (slot_of m) ≡ use_at number (slot_of m) x
    there x = use_there 0 (slot_of m) number keeps nothing x giver.apart giver.within giver.takes ∙ ap (λ n. use_at n (slot_of m) x) first

this_one : (keeps : List Remnant) (number m : ℕ) (live later : Option Live) (that : Option Seat) (slots : LaneSlots) (owners : List (Option ℕ)) → IsGiver keeps number slots.lane m
    → EndsApart (kept_as live (held m) that) → AreUsed (use_of (set keeps number (kept_as live (held m) that))) slots owners
    → CanGiveUp (Some m) slots × AreUsed (use_of (set keeps number (kept_as later (frozen slots.freeze m) that))) (given_up (Some m) slots) (owned (Some m) None owners)
this_one keeps number m live later that slots owners giver ends used =
    gives_one keeps number m (kept_as live (held m) that) (kept_as later (frozen slots.freeze m) that) slots owners giver
    (ap (λ u. first_use u (use_by number (slot_of m) that)) (held_use number m))
    (ap (first_use (use_by number (slot_of m) (frozen slots.freeze m))) (unused number (slot_of m) that (ends (slot_of m) (held_sits m))) ∙ first_none (use_by number (slot_of m) (frozen slots.freeze m)))
    (λ slot apart. ap (λ u. first_use u (use_by number slot that)) (unused number slot (frozen slots.freeze m) (elsewhere m slot (Some slots.freeze) apart) ∙ sym (unused number slot (held m) (elsewhere m slot None apart))))
    used

that_one : (keeps : List Remnant) (number m : ℕ) (live later : Option Live) (this : Option Seat) (slots : LaneSlots) (owners : List (Option ℕ)) → IsGiver keeps number slots.lane m
    → sits (slot_of m) this ≡ false → AreUsed (use_of (set keeps number (kept_as live this (held m)))) slots owners
    → CanGiveUp (Some m) slots × AreUsed (use_of (set keeps number (kept_as later this (frozen slots.freeze m)))) (given_up (Some m) slots) (owned (Some m) None owners)
that_one keeps number m live later this slots owners giver free used =
    gives_one keeps number m (kept_as live this (held m)) (kept_as later this (frozen slots.freeze m)) slots owners giver
    (ap (λ u. first_use u (use_by number (slot_of m) (held m))) (unused number (slot_of m) this free) ∙ held_use number m)
    (ap (λ u. first_use u (use_by number (slot_of m) (frozen slots.freeze m))) (unused number (slot_of m) this free))
    (λ slot apart. ap (first_use (use_by number slot this)) (unused number slot (frozen slots.freeze m) (elsewhere m slot (Some slots.freeze) apart) ∙ sym (unused number slot (held m) (elsewhere m slot None apart))))
    used

-- The opening of a number, whose ends give up what they have, or don't.

pub record IsThere (keeps : List Remnant) (number lane : ℕ) (live : Option Live) (this that : Option Seat) : Type 0 where
  pub within : number < length keeps
  pub apart : AreApart keeps
  pub is : get_or keeps number nothing ≡ kept_as live this that
  pub lane_this : IsOfLane lane this
  pub lane_that : IsOfLane lane that
  pub ends : EndsApart (kept_as live this that)

giver_this : (keeps : List Remnant) (number lane m : ℕ) (live : Option Live) (that : Option Seat) → IsThere keeps number lane live (held m) that → IsGiver keeps number lane m
giver_this keeps number lane m live that there =
    record {
      within = there.within;
      apart = there.apart;
      takes = ap (takes_slot (slot_of m)) there.is ∙ or_left (sits (slot_of m) (held m)) (sits (slot_of m) that) (held_sits m);
      reference = there.lane_this.1;
      some = there.lane_this.0;
    }

giver_that : (keeps : List Remnant) (number lane m : ℕ) (live : Option Live) (this : Option Seat) → IsThere keeps number lane live this (held m) → IsGiver keeps number lane m
giver_that keeps number lane m live this there =
    record {
      within = there.within;
      apart = there.apart;
      takes = ap (takes_slot (slot_of m)) there.is ∙ or_right (sits (slot_of m) this) (sits (slot_of m) (held m)) (held_sits m);
      reference = there.lane_that.1;
      some = there.lane_that.0;
    }

this_gives : (g : Option ℕ) (keeps : List Remnant) (number : ℕ) (live later : Option Live) (this that : Option Seat) (slots : LaneSlots) (owners : List (Option ℕ)) → IsThere keeps number slots.lane live this that
    → HasHeld g this → AreUsed (use_of keeps) slots owners
    → CanGiveUp g slots × AreUsed (use_of (set keeps number (kept_as later (frozen_if slots.freeze g this) that))) (given_up g slots) (owned g None owners)
this_gives None keeps number live later this that slots owners there has used = (
  tt,
  used_alike (use_of keeps) (use_of (set keeps number (kept_as later this that))) slots owners
      (λ slot. use_alike 0 slot number keeps (kept_as later this that) (kept_as live this that) refl ∙ ap (λ k. use_of (set keeps number k) slot) (sym there.is) ∙ ap (λ ks. use_of ks slot) (set-get_or keeps number nothing)) used,
)
this_gives (Some m) keeps number live later this that slots owners there has used =
    subst (λ t. IsThere keeps number slots.lane live t that
    → CanGiveUp (Some m) slots × AreUsed (use_of (set keeps number (kept_as later (frozen_if slots.freeze (Some m) t) that))) (given_up (Some m) slots) (owned (Some m) None owners))
    (sym has)
    (λ at. this_one keeps number m live later that slots owners (giver_this keeps number slots.lane m live that at) at.ends
    (subst (λ ks. AreUsed (use_of ks) slots owners) (sym (ap (set keeps number) (sym at.is) ∙ set-get_or keeps number nothing)) used))
    there

-- what gives a reference up takes no other slot
pub frozen_sits : (g : Option ℕ) (freeze slot : ℕ) (seat : Option Seat) → HasHeld g seat → sits slot (frozen_if freeze g seat) ≡ true → sits slot seat ≡ true
frozen_sits None freeze slot seat has e = e
frozen_sits (Some m) freeze slot seat has e =
    let was : sits slot (frozen freeze m) ≡ true = ap (λ s. sits slot (frozen_if freeze (Some m) s)) (sym has) ∙ e in
    ap (sits slot) has ∙ and_from (slot_of m == slot) true (and_parts (slot_of m == slot) (not (freeze == 0)) was).0 refl

that_gives : (g h : Option ℕ) (keeps : List Remnant) (number : ℕ) (live later : Option Live) (this that : Option Seat) (slots : LaneSlots) (freeze : ℕ) (owners : List (Option ℕ)) → IsThere keeps number slots.lane live this that
    → HasHeld h this → HasHeld g that → AreUsed (use_of (set keeps number (kept_as later (frozen_if freeze h this) that))) slots owners
    → CanGiveUp g slots × AreUsed (use_of (set keeps number (kept_as later (frozen_if freeze h this) (frozen_if slots.freeze g that)))) (given_up g slots) (owned g None owners)
that_gives None h keeps number live later this that slots freeze owners there before has used = (tt, used)
that_gives (Some m) h keeps number live later this that slots freeze owners there before has used =
    subst (λ t. IsThere keeps number slots.lane live this t → AreUsed (use_of (set keeps number (kept_as later (frozen_if freeze h this) t))) slots owners
    → CanGiveUp (Some m) slots × AreUsed (use_of (set keeps number (kept_as later (frozen_if freeze h this) (frozen_if slots.freeze (Some m) t)))) (given_up (Some m) slots) (owned (Some m) None owners))
    (sym has)
    (λ at now. that_one keeps number m later later (frozen_if freeze h this) slots owners (giver_that keeps number slots.lane m live this at)
    (false_from_ne_true (sits (slot_of m) (frozen_if freeze h this))
    (λ e. both_ways (sits (slot_of m) (held m)) (at.ends (slot_of m) (frozen_sits h freeze (slot_of m) this before e)) (held_sits m))) now)
    there used

kept_lane : (g : Option ℕ) (slots : LaneSlots) → (given_up g slots).lane ≡ slots.lane
kept_lane None slots = refl
kept_lane (Some m) slots = refl

kept_freeze : (g : Option ℕ) (slots : LaneSlots) → (given_up g slots).freeze ≡ slots.freeze
kept_freeze None slots = refl
kept_freeze (Some m) slots = refl

pub both_lane : (g h : Option ℕ) (slots : LaneSlots) → (given_up h (given_up g slots)).lane ≡ slots.lane
both_lane g h slots = kept_lane h (given_up g slots) ∙ kept_lane g slots

pub both_freeze : (g h : Option ℕ) (slots : LaneSlots) → (given_up h (given_up g slots)).freeze ≡ slots.freeze
both_freeze g h slots = kept_freeze h (given_up g slots) ∙ kept_freeze g slots

pub record BothGiven (g h : Option ℕ) (keeps later : List Remnant) (slots : LaneSlots) (owners : List (Option ℕ)) : Type 0 where
  pub this : CanGiveUp g slots
  pub that : CanGiveUp h (given_up g slots)
  pub used : AreUsed (use_of later) (given_up h (given_up g slots)) (owned h None (owned g None owners))

pub both_give : (g h : Option ℕ) (keeps : List Remnant) (number : ℕ) (live later : Option Live) (this that : Option Seat) (slots : LaneSlots) (owners : List (Option ℕ)) → IsThere keeps number slots.lane live this that
    → HasHeld g this → HasHeld h that → AreUsed (use_of keeps) slots owners
    → BothGiven g h keeps (set keeps number (kept_as later (frozen_if slots.freeze g this) (frozen_if slots.freeze h that))) slots owners
both_give g h keeps number live later this that slots owners there has_this has_that used =
    let one = this_gives g keeps number live later this that slots owners there has_this used in
    let two = that_gives h g keeps number live later this that (given_up g slots) slots.freeze (owned g None owners)
    (subst (λ lane. IsThere keeps number lane live this that) (sym (kept_lane g slots)) there) has_this has_that one.1 in
    record {
      this = one.0;
      that = two.0;
      used = subst (λ f. AreUsed (use_of (set keeps number (kept_as later (frozen_if slots.freeze g this) (frozen_if f h that)))) (given_up h (given_up g slots)) (owned h None (owned g None owners))) (kept_freeze g slots) two.1;
    }
