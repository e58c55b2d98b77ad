-- What a lane keeps stands for its openings, once a change is made.
use Rattle.std.proofs.Common.{◌≡◌, ℕ, zero, suc, ◌+◌, ◌<◌, true, false, List, [], ◌∷◌, length, map, get_or, set, All, Option, Some, None, refl, sym, subst, ap, ap₂, ◌∙◌, ⊎_elim, arith}
use Rattle.std.specs.Prelude.{Vec, IfSome, option_map, is_some}
use Rattle.std.specs.Global.{Global}
use Rattle.std.specs.List.{list_any}
use Rattle.std.proofs.lemmas.Bool.{both_ways, false_from_ne_true, or_cases, or_left, or_right, or_parts, or_from}
use Rattle.std.proofs.lemmas.List.{get_or-map, length-map, length-set, map-set}
use Rattle.std.proofs.lemmas.List.Elements.{All-set, All-get_or, All-map, All-weaker}
use Rattle.relay_base.specs.declared.words.Event.{Event}
use Rattle.relay_base.specs.declared.words.Event.TheVariants.{Tick}
use Rattle.section_model.specs.Lane.{is_tick}
use Rattle.section_coupling.specs.Duos.{DuoState, taken_after}
use Rattle.conn_journal.specs.declared.change.Next.{Next}
use Rattle.conn_journal.specs.declared.change.Change.TheVariants.{Nothing, Heard, Ticked}
use Rattle.conn_journal.specs.declared.kept.Heard.{Heard as HeardState}
use Rattle.conn_journal.specs.Inner.Changes.{given_up, owned, put, put_all, ticked, CanBePut, CanAllBePut, Makes}
use Rattle.conn_journal.specs.Inner.Finding.{IsForPlace}
use Rattle.conn_journal.specs.Inner.Hearing.{Becomes}
use Rattle.conn_journal.specs.Inner.Remnants.{Seat, Remnant, sits, takes_slot, remnant_after}
use Rattle.conn_journal.specs.Inner.Seated.{IsSeated, AreApart}
use Rattle.conn_journal.specs.Inner.Stands.{IsOfLane, IsPlaced, Stands}
use Rattle.conn_journal.specs.Inner.Ticking.{nothing, waited, live_ticked, frozen_if, given, put_seat, put_seats, put_lives, AllAreKept, HasHeld, MayGive, AllMayGive}
use Rattle.conn_journal.specs.Inner.Uses.{use_of, AreUsed}
use Rattle.conn_journal.specs.Inner.Views.{OpeningsState, live_at, lives_at}
use Rattle.conn_journal.proofs.Apart.{takes_later}
use Rattle.conn_journal.proofs.Given.{kept_as, IsThere, both_give, both_lane, both_freeze, frozen_sits}
use Rattle.conn_journal.proofs.HeardAt.{seat_waits}
use Rattle.conn_journal.proofs.NewSeats.{orderly_after}
use Rattle.conn_journal.proofs.Sides.{OpeningGives, gives_by, after_live, all_placed_after, placed_waited, there_placed}
use Rattle.conn_journal.proofs.Slotted.{used_waited}
use Rattle.conn_journal.proofs.Counted.{counted_after, counted_given, counted_ticked, counted_put}
use Rattle.conn_journal.proofs.Used.{EndsApart}

pub count_is : (keeps : List Remnant) (o : OpeningsState) → lives_at o.taken o.kept ≡ map (λ k. k.live) keeps → length o.kept ≡ length keeps
count_is keeps o lives = omega (arith, ap (λ xs. length xs) lives, length-map o.kept (option_map (live_at o.taken)), length-map keeps (λ (k : Remnant). k.live))

pub any_default : {X : Type 0} (xs : List X) (n : ℕ) (d e : X) → n < length xs → get_or xs n d ≡ get_or xs n e
any_default [] n d e within = absurd (omega (arith, within))
any_default (x ∷ xs) zero d e within = refl
any_default (x ∷ xs) (suc n) d e within = any_default xs n d e (omega (arith, within))

-- a connection that is kept under a number
pub is_kept : (kept : List (Option DuoState)) (number : ℕ) (d : DuoState) → number < length kept → Some d ≡ get_or kept number (Some d) → is_some (get_or kept number None) ≡ true
is_kept kept number d within here = ap (λ one. is_some one) (any_default kept number None (Some d) within ∙ sym here)

-- the connection that is kept under a number is that of the opening there
pub live_there : (keeps : List Remnant) (o : OpeningsState) (number : ℕ) (one : Option DuoState) → number < length keeps → lives_at o.taken o.kept ≡ map (λ k. k.live) keeps → one ≡ get_or o.kept number one
    → (get_or keeps number nothing).live ≡ option_map (live_at o.taken) one
live_there keeps o number one within lives here =
    sym (get_or-map (λ (k : Remnant). k.live) keeps number nothing None within)
    ∙ (ap (λ xs. get_or xs number None) (sym lives)
    ∙ (get_or-map (option_map (live_at o.taken)) o.kept number one None (omega (arith, within, count_is keeps o lives)) ∙ ap (option_map (live_at o.taken)) (sym here)))

-- Nobody hears the event.

pub makes_nothing : (event : Event) (o : OpeningsState) (keeps : List Remnant) → map (remnant_after event) keeps ≡ keeps → Stands keeps o → Makes Nothing o o.taken (map (remnant_after event) keeps)
makes_nothing event o keeps same stands = record { fits = tt; taken = refl; lane = refl; freeze = refl; stands = subst (λ ks. Stands ks o) (sym same) stands }

-- One connection hears it.

pub makes_heard : (event : Event) (o : OpeningsState) (keeps : List Remnant) (number : ℕ) (d : DuoState) (h : HeardState) → is_tick event ≡ false → taken_after o.taken event ≡ o.taken → Stands keeps o → IsForPlace event keeps number
    → Some d ≡ get_or o.kept number (Some d) → Becomes o.taken event d h → Makes (Heard (record { number = number; one = h.one; this = h.this; that = h.that })) o o.taken (map (remnant_after event) keeps)
makes_heard event o keeps number d h untimed still stands for here becomes =
    let k : Remnant = get_or keeps number nothing in
    let live : k.live ≡ Some (live_at o.taken d) = live_there keeps o number (Some d) for.within stands.lives here in
    let seated : IsSeated k = All-get_or IsSeated keeps number nothing for.within stands.orderly.seated in
    let gives : OpeningGives event d.ticks.freeze h.this h.that k = gives_by event k (live_at o.taken d) h.this h.that seated live becomes.this becomes.that in
    let placed : IsPlaced o.slots.lane o.slots.freeze k = All-get_or (IsPlaced o.slots.lane o.slots.freeze) keeps number nothing for.within stands.placed in
    let freezes : d.ticks.freeze ≡ o.slots.freeze = subst (λ x. IfSome x (λ l. l.ticks.freeze ≡ o.slots.freeze)) live placed.freezes in
    let there : IsThere keeps number o.slots.lane k.live k.this k.that = there_placed o.slots.lane o.slots.freeze number keeps for.within stands.orderly.apart stands.placed in
    let has_this : HasHeld h.this k.this = subst (HasHeld h.this) (seat_waits event k.this untimed) gives.held_this in
    let has_that : HasHeld h.that k.that = subst (HasHeld h.that) (seat_waits event k.that untimed) gives.held_that in
    let later : Remnant = remnant_after event k in
    let both = both_give h.this h.that keeps number k.live later.live k.this k.that o.slots o.owners there has_this has_that stands.uses in
    let this : frozen_if o.slots.freeze h.this k.this ≡ later.this = ap₂ (λ f s. frozen_if f h.this s) (sym freezes) (sym (seat_waits event k.this untimed)) ∙ gives.this in
    let that : frozen_if o.slots.freeze h.that k.that ≡ later.that = ap₂ (λ f s. frozen_if f h.that s) (sym freezes) (sym (seat_waits event k.that untimed)) ∙ gives.that in
    let all : set keeps number (kept_as later.live (frozen_if o.slots.freeze h.this k.this) (frozen_if o.slots.freeze h.that k.that)) ≡ map (remnant_after event) keeps =
    ap₂ (λ s t. set keeps number (kept_as later.live s t)) this that ∙ sym (for.after nothing) in
    let became : option_map (live_at o.taken) h.one ≡ later.live =
    ap (λ n. option_map (live_at n) h.one) (sym still) ∙ (becomes.live ∙ sym (ap (λ (r : Remnant). r.live) (after_live event k (live_at o.taken d) live))) in
    record {
      fits = record {
        number = omega (arith, for.within, count_is keeps o stands.lives);
        alive = is_kept o.kept number d (omega (arith, for.within, count_is keeps o stands.lives)) here;
        this = both.this;
        that = both.that;
      };
      taken = refl;
      lane = both_lane h.this h.that o.slots;
      freeze = both_freeze h.this h.that o.slots;
      stands = record {
        lives = map-set (option_map (live_at o.taken)) o.kept number h.one
            ∙ (ap₂ (λ xs x. set xs number x) stands.lives became
            ∙ (sym (map-set (λ (r : Remnant). r.live) keeps number later) ∙ ap (map (λ (r : Remnant). r.live)) (sym (for.after nothing))));
        orderly = orderly_after event keeps stands.orderly;
        placed = subst (λ lane. All (IsPlaced lane (given_up h.that (given_up h.this o.slots)).freeze) (map (remnant_after event) keeps)) (sym (both_lane h.this h.that o.slots))
            (subst (λ freeze. All (IsPlaced o.slots.lane freeze) (map (remnant_after event) keeps)) (sym (both_freeze h.this h.that o.slots))
            (all_placed_after o.slots.lane o.slots.freeze event keeps stands.placed));
        uses = subst (λ ks. AreUsed (use_of ks) (given_up h.that (given_up h.this o.slots)) (owned h.that None (owned h.this None o.owners))) all both.used;
        turns = counted_given h.that (given_up h.this o.slots) (counted_given h.this o.slots (counted_after event keeps o.slots stands.turns));
      };
    }

-- A tick.

free_set : (slot : ℕ) (keeps : List Remnant) (number : ℕ) (k : Remnant) → (takes_slot slot k ≡ true → takes_slot slot (get_or keeps number nothing) ≡ true) → list_any (takes_slot slot) keeps ≡ false
    → list_any (takes_slot slot) (set keeps number k) ≡ false
free_set slot [] number k fewer free = refl
free_set slot (x ∷ keeps) zero k fewer free =
    let parts = or_parts (takes_slot slot x) (list_any (takes_slot slot) keeps) free in
    or_from (takes_slot slot k) (list_any (takes_slot slot) keeps) (false_from_ne_true (takes_slot slot k) (λ e. both_ways (takes_slot slot x) parts.0 (fewer e))) parts.1
free_set slot (x ∷ keeps) (suc number) k fewer free =
    let parts = or_parts (takes_slot slot x) (list_any (takes_slot slot) keeps) free in
    or_from (takes_slot slot x) (list_any (takes_slot slot) (set keeps number k)) parts.0 (free_set slot keeps number k fewer parts.1)

-- an opening that takes no slot more in the place of another
apart_set : (keeps : List Remnant) (number : ℕ) (k : Remnant) → ((slot : ℕ) → takes_slot slot k ≡ true → takes_slot slot (get_or keeps number nothing) ≡ true) → AreApart keeps → AreApart (set keeps number k)
apart_set [] number k fewer apart = tt
apart_set (x ∷ keeps) zero k fewer apart = (λ slot takes. apart.0 slot (fewer slot takes), apart.1)
apart_set (x ∷ keeps) (suc number) k fewer apart = (λ slot takes. free_set slot keeps number k (fewer slot) (apart.0 slot takes), apart_set keeps number k fewer apart.1)

-- the slots and the index stand for these openings
record AreSet (lane freeze : ℕ) (keeps : List Remnant) (o : OpeningsState) : Type 0 where
  count : length o.kept ≡ length keeps
  apart : AreApart keeps
  placed : All (IsPlaced lane freeze) keeps
  used : AreUsed (use_of keeps) o.slots o.owners
  in_lane : o.slots.lane ≡ lane
  freezes : o.slots.freeze ≡ freeze

given_lane : (lane freeze : ℕ) (g : Option ℕ) (seat : Option Seat) → IsOfLane lane seat → IsOfLane lane (frozen_if freeze g seat)
given_lane lane freeze None seat of = of
given_lane lane freeze (Some m) None of = tt
given_lane lane freeze (Some m) (Some s) of = of

given_takes : (freeze slot : ℕ) (next : Next) (k : Remnant) → HasHeld next.this k.this → HasHeld next.that k.that → takes_slot slot (given freeze next k) ≡ true → takes_slot slot k ≡ true
given_takes freeze slot next k this that e =
    ⊎_elim
    (λ (f : sits slot (frozen_if freeze next.this k.this) ≡ true). or_left (sits slot k.this) (sits slot k.that) (frozen_sits next.this freeze slot k.this this f))
    (λ (f : sits slot (frozen_if freeze next.that k.that) ≡ true). or_right (sits slot k.this) (sits slot k.that) (frozen_sits next.that freeze slot k.that that f))
    (or_cases (sits slot (frozen_if freeze next.this k.this)) (sits slot (frozen_if freeze next.that k.that)) e)

placed_given : (lane freeze : ℕ) (next : Next) (k : Remnant) → HasHeld next.this k.this → HasHeld next.that k.that → IsPlaced lane freeze k → IsPlaced lane freeze (given freeze next k)
placed_given lane freeze next k this that at =
    record {
      this = given_lane lane freeze next.this k.this at.this;
      that = given_lane lane freeze next.that k.that at.that;
      ends = λ slot e.
          false_from_ne_true (sits slot (frozen_if freeze next.that k.that))
          (λ f. both_ways (sits slot k.that) (at.ends slot (frozen_sits next.this freeze slot k.this this e)) (frozen_sits next.that freeze slot k.that that f));
      freezes = at.freezes;
    }

put_one : (lane freeze : ℕ) (next : Next) (keeps : List Remnant) (o : OpeningsState) → MayGive next keeps → is_some (get_or o.kept next.number None) ≡ true → AreSet lane freeze keeps o → CanBePut next o × AreSet lane freeze (put_seat freeze next keeps) (put next o)
put_one lane freeze next keeps o may alive are =
    let number : ℕ = next.number in
    let k : Remnant = get_or keeps number nothing in
    let there : IsThere keeps number o.slots.lane k.live k.this k.that = subst (λ l. IsThere keeps number l k.live k.this k.that) (sym are.in_lane) (there_placed lane freeze number keeps may.number are.apart are.placed) in
    let both = both_give next.this next.that keeps number k.live k.live k.this k.that o.slots o.owners there may.this may.that are.used in (
      record { number = omega (arith, may.number, are.count); alive = alive; this = both.this; that = both.that },
      record {
        count = length-set o.kept number next.one ∙ (are.count ∙ sym (length-set keeps number (given freeze next k)));
        apart = apart_set keeps number (given freeze next k) (λ slot e. given_takes freeze slot next k may.this may.that e) are.apart;
        placed = All-set (IsPlaced lane freeze) keeps number (given freeze next k) (placed_given lane freeze next k may.this may.that (All-get_or (IsPlaced lane freeze) keeps number nothing may.number are.placed)) are.placed;
        used = subst (λ f. AreUsed (use_of (set keeps number (kept_as k.live (frozen_if f next.this k.this) (frozen_if f next.that k.that)))) (put next o).slots (put next o).owners) are.freezes both.used;
        in_lane = both_lane next.this next.that o.slots ∙ are.in_lane;
        freezes = both_freeze next.this next.that o.slots ∙ are.freezes;
      },
    )

put_each : (lane freeze : ℕ) (nexts : List Next) (keeps : List Remnant) (o : OpeningsState) → AllMayGive freeze nexts keeps → AllAreKept nexts o.kept → AreSet lane freeze keeps o
    → CanAllBePut nexts o × AreSet lane freeze (put_seats freeze nexts keeps) (put_all nexts o)
put_each lane freeze [] keeps o may alive are = (tt, are)
put_each lane freeze (next ∷ nexts) keeps o may alive are =
    let one = put_one lane freeze next keeps o may.0 alive.0 are in
    let more = put_each lane freeze nexts (put_seat freeze next keeps) (put next o) may.1 alive.1 one.1 in
    ((one.0, more.0), more.1)

pub kept_put : (nexts : List Next) (o : OpeningsState) → (put_all nexts o).kept ≡ put_lives nexts o.kept
kept_put [] o = refl
kept_put (next ∷ nexts) o = kept_put nexts (put next o)

pub taken_put : (nexts : List Next) (o : OpeningsState) → (put_all nexts o).taken ≡ o.taken
taken_put [] o = refl
taken_put (next ∷ nexts) o = taken_put nexts (put next o)

waited_fewer : (slot : ℕ) (k : Remnant) → takes_slot slot (waited k) ≡ true → takes_slot slot k ≡ true
waited_fewer slot k e = takes_later slot Tick (kept_as None k.this k.that) e

free_waited : (slot : ℕ) (keeps : List Remnant) → list_any (takes_slot slot) keeps ≡ false → list_any (takes_slot slot) (map waited keeps) ≡ false
free_waited slot [] free = refl
free_waited slot (k ∷ keeps) free =
    let parts = or_parts (takes_slot slot k) (list_any (takes_slot slot) keeps) free in
    or_from (takes_slot slot (waited k)) (list_any (takes_slot slot) (map waited keeps))
    (false_from_ne_true (takes_slot slot (waited k)) (λ e. both_ways (takes_slot slot k) parts.0 (waited_fewer slot k e))) (free_waited slot keeps parts.1)

apart_waited : (keeps : List Remnant) → AreApart keeps → AreApart (map waited keeps)
apart_waited [] apart = tt
apart_waited (k ∷ keeps) apart = (λ slot takes. free_waited slot keeps (apart.0 slot (waited_fewer slot k takes)), apart_waited keeps apart.1)

pub makes_ticked : (o : OpeningsState) (keeps : List Remnant) (nexts : Vec Next Global) → Stands keeps o → lives_at (o.taken + 1) (put_lives nexts.items o.kept) ≡ map live_ticked keeps
    → put_seats o.slots.freeze nexts.items (map waited keeps) ≡ map (remnant_after Tick) keeps → AllMayGive o.slots.freeze nexts.items (map waited keeps) → AllAreKept nexts.items o.kept → Makes (Ticked nexts) o (o.taken + 1) (map (remnant_after Tick) keeps)
makes_ticked o keeps nexts stands lives seats gives alive =
    let lane : ℕ = o.slots.lane in
    let freeze : ℕ = o.slots.freeze in
    let ends : All EndsApart keeps = All-weaker (IsPlaced lane freeze) EndsApart (λ k at. at.ends) keeps stands.placed in
    let before : AreSet lane freeze (map waited keeps) (ticked o) =
    record {
      count = count_is keeps o stands.lives ∙ sym (length-map keeps waited);
      apart = apart_waited keeps stands.orderly.apart;
      placed = All-map (IsPlaced lane freeze) waited keeps
          (All-weaker (IsPlaced lane freeze) (λ k. IsPlaced lane freeze (waited k)) (placed_waited lane freeze) keeps stands.placed);
      used = used_waited keeps o.slots o.owners stands.orderly.apart ends stands.uses;
      in_lane = refl;
      freezes = refl;
    } in
    let after = put_each lane freeze nexts.items (map waited keeps) (ticked o) gives alive before in
    let taken : (put_all nexts.items (ticked o)).taken ≡ o.taken + 1 = taken_put nexts.items (ticked o) in
    record {
      fits = after.0;
      taken = taken;
      lane = after.1.in_lane;
      freeze = after.1.freezes;
      stands = record {
        lives = ap₂ lives_at taken (kept_put nexts.items (ticked o)) ∙ (lives ∙ live_each keeps);
        orderly = orderly_after Tick keeps stands.orderly;
        placed = subst (λ l. All (IsPlaced l (put_all nexts.items (ticked o)).slots.freeze) (map (remnant_after Tick) keeps)) (sym after.1.in_lane)
            (subst (λ f. All (IsPlaced lane f) (map (remnant_after Tick) keeps)) (sym after.1.freezes) (all_placed_after lane freeze Tick keeps stands.placed));
        uses = subst (λ ks. AreUsed (use_of ks) (put_all nexts.items (ticked o)).slots (put_all nexts.items (ticked o)).owners) seats after.1.used;
        turns = counted_put nexts.items (ticked o) (counted_ticked o.slots (counted_after Tick keeps o.slots stands.turns));
      };
    }
  where
    live_each : (ks : List Remnant) → map live_ticked ks ≡ map (λ k. k.live) (map (remnant_after Tick) ks)
    live_each [] = refl
    live_each (k ∷ ks) = ap (λ xs. live_ticked k ∷ xs) (live_each ks)
