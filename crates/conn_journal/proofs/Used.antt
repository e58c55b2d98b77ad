-- The uses of the slots, as openings change and join.
use Rattle.std.proofs.Common.{◌≡◌, ℕ, zero, suc, ◌+◌, ◌-◌, ◌==◌, ◌<◌, ◌&&◌, ◌||◌, not, Bool, true, false, cond, if◌then◌else◌, List, [], ◌∷◌, ◌++◌, All, length, map, get_or, set, Option, Some, None, is_some, refl, sym, subst, ap, ◌∙◌, arith}
use Rattle.std.specs.List.{list_any, position, position_from}
use Rattle.std.proofs.lemmas.List.Elements.{All-head, All-tail}
use Rattle.std.proofs.lemmas.Bool.{both_ways, eq-eqb, eqb-true, and_parts, or_parts, false_from_ne_true}
use Rattle.std.proofs.lemmas.Iterator.Adapters.{position_from-zero}
use Rattle.section_model.specs.References.{slot_of}
use Rattle.relay_base.specs.declared.words.Event.TheVariants.{Tick}
use Rattle.local_refs.specs.Slots.{is_free, frozen_for, lowered}
use Rattle.local_refs.specs.declared.state.SlotState.TheVariants.{Free}
use Rattle.conn_journal.specs.Inner.Remnants.{Seat, Remnant, is_frozen_out, sits, takes_slot, has, has_slot, left_after, seat_after}
use Rattle.conn_journal.specs.Inner.Seated.{AreApart}
use Rattle.conn_journal.specs.Inner.Ticking.{waited}
use Rattle.conn_journal.specs.Inner.Uses.{Use, use_by, first_use, use_at, use_from, use_of, state_left, state_of, owner_left, owner_of}
use Rattle.conn_journal.proofs.HeardAt.{none_has, hasnt, has_sits}

-- What an end makes of a slot.

-- a slot that is frozen for some ticks is not free
frozen_some : (left : ℕ) → not (left == 0) ≡ true → is_free (frozen_for left) ≡ false
unfolding frozen_for
frozen_some zero some = absurd (cc)
frozen_some (suc left) some = refl

left_some : (left : Option ℕ) → not (is_frozen_out left) ≡ true → is_free (state_left left) ≡ false
left_some None some = refl
left_some (Some left) some = frozen_some left some

-- the use of a slot, as it is used or not
pub record IsUse (u : Option Use) (used : Bool) : Type 0 where
  pub some : is_some u ≡ used
  pub free : is_free (state_of u) ≡ not used

seat_use : (number slot : ℕ) (seat : Option Seat) → IsUse (use_by number slot seat) (sits slot seat)
seat_use number slot None = record { some = refl; free = refl }
seat_use number slot (Some s) = by_test (sits slot (Some s)) refl
  where
    by_test : (b : Bool) → sits slot (Some s) ≡ b → IsUse (if b then Some (record { number = number; left = s.left }) else None) b
    by_test true e = record { some = refl; free = left_some s.left (and_parts (slot_of s.mine == slot) (not (is_frozen_out s.left)) e).1 }
    by_test false e = record { some = refl; free = refl }

either_use : (u v : Option Use) (a b : Bool) → IsUse u a → IsUse v b → IsUse (first_use u v) (a || b)
either_use None v true b one two = absurd (both_ways true (sym one.some) refl)
either_use None v false b one two = two
either_use (Some u) v true b one two = record { some = refl; free = one.free }
either_use (Some u) v false b one two = absurd (both_ways true one.some refl)

pub opening_use : (number slot : ℕ) (k : Remnant) → IsUse (use_at number slot k) (takes_slot slot k)
opening_use number slot k = either_use (use_by number slot k.this) (use_by number slot k.that) (sits slot k.this) (sits slot k.that) (seat_use number slot k.this) (seat_use number slot k.that)

pub all_use : (number slot : ℕ) (keeps : List Remnant) → IsUse (use_from number slot keeps) (list_any (takes_slot slot) keeps)
unfolding use_from
all_use number slot [] = record { some = refl; free = refl }
all_use number slot (k ∷ keeps) =
    either_use (use_at number slot k) (use_from (number + 1) slot keeps) (takes_slot slot k) (list_any (takes_slot slot) keeps) (opening_use number slot k) (all_use (number + 1) slot keeps)

no_use : (u : Option Use) → is_some u ≡ false → u ≡ None
no_use None e = refl
no_use (Some u) e = absurd (cc)

pub unused : (number slot : ℕ) (seat : Option Seat) → sits slot seat ≡ false → use_by number slot seat ≡ None
unused number slot seat free = no_use (use_by number slot seat) ((seat_use number slot seat).some ∙ free)

pub unused_at : (number slot : ℕ) (k : Remnant) → takes_slot slot k ≡ false → use_at number slot k ≡ None
unused_at number slot k free = no_use (use_at number slot k) ((opening_use number slot k).some ∙ free)

pub unused_by_all : (number slot : ℕ) (keeps : List Remnant) → list_any (takes_slot slot) keeps ≡ false → use_from number slot keeps ≡ None
unused_by_all number slot keeps free = no_use (use_from number slot keeps) ((all_use number slot keeps).some ∙ free)

pub first_none : (u : Option Use) → first_use u None ≡ u
first_none None = refl
first_none (Some u) = refl

-- One opening becomes another.

-- none of them takes it
none_there : (slot : ℕ) (keeps : List Remnant) (place : ℕ) (d : Remnant) → place < length keeps → list_any (takes_slot slot) keeps ≡ false → takes_slot slot (get_or keeps place d) ≡ false
none_there slot [] place d within free = absurd (omega (arith, within))
none_there slot (x ∷ keeps) zero d within free = (or_parts (takes_slot slot x) (list_any (takes_slot slot) keeps) free).0
none_there slot (x ∷ keeps) (suc place) d within free =
    none_there slot keeps place d (omega (arith, within)) (or_parts (takes_slot slot x) (list_any (takes_slot slot) keeps) free).1

-- one before doesn't take it
pub not_first : (slot : ℕ) (x : Remnant) (keeps : List Remnant) (place : ℕ) (d : Remnant) → ((s : ℕ) → takes_slot s x ≡ true → list_any (takes_slot s) keeps ≡ false)
    → place < length keeps → takes_slot slot (get_or keeps place d) ≡ true → takes_slot slot x ≡ false
not_first slot x keeps place d apart within takes =
    false_from_ne_true (takes_slot slot x) (λ e. both_ways (takes_slot slot (get_or keeps place d)) (none_there slot keeps place d within (apart slot e)) takes)

-- the one that takes the slot alone says what it is
pub use_there : (number slot place : ℕ) (keeps : List Remnant) (d k : Remnant) → AreApart keeps → place < length keeps → takes_slot slot (get_or keeps place d) ≡ true
    → use_from number slot (set keeps place k) ≡ use_at (number + place) slot k
unfolding use_from
use_there number slot place [] d k apart within takes = absurd (omega (arith, within))
use_there number slot zero (x ∷ keeps) d k apart within takes =
    let here : number ≡ number + 0 = omega arith in
    ap (first_use (use_at number slot k)) (unused_by_all (number + 1) slot keeps (apart.0 slot takes))
    ∙ first_none (use_at number slot k) ∙ ap (λ n. use_at n slot k) here
use_there number slot (suc place) (x ∷ keeps) d k apart within takes =
    let next : number + 1 + place ≡ number + suc place = omega arith in
    ap (λ u. first_use u (use_from (number + 1) slot (set keeps place k))) (unused_at number slot x (not_first slot x keeps place d apart.0 (omega (arith, within)) takes))
    ∙ use_there (number + 1) slot place keeps d k apart.1 (omega (arith, within)) takes ∙ ap (λ n. use_at n slot k) next

-- one that uses the slot alike changes nothing
pub use_alike : (number slot place : ℕ) (keeps : List Remnant) (k l : Remnant) → use_at (number + place) slot k ≡ use_at (number + place) slot l
    → use_from number slot (set keeps place k) ≡ use_from number slot (set keeps place l)
unfolding use_from
use_alike number slot place [] k l same = refl
use_alike number slot zero (x ∷ keeps) k l same =
    let here : number + 0 ≡ number = omega arith in
    ap (λ u. first_use u (use_from (number + 1) slot keeps)) (subst (λ n. use_at n slot k ≡ use_at n slot l) here same)
use_alike number slot (suc place) (x ∷ keeps) k l same =
    let next : number + suc place ≡ number + 1 + place = omega arith in
    ap (first_use (use_at number slot x)) (use_alike (number + 1) slot place keeps k l (subst (λ n. use_at n slot k ≡ use_at n slot l) next same))

-- One opening more.

pub use_more : (number slot : ℕ) (keeps : List Remnant) (k : Remnant) → use_from number slot (keeps ++ k ∷ []) ≡ first_use (use_from number slot keeps) (use_at (number + length keeps) slot k)
unfolding use_from
use_more number slot [] k =
    let here : number ≡ number + 0 = omega arith in first_none (use_at number slot k) ∙ ap (λ n. use_at n slot k) here
use_more number slot (x ∷ keeps) k =
    let next : number + 1 + length keeps ≡ number + suc (length keeps) = omega arith in
    ap (first_use (use_at number slot x)) (use_more (number + 1) slot keeps k ∙ ap (λ n. first_use (use_from (number + 1) slot keeps) (use_at n slot k)) next)
    ∙ first_assoc (use_at number slot x) (use_from (number + 1) slot keeps) (use_at (number + suc (length keeps)) slot k)
  where
    first_assoc : (u v w : Option Use) → first_use u (first_use v w) ≡ first_use (first_use u v) w
    first_assoc None v w = refl
    first_assoc (Some u) v w = refl

-- The index.

-- who has the slot
held_owner : (number slot : ℕ) (seat : Option Seat) → sits slot seat ≡ true → owner_of (use_by number slot seat) ≡ (if has slot seat then Some number else None)
held_owner number slot None e = absurd (cc)
held_owner number slot (Some s) e =
    let parts = and_parts (slot_of s.mine == slot) (not (is_frozen_out s.left)) e in
    ap (λ b. owner_of (if b then Some (record { number = number; left = s.left }) else None)) e
    ∙ (by_left s.left ∙ ap (λ b. if b && not (is_some s.left) then Some number else None) (sym parts.0))
  where
    by_left : (left : Option ℕ) → owner_left number left ≡ (if not (is_some left) then Some number else None)
    by_left None = refl
    by_left (Some left) = refl

no_place : {X : Type 0} (p : X → Bool) (number : ℕ) (xs : List X) → list_any p xs ≡ false → position_from p number xs ≡ None
no_place p number [] none = refl
no_place p number (x ∷ xs) none =
    let parts = or_parts (p x) (list_any p xs) none in
    ap (λ b. cond b (Some number) (position_from p (number + 1) xs)) parts.0 ∙ no_place p (number + 1) xs parts.1

hasnt_seat : (slot : ℕ) (seat : Option Seat) → sits slot seat ≡ false → has slot seat ≡ false
hasnt_seat slot seat free = false_from_ne_true (has slot seat) (λ e. both_ways (sits slot seat) free (has_sits slot seat e))

-- no slot has two ends of one opening
abbrev pub EndsApart : Remnant → Type 0
EndsApart k = (slot : ℕ) → sits slot k.this ≡ true → sits slot k.that ≡ false

owner_by : (number slot : ℕ) (k : Remnant) → EndsApart k → takes_slot slot k ≡ true → owner_of (use_at number slot k) ≡ (if has_slot slot k then Some number else None)
owner_by number slot k ends takes = by_test (sits slot k.this) refl
  where
    or_no : (a b : Bool) → b ≡ false → a ≡ (a || b)
    or_no true b none = refl
    or_no false b none = sym none

    by_test : (b : Bool) → sits slot k.this ≡ b → owner_of (use_at number slot k) ≡ (if has_slot slot k then Some number else None)
    by_test true here =
        ap (λ v. owner_of (first_use (use_by number slot k.this) v)) (unused number slot k.that (ends slot here))
        ∙ (ap owner_of (first_none (use_by number slot k.this))
        ∙ (held_owner number slot k.this here ∙ ap (λ b. if b then Some number else None) (or_no (has slot k.this) (has slot k.that) (hasnt_seat slot k.that (ends slot here)))))
    by_test false gone =
        ap (λ u. owner_of (first_use u (use_by number slot k.that))) (unused number slot k.this gone)
        ∙ (held_owner number slot k.that (sym (ap (λ b. b || sits slot k.that) gone) ∙ takes) ∙ ap (λ b. if b || has slot k.that then Some number else None) (sym (hasnt_seat slot k.this gone)))

pub owner_from : (number slot : ℕ) (keeps : List Remnant) → AreApart keeps → All EndsApart keeps → owner_of (use_from number slot keeps) ≡ position_from (has_slot slot) number keeps
unfolding use_from
owner_from number slot [] apart ends = refl
owner_from number slot (k ∷ keeps) apart ends = by_test (takes_slot slot k) refl (owner_from (number + 1) slot keeps apart.1 (All-tail EndsApart k keeps ends))
  where
    by_test : (b : Bool) → takes_slot slot k ≡ b → owner_of (use_from (number + 1) slot keeps) ≡ position_from (has_slot slot) (number + 1) keeps
        → owner_of (first_use (use_at number slot k) (use_from (number + 1) slot keeps)) ≡ cond (has_slot slot k) (Some number) (position_from (has_slot slot) (number + 1) keeps)
    by_test true takes later =
        ap (λ v. owner_of (first_use (use_at number slot k) v)) (unused_by_all (number + 1) slot keeps (apart.0 slot takes))
        ∙ (ap owner_of (first_none (use_at number slot k))
        ∙ (owner_by number slot k (All-head EndsApart k keeps ends) takes
        ∙ ap (λ v. cond (has_slot slot k) (Some number) v) (sym (no_place (has_slot slot) (number + 1) keeps (none_has slot keeps (apart.0 slot takes))))))
    by_test false free later =
        ap (λ u. owner_of (first_use u (use_from (number + 1) slot keeps))) (unused_at number slot k free)
        ∙ (later ∙ ap (λ b. cond b (Some number) (position_from (has_slot slot) (number + 1) keeps)) (sym (hasnt slot k free)))

-- the index finds the opening that has the slot
pub owner_is : (slot : ℕ) (keeps : List Remnant) → AreApart keeps → All EndsApart keeps → owner_of (use_of keeps slot) ≡ position (has_slot slot) keeps
owner_is slot keeps apart ends = owner_from 0 slot keeps apart ends ∙ sym (position_from-zero (has_slot slot) keeps)

-- Freezes are lowered.

frozen_free : (n : ℕ) → n ≡ 0 → frozen_for n ≡ Free
unfolding frozen_for
frozen_free zero e = refl
frozen_free (suc n) e = absurd (omega (arith, e))

frozen_less : (left : ℕ) → frozen_for (left - 1) ≡ lowered (frozen_for left)
unfolding frozen_for
frozen_less zero = let e : 0 - 1 ≡ 0 = omega arith in ap frozen_for e
frozen_less (suc left) = refl

-- what an end makes of its own slot, and of others
pub seat_state : (number slot : ℕ) (s : Seat) → state_of (use_by number slot (Some s)) ≡ (if slot_of s.mine == slot then state_left s.left else Free)
seat_state number slot s = by_left (slot_of s.mine == slot) s.left
  where
    by_left : (b : Bool) (left : Option ℕ) → state_of (if b && not (is_frozen_out left) then Some (record { number = number; left = left }) else None) ≡ (if b then state_left left else Free)
    by_left false left = refl
    by_left true None = refl
    by_left true (Some left) = by_test (left == 0) refl
      where
        by_test : (b : Bool) → (left == 0) ≡ b → state_of (if not b then Some (record { number = number; left = Some left }) else None) ≡ frozen_for left
        by_test true none = sym (frozen_free left (eqb-true left 0 none))
        by_test false some = refl

record IsLowered (u v : Option Use) : Type 0 where
  state : state_of v ≡ lowered (state_of u)
  owner : owner_of v ≡ owner_of u
  none : is_some u ≡ false → is_some v ≡ false

seat_lowered : (number slot : ℕ) (seat : Option Seat) → IsLowered (use_by number slot seat) (use_by number slot (seat_after 0 Tick false seat))
seat_lowered number slot None = record { state = refl; owner = refl; none = λ e. e }
seat_lowered number slot (Some s) = by_left (slot_of s.mine == slot) s.left
  where
    used : Bool → Option ℕ → Option Use
    used b left = if b && not (is_frozen_out left) then Some (record { number = number; left = left }) else None

    state_some : (left : ℕ) → state_of (used true (Some left)) ≡ frozen_for left
    state_some left = by_test (left == 0) refl
      where
        by_test : (b : Bool) → (left == 0) ≡ b → state_of (if not b then Some (record { number = number; left = Some left }) else None) ≡ frozen_for left
        by_test true none = sym (frozen_free left (eqb-true left 0 none))
        by_test false some = refl

    owner_some : (left : ℕ) → owner_of (used true (Some left)) ≡ None
    owner_some left = by_test (left == 0)
      where
        by_test : (b : Bool) → owner_of (if not b then Some (record { number = number; left = Some left }) else None) ≡ None
        by_test true = refl
        by_test false = refl

    none_some : (left : ℕ) → is_some (used true (Some left)) ≡ false → is_some (used true (Some (left - 1))) ≡ false
    none_some left e = by_test (left == 0) refl e
      where
        by_test : (b : Bool) → (left == 0) ≡ b → is_some {T = Use} (if not b then Some (record { number = number; left = Some left }) else None) ≡ false → is_some (used true (Some (left - 1))) ≡ false
        by_test true none e = ap (λ b. is_some {T = Use} (if not b then Some (record { number = number; left = Some (left - 1) }) else None)) (eq-eqb (left - 1) 0 (omega (arith, eqb-true left 0 none)))
        by_test false some e = absurd (both_ways true e refl)

    by_left : (b : Bool) (left : Option ℕ) → IsLowered (used b left) (used b (left_after 0 Tick false left))
    by_left false left = record { state = refl; owner = refl; none = λ e. e }
    by_left true None = record { state = refl; owner = refl; none = λ e. e }
    by_left true (Some left) = record {
      state = state_some (left - 1) ∙ (frozen_less left ∙ ap lowered (sym (state_some left)));
      owner = owner_some (left - 1) ∙ sym (owner_some left);
      none = λ e. none_some left e;
    }

both_lowered : (u u' v v' : Option Use) → IsLowered u u' → IsLowered v v' → (is_some u ≡ true → v ≡ None) → IsLowered (first_use u v) (first_use u' v')
both_lowered None u' v v' one two alone =
    let e : u' ≡ None = no_use u' (one.none refl) in subst (λ x. IsLowered v (first_use x v')) (sym e) two
both_lowered (Some u) u' v v' one two alone =
    let e : v' ≡ None = no_use v' (two.none (ap is_some (alone refl))) in subst (IsLowered (Some u)) (sym (ap (first_use u') e ∙ first_none u')) one

opening_lowered : (number slot : ℕ) (k : Remnant) → EndsApart k → IsLowered (use_at number slot k) (use_at number slot (waited k))
opening_lowered number slot k ends =
    both_lowered (use_by number slot k.this) (use_by number slot (seat_after 0 Tick false k.this)) (use_by number slot k.that) (use_by number slot (seat_after 0 Tick false k.that))
    (seat_lowered number slot k.this) (seat_lowered number slot k.that)
    (λ e. unused number slot k.that (ends slot (sym (seat_use number slot k.this).some ∙ e)))

all_lowered : (number slot : ℕ) (keeps : List Remnant) → AreApart keeps → All EndsApart keeps → IsLowered (use_from number slot keeps) (use_from number slot (map waited keeps))
unfolding use_from
all_lowered number slot [] apart ends = record { state = refl; owner = refl; none = λ e. e }
all_lowered number slot (k ∷ keeps) apart ends =
    both_lowered (use_at number slot k) (use_at number slot (waited k)) (use_from (number + 1) slot keeps) (use_from (number + 1) slot (map waited keeps))
    (opening_lowered number slot k (All-head EndsApart k keeps ends)) (all_lowered (number + 1) slot keeps apart.1 (All-tail EndsApart k keeps ends))
    (λ e. unused_by_all (number + 1) slot keeps (apart.0 slot (sym (opening_use number slot k).some ∙ e)))

pub use_lowered : (slot : ℕ) (keeps : List Remnant) → AreApart keeps → All EndsApart keeps
    → (state_of (use_of (map waited keeps) slot) ≡ lowered (state_of (use_of keeps slot))) × (owner_of (use_of (map waited keeps) slot) ≡ owner_of (use_of keeps slot))
use_lowered slot keeps apart ends = let l = all_lowered 0 slot keeps apart ends in (l.state, l.owner)
