-- The one opening that may hear an event is the one that has the slot of the reference that the event names.
use Rattle.std.proofs.Common.{◌≡◌, ℕ, zero, suc, ◌-◌, ◌==◌, ◌<◌, nat_lt, not, Bool, true, false, List, [], ◌∷◌, length, cond, map, set, get_or, position, slice_index_or, slice_set, All, Option, Some, None, is_some, if◌then◌else◌, refl, sym, ap, ap₂, ◌∙◌, subst, ⊎_elim, arith, eqb-true}
use Rattle.std.specs.List.{list_any, position_or_len}
use Rattle.std.proofs.lemmas.Bool.{both_ways, not-true, eq-eqb, ltb-false, and_parts, and_from, or_cases, or_parts, or_left, or_right, or_from, false_from_ne_true}
use Rattle.std.proofs.lemmas.Option.{same_Some}
use Rattle.std.proofs.lemmas.List.Elements.{All-head, All-tail}
use Rattle.std.proofs.lemmas.List.Folds.{list_any_none}
use Rattle.std.proofs.lemmas.List.Quantifiers.{position-Some}
use Rattle.std.proofs.lemmas.List.Sums.{prefix_len_passes}
use Rattle.relay_base.specs.declared.words.Event.{Event}
use Rattle.relay_base.specs.declared.words.Event.TheVariants.{Message as Arrived, Asked as Requested, Tick}
use Rattle.relay_base.specs.declared.words.Output.{Output}
use Rattle.section_model.specs.Ends.{End, wire, owner, Connection, is_gone}
use Rattle.section_model.specs.Step.{connection_step, hears, names, named, is_named, is_in_range, end_is_gone}
use Rattle.section_model.specs.References.{slot_of}
use Rattle.section_model.specs.Lane.{fed, next, is_tick}
use Rattle.conn_journal.specs.Inner.Remnants.{Live, Seat, Remnant, live_of, ticks_in, left_after, seat_after, remnant_after, part_at, first_of, first_part, is_frozen_out, sits, takes_slot, has, has_slot}
use Rattle.conn_journal.specs.Inner.Seated.{SeatIs, AreSeated, IsOn, IsSeated, AreApart, AreOrderly, reference_in}
use Rattle.conn_journal.proofs.Seated.{kept_as}

-- What has a slot takes it.

held_sits : (left : Option ℕ) → not (is_some left) ≡ true → not (is_frozen_out left) ≡ true
held_sits None held = refl
held_sits (Some left) held = absurd (cc)

pub has_sits : (slot : ℕ) (seat : Option Seat) → has slot seat ≡ true → sits slot seat ≡ true
has_sits slot None e = absurd (cc)
has_sits slot (Some s) e =
    let parts = and_parts (slot_of s.mine == slot) (not (is_some s.left)) e in
    and_from (slot_of s.mine == slot) (not (is_frozen_out s.left)) parts.0 (held_sits s.left parts.1)

pub has_takes : (slot : ℕ) (k : Remnant) → has_slot slot k ≡ true → takes_slot slot k ≡ true
has_takes slot k e =
    ⊎_elim
    (λ (this : has slot k.this ≡ true). or_left (sits slot k.this) (sits slot k.that) (has_sits slot k.this this))
    (λ (that : has slot k.that ≡ true). or_right (sits slot k.this) (sits slot k.that) (has_sits slot k.that that))
    (or_cases (has slot k.this) (has slot k.that) e)

pub hasnt : (slot : ℕ) (k : Remnant) → takes_slot slot k ≡ false → has_slot slot k ≡ false
hasnt slot k free = false_from_ne_true (has_slot slot k) (λ e. both_ways (takes_slot slot k) free (has_takes slot k e))

pub none_has : (slot : ℕ) (keeps : List Remnant) → list_any (takes_slot slot) keeps ≡ false → list_any (has_slot slot) keeps ≡ false
none_has slot [] free = refl
none_has slot (k ∷ keeps) free =
    let parts = or_parts (takes_slot slot k) (list_any (takes_slot slot) keeps) free in
    or_from (has_slot slot k) (list_any (has_slot slot) keeps) (hasnt slot k parts.0) (none_has slot keeps parts.1)

-- Who hears an event has the slot of the reference that it names.

-- the reference that an event names, with a slot that an end of this opening has
pub record NamesSlot (event : Event) (k : Remnant) : Type 0 where
  pub reference : ℕ
  pub named : reference_in event ≡ Some reference
  pub taken : has_slot (slot_of reference) k ≡ true

names_end : (c : Connection) (event : Event) → is_tick event ≡ false → hears c event ≡ true → names (reference_in event) c ≡ true
unfolding hears
names_end c (Arrived point sls bytes) untimed heard = heard
names_end c (Requested ssn r) untimed heard = (and_parts (is_in_range r) (names (named r) c) heard).1
names_end c Tick untimed heard = absurd (cc)

-- an end that a reference names has its slot
named_sits : (reference : ℕ) (end : End) (seat : Option Seat) → SeatIs end seat → is_named reference end ≡ true → has (slot_of reference) seat ≡ true
named_sits reference (wire x) None is names = absurd (cc)
named_sits reference (wire x) (Some s) is names =
    let parts = and_parts (x.head.mine == reference) (not (is_gone x.head.state)) names in
    let same : s.mine ≡ reference = same_Some s.mine x.head.mine is.0 ∙ eqb-true x.head.mine reference parts.0 in
    let held : is_some s.left ≡ false = is.1 ∙ not-true (is_gone x.head.state) parts.1 in
    and_from (slot_of s.mine == slot_of reference) (not (is_some s.left)) (eq-eqb (slot_of s.mine) (slot_of reference) (ap slot_of same)) (ap not held)
named_sits reference (owner u) seat is names = absurd (cc)

names_slot : (event : Event) (k : Remnant) (l : Live) (reference : Option ℕ) → AreSeated (Some l) k.this k.that → reference_in event ≡ reference
    → names reference l.connection ≡ true → NamesSlot event k
names_slot event k l None are is names = absurd (cc)
names_slot event k l (Some reference) are is names =
    ⊎_elim
    (λ (e : is_named reference l.connection.this ≡ true).
    record { reference = reference; named = is; taken = or_left (has (slot_of reference) k.this) (has (slot_of reference) k.that) (named_sits reference l.connection.this k.this are.0 e) })
    (λ (e : is_named reference l.connection.that ≡ true).
    record { reference = reference; named = is; taken = or_right (has (slot_of reference) k.this) (has (slot_of reference) k.that) (named_sits reference l.connection.that k.that are.1 e) })
    (or_cases (is_named reference l.connection.this) (is_named reference l.connection.that) names)

pub hears_takes : (event : Event) (k : Remnant) (l : Live) → is_tick event ≡ false → IsSeated k → k.live ≡ Some l → hears l.connection event ≡ true → NamesSlot event k
hears_takes event k l untimed seated live heard =
    names_slot event k l (reference_in event) (subst (λ x. AreSeated x k.this k.that) live seated.live) refl (names_end l.connection event untimed heard)

-- Who doesn't hear an event, which is no tick, is as before.

pub no_ticks : (event : Event) (left : ℕ) → is_tick event ≡ false → left - ticks_in event ≡ left
no_ticks event left untimed = ap (λ b. left - (if b then 1 else 0)) untimed ∙ less_none left
  where
    less_none : (n : ℕ) → n - 0 ≡ n
    less_none n = omega arith

left_same : (freeze : ℕ) (event : Event) (gone : Bool) (left : Option ℕ) → is_tick event ≡ false → (is_some left ≡ false → gone ≡ false)
    → left_after freeze event gone left ≡ left
left_same freeze event true None untimed here = absurd (both_ways true (here refl) refl)
left_same freeze event false None untimed here = refl
left_same freeze event gone (Some left) untimed here = ap Some (no_ticks event left untimed)

seat_same : (freeze : ℕ) (event : Event) (end : End) (seat : Option Seat) → is_tick event ≡ false → SeatIs end seat
    → seat_after freeze event (end_is_gone end) seat ≡ seat
seat_same freeze event end None untimed is = refl
seat_same freeze event end (Some s) untimed is =
    ap (λ left. Some (record { mine = s.mine; left = left })) (left_same freeze event (end_is_gone end) s.left untimed (λ held. sym is.1 ∙ held))

pub seat_waits : (event : Event) (seat : Option Seat) → is_tick event ≡ false → seat_after 0 event false seat ≡ seat
seat_waits event None untimed = refl
seat_waits event (Some s) untimed = ap (λ left. Some (record { mine = s.mine; left = left })) (left_same 0 event false s.left untimed (λ held. refl))

abbrev part_by : Event → Live → Bool → Option (List Output)
part_by event l hearing = elim hearing [ true ↦ Some (connection_step l.ticks l.connection event).1 | false ↦ None ]

-- what has no part doesn't hear the event
no_part : (event : Event) (l : Live) (hearing : Bool) → part_by event l hearing ≡ None → hearing ≡ false
no_part event l true none = cc
no_part event l false none = refl

unfed : (event : Event) (l : Live) → hears l.connection event ≡ false → fed l.ticks l.connection event ≡ l.connection
unfed event l deaf = ap (λ b. elim b [ true ↦ next l.ticks l.connection event | false ↦ l.connection ]) deaf

-- a connection that isn't over, fed with nothing
live_same : (event : Event) (l : Live) (this that : Option Seat) → is_tick event ≡ false → IsOn (Some l) → AreSeated (Some l) this that
    → kept_as (live_of l.ticks l.connection) (seat_after l.ticks.freeze event (end_is_gone l.connection.this) this) (seat_after l.ticks.freeze event (end_is_gone l.connection.that) that)
    ≡ kept_as (Some l) this that
live_same event l this that untimed on are =
    ap₂ (λ live seat. kept_as live seat (seat_after l.ticks.freeze event (end_is_gone l.connection.that) that))
    (ap (λ b. if b then None else Some l) on) (seat_same l.ticks.freeze event l.connection.this this untimed are.0)
    ∙ ap (kept_as (Some l) this) (seat_same l.ticks.freeze event l.connection.that that untimed are.1)

stays_by : (event : Event) (live : Option Live) (this that : Option Seat) → is_tick event ≡ false → IsOn live → AreSeated live this that → part_at event live ≡ None
    → remnant_after event (kept_as live this that) ≡ kept_as live this that
stays_by event None this that untimed on are none = ap₂ (kept_as None) (seat_waits event this untimed) (seat_waits event that untimed)
stays_by event (Some l) this that untimed on are none =
    ap (λ c. kept_as (live_of l.ticks c) (seat_after l.ticks.freeze event (end_is_gone c.this) this) (seat_after l.ticks.freeze event (end_is_gone c.that) that))
    (unfed event l (no_part event l (hears l.connection event) none))
    ∙ live_same event l this that untimed on are

pub deaf_stays : (event : Event) (k : Remnant) → is_tick event ≡ false → IsSeated k → part_at event k.live ≡ None → remnant_after event k ≡ k
deaf_stays event k untimed seated none = stays_by event k.live k.this k.that untimed seated.on seated.live none

-- Nobody has the slot.

abbrev OthersStay : Event → List Remnant → Type 0
OthersStay event keeps = (first_part event keeps ≡ None) × (map (remnant_after event) keeps ≡ keeps)

-- what names no slot that an end of this opening has, has no part of it
no_part_at : (event : Event) (k : Remnant) (live : Option Live) → is_tick event ≡ false → IsSeated k → k.live ≡ live → (NamesSlot event k → ⊥) → part_at event live ≡ None
no_part_at event k None untimed seated is unnamed = refl
no_part_at event k (Some l) untimed seated is unnamed = by_test (hears l.connection event) refl
  where
    by_test : (b : Bool) → hears l.connection event ≡ b → part_by event l b ≡ None
    by_test true heard = absurd (unnamed (hears_takes event k l untimed seated is heard))
    by_test false deaf = refl

others_more : (event : Event) (k : Remnant) (keeps : List Remnant) → is_tick event ≡ false → IsSeated k → part_at event k.live ≡ None → OthersStay event keeps → OthersStay event (k ∷ keeps)
others_more event k keeps untimed seated none later =
    (ap₂ first_of none later.0, ap₂ (λ x xs. x ∷ xs) (deaf_stays event k untimed seated none) later.1)

-- each slot that the event names is free
abbrev IsFreeAt : Event → List Remnant → Type 0
IsFreeAt event keeps = (r : ℕ) → reference_in event ≡ Some r → list_any (has_slot (slot_of r)) keeps ≡ false

free_first : (event : Event) (k : Remnant) (keeps : List Remnant) → IsFreeAt event (k ∷ keeps) → NamesSlot event k → ⊥
free_first event k keeps free names =
    both_ways (has_slot (slot_of names.reference) k)
    (or_parts (has_slot (slot_of names.reference) k) (list_any (has_slot (slot_of names.reference)) keeps) (free names.reference names.named)).0
    names.taken

none_hear : (event : Event) (keeps : List Remnant) → is_tick event ≡ false → All IsSeated keeps → IsFreeAt event keeps → OthersStay event keeps
none_hear event [] untimed seated free = (refl, refl)
none_hear event (k ∷ keeps) untimed seated free =
    let this : IsSeated k = All-head IsSeated k keeps seated in
    others_more event k keeps untimed this
    (no_part_at event k k.live untimed this refl (free_first event k keeps free))
    (none_hear event keeps untimed (All-tail IsSeated k keeps seated)
    (λ r named. (or_parts (has_slot (slot_of r) k) (list_any (has_slot (slot_of r)) keeps) (free r named)).1))

-- a test that finds no place passes nowhere
none_passes : {X : Type 0} (p : X → Bool) (xs : List X) → position p xs ≡ None → list_any p xs ≡ false
none_passes p xs none =
    list_any_none p xs (λ k d within.
    not-true (p (get_or xs k d)) (prefix_len_passes (λ x. not (p x)) xs k d (omega (arith, within, ltb-false (position_or_len p xs) (length xs) (past (nat_lt (position_or_len p xs) (length xs)) none)))))
  where
    past : (b : Bool) → cond b (Some (position_or_len p xs)) None ≡ None → b ≡ false
    past true e = cc
    past false e = refl

-- a reference whose slot nobody has
pub nobody : (event : Event) (keeps : List Remnant) → is_tick event ≡ false → All IsSeated keeps
    → ((r : ℕ) → reference_in event ≡ Some r → position (has_slot (slot_of r)) keeps ≡ None)
    → (first_part event keeps ≡ None) × (map (remnant_after event) keeps ≡ keeps)
nobody event keeps untimed seated nowhere =
    none_hear event keeps untimed seated (λ r named. none_passes (has_slot (slot_of r)) keeps (nowhere r named))

-- no reference
pub nobody_named : (event : Event) (keeps : List Remnant) → is_tick event ≡ false → All IsSeated keeps → reference_in event ≡ None
    → (first_part event keeps ≡ None) × (map (remnant_after event) keeps ≡ keeps)
nobody_named event keeps untimed seated unnamed = nobody event keeps untimed seated (λ r named. absurd (cc))

-- a reference whose slot is free
pub nobody_there : (event : Event) (keeps : List Remnant) (r : ℕ) → is_tick event ≡ false → All IsSeated keeps → reference_in event ≡ Some r → position (has_slot (slot_of r)) keeps ≡ None
    → (first_part event keeps ≡ None) × (map (remnant_after event) keeps ≡ keeps)
nobody_there event keeps r untimed seated is none =
    nobody event keeps untimed seated (λ q named. ap (λ x. position (has_slot (slot_of x)) keeps) (sym (same_Some r q (sym is ∙ named))) ∙ none)

-- Somebody has the slot.

-- an event that names a reference is no tick
named_untimed : (event : Event) (r : ℕ) → reference_in event ≡ Some r → is_tick event ≡ false
named_untimed (Arrived point sls bytes) r is = refl
named_untimed (Requested ssn q) r is = refl
named_untimed Tick r is = absurd (cc)

-- an opening that doesn't have the slot hears nothing
other_names : (event : Event) (k : Remnant) (r : ℕ) → reference_in event ≡ Some r → has_slot (slot_of r) k ≡ false → NamesSlot event k → ⊥
other_names event k r is free names =
    both_ways (has_slot (slot_of r) k) free (ap (λ x. has_slot (slot_of x) k) (same_Some r names.reference (sym is ∙ names.named)) ∙ names.taken)

others_stay : (event : Event) (keeps : List Remnant) (r : ℕ) → reference_in event ≡ Some r → All IsSeated keeps → list_any (has_slot (slot_of r)) keeps ≡ false → OthersStay event keeps
others_stay event keeps r is seated free =
    none_hear event keeps (named_untimed event r is) seated (λ q named. ap (λ x. list_any (has_slot (slot_of x)) keeps) (sym (same_Some r q (sym is ∙ named))) ∙ free)

first_or_none : (part later : Option (List Output)) → later ≡ None → first_of part later ≡ part
first_or_none None later none = none
first_or_none (Some outs) later none = refl

abbrev HeardAt : Event → List Remnant → ℕ → Remnant → Type 0
HeardAt event keeps place d =
    (first_part event keeps ≡ part_at event (get_or keeps place d).live) × (map (remnant_after event) keeps ≡ set keeps place (remnant_after event (get_or keeps place d)))

heard_at : (event : Event) (keeps : List Remnant) (r place : ℕ) (d : Remnant) → reference_in event ≡ Some r → All IsSeated keeps → AreApart keeps
    → place < length keeps → has_slot (slot_of r) (get_or keeps place d) ≡ true → ((n : ℕ) → n < place → has_slot (slot_of r) (get_or keeps n d) ≡ false)
    → HeardAt event keeps place d
heard_at event [] r place d is seated apart within takes first = absurd (omega arith)
heard_at event (k ∷ keeps) r zero d is seated apart within takes first =
    let later : OthersStay event keeps = others_stay event keeps r is (All-tail IsSeated k keeps seated) (none_has (slot_of r) keeps (apart.0 (slot_of r) (has_takes (slot_of r) k takes))) in
    (first_or_none (part_at event k.live) (first_part event keeps) later.0, ap (λ xs. remnant_after event k ∷ xs) later.1)
heard_at event (k ∷ keeps) r (suc place) d is seated apart within takes first =
    let this : IsSeated k = All-head IsSeated k keeps seated in
    let untimed : is_tick event ≡ false = named_untimed event r is in
    let none : part_at event k.live ≡ None = no_part_at event k k.live untimed this refl (other_names event k r is (first 0 (omega arith))) in
    let later : HeardAt event keeps place d =
    heard_at event keeps r place d is (All-tail IsSeated k keeps seated) apart.1 (omega arith) takes (λ n before. first (suc n) (omega arith)) in
    (ap (λ part. first_of part (first_part event keeps)) none ∙ later.0, ap₂ (λ x xs. x ∷ xs) (deaf_stays event k untimed this none) later.1)

-- the opening that has the slot of the reference has its part, if it hears the event, and the others are as before
pub somebody : (event : Event) (keeps : List Remnant) (r place : ℕ) → AreOrderly keeps → reference_in event ≡ Some r → position (has_slot (slot_of r)) keeps ≡ Some place → (d : Remnant)
    → (first_part event keeps ≡ part_at event (slice_index_or keeps place d).live)
    × (map (remnant_after event) keeps ≡ slice_set keeps place (remnant_after event (slice_index_or keeps place d)))
somebody event keeps r place orderly is found d =
    let there = position-Some (has_slot (slot_of r)) keeps place d found in
    heard_at event keeps r place d is orderly.seated orderly.apart there.0 there.1 there.2
