-- A new connection takes the lowest free references of its lane, and what the lane keeps stands for it then.
use Rattle.std.proofs.Common.{◌≡◌, ℕ, zero, suc, ◌+◌, ◌==◌, ◌<◌, ◌≤◌, Bool, true, false, cond, List, [], ◌∷◌, ◌++◌, length, map, take, drop, All, Option, Some, None, if◌then◌else◌, refl, sym, subst, ap, ap₂, ◌∙◌, arith, append_assoc}
use Rattle.std.specs.Prelude.{IfSome, option_map}
use Rattle.std.proofs.lemmas.Bool.{both_ways}
use Rattle.std.proofs.lemmas.List.{map-append}
use Rattle.std.proofs.lemmas.List.Elements.{All-nil, All-cons, All-head, All-tail, All-push}
use Rattle.section_model.specs.References.{slot_of}
use Rattle.section_model.proofs.References.{slot_read, slot_below}
use Rattle.relay_base.specs.declared.limits.TheConstants.{MOST_LANES, SLOTS}
use Rattle.local_refs.specs.Slots.{LaneSlots, is_free, free_from, generation_at, next_reference, free_references}
use Rattle.local_refs.specs.declared.state.SlotState.{SlotState}
use Rattle.plant_core.specs.declared.answer.Rewrite.{Rewrite}
use Rattle.plant_core.specs.declared.answer.Answer.{Answer}
use Rattle.plant_core.specs.declared.answer.Answer.TheVariants.{Local, Forward, Refused}
use Rattle.plant_core.specs.declared.terms.Terms.{Terms}
use Rattle.plant_core.specs.declared.terms.Ticks.{Ticks}
use Rattle.section_model.specs.Ends.{End, Connection}
use Rattle.section_model.specs.Opening.{Wanted, Wish, by_cr, by_user, no_wish, fits, opened_by_cr, opened_by_user, opened, opened_through, not_opened, cref_to}
use Rattle.section_model.specs.Step.{end_is_gone, is_over}
use Rattle.section_model.specs.Lane.{heard, follow, gone_for, reference_of}
use Rattle.section_coupling.specs.Duos.{DuoState, duo_at}
use Rattle.lane_law.proofs.Opened.{EndsAre}
use Rattle.conn_journal.specs.declared.change.NewConnection.{NewConnection}
use Rattle.conn_journal.specs.declared.change.Change.TheVariants.{Opened}
use Rattle.conn_journal.specs.Inner.Changes.{taken, owned, listed, Makes}
use Rattle.conn_journal.specs.Inner.Lowest.{lowest_of}
use Rattle.conn_journal.specs.Inner.Remnants.{Live, Seat, Remnant, remnant_of, seat_of, seat_by, sits, times_in}
use Rattle.conn_journal.specs.Inner.Seated.{AreOrderly}
use Rattle.conn_journal.specs.Inner.Stands.{IsOfLane, IsPlaced, Stands}
use Rattle.conn_journal.specs.Inner.Uses.{use_by, first_use, use_at, use_of, state_of, owner_of, AreUsed, AreCounted}
use Rattle.conn_journal.specs.Inner.Views.{OpeningsState, IsAlive, live_at}
use Rattle.conn_journal.proofs.Counted.{seat_new, counted_opened}
use Rattle.conn_journal.proofs.Given.{kept_as, held_use, elsewhere}
use Rattle.conn_journal.proofs.NewSeats.{IsFree}
use Rattle.conn_journal.proofs.Slotted.{used_taken, used_alike}
use Rattle.conn_journal.proofs.Standing.{count_is}
use Rattle.conn_journal.proofs.Ticked.{over_alike}
use Rattle.conn_journal.proofs.Used.{unused, unused_by_all, use_more, first_none}

-- What is opened takes the first references that are given, and its ends aren't gone.

pub record TakesFirst (refs : List ℕ) (c : Connection) : Type 0 where
  pub rest : List ℕ
  pub is : refs ≡ listed (reference_of c.this) ++ (listed (reference_of c.that) ++ rest)
  pub this : end_is_gone c.this ≡ false
  pub that : end_is_gone c.that ≡ false

abbrev AllTaken : List ℕ → Option Connection → Type 0
AllTaken refs connection = IfSome connection (TakesFirst refs)

through_first : (terms : Terms) (w : Wanted) (point : ℕ) (rewrite : Rewrite) (hop : Option ℕ) (refs : List ℕ) → AllTaken refs (opened_through terms w point rewrite hop refs).connection
through_first terms w point rewrite hop [] = tt
through_first terms w point rewrite hop (mine ∷ []) = tt
through_first terms w point rewrite hop (mine ∷ next ∷ refs) = record { rest = refs; is = refl; this = refl; that = refl }

by_cr_first : (terms : Terms) (w : Wanted) (answer : Answer) (refs : List ℕ) → AllTaken refs (opened_by_cr terms w answer refs).connection
unfolding opened_by_cr
by_cr_first terms w (Refused cause local) refs = tt
by_cr_first terms w (Local ssn) [] = tt
by_cr_first terms w (Local ssn) (mine ∷ refs) = record { rest = refs; is = refl; this = refl; that = refl }
by_cr_first terms w (Forward point rewrite hop) refs = by_test (fits w rewrite hop)
  where
    by_test : (b : Bool) → AllTaken refs (if b then opened_through terms w point rewrite hop refs else not_opened (cref_to w 0x0F ∷ [])).connection
    by_test true = through_first terms w point rewrite hop refs
    by_test false = tt

by_user_first : (terms : Terms) (ssn tag : ℕ) (w : Wanted) (answer : Answer) (refs : List ℕ) → AllTaken refs (opened_by_user terms ssn tag w answer refs).connection
unfolding opened_by_user
by_user_first terms ssn tag w (Refused cause local) refs = tt
by_user_first terms ssn tag w (Local other) refs = tt
by_user_first terms ssn tag w (Forward point rewrite hop) [] = tt
by_user_first terms ssn tag w (Forward point rewrite hop) (mine ∷ refs) = record { rest = refs; is = refl; this = refl; that = refl }

pub takes_first : (terms : Terms) (wish : Wish) (answer : Option Answer) (refs : List ℕ) → IfSome (opened terms wish answer refs).connection (TakesFirst refs)
unfolding opened
takes_first terms (by_cr w) (Some answer) refs = by_cr_first terms w answer refs
takes_first terms (by_cr w) None refs = tt
takes_first terms (by_user ssn tag w) (Some answer) refs = by_user_first terms ssn tag w answer refs
takes_first terms (by_user ssn tag w) None refs = tt
takes_first terms no_wish answer refs = tt

not_over : (c : Connection) → end_is_gone c.this ≡ false → is_over c ≡ false
not_over c this = rw this refl

-- a connection that is opened isn't over
pub opened_alive : (taken : ℕ) (terms : Terms) (wish : Wish) (answer : Option Answer) (refs : List ℕ) (duo : Option DuoState) → (opened terms wish answer refs).connection ≡ option_map (duo_at taken) duo → IfSome duo IsAlive
opened_alive taken terms wish answer refs None is = tt
opened_alive taken terms wish answer refs (Some d) is =
    let first : TakesFirst refs (duo_at taken d) = subst (λ c. IfSome c (TakesFirst refs)) is (takes_first terms wish answer refs) in
    over_alike 0 taken d ∙ not_over (duo_at taken d) first.this

-- The lowest free references.

take_drop : (n : ℕ) (xs : List ℕ) → xs ≡ take n xs ++ drop n xs
take_drop zero xs = refl
take_drop (suc n) [] = refl
take_drop (suc n) (x ∷ xs) = ap (λ ys. x ∷ ys) (take_drop n xs)

pub record Before (refs all : List ℕ) : Type 0 where
  pub rest : List ℕ
  pub is : all ≡ refs ++ rest

pub lowest_before : (slots : LaneSlots) (count : ℕ) → Before (lowest_of slots count) (free_references slots)
lowest_before slots count = by_test (length (take count (free_references slots)) == count)
  where
    by_test : (b : Bool) → Before (if b then take count (free_references slots) else []) (free_references slots)
    by_test true = record { rest = drop count (free_references slots); is = take_drop count (free_references slots) }
    by_test false = record { rest = free_references slots; is = refl }

-- they rise
free_above : (states : List SlotState) (slot lowest : ℕ) (more : List ℕ) → free_from slot states ≡ lowest ∷ more → slot ≤ lowest
unfolding free_from
free_above [] slot lowest more is = absurd (cc)
free_above (state ∷ states) slot lowest more is = by_test (is_free state) is (free_above states (slot + 1) lowest more)
  where
    by_test : (b : Bool) → cond b (slot ∷ free_from (slot + 1) states) (free_from (slot + 1) states) ≡ lowest ∷ more → (free_from (slot + 1) states ≡ lowest ∷ more → slot + 1 ≤ lowest) → slot ≤ lowest
    by_test true e later = let same : slot ≡ lowest = cc in omega (arith, same)
    by_test false e later = omega (arith, later e)

free_rises : (states : List SlotState) (slot a b : ℕ) (more : List ℕ) → free_from slot states ≡ a ∷ b ∷ more → a < b
unfolding free_from
free_rises [] slot a b more is = absurd (cc)
free_rises (state ∷ states) slot a b more is = by_test (is_free state) is (free_rises states (slot + 1) a b more)
  where
    by_test : (t : Bool) → cond t (slot ∷ free_from (slot + 1) states) (free_from (slot + 1) states) ≡ a ∷ b ∷ more → (free_from (slot + 1) states ≡ a ∷ b ∷ more → a < b) → a < b
    by_test true e later =
        let same : slot ≡ a = cc in
        let rest : free_from (slot + 1) states ≡ b ∷ more = cc in
        omega (arith, same, free_above states (slot + 1) b more rest)
    by_test false e later = later e

-- and are of the lane
free_within : (states : List SlotState) (slot : ℕ) → All (λ s. s < slot + length states) (free_from slot states)
unfolding free_from
free_within [] slot = All-nil (λ s. s < slot + 0)
free_within (state ∷ states) slot =
    let next : slot + 1 + length states ≡ slot + suc (length states) = omega arith in
    by_test (is_free state) (subst (λ n. All (λ s. s < n) (free_from (slot + 1) states)) next (free_within states (slot + 1)))
  where
    by_test : (b : Bool) → All (λ s. s < slot + suc (length states)) (free_from (slot + 1) states)
        → All (λ s. s < slot + suc (length states)) (cond b (slot ∷ free_from (slot + 1) states) (free_from (slot + 1) states))
    by_test true rest = All-cons (λ s. s < slot + suc (length states)) slot (free_from (slot + 1) states) (omega arith) rest
    by_test false rest = rest

pub two_apart : (slots : LaneSlots) (a b : ℕ) (more : List ℕ) → slots.lane < MOST_LANES → length slots.states ≡ SLOTS → free_references slots ≡ a ∷ b ∷ more → slot_of a < slot_of b
two_apart slots a b more within count is = by_free (free_from 1 slots.states) refl is
  where
    by_free : (xs : List ℕ) → free_from 1 slots.states ≡ xs → map (next_reference slots) xs ≡ a ∷ b ∷ more → slot_of a < slot_of b
    by_free [] e f = absurd (cc)
    by_free (x ∷ []) e f = absurd (cc)
    by_free (x ∷ y ∷ xs) e f =
        let first : next_reference slots x ≡ a = cc in
        let second : next_reference slots y ≡ b = cc in
        let all : All (λ s. s < 1 + length slots.states) (x ∷ y ∷ xs) = subst (All (λ s. s < 1 + length slots.states)) e (free_within slots.states 1) in
        let later : y < 1 + length slots.states =
        All-head (λ s. s < 1 + length slots.states) y xs (All-tail (λ s. s < 1 + length slots.states) x (y ∷ xs) all) in
        let rises : x < y = free_rises slots.states 1 x y xs e in
        let one : slot_of (next_reference slots x) ≡ x = slot_read slots.lane (generation_at slots x) x within (omega (arith, rises, later, count)) in
        let two : slot_of (next_reference slots y) ≡ y = slot_read slots.lane (generation_at slots y) y within (omega (arith, later, count)) in
        omega (arith, rises, ap slot_of first, ap slot_of second, one, two)

-- The slots and the index.

-- an end of a new opening takes a reference, by which the opening `k` becomes `l`
takes_one : (keeps : List Remnant) (number m : ℕ) (k l : Remnant) (slots : LaneSlots) (owners : List (Option ℕ)) → number ≡ 0 + length keeps → 1 ≤ slot_of m → use_of keeps (slot_of m) ≡ None
    → use_at number (slot_of m) l ≡ Some (record { number = number; left = None }) → ((slot : ℕ) → (slot ≡ slot_of m → ⊥) → use_at number slot l ≡ use_at number slot k)
    → AreUsed (use_of (keeps ++ k ∷ [])) slots owners → AreUsed (use_of (keeps ++ l ∷ [])) (taken (Some m) slots) (owned (Some m) (Some number) owners)
takes_one keeps number m k l slots owners last some free has others used =
    used_taken (use_of (keeps ++ k ∷ [])) (use_of (keeps ++ l ∷ [])) slots owners (slot_of m) (Some number) some (slot_below m)
    (ap state_of here) (ap owner_of here)
    (λ slot apart. at slot l ∙ (ap (first_use (use_of keeps slot)) (others slot apart) ∙ sym (at slot k))) used
  where
    at : (slot : ℕ) (x : Remnant) → use_of (keeps ++ x ∷ []) slot ≡ first_use (use_of keeps slot) (use_at number slot x)
    at slot x = use_more 0 slot keeps x ∙ ap (λ n. first_use (use_of keeps slot) (use_at n slot x)) (sym last)

    here : use_of (keeps ++ l ∷ []) (slot_of m) ≡ Some (record { number = number; left = None })
    here = at (slot_of m) l ∙ ap₂ first_use free has

abbrev held_by : ℕ → Option Seat
held_by m = Some (record { mine = m; left = None })

-- a reference that nobody takes
record IsNew (keeps : List Remnant) (mine : Option ℕ) : Type 0 where
  new : IfSome mine (λ m. (1 ≤ slot_of m) × (use_of keeps (slot_of m) ≡ None))

takes_this : (g : Option ℕ) (keeps : List Remnant) (number : ℕ) (live : Option Live) (slots : LaneSlots) (owners : List (Option ℕ)) → number ≡ 0 + length keeps → IsNew keeps g
    → AreUsed (use_of (keeps ++ kept_as live None None ∷ [])) slots owners → AreUsed (use_of (keeps ++ kept_as live (seat_new g) None ∷ [])) (taken g slots) (owned g (Some number) owners)
takes_this None keeps number live slots owners last new used = used
takes_this (Some m) keeps number live slots owners last is used =
    takes_one keeps number m (kept_as live None None) (kept_as live (held_by m) None) slots owners last is.new.0 is.new.1
    (ap (λ u. first_use u None) (held_use number m))
    (λ slot apart. ap (λ u. first_use u None) (unused number slot (held_by m) (elsewhere m slot None apart))) used

takes_that : (g : Option ℕ) (this : Option Seat) (keeps : List Remnant) (number : ℕ) (live : Option Live) (slots : LaneSlots) (owners : List (Option ℕ)) → number ≡ 0 + length keeps → IsNew keeps g → IfSome g (λ m. sits (slot_of m) this ≡ false)
    → AreUsed (use_of (keeps ++ kept_as live this None ∷ [])) slots owners → AreUsed (use_of (keeps ++ kept_as live this (seat_new g) ∷ [])) (taken g slots) (owned g (Some number) owners)
takes_that None this keeps number live slots owners last new free used = used
takes_that (Some m) this keeps number live slots owners last is free used =
    takes_one keeps number m (kept_as live this None) (kept_as live this (held_by m)) slots owners last is.new.0 is.new.1
    (ap (λ u. first_use u (use_by number (slot_of m) (held_by m))) (unused number (slot_of m) this free) ∙ held_use number m)
    (λ slot apart. ap (first_use (use_by number slot this)) (unused number slot (held_by m) (elsewhere m slot None apart))) used

-- before either end takes one
takes_none : (keeps : List Remnant) (live : Option Live) (slots : LaneSlots) (owners : List (Option ℕ)) → AreUsed (use_of keeps) slots owners → AreUsed (use_of (keeps ++ kept_as live None None ∷ [])) slots owners
takes_none keeps live slots owners used =
    used_alike (use_of keeps) (use_of (keeps ++ kept_as live None None ∷ [])) slots owners (λ slot. use_more 0 slot keeps (kept_as live None None) ∙ first_none (use_of keeps slot)) used

-- What is kept.

kept_lane : (g : Option ℕ) (slots : LaneSlots) → ((taken g slots).lane ≡ slots.lane) × ((taken g slots).freeze ≡ slots.freeze)
kept_lane None slots = (refl, refl)
kept_lane (Some m) slots = (refl, refl)

new_slot : (lane : ℕ) (keeps : List Remnant) (mine : Option ℕ) → IfSome mine (IsFree lane keeps) → IsNew keeps mine
new_slot lane keeps None is = record { new = tt }
new_slot lane keeps (Some m) is = record { new = (is.some, unused_by_all 0 (slot_of m) keeps is.free) }

new_of_lane : (lane : ℕ) (keeps : List Remnant) (mine : Option ℕ) → IfSome mine (IsFree lane keeps) → IsOfLane lane (seat_new mine)
new_of_lane lane keeps None is = tt
new_of_lane lane keeps (Some m) is = (is.some, is.reference)

new_some : (lane : ℕ) (keeps : List Remnant) (mine : Option ℕ) → IfSome mine (IsFree lane keeps) → IfSome mine (λ m. 1 ≤ slot_of m)
new_some lane keeps None is = tt
new_some lane keeps (Some m) is = is.some

-- the ends of a new opening take different slots
new_ends : (g h : Option ℕ) (slots : LaneSlots) (rest : List ℕ) → slots.lane < MOST_LANES → length slots.states ≡ SLOTS → free_references slots ≡ listed g ++ (listed h ++ rest) → IfSome h (λ m. sits (slot_of m) (seat_new g) ≡ false)
new_ends g None slots rest within count is = tt
new_ends None (Some m) slots rest within count is = refl
new_ends (Some n) (Some m) slots rest within count is = elsewhere n (slot_of m) None (λ e. let less = two_apart slots n m rest within count is in omega (arith, less, e))

ends_of : (g h : Option ℕ) → IfSome h (λ m. sits (slot_of m) (seat_new g) ≡ false) → (slot : ℕ) → sits slot (seat_new g) ≡ true → sits slot (seat_new h) ≡ false
ends_of g None free slot takes = refl
ends_of g (Some m) free slot takes =
    elsewhere m slot None (λ e. both_ways (sits slot (seat_new g)) (ap (λ s. sits s (seat_new g)) e ∙ free) takes)

seat_is : (ticks : Ticks) (end : Connection → End) (c : Connection) → end_is_gone (end c) ≡ false → seat_of ticks end (record { first = c; since = [] }) ≡ seat_new (reference_of (end c))
unfolding gone_for
seat_is ticks end c here = ap (λ b. seat_by ticks.freeze (if b then Some 0 else None) (reference_of (end c))) here ∙ by_reference (reference_of (end c))
  where
    by_reference : (mine : Option ℕ) → seat_by ticks.freeze None mine ≡ seat_new mine
    by_reference None = refl
    by_reference (Some m) = refl

new_is : (ticks : Ticks) (c : Connection) → end_is_gone c.this ≡ false → end_is_gone c.that ≡ false
    → remnant_of ticks (record { first = c; since = [] }) ≡ kept_as (Some (record { ticks = ticks; connection = c })) (seat_new (reference_of c.this)) (seat_new (reference_of c.that))
unfolding heard follow
new_is ticks c this that =
    kept_alike (ap (λ b. if b then None else Some (record { ticks = ticks; connection = c })) (not_over c this)) (seat_is ticks (λ x. x.this) c this) (seat_is ticks (λ x. x.that) c that)
  where
    kept_alike : {a b : Option Live} {c d e f : Option Seat} → a ≡ b → c ≡ d → e ≡ f → kept_as a c e ≡ kept_as b d f
    kept_alike one two three = rw (one, two, three) refl

-- the new connection, with what it takes
pub makes_opened : (o : OpeningsState) (keeps : List Remnant) (ticks : Ticks) (d : DuoState) (new : NewConnection) (refs : List ℕ) → o.slots.lane < MOST_LANES → Stands keeps o → Before refs (free_references o.slots) → TakesFirst refs (duo_at o.taken d)
    → EndsAre (IsFree o.slots.lane keeps) (duo_at o.taken d) → d.ticks ≡ ticks → ticks.freeze ≡ o.slots.freeze → new.one ≡ d → new.this ≡ reference_of (duo_at o.taken d).this → new.that ≡ reference_of (duo_at o.taken d).that
    → AreOrderly (keeps ++ remnant_of ticks (record { first = duo_at o.taken d; since = [] }) ∷ [])
    → Makes (Opened new) o o.taken (keeps ++ remnant_of ticks (record { first = duo_at o.taken d; since = [] }) ∷ [])
makes_opened o keeps ticks d new refs within stands before first are same freezes one this that orderly =
    let c : Connection = duo_at o.taken d in
    let g : Option ℕ = new.this in
    let h : Option ℕ = new.that in
    let live : Option Live = Some (record { ticks = ticks; connection = c }) in
    let k : Remnant = kept_as live (seat_new g) (seat_new h) in
    let free_this : IfSome g (IsFree o.slots.lane keeps) = subst (λ m. IfSome m (IsFree o.slots.lane keeps)) (sym this) are.0 in
    let free_that : IfSome h (IsFree o.slots.lane keeps) = subst (λ m. IfSome m (IsFree o.slots.lane keeps)) (sym that) are.1 in
    let is : remnant_of ticks (record { first = c; since = [] }) ≡ k = new_is ticks c first.this first.that ∙ ap₂ (λ a b. kept_as live (seat_new a) (seat_new b)) (sym this) (sym that) in
    let rest : List ℕ = first.rest ++ before.rest in
    let free : free_references o.slots ≡ listed g ++ (listed h ++ rest) =
    before.is
    ∙ (ap (λ xs. xs ++ before.rest) (first.is ∙ ap₂ (λ a b. listed a ++ (listed b ++ first.rest)) (sym this) (sym that))
    ∙ (append_assoc (listed g) (listed h ++ first.rest) before.rest ∙ ap (λ xs. listed g ++ xs) (append_assoc (listed h) first.rest before.rest))) in
    let apart : IfSome h (λ m. sits (slot_of m) (seat_new g) ≡ false) = new_ends g h o.slots rest within stands.uses.count free in
    let number : length o.kept ≡ 0 + length keeps = omega (arith, count_is keeps o stands.lives) in
    let slots : LaneSlots = taken h (taken g o.slots) in
    let owners : List (Option ℕ) = owned h (Some (length o.kept)) (owned g (Some (length o.kept)) o.owners) in
    let used : AreUsed (use_of (keeps ++ k ∷ [])) slots owners =
    takes_that h (seat_new g) keeps (length o.kept) live (taken g o.slots) (owned g (Some (length o.kept)) o.owners) number (new_slot o.slots.lane keeps h free_that) apart
    (takes_this g keeps (length o.kept) live o.slots o.owners number (new_slot o.slots.lane keeps g free_this) (takes_none keeps live o.slots o.owners stands.uses)) in
    let lane : slots.lane ≡ o.slots.lane = (kept_lane h (taken g o.slots)).0 ∙ (kept_lane g o.slots).0 in
    let freeze : slots.freeze ≡ o.slots.freeze = (kept_lane h (taken g o.slots)).1 ∙ (kept_lane g o.slots).1 in
    let placed : IsPlaced o.slots.lane o.slots.freeze k =
    record { this = new_of_lane o.slots.lane keeps g free_this; that = new_of_lane o.slots.lane keeps h free_that; ends = ends_of g h apart; freezes = freezes } in
    let seen : live_at o.taken new.one ≡ record { ticks = ticks; connection = c } = ap (live_at o.taken) one ∙ ap (λ t. record { ticks = t; connection = c }) same in
    record {
      fits = record { rest = rest; free = free };
      taken = refl;
      lane = lane;
      freeze = freeze;
      stands = record {
        lives = map-append (option_map (live_at o.taken)) o.kept (Some new.one ∷ [])
            ∙ (ap₂ (λ xs l. xs ++ Some l ∷ []) stands.lives seen
            ∙ (ap (λ (r : Remnant). map (λ (x : Remnant). x.live) keeps ++ r.live ∷ []) (sym is) ∙ sym (map-append (λ (x : Remnant). x.live) keeps (remnant_of ticks (record { first = c; since = [] }) ∷ []))));
        orderly = orderly;
        placed = subst (λ r. All (IsPlaced slots.lane slots.freeze) (keeps ++ r ∷ [])) (sym is)
            (subst (λ l. All (IsPlaced l slots.freeze) (keeps ++ k ∷ [])) (sym lane)
            (subst (λ f. All (IsPlaced o.slots.lane f) (keeps ++ k ∷ [])) (sym freeze) (All-push (IsPlaced o.slots.lane o.slots.freeze) keeps k stands.placed placed)));
        uses = subst (λ r. AreUsed (use_of (keeps ++ r ∷ [])) slots owners) (sym is) used;
        turns = subst (λ r. AreCounted (times_in (keeps ++ r ∷ [])) slots) (sym is)
            (counted_opened keeps live g h o.slots (new_some o.slots.lane keeps g free_this) (new_some o.slots.lane keeps h free_that) apart stands.turns);
      };
    }
