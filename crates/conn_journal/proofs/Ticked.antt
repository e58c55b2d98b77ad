-- A tick, opening by opening.
use Rattle.std.proofs.Common.{◌≡◌, ℕ, zero, suc, ◌+◌, ◌<◌, ◌&&◌, not, if◌then◌else◌, Bool, true, false, List, [], ◌∷◌, ◌++◌, length, map, get_or, set, take, drop, Option, Some, None, refl, sym, subst, ap, ap₂, ◌∙◌, arith, append-nil, append_assoc, length-take}
use Rattle.std.specs.Prelude.{IfSome, option_map, is_some}
use Rattle.std.proofs.lemmas.List.{length-map, length-set, map-append, map-set, get_or-map}
use Rattle.std.proofs.lemmas.List.Elements.{All-get_or}
use Rattle.relay_base.specs.declared.words.Event.TheVariants.{Tick}
use Rattle.relay_base.specs.declared.words.Output.{Output}
use Rattle.section_model.specs.Ends.{Connection}
use Rattle.section_model.specs.Step.{hears, is_over, end_is_gone, connection_step}
use Rattle.section_model.specs.Lane.{fed, next, reference_of}
use Rattle.section_coupling.specs.declared.side.Side.{Side}
use Rattle.section_coupling.specs.declared.side.Side.TheVariants as side
use Rattle.section_coupling.specs.Views.{end_at}
use Rattle.section_coupling.specs.Duos.{DuoState, duo_at}
use Rattle.conn_journal.specs.declared.change.Next.{Next}
use Rattle.conn_journal.specs.declared.kept.Heard.{Heard}
use Rattle.conn_journal.specs.Inner.Hearing.{gives, Becomes}
use Rattle.conn_journal.specs.Inner.Remnants.{Live, Remnant, live_of, seat_after, over_after, remnant_after, part_in, part_at, or_none, all_parts}
use Rattle.conn_journal.specs.Inner.Seated.{IsSeated}
use Rattle.conn_journal.specs.Inner.Stands.{IsPlaced, Stands}
use Rattle.conn_journal.specs.Inner.Ticking.{nothing, waited, live_ticked, frozen_if, given, put_seat, put_seats, put_lives, AllAreKept, HasHeld, MayGive, AllMayGive, TickedTo, AreTicked, TickedAt}
use Rattle.conn_journal.specs.Inner.Views.{OpeningsState, IsAlive, IsIdle, live_at, lives_at}
use Rattle.conn_journal.proofs.Sides.{OpeningGives, gives_by, after_live, after_over}
use Rattle.conn_journal.proofs.Standing.{live_there, count_is, is_kept}

-- Lists.

pub set_middle : {X : Type 0} (before after : List X) (place : ℕ) (k r : X) → length before ≡ place → set (before ++ k ∷ after) place r ≡ before ++ r ∷ after
set_middle [] after place k r is = ap (λ n. set (k ∷ after) n r) (sym is)
set_middle (x ∷ before) after zero k r is = absurd (omega (arith, is))
set_middle (x ∷ before) after (suc place) k r is = ap (λ xs. x ∷ xs) (set_middle before after place k r (omega (arith, is)))

get_middle : {X : Type 0} (before after : List X) (place : ℕ) (k d : X) → length before ≡ place → get_or (before ++ k ∷ after) place d ≡ k
get_middle [] after place k d is = ap (λ n. get_or (k ∷ after) n d) (sym is)
get_middle (x ∷ before) after zero k d is = absurd (omega (arith, is))
get_middle (x ∷ before) after (suc place) k d is = get_middle before after place k d (omega (arith, is))

pub take_next : {X : Type 0} (place : ℕ) (xs : List X) (d : X) → place < length xs → take (place + 1) xs ≡ take place xs ++ get_or xs place d ∷ []
take_next place [] d within = absurd (omega (arith, within))
take_next zero (k ∷ xs) d within = refl
take_next (suc place) (k ∷ xs) d within = let e : suc place + 1 ≡ suc (place + 1) = omega arith in rw e (ap (λ ks. k ∷ ks) (take_next place xs d (omega (arith, within))))

pub drop_next : {X : Type 0} (place : ℕ) (xs : List X) (d : X) → place < length xs → drop place xs ≡ get_or xs place d ∷ drop (place + 1) xs
drop_next place [] d within = absurd (omega (arith, within))
drop_next zero (k ∷ xs) d within = refl
drop_next (suc place) (k ∷ xs) d within = let e : suc place + 1 ≡ suc (place + 1) = omega arith in rw e (drop_next place xs d (omega (arith, within)))

pub take_whole : {X : Type 0} (n : ℕ) (xs : List X) → length xs ≡ n → take n xs ≡ xs
take_whole n [] e = ap (λ m. take m []) (sym e)
take_whole zero (x ∷ xs) e = absurd (omega (arith, e))
take_whole (suc n) (x ∷ xs) e = ap (λ ys. x ∷ ys) (take_whole n xs (omega (arith, e)))

pub drop_whole : {X : Type 0} (n : ℕ) (xs : List X) → length xs ≡ n → drop n xs ≡ []
drop_whole n [] e = ap (λ m. drop m []) (sym e)
drop_whole zero (x ∷ xs) e = absurd (omega (arith, e))
drop_whole (suc n) (x ∷ xs) e = drop_whole n xs (omega (arith, e))

-- One more that is put in its place.

lives_push : (nexts : List Next) (next : Next) (kept : List (Option DuoState)) → put_lives (nexts ++ next ∷ []) kept ≡ set (put_lives nexts kept) next.number next.one
lives_push [] next kept = refl
lives_push (n ∷ nexts) next kept = lives_push nexts next (set kept n.number n.one)

seats_push : (freeze : ℕ) (nexts : List Next) (next : Next) (keeps : List Remnant) → put_seats freeze (nexts ++ next ∷ []) keeps ≡ put_seat freeze next (put_seats freeze nexts keeps)
seats_push freeze [] next keeps = refl
seats_push freeze (n ∷ nexts) next keeps = seats_push freeze nexts next (put_seat freeze n keeps)

gives_push : (freeze : ℕ) (nexts : List Next) (next : Next) (keeps : List Remnant) → AllMayGive freeze nexts keeps → MayGive next (put_seats freeze nexts keeps) → AllMayGive freeze (nexts ++ next ∷ []) keeps
gives_push freeze [] next keeps all may = (may, tt)
gives_push freeze (n ∷ nexts) next keeps all may = (all.0, gives_push freeze nexts next (put_seat freeze n keeps) all.1 may)

lives_length : (nexts : List Next) (kept : List (Option DuoState)) → length (put_lives nexts kept) ≡ length kept
lives_length [] kept = refl
lives_length (next ∷ nexts) kept = lives_length nexts (set kept next.number next.one) ∙ length-set kept next.number next.one

kept_push : (nexts : List Next) (next : Next) (kept : List (Option DuoState)) → AllAreKept nexts kept → is_some (get_or (put_lives nexts kept) next.number None) ≡ true → AllAreKept (nexts ++ next ∷ []) kept
kept_push [] next kept all here = (here, tt)
kept_push (n ∷ nexts) next kept all here = (all.0, kept_push nexts next (set kept n.number n.one) all.1 here)

parts_more : (keeps : List Remnant) (k : Remnant) → all_parts Tick (keeps ++ k ∷ []) ≡ all_parts Tick keeps ++ or_none (part_at Tick k.live)
parts_more [] k = append-nil (or_none (part_at Tick k.live))
parts_more (x ∷ keeps) k = ap (λ outs. or_none (part_at Tick x.live) ++ outs) (parts_more keeps k) ∙ sym (append_assoc (or_none (part_at Tick x.live)) (all_parts Tick keeps) (or_none (part_at Tick k.live)))

-- A tick by which nothing happens.

gone_alike : (m n : ℕ) (s : Side) → end_is_gone (end_at m s) ≡ end_is_gone (end_at n s)
gone_alike m n (side.Wire w) = refl
gone_alike m n (side.User o) = refl

pub over_alike : (m n : ℕ) (d : DuoState) → is_over (duo_at m d) ≡ is_over (duo_at n d)
over_alike m n d = rw (gone_alike m n d.pair.this, gone_alike m n d.pair.that) refl

pub hears_tick : (c : Connection) → is_over c ≡ false → hears c Tick ≡ true
unfolding hears
hears_tick c alive = ap not alive

fed_by : (l : Live) → hears l.connection Tick ≡ true → fed l.ticks l.connection Tick ≡ (connection_step l.ticks l.connection Tick).0
fed_by l is = ap (λ b. elim b [ true ↦ next l.ticks l.connection Tick | false ↦ l.connection ]) is

part_by : (l : Live) → hears l.connection Tick ≡ true → part_in Tick l ≡ Some (connection_step l.ticks l.connection Tick).1
part_by l is = ap (λ b. elim b [ true ↦ Some (connection_step l.ticks l.connection Tick).1 | false ↦ None ]) is

none_by : (b : Bool) (reference : Option ℕ) → None ≡ (if b && not b then reference else None)
none_by true reference = refl
none_by false reference = refl

none_given : (now : ℕ) (a : Side) → None ≡ gives (end_at now a) (end_at (now + 1) a)
none_given now (side.Wire w) = none_by (end_is_gone (end_at now (side.Wire w))) (reference_of (end_at (now + 1) (side.Wire w)))
none_given now (side.User o) = none_by (end_is_gone (end_at now (side.User o))) (reference_of (end_at (now + 1) (side.User o)))

-- An opening at a tick, with what its ends give up.
record OpeningTicked (now freeze : ℕ) (k : Remnant) (one : Option DuoState) (g h : Option ℕ) (outs : List Output) : Type 0 where
  live : option_map (live_at (now + 1)) one ≡ live_ticked k
  this : frozen_if freeze g (seat_after 0 Tick false k.this) ≡ (remnant_after Tick k).this
  that : frozen_if freeze h (seat_after 0 Tick false k.that) ≡ (remnant_after Tick k).that
  held_this : HasHeld g (seat_after 0 Tick false k.this)
  held_that : HasHeld h (seat_after 0 Tick false k.that)
  parts : outs ≡ or_none (part_at Tick k.live)

over_ticked : (now freeze : ℕ) (k : Remnant) → k.live ≡ None → OpeningTicked now freeze k None None None []
over_ticked now freeze k over =
    let after : remnant_after Tick k ≡ over_after Tick k = after_over Tick k over in
    record {
      live = sym (ap (λ (r : Remnant). r.live) after);
      this = sym (ap (λ (r : Remnant). r.this) after);
      that = sym (ap (λ (r : Remnant). r.that) after);
      held_this = tt;
      held_that = tt;
      parts = sym (ap (λ l. or_none (part_at Tick l)) over);
    }

idle_ticked : (now freeze : ℕ) (k : Remnant) (d : DuoState) → IsSeated k → k.live ≡ Some (live_at now d) → d.ticks.freeze ≡ freeze → IsAlive d → IsIdle now d → OpeningTicked now freeze k (Some d) None None []
idle_ticked now freeze k d seated live freezes alive idle =
    let l : Live = live_at now d in
    let hearing : hears l.connection Tick ≡ true = hears_tick (duo_at now d) (over_alike now 0 d ∙ alive) in
    let same : fed d.ticks (duo_at now d) Tick ≡ duo_at (now + 1) d = fed_by l hearing ∙ ap (λ r. r.0) idle in
    let so : OpeningGives Tick d.ticks.freeze None None k =
    gives_by Tick k l None None seated live (none_given now d.pair.this ∙ ap (λ c. gives (duo_at now d).this c.this) (sym same)) (none_given now d.pair.that ∙ ap (λ c. gives (duo_at now d).that c.that) (sym same)) in
    record {
      live = sym (ap (λ (r : Remnant). r.live) (after_live Tick k l live) ∙ (ap (live_of d.ticks) same ∙ ap (λ b. if b then None else Some (live_at (now + 1) d)) (over_alike (now + 1) 0 d ∙ alive)));
      this = so.this;
      that = so.that;
      held_this = tt;
      held_that = tt;
      parts = sym (ap (λ x. or_none (part_at Tick x)) live ∙ (ap or_none (part_by l hearing) ∙ ap (λ r. r.1) idle));
    }

heard_ticked : (now freeze : ℕ) (k : Remnant) (d : DuoState) (h : Heard) → IsSeated k → k.live ≡ Some (live_at now d) → d.ticks.freeze ≡ freeze → Becomes now Tick d h → OpeningTicked now freeze k h.one h.this h.that h.outs
heard_ticked now freeze k d h seated live freezes becomes =
    let l : Live = live_at now d in
    let gives : OpeningGives Tick d.ticks.freeze h.this h.that k = gives_by Tick k l h.this h.that seated live becomes.this becomes.that in
    record {
      live = becomes.live ∙ sym (ap (λ (r : Remnant). r.live) (after_live Tick k l live));
      this = ap (λ f. frozen_if f h.this (seat_after 0 Tick false k.this)) (sym freezes) ∙ gives.this;
      that = ap (λ f. frozen_if f h.that (seat_after 0 Tick false k.that)) (sym freezes) ∙ gives.that;
      held_this = gives.held_this;
      held_that = gives.held_that;
      parts = sym (ap (λ x. or_none (part_at Tick x)) live ∙ ap or_none (sym becomes.part));
    }

-- The next opening.

-- what is before it, and what is behind
abbrev ahead : List Remnant → ℕ → List Remnant
ahead keeps number = map (remnant_after Tick) (take number keeps)

pub ticked_none : (keeps : List Remnant) (o : OpeningsState) → TickedTo keeps o 0 [] []
ticked_none keeps o = record { lives = refl; seats = refl; gives = tt; alive = tt; parts = refl }

next_lives : (keeps : List Remnant) (o : OpeningsState) (number : ℕ) (one : Option DuoState) → number < length keeps → number < length o.kept → option_map (live_at (o.taken + 1)) one ≡ live_ticked (get_or keeps number nothing)
    → map live_ticked (take number keeps) ++ option_map (live_at (o.taken + 1)) one ∷ lives_at (o.taken + 1) (drop (number + 1) o.kept)
    ≡ map live_ticked (take (number + 1) keeps) ++ lives_at (o.taken + 1) (drop (number + 1) o.kept)
next_lives keeps o number one within there is =
    let rest : List (Option Live) = lives_at (o.taken + 1) (drop (number + 1) o.kept) in
    ap (λ l. map live_ticked (take number keeps) ++ l ∷ rest) is
    ∙ (sym (append_assoc (map live_ticked (take number keeps)) (live_ticked (get_or keeps number nothing) ∷ []) rest)
    ∙ ap (λ xs. xs ++ rest) (sym (map-append live_ticked (take number keeps) (get_or keeps number nothing ∷ [])) ∙ ap (map live_ticked) (sym (take_next number keeps nothing within))))

next_seats : (keeps : List Remnant) (number : ℕ) → number < length keeps
    → ahead keeps number ++ remnant_after Tick (get_or keeps number nothing) ∷ map waited (drop (number + 1) keeps) ≡ ahead keeps (number + 1) ++ map waited (drop (number + 1) keeps)
next_seats keeps number within =
    let rest : List Remnant = map waited (drop (number + 1) keeps) in
    sym (append_assoc (ahead keeps number) (remnant_after Tick (get_or keeps number nothing) ∷ []) rest)
    ∙ ap (λ xs. xs ++ rest) (sym (map-append (remnant_after Tick) (take number keeps) (get_or keeps number nothing ∷ [])) ∙ ap (map (remnant_after Tick)) (sym (take_next number keeps nothing within)))

next_outs : (keeps : List Remnant) (number : ℕ) (outs more : List Output) → number < length keeps → outs ≡ all_parts Tick (take number keeps) → more ≡ or_none (part_at Tick (get_or keeps number nothing).live)
    → outs ++ more ≡ all_parts Tick (take (number + 1) keeps)
next_outs keeps number outs more within is so =
    ap₂ (λ a b. a ++ b) is so ∙ (sym (parts_more (take number keeps) (get_or keeps number nothing)) ∙ ap (all_parts Tick) (sym (take_next number keeps nothing within)))

split_lives : (o : OpeningsState) (number : ℕ) (d : Option DuoState) → number < length o.kept
    → lives_at (o.taken + 1) (drop number o.kept) ≡ option_map (live_at (o.taken + 1)) (get_or o.kept number d) ∷ lives_at (o.taken + 1) (drop (number + 1) o.kept)
split_lives o number d within = ap (lives_at (o.taken + 1)) (drop_next number o.kept d within)

split_seats : (keeps : List Remnant) (number : ℕ) → number < length keeps → map waited (drop number keeps) ≡ waited (get_or keeps number nothing) ∷ map waited (drop (number + 1) keeps)
split_seats keeps number within = ap (map waited) (drop_next number keeps nothing within)

-- one that is put in its place
put_next : (keeps : List Remnant) (o : OpeningsState) (number : ℕ) (nexts : List Next) (next : Next) (outs more : List Output) → Stands keeps o → number < length keeps → next.number ≡ number → is_some (get_or o.kept number None) ≡ true
    → OpeningTicked o.taken o.slots.freeze (get_or keeps number nothing) next.one next.this next.that more → TickedTo keeps o number nexts outs → TickedTo keeps o (number + 1) (nexts ++ next ∷ []) (outs ++ more)
put_next keeps o number nexts next outs more stands within here alive at so =
    let k : Remnant = get_or keeps number nothing in
    let freeze : ℕ = o.slots.freeze in
    let there : number < length o.kept = omega (arith, within, count_is keeps o stands.lives) in
    let lives_ahead : List (Option Live) = map live_ticked (take number keeps) in
    let lives_rest : List (Option Live) = lives_at (o.taken + 1) (drop (number + 1) o.kept) in
    let seats_rest : List Remnant = map waited (drop (number + 1) keeps) in
    let long : length lives_ahead ≡ number = omega (arith, within, length-map (take number keeps) live_ticked, length-take number keeps) in
    let wide : length (ahead keeps number) ≡ number = omega (arith, within, length-map (take number keeps) (remnant_after Tick), length-take number keeps) in
    let seats : put_seats freeze nexts (map waited keeps) ≡ ahead keeps number ++ waited k ∷ seats_rest = so.seats ∙ ap (λ xs. ahead keeps number ++ xs) (split_seats keeps number within) in
    let found : get_or (put_seats freeze nexts (map waited keeps)) next.number nothing ≡ waited k =
    ap₂ (λ xs n. get_or xs n nothing) seats here ∙ get_middle (ahead keeps number) seats_rest number (waited k) nothing wide in
    let became : given freeze next (waited k) ≡ remnant_after Tick k = ap₂ (λ s t. record { live = live_ticked k; this = s; that = t }) at.this at.that in
    let lives : lives_at (o.taken + 1) (put_lives nexts o.kept) ≡ lives_ahead ++ option_map (live_at (o.taken + 1)) (get_or o.kept number None) ∷ lives_rest =
    so.lives ∙ ap (λ xs. lives_ahead ++ xs) (split_lives o number None there) in
    let still : option_map (live_at (o.taken + 1)) (get_or (put_lives nexts o.kept) number None) ≡ option_map (live_at (o.taken + 1)) (get_or o.kept number None) =
    sym (get_or-map (option_map (live_at (o.taken + 1))) (put_lives nexts o.kept) number None None (omega (arith, there, lives_length nexts o.kept)))
    ∙ (ap (λ xs. get_or xs number None) lives ∙ get_middle lives_ahead lives_rest number (option_map (live_at (o.taken + 1)) (get_or o.kept number None)) None long) in
    record {
      lives = ap (lives_at (o.taken + 1)) (lives_push nexts next o.kept)
          ∙ (map-set (option_map (live_at (o.taken + 1))) (put_lives nexts o.kept) next.number next.one
          ∙ (ap₂ (λ xs n. set xs n (option_map (live_at (o.taken + 1)) next.one)) lives here
          ∙ (set_middle lives_ahead lives_rest number (option_map (live_at (o.taken + 1)) (get_or o.kept number None)) (option_map (live_at (o.taken + 1)) next.one) long
          ∙ next_lives keeps o number next.one within there at.live)));
      seats = seats_push freeze nexts next (map waited keeps)
          ∙ (ap (λ r. set (put_seats freeze nexts (map waited keeps)) next.number (given freeze next r)) found
          ∙ (ap₂ (λ xs n. set xs n (given freeze next (waited k))) seats here
          ∙ (set_middle (ahead keeps number) seats_rest number (waited k) (given freeze next (waited k)) wide
          ∙ (ap (λ r. ahead keeps number ++ r ∷ seats_rest) became ∙ next_seats keeps number within))));
      gives = gives_push freeze nexts next (map waited keeps) so.gives (record {
        number = subst (λ xs. next.number < length xs) (sym seats) (omega (arith, here, wide, length_middle (ahead keeps number) (waited k) seats_rest));
        this = subst (λ (r : Remnant). HasHeld next.this r.this) (sym found) at.held_this;
        that = subst (λ (r : Remnant). HasHeld next.that r.that) (sym found) at.held_that;
      });
      alive = kept_push nexts next o.kept so.alive
          (ap (λ n. is_some (get_or (put_lives nexts o.kept) n None)) here ∙ (same_some (get_or (put_lives nexts o.kept) number None) (get_or o.kept number None) still ∙ alive));
      parts = next_outs keeps number outs more within so.parts at.parts;
    }
  where
    same_some : (x y : Option DuoState) → option_map (live_at (o.taken + 1)) x ≡ option_map (live_at (o.taken + 1)) y → is_some x ≡ is_some y
    same_some None None e = refl
    same_some None (Some d) e = absurd (cc)
    same_some (Some c) None e = absurd (cc)
    same_some (Some c) (Some d) e = refl

    length_middle : {X : Type 0} (before : List X) (x : X) (after : List X) → length before < length (before ++ x ∷ after)
    length_middle [] x after = omega arith
    length_middle (y ∷ before) x after = omega (arith, length_middle before x after)

-- one that stays as it is
stay_next : (keeps : List Remnant) (o : OpeningsState) (number : ℕ) (nexts : List Next) (one : Option DuoState) (outs : List Output) → Stands keeps o → number < length keeps → one ≡ get_or o.kept number one
    → OpeningTicked o.taken o.slots.freeze (get_or keeps number nothing) one None None [] → TickedTo keeps o number nexts outs → TickedTo keeps o (number + 1) nexts outs
stay_next keeps o number nexts one outs stands within here at so =
    let k : Remnant = get_or keeps number nothing in
    let there : number < length o.kept = omega (arith, within, count_is keeps o stands.lives) in
    let became : waited k ≡ remnant_after Tick k = ap₂ (λ s t. record { live = live_ticked k; this = s; that = t }) at.this at.that in
    record {
      lives = so.lives
          ∙ (ap (λ xs. map live_ticked (take number keeps) ++ xs) (split_lives o number one there ∙ ap (λ x. option_map (live_at (o.taken + 1)) x ∷ lives_at (o.taken + 1) (drop (number + 1) o.kept)) (sym here))
          ∙ next_lives keeps o number one within there at.live);
      seats = so.seats
          ∙ (ap (λ xs. ahead keeps number ++ xs) (split_seats keeps number within)
          ∙ (ap (λ r. ahead keeps number ++ r ∷ map waited (drop (number + 1) keeps)) became ∙ next_seats keeps number within));
      gives = so.gives;
      alive = so.alive;
      parts = sym (append-nil outs) ∙ next_outs keeps number outs [] within so.parts at.parts;
    }

-- The loop.

abbrev next_of : ℕ → Heard → Next
next_of number h = record { number = number; one = h.one; this = h.this; that = h.that }

abbrev pub AllTickedTo : ℕ → List (Option DuoState) → ℕ → List Next → List Output → Type 0
AllTickedTo now kept number nexts outs = (keeps : List Remnant) (o : OpeningsState) → Stands keeps o → o.taken ≡ now → o.kept ≡ kept → TickedTo keeps o number nexts outs

seated_here : (keeps : List Remnant) (o : OpeningsState) (number : ℕ) → number < length keeps → Stands keeps o → IsSeated (get_or keeps number nothing)
seated_here keeps o number within stands = All-get_or IsSeated keeps number nothing within stands.orderly.seated

freezes_here : (keeps : List Remnant) (o : OpeningsState) (number : ℕ) (d : DuoState) → number < length keeps → Stands keeps o → (get_or keeps number nothing).live ≡ Some (live_at o.taken d) → d.ticks.freeze ≡ o.slots.freeze
freezes_here keeps o number d within stands live =
    subst (λ x. IfSome x (λ l. l.ticks.freeze ≡ o.slots.freeze)) live (All-get_or (IsPlaced o.slots.lane o.slots.freeze) keeps number nothing within stands.placed).freezes

-- it does more than bring timers nearer
pub tick_heard : (now number : ℕ) (kept : List (Option DuoState)) (one : Option DuoState) (h : Heard) (nexts : List Next) (outs : List Output) → number < length kept → one ≡ get_or kept number one → TickedAt now one (Some h)
    → AllTickedTo now kept number nexts outs → AllTickedTo now kept (number + 1) (nexts ++ record { number = number; one = h.one; this = h.this; that = h.that } ∷ []) (outs ++ h.outs)
tick_heard now number kept None h nexts outs within here at so = absurd (cc)
tick_heard now number kept (Some d) h nexts outs within here at so =
    λ keeps o stands is same.
    let inside : number < length keeps = omega (arith, within, ap (λ xs. length xs) same, count_is keeps o stands.lives) in
    let live : (get_or keeps number nothing).live ≡ Some (live_at o.taken d) = live_there keeps o number (Some d) inside stands.lives (here ∙ ap (λ xs. get_or xs number (Some d)) (sym same)) in
    put_next keeps o number nexts (next_of number h) outs h.outs stands inside refl
    (is_kept o.kept number d (omega (arith, within, ap (λ xs. length xs) same)) (here ∙ ap (λ xs. get_or xs number (Some d)) (sym same)))
    (heard_ticked o.taken o.slots.freeze (get_or keeps number nothing) d h (seated_here keeps o number inside stands) live (freezes_here keeps o number d inside stands live) (subst (λ n. Becomes n Tick d h) (sym is) at))
    (so keeps o stands is same)

alive_here : (keeps : List Remnant) (o : OpeningsState) (number : ℕ) (d : DuoState) → IsSeated (get_or keeps number nothing) → (get_or keeps number nothing).live ≡ Some (live_at o.taken d) → IsAlive d
alive_here keeps o number d seated live = over_alike 0 o.taken d ∙ subst (λ x. IfSome x (λ l. is_over l.connection ≡ false)) live seated.on

-- it doesn't
pub tick_asleep : (now number : ℕ) (kept : List (Option DuoState)) (one : Option DuoState) (nexts : List Next) (outs : List Output) → number < length kept → one ≡ get_or kept number one → TickedAt now one None
    → AllTickedTo now kept number nexts outs → AllTickedTo now kept (number + 1) nexts outs
tick_asleep now number kept None nexts outs within here at so =
    λ keeps o stands is same.
    let inside : number < length keeps = omega (arith, within, ap (λ xs. length xs) same, count_is keeps o stands.lives) in
    let there : None ≡ get_or o.kept number None = here ∙ ap (λ xs. get_or xs number None) (sym same) in
    let live : (get_or keeps number nothing).live ≡ None = live_there keeps o number None inside stands.lives there in
    stay_next keeps o number nexts None outs stands inside there (over_ticked o.taken o.slots.freeze (get_or keeps number nothing) live) (so keeps o stands is same)
tick_asleep now number kept (Some d) nexts outs within here at so =
    λ keeps o stands is same.
    let inside : number < length keeps = omega (arith, within, ap (λ xs. length xs) same, count_is keeps o stands.lives) in
    let there : Some d ≡ get_or o.kept number (Some d) = here ∙ ap (λ xs. get_or xs number (Some d)) (sym same) in
    let live : (get_or keeps number nothing).live ≡ Some (live_at o.taken d) = live_there keeps o number (Some d) inside stands.lives there in
    let seated = seated_here keeps o number inside stands in
    stay_next keeps o number nexts (Some d) outs stands inside there
    (idle_ticked o.taken o.slots.freeze (get_or keeps number nothing) d seated live (freezes_here keeps o number d inside stands live) (alive_here keeps o number d seated live) (subst (λ n. IsIdle n d) (sym is) at)) (so keeps o stands is same)

pub ticked_all : (now number : ℕ) (kept : List (Option DuoState)) (nexts : List Next) (outs : List Output) → length kept ≡ number → AllTickedTo now kept number nexts outs
    → (keeps : List Remnant) (o : OpeningsState) → Stands keeps o → o.taken ≡ now → o.kept ≡ kept → AreTicked keeps o nexts outs
ticked_all now number kept nexts outs all so keeps o stands is same =
    let long : length o.kept ≡ number = ap (λ xs. length xs) same ∙ all in
    let whole : length keeps ≡ number = sym (count_is keeps o stands.lives) ∙ long in
    let t : TickedTo keeps o number nexts outs = so keeps o stands is same in
    record {
      lives = t.lives ∙ (ap₂ (λ xs ys. map live_ticked xs ++ lives_at (o.taken + 1) ys) (take_whole number keeps whole) (drop_whole number o.kept long) ∙ append-nil (map live_ticked keeps));
      seats = t.seats ∙ (ap₂ (λ xs ys. map (remnant_after Tick) xs ++ map waited ys) (take_whole number keeps whole) (drop_whole number keeps whole) ∙ append-nil (map (remnant_after Tick) keeps));
      gives = t.gives;
      alive = t.alive;
      parts = t.parts ∙ ap (all_parts Tick) (take_whole number keeps whole);
    }
