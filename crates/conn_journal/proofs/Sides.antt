-- What an end gives up by an event, and what its seat is then.
use Rattle.std.proofs.Common.{◌≡◌, ℕ, ◌<◌, ◌&&◌, not, Bool, true, false, List, length, map, get_or, All, Option, Some, None, is_some, if◌then◌else◌, refl, sym, subst, ap, ◌∙◌}
use Rattle.std.specs.Prelude.{IfSome, option_map}
use Rattle.std.proofs.lemmas.Bool.{both_ways, false_from_ne_true}
use Rattle.std.proofs.lemmas.List.Elements.{All-get_or, All-map, All-weaker}
use Rattle.relay_base.specs.declared.words.Event.{Event}
use Rattle.relay_base.specs.declared.words.Event.TheVariants.{Tick}
use Rattle.plant_core.specs.declared.terms.Ticks.{Ticks}
use Rattle.section_model.specs.Ends.{End, Connection}
use Rattle.section_model.specs.Step.{end_is_gone, is_over}
use Rattle.section_model.specs.Lane.{fed, reference_of}
use Rattle.connection_law.specs.ReferenceLaw.{Stays, BothStay}
use Rattle.connection_law.proofs.Reference.Following.{fed_stays}
use Rattle.conn_journal.specs.Inner.Hearing.{gives}
use Rattle.conn_journal.specs.Inner.Remnants.{Live, Seat, Remnant, live_of, sits, seat_after, live_after, over_after, remnant_after}
use Rattle.conn_journal.specs.Inner.Seated.{SeatIs, AreSeated, IsSeated, AreApart}
use Rattle.conn_journal.specs.Inner.Stands.{IsOfLane, IsPlaced}
use Rattle.conn_journal.specs.Inner.Ticking.{nothing, frozen_if, HasHeld, waited}
use Rattle.conn_journal.proofs.Apart.{sits_before}
use Rattle.conn_journal.proofs.Given.{IsThere}

-- An end.

record SideGives (freeze : ℕ) (event : Event) (is_gone : Bool) (g : Option ℕ) (seat : Option Seat) : Type 0 where
  same : frozen_if freeze g (seat_after 0 event false seat) ≡ seat_after freeze event is_gone seat
  held : HasHeld g (seat_after 0 event false seat)

abbrev given_by : Bool → Bool → Option ℕ → Option ℕ
given_by was is reference = if is && not was then reference else None

side_left : (freeze : ℕ) (event : Event) (was is : Bool) (reference : Option ℕ) (mine : ℕ) (left : Option ℕ) → Some mine ≡ reference → is_some left ≡ was
    → SideGives freeze event is (given_by was is reference) (Some (record { mine = mine; left = left }))
side_left freeze event was true reference mine None e f =
    subst (λ w. SideGives freeze event true (given_by w true reference) (Some (record { mine = mine; left = None }))) f
    (subst (λ r. SideGives freeze event true r (Some (record { mine = mine; left = None }))) e (record { same = refl; held = refl }))
side_left freeze event was false reference mine None e f = record { same = refl; held = tt }
side_left freeze event was true reference mine (Some left) e f =
    subst (λ w. SideGives freeze event true (given_by w true reference) (Some (record { mine = mine; left = Some left }))) f (record { same = refl; held = tt })
side_left freeze event was false reference mine (Some left) e f = record { same = refl; held = tt }

side_by : (freeze : ℕ) (event : Event) (was is : Bool) (reference : Option ℕ) (seat : Option Seat) → option_map (λ s. s.mine) seat ≡ reference → IfSome seat (λ s. is_some s.left ≡ was)
    → SideGives freeze event is (given_by was is reference) seat
side_by freeze event was is reference None e f =
    subst (λ r. SideGives freeze event is (given_by was is r) None) e (by_test (is && not was))
  where
    by_test : (b : Bool) → SideGives freeze event is (if b then None else None) None
    by_test true = record { same = refl; held = tt }
    by_test false = record { same = refl; held = tt }
side_by freeze event was is reference (Some s) e f = side_left freeze event was is reference s.mine s.left e f

side_gives : (freeze : ℕ) (event : Event) (before after : End) (seat : Option Seat) → SeatIs before seat → Stays before after
    → SideGives freeze event (end_is_gone after) (gives before after) seat
side_gives freeze event before after seat is stays =
    side_by freeze event (end_is_gone before) (end_is_gone after) (reference_of after) seat (is.0 ∙ sym stays.reference) is.1

-- An opening.

pub record OpeningGives (event : Event) (freeze : ℕ) (g h : Option ℕ) (k : Remnant) : Type 0 where
  pub this : frozen_if freeze g (seat_after 0 event false k.this) ≡ (remnant_after event k).this
  pub that : frozen_if freeze h (seat_after 0 event false k.that) ≡ (remnant_after event k).that
  pub held_this : HasHeld g (seat_after 0 event false k.this)
  pub held_that : HasHeld h (seat_after 0 event false k.that)

pub after_live : (event : Event) (k : Remnant) (l : Live) → k.live ≡ Some l → remnant_after event k ≡ live_after event l k
after_live event k l is = ap (λ x. elim x [ Some y ↦ live_after event y k | None ↦ over_after event k ]) is

pub after_over : (event : Event) (k : Remnant) → k.live ≡ None → remnant_after event k ≡ over_after event k
after_over event k is = ap (λ x. elim x [ Some y ↦ live_after event y k | None ↦ over_after event k ]) is

pub gives_by : (event : Event) (k : Remnant) (l : Live) (g h : Option ℕ) → IsSeated k → k.live ≡ Some l
    → g ≡ gives l.connection.this (fed l.ticks l.connection event).this → h ≡ gives l.connection.that (fed l.ticks l.connection event).that → OpeningGives event l.ticks.freeze g h k
gives_by event k l g h seated live this that =
    let are : AreSeated (Some l) k.this k.that = subst (λ x. AreSeated x k.this k.that) live seated.live in
    let both : BothStay l.connection (fed l.ticks l.connection event) = fed_stays l.ticks l.connection event in
    let one = side_gives l.ticks.freeze event l.connection.this (fed l.ticks l.connection event).this k.this are.0 both.this in
    let two = side_gives l.ticks.freeze event l.connection.that (fed l.ticks l.connection event).that k.that are.1 both.that in
    record {
      this = ap (λ x. frozen_if l.ticks.freeze x (seat_after 0 event false k.this)) this ∙ (one.same ∙ sym (ap (λ (r : Remnant). r.this) (after_live event k l live)));
      that = ap (λ x. frozen_if l.ticks.freeze x (seat_after 0 event false k.that)) that ∙ (two.same ∙ sym (ap (λ (r : Remnant). r.that) (after_live event k l live)));
      held_this = subst (λ x. HasHeld x (seat_after 0 event false k.this)) (sym this) one.held;
      held_that = subst (λ x. HasHeld x (seat_after 0 event false k.that)) (sym that) two.held;
    }

-- Where openings stand.

lane_later : (lane freeze : ℕ) (event : Event) (gone : Bool) (seat : Option Seat) → IsOfLane lane seat → IsOfLane lane (seat_after freeze event gone seat)
lane_later lane freeze event gone None of = tt
lane_later lane freeze event gone (Some s) of = of

ends_later : (freeze : ℕ) (event : Event) (a b : Bool) (this that : Option Seat) → ((slot : ℕ) → sits slot this ≡ true → sits slot that ≡ false)
    → (slot : ℕ) → sits slot (seat_after freeze event a this) ≡ true → sits slot (seat_after freeze event b that) ≡ false
ends_later freeze event a b this that ends slot e =
    false_from_ne_true (sits slot (seat_after freeze event b that))
    (λ f. both_ways (sits slot that) (ends slot (sits_before slot freeze event a this e)) (sits_before slot freeze event b that f))

freeze_of : (freeze : ℕ) (ticks : Ticks) (c : Connection) → ticks.freeze ≡ freeze → IfSome (live_of ticks c) (λ l. l.ticks.freeze ≡ freeze)
freeze_of freeze ticks c is = by_test (is_over c)
  where
    by_test : (b : Bool) → IfSome (if b then None else Some (record { ticks = ticks; connection = c })) (λ (l : Live). l.ticks.freeze ≡ freeze)
    by_test true = tt
    by_test false = is

placed_by : (lane freeze : ℕ) (event : Event) (live : Option Live) (this that : Option Seat) → IsPlaced lane freeze (record { live = live; this = this; that = that }) → IsPlaced lane freeze (remnant_after event (record { live = live; this = this; that = that }))
placed_by lane freeze event None this that placed =
    record { this = lane_later lane 0 event false this placed.this; that = lane_later lane 0 event false that placed.that; ends = ends_later 0 event false false this that placed.ends; freezes = tt }
placed_by lane freeze event (Some l) this that placed =
    let c : Connection = fed l.ticks l.connection event in
    record {
      this = lane_later lane l.ticks.freeze event (end_is_gone c.this) this placed.this;
      that = lane_later lane l.ticks.freeze event (end_is_gone c.that) that placed.that;
      ends = ends_later l.ticks.freeze event (end_is_gone c.this) (end_is_gone c.that) this that placed.ends;
      freezes = freeze_of freeze l.ticks c placed.freezes;
    }

pub placed_after : (lane freeze : ℕ) (event : Event) (k : Remnant) → IsPlaced lane freeze k → IsPlaced lane freeze (remnant_after event k)
placed_after lane freeze event k placed = placed_by lane freeze event k.live k.this k.that placed

pub all_placed_after : (lane freeze : ℕ) (event : Event) (keeps : List Remnant) → All (IsPlaced lane freeze) keeps → All (IsPlaced lane freeze) (map (remnant_after event) keeps)
all_placed_after lane freeze event keeps placed =
    All-map (IsPlaced lane freeze) (remnant_after event) keeps (All-weaker (IsPlaced lane freeze) (λ k. IsPlaced lane freeze (remnant_after event k)) (placed_after lane freeze event) keeps placed)

-- its freezes are lowered
pub placed_waited : (lane freeze : ℕ) (k : Remnant) → IsPlaced lane freeze k → IsPlaced lane freeze (waited k)
placed_waited lane freeze k placed =
    record {
      this = lane_later lane 0 Tick false k.this placed.this;
      that = lane_later lane 0 Tick false k.that placed.that;
      ends = ends_later 0 Tick false false k.this k.that placed.ends;
      freezes = (placed_after lane freeze Tick k placed).freezes;
    }

pub there_placed : (lane freeze number : ℕ) (keeps : List Remnant) → number < length keeps → AreApart keeps → All (IsPlaced lane freeze) keeps
    → IsThere keeps number lane (get_or keeps number nothing).live (get_or keeps number nothing).this (get_or keeps number nothing).that
there_placed lane freeze number keeps within apart placed =
    let at : IsPlaced lane freeze (get_or keeps number nothing) = All-get_or (IsPlaced lane freeze) keeps number nothing within placed in
    record { within = within; apart = apart; is = refl; lane_this = at.this; lane_that = at.that; ends = at.ends }
