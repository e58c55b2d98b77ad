-- Each opening stays seated: an end has its reference until it is gone, whatever happens.
use Rattle.std.proofs.Common.{◌≡◌, ℕ, Bool, true, false, List, map, All, Option, Some, None, is_some, if◌then◌else◌, refl, sym, ◌∙◌}
use Rattle.std.proofs.lemmas.List.Elements.{All-map, All-weaker}
use Rattle.relay_base.specs.declared.words.Event.{Event}
use Rattle.plant_core.specs.declared.terms.Ticks.{Ticks}
use Rattle.section_model.specs.Ends.{End, Connection}
use Rattle.section_model.specs.Step.{end_is_gone, is_over}
use Rattle.section_model.specs.Lane.{fed}
use Rattle.connection_law.specs.ReferenceLaw.{Stays, BothStay}
use Rattle.connection_law.proofs.Reference.Following.{fed_stays}
use Rattle.conn_journal.specs.Inner.Remnants.{Live, Seat, Remnant, live_of, left_after, seat_after, remnant_after}
use Rattle.conn_journal.specs.Inner.Seated.{SeatIs, AreSeated, IsSeated}

-- A seat.

frozen_once : (freeze : ℕ) (is_gone : Bool) → is_some (if is_gone then Some freeze else None) ≡ is_gone
frozen_once freeze true = refl
frozen_once freeze false = refl

left_later : (freeze : ℕ) (event : Event) (before after : End) (left : Option ℕ) → Stays before after
    → is_some left ≡ end_is_gone before → is_some (left_after freeze event (end_is_gone after) left) ≡ end_is_gone after
left_later freeze event before after None stays is = frozen_once freeze (end_is_gone after)
left_later freeze event before after (Some left) stays is = sym (stays.gone (sym is))

seat_later : (freeze : ℕ) (event : Event) (before after : End) (seat : Option Seat) → Stays before after
    → SeatIs before seat → SeatIs after (seat_after freeze event (end_is_gone after) seat)
seat_later freeze event before after None stays is = (is.0 ∙ sym stays.reference, tt)
seat_later freeze event before after (Some s) stays is = (is.0 ∙ sym stays.reference, left_later freeze event before after s.left stays is.1)

-- An opening.

abbrev pub kept_as : Option Live → Option Seat → Option Seat → Remnant
kept_as live this that = record { live = live; this = this; that = that }

-- a connection with its seats, whether it is over or not
pub seated_live : (ticks : Ticks) (c : Connection) (this that : Option Seat)
    → SeatIs c.this this → SeatIs c.that that → IsSeated (record { live = live_of ticks c; this = this; that = that })
seated_live ticks c this that is_this is_that = by_test (is_over c) refl
  where
    by_test : (b : Bool) → is_over c ≡ b → IsSeated (kept_as (if b then None else Some (record { ticks = ticks; connection = c })) this that)
    by_test true over = record { on = tt; live = tt }
    by_test false on = record { on = on; live = (is_this, is_that) }

seated_parts : (event : Event) (live : Option Live) (this that : Option Seat)
    → AreSeated live this that → IsSeated (remnant_after event (kept_as live this that))
seated_parts event None this that are = record { on = tt; live = tt }
seated_parts event (Some l) this that are =
    let c : Connection = fed l.ticks l.connection event in
    let both : BothStay l.connection c = fed_stays l.ticks l.connection event in
    seated_live l.ticks c
    (seat_after l.ticks.freeze event (end_is_gone c.this) this)
    (seat_after l.ticks.freeze event (end_is_gone c.that) that)
    (seat_later l.ticks.freeze event l.connection.this c.this this both.this are.0)
    (seat_later l.ticks.freeze event l.connection.that c.that that both.that are.1)

-- one more event
pub seated_after : (event : Event) (k : Remnant) → IsSeated k → IsSeated (remnant_after event k)
seated_after event k seated = seated_parts event k.live k.this k.that seated.live

-- All openings.

pub all_seated_after : (event : Event) (keeps : List Remnant) → All IsSeated keeps → All IsSeated (map (remnant_after event) keeps)
all_seated_after event keeps seated =
    All-map IsSeated (remnant_after event) keeps (All-weaker IsSeated (λ k. IsSeated (remnant_after event k)) (seated_after event) keeps seated)
