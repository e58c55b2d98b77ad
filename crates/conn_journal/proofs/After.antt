-- What is kept of an opening after one more event.
use Rattle.std.proofs.Common.{◌≡◌, ℕ, ◌+◌, ◌-◌, Bool, true, false, Option, Some, None, refl, sym, subst, ap, ◌∙◌, arith, ⊎_elim}
use Rattle.std.proofs.lemmas.Bool.{cases_Bool}
use Rattle.relay_base.specs.declared.words.Event.{Event}
use Rattle.plant_core.specs.declared.terms.Ticks.{Ticks}
use Rattle.section_model.specs.Ends.{End, Connection}
use Rattle.section_model.specs.Step.{hears, end_is_gone, is_over}
use Rattle.section_model.specs.Lane.{Opening, with_event, connection_of, next, fed, gone_for, reference_of}
use Rattle.section_model.proofs.Following.{one_more}
use Rattle.conn_journal.specs.Inner.Remnants.{Remnant, Live, live_of, seat_by, seat_of, seat_after, remnant_of, remnant_after, ticks_in}
use Rattle.conn_journal.specs.Inner.Remnants.{Seat}
use Rattle.conn_journal.proofs.Gone.{gone_after, gone_next, gone_is_some}
use Rattle.conn_journal.proofs.Over.{over_is_deaf, over_this, over_that}

frozen_on : (freeze count more : ℕ) → freeze - (count + more) ≡ freeze - count - more
frozen_on freeze count more = omega arith

all_left : (freeze : ℕ) → freeze - 0 ≡ freeze
all_left freeze = omega arith

seat_next : (freeze : ℕ) (event : Event) (is_gone : Bool) (count mine : Option ℕ)
    → seat_by freeze (gone_after event is_gone count) mine ≡ seat_after freeze event is_gone (seat_by freeze count mine)
seat_next freeze event is_gone count None = refl
seat_next freeze event true None (Some m) = ap (λ left. Some (record { mine = m; left = Some left })) (all_left freeze)
seat_next freeze event false None (Some m) = refl
seat_next freeze event is_gone (Some count) (Some m) =
    ap (λ left. Some (record { mine = m; left = Some left })) (frozen_on freeze count (ticks_in event))

-- a seat of an opening, one event later
seat_later : (ticks : Ticks) (end : Connection → End) (o : Opening) (event : Event)
    → seat_of ticks end (with_event event o) ≡ seat_after ticks.freeze event (end_is_gone (end (fed ticks (connection_of ticks o) event))) (seat_of ticks end o)
seat_later ticks end o event =
    ap (λ gone. seat_by ticks.freeze gone (reference_of (end o.first))) (gone_next ticks end o.first o.since event)
    ∙ seat_next ticks.freeze event (end_is_gone (end (fed ticks (connection_of ticks o) event))) (gone_for ticks end o.first o.since) (reference_of (end o.first))

-- of an end that is gone already, only the ticks count
seat_gone : (freeze : ℕ) (event : Event) (is_gone : Bool) (count mine : Option ℕ) → (count ≡ None → ⊥)
    → seat_after freeze event is_gone (seat_by freeze count mine) ≡ seat_after 0 event false (seat_by freeze count mine)
seat_gone freeze event is_gone count None some = refl
seat_gone freeze event is_gone None (Some m) some = absurd (some refl)
seat_gone freeze event is_gone (Some count) (Some m) some = refl

gone_not_none : (ticks : Ticks) (end : Connection → End) (o : Opening)
    → end_is_gone (end (connection_of ticks o)) ≡ true → gone_for ticks end o.first o.since ≡ None → ⊥
gone_not_none ticks end o gone none = let h = gone_is_some ticks end o.first o.since none in cc

seat_over : (ticks : Ticks) (end : Connection → End) (o : Opening) (event : Event) → end_is_gone (end (connection_of ticks o)) ≡ true
    → seat_of ticks end (with_event event o) ≡ seat_after 0 event false (seat_of ticks end o)
seat_over ticks end o event gone =
    seat_later ticks end o event
    ∙ seat_gone ticks.freeze event (end_is_gone (end (fed ticks (connection_of ticks o) event))) (gone_for ticks end o.first o.since) (reference_of (end o.first)) (gone_not_none ticks end o gone)

abbrev kept_of : Option Live → Option Seat → Option Seat → Remnant
kept_of live this that = record { live = live; this = this; that = that }

kept_alike : {a b : Option Live} {c d e f : Option Seat} → a ≡ b → c ≡ d → e ≡ f
    → kept_of a c e ≡ kept_of b d f
kept_alike one two three = rw (one, two, three) refl

live_later : (ticks : Ticks) (o : Opening) (event : Event) → live_of ticks (connection_of ticks (with_event event o)) ≡ live_of ticks (fed ticks (connection_of ticks o) event)
live_later ticks o event = ap (live_of ticks) (one_more ticks o.first o.since event)

unfed : (ticks : Ticks) (c : Connection) (event : Event) → hears c event ≡ false → fed ticks c event ≡ c
unfed ticks c event deaf = subst (λ b. elim b [ true ↦ next ticks c event | false ↦ c ] ≡ c) (sym deaf) refl

live_over : (ticks : Ticks) (c : Connection) (event : Event) → is_over c ≡ true → live_of ticks (fed ticks c event) ≡ None
live_over ticks c event over = rw (unfed ticks c event (over_is_deaf c event over), over) refl

pub keeps_after : (ticks : Ticks) (o : Opening) (event : Event) → remnant_of ticks (with_event event o) ≡ remnant_after event (remnant_of ticks o)
keeps_after ticks o event =
    ⊎_elim
    (λ (over : is_over (connection_of ticks o) ≡ true). rw over
    (kept_alike (live_later ticks o event ∙ live_over ticks (connection_of ticks o) event over)
    (seat_over ticks (λ c. c.this) o event (over_this (connection_of ticks o) over))
    (seat_over ticks (λ c. c.that) o event (over_that (connection_of ticks o) over))))
    (λ (on : is_over (connection_of ticks o) ≡ false). rw on
    (kept_alike (live_later ticks o event) (seat_later ticks (λ c. c.this) o event) (seat_later ticks (λ c. c.that) o event)))
    (cases_Bool (is_over (connection_of ticks o)))
