-- A connection of which no timer fires.
use Rattle.std.proofs.Common.{◌≡◌, ℕ, pred, ◌+◌, ◌==◌, ◌<◌, ◌≤◌, false, [], Option, Some, None, refl, ap, ◌∙◌, arith}
use Rattle.section_coupling.specs.declared.duo.TheConstants.{TIMERS}
use Rattle.std.specs.Prelude.{option_map, IfSome}
use Rattle.std.proofs.lemmas.Bool.{ne_eqb}
use Rattle.section_model.specs.declared.cell.Timer.{Timer}
use Rattle.section_model.specs.declared.cell.Timer.TheVariants.{Connect, Reset, Iar, Ias, Rel, Int, Repeat}
use Rattle.section_model.specs.Ends.{End, wire, owner, Connection}
use Rattle.section_model.specs.Timing.{timer_in}
use Rattle.section_model.specs.Step.{is_due_at, ticked}
use Rattle.connection_law.specs.TimerLaw.{NoneFires, IsQuiet}
use Rattle.section_coupling.specs.Duos.{DuoState, duo_at, left_of_timer, ticks_left}
use Rattle.section_coupling.proofs.LaterTimers.{ticked_pair}
use Rattle.conn_journal.specs.Inner.Views.{IsIdle}

not_yet : (left : Option ℕ) → IfSome left (λ n. 2 ≤ n) → elim (option_map pred left) [ None ↦ false | Some n ↦ n == 0 ] ≡ false
not_yet None more = refl
not_yet (Some n) more = ne_eqb (pred n) 0 (λ e. omega (arith, more, e))

none_fires : (e : End) → ((timer : Timer) → IfSome (left_of_timer timer e) (λ n. 2 ≤ n)) → NoneFires e
none_fires (owner u) all timer = refl
none_fires (wire x) all timer =
    elim timer as (λ t. IfSome (timer_in t x.timers) (λ n. 2 ≤ n) → is_due_at t (ticked (wire x)) ≡ false) [
      | Connect ↦ not_yet x.timers.connect
      | Reset ↦ not_yet x.timers.reset
      | Iar ↦ not_yet x.timers.iar
      | Ias ↦ not_yet x.timers.ias
      | Rel ↦ not_yet x.timers.rel
      | Int ↦ not_yet x.timers.int
      | Repeat ↦ not_yet x.timers.repeat
    ] (all timer)

-- two ticks are left at least of each of its running timers
abbrev pub AllLate : Connection → Type 0
AllLate c = (timer : ℕ) → timer < TIMERS → IfSome (ticks_left timer c) (λ n. 2 ≤ n)

of_this : (c : Connection) → AllLate c → (timer : Timer) → IfSome (left_of_timer timer c.this) (λ n. 2 ≤ n)
of_this c late timer =
    elim timer as (λ t. IfSome (left_of_timer t c.this) (λ n. 2 ≤ n)) [
      | Connect ↦ late 0 (omega arith)
      | Reset ↦ late 1 (omega arith)
      | Iar ↦ late 2 (omega arith)
      | Ias ↦ late 3 (omega arith)
      | Rel ↦ late 4 (omega arith)
      | Int ↦ late 5 (omega arith)
      | Repeat ↦ late 6 (omega arith)
    ]

of_that : (c : Connection) → AllLate c → (timer : Timer) → IfSome (left_of_timer timer c.that) (λ n. 2 ≤ n)
of_that c late timer =
    elim timer as (λ t. IfSome (left_of_timer t c.that) (λ n. 2 ≤ n)) [
      | Connect ↦ late 7 (omega arith)
      | Reset ↦ late 8 (omega arith)
      | Iar ↦ late 9 (omega arith)
      | Ias ↦ late 10 (omega arith)
      | Rel ↦ late 11 (omega arith)
      | Int ↦ late 12 (omega arith)
      | Repeat ↦ late 13 (omega arith)
    ]

pub idle_when_late : (taken : ℕ) (d : DuoState) → IsQuiet d.ticks (duo_at taken d) → AllLate (duo_at taken d) → IsIdle taken d
idle_when_late taken d quiet late =
    let c : Connection = duo_at taken d in
    quiet (none_fires c.this (of_this c late)) (none_fires c.that (of_that c late)) ∙ ap (λ x. (x, [])) (ticked_pair taken (taken + 1) d.pair refl)
