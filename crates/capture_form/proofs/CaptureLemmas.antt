-- What holds of a capture that was read: its events stand under the phases and links of their stamps, and they are not too many.
use Rattle.std.proofs.Common.{◌≡◌, ℕ, zero, suc, ◌+◌, ◌≤◌, ◌<◌, ◌==◌, nat_lt, nat_le, codes, Bool, true, false, cond, List, [], ◌∷◌, ◌++◌, length, map, Option, Some, None, get_or, replicate, Result, Ok, Err, IfOk, refl, ap, ◌∙◌, subst, arith, length-append, append-nil}
use Rattle.std.proofs.lemmas.Bool.Decides.{nat_tests}
use Rattle.std.proofs.lemmas.Grind.{flat_map-append}
use Rattle.std.proofs.Math.ListN.{set}
use Rattle.std.specs.List.{filter_map, range_with_len}
use Rattle.relay_base.specs.declared.words.Stamp.{Stamp}
use Rattle.plant_core.specs.declared.entry.ControlEvent.{ControlEvent}
use Rattle.node_head.specs.Lines.{lines, halves}
use Rattle.node_head.specs.Head.{begun}
use Rattle.node_head.specs.declared.head.Head.{Head}
use Rattle.capture_form.specs.Text.{words}
use Rattle.capture_form.specs.Line.{Linked, meaning_of}
use Rattle.capture_form.specs.Groups.{may_stand, placed, event_in}
use Rattle.capture_form.specs.declared.meaning.Meaning.{Meaning}
use Rattle.capture_form.specs.declared.fault.LineKind.{LineKind}
use Rattle.capture_form.specs.declared.fault.CaptureFault.{CaptureFault}
use Rattle.capture_form.specs.declared.fault.CaptureFault.TheVariants as refused
use Rattle.capture_form.specs.declared.fault.Limit.TheVariants as limit
use Rattle.capture_form.specs.declared.reading.Reading.{Reading}
use Rattle.capture_form.specs.declared.capture.Capture.{Capture}
use Rattle.capture_form.specs.Capture.{Reads, begins, lines_from, barriers, event_lines, barrier_form, with_above, open_group, fault_at, open_fault, event_at, phases_of, unless_faulty, at_head, capture_after, capture_from, capture_within}
use Rattle.capture_form.specs.Inner.Stated.{Stated, numbered}
use Rattle.capture_form.specs.Inner.Reader.{at_line, phase_ended, with_event, meaning_taken, line_added, barrier_taken, tick_counted, line_counted, event_put, event_taken, at_number, words_taken, line_taken, lines_taken, all_taken, nothing_read, closed, phases_read}
use Rattle.capture_form.specs.declared.steps.TheConstants.{MOST_LINES, MOST_TICK_LINES, MOST_BARRIERS}
use Rattle.capture_form.specs.Events.{Stamped, phase_lists, phase_events, all_events, AreOfPhases, IsStamped}
use Rattle.capture_form.proofs.PhaseLemmas.{phases-stamped}
use Rattle.capture_form.proofs.ReaderLemmas.{capture_read, reader-agrees}
use Rattle.relay_base.proofs.GivingLemmas.{bound}
use Rattle.node_head.proofs.Given.{after_any, either, by_test}

-- ---- all events

-- the events that were read so far: no more than were counted
abbrev events_of : Reading → Stamped
events_of r = all_events r.phases ++ phase_events r.current

record Fine (r : Reading) : Type 0 where
  few : length (events_of r) ≤ r.events
  most : r.events ≤ MOST_LINES

lists-empty : (n : ℕ) → phase_events (replicate n []) ≡ []
lists-empty zero = refl
lists-empty (suc n) = lists-empty n

-- an event at the end of one of the lists
lists-length : (lists : List Stamped) (k : ℕ) (e : Stamp × ControlEvent) → length (phase_events (set lists k (get_or lists k [] ++ e ∷ []))) ≤ length (phase_events lists) + 1
lists-length [] k e = omega arith
lists-length (events ∷ more) zero e =
    omega (arith, length-append (events ++ e ∷ []) (phase_events more), length-append events (e ∷ []), length-append events (phase_events more))
lists-length (events ∷ more) (suc k) e =
    omega (arith, lists-length more k e, length-append events (phase_events (set more k (get_or more k [] ++ e ∷ []))), length-append events (phase_events more))

-- the phase that ended with those before it
ended-events : (r : Reading) → all_events (r.phases ++ r.current ∷ []) ≡ events_of r
ended-events r =
    flat_map-append phase_events r.phases (r.current ∷ []) ∙ ap (λ l. all_events r.phases ++ l) (append-nil (phase_events r.current))

fine-same : (r s : Reading) → events_of s ≡ events_of r → s.events ≡ r.events → Fine r → Fine s
fine-same r s same count h = record {
  few = omega (arith, h.few, count, ap length same);
  most = omega (arith, h.most, count);
}

fine-ended : (head : Head) (r : Reading) → Fine r → Fine (phase_ended head r)
fine-ended head r h =
    fine-same r (phase_ended head r)
    (ap (λ l. all_events (r.phases ++ r.current ∷ []) ++ l) (lists-empty (head.links + 1)) ∙ append-nil (all_events (r.phases ++ r.current ∷ [])) ∙ ended-events r) refl h

-- a line brings at most one event
grown : (r : Reading) (e : Option Linked) → length (phase_events (with_event r e)) ≤ length (phase_events r.current) + 1
grown r None = omega arith
grown r (Some e) = lists-length r.current e.0 (record { phase = r.phase; link = e.0; line = r.line }, e.1)

fine-taken : (r : Reading) (meaning : Meaning) → r.events < MOST_LINES → Fine r → Fine (line_added (meaning_taken r meaning))
fine-taken r meaning less h =
    let now : List Stamped = with_event r (event_in r.group meaning) in
    record {
      few = omega (arith, h.few, grown r (event_in r.group meaning), length-append (all_events r.phases) (phase_events now), length-append (all_events r.phases) (phase_events r.current));
      most = omega (arith, less);
    }

-- ---- lines

record Counted (r : Reading) : Type 0 where
  fine : Fine r
  less : r.events < MOST_LINES

is-less : (n : ℕ) → nat_le MOST_LINES n ≡ false → n < MOST_LINES
is-less n h = grind (arith, nat_tests)

tick-counted : (r : Reading) → Counted r → IfOk (tick_counted r) Counted
tick-counted r h =
    either Counted (nat_le MOST_TICK_LINES r.ticks) (Err (refused.TooLong limit.Ticks)) (Ok (record r { ticks = r.ticks + 1 })) tt
    (record { fine = fine-same r (record r { ticks = r.ticks + 1 }) refl refl h.fine; less = h.less })

line-counted : (r : Reading) (tick : Bool) → Fine r → IfOk (line_counted r tick) Counted
line-counted r tick h =
    by_test Counted (nat_le MOST_LINES r.events) (Err (refused.TooLong limit.Lines)) (cond tick (tick_counted r) (Ok r)) (λ e. tt)
    (λ e. either Counted tick (tick_counted r) (Ok r) (tick-counted r (record { fine = h; less = is-less r.events e })) (record { fine = h; less = is-less r.events e }))

event-put : (stands : Bool) (form : Result Meaning LineKind) (r : Reading) → Counted r → IfOk (event_put stands form r) Fine
event-put stands form r h = after_any Fine (at_line r.line (placed stands form)) (λ meaning. Ok (line_added (meaning_taken r meaning)))
    (λ meaning. fine-taken r meaning h.less h.fine)

event-taken : (r : Reading) (tick stands : Bool) (form : Result Meaning LineKind) → Fine r → IfOk (event_taken r tick stands form) Fine
event-taken r tick stands form h = bound Counted Fine (line_counted r tick) (event_put stands form) (line-counted r tick h) (λ s. event-put stands form s)

barrier-taken : (head : Head) (r : Reading) (stands : Bool) (form : Result (Unit {0}) LineKind) → Fine r → IfOk (barrier_taken head r stands form) Fine
barrier-taken head r stands form h =
    either Fine (nat_lt MOST_BARRIERS r.phase) (Err (refused.TooLong limit.Barriers)) _ tt
    (after_any Fine (at_line r.line (placed stands form)) (λ _. Ok (phase_ended head r)) (λ _. fine-ended head r h))

words-taken : (head : Head) (r : Reading) (ws : List (List ℕ)) → Fine r → IfOk (words_taken head r ws) Fine
words-taken head r ws h =
    let stands : Bool = may_stand r.group ws in
    either Fine (begins (codes "w") ws) (barrier_taken head r stands (barrier_form ws)) (event_taken r (begins (codes "t") ws) stands (meaning_of head ws))
    (barrier-taken head r stands (barrier_form ws) h) (event-taken r (begins (codes "t") ws) stands (meaning_of head ws) h)

fine-at : (r : Reading) (number : ℕ) → Fine r → Fine (at_number r number)
fine-at r number h = fine-same r (at_number r number) refl refl h

lines-taken : (head : Head) (ls : List Stated) (r : Reading) → Fine r → IfOk (lines_taken head r ls) Fine
unfolding all_taken
lines-taken head [] r h = h
lines-taken head (line ∷ more) r h =
    bound Fine Fine (line_taken head r line) (λ s. lines_taken head s more) (words-taken head (at_number r line.0) (words line.1) (fine-at r line.0 h)) (λ s. lines-taken head more s)

-- ---- a capture

none-yet : (head : Head) → events_of (nothing_read head) ≡ []
none-yet head = lists-empty (head.links + 1)

fine-first : (head : Head) → Fine (nothing_read head)
fine-first head = record {
  few = omega (arith, ap length (none-yet head));
  most = omega arith;
}

abbrev AreFew : List (List Stamped) → Type 0
AreFew phases = length (all_events phases) ≤ MOST_LINES

few-events : (phases : List (List Stamped)) (r : Reading) → all_events phases ≡ events_of r → Fine r → AreFew phases
few-events phases r same h = omega (arith, h.few, h.most, ap length same)

few-choice : (r : Reading) (t : Bool) → Fine r → AreFew (cond t [] (r.phases ++ r.current ∷ []))
few-choice r true h = omega arith
few-choice r false h = few-events (r.phases ++ r.current ∷ []) r (ended-events r) h

read-few : (head : Head) (number : ℕ) (ls : List (List ℕ)) → IfOk (capture_read head number ls) (λ c. AreFew c.phases)
read-few head number ls =
    bound Fine (λ (c : Capture). AreFew c.phases) (lines_taken head (nothing_read head) (numbered number ls)) _
    (lines-taken head (numbered number ls) (nothing_read head) (fine-first head))
    (λ r h. after_any (λ (c : Capture). AreFew c.phases) (closed r.group) (λ _. Ok (record { head = head; phases = phases_read r })) (λ _. few-choice r (r.events == 0) h))

-- ---- stamps

stamped-choice : (links n : ℕ) (events : Stamped) (t : Bool) → AreOfPhases links 1 (cond t [] (map (phase_lists links events) (range_with_len 1 n)))
stamped-choice links n events true = tt
stamped-choice links n events false = phases-stamped links 1 n events

stamped-unless : (faults : List CaptureFault) (c : Capture) → IsStamped c.head c.phases → IfOk (unless_faulty faults c) (λ c. IsStamped c.head c.phases)
stamped-unless [] c h = h
stamped-unless (f ∷ fs) c h = tt

-- ---- a capture

record IsGood (c : Capture) : Type 0 where
  stamped : IsStamped c.head c.phases
  few : AreFew c.phases

both-given : (r : Result Capture CaptureFault) → IfOk r (λ c. IsStamped c.head c.phases) → IfOk r (λ c. AreFew c.phases) → IfOk r IsGood
both-given (Ok c) s f = record { stamped = s; few = f }
both-given (Err e) s f = tt

stamped-after : (head : Head) (number : ℕ) (ls : List (List ℕ)) → IfOk (capture_after head number ls) (λ c. IsStamped c.head c.phases)
unfolding capture_after
stamped-after head number ls =
    let stated = lines_from number ls in
    let events = filter_map (event_at head) (with_above stated) in
    stamped-unless (filter_map (fault_at head) (with_above stated) ++ open_fault (open_group head stated)) (record { head = head; phases = phases_of head.links stated events })
    (stamped-choice head.links (barriers stated + 1) events (event_lines stated == 0))

good-after : (parts : Head × ℕ × List (List ℕ)) → IfOk (capture_from parts) IsGood
good-after parts =
    both-given (capture_from parts) (stamped-after parts.0 (parts.1 + 2) parts.2)
    (subst (λ r. IfOk r (λ (c : Capture). AreFew c.phases)) (reader-agrees parts.0 (parts.1 + 2) parts.2) (read-few parts.0 (parts.1 + 2) parts.2))

good-within : (bytes : List ℕ) → IfOk (capture_within bytes) IsGood
good-within bytes = after_any IsGood (at_head (begun (halves (lines bytes)))) capture_from good-after

good-read : (r : Result Capture CaptureFault) (bytes : List ℕ) → Reads r (capture_within bytes) → IfOk r IsGood
good-read (Ok capture) bytes e = subst (λ r. IfOk r IsGood) e (good-within bytes)
good-read (Err fault) bytes e = tt

pub read-stamped : (r : Result Capture CaptureFault) (bytes : List ℕ) → Reads r (capture_within bytes) → IfOk r (λ c. IsStamped c.head c.phases)
read-stamped (Ok capture) bytes e = (good-read (Ok capture) bytes e).stamped
read-stamped (Err fault) bytes e = tt

pub read-few-events : (r : Result Capture CaptureFault) (bytes : List ℕ) → Reads r (capture_within bytes) → IfOk r (λ c. length (all_events c.phases) ≤ MOST_LINES)
read-few-events (Ok capture) bytes e = (good-read (Ok capture) bytes e).few
read-few-events (Err fault) bytes e = tt
