-- What the reader of lines keeps is what the lines above state, and so it gives what the definition gives.
use Rattle.std.proofs.Common.{◌≡◌, ℕ, ◌+◌, ◌==◌, ◌&&◌, nat_lt, nat_le, nat_eq, not, Bool, true, false, cond, List, [], ◌∷◌, ◌++◌, map, Option, Some, None, option_map, Result, Ok, Err, refl, sym, ap, subst, ◌∙◌, arith, append-nil, append_assoc}
use lib.Pointwise.{pointwise}
use Rattle.std.proofs.lemmas.Bool.Decides.{nat_tests}
use Rattle.std.proofs.lemmas.List.Sums.{sum_by_push, fold_push}
use Rattle.std.proofs.lemmas.List.FromFn.{map-range_with_len_more}
use Rattle.std.specs.List.{filter_map, cons_option, count_by, range_with_len, scan, push}
use Rattle.relay_base.specs.Giving.{◌>>=◌}
use Rattle.relay_base.specs.declared.words.Stamp.{Stamp}
use Rattle.plant_core.specs.declared.entry.ControlEvent.{ControlEvent}
use Rattle.node_head.specs.declared.head.Head.{Head}
use Rattle.capture_form.specs.Text.{words}
use Rattle.capture_form.specs.Events.{Stamped, phase_lists}
use Rattle.capture_form.specs.Line.{Linked, meaning_of}
use Rattle.capture_form.specs.Groups.{may_stand, placed, left_open, event_in}
use Rattle.capture_form.specs.declared.meaning.Meaning.{Meaning}
use Rattle.capture_form.specs.declared.changes.OpenGroup.{OpenGroup}
use Rattle.capture_form.specs.declared.fault.LineKind.{LineKind}
use Rattle.capture_form.specs.declared.fault.LineKind.TheVariants.{Words}
use Rattle.capture_form.specs.declared.fault.Limit.TheVariants.{Lines, Ticks, Barriers}
use Rattle.capture_form.specs.declared.fault.CaptureFault.{CaptureFault}
use Rattle.capture_form.specs.declared.fault.CaptureFault.TheVariants as refused
use Rattle.capture_form.specs.declared.capture.Capture.{Capture}
use Rattle.capture_form.specs.declared.steps.TheConstants.{MOST_LINES, MOST_TICK_LINES, MOST_BARRIERS}
use Rattle.capture_form.specs.declared.reading.Reading.{Reading}
use Rattle.capture_form.specs.Capture.{Line, is_barrier, is_tick, barriers, ticks, event_lines, left_by, open_group, form_fault, barrier_form, barrier_fault, event_fault, fault_at, open_fault, brought, event_at, phases_of, unless_faulty, capture_after}
use Rattle.capture_form.specs.Inner.Stated.{Stated, numbered}
use Rattle.capture_form.specs.Inner.Reader.{at_line, phase_ended, with_event, meaning_taken, line_added, barrier_taken, event_put, event_taken, lines_taken, all_taken, nothing_read, closed, phases_read}
use Rattle.capture_form.proofs.PhaseLemmas.{AreUpTo, up-to-push, up-to-next, lists-push, lists-empty, phases-before, number-is, both-left, both-right}

-- ---- what is kept

-- the events so far, how many barriers, event lines and tick lines there are, and the group that stands open
abbrev kept : ℕ → Stamped → ℕ → ℕ → ℕ → ℕ → Option OpenGroup → Reading
kept links events b n t number g = record {
  phases = map (phase_lists links events) (range_with_len 1 b);
  current = phase_lists links events (b + 1);
  phase = b + 1;
  line = number;
  events = n;
  ticks = t;
  group = g;
}

-- these are the counts of the lines above, and this is their group
record Counts (head : Head) (above : List Line) (events : Stamped) (b n t : ℕ) (g : Option OpenGroup) : Type 0 where
  barriers : barriers above ≡ b
  lines : event_lines above ≡ n
  ticks : ticks above ≡ t
  up_to : AreUpTo (b + 1) events
  group : open_group head above ≡ g

phases-more : (links b : ℕ) (events : Stamped) → map (phase_lists links events) (range_with_len 1 b) ++ phase_lists links events (b + 1) ∷ [] ≡ map (phase_lists links events) (range_with_len 1 (b + 1))
phases-more links b events = sym (map-range_with_len_more (phase_lists links events) 1 b (b + 1) (omega arith))

kept-ended : (head : Head) (events : Stamped) (b n t number : ℕ) (g : Option OpenGroup) → AreUpTo (b + 1) events
    → phase_ended head (kept head.links events b n t number g) ≡ kept head.links events (b + 1) n t number g
kept-ended head events b n t number g h =
    let ended = phases-more head.links b events in
    let empty = lists-empty (b + 1) (b + 1 + 1) 0 (head.links + 1) events (omega arith) h in
    λ i. record { phases = ended i; current = empty i; phase = b + 1 + 1; line = number; events = n; ticks = t; group = g }

-- an event with its stamp
abbrev stamped : ℕ → ℕ → Linked → Stamp × ControlEvent
stamped b number e = (record { phase = b + 1; link = e.0; line = number }, e.1)

-- the events with that of one line more, if it has one
abbrev and_one : Stamped → Option (Stamp × ControlEvent) → Stamped
and_one events e = events ++ cons_option e []

kept-with : (links : ℕ) (events : Stamped) (b n t number : ℕ) (g after : Option OpenGroup) (e : Option Linked)
    → record (line_added (kept links events b n t number g)) { current = with_event (kept links events b n t number g) e; group = after }
    ≡ kept links (and_one events (option_map (stamped b number) e)) b (n + 1) t number after
kept-with links events b n t number g after None = ap (λ es. kept links es b (n + 1) t number after) (sym (append-nil events))
kept-with links events b n t number g after (Some e) =
    let before = phases-before links 1 b events (stamped b number e) (omega arith) in
    let now = lists-push (b + 1) 0 (links + 1) e.0 events (stamped b number e) refl (omega arith) in
    λ i. record { phases = before i; current = now i; phase = b + 1; line = number; events = n + 1; ticks = t; group = after }

up-to-one : (b number : ℕ) (events : Stamped) (e : Option Linked) → AreUpTo (b + 1) events → AreUpTo (b + 1) (and_one events (option_map (stamped b number) e))
up-to-one b number events None h = subst (AreUpTo (b + 1)) (sym (append-nil events)) h
up-to-one b number events (Some e) h = up-to-push (b + 1) events (stamped b number e) h (omega arith)

-- ---- one line more is counted

count-more : (p : Line → Bool) (above : List Line) (line : Line) (t : Bool) (n : ℕ) → p line ≡ t → count_by p above ≡ n → count_by p (above ++ line ∷ []) ≡ n + cond t 1 0
count-more p above line t n e c = sum_by_push (λ l. cond (p l) 1 0) above line ∙ (λ i. c i + cond (e i) 1 0)

not-tick : (number : ℕ) (ws : List (List ℕ)) → is_barrier (number, ws) ≡ true → is_tick (number, ws) ≡ false
not-tick number [] h = absurd (cc)
not-tick number ([] ∷ more) h = refl
not-tick number ((c ∷ cs) ∷ more) h = ap (λ n. nat_eq n 116 && pointwise nat_eq cs []) (number-is c 119 (both-left (nat_eq c 119) (pointwise nat_eq cs []) h))

-- the group behind one line more
group-more : (head : Head) (above : List Line) (number : ℕ) (ws : List (List ℕ)) (g : Option OpenGroup) (f : Result Meaning LineKind) → meaning_of head ws ≡ f → open_group head above ≡ g
    → open_group head (above ++ (number, ws) ∷ []) ≡ left_by number g f
group-more head above number ws g f e c =
    fold_push (λ before line. left_by line.0 before (meaning_of head line.1)) None above (number, ws) ∙ (λ i. left_by number (c i) (e i))

-- a barrier has no other meaning
not-meant : (head : Head) (number : ℕ) (ws : List (List ℕ)) → is_barrier (number, ws) ≡ true → meaning_of head ws ≡ Err Words
not-meant head number [] h = absurd (cc)
not-meant head number ([] ∷ more) h = absurd (cc)
not-meant head number ((c ∷ []) ∷ more) h = ap (λ n. meaning_of head ((n ∷ []) ∷ more)) (number-is c 119 (both-left (nat_eq c 119) true h))
not-meant head number ((c ∷ d ∷ ds) ∷ more) h = false-true (both-right (nat_eq c 119) false h)
  where
    false-true : false ≡ true → meaning_of head ((c ∷ d ∷ ds) ∷ more) ≡ Err Words
    false-true e = absurd cc

-- ---- what the lines give

abbrev above_each : List Line → List Line → List (List Line × Line)
above_each above ls = scan push (λ over line. (over, line)) above ls

abbrev capture_with : Head → List Line → Stamped → Capture
capture_with head ls events = record { head = head; phases = phases_of head.links ls events }

-- the capture, or the first of the faults of lines and at the end
abbrev unless_faults : Head → List CaptureFault → List Line → Stamped → Result Capture CaptureFault
unless_faults head faults ls events = unless_faulty (faults ++ open_fault (open_group head ls)) (capture_with head ls events)

-- behind the lines above, which gave these events
abbrev given : Head → List Line → Stamped → List Line → Result Capture CaptureFault
given head above events ls =
    unless_faults head (filter_map (fault_at head) (above_each above ls)) (above ++ ls) (events ++ filter_map (event_at head) (above_each above ls))

-- the same for a line, whose fault and event these are, and those behind it
abbrev given_with : Head → List Line → Stamped → Line → List Line → Option CaptureFault → Option (Stamp × ControlEvent) → Result Capture CaptureFault
given_with head above events line more fault event =
    unless_faults head (cons_option fault (filter_map (fault_at head) (above_each (above ++ line ∷ []) more))) (above ++ line ∷ more)
    (events ++ cons_option event (filter_map (event_at head) (above_each (above ++ line ∷ []) more)))

given-none : (head : Head) (above : List Line) (events : Stamped) (line : Line) (more : List Line) → given head (above ++ line ∷ []) events more ≡ given_with head above events line more None None
given-none head above events line more =
    ap (λ ls. unless_faults head (filter_map (fault_at head) (above_each (above ++ line ∷ []) more)) ls (events ++ filter_map (event_at head) (above_each (above ++ line ∷ []) more)))
    (append_assoc above (line ∷ []) more)

and-more : (events : Stamped) (e : Option (Stamp × ControlEvent)) (rest : Stamped) → and_one events e ++ rest ≡ events ++ cons_option e rest
and-more events None rest = ap (λ es. es ++ rest) (append-nil events)
and-more events (Some e) rest = append_assoc events (e ∷ []) rest

given-event : (head : Head) (above : List Line) (events : Stamped) (line : Line) (more : List Line) (e : Option (Stamp × ControlEvent))
    → given head (above ++ line ∷ []) (and_one events e) more ≡ given_with head above events line more None e
given-event head above events line more e =
    let all = append_assoc above (line ∷ []) more in
    let came = and-more events e (filter_map (event_at head) (above_each (above ++ line ∷ []) more)) in
    λ i. unless_faults head (filter_map (fault_at head) (above_each (above ++ line ∷ []) more)) (all i) (came i)

-- ---- the reader gives the same

abbrev read_all : Head → Reading → Result Capture CaptureFault
read_all head r = closed r.group >>= (λ _. Ok (record { head = head; phases = phases_read r }))

-- the words of each line, beside its number
abbrev in_words : List Stated → List Line
in_words ls = map (λ l. (l.0, words l.1)) ls

abbrev then_read : Head → List Stated → Result Reading CaptureFault → Result Capture CaptureFault
then_read head more r = (r >>= (λ s. lines_taken head s more)) >>= read_all head

abbrev Agrees : Head → List Stated → Type 0
Agrees head ls = (above : List Line) (events : Stamped) (b n t number : ℕ) (g : Option OpenGroup) → Counts head above events b n t g
    → then_read head ls (Ok (kept head.links events b n t number g)) ≡ given head above events (in_words ls)

-- behind the last line
ended-agrees : (head : Head) (above : List Line) (events : Stamped) (b n t number : ℕ) (g : Option OpenGroup) → Counts head above events b n t g
    → read_all head (kept head.links events b n t number g) ≡ unless_faults head [] above events
ended-agrees head above events b n t number None c =
    let phases = phases-more head.links b events in
    let same : capture_with head above events ≡ record { head = head; phases = cond (n == 0) [] (map (phase_lists head.links events) (range_with_len 1 (b + 1))) } =
    (λ i. record { head = head; phases = cond (c.lines i == 0) [] (map (phase_lists head.links events) (range_with_len 1 (c.barriers i + 1))) }) in
    (λ i. Ok (record { head = head; phases = cond (n == 0) [] (phases i) })) ∙ ap Ok (sym same)
    ∙ (λ i. unless_faulty (open_fault (sym c.group i)) (capture_with head above events))
ended-agrees head above events b n t number (Some group) c = λ i. unless_faulty (open_fault (sym c.group i)) (capture_with head above events)

agrees-none : (head : Head) → Agrees head []
unfolding all_taken
agrees-none head above events b n t number g c =
    ended-agrees head above events b n t number g c
    ∙ (λ i. unless_faults head [] (sym (append-nil above) i) (sym (append-nil events) i))

abbrev barrier_fault_of : ℕ → Bool → Result (Unit {0}) LineKind → Option CaptureFault
barrier_fault_of number full f = cond full (Some (refused.TooLong Barriers)) (form_fault number f)

barrier-agrees : (head : Head) (more : List Stated) → Agrees head more → (above : List Line) (events : Stamped) (b n t number : ℕ) (g : Option OpenGroup) (ws : List (List ℕ)) → Counts head above events b n t g
    → is_barrier (number, ws) ≡ true → (full : Bool) (f : Result (Unit {0}) LineKind)
    → then_read head more (cond full (Err (refused.TooLong Barriers)) (at_line number f >>= (λ _. Ok (phase_ended head (kept head.links events b n t number g)))))
    ≡ given_with head above events (number, ws) (in_words more) (barrier_fault_of number full f) None
barrier-agrees head more ih above events b n t number g ws c k true f = refl
barrier-agrees head more ih above events b n t number g ws c k false (Err kind) = refl
barrier-agrees head more ih above events b n t number g ws c k false (Ok one) =
    ap (λ r. then_read head more (Ok r)) (kept-ended head events b n t number g c.up_to)
    ∙ ih (above ++ (number, ws) ∷ []) events (b + 1) n t number g (record {
      barriers = count-more is_barrier above (number, ws) true b k c.barriers;
      lines = count-more (λ l. not (is_barrier l)) above (number, ws) false n (ap not k) c.lines ∙ omega arith;
      ticks = count-more is_tick above (number, ws) false t (not-tick number ws k) c.ticks ∙ omega arith;
      up_to = up-to-next (b + 1) events c.up_to;
      group = group-more head above number ws g (Err Words) (not-meant head number ws k) c.group;
    })
    ∙ given-none head above events (number, ws) (in_words more)

event-agrees : (head : Head) (more : List Stated) → Agrees head more → (above : List Line) (events : Stamped) (b n t t' number : ℕ) (g : Option OpenGroup) (ws : List (List ℕ)) → Counts head above events b n t g
    → is_barrier (number, ws) ≡ false → ticks (above ++ (number, ws) ∷ []) ≡ t' → (stands : Bool) (f : Result Meaning LineKind) → meaning_of head ws ≡ f
    → then_read head more (at_line number (placed stands f) >>= (λ meaning. Ok (line_added (meaning_taken (kept head.links events b n t' number g) meaning))))
    ≡ given_with head above events (number, ws) (in_words more) (form_fault number (placed stands f)) (option_map (stamped b number) (brought g f))
event-agrees head more ih above events b n t t' number g ws c k ticked false f e = refl
event-agrees head more ih above events b n t t' number g ws c k ticked true (Err kind) e = refl
event-agrees head more ih above events b n t t' number g ws c k ticked true (Ok meaning) e =
    let after : Option OpenGroup = left_open number g meaning in
    let event : Option Linked = event_in g meaning in
    ap (λ r. then_read head more (Ok r)) (kept-with head.links events b n t' number g after event)
    ∙ ih (above ++ (number, ws) ∷ []) (and_one events (option_map (stamped b number) event)) b (n + 1) t' number after (record {
      barriers = count-more is_barrier above (number, ws) false b k c.barriers ∙ omega arith;
      lines = count-more (λ l. not (is_barrier l)) above (number, ws) true n (ap not k) c.lines;
      ticks = ticked;
      up_to = up-to-one b number events event c.up_to;
      group = group-more head above number ws g (Ok meaning) e c.group;
    })
    ∙ given-event head above events (number, ws) (in_words more) (option_map (stamped b number) event)

abbrev counted_by : Bool → Bool → Bool → Reading → Result Reading CaptureFault
counted_by full tick late r = cond full (Err (refused.TooLong Lines)) (cond tick (cond late (Err (refused.TooLong Ticks)) (Ok (record r { ticks = r.ticks + 1 }))) (Ok r))

abbrev event_fault_of : Bool → Bool → Bool → ℕ → Result Meaning LineKind → Option CaptureFault
event_fault_of full tick late number f = cond full (Some (refused.TooLong Lines)) (cond (tick && late) (Some (refused.TooLong Ticks)) (form_fault number f))

-- an event line is counted before its form is tested
counted-agrees : (head : Head) (more : List Stated) → Agrees head more → (above : List Line) (events : Stamped) (b n t number : ℕ) (g : Option OpenGroup) (ws : List (List ℕ)) → Counts head above events b n t g
    → is_barrier (number, ws) ≡ false → (full tick late : Bool) → is_tick (number, ws) ≡ tick
    → then_read head more (counted_by full tick late (kept head.links events b n t number g) >>= event_put (may_stand g ws) (meaning_of head ws))
    ≡ given_with head above events (number, ws) (in_words more) (event_fault_of full tick late number (placed (may_stand g ws) (meaning_of head ws))) (option_map (stamped b number) (brought g (meaning_of head ws)))
counted-agrees head more ih above events b n t number g ws c k true tick late e = refl
counted-agrees head more ih above events b n t number g ws c k false true true e = refl
counted-agrees head more ih above events b n t number g ws c k false true false e =
    event-agrees head more ih above events b n t (t + 1) number g ws c k (count-more is_tick above (number, ws) true t e c.ticks) (may_stand g ws) (meaning_of head ws) refl
counted-agrees head more ih above events b n t number g ws c k false false late e =
    event-agrees head more ih above events b n t t number g ws c k (count-more is_tick above (number, ws) false t e c.ticks ∙ omega arith) (may_stand g ws) (meaning_of head ws) refl

test-same : (s t : Bool) → (s ≡ true → t ≡ true) → (t ≡ true → s ≡ true) → s ≡ t
test-same true true f g = refl
test-same true false f g = sym (f refl)
test-same false true f g = g refl
test-same false false f g = refl

above-limit : (m n : ℕ) → nat_lt m (n + 1) ≡ nat_le m n
above-limit m n = test-same (nat_lt m (n + 1)) (nat_le m n) (λ h. grind (arith, nat_tests)) (λ h. grind (arith, nat_tests))

abbrev words_taken_as : Head → Reading → List (List ℕ) → Bool → Result Reading CaptureFault
words_taken_as head r ws barrier =
    cond barrier (barrier_taken head r (may_stand r.group ws) (barrier_form ws)) (event_taken r (is_tick (r.line, ws)) (may_stand r.group ws) (meaning_of head ws))

words-agree : (head : Head) (more : List Stated) → Agrees head more → (above : List Line) (events : Stamped) (b n t number : ℕ) (g : Option OpenGroup) (ws : List (List ℕ)) → Counts head above events b n t g
    → (barrier : Bool) → is_barrier (number, ws) ≡ barrier
    → then_read head more (words_taken_as head (kept head.links events b n t number g) ws barrier)
    ≡ given_with head above events (number, ws) (in_words more)
    (cond barrier (barrier_fault head above (number, ws)) (event_fault head above (number, ws)))
    (cond barrier None (option_map (stamped (barriers above) number) (brought (open_group head above) (meaning_of head ws))))
words-agree head more ih above events b n t number g ws c true k =
    let full = above-limit MOST_BARRIERS b in
    let form : Result (Unit {0}) LineKind = placed (may_stand g ws) (barrier_form ws) in
    (λ i. then_read head more (cond (full i) (Err (refused.TooLong Barriers)) (at_line number form >>= (λ _. Ok (phase_ended head (kept head.links events b n t number g))))))
    ∙ barrier-agrees head more ih above events b n t number g ws c k (nat_le MOST_BARRIERS b) form
    ∙ (λ i. given_with head above events (number, ws) (in_words more)
    (barrier_fault_of number (nat_le MOST_BARRIERS (sym c.barriers i)) (placed (may_stand (sym c.group i) ws) (barrier_form ws))) None)
words-agree head more ih above events b n t number g ws c false k =
    counted-agrees head more ih above events b n t number g ws c k (nat_le MOST_LINES n) (is_tick (number, ws)) (nat_le MOST_TICK_LINES t) refl
    ∙ (λ i. given_with head above events (number, ws) (in_words more)
    (event_fault_of (nat_le MOST_LINES (sym c.lines i)) (is_tick (number, ws)) (nat_le MOST_TICK_LINES (sym c.ticks i)) number (placed (may_stand (sym c.group i) ws) (meaning_of head ws)))
    (option_map (stamped (sym c.barriers i) number) (brought (sym c.group i) (meaning_of head ws))))

agrees : (head : Head) (ls : List Stated) → Agrees head ls
unfolding all_taken
agrees head [] = agrees-none head
agrees head (line ∷ more) = λ above events b n t number g c.
    words-agree head more (agrees head more) above events b n t line.0 g (words line.1) c (is_barrier (line.0, words line.1)) refl

-- the capture of a head and the lines after it, of which the first has this number
abbrev pub capture_read : Head → ℕ → List (List ℕ) → Result Capture CaptureFault
capture_read head number ls = do
  r ← lines_taken head (nothing_read head) (numbered number ls)
  _ ← closed r.group
  Ok (record { head = head; phases = phases_read r })

-- from the first line on
pub reader-agrees : (head : Head) (number : ℕ) (ls : List (List ℕ)) → capture_read head number ls ≡ capture_after head number ls
unfolding capture_after
reader-agrees head number ls =
    let empty = lists-empty 0 1 0 (head.links + 1) [] (omega arith) tt in
    (λ i. lines_taken head (record { phases = []; current = empty i; phase = 1; line = 0; events = 0; ticks = 0; group = None }) (numbered number ls) >>= read_all head)
    ∙ agrees head (numbered number ls) [] [] 0 0 0 0 None (record { barriers = refl; lines = refl; ticks = refl; up_to = tt; group = refl })
