-- What the lines of a capture bring is in its ranges.
use Rattle.std.proofs.Common.{◌≡◌, ℕ, ◌+◌, ◌<◌, ◌≤◌, codes, Bool, List, [], ◌∷◌, ◌++◌, length, filter, filter_map, Option, Some, None, Ok, Err, refl, arith, length-append, not}
use Rattle.std.specs.Prelude.{IfSome, IfOk, option_map}
use Rattle.std.specs.List.{AllByRecursion, enumerate_from, fold, scan, push, cons_option}
use Rattle.std.specs.declared.result.Result.{Result}
use Rattle.std.proofs.lemmas.List.{length-map}
use Rattle.std.proofs.lemmas.List.Sums.{count_by-le-length, length-filter}
use Rattle.relay_base.proofs.GivingLemmas.{bound}
use Rattle.relay_base.specs.declared.limits.TheConstants.{LINK_SELECTIONS, POINT_CODES}
use Rattle.relay_base.specs.declared.words.Stamp.{Stamp}
use Rattle.plant_core.specs.declared.change.Change.{Change}
use Rattle.plant_core.specs.declared.entry.ControlEvent.{ControlEvent}
use Rattle.node_head.specs.declared.head.Head.{Head}
use Rattle.capture_form.specs.Capture.{Line, is_skipped, lines_from, is_barrier, barriers, with_above, left_by, open_group, brought, event_at}
use Rattle.capture_form.specs.Changes.{row_form, change_of}
use Rattle.capture_form.specs.Events.{Stamped}
use Rattle.capture_form.specs.Groups.{left_open}
use Rattle.capture_form.specs.Line.{Linked, message_form, asked_form, request_form, tick_form, change_form, control_form, event_of, bound_form, edit_form, meaning_of}
use Rattle.capture_form.specs.Requests.{form_of, has_form, request_of}
use Rattle.capture_form.specs.Text.{words, same}
use Rattle.capture_form.specs.Words.{below, link_of, user_of, octets_of}
use Rattle.capture_form.specs.declared.changes.OpenGroup.{OpenGroup}
use Rattle.capture_form.specs.declared.fault.LineKind.{LineKind}
use Rattle.capture_form.specs.declared.fault.LineKind.TheVariants.{Words}
use Rattle.capture_form.specs.declared.meaning.Meaning.{Meaning}
use Rattle.capture_form.specs.declared.meaning.Meaning.TheVariants.{Event, Edit, Begin, Commit}
use Rattle.capture_form.specs.declared.requests.RequestForm.{RequestForm}
use Rattle.printable_law.specs.OctetLaw.{IsOctet, AreOctets}
use Rattle.printable_law.specs.Ranges.{IsPoint, IsSelection, ChangeInRange, ControlEventInRange, RequestInRange}
use Rattle.printable_law.proofs.Lists.{either, all-append, all-map, all-filter}
use Rattle.printable_law.specs.CaptureRanges.{HeadInRange, StampedInRange}
use Rattle.printable_law.proofs.Words.{below-in, link-in, user-in, octets-in}
use Rattle.printable_law.proofs.Requests.{request-in}
use Rattle.printable_law.proofs.Changes.{row_form-in, change-in}

-- What a line means.

abbrev LinkedInRange : Linked → Type 0
LinkedInRange e = IsOctet e.0 × ControlEventInRange e.1

at-link : (links : ℕ) (word : List ℕ) → links < 256 → IfOk (link_of links word) IsOctet
at-link links word small = weaker (link_of links word) (link-in links word)
  where
    weaker : (r : Result ℕ LineKind) → IfOk r (λ n. n ≤ links) → IfOk r IsOctet
    weaker (Ok n) few = omega (arith, few, small)
    weaker (Err f) few = tt

message-in : (head : Head) (more : List (List ℕ)) → HeadInRange head → IfOk (message_form head more) LinkedInRange
message-in head (link ∷ opc ∷ sls ∷ hex ∷ []) told =
    bound IsOctet LinkedInRange (link_of head.links link) _ (at-link head.links link told.links) (λ at a.
    bound IsPoint LinkedInRange (below POINT_CODES opc) _ (below-in POINT_CODES opc) (λ point p.
    bound IsSelection LinkedInRange (below LINK_SELECTIONS sls) _ (below-in LINK_SELECTIONS sls) (λ selection s.
    bound AreOctets LinkedInRange (octets_of hex) _ (octets-in hex) (λ octets are. (a, (p, s, are))))))
message-in head _ told = tt

asked-in : (head : Head) (link ssn : List ℕ) (form : Option RequestForm) (more : List (List ℕ)) → HeadInRange head → IfOk (asked_form head link ssn form more) LinkedInRange
asked-in head link ssn None more told = tt
asked-in head link ssn (Some form) more told =
    either (λ r. IfOk r LinkedInRange) (has_form form more) _ (Err Words)
    (bound IsOctet LinkedInRange (link_of head.links link) _ (at-link head.links link told.links) (λ at a.
    bound IsOctet LinkedInRange (user_of head.users ssn) _ (user-in head.users ssn) (λ user u.
    bound RequestInRange LinkedInRange (request_of form more) _ (request-in form more) (λ asked r. (a, (u, r)))))) tt

request_form-in : (head : Head) (more : List (List ℕ)) → HeadInRange head → IfOk (request_form head more) LinkedInRange
request_form-in head (link ∷ ssn ∷ word ∷ more) told = asked-in head link ssn (form_of word) more told
request_form-in head _ told = tt

tick-in : (more : List (List ℕ)) → IfOk (tick_form more) LinkedInRange
tick-in [] = (omega arith, tt)
tick-in (word ∷ more) = tt

control-in : (head : Head) (first : List ℕ) (more : List (List ℕ)) → IfOk (control_form head first more) LinkedInRange
control-in head first more =
    either (λ r. IfOk r LinkedInRange) (same first (codes "t")) (tick_form more) (change_form head first more) (tick-in more)
    (bound ChangeInRange LinkedInRange (change_of head first more) _ (change-in head first more) (λ change c. (omega arith, (c, tt))))

event-in : (head : Head) (ws : List (List ℕ)) → HeadInRange head → IfOk (event_of head ws) LinkedInRange
event-in head [] told = tt
event-in head (first ∷ more) told =
    either (λ r. IfOk r LinkedInRange) (same first (codes "m")) (message_form head more) _ (message-in head more told)
    (either (λ r. IfOk r LinkedInRange) (same first (codes "u")) (request_form head more) (control_form head first more) (request_form-in head more told) (control-in head first more))

abbrev MeaningInRange : Meaning → Type 0
MeaningInRange (Event link event) = IsOctet link × ControlEventInRange event
MeaningInRange (Edit change) = ChangeInRange change
MeaningInRange Begin = Unit {0}
MeaningInRange Commit = Unit {0}

bound_form-in : (word : List ℕ) → IfOk (bound_form word) MeaningInRange
bound_form-in word =
    either (λ r. IfOk r MeaningInRange) (same word (codes "begin")) (Ok Begin) _ tt
    (either (λ r. IfOk r MeaningInRange) (same word (codes "commit")) (Ok Commit) (Err Words) tt tt)

edit-in : (own : ℕ) (ws : List (List ℕ)) → IfOk (edit_form own ws) MeaningInRange
edit-in own [] = bound ChangeInRange MeaningInRange (row_form own []) (λ (change : Change). Ok (Edit change)) (row_form-in own []) (λ change c. c)
edit-in own (word ∷ []) = bound_form-in word
edit-in own (word ∷ other ∷ more) = bound ChangeInRange MeaningInRange (row_form own (word ∷ other ∷ more)) (λ (change : Change). Ok (Edit change)) (row_form-in own (word ∷ other ∷ more)) (λ change c. c)

meaning-in : (head : Head) (ws : List (List ℕ)) → HeadInRange head → IfOk (meaning_of head ws) MeaningInRange
meaning-in head [] told = tt
meaning-in head (first ∷ more) told =
    either (λ r. IfOk r MeaningInRange) (same first (codes "e")) (edit_form head.point more) _ (edit-in head.point more)
    (bound LinkedInRange MeaningInRange (event_of head (first ∷ more)) _ (event-in head (first ∷ more) told) (λ e in_range. in_range))

-- Groups.

abbrev OpenInRange : Option OpenGroup → Type 0
OpenInRange before = IfSome before (λ group. AllByRecursion ChangeInRange group.changes)

left-in : (number : ℕ) (before : Option OpenGroup) (meaning : Meaning) → OpenInRange before → MeaningInRange meaning → OpenInRange (left_open number before meaning)
left-in number before Begin group in_range = tt
left-in number before Commit group in_range = tt
left-in number None (Edit change) group in_range = tt
left-in number (Some left) (Edit change) group in_range = all-append ChangeInRange left.changes (change ∷ []) group (in_range, tt)
left-in number before (Event link event) group in_range = group

left_by-in : (number : ℕ) (before : Option OpenGroup) (r : Result Meaning LineKind) → OpenInRange before → IfOk r MeaningInRange → OpenInRange (left_by number before r)
left_by-in number before (Ok meaning) group in_range = left-in number before meaning group in_range
left_by-in number before (Err kind) group in_range = group

open-from : (head : Head) (before : Option OpenGroup) (ls : List Line) → HeadInRange head → OpenInRange before
    → OpenInRange (fold (λ before line. left_by line.0 before (meaning_of head line.1)) before ls)
open-from head before [] told group = group
open-from head before (line ∷ ls) told group =
    open-from head (left_by line.0 before (meaning_of head line.1)) ls told (left_by-in line.0 before (meaning_of head line.1) group (meaning-in head line.1 told))

brought-in : (before : Option OpenGroup) (r : Result Meaning LineKind) → OpenInRange before → IfOk r MeaningInRange → IfSome (brought before r) LinkedInRange
brought-in before (Ok (Event link event)) group in_range = in_range
brought-in None (Ok (Edit change)) group in_range = (omega arith, (in_range, tt))
brought-in (Some left) (Ok (Edit change)) group in_range = tt
brought-in before (Ok Begin) group in_range = tt
brought-in None (Ok Commit) group in_range = tt
brought-in (Some left) (Ok Commit) group in_range = (omega arith, group)
brought-in before (Err kind) group in_range = tt

-- The lines, and how many stand above each.

abbrev IsLine : ℕ → Line → Type 0
IsLine limit line = line.0 < limit

numbered-in : (number : ℕ) (ls : List (List ℕ)) (limit : ℕ) → number + length ls ≤ limit → AllByRecursion (λ (l : ℕ × List ℕ). l.0 < limit) (enumerate_from number ls)
numbered-in number [] limit few = tt
numbered-in number (l ∷ ls) limit few = (omega (arith, few), numbered-in (number + 1) ls limit (omega (arith, few)))

lines-in : (number : ℕ) (ls : List (List ℕ)) (limit : ℕ) → number + length ls ≤ limit → AllByRecursion (IsLine limit) (lines_from number ls)
lines-in number ls limit few =
    all-map (λ (l : ℕ × List ℕ). l.0 < limit) (IsLine limit) (λ l. (l.0, words l.1)) (λ l small. small) (filter (λ l. not (is_skipped l.1)) (enumerate_from number ls))
    (all-filter (λ (l : ℕ × List ℕ). l.0 < limit) (λ l. not (is_skipped l.1)) (enumerate_from number ls) (numbered-in number ls limit few))

length-numbered : (number : ℕ) (ls : List (List ℕ)) → length (enumerate_from number ls) ≡ length ls
length-numbered number [] = refl
length-numbered number (l ∷ ls) = omega (arith, length-numbered (number + 1) ls)

few-lines : (number : ℕ) (ls : List (List ℕ)) → length (lines_from number ls) ≤ length ls
few-lines number ls =
    let is_stated : ℕ × List ℕ → Bool = λ l. not (is_skipped l.1) in
    omega (
      arith,
      length-map {B = Line} (filter is_stated (enumerate_from number ls)) (λ l. (l.0, words l.1)),
      length-filter is_stated (enumerate_from number ls),
      count_by-le-length is_stated (enumerate_from number ls),
      length-numbered number ls,
    )

abbrev IsAbove : ℕ → List Line × Line → Type 0
IsAbove limit p = (length p.0 + 1 < limit) × IsLine limit p.1

above-in : (limit : ℕ) (above ls : List Line) → length above + length ls < limit → AllByRecursion (IsLine limit) ls
    → AllByRecursion (IsAbove limit) (scan push (λ above line. (above, line)) above ls)
above-in limit above [] few all = tt
above-in limit above (line ∷ ls) few all =
    ((omega (arith, few), all.0), above-in limit (above ++ line ∷ []) ls (omega (arith, few, length-append above (line ∷ []))) all.1)

-- The events.

stamped-in : (head : Head) (p : List Line × Line) → HeadInRange head → IsAbove 4_294_967_296 p → IfSome (event_at head p) StampedInRange
stamped-in head (above, line) told few = either (λ e. IfSome e StampedInRange) (is_barrier line) None _ tt (by_event (brought (open_group head above) (meaning_of head line.1)) event)
  where
    event : IfSome (brought (open_group head above) (meaning_of head line.1)) LinkedInRange
    event = brought-in (open_group head above) (meaning_of head line.1) (open-from head None above told tt) (meaning-in head line.1 told)

    phase : barriers above + 1 < 4_294_967_296
    phase = omega (arith, few.0, count_by-le-length is_barrier above)

    by_event : (e : Option Linked) → IfSome e LinkedInRange
        → IfSome (option_map (λ (e : Linked). (record { phase = barriers above + 1; link = e.0; line = line.0 }, e.1)) e) StampedInRange
    by_event None in_range = tt
    by_event (Some e) in_range = (record { phase = phase; link = in_range.0; line = few.1 }, in_range.1)

consed : (e : Option (Stamp × ControlEvent)) (events : Stamped) → IfSome e StampedInRange → AllByRecursion StampedInRange events
    → AllByRecursion StampedInRange (cons_option e events)
consed None events in_range all = all
consed (Some e) events in_range all = (in_range, all)

events-in : (head : Head) (ps : List (List Line × Line)) → HeadInRange head → AllByRecursion (IsAbove 4_294_967_296) ps
    → AllByRecursion StampedInRange (filter_map (event_at head) ps)
events-in head [] told all = tt
events-in head (p ∷ ps) told all = consed (event_at head p) (filter_map (event_at head) ps) (stamped-in head p told all.0) (events-in head ps told all.1)

pub lines-bring : (head : Head) (number : ℕ) (ls : List (List ℕ)) → HeadInRange head → number + length ls < 4_294_967_296
    → AllByRecursion StampedInRange (filter_map (event_at head) (with_above (lines_from number ls)))
lines-bring head number ls told few =
    events-in head (with_above (lines_from number ls)) told
    (above-in 4_294_967_296 [] (lines_from number ls) (omega (arith, few, few-lines number ls)) (lines-in number ls 4_294_967_296 (omega (arith, few))))
