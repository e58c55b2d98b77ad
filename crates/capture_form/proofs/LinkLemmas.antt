-- Each event of a capture that was read stands under the link that its line states, or under link 0 where the line states none.
use Rattle.std.proofs.Common.{◌≡◌, ◌∙◌, ℕ, zero, suc, ◌+◌, ◌≤◌, ◌==◌, ◌&&◌, nat_lt, nat_le, codes, Bool, true, false, cond, List, [], ◌∷◌, ◌++◌, length, map, Option, Some, None, option_map, Result, Ok, Err, IfOk, refl, sym, subst, arith, leb-true, lt-ltb}
use Rattle.std.specs.List.{AllByRecursion, filter, filter_map, cons_option, range_with_len}
use Rattle.relay_base.specs.declared.words.Stamp.{Stamp}
use Rattle.relay_base.specs.Decimal.{number_of}
use Rattle.plant_core.specs.declared.entry.ControlEvent.{ControlEvent}
use Rattle.node_head.specs.Lines.{lines, halves}
use Rattle.node_head.specs.Head.{begun}
use Rattle.node_head.specs.declared.head.Head.{Head}
use Rattle.relay_base.proofs.GivingLemmas.{bound}
use Rattle.node_head.proofs.Given.{after_any, either, by_test}
use Rattle.capture_form.specs.Text.{same}
use Rattle.capture_form.specs.Words.{below, link_in, link_of, user_of, octets_of}
use Rattle.capture_form.specs.Changes.{row_form, change_of}
use Rattle.capture_form.specs.Groups.{event_in}
use Rattle.capture_form.specs.Requests.{form_of, has_form, request_of}
use Rattle.capture_form.specs.Line.{Linked, message_form, asked_form, request_form, tick_form, change_form, event_of, bound_form, edit_form, meaning_of}
use Rattle.capture_form.specs.Inner.Reader.{IsWithin}
use Rattle.capture_form.specs.Events.{Stamped, is_at, phase_lists, phase_events}
use Rattle.capture_form.specs.Links.{comes_on_link, AreOnLinks, AreLinked}
use Rattle.capture_form.specs.declared.meaning.Meaning.{Meaning}
use Rattle.capture_form.specs.declared.meaning.Meaning.TheVariants.{Event, Edit, Begin, Commit}
use Rattle.capture_form.specs.declared.changes.OpenGroup.{OpenGroup}
use Rattle.capture_form.specs.declared.requests.RequestForm.{RequestForm}
use Rattle.capture_form.specs.declared.fault.LineKind.{LineKind}
use Rattle.capture_form.specs.declared.fault.LineKind.TheVariants.{Words, Number}
use Rattle.capture_form.specs.declared.fault.CaptureFault.{CaptureFault}
use Rattle.capture_form.specs.declared.fault.CaptureFault.TheVariants as refused
use Rattle.capture_form.specs.declared.fault.Limit.TheVariants as limit
use Rattle.relay_base.specs.declared.limits.TheConstants.{MOST_BYTES, LINK_SELECTIONS, POINT_CODES}
use Rattle.capture_form.specs.declared.capture.Capture.{Capture}
use Rattle.capture_form.specs.Capture.{Reads, Line, lines_from, is_barrier, barriers, event_lines, with_above, open_group, fault_at, open_fault, brought, event_at, phases_of, unless_faulty, at_head, capture_after, capture_from, capture_within, capture_of}
use Rattle.capture_form.proofs.PhaseLemmas.{number-is, both-left, both-right}

-- ---- a line

-- a link from 1 on where the event comes on one, and else link 0
abbrev Agrees : ℕ → ControlEvent → Type 0
Agrees link e = comes_on_link e ≡ nat_lt 0 link

-- and one of these links
abbrev LinkAgrees : ℕ → Linked → Type 0
LinkAgrees links e = Agrees e.0 e.1 × (e.0 ≤ links)

both-within : (n links : ℕ) → (nat_le 1 n && nat_le n links) ≡ true → (1 ≤ n) × (n ≤ links)
both-within n links h =
    (leb-true 1 n (both-left (nat_le 1 n) (nat_le n links) h), leb-true n links (both-right (nat_le 1 n) (nat_le n links) h))

link-in : (links : ℕ) (n : Option ℕ) → IfOk (link_in links n) (λ k. (1 ≤ k) × (k ≤ links))
link-in links None = tt
link-in links (Some n) = by_test (λ k. (1 ≤ k) × (k ≤ links)) (nat_le 1 n && nat_le n links) (Ok n) (Err Number) (both-within n links) (λ e. tt)

message-agrees : (head : Head) (ws : List (List ℕ)) → IfOk (message_form head ws) (LinkAgrees head.links)
message-agrees head (link ∷ opc ∷ sls ∷ hex ∷ []) =
    bound (λ k. (1 ≤ k) × (k ≤ head.links)) (LinkAgrees head.links) (link_of head.links link) _ (link-in head.links (number_of link)) (λ k h.
    after_any (LinkAgrees head.links) (below POINT_CODES opc) _ (λ point.
    after_any (LinkAgrees head.links) (below LINK_SELECTIONS sls) _ (λ selection.
    after_any (LinkAgrees head.links) (octets_of hex) _ (λ octets. (sym (lt-ltb 0 k h.0), h.1)))))
message-agrees head [] = tt
message-agrees head (a ∷ []) = tt
message-agrees head (a ∷ b ∷ []) = tt
message-agrees head (a ∷ b ∷ c ∷ []) = tt
message-agrees head (a ∷ b ∷ c ∷ d ∷ e ∷ more) = tt

asked-agrees : (head : Head) (link ssn : List ℕ) (form : Option RequestForm) (more : List (List ℕ)) → IfOk (asked_form head link ssn form more) (LinkAgrees head.links)
asked-agrees head link ssn None more = tt
asked-agrees head link ssn (Some form) more =
    either (LinkAgrees head.links) (has_form form more) _ (Err Words)
    (bound (λ k. (1 ≤ k) × (k ≤ head.links)) (LinkAgrees head.links) (link_of head.links link) _ (link-in head.links (number_of link)) (λ k h.
    after_any (LinkAgrees head.links) (user_of head.users ssn) _ (λ user.
    after_any (LinkAgrees head.links) (request_of form more) _ (λ asked. (sym (lt-ltb 0 k h.0), h.1)))))
    tt

request-agrees : (head : Head) (ws : List (List ℕ)) → IfOk (request_form head ws) (LinkAgrees head.links)
request-agrees head (link ∷ ssn ∷ word ∷ more) = asked-agrees head link ssn (form_of word) more
request-agrees head [] = tt
request-agrees head (a ∷ []) = tt
request-agrees head (a ∷ b ∷ []) = tt

tick-agrees : (links : ℕ) (ws : List (List ℕ)) → IfOk (tick_form ws) (LinkAgrees links)
tick-agrees links [] = (refl, omega arith)
tick-agrees links (a ∷ more) = tt

change-agrees : (head : Head) (first : List ℕ) (more : List (List ℕ)) → IfOk (change_form head first more) (LinkAgrees head.links)
change-agrees head first more = after_any (LinkAgrees head.links) (change_of head first more) _ (λ change. (refl, omega arith))

event-agrees : (head : Head) (ws : List (List ℕ)) → IfOk (event_of head ws) (LinkAgrees head.links)
event-agrees head [] = tt
event-agrees head (first ∷ more) =
    either (LinkAgrees head.links) (same first (codes "m")) (message_form head more) _ (message-agrees head more)
    (either (LinkAgrees head.links) (same first (codes "u")) (request_form head more) _ (request-agrees head more)
    (either (LinkAgrees head.links) (same first (codes "t")) (tick_form more) (change_form head first more) (tick-agrees head.links more) (change-agrees head first more)))

-- an edit comes on no link, and the event of another line on its own, which is one of these
abbrev MeaningAgrees : ℕ → Meaning → Type 0
MeaningAgrees links (Event link event) = LinkAgrees links (link, event)
MeaningAgrees links meaning = Unit {0}

bound-agrees : (links : ℕ) (word : List ℕ) → IfOk (bound_form word) (MeaningAgrees links)
bound-agrees links word =
    either (MeaningAgrees links) (same word (codes "begin")) (Ok Begin) _ tt
    (either (MeaningAgrees links) (same word (codes "commit")) (Ok Commit) (Err Words) tt tt)

edit-agrees : (links own : ℕ) (ws : List (List ℕ)) → IfOk (edit_form own ws) (MeaningAgrees links)
edit-agrees links own [] = tt
edit-agrees links own (word ∷ []) = bound-agrees links word
edit-agrees links own (word ∷ second ∷ more) = after_any (MeaningAgrees links) (row_form own (word ∷ second ∷ more)) _ (λ change. tt)

meaning-agrees : (head : Head) (ws : List (List ℕ)) → IfOk (meaning_of head ws) (MeaningAgrees head.links)
meaning-agrees head [] = tt
meaning-agrees head (first ∷ more) =
    either (MeaningAgrees head.links) (same first (codes "e")) (edit_form head.point more) _ (edit-agrees head.links head.point more)
    (bound (LinkAgrees head.links) (MeaningAgrees head.links) (event_of head (first ∷ more)) _ (event-agrees head (first ∷ more)) (λ e h. h))

within-agrees : (links : ℕ) (r : Result Meaning LineKind) → IfOk r (MeaningAgrees links) → IfOk r (IsWithin links)
within-agrees links (Ok (Event link event)) h = h.1
within-agrees links (Ok (Edit change)) h = tt
within-agrees links (Ok Begin) h = tt
within-agrees links (Ok Commit) h = tt
within-agrees links (Err kind) h = tt

-- what a line means is about the links of the head
pub meaning-within : (head : Head) (ws : List (List ℕ)) → IfOk (meaning_of head ws) (IsWithin head.links)
meaning-within head ws = within-agrees head.links (meaning_of head ws) (meaning-agrees head ws)

-- ---- the events of all lines

abbrev StampAgrees : Stamp × ControlEvent → Type 0
StampAgrees e = Agrees e.0.link e.1

abbrev IfThere : Option (Stamp × ControlEvent) → Type 0
IfThere None = Unit {0}
IfThere (Some e) = StampAgrees e

of-meaning : (links number phase : ℕ) (before : Option OpenGroup) (meaning : Meaning) → MeaningAgrees links meaning
    → IfThere (option_map (λ e. (record { phase = phase; link = e.0; line = number }, e.1)) (event_in before meaning))
of-meaning links number phase before (Event link event) h = h.0
of-meaning links number phase None (Edit change) h = refl
of-meaning links number phase (Some group) (Edit change) h = tt
of-meaning links number phase before Begin h = tt
of-meaning links number phase None Commit h = tt
of-meaning links number phase (Some group) Commit h = refl

of-line : (links number phase : ℕ) (before : Option OpenGroup) (r : Result Meaning LineKind) → IfOk r (MeaningAgrees links)
    → IfThere (option_map (λ e. (record { phase = phase; link = e.0; line = number }, e.1)) (brought before r))
of-line links number phase before (Ok meaning) h = of-meaning links number phase before meaning h
of-line links number phase before (Err kind) h = tt

unless-barrier : (t : Bool) (x : Option (Stamp × ControlEvent)) → IfThere x → IfThere (cond t None x)
unless-barrier true x h = tt
unless-barrier false x h = h

event-there : (head : Head) (at : List Line × Line) → IfThere (event_at head at)
event-there head (above, line) =
    unless-barrier (is_barrier line) _ (of-line head.links line.0 (barriers above + 1) (open_group head above) (meaning_of head line.1) (meaning-agrees head line.1))

there-added : (x : Option (Stamp × ControlEvent)) (es : Stamped) → IfThere x → AllByRecursion StampAgrees es → AllByRecursion StampAgrees (cons_option x es)
there-added None es h g = g
there-added (Some e) es h g = (h, g)

events-agree : (head : Head) (stated : List (List Line × Line)) → AllByRecursion StampAgrees (filter_map (event_at head) stated)
events-agree head [] = tt
events-agree head (at ∷ more) = there-added (event_at head at) (filter_map (event_at head) more) (event-there head at) (events-agree head more)

-- ---- the lists of a phase

found : (phase link : ℕ) (e : Stamp × ControlEvent) (rest : Stamped) (t : Bool) → is_at phase link e ≡ t → StampAgrees e
    → AllByRecursion (λ f. Agrees link f.1) rest → AllByRecursion (λ f. Agrees link f.1) (cond t (e ∷ rest) rest)
found phase link e rest true at agrees h =
    (subst (λ k. Agrees k e.1) (number-is e.0.link link (both-right (e.0.phase == phase) (e.0.link == link) at)) agrees, h)
found phase link e rest false at agrees h = h

list-agrees : (phase link : ℕ) (events : Stamped) → AllByRecursion StampAgrees events → AllByRecursion (λ e. Agrees link e.1) (filter (is_at phase link) events)
list-agrees phase link [] h = tt
list-agrees phase link (e ∷ es) h = found phase link e (filter (is_at phase link) es) (is_at phase link e) refl h.0 (list-agrees phase link es h.1)

on-link : (link : ℕ) (events more : Stamped) → 1 ≤ link → AllByRecursion (λ e. Agrees link e.1) events
    → AllByRecursion (λ e. comes_on_link e.1 ≡ true) more → AllByRecursion (λ e. comes_on_link e.1 ≡ true) (events ++ more)
on-link link [] more h f g = g
on-link link (e ∷ es) more h f g = (f.0 ∙ lt-ltb 0 link h, on-link link es more h f.1 g)

links-agree : (phase link n : ℕ) (events : Stamped) → 1 ≤ link → AllByRecursion StampAgrees events
    → AllByRecursion (λ e. comes_on_link e.1 ≡ true) (phase_events (map (λ k. filter (is_at phase k) events) (range_with_len link n)))
links-agree phase link zero events least h = tt
links-agree phase link (suc n) events least h =
    on-link link (filter (is_at phase link) events) _ least (list-agrees phase link events h) (links-agree phase (link + 1) n events (omega (arith, least)) h)

lists-linked : (phase n : ℕ) (events : Stamped) → AllByRecursion StampAgrees events → AreOnLinks (map (λ k. filter (is_at phase k) events) (range_with_len 0 n))
lists-linked phase zero events h = tt
lists-linked phase (suc n) events h = (list-agrees phase 0 events h, links-agree phase 1 n events (omega arith) h)

phases-linked : (links phase n : ℕ) (events : Stamped) → AllByRecursion StampAgrees events → AreLinked (map (phase_lists links events) (range_with_len phase n))
phases-linked links phase zero events h = tt
phases-linked links phase (suc n) events h = (lists-linked phase (links + 1) events h, phases-linked links (phase + 1) n events h)

linked-choice : (links n : ℕ) (events : Stamped) (t : Bool) → AllByRecursion StampAgrees events
    → AreLinked (cond t [] (map (phase_lists links events) (range_with_len 1 n)))
linked-choice links n events true h = tt
linked-choice links n events false h = phases-linked links 1 n events h

-- ---- a capture

abbrev IsLinked : Capture → Type 0
IsLinked capture = AreLinked capture.phases

linked-unless : (faults : List CaptureFault) (c : Capture) → IsLinked c → IfOk (unless_faulty faults c) IsLinked
linked-unless [] c h = h
linked-unless (f ∷ fs) c h = tt

linked-after : (head : Head) (number : ℕ) (ls : List (List ℕ)) → IfOk (capture_after head number ls) IsLinked
unfolding capture_after
linked-after head number ls =
    let stated = lines_from number ls in
    let events = filter_map (event_at head) (with_above stated) in
    linked-unless (filter_map (fault_at head) (with_above stated) ++ open_fault (open_group head stated)) (record { head = head; phases = phases_of head.links stated events })
    (linked-choice head.links (barriers stated + 1) events (event_lines stated == 0) (events-agree head (with_above stated)))

pub linked-within : (bytes : List ℕ) → IfOk (capture_within bytes) IsLinked
linked-within bytes = after_any IsLinked (at_head (begun (halves (lines bytes)))) capture_from (λ parts. linked-after parts.0 (parts.1 + 2) parts.2)

pub read-linked : (r : Result Capture CaptureFault) (bytes : List ℕ) → Reads r (capture_within bytes) → IfOk r (λ c. AreLinked c.phases)
read-linked (Ok capture) bytes e = subst (λ r. IfOk r IsLinked) e (linked-within bytes)
read-linked (Err fault) bytes e = tt

-- the capture that an input is
pub linked-capture : (bytes : List ℕ) (capture : Capture) → capture_of bytes ≡ Ok capture → AreLinked capture.phases
unfolding capture_of
linked-capture bytes capture e =
    subst (λ r. IfOk r IsLinked) e (either IsLinked (nat_lt MOST_BYTES (length bytes)) (Err (refused.TooLong limit.Bytes)) (capture_within bytes) tt (linked-within bytes))
