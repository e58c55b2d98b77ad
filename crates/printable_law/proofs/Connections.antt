-- What a connection lane gives is in its ranges.
use Rattle.std.proofs.Common.{ℕ, zero, suc, ◌+◌, ◌<◌, ◌≤◌, ◌==◌, ◌||◌, not, Bool, true, false, List, [], ◌∷◌, length, map, take, find, Option, Some, None, Ok, Err, sym, subst, arith}
use Rattle.std.specs.Prelude.{flat_map, IfSome, IfOk, unwrap_or}
use Rattle.std.specs.declared.result.Result.{Result}
use Rattle.std.specs.List.{AllByRecursion, range_with_len}
use Rattle.relay_base.specs.declared.causes.TheConstants.{ERROR_UNASSIGNED_REFERENCE, REFUSAL_NOT_AVAILABLE, REFUSAL_UNQUALIFIED}
use Rattle.relay_base.specs.declared.limits.TheConstants.{MOST_LANES, SLOTS}
use Rattle.relay_base.specs.declared.words.Event.{Event}
use Rattle.relay_base.specs.declared.words.Event.TheVariants.{Message as Arrived, Asked as Requested, Tick}
use Rattle.relay_base.specs.declared.words.ReadFault.{ReadFault}
use Rattle.relay_base.specs.declared.words.Request.{Request}
use Rattle.relay_base.specs.declared.words.Request.TheVariants as request
use Rattle.sccp_address.specs.Form.{Form}
use Rattle.sccp_address.specs.Parsing.{address_of}
use Rattle.sccp_address.specs.declared.address.AddressFault.{AddressFault}
use Rattle.plant_core.specs.Asking.{Question}
use Rattle.plant_core.specs.Causes.{refusal_code}
use Rattle.plant_core.specs.declared.answer.Answer.{Answer}
use Rattle.plant_core.specs.declared.answer.Answer.TheVariants.{Local, Forward, Refused}
use Rattle.plant_core.specs.declared.answer.Origin.{Origin}
use Rattle.plant_core.specs.declared.answer.Origin.TheVariants.{Network, User as FromUser}
use Rattle.plant_core.specs.declared.answer.Rewrite.{Rewrite}
use Rattle.plant_core.specs.declared.answer.RouteCause.{RouteCause}
use Rattle.plant_core.specs.declared.answer.RouteCause.TheVariants.{NoNature, NoAddress, PointBarred, SubsystemBarred, Unequipped, Hop}
use Rattle.plant_core.specs.declared.entry.Entry.{Entry}
use Rattle.plant_core.specs.declared.terms.Terms.{Terms}
use Rattle.plant_core.specs.declared.terms.Ticks.{Ticks}
use Rattle.q713_codec.specs.Names.{Message}
use Rattle.q713_codec.specs.declared.message.Message.TheVariants.{Cr, Cref, Rlc, Err as Error}
use Rattle.q713_codec.specs.Messages.{protocol_class}
use Rattle.q713_codec.specs.Reading.{reading_of}
use Rattle.q713_codec.specs.Writing.{spelling_of}
use Rattle.section_model.specs.declared.cell.Occasion.{Occasion}
use Rattle.section_model.specs.declared.cell.Occasion.TheVariants as on
use Rattle.section_model.specs.Ends.{Connection}
use Rattle.section_model.specs.Parameters.{Parameters, Arrival, arrival_in}
use Rattle.section_model.specs.Opening.{Wanted, Wish, by_cr, by_user, no_wish, wish_of_message, wish_of_reading, may_be_wanted, wanted_by_user, wish_of_request, wish_of, asked_for, question_of, slots_needed, onward, fits, cref_to, Opened, not_opened, opened_through, opened_by_cr, opened_by_user, opened}
use Rattle.section_model.specs.Step.{connection_step, hears, is_in_range}
use Rattle.section_model.specs.Lane.{Lane, next, heard, follow, Opening, connection_of, part_by, part_of, free_slots, is_held, times_taken, reference_at, enough, lowest_free, stray_output, stray_arrival, stray_answer, opening_of, outputs_of_hearing, hearing, other_outputs, outputs_by, legal_outputs, opening_list, with_event, openings_after, answer_of, IsLegalFrom}
use Rattle.section_model.specs.Journals.{lane_of}
use Rattle.book_law.proofs.Keeping.{OfBoth}
use Rattle.printable_law.specs.OctetLaw.{IsOctet, AreOctets, HasOctets, IsForm, IsRewrite}
use Rattle.printable_law.specs.Ranges.{IsPoint, IsReference, IsSelection, IsTag, RequestInRange, EventInRange, EntryInRange, QuestionInRange, AnswerInRange, OutputInRange, OutputsInRange}
use Rattle.printable_law.proofs.Addresses.{address-read, addresses_have_octets}
use Rattle.printable_law.proofs.Lists.{either, all-append, all-map, all-take, all-filter}
use Rattle.printable_law.proofs.Management.{management_keeps_ranges}
use Rattle.printable_law.proofs.Reading.{ReadsAs, octets-read}
use Rattle.printable_law.proofs.Spelling.{spelling-octets}
use Rattle.printable_law.specs.SectionRanges.{ConnAsksInRange, ConnKeepsRanges}
use Rattle.printable_law.proofs.Sections.{ranges, credit-small, credit_of-small, given-octets}
use Rattle.printable_law.proofs.Steps.{step-done}

-- What is wanted of a connection.

abbrev pub WantedInRange : Wanted → Type 0
WantedInRange w =
    IsPoint w.point × IsSelection w.sls × IsOctet w.class × IsOctet w.credit × AreOctets w.called × IfSome w.calling AreOctets × IfSome w.body AreOctets
    × IfSome w.hop IsOctet × IfSome w.importance IsOctet

abbrev WishInRange : Wish → Type 0
WishInRange (by_cr w) = WantedInRange w
WishInRange (by_user ssn tag w) = IsOctet ssn × IsTag tag × WantedInRange w
WishInRange no_wish = Unit {0}

abbrev TermsInRange : Terms → Type 0
TermsInRange terms = IsPoint terms.own × IsOctet terms.credit

message-wishes : (terms : Terms) (point sls : ℕ) (m : Message) → TermsInRange terms → IsPoint point → IsSelection sls → HasOctets m
    → WishInRange (wish_of_message terms point sls m)
message-wishes terms point sls (Cr slr class called credit calling body hop importance) told p s h =
    (p, s, omega arith, credit-small (protocol_class class) (unwrap_or credit 1) terms.credit told.1, h.1, h.3, h.4, h.5, h.6)
message-wishes terms point sls _ told p s h = tt

reading-wishes : (terms : Terms) (point sls : ℕ) (r : Result Message ReadFault) → TermsInRange terms → IsPoint point → IsSelection sls → ReadsAs HasOctets r
    → WishInRange (wish_of_reading terms point sls r)
reading-wishes terms point sls (Ok m) told p s reads = message-wishes terms point sls m told p s reads
reading-wishes terms point sls (Err fault) told p s reads = tt

request-wishes : (terms : Terms) (ssn : ℕ) (r : Request) → TermsInRange terms → IsOctet ssn → RequestInRange r → WishInRange (wish_of_request terms ssn r)
request-wishes terms ssn (request.Conn tag class credit called body) told by asked =
    either WishInRange (may_be_wanted class credit called body) (by_user ssn tag (wanted_by_user terms ssn tag class credit called body)) no_wish
    (by, asked.0, (told.0, omega arith, asked.1, credit-small class credit terms.credit told.1, asked.3, (omega arith, (by, tt)), given-octets body asked.4, omega arith, tt))
    tt
request-wishes terms ssn _ told by asked = tt

event-wishes : (terms : Terms) (event : Event) → TermsInRange terms → EventInRange event → WishInRange (wish_of terms event)
unfolding wish_of
event-wishes terms (Arrived point sls bytes) told taken = reading-wishes terms point sls (reading_of bytes) told taken.0 taken.1 (octets-read bytes taken.2)
event-wishes terms (Requested ssn r) told taken = request-wishes terms ssn r told taken.0 taken.1
event-wishes terms Tick told taken = tt

-- The opening.

abbrev AreReferences : List ℕ → Type 0
AreReferences refs = AllByRecursion IsReference refs

abbrev OpenedInRange : Opened → Type 0
OpenedInRange o = IfSome o.connection (OfBoth ranges) × OutputsInRange o.outs

cref-sent : (w : Wanted) (cause : ℕ) → WantedInRange w → IsOctet cause → OutputInRange (cref_to w cause)
cref-sent w cause good small = (good.0, good.1, spelling-octets (Cref w.slr cause None None None) (small, tt, tt, tt))

refused-done : (w : Wanted) (cause : ℕ) → WantedInRange w → IsOctet cause → OpenedInRange (not_opened (cref_to w cause ∷ []))
refused-done w cause good small = (tt, (cref-sent w cause good small, tt))

onward-has : (w : Wanted) (rewrite : Rewrite) (hop : Option ℕ) (mine : ℕ) → WantedInRange w → IsRewrite rewrite → IfSome hop IsOctet
    → HasOctets (onward w rewrite hop mine)
onward-has w rewrite hop mine good r h =
    (good.2, addresses_have_octets.onward rewrite w.called r good.4, credit_of-small w.class w.credit good.3, good.5, good.6, h, good.8)

onward-spelled : (w : Wanted) (rewrite : Rewrite) (hop : Option ℕ) (mine : ℕ) → WantedInRange w → IsRewrite rewrite → IfSome hop IsOctet
    → AreOctets (spelling_of (onward w rewrite hop mine))
onward-spelled w rewrite hop mine good r h = spelling-octets (onward w rewrite hop mine) (onward-has w rewrite hop mine good r h)

through-done : (terms : Terms) (w : Wanted) (point : ℕ) (rewrite : Rewrite) (hop : Option ℕ) (refs : List ℕ) → WantedInRange w → IsPoint point → IsRewrite rewrite
    → IfSome hop IsOctet → AreReferences refs → OpenedInRange (opened_through terms w point rewrite hop refs)
through-done terms w point rewrite hop [] good p r h are = refused-done w REFUSAL_NOT_AVAILABLE good (omega arith)
through-done terms w point rewrite hop (mine ∷ []) good p r h are = refused-done w REFUSAL_NOT_AVAILABLE good (omega arith)
through-done terms w point rewrite hop (mine ∷ next ∷ refs) good p r h are = (
  (
    ((good.0, are.0, good.1, good.2, good.3), (omega arith, tt, tt), (tt, tt)),
    ((p, are.1.0, good.1, good.2, good.3), (omega arith, tt, tt), (tt, tt)),
  ),
  ((p, good.1, onward-spelled w rewrite hop next good r h), tt),
)

cause-small : (cause : RouteCause) → IsOctet (refusal_code cause)
cause-small NoNature = omega arith
cause-small NoAddress = omega arith
cause-small PointBarred = omega arith
cause-small SubsystemBarred = omega arith
cause-small Unequipped = omega arith
cause-small Hop = omega arith

by_cr-done : (terms : Terms) (w : Wanted) (answer : Answer) (refs : List ℕ) → TermsInRange terms → WantedInRange w → AnswerInRange answer → AreReferences refs
    → OpenedInRange (opened_by_cr terms w answer refs)
unfolding opened_by_cr
by_cr-done terms w (Refused cause local) refs told good a are =
    (tt, (cref-sent w (refusal_code cause) good (cause-small cause), management_keeps_ranges.told terms.own w.point w.sls local told.0 good.0 good.1 a))
by_cr-done terms w (Local ssn) [] told good a are = refused-done w REFUSAL_NOT_AVAILABLE good (omega arith)
by_cr-done terms w (Local ssn) (mine ∷ refs) told good a are = (
  (((good.0, are.0, good.1, good.2, good.3), (omega arith, tt, tt), (tt, tt)), (a, are.0, good.3, tt)),
  ((a, (are.0, good.2, good.3, good.4, good.5, good.6)), tt),
)
by_cr-done terms w (Forward point rewrite hop) refs told good a are =
    either OpenedInRange (fits w rewrite hop) _ _ (through-done terms w point rewrite hop refs good a.0 a.1 a.2 are)
    (refused-done w REFUSAL_UNQUALIFIED good (omega arith))

by_user-done : (terms : Terms) (ssn tag : ℕ) (w : Wanted) (answer : Answer) (refs : List ℕ) → IsOctet ssn → IsTag tag → WantedInRange w → AnswerInRange answer
    → AreReferences refs → OpenedInRange (opened_by_user terms ssn tag w answer refs)
unfolding opened_by_user
by_user-done terms ssn tag w (Refused cause local) refs by t good a are = (tt, ((by, (t, cause-small cause)), tt))
by_user-done terms ssn tag w (Local other) refs by t good a are = (tt, ((by, (t, omega arith)), tt))
by_user-done terms ssn tag w (Forward point rewrite hop) [] by t good a are = (tt, ((by, (t, omega arith)), tt))
by_user-done terms ssn tag w (Forward point rewrite hop) (mine ∷ refs) by t good a are = (
  ((by, are.0, good.3, tt), ((a.0, are.0, good.1, good.2, good.3), (omega arith, tt, tt), (tt, tt))),
  ((by, (t, are.0)), ((a.0, good.1, onward-spelled w rewrite w.hop mine good a.1 good.7), tt)),
)

opened-done : (terms : Terms) (wish : Wish) (answer : Option Answer) (refs : List ℕ) → TermsInRange terms → WishInRange wish → IfSome answer AnswerInRange
    → AreReferences refs → OpenedInRange (opened terms wish answer refs)
unfolding opened
opened-done terms (by_cr w) (Some answer) refs told good a are = by_cr-done terms w answer refs told good a are
opened-done terms (by_cr w) None refs told good a are = refused-done w REFUSAL_UNQUALIFIED good (omega arith)
opened-done terms (by_user ssn tag w) (Some answer) refs told good a are = by_user-done terms ssn tag w answer refs good.0 good.1 good.2 a are
opened-done terms (by_user ssn tag w) None refs told good a are = (tt, tt)
opened-done terms no_wish answer refs told good a are = (tt, tt)

-- The references.

abbrev IsSlot : ℕ → Type 0
IsSlot slot = slot ≤ SLOTS

range-slots : (first count : ℕ) → first + count ≤ SLOTS + 1 → AllByRecursion IsSlot (range_with_len first count)
range-slots first zero few = tt
range-slots first (suc count) few = (omega (arith, few), range-slots (first + 1) count (omega (arith, few)))

slot-reference : (lane : Lane) (times : ℕ → ℕ) → lane.number < MOST_LANES → (slot : ℕ) → IsSlot slot → IsReference (reference_at lane times slot)
slot-reference lane times small slot is = omega (arith, small, is)

free-references : (lane : Lane) (times : ℕ → ℕ) (count : ℕ) (free : List ℕ) → lane.number < MOST_LANES → AllByRecursion IsSlot free
    → AreReferences (enough lane times count free)
free-references lane times count free small are =
    either AreReferences (length free == count) (map (reference_at lane times) free) []
    (all-map IsSlot IsReference (reference_at lane times) (slot-reference lane times small) free are) tt

lowest-references : (lane : Lane) (openings : List Opening) (count : ℕ) → lane.number < MOST_LANES → AreReferences (lowest_free lane openings count)
unfolding lowest_free
lowest-references lane openings count small =
    free-references lane (times_taken openings) count (take count (free_slots lane.terms.ticks openings)) small
    (all-take IsSlot count (free_slots lane.terms.ticks openings)
    (all-filter IsSlot (λ slot. not (is_held lane.terms.ticks openings slot)) (range_with_len 1 SLOTS) (range-slots 1 SLOTS (omega arith))))

-- A connection that was opened, after what it heard.

abbrev EventsInRange : List Event → Type 0
EventsInRange events = AllByRecursion EventInRange events

heard-done : (ticks : Ticks) (c : Connection) (events : List Event) → EventsInRange events → OfBoth ranges c → OfBoth ranges (follow ticks c (heard ticks c events))
unfolding heard follow
heard-done ticks c [] taken good = good
heard-done ticks c (event ∷ events) taken good =
    by_test (heard-done ticks (next ticks c event) events taken.1 (step-done ticks c event taken.0 good).0) (heard-done ticks c events taken.1 good) (hears c event)
  where
    by_test : OfBoth ranges (follow ticks (next ticks c event) (heard ticks (next ticks c event) events)) → OfBoth ranges (follow ticks c (heard ticks c events)) → (is : Bool)
        → OfBoth ranges (follow ticks c (elim is [ true ↦ event ∷ heard ticks (next ticks c event) events | false ↦ heard ticks c events ]))
    by_test after before true = after
    by_test after before false = before

abbrev OpeningInRange : Opening → Type 0
OpeningInRange o = OfBoth ranges o.first × EventsInRange o.since

part-done : (ticks : Ticks) (event : Event) (c : Connection) → EventInRange event → OfBoth ranges c → OutputsInRange (part_by ticks event c)
part-done ticks event c taken good = by_test (hears c event)
  where
    by_test : (is : Bool) → OutputsInRange (elim is [ true ↦ (connection_step ticks c event).1 | false ↦ [] ])
    by_test true = (step-done ticks c event taken good).1
    by_test false = tt

opening-part : (ticks : Ticks) (event : Event) (o : Opening) → EventInRange event → OpeningInRange o → OutputsInRange (part_of ticks event o)
opening-part ticks event o taken good = part-done ticks event (connection_of ticks o) taken (heard-done ticks o.first o.since good.1 good.0)

openings-part : (ticks : Ticks) (event : Event) (openings : List Opening) → EventInRange event → AllByRecursion OpeningInRange openings
    → OutputsInRange (flat_map (part_of ticks event) openings)
openings-part ticks event [] taken good = tt
openings-part ticks event (o ∷ openings) taken good =
    all-append OutputInRange (part_of ticks event o) (flat_map (part_of ticks event) openings)
    (opening-part ticks event o taken good.0) (openings-part ticks event openings taken good.1)

-- What nobody hears.

stray-given : (point sls : ℕ) (o : Occasion) (m : Parameters) → IsPoint point → IsSelection sls → OutputInRange (stray_output point sls o m)
stray-given point sls on.Cc m p s = (p, s, spelling-octets (Error m.slr ERROR_UNASSIGNED_REFERENCE) (omega arith))
stray-given point sls on.Rsr m p s = (p, s, spelling-octets (Error m.slr ERROR_UNASSIGNED_REFERENCE) (omega arith))
stray-given point sls on.It m p s = (p, s, spelling-octets (Error m.slr ERROR_UNASSIGNED_REFERENCE) (omega arith))
stray-given point sls on.Rlsd m p s = (p, s, spelling-octets (Rlc m.slr m.dlr) tt)
stray-given point sls _ m p s = tt

arrival-given : (point sls : ℕ) (a : Option Arrival) → IsPoint point → IsSelection sls → OutputsInRange (stray_arrival point sls a)
arrival-given point sls None p s = tt
arrival-given point sls (Some a) p s = (stray-given point sls a.occasion a.parameters p s, tt)

answer-given : (event : Event) → EventInRange event → OutputsInRange (stray_answer event)
unfolding stray_answer
answer-given (Arrived point sls bytes) taken = arrival-given point sls (arrival_in bytes) taken.0 taken.1
answer-given (Requested ssn r) taken = either OutputsInRange (is_in_range r) _ [] ((taken.0, tt), tt) tt
answer-given Tick taken = tt

-- The outputs of an entry.

found-opening : {A : Type 0} (P : A → Type 0) (test : A → Bool) (xs : List A) → AllByRecursion P xs → IfSome (find test xs) P
found-opening P test [] all = tt
found-opening P test (x ∷ xs) all = either (λ found. IfSome found P) (test x) (Some x) (find test xs) all.0 (found-opening P test xs all.1)

hearing-given : (ticks : Ticks) (event : Event) (o : Option Opening) → EventInRange event → IfSome o OpeningInRange → OutputsInRange (outputs_of_hearing ticks event o)
hearing-given ticks event (Some o) taken good = opening-part ticks event o taken good
hearing-given ticks event None taken good = answer-given event taken

found-given : (ticks : Ticks) (openings : List Opening) (event : Event) → EventInRange event → AllByRecursion OpeningInRange openings
    → OutputsInRange (outputs_of_hearing ticks event (hearing ticks openings event))
found-given ticks openings event taken good =
    hearing-given ticks event (hearing ticks openings event) taken (found-opening OpeningInRange (λ o. hears (connection_of ticks o) event) openings good)

other-given : (lane : Lane) (openings : List Opening) (event : Event) → EventInRange event → AllByRecursion OpeningInRange openings → OutputsInRange (other_outputs lane openings event)
other-given lane openings (Arrived point sls bytes) taken good = found-given lane.terms.ticks openings (Arrived point sls bytes) taken good
other-given lane openings (Requested ssn r) taken good = found-given lane.terms.ticks openings (Requested ssn r) taken good
other-given lane openings Tick taken good = openings-part lane.terms.ticks Tick openings taken good

-- what the lane was told at its start
abbrev LaneInRange : Lane → Type 0
LaneInRange lane = TermsInRange lane.terms × (lane.number < MOST_LANES)

opening-done : (lane : Lane) (openings : List Opening) (wish : Wish) (answer : Option Answer) → LaneInRange lane → WishInRange wish → IfSome answer AnswerInRange
    → OpenedInRange (opening_of lane openings wish answer)
opening-done lane openings wish answer told good a =
    opened-done lane.terms wish answer (lowest_free lane openings (slots_needed wish answer)) told.0 good a
    (lowest-references lane openings (slots_needed wish answer) told.1)

outputs-given : (lane : Lane) (openings : List Opening) (event : Event) (wish : Wish) (answer : Option Answer) → LaneInRange lane → EventInRange event
    → AllByRecursion OpeningInRange openings → WishInRange wish → IfSome answer AnswerInRange
    → OutputsInRange (outputs_by lane openings event wish answer)
outputs-given lane openings event (by_cr w) answer told taken good wished a = (opening-done lane openings (by_cr w) answer told wished a).1
outputs-given lane openings event (by_user ssn tag w) answer told taken good wished a = (opening-done lane openings (by_user ssn tag w) answer told wished a).1
outputs-given lane openings event no_wish answer told taken good wished a = other-given lane openings event taken good

legal-given : (lane : Lane) (openings : List Opening) (event : Event) (answer : Option Answer) → LaneInRange lane → EventInRange event
    → AllByRecursion OpeningInRange openings → IfSome answer AnswerInRange
    → OutputsInRange (legal_outputs lane openings event answer)
unfolding legal_outputs
legal-given lane openings event answer told taken good a =
    outputs-given lane openings event (wish_of lane.terms event) answer told taken good (event-wishes lane.terms event told.0 taken) a

-- The journal.

since-done : (event : Event) (openings : List Opening) → EventInRange event → AllByRecursion OpeningInRange openings
    → AllByRecursion OpeningInRange (map (with_event event) openings)
since-done event openings taken good =
    all-map OpeningInRange OpeningInRange (with_event event) (λ o is. (is.0, all-append EventInRange o.since (event ∷ []) is.1 (taken, tt))) openings good

list-done : (c : Option Connection) → IfSome c (OfBoth ranges) → AllByRecursion OpeningInRange (opening_list c)
list-done None good = tt
list-done (Some c) good = ((good, tt), tt)

after-done : (lane : Lane) (openings : List Opening) (event : Event) (answer : Option Answer) → LaneInRange lane → EventInRange event
    → AllByRecursion OpeningInRange openings → IfSome answer AnswerInRange
    → AllByRecursion OpeningInRange (openings_after lane openings event answer)
unfolding openings_after
after-done lane openings event answer told taken good a =
    let o = opening_of lane openings (wish_of lane.terms event) answer in
    all-append OpeningInRange (map (with_event event) openings) (opening_list o.connection) (since-done event openings taken good)
    (list-done o.connection (opening-done lane openings (wish_of lane.terms event) answer told (event-wishes lane.terms event told.0 taken) a).0)

journal-given : (lane : Lane) (openings : List Opening) (journal : List Entry) → LaneInRange lane → AllByRecursion OpeningInRange openings
    → IsLegalFrom lane openings journal → AllByRecursion EntryInRange journal → AllByRecursion (λ e. OutputsInRange e.outs) journal
journal-given lane openings [] told good legal entries = tt
journal-given lane openings (entry ∷ journal) told good legal entries = (
  subst OutputsInRange (sym legal.0.outputs) (legal-given lane openings entry.event (answer_of entry) told entries.0.0 good entries.0.1),
  journal-given lane (openings_after lane openings entry.event (answer_of entry)) journal told
      (after-done lane openings entry.event (answer_of entry) told entries.0.0 good entries.0.1) legal.1 entries.1,
)

pub conn_keeps_ranges : ConnKeepsRanges
conn_keeps_ranges head number journal told small legal entries = journal-given (lane_of head number) [] journal ((told.own, told.credit), small) tt legal entries

-- The questions.

asked-small : (hop : Option ℕ) (origin : Origin) (r : Result Form AddressFault) → IfSome hop IsOctet → IfOk r IsForm → IfSome (asked_for hop origin r) QuestionInRange
asked-small hop origin (Ok a) h is = (is, h)
asked-small hop origin (Err fault) h is = tt

wish-asks : (wish : Wish) → WishInRange wish → IfSome (question_of wish) QuestionInRange
unfolding question_of
wish-asks (by_cr w) good =
    either (λ (q : Option Question). IfSome q QuestionInRange) (w.class == 2 || w.class == 3) (asked_for w.hop Network (address_of w.called)) None
    (asked-small w.hop Network (address_of w.called) good.7 (address-read w.called good.4)) tt
wish-asks (by_user ssn tag w) good = asked-small None FromUser (address_of w.called) tt (address-read w.called good.2.4)
wish-asks no_wish good = tt

pub conn_asks_in_range : ConnAsksInRange
conn_asks_in_range head event told taken = wish-asks (wish_of head.terms event) (event-wishes head.terms event (told.own, told.credit) taken)
