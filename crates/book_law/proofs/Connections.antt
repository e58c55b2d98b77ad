-- What a connection lane sends is short.
use Rattle.std.proofs.Common.{◌≡◌, ◌≤◌, ℕ, ◌==◌, ◌||◌, ◌&&◌, nat_le, Bool, true, false, List, [], ◌∷◌, length, map, find, if◌then◌else◌, Option, Some, None, Ok, Err, refl, sym, subst, arith}
use Rattle.std.specs.Prelude.{flat_map, is_ok, IfSome}
use Rattle.std.specs.declared.result.Result.{Result}
use Rattle.std.specs.List.{AllByRecursion}
use Rattle.std.proofs.lemmas.Bool.{and_parts, leb-true}
use Rattle.relay_base.specs.declared.causes.TheConstants.{ERROR_UNASSIGNED_REFERENCE, REFUSAL_NOT_AVAILABLE, REFUSAL_UNQUALIFIED}
use Rattle.relay_base.specs.declared.limits.TheConstants.{GREATEST_CREDIT, LONGEST_DATA, LONGEST_GIVEN_ADDRESS}
use Rattle.relay_base.specs.declared.words.Event.{Event}
use Rattle.relay_base.specs.declared.words.Event.TheVariants.{Message as Arrived, Asked as Requested, Tick}
use Rattle.relay_base.specs.declared.words.ReadFault.{ReadFault}
use Rattle.relay_base.specs.declared.words.Request.{Request}
use Rattle.relay_base.specs.declared.words.Request.TheVariants as request
use Rattle.sccp_address.specs.Parsing.{address_of}
use Rattle.plant_core.specs.declared.answer.Answer.{Answer}
use Rattle.plant_core.specs.declared.answer.Answer.TheVariants.{Local, Forward, Refused}
use Rattle.plant_core.specs.declared.answer.Rewrite.{Rewrite}
use Rattle.plant_core.specs.declared.entry.Entry.{Entry}
use Rattle.plant_core.specs.declared.terms.Terms.{Terms}
use Rattle.plant_core.specs.declared.terms.Ticks.{Ticks}
use Rattle.plant_core.specs.Causes.{refusal_code}
use Rattle.q713_codec.specs.Names.{Message}
use Rattle.q713_codec.specs.declared.message.Message.TheVariants.{Cr, Cref, Rlc, Err as Error}
use Rattle.q713_codec.specs.Reading.{reading_of}
use Rattle.q713_codec.specs.Writing.{spelling_of}
use Rattle.section_model.specs.declared.cell.Occasion.{Occasion}
use Rattle.section_model.specs.declared.cell.Occasion.TheVariants as on
use Rattle.section_model.specs.Ends.{Connection}
use Rattle.section_model.specs.Lengths.{HasLengths}
use Rattle.section_model.specs.Parameters.{Parameters, Arrival, arrival_in}
use Rattle.section_model.specs.Opening.{Wanted, Wish, by_cr, by_user, no_wish, wish_of_message, wish_of_reading, may_be_wanted, wanted_by_user, wish_of_request, wish_of, slots_needed, onward, fits, cref_to, Opened, not_opened, opened_through, opened_by_cr, opened_by_user, opened}
use Rattle.section_model.specs.Step.{connection_step, hears, is_in_range}
use Rattle.section_model.specs.Lane.{Lane, next, heard, follow, Opening, connection_of, part_by, part_of, stray_output, stray_arrival, stray_answer, opening_of, outputs_of_hearing, hearing, other_outputs, outputs_by, legal_outputs, opening_list, with_event, openings_after, answer_of, IsLegalFrom, lowest_free}
use Rattle.section_model.specs.Journals.{lane_of}
use Rattle.section_model.proofs.ReadWithin.{read_within}
use Rattle.book_law.specs.LengthLaw.{FitsOne, IsCarried, AreCarried, ConnIsCarried}
use Rattle.book_law.proofs.Outputs.{either, all-append}
use Rattle.book_law.proofs.Spelling.{IsShortOption, spelled}
use Rattle.book_law.proofs.Keeping.{OfBoth}
use Rattle.book_law.proofs.Sections.{lengths, given-short}
use Rattle.book_law.proofs.Steps.{address-short, data-short, step-done}
use Rattle.book_law.proofs.Units.{onward-short, status-carried}

-- What is wanted of a connection.

pub record IsShortWanted (w : Wanted) : Type 0 where
  pub called : length w.called ≤ 255
  pub calling : IsShortOption w.calling
  pub body : IsShortOption w.body

abbrev WishShort : Wish → Type 0
WishShort (by_cr w) = IsShortWanted w
WishShort (by_user ssn tag w) = IsShortWanted w
WishShort no_wish = Unit {0}

message-wishes : (terms : Terms) (point sls : ℕ) (m : Message) → HasLengths m → WishShort (wish_of_message terms point sls m)
message-wishes terms point sls (Cr slr class called credit calling body hop importance) h =
    record { called = h.0; calling = address-short calling h.1; body = data-short body h.2 }
message-wishes terms point sls _ h = tt

reading-wishes : (terms : Terms) (point sls : ℕ) (bytes : List ℕ) (r : Result Message ReadFault) → reading_of bytes ≡ r
    → WishShort (wish_of_reading terms point sls r)
reading-wishes terms point sls bytes (Ok m) e = message-wishes terms point sls m (read_within bytes m e)
reading-wishes terms point sls bytes (Err fault) e = tt

user-wishes : (terms : Terms) (ssn tag class credit : ℕ) (called body : List ℕ) → may_be_wanted class credit called body ≡ true
    → IsShortWanted (wanted_by_user terms ssn tag class credit called body)
user-wishes terms ssn tag class credit called body is =
    let ranges = (class == 2 || class == 3) && nat_le credit GREATEST_CREDIT in
    let last = and_parts (ranges && nat_le (length called) LONGEST_GIVEN_ADDRESS && is_ok (address_of called)) (nat_le (length body) LONGEST_DATA) is in
    let third = and_parts (ranges && nat_le (length called) LONGEST_GIVEN_ADDRESS) (is_ok (address_of called)) last.0 in
    let other = and_parts ranges (nat_le (length called) LONGEST_GIVEN_ADDRESS) third.0 in record {
      called = omega (arith, leb-true (length called) LONGEST_GIVEN_ADDRESS other.1);
      calling = omega arith;
      body = given-short body (omega (arith, leb-true (length body) LONGEST_DATA last.1));
    }

request-wishes : (terms : Terms) (ssn : ℕ) (r : Request) → WishShort (wish_of_request terms ssn r)
request-wishes terms ssn (request.Conn tag class credit called body) = by_test (may_be_wanted class credit called body) refl
  where
    by_test : (is : Bool) → may_be_wanted class credit called body ≡ is
        → WishShort (if is then by_user ssn tag (wanted_by_user terms ssn tag class credit called body) else no_wish)
    by_test true is = user-wishes terms ssn tag class credit called body is
    by_test false is = tt
request-wishes terms ssn _ = tt

wish-short : (terms : Terms) (event : Event) → WishShort (wish_of terms event)
unfolding wish_of
wish-short terms (Arrived point sls bytes) = reading-wishes terms point sls bytes (reading_of bytes) refl
wish-short terms (Requested ssn r) = request-wishes terms ssn r
wish-short terms Tick = tt

-- The opening.

abbrev OpenedShort : Opened → Type 0
OpenedShort o = IfSome o.connection (OfBoth lengths) × AreCarried o.outs

cref-carried : (w : Wanted) (cause : ℕ) → IsCarried (cref_to w cause)
cref-carried w cause = spelled (Cref w.slr cause None None None) (tt, tt)

refused-short : (w : Wanted) (cause : ℕ) → OpenedShort (not_opened (cref_to w cause ∷ []))
refused-short w cause = (tt, (cref-carried w cause, tt))

onward-fits : (w : Wanted) (rewrite : Rewrite) (hop : Option ℕ) (mine : ℕ) → IsShortWanted w → FitsOne (spelling_of (onward w rewrite hop mine))
onward-fits w rewrite hop mine short =
    spelled (onward w rewrite hop mine) (onward-short rewrite w.called short.called, short.calling, short.body)

through-short : (terms : Terms) (w : Wanted) (point : ℕ) (rewrite : Rewrite) (hop : Option ℕ) (refs : List ℕ) → IsShortWanted w
    → OpenedShort (opened_through terms w point rewrite hop refs)
through-short terms w point rewrite hop [] short = refused-short w REFUSAL_NOT_AVAILABLE
through-short terms w point rewrite hop (mine ∷ []) short = refused-short w REFUSAL_NOT_AVAILABLE
through-short terms w point rewrite hop (mine ∷ next ∷ refs) short = (((tt, tt, (tt, tt)), (tt, tt, (tt, tt))), (onward-fits w rewrite hop next short, tt))

by_cr-short : (terms : Terms) (w : Wanted) (answer : Answer) (refs : List ℕ) → IsShortWanted w → OpenedShort (opened_by_cr terms w answer refs)
unfolding opened_by_cr
by_cr-short terms w (Refused cause local) refs short = (tt, (cref-carried w (refusal_code cause), status-carried terms.own w.point w.sls local))
by_cr-short terms w (Local ssn) [] short = refused-short w REFUSAL_NOT_AVAILABLE
by_cr-short terms w (Local ssn) (mine ∷ refs) short = (((tt, tt, (tt, tt)), tt), (tt, tt))
by_cr-short terms w (Forward point rewrite hop) refs short =
    either OpenedShort (fits w rewrite hop) _ _ (through-short terms w point rewrite hop refs short) (refused-short w REFUSAL_UNQUALIFIED)

by_user-short : (terms : Terms) (ssn tag : ℕ) (w : Wanted) (answer : Answer) (refs : List ℕ) → IsShortWanted w
    → OpenedShort (opened_by_user terms ssn tag w answer refs)
unfolding opened_by_user
by_user-short terms ssn tag w (Refused cause local) refs short = (tt, (tt, tt))
by_user-short terms ssn tag w (Local other) refs short = (tt, (tt, tt))
by_user-short terms ssn tag w (Forward point rewrite hop) [] short = (tt, (tt, tt))
by_user-short terms ssn tag w (Forward point rewrite hop) (mine ∷ refs) short = ((tt, (tt, tt, (tt, tt))), (tt, (onward-fits w rewrite w.hop mine short, tt)))

opened-short : (terms : Terms) (wish : Wish) (answer : Option Answer) (refs : List ℕ) → WishShort wish → OpenedShort (opened terms wish answer refs)
unfolding opened
opened-short terms (by_cr w) (Some answer) refs short = by_cr-short terms w answer refs short
opened-short terms (by_cr w) None refs short = refused-short w REFUSAL_UNQUALIFIED
opened-short terms (by_user ssn tag w) (Some answer) refs short = by_user-short terms ssn tag w answer refs short
opened-short terms (by_user ssn tag w) None refs short = (tt, tt)
opened-short terms no_wish answer refs short = (tt, tt)

-- A connection that was opened, after what it heard.

heard-short : (ticks : Ticks) (c : Connection) (events : List Event) → OfBoth lengths c → OfBoth lengths (follow ticks c (heard ticks c events))
unfolding heard follow
heard-short ticks c [] short = short
heard-short ticks c (event ∷ events) short = by_test (λ d both. heard-short ticks d events both) (hears c event) refl
  where
    by_test : ((d : Connection) → OfBoth lengths d → OfBoth lengths (follow ticks d (heard ticks d events))) → (is : Bool) → hears c event ≡ is
        → OfBoth lengths (follow ticks c (elim is [ true ↦ event ∷ heard ticks (next ticks c event) events | false ↦ heard ticks c events ]))
    by_test later true is = later (next ticks c event) (step-done ticks c event is short).0
    by_test later false is = later c short

abbrev OpeningShort : Opening → Type 0
OpeningShort o = OfBoth lengths o.first

part-carried : (ticks : Ticks) (event : Event) (c : Connection) → OfBoth lengths c → AreCarried (part_by ticks event c)
part-carried ticks event c short = by_test (hears c event) refl
  where
    by_test : (is : Bool) → hears c event ≡ is → AreCarried (elim is [ true ↦ (connection_step ticks c event).1 | false ↦ [] ])
    by_test true is = (step-done ticks c event is short).1
    by_test false is = tt

opening-carried : (ticks : Ticks) (event : Event) (o : Opening) → OpeningShort o → AreCarried (part_of ticks event o)
opening-carried ticks event o short = part-carried ticks event (connection_of ticks o) (heard-short ticks o.first o.since short)

openings-carried : (ticks : Ticks) (event : Event) (openings : List Opening) → AllByRecursion OpeningShort openings
    → AreCarried (flat_map (part_of ticks event) openings)
openings-carried ticks event [] short = tt
openings-carried ticks event (o ∷ openings) short =
    all-append IsCarried (part_of ticks event o) (flat_map (part_of ticks event) openings)
    (opening-carried ticks event o short.0) (openings-carried ticks event openings short.1)

-- What nobody hears.

stray-carried : (point sls : ℕ) (o : Occasion) (m : Parameters) → IsCarried (stray_output point sls o m)
stray-carried point sls on.Cc m = spelled (Error m.slr ERROR_UNASSIGNED_REFERENCE) tt
stray-carried point sls on.Rsr m = spelled (Error m.slr ERROR_UNASSIGNED_REFERENCE) tt
stray-carried point sls on.It m = spelled (Error m.slr ERROR_UNASSIGNED_REFERENCE) tt
stray-carried point sls on.Rlsd m = spelled (Rlc m.slr m.dlr) tt
stray-carried point sls _ m = tt

arrival-carried : (point sls : ℕ) (a : Option Arrival) → AreCarried (stray_arrival point sls a)
arrival-carried point sls None = tt
arrival-carried point sls (Some a) = (stray-carried point sls a.occasion a.parameters, tt)

answer-carried : (event : Event) → AreCarried (stray_answer event)
unfolding stray_answer
answer-carried (Arrived point sls bytes) = arrival-carried point sls (arrival_in bytes)
answer-carried (Requested ssn r) = either AreCarried (is_in_range r) _ [] (tt, tt) tt
answer-carried Tick = tt

-- The outputs of an entry.

found-short : {A : Type 0} (P : A → Type 0) (test : A → Bool) (xs : List A) → AllByRecursion P xs → IfSome (find test xs) P
found-short P test [] all = tt
found-short P test (x ∷ xs) all = either (λ found. IfSome found P) (test x) (Some x) (find test xs) all.0 (found-short P test xs all.1)

hearing-carried : (ticks : Ticks) (event : Event) (o : Option Opening) → IfSome o OpeningShort → AreCarried (outputs_of_hearing ticks event o)
hearing-carried ticks event (Some o) short = opening-carried ticks event o short
hearing-carried ticks event None short = answer-carried event

found-carried : (ticks : Ticks) (openings : List Opening) (event : Event) → AllByRecursion OpeningShort openings
    → AreCarried (outputs_of_hearing ticks event (hearing ticks openings event))
found-carried ticks openings event short =
    hearing-carried ticks event (hearing ticks openings event) (found-short OpeningShort (λ o. hears (connection_of ticks o) event) openings short)

other-carried : (lane : Lane) (openings : List Opening) (event : Event) → AllByRecursion OpeningShort openings → AreCarried (other_outputs lane openings event)
other-carried lane openings (Arrived point sls bytes) short = found-carried lane.terms.ticks openings (Arrived point sls bytes) short
other-carried lane openings (Requested ssn r) short = found-carried lane.terms.ticks openings (Requested ssn r) short
other-carried lane openings Tick short = openings-carried lane.terms.ticks Tick openings short

opening-short : (lane : Lane) (openings : List Opening) (wish : Wish) (answer : Option Answer) → WishShort wish → OpenedShort (opening_of lane openings wish answer)
opening-short lane openings wish answer short = opened-short lane.terms wish answer (lowest_free lane openings (slots_needed wish answer)) short

outputs-carried : (lane : Lane) (openings : List Opening) (event : Event) (wish : Wish) (answer : Option Answer)
    → AllByRecursion OpeningShort openings → WishShort wish
    → AreCarried (outputs_by lane openings event wish answer)
outputs-carried lane openings event (by_cr w) answer short wished = (opening-short lane openings (by_cr w) answer wished).1
outputs-carried lane openings event (by_user ssn tag w) answer short wished = (opening-short lane openings (by_user ssn tag w) answer wished).1
outputs-carried lane openings event no_wish answer short wished = other-carried lane openings event short

legal-carried : (lane : Lane) (openings : List Opening) (event : Event) (answer : Option Answer) → AllByRecursion OpeningShort openings
    → AreCarried (legal_outputs lane openings event answer)
unfolding legal_outputs
legal-carried lane openings event answer short =
    outputs-carried lane openings event (wish_of lane.terms event) answer short (wish-short lane.terms event)

-- The journal.

since-short : (event : Event) (openings : List Opening) → AllByRecursion OpeningShort openings → AllByRecursion OpeningShort (map (with_event event) openings)
since-short event [] short = tt
since-short event (o ∷ openings) short = (short.0, since-short event openings short.1)

list-short : (c : Option Connection) → IfSome c (OfBoth lengths) → AllByRecursion OpeningShort (opening_list c)
list-short None short = tt
list-short (Some c) short = (short, tt)

after-short : (lane : Lane) (openings : List Opening) (event : Event) (answer : Option Answer) → AllByRecursion OpeningShort openings
    → AllByRecursion OpeningShort (openings_after lane openings event answer)
unfolding openings_after
after-short lane openings event answer short =
    let o = opening_of lane openings (wish_of lane.terms event) answer in
    all-append OpeningShort (map (with_event event) openings) (opening_list o.connection) (since-short event openings short)
    (list-short o.connection (opening-short lane openings (wish_of lane.terms event) answer (wish-short lane.terms event)).0)

journal-carried : (lane : Lane) (openings : List Opening) (journal : List Entry) → AllByRecursion OpeningShort openings → IsLegalFrom lane openings journal
    → AllByRecursion (λ e. AreCarried e.outs) journal
journal-carried lane openings [] short legal = tt
journal-carried lane openings (entry ∷ journal) short legal = (
  subst AreCarried (sym legal.0.outputs) (legal-carried lane openings entry.event (answer_of entry) short),
  journal-carried lane (openings_after lane openings entry.event (answer_of entry)) journal (after-short lane openings entry.event (answer_of entry) short) legal.1,
)

pub conn_is_carried : ConnIsCarried
conn_is_carried head number journal legal = journal-carried (lane_of head number) [] journal tt legal
