-- A lane with one more entry.
use Rattle.std.proofs.Common.{◌≡◌, ℕ, ◌≤◌, ◌<◌, ◌+◌, ◌^◌, OnOk, OnErr, Ok, Err, true, false, List, [], ◌∷◌, ◌++◌, length, map, replicate, refl, sym, subst, ap, ap₂, ◌∙◌, arith, append-nil, length-append}
use Rattle.std.specs.declared.result.Result.{Result}
use Rattle.std.specs.Prelude.{Option, Some, None, option_map, is_some, IfSome}
use Rattle.relay_base.specs.declared.words.Output.{Output}
use Rattle.std.proofs.lemmas.List.{map-append, length-map}
use Rattle.relay_base.specs.declared.words.Event.{Event}
use Rattle.relay_base.specs.declared.words.Event.TheVariants.{Message as Arrived, Asked as Requested, Tick}
use Rattle.plant_core.specs.Plant.{PlantState}
use Rattle.plant_core.specs.declared.answer.Answer.{Answer}
use Rattle.plant_core.specs.declared.entry.Asked.{Asked}
use Rattle.plant_core.specs.declared.entry.Entry.{Entry}
use Rattle.plant_core.specs.declared.terms.LaneHead.{LaneHead}
use Rattle.plant_core.specs.declared.terms.Terms.{Terms}
use Rattle.plant_core.specs.Asking.{Question, asked_at, answer_in}
use Rattle.section_model.specs.Ends.{Connection}
use Rattle.section_model.specs.Laws.{openings_from}
use Rattle.section_model.specs.Opening.{Wish, by_cr, by_user, no_wish, wish_of, wish_of_message, wish_of_reading, wish_of_request, question_of, slots_needed, opened, Opened as OpenedState}
use Rattle.section_model.specs.Lane.{Lane, Opening, reference_of, with_event, opening_of, opening_list, openings_after, legal_outputs, other_outputs, outputs_by, answer_of, IsLegalEntry, stray_answer, is_tick}
use Rattle.lane_law.proofs.Splitting.{splits}
use Rattle.plant_core.specs.declared.terms.Ticks.{Ticks}
use Rattle.section_coupling.specs.Duos.{DuoState, duo_at, taken_after}
use Rattle.section_coupling.specs.Openings.{is_wish, IsAnswered}
use Rattle.conn_journal.specs.Inner.Remnants.{Remnant, remnant_of, remnant_after, first_part, all_parts, lowest_in}
use Rattle.conn_journal.specs.Laws.{unheard}
use Rattle.conn_journal.specs.Inner.Seated.{AreOrderly, reference_in}
use Rattle.section_model.specs.Journals.{lane_of}
use Rattle.conn_journal.specs.Lanes.{conn_asked_of}
use Rattle.conn_journal.specs.Outcomes.{taken_by, IsOutcome}
use Rattle.conn_journal.specs.declared.outcome.Outcome.{Outcome}
use Rattle.conn_journal.specs.Inner.Views.{OpeningsState}
use Rattle.conn_journal.specs.Inner.Turns.{opened_in, other_outs_in, outs_in, new_remnant, keeps_in, IsConnLane}
use Rattle.conn_journal.specs.Inner.Grown.{StandsIn, Comes, Grows}
use Rattle.conn_journal.proofs.Keeps.{keeps_all}
use Rattle.conn_journal.proofs.NewSeats.{IsFree, among_free, orderly_keeps, orderly_none}
use Rattle.conn_journal.proofs.HeardAt.{nobody_named}
use Rattle.std.proofs.lemmas.List.Elements.{All-nil}
use Rattle.relay_base.specs.declared.limits.TheConstants.{MOST_LANES, SLOTS}
use Rattle.local_refs.specs.Slots.{free_references}
use Rattle.local_refs.specs.declared.state.SlotState.TheVariants.{Free}
use Rattle.section_coupling.specs.declared.side.Side.{Side}
use Rattle.section_coupling.specs.declared.side.Side.TheVariants as side
use Rattle.section_coupling.specs.Views.{end_at}
use Rattle.section_coupling.specs.Sound.{IsCredit}
use Rattle.lane_law.proofs.Opened.{EndsAre, AreAmong}
use Rattle.conn_journal.specs.declared.change.Change.{Change}
use Rattle.conn_journal.specs.declared.change.Change.TheVariants.{Nothing, Heard, Opened, Ticked}
use Rattle.conn_journal.specs.Inner.Changes.{changed, Fits, Makes, Opens, Takes, TakesNone, this_taken, that_taken}
use Rattle.conn_journal.specs.Inner.Lowest.{lowest_of}
use Rattle.conn_journal.specs.Inner.Stands.{IsPlaced, Stands, IsStanding}
use Rattle.conn_journal.proofs.Opened.{TakesFirst, takes_first, Before, lowest_before, makes_opened}
use Rattle.conn_journal.proofs.Counted.{counted_none}
use Rattle.conn_journal.proofs.Slotted.{lowest_are, unused_none}
use Rattle.conn_journal.proofs.Standing.{count_is, makes_nothing}
use Rattle.relay_base.specs.declared.words.Request.{Request}
use Rattle.relay_base.specs.declared.words.Request.TheVariants as request
use Rattle.q713_codec.specs.Names.{Message}
use Rattle.q713_codec.specs.declared.message.Message.TheVariants.{Cr, Cc}
use Rattle.relay_base.specs.declared.words.ReadFault.{ReadFault}
use Rattle.q713_codec.specs.Reading.{reading_of}
use Rattle.section_model.specs.Parameters.{arrival_of, arrival_by, arrival_in}
use Rattle.section_model.specs.Step.{destination_of, named}

abbrev kept_of : Lane → List Opening → List Remnant
kept_of lane openings = map (remnant_of lane.terms.ticks) openings

-- the opening by what is kept
opens-alike : (lane : Lane) (openings : List Opening) (wish : Wish) (answer : Option Answer) → opening_of lane openings wish answer ≡ opened_in lane (kept_of lane openings) wish answer
opens-alike lane openings wish answer = ap (opened lane.terms wish answer) (keeps_all.free lane openings (slots_needed wish answer))

others-alike : (lane : Lane) (openings : List Opening) (event : Event) → other_outputs lane openings event ≡ other_outs_in (kept_of lane openings) event
others-alike lane openings (Arrived point sls bytes) = keeps_all.heard lane.terms.ticks openings (Arrived point sls bytes)
others-alike lane openings (Requested ssn r) = keeps_all.heard lane.terms.ticks openings (Requested ssn r)
others-alike lane openings Tick = keeps_all.ticked lane.terms.ticks openings Tick

outs-by : (lane : Lane) (openings : List Opening) (event : Event) (wish : Wish) (answer : Option Answer) → outputs_by lane openings event wish answer ≡ outs_in lane (kept_of lane openings) event wish answer
outs-by lane openings event (by_cr w) answer = ap (λ o. o.outs) (opens-alike lane openings (by_cr w) answer)
outs-by lane openings event (by_user ssn tag w) answer = ap (λ o. o.outs) (opens-alike lane openings (by_user ssn tag w) answer)
outs-by lane openings event no_wish answer = others-alike lane openings event

outs-alike : (lane : Lane) (openings : List Opening) (event : Event) (answer : Option Answer) → legal_outputs lane openings event answer ≡ outs_in lane (kept_of lane openings) event (wish_of lane.terms event) answer
unfolding legal_outputs
outs-alike lane openings event answer = outs-by lane openings event (wish_of lane.terms event) answer

events-alike : (lane : Lane) (event : Event) (openings : List Opening) → map (remnant_of lane.terms.ticks) (map (with_event event) openings) ≡ map (remnant_after event) (kept_of lane openings)
events-alike lane event [] = refl
events-alike lane event (o ∷ openings) = rw (keeps_all.after lane.terms.ticks o event) (ap (λ more. remnant_after event (remnant_of lane.terms.ticks o) ∷ more) (events-alike lane event openings))

new-alike : (lane : Lane) (c : Option Connection) → map (remnant_of lane.terms.ticks) (opening_list c) ≡ new_remnant lane.terms.ticks c
new-alike lane None = refl
new-alike lane (Some c) = refl

keeps-alike : (lane : Lane) (openings : List Opening) (event : Event) (answer : Option Answer) → kept_of lane (openings_after lane openings event answer) ≡ keeps_in lane (kept_of lane openings) event (wish_of lane.terms event) answer
unfolding openings_after
keeps-alike lane openings event answer =
    let c = (opening_of lane openings (wish_of lane.terms event) answer).connection in
    map-append (remnant_of lane.terms.ticks) (map (with_event event) openings) (opening_list c)
    ∙ (ap (λ more. more ++ map (remnant_of lane.terms.ticks) (opening_list c)) (events-alike lane event openings)
    ∙ (ap (λ more. map (remnant_after event) (kept_of lane openings) ++ more) (new-alike lane c)
    ∙ ap (λ o. map (remnant_after event) (kept_of lane openings) ++ new_remnant lane.terms.ticks o.connection) (opens-alike lane openings (wish_of lane.terms event) answer)))

openings-more : (lane : Lane) (openings : List Opening) (journal : List Entry) (entry : Entry) → openings_from lane openings (journal ++ entry ∷ []) ≡ openings_after lane (openings_from lane openings journal) entry.event (answer_of entry)
openings-more lane openings [] entry = refl
openings-more lane openings (first ∷ journal) entry = openings-more lane (openings_after lane openings first.event (answer_of first)) journal entry

-- an event is asked for where it asks
pub answered : (edition : ℕ) (routing : _) (q : Option Question) → is_some (answer_in (asked_at edition routing q)) ≡ is_some q
answered edition routing None = refl
answered edition routing (Some q) = refl

routed : (edition : ℕ) (routing : _) (q : Option Question) → is_some (asked_at edition routing q) ≡ is_some q
routed edition routing None = refl
routed edition routing (Some q) = refl

later : (taken : ℕ) (event : Event) (n : ℕ) → taken ≤ n → taken_after taken event ≤ n + 1
later taken (Arrived point sls bytes) n few = omega (arith, few)
later taken (Requested ssn r) n few = omega (arith, few)
later taken Tick n few = omega (arith, few)

pub lane_stands : (head : LaneHead) (number : ℕ) (journal : List Entry) (o : OpeningsState) → IsConnLane head number journal o
    → StandsIn head number (kept_of (lane_of head number) (openings_from (lane_of head number) [] journal)) o
lane_stands head number journal o lane = record { stands = lane.keeps.stands; lane = lane.keeps.lane; freeze = lane.keeps.freeze }

pub lane_standing : (head : LaneHead) (number : ℕ) (journal : List Entry) (o : OpeningsState) → IsConnLane head number journal o → IsStanding o
lane_standing head number journal o lane = record { keeps = kept_of (lane_of head number) (openings_from (lane_of head number) [] journal); stands = lane.keeps.stands }

one_more : (event : Event) (keeps : List Remnant) (ticks : Ticks) (c : Option Connection) → length (map (remnant_after event) keeps ++ new_remnant ticks c) ≤ length keeps + 1
one_more event keeps ticks None = omega (arith, length-append (map (remnant_after event) keeps) [], length-map keeps (remnant_after event))
one_more event keeps ticks (Some c) =
    omega (arith, length-append (map (remnant_after event) keeps) (new_remnant ticks (Some c)), length-map keeps (remnant_after event))

pub lane_grows : (plant : PlantState) (head : LaneHead) (number : ℕ) (journal : List Entry) (before after : OpeningsState) (entry : Entry)
    → IsConnLane head number journal before → Grows plant head number before after entry
    → IsConnLane head number (journal ++ entry ∷ []) after
lane_grows plant head number journal before after entry lane grows =
    let openings = openings_from (lane_of head number) [] journal in
    let wish = wish_of head.terms entry.event in
    let more = grows (kept_of (lane_of head number) openings) (lane_stands head number journal before lane) in
    let outs : entry.outs ≡ legal_outputs (lane_of head number) openings entry.event (answer_of entry) =
    more.outs ∙ sym (outs-alike (lane_of head number) openings entry.event (answer_of entry)) in
    let legal : IsLegalEntry (lane_of head number) openings entry =
    record { routed = ap is_some more.asked ∙ routed plant.edition plant.routing (question_of wish); outputs = outs } in
    record {
      legal = (splits (lane_of head number) [] journal (entry ∷ [])).1 (lane.legal, (legal, tt));
      keeps = record {
        stands = subst (λ keeps. Stands keeps after)
            (sym (keeps-alike (lane_of head number) openings entry.event (answer_of entry))
            ∙ ap (kept_of (lane_of head number)) (sym (openings-more (lane_of head number) [] journal entry))) more.stands;
        lane = more.lane ∙ lane.keeps.lane;
        freeze = more.freeze ∙ lane.keeps.freeze;
        few = rw (more.taken, length-append journal (entry ∷ [])) (later before.taken entry.event (length journal) lane.keeps.few);
        many = omega (
          arith,
          lane.keeps.many,
          length-append journal (entry ∷ []),
          count_is (kept_of (lane_of head number) openings) before lane.keeps.stands.lives,
          count_is (keeps_in (lane_of head number) (kept_of (lane_of head number) openings) entry.event wish (answer_of entry)) after more.stands.lives,
          one_more entry.event (kept_of (lane_of head number) openings) head.terms.ticks
              (opened_in (lane_of head number) (kept_of (lane_of head number) openings) wish (answer_of entry)).connection,
        );
      };
      lanes = lane.lanes;
      credit = lane.credit;
    }

-- a lane before its first event
pub lane_begins : (head : LaneHead) (number : ℕ) → number < MOST_LANES → IsCredit head.terms.credit
    → IsConnLane head number [] (record { taken = 0; kept = []; slots = record { lane = number; freeze = head.terms.ticks.freeze; states = replicate SLOTS Free; generations = replicate SLOTS 0 }; owners = replicate (SLOTS + 1) None })
lane_begins head number lanes credit =
    record {
      legal = tt;
      keeps = record {
        stands = record { lives = refl; orderly = orderly_none; placed = All-nil (IsPlaced number head.terms.ticks.freeze); uses = unused_none number head.terms.ticks.freeze; turns = counted_none number head.terms.ticks.freeze };
        lane = refl;
        freeze = refl;
        few = omega arith;
        many = omega arith;
      };
      lanes = lanes;
      credit = credit;
    }

-- the lane once its change is written, or as before
pub lane_written : {A E : Type 0} (r : Result A E) (plant : PlantState) (head : LaneHead) (number : ℕ) (journal later : List Entry) (before after made : OpeningsState) (entry : Entry)
    → IsConnLane head number journal before → Grows plant head number before made entry → OnOk r (later ≡ journal ++ entry ∷ []) → OnOk r (after ≡ made) → OnErr r ((later ≡ journal) × (after ≡ before))
    → IsConnLane head number later after
lane_written (Ok a) plant head number journal later before after made entry lane more grown is same =
    subst (λ j. IsConnLane head number j after) (sym grown)
    (subst (IsConnLane head number (journal ++ entry ∷ [])) (sym is) (lane_grows plant head number journal before made entry lane more))
lane_written (Err e) plant head number journal later before after made entry lane more grown is same =
    subst (λ j. IsConnLane head number j after) (sym same.0) (subst (IsConnLane head number journal) (sym same.1) lane)

pub on_ok : {A E : Type 0} {P Q : Type 0} (r : Result A E) → (P → Q) → OnOk r P → OnOk r Q
on_ok (Ok a) f p = f p
on_ok (Err e) f p = tt

pub on_err : {A E : Type 0} {P Q : Type 0} (r : Result A E) → (P → Q) → OnErr r P → OnErr r Q
on_err (Ok a) f p = tt
on_err (Err e) f p = f p

-- An event that opens no connection, and one that opens one.

pub none_asked : (wish : Wish) → is_wish wish ≡ false → question_of wish ≡ None
unfolding question_of
none_asked (by_cr w) e = absurd (cc)
none_asked (by_user ssn tag w) e = absurd (cc)
none_asked no_wish e = refl

pub other_keeps : (lane : Lane) (keeps : List Remnant) (event : Event) (wish : Wish) (answer : Option Answer) → is_wish wish ≡ false → map (remnant_after event) keeps ≡ keeps_in lane keeps event wish answer
unfolding opened
other_keeps lane keeps event (by_cr w) answer e = absurd (cc)
other_keeps lane keeps event (by_user ssn tag w) answer e = absurd (cc)
other_keeps lane keeps event no_wish answer e = sym (append-nil (map (remnant_after event) keeps))

pub open_outs : (lane : Lane) (keeps : List Remnant) (event : Event) (wish : Wish) (answer : Option Answer) → is_wish wish ≡ true → outs_in lane keeps event wish answer ≡ (opened_in lane keeps wish answer).outs
open_outs lane keeps event (by_cr w) answer e = refl
open_outs lane keeps event (by_user ssn tag w) answer e = refl
open_outs lane keeps event no_wish answer e = absurd (cc)

pub open_taken : (terms : Terms) (now : ℕ) (event : Event) → is_wish (wish_of terms event) ≡ true → taken_after now event ≡ now
unfolding wish_of
open_taken terms now (Arrived point sls bytes) e = refl
open_taken terms now (Requested ssn r) e = refl
open_taken terms now Tick e = absurd (cc)

none-by : (wish : Wish) → slots_needed wish None ≡ 0
unfolding slots_needed
none-by (by_cr w) = refl
none-by (by_user ssn tag w) = refl
none-by no_wish = refl

pub none_needed : (terms : Terms) (event : Event) → slots_needed (wish_of terms event) None ≡ 0
none_needed terms event = none-by (wish_of terms event)

pub opens_answered : (head : LaneHead) (plant : PlantState) (event : Event) (asked : Option Asked) (answer : Option Answer) → asked ≡ conn_asked_of head plant event → answer ≡ answer_in asked → IsAnswered (wish_of head.terms event) answer
opens_answered head plant event asked answer e f = ap is_some (f ∙ ap answer_in e) ∙ answered plant.edition plant.routing (question_of (wish_of head.terms event))

pub opened_outs : (lane : Lane) (keeps : List Remnant) (event : Event) (wish : Wish) (answer : Option Answer) (o : OpenedState) → is_wish wish ≡ true → opened_in lane keeps wish answer ≡ o → o.outs ≡ outs_in lane keeps event wish answer
opened_outs lane keeps event wish answer o e f = sym (open_outs lane keeps event wish answer e ∙ ap (λ x. x.outs) f)

pub other_outs : (lane : Lane) (keeps : List Remnant) (event : Event) (wish : Wish) (answer : Option Answer) → is_wish wish ≡ false → other_outs_in keeps event ≡ outs_in lane keeps event wish answer
other_outs lane keeps event (by_cr w) answer e = absurd (cc)
other_outs lane keeps event (by_user ssn tag w) answer e = absurd (cc)
other_outs lane keeps event no_wish answer e = refl

pub none_asked_of : (head : LaneHead) (plant : PlantState) (event : Event) → is_wish (wish_of head.terms event) ≡ false → conn_asked_of head plant event ≡ None
none_asked_of head plant event e = ap (asked_at plant.edition plant.routing) (none_asked (wish_of head.terms event) e)

pub few_taken : (taken n : ℕ) → taken ≤ n → n < 2 ^ 32 → taken ≤ 4_294_967_295
few_taken taken n e f = omega (arith, e, f)

-- What comes of an event.

pub open_untimed : (terms : Terms) (event : Event) → is_wish (wish_of terms event) ≡ true → is_tick event ≡ false
unfolding wish_of
open_untimed terms (Arrived point sls bytes) e = refl
open_untimed terms (Requested ssn r) e = refl
open_untimed terms Tick e = absurd (cc)

-- an event that opens a connection names no reference, so nobody hears it

message_names_none : (terms : Terms) (point sls : ℕ) (m : Message) → is_wish (wish_of_message terms point sls m) ≡ true → destination_of (arrival_of m) ≡ None
unfolding arrival_of
message_names_none terms point sls (Cr slr class called credit calling body hop importance) e = refl
message_names_none terms point sls (Cc dlr slr class credit called body importance) e = absurd (cc)
message_names_none terms point sls _ e = absurd (cc)

reading_names_none : (terms : Terms) (point sls : ℕ) (r : Result Message ReadFault) → is_wish (wish_of_reading terms point sls r) ≡ true → destination_of (arrival_by r) ≡ None
reading_names_none terms point sls (Ok m) e = message_names_none terms point sls m e
reading_names_none terms point sls (Err fault) e = absurd (cc)

request_names_none : (terms : Terms) (ssn : ℕ) (r : Request) → is_wish (wish_of_request terms ssn r) ≡ true → named r ≡ None
request_names_none terms ssn (request.Conn tag class credit called body) e = refl
request_names_none terms ssn _ e = absurd (cc)

open_names_none : (terms : Terms) (event : Event) → is_wish (wish_of terms event) ≡ true → reference_in event ≡ None
unfolding wish_of arrival_in
open_names_none terms (Arrived point sls bytes) e = reading_names_none terms point sls (reading_of bytes) e
open_names_none terms (Requested ssn r) e = request_names_none terms ssn r e
open_names_none terms Tick e = absurd (cc)

open_unheard : (terms : Terms) (event : Event) (keeps : List Remnant) → is_wish (wish_of terms event) ≡ true → AreOrderly keeps → map (remnant_after event) keeps ≡ keeps
open_unheard terms event keeps wish orderly = (nobody_named event keeps (open_untimed terms event wish) orderly.seated (open_names_none terms event wish)).1

-- what is opened, of these openings
opened_of : (head : LaneHead) (number : ℕ) (keeps : List Remnant) (o : OpeningsState) (wish : Wish) (answer : Option Answer) → StandsIn head number keeps o
    → opened head.terms wish answer (lowest_of o.slots (slots_needed wish answer)) ≡ opened_in (lane_of head number) keeps wish answer
opened_of head number keeps o wish answer at =
    ap (opened head.terms wish answer) (lowest_are (lane_of head number) keeps o.slots o.owners (slots_needed wish answer) at.lane at.stands.uses at.stands.turns)

side_reference : (m n : ℕ) (s : Side) → reference_of (end_at m s) ≡ reference_of (end_at n s)
side_reference m n (side.Wire w) = refl
side_reference m n (side.User u) = refl

-- what a new connection changes
opened_makes : (head : LaneHead) (number : ℕ) (event : Event) (keeps : List Remnant) (o : OpeningsState) (answer : Option Answer) (duo : Option DuoState) (outputs : List Output) (change : Change)
    → number < MOST_LANES → StandsIn head number keeps o → is_wish (wish_of head.terms event) ≡ true
    → opened_in (lane_of head number) keeps (wish_of head.terms event) answer ≡ record { connection = option_map (duo_at o.taken) duo; outs = outputs } → IfSome duo (λ d. d.ticks ≡ head.terms.ticks)
    → Opens duo change → Makes change o o.taken (keeps_in (lane_of head number) keeps event (wish_of head.terms event) answer)
opened_makes head number event keeps o answer None outputs change within at wish opens ticks so =
    subst (λ x. Makes x o o.taken (keeps_in (lane_of head number) keeps event (wish_of head.terms event) answer)) (sym so)
    (subst (Makes Nothing o o.taken) (sym (ap (λ x. map (remnant_after event) keeps ++ new_remnant head.terms.ticks x.connection) opens ∙ append-nil (map (remnant_after event) keeps)))
    (makes_nothing event o keeps (open_unheard head.terms event keeps wish at.stands.orderly) at.stands))
opened_makes head number event keeps o answer (Some d) outputs Nothing within at wish opens ticks so = absurd so
opened_makes head number event keeps o answer (Some d) outputs (Heard next) within at wish opens ticks so = absurd so
opened_makes head number event keeps o answer (Some d) outputs (Ticked nexts) within at wish opens ticks so = absurd so
opened_makes head number event keeps o answer (Some d) outputs (Opened new) within at wish opens ticks so =
    let lane : Lane = lane_of head number in
    let w : Wish = wish_of head.terms event in
    let count : ℕ = slots_needed w answer in
    let c : Connection = duo_at o.taken d in
    let some : (opened_in lane keeps w answer).connection ≡ Some c = ap (λ x. x.connection) opens in
    let same : lowest_of o.slots count ≡ lowest_in lane keeps count = lowest_are lane keeps o.slots o.owners count at.lane at.stands.uses at.stands.turns in
    let first : TakesFirst (lowest_in lane keeps count) c = subst (λ x. IfSome x (TakesFirst (lowest_in lane keeps count))) some (takes_first head.terms w answer (lowest_in lane keeps count)) in
    let are : EndsAre (IsFree o.slots.lane keeps) c = subst (λ n. EndsAre (IsFree n keeps) c) (sym at.lane) (subst (AreAmong (IsFree number keeps)) some (among_free lane keeps w answer within)) in
    let all : keeps_in lane keeps event w answer ≡ keeps ++ remnant_of head.terms.ticks (record { first = c; since = [] }) ∷ [] =
    ap₂ (λ ks x. ks ++ new_remnant head.terms.ticks x) (open_unheard head.terms event keeps wish at.stands.orderly) some in
    subst (Makes (Opened new) o o.taken) (sym all)
    (makes_opened o keeps head.terms.ticks d new (lowest_in lane keeps count) (subst (λ n. n < MOST_LANES) (sym at.lane) within) at.stands
    (subst (λ refs. Before refs (free_references o.slots)) same (lowest_before o.slots count)) first are ticks (sym at.freeze) so.0
    (so.1 ∙ side_reference 0 o.taken d.pair.this) (so.2 ∙ side_reference 0 o.taken d.pair.that)
    (subst AreOrderly all (orderly_keeps lane keeps event w answer within at.stands.orderly)))

-- an event that opens a connection
pub open_comes : (plant : PlantState) (head : LaneHead) (number : ℕ) (event : Event) (o : OpeningsState) (routing : Option Asked) (duo : Option DuoState) (outputs : List Output) (change : Change)
    → number < MOST_LANES → is_wish (wish_of head.terms event) ≡ true → routing ≡ conn_asked_of head plant event
    → opened head.terms (wish_of head.terms event) (answer_in routing) (lowest_of o.slots (slots_needed (wish_of head.terms event) (answer_in routing))) ≡ record { connection = option_map (duo_at o.taken) duo; outs = outputs }
    → IfSome duo (λ d. d.ticks ≡ head.terms.ticks) → Opens duo change → (keeps : List Remnant) → StandsIn head number keeps o
    → Fits change o × Comes plant head number event keeps o (changed change o) routing outputs
open_comes plant head number event o routing duo outputs change within wish asked opens ticks so keeps at =
    let lane : Lane = lane_of head number in
    let w : Wish = wish_of head.terms event in
    let is : opened_in lane keeps w (answer_in routing) ≡ record { connection = option_map (duo_at o.taken) duo; outs = outputs } = sym (opened_of head number keeps o w (answer_in routing) at) ∙ opens in
    let makes : Makes change o o.taken (keeps_in lane keeps event w (answer_in routing)) = opened_makes head number event keeps o (answer_in routing) duo outputs change within at wish is ticks so in (
      makes.fits,
      record {
        asked = asked;
        outs = opened_outs lane keeps event w (answer_in routing) (record { connection = option_map (duo_at o.taken) duo; outs = outputs }) wish is;
        taken = makes.taken ∙ sym (open_taken head.terms o.taken event wish);
        lane = makes.lane;
        freeze = makes.freeze;
        stands = makes.stands;
      },
    )

others_untimed : (keeps : List Remnant) (event : Event) → is_tick event ≡ false → other_outs_in keeps event ≡ unheard (first_part event keeps) (stray_answer event)
others_untimed keeps (Arrived point sls bytes) e = refl
others_untimed keeps (Requested ssn r) e = refl
others_untimed keeps Tick e = absurd (cc)

untimed : (taken : ℕ) (event : Event) → is_tick event ≡ false → taken_after taken event ≡ taken
untimed taken (Arrived point sls bytes) e = refl
untimed taken (Requested ssn r) e = refl
untimed taken Tick e = absurd (cc)

-- an event that a connection may hear
pub hear_comes : (plant : PlantState) (head : LaneHead) (number : ℕ) (event : Event) (o : OpeningsState) (part : Option (List Output)) (outputs : List Output) (change : Change) (keeps : List Remnant)
    → is_tick event ≡ false → is_wish (wish_of head.terms event) ≡ false → part ≡ first_part event keeps → outputs ≡ unheard part (stray_answer event)
    → Makes change o o.taken (map (remnant_after event) keeps) → Fits change o × Comes plant head number event keeps o (changed change o) None outputs
hear_comes plant head number event o part outputs change keeps no_tick wish parts outs makes =
    let lane : Lane = lane_of head number in (
      makes.fits,
      record {
        asked = sym (none_asked_of head plant event wish);
        outs =
            outs
            ∙ (ap (λ p. unheard p (stray_answer event)) parts
            ∙ (sym (others_untimed keeps event no_tick) ∙ other_outs lane keeps event (wish_of head.terms event) None wish));
        taken = makes.taken ∙ sym (untimed o.taken event no_tick);
        lane = makes.lane;
        freeze = makes.freeze;
        stands = subst (λ ks. Stands ks (changed change o)) (other_keeps lane keeps event (wish_of head.terms event) None wish) makes.stands;
      },
    )

pub no_wish_of_tick : (terms : Terms) → is_wish (wish_of terms Tick) ≡ false
unfolding wish_of
no_wish_of_tick terms = refl

-- a tick
pub tick_comes : (plant : PlantState) (head : LaneHead) (number : ℕ) (o : OpeningsState) (outputs : List Output) (change : Change) (keeps : List Remnant) → outputs ≡ all_parts Tick keeps
    → Makes change o (o.taken + 1) (map (remnant_after Tick) keeps) → Fits change o × Comes plant head number Tick keeps o (changed change o) None outputs
tick_comes plant head number o outputs change keeps outs makes =
    let lane : Lane = lane_of head number in
    let wish = no_wish_of_tick head.terms in (
      makes.fits,
      record {
        asked = sym (none_asked_of head plant Tick wish);
        outs = outs ∙ other_outs lane keeps Tick (wish_of head.terms Tick) None wish;
        taken = makes.taken;
        lane = makes.lane;
        freeze = makes.freeze;
        stands = subst (λ ks. Stands ks (changed change o)) (other_keeps lane keeps Tick (wish_of head.terms Tick) None wish) makes.stands;
      },
    )

-- The references that a new connection takes, and what comes of an event as the lane's next.

takes_opened : (now : ℕ) (duo : Option DuoState) (change : Change) → Opens duo change → Takes (option_map (duo_at now) duo) change
takes_opened now None change so = subst (Takes None) (sym so) (record { this = refl; that = refl })
takes_opened now (Some d) Nothing so = absurd so
takes_opened now (Some d) (Heard next) so = absurd so
takes_opened now (Some d) (Ticked nexts) so = absurd so
takes_opened now (Some d) (Opened new) so = record { this = so.1 ∙ side_reference 0 now d.pair.this; that = so.2 ∙ side_reference 0 now d.pair.that }

pub open_takes : (head : LaneHead) (number : ℕ) (keeps : List Remnant) (o : OpeningsState) (wish : Wish) (answer : Option Answer) (duo : Option DuoState) (outputs : List Output) (change : Change)
    → StandsIn head number keeps o → opened head.terms wish answer (lowest_of o.slots (slots_needed wish answer)) ≡ record { connection = option_map (duo_at o.taken) duo; outs = outputs } → Opens duo change
    → Takes (opened_in (lane_of head number) keeps wish answer).connection change
open_takes head number keeps o wish answer duo outputs change at opens so =
    subst (λ c. Takes c change) (sym (ap (λ x. x.connection) (sym (opened_of head number keeps o wish answer at) ∙ opens))) (takes_opened o.taken duo change so)

pub other_takes : (lane : Lane) (keeps : List Remnant) (wish : Wish) (answer : Option Answer) (change : Change) → is_wish wish ≡ false → TakesNone change → Takes (opened_in lane keeps wish answer).connection change
unfolding opened
other_takes lane keeps (by_cr w) answer change e none = absurd (cc)
other_takes lane keeps (by_user ssn tag w) answer change e none = absurd (cc)
other_takes lane keeps no_wish answer change e none = record { this = none.0; that = none.1 }

pub outcome_is : (plant : PlantState) (head : LaneHead) (number : ℕ) (journal : List Entry) (o after : OpeningsState) (event : Event) (routing : Option Asked) (outputs : List Output) (change : Change) (outcome : Outcome)
    → Comes plant head number event (kept_of (lane_of head number) (openings_from (lane_of head number) [] journal)) o after routing outputs
    → Takes (opened_in (lane_of head number) (kept_of (lane_of head number) (openings_from (lane_of head number) [] journal)) (wish_of head.terms event) (answer_in routing)).connection change
    → outcome.outs ≡ outputs → outcome.this ≡ this_taken change → outcome.that ≡ that_taken change
    → IsOutcome plant event (record { head = head; number = number; journal = journal }) outcome
outcome_is plant head number journal o after event routing outputs change outcome comes takes outs this that =
    let lane : Lane = lane_of head number in
    let openings : List Opening = openings_from lane [] journal in
    let wish : Wish = wish_of head.terms event in
    let answer : Option Answer = answer_in (conn_asked_of head plant event) in
    let same : opening_of lane openings wish answer ≡ opened_in lane (kept_of lane openings) wish (answer_in routing) =
    opens-alike lane openings wish answer ∙ ap (λ a. opened_in lane (kept_of lane openings) wish (answer_in a)) (sym comes.asked) in
    record {
      outs =
          outs
          ∙ (comes.outs
          ∙ (ap (λ a. outs_in lane (kept_of lane openings) event wish (answer_in a)) comes.asked ∙ sym (outs-alike lane openings event answer)));
      this = this ∙ (takes.this ∙ ap (λ x. taken_by (λ c. c.this) x.connection) (sym same));
      that = that ∙ (takes.that ∙ ap (λ x. taken_by (λ c. c.that) x.connection) (sym same));
    }
