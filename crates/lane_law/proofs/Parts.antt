-- Whose the outputs of an entry are.
use Rattle.std.proofs.Common.{◌≡◌, ℕ, zero, suc, pred, Bool, true, false, List, [], ◌∷◌, if◌then◌else◌, find, flat_map, Option, Some, Result, Ok, Err, refl, sym, ap, ◌∙◌}
use Rattle.std.specs.Prelude.{slice_get}
use Rattle.std.proofs.lemmas.Bool.{and_parts, false≢true}
use Rattle.relay_base.specs.declared.words.Event.{Event}
use Rattle.relay_base.specs.declared.words.Event.TheVariants.{Message as Arrived, Asked as Requested, Tick}
use Rattle.relay_base.specs.declared.words.ReadFault.{ReadFault}
use Rattle.relay_base.specs.declared.words.Request.{Request}
use Rattle.relay_base.specs.declared.words.Request.TheVariants as request
use Rattle.plant_core.specs.declared.answer.Answer.{Answer}
use Rattle.plant_core.specs.declared.terms.Terms.{Terms}
use Rattle.q713_codec.specs.Names.{Message}
use Rattle.q713_codec.specs.declared.message.Message.TheVariants.{Cr}
use Rattle.q713_codec.specs.Reading.{reading_of}
use Rattle.section_model.specs.Ends.{Connection}
use Rattle.section_model.specs.Parameters.{arrival_of, arrival_by, arrival_in}
use Rattle.section_model.specs.Step.{hears, names, named, is_in_range, destination_of}
use Rattle.section_model.specs.Opening.{no_wish, wish_of, wish_of_message, wish_of_reading, wish_of_request}
use Rattle.section_model.specs.Lane.{Lane, Opening, connection_of, is_tick, other_outputs, outputs_by, legal_outputs, answer_of, part_of, outputs_of_hearing}
use Rattle.lane_law.proofs.Hearing.{one_hears}
use Rattle.lane_law.specs.SideBySide.{ticks_of, openings_at, PartsStand}
use Rattle.lane_law.proofs.Moments.{entry_is_legal}

-- What a connection hears opens none.

message_opens_none : (terms : Terms) (point sls : ℕ) (message : Message) (c : Connection)
    → names (destination_of (arrival_of message)) c ≡ true → wish_of_message terms point sls message ≡ no_wish
unfolding arrival_of
message_opens_none terms point sls (Cr slr class called credit calling body hop importance) c heard = absurd (false≢true heard)
message_opens_none terms point sls _ c heard = refl

reading_opens_none : (terms : Terms) (point sls : ℕ) (reading : Result Message ReadFault) (c : Connection)
    → names (destination_of (arrival_by reading)) c ≡ true → wish_of_reading terms point sls reading ≡ no_wish
reading_opens_none terms point sls (Ok message) c heard = message_opens_none terms point sls message c heard
reading_opens_none terms point sls (Err fault) c heard = refl

request_opens_none : (terms : Terms) (ssn : ℕ) (r : Request) → is_in_range r ≡ true → wish_of_request terms ssn r ≡ no_wish
request_opens_none terms ssn (request.Conn tag class credit called body) within = absurd (false≢true within)
request_opens_none terms ssn _ within = refl

opens_none : (terms : Terms) (c : Connection) (event : Event) → hears c event ≡ true → wish_of terms event ≡ no_wish
unfolding hears wish_of arrival_in
opens_none terms c (Arrived point sls bytes) heard = reading_opens_none terms point sls (reading_of bytes) c heard
opens_none terms c (Requested ssn r) heard = request_opens_none terms ssn r (and_parts (is_in_range r) (names (named r) c) heard).0
opens_none terms c Tick heard = refl

-- The one that hears is found.

none_before : (i : ℕ) → suc i ≡ zero → ⊥
none_before i e = absurd (cc)

found : (test : Opening → Bool) (openings : List Opening) (i : ℕ) (o : Opening) → slice_get openings i ≡ Some o → test o ≡ true
    → ((j : ℕ) (other : Opening) → slice_get openings j ≡ Some other → test other ≡ true → i ≡ j) → find test openings ≡ Some o
found test [] i o here heard only = absurd (cc)
found test (x ∷ openings) zero o here heard only =
    let same : x ≡ o = cc in by_test (test x) (ap test same ∙ heard)
  where
    by_test : (b : Bool) → b ≡ true → (if b then Some x else find test openings) ≡ Some o
    by_test true e = here
    by_test false e = absurd (false≢true e)
found test (x ∷ openings) (suc i) o here heard only =
    by_test (test x) (λ e. none_before i (only zero x refl e)) (found test openings i o here heard (λ j other at e. ap pred (only (suc j) other at e)))
  where
    by_test : (b : Bool) → (b ≡ true → ⊥) → find test openings ≡ Some o → (if b then Some x else find test openings) ≡ Some o
    by_test true never rest = absurd (never refl)
    by_test false never rest = rest

-- The parts.

heard_part : (lane : Lane) (openings : List Opening) (i : ℕ) (o : Opening) (event : Event) → slice_get openings i ≡ Some o → is_tick event ≡ false
    → hears (connection_of lane.terms.ticks o) event ≡ true
    → ((j : ℕ) (other : Opening) → slice_get openings j ≡ Some other → hears (connection_of lane.terms.ticks other) event ≡ true → i ≡ j)
    → other_outputs lane openings event ≡ part_of lane.terms.ticks event o
heard_part lane openings i o (Arrived point sls bytes) here untimed heard only =
    ap (outputs_of_hearing lane.terms.ticks (Arrived point sls bytes)) (found (λ x. hears (connection_of lane.terms.ticks x) (Arrived point sls bytes)) openings i o here heard only)
heard_part lane openings i o (Requested ssn r) here untimed heard only =
    ap (outputs_of_hearing lane.terms.ticks (Requested ssn r)) (found (λ x. hears (connection_of lane.terms.ticks x) (Requested ssn r)) openings i o here heard only)
heard_part lane openings i o Tick here untimed heard only = absurd (false≢true (sym untimed))

-- where an event opens no connection
unwished : (lane : Lane) (openings : List Opening) (event : Event) (answer : Option Answer) → wish_of lane.terms event ≡ no_wish
    → legal_outputs lane openings event answer ≡ other_outputs lane openings event
unfolding legal_outputs
unwished lane openings event answer none = ap (λ wish. outputs_by lane openings event wish answer) none

ticked_parts : (lane : Lane) (openings : List Opening) (event : Event) (answer : Option Answer) → event ≡ Tick
    → legal_outputs lane openings event answer ≡ flat_map (part_of lane.terms.ticks Tick) openings
unfolding legal_outputs wish_of
ticked_parts lane openings event answer is = rw is refl

pub parts_stand : PartsStand
parts_stand m within legal =
    let is = entry_is_legal m legal in
    let lane : Lane = m.lane in
    let answer = answer_of m.entry in record {
      heard = λ i o here untimed heard.
          is.outputs
          ∙ unwished lane (openings_at m) m.entry.event answer (opens_none lane.terms (connection_of (ticks_of m) o) m.entry.event heard)
          ∙ heard_part lane (openings_at m) i o m.entry.event here untimed heard
          (λ j other there too. one_hears lane m.before m.entry.event i j o other within untimed here there heard too);
      ticked = λ tick. is.outputs ∙ ticked_parts lane (openings_at m) m.entry.event answer tick;
    }
