-- The entry that a lane makes of an event is the one that its rules ask for.
use Rattle.std.proofs.Common.{◌≡◌, ℕ, ◌-◌, ◌&&◌, List, [], ◌∷◌, ◌++◌, length, get_or, map, Option, Some, None, is_some, Result, Ok, Err, IfOk, refl, sym, ap, ◌∙◌, arith}
use Rattle.std.proofs.lemmas.List.{get_or_push, length_push}
use Rattle.relay_base.specs.declared.errors.Memory.{Memory}
use Rattle.relay_base.specs.declared.words.Event.{Event}
use Rattle.relay_base.specs.declared.words.Stamp.{Stamp}
use Rattle.plant_core.specs.Asking.{Question, answer_in, asked_at}
use Rattle.plant_core.specs.Plant.{PlantState, RoutingData}
use Rattle.plant_core.specs.declared.entry.Asked.{Asked}
use Rattle.plant_core.specs.declared.entry.ControlEvent.{ControlEvent}
use Rattle.plant_core.specs.declared.entry.ControlEvent.TheVariants.{Plain}
use Rattle.plant_core.specs.declared.entry.Entry.{Entry}
use Rattle.plant_core.specs.declared.terms.LaneHead.{LaneHead}
use Rattle.book_output.specs.Print.{line_of_entry, line_of_output}
use Rattle.right_book.specs.Heads.{lane_head_of}
use Rattle.journal_form.specs.Parts.{EntryPart}
use Rattle.journal_form.specs.Words.{same}
use Rattle.journal_finding.specs.Entries.{same_lines}
use Rattle.journal_finding.specs.Lanes.{plain_event}
use Rattle.lane_audit.specs.Follows.{Takes}
use Rattle.lane_audit.specs.declared.replay.Judged.{Judged}
use Rattle.lane_events.specs.declared.placing.Lane.{Lane}
use Rattle.lane_replays.specs.Plain.{IsTold, Outcomes, PlainLaneState, PlainState, Questions, TakesEvent, plain_rules}

-- the last one of a list behind which one more stands
pub last-pushed : {A : Type 0} (before after : List A) (x d : A) → after ≡ before ++ x ∷ [] → get_or after (length after - 1) d ≡ x
last-pushed before after x d pushed =
    let place : length after - 1 ≡ length before = omega (arith, ap length pushed, length_push before x) in
    ap (λ n. get_or after n d) place ∙ ap (λ xs. get_or xs (length before) d) pushed ∙ get_or_push before x d (length before) refl

-- it has a routing where one is asked for
asks-routing : (edition : ℕ) (routing : RoutingData) (question : Option Question) → is_some (asked_at edition routing question) ≡ is_some question
asks-routing edition routing None = refl
asks-routing edition routing (Some question) = refl

-- what comes of an event with its answer
outs-told : (outs : Outcomes) (told : LaneHead) (head : LaneHead) (lane number : ℕ) (journal : List Entry) (event own : Event) (asked routed : Option Asked) → told ≡ head → lane ≡ number → event ≡ own → asked ≡ routed
    → outs told lane journal event (answer_in asked) ≡ outs head number journal own (answer_in routed)
outs-told outs told head lane number journal event own asked routed t n e a =
    ap (λ x. outs x lane journal event (answer_in asked)) t ∙ ap (λ x. outs head x journal event (answer_in asked)) n
    ∙ ap (λ x. outs head number journal x (answer_in asked)) e ∙ ap (λ x. outs head number journal own (answer_in x)) a

-- the lane took an event as its rules ask for
pub takes : (named : ℕ → Lane) (question : Questions) (outs : Outcomes) (s : PlainState) (plant : PlantState) (stamp : Stamp) (event : ControlEvent) (own : Event) (part : EntryPart) (old new : PlainLaneState) (last : Entry)
    (judged : Result Judged Memory) → IsTold s.head s.number old → s.journal ≡ old.journal → event ≡ Plain own → (adds : TakesEvent question plant stamp own old new) → last ≡ adds.entry
    → adds.entry.outs ≡ outs old.told old.number old.journal adds.entry.event (answer_in adds.entry.asked) → IfOk judged (λ j. j.asks ≡ is_some last.asked)
    → IfOk judged (λ j. j.is_written ≡ (same (line_of_entry last) part.text && same_lines (map line_of_output last.outs) part.outs))
    → IfOk judged (λ j. Takes (plain_rules named question outs s) s.journal new.journal plant stamp event part j)
takes named question outs s plant stamp event own part old new last (Err memory) told journal is adds ends comes asks written = tt
takes named question outs s plant stamp event own part old new last (Ok judged) told journal is adds ends comes asks written =
    let head = lane_head_of s.head in
    let entry = adds.entry in
    let routed : entry.asked ≡ asked_at plant.edition plant.routing (question head own) = adds.routed ∙ ap (λ x. asked_at plant.edition plant.routing (question x own)) told.told in
    let outputs : entry.outs ≡ outs head s.number s.journal own (answer_in (asked_at plant.edition plant.routing (question head own))) =
    comes ∙ ap (λ x. outs old.told old.number x entry.event (answer_in entry.asked)) (sym journal)
    ∙ outs-told outs old.told head old.number s.number s.journal entry.event own entry.asked (asked_at plant.edition plant.routing (question head own)) told.told told.number adds.of_event routed in
    record {
      own = own;
      is = ap plain_event is;
      entry = entry;
      comes = λ i. record { stamp = adds.stamped i; event = adds.of_event i; asked = routed i; outs = outputs i };
      stamped = adds.stamped;
      routed = routed;
      journal = adds.journal ∙ ap (λ x. x ++ entry ∷ []) (sym journal);
      asks = asks ∙ ap (λ (e : Entry). is_some e.asked) ends ∙ ap is_some routed ∙ asks-routing plant.edition plant.routing (question head own);
      written = written ∙ ap (λ (e : Entry). same (line_of_entry e) part.text && same_lines (map line_of_output e.outs) part.outs) ends;
    }
