-- What comes of a part, by what waits, what may be named and what the lane makes of the event.
use Rattle.std.proofs.Common.{◌≡◌, ◌≤◌, Bool, true, false, true≢false, List, length, map, Option, Some, None, option_and_then, is_some, Result, Ok, Err, IfOk, IfNone, inl, inr, if◌then◌else◌, ap, sym, subst, ◌∙◌, refl, arith}
use Rattle.std.proofs.lemmas.List.{length-map}
use Rattle.relay_base.specs.Decimal.{digits_value}
use Rattle.relay_base.specs.declared.errors.Memory.{Memory}
use Rattle.relay_base.specs.declared.words.Stamp.{Stamp}
use Rattle.plant_core.specs.Asking.{asked_at}
use Rattle.plant_core.specs.Plant.{PlantState}
use Rattle.plant_core.specs.declared.entry.ControlEvent.{ControlEvent}
use Rattle.capture_form.specs.Events.{Stamped}
use Rattle.journal_form.specs.Headings.{RoutingWords}
use Rattle.journal_form.specs.Parts.{EntryPart}
use Rattle.journal_form.specs.Stamps.{stamp_of}
use Rattle.journal_finding.specs.declared.finding.FindingKind.{FindingKind}
use Rattle.journal_finding.specs.declared.finding.FindingKind.TheVariants.{Order, Edition, Entry}
use Rattle.journal_finding.specs.Entries.{LaneRules, event_next, if_written, entry_of}
use Rattle.lane_events.specs.Pending.{Waiting, next_in, taken_in}
use Rattle.lane_events.specs.Editions.{Named, routing_at, may_be_next}
use Rattle.lane_audit.specs.declared.replay.Judged.{Judged}
use Rattle.lane_audit.specs.Follows.{Awaits, Names, Comes, Takes, Made, Goes, Judges, may_follow, named_by}
use Rattle.lane_audit.proofs.EntryLemmas.{next_is, without_event, by_routing, routed_wrong, routed_other, routed_so}
use Rattle.lane_audit.proofs.WaitLemmas.{names_more, waits_more, phase_within}

none-there : {A : Type 0} (x : Option A) → is_some x ≡ false → x ≡ None
none-there None h = refl
none-there (Some x) h = absurd (true≢false h)

some-there : {A : Type 0} (x : Option A) → is_some x ≡ true → (y : A) × (x ≡ Some y)
some-there None h = absurd (true≢false (sym h))
some-there (Some x) h = (x, refl)

-- what holds, holds where there is nothing
pub if-none : {A : Type 0} (x : Option A) (P : Type 0) → P → IfNone x P
if-none None P p = p
if-none (Some x) P p = tt

-- naming an edition leaves the routing data of each
same-routing : (s : Named) (phase : _) (words : Option RoutingWords) (n : _) → routing_at (named_by s phase words) n ≡ routing_at s n
same-routing s phase None n = refl
same-routing s phase (Some words) n = by (may_be_next s phase (digits_value words.edition))
  where
    by : (b : Bool) → routing_at (if b then record s { edition = digits_value words.edition } else s) n ≡ routing_at s n
    by true = refl
    by false = refl

module _ {V E : Type 0} (rules : LaneRules V E) (journal : List E) (part : EntryPart) (w : Waiting) (stamp : Stamp) (awaits : Awaits rules journal w) where
  module _ (is : stamp_of part.words ≡ Some stamp) where
    -- another event is the next one, or none
    pub judged_late : next_in w stamp ≡ None → entry_of rules journal part ≡ Err Order
    judged_late next = without_event rules journal part stamp is (next_is rules journal w stamp awaits ∙ ap (option_and_then rules.event) next)

    -- the lane takes no such event
    pub judged_foreign : (event : ControlEvent) → next_in w stamp ≡ Some event → is_some (rules.event event) ≡ false → entry_of rules journal part ≡ Err Order
    judged_foreign event next none = without_event rules journal part stamp is (next_is rules journal w stamp awaits ∙ ap (option_and_then rules.event) next ∙ none-there (rules.event event) none)

  module _ (event : ControlEvent) (comes : Comes rules part w stamp event) where
    is : stamp_of part.words ≡ Some stamp
    is = comes.stamped

    event-is : event_next rules journal stamp ≡ rules.event event
    event-is = next_is rules journal w stamp awaits ∙ ap (option_and_then rules.event) comes.next

    -- the phase is one of the lane's
    pub phase_there : stamp.phase ≤ length rules.events
    phase_there =
        let same : length w.phases ≡ length rules.events = sym (length-map w.phases (map (λ p. p.events))) ∙ ap (λ (es : List (List Stamped)). length es) awaits.events in
        omega (arith, same, phase_within w stamp event comes.next)

    module _ (s : Named) (names : Names rules journal s) where
      -- the edition may not be named
      pub judged_unnamed : may_follow s stamp.phase part.words.asked ≡ false → entry_of rules journal part ≡ Err Edition
      judged_unnamed bad =
          let own = some-there (rules.event event) comes.taken in
          by_routing rules journal part stamp own.0 (Err Edition) is (event-is ∙ own.1) (routed_wrong rules journal s stamp.phase names phase_there (rules.question own.0) part.words.asked bad)

      module _ (after : List E) (plant : PlantState) (judged : Judged) (takes : Takes rules journal after plant stamp event part judged) (may : may_follow s stamp.phase part.words.asked ≡ true)
          (edition : plant.edition ≡ (named_by s stamp.phase part.words.asked).edition) (routing : plant.routing ≡ routing_at (named_by s stamp.phase part.words.asked) (named_by s stamp.phase part.words.asked).edition) where
        -- an edition is named where nothing is asked, or none where something is
        judged_unasked : (judged.asks ≡ is_some part.words.asked → ⊥) → entry_of rules journal part ≡ Err Edition
        judged_unasked other =
            by_routing rules journal part stamp takes.own (Err Edition) is (event-is ∙ takes.is) (routed_other rules journal s stamp.phase names phase_there (rules.question takes.own) part.words.asked (λ same. other (takes.asks ∙ same)))

        module _ (same : judged.asks ≡ is_some part.words.asked) where
          asks : is_some (rules.question takes.own) ≡ is_some part.words.asked
          asks = sym takes.asks ∙ same

          whole : entry_of rules journal part ≡ if_written rules part takes.entry
          whole =
              let n = (named_by s stamp.phase part.words.asked).edition in
              let q = rules.question takes.own in
              by_routing rules journal part stamp takes.own _ is (event-is ∙ takes.is) (routed_so rules journal s stamp.phase names phase_there q part.words.asked may asks)
              ∙ ap (λ r. if_written rules part (rules.entry journal stamp takes.own (asked_at n r q))) (sym (routing ∙ same-routing s stamp.phase part.words.asked n))
              ∙ ap (λ k. if_written rules part (rules.entry journal stamp takes.own (asked_at k plant.routing q))) (sym edition)
              ∙ ap (if_written rules part) (sym takes.comes)

          -- the lines are others
          judged_unwritten : judged.is_written ≡ false → entry_of rules journal part ≡ Err Entry
          judged_unwritten no_lines = whole ∙ ap (λ b. if b then Ok takes.entry else Err Entry) (sym takes.written ∙ no_lines)

          -- it is the entry
          judged_so : judged.is_written ≡ true → Goes rules journal after part (taken_in w stamp) (named_by s stamp.phase part.words.asked)
          judged_so lines =
              let asked = takes.routed ∙ ap (λ k. asked_at k plant.routing (rules.question takes.own)) edition in
              record {
                entry = takes.entry;
                is = whole ∙ ap (λ b. if b then Ok takes.entry else Err Entry) (sym takes.written ∙ lines);
                journal = takes.journal;
                awaits = subst (λ j. Awaits rules j (taken_in w stamp)) (sym takes.journal) (waits_more rules journal takes.entry w stamp event awaits takes.stamped comes.next);
                names = subst (λ j. Names rules j (named_by s stamp.phase part.words.asked)) (sym takes.journal) (names_more rules journal takes.entry s stamp.phase part.words.asked (rules.question takes.own) plant.routing names may asks asked);
              }

      -- what is wrong with the entry that the lane made is what is wrong with the part
      pub judged_made : (after : List E) (plant : PlantState) (made : Result (Option FindingKind) Memory) → IfOk made (Made rules journal after plant stamp event part) → may_follow s stamp.phase part.words.asked ≡ true
          → plant.edition ≡ (named_by s stamp.phase part.words.asked).edition → plant.routing ≡ routing_at (named_by s stamp.phase part.words.asked) (named_by s stamp.phase part.words.asked).edition
          → IfOk made (Judges rules journal after part (taken_in w stamp) (named_by s stamp.phase part.words.asked))
      judged_made after plant (Err memory) made may edition routing = tt
      judged_made after plant (Ok None) made may edition routing = judged_so after plant made.judged made.takes may edition routing made.is.0 made.is.1
      judged_made after plant (Ok (Some kind)) made may edition routing = elim made.is [
        | inl wrong ↦ judged_unasked after plant made.judged made.takes may edition routing wrong.1 ∙ ap Err (sym wrong.0)
        | inr wrong ↦ judged_unwritten after plant made.judged made.takes may edition routing wrong.1 wrong.2 ∙ ap Err (sym wrong.0)
      ]
