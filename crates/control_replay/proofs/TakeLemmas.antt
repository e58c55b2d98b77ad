-- The entry that a control lane makes of an event is the one that its rules ask for.
use Rattle.std.proofs.Common.{◌≡◌, ◌∙◌, Bool, false, List, [], ◌∷◌, ◌++◌, length, Option, None, refl, ap, subst, zero-add}
use Rattle.relay_base.specs.declared.words.Stamp.{Stamp}
use Rattle.plant_core.specs.declared.change.Group.{Group}
use Rattle.plant_core.specs.declared.entry.Asked.{Asked}
use Rattle.plant_core.specs.declared.entry.ControlEntry.{ControlEntry}
use Rattle.plant_core.specs.declared.entry.ControlEvent.{ControlEvent}
use Rattle.plant_core.specs.Plant.{PlantState, RoutingData}
use Rattle.scmg.specs.declared.head.ControlHead.{ControlHead}
use Rattle.scmg.specs.Control.{IsControlJournal, IsLegalEntry, edition_after, start_of_control}
use Rattle.scmg.specs.Lane.{ControlState, AddsEntry}
use Rattle.control_law.proofs.Splitting.{splits}
use Rattle.node_head.specs.declared.head.Head.{Head}
use Rattle.capture_form.specs.Events.{Stamped}
use Rattle.right_book.specs.Heads.{routing_of, control_head_of}
use Rattle.right_book.specs.Editions.{changes_of}
use Rattle.journal_form.specs.Parts.{EntryPart}
use Rattle.journal_finding.specs.Lanes.{control_rules, control_of, control_entry, managed_next}
use Rattle.lane_audit.specs.Follows.{Takes}
use Rattle.control_replay.specs.Inner.Lanes.{IsLaneOf, IsLastWritten}

-- ---- the entry

abbrev IsLegal : Head → List ControlEntry → Type 0
IsLegal head journal = IsControlJournal (control_head_of head) (routing_of head) journal

legal_next : (head : Head) (before : List ControlEntry) (entry : ControlEntry) → IsLegal head (before ++ entry ∷ []) → IsLegalEntry (control_head_of head) (control_of head before) (length (changes_of head before)) entry
legal_next head before entry legal =
    let parts = (splits (control_head_of head) (start_of_control (routing_of head)) 0 before (entry ∷ [])).0 legal in
    subst (λ n. IsLegalEntry (control_head_of head) (control_of head before) n entry) (zero-add (length (changes_of head before))) parts.1.0

comes : (head : Head) (before : List ControlEntry) (entry : ControlEntry) (stamp : Stamp) (event : ControlEvent) (asked : Option Asked) → IsLegal head (before ++ entry ∷ []) → entry.stamp ≡ stamp → entry.event ≡ event
    → entry ≡ control_entry head before stamp event asked
comes head before entry stamp event asked legal stamped of_event =
    let next = legal_next head before entry legal in
    let outs = next.outputs ∙ ap (λ (v : ControlEvent). (managed_next head before v).outs) of_event in
    let published = next.published ∙ ap (λ (v : ControlEvent). edition_after (length (changes_of head before)) (managed_next head before v).published) of_event in
    λ i. record { stamp = stamped i; event = of_event i; published = published i; outs = outs i }

-- ---- the lane

-- the lane of a head took an event as its rules ask for
pub takes : (head : Head) (phases : List (List Stamped)) (stamp : Stamp) (event : ControlEvent) (old new : ControlState) (groups : List Group) (plant : PlantState) (part : EntryPart) (written : Bool)
    → IsLaneOf head old groups → AddsEntry stamp event old new → IsControlJournal new.head new.start new.journal → IsLastWritten new.journal part written
    → Takes (control_rules head phases) old.journal new.journal plant stamp event part (record { asks = false; is_written = written })
takes head phases stamp event old new groups plant part written of adds legal is_last =
    let h : new.head ≡ control_head_of head = adds.head ∙ of.head_is in
    let s : new.start ≡ routing_of head = adds.start ∙ of.start_is in
    let here : IsLegal head new.journal =
    subst (λ (x : ControlHead). IsControlJournal x (routing_of head) new.journal) h (subst (λ (x : RoutingData). IsControlJournal new.head x new.journal) s legal) in
    let longer : IsLegal head (old.journal ++ adds.entry ∷ []) = subst (IsLegal head) adds.journal here in
    record {
      own = event;
      is = refl;
      entry = adds.entry;
      comes = comes head old.journal adds.entry stamp event None longer adds.stamped adds.of_event;
      stamped = adds.stamped;
      routed = refl;
      journal = adds.journal;
      asks = refl;
      written = is_last old.journal adds.entry adds.journal;
    }
