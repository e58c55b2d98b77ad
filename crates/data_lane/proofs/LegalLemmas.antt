-- A legal journal goes on with a legal entry.
use Rattle.std.proofs.Common.{◌≡◌, ℕ, ◌+◌, List, [], ◌∷◌, ◌++◌, if◌then◌else◌, refl, sym, ap, ◌∙◌, Option, Some, None}
use Rattle.std.specs.Prelude.{is_some}
use Rattle.relay_base.specs.declared.words.Event.{Event}
use Rattle.relay_base.specs.declared.words.Stamp.{Stamp}
use Rattle.plant_core.specs.Plant.{PlantState, RoutingData}
use Rattle.plant_core.specs.declared.entry.Asked.{Asked}
use Rattle.plant_core.specs.declared.entry.Entry.{Entry}
use Rattle.plant_core.specs.declared.terms.LaneHead.{LaneHead}
use Rattle.reassembly.specs.Laws.{IsWithinBounds}
use Rattle.reassembly.specs.Reassembly.{Reassemblies}
use Rattle.connectionless.specs.Asking.{matter_of}
use Rattle.plant_core.specs.Asking.{Question, asked_at, answer_in}
use Rattle.data_lane.specs.declared.effect.Effect.{Effect}
use Rattle.data_lane.specs.Legal.{State, at_first, Step, step_of, step_by, joined, worked, effect_by, IsLegalEntry, LegalFrom, entry_after, state_after, question_of, asked_of}
use Rattle.data_lane.specs.Inner.Lane.{reduced, IsLane}
use Rattle.data_lane.proofs.CountLemmas.{reduced-add, effect-reduced}

legal-push : (head : LaneHead) (number : ℕ) (s : State) (journal : List Entry) (entry : Entry) → LegalFrom head number s journal → IsLegalEntry head number (state_after head number s journal) entry
    → LegalFrom head number s (journal ++ entry ∷ [])
legal-push head number s [] entry h e = (e, tt)
legal-push head number s (first ∷ more) entry h e = (h.0, legal-push head number (entry_after head number s first) more entry h.1 e)

state-push : (head : LaneHead) (number : ℕ) (s : State) (journal : List Entry) (entry : Entry) → state_after head number s (journal ++ entry ∷ []) ≡ entry_after head number (state_after head number s journal) entry
state-push head number s [] entry = refl
state-push head number s (first ∷ more) entry = state-push head number (entry_after head number s first) more entry

asks_so : (edition : ℕ) (routing : RoutingData) (asks : Option Question) → is_some (asked_at edition routing asks) ≡ is_some asks
asks_so edition routing None = refl
asks_so edition routing (Some q) = refl

-- what an event gives by its effect
step-effect : (head : LaneHead) (number : ℕ) (s : State) (e : Event) (asked : Option Asked) (effect : Effect) → effect ≡ effect_by head number (reduced s.cut) (matter_of e) (answer_in asked)
    → step_of head number s e (answer_in asked) ≡ joined s.cut effect (worked head.terms.own head.reassembly s.processes effect.work)
unfolding step_of
step-effect head number s e asked effect t = ap (step_by head s) (sym (t ∙ effect-reduced head number s.cut (matter_of e) (answer_in asked)))

-- the entry of an event with its effect
abbrev pub entry_with : LaneHead → Reassemblies → Stamp → Event → Option Asked → Effect → Entry
entry_with head bench stamp e asked effect =
    record { stamp = stamp; event = e; asked = asked; outs = effect.outs ++ (worked head.terms.own bench.ticks bench.processes effect.work).outs }

-- such an entry, and the work done by the reassemblies
pub record IsWritten (head : LaneHead) (number : ℕ) (plant : PlantState) (e : Event) (count : ℕ) (bench after : Reassemblies) (effect : Effect) (entry : Entry) : Type 0 where
  pub of_event : entry.event ≡ e
  pub asked : entry.asked ≡ asked_of plant e
  pub by : effect ≡ effect_by head number count (matter_of e) (answer_in entry.asked)
  pub outs : entry.outs ≡ effect.outs ++ (worked head.terms.own bench.ticks bench.processes effect.work).outs
  pub processes : after.processes ≡ (worked head.terms.own bench.ticks bench.processes effect.work).processes
  pub ticks : after.ticks ≡ bench.ticks
  pub bounds : IsWithinBounds after.processes

-- so the lane goes on
pub lane-goes : (head : LaneHead) (number : ℕ) (journal : List Entry) (plant : PlantState) (e : Event) (count : ℕ) (bench after : Reassemblies) (effect : Effect) (entry : Entry)
    → IsLane head number journal count bench → IsWritten head number plant e count bench after effect entry
    → IsLane head number (journal ++ entry ∷ []) (reduced (reduced count + (if effect.is_cut then 1 else 0))) after
lane-goes head number journal plant e count bench after effect entry lane written =
    let s = state_after head number at_first journal in
    let routed : is_some entry.asked ≡ is_some (question_of entry.event) =
    ap is_some written.asked ∙ asks_so plant.edition plant.routing (question_of e) ∙ ap (λ f. is_some (question_of f)) (sym written.of_event) in
    let by : effect ≡ effect_by head number (reduced s.cut) (matter_of entry.event) (answer_in entry.asked) =
    written.by ∙ ap (λ n. effect_by head number n (matter_of e) (answer_in entry.asked)) lane.cut ∙ ap (λ f. effect_by head number (reduced s.cut) (matter_of f) (answer_in entry.asked)) (sym written.of_event) in
    let same : worked head.terms.own bench.ticks bench.processes effect.work ≡ worked head.terms.own head.reassembly s.processes effect.work =
    ap (λ n. worked head.terms.own n bench.processes effect.work) lane.ticks ∙ ap (λ p. worked head.terms.own head.reassembly p effect.work) lane.processes in
    let step : step_of head number s entry.event (answer_in entry.asked) ≡ joined s.cut effect (worked head.terms.own head.reassembly s.processes effect.work) =
    step-effect head number s entry.event entry.asked effect by in
    let legal : IsLegalEntry head number s entry = record {
      routed = routed;
      outputs = written.outs ∙ ap (λ w. effect.outs ++ w.outs) same ∙ sym (ap (λ (x : Step). x.outs) step);
    } in
    let left : state_after head number at_first (journal ++ entry ∷ []) ≡ (joined s.cut effect (worked head.terms.own head.reassembly s.processes effect.work)).after =
    state-push head number at_first journal entry ∙ ap (λ (x : Step). x.after) step in
    record {
      legal = legal-push head number at_first journal entry lane.legal legal;
      cut = ap (λ n. reduced (reduced n + (if effect.is_cut then 1 else 0))) lane.cut ∙ reduced-add s.cut (if effect.is_cut then 1 else 0) ∙ sym (ap (λ (x : State). reduced x.cut) left);
      processes = written.processes ∙ ap (λ w. w.processes) same ∙ sym (ap (λ (x : State). x.processes) left);
      ticks = written.ticks ∙ lane.ticks;
      bounds = written.bounds;
    }
