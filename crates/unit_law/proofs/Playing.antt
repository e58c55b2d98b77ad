-- A legal journal is what one run gives.
use Rattle.std.proofs.Common.{◌≡◌, ℕ, List, [], ◌∷◌, map, refl, ap₂}
use Rattle.std.specs.Prelude.{is_some}
use Rattle.std.specs.List.{AllByRecursion}
use Rattle.relay_base.specs.declared.words.Output.{Output}
use Rattle.plant_core.specs.declared.entry.Entry.{Entry}
use Rattle.plant_core.specs.declared.terms.LaneHead.{LaneHead}
use Rattle.plant_core.specs.Asking.{answer_in}
use Rattle.data_lane.specs.Legal.{State, at_first, step_of, entry_after, question_of, LegalFrom}
use Rattle.unit_law.specs.Played.{played_from, given_of, LegalIsPlayed}

abbrev AreRouted : List Entry → Type 0
AreRouted journal = AllByRecursion (λ e. is_some e.asked ≡ is_some (question_of e.event)) journal

routed : (head : LaneHead) (number : ℕ) (s : State) (journal : List Entry) → LegalFrom head number s journal → AreRouted journal
routed head number s [] legal = tt
routed head number s (entry ∷ journal) legal =
    (legal.0.routed, routed head number (entry_after head number s entry) journal legal.1)

outputs : (head : LaneHead) (number : ℕ) (s : State) (journal : List Entry) → LegalFrom head number s journal
    → map (λ e. e.outs) journal ≡ played_from head number s (map given_of journal)
outputs head number s [] legal = refl
outputs head number s (entry ∷ journal) legal =
    ap₂ (λ (outs : List Output) (more : List (List Output)). outs ∷ more) legal.0.outputs
    (outputs head number (entry_after head number s entry) journal legal.1)

legal : (head : LaneHead) (number : ℕ) (s : State) (journal : List Entry) → AreRouted journal
    → map (λ e. e.outs) journal ≡ played_from head number s (map given_of journal) → LegalFrom head number s journal
legal head number s [] routed outs = tt
legal head number s (entry ∷ journal) routed outs =
    let after = entry_after head number s entry in
    let first : entry.outs ≡ (step_of head number s entry.event (answer_in entry.asked)).outs = cc in
    let more : map (λ e. e.outs) journal ≡ played_from head number after (map given_of journal) = cc in
    (record { routed = routed.0; outputs = first }, legal head number after journal routed.1 more)

pub is_played : LegalIsPlayed
is_played head number journal = (
  λ is. record { routed = routed head number at_first journal is; outputs = outputs head number at_first journal is },
  λ played. legal head number at_first journal played.routed played.outputs,
)
