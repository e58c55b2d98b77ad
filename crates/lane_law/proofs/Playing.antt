-- A legal journal is what one run gives.
use Rattle.std.proofs.Common.{◌≡◌, List, [], ◌∷◌, map, refl, ap₂}
use Rattle.std.specs.List.{AllByRecursion}
use Rattle.relay_base.specs.declared.words.Output.{Output}
use Rattle.plant_core.specs.declared.entry.Entry.{Entry}
use Rattle.section_model.specs.Lane.{Lane, Opening, openings_after, answer_of, legal_outputs, IsLegalFrom}
use Rattle.lane_law.specs.Played.{played_from, given_of, IsRouted, LegalIsPlayed}

routed : (lane : Lane) (openings : List Opening) (journal : List Entry) → IsLegalFrom lane openings journal → AllByRecursion (IsRouted lane) journal
routed lane openings [] legal = tt
routed lane openings (entry ∷ journal) legal =
    (legal.0.routed, routed lane (openings_after lane openings entry.event (answer_of entry)) journal legal.1)

outputs : (lane : Lane) (openings : List Opening) (journal : List Entry) → IsLegalFrom lane openings journal
    → map (λ e. e.outs) journal ≡ played_from lane openings (map given_of journal)
unfolding played_from
outputs lane openings [] legal = refl
outputs lane openings (entry ∷ journal) legal =
    ap₂ (λ (outs : List Output) (more : List (List Output)). outs ∷ more) legal.0.outputs
    (outputs lane (openings_after lane openings entry.event (answer_of entry)) journal legal.1)

legal : (lane : Lane) (openings : List Opening) (journal : List Entry) → AllByRecursion (IsRouted lane) journal
    → map (λ e. e.outs) journal ≡ played_from lane openings (map given_of journal) → IsLegalFrom lane openings journal
unfolding played_from
legal lane openings [] routed outs = tt
legal lane openings (entry ∷ journal) routed outs =
    let after = openings_after lane openings entry.event (answer_of entry) in
    let first : entry.outs ≡ legal_outputs lane openings entry.event (answer_of entry) = cc in
    let more : map (λ e. e.outs) journal ≡ played_from lane after (map given_of journal) = cc in
    (record { routed = routed.0; outputs = first }, legal lane after journal routed.1 more)

pub is_played : LegalIsPlayed
is_played lane journal = (
  λ is. record { routed = routed lane [] journal is; outputs = outputs lane [] journal is },
  λ played. legal lane [] journal played.routed played.outputs,
)
