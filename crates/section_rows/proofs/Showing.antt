-- What a run gives is what the legal journals of its events show.
use Rattle.std.proofs.Common.{◌≡◌, List, [], ◌∷◌, map, Option, Some, None, refl, sym, ap, ◌∙◌}
use Rattle.std.specs.Prelude.{is_some}
use Rattle.std.specs.List.{AllByRecursion}
use Rattle.relay_base.specs.declared.words.Event.{Event}
use Rattle.relay_base.specs.declared.words.Output.{Output}
use Rattle.plant_core.specs.declared.answer.Answer.{Answer}
use Rattle.plant_core.specs.declared.entry.Asked.{Asked}
use Rattle.plant_core.specs.declared.entry.Entry.{Entry}
use Rattle.plant_core.specs.Asking.{Question, answer_in}
use Rattle.section_model.specs.Opening.{wish_of, question_of}
use Rattle.section_model.specs.Lane.{Lane}
use Rattle.lane_law.specs.Played.{played_from, given_of, IsRouted}
use Rattle.lane_law.proofs.Playing.{is_played}
use Rattle.section_rows.specs.Examples.{answer_to, routed}
use Rattle.section_rows.specs.Played.{played, IsOf, Shows}

-- an answer stands where something was asked
answered : (asks : Option Question) → is_some (answer_to asks) ≡ is_some asks
answered None = refl
answered (Some q) = refl

in_asked : (asked : Option Asked) → is_some (answer_in asked) ≡ is_some asked
in_asked None = refl
in_asked (Some a) = refl

-- an entry of an event and what routing answers to it is routed
routed_so : (lane : Lane) (event : Event) (entry : Entry) → given_of entry ≡ routed lane event → IsRouted lane entry
routed_so lane event entry is =
    sym (in_asked entry.asked)
    ∙ (ap (λ (g : Event × Option Answer). is_some g.1) is
    ∙ (answered (question_of (wish_of lane.terms event)) ∙ ap (λ (g : Event × Option Answer). is_some (question_of (wish_of lane.terms g.0))) (sym is)))

all_routed : (lane : Lane) (events : List Event) (journal : List Entry) → IsOf lane events journal → AllByRecursion (IsRouted lane) journal
all_routed lane events [] is = tt
all_routed lane [] (entry ∷ journal) is = absurd (cc)
all_routed lane (event ∷ events) (entry ∷ journal) is =
    let first : given_of entry ≡ routed lane event = cc in
    let more : map given_of journal ≡ map (routed lane) events = cc in
    (routed_so lane event entry first, all_routed lane events journal more)

-- the run over the events of such a journal
run_of : (lane : Lane) (events : List Event) (journal : List Entry) → IsOf lane events journal → played_from lane [] (map given_of journal) ≡ played lane events
unfolding played
run_of lane events journal is = ap (played_from lane []) is

pub shows : (lane : Lane) (events : List Event) (outs : List (List Output)) → played lane events ≡ outs → Shows lane events outs
shows lane events outs run = record {
  exactly = λ journal is. (
    λ legal. ((is_played lane journal).0 legal).outputs ∙ (run_of lane events journal is ∙ run),
    λ same. (is_played lane journal).1 (record { routed = all_routed lane events journal is; outputs = same ∙ sym (run_of lane events journal is ∙ run) }),
  );
}
