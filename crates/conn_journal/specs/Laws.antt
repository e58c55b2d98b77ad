-- What is kept of the openings is all that a lane needs of them.
use Rattle.std.specs.Prelude.{◌≡◌, ℕ, List, map, Option, Some, None}
use Rattle.std.specs.List.{flat_map}
use Rattle.relay_base.specs.declared.words.Event.{Event}
use Rattle.relay_base.specs.declared.words.Output.{Output}
use Rattle.plant_core.specs.declared.terms.Ticks.{Ticks}
use Rattle.section_model.specs.Lane.{Lane, Opening, with_event, lowest_free, outputs_of_hearing, hearing, part_of, stray_answer}
use Rattle.conn_journal.specs.Inner.Remnants.{remnant_of, remnant_after, first_part, all_parts, lowest_in}

abbrev pub unheard : Option (List Output) → List Output → List Output
unheard None answer = answer
unheard (Some outs) answer = outs

pub record KeepsAll : Type 0 where
  -- one more event
  pub after : (ticks : Ticks) (o : Opening) (event : Event) → remnant_of ticks (with_event event o) ≡ remnant_after event (remnant_of ticks o)
  -- the free references
  pub free : (lane : Lane) (openings : List Opening) (count : ℕ) → lowest_free lane openings count ≡ lowest_in lane (map (remnant_of lane.terms.ticks) openings) count
  -- the outputs of what hears an event, or of what nobody hears
  pub heard : (ticks : Ticks) (openings : List Opening) (event : Event)
      → outputs_of_hearing ticks event (hearing ticks openings event) ≡ unheard (first_part event (map (remnant_of ticks) openings)) (stray_answer event)
  -- the outputs of all that hear an event
  pub ticked : (ticks : Ticks) (openings : List Opening) (event : Event) → flat_map (part_of ticks event) openings ≡ all_parts event (map (remnant_of ticks) openings)
