-- Runs for examples. A proof that unfolds `played` unfolds all that a run computes with.
use Rattle.std.specs.Prelude.{◌≡◌, ◌↔◌, List, [], map}
use Rattle.plant_core.specs.declared.entry.Entry.{Entry}
use Rattle.relay_base.specs.declared.words.Event.{Event}
use Rattle.relay_base.specs.declared.words.Output.{Output}
use Rattle.gtt_table.specs.Translation.{translation_of}
use Rattle.plant_core.specs.Routing.{local_answer, ssn_answer, availability_of, entity_answer, title_answer, route_of}
use Rattle.q713_shape.specs.Reading.{value_at, variable_at, variables_at, options_in, options_at, values_of}
use Rattle.q713_shape.specs.Writing.{octets_of, are_in_range}
use Rattle.q713_codec.specs.Reading.{message_as, reading_of}
use Rattle.q713_codec.specs.Writing.{spelling_of, is_in_range}
use Rattle.sccp_address.specs.Digits.{digits_in}
use Rattle.sccp_address.specs.Titles.{title_at}
use Rattle.sccp_address.specs.Parsing.{point_at, ssn_at, address_of}
use Rattle.sccp_address.specs.Spelling.{title_octets, address_spelling}
use Rattle.plant_core.specs.Rewriting.{called_onward}
use Rattle.scmg_messages.specs.Messages.{status_outputs}
use Rattle.section_model.specs.Parameters.{arrival_of, arrival_in}
use Rattle.section_model.specs.Table.{section_row, user_row}
use Rattle.section_model.specs.Line.{line_hears, line_fires, line_takes}
use Rattle.section_model.specs.Windowed.{windowed_hears, windowed_fires, windowed_takes, leaves, acknowledges}
use Rattle.section_model.specs.UserEnd.{user_asks, user_takes}
use Rattle.section_model.specs.Timing.{timers_after}
use Rattle.section_model.specs.Acting.{section_hears, section_fires, section_takes}
use Rattle.section_model.specs.Coupling.{exchange}
use Rattle.section_model.specs.Step.{hears_message, asks, fires_due, after_event, connection_step, hears}
use Rattle.section_model.specs.Opening.{wish_of, question_of, opened_by_cr, opened_by_user, slots_needed, opened}
use Rattle.section_model.specs.Lane.{Lane, heard, follow, gone_for, lowest_free, stray_answer, legal_outputs, openings_after, IsConnectionJournal}
use Rattle.lane_law.specs.Played.{played_from, given_of}
use Rattle.section_rows.specs.Examples.{routed}

-- the outputs of a lane for these events
unfoldable pub played : Lane → List Event → List (List Output)
unfolding value_at variable_at variables_at options_in options_at values_of octets_of are_in_range
    message_as reading_of spelling_of is_in_range
    digits_in title_at point_at ssn_at address_of title_octets address_spelling
    translation_of local_answer ssn_answer availability_of entity_answer title_answer route_of called_onward status_outputs
    arrival_of arrival_in section_row user_row line_hears line_fires line_takes
    windowed_hears windowed_fires windowed_takes leaves acknowledges user_asks user_takes timers_after
    section_hears section_fires section_takes exchange
    hears_message asks fires_due after_event connection_step hears
    wish_of question_of opened_by_cr opened_by_user slots_needed opened
    heard follow gone_for lowest_free stray_answer legal_outputs openings_after played_from
played lane events = played_from lane [] (map (routed lane) events)

-- The rows, over legal journals.

-- a journal of these events, each with what routing answers
abbrev pub IsOf : Lane → List Event → List Entry → Type 0
IsOf lane events journal = map given_of journal ≡ map (routed lane) events

-- such a journal is legal exactly where its entries have these outputs, one list for each
pub record Shows (lane : Lane) (events : List Event) (outs : List (List Output)) : Type 0 where
  pub exactly : (journal : List Entry) → IsOf lane events journal → IsConnectionJournal lane journal ↔ (map (λ e. e.outs) journal ≡ outs)
