-- What clauses see of words and of fields.
use Rattle.std.specs.Prelude.{ℕ, List, map, option_map}
use Rattle.std.specs.Borrow.{Bor}
use Rattle.journal_form.specs.declared.field.Field.{Field}
use Rattle.journal_form.specs.declared.field.Field.TheVariants.{Is, Number, Octets, Way, Reason}
use Rattle.journal_form.specs.declared.heading.Routing.{Routing}
use Rattle.journal_form.specs.declared.heading.EntryLine.{EntryLine}
use Rattle.journal_form.specs.declared.parts.EntryForm.{EntryForm}
use Rattle.journal_form.specs.declared.parts.LaneForm.{LaneForm}
use Rattle.journal_form.specs.Outputs as grammar
use Rattle.journal_form.specs.Headings.{RoutingWords, EntryWords}
use Rattle.journal_form.specs.Parts.{EntryPart, LanePart}

abbrev pub texts : List (Bor (List ℕ)) → List (List ℕ)
texts words = map (λ w. w.now) words

abbrev pub seen_field : Field → grammar.Field
seen_field (Is text) = grammar.Is text.now
seen_field Number = grammar.Number
seen_field Octets = grammar.Octets
seen_field Way = grammar.Way
seen_field Reason = grammar.Reason

abbrev pub seen_shape : List Field → List grammar.Field
seen_shape shape = map seen_field shape

abbrev pub seen_routing : Routing → RoutingWords
seen_routing r = record { edition = r.edition.now; way = r.way.now; value = r.value.now }

abbrev pub seen_entry : EntryLine → EntryWords
seen_entry e = record {
  phase = e.phase.now;
  link = e.link.now;
  line = e.line.now;
  asked = option_map seen_routing e.asked;
  published = option_map (λ w. w.now) e.published;
}

abbrev pub seen_part : EntryForm → EntryPart
seen_part e = record { number = e.number; text = e.text.now; words = seen_entry e.words; outs = texts e.outs.items }

abbrev pub seen_parts : List EntryForm → List EntryPart
seen_parts es = map seen_part es

abbrev pub seen_lane : LaneForm → LanePart
seen_lane lane = record { number = lane.number; text = lane.text.now; entries = seen_parts lane.entries.items }

abbrev pub seen_lanes : List LaneForm → List LanePart
seen_lanes lanes = map seen_lane lanes
