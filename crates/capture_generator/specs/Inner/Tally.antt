-- How the code counts.
use Rattle.std.specs.Prelude.{◌+◌, List, length, fold}
use Rattle.relay_base.specs.declared.words.Output.{Output}
use Rattle.relay_base.specs.declared.words.Output.TheVariants.{Sent, Told, Lost}
use Rattle.plant_core.specs.declared.entry.Entry.{Entry}
use Rattle.plant_core.specs.declared.entry.ControlEntry.{ControlEntry}
use Rattle.journal_text.specs.declared.book.Book.{Book}
use Rattle.capture_generator.specs.Counts.{outputs_in, many, is_sent, is_told, is_lost}
use Rattle.capture_generator.specs.declared.tally.Counts.{Counts}

abbrev pub no_counts : Counts
no_counts = record { entries = 0; sent = 0; told = 0; lost = 0 }

abbrev pub counts_of : Book → Counts
counts_of book =
    let outputs = outputs_in book in record {
      entries = length outputs;
      sent = many is_sent outputs;
      told = many is_told outputs;
      lost = many is_lost outputs;
    }

-- one output more
abbrev pub with_output : Counts → Output → Counts
with_output c (Sent point sls bytes) = record c { sent = c.sent + 1 }
with_output c (Told ssn tell) = record c { told = c.told + 1 }
with_output c (Lost loss) = record c { lost = c.lost + 1 }

-- one entry more, with its outputs
abbrev pub with_entry : Counts → List Output → Counts
with_entry c outs = fold with_output (record c { entries = c.entries + 1 }) outs

-- the entries of a journal more, of the journal of the control lane, of the journals of lanes
abbrev pub with_journal : Counts → List Entry → Counts
with_journal c journal = fold (λ d e. with_entry d e.outs) c journal

abbrev pub with_control : Counts → List ControlEntry → Counts
with_control c journal = fold (λ d e. with_entry d e.outs) c journal

abbrev pub with_lanes : Counts → List (List Entry) → Counts
with_lanes c lanes = fold with_journal c lanes
