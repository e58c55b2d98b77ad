-- How the code goes through a book.
use Rattle.std.specs.Prelude.{ℕ, List}
use Rattle.std.specs.List.{flat_map}
use Rattle.plant_core.specs.declared.entry.Entry.{Entry}
use Rattle.plant_core.specs.declared.entry.ControlEntry.{ControlEntry}
use Rattle.book_output.specs.Sending.{frames_of_outs}

abbrev pub control_frames : ℕ → List ControlEntry → List ℕ
control_frames own journal = flat_map (λ e. frames_of_outs own e.outs) journal

abbrev pub journal_frames : ℕ → List Entry → List ℕ
journal_frames own journal = flat_map (λ e. frames_of_outs own e.outs) journal

abbrev pub lanes_frames : ℕ → List (List Entry) → List ℕ
lanes_frames own lanes = flat_map (journal_frames own) lanes
