-- What a control lane that takes the events of a capture again keeps, and what the lines of a part are beside its last entry.
use Rattle.std.specs.Prelude.{◌≡◌, ◌&&◌, Bool, List, [], ◌∷◌, ◌++◌, map}
use Rattle.plant_core.specs.declared.change.Group.{Group}
use Rattle.plant_core.specs.declared.entry.ControlEntry.{ControlEntry}
use Rattle.scmg.specs.Lane.{ControlState, changes_of}
use Rattle.node_head.specs.declared.head.Head.{Head}
use Rattle.book_output.specs.Print.{line_of_control, line_of_output}
use Rattle.journal_form.specs.Parts.{EntryPart}
use Rattle.journal_form.specs.Words.{same}
use Rattle.right_book.specs.Heads.{routing_of, control_head_of}
use Rattle.journal_finding.specs.Entries.{same_lines}

-- the lane is that of the head, and these are the groups of changes that it published
pub record IsLaneOf (head : Head) (lane : ControlState) (groups : List Group) : Type 0 where
  pub head_is : lane.head ≡ control_head_of head
  pub start_is : lane.start ≡ routing_of head
  pub published : groups ≡ changes_of lane

-- the lines of a part are those of an entry
abbrev pub has_lines : ControlEntry → EntryPart → Bool
has_lines entry part = same (line_of_control entry) part.text && same_lines (map line_of_output entry.outs) part.outs

-- whether they are those of the last entry of a journal, where it has one
abbrev pub IsLastWritten : List ControlEntry → EntryPart → Bool → Type 0
IsLastWritten journal part written =
    (before : List ControlEntry) (entry : ControlEntry) → journal ≡ before ++ entry ∷ [] → written ≡ has_lines entry part
