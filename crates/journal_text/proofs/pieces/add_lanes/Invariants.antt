use Rattle.std.proofs.Common.{◌≡◌, ◌++◌, drop}
use Rattle.journal_text.specs.Print.{lanes_text}
use Rattle.journal_text.specs.Inner.Pieces.{pieces_text}
use Rattle.journal_text.proofs.pieces.add_lanes.Given as goal

-- the print of the pieces so far, and that of the lanes that are left
abbrev pub invariant-loop-number : goal.invariant-loop-number
invariant-loop-number l =
    pieces_text l.pieces.items ++ lanes_text l.name l.number (drop l.number l.lanes) ≡ pieces_text l.initial.pieces.items ++ lanes_text l.name 0 l.lanes
