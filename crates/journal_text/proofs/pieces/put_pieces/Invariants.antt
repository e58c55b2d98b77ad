use Rattle.std.proofs.Common.{◌≡◌, ◌++◌, drop}
use Rattle.journal_text.specs.Inner.Pieces.{pieces_text}
use Rattle.journal_text.proofs.pieces.put_pieces.Given as goal

-- the text so far, and the print of the pieces that are left
abbrev pub invariant-loop-piece : goal.invariant-loop-piece
invariant-loop-piece l = l.text ++ pieces_text (drop l.piece-index l.pieces) ≡ l.initial.text ++ pieces_text l.pieces
