use Rattle.std.proofs.Common.{◌≡◌, ◌++◌, List, IfOk}
use Rattle.block_threads.specs.Items.{Beside}
use Rattle.journal_text.specs.Inner.Pieces.{piece_text, pieces_text}
use Rattle.journal_text.specs.Inner.Writing.{Carried}
use Rattle.journal_text.proofs.writing.carry_in_threads.Given as goal

-- the print of these pieces is to come, and it stands in the texts that are left
abbrev pub invariant-loop-print : goal.invariant-loop-print
invariant-loop-print g l =
    (left : List _)
    × Carried (g.K.Sink.held l.initial.out) (g.K.Sink.held l.out) (g.K.Sink.faults l.initial.out) (g.K.Sink.faults l.out)
    (l.initial.text ++ pieces_text l.pieces) (l.text ++ pieces_text left)
    × Beside (λ piece made. IfOk made (λ text. text ≡ piece_text piece)) left l.print-iterator.rest.items
