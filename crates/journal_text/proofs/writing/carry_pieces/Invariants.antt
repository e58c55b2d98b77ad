use Rattle.std.proofs.Common.{◌≡◌, ◌++◌}
use Rattle.std.specs.Slice.Iter.{chunks_rest, chunks_size}
use Rattle.journal_text.specs.Inner.Pieces.{pieces_text}
use Rattle.journal_text.specs.Inner.Writing.{Carried}
use Rattle.journal_text.proofs.writing.carry_pieces.Given as goal

-- with the print of the windows that are left, a front of all was written
abbrev pub invariant-loop-window : goal.invariant-loop-window
invariant-loop-window g l =
    (goal.iterator-loop-window g).can_next l.window-iterator
    × (goal.iterator-loop-window g).is_finite l.window-iterator
    × (chunks_size l.window-iterator ≡ 128)
    × Carried (g.K.Sink.held l.initial.out) (g.K.Sink.held l.out) (g.K.Sink.faults l.initial.out) (g.K.Sink.faults l.out)
    (l.initial.text ++ pieces_text l.pieces)
    (l.text ++ pieces_text (chunks_rest l.window-iterator))
