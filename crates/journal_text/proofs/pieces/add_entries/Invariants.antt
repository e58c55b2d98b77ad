use Rattle.std.proofs.Common.{◌≡◌, ◌++◌}
use Rattle.std.specs.List.{flat_map}
use Rattle.std.specs.Slice.Iter.{chunks_rest, chunks_size}
use Rattle.journal_text.specs.Inner.Pieces.{pieces_text}
use Rattle.journal_text.proofs.pieces.add_entries.Given as goal

-- the print of the pieces so far, and that of the entries that are left
abbrev pub invariant-loop-some : goal.invariant-loop-some
invariant-loop-some g l =
    let print = flat_map g.P.Printed.print in
    (goal.iterator-loop-some g).can_next l.some-iterator
    × (goal.iterator-loop-some g).is_finite l.some-iterator
    × (chunks_size l.some-iterator ≡ 256)
    × (pieces_text l.pieces.items ++ print (chunks_rest l.some-iterator) ≡ pieces_text l.initial.pieces.items ++ print l.entries)
