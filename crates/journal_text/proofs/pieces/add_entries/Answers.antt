use Rattle.std.proofs.Common.{◌≡◌, ◌≤◌, ◌++◌, [], ◌∷◌, length, append-nil, sym, ap, ◌∙◌, subst, arith, rules}
use Rattle.std.proofs.lemmas.List.{drop_all}
use Rattle.std.specs.List.{flat_map}
use Rattle.std.specs.Slice.Iter.{chunks_rest}
use Rattle.journal_text.specs.Inner.Pieces.{pieces_text}
use Rattle.journal_text.proofs.Parts.{pieces-push, window-left}
use Rattle.journal_text.proofs.pieces.add_entries.Goals as goal

pub loop-some-preserved : goal.loop-some-preserved
loop-some-preserved g c =
    let print = g.P.Printed.print in
    let old = c.loop-some.pieces.items in
    let some = c.in-Some.some.now in
    let left = chunks_rest c.next.new.self in
    let items : c.push.new.self.items ≡ old ++ c.piece.result ∷ [] = search rules in (
      search rules,
      tt,
      search rules,
      ap (λ l. pieces_text l ++ flat_map print left) items
          ∙ pieces-push old c.piece.result (flat_map print some) (flat_map print left) c.piece.ensures
          ∙ sym (window-left print _ some left (pieces_text old) c.in-Some.ensures.steps.1.0)
          ∙ c.loop-some.invariant.3,
    )

pub returns : goal.returns
returns g c =
    let print = flat_map g.P.Printed.print in
    let rest = chunks_rest c.loop-some.some-iterator in
    let ended : length rest ≡ 0 = c.in-None.ensures.steps.1.0 in
    let none : rest ≡ [] = drop_all 0 rest (subst (λ n. n ≤ 0) (sym ended) (omega arith)) in
    sym (ap (λ l. pieces_text c.loop-some.pieces.items ++ print l) none ∙ append-nil (pieces_text c.loop-some.pieces.items)) ∙ c.loop-some.invariant.3
