use Rattle.std.proofs.Common.{◌≡◌, ◌++◌, [], ◌∷◌, ◌+◌, append-nil, drop, refl, sym, ap, ◌∙◌, rules}
use Rattle.journal_text.specs.Print.{entries_text, lanes_text}
use Rattle.journal_text.specs.declared.pieces.Piece.{Piece}
use Rattle.journal_text.specs.declared.pieces.Piece.TheVariants as piece
use Rattle.journal_text.specs.Inner.Pieces.{above_text, pieces_text}
use Rattle.journal_text.proofs.Parts.{pieces-push, lanes-left}
use Rattle.journal_text.proofs.pieces.add_lanes.Goals as goal

pub loop-number-preserved : goal.loop-number-preserved
loop-number-preserved c =
    let lanes = c.args.lanes.now in
    let name = c.args.name.now in
    let n = c.loop-number.number in
    let old = pieces_text c.loop-number.pieces.items in
    let above = pieces_text c.push.new.self.items in
    let entries = c.as_slice.result.now in
    let more = lanes_text name (n + 1) (drop (n + 1) lanes) in
    let line : Piece = piece.Above c.args.name n in
    let items : c.push.new.self.items ≡ c.loop-number.pieces.items ++ line ∷ [] = search rules in
    let joined : above ≡ old ++ above_text name n =
    ap pieces_text items ∙ sym (append-nil _) ∙ pieces-push c.loop-number.pieces.items line (above_text name n) [] refl ∙ append-nil _ in
    ap (λ l. l ++ more) c.in_ok-add_entries.ensures
    ∙ sym (lanes-left name lanes n c.index-lanes-number.result entries old above c.loop-number-test.true c.index-lanes-number.is (search rules) joined)
    ∙ c.loop-number.invariant
