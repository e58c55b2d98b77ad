use Rattle.std.proofs.Common.{◌≡◌, ◌++◌, codes, ap, sym, ◌∙◌, subst, rules}
use Rattle.relay_base.specs.Streams.{AppendedPart}
use Rattle.journal_text.specs.Print.{book_text}
use Rattle.journal_text.specs.Inner.Pieces.{pieces_text}
use Rattle.journal_text.specs.Inner.Writing.{Carried}
use Rattle.journal_text.proofs.Parts.{OnErr-of, Carried-ends, Carried-ends-part, book-parts}
use Rattle.journal_text.proofs.writing.write_book.Goals as goal
use Rattle.journal_text.proofs.writing.write_book.Goals.{After-branch-carry_pieces}

-- what is carried is the print of the book
whole : (g : _) (c : After-branch-carry_pieces g) → c.in_ok-text.text ++ pieces_text c.as_slice.result.now ≡ book_text c.args.book.now
whole g c =
    let line : c.in_ok-text.text ≡ codes "= control\n" = search rules in
    let lent : c.as_slice.result.now ≡ c.in_ok-pieces.pieces.items = search rules in
    ap (λ l. l ++ pieces_text c.as_slice.result.now) line ∙ ap (λ l. codes "= control\n" ++ pieces_text l) lent ∙ ap (λ l. codes "= control\n" ++ l) c.in_ok-pieces.ensures ∙ book-parts c.args.book.now

pub returns-in_err-carry_pieces-clause-err : goal.returns-in_err-carry_pieces-clause-err
returns-in_err-carry_pieces-clause-err g c =
    let same = whole g (goal.at.returns-in_err-carry_pieces-clause-err g c).After-branch-carry_pieces in
    OnErr-of _ _ (subst (AppendedPart (g.K.Sink.held c.args.out.now) (g.K.Sink.held c.carry_pieces.new.out)) same c.in_err-carry_pieces.ensures.err)

pub returns-clause-ok : goal.returns-clause-ok
returns-clause-ok g c =
    let same = whole g (goal.at.returns-clause-ok g c).After-branch-carry_pieces in
    Carried-ends _ _ _ _ _ _ _ _ c.write_text.result (rw same at c.in_ok-carry_pieces.ensures.ok) (search rules) c.write_text.ensures.ok

pub returns-clause-err : goal.returns-clause-err
returns-clause-err g c =
    let same = whole g (goal.at.returns-clause-err g c).After-branch-carry_pieces in
    Carried-ends-part _ _ _ _ _ _ _ _ c.write_text.result (rw same at c.in_ok-carry_pieces.ensures.ok) (search rules) c.write_text.ensures.err
