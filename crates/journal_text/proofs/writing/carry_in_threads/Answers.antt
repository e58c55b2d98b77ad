use Rattle.std.proofs.Common.{◌≡◌, ℕ, ◌++◌, List, [], ◌∷◌, Result, IfOk, append-nil, append_assoc, sym, ap, ◌∙◌, subst, arith, rules}
use Rattle.std.proofs.lemmas.List.{nil_from_length}
use Rattle.block_threads.specs.Items.{Beside}
use Rattle.block_threads.proofs.BesideLemmas.{beside_weaker}
use Rattle.block_threads.proofs.EachLemmas.{beside_first, beside_end}
use Rattle.journal_text.specs.declared.pieces.Piece.{Piece}
use Rattle.journal_text.specs.Inner.Pieces.{piece_text, pieces_text}
use Rattle.journal_text.specs.Inner.Writing.{Carried}
use Rattle.journal_text.proofs.Parts.{Carried-nil, Carried-then, Carries-fails}
use Rattle.journal_text.proofs.writing.carry_in_threads.Goals as goal
use Rattle.journal_text.proofs.writing.carry_in_threads.Goals.{After-carry_print}

-- it is the print of a piece, where there was memory for it
abbrev is_print : {E : Type 0} → Piece → Result (List ℕ) E → Type 0
is_print piece made = IfOk made (λ text. text ≡ piece_text piece)

-- what comes next is the print of a piece, and behind it come those of what is left
record Next (g : _) (c : After-carry_print g) : Type 0 where
  pub first : Piece
  pub rest : List Piece
  pub made : is_print first c.in-Some.print
  pub behind : Beside is_print rest c.next.new.self.rest.items
  pub so_far : Carried (g.K.Sink.held c.args.out.now) (g.K.Sink.held c.loop-print.out) (g.K.Sink.faults c.args.out.now) (g.K.Sink.faults c.loop-print.out)
      (c.args.text.now ++ pieces_text c.args.pieces.now) ((c.loop-print.text ++ piece_text first) ++ pieces_text rest)

next : (g : _) (c : After-carry_print g) → Next g c
next g c =
    let comes : c.loop-print.print-iterator.rest.items ≡ c.in-Some.print ∷ c.next.new.self.rest.items = search rules in
    let (left, carried, beside) = c.loop-print.invariant in
    let (first, rest, parted, here, behind) = beside_first is_print left c.in-Some.print c.next.new.self.rest.items (subst (Beside is_print left) comes beside) in
    record {
      first = first;
      rest = rest;
      made = here;
      behind = behind;
      so_far = subst (Carried (g.K.Sink.held c.args.out.now) (g.K.Sink.held c.loop-print.out) (g.K.Sink.faults c.args.out.now) (g.K.Sink.faults c.loop-print.out) (c.args.text.now ++ pieces_text c.args.pieces.now))
          (ap (λ l. c.loop-print.text ++ pieces_text l) parted ∙ sym (append_assoc c.loop-print.text (piece_text first) (pieces_text rest))) carried;
    }

pub loop-print-init : goal.loop-print-init
loop-print-init g c =
    let pieces = c.args.pieces.now in
    let prints = c.in_ok-prints.prints.items in (
      pieces,
      Carried-nil _ _ _,
      subst (Beside is_print pieces) {x = prints} (search rules)
          (beside_weaker _ is_print pieces prints (λ piece made gives. subst (λ p. is_print p made) gives.shows gives.says.met) c.in_ok-prints.ensures),
    )

pub returns-in_err-carry_print : goal.returns-in_err-carry_print
returns-in_err-carry_print g c =
    let at = next g (goal.at.returns-in_err-carry_print g c).After-carry_print in
    Carries-fails _ _ _ _ _ _ _ (c.loop-print.text ++ piece_text at.first) _ _ _ _ _ at.so_far (c.in_err-carry_print.ensures (piece_text at.first) at.made) (search rules)

pub loop-print-preserved : goal.loop-print-preserved
loop-print-preserved g c =
    let at = next g (goal.at.loop-print-preserved g c).After-carry_print in
    (at.rest, Carried-then _ _ _ _ _ _ _ (c.loop-print.text ++ piece_text at.first) _ _ at.so_far (c.in_ok-carry_print.ensures (piece_text at.first) at.made).ok, at.behind)

pub returns : goal.returns
returns g c =
    let (left, so_far, beside) = c.loop-print.invariant in
    let ended = nil_from_length c.loop-print.print-iterator.rest.items (omega (arith, c.loop-print.print-iterator.rest.ok, c.in-None.ensures.steps)) in
    let none = beside_end is_print left (subst (Beside is_print left) ended beside) in
    let carried = subst (Carried (g.K.Sink.held c.args.out.now) (g.K.Sink.held c.loop-print.out) (g.K.Sink.faults c.args.out.now) (g.K.Sink.faults c.loop-print.out) (c.args.text.now ++ pieces_text c.args.pieces.now))
    (ap (λ l. c.loop-print.text ++ pieces_text l) none ∙ append-nil c.loop-print.text) so_far in
    record { ok = carried; err = tt; fault = λ s. search rules; kept = λ s. carried.kept }
