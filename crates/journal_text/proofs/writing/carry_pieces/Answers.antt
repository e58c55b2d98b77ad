use Rattle.std.proofs.Common.{◌≡◌, ◌≤◌, ◌++◌, [], length, append-nil, sym, ap, ◌∙◌, subst, arith, rules}
use Rattle.std.proofs.lemmas.List.{drop_all}
use Rattle.std.specs.Slice.Iter.{chunks_rest}
use Rattle.journal_text.specs.Inner.Pieces.{piece_text, pieces_text}
use Rattle.journal_text.specs.Inner.Writing.{Carried}
use Rattle.journal_text.proofs.Parts.{window-left, Carried-then, Carries-fails}
use Rattle.journal_text.proofs.writing.carry_pieces.Goals as goal
use Rattle.journal_text.proofs.writing.carry_pieces.Goals.{After-branch-carry_window}

-- the print of this window is to come, and that of the windows behind it
so_far : (g : _) (c : After-branch-carry_window g) →
    Carried (g.K.Sink.held c.args.out.now) (g.K.Sink.held c.loop-window.out) (g.K.Sink.faults c.args.out.now) (g.K.Sink.faults c.loop-window.out)
    (c.args.text.now ++ pieces_text c.args.pieces.now)
    ((c.loop-window.text ++ pieces_text c.in-Some.window.now) ++ pieces_text (chunks_rest c.next.new.self))
so_far g c =
    let left = window-left piece_text _ c.in-Some.window.now (chunks_rest c.next.new.self) c.loop-window.text c.in-Some.ensures.steps.1.0 in
    subst (Carried (g.K.Sink.held c.args.out.now) (g.K.Sink.held c.loop-window.out) (g.K.Sink.faults c.args.out.now) (g.K.Sink.faults c.loop-window.out) (c.args.text.now ++ pieces_text c.args.pieces.now)) left c.loop-window.invariant.3

pub returns-in_err-carry_window : goal.returns-in_err-carry_window
returns-in_err-carry_window g c =
    let before = so_far g (goal.at.returns-in_err-carry_window g c).After-branch-carry_window in
    Carries-fails _ _ _ _ _ _ _ (c.loop-window.text ++ pieces_text c.in-Some.window.now) _ _ _ _ _ before c.in_err-carry_window.ensures (search rules)

pub loop-window-preserved : goal.loop-window-preserved
loop-window-preserved g c =
    let before = so_far g (goal.at.loop-window-preserved g c).After-branch-carry_window in (
      search rules,
      tt,
      search rules,
      Carried-then _ _ _ _ _ _ _ (c.loop-window.text ++ pieces_text c.in-Some.window.now) _ _ before c.in_ok-carry_window.ensures.ok,
    )

pub returns : goal.returns
returns g c =
    let rest = chunks_rest c.loop-window.window-iterator in
    let ended : length rest ≡ 0 = c.in-None.ensures.steps.1.0 in
    let none : rest ≡ [] = drop_all 0 rest (subst (λ n. n ≤ 0) (sym ended) (omega arith)) in
    let left = ap (λ l. c.loop-window.text ++ pieces_text l) none ∙ append-nil c.loop-window.text in
    let carried = subst (Carried (g.K.Sink.held c.args.out.now) (g.K.Sink.held c.loop-window.out) (g.K.Sink.faults c.args.out.now) (g.K.Sink.faults c.loop-window.out) (c.args.text.now ++ pieces_text c.args.pieces.now)) left c.loop-window.invariant.3 in
    record { ok = carried; err = tt; fault = λ s. search rules; kept = λ s. carried.kept }
