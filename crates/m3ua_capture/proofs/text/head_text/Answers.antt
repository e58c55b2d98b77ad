use Rattle.std.proofs.Common.{◌≡◌, [], ◌∷◌, ◌++◌, ◌∙◌, true, false, sym, ap}
use Rattle.node_head.specs.Lines.{is_mark, joined}
use Rattle.m3ua_capture.specs.OneLink.{lines_before}
use Rattle.m3ua_capture.proofs.TextLemmas.{before-mark, before-nil, before-more}
use Rattle.m3ua_capture.proofs.text.head_text.Goals as goal

pub returns-then-eq : goal.returns-then-eq
returns-then-eq c =
    let mark : is_mark c.in-Some.line.now ≡ true = cc in
    sym (before-mark c.loop-line.text.items c.loop-line.lines c.in-Some.line.now c.next.new.self c.in-Some.ensures.steps mark) ∙ c.loop-line.invariant

pub loop-line-preserved : goal.loop-line-preserved
loop-line-preserved c =
    let other : is_mark c.in-Some.line.now ≡ false = cc in
    let text = c.loop-line.text.items in
    let longer : c.push.new.self.items ≡ (text ++ c.in-Some.line.now) ++ 10 ∷ [] = c.in_ok-push.ensures.items ∙ ap (λ t. t ++ 10 ∷ []) c.in_ok-extend_from_slice.ensures.items in
    ap (λ t. t ++ joined (lines_before c.next.new.self)) longer
    ∙ before-more text c.loop-line.lines c.in-Some.line.now c.next.new.self c.in-Some.ensures.steps other
    ∙ c.loop-line.invariant

pub returns : goal.returns
returns c = sym (before-nil c.loop-line.text.items c.loop-line.lines c.in_default.ensures.steps.0) ∙ c.loop-line.invariant
