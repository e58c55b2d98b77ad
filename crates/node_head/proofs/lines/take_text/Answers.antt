use Rattle.std.proofs.Common.{◌≡◌, ◌+◌, [], ◌∷◌, ◌++◌, ◌∙◌, true, false, sym, ap, arith, length}
use Rattle.node_head.specs.Lines.{is_mark, halves}
use Rattle.node_head.specs.Inner.Lines.{extended}
use Rattle.node_head.proofs.LineLemmas.{halves-mark, halves-nil, halves-more}
use Rattle.node_head.proofs.lines.take_text.Goals as goal

pub returns-then-eq : goal.returns-then-eq
returns-then-eq c =
    let mark : is_mark c.in-Some.line.now ≡ true = cc in
    sym (halves-mark c.loop-line.text.items c.loop-line.count c.loop-line.lines c.in-Some.line.now c.next.new.self c.in-Some.ensures.steps mark) ∙ c.loop-line.invariant.0

pub loop-line-preserved : goal.loop-line-preserved
loop-line-preserved c =
    let other : is_mark c.in-Some.line.now ≡ false = cc in
    let text = c.loop-line.text.items in
    let longer : c.push.new.self.items ≡ (text ++ c.in-Some.line.now) ++ 10 ∷ [] = c.in_ok-push.ensures.items ∙ ap (λ t. t ++ 10 ∷ []) c.in_ok-extend_from_slice.ensures.items in (
      ap (λ t. extended t (c.loop-line.count + 1) (halves c.next.new.self)) longer
          ∙ halves-more text c.loop-line.count c.loop-line.lines c.in-Some.line.now c.next.new.self c.in-Some.ensures.steps other ∙ c.loop-line.invariant.0,
      omega (arith, c.loop-line.invariant.1, ap length c.in-Some.ensures.steps),
    )

pub returns : goal.returns
returns c = sym (halves-nil c.loop-line.text.items c.loop-line.count c.loop-line.lines c.in_default.ensures.steps.0) ∙ c.loop-line.invariant.0
