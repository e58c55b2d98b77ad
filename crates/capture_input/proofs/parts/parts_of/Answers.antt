use Rattle.std.proofs.Common.{◌≡◌, ◌&&◌, ◌||◌, ◌∙◌, codes, true, false, sym, ap, ap₂}
use Rattle.capture_input.specs.Audit.{is_line}
use Rattle.capture_input.proofs.PartLemmas.{is_parting, passed-none, passed-all, passed-found, passed-more}
use Rattle.capture_input.proofs.parts.parts_of.Goals.{else-headed-via-then-headed+else-is_line, else-headed-via-else-headed}
use Rattle.capture_input.proofs.parts.parts_of.Goals as goal

pub loop-line-init : goal.loop-line-init
loop-line-init c = passed-none c.lines_with_terminator-lines.result c.args.bytes.now c.lines_with_terminator-lines.ensures.value

pub returns-then-is_line-clause-value : goal.returns-then-is_line-clause-value
returns-then-is_line-clause-value c =
    let l = c.loop-line in
    let line = c.in-Some.line.now in
    let parting : is_parting l.headed line ≡ true = ap₂ (λ a b. a && b) c.if-headed.true (sym c.is_line.ensures ∙ c.if-is_line.true) in
    passed-found l.at l.headed l.lines c.args.bytes.now line c.next.new.self l.invariant c.in-Some.ensures.steps parting

pub loop-line-preserved : goal.loop-line-preserved
loop-line-preserved c =
    let l = c.loop-line in
    let line = c.in-Some.line.now in
    let other : is_parting l.headed line ≡ false =
    elim c.else-headed.branch [
      | else-headed-via-then-headed+else-is_line w ↦ ap₂ (λ a b. a && b) w.if-headed.true (sym w.is_line.ensures ∙ w.if-is_line.false)
      | else-headed-via-else-headed w ↦ ap (λ a. a && is_line (codes "%%%") line) w.if-headed.false
    ] in
    passed-more l.at l.headed (l.headed || c.is_line-headed.result) l.lines c.args.bytes.now line c.next.new.self l.invariant c.in-Some.ensures.steps other
    (ap (λ t. l.headed || t) c.is_line-headed.ensures)

pub returns-clause-value : goal.returns-clause-value
returns-clause-value c = passed-all c.loop-line.at c.loop-line.headed c.loop-line.lines c.args.bytes.now c.loop-line.invariant c.in_default.ensures.steps.0
