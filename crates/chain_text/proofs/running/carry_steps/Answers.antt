use Rattle.std.proofs.Common.{◌++◌, length, refl, ap, ◌∙◌, subst, rules}
use Rattle.std.proofs.lemmas.List.{drop_all}
use Rattle.journal_text.specs.Inner.Writing.{Carried}
use Rattle.journal_text.proofs.Parts.{Carried-then, Carries-fails}
use Rattle.chain_step.specs.Chains.{ChainState, run_in}
use Rattle.chain_text.specs.Print.{step_text, text_from}
use Rattle.chain_text.specs.Inner.Running.{after_line}
use Rattle.chain_text.proofs.LineLemmas.{lines-left, steps-left, taken-more}
use Rattle.chain_text.proofs.running.carry_steps.Goals as goal

pub returns-in_err-carry_step : goal.returns-in_err-carry_step
returns-in_err-carry_step g c =
    let lines = c.args.lines.now in
    let line = c.line-item.result in
    let chain = c.loop-line.chain in
    let text = c.loop-line.text in
    let left = lines-left lines c.loop-line.line-index line chain (after_line chain line) text c.loop-line-test.true c.line-item.is refl in
    let so_far = subst (Carried (g.K.Sink.held c.args.out.now) (g.K.Sink.held c.loop-line.out) (g.K.Sink.faults c.args.out.now) (g.K.Sink.faults c.loop-line.out) (c.args.text.now ++ text_from (run_in c.args.chain.now) lines)) left c.loop-line.invariant.carried in
    Carries-fails _ _ _ _ _ _ _ (text ++ step_text (run_in chain) line) _ _ _ _ _ so_far c.in_err-carry_step.ensures.text (search rules)

pub loop-line-preserved : goal.loop-line-preserved
loop-line-preserved g c =
    let lines = c.args.lines.now in
    let line = c.line-item.result in
    let chain = c.loop-line.chain in
    let later = c.carry_step.new.chain in
    let text = c.loop-line.text in
    let n = c.loop-line.line-index in
    let before = c.loop-line.invariant in
    let after = c.in_ok-carry_step.ensures.chain in
    let left = lines-left lines n line chain later text c.loop-line-test.true c.line-item.is after in
    let so_far = subst (Carried (g.K.Sink.held c.args.out.now) (g.K.Sink.held c.loop-line.out) (g.K.Sink.faults c.args.out.now) (g.K.Sink.faults c.loop-line.out) (c.args.text.now ++ text_from (run_in c.args.chain.now) lines)) left before.carried in
    record {
      carried = Carried-then _ _ _ _ _ _ _ (text ++ step_text (run_in chain) line) _ _ so_far c.in_ok-carry_step.ensures.text.ok;
      nodes = ap (λ (x : ChainState). x.nodes) after ∙ before.nodes;
      taken = taken-more n (length c.args.chain.now.steps) line chain later after before.taken;
      steps = steps-left lines n line chain later c.loop-line-test.true after before.steps;
    }

pub returns : goal.returns
returns g c =
    let carried = c.loop-line.invariant.carried in
    let none = drop_all c.loop-line.line-index c.args.lines.now c.loop-line-test.false in
    let whole = c.args.text.now ++ text_from (run_in c.args.chain.now) c.args.lines.now in
    record {
      ok = subst (λ left. Carried (g.K.Sink.held c.args.out.now) (g.K.Sink.held c.loop-line.out) (g.K.Sink.faults c.args.out.now) (g.K.Sink.faults c.loop-line.out) whole (c.loop-line.text ++ text_from (run_in c.loop-line.chain) left)) none carried;
      err = tt;
      fault = λ s. search rules;
      kept = λ s. carried.kept;
    }
