use Rattle.std.proofs.Common.{◌≡◌, ◌+◌, ◌++◌, length, drop}
use Rattle.journal_text.specs.Inner.Writing.{Carried}
use Rattle.chain_step.specs.Chains.{run_in}
use Rattle.chain_form.specs.Chain.{AreSteps}
use Rattle.chain_text.specs.Print.{text_from}
use Rattle.chain_text.proofs.running.carry_steps.Given as goal

-- with the print of what is left, a front of all was written
abbrev pub invariant-loop-line : goal.invariant-loop-line
invariant-loop-line g l = record {
  carried : Carried (g.K.Sink.held l.initial.out) (g.K.Sink.held l.out) (g.K.Sink.faults l.initial.out) (g.K.Sink.faults l.out)
      (l.initial.text ++ text_from (run_in l.initial.chain) l.lines)
      (l.text ++ text_from (run_in l.chain) (drop l.line-index l.lines));
  nodes : l.chain.nodes ≡ l.initial.chain.nodes;
  taken : length l.chain.steps ≡ length l.initial.chain.steps + l.line-index;
  steps : AreSteps l.chain.nodes (drop l.line-index l.lines);
}
