-- The print of lines that are left, by the first of them.
use Rattle.std.proofs.Common.{◌≡◌, ℕ, ◌+◌, ◌<◌, List, [], ◌∷◌, ◌++◌, length, get_or, drop, sym, ap, subst, ◌∙◌, append_assoc, length-append, arith}
use Rattle.std.proofs.lemmas.List.{at_drop_more}
use Rattle.chain_step.specs.Run.{start, after_step}
use Rattle.chain_step.specs.Chains.{ChainState, run_in}
use Rattle.chain_form.specs.Chain.{AreSteps}
use Rattle.chain_form.specs.declared.reading.ChainInput.{ChainInput}
use Rattle.chain_form.specs.declared.reading.StepLine.{StepLine}
use Rattle.chain_step.proofs.Running.{after_more}
use Rattle.chain_text.specs.Print.{step_text, text_from, run_text}
use Rattle.chain_text.specs.Inner.Running.{after_line}

-- the run of one step more
run_after : (chain : ChainState) (line : StepLine) → run_in (after_line chain line) ≡ after_step (run_in chain) line.step
run_after chain line = after_more (start chain.nodes) chain.steps line.step

pub lines-left : (lines : List StepLine) (n : ℕ) (line : StepLine) (chain later : ChainState) (text : List ℕ) → n < length lines → line ≡ get_or lines n line → later ≡ after_line chain line
    → text ++ text_from (run_in chain) (drop n lines) ≡ (text ++ step_text (run_in chain) line) ++ text_from (run_in later) (drop (n + 1) lines)
lines-left lines n line chain later text within is after =
    let more = drop (n + 1) lines in
    let before = run_in chain in
    let first = at_drop_more (text_from before) lines n line within ∙ ap (λ (l : StepLine). step_text before l ++ text_from (after_step before l.step) more) (sym is) in
    let next = sym (run_after chain line) ∙ ap run_in (sym after) in
    ap (λ l. text ++ l) (first ∙ ap (λ r. step_text before line ++ text_from r more) next)
    ∙ sym (append_assoc text (step_text before line) (text_from (run_in later) more))

-- before the first step
pub from-start : (chain : ChainState) (lines : List StepLine) (input : ChainInput) → chain ≡ record { nodes = input.nodes; steps = [] } → lines ≡ input.steps
    → text_from (run_in chain) lines ≡ run_text input
from-start chain lines input begun same = λ i. text_from (run_in (begun i)) (same i)

-- what is known of the lines that are left
pub steps-left : (lines : List StepLine) (n : ℕ) (line : StepLine) (chain later : ChainState) → n < length lines → later ≡ after_line chain line → AreSteps chain.nodes (drop n lines)
    → AreSteps later.nodes (drop (n + 1) lines)
steps-left lines n line chain later within after all =
    let rest : AreSteps chain.nodes (drop (n + 1) lines) = (subst (AreSteps chain.nodes) (at_drop_more (λ l. l) lines n line within) all).1 in
    subst (λ (c : ChainState). AreSteps c.nodes (drop (n + 1) lines)) (sym after) rest

-- how many steps were taken
pub taken-more : (n before : ℕ) (line : StepLine) (chain later : ChainState) → later ≡ after_line chain line → length chain.steps ≡ before + n → length later.steps ≡ before + (n + 1)
taken-more n before line chain later after taken =
    omega (arith, ap (λ (c : ChainState). length c.steps) after, length-append chain.steps (line.step ∷ []), taken)
