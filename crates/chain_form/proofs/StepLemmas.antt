-- Steps with one more.
use Rattle.std.proofs.Common.{◌≡◌, ℕ, ◌<◌, List, [], ◌∷◌, ◌++◌, length, IsTrue, sym, subst, arith, length-append}
use Rattle.capture_form.specs.declared.steps.TheConstants.{MOST_LINES}
use Rattle.chain_step.specs.Steps.{is_step}
use Rattle.chain_form.specs.Chain.{AreSteps, AreInputSteps}
use Rattle.chain_form.specs.declared.reading.StepLine.{StepLine}

pushed : (nodes : ℕ) (steps : List StepLine) (s : StepLine) → AreSteps nodes steps → IsTrue (is_step nodes s.step) → AreSteps nodes (steps ++ s ∷ [])
pushed nodes [] s all one = (one, tt)
pushed nodes (x ∷ steps) s (first, more) one = (first, pushed nodes steps s more one)

pub steps_pushed : (nodes : ℕ) (steps later : List StepLine) (s : StepLine) → AreInputSteps nodes steps → IsTrue (is_step nodes s.step) → length steps < MOST_LINES
    → later ≡ steps ++ s ∷ [] → AreInputSteps nodes later
steps_pushed nodes steps later s (all, most) one few is =
    subst (AreInputSteps nodes) (sym is) (pushed nodes steps s all one, omega (arith, few, length-append steps (s ∷ [])))
