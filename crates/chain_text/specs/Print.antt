-- What is printed of a run: a line for each thing that a user is told at a step, or for a step at which nothing waited to pass, and how many messages wait
-- at the end.
use Rattle.std.specs.Prelude.{ℕ, codes, List, [], ◌∷◌, ◌++◌, if◌then◌else◌}
use Rattle.std.specs.List.{flat_map}
use Rattle.std.specs.Fmt.{decimal}
use Rattle.relay_base.specs.declared.words.Tell.{Tell}
use Rattle.journal_text.specs.Print.{spaced, tell_text}
use Rattle.chain_step.specs.Run.{RunState, start, waiting_count, after_step, tells_by, is_idle}
use Rattle.chain_step.specs.declared.step.Step.{Step}
use Rattle.chain_step.specs.declared.step.Step.TheVariants.{Ask, Pass, Tick}
use Rattle.chain_form.specs.declared.reading.ChainInput.{ChainInput}
use Rattle.chain_form.specs.declared.reading.StepLine.{StepLine}

-- the node that a step names
abbrev pub named_node : Step → ℕ
named_node (Ask node request) = node
named_node (Pass node forward) = node
named_node (Tick node) = node

-- words in a line
abbrev pub line_of : List (List ℕ) → List ℕ
line_of ws = spaced ws ++ codes "\n"

-- <line> <node> <tell>
abbrev pub tell_line : ℕ → ℕ × Tell → List ℕ
tell_line line (node, tell) = line_of (decimal line ∷ decimal node ∷ tell_text tell ∷ [])

-- what users are told at the step of a line
abbrev pub tells_text : ℕ → List (ℕ × Tell) → List ℕ
tells_text line tells = flat_map (tell_line line) tells

-- <line> <node> none
abbrev pub none_line : ℕ → ℕ → List ℕ
none_line line node = line_of (decimal line ∷ decimal node ∷ codes "none" ∷ [])

-- the step of a line, as it is taken in this state
abbrev pub step_text : RunState → StepLine → List ℕ
step_text r s = if is_idle s.step r then none_line s.line (named_node s.step) else tells_text s.line (tells_by s.step r)

-- waiting <messages>
abbrev pub waiting_line : ℕ → List ℕ
waiting_line count = line_of (codes "waiting" ∷ decimal count ∷ [])

-- the steps to come from this state on, and then how many messages wait in all queues
abbrev pub text_from : RunState → List StepLine → List ℕ
text_from r [] = waiting_line (waiting_count r)
text_from r (s ∷ more) = step_text r s ++ text_from (after_step r s.step) more

-- the run of an input
abbrev pub run_text : ChainInput → List ℕ
run_text input = text_from (start input.nodes) input.steps
