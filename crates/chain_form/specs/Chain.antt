-- The number of nodes and the steps that an input states, or its first fault.
use Rattle.std.specs.Prelude.{ℕ, ◌+◌, ◌≤◌, ◌&&◌, nat_lt, nat_le, codes, List, [], ◌∷◌, ◌++◌, length, if◌then◌else◌, Option, Some, None, IsTrue, Ok, Err}
use Rattle.std.specs.List.{AllByRecursion}
use Rattle.std.specs.declared.result.Result.{Result}
use Rattle.relay_base.specs.Giving.{◌>>=◌, GivesOrMemory}
use Rattle.relay_base.specs.Decimal.{number_of}
use Rattle.relay_base.specs.declared.limits.TheConstants.{MOST_BYTES}
use Rattle.plant_core.specs.Terms.{IsWithin}
use Rattle.node_head.specs.Lines.{lines}
use Rattle.capture_form.specs.Text.{words, same}
use Rattle.capture_form.specs.Capture.{is_skipped}
use Rattle.capture_form.specs.declared.steps.TheConstants.{MOST_LINES}
use Rattle.capture_form.specs.declared.fault.LineKind.{LineKind}
use Rattle.capture_form.specs.declared.fault.LineKind.TheVariants.{Words, Number}
use Rattle.capture_form.specs.declared.fault.Limit.TheVariants.{Bytes, Lines}
use Rattle.chain_form.specs.Line.{step_of}
use Rattle.chain_step.specs.Steps.{is_step}
use Rattle.chain_form.specs.declared.reading.ChainInput.{ChainInput}
use Rattle.chain_form.specs.declared.reading.StepLine.{StepLine}
use Rattle.chain_form.specs.declared.reading.TheConstants.{LEAST_NODES, MOST_NODES}
use Rattle.chain_form.specs.declared.fault.ChainFault.{ChainFault}
use Rattle.chain_form.specs.declared.fault.ChainFault.TheVariants as refused

-- the fault that a refusal tells; none is want of memory
abbrev pub fault_in : ChainFault → Option ChainFault
fault_in refused.Memory = None
fault_in fault = Some fault

-- the call gave what the definition gives, unless memory ran out
abbrev pub Reads : {Y : Type 0} → Result Y ChainFault → Result Y ChainFault → Type 0
Reads result given = GivesOrMemory (λ x. x) fault_in result given

-- what a line gives, or its fault
abbrev pub at_line : {A : Type 0} → ℕ → Result A LineKind → Result A ChainFault
at_line number (Ok x) = Ok x
at_line number (Err kind) = Err (refused.Line record { line = number; kind = kind })

-- 2 to 8 nodes
abbrev pub count_in : Option ℕ → Result ℕ LineKind
count_in None = Err Number
count_in (Some n) = if nat_le LEAST_NODES n && nat_le n MOST_NODES then Ok n else Err Number

-- nodes <n>
abbrev pub nodes_of : List (List ℕ) → Result ℕ LineKind
nodes_of (word ∷ number ∷ []) = if same word (codes "nodes") then count_in (number_of number) else Err Words
nodes_of _ = Err Words

-- a step behind others; there are at most 200,000, which are counted before a line's form is tested
abbrev pub counted_step : ℕ → ℕ → List StepLine → List (List ℕ) → Result (List StepLine) ChainFault
counted_step nodes number steps ws =
    if nat_le MOST_LINES (length steps) then Err (refused.TooLong Lines)
    else at_line number (step_of nodes ws) >>= (λ s. Ok (steps ++ record { line = number; step = s } ∷ []))

-- the steps and that of one line more; an empty line and a comment have none
abbrev pub with_line : ℕ → ℕ → List StepLine → List ℕ → Result (List StepLine) ChainFault
with_line nodes number steps line = if is_skipped line then Ok steps else counted_step nodes number steps (words line)

-- the steps and those of the lines to come, of which the first has this number
unfoldable pub with_lines : ℕ → ℕ → List StepLine → List (List ℕ) → Result (List StepLine) ChainFault
with_lines nodes number steps [] = Ok steps
with_lines nodes number steps (line ∷ more) = with_line nodes number steps line >>= (λ found. with_lines nodes (number + 1) found more)

-- the lines of an input: the first has the number of nodes, and those after it the steps
abbrev pub chain_in : List (List ℕ) → Result ChainInput ChainFault
chain_in [] = Err (refused.Line record { line = 1; kind = Words })
chain_in (first ∷ more) = do
  nodes ← at_line 1 (nodes_of (words first))
  steps ← with_lines nodes 2 [] more
  Ok (record { nodes = nodes; steps = steps })

-- the input that is not too long
unfoldable pub chain_of : List ℕ → Result ChainInput ChainFault
chain_of bytes = if nat_lt MOST_BYTES (length bytes) then Err (refused.TooLong Bytes) else chain_in (lines bytes)

-- each is a step that so many nodes can take
abbrev pub AreSteps : ℕ → List StepLine → Type 0
AreSteps nodes steps = AllByRecursion (λ s. IsTrue (is_step nodes s.step)) steps

-- and there are not too many
abbrev pub AreInputSteps : ℕ → List StepLine → Type 0
AreInputSteps nodes steps = AreSteps nodes steps × (length steps ≤ MOST_LINES)

-- what is known of an input that was read
abbrev pub IsInput : ChainInput → Type 0
IsInput c = IsWithin LEAST_NODES c.nodes MOST_NODES × AreInputSteps c.nodes c.steps
