-- A call that reads a line, beside what the definition gives.
use Rattle.std.specs.Prelude.{List}
use Rattle.std.specs.declared.result.Result.{Result}
use Rattle.relay_base.specs.Giving.{GivesOrMemory}
use Rattle.chain_form.specs.Chain.{fault_in}
use Rattle.chain_form.specs.declared.fault.ChainFault.{ChainFault}
use Rattle.chain_form.specs.declared.reading.StepLine.{StepLine}

-- the call left the steps that are read by then, unless memory ran out
abbrev pub Takes : {U : Type 0} → List StepLine → Result U ChainFault → Result (List StepLine) ChainFault → Type 0
Takes left result given = GivesOrMemory (λ _. left) fault_in result given
