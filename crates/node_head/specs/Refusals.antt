-- What a reading of the head returned, beside what a definition gives.
use Rattle.std.specs.Prelude.{ℕ, List, Option, Some, None, Ok, Err}
use Rattle.std.specs.declared.result.Result.{Result}
use Rattle.relay_base.specs.Giving.{GivesOrMemory}
use Rattle.node_head.specs.declared.fault.HeadKind.{HeadKind}
use Rattle.node_head.specs.declared.fault.HeadFault.{HeadFault}
use Rattle.node_head.specs.declared.fault.HeadRefused.{HeadRefused}
use Rattle.node_head.specs.declared.fault.HeadRefused.TheVariants.{Fault, Memory}

-- the fault that a refusal tells; none is want of memory
abbrev pub fault_in : HeadRefused → Option HeadFault
fault_in Memory = None
fault_in (Fault f) = Some f

-- the call gave, seen by view, what the definition gives, unless memory ran out
abbrev pub ReadsAs : {X Y : Type 0} → (X → Y) → Result X HeadRefused → Result Y HeadFault → Type 0
ReadsAs view result given = GivesOrMemory view fault_in result given

abbrev pub Reads : {Y : Type 0} → Result Y HeadRefused → Result Y HeadFault → Type 0
Reads result given = ReadsAs (λ x. x) result given

abbrev pub fault : HeadKind → List ℕ → HeadFault
fault kind key = record { kind = kind; key = key }

-- the value, or this fault where there is none
abbrev pub or_fault : {A : Type 0} → Option A → HeadFault → Result A HeadFault
or_fault None f = Err f
or_fault (Some x) f = Ok x
