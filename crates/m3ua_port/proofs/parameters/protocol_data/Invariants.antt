use Rattle.std.proofs.Common.{◌≡◌, length}
use Rattle.std.specs.Option.{option_map}
use Rattle.m3ua_port.specs.Frames.{parameters_of, protocol_data}
use Rattle.m3ua_port.proofs.ParameterLemmas.{data_after}
use Rattle.m3ua_port.proofs.parameters.protocol_data.Given as goal

-- what was found, and the parameters that are left, give what all of them do
abbrev pub invariant-loop-rest : goal.invariant-loop-rest
invariant-loop-rest l = data_after (option_map (λ v. v.now) l.found) (parameters_of l.rest) ≡ protocol_data l.parameters

abbrev pub decreases-loop-rest : goal.decreases-loop-rest
decreases-loop-rest l = length l.rest
