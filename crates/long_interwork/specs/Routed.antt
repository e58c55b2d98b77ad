-- What comes of a unit from the network by the answer to it, in a node that knows of points which can't take an LUDT or an LUDTS (Q.714, 4.1 and 4.1.1).
use Rattle.std.specs.Prelude.{ℕ, ◌&&◌, Bool, false, List, [], if◌then◌else◌, Option, Some, None, unwrap_or}
use Rattle.relay_base.specs.declared.words.Output.{Output}
use Rattle.plant_core.specs.Plant.{is_among}
use Rattle.plant_core.specs.Rewriting.{called_onward}
use Rattle.plant_core.specs.declared.answer.Answer.{Answer}
use Rattle.plant_core.specs.declared.answer.Answer.TheVariants.{Local, Forward as Onward, Refused}
use Rattle.plant_core.specs.declared.answer.Rewrite.{Rewrite}
use Rattle.connectionless.specs.declared.segment.Next.{Next}
use Rattle.connectionless.specs.declared.segment.Next.TheVariants.{Done}
use Rattle.connectionless.specs.Unitdata.{Unitdata}
use Rattle.connectionless.specs.Leaving.{is_long}
use Rattle.connectionless.specs.Given.{Sending}
use Rattle.connectionless.specs.Routed.{Outcome, unit_outcome, calling_by}
use Rattle.long_interwork.specs.declared.forward.Forward.{Forward}
use Rattle.long_interwork.specs.Shortening.{shortened}

-- What comes of a unit: outputs, a segment where it is to be put together with others, and whether it was cut into segments.
pub record Routed : Type 0 where
  pub outs : List Output
  pub next : Next
  pub is_cut : Bool

abbrev pub of_outcome : Outcome → Routed
of_outcome x = record { outs = x.outs; next = x.next; is_cut = false }

abbrev pub of_sending : Sending → Routed
of_sending x = record { outs = x.outs; next = Done; is_cut = x.is_cut }

-- the addresses and the hop counter with which it goes on
abbrev pub forward_of : ℕ → ℕ → Rewrite → Option ℕ → Unitdata → Forward
forward_of opc point rewrite hop x = record {
  dpc = point;
  called = called_onward rewrite x.called;
  calling = calling_by x.is_service opc x.calling;
  hop = unwrap_or hop 0;
}

-- how an LUDT or LUDTS goes on to a point that can't take it; nothing else does
abbrev pub forward_in : List ℕ → ℕ → Unitdata → Answer → Option Forward
forward_in short opc x (Local ssn) = None
forward_in short opc x (Refused cause local) = None
forward_in short opc x (Onward point rewrite hop) =
    if is_long x.kind && is_among point short then Some (forward_of opc point rewrite hop x) else None

abbrev pub routed_by : Option Forward → ℕ → ℕ → ℕ → Unitdata → Answer → ℕ → Routed
routed_by None own opc sls x answer reference = of_outcome (unit_outcome own opc sls x answer)
routed_by (Some to) own opc sls x answer reference = of_sending (shortened own opc sls to x reference)

-- what comes of a unit, with these points, and with the reference of its segments
unfoldable pub routed : List ℕ → ℕ → ℕ → ℕ → Unitdata → Answer → ℕ → Routed
routed short own opc sls x answer reference = routed_by (forward_in short opc x answer) own opc sls x answer reference

-- what comes of a message; one that isn't of the connectionless service has no outputs
abbrev pub routed_message : List ℕ → ℕ → ℕ → ℕ → Option Unitdata → Answer → ℕ → Routed
routed_message short own opc sls None answer reference = record { outs = []; next = Done; is_cut = false }
routed_message short own opc sls (Some x) answer reference = routed short own opc sls x answer reference
