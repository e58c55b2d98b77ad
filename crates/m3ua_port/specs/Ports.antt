-- A port, by the octets that it was fed: what it has given, and what it answers.
use Rattle.std.specs.Prelude.{◌≡◌, ℕ, Bool, List, ◌++◌, Option, Some, None, Ok, Err}
use Rattle.std.specs.declared.result.Result.{Result}
use Rattle.relay_base.specs.declared.words.Stamp.{Stamp}
use Rattle.relay_base.specs.declared.words.Event.{Event}
use Rattle.m3ua_port.specs.declared.fault.PortKind.{PortKind}
use Rattle.m3ua_port.specs.declared.fault.PortKind.TheVariants as kind
use Rattle.m3ua_port.specs.declared.fault.PortFault.{PortFault}
use Rattle.m3ua_port.specs.declared.fault.PortRefused.{PortRefused}
use Rattle.m3ua_port.specs.declared.fault.PortRefused.TheVariants.{Fault}
use Rattle.m3ua_port.specs.Frames.{frames_of}

-- The own point, the octets fed so far, and whether memory ran out.
pub record PortState : Type 0 where
  pub own : ℕ
  pub fed : List ℕ
  pub exhausted : Bool

abbrev pub events_of : ℕ → List ℕ → List (Stamp × Event)
events_of own octets = (frames_of own octets).events

-- The answer to octets behind which more may come: a message that isn't whole yet is no fault.
abbrev pub unless_end : PortKind → PortFault → Result (Unit {0}) PortRefused
unless_end kind.End fault = Ok tt
unless_end other fault = Err (Fault fault)

abbrev pub answer_to : Option PortFault → Result (Unit {0}) PortRefused
answer_to None = Ok tt
answer_to (Some fault) = unless_end fault.kind fault

abbrev pub answer_of : ℕ → List ℕ → Result (Unit {0}) PortRefused
answer_of own octets = answer_to (frames_of own octets).fault

-- the answer to all octets of a stream
abbrev pub unless_fault : Option PortFault → Result (Unit {0}) PortFault
unless_fault None = Ok tt
unless_fault (Some fault) = Err fault

-- Events were put at the end of others, by which the events of the octets before become those of the octets now.
pub record Brings (own : ℕ) (before now : List ℕ) (old new : List (Stamp × Event)) : Type 0 where
  pub events : List (Stamp × Event)
  pub put : new ≡ old ++ events
  pub all : events_of own now ≡ events_of own before ++ events
