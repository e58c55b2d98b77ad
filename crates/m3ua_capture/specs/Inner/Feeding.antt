-- What feeding a port comes to.
use Rattle.std.specs.Prelude.{◌≡◌, ◌≤◌, ℕ, false, List, ◌++◌, length}
use Rattle.relay_base.specs.Giving.{RefusesOrMemory}
use Rattle.relay_base.specs.declared.words.Stamp.{Stamp}
use Rattle.relay_base.specs.declared.words.Event.{Event}
use Rattle.capture_form.specs.declared.steps.TheConstants.{MOST_LINES}
use Rattle.m3ua_port.specs.Frames.{frames_of}
use Rattle.m3ua_port.specs.Ports.{PortState, events_of}
use Rattle.m3ua_capture.specs.declared.fault.StreamFault.{StreamFault}
use Rattle.m3ua_capture.specs.Streams.{fault_in, limited}

-- a port to which memory was enough, and the events that it gave, not too many
pub record IsFed (port : PortState) (own : ℕ) (fed : List ℕ) (events : List (Stamp × Event)) : Type 0 where
  pub own_point : port.own ≡ own
  pub octets : port.fed ≡ fed
  pub going : port.exhausted ≡ false
  pub given : events ≡ events_of own fed
  pub few : length events ≤ MOST_LINES

-- a refusal that the stream gives, whatever follows these octets of it
abbrev pub Refuses : ℕ → List ℕ → StreamFault → Type 0
Refuses own fed fault = (more : List ℕ) → RefusesOrMemory (fault_in fault) (limited (frames_of own (fed ++ more)))
