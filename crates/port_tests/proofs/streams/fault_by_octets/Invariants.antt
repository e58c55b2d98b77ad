use Rattle.std.proofs.Common.{◌≡◌, ℕ, ◌≤◌, false, length}
use Rattle.m3ua_port.specs.Ports.{PortState}
use Rattle.port_tests.proofs.streams.fault_by_octets.Given as goal

-- no more octets are fed than were passed, and memory is left
pub record IsFed (port : PortState) (count : ℕ) : Type 0 where
  pub few : length port.fed ≤ count
  pub going : port.exhausted ≡ false

abbrev pub invariant-loop-octet : goal.invariant-loop-octet
invariant-loop-octet l = IsFed l.port l.octet-index
