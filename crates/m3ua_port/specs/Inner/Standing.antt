-- What ties the octets that a port was fed to what it keeps of them.
use Rattle.std.specs.Prelude.{◌≡◌, ℕ, ◌+◌, ◌*◌, ◌≤◌, Bool, false, List, [], length, Option, Some, None}
use Rattle.m3ua_port.specs.declared.fault.PortFault.{PortFault}
use Rattle.m3ua_port.specs.declared.limits.TheConstants.{MOST_OCTETS}
use Rattle.m3ua_port.specs.declared.reader.Reader.{Reader}
use Rattle.m3ua_port.specs.Inner.Reading.{Reading, LeadsTo, EndsWith, IsPart}
use Rattle.m3ua_port.specs.Inner.Steps.{reading_of}
use Rattle.m3ua_port.specs.Ports.{events_of}

-- nothing is read yet of these octets
abbrev pub start_of : List ℕ → Reading
start_of octets = record { events = []; number = 1; octets = octets }

-- there is no fault in the octets fed: the reader stands behind their whole messages
pub record IsOpen (reader : Reader) (fed : List ℕ) : Type 0 where
  pub leads : LeadsTo reader.own (start_of fed) (reading_of reader [] (events_of reader.own fed))
  pub part : IsPart reader.part.items
  pub bound : 8 * reader.number + length reader.part.items ≤ length fed + 8

-- this is kept, unless memory ran out
pub record Stands (reader : Reader) (fault : Option PortFault) (exhausted : Bool) (fed : List ℕ) : Type 0 where
  pub few : length fed ≤ MOST_OCTETS
  pub reads : exhausted ≡ false → fault ≡ None → IsOpen reader fed
  pub ended : exhausted ≡ false → (found : PortFault) → fault ≡ Some found → EndsWith reader.own (start_of fed) (events_of reader.own fed) found
