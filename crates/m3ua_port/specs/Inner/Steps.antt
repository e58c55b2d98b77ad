-- One step of a reader.
use Rattle.std.specs.Prelude.{◌≡◌, ℕ, ◌+◌, ◌*◌, ◌<◌, ◌≤◌, List, [], ◌++◌, length, drop}
use Rattle.relay_base.specs.declared.words.Stamp.{Stamp}
use Rattle.relay_base.specs.declared.words.Event.{Event}
use Rattle.m3ua_port.specs.declared.fault.PortFault.{PortFault}
use Rattle.m3ua_port.specs.declared.reader.Reader.{Reader}
use Rattle.m3ua_port.specs.Inner.Reading.{Reading, LeadsTo, EndsWith, IsPart}

-- where a reader stands that is to read these octets behind its part
abbrev pub reading_of : Reader → List ℕ → List (Stamp × Event) → Reading
reading_of reader octets events = record { events = events; number = reader.number; octets = reader.part.items ++ octets }

-- it took this many octets, at least one
pub record Stepped (old new : Reader) (octets : List ℕ) (count : ℕ) (before after : List (Stamp × Event)) : Type 0 where
  pub leads : LeadsTo old.own (reading_of old octets before) (reading_of new (drop count octets) after)
  pub some : 0 < count
  pub within : count ≤ length octets
  pub part : IsPart new.part.items
  pub bound : 8 * new.number + length new.part.items ≤ 8 * old.number + length old.part.items + count

-- it took all of them
pub record Reads (old new : Reader) (octets : List ℕ) (before after : List (Stamp × Event)) : Type 0 where
  pub leads : LeadsTo old.own (reading_of old octets before) (reading_of new [] after)
  pub part : IsPart new.part.items
  pub bound : 8 * new.number + length new.part.items ≤ 8 * old.number + length old.part.items + length octets

-- the events of what it took were put at the end
pub record Took (old new : Reader) (octets : List ℕ) (before after : List (Stamp × Event)) : Type 0 where
  pub added : List (Stamp × Event)
  pub put : after ≡ before ++ added
  pub reads : Reads old new octets [] added

-- the events before a fault were
pub record TookToFault (old : Reader) (octets : List ℕ) (before after : List (Stamp × Event)) (fault : PortFault) : Type 0 where
  pub added : List (Stamp × Event)
  pub put : after ≡ before ++ added
  pub ends : EndsWith old.own (reading_of old octets []) added fault
