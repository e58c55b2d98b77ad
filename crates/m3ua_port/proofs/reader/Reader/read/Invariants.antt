use Rattle.std.proofs.Common.{◌≡◌, ℕ, ◌+◌, ◌-◌, ◌*◌, ◌≤◌, List, length, drop}
use Rattle.m3ua_port.specs.declared.limits.TheConstants.{HEADER}
use Rattle.relay_base.specs.declared.words.Stamp.{Stamp}
use Rattle.relay_base.specs.declared.words.Event.{Event}
use Rattle.m3ua_port.specs.declared.reader.Reader.{Reader}
use Rattle.m3ua_port.specs.Inner.Reading.{LeadsTo, IsPart}
use Rattle.m3ua_port.specs.Inner.Steps.{reading_of}
use Rattle.m3ua_port.proofs.reader.Reader.read.Given as goal

-- how far a piece is read
pub record IsRead (old new : Reader) (piece : List ℕ) (at : ℕ) (before after : List (Stamp × Event)) : Type 0 where
  pub leads : LeadsTo old.own (reading_of old piece before) (reading_of new (drop at piece) after)
  pub part : IsPart new.part.items
  pub bound : HEADER * new.number + length new.part.items ≤ HEADER * old.number + length old.part.items + at
  pub within : at ≤ length piece
  pub own : new.own ≡ old.own

abbrev pub invariant-loop-at : goal.invariant-loop-at
invariant-loop-at l = IsRead l.initial.self l.self l.piece l.at l.initial.events l.events

abbrev pub decreases-loop-at : goal.decreases-loop-at
decreases-loop-at l = length l.piece - l.at
