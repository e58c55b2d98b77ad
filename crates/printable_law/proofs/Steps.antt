-- A step of a connection keeps its ends in their ranges, and what it gives.
use Rattle.std.proofs.Common.{ℕ, ◌%◌, List, Ok, Err, arith}
use Rattle.std.specs.declared.result.Result.{Result}
use Rattle.relay_base.specs.declared.causes.TheConstants.{ERROR_INCONSISTENT_REFERENCE}
use Rattle.relay_base.specs.declared.words.Event.{Event}
use Rattle.relay_base.specs.declared.words.Event.TheVariants.{Message as Arrived, Asked as Requested, Tick}
use Rattle.relay_base.specs.declared.words.ReadFault.{ReadFault}
use Rattle.plant_core.specs.declared.terms.Ticks.{Ticks}
use Rattle.q713_codec.specs.Names.{Message}
use Rattle.q713_codec.specs.declared.message.Message.TheVariants.{Cc, Cref, Rlsd, Rlc, Dt1, Dt2, Ak, Ed, Ea, Rsr, Rsc, Err as Error, It}
use Rattle.q713_codec.specs.Reading.{reading_of}
use Rattle.section_model.specs.Ends.{Connection}
use Rattle.section_model.specs.Parameters.{arrival_of, arrival_by, arrival_in}
use Rattle.section_model.specs.Step.{connection_step}
use Rattle.book_law.proofs.Keeping.{Keeps, OfArrival, OfEvent, OfBoth, Done, step-keeps}
use Rattle.printable_law.specs.OctetLaw.{IsOctet, AreOctets, HasOctets}
use Rattle.printable_law.specs.Ranges.{EventInRange}
use Rattle.printable_law.proofs.Reading.{ReadsAs, octets-read}
use Rattle.printable_law.proofs.Sections.{ranges, message-sent, line-hears, line-fires, line-takes, windows-hear, windows-fire, windows-take, leaves-done, acknowledges-done, user-asks, user-takes}

-- What a message brings.

class-small : (class : ℕ) → IsOctet (class % 16)
class-small class = omega arith

zero-small : IsOctet 0
zero-small = omega arith

message-brings : (m : Message) → HasOctets m → OfArrival ranges (arrival_of m)
unfolding arrival_of
message-brings (Cc dlr slr class credit called body importance) h = (class-small class, zero-small, h.2, h.3, h.4, tt)
message-brings (Cref dlr cause called body importance) h = (zero-small, h.0, h.1, h.2, h.3, tt)
message-brings (Rlsd dlr slr cause body importance) h = (zero-small, h.0, tt, h.1, h.2, tt)
message-brings (Rlc dlr slr) h = (zero-small, zero-small, tt, tt, tt, tt)
message-brings (Dt1 dlr segmenting body) h = (zero-small, zero-small, tt, tt, tt, h.1)
message-brings (Dt2 dlr sequencing body) h = (zero-small, zero-small, tt, tt, tt, h.1)
message-brings (Ak dlr receive credit) h = (zero-small, zero-small, tt, tt, tt, tt)
message-brings (Ed dlr body) h = (zero-small, zero-small, tt, tt, tt, h)
message-brings (Ea dlr) h = (zero-small, zero-small, tt, tt, tt, tt)
message-brings (Rsr dlr slr cause) h = (zero-small, h, tt, tt, tt, tt)
message-brings (Rsc dlr slr) h = (zero-small, zero-small, tt, tt, tt, tt)
message-brings (Error dlr cause) h = (zero-small, h, tt, tt, tt, tt)
message-brings (It dlr slr class sequencing credit) h = (class-small class, zero-small, tt, tt, tt, tt)
message-brings _ h = tt

reading-brings : (r : Result Message ReadFault) → ReadsAs HasOctets r → OfArrival ranges (arrival_by r)
reading-brings (Ok m) reads = message-brings m reads
reading-brings (Err fault) reads = tt

octets-bring : (bytes : List ℕ) → AreOctets bytes → OfArrival ranges (arrival_in bytes)
unfolding arrival_in
octets-bring bytes are = reading-brings (reading_of bytes) (octets-read bytes are)

event-brings : (event : Event) → EventInRange event → OfEvent ranges event
event-brings (Arrived point sls bytes) taken = (taken.0, octets-bring bytes taken.2)
event-brings (Requested ssn r) taken = taken
event-brings Tick taken = tt

-- Each act of an end.

acts-keep : Keeps ranges
acts-keep = record {
  line-hears = line-hears;
  line-fires = line-fires;
  line-takes = line-takes;
  windows-hear = windows-hear;
  windows-fire = windows-fire;
  windows-take = windows-take;
  leaves-done = leaves-done;
  acknowledges-done = acknowledges-done;
  user-asks = user-asks;
  user-takes = user-takes;
  windows-begin = λ credit. (tt, tt);
  windows-count = λ w got passed good. good;
  error-sent = λ m x good. message-sent x (Error m.slr ERROR_INCONSISTENT_REFERENCE) good (omega arith);
  point-lost = tt;
  state-lost = tt;
  class-lost = tt;
  owner-refused = λ why u user. (user.0, tt);
  other-refused = λ why ssn by. (by, tt);
}

-- The step.

pub step-done : (ticks : Ticks) (c : Connection) (event : Event) → EventInRange event → OfBoth ranges c → Done ranges (connection_step ticks c event)
step-done ticks c event taken both = step-keeps ranges acts-keep ticks c event (event-brings event taken) both
