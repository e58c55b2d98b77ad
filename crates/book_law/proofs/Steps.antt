-- A step of a connection keeps its ends short, and what it sends.
use Rattle.std.proofs.Common.{◌≡◌, ◌≤◌, ℕ, ◌==◌, ◌&&◌, ◌||◌, nat_lt, nat_le, true, List, [], length, Option, Some, None, Ok, Err, refl, arith}
use Rattle.std.specs.declared.result.Result.{Result}
use Rattle.std.proofs.lemmas.Bool.{and_parts, leb-true}
use Rattle.relay_base.specs.declared.causes.TheConstants.{ERROR_INCONSISTENT_REFERENCE}
use Rattle.relay_base.specs.declared.limits.TheConstants.{LONGEST_DATA, LONGEST_EXPEDITED, GREATEST_CREDIT}
use Rattle.relay_base.specs.declared.words.Event.{Event}
use Rattle.relay_base.specs.declared.words.Event.TheVariants.{Message as Arrived, Asked as Requested, Tick}
use Rattle.relay_base.specs.declared.words.ReadFault.{ReadFault}
use Rattle.relay_base.specs.declared.words.Request.{Request}
use Rattle.relay_base.specs.declared.words.Request.TheVariants as request
use Rattle.plant_core.specs.declared.terms.Ticks.{Ticks}
use Rattle.q713_codec.specs.Names.{Message}
use Rattle.q713_codec.specs.declared.message.Message.TheVariants.{Cc, Cref, Rlsd, Rlc, Dt1, Dt2, Ak, Ed, Ea, Rsr, Rsc, Err as Error, It}
use Rattle.q713_codec.specs.Reading.{reading_of}
use Rattle.section_model.specs.Ends.{Connection}
use Rattle.section_model.specs.Lengths.{HasLengths, IsAddress, IsData}
use Rattle.section_model.specs.Parameters.{arrival_of, arrival_by, arrival_in}
use Rattle.section_model.specs.Step.{is_in_range, connection_step, names, named, hears}
use Rattle.section_model.proofs.ReadWithin.{read_within}
use Rattle.book_law.proofs.Keeping.{Keeps, OfArrival, OfEvent, OfBoth, Done, step-keeps}
use Rattle.book_law.proofs.Sections.{lengths, RequestShort, line-hears, line-fires, line-takes, windows-hear, windows-fire, windows-take, leaves-done, acknowledges-done, user-asks, user-takes}
use Rattle.book_law.proofs.Spelling.{IsShort, IsShortOption, spelled}

-- What a message brings is short.

pub address-short : (x : Option (List ℕ)) → IsAddress x → IsShortOption x
address-short None within = tt
address-short (Some octets) within = omega (arith, within)

pub data-short : (x : Option (List ℕ)) → IsData x → IsShortOption x
data-short None within = tt
data-short (Some octets) within = omega (arith, within.1)

none-brought : IsShort []
none-brought = omega arith

message-brings : (m : Message) → HasLengths m → OfArrival lengths (arrival_of m)
unfolding arrival_of
message-brings (Cc dlr slr class credit called body importance) h = (address-short called h.0, data-short body h.1, none-brought)
message-brings (Cref dlr cause called body importance) h = (address-short called h.0, data-short body h.1, none-brought)
message-brings (Rlsd dlr slr cause body importance) h = (tt, data-short body h, none-brought)
message-brings (Rlc dlr slr) h = (tt, tt, none-brought)
message-brings (Dt1 dlr segmenting body) h = (tt, tt, omega (arith, h.1))
message-brings (Dt2 dlr sequencing body) h = (tt, tt, omega (arith, h.1))
message-brings (Ak dlr receive credit) h = (tt, tt, none-brought)
message-brings (Ed dlr body) h = (tt, tt, omega (arith, h.1))
message-brings (Ea dlr) h = (tt, tt, none-brought)
message-brings (Rsr dlr slr cause) h = (tt, tt, none-brought)
message-brings (Rsc dlr slr) h = (tt, tt, none-brought)
message-brings (Error dlr cause) h = (tt, tt, none-brought)
message-brings (It dlr slr class sequencing credit) h = (tt, tt, none-brought)
message-brings _ h = tt

octets-bring : (bytes : List ℕ) → OfArrival lengths (arrival_in bytes)
unfolding arrival_in
octets-bring bytes = by_reading (reading_of bytes) refl
  where
    by_reading : (r : Result Message ReadFault) → reading_of bytes ≡ r → OfArrival lengths (arrival_by r)
    by_reading (Ok m) e = message-brings m (read_within bytes m e)
    by_reading (Err fault) e = tt

-- A request in its ranges.

few : (n most : ℕ) → most ≤ 4_000 → nat_le n most ≡ true → n ≤ 4_000
few n most small is = omega (arith, small, leb-true n most is)

request-short : (r : Request) → is_in_range r ≡ true → RequestShort r
request-short (request.Accept mine class credit body) is =
    few (length body) LONGEST_DATA (omega arith)
    (and_parts ((class == 2 || class == 3) && nat_le credit GREATEST_CREDIT) (nat_le (length body) LONGEST_DATA) is).1
request-short (request.Refuse mine cause body) is = few (length body) LONGEST_DATA (omega arith) is
request-short (request.Expedite mine body) is =
    few (length body) LONGEST_EXPEDITED (omega arith) (and_parts (nat_lt 0 (length body)) (nat_le (length body) LONGEST_EXPEDITED) is).1
request-short (request.Disc mine cause body) is = few (length body) LONGEST_DATA (omega arith) is
request-short _ is = tt

event-short : (c : Connection) (event : Event) → hears c event ≡ true → OfEvent lengths event
unfolding hears
event-short c (Arrived point sls bytes) is = (tt, octets-bring bytes)
event-short c (Requested ssn r) is = (tt, request-short r (and_parts (is_in_range r) (names (named r) c) is).0)
event-short c Tick is = tt

-- Each act of an end.

acts-keep : Keeps lengths
acts-keep = record {
  line-hears = λ c point m x from brought good. line-hears c point m x brought good;
  line-fires = line-fires;
  line-takes = line-takes;
  windows-hear = windows-hear;
  windows-fire = windows-fire;
  windows-take = windows-take;
  leaves-done = leaves-done;
  acknowledges-done = acknowledges-done;
  user-asks = λ c r u asked user. (tt, user-asks c r u asked);
  user-takes = λ c h u handed user. (tt, user-takes c h u);
  windows-begin = λ credit. (tt, tt);
  windows-count = λ w got passed short. short;
  error-sent = λ m x head. spelled (Error m.slr ERROR_INCONSISTENT_REFERENCE) tt;
  point-lost = tt;
  state-lost = tt;
  class-lost = tt;
  owner-refused = λ why u user. tt;
  other-refused = λ why ssn by. tt;
}

-- The step, at an event that the connection hears.

pub step-done : (ticks : Ticks) (c : Connection) (event : Event) → hears c event ≡ true → OfBoth lengths c → Done lengths (connection_step ticks c event)
step-done ticks c event is short = step-keeps lengths acts-keep ticks c event (event-short c event is) short
