-- What an event is to a data lane is in its ranges, and so is what it asks.
use Rattle.std.proofs.Common.{◌≡◌, ℕ, ◌≤◌, ◌&&◌, nat_le, Bool, true, false, List, length, if◌then◌else◌, Option, Some, None, Ok, Err, refl, arith}
use Rattle.std.specs.Prelude.{IfSome, IfOk, unwrap_or, is_ok}
use Rattle.std.specs.declared.result.Result.{Result}
use Rattle.std.proofs.lemmas.Bool.{and_parts, leb-true}
use Rattle.relay_base.specs.declared.limits.TheConstants.{LONGEST_GIVEN_ADDRESS, LONGEST_GIVEN_UNIT}
use Rattle.relay_base.specs.declared.words.Event.{Event}
use Rattle.relay_base.specs.declared.words.Event.TheVariants.{Message as Arrived, Asked as Requested, Tick}
use Rattle.relay_base.specs.declared.words.Lost.{Lost}
use Rattle.relay_base.specs.declared.words.Lost.TheVariants as lost
use Rattle.relay_base.specs.declared.words.ReadFault.{ReadFault}
use Rattle.relay_base.specs.declared.words.Request.{Request}
use Rattle.relay_base.specs.declared.words.Request.TheVariants.{Unit as UnitRequest}
use Rattle.sccp_address.specs.Form.{Form}
use Rattle.sccp_address.specs.Parsing.{address_of}
use Rattle.sccp_address.specs.Subsystems.{subsystem_address}
use Rattle.sccp_address.specs.declared.address.AddressFault.{AddressFault}
use Rattle.q713_codec.specs.Longest.{is_too_long}
use Rattle.q713_codec.specs.Names.{Message}
use Rattle.q713_codec.specs.declared.message.Message.TheVariants.{Udt, Udts, Xudt, Xudts, Ludt, Ludts}
use Rattle.q713_codec.specs.Reading.{reading_of}
use Rattle.plant_core.specs.declared.answer.Origin.TheVariants.{Network}
use Rattle.connectionless.specs.Unitdata.{Unitdata, unitdata_of}
use Rattle.connectionless.specs.Given.{Given, is_unit_request, is_address, is_optional_address, given_in, given_of}
use Rattle.connectionless.specs.Asking.{Matter, from_network, from_user, settled, of_tick, is_of_wrong_class, asked_by, question_of, message_by, message_in, matter_by_question, matter_by_unit, matter_by_message, matter_by_address, matter_by_given, matter_of, question_in}
use Rattle.printable_law.specs.OctetLaw.{IsOctet, AreOctets, HasOctets, IsForm}
use Rattle.printable_law.specs.Ranges.{IsPoint, IsSelection, EventInRange, RequestInRange, QuestionInRange, LostInRange, OutputsInRange}
use Rattle.printable_law.proofs.Addresses.{address-read}
use Rattle.printable_law.proofs.Lists.{either}
use Rattle.printable_law.proofs.Reading.{ReadsAs, octets-read}
use Rattle.printable_law.specs.UnitRanges.{DataAsksInRange}

-- A unit or a service message.

pub record UnitInRange (x : Unitdata) : Type 0 where
  pub first : IsOctet x.first
  pub hop : IfSome x.hop IsOctet
  pub called : AreOctets x.called
  pub calling : AreOctets x.calling
  pub body : AreOctets x.body
  pub segmentation : IfSome x.segmentation AreOctets
  pub importance : IfSome x.importance IsOctet

unit-in : (m : Message) → HasOctets m → IfSome (unitdata_of m) UnitInRange
unfolding unitdata_of
unit-in (Udt class called calling body) h = record { first = h.0; hop = tt; called = h.1; calling = h.2; body = h.3; segmentation = tt; importance = tt }
unit-in (Udts cause called calling body) h = record { first = h.0; hop = tt; called = h.1; calling = h.2; body = h.3; segmentation = tt; importance = tt }
unit-in (Xudt class hop called calling body segmentation importance) h =
    record { first = h.0; hop = h.1; called = h.2; calling = h.3; body = h.4; segmentation = h.5; importance = h.6 }
unit-in (Xudts cause hop called calling body segmentation importance) h =
    record { first = h.0; hop = h.1; called = h.2; calling = h.3; body = h.4; segmentation = h.5; importance = h.6 }
unit-in (Ludt class hop called calling body segmentation importance) h =
    record { first = h.0; hop = h.1; called = h.2; calling = h.3; body = h.4; segmentation = h.5; importance = h.6 }
unit-in (Ludts cause hop called calling body segmentation importance) h =
    record { first = h.0; hop = h.1; called = h.2; calling = h.3; body = h.4; segmentation = h.5; importance = h.6 }
unit-in _ h = tt

-- A user's unit.

pub record GivenInRange (g : Given) : Type 0 where
  pub ssn : IsOctet g.ssn
  pub sls : IsSelection g.sls
  pub class : g.class ≤ 1
  pub called : AreOctets g.called
  pub calling : AreOctets g.calling
  pub body : AreOctets g.body
  pub called_size : length g.called ≤ LONGEST_GIVEN_ADDRESS
  pub calling_size : length g.calling ≤ LONGEST_GIVEN_ADDRESS
  pub body_size : length g.body ≤ LONGEST_GIVEN_UNIT

address-size : (octets : List ℕ) → is_address octets ≡ true → length octets ≤ LONGEST_GIVEN_ADDRESS
address-size octets is = leb-true (length octets) LONGEST_GIVEN_ADDRESS (and_parts (nat_le (length octets) LONGEST_GIVEN_ADDRESS) (is_ok (address_of octets)) is).0

calling-size : (ssn : ℕ) (calling : Option (List ℕ)) → is_optional_address calling ≡ true
    → length (unwrap_or calling (subsystem_address ssn)) ≤ LONGEST_GIVEN_ADDRESS
calling-size ssn None is = omega arith
calling-size ssn (Some octets) is = address-size octets is

calling-octets : (ssn : ℕ) (calling : Option (List ℕ)) → IsOctet ssn → IfSome calling AreOctets → AreOctets (unwrap_or calling (subsystem_address ssn))
calling-octets ssn None small are = (omega arith, (small, tt))
calling-octets ssn (Some octets) small are = are

given-in : (ssn : ℕ) (r : Request) → IsOctet ssn → RequestInRange r → IfSome (given_of ssn r) GivenInRange
unfolding given_of
given-in ssn r by asked = by_test (is_unit_request r) refl
  where
    parts : (r : Request) → RequestInRange r → is_unit_request r ≡ true → IfSome (given_in ssn r) GivenInRange
    parts (UnitRequest sls class ret called calling body) asked is =
        let last = and_parts (nat_le class 1 && is_address called && is_optional_address calling) (nat_le (length body) LONGEST_GIVEN_UNIT) is in
        let third = and_parts (nat_le class 1 && is_address called) (is_optional_address calling) last.0 in
        let other = and_parts (nat_le class 1) (is_address called) third.0 in record {
          ssn = by;
          sls = asked.0;
          class = leb-true class 1 other.0;
          called = asked.2;
          calling = calling-octets ssn calling by asked.3;
          body = asked.4;
          called_size = address-size called other.1;
          calling_size = calling-size ssn calling third.1;
          body_size = leb-true (length body) LONGEST_GIVEN_UNIT last.1;
        }
    parts _ asked is = tt

    by_test : (is : Bool) → is_unit_request r ≡ is → IfSome (if is then given_in ssn r else None) GivenInRange
    by_test true is = parts r asked is
    by_test false is = tt

-- What an event is to the lane. The class of a unit that asks is 0 or 1.

abbrev pub MatterInRange : Matter → Type 0
MatterInRange (from_network opc sls x question) = IsPoint opc × IsSelection sls × UnitInRange x × (is_of_wrong_class x ≡ false) × QuestionInRange question
MatterInRange (from_user g question) = GivenInRange g × QuestionInRange question
MatterInRange (settled outs) = OutputsInRange outs
MatterInRange of_tick = Unit {0}

question-in : (opc sls : ℕ) (x : Unitdata) → IsPoint opc → IsSelection sls → UnitInRange x → MatterInRange (matter_by_question opc sls x (question_of x))
unfolding question_of
question-in opc sls x p s in_range = by_address (address_of x.called) (address-read x.called in_range.called)
  where
    by_class : (a : Form) → IsForm a → (wrong : Bool) → is_of_wrong_class x ≡ wrong
        → MatterInRange (matter_by_question opc sls x (if wrong then Err lost.Class else Ok (record { called = a; hop = x.hop; origin = Network })))
    by_class a is true e = (tt, tt)
    by_class a is false e = (p, s, in_range, e, (is, in_range.hop))

    by_address : (r : Result Form AddressFault) → IfOk r IsForm → MatterInRange (matter_by_question opc sls x (asked_by r x))
    by_address (Ok a) is = by_class a is (is_of_wrong_class x) refl
    by_address (Err fault) is = (tt, tt)

unit-matter : (opc sls : ℕ) (x : Option Unitdata) → IsPoint opc → IsSelection sls → IfSome x UnitInRange → MatterInRange (matter_by_unit opc sls x)
unit-matter opc sls None p s in_range = tt
unit-matter opc sls (Some x) p s in_range = question-in opc sls x p s in_range

abbrev Messaged : Result Message Lost → Type 0
Messaged (Ok m) = HasOctets m
Messaged (Err l) = LostInRange l

read-message : (r : Result Message ReadFault) → ReadsAs HasOctets r → Messaged (message_by r)
read-message (Ok m) reads = reads
read-message (Err fault) reads = reads

octets-message : (bytes : List ℕ) → AreOctets bytes → Messaged (message_in bytes)
unfolding message_in
octets-message bytes are = either Messaged (is_too_long bytes) (Err lost.Long) (message_by (reading_of bytes)) tt (read-message (reading_of bytes) (octets-read bytes are))

message-matter : (opc sls : ℕ) (m : Result Message Lost) → IsPoint opc → IsSelection sls → Messaged m → MatterInRange (matter_by_message opc sls m)
message-matter opc sls (Ok m) p s has = unit-matter opc sls (unitdata_of m) p s (unit-in m has)
message-matter opc sls (Err l) p s small = (small, tt)

address-matter : (g : Given) (r : Result Form AddressFault) → GivenInRange g → IfOk r IsForm → MatterInRange (matter_by_address g r)
address-matter g (Ok a) in_range is = (in_range, (is, tt))
address-matter g (Err fault) in_range is = tt

given-matter : (g : Option Given) → IfSome g GivenInRange → MatterInRange (matter_by_given g)
given-matter None in_range = tt
given-matter (Some g) in_range = address-matter g (address_of g.called) in_range (address-read g.called in_range.called)

pub event-matter : (event : Event) → EventInRange event → MatterInRange (matter_of event)
unfolding matter_of
event-matter (Arrived opc sls bytes) taken = message-matter opc sls (message_in bytes) taken.0 taken.1 (octets-message bytes taken.2)
event-matter (Requested ssn r) taken = given-matter (given_of ssn r) (given-in ssn r taken.0 taken.1)
event-matter Tick taken = tt

asks-in : (matter : Matter) → MatterInRange matter → IfSome (question_in matter) QuestionInRange
asks-in (from_network opc sls x question) in_range = in_range.4
asks-in (from_user g question) in_range = in_range.1
asks-in (settled outs) in_range = tt
asks-in of_tick in_range = tt

pub data_asks_in_range : DataAsksInRange
data_asks_in_range event taken = asks-in (matter_of event) (event-matter event taken)
