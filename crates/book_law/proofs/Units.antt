-- What a data lane sends: what leaves is in range, and users' units are short.
use Rattle.std.proofs.Common.{◌≡◌, ℕ, ◌+◌, ◌*◌, ◌≤◌, ◌&&◌, ◌||◌, Bool, true, false, List, [], ◌∷◌, length, take, drop, if◌then◌else◌, Option, Some, None, Ok, Err, refl, sym, subst, arith, length-take}
use Rattle.std.specs.Prelude.{IfSome, nat_le, unwrap_or, is_ok}
use Rattle.std.specs.declared.result.Result.{Result}
use Rattle.std.specs.List.{AllByRecursion, range_with_len}
use Rattle.std.proofs.lemmas.Bool.{and_parts, leb-true, eqb-true}
use Rattle.relay_base.specs.declared.causes.TheConstants.{RETURN_SEGMENTATION_FAILURE, RETURN_LOCAL_PROCESSING, RETURN_UNQUALIFIED}
use Rattle.relay_base.specs.declared.limits.TheConstants.{LONGEST_GIVEN_ADDRESS, LONGEST_GIVEN_UNIT, LONGEST_PARAMETER}
use Rattle.relay_base.specs.declared.words.Event.{Event}
use Rattle.relay_base.specs.declared.words.Event.TheVariants.{Message as Arrived, Asked as Requested, Tick}
use Rattle.relay_base.specs.declared.words.Lost.{Lost}
use Rattle.relay_base.specs.declared.words.Lost.TheVariants.{Cause}
use Rattle.relay_base.specs.declared.words.Output.{Output}
use Rattle.relay_base.specs.declared.words.Output.TheVariants.{Lost as Dropped}
use Rattle.relay_base.specs.declared.words.Request.{Request}
use Rattle.relay_base.specs.declared.words.Request.TheVariants.{Unit as UnitRequest}
use Rattle.sccp_address.specs.Form.{Form}
use Rattle.sccp_address.specs.Parsing.{address_of}
use Rattle.sccp_address.specs.Subsystems.{subsystem_address}
use Rattle.sccp_address.specs.declared.address.AddressFault.{AddressFault}
use Rattle.q713_shape.specs.declared.rules.VarRule.{VarRule}
use Rattle.q713_shape.specs.Format.{is_length_of}
use Rattle.q713_shape.specs.Writing.{have_lengths, have_option_lengths, is_option, are_options}
use Rattle.q713_shape.proofs.Ranges.{in_range-lengths, in_range-options}
use Rattle.q713_codec.specs.Formats.{address, called_address, calling_address, user_data, long_data, within as ruled}
use Rattle.q713_codec.specs.declared.longest.TheConstants.{LONGEST}
use Rattle.q713_codec.specs.Names.{Message}
use Rattle.q713_codec.specs.declared.message.Message.TheVariants.{Udt, Xudt}
use Rattle.q713_codec.specs.Messages.{format_in, values_of_message, in_one as in_octet}
use Rattle.q713_codec.specs.Writing.{is_in_range}
use Rattle.plant_core.specs.declared.answer.Answer.{Answer}
use Rattle.plant_core.specs.declared.answer.Answer.TheVariants.{Local, Forward as Onward, Refused}
use Rattle.plant_core.specs.declared.answer.Rewrite.{Rewrite}
use Rattle.plant_core.specs.declared.terms.LaneHead.{LaneHead}
use Rattle.plant_core.specs.declared.entry.Entry.{Entry}
use Rattle.plant_core.specs.Asking.{Question, answer_in}
use Rattle.plant_core.specs.Causes.{return_code}
use Rattle.plant_core.specs.Rewriting.{called_onward}
use Rattle.plant_core.proofs.AddressLengths.{length-called_onward}
use Rattle.scmg_messages.specs.Messages.{status_outputs}
use Rattle.scmg_messages.specs.declared.message.Format.TheVariants.{Prohibited}
use Rattle.reassembly.specs.Reassembly.{takes, ended_by_tick}
use Rattle.reassembly.specs.declared.piece.Piece.{Piece}
use Rattle.reassembly.specs.declared.piece.Now.{Now}
use Rattle.reassembly.specs.declared.piece.Now.TheVariants.{Waiting, Whole, NoRoom, Orphan, Broken}
use Rattle.reassembly.specs.declared.piece.Taken.{Taken}
use Rattle.reassembly.specs.declared.process.Process.{Process}
use Rattle.connectionless.specs.declared.cutting.TheConstants.{MOST_SEGMENTS}
use Rattle.connectionless.specs.declared.unitdata.Kind.{Kind}
use Rattle.connectionless.specs.declared.unitdata.Kind.TheVariants.{Basic, Extended, Long}
use Rattle.connectionless.specs.Unitdata.{Unitdata, message_by, message_of, unitdata_of}
use Rattle.connectionless.specs.Leaving.{is_long, leaving_octets, unit_octets, sent_or}
use Rattle.connectionless.specs.Returning.{asks_return, return_point, return_output, returned, refusal_output, unit_in}
use Rattle.connectionless.specs.Cutting.{Cutting, return_bit, segment_size, segment_count, can_be_cut, segmentation_octets, segment, segment_output, segment_outputs}
use Rattle.connectionless.specs.Given.{Given, Outgoing, Sending, is_unit_request, is_address, is_optional_address, given_in, given_of, is_cut, whole_output, sent_outputs, refused_by, given_outcome, outgoing, uncut, reference_after}
use Rattle.connectionless.specs.Given as given
use Rattle.connectionless.specs.Routed.{delivery_by, delivery, segmentation_in, forwarded, forward_output, unit_outcome}
use Rattle.connectionless.specs.Asking.{Matter, from_network, from_user, settled, of_tick, question_of, message_in, matter_by_question, matter_by_unit, matter_by_message, matter_by_address, matter_by_given, matter_of}
use Rattle.long_interwork.specs.declared.forward.Forward.{Forward}
use Rattle.long_interwork.specs.Shortening.{extended, is_small, fits, is_entire, cutting, in_one, in_segments, unit_shortened, service_shortened, shortened}
use Rattle.long_interwork.specs.Routed.{forward_in, routed_by, routed}
use Rattle.data_lane.specs.declared.effect.Work.{Work}
use Rattle.data_lane.specs.declared.effect.Work.TheVariants as work
use Rattle.data_lane.specs.Legal.{State, at_first, effect_by, failure, failures, of_now, taken_outs, worked, step_of, entry_after, LegalFrom}
use Rattle.book_law.specs.LengthLaw.{FitsOne, IsCarried, AreCarried, DataIsCarried}
use Rattle.book_law.proofs.Outputs.{either, all-append, all-given}
use Rattle.book_law.proofs.Spelling.{IsShort, IsShortOption, HasShortParts, spelled}
use Rattle.book_law.proofs.Management.{management-fits}

-- A unit that may be written has short parts.

within : (rule : VarRule) (value : List ℕ) → rule.most ≤ 4_000 → is_length_of rule (length value) ≡ true → IsShort value
within rule value few is =
    omega (arith, few, leb-true (length value) rule.most (and_parts (nat_le rule.least (length value)) (nat_le (length value) rule.most) is).1)

lengths-short : (r s t : VarRule) (a b c : List ℕ) → r.most ≤ 4_000 → s.most ≤ 4_000 → t.most ≤ 4_000
    → have_lengths (r ∷ s ∷ t ∷ []) (a ∷ b ∷ c ∷ []) ≡ true → IsShort a × IsShort b × IsShort c
lengths-short r s t a b c f g h is =
    let first = and_parts (is_length_of r (length a)) (have_lengths (s ∷ t ∷ []) (b ∷ c ∷ [])) is in
    let second = and_parts (is_length_of s (length b)) (have_lengths (t ∷ []) (c ∷ [])) first.1 in
    let third = and_parts (is_length_of t (length c)) true second.1 in
    (within r a f first.0, within s b g second.0, within t c h third.0)

four-short : (x : Option (List ℕ)) → is_option 0x10 x ≡ true → IsShortOption x
four-short None is = tt
four-short (Some octets) is = omega (arith, eqb-true (length octets) 4 is)

options-short : (segmentation importance : Option (List ℕ))
    → are_options (Some (0x10 ∷ 0x12 ∷ [])) (segmentation ∷ importance ∷ None ∷ None ∷ None ∷ []) ≡ true → IsShortOption segmentation
options-short segmentation importance is =
    four-short segmentation (and_parts (is_option 0x10 segmentation) (have_option_lengths (0x12 ∷ []) (importance ∷ None ∷ None ∷ None ∷ [])) is).0

abbrev HaveUnitParts : ℕ → ℕ → Unitdata → Type 0
HaveUnitParts name most x = have_lengths (address called_address ∷ address calling_address ∷ ruled name 0 most ∷ []) (x.called ∷ x.calling ∷ x.body ∷ []) ≡ true

unit-parts : (name most : ℕ) (x : Unitdata) → most ≤ 4_000 → HaveUnitParts name most x → IsShort x.called × IsShort x.calling × IsShort x.body
unit-parts name most x few is =
    lengths-short (address called_address) (address calling_address) (ruled name 0 most) x.called x.calling x.body (omega arith) (omega arith) few is

more-parts : (name most : ℕ) (x : Unitdata) → most ≤ 4_000 → HaveUnitParts name most x
    → are_options (Some (0x10 ∷ 0x12 ∷ [])) (x.segmentation ∷ in_octet x.importance ∷ None ∷ None ∷ None ∷ []) ≡ true
    → IsShort x.called × IsShort x.calling × IsShort x.body × IsShortOption x.segmentation
more-parts name most x few is options =
    let parts = unit-parts name most x few is in (parts.0, parts.1, parts.2, options-short x.segmentation (in_octet x.importance) options)

lengths-of : (m : Message) → is_in_range m ≡ true → have_lengths (format_in m).vars (values_of_message m).vars ≡ true
unfolding is_in_range
lengths-of m is = in_range-lengths (format_in m) (values_of_message m) is

options-of : (m : Message) → is_in_range m ≡ true → are_options (format_in m).options (values_of_message m).options ≡ true
unfolding is_in_range
options-of m is = in_range-options (format_in m) (values_of_message m) is

units-short : (kind : Kind) (service : Bool) (x : Unitdata) → is_in_range (message_by kind service x) ≡ true → HasShortParts (message_by kind service x)
units-short Basic false x is = unit-parts user_data LONGEST_PARAMETER x (omega arith) (lengths-of (message_by Basic false x) is)
units-short Basic true x is = unit-parts user_data LONGEST_PARAMETER x (omega arith) (lengths-of (message_by Basic true x) is)
units-short Extended false x is = more-parts user_data LONGEST_PARAMETER x (omega arith) (lengths-of (message_by Extended false x) is) (options-of (message_by Extended false x) is)
units-short Extended true x is = more-parts user_data LONGEST_PARAMETER x (omega arith) (lengths-of (message_by Extended true x) is) (options-of (message_by Extended true x) is)
units-short Long false x is = more-parts long_data 3_952 x (omega arith) (lengths-of (message_by Long false x) is) (options-of (message_by Long false x) is)
units-short Long true x is = more-parts long_data 3_952 x (omega arith) (lengths-of (message_by Long true x) is) (options-of (message_by Long true x) is)

in_range-fits : (x : Unitdata) → is_in_range (message_of x) ≡ true → FitsOne (unit_octets x)
unfolding message_of
in_range-fits x is = spelled (message_by x.kind x.is_service x) (units-short x.kind x.is_service x is)

-- What leaves, or is returned, is in range.

leaving-fits : (x : Unitdata) → IfSome (leaving_octets x) FitsOne
unfolding leaving_octets
leaving-fits x = by_tests (is_in_range (message_of x)) (is_long x.kind || nat_le (length (unit_octets x)) LONGEST) refl
  where
    by_tests : (in_range few : Bool) → is_in_range (message_of x) ≡ in_range → IfSome (if in_range && few then Some (unit_octets x) else None) FitsOne
    by_tests true true is = in_range-fits x is
    by_tests true false is = tt
    by_tests false few is = tt

sent_or-carried : (point sls : ℕ) (other : Output) (octets : Option (List ℕ)) → IsCarried other → IfSome octets FitsOne → IsCarried (sent_or point sls other octets)
sent_or-carried point sls other None carried fit = carried
sent_or-carried point sls other (Some octets) carried fit = fit

pub refusal-carried : (own opc sls cause : ℕ) (x : Unitdata) → IsCarried (refusal_output own opc sls cause x)
unfolding refusal_output
refusal-carried own opc sls cause x =
    either IsCarried (asks_return x) (return_output own opc sls cause x) (Dropped (Cause cause))
    (sent_or-carried (return_point own opc x.calling) sls (Dropped (Cause cause)) (leaving_octets (returned cause x)) tt (leaving-fits (returned cause x)))
    tt

forward-carried : (own opc sls point : ℕ) (rewrite : Rewrite) (hop : Option ℕ) (x : Unitdata) → IsCarried (forward_output own opc sls point rewrite hop x)
unfolding forward_output
forward-carried own opc sls point rewrite hop x =
    sent_or-carried point sls (refusal_output own opc sls RETURN_UNQUALIFIED x) (leaving_octets (forwarded opc rewrite hop x))
    (refusal-carried own opc sls RETURN_UNQUALIFIED x) (leaving-fits (forwarded opc rewrite hop x))

pub status-carried : (own opc sls : ℕ) (local : Option ℕ) → AreCarried (status_outputs own opc sls local)
unfolding status_outputs
status-carried own opc sls None = tt
status-carried own opc sls (Some ssn) = (management-fits Prohibited ssn own, tt)

delivered-carried : (segmentation : Option (List ℕ)) (opc sls ssn : ℕ) (x : Unitdata) → AreCarried (delivery_by segmentation opc sls ssn x).outs
delivered-carried None opc sls ssn x = (tt, tt)
delivered-carried (Some segmentation) opc sls ssn x = tt

outcome-carried : (own opc sls : ℕ) (x : Unitdata) (answer : Answer) → AreCarried (unit_outcome own opc sls x answer).outs
unfolding unit_outcome delivery
outcome-carried own opc sls x (Local ssn) = delivered-carried (segmentation_in x) opc sls ssn x
outcome-carried own opc sls x (Onward point rewrite hop) = (forward-carried own opc sls point rewrite hop x, tt)
outcome-carried own opc sls x (Refused cause local) = (refusal-carried own opc sls (return_code cause) x, status-carried own opc sls local)

-- Segments, whose addresses are short.

segment-fits : (c : Cutting) (k : ℕ) → IsShort c.called → IsShort c.calling → FitsOne (unit_octets (segment c k))
unfolding message_of
segment-fits c k called calling =
    spelled
    (Xudt (1 + return_bit c.ret) c.hop c.called c.calling (take (segment_size c) (drop (segment_size c * k) c.body)) (Some (segmentation_octets c k)) c.importance)
    (called, calling, omega (arith, length-take (segment_size c) (drop (segment_size c * k) c.body)), omega arith)

segments-carried : (c : Cutting) → IsShort c.called → IsShort c.calling → AreCarried (segment_outputs c)
unfolding segment_output
segments-carried c called calling = all-given IsCarried (segment_output c) (λ k. segment-fits c k called calling) (range_with_len 0 (segment_count c))

-- what can be cut leaves room in a segment beside the addresses
room : (c : Cutting) → can_be_cut c ≡ true → IsShort c.called × IsShort c.calling
room c is =
    let some = leb-true 1 (segment_size c) (and_parts (nat_le 1 (segment_size c)) (nat_le (length c.body) (MOST_SEGMENTS * segment_size c)) is).0 in
    (omega (arith, some), omega (arith, some))

-- An LUDT or an LUDTS for a point that can't take it.

one-carried : (sls : ℕ) (to : Forward) (x : Unitdata) → fits (extended to x) ≡ true → AreCarried (in_one sls to x).outs
one-carried sls to x fit =
    (in_range-fits (extended to x) (and_parts (is_small (extended to x)) (is_in_range (message_of (extended to x))) fit).1, tt)

abbrev SendingCarried : Sending → Type 0
SendingCarried s = AreCarried s.outs

second : (a b : Bool) → (a && b) ≡ true → b ≡ true
second a b is = (and_parts a b is).1

unit-carried : (own opc sls : ℕ) (to : Forward) (x : Unitdata) (reference : ℕ) → SendingCarried (unit_shortened own opc sls to x reference)
unit-carried own opc sls to x reference =
    by_tests (is_entire x.segmentation && fits (extended to x)) (is_entire x.segmentation && can_be_cut (cutting sls to x reference)) refl refl
  where
    by_tests : (one several : Bool) → (is_entire x.segmentation && fits (extended to x)) ≡ one
        → (is_entire x.segmentation && can_be_cut (cutting sls to x reference)) ≡ several
        → SendingCarried (if one then in_one sls to x else if several then in_segments (cutting sls to x reference) else uncut (refusal_output own opc sls RETURN_SEGMENTATION_FAILURE x))
    by_tests true several is cut = one-carried sls to x (second (is_entire x.segmentation) (fits (extended to x)) is)
    by_tests false true is cut =
        let short = room (cutting sls to x reference) (second (is_entire x.segmentation) (can_be_cut (cutting sls to x reference)) cut) in
        segments-carried (cutting sls to x reference) short.0 short.1
    by_tests false false is cut = (refusal-carried own opc sls RETURN_SEGMENTATION_FAILURE x, tt)

service-carried : (sls : ℕ) (to : Forward) (x : Unitdata) → SendingCarried (service_shortened sls to x)
service-carried sls to x = by_test (fits (extended to x)) refl
  where
    by_test : (fit : Bool) → fits (extended to x) ≡ fit → SendingCarried (if fit then in_one sls to x else uncut (Dropped (Cause RETURN_SEGMENTATION_FAILURE)))
    by_test true is = one-carried sls to x is
    by_test false is = (tt, tt)

shortened-carried : (own opc sls : ℕ) (to : Forward) (x : Unitdata) (reference : ℕ) → SendingCarried (shortened own opc sls to x reference)
unfolding shortened
shortened-carried own opc sls to x reference =
    either SendingCarried x.is_service (service_shortened sls to x) (unit_shortened own opc sls to x reference)
    (service-carried sls to x) (unit-carried own opc sls to x reference)

routed-carried : (short : List ℕ) (own opc sls : ℕ) (x : Unitdata) (answer : Answer) (reference : ℕ) → AreCarried (routed short own opc sls x answer reference).outs
unfolding routed
routed-carried short own opc sls x answer reference = by_forward (forward_in short opc x answer)
  where
    by_forward : (to : Option Forward) → AreCarried (routed_by to own opc sls x answer reference).outs
    by_forward None = outcome-carried own opc sls x answer
    by_forward (Some to) = shortened-carried own opc sls to x reference

-- A user's unit, in its ranges.

pub record IsShortUnit (g : Given) : Type 0 where
  pub called : length g.called ≤ LONGEST_GIVEN_ADDRESS
  pub calling : length g.calling ≤ LONGEST_GIVEN_ADDRESS
  pub body : length g.body ≤ LONGEST_GIVEN_UNIT

address-short : (octets : List ℕ) → is_address octets ≡ true → length octets ≤ LONGEST_GIVEN_ADDRESS
address-short octets is = leb-true (length octets) LONGEST_GIVEN_ADDRESS (and_parts (nat_le (length octets) LONGEST_GIVEN_ADDRESS) (is_ok (address_of octets)) is).0

calling-short : (ssn : ℕ) (calling : Option (List ℕ)) → is_optional_address calling ≡ true
    → length (unwrap_or calling (subsystem_address ssn)) ≤ LONGEST_GIVEN_ADDRESS
calling-short ssn None is = omega arith
calling-short ssn (Some octets) is = address-short octets is

given-short : (ssn : ℕ) (r : Request) → IfSome (given_of ssn r) IsShortUnit
unfolding given_of
given-short ssn r = by_test (is_unit_request r) refl
  where
    parts : (r : Request) → is_unit_request r ≡ true → IfSome (given_in ssn r) IsShortUnit
    parts (UnitRequest sls class ret called calling body) is =
        let last = and_parts (nat_le class 1 && is_address called && is_optional_address calling) (nat_le (length body) LONGEST_GIVEN_UNIT) is in
        let third = and_parts (nat_le class 1 && is_address called) (is_optional_address calling) last.0 in
        let other = and_parts (nat_le class 1) (is_address called) third.0 in record {
          called = address-short called other.1;
          calling = calling-short ssn calling third.1;
          body = leb-true (length body) LONGEST_GIVEN_UNIT last.1;
        }
    parts _ is = tt

    by_test : (is : Bool) → is_unit_request r ≡ is → IfSome (if is then given_in ssn r else None) IsShortUnit
    by_test true is = parts r is
    by_test false is = tt

-- its called address has one octet more at most
pub onward-short : (rewrite : Rewrite) (octets : List ℕ) → length octets ≤ LONGEST_PARAMETER → IsShort (called_onward rewrite octets)
onward-short rewrite octets few = omega (arith, few, length-called_onward rewrite octets)

outgoing-carried : (u : Outgoing) → IsShort u.called → IsShort u.given.calling → IsShort u.given.body → AreCarried (sent_outputs u)
unfolding sent_outputs whole_output message_of
outgoing-carried u called calling body =
    either AreCarried (is_cut u) (segment_outputs (given.cutting u)) (whole_output u ∷ [])
    (segments-carried (given.cutting u) called calling)
    (spelled (Udt (u.given.class + return_bit u.given.ret) u.called u.given.calling u.given.body) (called, calling, body), tt)

refused-carried : (ret : Bool) (cause : ℕ) (g : Given) → IsCarried (refused_by ret cause g)
refused-carried false cause g = tt
refused-carried true cause g = tt

given-carried : (g : Given) (answer : Answer) (reference : ℕ) → IsShortUnit g → AreCarried (given_outcome g answer reference).outs
unfolding given_outcome
given-carried g (Local ssn) reference short = (tt, tt)
given-carried g (Onward point rewrite hop) reference short =
    outgoing-carried (outgoing g point rewrite reference)
    (onward-short rewrite g.called (omega (arith, short.called))) (omega (arith, short.calling)) (omega (arith, short.body))
given-carried g (Refused cause local) reference short = (refused-carried g.ret (return_code cause) g, tt)

-- What an event is to the lane.

abbrev MatterCarried : Matter → Type 0
MatterCarried (from_network opc sls x question) = Unit {0}
MatterCarried (from_user g question) = IsShortUnit g
MatterCarried (settled outs) = AreCarried outs
MatterCarried of_tick = Unit {0}

question-carried : (opc sls : ℕ) (x : Unitdata) (q : Result Question Lost) → MatterCarried (matter_by_question opc sls x q)
question-carried opc sls x (Ok question) = tt
question-carried opc sls x (Err lost) = (tt, tt)

read-carried : (opc sls : ℕ) (x : Option Unitdata) → MatterCarried (matter_by_unit opc sls x)
read-carried opc sls None = tt
read-carried opc sls (Some x) = question-carried opc sls x (question_of x)

message-carried : (opc sls : ℕ) (m : Result Message Lost) → MatterCarried (matter_by_message opc sls m)
message-carried opc sls (Ok message) = read-carried opc sls (unitdata_of message)
message-carried opc sls (Err lost) = (tt, tt)

address-carried : (g : Given) (a : Result Form AddressFault) → IsShortUnit g → MatterCarried (matter_by_address g a)
address-carried g (Ok a) short = short
address-carried g (Err fault) short = tt

request-carried : (g : Option Given) → IfSome g IsShortUnit → MatterCarried (matter_by_given g)
request-carried None short = tt
request-carried (Some g) short = address-carried g (address_of g.called) short

matter-carried : (event : Event) → MatterCarried (matter_of event)
unfolding matter_of
matter-carried (Arrived opc sls bytes) = message-carried opc sls (message_in bytes)
matter-carried (Requested ssn r) = request-carried (given_of ssn r) (given-short ssn r)
matter-carried Tick = tt

effect-carried : (head : LaneHead) (number cut : ℕ) (matter : Matter) (answer : Option Answer) → MatterCarried matter
    → AreCarried (effect_by head number cut matter answer).outs
effect-carried head number cut (from_network opc sls x q) (Some answer) c = routed-carried head.short head.terms.own opc sls x answer (reference_after number cut)
effect-carried head number cut (from_network opc sls x q) None c = tt
effect-carried head number cut (from_user g q) (Some answer) c = given-carried g answer (reference_after number cut) c
effect-carried head number cut (from_user g q) None c = tt
effect-carried head number cut (settled outs) answer c = c
effect-carried head number cut of_tick answer c = tt

-- What comes of the reassemblies.

failure-carried : (own cause : ℕ) (p : Piece) → IsCarried (failure own cause p)
failure-carried own cause p = refusal-carried own p.opc p.sls cause (unit_in p)

failures-carried : (own : ℕ) (failed : Option Piece) → AreCarried (failures own failed)
failures-carried own None = tt
failures-carried own (Some p) = (failure-carried own RETURN_SEGMENTATION_FAILURE p, tt)

now-carried : (own : ℕ) (now : Now) → AreCarried (of_now own now)
now-carried own Waiting = tt
now-carried own Orphan = (tt, tt)
now-carried own Broken = (tt, tt)
now-carried own (NoRoom p) = (failure-carried own RETURN_LOCAL_PROCESSING p, tt)
now-carried own (Whole p) = (tt, tt)

taken-carried : (own : ℕ) (taken : Taken) → AreCarried (taken_outs own taken)
taken-carried own taken = all-append IsCarried (failures own taken.failed) (of_now own taken.now) (failures-carried own taken.failed) (now-carried own taken.now)

worked-carried : (own ticks : ℕ) (processes : List Process) (todo : Work) → AreCarried (worked own ticks processes todo).outs
worked-carried own ticks processes work.Nothing = tt
worked-carried own ticks processes (work.Segment piece) = taken-carried own (takes ticks processes piece).1
worked-carried own ticks processes work.Tick = all-given IsCarried (failure own RETURN_SEGMENTATION_FAILURE) (failure-carried own RETURN_SEGMENTATION_FAILURE) (ended_by_tick processes)

-- The journal.

step-carried : (head : LaneHead) (number : ℕ) (s : State) (event : Event) (answer : Option Answer) → AreCarried (step_of head number s event answer).outs
unfolding step_of
step-carried head number s event answer =
    let effect = effect_by head number s.cut (matter_of event) answer in
    all-append IsCarried effect.outs (worked head.terms.own head.reassembly s.processes effect.work).outs
    (effect-carried head number s.cut (matter_of event) answer (matter-carried event))
    (worked-carried head.terms.own head.reassembly s.processes effect.work)

journal-carried : (head : LaneHead) (number : ℕ) (s : State) (journal : List Entry) → LegalFrom head number s journal
    → AllByRecursion (λ e. AreCarried e.outs) journal
journal-carried head number s [] legal = tt
journal-carried head number s (entry ∷ journal) legal = (
  subst AreCarried (sym legal.0.outputs) (step-carried head number s entry.event (answer_in entry.asked)),
  journal-carried head number (entry_after head number s entry) journal legal.1,
)

pub data_is_carried : DataIsCarried
data_is_carried head number journal legal = journal-carried head number at_first journal legal
