-- What the messages of a stream bring is in its ranges.
use Rattle.std.proofs.Common.{◌≡◌, ℕ, zero, suc, ◌+◌, ◌<◌, ◌==◌, ◌||◌, nat_lt, not, Bool, true, false, List, [], ◌∷◌, length, take, drop, slice_index, if◌then◌else◌, Option, Some, None, Ok, Err, refl, arith}
use Rattle.std.specs.Prelude.{IfSome, IfOk}
use Rattle.std.specs.List.{AllByRecursion}
use Rattle.std.specs.declared.result.Result.{Result}
use Rattle.std.proofs.lemmas.Bool.{and_parts, ltb-true, not-false}
use Rattle.byteorder.specs.Endian.{big_number}
use Rattle.relay_base.proofs.GivingLemmas.{bound}
use Rattle.relay_base.specs.declared.limits.TheConstants.{LINK_SELECTIONS, POINT_CODES}
use Rattle.relay_base.specs.declared.words.Event.{Event}
use Rattle.relay_base.specs.declared.words.Stamp.{Stamp}
use Rattle.node_head.proofs.Given.{after_any}
use Rattle.m3ua_port.specs.Frames.{Parameter, is_data, length_of, message_length, parameter_length, parameter_of, padded, parameters_in, parameters_of, first_data, protocol_data, is_for, is_in_range, transfer_of, data_event, message_event, front_event, Frames, stamped, frames_by, frames_in, frames_from}
use Rattle.m3ua_port.specs.declared.fault.PortKind.{PortKind}
use Rattle.m3ua_port.specs.declared.fault.PortKind.TheVariants as kind
use Rattle.m3ua_port.specs.declared.limits.TheConstants.{HEADER, LABEL, PARAMETER_HEADER, PROTOCOL_DATA}
use Rattle.printable_law.specs.OctetLaw.{IsOctet, AreOctets}
use Rattle.printable_law.specs.Ranges.{EventInRange}
use Rattle.printable_law.proofs.Lists.{either, all-append, all-take, all-drop}
use Rattle.printable_law.specs.CaptureRanges.{StampInRange}

-- Parameters.

abbrev ParameterInRange : Parameter → Type 0
ParameterInRange p = AreOctets p.value

parameter-in : (octets : List ℕ) → AreOctets octets → IfOk (parameter_of octets) ParameterInRange
unfolding parameter_of
parameter-in octets are =
    either (λ r. IfOk r ParameterInRange) (nat_lt (length octets) PARAMETER_HEADER) (Err kind.Parameter) _ tt
    (either (λ r. IfOk r ParameterInRange) (nat_lt (parameter_length octets) PARAMETER_HEADER || nat_lt (length octets) (parameter_length octets)) (Err kind.Parameter) _ tt
    (all-drop IsOctet PARAMETER_HEADER (take (parameter_length octets) octets) (all-take IsOctet (parameter_length octets) octets are)))

abbrev ParametersInRange : List Parameter → Type 0
ParametersInRange parameters = AllByRecursion ParameterInRange parameters

parameters_in-in : (n : ℕ) (octets : List ℕ) → AreOctets octets → IfOk (parameters_in n octets) ParametersInRange
parameters_in-in zero octets are = tt
parameters_in-in (suc n) [] are = tt
parameters_in-in (suc n) (octet ∷ octets) are =
    let behind = drop (padded (parameter_length (octet ∷ octets))) (octet ∷ octets) in
    bound ParameterInRange ParametersInRange (parameter_of (octet ∷ octets)) _ (parameter-in (octet ∷ octets) are) (λ first f.
    bound ParametersInRange ParametersInRange (parameters_in n behind) _
    (parameters_in-in n behind (all-drop IsOctet (padded (parameter_length (octet ∷ octets))) (octet ∷ octets) are)) (λ more m. (f, m)))

first-in : (parameters : List Parameter) → ParametersInRange parameters → IfOk (first_data parameters) AreOctets
first-in [] all = tt
first-in (parameter ∷ parameters) all =
    either (λ r. IfOk r AreOctets) (parameter.tag == PROTOCOL_DATA) (Ok parameter.value) (first_data parameters) all.0 (first-in parameters all.1)

data-in : (octets : List ℕ) → AreOctets octets → IfOk (protocol_data octets) AreOctets
unfolding parameters_of
data-in octets are = bound ParametersInRange AreOctets (parameters_of octets) first_data (parameters_in-in (length octets) octets are) first-in

-- A message.

abbrev Brings : Result (Option Event) PortKind → Type 0
Brings r = IfOk r (λ event. IfSome event EventInRange)

transfer-in : (value : List ℕ) → AreOctets value → Brings (if not (is_in_range value) then Err kind.Range else Ok (Some (transfer_of value)))
transfer-in value are = by_test (not (is_in_range value)) refl
  where
    by_test : (out : Bool) → not (is_in_range value) ≡ out → Brings (if out then Err kind.Range else Ok (Some (transfer_of value)))
    by_test true e = tt
    by_test false e =
        let both = and_parts (nat_lt (big_number 4 value) POINT_CODES) (nat_lt (slice_index value 11) LINK_SELECTIONS) (not-false (is_in_range value) e) in
        (ltb-true (big_number 4 value) POINT_CODES both.0, ltb-true (slice_index value 11) LINK_SELECTIONS both.1, all-drop IsOctet LABEL value are)

value-brings : (own : ℕ) (value : List ℕ) → AreOctets value → Brings (data_event own value)
unfolding data_event
value-brings own value are =
    either Brings (nat_lt (length value) LABEL) (Err kind.Short) _ tt (either Brings (not (is_for own value)) (Ok None) _ tt (transfer-in value are))

message-brings : (own : ℕ) (message : List ℕ) → AreOctets message → Brings (message_event own message)
unfolding message_event
message-brings own message are =
    either Brings (is_data message) _ (Ok None)
    (bound AreOctets (λ event. IfSome event EventInRange) (protocol_data (drop HEADER message)) (data_event own) (data-in (drop HEADER message) (all-drop IsOctet HEADER message are)) (value-brings own))
    tt

front-brings : (own : ℕ) (octets : List ℕ) → AreOctets octets → Brings (front_event own octets)
front-brings own octets are =
    after_any (λ event. IfSome event EventInRange) (message_length octets) _ (λ size. message-brings own (take size octets) (all-take IsOctet size octets are))

-- The stream.

abbrev pub FrameInRange : Stamp × Event → Type 0
FrameInRange e = StampInRange e.0 × EventInRange e.1

abbrev FramesInRange : Frames → Type 0
FramesInRange frames = AllByRecursion FrameInRange frames.events

stamped-in : (number : ℕ) (event : Option Event) → number < 4_294_967_296 → IfSome event EventInRange → AllByRecursion FrameInRange (stamped number event)
stamped-in number None small in_range = tt
stamped-in number (Some event) small in_range = ((record { phase = omega arith; link = omega arith; line = small }, in_range), tt)

frames-by : (number : ℕ) (r : Result (Option Event) PortKind) (later : Frames) → number < 4_294_967_296 → Brings r → FramesInRange later → FramesInRange (frames_by number r later)
frames-by number (Err fault) later small brings all = tt
frames-by number (Ok event) later small brings all = all-append FrameInRange (stamped number event) later.events (stamped-in number event small brings) all

frames_in-in : (own number n : ℕ) (octets : List ℕ) → number + n < 4_294_967_296 → AreOctets octets → FramesInRange (frames_in own number n octets)
frames_in-in own number zero octets few are = tt
frames_in-in own number (suc n) [] few are = tt
frames_in-in own number (suc n) (octet ∷ octets) few are =
    let behind = drop (length_of (octet ∷ octets)) (octet ∷ octets) in
    frames-by number (front_event own (octet ∷ octets)) (frames_in own (number + 1) n behind) (omega (arith, few)) (front-brings own (octet ∷ octets) are)
    (frames_in-in own (number + 1) n behind (omega (arith, few)) (all-drop IsOctet (length_of (octet ∷ octets)) (octet ∷ octets) are))

pub frames-in : (own : ℕ) (octets : List ℕ) → length octets + 1 < 4_294_967_296 → AreOctets octets → FramesInRange (frames_from own 1 octets)
unfolding frames_from
frames-in own octets few are = frames_in-in own 1 (length octets) octets (omega (arith, few)) are
