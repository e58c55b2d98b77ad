-- A stream of M3UA messages (RFC 4666), and the events that it brings to SCCP at a point.
use Rattle.std.specs.Prelude.{ℕ, zero, suc, ◌+◌, ◌*◌, ◌/◌, ◌==◌, ◌||◌, ◌&&◌, not, nat_lt, Bool, List, [], ◌∷◌, ◌++◌, length, take, drop, slice_index, if◌then◌else◌, Option, Some, None, Ok, Err}
use Rattle.std.specs.declared.result.Result.{Result}
use Rattle.byteorder.specs.Endian.{big_number}
use Rattle.relay_base.specs.declared.limits.TheConstants.{POINT_CODES, LINK_SELECTIONS}
use Rattle.relay_base.specs.declared.words.Stamp.{Stamp}
use Rattle.relay_base.specs.declared.words.Event.{Event}
use Rattle.relay_base.specs.declared.words.Event.TheVariants.{Message}
use Rattle.relay_base.specs.Giving.{◌>>=◌}
use Rattle.m3ua_port.specs.declared.limits.TheConstants.{VERSION, TRANSFER, DATA, HEADER, PARAMETER_HEADER, PROTOCOL_DATA, LABEL, SCCP, LONGEST_MESSAGE, PHASE, LINK}
use Rattle.m3ua_port.specs.declared.fault.PortKind.{PortKind}
use Rattle.m3ua_port.specs.declared.fault.PortKind.TheVariants as kind
use Rattle.m3ua_port.specs.declared.fault.PortFault.{PortFault}

-- The common header (RFC 4666, 3.1): the version, a reserved octet, the class and the type, and the length of the whole message.
abbrev pub version_of : List ℕ → ℕ
version_of octets = slice_index octets 0

abbrev pub is_data : List ℕ → Bool
is_data octets = slice_index octets 2 == TRANSFER && slice_index octets 3 == DATA

abbrev pub length_of : List ℕ → ℕ
length_of octets = big_number 4 (drop 4 octets)

-- the length of the message at the front of octets, or the first fault of its header
unfoldable pub message_length : List ℕ → Result ℕ PortKind
message_length octets =
    if not (version_of octets == VERSION) then Err kind.Version
    else if nat_lt (length octets) HEADER then Err kind.End
    else if nat_lt (length_of octets) HEADER || nat_lt LONGEST_MESSAGE (length_of octets) then Err kind.Length
    else if nat_lt (length octets) (length_of octets) then Err kind.End
    else Ok (length_of octets)

-- A parameter (RFC 4666, 3.2): its tag and its value, which ends where its length says.
pub record Parameter : Type 0 where
  pub tag : ℕ
  pub value : List ℕ

abbrev pub parameter_length : List ℕ → ℕ
parameter_length octets = big_number 2 (drop 2 octets)

unfoldable pub parameter_of : List ℕ → Result Parameter PortKind
parameter_of octets =
    if nat_lt (length octets) PARAMETER_HEADER then Err kind.Parameter
    else if nat_lt (parameter_length octets) PARAMETER_HEADER || nat_lt (length octets) (parameter_length octets) then Err kind.Parameter
    else Ok (record { tag = big_number 2 octets; value = drop PARAMETER_HEADER (take (parameter_length octets) octets) })

-- it is filled up to a multiple of four octets
abbrev pub padded : ℕ → ℕ
padded size = (size + 3) / 4 * 4

-- all parameters of a message; there are no more than octets
abbrev pub parameters_in : ℕ → List ℕ → Result (List Parameter) PortKind
parameters_in zero octets = Ok []
parameters_in (suc n) [] = Ok []
parameters_in (suc n) (octet ∷ octets) = do
  first ← parameter_of (octet ∷ octets)
  more ← parameters_in n (drop (padded (parameter_length (octet ∷ octets))) (octet ∷ octets))
  Ok (first ∷ more)

unfoldable pub parameters_of : List ℕ → Result (List Parameter) PortKind
parameters_of octets = parameters_in (length octets) octets

-- the first Protocol Data among parameters (RFC 4666, 3.3.1)
abbrev pub first_data : List Parameter → Result (List ℕ) PortKind
first_data [] = Err kind.Missing
first_data (parameter ∷ parameters) = if parameter.tag == PROTOCOL_DATA then Ok parameter.value else first_data parameters

abbrev pub protocol_data : List ℕ → Result (List ℕ) PortKind
protocol_data octets = do
  parameters ← parameters_of octets
  first_data parameters

-- Protocol Data (RFC 4666, 3.3.1): the point codes of origin and destination, the service indicator, the network indicator,
-- the message priority and the signalling link selection, and then the octets of the user.
abbrev pub is_for : ℕ → List ℕ → Bool
is_for own value = slice_index value 8 == SCCP && big_number 4 (drop 4 value) == own

abbrev pub is_in_range : List ℕ → Bool
is_in_range value = nat_lt (big_number 4 value) POINT_CODES && nat_lt (slice_index value 11) LINK_SELECTIONS

abbrev pub transfer_of : List ℕ → Event
transfer_of value = Message (big_number 4 value) (slice_index value 11) (drop LABEL value)

-- what it brings to SCCP at a point
unfoldable pub data_event : ℕ → List ℕ → Result (Option Event) PortKind
data_event own value =
    if nat_lt (length value) LABEL then Err kind.Short
    else if not (is_for own value) then Ok None
    else if not (is_in_range value) then Err kind.Range
    else Ok (Some (transfer_of value))

-- what a message brings, which is nothing where it isn't DATA
unfoldable pub message_event : ℕ → List ℕ → Result (Option Event) PortKind
message_event own message =
    if is_data message then protocol_data (drop HEADER message) >>= data_event own else Ok None

-- what the message at the front of a stream brings, or its first fault
abbrev pub front_event : ℕ → List ℕ → Result (Option Event) PortKind
front_event own octets = do
  size ← message_length octets
  message_event own (take size octets)

-- The events of a stream up to its first fault or its end, and that fault where there is one.
pub record Frames : Type 0 where
  pub events : List (Stamp × Event)
  pub fault : Option PortFault

-- an event is stamped with the number of its message
abbrev pub stamped : ℕ → Option Event → List (Stamp × Event)
stamped number None = []
stamped number (Some event) = (record { phase = PHASE; link = LINK; line = number }, event) ∷ []

abbrev pub no_frames : Frames
no_frames = record { events = []; fault = None }

-- the message of a number, and those behind it
abbrev pub frames_by : ℕ → Result (Option Event) PortKind → Frames → Frames
frames_by number (Err fault) later = record { events = []; fault = Some (record { message = number; kind = fault }) }
frames_by number (Ok event) later = record { events = stamped number event ++ later.events; fault = later.fault }

-- the messages from this number on; there are no more than octets
abbrev pub frames_in : ℕ → ℕ → ℕ → List ℕ → Frames
frames_in own number zero octets = no_frames
frames_in own number (suc n) [] = no_frames
frames_in own number (suc n) (octet ∷ octets) =
    frames_by number (front_event own (octet ∷ octets)) (frames_in own (number + 1) n (drop (length_of (octet ∷ octets)) (octet ∷ octets)))

unfoldable pub frames_from : ℕ → ℕ → List ℕ → Frames
frames_from own number octets = frames_in own number (length octets) octets

abbrev pub frames_of : ℕ → List ℕ → Frames
frames_of own octets = frames_from own 1 octets
