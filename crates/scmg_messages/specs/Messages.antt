-- Messages of SCCP management (Q.713, 5): UDT of class 0 between subsystems 1, with a format, a subsystem and its point in its data.
use Rattle.std.specs.Prelude.{ℕ, ◌+◌, ◌*◌, ◌/◌, ◌%◌, ◌==◌, ◌&&◌, nat_lt, Bool, false, List, [], ◌∷◌, length, slice_index, if◌then◌else◌, Option, Some, None, Ok, Err, option_map, unwrap_or}
use Rattle.std.specs.declared.result.Result.{Result}
use Rattle.relay_base.specs.declared.limits.TheConstants.{POINT_CODES}
use Rattle.relay_base.specs.declared.words.ReadFault.{ReadFault}
use Rattle.relay_base.specs.declared.words.Output.{Output}
use Rattle.relay_base.specs.declared.words.Output.TheVariants.{Sent}
use Rattle.sccp_address.specs.Form.{Form}
use Rattle.sccp_address.specs.Parsing.{address_of}
use Rattle.sccp_address.specs.Subsystems.{subsystem_address}
use Rattle.sccp_address.specs.declared.address.AddressFault.{AddressFault}
use Rattle.q713_codec.specs.Names.{Message}
use Rattle.q713_codec.specs.declared.message.Message.TheVariants.{Udt}
use Rattle.q713_codec.specs.Reading.{reading_of}
use Rattle.q713_codec.specs.declared.longest.TheConstants.{LONGEST}
use Rattle.q713_codec.specs.Writing.{spelling_of}
use Rattle.scmg_messages.specs.declared.message.Format.{Format}
use Rattle.scmg_messages.specs.declared.message.Format.TheVariants.{Allowed, Prohibited, StatusTest, OutOfServiceRequest, OutOfServiceGrant}
use Rattle.scmg_messages.specs.declared.message.Notice.{Notice}

-- Writing.

-- SSA, SSP, SST, SOR and SOG
abbrev pub code_of : Format → ℕ
code_of Allowed = 0x01
code_of Prohibited = 0x02
code_of StatusTest = 0x03
code_of OutOfServiceRequest = 0x04
code_of OutOfServiceGrant = 0x05

-- the address of management, which is subsystem 1
abbrev pub management : List ℕ
management = subsystem_address 1

-- a point code is two octets, the least significant first; the multiplicity is 0
abbrev pub data_of : Format → ℕ → ℕ → List ℕ
data_of format ssn point = code_of format ∷ ssn ∷ point % 256 ∷ point / 256 ∷ 0x00 ∷ []

abbrev pub octets_of : Format → ℕ → ℕ → List ℕ
octets_of format ssn point = spelling_of (Udt 0 management management (data_of format ssn point))

-- a message about a subsystem of a point leaves with link selection 0
abbrev pub sent : ℕ → Format → ℕ → ℕ → Output
sent to format ssn point = Sent to 0 (octets_of format ssn point)

-- the origin of a message, with its link selection, is told that a local subsystem is prohibited, where one is named (Q.714, 5.3.2)
unfoldable pub status_outputs : ℕ → ℕ → ℕ → Option ℕ → List Output
status_outputs own opc sls None = []
status_outputs own opc sls (Some ssn) = Sent opc sls (octets_of Prohibited ssn own) ∷ []

-- Reading.

abbrev pub format_of : ℕ → Option Format
format_of code =
    if code == 0x01 then Some Allowed
    else if code == 0x02 then Some Prohibited
    else if code == 0x03 then Some StatusTest
    else if code == 0x04 then Some OutOfServiceRequest
    else if code == 0x05 then Some OutOfServiceGrant
    else None

-- of the point code 14 bits count
abbrev pub notice_by : List ℕ → Format → Notice
notice_by b format = record { format = format; ssn = slice_index b 1; point = (slice_index b 2 + 256 * slice_index b 3) % POINT_CODES }

-- what data say: they have five octets or more, and a format that is known
abbrev pub notice_in : List ℕ → Option Notice
notice_in b = if nat_lt (length b) 5 then None else option_map (notice_by b) (format_of (slice_index b 0))

abbrev pub is_for_management_by : Result Form AddressFault → Bool
is_for_management_by (Ok a) = a.on_ssn && unwrap_or a.ssn 0 == 1
is_for_management_by (Err fault) = false

-- an address that routes on the subsystem number of management
abbrev pub is_for_management : List ℕ → Bool
is_for_management called = is_for_management_by (address_of called)

-- the data of a UDT whose called address routes on subsystem number 1
abbrev pub data_by : Result Message ReadFault → Option (List ℕ)
data_by (Ok (Udt class called calling body)) = if is_for_management called then Some body else None
data_by _ = None

-- what management hears in octets from the network
unfoldable pub data_in : List ℕ → Option (List ℕ)
data_in bytes = if nat_lt LONGEST (length bytes) then None else data_by (reading_of bytes)
