-- What a unit asks of routing, or why it is lost (Q.714, 4.1).
use Rattle.std.specs.Prelude.{ℕ, ◌&&◌, nat_lt, not, Bool, List, [], ◌∷◌, if◌then◌else◌, Option, Some, None, Ok, Err}
use Rattle.std.specs.declared.result.Result.{Result}
use Rattle.relay_base.specs.declared.words.Event.{Event}
use Rattle.relay_base.specs.declared.words.Event.TheVariants.{Message as Arrived, Asked as Requested, Tick}
use Rattle.relay_base.specs.declared.words.Lost.{Lost}
use Rattle.relay_base.specs.declared.words.Lost.TheVariants.{Long, Read, Address, Class}
use Rattle.relay_base.specs.declared.words.ReadFault.{ReadFault}
use Rattle.relay_base.specs.declared.words.Output.{Output}
use Rattle.relay_base.specs.declared.words.Output.TheVariants.{Lost as Dropped}
use Rattle.sccp_address.specs.Form.{Form}
use Rattle.sccp_address.specs.Parsing.{address_of}
use Rattle.sccp_address.specs.declared.address.AddressFault.{AddressFault}
use Rattle.plant_core.specs.declared.answer.Origin.TheVariants.{Network, User as FromUser}
use Rattle.plant_core.specs.Asking.{Question}
use Rattle.q713_codec.specs.Longest.{is_too_long}
use Rattle.q713_codec.specs.Names.{Message}
use Rattle.q713_codec.specs.Reading.{reading_of}
use Rattle.connectionless.specs.Unitdata.{Unitdata, unitdata_of, class_of}
use Rattle.connectionless.specs.Given.{Given, given_of}

-- a unit whose class is above 1 (Q.713, 3.6)
abbrev pub is_of_wrong_class : Unitdata → Bool
is_of_wrong_class x = not x.is_service && nat_lt 1 (class_of x)

abbrev pub asked_by : Result Form AddressFault → Unitdata → Result Question Lost
asked_by (Err fault) x = Err Address
asked_by (Ok a) x = if is_of_wrong_class x then Err Class else Ok (record { called = a; hop = x.hop; origin = Network })

-- what a unit or a service message from the network asks, or the first reason to lose it (Q.714, 2.3 and 4.1)
unfoldable pub question_of : Unitdata → Result Question Lost
question_of x = asked_by (address_of x.called) x

-- the message that octets from the network are, or why they are lost
abbrev pub message_by : Result Message ReadFault → Result Message Lost
message_by (Ok message) = Ok message
message_by (Err fault) = Err (Read fault)

unfoldable pub message_in : List ℕ → Result Message Lost
message_in bytes = if is_too_long bytes then Err Long else message_by (reading_of bytes)

-- What an event is to the connectionless service: a unit or a service message from the network with its question, a user's unit with
-- its question, outputs that no routing decides, or a tick.
pub data Matter : Type 0 where
  from_network : ℕ → ℕ → Unitdata → Question → Matter
  from_user : Given → Question → Matter
  settled : List Output → Matter
  of_tick : Matter

abbrev pub matter_by_question : ℕ → ℕ → Unitdata → Result Question Lost → Matter
matter_by_question opc sls x (Ok question) = from_network opc sls x question
matter_by_question opc sls x (Err lost) = settled (Dropped lost ∷ [])

-- a message of another service has no outputs
abbrev pub matter_by_unit : ℕ → ℕ → Option Unitdata → Matter
matter_by_unit opc sls None = settled []
matter_by_unit opc sls (Some x) = matter_by_question opc sls x (question_of x)

abbrev pub matter_by_message : ℕ → ℕ → Result Message Lost → Matter
matter_by_message opc sls (Ok message) = matter_by_unit opc sls (unitdata_of message)
matter_by_message opc sls (Err lost) = settled (Dropped lost ∷ [])

abbrev pub matter_by_address : Given → Result Form AddressFault → Matter
matter_by_address g (Ok a) = from_user g (record { called = a; hop = None; origin = FromUser })
matter_by_address g (Err fault) = settled []

-- a request that isn't a unit in its ranges has no outputs
abbrev pub matter_by_given : Option Given → Matter
matter_by_given None = settled []
matter_by_given (Some g) = matter_by_address g (address_of g.called)

unfoldable pub matter_of : Event → Matter
matter_of (Arrived opc sls bytes) = matter_by_message opc sls (message_in bytes)
matter_of (Requested ssn request) = matter_by_given (given_of ssn request)
matter_of Tick = of_tick

-- the question that an event asks, if it asks one
abbrev pub question_in : Matter → Option Question
question_in (from_network opc sls x question) = Some question
question_in (from_user g question) = Some question
question_in _ = None
