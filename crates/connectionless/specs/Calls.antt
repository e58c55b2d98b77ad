-- What a message and a request ask of routing, and what comes of them, as the calls tell it (Q.714, 2.3 and 4.1).
use Rattle.std.specs.Prelude.{◌≡◌, ℕ, [], false, if◌then◌else◌, Option, Some, None, Ok, Err, IsSome, IfSome, IsOk}
use Rattle.std.specs.declared.result.Result.{Result}
use Rattle.relay_base.specs.declared.words.Request.{Request}
use Rattle.relay_base.specs.declared.words.Request.TheVariants.{Unit as UnitRequest}
use Rattle.relay_base.specs.declared.words.Lost.{Lost}
use Rattle.sccp_address.specs.Form.{Form}
use Rattle.sccp_address.specs.Parsing.{address_of}
use Rattle.sccp_address.specs.declared.address.AddressFault.{AddressFault}
use Rattle.plant_core.specs.declared.answer.Origin.TheVariants.{User as FromUser}
use Rattle.plant_core.specs.declared.answer.Answer.{Answer}
use Rattle.plant_core.specs.Asking.{Question}
use Rattle.q713_codec.specs.Names.{Message}
use Rattle.connectionless.specs.Unitdata.{Unitdata, unitdata_of}
use Rattle.connectionless.specs.Given.{Given, Sending, is_unit_request, given_outcome}
use Rattle.connectionless.specs.Routed.{Outcome, done, unit_outcome}
use Rattle.connectionless.specs.Asking.{is_of_wrong_class, question_of}

-- what a message asks, if it is of the connectionless service, or why it is lost
abbrev pub some_question : Result Question Lost → Result (Option Question) Lost
some_question (Ok question) = Ok (Some question)
some_question (Err lost) = Err lost

abbrev pub unit_question : Option Unitdata → Result (Option Question) Lost
unit_question None = Ok None
unit_question (Some x) = some_question (question_of x)

unfoldable pub message_question : Message → Result (Option Question) Lost
message_question message = unit_question (unitdata_of message)

-- what a user's unit asks
abbrev pub user_question_by : Result Form AddressFault → Option Question
user_question_by (Err fault) = None
user_question_by (Ok a) = Some (record { called = a; hop = None; origin = FromUser })

abbrev pub request_question : Request → Option Question
request_question (UnitRequest sls class ret called calling body) = user_question_by (address_of called)
request_question _ = None

unfoldable pub user_question : Request → Option Question
user_question request = if is_unit_request request then request_question request else None

-- a message that isn't of the connectionless service has no outputs
abbrev pub outcome_of : ℕ → ℕ → ℕ → Option Unitdata → Answer → Outcome
outcome_of own opc sls None answer = done []
outcome_of own opc sls (Some x) answer = unit_outcome own opc sls x answer

-- a unit or a service message whose called address reads
pub record IsRoutable (message : Message) : Type 0 where
  pub unit : IsSome (unitdata_of message)
  pub address : IfSome (unitdata_of message) (λ x. IsOk (address_of x.called))

-- a unit whose class is at most 1, or a service message
abbrev pub IsOfClass : Message → Type 0
IsOfClass message = IfSome (unitdata_of message) (λ x. is_of_wrong_class x ≡ false)

-- a request that isn't a unit in its ranges has no outputs
abbrev pub sending_of : Option Given → Answer → ℕ → Sending
sending_of None answer reference = record { outs = []; is_cut = false }
sending_of (Some g) answer reference = given_outcome g answer reference
