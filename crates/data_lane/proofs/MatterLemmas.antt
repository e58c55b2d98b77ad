-- What an event is to the connectionless service, by what the calls tell of its question.
use Rattle.std.proofs.Common.{◌≡◌, ℕ, Bool, true, false, List, [], ◌∷◌, ◌++◌, Ok, Err, refl, ap, sym, ◌∙◌, if◌then◌else◌}
use Rattle.std.specs.Prelude.{Option, Some, None}
use Rattle.std.specs.declared.result.Result.{Result}
use Rattle.relay_base.specs.declared.words.Lost.{Lost}
use Rattle.relay_base.specs.declared.words.Output.{Output}
use Rattle.relay_base.specs.declared.words.Output.TheVariants.{Lost as Dropped}
use Rattle.relay_base.specs.declared.words.Request.{Request}
use Rattle.relay_base.specs.declared.words.Request.TheVariants.{Unit as UnitRequest}
use Rattle.sccp_address.specs.Form.{Form}
use Rattle.sccp_address.specs.Parsing.{address_of}
use Rattle.sccp_address.specs.declared.address.AddressFault.{AddressFault}
use Rattle.plant_core.specs.Asking.{Question}
use Rattle.plant_core.specs.declared.answer.Answer.{Answer}
use Rattle.plant_core.specs.declared.terms.LaneHead.{LaneHead}
use Rattle.q713_codec.specs.Names.{Message}
use Rattle.connectionless.specs.Unitdata.{Unitdata, unitdata_of}
use Rattle.connectionless.specs.Given.{Given, given_of, given_in, is_unit_request, reference_after}
use Rattle.connectionless.specs.Calls.{sending_of}
use Rattle.connectionless.specs.Asking.{from_network, from_user, settled, question_of, matter_by_question, matter_by_unit, matter_by_address, matter_by_given}
use Rattle.connectionless.specs.Calls.{some_question, unit_question, message_question, user_question_by, request_question, user_question}
use Rattle.long_interwork.specs.Routed.{routed_message}
use Rattle.data_lane.specs.declared.effect.Effect.{Effect}
use Rattle.data_lane.specs.declared.effect.Work.TheVariants as work
use Rattle.data_lane.specs.Legal.{of_routed, of_sending, effect_by}

-- A message of the connectionless service, by its unit.

lost-question : (opc sls : ℕ) (x : Unitdata) (question : Result Question Lost) (why : Lost) → some_question question ≡ Err why → matter_by_question opc sls x question ≡ settled (Dropped why ∷ [])
lost-question opc sls x (Ok q) why e = cc
lost-question opc sls x (Err w) why e = let same : w ≡ why = cc in ap (λ w. settled (Dropped w ∷ [])) same

lost-unit : (opc sls : ℕ) (unit : Option Unitdata) (why : Lost) → unit_question unit ≡ Err why → matter_by_unit opc sls unit ≡ settled (Dropped why ∷ [])
lost-unit opc sls None why e = cc
lost-unit opc sls (Some x) why e = lost-question opc sls x (question_of x) why e

pub matter-lost : (opc sls : ℕ) (message : Message) (why : Lost) → message_question message ≡ Err why → matter_by_unit opc sls (unitdata_of message) ≡ settled (Dropped why ∷ [])
unfolding message_question
matter-lost opc sls message why e = lost-unit opc sls (unitdata_of message) why e

some-question : {A : Type 0} (question : Result Question Lost) → some_question question ≡ Ok None → A
some-question (Ok q) e = absurd (cc)
some-question (Err w) e = absurd (cc)

none-unit : (opc sls : ℕ) (unit : Option Unitdata) → unit_question unit ≡ Ok None → matter_by_unit opc sls unit ≡ settled []
none-unit opc sls None e = refl
none-unit opc sls (Some x) e = some-question (question_of x) e

pub matter-none : (opc sls : ℕ) (message : Message) → message_question message ≡ Ok None → matter_by_unit opc sls (unitdata_of message) ≡ settled []
unfolding message_question
matter-none opc sls message e = none-unit opc sls (unitdata_of message) e

-- the unit of a message that asks this
pub record Asks (opc sls : ℕ) (unit : Option Unitdata) (question : Question) : Type 0 where
  pub asker : Unitdata
  pub is : unit ≡ Some asker
  pub matter : matter_by_unit opc sls unit ≡ from_network opc sls asker question

asked-question : (opc sls : ℕ) (x : Unitdata) (found : Result Question Lost) (question : Question) → some_question found ≡ Ok (Some question) → matter_by_question opc sls x found ≡ from_network opc sls x question
asked-question opc sls x (Ok q) question e = let same : q ≡ question = cc in ap (from_network opc sls x) same
asked-question opc sls x (Err w) question e = cc

asked-unit : (opc sls : ℕ) (unit : Option Unitdata) (question : Question) → unit_question unit ≡ Ok (Some question) → Asks opc sls unit question
asked-unit opc sls None question e = absurd (cc)
asked-unit opc sls (Some x) question e = record { asker = x; is = refl; matter = asked-question opc sls x (question_of x) question e }

pub matter-asked : (opc sls : ℕ) (message : Message) (question : Question) → message_question message ≡ Ok (Some question) → Asks opc sls (unitdata_of message) question
unfolding message_question
matter-asked opc sls message question e = asked-unit opc sls (unitdata_of message) question e

-- A user's unit.

none-address : (g : Given) (address : Result Form AddressFault) → user_question_by address ≡ None → matter_by_address g address ≡ settled []
none-address g (Ok a) e = cc
none-address g (Err fault) e = refl

none-given : (ssn : ℕ) (request : Request) → request_question request ≡ None → matter_by_given (given_in ssn request) ≡ settled []
none-given ssn (UnitRequest sls class ret called calling body) e = none-address _ (address_of called) e
none-given ssn _ e = refl

none-if : (ssn : ℕ) (request : Request) (is_unit : Bool) → (if is_unit then request_question request else None) ≡ None → matter_by_given (if is_unit then given_in ssn request else None) ≡ settled []
none-if ssn request true e = none-given ssn request e
none-if ssn request false e = refl

pub matter-unasked : (ssn : ℕ) (request : Request) → None ≡ user_question request → matter_by_given (given_of ssn request) ≡ settled []
unfolding user_question given_of
matter-unasked ssn request e = none-if ssn request (is_unit_request request) (sym e)

-- the unit of a request that asks this
pub record AsksAsUser (given : Option Given) (question : Question) : Type 0 where
  pub asker : Given
  pub is : given ≡ Some asker
  pub matter : matter_by_given given ≡ from_user asker question

some-address : (g : Given) (address : Result Form AddressFault) (question : Question) → user_question_by address ≡ Some question → matter_by_address g address ≡ from_user g question
some-address g (Ok a) question e = cc
some-address g (Err fault) question e = cc

some-given : (ssn : ℕ) (request : Request) (question : Question) → request_question request ≡ Some question → AsksAsUser (given_in ssn request) question
some-given ssn (UnitRequest sls class ret called calling body) question e = record { asker = _; is = refl; matter = some-address _ (address_of called) question e }
some-given ssn _ question e = absurd (cc)

some-if : (ssn : ℕ) (request : Request) (is_unit : Bool) (question : Question) → (if is_unit then request_question request else None) ≡ Some question → AsksAsUser (if is_unit then given_in ssn request else None) question
some-if ssn request true question e = some-given ssn request question e
some-if ssn request false question e = absurd (cc)

pub matter-user : (ssn : ℕ) (request : Request) (question : Question) → Some question ≡ user_question request → AsksAsUser (given_of ssn request) question
unfolding user_question given_of
matter-user ssn request question e = some-if ssn request (is_unit_request request) question (sym e)

-- What comes of them by the answer.

pub effect-routed : (head : LaneHead) (number cut opc sls : ℕ) (unit : Option Unitdata) (question : Question) (answer : Answer) (effect : Effect)
    → Asks opc sls unit question → effect ≡ of_routed (routed_message head.short head.terms.own opc sls unit answer (reference_after number cut))
    → effect ≡ effect_by head number cut (matter_by_unit opc sls unit) (Some answer)
effect-routed head number cut opc sls unit question answer effect asks made =
    made ∙ ap (λ u. of_routed (routed_message head.short head.terms.own opc sls u answer (reference_after number cut))) asks.is
    ∙ sym (ap (λ m. effect_by head number cut m (Some answer)) asks.matter)

abbrev cut_effect : List Output → Bool → Effect
cut_effect outs is_cut = record { outs = outs; is_cut = is_cut; work = work.Nothing }

pub effect-sending : (head : LaneHead) (number cut : ℕ) (given : Option Given) (question : Question) (answer : Answer) (before outs : List Output) (is_cut : Bool)
    → AsksAsUser given question → before ≡ [] → outs ≡ before ++ (sending_of given answer (reference_after number cut)).outs
    → is_cut ≡ (sending_of given answer (reference_after number cut)).is_cut
    → cut_effect outs is_cut ≡ effect_by head number cut (matter_by_given given) (Some answer)
effect-sending head number cut given question answer before outs is_cut asks none put told =
    let sending = sending_of given answer (reference_after number cut) in
    ap (λ o. cut_effect o is_cut) (put ∙ ap (λ b. b ++ sending.outs) none) ∙ ap (λ k. cut_effect sending.outs k) told
    ∙ ap (λ g. of_sending (sending_of g answer (reference_after number cut))) asks.is
    ∙ sym (ap (λ m. effect_by head number cut m (Some answer)) asks.matter)
