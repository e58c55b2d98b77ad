-- The ED of one step of a connection (Q.714, 3.6), octet for octet.
use Rattle.std.specs.Prelude.{IsTrue, ◌≡◌, ◌⊎◌, ℕ, ◌==◌, ◌&&◌, not, Bool, true, false, List, [], ◌∷◌, ◌++◌, if◌then◌else◌, Option, Some, None}
use Rattle.relay_base.specs.declared.words.Event.{Event}
use Rattle.relay_base.specs.declared.words.Event.TheVariants.{Message as Arrived, Asked as Requested}
use Rattle.relay_base.specs.declared.words.Request.TheVariants as request
use Rattle.relay_base.specs.declared.words.Output.{Output}
use Rattle.relay_base.specs.declared.words.Output.TheVariants.{Sent}
use Rattle.plant_core.specs.declared.terms.Ticks.{Ticks}
use Rattle.q713_codec.specs.declared.message.Message.TheVariants.{Ed}
use Rattle.q713_codec.specs.Writing.{spelling_of}
use Rattle.section_model.specs.declared.cell.Occasion.TheVariants as on
use Rattle.section_model.specs.Parameters.{Arrival, arrival_in}
use Rattle.section_model.specs.Ends.{End, wire, owner, Section, Connection, is_up}
use Rattle.section_model.specs.Step.{is_named, hears, connection_step}
use Rattle.connection_law.specs.Messages.{expedited_among, acted, stepped}

-- expedited data as ED on a section
abbrev pub as_expedited : Section → List ℕ → Output
as_expedited x body = Sent x.head.point x.head.sls (spelling_of (Ed x.head.other body))

-- no ED is unanswered on a section of class 3 that is up
abbrev pub is_free : Section → Bool
is_free x = is_up x.head.state && x.head.class == 3 && not x.windows.unanswered

abbrev pub unanswered_at : End → Bool
unanswered_at (wire x) = x.windows.unanswered
unanswered_at (owner u) = false

abbrev pub waiting_at : End → Option (List ℕ)
waiting_at (wire x) = x.windows.waiting
waiting_at (owner u) = None

-- expedited data that waits leaves where none is unanswered
abbrev pub waiting_as : Section → Option (List ℕ) → List Output
waiting_as x None = []
waiting_as x (Some body) = if is_free x then as_expedited x body ∷ [] else []

abbrev pub waiting_on : End → List Output
waiting_on (wire x) = waiting_as x (waiting_at (wire x))
waiting_on (owner u) = []

-- EA comes on a section
abbrev pub AnswersIn : Section → Option Arrival → Type 0
AnswersIn x None = ⊥
AnswersIn x (Some a) = (a.occasion ≡ on.Ea) × (is_named a.parameters.dlr (wire x) ≡ true)

abbrev pub Answers : Event → Section → Type 0
Answers (Arrived point sls bytes) x = AnswersIn x (arrival_in bytes)
Answers _ x = ⊥

-- an end hands expedited data over: ED comes on it with these octets, or its user asks to send them
abbrev pub GivesIn : End → List ℕ → Option Arrival → Type 0
GivesIn e body None = ⊥
GivesIn e body (Some a) = (a.occasion ≡ on.Ed) × (a.parameters.data_octets ≡ body) × (is_named a.parameters.dlr e ≡ true)

abbrev pub Gives : Event → End → List ℕ → Type 0
Gives (Arrived point sls bytes) e body = GivesIn e body (arrival_in bytes)
Gives (Requested ssn (request.Expedite mine octets)) (owner u) body = octets ≡ body
Gives _ e body = ⊥

-- An ED that leaves on an end at once: EA comes for the one before, and this one waited; or none was unanswered, and the other end hands it over. It
-- is unanswered then.
pub record LeavesAtOnce (IsAnswered : Section → Type 0) (IsGiven : List ℕ → Type 0) (before after : End) (sent : List Output) : Type 0 where
  pub section : Section
  pub is : before ≡ wire section
  pub body : List ℕ
  pub sends : sent ≡ as_expedited section body ∷ []
  pub why :
      (IsAnswered section × (section.windows.unanswered ≡ true) × (section.windows.waiting ≡ Some body))
      ⊎ (IsGiven body × (is_free section ≡ true))
  pub unanswered : unanswered_at after ≡ true

-- the counts of an end are what they are where they are cleared
abbrev pub IsAtNothing : End → Type 0
IsAtNothing (wire x) = (x.windows.sent ≡ 0) × (x.windows.acked ≡ 0) × (x.windows.told ≡ 0)
IsAtNothing (owner u) = Unit {0}

-- an ED stays unanswered until EA comes on its section, or the event clears the counts
abbrev pub IsAnsweredAt : Event → End → Type 0
IsAnsweredAt event (wire x) = Answers event x
IsAnsweredAt event (owner u) = ⊥

abbrev pub StaysUnanswered : Type 0 → End → End → Type 0
StaysUnanswered IsAnswered before after = unanswered_at before ≡ true → (unanswered_at after ≡ true) ⊎ (IsAnswered ⊎ IsAtNothing after)

abbrev pub BothStayUnanswered : Event → Connection → Connection → Type 0
BothStayUnanswered event before after =
    StaysUnanswered (IsAnsweredAt event before.this) before.this after.this × StaysUnanswered (IsAnsweredAt event before.that) before.that after.that

-- and what follows the event answers none
abbrev pub AnswersNone : Connection → Connection → Type 0
AnswersNone before after =
    (unanswered_at before.this ≡ true → unanswered_at after.this ≡ true) × (unanswered_at before.that ≡ true → unanswered_at after.that ≡ true)

-- what waits is what waited, or what was handed over
abbrev pub IsHandedOver : (List ℕ → Type 0) → Option (List ℕ) → Option (List ℕ) → Type 0
IsHandedOver Handed before after = (body : List ℕ) → after ≡ Some body → (before ≡ Some body) ⊎ Handed body

-- what the ends hand to the one end, and to the other
abbrev pub AreHandedOver : (List ℕ → Type 0) → (List ℕ → Type 0) → Connection → Connection → Type 0
AreHandedOver ToThis ToThat before after =
    IsHandedOver ToThis (waiting_at before.this) (waiting_at after.this) × IsHandedOver ToThat (waiting_at before.that) (waiting_at after.that)

-- at most one leaves at once, on the one end or on the other
pub data AtOnce (IsAnswered : Section → Type 0) (IsGiven : End → List ℕ → Type 0) (before after : Connection) (sent : List Output) : Type 0 where
  none : sent ≡ [] → AtOnce IsAnswered IsGiven before after sent
  on_this : LeavesAtOnce IsAnswered (IsGiven before.that) before.this after.this sent → AtOnce IsAnswered IsGiven before after sent
  on_that : LeavesAtOnce IsAnswered (IsGiven before.this) before.that after.that sent → AtOnce IsAnswered IsGiven before after sent

-- The outputs of a step: what leaves at once, and what waits on either end and may leave then, and no other ED. What is unanswered stays so until EA,
-- and what waits was handed over by the other end.
pub record SendsExpedited (ticks : Ticks) (c : Connection) (event : Event) (outs : List Output) : Type 0 where
  pub at_once : List Output
  pub leaves : AtOnce (Answers event) (Gives event) c (acted ticks c event) at_once
  pub unanswered : BothStayUnanswered event c (acted ticks c event) × AnswersNone (acted ticks c event) (stepped ticks c event)
  pub waits :
      AreHandedOver (Gives event c.that) (Gives event c.this) c (acted ticks c event)
      × AreHandedOver (Gives event c.that) (Gives event c.this) c (stepped ticks c event)
  pub sends : expedited_among outs ≡ at_once ++ waiting_on (acted ticks c event).this ++ waiting_on (acted ticks c event).that

-- The law, of any connection and what it hears.
abbrev pub ExpeditedSentLaw : Type 0
ExpeditedSentLaw = (ticks : Ticks) (c : Connection) (event : Event) → IsTrue (hears c event) → SendsExpedited ticks c event (connection_step ticks c event).1
