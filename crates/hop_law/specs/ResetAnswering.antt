-- When RSC is sent (Q.714, 3.7): in answer to RSR that comes for a section of the connection, and at no other time.
use Rattle.std.specs.Prelude.{◌≡◌, ℕ, Bool, false, List, Option, Some, None}
use Rattle.std.specs.List.{AllByRecursion, list_any}
use Rattle.relay_base.specs.declared.words.Event.{Event}
use Rattle.relay_base.specs.declared.words.Event.TheVariants.{Message as Arrived}
use Rattle.relay_base.specs.declared.words.Output.{Output}
use Rattle.plant_core.specs.declared.answer.Answer.{Answer}
use Rattle.plant_core.specs.declared.terms.Terms.{Terms}
use Rattle.plant_core.specs.declared.terms.Ticks.{Ticks}
use Rattle.section_model.specs.declared.cell.Occasion.TheVariants as on
use Rattle.section_model.specs.Parameters.{Arrival, arrival_in}
use Rattle.section_model.specs.Ends.{End, Connection}
use Rattle.section_model.specs.Opening.{wish_of, opened}
use Rattle.section_model.specs.Lane.{heard, part_by, reference_of}
use Rattle.connection_law.specs.Messages.{is_of_type}
use Rattle.hop_law.specs.ClearingLaw.{is_reset}
use Rattle.hop_law.specs.LeftAlong.{outs_along}

-- RSR (Q.713, 4.14), and RSC (4.15)
abbrev pub is_rsr : Output → Bool
is_rsr out = is_of_type 0x0D out

abbrev pub is_rsc : Output → Bool
is_rsc out = is_of_type 0x0E out

-- RSR that names a reference
abbrev pub IsRsrFor : Option ℕ → Option Arrival → Type 0
IsRsrFor reference None = ⊥
IsRsrFor reference (Some a) = (a.occasion ≡ on.Rsr) × (reference ≡ Some a.parameters.dlr)

-- an event brings RSR for an end; a user's end has no reference
abbrev pub BringsRsr : End → Event → Type 0
BringsRsr e (Arrived point sls bytes) = IsRsrFor (reference_of e) (arrival_in bytes)
BringsRsr e _ = ⊥

abbrev pub NoneBringsRsr : End → List Event → Type 0
NoneBringsRsr e events = AllByRecursion (λ (event : Event). BringsRsr e event → ⊥) events

abbrev pub SendsNoRsc : List Output → Type 0
SendsNoRsc outs = list_any is_rsc outs ≡ false

-- The law, of any event, whether the connection hears it or not.
abbrev pub RscAnswersRsr : Type 0
RscAnswersRsr =
    (ticks : Ticks) (c : Connection) (event : Event) → (BringsRsr c.this event → ⊥) → (BringsRsr c.that event → ⊥) → SendsNoRsc (part_by ticks event c)

-- And so along all that the connection hears of any events.
abbrev pub NoneAnswers : Type 0
NoneAnswers =
    (ticks : Ticks) (c : Connection) (events : List Event) → NoneBringsRsr c.this events → NoneBringsRsr c.that events →
    SendsNoRsc (outs_along ticks c (heard ticks c events))

-- The opening itself sends neither.
abbrev pub OpeningResetsNone : Type 0
OpeningResetsNone =
    (terms : Terms) (event : Event) (answer : Option Answer) (references : List ℕ) (c : Connection) →
    (let o = opened terms (wish_of terms event) answer references in o.connection ≡ Some c → list_any is_reset o.outs ≡ false)
