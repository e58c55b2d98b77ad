-- The law of the units that come in at a section (Q.714, 3.5), along all that the connection hears: as long as it sends neither RSR nor RSC, each unit
-- that a message brings while the section is up comes in, in order, and no others.
use Rattle.std.specs.Prelude.{◌≡◌, ◌≢◌, ℕ, ◌==◌, ◌&&◌, ◌≤◌, true, false, List, [], ◌∷◌, ◌++◌, if◌then◌else◌, Option, Some, None}
use Rattle.std.specs.List.{list_any}
use Rattle.relay_base.specs.declared.limits.TheConstants.{GREATEST_CREDIT}
use Rattle.relay_base.specs.declared.words.Event.{Event}
use Rattle.relay_base.specs.declared.words.Event.TheVariants.{Message as Arrived}
use Rattle.plant_core.specs.declared.answer.Answer.{Answer}
use Rattle.plant_core.specs.declared.terms.Terms.{Terms}
use Rattle.plant_core.specs.declared.terms.Ticks.{Ticks}
use Rattle.section_model.specs.declared.cell.Occasion.{Occasion}
use Rattle.section_model.specs.declared.cell.Occasion.TheVariants as on
use Rattle.section_model.specs.declared.cell.SectionState.TheVariants.{Up}
use Rattle.section_model.specs.Parameters.{Arrival, arrival_in}
use Rattle.section_model.specs.Ends.{End, wire, DataUnit, SectionHead, Section, Connection, is_up}
use Rattle.section_model.specs.Opening.{wish_of, opened}
use Rattle.section_model.specs.Lane.{next, heard, follow, reference_of}
use Rattle.hop_law.specs.Units.{carries, units_for}
use Rattle.connection_law.specs.InStep.{class_at}
use Rattle.hop_law.specs.ClassLaw.{IsOfAClass}
use Rattle.hop_law.specs.LeavingLaw.{AreSides}
use Rattle.hop_law.specs.ClearingLaw.{is_reset}
use Rattle.hop_law.specs.LeftAlong.{outs_along}

-- the unit that a message brings for a section that is up
abbrev pub brought_to : End → Event → List DataUnit
brought_to (wire x) (Arrived point sls bytes) = if is_up x.head.state then units_for x.head.mine bytes else []
brought_to _ event = []

unfoldable pub brought_along : Ticks → (Connection → End) → Connection → List Event → List DataUnit
brought_along ticks end c [] = []
brought_along ticks end c (event ∷ events) = brought_to (end c) event ++ brought_along ticks end (next ticks c event) events

-- A message that brings one comes from the section's point, and is of its class.
abbrev pub IsOfClass : Occasion → ℕ → Type 0
IsOfClass on.Dt1 class = class ≡ 2
IsOfClass on.Dt2 class = class ≡ 3
IsOfClass _ class = Unit {0}

abbrev pub ArrivalFits : ℕ → SectionHead → Option Arrival → Type 0
ArrivalFits point x None = Unit {0}
ArrivalFits point x (Some a) = (carries a.occasion && a.parameters.dlr == x.mine) ≡ true → (x.point ≡ point) × IsOfClass a.occasion x.class

abbrev pub Fits : End → Event → Type 0
Fits (wire x) (Arrived point sls bytes) = x.head.state ≡ Up → ArrivalFits point x.head (arrival_in bytes)
Fits _ event = Unit {0}

unfoldable pub AllFit : Ticks → (Connection → End) → Connection → List Event → Type 0
AllFit ticks end c [] = Unit {0}
AllFit ticks end c (event ∷ events) = Fits (end c) event × AllFit ticks end (next ticks c event) events

-- The law, from an opening on whose ends have not the same reference.
abbrev pub TakenAlong : Type 0
TakenAlong =
    (terms : Terms) (event : Event) (answer : Option Answer) (references : List ℕ) (c : Connection) (events : List Event)
    (end other : Connection → End) (x : Section) →
    terms.credit ≤ GREATEST_CREDIT → (opened terms (wish_of terms event) answer references).connection ≡ Some c →
    IsOfAClass (class_at c.this) → AreSides end other → reference_of c.this ≢ reference_of c.that →
    (let hears = heard terms.ticks c events in
    end (follow terms.ticks c hears) ≡ wire x → AllFit terms.ticks end c hears → list_any is_reset (outs_along terms.ticks c hears) ≡ false →
    x.windows.got ≡ brought_along terms.ticks end c hears)
