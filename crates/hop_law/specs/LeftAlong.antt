-- The law of the units that left on a section (Q.714, 3.5), along all that the connection hears: as long as it sends neither RSR nor RSC, they are the
-- first of those that came in at the other end, as many as are counted there as left.
use Rattle.std.specs.Prelude.{◌≡◌, ℕ, ◌≤◌, ◌<◌, false, List, [], ◌∷◌, ◌++◌, take, Option, Some}
use Rattle.std.specs.List.{list_any}
use Rattle.relay_base.specs.declared.limits.TheConstants.{GREATEST_CREDIT, REFERENCES}
use Rattle.relay_base.specs.declared.words.Event.{Event}
use Rattle.relay_base.specs.declared.words.Output.{Output}
use Rattle.plant_core.specs.declared.answer.Answer.{Answer}
use Rattle.plant_core.specs.declared.terms.Terms.{Terms}
use Rattle.plant_core.specs.declared.terms.Ticks.{Ticks}
use Rattle.section_model.specs.Ends.{End, wire, SectionHead, Section, Connection}
use Rattle.section_model.specs.Step.{connection_step}
use Rattle.section_model.specs.Opening.{wish_of, opened}
use Rattle.section_model.specs.Lane.{next, heard, follow}
use Rattle.hop_law.specs.Units.{units_on}
use Rattle.connection_law.specs.InStep.{class_at, passed_at, got_at}
use Rattle.hop_law.specs.ClassLaw.{IsOfAClass}
use Rattle.hop_law.specs.LeavingLaw.{AreSides, IsApart}
use Rattle.hop_law.specs.ClearingLaw.{is_reset}

-- what a connection sends along events
unfoldable pub outs_along : Ticks → Connection → List Event → List Output
outs_along ticks c [] = []
outs_along ticks c (event ∷ events) = (connection_step ticks c event).1 ++ outs_along ticks (next ticks c event) events

-- at each moment the other end is no section to the point of a section
unfoldable pub StaysApart : Ticks → SectionHead → (Connection → End) → Connection → List Event → Type 0
StaysApart ticks y other c [] = IsApart y (other c)
StaysApart ticks y other c (event ∷ events) = IsApart y (other c) × StaysApart ticks y other (next ticks c event) events

-- what left on the section since the opening is the first of what came in at the other end
abbrev pub AreFirstOf : List Output → SectionHead → End → Type 0
AreFirstOf outs x other = units_on x outs ≡ take (passed_at other) (got_at other)

-- The law, from an opening on.
abbrev pub LeftAlong : Type 0
LeftAlong =
    (terms : Terms) (event : Event) (answer : Option Answer) (references : List ℕ) (c : Connection) (events : List Event)
    (end other : Connection → End) (x : Section) →
    terms.credit ≤ GREATEST_CREDIT → (opened terms (wish_of terms event) answer references).connection ≡ Some c →
    IsOfAClass (class_at c.this) → AreSides end other →
    (let hears = heard terms.ticks c events in
    let outs = outs_along terms.ticks c hears in
    let d = follow terms.ticks c hears in
    end d ≡ wire x → x.head.other < REFERENCES → StaysApart terms.ticks x.head other c hears →
    list_any is_reset outs ≡ false → AreFirstOf outs x.head (other d))
