-- The laws of a user's end (Q.711, N-DATA; Q.714, 3.5.3), along all that its connection hears, as long as the connection sends neither RSR nor RSC.
use Rattle.std.specs.Prelude.{◌≡◌, ℕ, ◌≤◌, false, List, Option, Some}
use Rattle.std.specs.List.{list_any, flat_map}
use Rattle.relay_base.specs.declared.limits.TheConstants.{GREATEST_CREDIT}
use Rattle.relay_base.specs.declared.words.Event.{Event}
use Rattle.plant_core.specs.declared.answer.Answer.{Answer}
use Rattle.plant_core.specs.declared.terms.Terms.{Terms}
use Rattle.section_model.specs.Ends.{End, owner, DataUnit, User, Connection}
use Rattle.section_model.specs.Opening.{wish_of, opened}
use Rattle.section_model.specs.UserEnd.{units_of}
use Rattle.section_model.specs.Lane.{heard, follow}
use Rattle.connection_law.specs.InStep.{class_at, got_at}
use Rattle.hop_law.specs.Texts.{joined}
use Rattle.hop_law.specs.TextLaw.{Begins}
use Rattle.hop_law.specs.ClassLaw.{IsOfAClass}
use Rattle.hop_law.specs.LeavingLaw.{AreSides}
use Rattle.hop_law.specs.ClearingLaw.{is_reset}
use Rattle.hop_law.specs.LeftAlong.{outs_along}
use Rattle.passage_law.specs.Texts.{given_along, texts_among}

-- What came in at a user's end are the units of the texts that its user gave, and no others.
abbrev pub TextsCome : Type 0
TextsCome =
    (terms : Terms) (event : Event) (answer : Option Answer) (references : List ℕ) (c : Connection) (events : List Event)
    (end other : Connection → End) (u : User) →
    terms.credit ≤ GREATEST_CREDIT → (opened terms (wish_of terms event) answer references).connection ≡ Some c →
    IsOfAClass (class_at c.this) → AreSides end other → end c ≡ owner u →
    (let hears = heard terms.ticks c events in
    list_any is_reset (outs_along terms.ticks c hears) ≡ false →
    got_at (end (follow terms.ticks c hears)) ≡ flat_map units_of (given_along terms.ticks c hears))

-- The texts that a user was told are those of the first of the units that came in at the section at the other end.
pub record AreToldOf (texts : List (List ℕ)) (got : List DataUnit) : Type 0 where
  pub units : List DataUnit
  pub first : Begins units got
  pub told : (joined units).texts ≡ texts

abbrev pub UnitsAreTold : Type 0
UnitsAreTold =
    (terms : Terms) (event : Event) (answer : Option Answer) (references : List ℕ) (c : Connection) (events : List Event)
    (end other : Connection → End) (u : User) →
    terms.credit ≤ GREATEST_CREDIT → (opened terms (wish_of terms event) answer references).connection ≡ Some c →
    IsOfAClass (class_at c.this) → AreSides end other → end c ≡ owner u →
    (let hears = heard terms.ticks c events in
    let outs = outs_along terms.ticks c hears in
    list_any is_reset outs ≡ false → AreToldOf (texts_among outs) (got_at (other (follow terms.ticks c hears))))
