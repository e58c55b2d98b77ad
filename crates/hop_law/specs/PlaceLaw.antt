-- Where a section sends (Q.714, 3.1.4): its link selection stays, and once its other end is known, its point and the other reference stay too.
use Rattle.std.specs.Prelude.{◌≡◌, true, List}
use Rattle.relay_base.specs.declared.words.Event.{Event}
use Rattle.plant_core.specs.declared.terms.Ticks.{Ticks}
use Rattle.section_model.specs.Ends.{End, wire, owner, SectionHead, Connection, is_reached}
use Rattle.section_model.specs.Step.{connection_step}
use Rattle.section_model.specs.Lane.{follow}

pub record SamePlace (before after : SectionHead) : Type 0 where
  pub reached : is_reached after.state ≡ true
  pub point : after.point ≡ before.point
  pub other : after.other ≡ before.other

abbrev pub KeepsPlace : SectionHead → SectionHead → Type 0
KeepsPlace before after = (after.sls ≡ before.sls) × (is_reached before.state ≡ true → SamePlace before after)

-- an end stays a section or a user's
abbrev pub StaysPut : End → End → Type 0
StaysPut (wire x) (wire y) = KeepsPlace x.head y.head
StaysPut (owner u) (owner v) = Unit {0}
StaysPut _ _ = ⊥

-- over one step, and so over any events
pub record PlacesStay : Type 0 where
  pub step :
      (ticks : Ticks) (c : Connection) (event : Event) → let d = (connection_step ticks c event).0 in StaysPut c.this d.this × StaysPut c.that d.that
  pub along :
      (ticks : Ticks) (c : Connection) (events : List Event) → let d = follow ticks c events in StaysPut c.this d.this × StaysPut c.that d.that
