-- What a section keeps over any event (Q.714, 3.1.3 and 3.1.4): its local reference, its place, and its class once it is
-- agreed on. None is asked for its connection again, and one that is over stays so.
use Rattle.std.specs.Prelude.{◌≡◌, ◌≢◌, Bool, true, false}
use Rattle.relay_base.specs.declared.words.Event.{Event}
use Rattle.plant_core.specs.declared.terms.Ticks.{Ticks}
use Rattle.section_model.specs.declared.cell.SectionState.{SectionState}
use Rattle.section_model.specs.declared.cell.SectionState.TheVariants.{Asked, Asking}
use Rattle.section_model.specs.Ends.{End, wire, SectionHead, Section, Connection, is_gone}
use Rattle.section_model.specs.Lane.{fed}
use Rattle.hop_law.specs.PlaceLaw.{KeepsPlace}
use Rattle.hop_law.specs.LeavingLaw.{AreSides}

-- CC isn't sent yet, or hasn't come: the class isn't agreed on
abbrev pub is_early : SectionState → Bool
is_early Asked = true
is_early Asking = true
is_early _ = false

-- it is agreed on, and stays
pub record KeepsClass (before after : SectionHead) : Type 0 where
  pub set : is_early after.state ≡ false
  pub class : after.class ≡ before.class

-- the end that was a section with this head is one still
pub record SectionAfter (x : SectionHead) (after : End) : Type 0 where
  pub section : Section
  pub is : after ≡ wire section
  pub mine : section.head.mine ≡ x.mine
  pub place : KeepsPlace x section.head
  pub class : is_early x.state ≡ false → KeepsClass x section.head
  pub asked : x.state ≢ Asked → section.head.state ≢ Asked
  pub gone : is_gone x.state ≡ true → is_gone section.head.state ≡ true

-- The law, of any event, whether the connection hears it or not.
abbrev pub SectionsStay : Type 0
SectionsStay =
    (ticks : Ticks) (c : Connection) (event : Event) (end other : Connection → End) (x : Section) →
    AreSides end other → end c ≡ wire x → SectionAfter x.head (end (fed ticks c event))
