-- One of the two connections of a hop, with its section to the other node.
use Rattle.std.proofs.Common.{◌≡◌, ℕ, true, false, Option, Some, None, refl, sym, ◌∙◌, ap}
use Rattle.std.specs.List.{list_any}
use Rattle.relay_base.specs.declared.words.Event.{Event}
use Rattle.relay_base.specs.declared.words.Event.TheVariants.{Message as Arrived, Asked as Requested, Tick}
use Rattle.plant_core.specs.declared.terms.Ticks.{Ticks}
use Rattle.section_model.specs.Parameters.{Arrival, arrival_in}
use Rattle.section_model.specs.Ends.{End, wire, SectionHead, Section, Connection}
use Rattle.section_model.specs.Lane.{next, fed, part_by, reference_of}
use Rattle.connection_law.proofs.Reference.Step.{step_stays}
use Rattle.hop_law.specs.LeavingLaw.{AreSides, IsApart}
use Rattle.hop_law.specs.ClearingLaw.{is_reset}
use Rattle.hop_law.specs.ClosingLaw.{may_take, is_resetting}
use Rattle.hop_law.proofs.Along.{of_other}
use Rattle.hop_law.specs.Soundness.{IsSound}
use Rattle.hop_law.specs.SectionLaw.{SectionAfter}
use Rattle.hop_law.specs.Apart.{Confirms, ConfirmsFrom}
use Rattle.hop_law.proofs.Hearing.{by_hearing, stays_sound}
use Rattle.hop_law.proofs.Section.{sections_stay}
use Rattle.hop_law.proofs.ComingIn.{sections_stay_shut}
use Rattle.hop_law.proofs.Apart.{keeps_apart}
use Rattle.hop_law.proofs.Queues.{NoConfirmFor}

-- A connection whose one end is a section, and whose other end is no section to the point of the head `h` and has a reference. The section has the
-- local reference and the link selection of `h`, and isn't being reset.
pub record IsSide (h : SectionHead) (reference : Option ℕ) (end other : Connection → End) (c : Connection) (x : Section) : Type 0 where
  pub sides : AreSides end other
  pub is : end c ≡ wire x
  pub sound : IsSound c
  pub apart : IsApart h (other c)
  pub other_reference : reference_of (other c) ≡ reference
  pub mine : x.head.mine ≡ h.mine
  pub sls : x.head.sls ≡ h.sls
  pub not_reset : is_resetting x.head.state ≡ false

pub own_reference : (h : SectionHead) (reference : Option ℕ) (end other : Connection → End) (c : Connection) (x : Section) → IsSide h reference end other c x
    → reference_of (end c) ≡ Some h.mine
own_reference h reference end other c x side = ap reference_of side.is ∙ ap (λ (mine : ℕ). Some mine) side.mine

-- an event is no CC from a point for a reference
abbrev pub NoConfirmBy : ℕ → Option ℕ → Event → Type 0
NoConfirmBy point reference (Arrived from sls bytes) = from ≡ point → NoConfirmFor reference (arrival_in bytes)
NoConfirmBy point reference _ = Unit {0}

-- such a connection after an event
pub record Moved (h : SectionHead) (reference : Option ℕ) (end other : Connection → End) (d : Connection) (x : Section) : Type 0 where
  pub after : SectionAfter x.head (end d)
  pub side : IsSide h reference end other d after.section
  pub opens : may_take after.section.head.state ≡ true → may_take x.head.state ≡ true

other_stays : (ticks : Ticks) (c : Connection) (event : Event) (end other : Connection → End) → AreSides end other → reference_of (other (fed ticks c event)) ≡ reference_of (other c)
other_stays ticks c event end other sides =
    by_hearing (λ d outs. reference_of (other d) ≡ reference_of (other c)) ticks c event
    (λ _. let stays = step_stays ticks c event in of_other (λ e f. reference_of f ≡ reference_of e) end other c (next ticks c event) sides (stays.this.reference, stays.that.reference))
    (λ _. refl)

none_confirms : (point : ℕ) (reference : Option ℕ) (e : End) (event : Event) → reference_of e ≡ reference → NoConfirmBy point reference event → ConfirmsFrom point e event → ⊥
none_confirms point reference e (Arrived from sls bytes) has none confirms = by_arrival (arrival_in bytes) (none confirms.0) confirms.1
  where
    by_arrival : (a : Option Arrival) → NoConfirmFor reference a → Confirms e a → ⊥
    by_arrival None none confirms = confirms
    by_arrival (Some a) none confirms = none confirms.0 (sym has ∙ confirms.1)
none_confirms point reference e (Requested ssn r) has none confirms = confirms
none_confirms point reference e Tick has none confirms = confirms

pub side_moves : (ticks : Ticks) (event : Event) (h : SectionHead) (reference : Option ℕ) (end other : Connection → End) (c : Connection) (x : Section)
    → IsSide h reference end other c x → NoConfirmBy h.point reference event → list_any is_reset (part_by ticks event c) ≡ false
    → Moved h reference end other (fed ticks c event) x
side_moves ticks event h reference end other c x side none no_reset =
    let d = fed ticks c event in
    let after = sections_stay ticks c event end other x side.sides side.is in
    let shut = sections_stay_shut ticks c event end other x after.section side.sound side.sides side.is after.is no_reset side.not_reset in record {
      after = after;
      side = record {
        sides = side.sides;
        is = after.is;
        sound = stays_sound ticks c event side.sound;
        apart = keeps_apart ticks c event end other h side.sides side.apart (none_confirms h.point reference (other c) event side.other_reference none);
        other_reference = other_stays ticks c event end other side.sides ∙ side.other_reference;
        mine = after.mine ∙ side.mine;
        sls = after.place.0 ∙ side.sls;
        not_reset = shut.0;
      };
      opens = shut.1;
    }
