-- A section after any event.
use Rattle.std.proofs.Common.{◌≡◌, Some, refl, sym, subst}
use Rattle.section_model.specs.Ends.{End, wire, owner, Section}
use Rattle.section_model.specs.Lane.{next}
use Rattle.connection_law.specs.ReferenceLaw.{Stays}
use Rattle.connection_law.proofs.Reference.Step.{step_keeps}
use Rattle.hop_law.specs.PlaceLaw.{StaysPut}
use Rattle.hop_law.proofs.Placing.{step_place}
use Rattle.hop_law.proofs.Along.{of_end}
use Rattle.hop_law.specs.SectionLaw.{SectionAfter, SectionsStay}
use Rattle.hop_law.proofs.Hearing.{by_hearing}
use Rattle.hop_law.proofs.Agreeing.{EndAgrees, end_same, step_agrees}

pub put_same : (e : End) → StaysPut e e
put_same (wire x) = (refl, λ r. record { reached = r; point = refl; other = refl })
put_same (owner u) = tt

section_after : (x : Section) (e : End) → StaysPut (wire x) e → Stays (wire x) e → EndAgrees (wire x) e → SectionAfter x.head e
section_after x (wire y) put stays agrees = record {
  section = y;
  is = refl;
  mine = same_mine stays.reference;
  place = put;
  class = agrees.0;
  asked = agrees.1;
  gone = stays.gone;
}
  where
    same_mine : Some y.head.mine ≡ Some x.head.mine → y.head.mine ≡ x.head.mine
    same_mine e = cc
section_after x (owner u) put stays agrees = absurd put

pub sections_stay : SectionsStay
sections_stay ticks c event end other x sides is =
    by_hearing (λ d outs. SectionAfter x.head (end d)) ticks c event (λ _. heard) (λ _. unheard)
  where
    heard : SectionAfter x.head (end (next ticks c event))
    heard =
        let d = next ticks c event in
        section_after x (end d)
        (subst (λ e. StaysPut e (end d)) is (of_end StaysPut end other c d sides (step_place ticks c event)))
        (subst (λ e. Stays e (end d)) is (of_end Stays end other c d sides (step_keeps ticks c event)))
        (subst (λ e. EndAgrees e (end d)) is (of_end EndAgrees end other c d sides (step_agrees ticks c event)))

    unheard : SectionAfter x.head (end c)
    unheard =
        subst (SectionAfter x.head) (sym is)
        (section_after x (wire x) (put_same (wire x)) (record { reference = refl; gone = λ g. g }) (end_same (wire x)))
