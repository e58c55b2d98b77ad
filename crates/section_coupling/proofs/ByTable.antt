-- What acts hang on of the table of states and events.
use Rattle.std.proofs.Common.{◌≡◌, ℕ, IfSome, refl, sym, subst, ap, ◌∙◌}
use Rattle.std.specs.Prelude.{Some}
use Rattle.std.specs.Borrow.{Bor}
use Rattle.relay_base.specs.declared.words.Event.{Event}
use Rattle.relay_base.specs.declared.words.Event.TheVariants.{Message as Arrives, Asked as Requested, Tick}
use Rattle.section_model.specs.declared.cell.SectionState.{SectionState}
use Rattle.section_model.specs.declared.cell.SectionState.TheVariants as section
use Rattle.section_model.specs.declared.cell.Cell.{Cell}
use Rattle.section_model.specs.declared.cell.Cell.TheVariants as cell
use Rattle.section_model.specs.declared.cell.Occasion.{Occasion}
use Rattle.section_model.specs.declared.cell.Occasion.TheVariants as on
use Rattle.section_model.specs.declared.hand.Hand.{Hand}
use Rattle.section_model.specs.declared.hand.Hand.TheVariants as hand
use Rattle.section_model.specs.Table.{section_row, section_cell}
use Rattle.section_model.specs.Parameters.{Arrival}
use Rattle.section_model.specs.Acting.{section_takes_by}
use Rattle.section_class2.specs.Lines.{IsDt1}
use Rattle.section_class3.specs.Windows.{IsDt2, IsEd}
use Rattle.section_model.specs.declared.input.Input.TheVariants as input
use Rattle.section_model.specs.Lengths.{HandWithin}
use Rattle.section_model.specs.Views.{section_of, seen_arrival}
use Rattle.section_model.specs.Windowed.{HasCome}
use Rattle.section_coupling.specs.declared.coming.Coming.{Coming}
use Rattle.section_coupling.specs.declared.wire.Wire.{Wire}
use Rattle.section_coupling.specs.Sound.{IsGranted}
use Rattle.section_coupling.specs.Inner.Comings.{arrived_in, IsArrival}
use Rattle.section_coupling.specs.Inner.Acts.{SetsUpOnce, CanAct}

sets_up_once : (s : SectionState) (o : Occasion) → SetsUpOnce (section_cell s o) s
unfolding section_row
sets_up_once section.Asked on.Cc = tt
sets_up_once section.Asked on.AcceptComes = refl
sets_up_once section.Asked _ = tt
sets_up_once section.Asking on.Cc = refl
sets_up_once section.Asking _ = tt
sets_up_once section.Waning on.Cc = tt
sets_up_once section.Waning _ = tt
sets_up_once section.Up on.Cc = tt
sets_up_once section.Up _ = tt
sets_up_once section.Resetting on.Cc = tt
sets_up_once section.Resetting _ = tt
sets_up_once section.Ending on.Cc = tt
sets_up_once section.Ending _ = tt
sets_up_once section.Gone on.Cc = tt
sets_up_once section.Gone _ = tt

takes_sets_up_once : (s : SectionState) (h : Hand) → SetsUpOnce (section_takes_by s h) s
takes_sets_up_once s (hand.Accept class credit called body importance) = sets_up_once s on.AcceptComes
takes_sets_up_once s (hand.Refuse cause called body importance) = sets_up_once s on.RefuseComes
takes_sets_up_once s (hand.End cause body importance) = sets_up_once s on.EndComes
takes_sets_up_once s (hand.Unit more body) = sets_up_once s on.UnitComes
takes_sets_up_once s (hand.Expedited body) = sets_up_once s on.ExpeditedComes
takes_sets_up_once s (hand.Reset cause) = sets_up_once s on.ResetComes
takes_sets_up_once s hand.Done = sets_up_once s on.DoneComes
takes_sets_up_once s (hand.Left units expedited) = tt

-- data are taken from DT1 alone, numbered data from DT2, expedited data from ED
takes-dt1 : (s : SectionState) (o : Occasion) → section_cell s o ≡ cell.TakeData → o ≡ on.Dt1
unfolding section_row
takes-dt1 s on.Dt1 e = refl
takes-dt1 section.Asked on.Cc e = absurd (cc)
takes-dt1 section.Asked _ e = absurd (cc)
takes-dt1 section.Asking on.Cc e = absurd (cc)
takes-dt1 section.Asking _ e = absurd (cc)
takes-dt1 section.Waning on.Cc e = absurd (cc)
takes-dt1 section.Waning _ e = absurd (cc)
takes-dt1 section.Up on.Cc e = absurd (cc)
takes-dt1 section.Up _ e = absurd (cc)
takes-dt1 section.Resetting on.Cc e = absurd (cc)
takes-dt1 section.Resetting _ e = absurd (cc)
takes-dt1 section.Ending on.Cc e = absurd (cc)
takes-dt1 section.Ending _ e = absurd (cc)
takes-dt1 section.Gone on.Cc e = absurd (cc)
takes-dt1 section.Gone _ e = absurd (cc)

takes-dt2 : (s : SectionState) (o : Occasion) → section_cell s o ≡ cell.TakeNumberedData → o ≡ on.Dt2
unfolding section_row
takes-dt2 s on.Dt2 e = refl
takes-dt2 section.Asked on.Cc e = absurd (cc)
takes-dt2 section.Asked _ e = absurd (cc)
takes-dt2 section.Asking on.Cc e = absurd (cc)
takes-dt2 section.Asking _ e = absurd (cc)
takes-dt2 section.Waning on.Cc e = absurd (cc)
takes-dt2 section.Waning _ e = absurd (cc)
takes-dt2 section.Up on.Cc e = absurd (cc)
takes-dt2 section.Up _ e = absurd (cc)
takes-dt2 section.Resetting on.Cc e = absurd (cc)
takes-dt2 section.Resetting _ e = absurd (cc)
takes-dt2 section.Ending on.Cc e = absurd (cc)
takes-dt2 section.Ending _ e = absurd (cc)
takes-dt2 section.Gone on.Cc e = absurd (cc)
takes-dt2 section.Gone _ e = absurd (cc)

takes-ed : (s : SectionState) (o : Occasion) → section_cell s o ≡ cell.TakeExpedited → o ≡ on.Ed
unfolding section_row
takes-ed s on.Ed e = refl
takes-ed section.Asked on.Cc e = absurd (cc)
takes-ed section.Asked _ e = absurd (cc)
takes-ed section.Asking on.Cc e = absurd (cc)
takes-ed section.Asking _ e = absurd (cc)
takes-ed section.Waning on.Cc e = absurd (cc)
takes-ed section.Waning _ e = absurd (cc)
takes-ed section.Up on.Cc e = absurd (cc)
takes-ed section.Up _ e = absurd (cc)
takes-ed section.Resetting on.Cc e = absurd (cc)
takes-ed section.Resetting _ e = absurd (cc)
takes-ed section.Ending on.Cc e = absurd (cc)
takes-ed section.Ending _ e = absurd (cc)
takes-ed section.Gone on.Cc e = absurd (cc)
takes-ed section.Gone _ e = absurd (cc)

dt1_arrives : (e : Event) (a : Arrival) (s : SectionState) → (arrived_in e).arrival ≡ Some a → section_cell s a.occasion ≡ cell.TakeData → IsDt1 e
dt1_arrives (Arrives point sls bytes) a s f g = subst (λ r. IfSome r (λ b. b.occasion ≡ on.Dt1)) (sym f) (takes-dt1 s a.occasion g)
dt1_arrives (Requested ssn r) a s f g = tt
dt1_arrives Tick a s f g = tt

dt2_arrives : (e : Event) (a : Arrival) (s : SectionState) → (arrived_in e).arrival ≡ Some a → section_cell s a.occasion ≡ cell.TakeNumberedData → IsDt2 e
dt2_arrives (Arrives point sls bytes) a s f g = subst (λ r. IfSome r (λ b. b.occasion ≡ on.Dt2)) (sym f) (takes-dt2 s a.occasion g)
dt2_arrives (Requested ssn r) a s f g = tt
dt2_arrives Tick a s f g = tt

ed_arrives : (e : Event) (a : Arrival) (s : SectionState) → (arrived_in e).arrival ≡ Some a → section_cell s a.occasion ≡ cell.TakeExpedited → IsEd e
ed_arrives (Arrives point sls bytes) a s f g = subst (λ r. IfSome r (λ b. b.occasion ≡ on.Ed)) (sym f) (takes-ed s a.occasion g)
ed_arrives (Requested ssn r) a s f g = tt
ed_arrives Tick a s f g = tt

-- By the cell of the table a section may act upon a message, where a timer fires, and upon what the other end hands over.

pub can_hear : (k : Cell) (s : SectionState) (c : Coming) (w : Wire) → IsArrival c → k ≡ section_cell s c.arrival.occasion → s ≡ (section_of w.head).state → CanAct k (input.Event c.event) w
can_hear k s c w arrives cell state =
    let arrival = seen_arrival c.arrival in
    let same = ap (λ r. r.arrival) arrives in record {
      input = (tt, tt);
      sets_up = subst (SetsUpOnce k) state (subst (λ k. SetsUpOnce k s) (sym cell) (sets_up_once s c.arrival.occasion));
      takes = (
        (λ e. dt1_arrives c.event.now arrival s same (sym cell ∙ e)),
        ((λ e. dt2_arrives c.event.now arrival s same (sym cell ∙ e)), (λ e. ed_arrives c.event.now arrival s same (sym cell ∙ e))),
      );
      left = λ three. tt;
    }

pub can_fire : (k : Cell) (s : SectionState) (o : Occasion) (timer : ℕ) (w : Wire) → k ≡ section_cell s o → s ≡ (section_of w.head).state → CanAct k (input.Timer timer) w
can_fire k s o timer w cell state = record {
  input = (tt, tt);
  sets_up = subst (SetsUpOnce k) state (subst (λ k. SetsUpOnce k s) (sym cell) (sets_up_once s o));
  takes = (tt, tt);
  left = λ three. tt;
}

pub can_take : (k : Cell) (s : SectionState) (h : Bor Hand) (w : Wire) → IsGranted h.now → HandWithin h.now → (w.head.class ≡ 3 → HasCome h.now w.windows.windows) → k ≡ section_takes_by s h.now
    → s ≡ (section_of w.head).state → CanAct k (input.Hand h) w
can_take k s h w granted within come cell state = record {
  input = (granted, within);
  sets_up = subst (SetsUpOnce k) state (subst (λ k. SetsUpOnce k s) (sym cell) (takes_sets_up_once s h.now));
  takes = (tt, tt);
  left = come;
}
