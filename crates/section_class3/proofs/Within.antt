-- What waits on a section, and what it hands to the other end, has the lengths of Q.713.
use Rattle.std.proofs.Common.{◌≡◌, ℕ, zero, suc, ◌==◌, ◌&&◌, ◌||◌, nat_lt, not, Bool, true, false, List, [], ◌∷◌, ◌++◌, drop, if◌then◌else◌, Ok, Err, IfOk, refl, subst, sym}
use Rattle.std.specs.Prelude.{Option, Some, None, IfSome, OnErr, is_some}
use Rattle.std.specs.declared.result.Result.{Result}
use Rattle.relay_base.specs.declared.causes.TheConstants.{RESET_INCORRECT_RECEIVE_NUMBER, RESET_OUT_OF_WINDOW, RESET_REMOTE_PROCEDURE_ERROR}
use Rattle.section_model.specs.declared.limits.TheConstants.{LONGEST_UNIT}
use Rattle.relay_base.specs.declared.errors.Memory.{Memory}
use Rattle.relay_base.specs.declared.words.Event.{Event}
use Rattle.relay_base.specs.declared.words.Event.TheVariants.{Message as Arrived}
use Rattle.section_model.specs.declared.cell.Cell.{Cell}
use Rattle.section_model.specs.declared.cell.Cell.TheVariants as cell
use Rattle.section_model.specs.declared.cell.Occasion.TheVariants as on
use Rattle.section_model.specs.declared.hand.Acted.{Acted}
use Rattle.section_model.specs.declared.hand.Hand.{Hand}
use Rattle.section_model.specs.declared.hand.Hand.TheVariants as hand
use Rattle.section_flow.specs.declared.unit.Unit.{Unit as DataUnit}
use Rattle.section_model.specs.declared.input.Input.{Input}
use Rattle.section_model.specs.declared.input.Input.TheVariants as input
use Rattle.section_model.specs.declared.wire.WireHead.{WireHead}
use Rattle.section_model.specs.Ends.{no_effect, is_up}
use Rattle.section_model.specs.Lengths.{IsWithin, IsDataOf, HandWithin, HandsWithin, ActedWithin, UnitsWithin, ExpeditedWithin, WindowsWithin, ArrivalWithin, InputWithin}
use Rattle.section_model.specs.Parameters.{Parameters, Arrival, arrival_in}
use Rattle.section_model.specs.Windowed.{Windowed, windowed_hears, windowed_fires, windowed_takes, leaves, acknowledges, is_next, is_used_up, resets, accepts_unit, takes_data, takes_answer, sends_expedited, queues_unit, passes_expedited, passes_reset, counts_left}
use Rattle.section_flow.specs.Windows.{is_valid, may_leave, wrong_number}
use Rattle.section_model.proofs.ArriveWithin.{arrives_within}
use Rattle.section_class3.specs.Windows.{WindowsState, windowed_of, IsDt2, IsEd, TakesItsData, windows_act, windows_hear_event, windows_hear_arrival}

either : {A : Type 0} (P : A → Type 0) (test : Bool) (x y : A) → P x → P y → P (if test then x else y)
either P true x y h k = h
either P false x y h k = k

-- what waits, and what is handed on
abbrev Waits : Windowed × Acted → Type 0
Waits r = WindowsWithin r.0.windows

abbrev Hands : Windowed × Acted → Type 0
Hands r = ActedWithin r.1

-- more units, and fewer
units-more : (units : List DataUnit) (u : DataUnit) → UnitsWithin units → IsWithin 1 LONGEST_UNIT u.body → UnitsWithin (units ++ u ∷ [])
units-more [] u h k = (k, tt)
units-more (x ∷ units) u h k = (h.0, units-more units u h.1 k)

units-fewer : (count : ℕ) (units : List DataUnit) → UnitsWithin units → UnitsWithin (drop count units)
units-fewer zero units h = h
units-fewer (suc n) [] h = tt
units-fewer (suc n) (u ∷ units) h = units-fewer n units h.1

-- upon a message
data-waits : (m : Parameters) (x : Windowed) → WindowsWithin x.windows → Waits (takes_data m x)
data-waits m x w =
    either Waits (not (is_next m x)) (resets (wrong_number x.windows) x) _ (tt, tt)
    (either Waits (is_used_up x) (resets RESET_OUT_OF_WINDOW x) _ (tt, tt) (either Waits (not (is_valid m.pr x.windows)) (resets RESET_INCORRECT_RECEIVE_NUMBER x) (accepts_unit m x) (tt, tt) w))

data-hands : (m : Parameters) (x : Windowed) → IsWithin 1 LONGEST_UNIT m.data_octets → Hands (takes_data m x)
data-hands m x d =
    either Hands (not (is_next m x)) (resets (wrong_number x.windows) x) _ (tt, (tt, tt))
    (either Hands (is_used_up x) (resets RESET_OUT_OF_WINDOW x) _ (tt, (tt, tt)) (either Hands (not (is_valid m.pr x.windows)) (resets RESET_INCORRECT_RECEIVE_NUMBER x) (accepts_unit m x) (tt, (tt, tt)) (tt, (d, tt))))

answer-waits : (unanswered : Bool) (waiting : Option (List ℕ)) (x : Windowed) → x.windows.unanswered ≡ unanswered → x.windows.waiting ≡ waiting → WindowsWithin x.windows → Waits (takes_answer x)
answer-waits false waiting x e f w = rw e w
answer-waits true None x e f w = rw (e, f) (w.0, tt)
answer-waits true (Some body) x e f w = rw (e, f) (w.0, tt)

answer-hands : (unanswered : Bool) (waiting : Option (List ℕ)) (x : Windowed) → x.windows.unanswered ≡ unanswered → x.windows.waiting ≡ waiting → Hands (takes_answer x)
answer-hands false waiting x e f = rw e (tt, tt)
answer-hands true None x e f = rw (e, f) (tt, tt)
answer-hands true (Some body) x e f = rw (e, f) (tt, (tt, tt))

hears-waits : (c : Cell) (m : Parameters) (x : Windowed) → WindowsWithin x.windows → Waits (windowed_hears c m x)
unfolding windowed_hears
hears-waits cell.TakeNumberedData m x w = data-waits m x w
hears-waits cell.TakeAcknowledgement m x w = either Waits (is_valid m.pr x.windows) _ (resets RESET_INCORRECT_RECEIVE_NUMBER x) w (tt, tt)
hears-waits cell.TakeExpedited m x w = either Waits x.windows.owed (resets RESET_REMOTE_PROCEDURE_ERROR x) _ (tt, tt) w
hears-waits cell.TakeExpeditedAcknowledgement m x w = answer-waits x.windows.unanswered x.windows.waiting x refl refl w
hears-waits cell.ResetByPeer m x w = (tt, tt)
hears-waits cell.ResetComplete m x w = w
hears-waits _ m x w = w

hears-hands : (c : Cell) (a : Arrival) (x : Windowed) → ArrivalWithin a → (c ≡ cell.TakeNumberedData → a.occasion ≡ on.Dt2) → (c ≡ cell.TakeExpedited → a.occasion ≡ on.Ed) → Hands (windowed_hears c a.parameters x)
unfolding windowed_hears
hears-hands cell.TakeNumberedData a x w dt2 ed = data-hands a.parameters x (subst (λ o. IsDataOf o a.parameters.data_octets) (dt2 refl) w.2)
hears-hands cell.TakeAcknowledgement a x w dt2 ed = either Hands (is_valid a.parameters.pr x.windows) _ (resets RESET_INCORRECT_RECEIVE_NUMBER x) (tt, tt) (tt, (tt, tt))
hears-hands cell.TakeExpedited a x w dt2 ed = either Hands x.windows.owed (resets RESET_REMOTE_PROCEDURE_ERROR x) _ (tt, (tt, tt)) (tt, (subst (λ o. IsDataOf o a.parameters.data_octets) (ed refl) w.2, tt))
hears-hands cell.TakeExpeditedAcknowledgement a x w dt2 ed = answer-hands x.windows.unanswered x.windows.waiting x refl refl
hears-hands cell.ResetByPeer a x w dt2 ed = (tt, (tt, tt))
hears-hands cell.ResetComplete a x w dt2 ed = (tt, (tt, tt))
hears-hands _ a x w dt2 ed = (tt, tt)

arrives-hands : (c : Cell) (bytes : List ℕ) (arrived : Option Arrival) (x : Windowed) → arrival_in bytes ≡ arrived → (c ≡ cell.TakeNumberedData → IfSome arrived (λ a. a.occasion ≡ on.Dt2)) → (c ≡ cell.TakeExpedited → IfSome arrived (λ a. a.occasion ≡ on.Ed)) → Hands (windows_hear_arrival c arrived x)
arrives-hands c bytes None x e dt2 ed = (tt, tt)
arrives-hands c bytes (Some a) x e dt2 ed = hears-hands c a x (arrives_within bytes a e) dt2 ed

-- upon an effect of the other end
expedited-waits : (h : Hand) (x : Windowed) → WindowsWithin x.windows → HandWithin h → Waits (passes_expedited h x)
expedited-waits (hand.Expedited body) x w k = either Waits (is_up x.head.state && not x.windows.unanswered) (sends_expedited (Some body) x) _ (w.0, tt) (w.0, k)
expedited-waits _ x w k = w

expedited-hands : (h : Hand) (x : Windowed) → Hands (passes_expedited h x)
expedited-hands (hand.Expedited body) x = either Hands (is_up x.head.state && not x.windows.unanswered) (sends_expedited (Some body) x) _ (tt, (tt, tt)) (tt, tt)
expedited-hands _ x = (tt, tt)

left-waits : (h : Hand) (x : Windowed) → WindowsWithin x.windows → Waits (counts_left h x)
left-waits (hand.Left units false) x w = w
left-waits (hand.Left units true) x w = w
left-waits _ x w = w

left-hands : (h : Hand) (x : Windowed) → Hands (counts_left h x)
left-hands (hand.Left units false) x = (tt, tt)
left-hands (hand.Left units true) x = (tt, tt)
left-hands _ x = (tt, tt)

takes-waits : (c : Cell) (h : Hand) (x : Windowed) → WindowsWithin x.windows → HandWithin h → Waits (windowed_takes c h x)
unfolding windowed_takes
takes-waits cell.PassUnit h x w k = by_hand h k
  where
    by_hand : (h : Hand) → HandWithin h → Waits (queues_unit h x)
    by_hand (hand.Unit more body) k = (units-more x.windows.waits (record { more = more; body = body }) w.0 k, w.1)
    by_hand _ k = w
takes-waits cell.PassExpedited h x w k = expedited-waits h x w k
takes-waits cell.PassReset h x w k = by_hand h
  where
    by_hand : (h : Hand) → Waits (passes_reset h x)
    by_hand (hand.Reset cause) = (tt, tt)
    by_hand _ = w
takes-waits cell.ClearCounts h x w k = (tt, tt)
takes-waits cell.Left h x w k = left-waits h x w
takes-waits _ h x w k = w

takes-hands : (c : Cell) (h : Hand) (x : Windowed) → Hands (windowed_takes c h x)
unfolding windowed_takes
takes-hands cell.PassUnit h x = by_hand h
  where
    by_hand : (h : Hand) → Hands (queues_unit h x)
    by_hand (hand.Unit more body) = (tt, tt)
    by_hand _ = (tt, tt)
takes-hands cell.PassExpedited h x = expedited-hands h x
takes-hands cell.PassReset h x = by_hand h
  where
    by_hand : (h : Hand) → Hands (passes_reset h x)
    by_hand (hand.Reset cause) = (tt, tt)
    by_hand _ = (tt, tt)
takes-hands cell.Left h x = left-hands h x
takes-hands _ h x = (tt, tt)

-- in its turn
leaves-waits : (x : Windowed) → WindowsWithin x.windows → Waits (leaves x)
unfolding leaves
leaves-waits x w =
    (units-fewer (may_leave x.windows) x.windows.waits w.0, either ExpeditedWithin (is_some x.windows.waiting && not x.windows.unanswered) None x.windows.waiting tt w.1)

leaves-hands : (x : Windowed) → Hands (leaves x)
unfolding leaves
leaves-hands x = (tt, either HandsWithin ((is_some x.windows.waiting && not x.windows.unanswered) || nat_lt 0 (may_leave x.windows)) _ [] (tt, tt) tt)

acknowledges-waits : (x : Windowed) → WindowsWithin x.windows → Waits (acknowledges x)
unfolding acknowledges
acknowledges-waits x w = either Waits (x.windows.passed == x.windows.told) (x, no_effect) _ w w

acknowledges-hands : (x : Windowed) → Hands (acknowledges x)
unfolding acknowledges
acknowledges-hands x = either Hands (x.windows.passed == x.windows.told) (x, no_effect) _ (tt, tt) (tt, tt)

-- upon an input
acts-waits : (c : Cell) (i : Input) (x : Windowed) → WindowsWithin x.windows → InputWithin i → Waits (windows_act c i x)
unfolding windowed_fires
acts-waits c (input.Event event) x w k = by_event event.now
  where
    by_arrival : (arrived : Option Arrival) → Waits (windows_hear_arrival c arrived x)
    by_arrival None = w
    by_arrival (Some a) = hears-waits c a.parameters x w

    by_event : (event : Event) → Waits (windows_hear_event c event x)
    by_event (Arrived point sls bytes) = by_arrival (arrival_in bytes)
    by_event _ = w
acts-waits c (input.Timer number) x w k = w
acts-waits c (input.Hand h) x w k = takes-waits c h.now x w k
acts-waits cell.Leave input.Turn x w k = leaves-waits x w
acts-waits cell.Acknowledge input.Turn x w k = acknowledges-waits x w
acts-waits _ input.Turn x w k = w

acts-hands : (c : Cell) (i : Input) (x : Windowed) → TakesItsData c i → Hands (windows_act c i x)
unfolding windowed_fires
acts-hands c (input.Event event) x own = by_event event.now own.0 own.1
  where
    by_event : (event : Event) → (c ≡ cell.TakeNumberedData → IsDt2 event) → (c ≡ cell.TakeExpedited → IsEd event) → Hands (windows_hear_event c event x)
    by_event (Arrived point sls bytes) dt2 ed = arrives-hands c bytes (arrival_in bytes) x refl dt2 ed
    by_event _ dt2 ed = (tt, tt)
acts-hands c (input.Timer number) x own = (tt, tt)
acts-hands c (input.Hand h) x own = takes-hands c h.now x
acts-hands cell.Leave input.Turn x own = leaves-hands x
acts-hands cell.Acknowledge input.Turn x own = acknowledges-hands x
acts-hands _ input.Turn x own = (tt, tt)

-- what waits after an act, and what it hands on
pub waits-after : (done : Result Acted Memory) (c : Cell) (i : Input) (wire wire' : WireHead) (w w' : WindowsState) → WindowsWithin w.windows → InputWithin i
    → IfOk done (λ acted. windows_act c i (windowed_of wire w) ≡ (windowed_of wire' w', acted)) → OnErr done ((wire' ≡ wire) × (w' ≡ w)) → WindowsWithin w'.windows
waits-after (Ok acted) c i wire wire' w w' k h ok err = subst Waits ok (acts-waits c i (windowed_of wire w) k h)
waits-after (Err memory) c i wire wire' w w' k h ok err = subst (λ (s : WindowsState). WindowsWithin s.windows) (sym err.1) k

pub hands-after : (done : Result Acted Memory) (c : Cell) (i : Input) (wire wire' : WireHead) (w w' : WindowsState)
    → IfOk done (λ acted. windows_act c i (windowed_of wire w) ≡ (windowed_of wire' w', acted)) → TakesItsData c i → IfOk done ActedWithin
hands-after (Ok acted) c i wire wire' w w' ok own = subst Hands ok (acts-hands c i (windowed_of wire w) own)
hands-after (Err memory) c i wire wire' w w' ok own = tt
