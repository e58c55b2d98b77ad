-- What a section's windows hand over agrees on no credit, and they leave the section its own.
use Rattle.std.proofs.Common.{◌≡◌, ℕ, Bool, true, false, List, [], ◌∷◌, if◌then◌else◌, refl, subst}
use Rattle.std.specs.Prelude.{Option, Some, None}
use Rattle.relay_base.specs.declared.causes.TheConstants.{RESET_INCORRECT_RECEIVE_NUMBER, RESET_OUT_OF_WINDOW, RESET_REMOTE_PROCEDURE_ERROR}
use Rattle.section_model.specs.declared.cell.Cell.{Cell}
use Rattle.section_model.specs.declared.cell.Cell.TheVariants as cell
use Rattle.section_model.specs.declared.hand.Hand.{Hand}
use Rattle.section_model.specs.declared.hand.Hand.TheVariants as hand
use Rattle.section_model.specs.declared.hand.Acted.{Acted}
use Rattle.section_model.specs.declared.input.Input.{Input}
use Rattle.section_model.specs.declared.input.Input.TheVariants as input
use Rattle.relay_base.specs.declared.words.Event.{Event}
use Rattle.relay_base.specs.declared.words.Event.TheVariants.{Message as Arrived, Asked as Requested, Tick}
use Rattle.section_model.specs.Parameters.{Parameters, Arrival, arrival_in}
use Rattle.relay_base.specs.declared.words.Output.{Output}
use Rattle.section_model.specs.Ends.{no_effect, gives, gives_then}
use Rattle.section_flow.specs.Windows.{Windows, wrong_number}
use Rattle.section_model.specs.Windowed.{Windowed, resets, windowed_hears, windowed_fires, windowed_takes, takes_data, takes_acknowledgement, takes_expedited, takes_answer, sends_expedited, queues_unit, passes_expedited, passes_reset, counts_left, leaves, acknowledges}
use Rattle.section_model.specs.declared.wire.WireHead.{WireHead}
use Rattle.section_class3.specs.Windows.{WindowsState, windowed_of, windows_act, windows_hear_arrival, windows_hear_event, windows_turn}
use Rattle.section_coupling.specs.Sound.{AreGranted}

pub record GrantedWindows (was : ℕ) (r : Windowed × Acted) : Type 0 where
  pub credit : r.0.head.credit ≡ was
  pub first : AreGranted r.1.first
  pub then_ : AreGranted r.1.then

either : (credit : ℕ) (b : Bool) (r t : Windowed × Acted) → GrantedWindows credit r → GrantedWindows credit t → GrantedWindows credit (if b then r else t)
either credit true r t f g = f
either credit false r t f g = g

still : (x : Windowed) → GrantedWindows x.head.credit (x, no_effect)
still x = record { credit = refl; first = tt; then_ = tt }

with-windows : (x : Windowed) (w : Windows) (acted : Acted) → AreGranted acted.first → AreGranted acted.then → GrantedWindows x.head.credit (record x { windows = w }, acted)
with-windows x w acted f g = record { credit = refl; first = f; then_ = g }

gives-granted : (x : Windowed) (outs : List Output) → GrantedWindows x.head.credit (x, gives outs)
gives-granted x outs = record { credit = refl; first = tt; then_ = tt }

resets-granted : (cause : ℕ) (x : Windowed) → GrantedWindows x.head.credit (resets cause x)
resets-granted cause x = record { credit = refl; first = tt; then_ = (tt, tt) }

data-granted : (m : Parameters) (x : Windowed) → GrantedWindows x.head.credit (takes_data m x)
data-granted m x =
    either x.head.credit _ _ _ (resets-granted (wrong_number x.windows) x)
    (either x.head.credit _ _ _ (resets-granted RESET_OUT_OF_WINDOW x)
    (either x.head.credit _ _ _ (resets-granted RESET_INCORRECT_RECEIVE_NUMBER x) (with-windows x _ (gives_then [] (hand.Unit m.more m.data_octets ∷ [])) tt (tt, tt))))

acknowledgement-granted : (m : Parameters) (x : Windowed) → GrantedWindows x.head.credit (takes_acknowledgement m x)
acknowledgement-granted m x = either x.head.credit _ _ _ (with-windows x _ no_effect tt tt) (resets-granted RESET_INCORRECT_RECEIVE_NUMBER x)

expedited-granted : (m : Parameters) (x : Windowed) → GrantedWindows x.head.credit (takes_expedited m x)
expedited-granted m x = either x.head.credit _ _ _ (resets-granted RESET_REMOTE_PROCEDURE_ERROR x) (with-windows x _ (gives_then [] (hand.Expedited m.data_octets ∷ [])) tt (tt, tt))

expedites-granted : (body : Option (List ℕ)) (x : Windowed) → GrantedWindows x.head.credit (sends_expedited body x)
expedites-granted None x = still x
expedites-granted (Some body) x = record { credit = refl; first = tt; then_ = (tt, tt) }

answer-granted : (x : Windowed) → GrantedWindows x.head.credit (takes_answer x)
answer-granted x = either x.head.credit _ _ _ (expedites-granted x.windows.waiting (record x { windows = record x.windows { unanswered = false } })) (gives-granted x _)

hears-granted : (c : Cell) (m : Parameters) (x : Windowed) → GrantedWindows x.head.credit (windowed_hears c m x)
unfolding windowed_hears
hears-granted cell.TakeNumberedData m x = data-granted m x
hears-granted cell.TakeAcknowledgement m x = acknowledgement-granted m x
hears-granted cell.TakeExpedited m x = expedited-granted m x
hears-granted cell.TakeExpeditedAcknowledgement m x = answer-granted x
hears-granted cell.ResetByPeer m x = record { credit = refl; first = tt; then_ = (tt, tt) }
hears-granted cell.ResetComplete m x = record { credit = refl; first = tt; then_ = (tt, tt) }
hears-granted _ m x = still x

fires-granted : (x : Windowed) → GrantedWindows x.head.credit (windowed_fires x)
unfolding windowed_fires
fires-granted x = record { credit = refl; first = tt; then_ = tt }

passes-granted : (h : Hand) (x : Windowed) → GrantedWindows x.head.credit (queues_unit h x)
passes-granted (hand.Unit more body) x = record { credit = refl; first = tt; then_ = tt }
passes-granted _ x = still x

passes_expedited-granted : (h : Hand) (x : Windowed) → GrantedWindows x.head.credit (passes_expedited h x)
passes_expedited-granted (hand.Expedited body) x = either x.head.credit _ _ _ (expedites-granted (Some body) x) (with-windows x _ no_effect tt tt)
passes_expedited-granted _ x = still x

passes_reset-granted : (h : Hand) (x : Windowed) → GrantedWindows x.head.credit (passes_reset h x)
passes_reset-granted (hand.Reset cause) x = record { credit = refl; first = tt; then_ = tt }
passes_reset-granted _ x = still x

left-granted : (h : Hand) (x : Windowed) → GrantedWindows x.head.credit (counts_left h x)
left-granted (hand.Left units false) x = record { credit = refl; first = tt; then_ = tt }
left-granted (hand.Left units true) x = record { credit = refl; first = tt; then_ = tt }
left-granted _ x = still x

takes-granted : (c : Cell) (h : Hand) (x : Windowed) → GrantedWindows x.head.credit (windowed_takes c h x)
unfolding windowed_takes
takes-granted cell.PassUnit h x = passes-granted h x
takes-granted cell.PassExpedited h x = passes_expedited-granted h x
takes-granted cell.PassReset h x = passes_reset-granted h x
takes-granted cell.ClearCounts h x = record { credit = refl; first = tt; then_ = tt }
takes-granted cell.Left h x = left-granted h x
takes-granted _ h x = still x

one-or-none : (b : Bool) (h : Hand) → AreGranted (h ∷ []) → AreGranted (if b then h ∷ [] else [])
one-or-none true h f = f
one-or-none false h f = tt

leaves-granted : (x : Windowed) → GrantedWindows x.head.credit (leaves x)
unfolding leaves
leaves-granted x = record { credit = refl; first = tt; then_ = one-or-none _ _ (tt, tt) }

acknowledges-granted : (x : Windowed) → GrantedWindows x.head.credit (acknowledges x)
unfolding acknowledges
acknowledges-granted x = either x.head.credit _ _ _ (still x) (with-windows x _ (gives _) tt tt)

turn-granted : (c : Cell) (x : Windowed) → GrantedWindows x.head.credit (windows_turn c x)
turn-granted cell.Leave x = leaves-granted x
turn-granted cell.Acknowledge x = acknowledges-granted x
turn-granted _ x = still x

arrival-granted : (c : Cell) (a : Option Arrival) (x : Windowed) → GrantedWindows x.head.credit (windows_hear_arrival c a x)
arrival-granted c None x = still x
arrival-granted c (Some a) x = hears-granted c a.parameters x

event-granted : (c : Cell) (e : Event) (x : Windowed) → GrantedWindows x.head.credit (windows_hear_event c e x)
event-granted c (Arrived point sls bytes) x = arrival-granted c (arrival_in bytes) x
event-granted c (Requested ssn r) x = still x
event-granted c Tick x = still x

pub windows_act_granted : (c : Cell) (i : Input) (x : Windowed) → GrantedWindows x.head.credit (windows_act c i x)
windows_act_granted c (input.Event event) x = event-granted c event.now x
windows_act_granted c (input.Timer number) x = fires-granted x
windows_act_granted c (input.Hand h) x = takes-granted c h.now x
windows_act_granted c input.Turn x = turn-granted c x

-- the code's windows have acted
pub windows_acted : (c : Cell) (i : Input) (h h' : WireHead) (w w' : WindowsState) (acted : Acted) → windows_act c i (windowed_of h w) ≡ (windowed_of h' w', acted)
    → GrantedWindows h.credit (windowed_of h' w', acted)
windows_acted c i h h' w w' acted e = subst (GrantedWindows h.credit) e (windows_act_granted c i (windowed_of h w))
