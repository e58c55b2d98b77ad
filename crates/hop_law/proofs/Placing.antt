-- A section keeps its point, its link selection and the other reference.
use Rattle.std.proofs.Common.{◌≡◌, ℕ, ◌==◌, ◌&&◌, ◌||◌, not, nat_le, true, false, List, [], ◌∷◌, fold, Option, Some, None, refl, sym, ◌∙◌}
use Rattle.std.proofs.lemmas.Bool.{false≢true}
use Rattle.relay_base.specs.declared.causes.TheConstants.{ERROR_CLASS_MISMATCH, RESET_INCORRECT_RECEIVE_NUMBER, RESET_OUT_OF_WINDOW, RESET_REMOTE_PROCEDURE_ERROR}
use Rattle.relay_base.specs.declared.words.Event.{Event}
use Rattle.relay_base.specs.declared.words.Event.TheVariants.{Message as Arrived, Asked as Requested, Tick}
use Rattle.relay_base.specs.declared.words.Output.{Output}
use Rattle.plant_core.specs.declared.terms.Ticks.{Ticks}
use Rattle.section_model.specs.declared.cell.Cell.{Cell}
use Rattle.section_model.specs.declared.cell.Cell.TheVariants as cell
use Rattle.section_model.specs.declared.cell.Occasion.{Occasion}
use Rattle.section_model.specs.declared.cell.Timer.{Timer}
use Rattle.section_model.specs.declared.cell.SectionState.{SectionState}
use Rattle.section_model.specs.declared.hand.Hand.{Hand}
use Rattle.section_model.specs.declared.hand.Hand.TheVariants as hand
use Rattle.section_model.specs.declared.hand.Acted.{Acted}
use Rattle.section_model.specs.Table.{section_cell}
use Rattle.section_model.specs.Parameters.{Parameters, arrival_in}
use Rattle.section_model.specs.Timing.{firing_order, firing, rearmed}
use Rattle.section_model.specs.Ends.{End, wire, owner, SectionHead, Line, Section, Connection, is_up, is_reached}
use Rattle.section_flow.specs.Windows.{is_valid, wrong_number}
use Rattle.section_model.specs.Line.{line_hears, line_fires, line_takes}
use Rattle.section_model.specs.Windowed.{Windowed, windowed_hears, windowed_fires, windowed_takes, resets, is_next, is_used_up, sends_expedited, leaves, acknowledges}
use Rattle.section_model.specs.Acting.{timed, by_windows, line_in, in_windows, section_hears, section_fires, section_takes, section_takes_by, end_takes}
use Rattle.section_model.specs.Coupling.{on_that}
use Rattle.section_model.specs.Step.{hears_checked, in_touch, ticked, is_due_at, fires_at, fires, fires_next, fires_due, ticks_by, after_event, event_step, connection_step}
use Rattle.section_model.specs.Lane.{next, follow}
use Rattle.connection_law.proofs.Cells.{IsCellOf, cell_of}
use Rattle.connection_law.proofs.Flow.Flowing.{either}
use Rattle.connection_law.proofs.Reference.Ends.{IsKept, Both, both_same, both_in_turn}
use Rattle.connection_law.proofs.Reference.Settling.{settled}
use Rattle.connection_law.proofs.Reference.Step.{Keeps, KeepsEnds, keeps_that, keeps_then, heard_kept, asked_kept, after_event_kept}
use Rattle.hop_law.specs.PlaceLaw.{KeepsPlace, StaysPut, PlacesStay}
use Rattle.hop_law.proofs.Cells.{as_occasion, taking_cell}

-- a state in its place, as it was
same : (x : SectionHead) → KeepsPlace x x
same x = (refl, λ r. record { reached = r; point = refl; other = refl })

-- and a state in which the other end is known
moved : (x : SectionHead) (s : SectionState) → is_reached s ≡ true → KeepsPlace x (record x { state = s })
moved x s known = (refl, λ r. record { reached = known; point = refl; other = refl })

place_then : (x y z : SectionHead) → KeepsPlace x y → KeepsPlace y z → KeepsPlace x z
place_then x y z a b = (b.0 ∙ a.0, λ r. let one = a.1 r in let other = b.1 one.reached in record { reached = other.reached; point = other.point ∙ one.point; other = other.other ∙ one.other })

unknown : (x y : SectionHead) → y.sls ≡ x.sls → is_reached x.state ≡ false → KeepsPlace x y
unknown x y sls e = (sls, λ r. absurd (false≢true (sym e ∙ r)))

-- The line.

LineStays : Line → Line × Acted → Type 0
LineStays x done = KeepsPlace x.head done.0.head

line_hears_place : (c : Cell) (o : Occasion) (point : ℕ) (m : Parameters) (x : Line) → IsCellOf c o x.head.state → LineStays x (line_hears c point m x)
unfolding line_hears LineStays
line_hears_place cell.Confirm o point m x e =
    either (LineStays x) ((m.class == 2 || m.class == 3) && nat_le m.class x.head.class) _ _ (λ _. unknown x.head _ refl (rw e refl)) (λ _. unknown x.head _ refl (rw e refl))
line_hears_place cell.ConfirmLate o point m x e = unknown x.head (line_hears cell.ConfirmLate point m x).0.head refl (rw e refl)
line_hears_place cell.Refused o point m x e = moved x.head _ refl
line_hears_place cell.Free o point m x e = moved x.head _ refl
line_hears_place cell.Released o point m x e = moved x.head _ refl
line_hears_place cell.ReleaseCollision o point m x e = moved x.head _ refl
line_hears_place cell.ErrorReceived o point m x e = either (LineStays x) (m.cause == ERROR_CLASS_MISMATCH) _ _ (λ _. moved x.head _ refl) (λ _. moved x.head _ refl)
line_hears_place cell.TestReceived o point m x e = either (LineStays x) (m.slr == x.head.other && m.class == x.head.class) _ _ (λ _. same x.head) (λ _. moved x.head _ refl)
line_hears_place _ o point m x e = same x.head

line_fires_place : (c : Cell) (x : Line) → LineStays x (line_fires c x)
unfolding line_fires LineStays
line_fires_place cell.NotAnswered x = moved x.head _ refl
line_fires_place cell.ResetExpired x = moved x.head _ refl
line_fires_place cell.PeerSilent x = moved x.head _ refl
line_fires_place cell.Free x = moved x.head _ refl
line_fires_place _ x = same x.head

line_takes_place : (c : Cell) (o : Occasion) (h : Hand) (x : Line) → IsCellOf c o x.head.state → LineStays x (line_takes c h x)
unfolding line_takes LineStays
line_takes_place cell.PassAccept o (hand.Accept class credit called body importance) x e = (refl, λ r. record { reached = refl; point = refl; other = refl })
line_takes_place cell.PassAccept o _ x e = same x.head
line_takes_place cell.PassRefuse o (hand.Refuse cause called body importance) x e = moved x.head _ refl
line_takes_place cell.PassRefuse o _ x e = same x.head
line_takes_place cell.PassEnd o (hand.End cause body importance) x e = moved x.head _ refl
line_takes_place cell.PassEnd o _ x e = same x.head
line_takes_place cell.KeepEnd o (hand.End cause body importance) x e = unknown x.head _ refl (rw e refl)
line_takes_place cell.KeepEnd o _ x e = same x.head
line_takes_place cell.PassUnit o (hand.Unit more body) x e = same x.head
line_takes_place cell.PassUnit o _ x e = same x.head
line_takes_place cell.Left o (hand.Left units expedited) x e = same x.head
line_takes_place cell.Left o _ x e = same x.head
line_takes_place _ o h x e = same x.head

-- The windows.

WindowsStay : Windowed → Windowed × Acted → Type 0
WindowsStay x done = KeepsPlace x.head done.0.head

resets_place : (cause : ℕ) (x : Windowed) → WindowsStay x (resets cause x)
unfolding WindowsStay
resets_place cause x = moved x.head _ refl

expedites_place : (body : Option (List ℕ)) (x : Windowed) → WindowsStay x (sends_expedited body x)
unfolding WindowsStay
expedites_place None x = same x.head
expedites_place (Some body) x = same x.head

windowed_hears_place : (c : Cell) (m : Parameters) (x : Windowed) → WindowsStay x (windowed_hears c m x)
unfolding windowed_hears WindowsStay
windowed_hears_place cell.TakeNumberedData m x =
    either (WindowsStay x) (not (is_next m x)) _ _ (λ _. resets_place (wrong_number x.windows) x)
    (λ _. either (WindowsStay x) (is_used_up x) _ _ (λ _. resets_place RESET_OUT_OF_WINDOW x)
    (λ _. either (WindowsStay x) (not (is_valid m.pr x.windows)) _ _ (λ _. resets_place RESET_INCORRECT_RECEIVE_NUMBER x) (λ _. same x.head)))
windowed_hears_place cell.TakeAcknowledgement m x =
    either (WindowsStay x) (is_valid m.pr x.windows) _ _ (λ _. same x.head) (λ _. resets_place RESET_INCORRECT_RECEIVE_NUMBER x)
windowed_hears_place cell.TakeExpedited m x =
    either (WindowsStay x) x.windows.owed _ _ (λ _. resets_place RESET_REMOTE_PROCEDURE_ERROR x) (λ _. same x.head)
windowed_hears_place cell.TakeExpeditedAcknowledgement m x =
    either (WindowsStay x) x.windows.unanswered _ _ (λ _. expedites_place x.windows.waiting (record x { windows = record x.windows { unanswered = false } })) (λ _. same x.head)
windowed_hears_place cell.ResetComplete m x = moved x.head _ refl
windowed_hears_place _ m x = same x.head

windowed_takes_place : (c : Cell) (h : Hand) (x : Windowed) → WindowsStay x (windowed_takes c h x)
unfolding windowed_takes WindowsStay
windowed_takes_place cell.PassUnit (hand.Unit more body) x = same x.head
windowed_takes_place cell.PassUnit _ x = same x.head
windowed_takes_place cell.PassExpedited (hand.Expedited body) x =
    either (WindowsStay x) (is_up x.head.state && not x.windows.unanswered) _ _ (λ _. expedites_place (Some body) x) (λ _. same x.head)
windowed_takes_place cell.PassExpedited _ x = same x.head
windowed_takes_place cell.PassReset (hand.Reset cause) x = moved x.head _ refl
windowed_takes_place cell.PassReset _ x = same x.head
windowed_takes_place cell.Left (hand.Left units true) x = same x.head
windowed_takes_place cell.Left (hand.Left units false) x = same x.head
windowed_takes_place cell.Left _ x = same x.head
windowed_takes_place _ h x = same x.head

-- A section.

SectionStays : Section → Section × Acted → Type 0
SectionStays x done = KeepsPlace x.head done.0.head

section_hears_place : (ticks : Ticks) (c : Cell) (o : Occasion) (point : ℕ) (m : Parameters) (x : Section) → IsCellOf c o x.head.state → StaysPut (wire x) (section_hears ticks c point m x).0
unfolding section_hears SectionStays WindowsStay LineStays
section_hears_place ticks c o point m x e =
    either (SectionStays x) (in_windows c x) _ _
    (λ _. windowed_hears_place c m (record { head = x.head; windows = x.windows })) (λ _. line_hears_place c o point m (line_in x) e)

section_fires_place : (ticks : Ticks) (c : Cell) (x : Section) → StaysPut (wire x) (section_fires ticks c x).0
unfolding section_fires windowed_fires SectionStays LineStays
section_fires_place ticks c x = either (SectionStays x) (in_windows c x) _ _ (λ _. same x.head) (λ _. line_fires_place c (line_in x))

section_takes_place : (ticks : Ticks) (c : Cell) (o : Occasion) (h : Hand) (x : Section) → IsCellOf c o x.head.state → StaysPut (wire x) (section_takes ticks c h x).0
unfolding section_takes SectionStays WindowsStay LineStays
section_takes_place ticks c o h x e =
    either (SectionStays x) (in_windows c x) _ _
    (λ _. windowed_takes_place c h (record { head = x.head; windows = x.windows })) (λ _. line_takes_place c o h (line_in x) e)

hears_place : (ticks : Ticks) (o : Occasion) (point : ℕ) (m : Parameters) (x : Section) (c : Option Output) → StaysPut (wire x) (hears_checked ticks o point m (in_touch ticks x) c).0
hears_place ticks o point m x (Some out) = same x.head
hears_place ticks o point m x None = section_hears_place ticks (section_cell x.head.state o) o point m (in_touch ticks x) (cell_of o x.head.state)

takes_place : (ticks : Ticks) (h : Hand) (e : End) → StaysPut e (end_takes ticks h e).0
takes_place ticks h (wire x) = section_takes_place ticks (section_takes_by x.head.state h) (as_occasion h) h x (taking_cell h x.head.state)
takes_place ticks h (owner u) = tt

end_same : (e : End) → StaysPut e e
end_same (wire x) = same x.head
end_same (owner u) = tt

pub end_then : (e f g : End) → StaysPut e f → StaysPut f g → StaysPut e g
end_then (wire x) (wire y) (wire z) a b = place_then x.head y.head z.head a b
end_then (owner u) (owner v) (owner w) a b = tt
end_then (wire x) (wire y) (owner w) a b = absurd b
end_then (owner u) (owner v) (wire z) a b = absurd b
end_then (wire x) (owner v) g a b = absurd a
end_then (owner u) (wire y) g a b = absurd a

windows_place : (act : Windowed → Windowed × Acted) → ((w : Windowed) → (act w).0.head ≡ w.head) → (ticks : Ticks) (x : Section) → StaysPut (wire x) (timed ticks x (by_windows act x)).0
windows_place act keeps ticks x = rw (keeps (record { head = x.head; windows = x.windows })) (same x.head)

leaves_place : (x : Windowed) → (leaves x).0.head ≡ x.head
unfolding leaves
leaves_place x = refl

acknowledges_place : (x : Windowed) → (acknowledges x).0.head ≡ x.head
unfolding acknowledges
acknowledges_place x = either (λ (done : Windowed × Acted). done.0.head ≡ x.head) (x.windows.passed == x.windows.told) _ _ (λ _. refl) (λ _. refl)

kept : (ticks : Ticks) → IsKept ticks StaysPut
kept ticks = record {
  same = end_same;
  in_turn = end_then;
  hears = λ o point m x c. hears_place ticks o point m x c;
  takes = λ h e. takes_place ticks h e;
  asks = λ r u. tt;
  leaves = λ x. windows_place leaves leaves_place ticks x;
  acknowledges = λ x. windows_place acknowledges acknowledges_place ticks x;
}

-- A tick.

ticked_place : (e : End) → StaysPut e (ticked e)
ticked_place (wire x) = same x.head
ticked_place (owner u) = tt

abbrev From : Connection → Connection × List Output → Type 0
From c r = Both StaysPut c r.0

fires_at_place : (ticks : Ticks) (timer : Timer) → KeepsEnds StaysPut (fires_at ticks timer)
fires_at_place ticks timer (wire x) that =
    settled (kept ticks) (wire x) that _ (section_fires_place ticks (section_cell x.head.state (firing timer)) (record x { timers = rearmed ticks timer x.timers }))
fires_at_place ticks timer (owner u) that = both_same (kept ticks) (record { this = owner u; that = that })

fires_place : (ticks : Ticks) (timer : Timer) → KeepsEnds StaysPut (fires ticks timer)
fires_place ticks timer this that =
    either (From (record { this = this; that = that })) (is_due_at timer this) _ _
    (λ _. fires_at_place ticks timer this that) (λ _. both_same (kept ticks) (record { this = this; that = that }))

fires_in_order : (ticks : Ticks) (timers : List Timer) (c : Connection) (r : Connection × List Output) → From c r → From c (fold (fires_next ticks) r timers)
fires_in_order ticks [] c r stays = stays
fires_in_order ticks (timer ∷ timers) c r stays =
    fires_in_order ticks timers c (fires_next ticks r timer)
    (keeps_then (kept ticks) (λ d. fires ticks timer d.this d.that) (λ d. fires_place ticks timer d.this d.that) c r stays)

fires_due_place : (ticks : Ticks) → Keeps StaysPut (fires_due ticks)
unfolding fires_due
fires_due_place ticks c = fires_in_order ticks firing_order c (c, []) (both_same (kept ticks) c)

ticks_place : (ticks : Ticks) → Keeps StaysPut (ticks_by ticks)
ticks_place ticks c =
    let k = kept ticks in
    let lower : Connection = record { this = ticked c.this; that = ticked c.that } in
    keeps_then k (on_that (fires_due ticks)) (keeps_that StaysPut (fires_due ticks) (fires_due_place ticks)) c (fires_due ticks lower)
    (both_in_turn k c lower (fires_due ticks lower).0 (ticked_place c.this, ticked_place c.that) (fires_due_place ticks lower))

pub event_place : (ticks : Ticks) (event : Event) → Keeps StaysPut (λ c. event_step ticks c event)
event_place ticks (Arrived point sls bytes) c = heard_kept (kept ticks) point (arrival_in bytes) c
event_place ticks (Requested ssn r) c = asked_kept (kept ticks) ssn r c.this c.that
event_place ticks Tick c = ticks_place ticks c

-- and what follows the event
pub after_place : (ticks : Ticks) (r : Connection × List Output) → Both StaysPut r.0 (after_event ticks r).0
after_place ticks r = after_event_kept (kept ticks) r.0 r (both_same (kept ticks) r.0)

pub step_place : (ticks : Ticks) (c : Connection) (event : Event) → Both StaysPut c (connection_step ticks c event).0
unfolding connection_step
step_place ticks c event = after_event_kept (kept ticks) c (event_step ticks c event) (event_place ticks event c)

pub along_place : (ticks : Ticks) (c : Connection) (events : List Event) → Both StaysPut c (follow ticks c events)
unfolding follow
along_place ticks c [] = both_same (kept ticks) c
along_place ticks c (event ∷ events) =
    let after = next ticks c event in both_in_turn (kept ticks) c after (follow ticks after events) (step_place ticks c event) (along_place ticks after events)

pub places_stay : PlacesStay
places_stay = record { step = step_place; along = along_place }
