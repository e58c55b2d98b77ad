-- A section keeps its class once it is agreed on, and none is asked again.
use Rattle.std.proofs.Common.{◌≡◌, ◌≢◌, ℕ, ◌==◌, ◌&&◌, ◌||◌, not, nat_le, true, false, List, [], ◌∷◌, fold, Option, Some, None, refl, sym, ◌∙◌, ap}
use Rattle.std.proofs.lemmas.Bool.{false≢true}
use Rattle.relay_base.specs.declared.causes.TheConstants.{ERROR_CLASS_MISMATCH, RESET_INCORRECT_RECEIVE_NUMBER, RESET_OUT_OF_WINDOW, RESET_REMOTE_PROCEDURE_ERROR}
use Rattle.relay_base.specs.declared.words.Event.{Event}
use Rattle.relay_base.specs.declared.words.Event.TheVariants.{Message as Arrived, Asked as Requested, Tick}
use Rattle.relay_base.specs.declared.words.Output.{Output}
use Rattle.plant_core.specs.declared.terms.Ticks.{Ticks}
use Rattle.section_model.specs.declared.cell.Cell.{Cell}
use Rattle.section_model.specs.declared.cell.Cell.TheVariants as cell
use Rattle.section_model.specs.declared.cell.Occasion.{Occasion}
use Rattle.section_model.specs.declared.cell.Timer.{Timer}
use Rattle.section_model.specs.declared.cell.SectionState.{SectionState}
use Rattle.section_model.specs.declared.cell.SectionState.TheVariants.{Asked}
use Rattle.section_model.specs.declared.hand.Hand.{Hand}
use Rattle.section_model.specs.declared.hand.Hand.TheVariants as hand
use Rattle.section_model.specs.declared.hand.Acted.{Acted}
use Rattle.section_model.specs.Table.{section_cell}
use Rattle.section_model.specs.Parameters.{Parameters, arrival_in}
use Rattle.section_model.specs.Timing.{firing_order, firing, rearmed}
use Rattle.section_model.specs.Ends.{End, wire, owner, SectionHead, Line, Section, Connection, is_up}
use Rattle.section_flow.specs.Windows.{is_valid, wrong_number}
use Rattle.section_model.specs.Line.{line_hears, line_fires, line_takes}
use Rattle.section_model.specs.Windowed.{Windowed, windowed_hears, windowed_fires, windowed_takes, resets, is_next, is_used_up, sends_expedited, leaves, acknowledges}
use Rattle.section_model.specs.Acting.{timed, by_windows, line_in, in_windows, section_hears, section_fires, section_takes, section_takes_by, end_takes}
use Rattle.section_model.specs.Coupling.{on_that}
use Rattle.section_model.specs.Step.{hears_checked, in_touch, ticked, is_due_at, fires_at, fires, fires_next, fires_due, ticks_by, event_step, connection_step}
use Rattle.connection_law.proofs.Cells.{IsCellOf, cell_of}
use Rattle.connection_law.proofs.Flow.Flowing.{either}
use Rattle.connection_law.proofs.Reference.Acting.{leaves_head, acknowledges_head}
use Rattle.connection_law.proofs.Reference.Ends.{IsKept, Both, both_same, both_in_turn}
use Rattle.connection_law.proofs.Reference.Settling.{settled}
use Rattle.connection_law.proofs.Reference.Step.{Keeps, KeepsEnds, keeps_that, keeps_then, heard_kept, asked_kept, after_event_kept}
use Rattle.hop_law.proofs.Cells.{as_occasion, taking_cell}
use Rattle.hop_law.specs.SectionLaw.{is_early, KeepsClass}

-- from a head to a later one
abbrev pub Agrees : SectionHead → SectionHead → Type 0
Agrees x y = (is_early x.state ≡ false → KeepsClass x y) × (x.state ≢ Asked → y.state ≢ Asked)

same : (x : SectionHead) → Agrees x x
same x = (λ set. record { set = set; class = refl }, λ not. not)

never_asked : (s : SectionState) → is_early s ≡ false → s ≢ Asked
never_asked s set is = false≢true (sym set ∙ ap is_early is)

-- to a state in which the connection is set up, or over
moved : (x : SectionHead) (s : SectionState) → is_early s ≡ false → Agrees x (record x { state = s })
moved x s set = (λ _. record { set = set; class = refl }, λ _. never_asked s set)

-- and the class is agreed on
agreed : (x y : SectionHead) → is_early x.state ≡ true → is_early y.state ≡ false → Agrees x y
agreed x y early set = (λ e. absurd (false≢true (sym e ∙ early)), λ _. never_asked y.state set)

agrees_then : (x y z : SectionHead) → Agrees x y → Agrees y z → Agrees x z
agrees_then x y z a b = (
  λ e. let one = a.0 e in let other = b.0 one.set in record { set = other.set; class = other.class ∙ one.class },
  λ not. b.1 (a.1 not),
)

-- an end later on
abbrev pub EndAgrees : End → End → Type 0
EndAgrees (wire x) (wire y) = Agrees x.head y.head
EndAgrees (owner u) (owner v) = Unit {0}
EndAgrees _ _ = ⊥

-- The line.

LineAgrees : Line → Line × Acted → Type 0
LineAgrees x done = Agrees x.head done.0.head

line_hears_agrees : (c : Cell) (o : Occasion) (point : ℕ) (m : Parameters) (x : Line) → IsCellOf c o x.head.state → LineAgrees x (line_hears c point m x)
unfolding line_hears LineAgrees
line_hears_agrees cell.Confirm o point m x e =
    either (LineAgrees x) ((m.class == 2 || m.class == 3) && nat_le m.class x.head.class) _ _ (λ _. agreed x.head _ (rw e refl) refl) (λ _. agreed x.head _ (rw e refl) refl)
line_hears_agrees cell.ConfirmLate o point m x e = (λ _. record { set = refl; class = refl }, λ _. never_asked _ refl)
line_hears_agrees cell.Refused o point m x e = moved x.head _ refl
line_hears_agrees cell.Free o point m x e = moved x.head _ refl
line_hears_agrees cell.Released o point m x e = moved x.head _ refl
line_hears_agrees cell.ReleaseCollision o point m x e = moved x.head _ refl
line_hears_agrees cell.ErrorReceived o point m x e = either (LineAgrees x) (m.cause == ERROR_CLASS_MISMATCH) _ _ (λ _. moved x.head _ refl) (λ _. moved x.head _ refl)
line_hears_agrees cell.TestReceived o point m x e =
    either (LineAgrees x) (m.slr == x.head.other && m.class == x.head.class) _ _ (λ _. same x.head) (λ _. moved x.head _ refl)
line_hears_agrees _ o point m x e = same x.head

line_fires_agrees : (c : Cell) (x : Line) → LineAgrees x (line_fires c x)
unfolding line_fires LineAgrees
line_fires_agrees cell.NotAnswered x = moved x.head _ refl
line_fires_agrees cell.ResetExpired x = moved x.head _ refl
line_fires_agrees cell.PeerSilent x = moved x.head _ refl
line_fires_agrees cell.Free x = moved x.head _ refl
line_fires_agrees _ x = same x.head

line_takes_agrees : (c : Cell) (o : Occasion) (h : Hand) (x : Line) → IsCellOf c o x.head.state → LineAgrees x (line_takes c h x)
unfolding line_takes LineAgrees
line_takes_agrees cell.PassAccept o (hand.Accept class credit called body importance) x e = agreed x.head _ (rw e refl) refl
line_takes_agrees cell.PassAccept o _ x e = same x.head
line_takes_agrees cell.PassRefuse o (hand.Refuse cause called body importance) x e = moved x.head _ refl
line_takes_agrees cell.PassRefuse o _ x e = same x.head
line_takes_agrees cell.PassEnd o (hand.End cause body importance) x e = moved x.head _ refl
line_takes_agrees cell.PassEnd o _ x e = same x.head
line_takes_agrees cell.KeepEnd o (hand.End cause body importance) x e = moved x.head _ refl
line_takes_agrees cell.KeepEnd o _ x e = same x.head
line_takes_agrees cell.PassUnit o (hand.Unit more body) x e = same x.head
line_takes_agrees cell.PassUnit o _ x e = same x.head
line_takes_agrees cell.Left o (hand.Left units expedited) x e = same x.head
line_takes_agrees cell.Left o _ x e = same x.head
line_takes_agrees _ o h x e = same x.head

-- The windows.

WindowsAgree : Windowed → Windowed × Acted → Type 0
WindowsAgree x done = Agrees x.head done.0.head

resets_agrees : (cause : ℕ) (x : Windowed) → WindowsAgree x (resets cause x)
unfolding WindowsAgree
resets_agrees cause x = moved x.head _ refl

expedites_agrees : (body : Option (List ℕ)) (x : Windowed) → WindowsAgree x (sends_expedited body x)
unfolding WindowsAgree
expedites_agrees None x = same x.head
expedites_agrees (Some body) x = same x.head

windowed_hears_agrees : (c : Cell) (m : Parameters) (x : Windowed) → WindowsAgree x (windowed_hears c m x)
unfolding windowed_hears WindowsAgree
windowed_hears_agrees cell.TakeNumberedData m x =
    either (WindowsAgree x) (not (is_next m x)) _ _ (λ _. resets_agrees (wrong_number x.windows) x)
    (λ _. either (WindowsAgree x) (is_used_up x) _ _ (λ _. resets_agrees RESET_OUT_OF_WINDOW x)
    (λ _. either (WindowsAgree x) (not (is_valid m.pr x.windows)) _ _ (λ _. resets_agrees RESET_INCORRECT_RECEIVE_NUMBER x) (λ _. same x.head)))
windowed_hears_agrees cell.TakeAcknowledgement m x =
    either (WindowsAgree x) (is_valid m.pr x.windows) _ _ (λ _. same x.head) (λ _. resets_agrees RESET_INCORRECT_RECEIVE_NUMBER x)
windowed_hears_agrees cell.TakeExpedited m x =
    either (WindowsAgree x) x.windows.owed _ _ (λ _. resets_agrees RESET_REMOTE_PROCEDURE_ERROR x) (λ _. same x.head)
windowed_hears_agrees cell.TakeExpeditedAcknowledgement m x =
    either (WindowsAgree x) x.windows.unanswered _ _ (λ _. expedites_agrees x.windows.waiting (record x { windows = record x.windows { unanswered = false } })) (λ _. same x.head)
windowed_hears_agrees cell.ResetComplete m x = moved x.head _ refl
windowed_hears_agrees _ m x = same x.head

windowed_takes_agrees : (c : Cell) (h : Hand) (x : Windowed) → WindowsAgree x (windowed_takes c h x)
unfolding windowed_takes WindowsAgree
windowed_takes_agrees cell.PassUnit (hand.Unit more body) x = same x.head
windowed_takes_agrees cell.PassUnit _ x = same x.head
windowed_takes_agrees cell.PassExpedited (hand.Expedited body) x =
    either (WindowsAgree x) (is_up x.head.state && not x.windows.unanswered) _ _ (λ _. expedites_agrees (Some body) x) (λ _. same x.head)
windowed_takes_agrees cell.PassExpedited _ x = same x.head
windowed_takes_agrees cell.PassReset (hand.Reset cause) x = moved x.head _ refl
windowed_takes_agrees cell.PassReset _ x = same x.head
windowed_takes_agrees cell.Left (hand.Left units true) x = same x.head
windowed_takes_agrees cell.Left (hand.Left units false) x = same x.head
windowed_takes_agrees cell.Left _ x = same x.head
windowed_takes_agrees _ h x = same x.head

-- A section.

SectionAgrees : Section → Section × Acted → Type 0
SectionAgrees x done = Agrees x.head done.0.head

section_hears_agrees : (ticks : Ticks) (c : Cell) (o : Occasion) (point : ℕ) (m : Parameters) (x : Section) → IsCellOf c o x.head.state → EndAgrees (wire x) (section_hears ticks c point m x).0
unfolding section_hears SectionAgrees WindowsAgree LineAgrees
section_hears_agrees ticks c o point m x e =
    either (SectionAgrees x) (in_windows c x) _ _
    (λ _. windowed_hears_agrees c m (record { head = x.head; windows = x.windows })) (λ _. line_hears_agrees c o point m (line_in x) e)

section_fires_agrees : (ticks : Ticks) (c : Cell) (x : Section) → EndAgrees (wire x) (section_fires ticks c x).0
unfolding section_fires windowed_fires SectionAgrees LineAgrees
section_fires_agrees ticks c x = either (SectionAgrees x) (in_windows c x) _ _ (λ _. same x.head) (λ _. line_fires_agrees c (line_in x))

section_takes_agrees : (ticks : Ticks) (c : Cell) (o : Occasion) (h : Hand) (x : Section) → IsCellOf c o x.head.state → EndAgrees (wire x) (section_takes ticks c h x).0
unfolding section_takes SectionAgrees WindowsAgree LineAgrees
section_takes_agrees ticks c o h x e =
    either (SectionAgrees x) (in_windows c x) _ _
    (λ _. windowed_takes_agrees c h (record { head = x.head; windows = x.windows })) (λ _. line_takes_agrees c o h (line_in x) e)

hears_agrees : (ticks : Ticks) (o : Occasion) (point : ℕ) (m : Parameters) (x : Section) (c : Option Output) → EndAgrees (wire x) (hears_checked ticks o point m (in_touch ticks x) c).0
hears_agrees ticks o point m x (Some out) = same x.head
hears_agrees ticks o point m x None = section_hears_agrees ticks (section_cell x.head.state o) o point m (in_touch ticks x) (cell_of o x.head.state)

takes_agrees : (ticks : Ticks) (h : Hand) (e : End) → EndAgrees e (end_takes ticks h e).0
takes_agrees ticks h (wire x) = section_takes_agrees ticks (section_takes_by x.head.state h) (as_occasion h) h x (taking_cell h x.head.state)
takes_agrees ticks h (owner u) = tt

pub end_same : (e : End) → EndAgrees e e
end_same (wire x) = same x.head
end_same (owner u) = tt

end_then : (e f g : End) → EndAgrees e f → EndAgrees f g → EndAgrees e g
end_then (wire x) (wire y) (wire z) a b = agrees_then x.head y.head z.head a b
end_then (owner u) (owner v) (owner w) a b = tt
end_then (wire x) (wire y) (owner w) a b = absurd b
end_then (owner u) (owner v) (wire z) a b = absurd b
end_then (wire x) (owner v) g a b = absurd a
end_then (owner u) (wire y) g a b = absurd a

windows_agree : (act : Windowed → Windowed × Acted) → ((w : Windowed) → (act w).0.head ≡ w.head) → (ticks : Ticks) (x : Section) → EndAgrees (wire x) (timed ticks x (by_windows act x)).0
windows_agree act keeps ticks x = rw (keeps (record { head = x.head; windows = x.windows })) (same x.head)

kept : (ticks : Ticks) → IsKept ticks EndAgrees
kept ticks = record {
  same = end_same;
  in_turn = end_then;
  hears = λ o point m x c. hears_agrees ticks o point m x c;
  takes = λ h e. takes_agrees ticks h e;
  asks = λ r u. tt;
  leaves = λ x. windows_agree leaves leaves_head ticks x;
  acknowledges = λ x. windows_agree acknowledges acknowledges_head ticks x;
}

-- A tick.

ticked_agrees : (e : End) → EndAgrees e (ticked e)
ticked_agrees (wire x) = same x.head
ticked_agrees (owner u) = tt

abbrev From : Connection → Connection × List Output → Type 0
From c r = Both EndAgrees c r.0

fires_at_agrees : (ticks : Ticks) (timer : Timer) → KeepsEnds EndAgrees (fires_at ticks timer)
fires_at_agrees ticks timer (wire x) that =
    settled (kept ticks) (wire x) that _ (section_fires_agrees ticks (section_cell x.head.state (firing timer)) (record x { timers = rearmed ticks timer x.timers }))
fires_at_agrees ticks timer (owner u) that = both_same (kept ticks) (record { this = owner u; that = that })

fires_agrees : (ticks : Ticks) (timer : Timer) → KeepsEnds EndAgrees (fires ticks timer)
fires_agrees ticks timer this that =
    either (From (record { this = this; that = that })) (is_due_at timer this) _ _
    (λ _. fires_at_agrees ticks timer this that) (λ _. both_same (kept ticks) (record { this = this; that = that }))

fires_in_order : (ticks : Ticks) (timers : List Timer) (c : Connection) (r : Connection × List Output) → From c r → From c (fold (fires_next ticks) r timers)
fires_in_order ticks [] c r agrees = agrees
fires_in_order ticks (timer ∷ timers) c r agrees =
    fires_in_order ticks timers c (fires_next ticks r timer)
    (keeps_then (kept ticks) (λ d. fires ticks timer d.this d.that) (λ d. fires_agrees ticks timer d.this d.that) c r agrees)

fires_due_agrees : (ticks : Ticks) → Keeps EndAgrees (fires_due ticks)
unfolding fires_due
fires_due_agrees ticks c = fires_in_order ticks firing_order c (c, []) (both_same (kept ticks) c)

ticks_agree : (ticks : Ticks) → Keeps EndAgrees (ticks_by ticks)
ticks_agree ticks c =
    let k = kept ticks in
    let lower : Connection = record { this = ticked c.this; that = ticked c.that } in
    keeps_then k (on_that (fires_due ticks)) (keeps_that EndAgrees (fires_due ticks) (fires_due_agrees ticks)) c (fires_due ticks lower)
    (both_in_turn k c lower (fires_due ticks lower).0 (ticked_agrees c.this, ticked_agrees c.that) (fires_due_agrees ticks lower))

-- The step.

event_agrees : (ticks : Ticks) (event : Event) → Keeps EndAgrees (λ c. event_step ticks c event)
event_agrees ticks (Arrived point sls bytes) c = heard_kept (kept ticks) point (arrival_in bytes) c
event_agrees ticks (Requested ssn r) c = asked_kept (kept ticks) ssn r c.this c.that
event_agrees ticks Tick c = ticks_agree ticks c

pub step_agrees : (ticks : Ticks) (c : Connection) (event : Event) → Both EndAgrees c (connection_step ticks c event).0
unfolding connection_step
step_agrees ticks c event = after_event_kept (kept ticks) c (event_step ticks c event) (event_agrees ticks event c)
