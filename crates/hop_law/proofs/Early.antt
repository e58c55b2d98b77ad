-- What an end that isn't set up has got.
use Rattle.std.proofs.Common.{◌≡◌, ℕ, ◌==◌, ◌&&◌, ◌||◌, not, nat_le, true, false, List, [], ◌∷◌, ◌++◌, length, nat_lt, subst, fold, Option, Some, None, refl}
use Rattle.relay_base.specs.declared.causes.TheConstants.{ERROR_CLASS_MISMATCH, RESET_INCORRECT_RECEIVE_NUMBER, RESET_OUT_OF_WINDOW, RESET_REMOTE_PROCEDURE_ERROR}
use Rattle.relay_base.specs.declared.limits.TheConstants.{LONGEST_TEXT}
use Rattle.relay_base.specs.declared.words.Event.{Event}
use Rattle.relay_base.specs.declared.words.Event.TheVariants.{Message as Arrived, Asked as Requested, Tick}
use Rattle.relay_base.specs.declared.words.Output.{Output}
use Rattle.plant_core.specs.declared.terms.Ticks.{Ticks}
use Rattle.section_model.specs.declared.cell.Cell.{Cell}
use Rattle.section_model.specs.declared.cell.Cell.TheVariants as cell
use Rattle.section_model.specs.declared.cell.Occasion.{Occasion}
use Rattle.section_model.specs.declared.cell.Timer.{Timer}
use Rattle.section_model.specs.declared.cell.UserOccasion.{UserOccasion}
use Rattle.section_model.specs.declared.hand.Hand.{Hand}
use Rattle.section_model.specs.declared.hand.Hand.TheVariants as hand
use Rattle.section_model.specs.declared.hand.Acted.{Acted}
use Rattle.section_model.specs.Table.{section_cell}
use Rattle.section_model.specs.Parameters.{Parameters, arrival_in}
use Rattle.section_model.specs.Timing.{firing_order, firing, rearmed}
use Rattle.section_model.specs.Ends.{End, wire, owner, DataUnit, Line, Section, User, Connection, is_up, is_connected}
use Rattle.section_flow.specs.Windows.{Windows, is_valid, wrong_number}
use Rattle.section_model.specs.Line.{line_hears, line_fires, line_takes}
use Rattle.section_model.specs.Windowed.{Windowed, windowed_hears, windowed_fires, windowed_takes, resets, is_next, is_used_up, sends_expedited, leaves, acknowledges}
use Rattle.section_model.specs.Acting.{timed, by_windows, line_in, in_windows, windows_after, user_takes_by, section_hears, section_fires, section_takes, section_takes_by, end_takes}
use Rattle.section_model.specs.Coupling.{on_that}
use Rattle.section_model.specs.UserEnd.{user_takes, user_asks}
use Rattle.section_model.specs.Opening.{Wish, by_cr, by_user, no_wish, Wanted, Opened, fits, opened_by_cr, opened_by_user, opened, wish_of}
use Rattle.plant_core.specs.declared.answer.Answer.{Answer}
use Rattle.plant_core.specs.declared.answer.Answer.TheVariants.{Local, Forward, Refused}
use Rattle.plant_core.specs.declared.terms.Terms.{Terms}
use Rattle.relay_base.specs.declared.words.Request.{Request}
use Rattle.relay_base.specs.declared.words.Request.TheVariants as request
use Rattle.section_model.specs.Step.{asking_cell, hears_checked, in_touch, ticked, is_due_at, fires_at, fires, fires_next, fires_due, ticks_by, event_step, connection_step}
use Rattle.section_model.specs.Lane.{next, follow}
use Rattle.connection_law.proofs.Cells.{IsCellOf, cell_of}
use Rattle.connection_law.proofs.Flow.Flowing.{either}
use Rattle.connection_law.proofs.Reference.Ends.{IsKept, Both, both_same, both_in_turn}
use Rattle.connection_law.proofs.Reference.Settling.{settled}
use Rattle.connection_law.proofs.Reference.Step.{Keeps, KeepsEnds, keeps_that, keeps_then, heard_kept, asked_kept, after_event_kept}
use Rattle.connection_law.specs.InStep.{Stage, asked, asking, connected, over, Meets, section_stage, user_stage, stage_at, got_at}
use Rattle.hop_law.specs.EarlyLaw.{IsBefore, WasEarly, IsEmptyEarly, EarlyLaw}
use Rattle.hop_law.proofs.Cells.{IsUserCellOf, as_asked, asking_cell_of}

-- from a stage and what came in to those later on
abbrev Early : Stage → List DataUnit → Stage → List DataUnit → Type 0
Early s got s' got' = IsBefore s' → IsBefore s × (got ≡ [] → got' ≡ [])

same : (s : Stage) (got : List DataUnit) → Early s got s got
same s got = λ e. (e, λ none. none)

cleared_same : (s : Stage) (got : List DataUnit) → Early s got s []
cleared_same s got = λ e. (e, λ none. refl)

pub early_then : (s t u : Stage) (a b c : List DataUnit) → Early s a t b → Early t b u c → Early s a u c
early_then s t u a b c f g = λ e. let two = g e in let one = f two.0 in (one.0, λ none. two.1 (one.1 none))

not_both : (s : Stage) → Meets connected s → IsBefore s → ⊥
not_both asked m e = m
not_both asking m e = m
not_both connected m e = e
not_both over m e = e

-- where units come in, the end is set up
grows : (s : Stage) (got got' : List DataUnit) → Meets connected s → Early s got s got'
grows s got got' m = λ e. absurd (not_both s m e)

-- The line.

LineEarly : Line → Line × Acted → Type 0
LineEarly x done = Early (section_stage x.head.state) x.got (section_stage done.0.head.state) done.0.got

line_hears_early : (c : Cell) (o : Occasion) (point : ℕ) (m : Parameters) (x : Line) → IsCellOf c o x.head.state → LineEarly x (line_hears c point m x)
unfolding line_hears LineEarly
line_hears_early cell.Confirm o point m x d =
    either (LineEarly x) ((m.class == 2 || m.class == 3) && nat_le m.class x.head.class) _ _ (λ _. λ e. absurd e) (λ _. λ e. absurd e)
line_hears_early cell.ConfirmLate o point m x d = λ e. absurd e
line_hears_early cell.Refused o point m x d = λ e. absurd e
line_hears_early cell.Free o point m x d = λ e. absurd e
line_hears_early cell.Released o point m x d = λ e. absurd e
line_hears_early cell.ReleaseCollision o point m x d = λ e. absurd e
line_hears_early cell.TakeData o point m x d = grows (section_stage x.head.state) x.got _ (rw d.1 tt)
line_hears_early cell.ErrorReceived o point m x d = either (LineEarly x) (m.cause == ERROR_CLASS_MISMATCH) _ _ (λ _. λ e. absurd e) (λ _. λ e. absurd e)
line_hears_early cell.TestReceived o point m x d =
    either (LineEarly x) (m.slr == x.head.other && m.class == x.head.class) _ _ (λ _. same (section_stage x.head.state) x.got) (λ _. λ e. absurd e)
line_hears_early _ o point m x d = same (section_stage x.head.state) x.got

line_fires_early : (c : Cell) (x : Line) → LineEarly x (line_fires c x)
unfolding line_fires LineEarly
line_fires_early cell.NotAnswered x = λ e. absurd e
line_fires_early cell.ResetExpired x = λ e. absurd e
line_fires_early cell.PeerSilent x = λ e. absurd e
line_fires_early cell.Free x = λ e. absurd e
line_fires_early _ x = same (section_stage x.head.state) x.got

line_takes_early : (c : Cell) (h : Hand) (x : Line) → LineEarly x (line_takes c h x)
unfolding line_takes LineEarly
line_takes_early cell.PassAccept (hand.Accept class credit called body importance) x = λ e. absurd e
line_takes_early cell.PassAccept _ x = same (section_stage x.head.state) x.got
line_takes_early cell.PassRefuse (hand.Refuse cause called body importance) x = λ e. absurd e
line_takes_early cell.PassRefuse _ x = same (section_stage x.head.state) x.got
line_takes_early cell.PassEnd (hand.End cause body importance) x = λ e. absurd e
line_takes_early cell.PassEnd _ x = same (section_stage x.head.state) x.got
line_takes_early cell.KeepEnd (hand.End cause body importance) x = λ e. absurd e
line_takes_early cell.KeepEnd _ x = same (section_stage x.head.state) x.got
line_takes_early cell.PassUnit (hand.Unit more body) x = same (section_stage x.head.state) x.got
line_takes_early cell.PassUnit _ x = same (section_stage x.head.state) x.got
line_takes_early cell.Left (hand.Left units expedited) x = same (section_stage x.head.state) x.got
line_takes_early cell.Left _ x = same (section_stage x.head.state) x.got
line_takes_early _ h x = same (section_stage x.head.state) x.got

-- The windows.

WindowsEarly : Windowed → Windowed × Acted → Type 0
WindowsEarly x done = Early (section_stage x.head.state) x.windows.got (section_stage done.0.head.state) done.0.windows.got

resets_early : (cause : ℕ) (x : Windowed) → WindowsEarly x (resets cause x)
unfolding WindowsEarly
resets_early cause x = λ e. absurd e

expedites_early : (body : Option (List ℕ)) (x : Windowed) → WindowsEarly x (sends_expedited body x)
unfolding WindowsEarly
expedites_early None x = same (section_stage x.head.state) x.windows.got
expedites_early (Some body) x = same (section_stage x.head.state) x.windows.got

windowed_hears_early : (c : Cell) (o : Occasion) (m : Parameters) (x : Windowed) → IsCellOf c o x.head.state → WindowsEarly x (windowed_hears c m x)
unfolding windowed_hears WindowsEarly
windowed_hears_early cell.TakeNumberedData o m x d =
    either (WindowsEarly x) (not (is_next m x)) _ _ (λ _. resets_early (wrong_number x.windows) x)
    (λ _. either (WindowsEarly x) (is_used_up x) _ _ (λ _. resets_early RESET_OUT_OF_WINDOW x)
    (λ _. either (WindowsEarly x) (not (is_valid m.pr x.windows)) _ _ (λ _. resets_early RESET_INCORRECT_RECEIVE_NUMBER x)
    (λ _. grows (section_stage x.head.state) x.windows.got _ (rw d.1 tt))))
windowed_hears_early cell.TakeAcknowledgement o m x d =
    either (WindowsEarly x) (is_valid m.pr x.windows) _ _ (λ _. same (section_stage x.head.state) x.windows.got) (λ _. resets_early RESET_INCORRECT_RECEIVE_NUMBER x)
windowed_hears_early cell.TakeExpedited o m x d =
    either (WindowsEarly x) x.windows.owed _ _ (λ _. resets_early RESET_REMOTE_PROCEDURE_ERROR x) (λ _. same (section_stage x.head.state) x.windows.got)
windowed_hears_early cell.TakeExpeditedAcknowledgement o m x d =
    either (WindowsEarly x) x.windows.unanswered _ _ (λ _. expedites_early x.windows.waiting (record x { windows = record x.windows { unanswered = false } }))
    (λ _. same (section_stage x.head.state) x.windows.got)
windowed_hears_early cell.ResetByPeer o m x d = cleared_same (section_stage x.head.state) x.windows.got
windowed_hears_early cell.ResetComplete o m x d = λ e. absurd e
windowed_hears_early _ o m x d = same (section_stage x.head.state) x.windows.got

windowed_takes_early : (c : Cell) (h : Hand) (x : Windowed) → WindowsEarly x (windowed_takes c h x)
unfolding windowed_takes WindowsEarly
windowed_takes_early cell.PassUnit (hand.Unit more body) x = same (section_stage x.head.state) x.windows.got
windowed_takes_early cell.PassUnit _ x = same (section_stage x.head.state) x.windows.got
windowed_takes_early cell.PassExpedited (hand.Expedited body) x =
    either (WindowsEarly x) (is_up x.head.state && not x.windows.unanswered) _ _ (λ _. expedites_early (Some body) x) (λ _. same (section_stage x.head.state) x.windows.got)
windowed_takes_early cell.PassExpedited _ x = same (section_stage x.head.state) x.windows.got
windowed_takes_early cell.PassReset (hand.Reset cause) x = λ e. absurd e
windowed_takes_early cell.PassReset _ x = same (section_stage x.head.state) x.windows.got
windowed_takes_early cell.ClearCounts h x = cleared_same (section_stage x.head.state) x.windows.got
windowed_takes_early cell.Left (hand.Left units true) x = same (section_stage x.head.state) x.windows.got
windowed_takes_early cell.Left (hand.Left units false) x = same (section_stage x.head.state) x.windows.got
windowed_takes_early cell.Left _ x = same (section_stage x.head.state) x.windows.got
windowed_takes_early _ h x = same (section_stage x.head.state) x.windows.got

-- A section.

SectionEarly : Section → Section × Acted → Type 0
SectionEarly x done = Early (section_stage x.head.state) x.windows.got (section_stage done.0.head.state) done.0.windows.got

line_early : (x : Section) (line : Line) → Early (section_stage x.head.state) x.windows.got (section_stage line.head.state) line.got
    → Early (section_stage x.head.state) x.windows.got (section_stage line.head.state) (windows_after x line).got
line_early x line k =
    either (λ (w : Windows). Early (section_stage x.head.state) x.windows.got (section_stage line.head.state) w.got) (is_up line.head.state && not (is_connected x.head.state)) _ _
    (λ _. λ e. ((k e).0, λ none. refl)) (λ _. k)

abbrev pub KeptEarly : End → End → Type 0
KeptEarly e f = Early (stage_at e) (got_at e) (stage_at f) (got_at f)

section_hears_early : (ticks : Ticks) (c : Cell) (o : Occasion) (point : ℕ) (m : Parameters) (x : Section) → IsCellOf c o x.head.state → KeptEarly (wire x) (section_hears ticks c point m x).0
unfolding section_hears SectionEarly WindowsEarly LineEarly
section_hears_early ticks c o point m x d =
    either (SectionEarly x) (in_windows c x) _ _
    (λ _. windowed_hears_early c o m (record { head = x.head; windows = x.windows }) d)
    (λ _. line_early x (line_hears c point m (line_in x)).0 (line_hears_early c o point m (line_in x) d))

pub section_fires_early : (ticks : Ticks) (c : Cell) (x : Section) → KeptEarly (wire x) (section_fires ticks c x).0
unfolding section_fires windowed_fires SectionEarly LineEarly
section_fires_early ticks c x =
    either (SectionEarly x) (in_windows c x) _ _ (λ _. same (section_stage x.head.state) x.windows.got)
    (λ _. line_early x (line_fires c (line_in x)).0 (line_fires_early c (line_in x)))

section_takes_early : (ticks : Ticks) (c : Cell) (h : Hand) (x : Section) → KeptEarly (wire x) (section_takes ticks c h x).0
unfolding section_takes SectionEarly WindowsEarly LineEarly
section_takes_early ticks c h x =
    either (SectionEarly x) (in_windows c x) _ _
    (λ _. windowed_takes_early c h (record { head = x.head; windows = x.windows }))
    (λ _. line_early x (line_takes c h (line_in x)).0 (line_takes_early c h (line_in x)))

pub hears_early : (ticks : Ticks) (o : Occasion) (point : ℕ) (m : Parameters) (x : Section) (c : Option Output) → KeptEarly (wire x) (hears_checked ticks o point m (in_touch ticks x) c).0
hears_early ticks o point m x (Some out) = same (section_stage x.head.state) x.windows.got
hears_early ticks o point m x None = section_hears_early ticks (section_cell x.head.state o) o point m (in_touch ticks x) (cell_of o x.head.state)

-- A user's end.

UserEarly : User → User × Acted → Type 0
UserEarly u done = Early (user_stage u.state) u.got (user_stage done.0.state) done.0.got

user_takes_early : (c : Cell) (h : Hand) (u : User) → UserEarly u (user_takes c h u)
unfolding user_takes UserEarly
user_takes_early cell.TellConfirm (hand.Accept class credit called body importance) u = λ e. absurd e
user_takes_early cell.TellConfirm _ u = same (user_stage u.state) u.got
user_takes_early cell.TellDisconnect (hand.Refuse cause called body importance) u = λ e. absurd e
user_takes_early cell.TellDisconnect (hand.End cause body importance) u = λ e. absurd e
user_takes_early cell.TellDisconnect _ u = same (user_stage u.state) u.got
user_takes_early cell.TellUnit (hand.Unit more body) u =
    either (UserEarly u) (nat_lt LONGEST_TEXT (length (u.text ++ body))) _ _ (λ _. λ e. absurd e)
    (λ _. either (UserEarly u) more _ _ (λ _. same (user_stage u.state) u.got) (λ _. same (user_stage u.state) u.got))
user_takes_early cell.TellUnit _ u = same (user_stage u.state) u.got
user_takes_early cell.TellExpedited (hand.Expedited body) u = same (user_stage u.state) u.got
user_takes_early cell.TellExpedited _ u = same (user_stage u.state) u.got
user_takes_early cell.TellReset (hand.Reset cause) u = cleared_same (user_stage u.state) u.got
user_takes_early cell.TellReset _ u = same (user_stage u.state) u.got
user_takes_early cell.TellResetDone h u = λ e. absurd e
user_takes_early cell.Left (hand.Left units expedited) u = same (user_stage u.state) u.got
user_takes_early cell.Left _ u = same (user_stage u.state) u.got
user_takes_early _ h u = same (user_stage u.state) u.got

user_asks_early : (c : Cell) (o : UserOccasion) (r : Request) (u : User) → IsUserCellOf c o u.state → UserEarly u (user_asks c r u)
unfolding user_asks UserEarly
user_asks_early cell.UserSends o (request.Send mine body) u is = grows (user_stage u.state) u.got _ (rw is tt)
user_asks_early cell.UserSends o _ u is = same (user_stage u.state) u.got
user_asks_early cell.UserAccepts o (request.Accept mine class credit body) u is = λ e. absurd e
user_asks_early cell.UserAccepts o _ u is = same (user_stage u.state) u.got
user_asks_early cell.UserRefuses o (request.Refuse mine cause body) u is = λ e. absurd e
user_asks_early cell.UserRefuses o _ u is = same (user_stage u.state) u.got
user_asks_early cell.UserExpedites o (request.Expedite mine body) u is = same (user_stage u.state) u.got
user_asks_early cell.UserExpedites o _ u is = same (user_stage u.state) u.got
user_asks_early cell.UserResets o r u is = λ e. absurd e
user_asks_early cell.UserDisconnects o (request.Disc mine cause body) u is = λ e. absurd e
user_asks_early cell.UserDisconnects o _ u is = same (user_stage u.state) u.got
user_asks_early _ o r u is = same (user_stage u.state) u.got

pub takes_early : (ticks : Ticks) (h : Hand) (e : End) → KeptEarly e (end_takes ticks h e).0
unfolding UserEarly
takes_early ticks h (wire x) = section_takes_early ticks (section_takes_by x.head.state h) h x
takes_early ticks h (owner u) = user_takes_early (user_takes_by u.state h) h u

pub asks_early : (r : Request) (u : User) → KeptEarly (owner u) (owner (user_asks (asking_cell u.state r) r u).0)
unfolding UserEarly
asks_early r u = user_asks_early (asking_cell u.state r) (as_asked r) r u (asking_cell_of r u.state)

pub end_same : (e : End) → KeptEarly e e
end_same e = same (stage_at e) (got_at e)

leaves_early : (ticks : Ticks) (x : Section) → KeptEarly (wire x) (timed ticks x (by_windows leaves x)).0
unfolding leaves
leaves_early ticks x = same (section_stage x.head.state) x.windows.got

acknowledges_early : (ticks : Ticks) (x : Section) → KeptEarly (wire x) (timed ticks x (by_windows acknowledges x)).0
unfolding acknowledges WindowsEarly
acknowledges_early ticks x =
    either (WindowsEarly (record { head = x.head; windows = x.windows })) (x.windows.passed == x.windows.told) _ _
    (λ _. same (section_stage x.head.state) x.windows.got) (λ _. same (section_stage x.head.state) x.windows.got)

kept : (ticks : Ticks) → IsKept ticks KeptEarly
kept ticks = record {
  same = end_same;
  in_turn = λ e f g one other. early_then (stage_at e) (stage_at f) (stage_at g) (got_at e) (got_at f) (got_at g) one other;
  hears = λ o point m x c. hears_early ticks o point m x c;
  takes = λ h e. takes_early ticks h e;
  asks = λ r u. asks_early r u;
  leaves = λ x. leaves_early ticks x;
  acknowledges = λ x. acknowledges_early ticks x;
}

-- A tick.

pub ticked_early : (e : End) → KeptEarly e (ticked e)
ticked_early (wire x) = end_same (wire x)
ticked_early (owner u) = end_same (owner u)

abbrev From : Connection → Connection × List Output → Type 0
From c r = Both KeptEarly c r.0

fires_at_early : (ticks : Ticks) (timer : Timer) → KeepsEnds KeptEarly (fires_at ticks timer)
fires_at_early ticks timer (wire x) that =
    settled (kept ticks) (wire x) that _ (section_fires_early ticks (section_cell x.head.state (firing timer)) (record x { timers = rearmed ticks timer x.timers }))
fires_at_early ticks timer (owner u) that = both_same (kept ticks) (record { this = owner u; that = that })

fires_early : (ticks : Ticks) (timer : Timer) → KeepsEnds KeptEarly (fires ticks timer)
fires_early ticks timer this that =
    either (From (record { this = this; that = that })) (is_due_at timer this) _ _
    (λ _. fires_at_early ticks timer this that) (λ _. both_same (kept ticks) (record { this = this; that = that }))

fires_in_order : (ticks : Ticks) (timers : List Timer) (c : Connection) (r : Connection × List Output) → From c r → From c (fold (fires_next ticks) r timers)
fires_in_order ticks [] c r stays = stays
fires_in_order ticks (timer ∷ timers) c r stays =
    fires_in_order ticks timers c (fires_next ticks r timer)
    (keeps_then (kept ticks) (λ d. fires ticks timer d.this d.that) (λ d. fires_early ticks timer d.this d.that) c r stays)

fires_due_early : (ticks : Ticks) → Keeps KeptEarly (fires_due ticks)
unfolding fires_due
fires_due_early ticks c = fires_in_order ticks firing_order c (c, []) (both_same (kept ticks) c)

ticks_early : (ticks : Ticks) → Keeps KeptEarly (ticks_by ticks)
ticks_early ticks c =
    let k = kept ticks in
    let lower : Connection = record { this = ticked c.this; that = ticked c.that } in
    keeps_then k (on_that (fires_due ticks)) (keeps_that KeptEarly (fires_due ticks) (fires_due_early ticks)) c (fires_due ticks lower)
    (both_in_turn k c lower (fires_due ticks lower).0 (ticked_early c.this, ticked_early c.that) (fires_due_early ticks lower))

event_early : (ticks : Ticks) (event : Event) → Keeps KeptEarly (λ c. event_step ticks c event)
event_early ticks (Arrived point sls bytes) c = heard_kept (kept ticks) point (arrival_in bytes) c
event_early ticks (Requested ssn r) c = asked_kept (kept ticks) ssn r c.this c.that
event_early ticks Tick c = ticks_early ticks c

pub step_early : (ticks : Ticks) (c : Connection) (event : Event) → Both KeptEarly c (connection_step ticks c event).0
unfolding connection_step
step_early ticks c event = after_event_kept (kept ticks) c (event_step ticks c event) (event_early ticks event c)

along_early : (ticks : Ticks) (c : Connection) (events : List Event) → Both KeptEarly c (follow ticks c events)
unfolding follow
along_early ticks c [] = both_same (kept ticks) c
along_early ticks c (event ∷ events) =
    let after = next ticks c event in both_in_turn (kept ticks) c after (follow ticks after events) (step_early ticks c event) (along_early ticks after events)

-- What is opened has got nothing.

OpensEmpty : Option Connection → Type 0
OpensEmpty None = Unit {0}
OpensEmpty (Some c) = (got_at c.this ≡ []) × (got_at c.that ≡ [])

by_cr_empty : (terms : Terms) (w : Wanted) (answer : Answer) (references : List ℕ) → OpensEmpty (opened_by_cr terms w answer references).connection
unfolding opened_by_cr OpensEmpty
by_cr_empty terms w (Refused cause local) references = tt
by_cr_empty terms w (Local ssn) [] = tt
by_cr_empty terms w (Local ssn) (mine ∷ references) = (refl, refl)
by_cr_empty terms w (Forward point rewrite hop) [] = either (λ (o : Opened). OpensEmpty o.connection) (fits w rewrite hop) _ _ (λ _. tt) (λ _. tt)
by_cr_empty terms w (Forward point rewrite hop) (mine ∷ []) = either (λ (o : Opened). OpensEmpty o.connection) (fits w rewrite hop) _ _ (λ _. tt) (λ _. tt)
by_cr_empty terms w (Forward point rewrite hop) (mine ∷ next ∷ references) =
    either (λ (o : Opened). OpensEmpty o.connection) (fits w rewrite hop) _ _ (λ _. (refl, refl)) (λ _. tt)

by_user_empty : (terms : Terms) (ssn tag : ℕ) (w : Wanted) (answer : Answer) (references : List ℕ) → OpensEmpty (opened_by_user terms ssn tag w answer references).connection
unfolding opened_by_user OpensEmpty
by_user_empty terms ssn tag w (Refused cause local) references = tt
by_user_empty terms ssn tag w (Local other) references = tt
by_user_empty terms ssn tag w (Forward point rewrite hop) [] = tt
by_user_empty terms ssn tag w (Forward point rewrite hop) (mine ∷ references) = (refl, refl)

opened_empty : (terms : Terms) (wish : Wish) (answer : Option Answer) (references : List ℕ) → OpensEmpty (opened terms wish answer references).connection
unfolding opened OpensEmpty
opened_empty terms (by_cr w) (Some answer) references = by_cr_empty terms w answer references
opened_empty terms (by_cr w) None references = tt
opened_empty terms (by_user ssn tag w) (Some answer) references = by_user_empty terms ssn tag w answer references
opened_empty terms (by_user ssn tag w) None references = tt
opened_empty terms no_wish answer references = tt

pub opening_empty : (terms : Terms) (wish : Wish) (answer : Option Answer) (references : List ℕ) (c : Connection) → (opened terms wish answer references).connection ≡ Some c
    → (got_at c.this ≡ []) × (got_at c.that ≡ [])
unfolding OpensEmpty
opening_empty terms wish answer references c e = subst OpensEmpty e (opened_empty terms wish answer references)

pub stays_empty : (e f : End) → KeptEarly e f → got_at e ≡ [] → IsEmptyEarly f
stays_empty e f k none = λ early. (k early).1 none

was_early : (e f : End) → KeptEarly e f → WasEarly e f
was_early e f k = λ early. (k early).0

is_empty : (terms : Terms) (event : Event) (answer : Option Answer) (references : List ℕ) (c : Connection) (events : List Event)
    → (opened terms (wish_of terms event) answer references).connection ≡ Some c
    → (let d = follow terms.ticks c events in IsEmptyEarly d.this × IsEmptyEarly d.that)
unfolding OpensEmpty
is_empty terms event answer references c events e =
    let d = follow terms.ticks c events in
    let none = opening_empty terms (wish_of terms event) answer references c e in
    let k = along_early terms.ticks c events in (stays_empty c.this d.this k.0 none.0, stays_empty c.that d.that k.1 none.1)

pub early_law : EarlyLaw
early_law = record {
  was_early = λ ticks c event. let d = (connection_step ticks c event).0 in let k = step_early ticks c event in (was_early c.this d.this k.0, was_early c.that d.that k.1);
  is_empty = is_empty;
}
