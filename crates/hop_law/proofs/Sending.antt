-- RSC leaves by one cell alone.
use Rattle.std.proofs.Common.{◌≢◌, ℕ, suc, ◌==◌, ◌&&◌, ◌||◌, not, nat_le, nat_lt, true, false, List, [], ◌∷◌, ◌++◌, length, fold, take, Option, Some, None, is_some, refl}
use Rattle.std.specs.List.{AllByRecursion}
use Rattle.std.proofs.lemmas.List.Folds.{list_any-append}
use Rattle.relay_base.specs.declared.causes.TheConstants.{ERROR_CLASS_MISMATCH, RESET_INCORRECT_RECEIVE_NUMBER, RESET_OUT_OF_WINDOW, RESET_REMOTE_PROCEDURE_ERROR}
use Rattle.relay_base.specs.declared.limits.TheConstants.{LONGEST_TEXT}
use Rattle.relay_base.specs.declared.words.Output.{Output}
use Rattle.relay_base.specs.declared.words.Reason.{Reason}
use Rattle.relay_base.specs.declared.words.Request.{Request}
use Rattle.relay_base.specs.declared.words.Request.TheVariants as request
use Rattle.plant_core.specs.declared.terms.Ticks.{Ticks}
use Rattle.q713_shape.specs.Writing.{octets_of}
use Rattle.q713_codec.specs.Writing.{spelling_of}
use Rattle.section_model.specs.declared.cell.Cell.{Cell}
use Rattle.section_model.specs.declared.cell.Cell.TheVariants as cell
use Rattle.section_model.specs.declared.cell.Occasion.{Occasion}
use Rattle.section_model.specs.declared.cell.Occasion.TheVariants as on
use Rattle.section_model.specs.declared.cell.SectionState.{SectionState}
use Rattle.section_model.specs.declared.cell.SectionState.TheVariants.{Asked}
use Rattle.section_model.specs.declared.cell.Timer.{Timer}
use Rattle.section_model.specs.declared.hand.Hand.{Hand}
use Rattle.section_model.specs.declared.hand.Hand.TheVariants as hand
use Rattle.section_model.specs.declared.hand.Acted.{Acted}
use Rattle.section_model.specs.Table.{section_row, section_cell}
use Rattle.section_model.specs.Parameters.{Parameters}
use Rattle.section_model.specs.Timing.{firing_order, firing, rearmed}
use Rattle.section_model.specs.Ends.{End, wire, owner, DataUnit, Line, SectionHead, Section, User, Connection, turned, is_up}
use Rattle.section_flow.specs.Windows.{is_valid, may_leave, wrong_number}
use Rattle.section_model.specs.Line.{line_hears, line_fires, line_takes}
use Rattle.section_model.specs.UserEnd.{user_takes, user_asks}
use Rattle.section_model.specs.Windowed.{Windowed, windowed_hears, windowed_fires, windowed_takes, resets, is_next, is_used_up, sends_expedited, numbered, leaves, acknowledges}
use Rattle.section_model.specs.Acting.{timed, by_windows, line_in, in_windows, section_hears, section_fires, section_takes, section_takes_by, user_takes_by, end_takes}
use Rattle.section_model.specs.Coupling.{settles}
use Rattle.section_model.specs.Step.{names_both, ends_both, names_another, is_of_other_class, checked, hears_checked, in_touch, is_from_elsewhere, hears_message, asking_cell, reason_against, asks_unless, asks, ticked, is_due_at, fires_at, fires, fires_next, fires_due, ticks_by, on_windows, after_event, asked_by}
use Rattle.connection_law.proofs.Flow.Flowing.{either}
use Rattle.hop_law.proofs.Effects.{AreTaken, exchanged}
use Rattle.hop_law.proofs.Exchanging.{both}
use Rattle.hop_law.specs.ResetAnswering.{is_rsc, SendsNoRsc}

pub rsc_joined : (one other : List Output) → SendsNoRsc one → SendsNoRsc other → SendsNoRsc (one ++ other)
rsc_joined one other p q = rw (list_any-append is_rsc one other, p, q) refl

-- An act without RSC.
ActsFree : Acted → Type 0
ActsFree done = SendsNoRsc done.outs

-- The line.

LineFree : Line × Acted → Type 0
LineFree done = ActsFree done.1

line_hears_free : (c : Cell) (point : ℕ) (m : Parameters) (x : Line) → LineFree (line_hears c point m x)
unfolding line_hears LineFree ActsFree spelling_of octets_of
line_hears_free cell.Confirm point m x = either LineFree ((m.class == 2 || m.class == 3) && nat_le m.class x.head.class) _ _ (λ _. refl) (λ _. refl)
line_hears_free cell.ErrorReceived point m x = either LineFree (m.cause == ERROR_CLASS_MISMATCH) _ _ (λ _. refl) (λ _. refl)
line_hears_free cell.TestReceived point m x = either LineFree (m.slr == x.head.other && m.class == x.head.class) _ _ (λ _. refl) (λ _. refl)
line_hears_free _ point m x = refl

line_fires_free : (c : Cell) (x : Line) → LineFree (line_fires c x)
unfolding line_fires LineFree ActsFree spelling_of octets_of
line_fires_free cell.NotAnswered x = refl
line_fires_free _ x = refl

line_takes_free : (c : Cell) (h : Hand) (x : Line) → LineFree (line_takes c h x)
unfolding line_takes LineFree ActsFree spelling_of octets_of
line_takes_free cell.PassAccept (hand.Accept class credit called body importance) x = refl
line_takes_free cell.PassAccept _ x = refl
line_takes_free cell.PassRefuse (hand.Refuse cause called body importance) x = refl
line_takes_free cell.PassRefuse _ x = refl
line_takes_free cell.PassEnd (hand.End cause body importance) x = refl
line_takes_free cell.PassEnd _ x = refl
line_takes_free cell.KeepEnd (hand.End cause body importance) x = refl
line_takes_free cell.KeepEnd _ x = refl
line_takes_free cell.PassUnit (hand.Unit more body) x = refl
line_takes_free cell.PassUnit _ x = refl
line_takes_free cell.Left (hand.Left units expedited) x = refl
line_takes_free cell.Left _ x = refl
line_takes_free _ h x = refl

-- The windows: RSC leaves where RSR comes from the other end.

WindowsFree : Windowed × Acted → Type 0
WindowsFree done = ActsFree done.1

abbrev IsPlain : Cell → Type 0
IsPlain cell.ResetByPeer = ⊥
IsPlain _ = Unit {0}

plain_cell : (o : Occasion) (s : SectionState) → o ≢ on.Rsr → IsPlain (section_cell s o)
unfolding section_row
plain_cell on.Cc Asked other = tt
plain_cell on.Cc _ other = tt
plain_cell on.Cref Asked other = tt
plain_cell on.Cref _ other = tt
plain_cell on.Rlsd Asked other = tt
plain_cell on.Rlsd _ other = tt
plain_cell on.Rlc Asked other = tt
plain_cell on.Rlc _ other = tt
plain_cell on.Dt1 Asked other = tt
plain_cell on.Dt1 _ other = tt
plain_cell on.Dt2 Asked other = tt
plain_cell on.Dt2 _ other = tt
plain_cell on.Ak Asked other = tt
plain_cell on.Ak _ other = tt
plain_cell on.Ed Asked other = tt
plain_cell on.Ed _ other = tt
plain_cell on.Ea Asked other = tt
plain_cell on.Ea _ other = tt
plain_cell on.Rsr s other = absurd (other refl)
plain_cell on.Rsc Asked other = tt
plain_cell on.Rsc _ other = tt
plain_cell on.Err Asked other = tt
plain_cell on.Err _ other = tt
plain_cell on.It Asked other = tt
plain_cell on.It _ other = tt
plain_cell on.ConnectFires Asked other = tt
plain_cell on.ConnectFires _ other = tt
plain_cell on.ResetFires Asked other = tt
plain_cell on.ResetFires _ other = tt
plain_cell on.IarFires Asked other = tt
plain_cell on.IarFires _ other = tt
plain_cell on.IasFires Asked other = tt
plain_cell on.IasFires _ other = tt
plain_cell on.RelFires Asked other = tt
plain_cell on.RelFires _ other = tt
plain_cell on.IntFires Asked other = tt
plain_cell on.IntFires _ other = tt
plain_cell on.RepeatFires Asked other = tt
plain_cell on.RepeatFires _ other = tt
plain_cell on.AcceptComes Asked other = tt
plain_cell on.AcceptComes _ other = tt
plain_cell on.RefuseComes Asked other = tt
plain_cell on.RefuseComes _ other = tt
plain_cell on.EndComes Asked other = tt
plain_cell on.EndComes _ other = tt
plain_cell on.UnitComes Asked other = tt
plain_cell on.UnitComes _ other = tt
plain_cell on.ExpeditedComes Asked other = tt
plain_cell on.ExpeditedComes _ other = tt
plain_cell on.ResetComes Asked other = tt
plain_cell on.ResetComes _ other = tt
plain_cell on.DoneComes Asked other = tt
plain_cell on.DoneComes _ other = tt

resets_free : (cause : ℕ) (x : Windowed) → WindowsFree (resets cause x)
unfolding WindowsFree ActsFree spelling_of octets_of
resets_free cause x = refl

expedites_free : (body : Option (List ℕ)) (x : Windowed) → WindowsFree (sends_expedited body x)
unfolding WindowsFree ActsFree spelling_of octets_of
expedites_free None x = refl
expedites_free (Some body) x = refl

windowed_hears_free : (c : Cell) (m : Parameters) (x : Windowed) → IsPlain c → WindowsFree (windowed_hears c m x)
unfolding windowed_hears WindowsFree ActsFree spelling_of octets_of
windowed_hears_free cell.TakeNumberedData m x plain =
    either WindowsFree (not (is_next m x)) _ _ (λ _. resets_free (wrong_number x.windows) x)
    (λ _. either WindowsFree (is_used_up x) _ _ (λ _. resets_free RESET_OUT_OF_WINDOW x)
    (λ _. either WindowsFree (not (is_valid m.pr x.windows)) _ _ (λ _. resets_free RESET_INCORRECT_RECEIVE_NUMBER x) (λ _. refl)))
windowed_hears_free cell.TakeAcknowledgement m x plain = either WindowsFree (is_valid m.pr x.windows) _ _ (λ _. refl) (λ _. resets_free RESET_INCORRECT_RECEIVE_NUMBER x)
windowed_hears_free cell.TakeExpedited m x plain = either WindowsFree x.windows.owed _ _ (λ _. resets_free RESET_REMOTE_PROCEDURE_ERROR x) (λ _. refl)
windowed_hears_free cell.TakeExpeditedAcknowledgement m x plain =
    either WindowsFree x.windows.unanswered _ _ (λ _. expedites_free x.windows.waiting (record x { windows = record x.windows { unanswered = false } })) (λ _. refl)
windowed_hears_free cell.ResetByPeer m x plain = absurd plain
windowed_hears_free _ m x plain = refl

windowed_takes_free : (c : Cell) (h : Hand) (x : Windowed) → WindowsFree (windowed_takes c h x)
unfolding windowed_takes WindowsFree ActsFree spelling_of octets_of
windowed_takes_free cell.PassUnit (hand.Unit more body) x = refl
windowed_takes_free cell.PassUnit _ x = refl
windowed_takes_free cell.PassExpedited (hand.Expedited body) x =
    either WindowsFree (is_up x.head.state && not x.windows.unanswered) _ _ (λ _. expedites_free (Some body) x) (λ _. refl)
windowed_takes_free cell.PassExpedited _ x = refl
windowed_takes_free cell.PassReset (hand.Reset cause) x = refl
windowed_takes_free cell.PassReset _ x = refl
windowed_takes_free cell.Left (hand.Left units true) x = refl
windowed_takes_free cell.Left (hand.Left units false) x = refl
windowed_takes_free cell.Left _ x = refl
windowed_takes_free _ h x = refl

-- A section.

SectionFree : Section × Acted → Type 0
SectionFree done = ActsFree done.1

section_hears_free : (ticks : Ticks) (c : Cell) (point : ℕ) (m : Parameters) (x : Section) → IsPlain c → ActsFree (section_hears ticks c point m x).1
unfolding section_hears SectionFree WindowsFree LineFree
section_hears_free ticks c point m x plain =
    either SectionFree (in_windows c x) _ _ (λ _. windowed_hears_free c m (record { head = x.head; windows = x.windows }) plain) (λ _. line_hears_free c point m (line_in x))

section_fires_free : (ticks : Ticks) (c : Cell) (x : Section) → ActsFree (section_fires ticks c x).1
unfolding section_fires windowed_fires SectionFree LineFree ActsFree spelling_of octets_of
section_fires_free ticks c x = either SectionFree (in_windows c x) _ _ (λ _. refl) (λ _. line_fires_free c (line_in x))

section_takes_free : (ticks : Ticks) (c : Cell) (h : Hand) (x : Section) → ActsFree (section_takes ticks c h x).1
unfolding section_takes SectionFree WindowsFree LineFree
section_takes_free ticks c h x =
    either SectionFree (in_windows c x) _ _ (λ _. windowed_takes_free c h (record { head = x.head; windows = x.windows })) (λ _. line_takes_free c h (line_in x))

-- A user's end.

UserFree : User × Acted → Type 0
UserFree done = ActsFree done.1

user_takes_free : (c : Cell) (h : Hand) (u : User) → UserFree (user_takes c h u)
unfolding user_takes UserFree ActsFree
user_takes_free cell.TellConfirm (hand.Accept class credit called body importance) u = refl
user_takes_free cell.TellConfirm _ u = refl
user_takes_free cell.TellDisconnect (hand.Refuse cause called body importance) u = refl
user_takes_free cell.TellDisconnect (hand.End cause body importance) u = refl
user_takes_free cell.TellDisconnect _ u = refl
user_takes_free cell.TellUnit (hand.Unit more body) u =
    either UserFree (nat_lt LONGEST_TEXT (length (u.text ++ body))) _ _ (λ _. refl) (λ _. either UserFree more _ _ (λ _. refl) (λ _. refl))
user_takes_free cell.TellUnit _ u = refl
user_takes_free cell.TellExpedited (hand.Expedited body) u = refl
user_takes_free cell.TellExpedited _ u = refl
user_takes_free cell.TellReset (hand.Reset cause) u = refl
user_takes_free cell.TellReset _ u = refl
user_takes_free cell.TellResetDone h u = refl
user_takes_free cell.Left (hand.Left units expedited) u = refl
user_takes_free cell.Left _ u = refl
user_takes_free _ h u = refl

user_asks_free : (c : Cell) (r : Request) (u : User) → UserFree (user_asks c r u)
unfolding user_asks UserFree ActsFree
user_asks_free cell.UserSends (request.Send mine body) u = refl
user_asks_free cell.UserSends _ u = refl
user_asks_free cell.UserAccepts (request.Accept mine class credit body) u = refl
user_asks_free cell.UserAccepts _ u = refl
user_asks_free cell.UserRefuses (request.Refuse mine cause body) u = refl
user_asks_free cell.UserRefuses _ u = refl
user_asks_free cell.UserExpedites (request.Expedite mine body) u = refl
user_asks_free cell.UserExpedites _ u = refl
user_asks_free cell.UserResets r u = refl
user_asks_free cell.UserDisconnects (request.Disc mine cause body) u = refl
user_asks_free cell.UserDisconnects _ u = refl
user_asks_free _ r u = refl

-- What the ends hand to each other.

AnyHand : Hand → Type 0
AnyHand h = Unit {0}

any_hands : (hands : List Hand) → AllByRecursion AnyHand hands
unfolding AnyHand
any_hands [] = tt
any_hands (h ∷ hands) = (tt, any_hands hands)

takes_free : (ticks : Ticks) (h : Hand) (e : End) → ActsFree (end_takes ticks h e).1
unfolding UserFree
takes_free ticks h (wire x) = section_takes_free ticks (section_takes_by x.head.state h) h x
takes_free ticks h (owner u) = user_takes_free (user_takes_by u.state h) h u

free_taken : (ticks : Ticks) → AreTaken ticks AnyHand SendsNoRsc (λ e f. Unit {0})
unfolding ActsFree
free_taken ticks = record {
  same = λ e. tt;
  in_turn = λ e f g one other. tt;
  none = refl;
  joined = rsc_joined;
  takes = λ h e any. (tt, takes_free ticks h e, any_hands _);
}

settled_free : (ticks : Ticks) (that : End) (acting : End × Acted) → ActsFree acting.1 → SendsNoRsc (settles ticks acting that).1
unfolding ActsFree
settled_free ticks that acting acts = (exchanged (free_taken ticks) 2 acting that acts (any_hands _)).1

-- A message.

CheckFree : Option Output → Type 0
CheckFree None = Unit {0}
CheckFree (Some out) = SendsNoRsc (out ∷ [])

check_free : (o : Occasion) (m : Parameters) (x : SectionHead) → CheckFree (checked o m x)
unfolding CheckFree spelling_of octets_of
check_free o m x =
    either CheckFree (names_both o && names_another m x) _ _ (λ _. refl)
    (λ _. either CheckFree (ends_both o && names_another m x) _ _ (λ _. refl) (λ _. either CheckFree (is_of_other_class o x) _ _ (λ _. refl) (λ _. tt)))

pub message_free : (ticks : Ticks) (o : Occasion) (point : ℕ) (m : Parameters) (x : Section) (that : End) → o ≢ on.Rsr → SendsNoRsc (hears_message ticks o point m x that).1
unfolding hears_message CheckFree ActsFree
message_free ticks o point m x that other =
    either (λ (r : Connection × List Output). SendsNoRsc r.1) (is_from_elsewhere point x.head) _ _ (λ _. refl) (λ _. by_check (checked o m x.head) (check_free o m x.head))
  where
    by_check : (c : Option Output) → CheckFree c → SendsNoRsc (settles ticks (hears_checked ticks o point m (in_touch ticks x) c) that).1
    by_check (Some out) free = settled_free ticks that _ free
    by_check None free = settled_free ticks that _ (section_hears_free ticks (section_cell x.head.state o) point m (in_touch ticks x) (plain_cell o x.head.state other))

-- A request.

asks_free : (ticks : Ticks) (ssn : ℕ) (r : Request) (this that : End) → SendsNoRsc (asks ticks ssn r this that).1
unfolding asks UserFree
asks_free ticks ssn r (owner u) (wire x) =
    either (λ (s : Connection × List Output). SendsNoRsc s.1) (u.ssn == ssn) _ _ (λ _. unless (reason_against r u x)) (λ _. refl)
  where
    unless : (why : Option Reason) → SendsNoRsc (asks_unless why ticks r u x).1
    unless (Some why) = refl
    unless None = settled_free ticks (wire x) _ (user_asks_free (asking_cell u.state r) r u)
asks_free ticks ssn r (owner u) (owner v) = refl
asks_free ticks ssn r (wire x) that = refl

pub asked_free : (ticks : Ticks) (ssn : ℕ) (r : Request) (this that : End) → SendsNoRsc (asked_by ticks ssn r (both this that)).1
asked_free ticks ssn r (owner u) that = asks_free ticks ssn r (owner u) that
asked_free ticks ssn r (wire x) that = asks_free ticks ssn r that (wire x)

-- A tick.

fires_free : (ticks : Ticks) (timer : Timer) (this that : End) → SendsNoRsc (fires ticks timer this that).1
fires_free ticks timer this that =
    either (λ (r : Connection × List Output). SendsNoRsc r.1) (is_due_at timer this) _ _ (λ _. by_end this) (λ _. refl)
  where
    by_end : (e : End) → SendsNoRsc (fires_at ticks timer e that).1
    by_end (owner u) = refl
    by_end (wire x) = settled_free ticks that _ (section_fires_free ticks (section_cell x.head.state (firing timer)) (record x { timers = rearmed ticks timer x.timers }))

fire_in_order : (ticks : Ticks) (timers : List Timer) (r : Connection × List Output) → SendsNoRsc r.1 → SendsNoRsc (fold (fires_next ticks) r timers).1
fire_in_order ticks [] r free = free
fire_in_order ticks (timer ∷ timers) r free = fire_in_order ticks timers (fires_next ticks r timer) (rsc_joined r.1 _ free (fires_free ticks timer r.0.this r.0.that))

due_free : (ticks : Ticks) (c : Connection) → SendsNoRsc (fires_due ticks c).1
unfolding fires_due
due_free ticks c = fire_in_order ticks firing_order (c, []) refl

pub ticks_free : (ticks : Ticks) (c : Connection) → SendsNoRsc (ticks_by ticks c).1
ticks_free ticks c =
    let one = fires_due ticks (both (ticked c.this) (ticked c.that)) in
    rsc_joined one.1 (fires_due ticks (turned one.0)).1 (due_free ticks (both (ticked c.this) (ticked c.that))) (due_free ticks (turned one.0))

-- What follows an event.

numbered_free : (x : SectionHead) (ps pr : ℕ) (units : List DataUnit) → SendsNoRsc (numbered x ps pr units)
unfolding spelling_of octets_of
numbered_free x ps pr [] = refl
numbered_free x ps pr (u ∷ units) = numbered_free x (suc ps) pr units

leaves_free : (x : Windowed) → ActsFree (leaves x).1
unfolding leaves ActsFree spelling_of octets_of
leaves_free x =
    let w = x.windows in
    rsc_joined (numbered x.head w.sent w.passed (take (may_leave w) w.waits)) _ (numbered_free x.head w.sent w.passed (take (may_leave w) w.waits))
    (either SendsNoRsc (is_some w.waiting && not w.unanswered) _ _ (λ _. refl) (λ _. refl))

acknowledges_free : (x : Windowed) → ActsFree (acknowledges x).1
unfolding acknowledges WindowsFree ActsFree spelling_of octets_of
acknowledges_free x = either WindowsFree (x.windows.passed == x.windows.told) _ _ (λ _. refl) (λ _. refl)

windows_free : (act : Windowed → Windowed × Acted) → ((x : Windowed) → ActsFree (act x).1) → (ticks : Ticks) (this that : End) → SendsNoRsc (on_windows ticks act this that).1
windows_free act free ticks (wire x) that =
    either (λ (r : Connection × List Output). SendsNoRsc r.1) (is_up x.head.state && x.head.class == 3) _ _
    (λ _. settled_free ticks that (timed ticks x (by_windows act x)) (free (record { head = x.head; windows = x.windows }))) (λ _. refl)
windows_free act free ticks (owner u) that = refl

pub after_free : (ticks : Ticks) (r : Connection × List Output) → SendsNoRsc r.1 → SendsNoRsc (after_event ticks r).1
unfolding after_event
after_free ticks r free =
    let one = on_windows ticks leaves r.0.this r.0.that in
    let two = on_windows ticks leaves one.0.that one.0.this in
    let three = on_windows ticks acknowledges two.0.that two.0.this in
    let four = on_windows ticks acknowledges three.0.that three.0.this in
    in_turn r.1 one.1 two.1 three.1 four.1 free (windows_free leaves leaves_free ticks r.0.this r.0.that) (windows_free leaves leaves_free ticks one.0.that one.0.this)
    (windows_free acknowledges acknowledges_free ticks two.0.that two.0.this) (windows_free acknowledges acknowledges_free ticks three.0.that three.0.this)
  where
    in_turn : (a b c d e : List Output) → SendsNoRsc a → SendsNoRsc b → SendsNoRsc c → SendsNoRsc d → SendsNoRsc e → SendsNoRsc ((((a ++ b) ++ c) ++ d) ++ e)
    in_turn a b c d e p q r s t =
        rsc_joined (((a ++ b) ++ c) ++ d) e (rsc_joined ((a ++ b) ++ c) d (rsc_joined (a ++ b) c (rsc_joined a b p q) r) s) t
