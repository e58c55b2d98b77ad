-- The class stays 2 or 3.
use Rattle.std.proofs.Common.{◌≡◌, inl, inr, ℕ, ◌==◌, ◌&&◌, ◌||◌, not, nat_le, nat_lt, Bool, true, false, List, [], ◌∷◌, ◌++◌, length, map, fold, Option, Some, None, refl}
use Rattle.std.specs.List.{AllByRecursion}
use Rattle.std.proofs.lemmas.Bool.{false≢true, eqb-true}
use Rattle.relay_base.specs.declared.causes.TheConstants.{ERROR_CLASS_MISMATCH, RESET_INCORRECT_RECEIVE_NUMBER, RESET_OUT_OF_WINDOW, RESET_REMOTE_PROCEDURE_ERROR}
use Rattle.relay_base.specs.declared.limits.TheConstants.{LONGEST_TEXT}
use Rattle.relay_base.specs.declared.words.Event.{Event}
use Rattle.relay_base.specs.declared.words.Event.TheVariants.{Message as Arrived, Asked as Requested, Tick}
use Rattle.relay_base.specs.declared.words.Output.{Output}
use Rattle.relay_base.specs.declared.words.Reason.{Reason}
use Rattle.relay_base.specs.declared.words.Request.{Request}
use Rattle.relay_base.specs.declared.words.Request.TheVariants as request
use Rattle.plant_core.specs.declared.terms.Ticks.{Ticks}
use Rattle.section_model.specs.declared.cell.Cell.{Cell}
use Rattle.section_model.specs.declared.cell.Cell.TheVariants as cell
use Rattle.section_model.specs.declared.cell.Occasion.{Occasion}
use Rattle.section_model.specs.declared.cell.Timer.{Timer}
use Rattle.section_model.specs.declared.hand.Hand.{Hand}
use Rattle.section_model.specs.declared.hand.Hand.TheVariants as hand
use Rattle.section_model.specs.declared.hand.Acted.{Acted}
use Rattle.section_model.specs.Table.{section_cell}
use Rattle.section_model.specs.Parameters.{Parameters, Arrival, arrival_in}
use Rattle.section_model.specs.Timing.{firing_order, firing, rearmed}
use Rattle.section_model.specs.Ends.{End, wire, owner, DataUnit, Line, Section, User, Connection, turned, is_up}
use Rattle.section_flow.specs.Windows.{is_valid, wrong_number}
use Rattle.section_model.specs.Line.{line_hears, line_fires, line_takes}
use Rattle.section_model.specs.Windowed.{Windowed, windowed_hears, windowed_fires, windowed_takes, resets, is_next, is_used_up, sends_expedited}
use Rattle.section_model.specs.UserEnd.{user_takes, user_asks, units_of, handed}
use Rattle.section_model.specs.Acting.{line_in, in_windows, section_hears, section_fires, section_takes, section_takes_by, user_takes_by, end_takes}
use Rattle.section_model.specs.Coupling.{settles}
use Rattle.section_model.specs.Laws.{hands_of}
use Rattle.section_model.specs.Step.{checked, hears_checked, in_touch, is_from_elsewhere, hears_message, is_in_range, asking_cell, reason_against, asks_unless, asks, ticked, is_due_at, fires_at, fires, fires_next, fires_due, ticks_by, is_named, at_this, heard_by, asked_by, event_step, hears, connection_step}
use Rattle.connection_law.specs.InStep.{class_at}
use Rattle.connection_law.proofs.Flow.Flowing.{either}
use Rattle.connection_law.proofs.Message.Sent.{after_leaving}
use Rattle.connection_law.proofs.Reference.Ends.{Both}
use Rattle.hop_law.specs.ClassLaw.{IsOfAClass, ClassesStay}
use Rattle.hop_law.proofs.Effects.{AreTaken, exchanged}
use Rattle.hop_law.proofs.Exchanging.{both}
use Rattle.hop_law.proofs.Passing.{first_true}

-- an end later on
abbrev Later : End → End → Type 0
Later e f = IsOfAClass (class_at e) → IsOfAClass (class_at f)

later_same : (e : End) → Later e e
later_same e = λ k. k

both_same : (c : Connection) → Both Later c c
both_same c = (λ k. k, λ k. k)

both_then : (c d e : Connection) → Both Later c d → Both Later d e → Both Later c e
both_then c d e one other = (λ k. other.0 (one.0 k), λ k. other.1 (one.1 k))

-- the effects on the other end by which it is set up in a class
abbrev HandFits : Hand → Type 0
HandFits (hand.Accept class credit called body importance) = IsOfAClass class
HandFits _ = Unit {0}

abbrev HandsFit : List Hand → Type 0
HandsFit hands = AllByRecursion HandFits hands

abbrev Acts : End → End × Acted → Type 0
Acts e done = Later e done.0 × HandsFit (hands_of done.1)

is_class : (class : ℕ) → (class == 2 || class == 3) ≡ true → IsOfAClass class
is_class class is = by_test (class == 2) (class == 3) refl refl is
  where
    by_test : (a b : Bool) → (class == 2) ≡ a → (class == 3) ≡ b → (a || b) ≡ true → IsOfAClass class
    by_test true b two three is = inl (eqb-true class 2 two)
    by_test false true two three is = inr (eqb-true class 3 three)
    by_test false false two three is = absurd (false≢true is)

-- The line.

LineActs : Line → Line × Acted → Type 0
LineActs x done = (IsOfAClass x.head.class → IsOfAClass done.0.head.class) × HandsFit (hands_of done.1)

line_hears_class : (c : Cell) (point : ℕ) (m : Parameters) (x : Line) → LineActs x (line_hears c point m x)
unfolding line_hears LineActs
line_hears_class cell.Confirm point m x =
    either (LineActs x) ((m.class == 2 || m.class == 3) && nat_le m.class x.head.class) _ _
    (λ is. let class = is_class m.class (first_true (m.class == 2 || m.class == 3) _ is) in (λ k. class, (class, tt))) (λ _. (λ k. k, (tt, tt)))
line_hears_class cell.Refused point m x = (λ k. k, (tt, tt))
line_hears_class cell.Released point m x = (λ k. k, (tt, tt))
line_hears_class cell.TakeData point m x = (λ k. k, (tt, tt))
line_hears_class cell.ErrorReceived point m x = either (LineActs x) (m.cause == ERROR_CLASS_MISMATCH) _ _ (λ _. (λ k. k, (tt, tt))) (λ _. (λ k. k, (tt, tt)))
line_hears_class cell.TestReceived point m x = either (LineActs x) (m.slr == x.head.other && m.class == x.head.class) _ _ (λ _. (λ k. k, tt)) (λ _. (λ k. k, (tt, tt)))
line_hears_class _ point m x = (λ k. k, tt)

line_fires_class : (c : Cell) (x : Line) → LineActs x (line_fires c x)
unfolding line_fires LineActs
line_fires_class cell.NotAnswered x = (λ k. k, (tt, tt))
line_fires_class cell.ResetExpired x = (λ k. k, (tt, tt))
line_fires_class cell.PeerSilent x = (λ k. k, (tt, tt))
line_fires_class _ x = (λ k. k, tt)

line_takes_class : (c : Cell) (h : Hand) (x : Line) → HandFits h → LineActs x (line_takes c h x)
unfolding line_takes LineActs
line_takes_class cell.PassAccept (hand.Accept class credit called body importance) x fits = (λ k. fits, tt)
line_takes_class cell.PassAccept _ x fits = (λ k. k, tt)
line_takes_class cell.PassRefuse (hand.Refuse cause called body importance) x fits = (λ k. k, tt)
line_takes_class cell.PassRefuse _ x fits = (λ k. k, tt)
line_takes_class cell.PassEnd (hand.End cause body importance) x fits = (λ k. k, tt)
line_takes_class cell.PassEnd _ x fits = (λ k. k, tt)
line_takes_class cell.KeepEnd (hand.End cause body importance) x fits = (λ k. k, tt)
line_takes_class cell.KeepEnd _ x fits = (λ k. k, tt)
line_takes_class cell.PassUnit (hand.Unit more body) x fits = (λ k. k, (tt, tt))
line_takes_class cell.PassUnit _ x fits = (λ k. k, tt)
line_takes_class cell.Left (hand.Left units expedited) x fits = (λ k. k, tt)
line_takes_class cell.Left _ x fits = (λ k. k, tt)
line_takes_class _ h x fits = (λ k. k, tt)

-- The windows.

WindowsAct : Windowed → Windowed × Acted → Type 0
WindowsAct x done = (IsOfAClass x.head.class → IsOfAClass done.0.head.class) × HandsFit (hands_of done.1)

resets_class : (cause : ℕ) (x : Windowed) → WindowsAct x (resets cause x)
unfolding WindowsAct
resets_class cause x = (λ k. k, (tt, tt))

expedites_class : (body : Option (List ℕ)) (x : Windowed) → WindowsAct x (sends_expedited body x)
unfolding WindowsAct
expedites_class None x = (λ k. k, tt)
expedites_class (Some body) x = (λ k. k, (tt, tt))

windowed_hears_class : (c : Cell) (m : Parameters) (x : Windowed) → WindowsAct x (windowed_hears c m x)
unfolding windowed_hears WindowsAct
windowed_hears_class cell.TakeNumberedData m x =
    either (WindowsAct x) (not (is_next m x)) _ _ (λ _. resets_class (wrong_number x.windows) x)
    (λ _. either (WindowsAct x) (is_used_up x) _ _ (λ _. resets_class RESET_OUT_OF_WINDOW x)
    (λ _. either (WindowsAct x) (not (is_valid m.pr x.windows)) _ _ (λ _. resets_class RESET_INCORRECT_RECEIVE_NUMBER x) (λ _. (λ k. k, (tt, tt)))))
windowed_hears_class cell.TakeAcknowledgement m x = either (WindowsAct x) (is_valid m.pr x.windows) _ _ (λ _. (λ k. k, tt)) (λ _. resets_class RESET_INCORRECT_RECEIVE_NUMBER x)
windowed_hears_class cell.TakeExpedited m x = either (WindowsAct x) x.windows.owed _ _ (λ _. resets_class RESET_REMOTE_PROCEDURE_ERROR x) (λ _. (λ k. k, (tt, tt)))
windowed_hears_class cell.TakeExpeditedAcknowledgement m x =
    either (WindowsAct x) x.windows.unanswered _ _ (λ _. expedites_class x.windows.waiting (record x { windows = record x.windows { unanswered = false } })) (λ _. (λ k. k, tt))
windowed_hears_class cell.ResetByPeer m x = (λ k. k, (tt, tt))
windowed_hears_class cell.ResetComplete m x = (λ k. k, (tt, tt))
windowed_hears_class _ m x = (λ k. k, tt)

windowed_takes_class : (c : Cell) (h : Hand) (x : Windowed) → WindowsAct x (windowed_takes c h x)
unfolding windowed_takes WindowsAct
windowed_takes_class cell.PassUnit (hand.Unit more body) x = (λ k. k, tt)
windowed_takes_class cell.PassUnit _ x = (λ k. k, tt)
windowed_takes_class cell.PassExpedited (hand.Expedited body) x =
    either (WindowsAct x) (is_up x.head.state && not x.windows.unanswered) _ _ (λ _. expedites_class (Some body) x) (λ _. (λ k. k, tt))
windowed_takes_class cell.PassExpedited _ x = (λ k. k, tt)
windowed_takes_class cell.PassReset (hand.Reset cause) x = (λ k. k, tt)
windowed_takes_class cell.PassReset _ x = (λ k. k, tt)
windowed_takes_class cell.ClearCounts h x = (λ k. k, tt)
windowed_takes_class cell.Left (hand.Left units true) x = (λ k. k, tt)
windowed_takes_class cell.Left (hand.Left units false) x = (λ k. k, tt)
windowed_takes_class cell.Left _ x = (λ k. k, tt)
windowed_takes_class _ h x = (λ k. k, tt)

-- A section.

SectionActs : Section → Section × Acted → Type 0
SectionActs x done = (IsOfAClass x.head.class → IsOfAClass done.0.head.class) × HandsFit (hands_of done.1)

section_hears_class : (ticks : Ticks) (c : Cell) (point : ℕ) (m : Parameters) (x : Section) → Acts (wire x) (section_hears ticks c point m x)
unfolding section_hears SectionActs WindowsAct LineActs
section_hears_class ticks c point m x =
    either (SectionActs x) (in_windows c x) _ _ (λ _. windowed_hears_class c m (record { head = x.head; windows = x.windows })) (λ _. line_hears_class c point m (line_in x))

section_fires_class : (ticks : Ticks) (c : Cell) (x : Section) → Acts (wire x) (section_fires ticks c x)
unfolding section_fires windowed_fires SectionActs LineActs
section_fires_class ticks c x = either (SectionActs x) (in_windows c x) _ _ (λ _. (λ k. k, tt)) (λ _. line_fires_class c (line_in x))

section_takes_class : (ticks : Ticks) (c : Cell) (h : Hand) (x : Section) → HandFits h → Acts (wire x) (section_takes ticks c h x)
unfolding section_takes SectionActs WindowsAct LineActs
section_takes_class ticks c h x fits =
    either (SectionActs x) (in_windows c x) _ _ (λ _. windowed_takes_class c h (record { head = x.head; windows = x.windows })) (λ _. line_takes_class c h (line_in x) fits)

-- A user's end.

UserActs : User → User × Acted → Type 0
UserActs u done = (IsOfAClass u.class → IsOfAClass done.0.class) × HandsFit (hands_of done.1)

user_takes_class : (c : Cell) (h : Hand) (u : User) → HandFits h → UserActs u (user_takes c h u)
unfolding user_takes UserActs
user_takes_class cell.TellConfirm (hand.Accept class credit called body importance) u fits = (λ k. fits, tt)
user_takes_class cell.TellConfirm _ u fits = (λ k. k, tt)
user_takes_class cell.TellDisconnect (hand.Refuse cause called body importance) u fits = (λ k. k, tt)
user_takes_class cell.TellDisconnect (hand.End cause body importance) u fits = (λ k. k, tt)
user_takes_class cell.TellDisconnect _ u fits = (λ k. k, tt)
user_takes_class cell.TellUnit (hand.Unit more body) u fits =
    either (UserActs u) (nat_lt LONGEST_TEXT (length (u.text ++ body))) _ _ (λ _. (λ k. k, (tt, tt)))
    (λ _. either (UserActs u) more _ _ (λ _. (λ k. k, (tt, tt))) (λ _. (λ k. k, (tt, tt))))
user_takes_class cell.TellUnit _ u fits = (λ k. k, tt)
user_takes_class cell.TellExpedited (hand.Expedited body) u fits = (λ k. k, (tt, tt))
user_takes_class cell.TellExpedited _ u fits = (λ k. k, tt)
user_takes_class cell.TellReset (hand.Reset cause) u fits = (λ k. k, tt)
user_takes_class cell.TellReset _ u fits = (λ k. k, tt)
user_takes_class cell.TellResetDone h u fits = (λ k. k, tt)
user_takes_class cell.Left (hand.Left units expedited) u fits = (λ k. k, tt)
user_takes_class cell.Left _ u fits = (λ k. k, tt)
user_takes_class _ h u fits = (λ k. k, tt)

units_fit : (units : List DataUnit) → HandsFit (map handed units)
units_fit [] = tt
units_fit (u ∷ units) = (tt, units_fit units)

user_asks_class : (c : Cell) (r : Request) (u : User) → is_in_range r ≡ true → UserActs u (user_asks c r u)
unfolding user_asks UserActs
user_asks_class cell.UserSends (request.Send mine body) u range = (λ k. k, units_fit (units_of body))
user_asks_class cell.UserSends _ u range = (λ k. k, tt)
user_asks_class cell.UserAccepts (request.Accept mine class credit body) u range =
    let fits = is_class class (first_true (class == 2 || class == 3) _ (first_true _ _ range)) in (λ k. fits, (fits, tt))
user_asks_class cell.UserAccepts _ u range = (λ k. k, tt)
user_asks_class cell.UserRefuses (request.Refuse mine cause body) u range = (λ k. k, (tt, tt))
user_asks_class cell.UserRefuses _ u range = (λ k. k, tt)
user_asks_class cell.UserExpedites (request.Expedite mine body) u range = (λ k. k, (tt, tt))
user_asks_class cell.UserExpedites _ u range = (λ k. k, tt)
user_asks_class cell.UserResets r u range = (λ k. k, (tt, tt))
user_asks_class cell.UserDisconnects (request.Disc mine cause body) u range = (λ k. k, (tt, tt))
user_asks_class cell.UserDisconnects _ u range = (λ k. k, tt)
user_asks_class _ r u range = (λ k. k, tt)

-- What the ends hand to each other.

takes_class : (ticks : Ticks) (h : Hand) (e : End) → HandFits h → Acts e (end_takes ticks h e)
unfolding UserActs
takes_class ticks h (wire x) fits = section_takes_class ticks (section_takes_by x.head.state h) h x fits
takes_class ticks h (owner u) fits = user_takes_class (user_takes_by u.state h) h u fits

class_taken : (ticks : Ticks) → AreTaken ticks HandFits (λ outs. Unit {0}) Later
class_taken ticks = record {
  same = later_same;
  in_turn = λ e f g one other. λ k. other (one k);
  none = tt;
  joined = λ one other p q. tt;
  takes = λ h e fits. let t = takes_class ticks h e fits in (t.0, tt, t.1);
}

settled_class : (ticks : Ticks) (this that : End) (acting : End × Acted) → Acts this acting → Both Later (both this that) (settles ticks acting that).0
settled_class ticks this that acting acts =
    let after = (exchanged (class_taken ticks) 2 acting that tt acts.1).0 in (λ k. after.0 (acts.0 k), after.1)

-- The event.

checked_class : (ticks : Ticks) (o : Occasion) (point : ℕ) (m : Parameters) (x : Section) (c : Option Output) → Acts (wire x) (hears_checked ticks o point m (in_touch ticks x) c)
checked_class ticks o point m x (Some out) = (λ k. k, tt)
checked_class ticks o point m x None = section_hears_class ticks (section_cell x.head.state o) point m (in_touch ticks x)

abbrev From : Connection → Connection × List Output → Type 0
From c r = Both Later c r.0

hears_class : (ticks : Ticks) (o : Occasion) (point : ℕ) (m : Parameters) (x : Section) (that : End) → From (both (wire x) that) (hears_message ticks o point m x that)
unfolding hears_message
hears_class ticks o point m x that =
    either (From (both (wire x) that)) (is_from_elsewhere point x.head) _ _ (λ _. both_same (both (wire x) that))
    (λ _. settled_class ticks (wire x) that _ (checked_class ticks o point m x (checked o m x.head)))

at_this_class : (part : Section → End → Connection × List Output) → ((x : Section) (that : End) → From (both (wire x) that) (part x that)) → (this that : End)
    → From (both this that) (at_this part (both this that))
at_this_class part keeps (wire x) that = keeps x that
at_this_class part keeps (owner u) that = both_same (both (owner u) that)

heard_class : (ticks : Ticks) (point : ℕ) (a : Option Arrival) (c : Connection) → From c (heard_by ticks point a c)
heard_class ticks point None c = both_same c
heard_class ticks point (Some a) c =
    let part = hears_message ticks a.occasion point a.parameters in
    let keeps = hears_class ticks a.occasion point a.parameters in
    either (From c) (is_named a.parameters.dlr c.this) _ _ (λ _. at_this_class part keeps c.this c.that) (λ _. let back = at_this_class part keeps c.that c.this in (back.1, back.0))

asks_unless_class : (why : Option Reason) (ticks : Ticks) (r : Request) (u : User) (x : Section) → is_in_range r ≡ true → From (both (owner u) (wire x)) (asks_unless why ticks r u x)
unfolding UserActs
asks_unless_class (Some why) ticks r u x range = both_same (both (owner u) (wire x))
asks_unless_class None ticks r u x range = settled_class ticks (owner u) (wire x) _ (user_asks_class (asking_cell u.state r) r u range)

asks_class : (ticks : Ticks) (ssn : ℕ) (r : Request) (this that : End) → is_in_range r ≡ true → From (both this that) (asks ticks ssn r this that)
unfolding asks
asks_class ticks ssn r (owner u) (wire x) range =
    either (From (both (owner u) (wire x))) (u.ssn == ssn) _ _
    (λ _. asks_unless_class (reason_against r u x) ticks r u x range) (λ _. both_same (both (owner u) (wire x)))
asks_class ticks ssn r (owner u) (owner v) range = both_same (both (owner u) (owner v))
asks_class ticks ssn r (wire x) that range = both_same (both (wire x) that)

asked_class : (ticks : Ticks) (ssn : ℕ) (r : Request) (this that : End) → is_in_range r ≡ true → From (both this that) (asked_by ticks ssn r (both this that))
asked_class ticks ssn r (owner u) that range = asks_class ticks ssn r (owner u) that range
asked_class ticks ssn r (wire x) that range = let back = asks_class ticks ssn r that (wire x) range in (back.1, back.0)

fires_class : (ticks : Ticks) (timer : Timer) (this that : End) → From (both this that) (fires ticks timer this that)
fires_class ticks timer this that = either (From (both this that)) (is_due_at timer this) _ _ (λ _. fires_here this) (λ _. both_same (both this that))
  where
    fires_here : (this : End) → From (both this that) (fires_at ticks timer this that)
    fires_here (wire x) = settled_class ticks (wire x) that _ (section_fires_class ticks (section_cell x.head.state (firing timer)) (record x { timers = rearmed ticks timer x.timers }))
    fires_here (owner u) = both_same (both (owner u) that)

in_order_class : (ticks : Ticks) (timers : List Timer) (r : Connection × List Output) → From r.0 (fold (fires_next ticks) r timers)
in_order_class ticks [] r = both_same r.0
in_order_class ticks (timer ∷ timers) r =
    let one = fires_next ticks r timer in
    both_then r.0 one.0 (fold (fires_next ticks) one timers).0 (fires_class ticks timer r.0.this r.0.that) (in_order_class ticks timers one)

due_class : (ticks : Ticks) (c : Connection) → From c (fires_due ticks c)
unfolding fires_due
due_class ticks c = in_order_class ticks firing_order (c, [])

ticked_class : (e : End) → Later e (ticked e)
ticked_class (wire x) = λ k. k
ticked_class (owner u) = λ k. k

ticks_class : (ticks : Ticks) (c : Connection) → From c (ticks_by ticks c)
ticks_class ticks c =
    let lower = both (ticked c.this) (ticked c.that) in
    let one = fires_due ticks lower in
    let other = fires_due ticks (turned one.0) in
    let back = due_class ticks (turned one.0) in
    both_then c one.0 (turned other.0) (both_then c lower one.0 (ticked_class c.this, ticked_class c.that) (due_class ticks lower)) (back.1, back.0)

event_class : (ticks : Ticks) (c : Connection) (event : Event) → hears c event ≡ true → From c (event_step ticks c event)
unfolding hears
event_class ticks c (Arrived point sls bytes) h = heard_class ticks point (arrival_in bytes) c
event_class ticks c (Requested ssn r) h = asked_class ticks ssn r c.this c.that (first_true (is_in_range r) _ h)
event_class ticks c Tick h = ticks_class ticks c

pub classes_stay : ClassesStay
unfolding connection_step
classes_stay ticks c event h class =
    let r = event_step ticks c event in rw (after_leaving ticks r).0.class ((event_class ticks c event h).0 class)
