-- CC leaves on a section alone that was asked for the connection.
use Rattle.std.proofs.Common.{◌≡◌, ◌≢◌, ℕ, suc, ◌==◌, ◌&&◌, ◌||◌, not, nat_le, nat_lt, if◌then◌else◌, Bool, true, false, List, [], ◌∷◌, ◌++◌, length, map, filter, fold, take, Option, Some, None, is_some, refl}
use Rattle.std.specs.List.{AllByRecursion}
use Rattle.std.proofs.lemmas.List.Elements.{filter-append}
use Rattle.relay_base.specs.declared.causes.TheConstants.{ERROR_CLASS_MISMATCH, RESET_INCORRECT_RECEIVE_NUMBER, RESET_OUT_OF_WINDOW, RESET_REMOTE_PROCEDURE_ERROR}
use Rattle.relay_base.specs.declared.limits.TheConstants.{LONGEST_TEXT}
use Rattle.relay_base.specs.declared.words.Event.{Event}
use Rattle.relay_base.specs.declared.words.Event.TheVariants.{Message as Arrived, Asked as Requested, Tick}
use Rattle.relay_base.specs.declared.words.Output.{Output}
use Rattle.relay_base.specs.declared.words.Output.TheVariants.{Sent, Told, Lost}
use Rattle.relay_base.specs.declared.words.Reason.{Reason}
use Rattle.relay_base.specs.declared.words.Request.{Request}
use Rattle.relay_base.specs.declared.words.Request.TheVariants as request
use Rattle.plant_core.specs.declared.terms.Ticks.{Ticks}
use Rattle.q713_shape.specs.Writing.{octets_of}
use Rattle.q713_codec.specs.Writing.{spelling_of}
use Rattle.section_model.specs.declared.cell.Cell.{Cell}
use Rattle.section_model.specs.declared.cell.Cell.TheVariants as cell
use Rattle.section_model.specs.declared.cell.Occasion.{Occasion}
use Rattle.section_model.specs.declared.cell.Occasion.TheVariants as on
use Rattle.section_model.specs.declared.cell.SectionState.{SectionState}
use Rattle.section_model.specs.declared.cell.SectionState.TheVariants.{Asked}
use Rattle.section_model.specs.declared.cell.UserState.{UserState}
use Rattle.section_model.specs.declared.cell.UserState.TheVariants as user
use Rattle.section_model.specs.declared.cell.Timer.{Timer}
use Rattle.section_model.specs.declared.hand.Hand.{Hand}
use Rattle.section_model.specs.declared.hand.Hand.TheVariants as hand
use Rattle.section_model.specs.declared.hand.Acted.{Acted}
use Rattle.section_model.specs.Table.{section_row, user_row, section_cell}
use Rattle.section_model.specs.Parameters.{Parameters, Arrival, arrival_in}
use Rattle.section_model.specs.Timing.{firing_order, firing, rearmed}
use Rattle.section_model.specs.Ends.{End, wire, owner, DataUnit, Line, SectionHead, Section, User, Connection, turned, gives_then, is_up}
use Rattle.section_flow.specs.Windows.{is_valid, may_leave, wrong_number}
use Rattle.section_model.specs.Line.{line_hears, line_fires, line_takes}
use Rattle.section_model.specs.UserEnd.{user_takes, user_asks, units_of, handed}
use Rattle.section_model.specs.Windowed.{Windowed, windowed_hears, windowed_fires, windowed_takes, resets, is_next, is_used_up, sends_expedited, numbered, leaves, acknowledges}
use Rattle.section_model.specs.Acting.{timed, by_line, by_windows, line_in, in_windows, section_hears, section_fires, section_takes, section_takes_by, user_takes_by, end_takes}
use Rattle.section_model.specs.Coupling.{exchange, settles}
use Rattle.section_model.specs.Laws.{hands_of}
use Rattle.section_model.specs.Step.{names_both, ends_both, names_another, is_of_other_class, checked, hears_checked, in_touch, is_from_elsewhere, hears_message, asking_cell, reason_against, asks_unless, asks, ticked, is_due_at, fires_at, fires, fires_next, fires_due, ticks_by, on_windows, after_event, is_named, at_this, heard_by, asked_by, event_step, connection_step}
use Rattle.connection_law.specs.Messages.{begins_with, is_of_type}
use Rattle.connection_law.proofs.Flow.Flowing.{either}
use Rattle.hop_law.proofs.Effects.{AreTaken, exchanged}
use Rattle.hop_law.proofs.Exchanging.{both}
use Rattle.hop_law.proofs.Lists.{all_joined}

-- Outputs without CC, and effects on the other end but the one by which it sends CC.

IsFree : List Output → Type 0
IsFree outs = filter (is_of_type 2) outs ≡ []

free_joined : (one other : List Output) → IsFree one → IsFree other → IsFree (one ++ other)
unfolding IsFree
free_joined one other p q = rw (filter-append (is_of_type 2) one other, p, q) refl

none_free : IsFree []
unfolding IsFree
none_free = refl

abbrev IsNoAccept : Hand → Type 0
IsNoAccept (hand.Accept class credit called body importance) = ⊥
IsNoAccept _ = Unit {0}

AreNoAccept : List Hand → Type 0
AreNoAccept hands = AllByRecursion IsNoAccept hands

ActsFree : Acted → Type 0
ActsFree done = IsFree done.outs × AreNoAccept (hands_of done)

-- The line.

LineFree : Line × Acted → Type 0
LineFree done = ActsFree done.1

abbrev IsNoConfirming : Cell → Type 0
IsNoConfirming cell.Confirm = ⊥
IsNoConfirming _ = Unit {0}

line_hears_free : (c : Cell) (point : ℕ) (m : Parameters) (x : Line) → IsNoConfirming c → LineFree (line_hears c point m x)
unfolding line_hears LineFree ActsFree IsFree AreNoAccept spelling_of octets_of
line_hears_free cell.Confirm point m x n = absurd n
line_hears_free cell.Refused point m x n = (refl, (tt, tt))
line_hears_free cell.Released point m x n = (refl, (tt, tt))
line_hears_free cell.TakeData point m x n = (refl, (tt, tt))
line_hears_free cell.ErrorReceived point m x n = either LineFree (m.cause == ERROR_CLASS_MISMATCH) _ _ (λ _. (refl, (tt, tt))) (λ _. (refl, (tt, tt)))
line_hears_free cell.TestReceived point m x n = either LineFree (m.slr == x.head.other && m.class == x.head.class) _ _ (λ _. (refl, tt)) (λ _. (refl, (tt, tt)))
line_hears_free _ point m x n = (refl, tt)

line_fires_free : (c : Cell) (x : Line) → LineFree (line_fires c x)
unfolding line_fires LineFree ActsFree IsFree AreNoAccept spelling_of octets_of
line_fires_free cell.NotAnswered x = (refl, (tt, tt))
line_fires_free cell.ResetExpired x = (refl, (tt, tt))
line_fires_free cell.PeerSilent x = (refl, (tt, tt))
line_fires_free _ x = (refl, tt)

line_takes_free : (c : Cell) (h : Hand) (x : Line) → IsNoAccept h → LineFree (line_takes c h x)
unfolding line_takes LineFree ActsFree IsFree AreNoAccept spelling_of octets_of
line_takes_free cell.PassAccept (hand.Accept class credit called body importance) x n = absurd n
line_takes_free cell.PassAccept _ x n = (refl, tt)
line_takes_free cell.PassRefuse (hand.Refuse cause called body importance) x n = (refl, tt)
line_takes_free cell.PassRefuse _ x n = (refl, tt)
line_takes_free cell.PassEnd (hand.End cause body importance) x n = (refl, tt)
line_takes_free cell.PassEnd _ x n = (refl, tt)
line_takes_free cell.KeepEnd (hand.End cause body importance) x n = (refl, tt)
line_takes_free cell.KeepEnd _ x n = (refl, tt)
line_takes_free cell.PassUnit (hand.Unit more body) x n = (refl, (tt, tt))
line_takes_free cell.PassUnit _ x n = (refl, tt)
line_takes_free cell.Left (hand.Left units expedited) x n = (refl, tt)
line_takes_free cell.Left _ x n = (refl, tt)
line_takes_free _ h x n = (refl, tt)

-- The windows.

WindowsFree : Windowed × Acted → Type 0
WindowsFree done = ActsFree done.1

resets_free : (cause : ℕ) (x : Windowed) → WindowsFree (resets cause x)
unfolding WindowsFree ActsFree IsFree AreNoAccept spelling_of octets_of
resets_free cause x = (refl, (tt, tt))

expedites_free : (body : Option (List ℕ)) (x : Windowed) → WindowsFree (sends_expedited body x)
unfolding WindowsFree ActsFree IsFree AreNoAccept spelling_of octets_of
expedites_free None x = (refl, tt)
expedites_free (Some body) x = (refl, (tt, tt))

windowed_hears_free : (c : Cell) (m : Parameters) (x : Windowed) → WindowsFree (windowed_hears c m x)
unfolding windowed_hears WindowsFree ActsFree IsFree AreNoAccept spelling_of octets_of
windowed_hears_free cell.TakeNumberedData m x =
    either WindowsFree (not (is_next m x)) _ _ (λ _. resets_free (wrong_number x.windows) x)
    (λ _. either WindowsFree (is_used_up x) _ _ (λ _. resets_free RESET_OUT_OF_WINDOW x)
    (λ _. either WindowsFree (not (is_valid m.pr x.windows)) _ _ (λ _. resets_free RESET_INCORRECT_RECEIVE_NUMBER x) (λ _. (refl, (tt, tt)))))
windowed_hears_free cell.TakeAcknowledgement m x = either WindowsFree (is_valid m.pr x.windows) _ _ (λ _. (refl, tt)) (λ _. resets_free RESET_INCORRECT_RECEIVE_NUMBER x)
windowed_hears_free cell.TakeExpedited m x = either WindowsFree x.windows.owed _ _ (λ _. resets_free RESET_REMOTE_PROCEDURE_ERROR x) (λ _. (refl, (tt, tt)))
windowed_hears_free cell.TakeExpeditedAcknowledgement m x =
    either WindowsFree x.windows.unanswered _ _ (λ _. expedites_free x.windows.waiting (record x { windows = record x.windows { unanswered = false } })) (λ _. (refl, tt))
windowed_hears_free cell.ResetByPeer m x = (refl, (tt, tt))
windowed_hears_free cell.ResetComplete m x = (refl, (tt, tt))
windowed_hears_free _ m x = (refl, tt)

windowed_takes_free : (c : Cell) (h : Hand) (x : Windowed) → WindowsFree (windowed_takes c h x)
unfolding windowed_takes WindowsFree ActsFree IsFree AreNoAccept spelling_of octets_of
windowed_takes_free cell.PassUnit (hand.Unit more body) x = (refl, tt)
windowed_takes_free cell.PassUnit _ x = (refl, tt)
windowed_takes_free cell.PassExpedited (hand.Expedited body) x =
    either WindowsFree (is_up x.head.state && not x.windows.unanswered) _ _ (λ _. expedites_free (Some body) x) (λ _. (refl, tt))
windowed_takes_free cell.PassExpedited _ x = (refl, tt)
windowed_takes_free cell.PassReset (hand.Reset cause) x = (refl, tt)
windowed_takes_free cell.PassReset _ x = (refl, tt)
windowed_takes_free cell.Left (hand.Left units true) x = (refl, tt)
windowed_takes_free cell.Left (hand.Left units false) x = (refl, tt)
windowed_takes_free cell.Left _ x = (refl, tt)
windowed_takes_free _ h x = (refl, tt)

-- A section.

SectionFree : Section × Acted → Type 0
SectionFree done = ActsFree done.1

section_hears_free : (ticks : Ticks) (c : Cell) (point : ℕ) (m : Parameters) (x : Section) → IsNoConfirming c → ActsFree (section_hears ticks c point m x).1
unfolding section_hears SectionFree WindowsFree LineFree
section_hears_free ticks c point m x n =
    either SectionFree (in_windows c x) _ _ (λ _. windowed_hears_free c m (record { head = x.head; windows = x.windows })) (λ _. line_hears_free c point m (line_in x) n)

section_fires_free : (ticks : Ticks) (c : Cell) (x : Section) → ActsFree (section_fires ticks c x).1
unfolding section_fires windowed_fires SectionFree LineFree ActsFree IsFree AreNoAccept spelling_of octets_of
section_fires_free ticks c x = either SectionFree (in_windows c x) _ _ (λ _. (refl, tt)) (λ _. line_fires_free c (line_in x))

section_takes_free : (ticks : Ticks) (c : Cell) (h : Hand) (x : Section) → IsNoAccept h → ActsFree (section_takes ticks c h x).1
unfolding section_takes SectionFree WindowsFree LineFree
section_takes_free ticks c h x n =
    either SectionFree (in_windows c x) _ _ (λ _. windowed_takes_free c h (record { head = x.head; windows = x.windows })) (λ _. line_takes_free c h (line_in x) n)

-- A user's end.

UserFree : User × Acted → Type 0
UserFree done = ActsFree done.1

user_takes_free : (c : Cell) (h : Hand) (u : User) → UserFree (user_takes c h u)
unfolding user_takes UserFree ActsFree IsFree AreNoAccept
user_takes_free cell.TellConfirm (hand.Accept class credit called body importance) u = (refl, tt)
user_takes_free cell.TellConfirm _ u = (refl, tt)
user_takes_free cell.TellDisconnect (hand.Refuse cause called body importance) u = (refl, tt)
user_takes_free cell.TellDisconnect (hand.End cause body importance) u = (refl, tt)
user_takes_free cell.TellDisconnect _ u = (refl, tt)
user_takes_free cell.TellUnit (hand.Unit more body) u =
    either UserFree (nat_lt LONGEST_TEXT (length (u.text ++ body))) _ _ (λ _. (refl, (tt, tt))) (λ _. either UserFree more _ _ (λ _. (refl, (tt, tt))) (λ _. (refl, (tt, tt))))
user_takes_free cell.TellUnit _ u = (refl, tt)
user_takes_free cell.TellExpedited (hand.Expedited body) u = (refl, (tt, tt))
user_takes_free cell.TellExpedited _ u = (refl, tt)
user_takes_free cell.TellReset (hand.Reset cause) u = (refl, tt)
user_takes_free cell.TellReset _ u = (refl, tt)
user_takes_free cell.TellResetDone h u = (refl, tt)
user_takes_free cell.Left (hand.Left units expedited) u = (refl, tt)
user_takes_free cell.Left _ u = (refl, tt)
user_takes_free _ h u = (refl, tt)

units_free : (units : List DataUnit) → AreNoAccept (map handed units)
unfolding AreNoAccept
units_free [] = tt
units_free (u ∷ units) = (tt, units_free units)

abbrev IsNoAccepting : Cell → Type 0
IsNoAccepting cell.UserAccepts = ⊥
IsNoAccepting _ = Unit {0}

user_asks_free : (c : Cell) (r : Request) (u : User) → IsNoAccepting c → UserFree (user_asks c r u)
unfolding user_asks UserFree ActsFree IsFree AreNoAccept
user_asks_free cell.UserAccepts r u n = absurd n
user_asks_free cell.UserSends (request.Send mine body) u n = (refl, units_free (units_of body))
user_asks_free cell.UserSends _ u n = (refl, tt)
user_asks_free cell.UserRefuses (request.Refuse mine cause body) u n = (refl, (tt, tt))
user_asks_free cell.UserRefuses _ u n = (refl, tt)
user_asks_free cell.UserExpedites (request.Expedite mine body) u n = (refl, (tt, tt))
user_asks_free cell.UserExpedites _ u n = (refl, tt)
user_asks_free cell.UserResets r u n = (refl, (tt, tt))
user_asks_free cell.UserDisconnects (request.Disc mine cause body) u n = (refl, (tt, tt))
user_asks_free cell.UserDisconnects _ u n = (refl, tt)
user_asks_free _ r u n = (refl, tt)

-- What the ends hand to each other.

takes_free : (ticks : Ticks) (h : Hand) (e : End) → IsNoAccept h → ActsFree (end_takes ticks h e).1
unfolding UserFree
takes_free ticks h (wire x) n = section_takes_free ticks (section_takes_by x.head.state h) h x n
takes_free ticks h (owner u) n = user_takes_free (user_takes_by u.state h) h u

free_taken : (ticks : Ticks) → AreTaken ticks IsNoAccept IsFree (λ e f. Unit {0})
unfolding ActsFree AreNoAccept
free_taken ticks = record {
  same = λ e. tt;
  in_turn = λ e f g one other. tt;
  none = none_free;
  joined = free_joined;
  takes = λ h e n. let t = takes_free ticks h e n in (tt, t.0, t.1);
}

settled_free : (ticks : Ticks) (that : End) (acting : End × Acted) → ActsFree acting.1 → IsFree (settles ticks acting that).1
unfolding ActsFree AreNoAccept
settled_free ticks that acting acts = (exchanged (free_taken ticks) 2 acting that acts.0 acts.1).1

-- CC goes to other points than one.

abbrev pub MissesPoint : ℕ → Output → Type 0
MissesPoint point (Sent to sls bytes) = to ≡ point → begins_with 2 bytes ≡ false
MissesPoint point _ = Unit {0}

abbrev pub Misses : ℕ → List Output → Type 0
Misses point outs = AllByRecursion (MissesPoint point) outs

free_misses : (point : ℕ) (outs : List Output) → IsFree outs → Misses point outs
unfolding IsFree
free_misses point [] free = tt
free_misses point (out ∷ outs) free = by_type (is_of_type 2 out) refl (free_misses point outs) free
  where
    misses : (out : Output) → is_of_type 2 out ≡ false → MissesPoint point out
    misses (Sent to sls bytes) e = λ _. e
    misses (Told ssn tell) e = tt
    misses (Lost lost) e = tt

    by_type : (b : Bool) → is_of_type 2 out ≡ b → (filter (is_of_type 2) outs ≡ [] → Misses point outs) → (if b then out ∷ filter (is_of_type 2) outs else filter (is_of_type 2) outs) ≡ [] → MissesPoint point out × Misses point outs
    by_type true e more free = absurd (not_empty free)
      where
        not_empty : (out ∷ filter (is_of_type 2) outs) ≡ [] → ⊥
        not_empty f = cc
    by_type false e more free = (misses out e, more free)

-- an end that is no section to the point, of those that were asked
abbrev pub IsClear : ℕ → End → Type 0
IsClear point (wire x) = x.head.state ≡ Asked → x.head.point ≢ point
IsClear point (owner u) = Unit {0}

-- Such an end is set up.

AcceptMisses : ℕ → Ticks → End → End × Acted → Type 0
AcceptMisses point ticks giver done = Misses point (exchange 1 ticks done giver).1

accept_misses : (point : ℕ) (ticks : Ticks) (class credit : ℕ) (called body : Option (List ℕ)) (importance : Option ℕ) (giver e : End) → IsClear point e
    → AcceptMisses point ticks giver (end_takes ticks (hand.Accept class credit called body importance) e)
unfolding AcceptMisses exchange section_row user_row section_takes line_takes user_takes
accept_misses point ticks class credit called body importance giver (owner u) clear = by_user u.state
  where
    by_user : (s : UserState) → AcceptMisses point ticks giver (let done = user_takes (user_takes_by s (hand.Accept class credit called body importance)) (hand.Accept class credit called body importance) u in (owner done.0, done.1))
    by_user user.Calling = (tt, tt)
    by_user _ = tt
accept_misses point ticks class credit called body importance giver (wire x) clear = by_state x.head.state refl
  where
    by_state : (s : SectionState) → x.head.state ≡ s → AcceptMisses point ticks giver (section_takes ticks (section_cell s on.AcceptComes) (hand.Accept class credit called body importance) x)
    by_state Asked asked = (λ same. absurd (clear asked same), tt)
    by_state _ other = tt

accepted_misses : (point : ℕ) (ticks : Ticks) (class credit : ℕ) (called body : Option (List ℕ)) (importance : Option ℕ) (giver e : End) → IsClear point e
    → Misses point (settles ticks (giver, gives_then [] (hand.Accept class credit called body importance ∷ [])) e).1
unfolding AcceptMisses exchange
accepted_misses point ticks class credit called body importance giver e clear = accept_misses point ticks class credit called body importance giver e clear

-- A message.

ConfirmedMisses : ℕ → Ticks → Section → End → Line × Acted → Type 0
ConfirmedMisses point ticks x that done = Misses point (settles ticks (timed ticks x (by_line (λ line. done) x)) that).1

confirmed_misses : (point : ℕ) (ticks : Ticks) (from : ℕ) (m : Parameters) (x : Section) (that : End) → IsClear point that → ConfirmedMisses point ticks x that (line_hears cell.Confirm from m (line_in x))
unfolding ConfirmedMisses line_hears ActsFree IsFree AreNoAccept spelling_of octets_of
confirmed_misses point ticks from m x that clear =
    either (ConfirmedMisses point ticks x that) ((m.class == 2 || m.class == 3) && nat_le m.class x.head.class) _ _
    (λ _. accepted_misses point ticks _ _ m.called m.body m.importance _ that clear)
    (λ _. free_misses point _ (settled_free ticks that _ (refl, (tt, tt))))

hears_misses : (point : ℕ) (ticks : Ticks) (c : Cell) (from : ℕ) (m : Parameters) (x : Section) (that : End) → IsClear point that → Misses point (settles ticks (section_hears ticks c from m x) that).1
unfolding section_hears ConfirmedMisses
hears_misses point ticks cell.Confirm from m x that clear = confirmed_misses point ticks from m x that clear
hears_misses point ticks c from m x that clear = free_misses point _ (settled_free ticks that (section_hears ticks c from m x) (section_hears_free ticks c from m x tt))

CheckFree : Option Output → Type 0
CheckFree None = Unit {0}
CheckFree (Some out) = IsFree (out ∷ [])

check_free : (o : Occasion) (m : Parameters) (x : SectionHead) → CheckFree (checked o m x)
unfolding CheckFree IsFree spelling_of octets_of
check_free o m x =
    either CheckFree (names_both o && names_another m x) _ _ (λ _. refl)
    (λ _. either CheckFree (ends_both o && names_another m x) _ _ (λ _. refl) (λ _. either CheckFree (is_of_other_class o x) _ _ (λ _. refl) (λ _. tt)))

message_misses : (point : ℕ) (ticks : Ticks) (o : Occasion) (from : ℕ) (m : Parameters) (x : Section) (that : End) → IsClear point that → Misses point (hears_message ticks o from m x that).1
unfolding hears_message CheckFree ActsFree AreNoAccept
message_misses point ticks o from m x that clear =
    either (λ (r : Connection × List Output). Misses point r.1) (is_from_elsewhere from x.head) _ _ (λ _. (tt, tt)) (λ _. by_check (checked o m x.head) (check_free o m x.head))
  where
    by_check : (c : Option Output) → CheckFree c → Misses point (settles ticks (hears_checked ticks o from m (in_touch ticks x) c) that).1
    by_check (Some out) free = free_misses point _ (settled_free ticks that _ (free, tt))
    by_check None free = hears_misses point ticks (section_cell x.head.state o) from m (in_touch ticks x) that clear

at_this_misses : (point : ℕ) (ticks : Ticks) (o : Occasion) (from : ℕ) (m : Parameters) (this that : End) → IsClear point that → Misses point (at_this (hears_message ticks o from m) (both this that)).1
at_this_misses point ticks o from m (wire x) that clear = message_misses point ticks o from m x that clear
at_this_misses point ticks o from m (owner u) that clear = tt

-- A request.

asks_misses : (point : ℕ) (ticks : Ticks) (ssn : ℕ) (r : Request) (this that : End) → IsClear point that → Misses point (asks ticks ssn r this that).1
unfolding asks UserFree user_asks exchange
asks_misses point ticks ssn r (owner u) (wire x) clear =
    either (λ (s : Connection × List Output). Misses point s.1) (u.ssn == ssn) _ _ (λ _. unless (reason_against r u x)) (λ _. (tt, tt))
  where
    acts : (c : Cell) → Misses point (let done = user_asks c r u in settles ticks (owner done.0, done.1) (wire x)).1
    acts cell.UserAccepts = by_request r
      where
        by_request : (r : Request) → Misses point (let done = user_asks cell.UserAccepts r u in settles ticks (owner done.0, done.1) (wire x)).1
        by_request (request.Accept mine class credit body) = accepted_misses point ticks class _ None _ None _ (wire x) clear
        by_request _ = tt
    acts c = free_misses point _ (settled_free ticks (wire x) (let done = user_asks c r u in (owner done.0, done.1)) (user_asks_free c r u tt))

    unless : (why : Option Reason) → Misses point (asks_unless why ticks r u x).1
    unless (Some why) = (tt, tt)
    unless None = acts (asking_cell u.state r)
asks_misses point ticks ssn r (owner u) (owner v) clear = (tt, tt)
asks_misses point ticks ssn r (wire x) that clear = (tt, tt)

-- A tick.

fires_free : (ticks : Ticks) (t : Timer) (this that : End) → IsFree (fires ticks t this that).1
fires_free ticks t this that = either (λ (r : Connection × List Output). IsFree r.1) (is_due_at t this) _ _ (λ _. fires_here this) (λ _. none_free)
  where
    fires_here : (this : End) → IsFree (fires_at ticks t this that).1
    fires_here (wire x) = settled_free ticks that _ (section_fires_free ticks (section_cell x.head.state (firing t)) (record x { timers = rearmed ticks t x.timers }))
    fires_here (owner u) = none_free

in_order_free : (ticks : Ticks) (timers : List Timer) (r : Connection × List Output) → IsFree r.1 → IsFree (fold (fires_next ticks) r timers).1
in_order_free ticks [] r free = free
in_order_free ticks (t ∷ timers) r free =
    in_order_free ticks timers (fires_next ticks r t) (free_joined r.1 (fires ticks t r.0.this r.0.that).1 free (fires_free ticks t r.0.this r.0.that))

due_free : (ticks : Ticks) (c : Connection) → IsFree (fires_due ticks c).1
unfolding fires_due
due_free ticks c = in_order_free ticks firing_order (c, []) none_free

ticks_free : (ticks : Ticks) (c : Connection) → IsFree (ticks_by ticks c).1
ticks_free ticks c =
    let one = fires_due ticks (both (ticked c.this) (ticked c.that)) in
    free_joined one.1 (fires_due ticks (turned one.0)).1 (due_free ticks (both (ticked c.this) (ticked c.that))) (due_free ticks (turned one.0))

-- What follows an event.

numbered_free : (x : SectionHead) (ps pr : ℕ) (units : List DataUnit) → IsFree (numbered x ps pr units)
unfolding IsFree spelling_of octets_of
numbered_free x ps pr [] = refl
numbered_free x ps pr (u ∷ units) = numbered_free x (suc ps) pr units

leaves_free : (x : Windowed) → ActsFree (leaves x).1
unfolding leaves ActsFree IsFree AreNoAccept spelling_of octets_of
leaves_free x =
    let w = x.windows in
    let is_expedited = is_some w.waiting && not w.unanswered in (
      free_joined (numbered x.head w.sent w.passed (take (may_leave w) w.waits)) _ (numbered_free x.head w.sent w.passed (take (may_leave w) w.waits))
          (either IsFree is_expedited _ _ (λ _. refl) (λ _. refl)),
      either AreNoAccept (is_expedited || nat_lt 0 (may_leave w)) _ _ (λ _. (tt, tt)) (λ _. tt),
    )

acknowledges_free : (x : Windowed) → ActsFree (acknowledges x).1
unfolding acknowledges WindowsFree ActsFree IsFree AreNoAccept spelling_of octets_of
acknowledges_free x = either WindowsFree (x.windows.passed == x.windows.told) _ _ (λ _. (refl, tt)) (λ _. (refl, tt))

windows_free : (act : Windowed → Windowed × Acted) → ((x : Windowed) → ActsFree (act x).1) → (ticks : Ticks) (this that : End) → IsFree (on_windows ticks act this that).1
windows_free act free ticks (wire x) that =
    either (λ (r : Connection × List Output). IsFree r.1) (is_up x.head.state && x.head.class == 3) _ _
    (λ _. settled_free ticks that (timed ticks x (by_windows act x)) (free (record { head = x.head; windows = x.windows }))) (λ _. none_free)
windows_free act free ticks (owner u) that = none_free

after_misses : (point : ℕ) (ticks : Ticks) (r : Connection × List Output) → Misses point r.1 → Misses point (after_event ticks r).1
unfolding after_event
after_misses point ticks r misses =
    let one = on_windows ticks leaves r.0.this r.0.that in
    let two = on_windows ticks leaves one.0.that one.0.this in
    let three = on_windows ticks acknowledges two.0.that two.0.this in
    let four = on_windows ticks acknowledges three.0.that three.0.this in
    joined _ _ (joined _ _ (joined _ _ (joined _ _ misses (windows_free leaves leaves_free ticks r.0.this r.0.that)) (windows_free leaves leaves_free ticks one.0.that one.0.this))
    (windows_free acknowledges acknowledges_free ticks two.0.that two.0.this)) (windows_free acknowledges acknowledges_free ticks three.0.that three.0.this)
  where
    joined : (outs more : List Output) → Misses point outs → IsFree more → Misses point (outs ++ more)
    joined outs more misses free = all_joined (MissesPoint point) outs more misses (free_misses point more free)

-- The step.

event_misses : (point : ℕ) (ticks : Ticks) (event : Event) (c : Connection) → IsClear point c.this → IsClear point c.that → Misses point (event_step ticks c event).1
event_misses point ticks (Arrived from sls bytes) c this that = by_arrival (arrival_in bytes)
  where
    by_arrival : (a : Option Arrival) → Misses point (heard_by ticks from a c).1
    by_arrival None = tt
    by_arrival (Some a) =
        either (λ (r : Connection × List Output). Misses point r.1) (is_named a.parameters.dlr c.this) _ _
        (λ _. at_this_misses point ticks a.occasion from a.parameters c.this c.that that) (λ _. at_this_misses point ticks a.occasion from a.parameters c.that c.this this)
event_misses point ticks (Requested ssn r) c this that = by_end c.this this
  where
    by_end : (e : End) → IsClear point e → Misses point (asked_by ticks ssn r (both e c.that)).1
    by_end (owner u) clear = asks_misses point ticks ssn r (owner u) c.that that
    by_end (wire x) clear = asks_misses point ticks ssn r c.that (wire x) clear
event_misses point ticks Tick c this that = free_misses point (ticks_by ticks c).1 (ticks_free ticks c)

pub step_misses : (point : ℕ) (ticks : Ticks) (c : Connection) (event : Event) → IsClear point c.this → IsClear point c.that → Misses point (connection_step ticks c event).1
unfolding connection_step
step_misses point ticks c event this that = after_misses point ticks (event_step ticks c event) (event_misses point ticks event c this that)
