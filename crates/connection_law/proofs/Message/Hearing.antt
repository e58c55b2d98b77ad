-- What an event sends before units leave.
use Rattle.std.proofs.Common.{◌≡◌, ℕ, ◌==◌, ◌&&◌, ◌||◌, not, Bool, true, false, List, [], ◌∷◌, fold, Option, Some, None, refl, sym, subst}
use Rattle.std.proofs.lemmas.Bool.{false≢true}
use Rattle.relay_base.specs.declared.causes.TheConstants.{RESET_INCORRECT_RECEIVE_NUMBER, RESET_OUT_OF_WINDOW, RESET_REMOTE_PROCEDURE_ERROR}
use Rattle.relay_base.specs.declared.words.Event.{Event}
use Rattle.relay_base.specs.declared.words.Event.TheVariants.{Message as Arrived, Asked as Requested, Tick}
use Rattle.relay_base.specs.declared.words.Request.{Request}
use Rattle.relay_base.specs.declared.words.Request.TheVariants as request
use Rattle.relay_base.specs.declared.words.Reason.{Reason}
use Rattle.relay_base.specs.declared.words.Output.{Output}
use Rattle.plant_core.specs.declared.terms.Ticks.{Ticks}
use Rattle.q713_shape.specs.Writing.{octets_of}
use Rattle.q713_codec.specs.Writing.{spelling_of}
use Rattle.section_model.specs.declared.cell.Timer.{Timer}
use Rattle.section_model.specs.declared.cell.Cell.{Cell}
use Rattle.section_model.specs.declared.cell.Cell.TheVariants as cell
use Rattle.section_model.specs.declared.cell.Occasion.{Occasion}
use Rattle.section_model.specs.declared.cell.Occasion.TheVariants as on
use Rattle.section_model.specs.declared.hand.Hand.TheVariants as hand
use Rattle.section_model.specs.declared.hand.Acted.{Acted}
use Rattle.section_model.specs.Table.{section_cell}
use Rattle.section_model.specs.Parameters.{Parameters, Arrival, arrival_in}
use Rattle.section_model.specs.Ends.{End, wire, owner, SectionHead, Section, User, Timers, Connection, turned, gives_then}
use Rattle.section_model.specs.Line.{line_hears}
use Rattle.section_model.specs.Windowed.{Windowed, windowed_hears, is_next, is_used_up, resets, takes_data, sends_expedited}
use Rattle.section_flow.specs.Windows.{is_valid, wrong_number}
use Rattle.section_model.specs.UserEnd.{user_asks, units_of}
use Rattle.section_model.specs.Timing.{firing_order, firing, rearmed}
use Rattle.section_model.specs.Acting.{timed, by_windows, by_line, line_in, in_windows, section_hears}
use Rattle.section_model.specs.Coupling.{settles, on_that}
use Rattle.section_model.specs.Step.{names_both, ends_both, names_another, is_of_other_class, checked, hears_checked, in_touch, is_from_elsewhere, hears_message, asking_cell, reason_against, asks_unless, asks, ticked, is_due_at, fires_at, fires, fires_next, fires_due, ticks_by, is_named, at_this, at_reference, heard_by, asked_by, event_step, names, destination_of, hears}
use Rattle.connection_law.proofs.Cells.{IsCellOf, cell_of}
use Rattle.connection_law.proofs.Flow.Flowing.{either}
use Rattle.connection_law.specs.Messages.{data_among, expedited_among}
use Rattle.connection_law.specs.ExpeditedSent.{AnswersIn, GivesIn, Answers, Gives, none}
use Rattle.connection_law.proofs.Message.Plain.{IsPlain, AreOther, ActsPlain, none_plain, plain_joined, resets_plain, line_hears_plain, section_fires_plain, units_other}
use Rattle.connection_law.proofs.Message.Exchanging.{exchange_plain}
use Rattle.connection_law.proofs.Message.Acting.{both, EventSends, plain_sends, turned_sends, settles_plain, settles_answer, settles_bringing, nothing_plain}

-- A message on a section.

-- what it does there, once it is let through
unfoldable HearsSends : (Section → Type 0) → (End → List ℕ → Type 0) → Ticks → Section → Section → End → Section × Acted → Type 0
HearsSends A G ticks x x' that done = EventSends A G (both (wire x) that) (settles ticks (timed ticks x' done) that)

hears_plain : (A : Section → Type 0) (G : End → List ℕ → Type 0) (ticks : Ticks) (x x' : Section) (that : End) (done : Section × Acted) → ActsPlain done.1 → HearsSends A G ticks x x' that done
unfolding HearsSends
hears_plain A G ticks x x' that done p = settles_plain A G (both (wire x) that) ticks (timed ticks x' done) that p

unfoldable WindowsSend : (Section → Type 0) → (End → List ℕ → Type 0) → Ticks → Section → Section → End → Windowed × Acted → Type 0
WindowsSend A G ticks x x' that done = HearsSends A G ticks x x' that (by_windows (λ w. done) x')

windows_plain : (A : Section → Type 0) (G : End → List ℕ → Type 0) (ticks : Ticks) (x x' : Section) (that : End) (done : Windowed × Acted) → ActsPlain done.1 → WindowsSend A G ticks x x' that done
unfolding WindowsSend
windows_plain A G ticks x x' that done p = hears_plain A G ticks x x' that (by_windows (λ w. done) x') p

data_hears : (A : Section → Type 0) (G : End → List ℕ → Type 0) (ticks : Ticks) (m : Parameters) (x x' : Section) (that : End) (w : Windowed) → WindowsSend A G ticks x x' that (takes_data m w)
unfolding ActsPlain IsPlain AreOther data_among expedited_among
data_hears A G ticks m x x' that w =
    let reset : (cause : ℕ) → WindowsSend A G ticks x x' that (resets cause w) = λ cause. windows_plain A G ticks x x' that _ (resets_plain cause w) in
    either (WindowsSend A G ticks x x' that) (not (is_next m w)) _ _ (λ _. reset (wrong_number w.windows))
    (λ _. either (WindowsSend A G ticks x x' that) (is_used_up w) _ _ (λ _. reset RESET_OUT_OF_WINDOW)
    (λ _. either (WindowsSend A G ticks x x' that) (not (is_valid m.pr w.windows)) _ _ (λ _. reset RESET_INCORRECT_RECEIVE_NUMBER)
    (λ _. windows_plain A G ticks x x' that _ ((refl, refl), (tt, tt)))))

expedited_hears : (A : Section → Type 0) (G : End → List ℕ → Type 0) (ticks : Ticks) (m : Parameters) (x : Section) (t : Timers) (that : End) → G (wire x) m.data_octets
    → WindowsSend A G ticks x (record x { timers = t }) that
    (record { head = x.head; windows = record x.windows { owed = true } }, gives_then [] (hand.Expedited m.data_octets ∷ []))
unfolding WindowsSend HearsSends
expedited_hears A G ticks m x t that brings = settles_bringing A G ticks (wire x) _ that m.data_octets brings

answer_hears : (A : Section → Type 0) (G : End → List ℕ → Type 0) (ticks : Ticks) (x : Section) (t : Timers) (that : End) (waiting : Option (List ℕ)) → A x → x.windows.unanswered ≡ true → x.windows.waiting ≡ waiting
    → WindowsSend A G ticks x (record x { timers = t }) that (sends_expedited waiting (record { head = x.head; windows = record x.windows { unanswered = false } }))
unfolding WindowsSend HearsSends
answer_hears A G ticks x t that None answer unanswered waiting = windows_plain A G ticks x (record x { timers = t }) that _ nothing_plain
answer_hears A G ticks x t that (Some body) answer unanswered waiting =
    settles_answer A G ticks x _ that body answer unanswered waiting refl

windows_hear : (c : Cell) (o : Occasion) (A : Section → Type 0) (G : End → List ℕ → Type 0) (ticks : Ticks) (m : Parameters) (x : Section) (t : Timers) (that : End)
    → IsCellOf c o x.head.state → (o ≡ on.Ea → A x) → (o ≡ on.Ed → G (wire x) m.data_octets)
    → WindowsSend A G ticks x (record x { timers = t }) that (windowed_hears c m (record { head = x.head; windows = x.windows }))
unfolding windowed_hears ActsPlain IsPlain AreOther data_among expedited_among spelling_of octets_of
windows_hear cell.TakeNumberedData o A G ticks m x t that is answers brings = data_hears A G ticks m x (record x { timers = t }) that (record { head = x.head; windows = x.windows })
windows_hear cell.TakeAcknowledgement o A G ticks m x t that is answers brings =
    either (WindowsSend A G ticks x (record x { timers = t }) that) (is_valid m.pr x.windows) _ _
    (λ _. windows_plain A G ticks x (record x { timers = t }) that _ ((refl, refl), tt))
    (λ _. windows_plain A G ticks x (record x { timers = t }) that _ (resets_plain RESET_INCORRECT_RECEIVE_NUMBER (record { head = x.head; windows = x.windows })))
windows_hear cell.TakeExpedited o A G ticks m x t that is answers brings =
    either (WindowsSend A G ticks x (record x { timers = t }) that) x.windows.owed _ _
    (λ _. windows_plain A G ticks x (record x { timers = t }) that _ (resets_plain RESET_REMOTE_PROCEDURE_ERROR (record { head = x.head; windows = x.windows })))
    (λ _. expedited_hears A G ticks m x t that (brings is))
windows_hear cell.TakeExpeditedAcknowledgement o A G ticks m x t that is answers brings =
    either (WindowsSend A G ticks x (record x { timers = t }) that) x.windows.unanswered _ _
    (λ unanswered. answer_hears A G ticks x t that x.windows.waiting (answers is) unanswered refl)
    (λ _. windows_plain A G ticks x (record x { timers = t }) that _ ((refl, refl), tt))
windows_hear cell.ResetByPeer o A G ticks m x t that is answers brings = windows_plain A G ticks x (record x { timers = t }) that _ ((refl, refl), (tt, tt))
windows_hear cell.ResetComplete o A G ticks m x t that is answers brings = windows_plain A G ticks x (record x { timers = t }) that _ ((refl, refl), (tt, tt))
windows_hear _ o A G ticks m x t that is answers brings = windows_plain A G ticks x (record x { timers = t }) that _ ((refl, refl), tt)

section_hears_sends : (c : Cell) (o : Occasion) (A : Section → Type 0) (G : End → List ℕ → Type 0) (ticks : Ticks) (point : ℕ) (m : Parameters) (x : Section) (t : Timers) (that : End)
    → IsCellOf c o x.head.state → (o ≡ on.Ea → A x) → (o ≡ on.Ed → G (wire x) m.data_octets)
    → EventSends A G (both (wire x) that) (settles ticks (section_hears ticks c point m (record x { timers = t })) that)
unfolding section_hears HearsSends WindowsSend
section_hears_sends c o A G ticks point m x t that is answers brings =
    either (HearsSends A G ticks x (record x { timers = t }) that) (in_windows c (record x { timers = t })) _ _
    (λ _. windows_hear c o A G ticks m x t that is answers brings)
    (λ _. hears_plain A G ticks x (record x { timers = t }) that (by_line (line_hears c point m) (record x { timers = t })) (line_hears_plain c point m (line_in x)))

-- what the checks answer
abbrev IsPlainAnswer : Option Output → Type 0
IsPlainAnswer None = Unit {0}
IsPlainAnswer (Some out) = IsPlain (out ∷ [])

checked_plain : (o : Occasion) (m : Parameters) (x : SectionHead) → IsPlainAnswer (checked o m x)
unfolding IsPlain data_among expedited_among spelling_of octets_of
checked_plain o m x =
    either IsPlainAnswer (names_both o && names_another m x) _ _ (λ _. (refl, refl))
    (λ _. either IsPlainAnswer (ends_both o && names_another m x) _ _ (λ _. (refl, refl))
    (λ _. either IsPlainAnswer (is_of_other_class o x) _ _ (λ _. (refl, refl)) (λ _. tt)))

checked_sends : (c : Option Output) (o : Occasion) (A : Section → Type 0) (G : End → List ℕ → Type 0) (ticks : Ticks) (point : ℕ) (m : Parameters) (x : Section) (that : End)
    → IsPlainAnswer c → (o ≡ on.Ea → A x) → (o ≡ on.Ed → G (wire x) m.data_octets)
    → EventSends A G (both (wire x) that) (settles ticks (hears_checked ticks o point m (in_touch ticks x) c) that)
unfolding ActsPlain AreOther
checked_sends (Some out) o A G ticks point m x that p answers brings = settles_plain A G (both (wire x) that) ticks _ that (p, tt)
checked_sends None o A G ticks point m x that p answers brings =
    section_hears_sends (section_cell x.head.state o) o A G ticks point m x (in_touch ticks x).timers that (cell_of o x.head.state) answers brings

hears_sends : (o : Occasion) (A : Section → Type 0) (G : End → List ℕ → Type 0) (ticks : Ticks) (point : ℕ) (m : Parameters) (x : Section) (that : End)
    → (o ≡ on.Ea → A x) → (o ≡ on.Ed → G (wire x) m.data_octets)
    → EventSends A G (both (wire x) that) (hears_message ticks o point m x that)
unfolding hears_message IsPlain data_among expedited_among
hears_sends o A G ticks point m x that answers brings =
    either (EventSends A G (both (wire x) that)) (is_from_elsewhere point x.head) _ _
    (λ _. (refl, none refl))
    (λ _. checked_sends (checked o m x.head) o A G ticks point m x that (checked_plain o m x.head) answers brings)

-- A part of a step on the end that an event names.

on_that_sends : (A : Section → Type 0) (G : End → List ℕ → Type 0) (part : Connection → Connection × List Output) → ((c : Connection) → EventSends A G c (part c)) → (c : Connection) → EventSends A G c (on_that part c)
on_that_sends A G part sends c = turned_sends A G c (part (turned c)) (sends (turned c))

nothing_sends : (A : Section → Type 0) (G : End → List ℕ → Type 0) (c d : Connection) → EventSends A G c (d, [])
nothing_sends A G c d = plain_sends A G c (d, []) none_plain

at_this_sends : (A : Section → Type 0) (G : End → List ℕ → Type 0) (reference : ℕ) (part : Section → End → Connection × List Output)
    → ((x : Section) (that : End) → is_named reference (wire x) ≡ true → EventSends A G (both (wire x) that) (part x that)) → (this that : End) → is_named reference this ≡ true
    → EventSends A G (both this that) (at_this part (both this that))
at_this_sends A G reference part sends (wire x) that n = sends x that n
at_this_sends A G reference part sends (owner u) that n = nothing_sends A G (both (owner u) that) (both (owner u) that)

pub other_named : (one other : Bool) → (one || other) ≡ true → one ≡ false → other ≡ true
other_named true other e f = absurd (false≢true (sym f))
other_named false other e f = e

at_reference_sends : (A : Section → Type 0) (G : End → List ℕ → Type 0) (reference : ℕ) (part : Section → End → Connection × List Output)
    → ((x : Section) (that : End) → is_named reference (wire x) ≡ true → EventSends A G (both (wire x) that) (part x that))
    → (c : Connection) → names (Some reference) c ≡ true → EventSends A G c (at_reference reference part c)
at_reference_sends A G reference part sends c n =
    either (EventSends A G c) (is_named reference c.this) _ _
    (λ is. at_this_sends A G reference part sends c.this c.that is)
    (λ no. turned_sends A G c (at_this part (turned c)) (at_this_sends A G reference part sends c.that c.this (other_named (is_named reference c.this) (is_named reference c.that) n no)))

heard_sends : (point sls : ℕ) (bytes : List ℕ) (ticks : Ticks) (a : Option Arrival) → a ≡ arrival_in bytes → (c : Connection) → names (destination_of a) c ≡ true
    → EventSends (Answers (Arrived point sls bytes)) (Gives (Arrived point sls bytes)) c (heard_by ticks point a c)
heard_sends point sls bytes ticks None e c n = nothing_sends (Answers (Arrived point sls bytes)) (Gives (Arrived point sls bytes)) c c
heard_sends point sls bytes ticks (Some a) e c n =
    at_reference_sends (Answers (Arrived point sls bytes)) (Gives (Arrived point sls bytes)) a.parameters.dlr (hears_message ticks a.occasion point a.parameters)
    (λ x that named. hears_sends a.occasion (Answers (Arrived point sls bytes)) (Gives (Arrived point sls bytes)) ticks point a.parameters x that
    (λ is. subst (AnswersIn x) e (is, named)) (λ is. subst (GivesIn (wire x) a.parameters.data_octets) e (is, refl, named))) c n

-- A request.

user_asks_sends : (c : Cell) (r : Request) (ssn : ℕ) (ticks : Ticks) (u : User) (that : End)
    → EventSends (Answers (Requested ssn r)) (Gives (Requested ssn r)) (both (owner u) that) (settles ticks (let done = user_asks c r u in (owner done.0, done.1)) that)
unfolding user_asks ActsPlain IsPlain AreOther data_among expedited_among
user_asks_sends cell.UserAccepts (request.Accept mine class credit body) ssn ticks u that = settles_plain _ _ _ ticks _ that ((refl, refl), (tt, tt))
user_asks_sends cell.UserAccepts r ssn ticks u that = settles_plain _ _ _ ticks _ that ((refl, refl), tt)
user_asks_sends cell.UserRefuses (request.Refuse mine cause body) ssn ticks u that = settles_plain _ _ _ ticks _ that ((refl, refl), (tt, tt))
user_asks_sends cell.UserRefuses r ssn ticks u that = settles_plain _ _ _ ticks _ that ((refl, refl), tt)
user_asks_sends cell.UserSends (request.Send mine body) ssn ticks u that = settles_plain _ _ _ ticks _ that ((refl, refl), units_other (units_of body))
user_asks_sends cell.UserSends r ssn ticks u that = settles_plain _ _ _ ticks _ that ((refl, refl), tt)
user_asks_sends cell.UserExpedites (request.Expedite mine body) ssn ticks u that = settles_bringing (Answers (Requested ssn (request.Expedite mine body))) (Gives (Requested ssn (request.Expedite mine body))) ticks (owner u) (owner u) that body refl
user_asks_sends cell.UserExpedites r ssn ticks u that = settles_plain _ _ _ ticks _ that ((refl, refl), tt)
user_asks_sends cell.UserResets r ssn ticks u that = settles_plain _ _ _ ticks _ that ((refl, refl), (tt, tt))
user_asks_sends cell.UserDisconnects (request.Disc mine cause body) ssn ticks u that = settles_plain _ _ _ ticks _ that ((refl, refl), (tt, tt))
user_asks_sends cell.UserDisconnects r ssn ticks u that = settles_plain _ _ _ ticks _ that ((refl, refl), tt)
user_asks_sends _ r ssn ticks u that = settles_plain _ _ _ ticks _ that ((refl, refl), tt)

asks_unless_sends : (why : Option Reason) (ticks : Ticks) (ssn : ℕ) (r : Request) (u : User) (x : Section) → EventSends (Answers (Requested ssn r)) (Gives (Requested ssn r)) (both (owner u) (wire x)) (asks_unless why ticks r u x)
unfolding IsPlain data_among expedited_among
asks_unless_sends (Some why) ticks ssn r u x = (refl, none refl)
asks_unless_sends None ticks ssn r u x = user_asks_sends (asking_cell u.state r) r ssn ticks u (wire x)

asks_sends : (ticks : Ticks) (ssn : ℕ) (r : Request) (this that : End) → EventSends (Answers (Requested ssn r)) (Gives (Requested ssn r)) (both this that) (asks ticks ssn r this that)
unfolding asks IsPlain data_among expedited_among
asks_sends ticks ssn r (owner u) (wire x) =
    either (EventSends (Answers (Requested ssn r)) (Gives (Requested ssn r)) (both (owner u) (wire x))) (u.ssn == ssn) _ _
    (λ _. asks_unless_sends (reason_against r u x) ticks ssn r u x) (λ _. (refl, none refl))
asks_sends ticks ssn r (owner u) (owner v) = (refl, none refl)
asks_sends ticks ssn r (wire x) that = (refl, none refl)

asked_sends : (ticks : Ticks) (ssn : ℕ) (r : Request) (this that : End) → EventSends (Answers (Requested ssn r)) (Gives (Requested ssn r)) (both this that) (asked_by ticks ssn r (both this that))
asked_sends ticks ssn r (owner u) that = asks_sends ticks ssn r (owner u) that
asked_sends ticks ssn r (wire x) that = on_that_sends (Answers (Requested ssn r)) (Gives (Requested ssn r)) (λ d. asks ticks ssn r d.this d.that) (λ d. asks_sends ticks ssn r d.this d.that) (both (wire x) that)

-- A tick.

fires_at_plain : (ticks : Ticks) (timer : Timer) (this that : End) → IsPlain (fires_at ticks timer this that).1
fires_at_plain ticks timer (wire x) that =
    exchange_plain 2 ticks _ that (section_fires_plain ticks (section_cell x.head.state (firing timer)) (record x { timers = rearmed ticks timer x.timers }))
fires_at_plain ticks timer (owner u) that = none_plain

fires_plain : (ticks : Ticks) (timer : Timer) (this that : End) → IsPlain (fires ticks timer this that).1
fires_plain ticks timer this that =
    either (λ (r : Connection × List Output). IsPlain r.1) (is_due_at timer this) _ _ (λ _. fires_at_plain ticks timer this that) (λ _. none_plain)

fires_in_order : (ticks : Ticks) (timers : List Timer) (r : Connection × List Output) → IsPlain r.1 → IsPlain (fold (fires_next ticks) r timers).1
fires_in_order ticks [] r p = p
fires_in_order ticks (timer ∷ timers) r p =
    fires_in_order ticks timers (fires_next ticks r timer) (plain_joined r.1 (fires ticks timer r.0.this r.0.that).1 p (fires_plain ticks timer r.0.this r.0.that))

fires_due_plain : (ticks : Ticks) (c : Connection) → IsPlain (fires_due ticks c).1
unfolding fires_due
fires_due_plain ticks c = fires_in_order ticks firing_order (c, []) none_plain

ticks_plain : (ticks : Ticks) (c : Connection) → IsPlain (ticks_by ticks c).1
ticks_plain ticks c =
    let one = fires_due ticks (both (ticked c.this) (ticked c.that)) in
    plain_joined one.1 (fires_due ticks (turned one.0)).1 (fires_due_plain ticks (both (ticked c.this) (ticked c.that))) (fires_due_plain ticks (turned one.0))

pub event_sends : (ticks : Ticks) (c : Connection) (event : Event) → hears c event ≡ true → EventSends (Answers event) (Gives event) c (event_step ticks c event)
unfolding hears
event_sends ticks c (Arrived point sls bytes) h = heard_sends point sls bytes ticks (arrival_in bytes) refl c h
event_sends ticks c (Requested ssn r) h = asked_sends ticks ssn r c.this c.that
event_sends ticks c Tick h = plain_sends (Answers Tick) (Gives Tick) c (ticks_by ticks c) (ticks_plain ticks c)

-- DT2 it sends in no case, whether it is heard or not.

no_data_there : (reference : ℕ) (part : Section → End → Connection × List Output) → ((x : Section) (that : End) → data_among (part x that).1 ≡ []) → (c : Connection)
    → data_among (at_reference reference part c).1 ≡ []
no_data_there reference part none_sent c =
    either (λ (r : Connection × List Output). data_among r.1 ≡ []) (is_named reference c.this) _ _ (λ _. at_end c.this c.that) (λ _. at_end c.that c.this)
  where
    at_end : (this that : End) → data_among (at_this part (both this that)).1 ≡ []
    at_end (wire x) that = none_sent x that
    at_end (owner u) that = (nothing_sends (λ x. Unit {0}) (λ e body. Unit {0}) (both (owner u) that) (both (owner u) that)).0

no_data_heard : (ticks : Ticks) (point : ℕ) (a : Option Arrival) (c : Connection) → data_among (heard_by ticks point a c).1 ≡ []
no_data_heard ticks point None c = (nothing_sends (λ x. Unit {0}) (λ e body. Unit {0}) c c).0
no_data_heard ticks point (Some a) c =
    no_data_there a.parameters.dlr (hears_message ticks a.occasion point a.parameters)
    (λ x that. (hears_sends a.occasion (λ y. Unit {0}) (λ e body. Unit {0}) ticks point a.parameters x that (λ _. tt) (λ _. tt)).0) c

pub no_data : (ticks : Ticks) (c : Connection) (event : Event) → data_among (event_step ticks c event).1 ≡ []
unfolding IsPlain
no_data ticks c (Arrived point sls bytes) = no_data_heard ticks point (arrival_in bytes) c
no_data ticks c (Requested ssn r) = (asked_sends ticks ssn r c.this c.that).0
no_data ticks c Tick = (ticks_plain ticks c).0
