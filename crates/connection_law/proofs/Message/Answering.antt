-- An ED stays unanswered until EA comes on its section, or the counts are cleared.
use Rattle.std.proofs.Common.{◌≡◌, ℕ, zero, suc, ◌==◌, ◌&&◌, ◌||◌, nat_lt, is_some, not, if◌then◌else◌, Bool, true, false, List, [], ◌∷◌, fold, Option, Some, None, refl, ◌∙◌, ap, subst, inl, inr, ◌⊎◌}
use Rattle.std.proofs.lemmas.Bool.{false≢true}
use Rattle.relay_base.specs.declared.causes.TheConstants.{RESET_INCORRECT_RECEIVE_NUMBER, RESET_OUT_OF_WINDOW, RESET_REMOTE_PROCEDURE_ERROR}
use Rattle.relay_base.specs.declared.words.Event.{Event}
use Rattle.relay_base.specs.declared.words.Event.TheVariants.{Message as Arrived, Asked as Requested, Tick}
use Rattle.relay_base.specs.declared.words.Request.{Request}
use Rattle.relay_base.specs.declared.words.Reason.{Reason}
use Rattle.relay_base.specs.declared.words.Output.{Output}
use Rattle.plant_core.specs.declared.terms.Ticks.{Ticks}
use Rattle.section_model.specs.declared.cell.Timer.{Timer}
use Rattle.section_model.specs.declared.cell.Cell.{Cell}
use Rattle.section_model.specs.declared.cell.Cell.TheVariants as cell
use Rattle.section_model.specs.declared.cell.Occasion.{Occasion}
use Rattle.section_model.specs.declared.cell.Occasion.TheVariants as on
use Rattle.section_model.specs.declared.hand.Hand.{Hand}
use Rattle.section_model.specs.declared.hand.Hand.TheVariants as hand
use Rattle.section_model.specs.declared.hand.Acted.{Acted}
use Rattle.section_model.specs.Table.{section_cell}
use Rattle.section_model.specs.Parameters.{Parameters, Arrival, arrival_in}
use Rattle.section_model.specs.Ends.{End, wire, owner, Line, Section, User, Connection, turned, gives_then, is_up, is_connected}
use Rattle.section_flow.specs.Windows.{Windows, is_valid, may_leave, wrong_number}
use Rattle.section_model.specs.Line.{line_hears, line_fires, line_takes}
use Rattle.section_model.specs.Windowed.{Windowed, windowed_hears, windowed_fires, windowed_takes, is_next, is_used_up, resets, takes_data, sends_expedited, leaves, acknowledges}
use Rattle.section_model.specs.UserEnd.{user_asks}
use Rattle.section_model.specs.Timing.{firing_order, firing, rearmed}
use Rattle.section_model.specs.Acting.{timed, windows_after, by_windows, line_in, in_windows, section_hears, section_fires, section_takes, section_takes_by, end_takes}
use Rattle.section_model.specs.Coupling.{with_more, other_takes, exchange, settles, on_that}
use Rattle.section_model.specs.Step.{checked, hears_checked, in_touch, is_from_elsewhere, hears_message, asking_cell, reason_against, asks_unless, asks, ticked, is_due_at, fires_at, fires, fires_next, fires_due, ticks_by, is_named, at_this, at_reference, heard_by, asked_by, event_step, names, destination_of, hears, on_windows, after_event}
use Rattle.connection_law.proofs.Cells.{IsCellOf, cell_of}
use Rattle.connection_law.proofs.Flow.Flowing.{either}
use Rattle.connection_law.proofs.Flow.Ordering.{this_left}
use Rattle.connection_law.specs.ExpeditedSent.{unanswered_at, AnswersIn, Answers, IsAtNothing, IsAnsweredAt, StaysUnanswered, BothStayUnanswered, AnswersNone}
use Rattle.connection_law.proofs.Message.Exchanging.{left_keeps}
use Rattle.connection_law.proofs.Message.Acting.{both}
use Rattle.connection_law.proofs.Message.Hearing.{other_named}
use Rattle.connection_law.proofs.Message.Leaving.{LeavesAlike, leaves_alike}

-- The windows of a section.

abbrev AtNothing : Windows → Type 0
AtNothing w = (w.sent ≡ 0) × (w.acked ≡ 0) × (w.told ≡ 0)

-- what is unanswered stays so, or was answered, or the counts were cleared
abbrev Stays : Type 0 → Windows → Windows → Type 0
Stays A w w' = w.unanswered ≡ true → (w'.unanswered ≡ true) ⊎ (A ⊎ AtNothing w')

-- and counts that were cleared stay so
abbrev Keeps : Type 0 → Windows → Windows → Type 0
Keeps A w w' = Stays A w w' × (AtNothing w → AtNothing w')

WindowsStay : Type 0 → Windowed → Windowed × Acted → Type 0
WindowsStay A x r = Stays A x.windows r.0.windows

resets_stay : (A : Type 0) (cause : ℕ) (x : Windowed) → WindowsStay A x (resets cause x)
unfolding WindowsStay
resets_stay A cause x = λ e. inr (inr (refl, refl, refl))

data_stays : (A : Type 0) (m : Parameters) (x : Windowed) → WindowsStay A x (takes_data m x)
unfolding WindowsStay
data_stays A m x =
    either (WindowsStay A x) (not (is_next m x)) _ _ (λ _. resets_stay A (wrong_number x.windows) x)
    (λ _. either (WindowsStay A x) (is_used_up x) _ _ (λ _. resets_stay A RESET_OUT_OF_WINDOW x)
    (λ _. either (WindowsStay A x) (not (is_valid m.pr x.windows)) _ _ (λ _. resets_stay A RESET_INCORRECT_RECEIVE_NUMBER x)
    (λ _. λ e. inl e)))

windows_hear : (c : Cell) (o : Occasion) (A : Type 0) (m : Parameters) (x : Windowed) → IsCellOf c o x.head.state → (o ≡ on.Ea → A) → WindowsStay A x (windowed_hears c m x)
unfolding windowed_hears WindowsStay
windows_hear cell.TakeNumberedData o A m x is answers = data_stays A m x
windows_hear cell.TakeAcknowledgement o A m x is answers =
    either (WindowsStay A x) (is_valid m.pr x.windows) _ _ (λ _. λ e. inl e) (λ _. resets_stay A RESET_INCORRECT_RECEIVE_NUMBER x)
windows_hear cell.TakeExpedited o A m x is answers =
    either (WindowsStay A x) x.windows.owed _ _ (λ _. resets_stay A RESET_REMOTE_PROCEDURE_ERROR x) (λ _. λ e. inl e)
windows_hear cell.TakeExpeditedAcknowledgement o A m x is answers = λ e. inr (inl (answers is))
windows_hear cell.ResetByPeer o A m x is answers = λ e. inr (inr (refl, refl, refl))
windows_hear cell.ResetComplete o A m x is answers = λ e. inl e
windows_hear _ o A m x is answers = λ e. inl e

WindowsKeep : Type 0 → Windowed → Windowed × Acted → Type 0
WindowsKeep A x r = Keeps A x.windows r.0.windows

expedites_keep : (A : Type 0) (body : List ℕ) (x : Windowed) → WindowsKeep A x (sends_expedited (Some body) x)
unfolding WindowsKeep
expedites_keep A body x = (λ e. inl refl, λ n. n)

windows_take : (c : Cell) (h : Hand) (A : Type 0) (x : Windowed) → WindowsKeep A x (windowed_takes c h x)
unfolding windowed_takes WindowsKeep
windows_take cell.PassUnit (hand.Unit more body) A x = (λ e. inl e, λ n. n)
windows_take cell.PassUnit _ A x = (λ e. inl e, λ n. n)
windows_take cell.PassExpedited (hand.Expedited body) A x =
    either (WindowsKeep A x) (is_up x.head.state && not x.windows.unanswered) _ _ (λ _. expedites_keep A body x) (λ _. (λ e. inl e, λ n. n))
windows_take cell.PassExpedited _ A x = (λ e. inl e, λ n. n)
windows_take cell.PassReset (hand.Reset cause) A x = (λ e. inr (inr (refl, refl, refl)), λ n. (refl, refl, refl))
windows_take cell.PassReset _ A x = (λ e. inl e, λ n. n)
windows_take cell.ClearCounts h A x = (λ e. inr (inr (refl, refl, refl)), λ n. (refl, refl, refl))
windows_take cell.Left (hand.Left units true) A x = (λ e. inl e, λ n. n)
windows_take cell.Left (hand.Left units false) A x = (λ e. inl e, λ n. n)
windows_take cell.Left _ A x = (λ e. inl e, λ n. n)
windows_take _ h A x = (λ e. inl e, λ n. n)

-- A section, by its windows or its line.

line_keeps : (A : Type 0) (x : Section) (line : Line) → Keeps A x.windows (windows_after x line)
line_keeps A x line =
    either (Keeps A x.windows) (is_up line.head.state && not (is_connected x.head.state)) _ _
    (λ _. (λ e. inr (inr (refl, refl, refl)), λ n. (refl, refl, refl))) (λ _. (λ e. inl e, λ n. n))

SectionStays : Type 0 → Section → Section × Acted → Type 0
SectionStays A x r = Stays A x.windows r.0.windows

SectionKeeps : Type 0 → Section → Section × Acted → Type 0
SectionKeeps A x r = Keeps A x.windows r.0.windows

-- ends, of which a user's has none unanswered
abbrev EndKeeps : Type 0 → End → End → Type 0
EndKeeps A e f = StaysUnanswered A e f × (IsAtNothing e → IsAtNothing f)

section_hears_stays : (c : Cell) (o : Occasion) (A : Type 0) (ticks : Ticks) (point : ℕ) (m : Parameters) (x : Section) → IsCellOf c o x.head.state → (o ≡ on.Ea → A)
    → StaysUnanswered A (wire x) (section_hears ticks c point m x).0
unfolding SectionStays section_hears WindowsStay
section_hears_stays c o A ticks point m x is answers =
    either (SectionStays A x) (in_windows c x) _ _ (λ _. windows_hear c o A m (record { head = x.head; windows = x.windows }) is answers)
    (λ _. (line_keeps A x (line_hears c point m (line_in x)).0).0)

section_fires_keeps : (c : Cell) (A : Type 0) (ticks : Ticks) (x : Section) → EndKeeps A (wire x) (section_fires ticks c x).0
unfolding SectionKeeps section_fires windowed_fires
section_fires_keeps c A ticks x =
    either (SectionKeeps A x) (in_windows c x) _ _ (λ _. (λ e. inl e, λ n. n)) (λ _. line_keeps A x (line_fires c (line_in x)).0)

section_takes_keeps : (c : Cell) (h : Hand) (A : Type 0) (ticks : Ticks) (x : Section) → EndKeeps A (wire x) (section_takes ticks c h x).0
unfolding SectionKeeps section_takes WindowsKeep
section_takes_keeps c h A ticks x =
    either (SectionKeeps A x) (in_windows c x) _ _ (λ _. windows_take c h A (record { head = x.head; windows = x.windows }))
    (λ _. line_keeps A x (line_takes c h (line_in x)).0)

end_takes_keeps : (A : Type 0) (ticks : Ticks) (h : Hand) (e : End) → EndKeeps A e (end_takes ticks h e).0
end_takes_keeps A ticks h (wire x) = section_takes_keeps (section_takes_by x.head.state h) h A ticks x
end_takes_keeps A ticks h (owner u) = (λ e. inl e, λ n. tt)

-- One after another.

end_stays : (A : Type 0) (e : End) → EndKeeps A e e
end_stays A e = (λ u. inl u, λ n. n)

stays_then : (A : Type 0) (e f g : End) → StaysUnanswered A e f → EndKeeps A f g → StaysUnanswered A e g
stays_then A e f g a b = λ u. by_first (a u)
  where
    by_first : (unanswered_at f ≡ true) ⊎ (A ⊎ IsAtNothing f) → (unanswered_at g ≡ true) ⊎ (A ⊎ IsAtNothing g)
    by_first (inl u) = b.0 u
    by_first (inr (inl answered)) = inr (inl answered)
    by_first (inr (inr nothing)) = inr (inr (b.1 nothing))

keeps_then : (A : Type 0) (e f g : End) → EndKeeps A e f → EndKeeps A f g → EndKeeps A e g
keeps_then A e f g a b = (stays_then A e f g a.0 b, λ n. b.1 (a.1 n))

abbrev BothKeep : Type 0 → Type 0 → Connection → Connection → Type 0
BothKeep A B c d = EndKeeps A c.this d.this × EndKeeps B c.that d.that

both_stay : (A B : Type 0) (c : Connection) → BothKeep A B c c
both_stay A B c = (end_stays A c.this, end_stays B c.that)

both_then : (A B : Type 0) (c d e : Connection) → BothKeep A B c d → BothKeep A B d e → BothKeep A B c e
both_then A B c d e a b = (keeps_then A c.this d.this e.this a.0 b.0, keeps_then B c.that d.that e.that a.1 b.1)

-- What the ends hand to each other.

Exchanges : Type 0 → Type 0 → ℕ → Ticks → Type 0
Exchanges A B n ticks = (acting : End × Acted) (that : End) → BothKeep A B (both acting.0 that) (exchange n ticks acting that).0

offered_keeps : (A B : Type 0) (n : ℕ) (ticks : Ticks) → Exchanges B A n ticks → (r : Connection × List Output) (h : Hand) → BothKeep A B r.0 (other_takes (exchange n ticks) ticks r h).0
unfolding Exchanges
offered_keeps A B n ticks keep r h =
    let taken = end_takes ticks h r.0.that in
    let rest = keep taken r.0.this in
    (rest.1, keeps_then B r.0.that taken.0 (exchange n ticks taken r.0.this).0.this (end_takes_keeps B ticks h r.0.that) rest.0)

hands_keep : (A B : Type 0) (n : ℕ) (ticks : Ticks) → Exchanges B A n ticks → (hands : List Hand) (r : Connection × List Output)
    → BothKeep A B r.0 (fold (other_takes (exchange n ticks) ticks) r hands).0
hands_keep A B n ticks keep [] r = both_stay A B r.0
hands_keep A B n ticks keep (h ∷ hands) r =
    let r' = other_takes (exchange n ticks) ticks r h in
    both_then A B r.0 r'.0 (fold (other_takes (exchange n ticks) ticks) r' hands).0 (offered_keeps A B n ticks keep r h) (hands_keep A B n ticks keep hands r')

exchange_keeps : (n : ℕ) (A B : Type 0) (ticks : Ticks) → Exchanges A B n ticks
unfolding Exchanges exchange
exchange_keeps zero A B ticks acting that = both_stay A B (both acting.0 that)
exchange_keeps (suc n) A B ticks acting that =
    let first = fold (other_takes (exchange n ticks) ticks) (both acting.0 that, []) acting.1.first in
    let all = fold (other_takes (exchange n ticks) ticks) (with_more acting.1.outs first) acting.1.then in
    both_then A B (both acting.0 that) first.0 all.0
    (hands_keep A B n ticks (exchange_keeps n B A ticks) acting.1.first (both acting.0 that, []))
    (hands_keep A B n ticks (exchange_keeps n B A ticks) acting.1.then (with_more acting.1.outs first))

settled_keep : (A B : Type 0) (ticks : Ticks) (e that : End) (acting : End × Acted) → EndKeeps A e acting.0 → BothKeep A B (both e that) (settles ticks acting that).0
unfolding Exchanges
settled_keep A B ticks e that acting k =
    both_then A B (both e that) (both acting.0 that) (settles ticks acting that).0 (k, end_stays B that) (exchange_keeps 2 A B ticks acting that)

abbrev BothStay : Type 0 → Type 0 → Connection → Connection → Type 0
BothStay A B c d = StaysUnanswered A c.this d.this × StaysUnanswered B c.that d.that

settled_stay : (A B : Type 0) (ticks : Ticks) (e that : End) (acting : End × Acted) → StaysUnanswered A e acting.0 → BothStay A B (both e that) (settles ticks acting that).0
unfolding Exchanges
settled_stay A B ticks e that acting k =
    let keep = exchange_keeps 2 A B ticks acting that in (stays_then A e acting.0 (settles ticks acting that).0.this k keep.0, keep.1.0)

-- A message.

checked_stay : (A B : Type 0) (c : Option Output) (o : Occasion) (ticks : Ticks) (point : ℕ) (m : Parameters) (x : Section) (that : End) → (o ≡ on.Ea → A)
    → BothStay A B (both (wire x) that) (settles ticks (hears_checked ticks o point m (in_touch ticks x) c) that).0
checked_stay A B (Some out) o ticks point m x that answers = settled_stay A B ticks (wire x) that _ (λ e. inl e)
checked_stay A B None o ticks point m x that answers =
    settled_stay A B ticks (wire x) that _ (section_hears_stays (section_cell x.head.state o) o A ticks point m (in_touch ticks x) (cell_of o x.head.state) answers)

hears_stay : (A B : Type 0) (o : Occasion) (ticks : Ticks) (point : ℕ) (m : Parameters) (x : Section) (that : End) → (o ≡ on.Ea → A)
    → BothStay A B (both (wire x) that) (hears_message ticks o point m x that).0
unfolding hears_message
hears_stay A B o ticks point m x that answers =
    either (λ (r : Connection × List Output). BothStay A B (both (wire x) that) r.0) (is_from_elsewhere point x.head) _ _
    (λ _. (λ e. inl e, λ e. inl e)) (λ _. checked_stay A B (checked o m x.head) o ticks point m x that answers)

unchanged : (event : Event) (c : Connection) → BothStayUnanswered event c c
unchanged event c = (λ e. inl e, λ e. inl e)

at_this_stay : (event : Event) (reference : ℕ) (part : Section → End → Connection × List Output)
    → ((x : Section) (that : End) → is_named reference (wire x) ≡ true → BothStayUnanswered event (both (wire x) that) (part x that).0) → (this that : End) → is_named reference this ≡ true
    → BothStayUnanswered event (both this that) (at_this part (both this that)).0
at_this_stay event reference part stay (wire x) that n = stay x that n
at_this_stay event reference part stay (owner u) that n = unchanged event (both (owner u) that)

on_that_stay : (event : Event) (part : Connection → Connection × List Output) (c : Connection) → BothStayUnanswered event (turned c) (part (turned c)).0 → BothStayUnanswered event c (on_that part c).0
on_that_stay event part c s = (s.1, s.0)

at_reference_stay : (event : Event) (reference : ℕ) (part : Section → End → Connection × List Output)
    → ((x : Section) (that : End) → is_named reference (wire x) ≡ true → BothStayUnanswered event (both (wire x) that) (part x that).0)
    → (c : Connection) → names (Some reference) c ≡ true → BothStayUnanswered event c (at_reference reference part c).0
at_reference_stay event reference part stay c n =
    either (λ (r : Connection × List Output). BothStayUnanswered event c r.0) (is_named reference c.this) _ _
    (λ is. at_this_stay event reference part stay c.this c.that is)
    (λ no. on_that_stay event (at_this part) c (at_this_stay event reference part stay c.that c.this (other_named (is_named reference c.this) (is_named reference c.that) n no)))

heard_stay : (point sls : ℕ) (bytes : List ℕ) (ticks : Ticks) (a : Option Arrival) → a ≡ arrival_in bytes → (c : Connection) → names (destination_of a) c ≡ true
    → BothStayUnanswered (Arrived point sls bytes) c (heard_by ticks point a c).0
heard_stay point sls bytes ticks None e c n = unchanged (Arrived point sls bytes) c
heard_stay point sls bytes ticks (Some a) e c n =
    at_reference_stay (Arrived point sls bytes) a.parameters.dlr (hears_message ticks a.occasion point a.parameters)
    (λ x that named. hears_stay (Answers (Arrived point sls bytes) x) (IsAnsweredAt (Arrived point sls bytes) that) a.occasion ticks point a.parameters x that
    (λ is. subst (AnswersIn x) e (is, named))) c n

-- A request.

asks_unless_stay : (why : Option Reason) (ticks : Ticks) (event : Event) (r : Request) (u : User) (x : Section) → BothStayUnanswered event (both (owner u) (wire x)) (asks_unless why ticks r u x).0
asks_unless_stay (Some why) ticks event r u x = unchanged event (both (owner u) (wire x))
asks_unless_stay None ticks event r u x =
    settled_stay ⊥ (Answers event x) ticks (owner u) (wire x) (let done = user_asks (asking_cell u.state r) r u in (owner done.0, done.1)) (λ e. inl e)

asks_stay : (ticks : Ticks) (event : Event) (ssn : ℕ) (r : Request) (this that : End) → BothStayUnanswered event (both this that) (asks ticks ssn r this that).0
unfolding asks
asks_stay ticks event ssn r (owner u) (wire x) =
    either (λ (c : Connection × List Output). BothStayUnanswered event (both (owner u) (wire x)) c.0) (u.ssn == ssn) _ _
    (λ _. asks_unless_stay (reason_against r u x) ticks event r u x) (λ _. unchanged event (both (owner u) (wire x)))
asks_stay ticks event ssn r (owner u) (owner v) = unchanged event (both (owner u) (owner v))
asks_stay ticks event ssn r (wire x) that = unchanged event (both (wire x) that)

asked_stay : (ticks : Ticks) (event : Event) (ssn : ℕ) (r : Request) (this that : End) → BothStayUnanswered event (both this that) (asked_by ticks ssn r (both this that)).0
asked_stay ticks event ssn r (owner u) that = asks_stay ticks event ssn r (owner u) that
asked_stay ticks event ssn r (wire x) that = on_that_stay event (λ d. asks ticks ssn r d.this d.that) (both (wire x) that) (asks_stay ticks event ssn r that (wire x))

-- A tick.

fires_at_keep : (A B : Type 0) (ticks : Ticks) (timer : Timer) (this that : End) → BothKeep A B (both this that) (fires_at ticks timer this that).0
fires_at_keep A B ticks timer (wire x) that =
    settled_keep A B ticks (wire x) that _ (section_fires_keeps (section_cell x.head.state (firing timer)) A ticks (record x { timers = rearmed ticks timer x.timers }))
fires_at_keep A B ticks timer (owner u) that = both_stay A B (both (owner u) that)

fires_keep : (A B : Type 0) (ticks : Ticks) (timer : Timer) (this that : End) → BothKeep A B (both this that) (fires ticks timer this that).0
fires_keep A B ticks timer this that =
    either (λ (r : Connection × List Output). BothKeep A B (both this that) r.0) (is_due_at timer this) _ _ (λ _. fires_at_keep A B ticks timer this that) (λ _. both_stay A B (both this that))

fires_in_order : (A B : Type 0) (ticks : Ticks) (timers : List Timer) (r : Connection × List Output) → BothKeep A B r.0 (fold (fires_next ticks) r timers).0
fires_in_order A B ticks [] r = both_stay A B r.0
fires_in_order A B ticks (timer ∷ timers) r =
    let r' = fires_next ticks r timer in
    both_then A B r.0 r'.0 (fold (fires_next ticks) r' timers).0 (fires_keep A B ticks timer r.0.this r.0.that) (fires_in_order A B ticks timers r')

fires_due_keep : (A B : Type 0) (ticks : Ticks) (c : Connection) → BothKeep A B c (fires_due ticks c).0
unfolding fires_due
fires_due_keep A B ticks c = fires_in_order A B ticks firing_order (c, [])

ticked_keeps : (A : Type 0) (e : End) → EndKeeps A e (ticked e)
ticked_keeps A (wire x) = (λ e. inl e, λ n. n)
ticked_keeps A (owner u) = (λ e. inl e, λ n. n)

ticks_keep : (A B : Type 0) (ticks : Ticks) (c : Connection) → BothKeep A B c (ticks_by ticks c).0
ticks_keep A B ticks c =
    let begun = both (ticked c.this) (ticked c.that) in
    let one = (fires_due ticks begun).0 in
    let other = fires_due_keep B A ticks (turned one) in
    both_then A B c one (on_that (fires_due ticks) one).0
    (both_then A B c begun one (ticked_keeps A c.this, ticked_keeps B c.that) (fires_due_keep A B ticks begun)) (other.1, other.0)

pub event_answers : (ticks : Ticks) (c : Connection) (event : Event) → hears c event ≡ true → BothStayUnanswered event c (event_step ticks c event).0
unfolding hears
event_answers ticks c (Arrived point sls bytes) h = heard_stay point sls bytes ticks (arrival_in bytes) refl c h
event_answers ticks c (Requested ssn r) h = asked_stay ticks (Requested ssn r) ssn r c.this c.that
event_answers ticks c Tick h = let k = ticks_keep (IsAnsweredAt Tick c.this) (IsAnsweredAt Tick c.that) ticks c in (k.0.0, k.1.0)

-- What follows each event.

left_end : (b : Bool) (ticks : Ticks) (e that : End) (outs : List Output) (units : ℕ) (is_expedited : Bool)
    → (settles ticks (e, gives_then outs (if b then hand.Left units is_expedited ∷ [] else [])) that).0.this ≡ e
unfolding exchange
left_end true ticks e that outs units is_expedited = left_keeps 1 ticks e that outs units is_expedited
left_end false ticks e that outs units is_expedited = refl

or_true : (a b : Bool) → a ≡ true → (a || b) ≡ true
or_true true b e = refl
or_true false b e = absurd (false≢true e)

leaves_answers : (ticks : Ticks) (this that : End) → unanswered_at this ≡ true → unanswered_at (on_windows ticks leaves this that).0.this ≡ true
unfolding leaves
leaves_answers ticks (owner u) that e = e
leaves_answers ticks (wire x) that e =
    let w = x.windows in
    let is_expedited = is_some w.waiting && not w.unanswered in
    either (λ (r : Connection × List Output). unanswered_at r.0.this ≡ true) (is_up x.head.state && x.head.class == 3) _ _
    (λ _. ap unanswered_at (left_end (is_expedited || nat_lt 0 (may_leave w)) ticks (timed ticks x (by_windows leaves x)).0 that _ (may_leave w) is_expedited)
    ∙ or_true w.unanswered is_expedited e)
    (λ _. e)

alike_answers : (e f : End) → LeavesAlike e f → unanswered_at e ≡ true → unanswered_at f ≡ true
alike_answers (wire x) (wire y) k e = ap (λ (w : Windows). w.unanswered) k.1 ∙ e
alike_answers (owner u) f k e = absurd (false≢true e)
alike_answers (wire x) (owner v) k e = absurd k

acknowledges_answers : (ticks : Ticks) (this that : End) → AnswersNone (both this that) (on_windows ticks acknowledges this that).0
unfolding exchange acknowledges
acknowledges_answers ticks (owner u) that = (λ e. e, λ e. e)
acknowledges_answers ticks (wire x) that =
    let P : Connection × List Output → Type 0 = λ r. AnswersNone (both (wire x) that) r.0 in
    either P (is_up x.head.state && x.head.class == 3) _ _
    (λ _. either (λ (r : Windowed × Acted). P (settles ticks (timed ticks x (by_windows (λ w. r) x)) that)) (x.windows.passed == x.windows.told) _ _
    (λ _. (λ e. e, λ e. e)) (λ _. (λ e. e, λ e. e)))
    (λ _. (λ e. e, λ e. e))

pub after_answers : (ticks : Ticks) (r : Connection × List Output) → AnswersNone r.0 (after_event ticks r).0
unfolding after_event
after_answers ticks r =
    let d = this_left ticks r.0 in
    let e = this_left ticks (turned d) in
    let f = (on_windows ticks acknowledges e.that e.this).0 in
    let one = acknowledges_answers ticks e.that e.this in
    let two = acknowledges_answers ticks f.that f.this in (
      λ u. two.1 (one.0 (alike_answers d.this e.that (leaves_alike ticks d.that d.this) (leaves_answers ticks r.0.this r.0.that u))),
      λ u. two.0 (one.1 (leaves_answers ticks d.that d.this (alike_answers r.0.that d.that (leaves_alike ticks r.0.this r.0.that) u))),
    )
