-- Expedited data that waits on an end was handed over by the other.
use Rattle.std.proofs.Common.{◌≡◌, ℕ, zero, suc, ◌==◌, ◌&&◌, ◌||◌, nat_lt, is_some, not, true, false, List, [], ◌∷◌, ◌++◌, fold, Option, Some, None, unwrap_or, refl, ap, subst, inl, inr, ◌⊎◌}
use Rattle.std.proofs.lemmas.Option.{none-some}
use Rattle.relay_base.specs.declared.causes.TheConstants.{RESET_INCORRECT_RECEIVE_NUMBER, RESET_OUT_OF_WINDOW, RESET_REMOTE_PROCEDURE_ERROR}
use Rattle.relay_base.specs.declared.words.Event.{Event}
use Rattle.relay_base.specs.declared.words.Event.TheVariants.{Message as Arrived, Asked as Requested, Tick}
use Rattle.relay_base.specs.declared.words.Request.{Request}
use Rattle.relay_base.specs.declared.words.Request.TheVariants as request
use Rattle.relay_base.specs.declared.words.Reason.{Reason}
use Rattle.relay_base.specs.declared.words.Output.{Output}
use Rattle.plant_core.specs.declared.terms.Ticks.{Ticks}
use Rattle.section_model.specs.declared.cell.Timer.{Timer}
use Rattle.section_model.specs.declared.cell.Cell.{Cell}
use Rattle.section_model.specs.declared.cell.Cell.TheVariants as cell
use Rattle.section_model.specs.declared.cell.Occasion.{Occasion}
use Rattle.section_model.specs.declared.cell.Occasion.TheVariants as on
use Rattle.section_model.specs.declared.hand.Hand.{Hand}
use Rattle.section_model.specs.declared.hand.Hand.TheVariants as hand
use Rattle.section_model.specs.declared.hand.Acted.{Acted}
use Rattle.section_model.specs.Table.{section_cell}
use Rattle.section_model.specs.Parameters.{Parameters, Arrival, arrival_in}
use Rattle.section_model.specs.Ends.{End, wire, owner, Line, Section, User, Connection, turned, is_up, is_connected}
use Rattle.section_flow.specs.Windows.{Windows, is_valid, may_leave, wrong_number}
use Rattle.section_model.specs.Line.{line_hears, line_fires, line_takes}
use Rattle.section_model.specs.Windowed.{Windowed, windowed_hears, windowed_fires, windowed_takes, is_next, is_used_up, resets, takes_data, sends_expedited, leaves, acknowledges}
use Rattle.section_model.specs.UserEnd.{user_asks, user_takes, units_of}
use Rattle.section_model.specs.Timing.{firing_order, firing, rearmed}
use Rattle.section_model.specs.Acting.{by_line, line_in, in_windows, section_hears, section_fires, section_takes, section_takes_by, user_takes_by, end_takes}
use Rattle.section_model.specs.Laws.{hands_of}
use Rattle.section_model.specs.Coupling.{with_more, other_takes, exchange, settles, on_that}
use Rattle.section_model.specs.Step.{checked, hears_checked, in_touch, is_from_elsewhere, hears_message, asking_cell, reason_against, asks_unless, asks, ticked, is_due_at, fires_at, fires, fires_next, fires_due, ticks_by, is_named, at_this, at_reference, heard_by, asked_by, event_step, names, destination_of, hears, on_windows, on_each, after_event, connection_step}
use Rattle.connection_law.proofs.Cells.{IsCellOf, cell_of}
use Rattle.connection_law.proofs.Flow.Flowing.{either}
use Rattle.connection_law.specs.ExpeditedSent.{waiting_at, GivesIn, Gives, IsHandedOver, AreHandedOver}
use Rattle.connection_law.proofs.Message.Plain.{AreOther, ActsPlain, left_other, line_hears_plain, line_fires_plain, line_takes_plain, user_takes_plain, units_other}
use Rattle.connection_law.proofs.Message.Acting.{both}
use Rattle.connection_law.proofs.Message.Hearing.{other_named}

same : (B : List ℕ → Type 0) (w : Option (List ℕ)) → IsHandedOver B w w
same B w = λ body e. inl e

dropped : (B : List ℕ → Type 0) (w : Option (List ℕ)) → IsHandedOver B w None
dropped B w = λ body e. absurd (none-some body e)

brought : (B : List ℕ → Type 0) (w : Option (List ℕ)) (body : List ℕ) → B body → IsHandedOver B w (Some body)
brought B w body brings = λ other e. inr (subst (λ (octets : List ℕ). B octets) (ap (λ (o : Option (List ℕ)). unwrap_or o body) e) brings)

then_over : (B : List ℕ → Type 0) (a b c : Option (List ℕ)) → IsHandedOver B a b → IsHandedOver B b c → IsHandedOver B a c
then_over B a b c f g = λ body e. by_second body (g body e)
  where
    by_second : (body : List ℕ) → (b ≡ Some body) ⊎ B body → (a ≡ Some body) ⊎ B body
    by_second body (inl e) = f body e
    by_second body (inr brings) = inr brings

-- Effects on the other end: expedited data that may be handed over, and others.

abbrev IsBrought : (List ℕ → Type 0) → Hand → Type 0
IsBrought B (hand.Expedited body) = B body
IsBrought B _ = Unit {0}

unfoldable AreBrought : (List ℕ → Type 0) → List Hand → Type 0
AreBrought B [] = Unit {0}
AreBrought B (h ∷ hands) = IsBrought B h × AreBrought B hands

others : (B : List ℕ → Type 0) (hands : List Hand) → AreOther hands → AreBrought B hands
unfolding AreOther AreBrought
others B [] o = tt
others B (hand.Expedited body ∷ hands) o = absurd o.0
others B (hand.Accept class credit called body importance ∷ hands) o = (tt, others B hands o.1)
others B (hand.Refuse cause called body importance ∷ hands) o = (tt, others B hands o.1)
others B (hand.End cause body importance ∷ hands) o = (tt, others B hands o.1)
others B (hand.Unit more body ∷ hands) o = (tt, others B hands o.1)
others B (hand.Reset cause ∷ hands) o = (tt, others B hands o.1)
others B (hand.Done ∷ hands) o = (tt, others B hands o.1)
others B (hand.Left units expedited ∷ hands) o = (tt, others B hands o.1)

parted_brought : (B : List ℕ → Type 0) (one two : List Hand) → AreBrought B (one ++ two) → AreBrought B one × AreBrought B two
unfolding AreBrought
parted_brought B [] two n = (tt, n)
parted_brought B (h ∷ one) two n = let rest = parted_brought B one two n.1 in ((n.0, rest.0), rest.1)

-- The windows of a section.

WindowsOver : (List ℕ → Type 0) → (List ℕ → Type 0) → Windowed → Windowed × Acted → Type 0
WindowsOver A B x r = IsHandedOver A x.windows.waiting r.0.windows.waiting × AreBrought B (hands_of r.1)

resets_over : (A B : List ℕ → Type 0) (cause : ℕ) (x : Windowed) → WindowsOver A B x (resets cause x)
unfolding WindowsOver AreBrought
resets_over A B cause x = (dropped A x.windows.waiting, (tt, tt))

data_over : (A B : List ℕ → Type 0) (m : Parameters) (x : Windowed) → WindowsOver A B x (takes_data m x)
unfolding WindowsOver AreBrought
data_over A B m x =
    either (WindowsOver A B x) (not (is_next m x)) _ _ (λ _. resets_over A B (wrong_number x.windows) x)
    (λ _. either (WindowsOver A B x) (is_used_up x) _ _ (λ _. resets_over A B RESET_OUT_OF_WINDOW x)
    (λ _. either (WindowsOver A B x) (not (is_valid m.pr x.windows)) _ _ (λ _. resets_over A B RESET_INCORRECT_RECEIVE_NUMBER x)
    (λ _. (same A x.windows.waiting, (tt, tt)))))

leaves_over : (A B : List ℕ → Type 0) (body : Option (List ℕ)) (x : Windowed) → WindowsOver A B x (sends_expedited body x)
unfolding WindowsOver AreBrought
leaves_over A B None x = (same A x.windows.waiting, tt)
leaves_over A B (Some body) x = (dropped A x.windows.waiting, (tt, tt))

windows_hear : (c : Cell) (o : Occasion) (A B : List ℕ → Type 0) (m : Parameters) (x : Windowed) → IsCellOf c o x.head.state → (o ≡ on.Ed → B m.data_octets) → WindowsOver A B x (windowed_hears c m x)
unfolding windowed_hears WindowsOver AreBrought
windows_hear cell.TakeNumberedData o A B m x is brings = data_over A B m x
windows_hear cell.TakeAcknowledgement o A B m x is brings =
    either (WindowsOver A B x) (is_valid m.pr x.windows) _ _ (λ _. (same A x.windows.waiting, tt)) (λ _. resets_over A B RESET_INCORRECT_RECEIVE_NUMBER x)
windows_hear cell.TakeExpedited o A B m x is brings =
    either (WindowsOver A B x) x.windows.owed _ _ (λ _. resets_over A B RESET_REMOTE_PROCEDURE_ERROR x) (λ _. (same A x.windows.waiting, (brings is, tt)))
windows_hear cell.TakeExpeditedAcknowledgement o A B m x is brings =
    either (WindowsOver A B x) x.windows.unanswered _ _
    (λ _. leaves_over A B x.windows.waiting (record x { windows = record x.windows { unanswered = false } })) (λ _. (same A x.windows.waiting, tt))
windows_hear cell.ResetByPeer o A B m x is brings = (dropped A x.windows.waiting, (tt, tt))
windows_hear cell.ResetComplete o A B m x is brings = (same A x.windows.waiting, (tt, tt))
windows_hear _ o A B m x is brings = (same A x.windows.waiting, tt)

windows_take : (c : Cell) (h : Hand) (A B : List ℕ → Type 0) (x : Windowed) → IsBrought A h → WindowsOver A B x (windowed_takes c h x)
unfolding windowed_takes WindowsOver AreBrought
windows_take cell.PassUnit (hand.Unit more body) A B x b = (same A x.windows.waiting, tt)
windows_take cell.PassUnit _ A B x b = (same A x.windows.waiting, tt)
windows_take cell.PassExpedited (hand.Expedited body) A B x b =
    either (WindowsOver A B x) (is_up x.head.state && not x.windows.unanswered) _ _
    (λ _. leaves_over A B (Some body) x) (λ _. (brought A x.windows.waiting body b, tt))
windows_take cell.PassExpedited _ A B x b = (same A x.windows.waiting, tt)
windows_take cell.PassReset (hand.Reset cause) A B x b = (dropped A x.windows.waiting, tt)
windows_take cell.PassReset _ A B x b = (same A x.windows.waiting, tt)
windows_take cell.ClearCounts h A B x b = (dropped A x.windows.waiting, tt)
windows_take cell.Left (hand.Left units true) A B x b = (same A x.windows.waiting, tt)
windows_take cell.Left (hand.Left units false) A B x b = (same A x.windows.waiting, tt)
windows_take cell.Left _ A B x b = (same A x.windows.waiting, tt)
windows_take _ h A B x b = (same A x.windows.waiting, tt)

-- A section, by its windows or its line.

SectionOver : (List ℕ → Type 0) → (List ℕ → Type 0) → Section → Section × Acted → Type 0
SectionOver A B x r = IsHandedOver A x.windows.waiting r.0.windows.waiting × AreBrought B (hands_of r.1)

line_over : (A B : List ℕ → Type 0) (x : Section) (act : Line → Line × Acted) → ActsPlain (act (line_in x)).1 → SectionOver A B x (by_line act x)
unfolding SectionOver ActsPlain
line_over A B x act p =
    let done = act (line_in x) in (
      either (λ (w : Windows). IsHandedOver A x.windows.waiting w.waiting) (is_up done.0.head.state && not (is_connected x.head.state)) _ _
          (λ _. dropped A x.windows.waiting) (λ _. same A x.windows.waiting),
      others B (hands_of done.1) p.1,
    )

ActsOver : (List ℕ → Type 0) → (List ℕ → Type 0) → End → End × Acted → Type 0
ActsOver A B e r = IsHandedOver A (waiting_at e) (waiting_at r.0) × AreBrought B (hands_of r.1)

section_hears_over : (c : Cell) (o : Occasion) (A B : List ℕ → Type 0) (ticks : Ticks) (point : ℕ) (m : Parameters) (x : Section) → IsCellOf c o x.head.state → (o ≡ on.Ed → B m.data_octets)
    → ActsOver A B (wire x) (section_hears ticks c point m x)
unfolding ActsOver SectionOver section_hears WindowsOver
section_hears_over c o A B ticks point m x is brings =
    either (SectionOver A B x) (in_windows c x) _ _ (λ _. windows_hear c o A B m (record { head = x.head; windows = x.windows }) is brings)
    (λ _. line_over A B x (line_hears c point m) (line_hears_plain c point m (line_in x)))

section_fires_over : (c : Cell) (A B : List ℕ → Type 0) (ticks : Ticks) (x : Section) → ActsOver A B (wire x) (section_fires ticks c x)
unfolding ActsOver SectionOver ActsPlain section_fires windowed_fires AreBrought
section_fires_over c A B ticks x =
    either (SectionOver A B x) (in_windows c x) _ _ (λ _. (same A x.windows.waiting, tt))
    (λ _. line_over A B x (line_fires c) (line_fires_plain c (line_in x)))

section_takes_over : (c : Cell) (h : Hand) (A B : List ℕ → Type 0) (ticks : Ticks) (x : Section) → IsBrought A h → ActsOver A B (wire x) (section_takes ticks c h x)
unfolding ActsOver SectionOver section_takes WindowsOver
section_takes_over c h A B ticks x b =
    either (SectionOver A B x) (in_windows c x) _ _ (λ _. windows_take c h A B (record { head = x.head; windows = x.windows }) b)
    (λ _. line_over A B x (line_takes c h) (line_takes_plain c h (line_in x)))

end_takes_over : (A B : List ℕ → Type 0) (ticks : Ticks) (h : Hand) (e : End) → IsBrought A h → ActsOver A B e (end_takes ticks h e)
unfolding ActsOver ActsPlain
end_takes_over A B ticks h (wire x) b = section_takes_over (section_takes_by x.head.state h) h A B ticks x b
end_takes_over A B ticks h (owner u) b =
    let done = user_takes (user_takes_by u.state h) h u in (same A None, others B (hands_of done.1) (user_takes_plain (user_takes_by u.state h) h u).1)

-- What the ends hand to each other: to the one that acts A, and to the other B.

stays_over : (A B : List ℕ → Type 0) (c : Connection) → AreHandedOver A B c c
stays_over A B c = (same A (waiting_at c.this), same B (waiting_at c.that))

over_then : (A B : List ℕ → Type 0) (c d e : Connection) → AreHandedOver A B c d → AreHandedOver A B d e → AreHandedOver A B c e
over_then A B c d e f g =
    (then_over A (waiting_at c.this) (waiting_at d.this) (waiting_at e.this) f.0 g.0, then_over B (waiting_at c.that) (waiting_at d.that) (waiting_at e.that) f.1 g.1)

Exchanges : (List ℕ → Type 0) → (List ℕ → Type 0) → ℕ → Ticks → Type 0
Exchanges A B n ticks = (acting : End × Acted) (that : End) → AreBrought B (hands_of acting.1) → AreHandedOver A B (both acting.0 that) (exchange n ticks acting that).0

offered_over : (A B : List ℕ → Type 0) (n : ℕ) (ticks : Ticks) → Exchanges B A n ticks → (r : Connection × List Output) (h : Hand) → IsBrought B h
    → AreHandedOver A B r.0 (other_takes (exchange n ticks) ticks r h).0
unfolding Exchanges ActsOver
offered_over A B n ticks over r h b =
    let taken = end_takes ticks h r.0.that in
    let f = end_takes_over B A ticks h r.0.that b in
    let rest = over taken r.0.this f.1 in
    (rest.1, then_over B (waiting_at r.0.that) (waiting_at taken.0) (waiting_at (exchange n ticks taken r.0.this).0.this) f.0 rest.0)

hands_over : (A B : List ℕ → Type 0) (n : ℕ) (ticks : Ticks) → Exchanges B A n ticks → (hands : List Hand) (r : Connection × List Output) → AreBrought B hands
    → AreHandedOver A B r.0 (fold (other_takes (exchange n ticks) ticks) r hands).0
unfolding AreBrought
hands_over A B n ticks over [] r b = stays_over A B r.0
hands_over A B n ticks over (h ∷ hands) r b =
    let r' = other_takes (exchange n ticks) ticks r h in
    over_then A B r.0 r'.0 (fold (other_takes (exchange n ticks) ticks) r' hands).0 (offered_over A B n ticks over r h b.0) (hands_over A B n ticks over hands r' b.1)

exchange_over : (n : ℕ) (A B : List ℕ → Type 0) (ticks : Ticks) → Exchanges A B n ticks
unfolding Exchanges exchange
exchange_over zero A B ticks acting that b = stays_over A B (both acting.0 that)
exchange_over (suc n) A B ticks acting that b =
    let parts = parted_brought B acting.1.first acting.1.then b in
    let first = fold (other_takes (exchange n ticks) ticks) (both acting.0 that, []) acting.1.first in
    let all = fold (other_takes (exchange n ticks) ticks) (with_more acting.1.outs first) acting.1.then in
    over_then A B (both acting.0 that) first.0 all.0
    (hands_over A B n ticks (exchange_over n B A ticks) acting.1.first (both acting.0 that, []) parts.0)
    (hands_over A B n ticks (exchange_over n B A ticks) acting.1.then (with_more acting.1.outs first) parts.1)

-- an act, and what the ends hand to each other then
settled_over : (A B : List ℕ → Type 0) (ticks : Ticks) (e that : End) (acting : End × Acted) → ActsOver A B e acting → AreHandedOver A B (both e that) (settles ticks acting that).0
unfolding ActsOver Exchanges
settled_over A B ticks e that acting f =
    over_then A B (both e that) (both acting.0 that) (settles ticks acting that).0 (f.0, same B (waiting_at that)) (exchange_over 2 A B ticks acting that f.1)

-- A message.

checked_over : (A B : List ℕ → Type 0) (c : Option Output) (o : Occasion) (ticks : Ticks) (point : ℕ) (m : Parameters) (x : Section) (that : End) → (o ≡ on.Ed → B m.data_octets)
    → AreHandedOver A B (both (wire x) that) (settles ticks (hears_checked ticks o point m (in_touch ticks x) c) that).0
unfolding ActsOver AreBrought
checked_over A B (Some out) o ticks point m x that gives = settled_over A B ticks (wire x) that _ (same A x.windows.waiting, tt)
checked_over A B None o ticks point m x that gives =
    settled_over A B ticks (wire x) that _ (section_hears_over (section_cell x.head.state o) o A B ticks point m (in_touch ticks x) (cell_of o x.head.state) gives)

hears_over : (A B : List ℕ → Type 0) (o : Occasion) (ticks : Ticks) (point : ℕ) (m : Parameters) (x : Section) (that : End) → (o ≡ on.Ed → B m.data_octets)
    → AreHandedOver A B (both (wire x) that) (hears_message ticks o point m x that).0
unfolding hears_message
hears_over A B o ticks point m x that gives =
    either (λ (r : Connection × List Output). AreHandedOver A B (both (wire x) that) r.0) (is_from_elsewhere point x.head) _ _
    (λ _. stays_over A B (both (wire x) that)) (λ _. checked_over A B (checked o m x.head) o ticks point m x that gives)

-- what the ends hand over at an event
abbrev GivenOver : Event → Connection → Connection → Type 0
GivenOver event c d = AreHandedOver (Gives event c.that) (Gives event c.this) c d

stays_given : (event : Event) (c : Connection) → GivenOver event c c
stays_given event c = stays_over (Gives event c.that) (Gives event c.this) c

on_that_over : (A B : List ℕ → Type 0) (part : Connection → Connection × List Output) (c : Connection) → AreHandedOver B A (turned c) (part (turned c)).0 → AreHandedOver A B c (on_that part c).0
on_that_over A B part c f = (f.1, f.0)

at_this_over : (event : Event) (reference : ℕ) (part : Section → End → Connection × List Output)
    → ((x : Section) (that : End) → is_named reference (wire x) ≡ true → GivenOver event (both (wire x) that) (part x that).0) → (this that : End) → is_named reference this ≡ true
    → GivenOver event (both this that) (at_this part (both this that)).0
at_this_over event reference part over (wire x) that n = over x that n
at_this_over event reference part over (owner u) that n = stays_given event (both (owner u) that)

at_reference_over : (event : Event) (reference : ℕ) (part : Section → End → Connection × List Output)
    → ((x : Section) (that : End) → is_named reference (wire x) ≡ true → GivenOver event (both (wire x) that) (part x that).0)
    → (c : Connection) → names (Some reference) c ≡ true → GivenOver event c (at_reference reference part c).0
at_reference_over event reference part over c n =
    either (λ (r : Connection × List Output). GivenOver event c r.0) (is_named reference c.this) _ _
    (λ is. at_this_over event reference part over c.this c.that is)
    (λ no. on_that_over (Gives event c.that) (Gives event c.this) (at_this part) c
    (at_this_over event reference part over c.that c.this (other_named (is_named reference c.this) (is_named reference c.that) n no)))

heard_over : (point sls : ℕ) (bytes : List ℕ) (ticks : Ticks) (a : Option Arrival) → a ≡ arrival_in bytes → (c : Connection) → names (destination_of a) c ≡ true
    → GivenOver (Arrived point sls bytes) c (heard_by ticks point a c).0
heard_over point sls bytes ticks None e c n = stays_given (Arrived point sls bytes) c
heard_over point sls bytes ticks (Some a) e c n =
    at_reference_over (Arrived point sls bytes) a.parameters.dlr (hears_message ticks a.occasion point a.parameters)
    (λ x that named. hears_over (Gives (Arrived point sls bytes) that) (Gives (Arrived point sls bytes) (wire x)) a.occasion ticks point a.parameters x that
    (λ is. subst (GivesIn (wire x) a.parameters.data_octets) e (is, refl, named))) c n

-- A request.

user_asks_over : (c : Cell) (r : Request) (ssn : ℕ) (u : User) → AreBrought (Gives (Requested ssn r) (owner u)) (hands_of (user_asks c r u).1)
unfolding user_asks AreBrought
user_asks_over cell.UserAccepts (request.Accept mine class credit body) ssn u = (tt, tt)
user_asks_over cell.UserAccepts r ssn u = tt
user_asks_over cell.UserRefuses (request.Refuse mine cause body) ssn u = (tt, tt)
user_asks_over cell.UserRefuses r ssn u = tt
user_asks_over cell.UserSends (request.Send mine body) ssn u = others (Gives (Requested ssn (request.Send mine body)) (owner u)) _ (units_other (units_of body))
user_asks_over cell.UserSends r ssn u = tt
user_asks_over cell.UserExpedites (request.Expedite mine body) ssn u = (refl, tt)
user_asks_over cell.UserExpedites r ssn u = tt
user_asks_over cell.UserResets r ssn u = (tt, tt)
user_asks_over cell.UserDisconnects (request.Disc mine cause body) ssn u = (tt, tt)
user_asks_over cell.UserDisconnects r ssn u = tt
user_asks_over _ r ssn u = tt

asks_unless_over : (why : Option Reason) (ticks : Ticks) (ssn : ℕ) (r : Request) (u : User) (x : Section) → GivenOver (Requested ssn r) (both (owner u) (wire x)) (asks_unless why ticks r u x).0
unfolding ActsOver
asks_unless_over (Some why) ticks ssn r u x = stays_given (Requested ssn r) (both (owner u) (wire x))
asks_unless_over None ticks ssn r u x =
    let ToUser : List ℕ → Type 0 = Gives (Requested ssn r) (wire x) in
    settled_over ToUser (Gives (Requested ssn r) (owner u)) ticks (owner u) (wire x) _ (same ToUser None, user_asks_over (asking_cell u.state r) r ssn u)

asks_over : (ticks : Ticks) (ssn : ℕ) (r : Request) (this that : End) → GivenOver (Requested ssn r) (both this that) (asks ticks ssn r this that).0
unfolding asks
asks_over ticks ssn r (owner u) (wire x) =
    either (λ (c : Connection × List Output). GivenOver (Requested ssn r) (both (owner u) (wire x)) c.0) (u.ssn == ssn) _ _
    (λ _. asks_unless_over (reason_against r u x) ticks ssn r u x) (λ _. stays_given (Requested ssn r) (both (owner u) (wire x)))
asks_over ticks ssn r (owner u) (owner v) = stays_given (Requested ssn r) (both (owner u) (owner v))
asks_over ticks ssn r (wire x) that = stays_given (Requested ssn r) (both (wire x) that)

asked_over : (ticks : Ticks) (ssn : ℕ) (r : Request) (this that : End) → GivenOver (Requested ssn r) (both this that) (asked_by ticks ssn r (both this that)).0
asked_over ticks ssn r (owner u) that = asks_over ticks ssn r (owner u) that
asked_over ticks ssn r (wire x) that =
    on_that_over (Gives (Requested ssn r) that) (Gives (Requested ssn r) (wire x)) (λ d. asks ticks ssn r d.this d.that) (both (wire x) that) (asks_over ticks ssn r that (wire x))

-- A tick.

fires_at_over : (A B : List ℕ → Type 0) (ticks : Ticks) (timer : Timer) (this that : End) → AreHandedOver A B (both this that) (fires_at ticks timer this that).0
unfolding ActsOver
fires_at_over A B ticks timer (wire x) that =
    settled_over A B ticks (wire x) that _ (section_fires_over (section_cell x.head.state (firing timer)) A B ticks (record x { timers = rearmed ticks timer x.timers }))
fires_at_over A B ticks timer (owner u) that = stays_over A B (both (owner u) that)

fires_over : (A B : List ℕ → Type 0) (ticks : Ticks) (timer : Timer) (this that : End) → AreHandedOver A B (both this that) (fires ticks timer this that).0
fires_over A B ticks timer this that =
    either (λ (r : Connection × List Output). AreHandedOver A B (both this that) r.0) (is_due_at timer this) _ _ (λ _. fires_at_over A B ticks timer this that) (λ _. stays_over A B (both this that))

fires_in_order : (A B : List ℕ → Type 0) (ticks : Ticks) (timers : List Timer) (r : Connection × List Output) → AreHandedOver A B r.0 (fold (fires_next ticks) r timers).0
fires_in_order A B ticks [] r = stays_over A B r.0
fires_in_order A B ticks (timer ∷ timers) r =
    let r' = fires_next ticks r timer in
    over_then A B r.0 r'.0 (fold (fires_next ticks) r' timers).0 (fires_over A B ticks timer r.0.this r.0.that) (fires_in_order A B ticks timers r')

fires_due_over : (A B : List ℕ → Type 0) (ticks : Ticks) (c : Connection) → AreHandedOver A B c (fires_due ticks c).0
unfolding fires_due
fires_due_over A B ticks c = fires_in_order A B ticks firing_order (c, [])

ticked_over : (A : List ℕ → Type 0) (e : End) → IsHandedOver A (waiting_at e) (waiting_at (ticked e))
ticked_over A (wire x) = same A x.windows.waiting
ticked_over A (owner u) = same A None

ticks_over : (A B : List ℕ → Type 0) (ticks : Ticks) (c : Connection) → AreHandedOver A B c (ticks_by ticks c).0
ticks_over A B ticks c =
    let begun = both (ticked c.this) (ticked c.that) in
    let one = (fires_due ticks begun).0 in
    over_then A B c one (on_that (fires_due ticks) one).0
    (over_then A B c begun one (ticked_over A c.this, ticked_over B c.that) (fires_due_over A B ticks begun))
    (on_that_over A B (fires_due ticks) one (fires_due_over B A ticks (turned one)))

pub event_hands_over : (ticks : Ticks) (c : Connection) (event : Event) → hears c event ≡ true → AreHandedOver (Gives event c.that) (Gives event c.this) c (event_step ticks c event).0
unfolding hears
event_hands_over ticks c (Arrived point sls bytes) h = heard_over point sls bytes ticks (arrival_in bytes) refl c h
event_hands_over ticks c (Requested ssn r) h = asked_over ticks ssn r c.this c.that
event_hands_over ticks c Tick h = ticks_over (Gives Tick c.that) (Gives Tick c.this) ticks c

-- What follows each event.

leaves_over_windows : (A B : List ℕ → Type 0) (x : Windowed) → WindowsOver A B x (leaves x)
unfolding leaves WindowsOver
leaves_over_windows A B x =
    let is_expedited = is_some x.windows.waiting && not x.windows.unanswered in (
      either (IsHandedOver A x.windows.waiting) is_expedited _ _ (λ _. dropped A x.windows.waiting) (λ _. same A x.windows.waiting),
      others B _ (left_other (is_expedited || nat_lt 0 (may_leave x.windows)) (may_leave x.windows) is_expedited),
    )

acknowledges_over : (A B : List ℕ → Type 0) (x : Windowed) → WindowsOver A B x (acknowledges x)
unfolding acknowledges WindowsOver AreBrought
acknowledges_over A B x =
    either (WindowsOver A B x) (x.windows.passed == x.windows.told) _ _ (λ _. (same A x.windows.waiting, tt)) (λ _. (same A x.windows.waiting, tt))

on_windows_over : (A B : List ℕ → Type 0) (ticks : Ticks) (act : Windowed → Windowed × Acted) → ((A B : List ℕ → Type 0) (x : Windowed) → WindowsOver A B x (act x)) → (this that : End)
    → AreHandedOver A B (both this that) (on_windows ticks act this that).0
unfolding ActsOver WindowsOver
on_windows_over A B ticks act over (owner u) that = stays_over A B (both (owner u) that)
on_windows_over A B ticks act over (wire x) that =
    either (λ (r : Connection × List Output). AreHandedOver A B (both (wire x) that) r.0) (is_up x.head.state && x.head.class == 3) _ _
    (λ _. settled_over A B ticks (wire x) that _ (over A B (record { head = x.head; windows = x.windows }))) (λ _. stays_over A B (both (wire x) that))

on_each_over : (A B : List ℕ → Type 0) (ticks : Ticks) (act : Windowed → Windowed × Acted) → ((A B : List ℕ → Type 0) (x : Windowed) → WindowsOver A B x (act x)) → (r : Connection × List Output)
    → AreHandedOver A B r.0 (on_each (on_windows ticks act) r).0
on_each_over A B ticks act over r =
    let one = (on_windows ticks act r.0.this r.0.that).0 in
    over_then A B r.0 one (on_each (on_windows ticks act) r).0 (on_windows_over A B ticks act over r.0.this r.0.that)
    (on_that_over A B (λ c. on_windows ticks act c.this c.that) one (on_windows_over B A ticks act over one.that one.this))

pub step_hands_over : (ticks : Ticks) (c : Connection) (event : Event) → hears c event ≡ true → AreHandedOver (Gives event c.that) (Gives event c.this) c (connection_step ticks c event).0
unfolding connection_step after_event
step_hands_over ticks c event h =
    let ToThis : List ℕ → Type 0 = Gives event c.that in
    let ToThat : List ℕ → Type 0 = Gives event c.this in
    let r = event_step ticks c event in
    let left = on_each (on_windows ticks leaves) r in
    let done = on_each (on_windows ticks acknowledges) left in
    over_then ToThis ToThat c left.0 done.0
    (over_then ToThis ToThat c r.0 left.0 (event_hands_over ticks c event h) (on_each_over ToThis ToThat ticks leaves leaves_over_windows r))
    (on_each_over ToThis ToThat ticks acknowledges acknowledges_over left)
