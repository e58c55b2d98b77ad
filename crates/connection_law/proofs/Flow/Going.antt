-- What came in at both ends goes on, or begins anew, over what an event does before units leave.
use Rattle.std.proofs.Common.{ℕ, zero, suc, ◌==◌, List, [], ◌∷◌, ◌++◌, fold, Option, Some, None, ◌≡◌, ◌⊎◌, ◌∙◌, sym, refl, inl, inr}
use Rattle.relay_base.specs.declared.words.Event.{Event}
use Rattle.relay_base.specs.declared.words.Event.TheVariants.{Message as Arrived, Asked as Requested, Tick}
use Rattle.relay_base.specs.declared.words.Request.{Request}
use Rattle.relay_base.specs.declared.words.Reason.{Reason}
use Rattle.relay_base.specs.declared.words.Output.{Output}
use Rattle.plant_core.specs.declared.terms.Ticks.{Ticks}
use Rattle.section_model.specs.declared.cell.Timer.{Timer}
use Rattle.section_model.specs.Laws.{hands_of}
use Rattle.section_model.specs.declared.cell.Occasion.{Occasion}
use Rattle.section_model.specs.declared.hand.Hand.{Hand}
use Rattle.section_model.specs.declared.hand.Acted.{Acted}
use Rattle.section_model.specs.Table.{section_cell}
use Rattle.section_model.specs.Ends.{End, wire, owner, Section, User, Connection, turned}
use Rattle.section_model.specs.Parameters.{Parameters, Arrival, arrival_in}
use Rattle.section_model.specs.Timing.{firing_order, firing, rearmed}
use Rattle.section_model.specs.Acting.{end_takes}
use Rattle.section_model.specs.Coupling.{with_more, other_takes, exchange, settles, on_that}
use Rattle.section_model.specs.Step.{checked, hears_checked, hears_message, is_from_elsewhere, in_touch, asking_cell, reason_against, asks_unless, asks, ticked, is_due_at, fires_at, fires, fires_next, fires_due, ticks_by, is_named, at_this, at_reference, heard_by, asked_by, event_step}
use Rattle.connection_law.specs.InStep.{passed_at, got_at, sent_at}
use Rattle.connection_law.proofs.Flow.Flowing.{either, IsSection}
use Rattle.connection_law.proofs.Flow.Growing.{CountsOn, cell_before, GrowsAt, same_grows, then_grows, NoUnits, NoneLeft, StaysAs, Fine, IsNumbered, TakesFine, section_hears_fine, section_fires_fine, end_takes_fine, user_asks_fine}

-- what came in at an end goes on, where the other end is a section of class 3 of which the counts weren't cleared
abbrev pub GrowsBeside : End → End → End → Type 0
GrowsBeside other e e' = IsNumbered other → (sent_at other ≡ 0) ⊎ GrowsAt e e'

-- from one connection to another: both ends stay of their kind, and what came in at either goes on
abbrev pub Goes : Connection → Connection → Type 0
Goes c d = StaysAs c.this d.this × StaysAs c.that d.that × GrowsBeside d.that c.this d.this × GrowsBeside d.this c.that d.that

kind_stays : (e : End) → StaysAs e e
kind_stays (wire x) = inr (refl, refl)
kind_stays (owner u) = tt

counts_then : (a b c i j k : ℕ) → CountsOn a i b j → CountsOn b j c k → CountsOn a i c k
counts_then a b c i j k one (inl none) = inl none
counts_then a b c i j k (inl none) (inr same) = inl (rw same.1 none)
counts_then a b c i j k (inr same) (inr same') = inr (rw same'.0 same.0, rw same'.1 same.1)

kind_then : (e f g : End) → StaysAs e f → StaysAs f g → StaysAs e g
kind_then (wire x) (wire y) (wire z) a b = counts_then x.head.class y.head.class z.head.class x.windows.sent y.windows.sent z.windows.sent a b
kind_then (wire x) (wire y) (owner w) a b = absurd b
kind_then (wire x) (owner v) g a b = absurd a
kind_then (owner u) (owner v) (owner w) a b = tt
kind_then (owner u) (owner v) (wire z) a b = absurd b
kind_then (owner u) (wire y) g a b = absurd a

is_section : (e : End) → IsNumbered e → IsSection e
is_section (wire x) n = tt
is_section (owner u) n = absurd n

-- a section of class 3 was one, and sent as much; or its counts are cleared
numbered_back : (e f : End) → StaysAs e f → IsNumbered f → (sent_at f ≡ 0) ⊎ (IsNumbered e × (sent_at f ≡ sent_at e))
numbered_back (wire x) (wire y) (inl none) n = inl none
numbered_back (wire x) (wire y) (inr same) n = inr (sym same.0 ∙ n, same.1)
numbered_back (wire x) (owner v) k n = absurd n
numbered_back (owner u) (owner v) k n = absurd n
numbered_back (owner u) (wire y) k n = absurd k

then_beside : (other other' e f g : End) → StaysAs other other' → GrowsBeside other e f → GrowsBeside other' f g → GrowsBeside other' e g
then_beside other other' e f g stays a b = λ n. by_kind n (numbered_back other other' stays n)
  where
    joined : (sent_at other' ≡ sent_at other) → (sent_at other ≡ 0) ⊎ GrowsAt e f → (sent_at other' ≡ 0) ⊎ GrowsAt f g → (sent_at other' ≡ 0) ⊎ GrowsAt e g
    joined same (inl none) two = inl (same ∙ none)
    joined same (inr one) (inl none) = inl none
    joined same (inr one) (inr two) = inr (then_grows (passed_at e) (passed_at f) (passed_at g) (got_at e) (got_at f) (got_at g) one two)

    by_kind : IsNumbered other' → (sent_at other' ≡ 0) ⊎ (IsNumbered other × (sent_at other' ≡ sent_at other)) → (sent_at other' ≡ 0) ⊎ GrowsAt e g
    by_kind n (inl none) = inl none
    by_kind n (inr was) = joined was.1 (a was.0) (b n)

beside_same : (other e : End) → GrowsBeside other e e
beside_same other e = λ _. inr (same_grows (passed_at e) (got_at e))

pub goes_nowhere : (c : Connection) → Goes c c
goes_nowhere c = (kind_stays c.this, kind_stays c.that, beside_same c.that c.this, beside_same c.this c.that)

pub goes_then : (c d e : Connection) → Goes c d → Goes d e → Goes c e
goes_then c d e a b = (
  kind_then c.this d.this e.this a.0 b.0,
  kind_then c.that d.that e.that a.1 b.1,
  then_beside d.that e.that c.this d.this e.this b.1 a.2 b.2,
  then_beside d.this e.this c.that d.that e.that b.0 a.3 b.3,
)

pub goes_back : (c d : Connection) → Goes c d → Goes (turned c) (turned d)
goes_back c d g = (g.1, g.0, g.3, g.2)

-- The exchange.

abbrev both : End → End → Connection
both this that = record { this = this; that = that }

-- a section of class 3 of which the counts weren't cleared leaves no units
abbrev LeavesNone : End → List Hand → Type 0
LeavesNone e hands = IsNumbered e → (sent_at e ≡ 0) ⊎ NoneLeft hands

pub Exchanges : ℕ → Ticks → Type 0
Exchanges n ticks = (acting : End × Acted) (that : End) → LeavesNone acting.0 (hands_of acting.1) → Goes (both acting.0 that) (exchange n ticks acting that).0

pub offered_goes : (n : ℕ) (ticks : Ticks) → Exchanges n ticks → (r : Connection × List Output) (h : Hand) → (IsNumbered r.0.this → (sent_at r.0.this ≡ 0) ⊎ NoUnits h) → Goes r.0 (other_takes (exchange n ticks) ticks r h).0
unfolding Exchanges TakesFine
offered_goes n ticks goes r h none =
    let taken = end_takes ticks h r.0.that in
    let f = end_takes_fine ticks h r.0.that in
    let one : Goes (both r.0.that r.0.this) (both taken.0 r.0.this) =
    (f.0, kind_stays r.0.this, λ n. grows f.1 (none n), beside_same taken.0 r.0.this) in
    let d = (exchange n ticks taken r.0.this).0 in
    goes_back (both r.0.that r.0.this) d (goes_then (both r.0.that r.0.this) (both taken.0 r.0.this) d one (goes taken r.0.this (λ n. inr (f.2 n))))
  where
    grows : (NoUnits h → GrowsAt r.0.that (end_takes ticks h r.0.that).0) → (sent_at r.0.this ≡ 0) ⊎ NoUnits h → (sent_at r.0.this ≡ 0) ⊎ GrowsAt r.0.that (end_takes ticks h r.0.that).0
    grows g (inl cleared) = inl cleared
    grows g (inr none) = inr (g none)

-- of several effects, those behind the others
later : (e f : End) (hands rest : List Hand) → StaysAs e f → (NoneLeft hands → NoneLeft rest) → LeavesNone e hands → LeavesNone f rest
later e f hands rest stays behind none = λ n. by_kind (numbered_back e f stays n)
  where
    of : (sent_at f ≡ sent_at e) → (sent_at e ≡ 0) ⊎ NoneLeft hands → (sent_at f ≡ 0) ⊎ NoneLeft rest
    of same (inl cleared) = inl (same ∙ cleared)
    of same (inr all) = inr (behind all)

    by_kind : (sent_at f ≡ 0) ⊎ (IsNumbered e × (sent_at f ≡ sent_at e)) → (sent_at f ≡ 0) ⊎ NoneLeft rest
    by_kind (inl cleared) = inl cleared
    by_kind (inr was) = of was.1 (none was.0)

first_of : (e : End) (h : Hand) (hands : List Hand) → LeavesNone e (h ∷ hands) → IsNumbered e → (sent_at e ≡ 0) ⊎ NoUnits h
unfolding NoneLeft
first_of e h hands none n = of (none n)
  where
    of : (sent_at e ≡ 0) ⊎ (NoUnits h × NoneLeft hands) → (sent_at e ≡ 0) ⊎ NoUnits h
    of (inl cleared) = inl cleared
    of (inr all) = inr all.0

hands_go : (n : ℕ) (ticks : Ticks) → Exchanges n ticks → (hands : List Hand) (r : Connection × List Output) → LeavesNone r.0.this hands
    → Goes r.0 (fold (other_takes (exchange n ticks) ticks) r hands).0
unfolding NoneLeft
hands_go n ticks goes [] r none = goes_nowhere r.0
hands_go n ticks goes (h ∷ hands) r none =
    let r' = other_takes (exchange n ticks) ticks r h in
    let one : Goes r.0 r'.0 = offered_goes n ticks goes r h (first_of r.0.this h hands none) in
    goes_then r.0 r'.0 (fold (other_takes (exchange n ticks) ticks) r' hands).0 one
    (hands_go n ticks goes hands r' (later r.0.this r'.0.this (h ∷ hands) hands one.0 (λ all. all.1) none))

none_of : (one two : List Hand) → NoneLeft (one ++ two) → NoneLeft one × NoneLeft two
unfolding NoneLeft
none_of [] two n = (tt, n)
none_of (h ∷ one) two n = let rest = none_of one two n.1 in ((n.0, rest.0), rest.1)

pub exchange_goes : (n : ℕ) (ticks : Ticks) → Exchanges n ticks
unfolding Exchanges exchange
exchange_goes zero ticks acting that none = goes_nowhere (both acting.0 that)
exchange_goes (suc n) ticks acting that none =
    let first = fold (other_takes (exchange n ticks) ticks) (both acting.0 that, []) acting.1.first in
    let one : Goes (both acting.0 that) first.0 =
    hands_go n ticks (exchange_goes n ticks) acting.1.first (both acting.0 that, [])
    (later acting.0 acting.0 (hands_of acting.1) acting.1.first (kind_stays acting.0) (λ all. (none_of acting.1.first acting.1.then all).0) none) in
    let all = fold (other_takes (exchange n ticks) ticks) (with_more acting.1.outs first) acting.1.then in
    goes_then (both acting.0 that) first.0 all.0 one
    (hands_go n ticks (exchange_goes n ticks) acting.1.then (with_more acting.1.outs first)
    (later acting.0 first.0.this (hands_of acting.1) acting.1.then one.0 (λ all. (none_of acting.1.first acting.1.then all).1) none))

-- an act, and what the ends hand to each other then
act_goes : (ticks : Ticks) (e that : End) (acting : End × Acted) → Fine e acting → Goes (both e that) (settles ticks acting that).0
unfolding Fine Exchanges
act_goes ticks e that acting f =
    goes_then (both e that) (both acting.0 that) (settles ticks acting that).0
    (f.0, kind_stays that, λ _. inr f.1, beside_same acting.0 that) (exchange_goes 2 ticks acting that (λ n. inr (f.2 (is_section acting.0 n))))

-- A message.

hears_checked_goes : (ticks : Ticks) (o : Occasion) (point : ℕ) (m : Parameters) (x : Section) (that : End) (c : Option Output)
    → Goes (both (wire x) that) (settles ticks (hears_checked ticks o point m x c) that).0
unfolding Fine NoneLeft
hears_checked_goes ticks o point m x that (Some out) = act_goes ticks (wire x) that _ (inr (refl, refl), same_grows x.windows.passed x.windows.got, λ _. tt)
hears_checked_goes ticks o point m x that None = act_goes ticks (wire x) that _ (section_hears_fine ticks (section_cell x.head.state o) point m x (cell_before o x.head.state))

hears_goes : (ticks : Ticks) (o : Occasion) (point : ℕ) (m : Parameters) (x : Section) (that : End) → Goes (both (wire x) that) (hears_message ticks o point m x that).0
unfolding hears_message
hears_goes ticks o point m x that =
    either (λ (r : Connection × List Output). Goes (both (wire x) that) r.0) (is_from_elsewhere point x.head) _ _
    (λ _. goes_nowhere (both (wire x) that)) (λ _. hears_checked_goes ticks o point m (in_touch ticks x) that (checked o m x.head))

-- A request.

asks_unless_goes : (c : Option Reason) (ticks : Ticks) (r : Request) (u : User) (x : Section) → Goes (both (owner u) (wire x)) (asks_unless c ticks r u x).0
asks_unless_goes (Some why) ticks r u x = goes_nowhere (both (owner u) (wire x))
asks_unless_goes None ticks r u x = act_goes ticks (owner u) (wire x) _ (user_asks_fine (asking_cell u.state r) r u)

asks_goes : (ticks : Ticks) (ssn : ℕ) (r : Request) (this that : End) → Goes (both this that) (asks ticks ssn r this that).0
unfolding asks
asks_goes ticks ssn r (owner u) (wire x) =
    either (λ (c : Connection × List Output). Goes (both (owner u) (wire x)) c.0) (u.ssn == ssn) _ _
    (λ _. asks_unless_goes (reason_against r u x) ticks r u x) (λ _. goes_nowhere (both (owner u) (wire x)))
asks_goes ticks ssn r (owner u) (owner v) = goes_nowhere (both (owner u) (owner v))
asks_goes ticks ssn r (wire x) that = goes_nowhere (both (wire x) that)

-- A tick.

fires_at_goes : (ticks : Ticks) (timer : Timer) (this that : End) → Goes (both this that) (fires_at ticks timer this that).0
fires_at_goes ticks timer (wire x) that =
    let x' : Section = record x { timers = rearmed ticks timer x.timers } in
    act_goes ticks (wire x') that _ (section_fires_fine ticks (section_cell x.head.state (firing timer)) x')
fires_at_goes ticks timer (owner u) that = goes_nowhere (both (owner u) that)

fires_go : (ticks : Ticks) (timer : Timer) (this that : End) → Goes (both this that) (fires ticks timer this that).0
fires_go ticks timer this that =
    either (λ (r : Connection × List Output). Goes (both this that) r.0) (is_due_at timer this) _ _ (λ _. fires_at_goes ticks timer this that) (λ _. goes_nowhere (both this that))

fires_in_order : (ticks : Ticks) (timers : List Timer) (r : Connection × List Output) → Goes r.0 (fold (fires_next ticks) r timers).0
fires_in_order ticks [] r = goes_nowhere r.0
fires_in_order ticks (timer ∷ timers) r =
    let r' = fires_next ticks r timer in
    goes_then r.0 r'.0 (fold (fires_next ticks) r' timers).0 (fires_go ticks timer r.0.this r.0.that) (fires_in_order ticks timers r')

fires_due_goes : (ticks : Ticks) (c : Connection) → Goes c (fires_due ticks c).0
unfolding fires_due
fires_due_goes ticks c = fires_in_order ticks firing_order (c, [])

ticked_goes : (this that : End) → Goes (both this that) (both (ticked this) (ticked that))
ticked_goes (wire x) (wire y) = goes_nowhere (both (wire x) (wire y))
ticked_goes (wire x) (owner v) = goes_nowhere (both (wire x) (owner v))
ticked_goes (owner u) (wire y) = goes_nowhere (both (owner u) (wire y))
ticked_goes (owner u) (owner v) = goes_nowhere (both (owner u) (owner v))

on_that_goes : (part : Connection → Connection × List Output) → ((c : Connection) → Goes c (part c).0) → (c : Connection) → Goes c (on_that part c).0
on_that_goes part goes c = goes_back (turned c) (part (turned c)).0 (goes (turned c))

ticks_go : (ticks : Ticks) (c : Connection) → Goes c (ticks_by ticks c).0
ticks_go ticks c =
    let begun = both (ticked c.this) (ticked c.that) in
    let one = (fires_due ticks begun).0 in
    goes_then c one (on_that (fires_due ticks) one).0 (goes_then c begun one (ticked_goes c.this c.that) (fires_due_goes ticks begun)) (on_that_goes (fires_due ticks) (fires_due_goes ticks) one)

-- On the end that an event names.

at_this_goes : (part : Section → End → Connection × List Output) → ((x : Section) (that : End) → Goes (both (wire x) that) (part x that).0) → (this that : End)
    → Goes (both this that) (at_this part (both this that)).0
at_this_goes part goes (wire x) that = goes x that
at_this_goes part goes (owner u) that = goes_nowhere (both (owner u) that)

at_reference_goes : (reference : ℕ) (part : Section → End → Connection × List Output) → ((x : Section) (that : End) → Goes (both (wire x) that) (part x that).0) → (c : Connection)
    → Goes c (at_reference reference part c).0
at_reference_goes reference part goes c =
    either (λ (r : Connection × List Output). Goes c r.0) (is_named reference c.this) _ _
    (λ _. at_this_goes part goes c.this c.that) (λ _. on_that_goes (at_this part) (λ d. at_this_goes part goes d.this d.that) c)

heard_goes : (ticks : Ticks) (point : ℕ) (a : Option Arrival) (c : Connection) → Goes c (heard_by ticks point a c).0
heard_goes ticks point None c = goes_nowhere c
heard_goes ticks point (Some a) c = at_reference_goes a.parameters.dlr (hears_message ticks a.occasion point a.parameters) (hears_goes ticks a.occasion point a.parameters) c

asked_goes : (ticks : Ticks) (ssn : ℕ) (r : Request) (this that : End) → Goes (both this that) (asked_by ticks ssn r (both this that)).0
asked_goes ticks ssn r (owner u) that = asks_goes ticks ssn r (owner u) that
asked_goes ticks ssn r (wire x) that = on_that_goes (λ d. asks ticks ssn r d.this d.that) (λ d. asks_goes ticks ssn r d.this d.that) (both (wire x) that)

pub event_goes : (ticks : Ticks) (c : Connection) (event : Event) → Goes c (event_step ticks c event).0
event_goes ticks c (Arrived point sls bytes) = heard_goes ticks point (arrival_in bytes) c
event_goes ticks c (Requested ssn r) = asked_goes ticks ssn r c.this c.that
event_goes ticks c Tick = ticks_go ticks c
