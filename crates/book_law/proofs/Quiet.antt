-- A phase of one link's events publishes nothing, or has events of the control lane alone.
use Rattle.std.proofs.Common.{◌≡◌, ◌⊎◌, ◌||◌, ℕ, zero, suc, Bool, true, false, List, [], ◌∷◌, get_or, Option, Some, None, is_some, refl, sym, ◌∙◌, subst, arith, inl, inr}
use Rattle.std.specs.Prelude.{◌≢◌}
use Rattle.std.specs.List.{AllByRecursion, list_any}
use Rattle.std.proofs.lemmas.Bool.{cases_Bool}
use Rattle.relay_base.specs.declared.words.Event.TheVariants.{Message as Arrived, Asked as Requested, Tick}
use Rattle.relay_base.specs.declared.words.Request.TheVariants as request
use Rattle.relay_base.specs.declared.words.Request.{Request}
use Rattle.relay_base.specs.declared.words.Stamp.{Stamp}
use Rattle.relay_base.specs.declared.words.Reason.TheVariants as reason
use Rattle.plant_core.specs.declared.change.Group.{Group}
use Rattle.plant_core.specs.declared.entry.ControlEvent.{ControlEvent}
use Rattle.plant_core.specs.declared.entry.ControlEvent.TheVariants.{Plain, Change as Changed}
use Rattle.plant_core.specs.declared.terms.Replicate.{Replicate}
use Rattle.node_head.specs.declared.head.Head.{Head}
use Rattle.scmg_messages.specs.Messages.{sent}
use Rattle.scmg_messages.specs.declared.message.Format.TheVariants.{OutOfServiceRequest, OutOfServiceGrant}
use Rattle.scmg.specs.declared.head.ControlHead.{ControlHead}
use Rattle.scmg.specs.declared.effect.Effect.{Effect}
use Rattle.scmg.specs.declared.effect.Act.TheVariants.{Begin, Forget}
use Rattle.scmg.specs.Control.{Control, managed, effect_of, change_of, asks, coordinates_with, replicate_of, edition_after, is_under_way, may_grant, refused, one}
use Rattle.capture_form.specs.Place.{place_of, place_of_event, place_of_octets}
use Rattle.capture_form.specs.Events.{Stamped, phase_events}
use Rattle.capture_form.specs.Links.{comes_on_link, AreOnLinks, AreLinked}
use Rattle.right_book.specs.Own.{events_at}
use Rattle.right_book.specs.Placed.{in_control}
use Rattle.right_book.proofs.ListLemmas.{all-first, all-rest, weaker, weaker-two}
use Rattle.book_law.specs.Sequential.{is_of_management, IsSequentialPhase, IsSequential}
use Rattle.book_law.proofs.Managed.{has_management, AreOfControl}
use Rattle.book_law.proofs.Booleans.{absurd_bool, either}

-- whether an event may publish: a group of changes of the routing data, and a message of management
abbrev pub may_publish : Head → ControlEvent → Bool
may_publish head (Changed group) = true
may_publish head (Plain (Arrived opc sls bytes)) = in_control (place_of_octets head opc sls bytes)
may_publish head (Plain (Requested ssn r)) = false
may_publish head (Plain Tick) = false

abbrev AreQuiet : Head → Stamped → Type 0
AreQuiet head events = AllByRecursion (λ e. may_publish head e.1 ≡ false) events

-- what holds of the events of each link of a phase
abbrev OfLinks : (Stamped → Type 0) → List Stamped → Type 0
OfLinks P lists = (k : ℕ) → P (get_or lists k [])

-- what holds of all events of a phase holds of each link's
each_link : (P : Stamp × ControlEvent → Type 0) (lists : List Stamped) → AllByRecursion P (phase_events lists) → OfLinks (AllByRecursion P) lists
each_link P [] h k = tt
each_link P (events ∷ more) h zero = all-first P events (phase_events more) h
each_link P (events ∷ more) h (suc k) = each_link P more (all-rest P events (phase_events more) h) k

-- ---- one phase

-- what comes on no link is the control lane's
off_link : (head : Head) (e : ControlEvent) → comes_on_link e ≡ false → in_control (place_of head e) ≡ true
unfolding place_of place_of_event
off_link head (Plain (Arrived opc sls bytes)) h = absurd (absurd_bool h)
off_link head (Plain (Requested ssn r)) h = absurd (absurd_bool h)
off_link head (Plain Tick) h = refl
off_link head (Changed group) h = refl

-- of what comes on a link, messages of management alone may publish
on_link : (head : Head) (e : ControlEvent) → comes_on_link e ≡ true → is_of_management head e ≡ false → may_publish head e ≡ false
on_link head (Plain (Arrived opc sls bytes)) h m = m
on_link head (Plain (Requested ssn r)) h m = refl
on_link head (Plain Tick) h m = refl
on_link head (Changed group) h m = sym h

none_of : {A : Type 0} (p : A → Bool) (xs : List A) → list_any p xs ≡ false → AllByRecursion (λ x. p x ≡ false) xs
none_of p [] h = tt
none_of p (x ∷ xs) h = parted (p x) (list_any p xs) (none_of p xs) h
  where
    parted : (t : Bool) (rest : Bool) → (rest ≡ false → AllByRecursion (λ y. p y ≡ false) xs) → (t || rest) ≡ false → (t ≡ false) × AllByRecursion (λ y. p y ≡ false) xs
    parted true rest f h = absurd (absurd_bool h)
    parted false rest f h = (refl, f h)

abbrev EitherWay : Head → List Stamped → Type 0
EitherWay head lists = OfLinks (AreQuiet head) lists ⊎ OfLinks (AreOfControl head) lists

-- with events of link 0 alone
of_first : (head : Head) (first : Stamped) (more : List Stamped) → ((k : ℕ) → k ≢ 0 → get_or (first ∷ more) k [] ≡ [])
    → AllByRecursion (λ e. comes_on_link e.1 ≡ false) first → OfLinks (AreOfControl head) (first ∷ more)
of_first head first more alone h zero = weaker (λ e. comes_on_link e.1 ≡ false) (λ e. in_control (place_of head e.1) ≡ true) first (λ e. off_link head e.1) h
of_first head first more alone h (suc k) = subst (AreOfControl head) (sym (alone (suc k) (λ e. absurd (omega (arith, e))))) tt

-- with events of another link alone, and no message of management
of_other : (head : Head) (first : Stamped) (more : List Stamped) → first ≡ [] → has_management head (phase_events (first ∷ more)) ≡ false
    → AllByRecursion (λ e. comes_on_link e.1 ≡ true) (phase_events more) → OfLinks (AreQuiet head) (first ∷ more)
of_other head first more none unmanaged h zero = subst (AreQuiet head) (sym none) tt
of_other head first more none unmanaged h (suc k) =
    let not_of : AllByRecursion (λ e. is_of_management head e.1 ≡ false) (phase_events more) =
    all-rest (λ e. is_of_management head e.1 ≡ false) first (phase_events more) (none_of (λ e. is_of_management head e.1) (phase_events (first ∷ more)) unmanaged) in
    each_link (λ e. may_publish head e.1 ≡ false) more
    (weaker-two (λ e. comes_on_link e.1 ≡ true) (λ e. is_of_management head e.1 ≡ false) (λ e. may_publish head e.1 ≡ false) (phase_events more) (λ e. on_link head e.1) h not_of) k

by_link : (head : Head) (first : Stamped) (more : List Stamped) (link : ℕ) → ((k : ℕ) → k ≢ link → get_or (first ∷ more) k [] ≡ [])
    → (has_management head (phase_events (first ∷ more)) ≡ true → AreOfControl head (phase_events (first ∷ more))) → AreOnLinks (first ∷ more) → EitherWay head (first ∷ more)
by_link head first more zero alone managed h = inr (of_first head first more alone h.0)
by_link head first more (suc link) alone managed h = elim (cases_Bool (has_management head (phase_events (first ∷ more)))) [
  | inl has ↦ inr (each_link (λ e. in_control (place_of head e.1) ≡ true) (first ∷ more) (managed has))
  | inr none ↦ inl (of_other head first more (alone 0 (λ e. absurd (omega (arith, e)))) none h.1)
]

either_way : (head : Head) (lists : List Stamped) → IsSequentialPhase head lists → AreOnLinks lists → EitherWay head lists
either_way head [] s h = inl (λ k. tt)
either_way head (first ∷ more) s h = by_link head first more s.link s.alone s.managed h

-- ---- all phases

abbrev pub Quiet : Head → List (List Stamped) → ℕ → Type 0
Quiet head phases phase = (k : ℕ) → AllByRecursion (λ e. may_publish head e.1 ≡ false) (events_at phases phase k)

abbrev pub OfControl : Head → List (List Stamped) → ℕ → Type 0
OfControl head phases phase = (k : ℕ) → AreOfControl head (events_at phases phase k)

pub quiet_or_control : (head : Head) (phases : List (List Stamped)) → AreLinked phases → IsSequential head phases → (phase : ℕ) → Quiet head phases phase ⊎ OfControl head phases phase
quiet_or_control head phases l s zero = inl (λ k. tt)
quiet_or_control head [] l s (suc n) = inl (λ k. tt)
quiet_or_control head (lists ∷ more) l s (suc zero) = either_way head lists s.0 l.0
quiet_or_control head (lists ∷ more) l s (suc (suc n)) = quiet_or_control head more l.1 s.1 (suc n)

-- ---- what no event of the control lane publishes but a group of changes and a message

abbrev Silent : Effect → Type 0
Silent effect = is_some (change_of effect.act) ≡ false

coordination_silent : (c : Control) (ssn : ℕ) (r : Option Replicate) → Silent (coordinates_with c ssn r)
coordination_silent c ssn None = refl
coordination_silent c ssn (Some r) = either Silent (is_under_way c ssn) (refused ssn reason.State) (one (sent r.point OutOfServiceRequest ssn c.routing.own) (Begin r)) refl refl

request_silent : (head : ControlHead) (c : Control) (ssn : ℕ) (r : Request) → Silent (asks head c ssn r)
request_silent head c ssn request.Coord = coordination_silent c ssn (replicate_of head ssn)
request_silent head c ssn (request.Grant point) = either Silent (may_grant c point ssn) (one (sent point OutOfServiceGrant ssn point) (Forget (record { point = point; ssn = ssn }))) (refused ssn reason.State) refl refl
request_silent head c ssn _ = refl

pub publishes_none : (head : Head) (h : ControlHead) (c : Control) (e : ControlEvent) → may_publish head e ≡ false → in_control (place_of head e) ≡ true → is_some (managed h c e).published ≡ false
unfolding managed effect_of place_of place_of_event
publishes_none head h c (Changed group) m p = absurd (absurd_bool m)
publishes_none head h c (Plain (Arrived opc sls bytes)) m p = absurd (absurd_bool (sym p ∙ m))
publishes_none head h c (Plain (Requested ssn r)) m p = request_silent h c ssn r
publishes_none head h c (Plain Tick) m p = refl

pub edition_none : (edition : ℕ) (group : Option Group) → is_some group ≡ false → is_some (edition_after edition group) ≡ false
edition_none edition None h = refl
edition_none edition (Some group) h = absurd (absurd_bool h)
