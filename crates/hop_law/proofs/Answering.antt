-- How a section that was asked for a connection answers.
use Rattle.std.proofs.Common.{◌≡◌, ◌≢◌, ◌⊎◌, inl, inr, ℕ, ◌+◌, ◌-◌, ◌==◌, ◌&&◌, ◌||◌, not, nat_le, nat_lt, min, take, drop, arith, true, false, if◌then◌else◌, List, [], ◌∷◌, ◌++◌, fold, Option, Some, None, refl, sym, ◌∙◌, ap, subst, eq-eqb, append_assoc, append-nil}
use Rattle.std.proofs.lemmas.Bool.{false≢true, ne_eqb}
use Rattle.relay_base.specs.declared.causes.TheConstants.{REFUSAL_ESTABLISHMENT_EXPIRED}
use Rattle.relay_base.specs.declared.words.Event.{Event}
use Rattle.relay_base.specs.declared.words.Event.TheVariants.{Message as Arrived, Asked as Requested, Tick}
use Rattle.relay_base.specs.declared.words.Output.{Output}
use Rattle.relay_base.specs.declared.words.Reason.{Reason}
use Rattle.relay_base.specs.declared.words.Request.{Request}
use Rattle.relay_base.specs.declared.words.Request.TheVariants as request
use Rattle.plant_core.specs.declared.terms.Ticks.{Ticks}
use Rattle.q713_codec.specs.Names.{Message}
use Rattle.q713_codec.specs.declared.message.Message.TheVariants.{Cc, Cref}
use Rattle.section_model.specs.declared.cell.Cell.TheVariants as cell
use Rattle.section_model.specs.declared.cell.Occasion.{Occasion}
use Rattle.section_model.specs.declared.cell.Occasion.TheVariants as on
use Rattle.section_model.specs.declared.cell.SectionState.{SectionState}
use Rattle.section_model.specs.declared.cell.SectionState.TheVariants.{Asked, Asking, Up, Gone}
use Rattle.section_model.specs.declared.cell.UserState.{UserState}
use Rattle.section_model.specs.declared.cell.UserState.TheVariants as user
use Rattle.section_model.specs.declared.cell.Timer.{Timer}
use Rattle.section_model.specs.declared.cell.Timer.TheVariants as timer
use Rattle.section_model.specs.declared.hand.Hand.{Hand}
use Rattle.section_model.specs.declared.hand.Hand.TheVariants as hand
use Rattle.section_model.specs.declared.hand.Acted.{Acted}
use Rattle.section_model.specs.Table.{section_row, user_row, section_cell}
use Rattle.section_model.specs.Parameters.{Parameters, Arrival, arrival_in}
use Rattle.section_model.specs.Timing.{firing_order, firing, rearmed}
use Rattle.section_model.specs.Ends.{End, wire, owner, Line, SectionHead, Section, User, Connection, turned, gives_then, cleared, is_up, is_connected}
use Rattle.section_flow.specs.Windows.{Windows}
use Rattle.section_model.specs.Line.{sent_on, agreed_credit, credit_of, line_hears, line_fires, line_takes}
use Rattle.section_model.specs.UserEnd.{user_asks, given}
use Rattle.section_model.specs.Windowed.{Windowed, numbered, leaves, acknowledges}
use Rattle.section_model.specs.Acting.{timed, by_line, by_windows, line_in, section_hears, section_fires, section_takes, end_takes}
use Rattle.section_model.specs.Coupling.{exchange, settles}
use Rattle.section_model.specs.Step.{names_both, ends_both, names_another, is_of_other_class, knows_other, checked, hears_checked, in_touch, is_from_elsewhere, hears_message, asking_cell, reason_against, asks_unless, asks, ticked, is_due_at, fires, fires_next, fires_due, ticks_by, on_windows, after_event, is_named, at_this, heard_by, event_step, connection_step}
use Rattle.connection_law.specs.InStep.{asked, Meets, section_stage, user_stage, stage_at, AreInStep, IsInStep}
use Rattle.connection_law.specs.Messages.{acted}
use Rattle.connection_law.proofs.Flow.Flowing.{either}
use Rattle.hop_law.specs.LeavingLaw.{AreSides, this_and_that, that_and_this, IsApart}
use Rattle.connection_law.proofs.Flow.Ends.{kept_back}
use Rattle.hop_law.proofs.Exchanging.{both}
use Rattle.hop_law.proofs.Taking.{SameHead}
use Rattle.hop_law.proofs.Heads.{after_heads}
use Rattle.hop_law.proofs.Passing.{first_true, second_true}
use Rattle.hop_law.specs.Waiting.{Waiting, messages_to}
use Rattle.hop_law.specs.Answering.{waiting_on, Answers, silent as is_silent, accepts as has_accepted, refuses as has_refused, IsAnswered}
use Rattle.hop_law.proofs.Queued.{messages_joined}

-- What may be said of the called address and the data of CC; and an effect on the other end that says so, by which it is set up or over.
abbrev pub Saying : Type 1
Saying = Option (List ℕ) → Option (List ℕ) → Type 0

abbrev SetsUp : Saying → Hand → Type 0
SetsUp Says (hand.Accept class credit called body importance) = Says called body
SetsUp Says (hand.Refuse cause called body importance) = Unit {0}
SetsUp Says _ = ⊥

-- and an event that may bring such an effect
abbrev pub Tells : Saying → Event → Type 0
Tells Says (Arrived point sls bytes) = (a : Arrival) → arrival_in bytes ≡ Some a → Says a.parameters.called a.parameters.body
Tells Says (Requested ssn (request.Accept mine class credit body)) = Says None (given body)
Tells Says _ = Unit {0}

-- a section before and after, and what it sent
pub data AnswersBy (Says : Saying) (x y : SectionHead) (queue : List Waiting) : Type 0 where
  silent : y ≡ x → queue ≡ [] → AnswersBy Says x y queue
  accepts :
      (called body : Option (List ℕ)) (importance : Option ℕ) → Says called body → y.state ≡ Up →
      queue ≡ waiting_on x (Cc x.other x.mine y.class (credit_of y.class y.credit) called body importance) ∷ [] → AnswersBy Says x y queue
  refuses :
      (cause : ℕ) (called body : Option (List ℕ)) (importance : Option ℕ) → y.state ≡ Gone →
      queue ≡ waiting_on x (Cref x.other cause called body importance) ∷ [] → AnswersBy Says x y queue

-- After an event nothing is to leave at an end: it is a user's, or a section that isn't up, or that came up by it.
Rests : End → Type 0
Rests (wire y) = (is_up y.head.state ≡ false) ⊎ (y.windows ≡ cleared y.head.credit)
Rests (owner u) = Unit {0}

-- what the asked section, the other end and the outputs of an event are
After : Saying → SectionHead → End → End → List Output → Type 0
After Says x (wire y) other outs = AnswersBy Says x y.head (messages_to x.point outs) × Rests (wire y) × Rests other
After Says x (owner u) other outs = ⊥

-- seen from the asked section, and from the other end
Here : Saying → SectionHead → Connection × List Output → Type 0
Here Says x r = After Says x r.0.this r.0.that r.1

There : Saying → SectionHead → Connection × List Output → Type 0
There Says x r = IsApart x r.0.this → After Says x r.0.that r.0.this r.1

stays_silent : (Says : Saying) (x : SectionHead) (y : Section) (other : End) (outs : List Output) → x.state ≡ Asked → y.head ≡ x → messages_to x.point outs ≡ [] → Rests other → After Says x (wire y) other outs
unfolding After Rests
stays_silent Says x y other outs is same none rests = (silent same none, inl (rw (same, is) refl), rests)

none_to : (x y : SectionHead) (message : Message) → y.point ≢ x.point → messages_to x.point (sent_on y message ∷ []) ≡ []
unfolding messages_to
none_to x y message apart = rw (ne_eqb y.point x.point apart) refl

-- the counts of a section that comes up
comes_up : (s : SectionState) (w v : Windows) → is_connected s ≡ false → (if not (is_connected s) then w else v) ≡ w
comes_up s w v e = rw e refl

one_to : (x : SectionHead) (message : Message) → messages_to x.point (sent_on x message ∷ []) ≡ waiting_on x message ∷ []
unfolding messages_to
one_to x message = rw (eq-eqb x.point x.point refl) refl

-- The other end is set up, or over, and so is the asked section.

taken_by : (Says : Saying) (ticks : Ticks) (x : Section) (e : End) (outs : List Output) (h : Hand) → x.head.state ≡ Asked → Rests e → (IsApart x.head e → messages_to x.head.point outs ≡ [])
    → SetsUp Says h → There Says x.head (settles ticks (e, gives_then outs (h ∷ [])) (wire x))
unfolding There After Rests exchange section_row section_takes line_takes
taken_by Says ticks x e outs (hand.Accept class credit called body importance) is rests none set =
    subst (λ s. There Says x.head (let d = exchange 1 ticks (section_takes ticks (section_cell s on.AcceptComes) (hand.Accept class credit called body importance) x) e in (turned d.0, outs ++ d.1))) (sym is)
    (λ apart. (accepts called body importance set refl (messages_joined x.head.point outs _ ∙ rw (none apart) (one_to x.head _)), inr (rw is refl), rests))
taken_by Says ticks x e outs (hand.Refuse cause called body importance) is rests none set =
    subst (λ s. There Says x.head (let d = exchange 1 ticks (section_takes ticks (section_cell s on.RefuseComes) (hand.Refuse cause called body importance) x) e in (turned d.0, outs ++ d.1))) (sym is)
    (λ apart. (refuses cause called body importance refl (messages_joined x.head.point outs _ ∙ rw (none apart) (one_to x.head _)), inl refl, rests))
taken_by Says ticks x e outs _ is rests none set = absurd set

-- A message.

SilentCheck : ℕ → Option Output → Type 0
SilentCheck point None = Unit {0}
SilentCheck point (Some out) = messages_to point (out ∷ []) ≡ []

checked_silent : (point : ℕ) (o : Occasion) (m : Parameters) (x : SectionHead) → knows_other x.state ≡ false → SilentCheck point (checked o m x)
unfolding SilentCheck messages_to
checked_silent point o m x unknown =
    either (SilentCheck point) (names_both o && names_another m x) _ _
    (λ is. absurd (false≢true (sym unknown ∙ first_true (knows_other x.state) _ (second_true (names_both o) _ is))))
    (λ _. either (SilentCheck point) (ends_both o && names_another m x) _ _ (λ _. refl) (λ _. either (SilentCheck point) (is_of_other_class o x) _ _ (λ _. refl) (λ _. tt)))

asked_at : (Says : Saying) (ticks : Ticks) (o : Occasion) (point : ℕ) (m : Parameters) (x : Section) (that : End) → x.head.state ≡ Asked → Rests that
    → Here Says x.head (settles ticks (section_hears ticks (section_cell Asked o) point m x) that)
unfolding Here exchange section_row section_hears line_hears messages_to
asked_at Says ticks on.Cc point m x that is rests = stays_silent Says x.head _ that _ is refl refl rests
asked_at Says ticks _ point m x that is rests = stays_silent Says x.head _ that _ is refl refl rests

asked_hears : (Says : Saying) (ticks : Ticks) (o : Occasion) (point : ℕ) (m : Parameters) (x : Section) (that : End) → x.head.state ≡ Asked → Rests that → Here Says x.head (hears_message ticks o point m x that)
unfolding hears_message Here exchange messages_to SilentCheck
asked_hears Says ticks o point m x that is rests =
    either (Here Says x.head) (is_from_elsewhere point x.head) _ _ (λ _. stays_silent Says x.head x that _ is refl refl rests)
    (λ _. by_check (checked o m x.head) (checked_silent x.head.point o m x.head (rw is refl)))
  where
    by_check : (c : Option Output) → SilentCheck x.head.point c → Here Says x.head (settles ticks (hears_checked ticks o point m (in_touch ticks x) c) that)
    by_check (Some out) none = stays_silent Says x.head _ that (out ∷ []) is refl none rests
    by_check None none =
        subst (λ s. Here Says x.head (settles ticks (section_hears ticks (section_cell s o) point m (in_touch ticks x)) that)) (sym is) (asked_at Says ticks o point m (in_touch ticks x) that is rests)

-- and one that the other end hears, which asks for the connection
asking_still : (Says : Saying) (x z : Section) (outs : List Output) → x.head.state ≡ Asked → z.head.state ≡ Asking → messages_to x.head.point outs ≡ [] → There Says x.head (both (wire z) (wire x), outs)
unfolding There Rests
asking_still Says x z outs is is_asking none = λ apart. stays_silent Says x.head x (wire z) outs is refl none (inl (rw is_asking refl))

ConfirmedThere : Saying → Ticks → Section → Section → Line × Acted → Type 0
ConfirmedThere Says ticks x z done = There Says x.head (settles ticks (timed ticks z (by_line (λ line. done) z)) (wire x))

confirmed_there : (Says : Saying) (ticks : Ticks) (point : ℕ) (m : Parameters) (x z : Section) → x.head.state ≡ Asked → z.head.state ≡ Asking → Says m.called m.body
    → ConfirmedThere Says ticks x z (line_hears cell.Confirm point m (line_in z))
unfolding ConfirmedThere line_hears Rests messages_to
confirmed_there Says ticks point m x z is is_asking says =
    either (ConfirmedThere Says ticks x z) ((m.class == 2 || m.class == 3) && nat_le m.class z.head.class) _ _
    (λ _. taken_by Says ticks x _ [] _ is (inr (comes_up z.head.state _ _ (ap is_connected is_asking))) (λ _. refl) says)
    (λ _. taken_by Says ticks x _ _ _ is (inl refl) (λ apart. none_to x.head (record z.head { point = point; other = m.slr }) _ apart) tt)

asking_at : (Says : Saying) (ticks : Ticks) (o : Occasion) (point : ℕ) (m : Parameters) (x z : Section) → x.head.state ≡ Asked → z.head.state ≡ Asking → Says m.called m.body
    → There Says x.head (settles ticks (section_hears ticks (section_cell Asking o) point m z) (wire x))
unfolding exchange section_row section_hears line_hears messages_to ConfirmedThere Rests
asking_at Says ticks on.Cc point m x z is is_asking says = confirmed_there Says ticks point m x z is is_asking says
asking_at Says ticks on.Cref point m x z is is_asking says =
    taken_by Says ticks x (section_hears ticks cell.Refused point m z).0 [] (hand.Refuse m.cause m.called m.body m.importance) is (inl refl) (λ _. refl) tt
asking_at Says ticks _ point m x z is is_asking says = asking_still Says x _ _ is is_asking refl

asking_hears : (Says : Saying) (ticks : Ticks) (o : Occasion) (point : ℕ) (m : Parameters) (x z : Section) → x.head.state ≡ Asked → z.head.state ≡ Asking → Says m.called m.body
    → There Says x.head (hears_message ticks o point m z (wire x))
unfolding hears_message exchange messages_to SilentCheck
asking_hears Says ticks o point m x z is is_asking says =
    either (There Says x.head) (is_from_elsewhere point z.head) _ _ (λ _. asking_still Says x z _ is is_asking refl)
    (λ _. by_check (checked o m z.head) (checked_silent x.head.point o m z.head (rw is_asking refl)))
  where
    by_check : (c : Option Output) → SilentCheck x.head.point c → There Says x.head (settles ticks (hears_checked ticks o point m (in_touch ticks z) c) (wire x))
    by_check (Some out) none = asking_still Says x _ (out ∷ []) is is_asking none
    by_check None none =
        subst (λ s. There Says x.head (settles ticks (section_hears ticks (section_cell s o) point m (in_touch ticks z)) (wire x))) (sym is_asking) (asking_at Says ticks o point m x (in_touch ticks z) is is_asking says)

-- A request of a user that is offered the connection.

offered_still : (Says : Saying) (x : Section) (u : User) (outs : List Output) → x.head.state ≡ Asked → messages_to x.head.point outs ≡ [] → There Says x.head (both (owner u) (wire x), outs)
unfolding There Rests
offered_still Says x u outs is none = λ apart. stays_silent Says x.head x (owner u) outs is refl none tt

offered_acts : (Says : Saying) (ticks : Ticks) (ssn : ℕ) (r : Request) (u : User) (x : Section) → x.head.state ≡ Asked → Tells Says (Requested ssn r)
    → There Says x.head (settles ticks (let done = user_asks (asking_cell user.Offered r) r u in (owner done.0, done.1)) (wire x))
unfolding user_row user_asks exchange Rests messages_to
offered_acts Says ticks ssn (request.Accept mine class credit body) u x is says =
    taken_by Says ticks x (owner (user_asks cell.UserAccepts (request.Accept mine class credit body) u).0) [] (hand.Accept class (agreed_credit class credit u.credit) None (given body) None) is tt (λ _. refl) says
offered_acts Says ticks ssn (request.Refuse mine cause body) u x is says =
    taken_by Says ticks x (owner (user_asks cell.UserRefuses (request.Refuse mine cause body) u).0) [] (hand.Refuse cause None (given body) None) is tt (λ _. refl) tt
offered_acts Says ticks ssn _ u x is says = offered_still Says x u [] is refl

offered_asks : (Says : Saying) (ticks : Ticks) (ssn : ℕ) (r : Request) (u : User) (x : Section) → x.head.state ≡ Asked → u.state ≡ user.Offered → Tells Says (Requested ssn r)
    → There Says x.head (asks ticks ssn r (owner u) (wire x))
unfolding asks messages_to
offered_asks Says ticks ssn r u x is offer says =
    either (There Says x.head) (u.ssn == ssn) _ _ (λ _. unless (reason_against r u x)) (λ _. offered_still Says x u _ is refl)
  where
    unless : (why : Option Reason) → There Says x.head (asks_unless why ticks r u x)
    unless (Some why) = offered_still Says x u _ is refl
    unless None =
        subst (λ s. There Says x.head (settles ticks (let done = user_asks (asking_cell s r) r u in (owner done.0, done.1)) (wire x))) (sym offer) (offered_acts Says ticks ssn r u x is says)

-- A tick.

Awaits : End → Type 0
Awaits (wire z) = z.head.state ≡ Asking
Awaits (owner u) = Unit {0}

IsOut : End → Type 0
IsOut (wire z) = z.head.state ≡ Gone
IsOut (owner u) = Unit {0}

-- the section and the other end wait as they did, or CREF left and both are over
Pending : Saying → SectionHead → End → End → List Output → Type 0
Pending Says x (wire y) other outs =
    ((y.head ≡ x) × Awaits other × (messages_to x.point outs ≡ []))
    ⊎ ((y.head.state ≡ Gone) × IsOut other × AnswersBy Says x y.head (messages_to x.point outs))
Pending Says x (owner u) other outs = ⊥

awaits_rests : (e : End) → Awaits e → Rests e
unfolding Awaits Rests
awaits_rests (wire z) awaits = inl (ap is_up awaits)
awaits_rests (owner u) awaits = tt

out_rests : (e : End) → IsOut e → Rests e
unfolding IsOut Rests
out_rests (wire z) out = inl (ap is_up out)
out_rests (owner u) out = tt

pending_more : (Says : Saying) (x : SectionHead) (e other : End) (outs : List Output) → Pending Says x e other outs → Pending Says x e other (outs ++ [])
pending_more Says x e other outs p = subst (Pending Says x e other) (sym (append-nil outs)) p

same_here : (Says : Saying) (x : SectionHead) (y y' : Section) (other : End) (outs : List Output) → y'.head ≡ y.head → Pending Says x (wire y) other outs → Pending Says x (wire y') other (outs ++ [])
unfolding Pending
same_here Says x y y' other outs same p =
    pending_more Says x (wire y') other outs
    (subst (λ (h : SectionHead). ((h ≡ x) × Awaits other × (messages_to x.point outs ≡ [])) ⊎ ((h.state ≡ Gone) × IsOut other × AnswersBy Says x h (messages_to x.point outs))) (sym same) p)

-- no timer does anything in the asked section, or in one that is over
idle_fires : (t : Timer) (s : SectionState) → (s ≡ Asked) ⊎ (s ≡ Gone) → section_cell s (firing t) ≡ cell.Nothing
unfolding section_row
idle_fires t s (inl is) = subst (λ s. section_cell s (firing t) ≡ cell.Nothing) (sym is) (idle_asked t)
  where
    idle_asked : (t : Timer) → section_cell Asked (firing t) ≡ cell.Nothing
    idle_asked timer.Connect = refl
    idle_asked _ = refl
idle_fires t s (inr is) = subst (λ s. section_cell s (firing t) ≡ cell.Nothing) (sym is) refl

is_idle : (Says : Saying) (x : SectionHead) (y : Section) (other : End) (outs : List Output) → x.state ≡ Asked → Pending Says x (wire y) other outs → (y.head.state ≡ Asked) ⊎ (y.head.state ≡ Gone)
unfolding Pending
is_idle Says x y other outs is (inl same) = inl (ap (λ (h : SectionHead). h.state) same.0 ∙ is)
is_idle Says x y other outs is (inr gone) = inr gone.0

no_owner : (Says : Saying) (x : SectionHead) (u : User) (other : End) (outs : List Output) → Pending Says x (owner u) other outs → ⊥
unfolding Pending
no_owner Says x u other outs p = p

fire_here : (Says : Saying) (ticks : Ticks) (t : Timer) (x : SectionHead) (e other : End) (outs : List Output) → x.state ≡ Asked → Pending Says x e other outs
    → (let r = fires ticks t e other in Pending Says x r.0.this r.0.that (outs ++ r.1))
unfolding exchange section_fires line_fires
fire_here Says ticks t x (wire y) other outs is p =
    either (λ (r : Connection × List Output). Pending Says x r.0.this r.0.that (outs ++ r.1)) (is_due_at t (wire y)) _ _
    (λ _. subst (λ c. let r = settles ticks (section_fires ticks c (record y { timers = rearmed ticks t y.timers })) other in Pending Says x r.0.this r.0.that (outs ++ r.1))
    (sym (idle_fires t y.head.state (is_idle Says x y other outs is p))) (same_here Says x y _ other outs refl p))
    (λ _. pending_more Says x (wire y) other outs p)
fire_here Says ticks t x (owner u) other outs is p = absurd (no_owner Says x u other outs p)

-- the other end isn't answered in time, and the section is refused
not_answered : (Says : Saying) (ticks : Ticks) (x : SectionHead) (y : Section) (e : End) (outs : List Output) (cause : ℕ) → x.state ≡ Asked → y.head ≡ x → IsOut e → messages_to x.point outs ≡ []
    → (let d = exchange 1 ticks (end_takes ticks (hand.Refuse cause None None None) (wire y)) e in Pending Says x d.0.this d.0.that (outs ++ d.1))
unfolding Pending exchange section_row section_takes line_takes
not_answered Says ticks x y e outs cause is same out none =
    subst (λ s. let d = exchange 1 ticks (section_takes ticks (section_cell s on.RefuseComes) (hand.Refuse cause None None None) y) e in Pending Says x d.0.this d.0.that (outs ++ d.1))
    (sym (ap (λ (h : SectionHead). h.state) same ∙ is))
    (inr (refl, out, refuses cause None None None refl (messages_joined x.point outs _ ∙ ap (λ (queue : List Waiting). queue ++ messages_to x.point (sent_on y.head (Cref y.head.other cause None None None) ∷ [])) none ∙ as_it)))
  where
    as_it : messages_to x.point (sent_on y.head (Cref y.head.other cause None None None) ∷ []) ≡ waiting_on x (Cref x.other cause None None None) ∷ []
    as_it =
        subst (λ (h : SectionHead). messages_to x.point (sent_on h (Cref h.other cause None None None) ∷ []) ≡ waiting_on x (Cref x.other cause None None None) ∷ []) (sym same)
        (one_to x (Cref x.other cause None None None))

asking_fires : (Says : Saying) (ticks : Ticks) (t : Timer) (x : SectionHead) (y z : Section) (outs : List Output) → x.state ≡ Asked → (y.head ≡ x) × (z.head.state ≡ Asking) × (messages_to x.point outs ≡ [])
    → (let r = settles ticks (section_fires ticks (section_cell Asking (firing t)) z) (wire y) in Pending Says x r.0.that r.0.this (outs ++ r.1))
unfolding Pending Awaits IsOut exchange section_row section_fires line_fires
asking_fires Says ticks timer.Connect x y z outs is waits =
    not_answered Says ticks x y (section_fires ticks cell.NotAnswered z).0 outs REFUSAL_ESTABLISHMENT_EXPIRED is waits.0 refl waits.2
asking_fires Says ticks _ x y z outs is waits = pending_more Says x (wire y) (section_fires ticks cell.Nothing z).0 outs (inl waits)

gone_fires : (Says : Saying) (ticks : Ticks) (t : Timer) (x : SectionHead) (y z : Section) (outs : List Output) → (y.head.state ≡ Gone) × (z.head.state ≡ Gone) × AnswersBy Says x y.head (messages_to x.point outs)
    → (let r = settles ticks (section_fires ticks (section_cell Gone (firing t)) z) (wire y) in Pending Says x r.0.that r.0.this (outs ++ r.1))
unfolding Pending IsOut exchange section_fires line_fires
gone_fires Says ticks t x y z outs gone = pending_more Says x (wire y) (section_fires ticks cell.Nothing z).0 outs (inr gone)

fire_there : (Says : Saying) (ticks : Ticks) (t : Timer) (x : SectionHead) (e other : End) (outs : List Output) → x.state ≡ Asked → Pending Says x e other outs
    → (let r = fires ticks t other e in Pending Says x r.0.that r.0.this (outs ++ r.1))
unfolding Pending Awaits IsOut
fire_there Says ticks t x e (owner u) outs is p = pending_more Says x e (owner u) outs p
fire_there Says ticks t x (owner v) (wire z) outs is p = absurd p
fire_there Says ticks t x (wire y) (wire z) outs is p =
    either (λ (r : Connection × List Output). Pending Says x r.0.that r.0.this (outs ++ r.1)) (is_due_at t (wire z)) _ _ (λ _. by_pending p) (λ _. pending_more Says x (wire y) (wire z) outs p)
  where
    Fired : SectionState → Type 0
    Fired s = (let r = settles ticks (section_fires ticks (section_cell s (firing t)) (record z { timers = rearmed ticks t z.timers })) (wire y) in Pending Says x r.0.that r.0.this (outs ++ r.1))

    by_pending : Pending Says x (wire y) (wire z) outs → Fired z.head.state
    by_pending (inl waits) = subst Fired (sym waits.1) (asking_fires Says ticks t x y (record z { timers = rearmed ticks t z.timers }) outs is waits)
    by_pending (inr gone) = subst Fired (sym gone.1) (gone_fires Says ticks t x y (record z { timers = rearmed ticks t z.timers }) outs gone)

here_in_order : (Says : Saying) (ticks : Ticks) (x : SectionHead) (before : List Output) (timers : List Timer) (r : Connection × List Output) → x.state ≡ Asked → Pending Says x r.0.this r.0.that (before ++ r.1)
    → (let s = fold (fires_next ticks) r timers in Pending Says x s.0.this s.0.that (before ++ s.1))
here_in_order Says ticks x before [] r is p = p
here_in_order Says ticks x before (t ∷ timers) r is p =
    let one = fires_next ticks r t in
    here_in_order Says ticks x before timers one is
    (subst (Pending Says x one.0.this one.0.that) (append_assoc before r.1 (fires ticks t r.0.this r.0.that).1) (fire_here Says ticks t x r.0.this r.0.that (before ++ r.1) is p))

there_in_order : (Says : Saying) (ticks : Ticks) (x : SectionHead) (before : List Output) (timers : List Timer) (r : Connection × List Output) → x.state ≡ Asked → Pending Says x r.0.that r.0.this (before ++ r.1)
    → (let s = fold (fires_next ticks) r timers in Pending Says x s.0.that s.0.this (before ++ s.1))
there_in_order Says ticks x before [] r is p = p
there_in_order Says ticks x before (t ∷ timers) r is p =
    let one = fires_next ticks r t in
    there_in_order Says ticks x before timers one is
    (subst (Pending Says x one.0.that one.0.this) (append_assoc before r.1 (fires ticks t r.0.this r.0.that).1) (fire_there Says ticks t x r.0.that r.0.this (before ++ r.1) is p))

pending_after : (Says : Saying) (x : SectionHead) (e other : End) (outs : List Output) → x.state ≡ Asked → Pending Says x e other outs → After Says x e other outs
unfolding Pending After Rests
pending_after Says x (wire y) other outs is (inl waits) = stays_silent Says x y other outs is waits.0 waits.2 (awaits_rests other waits.1)
pending_after Says x (wire y) other outs is (inr gone) = (gone.2, inl (ap is_up gone.0), out_rests other gone.1)
pending_after Says x (owner u) other outs is p = absurd p

ticked_awaits : (e : End) → Awaits e → Awaits (ticked e)
unfolding Awaits
ticked_awaits (wire z) a = a
ticked_awaits (owner u) a = tt

tick_here : (Says : Saying) (ticks : Ticks) (x : Section) (that : End) → x.head.state ≡ Asked → Awaits that → Here Says x.head (ticks_by ticks (both (wire x) that))
unfolding Here Pending messages_to fires_due
tick_here Says ticks x that is awaits =
    let lower = both (ticked (wire x)) (ticked that) in
    let one = fires_due ticks lower in
    let other = fires_due ticks (turned one.0) in
    let p = here_in_order Says ticks x.head [] firing_order (lower, []) is (inl (refl, ticked_awaits that awaits, refl)) in
    pending_after Says x.head other.0.that other.0.this (one.1 ++ other.1) is
    (there_in_order Says ticks x.head one.1 firing_order (turned one.0, []) is (pending_more Says x.head one.0.this one.0.that one.1 p))

tick_there : (Says : Saying) (ticks : Ticks) (x : Section) (this : End) → x.head.state ≡ Asked → Awaits this → There Says x.head (ticks_by ticks (both this (wire x)))
unfolding There Pending messages_to fires_due
tick_there Says ticks x this is awaits = λ apart.
    let lower = both (ticked this) (ticked (wire x)) in
    let one = fires_due ticks lower in
    let other = fires_due ticks (turned one.0) in
    let p = there_in_order Says ticks x.head [] firing_order (lower, []) is (inl (refl, ticked_awaits this awaits, refl)) in
    pending_after Says x.head other.0.this other.0.that (one.1 ++ other.1) is
    (here_in_order Says ticks x.head one.1 firing_order (turned one.0, []) is (pending_more Says x.head one.0.that one.0.this one.1 p))

-- What follows the event.

-- nothing waits where the counts begin
none_may : (n : ℕ) → min 0 n ≡ 0
none_may n = omega arith

abbrev left_so : SectionHead → ℕ → Windowed × Acted
left_so x n = (
  record { head = x; windows = record (cleared x.credit) { waits = drop n []; sent = 0 + n; told = (if n == 0 then 0 else 0) } },
  gives_then (numbered x 0 0 (take n []) ++ []) (if nat_lt 0 n then hand.Left n false ∷ [] else []),
)

leaves_none : (x : SectionHead) → leaves (record { head = x; windows = cleared x.credit }) ≡ left_so x 0
unfolding leaves
leaves_none x = subst (λ (n : ℕ). left_so x n ≡ left_so x 0) (sym (none_may (x.credit - (0 - 0)))) refl

NothingLeaves : End → Connection × List Output → Type 0
NothingLeaves that r = (r.1 ≡ []) × Rests r.0.this × (r.0.that ≡ that)

rests_leaves : (ticks : Ticks) (this that : End) → Rests this → NothingLeaves that (on_windows ticks leaves this that)
unfolding NothingLeaves Rests exchange
rests_leaves ticks (owner u) that rests = (refl, tt, refl)
rests_leaves ticks (wire y) that rests =
    either (NothingLeaves that) (is_up y.head.state && y.head.class == 3) _ _ (λ up. by_rests (first_true (is_up y.head.state) _ up) rests) (λ _. (refl, rests, refl))
  where
    by_rests : is_up y.head.state ≡ true → (is_up y.head.state ≡ false) ⊎ (y.windows ≡ cleared y.head.credit) → NothingLeaves that (settles ticks (timed ticks y (by_windows leaves y)) that)
    by_rests up (inl down) = absurd (false≢true (sym down ∙ up))
    by_rests up (inr none) =
        subst (λ (w : Windows). NothingLeaves that (settles ticks (timed ticks y (by_windows leaves (record y { windows = w }))) that)) (sym none)
        (subst (λ (done : Windowed × Acted). NothingLeaves that (settles ticks (timed ticks y (by_windows (λ w. done) y)) that)) (sym (leaves_none y.head)) (refl, inr refl, refl))

rests_acknowledges : (ticks : Ticks) (this that : End) → Rests this → NothingLeaves that (on_windows ticks acknowledges this that)
unfolding NothingLeaves Rests exchange acknowledges
rests_acknowledges ticks (owner u) that rests = (refl, tt, refl)
rests_acknowledges ticks (wire y) that rests =
    either (NothingLeaves that) (is_up y.head.state && y.head.class == 3) _ _ (λ up. by_rests (first_true (is_up y.head.state) _ up) rests) (λ _. (refl, rests, refl))
  where
    by_rests : is_up y.head.state ≡ true → (is_up y.head.state ≡ false) ⊎ (y.windows ≡ cleared y.head.credit) → NothingLeaves that (settles ticks (timed ticks y (by_windows acknowledges y)) that)
    by_rests up (inl down) = absurd (false≢true (sym down ∙ up))
    by_rests up (inr none) =
        subst (λ (w : Windows). NothingLeaves that (settles ticks (timed ticks y (by_windows acknowledges (record y { windows = w }))) that)) (sym none) (refl, inr refl, refl)

nothing_after : (ticks : Ticks) (r : Connection × List Output) → Rests r.0.this → Rests r.0.that → (after_event ticks r).1 ≡ r.1
unfolding after_event NothingLeaves
nothing_after ticks r this that =
    let one = on_windows ticks leaves r.0.this r.0.that in
    let two = on_windows ticks leaves one.0.that one.0.this in
    let three = on_windows ticks acknowledges two.0.that two.0.this in
    let four = on_windows ticks acknowledges three.0.that three.0.this in
    let a = rests_leaves ticks r.0.this r.0.that this in
    let b = rests_leaves ticks one.0.that one.0.this (subst Rests (sym a.2) that) in
    let c = rests_acknowledges ticks two.0.that two.0.this (subst Rests (sym b.2) a.1) in
    let d = rests_acknowledges ticks three.0.that three.0.this (subst Rests (sym c.2) b.1) in
    four_none r.1 one.1 two.1 three.1 four.1 a.0 b.0 c.0 d.0
  where
    four_none : (a b c d e : List Output) → b ≡ [] → c ≡ [] → d ≡ [] → e ≡ [] → (((a ++ b) ++ c) ++ d) ++ e ≡ a
    four_none a b c d e p q s t = rw (p, q, s, t, append-nil a, append-nil a, append-nil a, append-nil a) refl

-- The event.

-- an end that asks for the connection, or is offered it
Offers : End → Type 0
Offers (wire z) = z.head.state ≡ Asking
Offers (owner u) = u.state ≡ user.Offered

offers : (e : End) → Meets asked (stage_at e) → Offers e
unfolding Offers
offers (wire z) m = by_state z.head.state m
  where
    by_state : (s : SectionState) → Meets asked (section_stage s) → s ≡ Asking
    by_state Asking m = refl
    by_state _ m = absurd m
offers (owner u) m = by_state u.state m
  where
    by_state : (s : UserState) → Meets asked (user_stage s) → s ≡ user.Offered
    by_state user.Offered m = refl
    by_state _ m = absurd m

offers_awaits : (e : End) → Offers e → Awaits e
unfolding Offers Awaits
offers_awaits (wire z) is = is
offers_awaits (owner u) is = tt

silent_here : (Says : Saying) (x : Section) (that : End) (outs : List Output) → x.head.state ≡ Asked → Offers that → messages_to x.head.point outs ≡ [] → Here Says x.head (both (wire x) that, outs)
unfolding Here
silent_here Says x that outs is offer none = stays_silent Says x.head x that outs is refl none (awaits_rests that (offers_awaits that offer))

silent_there : (Says : Saying) (x : Section) (this : End) (outs : List Output) → x.head.state ≡ Asked → Offers this → messages_to x.head.point outs ≡ [] → There Says x.head (both this (wire x), outs)
unfolding There
silent_there Says x this outs is offer none = λ apart. stays_silent Says x.head x this outs is refl none (awaits_rests this (offers_awaits this offer))

other_hears : (Says : Saying) (ticks : Ticks) (o : Occasion) (point : ℕ) (m : Parameters) (x : Section) (this : End) → x.head.state ≡ Asked → Offers this → Says m.called m.body
    → There Says x.head (at_this (hears_message ticks o point m) (both this (wire x)))
unfolding Offers messages_to
other_hears Says ticks o point m x (wire z) is offer says = asking_hears Says ticks o point m x z is offer says
other_hears Says ticks o point m x (owner u) is offer says = silent_there Says x (owner u) [] is offer refl

other_asks : (Says : Saying) (ticks : Ticks) (ssn : ℕ) (r : Request) (x : Section) (this : End) → x.head.state ≡ Asked → Offers this → Tells Says (Requested ssn r)
    → There Says x.head (asks ticks ssn r this (wire x))
unfolding asks Offers messages_to
other_asks Says ticks ssn r x (owner u) is offer says = offered_asks Says ticks ssn r u x is offer says
other_asks Says ticks ssn r x (wire z) is offer says = silent_there Says x (wire z) _ is offer refl

event_here : (Says : Saying) (ticks : Ticks) (event : Event) (x : Section) (that : End) → x.head.state ≡ Asked → Offers that → Tells Says event
    → (let r = event_step ticks (both (wire x) that) event in IsApart x.head r.0.that → Here Says x.head r)
unfolding Here There messages_to
event_here Says ticks (Arrived point sls bytes) x that is offer says = by_arrival (arrival_in bytes) refl
  where
    by_arrival : (a : Option Arrival) → arrival_in bytes ≡ a → (let r = heard_by ticks point a (both (wire x) that) in IsApart x.head r.0.that → Here Says x.head r)
    by_arrival None e = λ apart. silent_here Says x that [] is offer refl
    by_arrival (Some a) e =
        either (λ (r : Connection × List Output). IsApart x.head r.0.that → Here Says x.head r) (is_named a.parameters.dlr (wire x)) _ _
        (λ _. λ apart. asked_hears Says ticks a.occasion point a.parameters x that is (awaits_rests that (offers_awaits that offer)))
        (λ _. λ apart. other_hears Says ticks a.occasion point a.parameters x that is offer (says a e) apart)
event_here Says ticks (Requested ssn r) x that is offer says = λ apart. other_asks Says ticks ssn r x that is offer says apart
event_here Says ticks Tick x that is offer says = λ apart. tick_here Says ticks x that is (offers_awaits that offer)

event_there : (Says : Saying) (ticks : Ticks) (event : Event) (x : Section) (this : End) → x.head.state ≡ Asked → Offers this → Tells Says event
    → There Says x.head (event_step ticks (both this (wire x)) event)
unfolding Here There messages_to Offers asks
event_there Says ticks (Arrived point sls bytes) x this is offer says = by_arrival (arrival_in bytes) refl
  where
    by_arrival : (a : Option Arrival) → arrival_in bytes ≡ a → There Says x.head (heard_by ticks point a (both this (wire x)))
    by_arrival None e = silent_there Says x this [] is offer refl
    by_arrival (Some a) e =
        either (There Says x.head) (is_named a.parameters.dlr this) _ _ (λ _. other_hears Says ticks a.occasion point a.parameters x this is offer (says a e))
        (λ _. λ apart. asked_hears Says ticks a.occasion point a.parameters x this is (awaits_rests this (offers_awaits this offer)))
event_there Says ticks (Requested ssn r) x (owner u) is offer says = other_asks Says ticks ssn r x (owner u) is offer says
event_there Says ticks (Requested ssn r) x (wire z) is offer says = asking_still Says x z _ is offer refl
event_there Says ticks Tick x this is offer says = tick_there Says ticks x this is (offers_awaits this offer)

-- The step.

after_step : (Says : Saying) (ticks : Ticks) (x : SectionHead) (y : Section) (e other e' : End) (outs all : List Output) → After Says x e other outs → SameHead e e' → e' ≡ wire y → all ≡ outs → AnswersBy Says x y.head (messages_to x.point all)
unfolding After
after_step Says ticks x y (wire z) other e' outs all after same is more =
    subst (λ (outs : List Output). AnswersBy Says x y.head (messages_to x.point outs)) (sym more)
    (subst (λ (h : SectionHead). AnswersBy Says x h (messages_to x.point outs)) (sym (subst (SameHead (wire z)) is same)) after.0)
after_step Says ticks x y (owner u) other e' outs all after same is more = absurd after

both_rest : (Says : Saying) (x : SectionHead) (e other : End) (outs : List Output) → After Says x e other outs → Rests e × Rests other
unfolding After
both_rest Says x (wire y) other outs after = (after.1, after.2)
both_rest Says x (owner u) other outs after = absurd after

this_offers : (x : Section) (c : Connection) → c.this ≡ wire x → x.head.state ≡ Asked → IsInStep c → Offers c.that
this_offers x c is asks k = offers c.that (subst (λ s. Meets (section_stage s) (stage_at c.that)) asks (subst (λ e. AreInStep e c.that) is k).0)

that_offers : (x : Section) (c : Connection) → c.that ≡ wire x → x.head.state ≡ Asked → IsInStep c → Offers c.this
that_offers x c is asks k = offers c.this (subst (λ s. Meets (section_stage s) (stage_at c.this)) asks (subst (λ e. AreInStep e c.this) is (kept_back c k)).0)

pub answered_by : (Says : Saying) (ticks : Ticks) (c : Connection) (event : Event) (end other : Connection → End) (x y : Section) → Tells Says event → IsInStep c → AreSides end other → end c ≡ wire x
    → x.head.state ≡ Asked → end (connection_step ticks c event).0 ≡ wire y → IsApart x.head (other (acted ticks c event))
    → AnswersBy Says x.head y.head (messages_to x.head.point (connection_step ticks c event).1)
unfolding connection_step Here There
answered_by Says ticks c event end other x y says k this_and_that is asked_it after apart =
    let r = event_step ticks c event in
    let here : Here Says x.head r = subst (λ e. (let r = event_step ticks (both e c.that) event in IsApart x.head r.0.that → Here Says x.head r)) (sym is)
    (event_here Says ticks event x c.that asked_it (this_offers x c is asked_it k) says) apart in
    let rest = both_rest Says x.head r.0.this r.0.that r.1 here in
    after_step Says ticks x.head y r.0.this r.0.that (after_event ticks r).0.this r.1 (after_event ticks r).1 here (after_heads ticks r).0 after (nothing_after ticks r rest.0 rest.1)
answered_by Says ticks c event end other x y says k that_and_this is asked_it after apart =
    let r = event_step ticks c event in
    let there : There Says x.head r = subst (λ e. There Says x.head (event_step ticks (both c.this e) event)) (sym is)
    (event_there Says ticks event x c.this asked_it (that_offers x c is asked_it k) says) in
    let here = there apart in
    let rest = both_rest Says x.head r.0.that r.0.this r.1 here in
    after_step Says ticks x.head y r.0.that r.0.this (after_event ticks r).0.that r.1 (after_event ticks r).1 here (after_heads ticks r).1 after (nothing_after ticks r rest.1 rest.0)

-- whatever CC says
Anything : Saying
Anything called body = Unit {0}

tells_anything : (event : Event) → Tells Anything event
unfolding Anything
tells_anything (Arrived point sls bytes) = λ a e. tt
tells_anything (Requested ssn (request.Accept mine class credit body)) = tt
tells_anything (Requested ssn r) = tt
tells_anything Tick = tt

pub is_answered : IsAnswered
is_answered ticks c event end other x y k sides is asked_it after apart =
    of_any (answered_by Anything ticks c event end other x y (tells_anything event) k sides is asked_it after apart)
  where
    of_any : {queue : List Waiting} → AnswersBy Anything x.head y.head queue → Answers x.head y.head queue
    of_any (silent same none) = is_silent same none
    of_any (accepts called body importance says up sent) = has_accepted called body importance up sent
    of_any (refuses cause called body importance over sent) = has_refused cause called body importance over sent
