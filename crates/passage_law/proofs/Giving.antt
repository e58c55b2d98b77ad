-- What a user gives comes in at its end.
use Rattle.std.proofs.Common.{◌≡◌, ◌⊎◌, inl, inr, ℕ, ◌==◌, true, false, List, [], ◌∷◌, ◌++◌, map, Option, Some, None, if◌then◌else◌, refl, sym, ◌∙◌, ap, subst, append_assoc, append-nil}
use Rattle.std.specs.List.{list_any, flat_map, AllByRecursion}
use Rattle.std.proofs.lemmas.Bool.{false≢true}
use Rattle.std.proofs.lemmas.List.Concat.{flat_map-append}
use Rattle.std.proofs.lemmas.List.Folds.{list_any-append}
use Rattle.relay_base.specs.declared.words.Event.{Event}
use Rattle.relay_base.specs.declared.words.Event.TheVariants.{Message as Arrived, Asked as Requested, Tick}
use Rattle.relay_base.specs.declared.words.Output.{Output}
use Rattle.relay_base.specs.declared.words.Reason.{Reason}
use Rattle.relay_base.specs.declared.words.Reason.TheVariants as reason
use Rattle.relay_base.specs.declared.words.Request.{Request}
use Rattle.relay_base.specs.declared.words.Request.TheVariants as request
use Rattle.plant_core.specs.declared.terms.Ticks.{Ticks}
use Rattle.section_model.specs.declared.cell.Cell.TheVariants as cell
use Rattle.section_model.specs.declared.cell.UserState.{UserState}
use Rattle.section_model.specs.declared.cell.UserState.TheVariants as user
use Rattle.section_model.specs.Table.{user_row}
use Rattle.section_model.specs.Ends.{End, wire, owner, DataUnit, Section, User, Connection, gives_then}
use Rattle.section_model.specs.Opening.{wish_of}
use Rattle.section_model.specs.UserEnd.{user_asks, units_of, handed}
use Rattle.section_model.specs.Coupling.{settles}
use Rattle.section_model.specs.Step.{asking_cell, is_nothing, refusal, reason_against, asks_unless, asks, asked_by, after_event, hears, event_step, connection_step}
use Rattle.section_model.specs.Lane.{next, heard, follow}
use Rattle.connection_law.specs.InStep.{got_at}
use Rattle.connection_law.proofs.Flow.Flowing.{either}
use Rattle.hop_law.specs.PassingLaw.{Brings}
use Rattle.hop_law.specs.PlaceLaw.{StaysPut}
use Rattle.hop_law.specs.LeavingLaw.{AreSides, this_and_that, that_and_this}
use Rattle.hop_law.specs.ClearingLaw.{is_reset}
use Rattle.hop_law.proofs.Exchanging.{both}
use Rattle.hop_law.proofs.Passing.{units_pass}
use Rattle.hop_law.proofs.Placing.{event_place}
use Rattle.hop_law.proofs.Early.{opening_empty}
use Rattle.connection_law.proofs.Message.Sent.{after_leaving}
use Rattle.hop_law.specs.LeftAlong.{outs_along}
use Rattle.hop_law.proofs.Along.{of_end, AllHear, all_hear, neither}
use Rattle.passage_law.specs.Trails.{is_user}
use Rattle.passage_law.specs.Texts.{is_refusal, given_by, given_along}
use Rattle.passage_law.specs.Users.{TextsCome}
use Rattle.passage_law.proofs.Keeping.{MayTake, none_silent, IsSilent, Keeps, exchanged, after_adds}
use Rattle.passage_law.proofs.Users.{IsUsers, put_kind, turned_sides, users_step, users_begin, goes_on, kept_same, none_come, is_owner, kinds}

-- A text is refused, or its units came in.
Gives : User → List ℕ → End → List Output → Type 0
Gives u body e outs =
    ((list_any is_refusal outs ≡ true) × (got_at e ≡ u.got)) ⊎ ((list_any is_refusal outs ≡ false) × (got_at e ≡ u.got ++ units_of body))

pub units_may : (units : List DataUnit) → AllByRecursion (MayTake false) (map handed units)
units_may [] = tt
units_may (u ∷ units) = (tt, units_may units)

kept_got : (u : User) (e : End) → Keeps (owner u) e → got_at e ≡ u.got
kept_got u (owner v) k = k.0
kept_got u (wire y) k = absurd k

-- a text is sent in one state alone
sends_cell : (mine : ℕ) (body : List ℕ) (u : User) (x : Section) → reason_against (request.Send mine body) u x ≡ None → asking_cell u.state (request.Send mine body) ≡ cell.UserSends
unfolding user_row
sends_cell mine body u x none = by_state u.state none
  where
    by_state : (s : UserState) → (if is_nothing (asking_cell s (request.Send mine body)) then Some reason.State else refusal (request.Send mine body) u x) ≡ None
        → asking_cell s (request.Send mine body) ≡ cell.UserSends
    by_state user.Ready none = refl
    by_state _ none = absurd (no_reason none)
      where
        no_reason : Some reason.State ≡ None → ⊥
        no_reason e = cc

text_gives : (ticks : Ticks) (mine : ℕ) (body : List ℕ) (u : User) (x : Section)
    → (let done = user_asks cell.UserSends (request.Send mine body) u in let r = settles ticks (owner done.0, done.1) (wire x) in Gives u body r.0.this r.1)
unfolding user_asks Gives IsSilent
text_gives ticks mine body u x =
    let after : User = record u { got = u.got ++ units_of body } in
    let x = exchanged 2 ticks true (owner after, gives_then [] (map handed (units_of body))) (wire x) refl refl none_silent (units_may (units_of body)) in
    inr (x.1.1, kept_got after _ x.0.0)

asks_give : (ticks : Ticks) (ssn mine : ℕ) (body : List ℕ) (u : User) (that : End)
    → (let r = asks ticks ssn (request.Send mine body) (owner u) that in Gives u body r.0.this r.1)
unfolding asks Gives
asks_give ticks ssn mine body u (owner v) = inl (refl, refl)
asks_give ticks ssn mine body u (wire x) =
    either (λ (r : Connection × List Output). Gives u body r.0.this r.1) (u.ssn == ssn) _ _
    (λ _. unless (reason_against (request.Send mine body) u x) refl) (λ _. inl (refl, refl))
  where
    unless : (why : Option Reason) → reason_against (request.Send mine body) u x ≡ why
        → (let r = asks_unless why ticks (request.Send mine body) u x in Gives u body r.0.this r.1)
    unless (Some why) e = inl (refl, refl)
    unless None e =
        subst (λ c. let done = user_asks c (request.Send mine body) u in let r = settles ticks (owner done.0, done.1) (wire x) in Gives u body r.0.this r.1)
        (sym (sends_cell mine body u x e)) (text_gives ticks mine body u x)

event_gives : (ticks : Ticks) (c : Connection) (ssn mine : ℕ) (body : List ℕ) (end other : Connection → End) (u : User) → AreSides end other → end c ≡ owner u → is_user (other c) ≡ false
    → (let r = event_step ticks c (Requested ssn (request.Send mine body)) in Gives u body (end r.0) r.1)
event_gives ticks c ssn mine body end other u this_and_that is section =
    subst (λ e. let r = asked_by ticks ssn (request.Send mine body) (both e c.that) in Gives u body r.0.this r.1) (sym is) (asks_give ticks ssn mine body u c.that)
event_gives ticks c ssn mine body end other u that_and_this is section =
    subst (λ e. let r = asked_by ticks ssn (request.Send mine body) (both c.this e) in Gives u body r.0.that r.1) (sym is) (by_end c.this section)
  where
    by_end : (e : End) → is_user e ≡ false → (let r = asked_by ticks ssn (request.Send mine body) (both e (owner u)) in Gives u body r.0.that r.1)
    by_end (wire y) section = asks_give ticks ssn mine body u (wire y)
    by_end (owner v) section = absurd (false≢true (sym section))

-- what an event gives came in at the end where it was given
Given : User → Event → End → List Output → Type 0
Given u event e outs = got_at e ≡ u.got ++ flat_map units_of (given_by event outs)

given_of : (ssn mine : ℕ) (body : List ℕ) (u : User) (e : End) (outs : List Output) → Gives u body e outs → Given u (Requested ssn (request.Send mine body)) e outs
unfolding Gives Given
given_of ssn mine body u e outs (inl refused) = rw refused.0 (refused.1 ∙ sym (append-nil u.got))
given_of ssn mine body u e outs (inr came) = rw came.0 (came.1 ∙ ap (λ (units : List DataUnit). u.got ++ units) (sym (append-nil (units_of body))))

-- what follows the event changes nothing of it
gives_after : (u : User) (body : List ℕ) (e f : End) (outs more : List Output) → got_at f ≡ got_at e → list_any is_refusal more ≡ list_any is_refusal outs → Gives u body e outs → Gives u body f more
unfolding Gives
gives_after u body e f outs more same told (inl refused) = inl (told ∙ refused.0, same ∙ refused.1)
gives_after u body e f outs more same told (inr came) = inr (told ∙ came.0, same ∙ came.1)

text_step : (ticks : Ticks) (c : Connection) (ssn mine : ℕ) (body : List ℕ) (end other : Connection → End) (u : User) → AreSides end other → end c ≡ owner u → IsUsers end other c
    → (let r = connection_step ticks c (Requested ssn (request.Send mine body)) in Given u (Requested ssn (request.Send mine body)) (end r.0) r.1)
unfolding connection_step
text_step ticks c ssn mine body end other u sides is k =
    let r = event_step ticks c (Requested ssn (request.Send mine body)) in
    let s = after_event ticks r in
    let left = after_leaving ticks r in
    let put = event_place ticks (Requested ssn (request.Send mine body)) c in
    let adds = after_adds ticks r (kinds r.0 end other sides (put_kind (end c) (end r.0) (of_end StaysPut end other c r.0 sides put) ∙ k.user)
    (put_kind (other c) (other r.0) (of_end StaysPut other end c r.0 (turned_sides end other sides) put) ∙ k.section)) in
    given_of ssn mine body u (end s.0) s.1
    (gives_after u body (end r.0) (end s.0) r.1 s.1 (of_end (λ e f. got_at f ≡ got_at e) end other r.0 s.0 sides (left.0.got, left.1.got)) adds.1.1
    (event_gives ticks c ssn mine body end other u sides is k.section))

other_step : (ticks : Ticks) (c : Connection) (event : Event) (end other : Connection → End) (u : User) → hears c event ≡ true → AreSides end other → end c ≡ owner u → IsUsers end other c
    → list_any is_reset (connection_step ticks c event).1 ≡ false → ((units : List DataUnit) → Brings event (owner u) units → ⊥) → given_by event (connection_step ticks c event).1 ≡ []
    → Given u event (end (next ticks c event)) (connection_step ticks c event).1
unfolding Given
other_step ticks c event end other u h sides is k none nothing gave =
    let d = next ticks c event in
    let r = connection_step ticks c event in
    let kept = none_come event end other c d r.1 sides (λ units b. nothing units (subst (λ e. Brings event e units) is b)) (units_pass ticks c event h k.in_step) in
    let same = kept_same (got_at (end c)) (got_at (end d)) kept (goes_on ticks c event end other sides k.in_step k.class k.early none) in
    same ∙ (ap got_at is ∙ (sym (append-nil u.got) ∙ ap (λ (texts : List (List ℕ)). u.got ++ flat_map units_of texts) (sym gave)))

step_gives : (ticks : Ticks) (c : Connection) (event : Event) (end other : Connection → End) (u : User) → hears c event ≡ true → AreSides end other → end c ≡ owner u → IsUsers end other c
    → list_any is_reset (connection_step ticks c event).1 ≡ false → Given u event (end (next ticks c event)) (connection_step ticks c event).1
step_gives ticks c (Arrived point sls bytes) end other u h sides is k none = other_step ticks c (Arrived point sls bytes) end other u h sides is k none (λ units b. b) refl
step_gives ticks c Tick end other u h sides is k none = other_step ticks c Tick end other u h sides is k none (λ units b. b) refl
step_gives ticks c (Requested ssn r) end other u h sides is k none = by_request r h none
  where
    by_request : (r : Request) → hears c (Requested ssn r) ≡ true → list_any is_reset (connection_step ticks c (Requested ssn r)).1 ≡ false
        → Given u (Requested ssn r) (end (next ticks c (Requested ssn r))) (connection_step ticks c (Requested ssn r)).1
    by_request (request.Send mine body) h none = text_step ticks c ssn mine body end other u sides is k
    by_request r h none = other_step ticks c (Requested ssn r) end other u h sides is k none (λ units b. b) refl

-- Along all that is heard.

come_along : (ticks : Ticks) (end other : Connection → End) → AreSides end other → (events : List Event) (c : Connection) → AllHear ticks c events → IsUsers end other c
    → list_any is_reset (outs_along ticks c events) ≡ false → got_at (end (follow ticks c events)) ≡ got_at (end c) ++ flat_map units_of (given_along ticks c events)
unfolding AllHear outs_along follow given_along Given
come_along ticks end other sides [] c hear k none = sym (append-nil (got_at (end c)))
come_along ticks end other sides (event ∷ events) c hear k none =
    let r = connection_step ticks c event in
    let d = next ticks c event in
    let o = is_owner (end c) k.user in
    let nones = neither (list_any is_reset r.1) (list_any is_reset (outs_along ticks d events)) (sym (list_any-append is_reset r.1 (outs_along ticks d events)) ∙ none) in
    let one = step_gives ticks c event end other o.user hear.0 sides o.is k nones.0 in
    let rest = come_along ticks end other sides events d hear.1 (users_step ticks c event end other hear.0 sides k) nones.1 in
    let texts = given_by event r.1 in
    let more = given_along ticks d events in
    rest
    ∙ (ap (λ (got : List DataUnit). got ++ flat_map units_of more) (one ∙ ap (λ (got : List DataUnit). got ++ flat_map units_of texts) (sym (ap got_at o.is)))
    ∙ (append_assoc (got_at (end c)) (flat_map units_of texts) (flat_map units_of more)
    ∙ ap (λ (units : List DataUnit). got_at (end c) ++ units) (sym (flat_map-append units_of texts more))))

pub texts_come : TextsCome
texts_come terms event answer references c events end other u credit opening class sides is none =
    let k = users_begin terms event answer references c end other credit opening class sides (ap is_user is) in
    let hears = heard terms.ticks c events in
    come_along terms.ticks end other sides hears c (all_hear terms.ticks c events) k none
    ∙ ap (λ (got : List DataUnit). got ++ flat_map units_of (given_along terms.ticks c hears)) (none_here end other sides (opening_empty terms (wish_of terms event) answer references c opening))
  where
    none_here : (end other : Connection → End) → AreSides end other → (got_at c.this ≡ []) × (got_at c.that ≡ []) → got_at (end c) ≡ []
    none_here end other this_and_that empty = empty.0
    none_here end other that_and_this empty = empty.1
