-- How a section comes to know its other end.
use Rattle.std.proofs.Common.{◌≡◌, ◌⊎◌, inl, inr, ℕ, ◌==◌, ◌&&◌, ◌||◌, not, nat_le, Bool, true, false, List, [], ◌∷◌, fold, Option, Some, None, refl, sym, ◌∙◌, ap, subst}
use Rattle.std.specs.List.{AllByRecursion}
use Rattle.std.proofs.lemmas.Bool.{false≢true, eqb-true}
use Rattle.relay_base.specs.declared.words.Event.{Event}
use Rattle.relay_base.specs.declared.words.Event.TheVariants.{Message as Arrived, Asked as Requested, Tick}
use Rattle.relay_base.specs.declared.words.Output.{Output}
use Rattle.relay_base.specs.declared.words.Reason.{Reason}
use Rattle.relay_base.specs.declared.words.Request.{Request}
use Rattle.plant_core.specs.declared.terms.Ticks.{Ticks}
use Rattle.section_model.specs.declared.cell.Cell.TheVariants as cell
use Rattle.section_model.specs.declared.cell.Occasion.{Occasion}
use Rattle.section_model.specs.declared.cell.Occasion.TheVariants as on
use Rattle.section_model.specs.declared.cell.SectionState.{SectionState}
use Rattle.section_model.specs.declared.cell.SectionState.TheVariants.{Asked, Asking, Waning, Up, Resetting, Ending, Gone}
use Rattle.section_model.specs.declared.cell.UserState.{UserState}
use Rattle.section_model.specs.declared.cell.UserState.TheVariants as user
use Rattle.section_model.specs.declared.cell.Timer.{Timer}
use Rattle.section_model.specs.declared.cell.Timer.TheVariants as timer
use Rattle.section_model.specs.declared.hand.Hand.{Hand}
use Rattle.section_model.specs.declared.hand.Hand.TheVariants as hand
use Rattle.section_model.specs.declared.hand.Acted.{Acted}
use Rattle.section_model.specs.Table.{section_row, user_row, section_cell}
use Rattle.section_model.specs.Parameters.{Parameters, Arrival, arrival_in}
use Rattle.section_model.specs.Timing.{firing_order, firing, rearmed}
use Rattle.section_model.specs.Ends.{End, wire, owner, Line, SectionHead, Section, User, Connection, turned, gives, gives_then, is_gone, is_connected, is_reached}
use Rattle.section_model.specs.Line.{line_hears, line_fires, line_takes}
use Rattle.section_model.specs.Windowed.{windowed_takes}
use Rattle.section_model.specs.UserEnd.{user_takes, user_asks}
use Rattle.section_model.specs.Acting.{timed, by_line, section_hears, section_fires, section_takes, section_takes_by, user_takes_by, end_takes}
use Rattle.section_model.specs.Coupling.{exchange, settles}
use Rattle.section_model.specs.Laws.{hands_of}
use Rattle.section_model.specs.Step.{checked, hears_checked, in_touch, is_from_elsewhere, hears_message, asking_cell, reason_against, asks_unless, asks, ticked, is_due_at, fires_at, fires, fires_next, fires_due, ticks_by, after_event, is_named, at_this, heard_by, asked_by, destination_of, names, hears, event_step, connection_step}
use Rattle.connection_law.proofs.Flow.Flowing.{either}
use Rattle.connection_law.proofs.Message.Hearing.{other_named}
use Rattle.connection_law.proofs.Reference.Ends.{Both}
use Rattle.hop_law.specs.TakingLaw.{at_this as at_this_end, at_that as at_that_end}
use Rattle.hop_law.specs.LeavingLaw.{AreSides, this_and_that, that_and_this}
use Rattle.hop_law.proofs.Effects.{AreTaken, exchanged}
use Rattle.hop_law.proofs.Exchanging.{both}
use Rattle.hop_law.proofs.Taking.{SameHead}
use Rattle.hop_law.proofs.Heads.{after_heads}
use Rattle.hop_law.proofs.Passing.{first_true}
use Rattle.hop_law.specs.Confirming.{IsStill, IsConfirmed, ByArrival, ByConfirm, is_answer, OnlyByConfirm, ByAnswer, BecomesKnown}
use Rattle.hop_law.proofs.Along.{of_end}

-- From a head to a later one, but by a message: where the other end isn't known it is not known still, or the section is over, and its point stays; and
-- what is over stays so.
IsUnknown : SectionHead → SectionHead → Type 0
IsUnknown x y = (is_reached x.state ≡ false → IsStill x y) × (x.state ≡ Gone → (y.state ≡ Gone) × (y.point ≡ x.point))

same_head : (x : SectionHead) → IsUnknown x x
unfolding IsUnknown
same_head x = (λ e. (inl e, refl), λ gone. (gone, refl))

in_turn : (x y z : SectionHead) → IsUnknown x y → IsUnknown y z → IsUnknown x z
unfolding IsUnknown
in_turn x y z one other = (λ e. by_first (one.0 e), λ gone. let first = one.1 gone in let last = other.1 first.0 in (last.0, last.1 ∙ first.1))
  where
    by_first : ((is_reached y.state ≡ false) ⊎ (y.state ≡ Gone)) × (y.point ≡ x.point) → IsStill x z
    by_first (inl unknown, same) = let last = other.0 unknown in (last.0, last.1 ∙ same)
    by_first (inr gone, same) = let last = other.1 gone in (inr last.0, last.1 ∙ same)

not_gone : (s : SectionState) → is_gone s ≡ false → s ≡ Gone → ⊥
not_gone s not e = false≢true (sym not ∙ ap is_gone e)

known : (x y : SectionHead) → is_reached x.state ≡ true → is_gone x.state ≡ false → IsUnknown x y
unfolding IsUnknown
known x y reached not = (λ e. absurd (false≢true (sym e ∙ reached)), λ gone. absurd (not_gone x.state not gone))

ended : (x y : SectionHead) → y.state ≡ Gone → y.point ≡ x.point → IsUnknown x y
unfolding IsUnknown
ended x y gone same = (λ _. (inr gone, same), λ _. (gone, same))

waits : (x y : SectionHead) → is_gone x.state ≡ false → is_reached y.state ≡ false → y.point ≡ x.point → IsUnknown x y
unfolding IsUnknown
waits x y not unknown same = (λ _. (inl unknown, same), λ gone. absurd (not_gone x.state not gone))

StaysUnknown : End → End → Type 0
StaysUnknown (wire x) (wire y) = IsUnknown x.head y.head
StaysUnknown (wire x) (owner v) = ⊥
StaysUnknown (owner u) f = Unit {0}

end_same : (e : End) → StaysUnknown e e
unfolding StaysUnknown
end_same (wire x) = same_head x.head
end_same (owner u) = tt

end_then : (e f g : End) → StaysUnknown e f → StaysUnknown f g → StaysUnknown e g
unfolding StaysUnknown
end_then (wire x) (wire y) (wire z) one other = in_turn x.head y.head z.head one other
end_then (wire x) (wire y) (owner w) one other = absurd other
end_then (wire x) (owner v) g one other = absurd one
end_then (owner u) f g one other = tt

-- An effect of the other end.

TakenUnknown : Section → Section × Acted → Type 0
TakenUnknown x done = IsUnknown x.head done.0.head

section_unknown : (ticks : Ticks) (h : Hand) (x : Section) (s : SectionState) → x.head.state ≡ s → StaysUnknown (wire x) (section_takes ticks (section_takes_by s h) h x).0
unfolding StaysUnknown TakenUnknown section_row section_takes line_takes windowed_takes
section_unknown ticks h x Asked e = known x.head _ (rw e refl) (rw e refl)
section_unknown ticks h x Up e = known x.head _ (rw e refl) (rw e refl)
section_unknown ticks h x Resetting e = known x.head _ (rw e refl) (rw e refl)
section_unknown ticks h x Ending e = known x.head _ (rw e refl) (rw e refl)
section_unknown ticks (hand.End cause body importance) x Asking e = waits x.head _ (rw e refl) refl refl
section_unknown ticks (hand.Left units true) x s e = either (TakenUnknown x) (x.head.class == 3) _ _ (λ _. same_head x.head) (λ _. same_head x.head)
section_unknown ticks (hand.Left units false) x s e = either (TakenUnknown x) (x.head.class == 3) _ _ (λ _. same_head x.head) (λ _. same_head x.head)
section_unknown ticks _ x s e = same_head x.head

all_fit : (hands : List Hand) → AllByRecursion (λ (h : Hand). Unit {0}) hands
all_fit [] = tt
all_fit (h ∷ hands) = (tt, all_fit hands)

takes_unknown : (ticks : Ticks) (h : Hand) (e : End) → StaysUnknown e (end_takes ticks h e).0
unfolding StaysUnknown
takes_unknown ticks h (wire x) = section_unknown ticks h x x.head.state refl
takes_unknown ticks h (owner u) = tt

taken : (ticks : Ticks) → AreTaken ticks (λ h. Unit {0}) (λ outs. Unit {0}) StaysUnknown
taken ticks = record {
  same = end_same;
  in_turn = end_then;
  none = tt;
  joined = λ one other p q. tt;
  takes = λ h e fits. (takes_unknown ticks h e, tt, all_fit (hands_of (end_takes ticks h e).1));
}

-- what the other end becomes by an act of the one
that_unknown : (ticks : Ticks) (acting : End × Acted) (that : End) → StaysUnknown that (settles ticks acting that).0.that
that_unknown ticks acting that = (exchanged (taken ticks) 2 acting that tt (all_fit (hands_of acting.1))).0.1

this_unknown : (ticks : Ticks) (this that : End) (acting : End × Acted) → StaysUnknown this acting.0 → Both StaysUnknown (both this that) (settles ticks acting that).0
this_unknown ticks this that acting acts =
    let s = (exchanged (taken ticks) 2 acting that tt (all_fit (hands_of acting.1))).0 in (end_then this acting.0 (settles ticks acting that).0.this acts s.0, s.1)

-- A request, and a tick.

abbrev From : Connection → Connection × List Output → Type 0
From c r = Both StaysUnknown c r.0

both_then : (c d e : Connection) → Both StaysUnknown c d → Both StaysUnknown d e → Both StaysUnknown c e
both_then c d e one other = (end_then c.this d.this e.this one.0 other.0, end_then c.that d.that e.that one.1 other.1)

both_unknown : (c : Connection) → Both StaysUnknown c c
both_unknown c = (end_same c.this, end_same c.that)

asks_unknown : (ticks : Ticks) (ssn : ℕ) (r : Request) (this that : End) → From (both this that) (asks ticks ssn r this that)
unfolding asks StaysUnknown
asks_unknown ticks ssn r (owner u) (wire x) =
    either (From (both (owner u) (wire x))) (u.ssn == ssn) _ _ (λ _. unless (reason_against r u x)) (λ _. both_unknown (both (owner u) (wire x)))
  where
    unless : (why : Option Reason) → From (both (owner u) (wire x)) (asks_unless why ticks r u x)
    unless (Some why) = both_unknown (both (owner u) (wire x))
    unless None = this_unknown ticks (owner u) (wire x) (let done = user_asks (asking_cell u.state r) r u in (owner done.0, done.1)) tt
asks_unknown ticks ssn r (owner u) (owner v) = both_unknown (both (owner u) (owner v))
asks_unknown ticks ssn r (wire x) that = both_unknown (both (wire x) that)

asked_unknown : (ticks : Ticks) (ssn : ℕ) (r : Request) (this that : End) → From (both this that) (asked_by ticks ssn r (both this that))
asked_unknown ticks ssn r (owner u) that = asks_unknown ticks ssn r (owner u) that
asked_unknown ticks ssn r (wire x) that = let back = asks_unknown ticks ssn r that (wire x) in (back.1, back.0)

FiredUnknown : Section → Section × Acted → Type 0
FiredUnknown x done = IsUnknown x.head done.0.head

section_fires_unknown : (ticks : Ticks) (t : Timer) (x : Section) (s : SectionState) → x.head.state ≡ s → StaysUnknown (wire x) (section_fires ticks (section_cell s (firing t)) x).0
unfolding StaysUnknown section_row section_fires line_fires
section_fires_unknown ticks t x Asked e = known x.head _ (rw e refl) (rw e refl)
section_fires_unknown ticks t x Up e = known x.head _ (rw e refl) (rw e refl)
section_fires_unknown ticks t x Resetting e = known x.head _ (rw e refl) (rw e refl)
section_fires_unknown ticks t x Ending e = known x.head _ (rw e refl) (rw e refl)
section_fires_unknown ticks timer.Connect x Asking e = ended x.head _ refl refl
section_fires_unknown ticks timer.Connect x Waning e = ended x.head _ refl refl
section_fires_unknown ticks _ x s e = same_head x.head

fires_unknown : (ticks : Ticks) (t : Timer) (this that : End) → From (both this that) (fires ticks t this that)
unfolding StaysUnknown
fires_unknown ticks t this that = either (From (both this that)) (is_due_at t this) _ _ (λ _. fires_here this) (λ _. both_unknown (both this that))
  where
    fires_here : (this : End) → From (both this that) (fires_at ticks t this that)
    fires_here (wire x) =
        let y : Section = record x { timers = rearmed ticks t x.timers } in
        this_unknown ticks (wire y) that (section_fires ticks (section_cell x.head.state (firing t)) y) (section_fires_unknown ticks t y x.head.state refl)
    fires_here (owner u) = both_unknown (both (owner u) that)

fire_in_order : (ticks : Ticks) (timers : List Timer) (r : Connection × List Output) → From r.0 (fold (fires_next ticks) r timers)
fire_in_order ticks [] r = both_unknown r.0
fire_in_order ticks (t ∷ timers) r =
    let one = fires_next ticks r t in
    both_then r.0 one.0 (fold (fires_next ticks) one timers).0 (fires_unknown ticks t r.0.this r.0.that) (fire_in_order ticks timers one)

due_unknown : (ticks : Ticks) (c : Connection) → From c (fires_due ticks c)
unfolding fires_due
due_unknown ticks c = fire_in_order ticks firing_order (c, [])

ticked_unknown : (e : End) → StaysUnknown e (ticked e)
unfolding StaysUnknown
ticked_unknown (wire x) = same_head x.head
ticked_unknown (owner u) = tt

ticks_unknown : (ticks : Ticks) (c : Connection) → From c (ticks_by ticks c)
ticks_unknown ticks c =
    let lower = both (ticked c.this) (ticked c.that) in
    let one = fires_due ticks lower in
    let other = fires_due ticks (turned one.0) in
    let back = due_unknown ticks (turned one.0) in
    both_then c one.0 (turned other.0) (both_then c lower one.0 (ticked_unknown c.this, ticked_unknown c.that) (due_unknown ticks lower)) (back.1, back.0)

-- A message for the section itself.

IsKnown : (SectionHead → SectionHead → Type 0) → SectionHead → End → Type 0
IsKnown Confirmed x (wire y) = ((y.head.state ≡ Gone) × (y.head.point ≡ x.point)) ⊎ Confirmed x y.head
IsKnown Confirmed x (owner u) = ⊥

Becomes : (SectionHead → SectionHead → Type 0) → SectionHead → End → Type 0
Becomes Confirmed x (wire y) = IsStill x y.head ⊎ Confirmed x y.head
Becomes Confirmed x (owner u) = ⊥

known_becomes : (Confirmed : SectionHead → SectionHead → Type 0) (x : SectionHead) (e : End) → IsKnown Confirmed x e → Becomes Confirmed x e
unfolding IsKnown Becomes
known_becomes Confirmed x (wire y) (inl gone) = inl (inr gone.0, gone.1)
known_becomes Confirmed x (wire y) (inr confirmed) = inr confirmed
known_becomes Confirmed x (owner u) k = absurd k

still_becomes : (Confirmed : SectionHead → SectionHead → Type 0) (x : Section) (f : End) → StaysUnknown (wire x) f → is_reached x.head.state ≡ false → Becomes Confirmed x.head f
unfolding StaysUnknown IsUnknown Becomes
still_becomes Confirmed x (wire y) stays unknown = inl (stays.0 unknown)
still_becomes Confirmed x (owner v) stays unknown = absurd stays

-- what the other end is told of CC or CREF brings nothing back
abbrev IsSetUp : Hand → Type 0
IsSetUp (hand.Accept class credit called body importance) = Unit {0}
IsSetUp (hand.Refuse cause called body importance) = Unit {0}
IsSetUp _ = ⊥

abbrev NoHands : Acted → Type 0
NoHands done = (done.first ≡ []) × (done.then ≡ [])

section_tells_none : (ticks : Ticks) (h : Hand) (x : Section) (s : SectionState) → IsSetUp h → NoHands (section_takes ticks (section_takes_by s h) h x).1
unfolding section_row section_takes line_takes
section_tells_none ticks (hand.Accept class credit called body importance) x Asked is = (refl, refl)
section_tells_none ticks (hand.Accept class credit called body importance) x _ is = (refl, refl)
section_tells_none ticks (hand.Refuse cause called body importance) x Asked is = (refl, refl)
section_tells_none ticks (hand.Refuse cause called body importance) x _ is = (refl, refl)
section_tells_none ticks _ x s is = absurd is

user_tells_none : (h : Hand) (u : User) (s : UserState) → IsSetUp h → NoHands (user_takes (user_takes_by s h) h u).1
unfolding user_row user_takes
user_tells_none (hand.Accept class credit called body importance) u user.Calling is = (refl, refl)
user_tells_none (hand.Accept class credit called body importance) u _ is = (refl, refl)
user_tells_none (hand.Refuse cause called body importance) u user.Calling is = (refl, refl)
user_tells_none (hand.Refuse cause called body importance) u _ is = (refl, refl)
user_tells_none _ u s is = absurd is

tells_none : (ticks : Ticks) (h : Hand) (e : End) → IsSetUp h → NoHands (end_takes ticks h e).1
tells_none ticks h (wire x) is = section_tells_none ticks h x x.head.state is
tells_none ticks h (owner u) is = user_tells_none h u u.state is

nothing_back : (ticks : Ticks) (taken : End × Acted) (e : End) → NoHands taken.1 → (exchange 1 ticks taken e).0.that ≡ e
unfolding exchange
nothing_back ticks taken e none = rw (none.0, none.1) refl

after_one : (P : End → Type 0) (ticks : Ticks) (e that : End) (outs : List Output) (h : Hand) → IsSetUp h → P e → P (settles ticks (e, gives_then outs (h ∷ [])) that).0.this
unfolding exchange
after_one P ticks e that outs h is p = subst P (sym (nothing_back ticks (end_takes ticks h that) e (tells_none ticks h that is))) p

after_none : (P : End → Type 0) (ticks : Ticks) (e that : End) (outs : List Output) → P e → P (settles ticks (e, gives outs) that).0.this
unfolding exchange
after_none P ticks e that outs p = p

-- CC came from a point, with these parameters
record IsBy (o : Occasion) (point : ℕ) (m : Parameters) (before after : SectionHead) : Type 0 where
  confirmed : o ≡ on.Cc
  point_is : after.point ≡ point
  other : after.other ≡ m.slr
  state : ((after.state ≡ Up) × (after.class ≡ m.class)) ⊎ (after.state ≡ Ending)

KnownBy : Ticks → Occasion → ℕ → Parameters → Section → End → Section × Acted → Type 0
KnownBy ticks o point m x that done = IsKnown (IsBy o point m) x.head (settles ticks (timed ticks x done) that).0.this

cc_heard : (ticks : Ticks) (point : ℕ) (m : Parameters) (x : Section) (that : End) → KnownBy ticks on.Cc point m x that (by_line (line_hears cell.Confirm point m) x)
unfolding KnownBy line_hears IsKnown
cc_heard ticks point m x that =
    either (λ (done : Line × Acted). KnownBy ticks on.Cc point m x that (by_line (λ line. done) x)) ((m.class == 2 || m.class == 3) && nat_le m.class x.head.class) _ _
    (λ _. after_one (IsKnown (IsBy on.Cc point m) x.head) ticks _ that [] _ tt (inr (record { confirmed = refl; point_is = refl; other = refl; state = inl (refl, refl) })))
    (λ _. after_one (IsKnown (IsBy on.Cc point m) x.head) ticks _ that _ _ tt (inr (record { confirmed = refl; point_is = refl; other = refl; state = inr refl })))

-- CC or CREF in a state in which the other end isn't known
answered_at : (ticks : Ticks) (o : Occasion) (point : ℕ) (m : Parameters) (x : Section) (that : End) (s : SectionState) → is_reached s ≡ false → is_answer o ≡ true
    → IsKnown (IsBy o point m) x.head (settles ticks (section_hears ticks (section_cell s o) point m x) that).0.this
unfolding section_row section_hears line_hears IsKnown KnownBy
answered_at ticks on.Cc point m x that Asking unknown is = cc_heard ticks point m x that
answered_at ticks on.Cc point m x that Waning unknown is =
    after_none (IsKnown (IsBy on.Cc point m) x.head) ticks _ that _ (inr (record { confirmed = refl; point_is = refl; other = refl; state = inr refl }))
answered_at ticks on.Cref point m x that Asking unknown is = after_one (IsKnown (IsBy on.Cref point m) x.head) ticks _ that [] _ tt (inl (refl, refl))
answered_at ticks on.Cref point m x that Waning unknown is = after_none (IsKnown (IsBy on.Cref point m) x.head) ticks _ that [] (inl (refl, refl))
answered_at ticks on.Cc point m x that _ unknown is = absurd (false≢true (sym unknown))
answered_at ticks on.Cref point m x that _ unknown is = absurd (false≢true (sym unknown))
answered_at ticks _ point m x that s unknown is = absurd (false≢true is)

hears_at : (ticks : Ticks) (o : Occasion) (point : ℕ) (m : Parameters) (x : Section) (that : End) (s : SectionState) → x.head.state ≡ s → is_reached s ≡ false
    → Becomes (IsBy o point m) x.head (settles ticks (section_hears ticks (section_cell s o) point m x) that).0.this
unfolding section_row section_hears line_hears Becomes
hears_at ticks on.Cc point m x that s e unknown =
    known_becomes (IsBy on.Cc point m) x.head (settles ticks (section_hears ticks (section_cell s on.Cc) point m x) that).0.this (answered_at ticks on.Cc point m x that s unknown refl)
hears_at ticks on.Cref point m x that s e unknown =
    known_becomes (IsBy on.Cref point m) x.head (settles ticks (section_hears ticks (section_cell s on.Cref) point m x) that).0.this (answered_at ticks on.Cref point m x that s unknown refl)
hears_at ticks on.ConnectFires point m x that Waning e unknown = after_none (Becomes (IsBy on.ConnectFires point m) x.head) ticks _ that [] (inl (inr refl, refl))
hears_at ticks o point m x that Asking e unknown = after_none (Becomes (IsBy o point m) x.head) ticks _ that _ (inl (inl (rw e refl), refl))
hears_at ticks o point m x that Waning e unknown = after_none (Becomes (IsBy o point m) x.head) ticks _ that _ (inl (inl (rw e refl), refl))
hears_at ticks o point m x that _ e unknown = absurd (false≢true (sym unknown))

section_hears_it : (ticks : Ticks) (o : Occasion) (point : ℕ) (m : Parameters) (x : Section) (that : End) → is_reached x.head.state ≡ false
    → Becomes (IsBy o point m) x.head (hears_message ticks o point m x that).0.this
unfolding hears_message Becomes
section_hears_it ticks o point m x that unknown =
    either (λ (r : Connection × List Output). Becomes (IsBy o point m) x.head r.0.this) (is_from_elsewhere point x.head) _ _ (λ _. inl (inl unknown, refl)) (λ _. by_check (checked o m x.head))
  where
    by_check : (c : Option Output) → Becomes (IsBy o point m) x.head (settles ticks (hears_checked ticks o point m (in_touch ticks x) c) that).0.this
    by_check (Some out) = after_none (Becomes (IsBy o point m) x.head) ticks _ that (out ∷ []) (inl (inl unknown, refl))
    by_check None = hears_at ticks o point m (in_touch ticks x) that x.head.state refl unknown

-- no check answers CC or CREF
and_false : (b : Bool) → (b && false) ≡ false
and_false true = refl
and_false false = refl

unchecked : (o : Occasion) (m : Parameters) (x : SectionHead) → is_answer o ≡ true → checked o m x ≡ None
unchecked on.Cc m x is = rw (and_false (is_connected x.state)) refl
unchecked on.Cref m x is = rw (and_false (is_connected x.state)) refl
unchecked _ m x is = absurd (false≢true is)

section_answers : (ticks : Ticks) (o : Occasion) (point : ℕ) (m : Parameters) (x : Section) (that : End) → is_reached x.head.state ≡ false → is_answer o ≡ true
    → IsKnown (IsBy o point m) x.head (hears_message ticks o point m x that).0.this
unfolding hears_message
section_answers ticks o point m x that unknown is =
    let P : Connection × List Output → Type 0 = λ r. IsKnown (IsBy o point m) x.head r.0.this in
    either P (is_from_elsewhere point x.head) _ _ (λ elsewhere. absurd (false≢true (sym unknown ∙ first_true (is_reached x.head.state) _ elsewhere)))
    (λ _. subst (λ c. P (settles ticks (hears_checked ticks o point m (in_touch ticks x) c) that)) (sym (unchecked o m x.head is))
    (answered_at ticks o point m (in_touch ticks x) that x.head.state unknown is))

as_confirmed : (point : ℕ) (a : Arrival) (x y : Section) → is_named a.parameters.dlr (wire x) ≡ true → IsBy a.occasion point a.parameters x.head y.head → IsConfirmed point a x.head y.head
as_confirmed point a x y named by = record {
  confirmed = by.confirmed;
  named = sym (eqb-true x.head.mine a.parameters.dlr (first_true (x.head.mine == a.parameters.dlr) _ named));
  point = by.point_is;
  other = by.other;
  state = by.state;
}

-- a message that names the section, and one that doesn't
own_arrival : (ticks : Ticks) (point : ℕ) (a : Arrival) (x : Section) (this that : End) → this ≡ wire x → is_reached x.head.state ≡ false → is_named a.parameters.dlr this ≡ true
    → Becomes (IsConfirmed point a) x.head (at_this (hears_message ticks a.occasion point a.parameters) (both this that)).0.this
unfolding Becomes
own_arrival ticks point a x this that is unknown =
    subst (λ (e : End). is_named a.parameters.dlr e ≡ true → Becomes (IsConfirmed point a) x.head (at_this (hears_message ticks a.occasion point a.parameters) (both e that)).0.this) (sym is)
    (λ named. as_arrival (hears_message ticks a.occasion point a.parameters x that).0.this named (section_hears_it ticks a.occasion point a.parameters x that unknown))
  where
    as_arrival : (e : End) → is_named a.parameters.dlr (wire x) ≡ true → Becomes (IsBy a.occasion point a.parameters) x.head e → Becomes (IsConfirmed point a) x.head e
    as_arrival (wire y) named (inl still) = inl still
    as_arrival (wire y) named (inr by) = inr (as_confirmed point a x y named by)
    as_arrival (owner u) named b = absurd b

other_arrival : (ticks : Ticks) (point : ℕ) (a : Arrival) (x : Section) (this that : End) → that ≡ wire x → is_reached x.head.state ≡ false
    → Becomes (IsConfirmed point a) x.head (at_this (hears_message ticks a.occasion point a.parameters) (both this that)).0.that
unfolding hears_message
other_arrival ticks point a x this that is unknown =
    let f = (at_this (hears_message ticks a.occasion point a.parameters) (both this that)).0.that in
    still_becomes (IsConfirmed point a) x f (subst (λ (e : End). StaysUnknown e f) is (stays this)) unknown
  where
    stays : (this : End) → StaysUnknown that (at_this (hears_message ticks a.occasion point a.parameters) (both this that)).0.that
    stays (wire z) =
        either (λ (r : Connection × List Output). StaysUnknown that r.0.that) (is_from_elsewhere point z.head) _ _ (λ _. end_same that) (λ _. that_unknown ticks _ that)
    stays (owner u) = end_same that

message_known : (ticks : Ticks) (point : ℕ) (a : Option Arrival) (end other : Connection → End) (c : Connection) (x : Section) → AreSides end other → end c ≡ wire x → is_reached x.head.state ≡ false
    → names (destination_of a) c ≡ true → Becomes (ByArrival point a) x.head (end (heard_by ticks point a c).0)
unfolding Becomes
message_known ticks point None end other c x sides is unknown n = absurd (false≢true n)
message_known ticks point (Some a) end other c x this_and_that is unknown n =
    either (λ (r : Connection × List Output). Becomes (IsConfirmed point a) x.head r.0.this) (is_named a.parameters.dlr c.this) _ _
    (λ named. own_arrival ticks point a x c.this c.that is unknown named) (λ _. other_arrival ticks point a x c.that c.this is unknown)
message_known ticks point (Some a) end other c x that_and_this is unknown n =
    either (λ (r : Connection × List Output). Becomes (IsConfirmed point a) x.head r.0.that) (is_named a.parameters.dlr c.this) _ _
    (λ _. other_arrival ticks point a x c.this c.that is unknown)
    (λ named. own_arrival ticks point a x c.that c.this is unknown (other_named (is_named a.parameters.dlr c.this) (is_named a.parameters.dlr c.that) n named))

-- The event, and the step.

event_known : (ticks : Ticks) (c : Connection) (event : Event) (end other : Connection → End) (x : Section) → AreSides end other → end c ≡ wire x → is_reached x.head.state ≡ false
    → hears c event ≡ true → Becomes (ByConfirm event) x.head (end (event_step ticks c event).0)
unfolding hears
event_known ticks c (Arrived point sls bytes) end other x sides is unknown h = message_known ticks point (arrival_in bytes) end other c x sides is unknown h
event_known ticks c (Requested ssn r) end other x sides is unknown h =
    let d = (event_step ticks c (Requested ssn r)).0 in
    still_becomes (ByConfirm (Requested ssn r)) x (end d) (subst (λ (e : End). StaysUnknown e (end d)) is (of_end StaysUnknown end other c d sides (asked_unknown ticks ssn r c.this c.that))) unknown
event_known ticks c Tick end other x sides is unknown h =
    let d = (event_step ticks c Tick).0 in
    still_becomes (ByConfirm Tick) x (end d) (subst (λ (e : End). StaysUnknown e (end d)) is (of_end StaysUnknown end other c d sides (ticks_unknown ticks c))) unknown

same_becomes : (Confirmed : SectionHead → SectionHead → Type 0) (x : SectionHead) (e f : End) → SameHead e f → Becomes Confirmed x e → Becomes Confirmed x f
unfolding Becomes
same_becomes Confirmed x (wire y) (wire z) same b = subst (λ (h : SectionHead). IsStill x h ⊎ Confirmed x h) (sym same) b
same_becomes Confirmed x (wire y) (owner v) same b = absurd same
same_becomes Confirmed x (owner u) f same b = absurd b

only_by : OnlyByConfirm
unfolding connection_step Becomes
only_by ticks c event end other x y h sides is after unknown =
    let r = event_step ticks c event in
    let d = (connection_step ticks c event).0 in
    subst (Becomes (ByConfirm event) x.head) after
    (same_becomes (ByConfirm event) x.head (end r.0) (end d) (of_end SameHead end other r.0 d sides (after_heads ticks r)) (event_known ticks c event end other x sides is unknown h))

-- CC or CREF for the section.

own_answer : (ticks : Ticks) (point : ℕ) (a : Arrival) (x : Section) (this that : End) → this ≡ wire x → is_reached x.head.state ≡ false → is_answer a.occasion ≡ true
    → is_named a.parameters.dlr (wire x) ≡ true → IsKnown (IsConfirmed point a) x.head (at_this (hears_message ticks a.occasion point a.parameters) (both this that)).0.this
unfolding IsKnown
own_answer ticks point a x this that is unknown answer named =
    subst (λ (e : End). IsKnown (IsConfirmed point a) x.head (at_this (hears_message ticks a.occasion point a.parameters) (both e that)).0.this) (sym is)
    (of_arrival (hears_message ticks a.occasion point a.parameters x that).0.this (section_answers ticks a.occasion point a.parameters x that unknown answer))
  where
    of_arrival : (e : End) → IsKnown (IsBy a.occasion point a.parameters) x.head e → IsKnown (IsConfirmed point a) x.head e
    of_arrival (wire y) (inl gone) = inl gone
    of_arrival (wire y) (inr by) = inr (as_confirmed point a x y named by)
    of_arrival (owner u) k = absurd k

same_known : (Confirmed : SectionHead → SectionHead → Type 0) (x : SectionHead) (e f : End) → SameHead e f → IsKnown Confirmed x e → IsKnown Confirmed x f
unfolding IsKnown
same_known Confirmed x (wire y) (wire z) same k = subst (λ (h : SectionHead). ((h.state ≡ Gone) × (h.point ≡ x.point)) ⊎ Confirmed x h) (sym same) k
same_known Confirmed x (wire y) (owner v) same k = absurd same
same_known Confirmed x (owner u) f same k = absurd k

by_answer : ByAnswer
unfolding connection_step IsKnown
by_answer ticks c point sls bytes a x y end e answer named (at_this_end is) unknown after =
    let r = event_step ticks c (Arrived point sls bytes) in
    let K : End → Type 0 = IsKnown (IsConfirmed point a) x.head in
    let heard : K r.0.this = subst (λ b. K (heard_by ticks point b c).0.this) (sym e)
    (either (λ (r : Connection × List Output). K r.0.this) (is_named a.parameters.dlr c.this) _ _ (λ _. own_answer ticks point a x c.this c.that is unknown answer named)
    (λ not. absurd (false≢true (sym not ∙ subst (λ (e : End). is_named a.parameters.dlr e ≡ true) (sym is) named)))) in
    subst K after (same_known (IsConfirmed point a) x.head r.0.this (after_event ticks r).0.this (after_heads ticks r).0 heard)
by_answer ticks c point sls bytes a x y end e answer named (at_that_end is not_this) unknown after =
    let r = event_step ticks c (Arrived point sls bytes) in
    let K : End → Type 0 = IsKnown (IsConfirmed point a) x.head in
    let heard : K r.0.that = subst (λ b. K (heard_by ticks point b c).0.that) (sym e)
    (either (λ (r : Connection × List Output). K r.0.that) (is_named a.parameters.dlr c.this) _ _ (λ is_this. absurd (false≢true (sym not_this ∙ is_this)))
    (λ _. own_answer ticks point a x c.that c.this is unknown answer named)) in
    subst K after (same_known (IsConfirmed point a) x.head r.0.that (after_event ticks r).0.that (after_heads ticks r).1 heard)

pub becomes_known : BecomesKnown
becomes_known = record { only_by = only_by; by_answer = by_answer }
