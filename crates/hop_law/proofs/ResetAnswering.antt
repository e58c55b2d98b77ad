-- RSC answers RSR.
use Rattle.std.proofs.Common.{◌≡◌, ℕ, ◌==◌, ◌||◌, not, Bool, true, false, List, [], ◌∷◌, Option, Some, None, refl, sym, ap, subst, eqb-true}
use Rattle.std.proofs.lemmas.Bool.{false≢true, and_parts}
use Rattle.relay_base.specs.declared.words.Event.{Event}
use Rattle.relay_base.specs.declared.words.Event.TheVariants.{Message as Arrived, Asked as Requested, Tick}
use Rattle.relay_base.specs.declared.words.Output.{Output}
use Rattle.plant_core.specs.declared.terms.Ticks.{Ticks}
use Rattle.section_model.specs.Parameters.{Arrival, arrival_in}
use Rattle.section_model.specs.Ends.{End, wire, owner, Connection, is_gone}
use Rattle.section_model.specs.Step.{hears_message, is_named, at_this, heard_by, names, destination_of, hears, event_step, connection_step}
use Rattle.section_model.specs.Lane.{next, heard, reference_of}
use Rattle.connection_law.proofs.Flow.Flowing.{either}
use Rattle.connection_law.proofs.Reference.Ends.{Both}
use Rattle.connection_law.proofs.Reference.Step.{step_keeps}
use Rattle.connection_law.specs.ReferenceLaw.{Stays}
use Rattle.hop_law.specs.LeftAlong.{outs_along}
use Rattle.hop_law.proofs.Hearing.{by_hearing}
use Rattle.hop_law.specs.ResetAnswering.{SendsNoRsc, IsRsrFor, BringsRsr, NoneBringsRsr, RscAnswersRsr, NoneAnswers}
use Rattle.hop_law.proofs.Sending.{rsc_joined, message_free, asked_free, ticks_free, after_free}

-- what is named has the reference
named_reference : (reference : ℕ) (e : End) → is_named reference e ≡ true → reference_of e ≡ Some reference
named_reference reference (wire x) named = ap Some (eqb-true x.head.mine reference (and_parts (x.head.mine == reference) (not (is_gone x.head.state)) named).0)
named_reference reference (owner u) named = absurd (false≢true named)

other_named : (a b : Bool) → (a || b) ≡ true → a ≡ false → b ≡ true
other_named true b is none = absurd (false≢true (sym none))
other_named false b is none = is

at_end : (ticks : Ticks) (point : ℕ) (a : Arrival) (this that : End) → is_named a.parameters.dlr this ≡ true → (IsRsrFor (reference_of this) (Some a) → ⊥)
    → SendsNoRsc (at_this (hears_message ticks a.occasion point a.parameters) (record { this = this; that = that })).1
at_end ticks point a (wire x) that named none =
    message_free ticks a.occasion point a.parameters x that (λ rsr. none (rsr, named_reference a.parameters.dlr (wire x) named))
at_end ticks point a (owner u) that named none = refl

heard_free : (ticks : Ticks) (point : ℕ) (a : Option Arrival) (c : Connection) → names (destination_of a) c ≡ true → (IsRsrFor (reference_of c.this) a → ⊥) → (IsRsrFor (reference_of c.that) a → ⊥)
    → SendsNoRsc (heard_by ticks point a c).1
heard_free ticks point None c named this that = refl
heard_free ticks point (Some a) c named this that =
    either (λ (r : Connection × List Output). SendsNoRsc r.1) (is_named a.parameters.dlr c.this) _ _ (λ here. at_end ticks point a c.this c.that here this)
    (λ not. at_end ticks point a c.that c.this (other_named (is_named a.parameters.dlr c.this) (is_named a.parameters.dlr c.that) named not) that)

event_free : (ticks : Ticks) (c : Connection) (event : Event) → hears c event ≡ true → (BringsRsr c.this event → ⊥) → (BringsRsr c.that event → ⊥) → SendsNoRsc (event_step ticks c event).1
unfolding hears
event_free ticks c (Arrived point sls bytes) h this that = heard_free ticks point (arrival_in bytes) c h this that
event_free ticks c (Requested ssn r) h this that = asked_free ticks ssn r c.this c.that
event_free ticks c Tick h this that = ticks_free ticks c

step_free : (ticks : Ticks) (c : Connection) (event : Event) → hears c event ≡ true → (BringsRsr c.this event → ⊥) → (BringsRsr c.that event → ⊥) → SendsNoRsc (connection_step ticks c event).1
unfolding connection_step
step_free ticks c event h this that = after_free ticks (event_step ticks c event) (event_free ticks c event h this that)

pub rsc_answers_rsr : RscAnswersRsr
rsc_answers_rsr ticks c event this that =
    by_hearing (λ d outs. SendsNoRsc outs) ticks c event (λ h. step_free ticks c event h this that) (λ _. refl)

-- Along all that it hears: its references stay.

pub brings_as : (e f : End) (event : Event) → reference_of f ≡ reference_of e → (BringsRsr e event → ⊥) → BringsRsr f event → ⊥
brings_as e f (Arrived point sls bytes) same none = subst (λ r. IsRsrFor r (arrival_in bytes) → ⊥) (sym same) none
brings_as e f (Requested ssn r) same none = none
brings_as e f Tick same none = none

pub none_brings_as : (e f : End) (events : List Event) → reference_of f ≡ reference_of e → NoneBringsRsr e events → NoneBringsRsr f events
none_brings_as e f [] same none = tt
none_brings_as e f (event ∷ events) same none = (brings_as e f event same none.0, none_brings_as e f events same none.1)

pub none_answers : NoneAnswers
unfolding heard outs_along
none_answers ticks c [] this that = refl
none_answers ticks c (event ∷ events) this that =
    let d = next ticks c event in
    let stay : Both Stays c d = step_keeps ticks c event in
    by_test (hears c event) refl
    (none_answers ticks d events (none_brings_as c.this d.this events stay.0.reference this.1) (none_brings_as c.that d.that events stay.1.reference that.1))
    (none_answers ticks c events this.1 that.1)
  where
    by_test : (b : Bool) → hears c event ≡ b → SendsNoRsc (outs_along ticks (next ticks c event) (heard ticks (next ticks c event) events)) → SendsNoRsc (outs_along ticks c (heard ticks c events))
        → SendsNoRsc (outs_along ticks c (elim b [ true ↦ event ∷ heard ticks (next ticks c event) events | false ↦ heard ticks c events ]))
    by_test true h more others =
        let d = next ticks c event in rsc_joined (connection_step ticks c event).1 (outs_along ticks d (heard ticks d events)) (step_free ticks c event h this.0 that.0) more
    by_test false h more others = others
