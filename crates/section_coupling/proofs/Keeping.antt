-- What the two ends of a connection keep of windows, as the code keeps it.
use Rattle.std.proofs.Common.{◌≡◌, ◌∙◌, ◌≤◌, ℕ, List, [], Some, subst, ap}
use Rattle.std.specs.Prelude.{Option, IfSome, IsTrue, option_map}
use Rattle.relay_base.specs.declared.limits.TheConstants.{GREATEST_CREDIT}
use Rattle.relay_base.specs.declared.words.Event.{Event}
use Rattle.plant_core.specs.declared.terms.Ticks.{Ticks}
use Rattle.relay_base.specs.declared.words.Output.{Output}
use Rattle.plant_core.specs.declared.answer.Answer.{Answer}
use Rattle.plant_core.specs.declared.terms.Terms.{Terms}
use Rattle.section_model.specs.Step.{after_event, connection_step, event_step, hears}
use Rattle.section_model.specs.Opening.{wish_of, opened}
use Rattle.connection_law.specs.InStep.{AreInStep, IsInStep}
use Rattle.connection_law.proofs.Flow.Step.{step_keeps}
use Rattle.connection_law.proofs.Flow.Opening.{opening_keeps}
use Rattle.connection_law.specs.DataSent.{SendsData}
use Rattle.connection_law.specs.ExpeditedSent.{SendsExpedited}
use Rattle.connection_law.proofs.Message.Sent.{data_sent, expedited_sent}
use Rattle.section_coupling.specs.declared.side.Side.{Side}
use Rattle.section_coupling.specs.declared.side.Side.TheVariants as side
use Rattle.section_coupling.specs.declared.pair.Pair.{Pair}
use Rattle.section_coupling.specs.Views.{end_at, connection_at, behind}
use Rattle.section_model.specs.Ends.{Connection}

-- timers are no part of it
of-sides : (m n : ℕ) (this that : Side) → AreInStep (end_at m this) (end_at m that) → AreInStep (end_at n this) (end_at n that)
of-sides m n (side.Wire w) (side.Wire v) k = k
of-sides m n (side.Wire w) (side.User o) k = k
of-sides m n (side.User o) (side.Wire w) k = k
of-sides m n (side.User o) (side.User p) k = k

pub at-any : (m n : ℕ) (p : Pair) → IsInStep (connection_at m p) → IsInStep (connection_at n p)
at-any m n p k = of-sides m n p.this p.that k

-- it is kept by each step
pub kept-after : (ticks : Ticks) (now later : ℕ) (event : Event) (p q : Pair) (outs : List Output) → IsInStep (connection_at 0 p)
    → connection_step ticks (connection_at now p) event ≡ (connection_at later q, outs) → IsInStep (connection_at 0 q)
kept-after ticks now later event p q outs k e =
    at-any later 0 q (subst (λ r. IsInStep r.0) e (step_keeps ticks (connection_at now p) event (at-any 0 now p k)))

-- in its two parts
pub step_joined : (ticks : Ticks) (now later then : ℕ) (event : Event) (p q r : Pair) (outs more : List Output) → then ≡ later
    → event_step ticks (connection_at now p) event ≡ (connection_at later q, outs) → after_event ticks (connection_at then q, outs) ≡ (connection_at then r, more)
    → connection_step ticks (connection_at now p) event ≡ (connection_at later r, more)
unfolding connection_step
step_joined ticks now later then event p q r outs more same e f =
    ap (after_event ticks) e ∙ subst (λ t. after_event ticks (connection_at t q, outs) ≡ (connection_at t r, more)) same f

pub kept-step : (ticks : Ticks) (now later then : ℕ) (event : Event) (p q r : Pair) (outs more : List Output) → IsInStep (connection_at 0 p) → then ≡ later
    → event_step ticks (connection_at now p) event ≡ (connection_at later q, outs) → after_event ticks (connection_at then q, outs) ≡ (connection_at then r, more)
    → IsInStep (connection_at 0 r)
kept-step ticks now later then event p q r outs more k same e f =
    kept-after ticks now later event p r more k (step_joined ticks now later then event p q r outs more same e f)

-- what stands behind no output
pub behind_none : (none : List Output) (given r : Connection × List Output) → none ≡ [] → behind none given ≡ r → given ≡ r
behind_none none given r e f = subst (λ os. behind os given ≡ r) e f

-- what such a step sends
pub data-step : (ticks : Ticks) (now later then : ℕ) (event : Event) (p q r : Pair) (outs more : List Output) → IsInStep (connection_at 0 p) → then ≡ later
    → event_step ticks (connection_at now p) event ≡ (connection_at later q, outs) → after_event ticks (connection_at then q, outs) ≡ (connection_at then r, more)
    → SendsData ticks (connection_at now p) event more
data-step ticks now later then event p q r outs more k same e f =
    subst (λ done. SendsData ticks (connection_at now p) event done.1) (step_joined ticks now later then event p q r outs more same e f)
    (data_sent ticks (connection_at now p) event (at-any 0 now p k))

pub expedited-step : (ticks : Ticks) (now later then : ℕ) (event : Event) (p q r : Pair) (outs more : List Output) → IsTrue (hears (connection_at now p) event) → then ≡ later
    → event_step ticks (connection_at now p) event ≡ (connection_at later q, outs) → after_event ticks (connection_at then q, outs) ≡ (connection_at then r, more)
    → SendsExpedited ticks (connection_at now p) event more
expedited-step ticks now later then event p q r outs more h same e f =
    subst (λ done. SendsExpedited ticks (connection_at now p) event done.1) (step_joined ticks now later then event p q r outs more same e f)
    (expedited_sent ticks (connection_at now p) event h)

-- and from the opening on
pub kept-opened : (terms : Terms) (event : Event) (answer : Option Answer) (references : List ℕ) (now : ℕ) (pair : Option Pair) (p : Pair) (outs : List Output) → terms.credit ≤ GREATEST_CREDIT
    → opened terms (wish_of terms event) answer references ≡ record { connection = option_map (connection_at now) pair; outs = outs } → pair ≡ Some p → IsInStep (connection_at 0 p)
kept-opened terms event answer references now pair p outs fits e same =
    at-any now 0 p
    (opening_keeps terms event answer references (connection_at now p) fits (ap (λ o. o.connection) e ∙ ap (option_map (connection_at now)) same))

pub of-some : {A : Type 0} (P : A → Type 0) (o : Option A) (x : A) → IfSome o P → o ≡ Some x → P x
of-some P o x h e = subst (λ p. IfSome p P) e h
