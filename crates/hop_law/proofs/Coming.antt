-- Where RSR comes from, step by step of a course.
use Rattle.std.proofs.Common.{◌≡◌, ◌≢◌, ◌⊎◌, inl, inr, ℕ, ◌==◌, false, List, [], ◌∷◌, ◌++◌, Option, Some, None, refl, sym, ◌∙◌, ap, subst}
use Rattle.std.specs.List.{AllByRecursion, list_any}
use Rattle.std.proofs.lemmas.Bool.{false≢true}
use Rattle.std.proofs.lemmas.List.Folds.{list_any-append}
use Rattle.relay_base.specs.declared.words.Event.{Event}
use Rattle.relay_base.specs.declared.words.Event.TheVariants.{Message as Arrived, Asked as Requested, Tick}
use Rattle.relay_base.specs.declared.words.Output.{Output}
use Rattle.relay_base.specs.declared.words.Output.TheVariants.{Sent, Told, Lost}
use Rattle.plant_core.specs.declared.terms.Ticks.{Ticks}
use Rattle.section_model.specs.Parameters.{Arrival, arrival_in}
use Rattle.section_model.specs.Ends.{End, Connection}
use Rattle.section_model.specs.Step.{destination_of}
use Rattle.section_model.specs.Lane.{fed, part_by, reference_of}
use Rattle.connection_law.proofs.Flow.Flowing.{either}
use Rattle.connection_law.proofs.Reference.Step.{step_keeps}
use Rattle.hop_law.specs.Waiting.{Waiting, message_to, messages_to}
use Rattle.hop_law.specs.Hop.{Hop, Neighbours, HopStep, near_meets, far_meets, comes_forward, comes_back, joins_forward, joins_back, Course, come_forward, come_back, hop_step, hop_along, begun, is_stray_answer, IsStrange, IsElsewhere, IsFair, AreFair}
use Rattle.hop_law.proofs.Along.{neither}
use Rattle.hop_law.proofs.Lists.{all_joined}
use Rattle.hop_law.proofs.Hearing.{by_hearing}
use Rattle.hop_law.specs.ResetAnswering.{is_rsr, IsRsrFor, BringsRsr}
use Rattle.hop_law.specs.Coming.{SendsNoRsr, NoRsrWaits, RsrIsSent}
use Rattle.section_model.specs.declared.cell.Occasion.TheVariants as on
use Rattle.hop_law.proofs.Typing.{IsOther, is_other}

-- No RSR among outputs, and so none in either part of them.

pub parted : (one other : List Output) → SendsNoRsr (one ++ other) → SendsNoRsr one × SendsNoRsr other
parted one other none = neither (list_any is_rsr one) (list_any is_rsr other) (sym (list_any-append is_rsr one other) ∙ none)

-- what was sent until later has none, and so what was sent before
SentBefore : Course → Course → Type 0
SentBefore g d = (SendsNoRsr d.near_outs → SendsNoRsr g.near_outs) × (SendsNoRsr d.far_outs → SendsNoRsr g.far_outs)

before_step : (n : Neighbours) (g : Course) (step : HopStep) → SentBefore g (hop_step n g step)
unfolding SentBefore
before_step n g (near_meets event) = (λ none. (parted g.near_outs (part_by n.near_ticks event g.hop.near) none).0, λ none. none)
before_step n g (far_meets event) = (λ none. none, λ none. (parted g.far_outs (part_by n.far_ticks event g.hop.far) none).0)
before_step n g comes_forward = by_queue g.hop.forward
  where
    by_queue : (queue : List Waiting) → SentBefore g (come_forward n queue g)
    by_queue [] = (λ none. none, λ none. none)
    by_queue (m ∷ more) = (λ none. none, λ none. (parted g.far_outs (part_by n.far_ticks (Arrived n.near m.sls m.bytes) g.hop.far) none).0)
before_step n g comes_back = by_queue g.hop.back
  where
    by_queue : (queue : List Waiting) → SentBefore g (come_back n queue g)
    by_queue [] = (λ none. none, λ none. none)
    by_queue (m ∷ more) = (λ none. (parted g.near_outs (part_by n.near_ticks (Arrived n.far m.sls m.bytes) g.hop.near) none).0, λ none. none)
before_step n g (joins_forward m) = (λ none. none, λ none. none)
before_step n g (joins_back m) = (λ none. none, λ none. none)

before_steps : (n : Neighbours) (steps : List HopStep) (g : Course) → SentBefore g (hop_along n g steps)
unfolding SentBefore hop_along
before_steps n [] g = (λ none. none, λ none. none)
before_steps n (step ∷ steps) g =
    let one = before_step n g step in
    let rest = before_steps n steps (hop_step n g step) in (λ none. one.0 (rest.0 none), λ none. one.1 (rest.1 none))

-- The references of a connection stay.

fed_references : (ticks : Ticks) (c : Connection) (event : Event)
    → (let d = fed ticks c event in (reference_of d.this ≡ reference_of c.this) × (reference_of d.that ≡ reference_of c.that))
fed_references ticks c event =
    by_hearing (λ d outs. (reference_of d.this ≡ reference_of c.this) × (reference_of d.that ≡ reference_of c.that)) ticks c event
    (λ _. let stay = step_keeps ticks c event in (stay.0.reference, stay.1.reference)) (λ _. (refl, refl))

-- No RSR among the messages that wait.

abbrev IsNotFor : End → Waiting → Type 0
IsNotFor e m = IsRsrFor (reference_of e) (arrival_in m.bytes) → ⊥

-- outputs without RSR
none_sent : (e : End) (point : ℕ) (outs : List Output) → SendsNoRsr outs → NoRsrWaits e (messages_to point outs)
unfolding messages_to
none_sent e point [] none = tt
none_sent e point (out ∷ outs) none =
    let parts = neither (is_rsr out) (list_any is_rsr outs) none in
    all_joined (IsNotFor e) (message_to point out) (messages_to point outs) (by_output out parts.0) (none_sent e point outs parts.1)
  where
    no_rsr : (a : Option Arrival) → IsOther on.Rsr a → IsRsrFor (reference_of e) a → ⊥
    no_rsr None other rsr = rsr
    no_rsr (Some a) other rsr = other rsr.0

    by_output : (out : Output) → is_rsr out ≡ false → NoRsrWaits e (message_to point out)
    by_output (Sent to sls bytes) other = either (NoRsrWaits e) (to == point) _ _ (λ _. (no_rsr (arrival_in bytes) (is_other on.Rsr bytes other), tt)) (λ _. tt)
    by_output (Told ssn tell) other = tt
    by_output (Lost lost) other = tt

-- messages of others
pub strange_not : (c : Connection) (e : End) (a : Option Arrival) → (reference_of c.this ≡ reference_of e) ⊎ (reference_of c.that ≡ reference_of e) → IsStrange c a → IsRsrFor (reference_of e) a → ⊥
strange_not c e None has strange rsr = rsr
strange_not c e (Some a) has strange rsr = false≢true (sym (ap is_stray_answer rsr.0) ∙ strange (rw (← rsr.1) has))

all_strange_not : (c : Connection) (e : End) (queue : List Waiting) → (reference_of c.this ≡ reference_of e) ⊎ (reference_of c.that ≡ reference_of e)
    → AllByRecursion (λ (m : Waiting). IsStrange c (arrival_in m.bytes)) queue → NoRsrWaits e queue
all_strange_not c e [] has strange = tt
all_strange_not c e (m ∷ queue) has strange = (strange_not c e (arrival_in m.bytes) has strange.0, all_strange_not c e queue has strange.1)

-- A connection sends, or a message of others joins a queue.

sends_none : (e : End) (point : ℕ) (queue : List Waiting) (before outs : List Output) → NoRsrWaits e queue → SendsNoRsr (before ++ outs) → NoRsrWaits e (queue ++ messages_to point outs)
sends_none e point queue before outs waits none =
    all_joined (IsNotFor e) queue (messages_to point outs) waits (none_sent e point outs (parted before outs none).1)

joins_none : (c : Connection) (e : End) (queue : List Waiting) (m : Waiting) → (reference_of c.this ≡ reference_of e) ⊎ (reference_of c.that ≡ reference_of e) → NoRsrWaits e queue
    → IsStrange c (arrival_in m.bytes) → NoRsrWaits e (queue ++ m ∷ [])
joins_none c e queue m has waits strange = all_joined (IsNotFor e) queue (m ∷ []) waits (strange_not c e (arrival_in m.bytes) has strange, tt)

-- The way forward: the far section has the reference of an end, and no RSR for it waits.

record Forward (e : End) (h : Hop) : Type 0 where
  reference : reference_of h.far.this ≡ reference_of e
  waits : NoRsrWaits e h.forward

forward_step : (n : Neighbours) (g : Course) (step : HopStep) (e : End) → Forward e g.hop → IsFair n g.hop step → SendsNoRsr (hop_step n g step).near_outs → Forward e (hop_step n g step).hop
forward_step n g (near_meets event) e k fair none =
    record { reference = k.reference; waits = sends_none e n.far g.hop.forward g.near_outs (part_by n.near_ticks event g.hop.near) k.waits none }
forward_step n g (far_meets event) e k fair none = record { reference = (fed_references n.far_ticks g.hop.far event).0 ∙ k.reference; waits = k.waits }
forward_step n g comes_forward e k fair none = by_queue g.hop.forward k.waits
  where
    by_queue : (queue : List Waiting) → NoRsrWaits e queue → Forward e (come_forward n queue g).hop
    by_queue [] waits = k
    by_queue (m ∷ more) waits = record { reference = (fed_references n.far_ticks g.hop.far (Arrived n.near m.sls m.bytes)).0 ∙ k.reference; waits = waits.1 }
forward_step n g comes_back e k fair none = by_queue g.hop.back none
  where
    by_queue : (queue : List Waiting) → SendsNoRsr (come_back n queue g).near_outs → Forward e (come_back n queue g).hop
    by_queue [] none = k
    by_queue (m ∷ more) none = record {
      reference = k.reference;
      waits = sends_none e n.far g.hop.forward g.near_outs (part_by n.near_ticks (Arrived n.far m.sls m.bytes) g.hop.near) k.waits none;
    }
forward_step n g (joins_forward m) e k fair none = record { reference = k.reference; waits = joins_none g.hop.far e g.hop.forward m (inl k.reference) k.waits fair }
forward_step n g (joins_back m) e k fair none = record { reference = k.reference; waits = k.waits }

forward_along : (n : Neighbours) (steps : List HopStep) (g : Course) (e : End) → Forward e g.hop → AreFair n g steps → SendsNoRsr (hop_along n g steps).near_outs
    → Forward e (hop_along n g steps).hop
unfolding hop_along AreFair SentBefore
forward_along n [] g e k fair none = k
forward_along n (step ∷ steps) g e k fair none =
    let next = hop_step n g step in forward_along n steps next e (forward_step n g step e k fair.0 ((before_steps n steps next).0 none)) fair.1 none

-- The way back, and so there.

record Back (e : End) (h : Hop) : Type 0 where
  reference : reference_of h.near.that ≡ reference_of e
  waits : NoRsrWaits e h.back

back_step : (n : Neighbours) (g : Course) (step : HopStep) (e : End) → Back e g.hop → IsFair n g.hop step → SendsNoRsr (hop_step n g step).far_outs → Back e (hop_step n g step).hop
back_step n g (near_meets event) e k fair none = record { reference = (fed_references n.near_ticks g.hop.near event).1 ∙ k.reference; waits = k.waits }
back_step n g (far_meets event) e k fair none =
    record { reference = k.reference; waits = sends_none e n.near g.hop.back g.far_outs (part_by n.far_ticks event g.hop.far) k.waits none }
back_step n g comes_forward e k fair none = by_queue g.hop.forward none
  where
    by_queue : (queue : List Waiting) → SendsNoRsr (come_forward n queue g).far_outs → Back e (come_forward n queue g).hop
    by_queue [] none = k
    by_queue (m ∷ more) none = record {
      reference = k.reference;
      waits = sends_none e n.near g.hop.back g.far_outs (part_by n.far_ticks (Arrived n.near m.sls m.bytes) g.hop.far) k.waits none;
    }
back_step n g comes_back e k fair none = by_queue g.hop.back k.waits
  where
    by_queue : (queue : List Waiting) → NoRsrWaits e queue → Back e (come_back n queue g).hop
    by_queue [] waits = k
    by_queue (m ∷ more) waits = record { reference = (fed_references n.near_ticks g.hop.near (Arrived n.far m.sls m.bytes)).1 ∙ k.reference; waits = waits.1 }
back_step n g (joins_forward m) e k fair none = record { reference = k.reference; waits = k.waits }
back_step n g (joins_back m) e k fair none = record { reference = k.reference; waits = joins_none g.hop.near e g.hop.back m (inr k.reference) k.waits fair }

back_along : (n : Neighbours) (steps : List HopStep) (g : Course) (e : End) → Back e g.hop → AreFair n g steps → SendsNoRsr (hop_along n g steps).far_outs
    → Back e (hop_along n g steps).hop
unfolding hop_along AreFair SentBefore
back_along n [] g e k fair none = k
back_along n (step ∷ steps) g e k fair none =
    let next = hop_step n g step in back_along n steps next e (back_step n g step e k fair.0 ((before_steps n steps next).1 none)) fair.1 none

-- where it stands now
waits_as : (e f : End) (queue : List Waiting) → reference_of f ≡ reference_of e → NoRsrWaits e queue → NoRsrWaits f queue
waits_as e f [] same waits = tt
waits_as e f (m ∷ queue) same waits = (subst (λ r. IsRsrFor r (arrival_in m.bytes) → ⊥) (sym same) waits.0, waits_as e f queue same waits.1)

pub rsr_is_sent : RsrIsSent
rsr_is_sent n h steps b fair = (forward_none, back_none)
  where
    g : Course
    g = hop_along n (begun h) steps

    forward_none : SendsNoRsr g.near_outs → NoRsrWaits g.hop.far.this g.hop.forward
    forward_none none =
        let first : Forward h.far.this h = record { reference = refl; waits = all_strange_not h.far h.far.this h.forward (inl refl) b.forward } in
        let last = forward_along n steps (begun h) h.far.this first fair none in waits_as h.far.this g.hop.far.this g.hop.forward last.reference last.waits

    back_none : SendsNoRsr g.far_outs → NoRsrWaits g.hop.near.that g.hop.back
    back_none none =
        let first : Back h.near.that h = record { reference = refl; waits = all_strange_not h.near h.near.that h.back (inr refl) b.back } in
        let last = back_along n steps (begun h) h.near.that first fair none in waits_as h.near.that g.hop.near.that g.hop.back last.reference last.waits

-- What comes brings none, if it was no RSR that waited: from elsewhere, or as a message of others.

pub elsewhere_brings_none : (point : ℕ) (e : End) (event : Event) → IsElsewhere point e event → BringsRsr e event → ⊥
elsewhere_brings_none point e (Arrived from sls bytes) elsewhere rsr = by_arrival (arrival_in bytes) elsewhere.1 rsr
  where
    by_arrival : (a : Option Arrival) → destination_of a ≢ reference_of e → IsRsrFor (reference_of e) a → ⊥
    by_arrival None other rsr = rsr
    by_arrival (Some a) other rsr = other (sym rsr.1)
elsewhere_brings_none point e (Requested ssn r) elsewhere rsr = rsr
elsewhere_brings_none point e Tick elsewhere rsr = rsr
