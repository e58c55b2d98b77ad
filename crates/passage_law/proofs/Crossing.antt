-- RSR crosses between the legs of a hop alone.
use Rattle.std.proofs.Common.{◌≡◌, inl, inr, ℕ, List, [], ◌∷◌, refl, sym, subst}
use Rattle.std.specs.List.{AllByRecursion}
use Rattle.relay_base.specs.declared.words.Event.{Event}
use Rattle.relay_base.specs.declared.words.Event.TheVariants.{Message as Arrived, Asked as Requested, Tick}
use Rattle.plant_core.specs.declared.entry.Entry.{Entry}
use Rattle.plant_core.specs.declared.terms.TheConstants.{USUAL_TICKS}
use Rattle.section_model.specs.Parameters.{arrival_in}
use Rattle.section_model.specs.Ends.{End, Connection}
use Rattle.section_model.specs.Lane.{part_by}
use Rattle.hop_law.specs.Waiting.{Waiting}
use Rattle.hop_law.proofs.Lists.{all_joined}
use Rattle.hop_law.specs.ResetAnswering.{BringsRsr, NoneBringsRsr}
use Rattle.hop_law.specs.Coming.{SendsNoRsr, NoRsrWaits}
use Rattle.hop_law.proofs.Coming.{parted, strange_not, elsewhere_brings_none}
use Rattle.hop_law.proofs.Flows.{Comes, elsewhere, first}
use Rattle.passage_law.specs.Trails.{Leg, now_on, outs_on}
use Rattle.passage_law.specs.Resets.{met_on, RsrCrosses}
use Rattle.passage_law.proofs.Waiting.{IsNoAnswer}
use Rattle.passage_law.proofs.Legs.{leg_more, events_more, outs_on_more}

-- Before the far leg was opened none came for the near one.

no_answer_without : (point : ℕ) (c : Connection) (event : Event) → IsNoAnswer point c event → BringsRsr c.that event → ⊥
no_answer_without point c (Arrived from sls bytes) (inl unnamed) rsr = elsewhere_brings_none point c.that (Arrived from sls bytes) unnamed rsr
no_answer_without point c (Arrived from sls bytes) (inr strange) rsr = strange_not c c.that (arrival_in bytes) (inr refl) strange rsr
no_answer_without point c (Requested ssn r) none rsr = rsr
no_answer_without point c Tick none rsr = rsr

none_answers_with : (point : ℕ) (c : Connection) (events : List Event) → AllByRecursion (IsNoAnswer point c) events → NoneBringsRsr c.that events
none_answers_with point c [] none = tt
none_answers_with point c (event ∷ events) none = (no_answer_without point c event none.0, none_answers_with point c events none.1)

pub begun_crosses : (point : ℕ) (one next : Leg) → AllByRecursion (IsNoAnswer point one.first) (met_on one) → next.since ≡ [] → RsrCrosses one next
begun_crosses point one next unanswered none = (
  λ _. subst (λ (since : List Entry). NoneBringsRsr next.first.this (met_on (record next { since = since }))) (sym none) tt,
  λ _. none_answers_with point one.first (met_on one) unanswered,
)

-- One event more at the one leg, or at the other.

one_more : (e : End) (leg : Leg) (entry : Entry) → NoneBringsRsr e (met_on leg) → (BringsRsr e entry.event → ⊥) → NoneBringsRsr e (met_on (leg_more leg entry))
one_more e leg entry all none =
    subst (NoneBringsRsr e) (sym (events_more leg entry)) (all_joined (λ (event : Event). BringsRsr e event → ⊥) (met_on leg) (entry.event ∷ []) all (none, tt))

sent_before : (leg : Leg) (entry : Entry) → SendsNoRsr (outs_on (leg_more leg entry)) → SendsNoRsr (outs_on leg)
sent_before leg entry none = (parted (outs_on leg) (part_by USUAL_TICKS entry.event (now_on leg)) (subst SendsNoRsr (outs_on_more leg entry) none)).0

pub near_crosses : (one next : Leg) (entry : Entry) → RsrCrosses one next → (SendsNoRsr (outs_on next) → BringsRsr one.first.that entry.event → ⊥) → RsrCrosses (leg_more one entry) next
near_crosses one next entry k comes = (λ none. k.0 (sent_before one entry none), λ none. one_more one.first.that one entry (k.1 none) (comes none))

pub far_crosses : (one next : Leg) (entry : Entry) → RsrCrosses one next → (SendsNoRsr (outs_on one) → BringsRsr next.first.this entry.event → ⊥) → RsrCrosses one (leg_more next entry)
far_crosses one next entry k comes = (λ none. one_more next.first.this next entry (k.0 none) (comes none), λ none. k.1 (sent_before next entry none))

-- what comes brings none, if none waits
pub comes_without : (point : ℕ) (e : End) (queue rest : List Waiting) (event : Event) → Comes point e queue event rest → NoRsrWaits e queue → BringsRsr e event → ⊥
comes_without point e queue rest event (elsewhere _ is) waits = elsewhere_brings_none point e event is
comes_without point e queue rest event (first m _ is) waits = (subst (NoRsrWaits e) is waits).0
