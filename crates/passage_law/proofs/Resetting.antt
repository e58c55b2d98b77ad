-- Where no connection of a trail sends RSR, none sends RSC.
use Rattle.std.proofs.Common.{◌≡◌, ℕ, ◌+◌, ◌≤◌, ◌||◌, Bool, true, false, List, [], ◌∷◌, ◌++◌, Option, Some, None, refl, sym, ◌∙◌, subst, arith}
use Rattle.std.specs.List.{list_any}
use Rattle.std.proofs.lemmas.Bool.{false≢true}
use Rattle.std.proofs.lemmas.List.Folds.{list_any-append}
use Rattle.relay_base.specs.declared.words.Event.{Event}
use Rattle.relay_base.specs.declared.words.Event.TheVariants.{Message as Arrived, Asked as Requested, Tick}
use Rattle.relay_base.specs.declared.words.Output.{Output}
use Rattle.plant_core.specs.declared.terms.TheConstants.{USUAL_TICKS}
use Rattle.section_model.specs.Parameters.{Arrival, arrival_in}
use Rattle.section_model.specs.Ends.{End, wire, owner}
use Rattle.section_model.specs.Opening.{wish_of}
use Rattle.section_model.specs.Journals.{IsConnJournal}
use Rattle.section_model.specs.Lane.{legal_outputs, answer_of}
use Rattle.section_model.specs.Laws.{openings_from}
use Rattle.lane_law.proofs.Splitting.{splits}
use Rattle.hop_law.specs.ClearingLaw.{is_reset}
use Rattle.hop_law.specs.LeftAlong.{outs_along}
use Rattle.hop_law.specs.ResetAnswering.{is_rsr, is_rsc, IsRsrFor, BringsRsr, NoneBringsRsr}
use Rattle.hop_law.specs.Coming.{SendsNoRsr}
use Rattle.hop_law.proofs.ResetAnswering.{none_answers}
use Rattle.hop_law.proofs.Opening.{opening_resets_none}
use Rattle.chain_step.specs.Run.{NodeState, RunState, head_of, node_at}
use Rattle.passage_law.specs.Nodes.{IsNode}
use Rattle.passage_law.specs.Trails.{Leg, lane_at, IsLeg, heard_on, outs_on, AreLegs, is_user, last_of}
use Rattle.passage_law.specs.Hops.{AreNeighbours}
use Rattle.passage_law.specs.Resets.{met_on, RsrCrosses}
use Rattle.passage_law.specs.TrailLaw.{NoneSendsRsr}
use Rattle.passage_law.proofs.Opening.{opens_outs}
use Rattle.passage_law.proofs.Trailing.{references_at, NoneResets, first_leg}

-- The entry that opened a leg resets nothing.
pub opens_quietly : (n i : ℕ) (node : NodeState) (leg : Leg) → IsNode n i node → IsLeg i node leg → list_any is_reset leg.by.outs ≡ false
unfolding legal_outputs
opens_quietly n i node leg is at =
    let openings = openings_from (lane_at i) [] leg.before in
    let legal : IsConnJournal (head_of i) 0 (leg.before ++ leg.by ∷ leg.since) = subst (IsConnJournal (head_of i) 0) at.journal is.legal in
    let entry = ((splits (lane_at i) [] leg.before (leg.by ∷ leg.since)).0 legal).1.0 in
    let wish = wish_of (head_of i).terms leg.by.event in
    subst (λ outs. list_any is_reset outs ≡ false) (sym (entry.outputs ∙ opens_outs (lane_at i) openings leg.by.event (answer_of leg.by) wish leg.first at.opens))
    (opening_resets_none (head_of i).terms leg.by.event (answer_of leg.by) (references_at i leg) leg.first at.opens)

-- neither RSR nor RSC
neither_sent : (outs : List Output) → list_any is_rsr outs ≡ false → list_any is_rsc outs ≡ false → list_any is_reset outs ≡ false
neither_sent [] request confirm = refl
neither_sent (out ∷ outs) request confirm = by_test (is_rsr out) (is_rsc out) request confirm (neither_sent outs)
  where
    by_test : (a b : Bool) → (a || list_any is_rsr outs) ≡ false → (b || list_any is_rsc outs) ≡ false → (list_any is_rsr outs ≡ false → list_any is_rsc outs ≡ false → list_any is_reset outs ≡ false)
        → ((a || b) || list_any is_reset outs) ≡ false
    by_test true b request confirm more = absurd (false≢true (sym request))
    by_test false true request confirm more = absurd (false≢true (sym confirm))
    by_test false false request confirm more = more request confirm

-- the last part of outputs without RSR has none
last_part : (one other : List Output) → SendsNoRsr (one ++ other) → SendsNoRsr other
last_part one other none = by_test (list_any is_rsr one) (list_any is_rsr other) (sym (list_any-append is_rsr one other) ∙ none)
  where
    by_test : (a b : Bool) → (a || b) ≡ false → b ≡ false
    by_test true b e = absurd (false≢true (sym e))
    by_test false b e = e

leg_resets_none : (leg : Leg) → list_any is_reset leg.by.outs ≡ false → SendsNoRsr (outs_on leg) → NoneBringsRsr leg.first.this (met_on leg) → NoneBringsRsr leg.first.that (met_on leg)
    → list_any is_reset (outs_on leg) ≡ false
leg_resets_none leg quiet none this that =
    let outs = outs_along USUAL_TICKS leg.first (heard_on leg) in
    let later = neither_sent outs (last_part leg.by.outs outs none) (none_answers USUAL_TICKS leg.first (met_on leg) this that) in
    list_any-append is_reset leg.by.outs outs ∙ rw (quiet, later) refl

-- no RSR is for a user's end, which has no reference
pub user_brings_none : (e : End) (events : List Event) → is_user e ≡ true → NoneBringsRsr e events
user_brings_none e [] user = tt
user_brings_none e (event ∷ events) user = (by_end e event user, user_brings_none e events user)
  where
    by_arrival : (a : Option Arrival) → IsRsrFor None a → ⊥
    by_arrival None rsr = rsr
    by_arrival (Some a) rsr = nothing rsr.1
      where
        nothing : None ≡ Some a.parameters.dlr → ⊥
        nothing e = cc

    by_end : (e : End) (event : Event) → is_user e ≡ true → BringsRsr e event → ⊥
    by_end (wire x) event user rsr = false≢true user
    by_end (owner u) (Arrived point sls bytes) user rsr = by_arrival (arrival_in bytes) rsr
    by_end (owner u) (Requested ssn r) user rsr = rsr
    by_end (owner u) Tick user rsr = rsr

-- What is known of a run: no leg resets anything as it is opened, and RSR crosses between neighbours alone.
pub record Crosses (r : RunState) : Type 0 where
  pub opens : (i : ℕ) (leg : Leg) → 1 ≤ i → IsLeg i (node_at i r.nodes) leg → list_any is_reset leg.by.outs ≡ false
  pub crosses : (i : ℕ) (one next : Leg) → 1 ≤ i → AreNeighbours r i one next → RsrCrosses one next

-- From a leg on, for whose asked end no RSR comes, to the last one, for whose other end none comes.
pub none_resets : (r : RunState) → Crosses r → (i : ℕ) (leg : Leg) (more : List Leg) → 1 ≤ i → AreLegs r i leg more → NoneSendsRsr (leg ∷ more) → NoneBringsRsr leg.first.this (met_on leg)
    → NoneBringsRsr (last_of leg more).first.that (met_on (last_of leg more)) → NoneResets (leg ∷ more)
none_resets r k i leg [] least legs none asked other = (leg_resets_none leg (k.opens i leg least legs) none.0 asked other, tt)
none_resets r k i leg (next ∷ more) least legs none asked other =
    let there = first_leg r (i + 1) next more legs.2 in
    let both = k.crosses i leg next least (record { here = legs.0; there = there; follows = legs.1 }) in (
      leg_resets_none leg (k.opens i leg least legs.0) none.0 asked (both.1 none.1.0),
      none_resets r k (i + 1) next more (omega arith) legs.2 none.1 (both.0 none.0) other,
    )
