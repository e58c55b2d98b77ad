-- Where the sections of a trail stand: each to the point that it was opened to, since no reference was given twice.
use Rattle.std.proofs.Common.{◌≡◌, ◌⊎◌, inl, inr, ℕ, ◌+◌, ◌≤◌, true, List, [], ◌∷◌, ◌++◌, map, Some, None, refl, sym, ◌∙◌, ap, subst, arith}
use Rattle.std.specs.List.{AllByRecursion}
use Rattle.std.proofs.lemmas.Bool.{eqb-true}
use Rattle.std.proofs.lemmas.List.{map-append}
use Rattle.plant_core.specs.declared.terms.LaneHead.{LaneHead}
use Rattle.plant_core.specs.declared.terms.TheConstants.{USUAL_TICKS}
use Rattle.section_model.specs.Ends.{End, wire, owner, Connection}
use Rattle.section_model.specs.Lane.{Opening, reference_of}
use Rattle.connection_law.proofs.Reference.Following.{following_stays}
use Rattle.chain_step.specs.declared.step.Step.{Step}
use Rattle.chain_step.specs.Fresh.{all_fresh}
use Rattle.chain_step.specs.Run.{NodeState, RunState, arrives, openings_of, node_at, run_of}
use Rattle.passage_law.specs.Nodes.{AreSteps}
use Rattle.passage_law.specs.Naming.{BothStand, StandsOn}
use Rattle.passage_law.specs.References.{Firsts, firsts_in, IsTo, Gave, IsSection}
use Rattle.passage_law.specs.Fair.{Has}
use Rattle.passage_law.specs.Ways.{IsOnward}
use Rattle.passage_law.proofs.RowStanding.{are_nodes}
use Rattle.passage_law.proofs.Linking.{ComesFrom, arrives_from, all_flat}
use Rattle.passage_law.proofs.LaneNames.{AllStand}
use Rattle.passage_law.proofs.Referring.{is_referred}
use Rattle.passage_law.proofs.Freshness.{AreFresh, one_point, run_fresh}
use Rattle.passage_law.proofs.Parting.{stand_back}
use Rattle.passage_law.proofs.RowFair.{has_first}
use Rattle.passage_law.proofs.Ways.{all_go_on}
use Rattle.passage_law.specs.Trails.{Leg, IsLeg, heard_on, now_on, IsNext}
use Rattle.passage_law.specs.Hops.{StandsTo, RunPlaces}
use Rattle.passage_law.proofs.Placing.{Stands}
use Rattle.passage_law.proofs.Openings.{leg_opening, leg_has}
use Rattle.passage_law.proofs.Coming.{leg_came, is_from_cr}

-- The end that was asked stands where CR came from.
asked_stands : (i : ℕ) (node : NodeState) (one next : Leg) → IsLeg (i + 1) node next → IsNext i one next → Stands i next.first.this
asked_stands i node one next there follows = by_end next.first.this refl
  where
    comes : ComesFrom i next.by.event
    comes = (subst (AllByRecursion (ComesFrom i)) follows (all_flat (ComesFrom i) (arrives i (i + 1)) (arrives_from i (i + 1)) one.by.outs)).0

    by_end : (e : End) → next.first.this ≡ e → Stands i e
    by_end (wire x) is =
        let cr = leg_came (i + 1) node next x there is in sym (eqb-true i x.head.point (sym (comes x.head.point) ∙ is_from_cr x.head.point x.head.other next.by.event cr))
    by_end (owner u) is = tt

-- The other end goes on.

last_part : {A : Type 0} (P : A → Type 0) (one other : List A) → AllByRecursion P (one ++ other) → AllByRecursion P other
last_part P [] other all = all
last_part P (x ∷ one) other all = last_part P one other all.1

pub onward_of : (n i : ℕ) (steps : List Step) (leg : Leg) → AreSteps n steps → 2 ≤ n → 1 ≤ i → i ≤ n → Has (node_at i (run_of n steps).nodes) (leg_opening leg)
    → IsOnward n i leg.first.that
onward_of n i steps leg are two least most has =
    let P : Connection → Type 0 = λ c. IsOnward n i c.that in
    let all = subst (AllByRecursion P) (ap (map (λ (o : Opening). o.first)) has.are ∙ map-append (λ (o : Opening). o.first) has.before (leg_opening leg ∷ has.after)) (all_go_on n i steps are two least most) in
    (last_part P (map (λ (o : Opening). o.first) has.before) (leg.first ∷ map (λ (o : Opening). o.first) has.after) all).0

-- An end now, and as it was opened.

to_end : (point : ℕ) (e : End) (mine : ℕ) → Stands point e → reference_of e ≡ Some mine → IsTo point mine e
to_end point (wire x) mine stands named = let same : x.head.mine ≡ mine = cc in (stands, same)
to_end point (owner u) mine stands named = absurd (nothing named)
  where
    nothing : None ≡ Some mine → ⊥
    nothing e = cc

stands_to : (f : Firsts) (i point : ℕ) (first now : End) → AreFresh (f i) → ((mine : ℕ) → IsTo point mine first → Gave f i point mine) → StandsOn (IsSection f i) now → Stands point first
    → reference_of now ≡ reference_of first → StandsTo point now
stands_to f i point first (owner u) fresh gave stands stood same = tt
stands_to f i point first (wire x) fresh gave stands stood same =
    (one_point f i x.head.point point x.head.mine fresh stands.3 (gave x.head.mine (to_end point first x.head.mine stood (sym same))), stands.0)

onward_stands : (n i : ℕ) (e : End) → IsOnward n i e → Stands (i + 1) e
onward_stands n i (wire x) onward = onward.0
onward_stands n i (owner u) onward = tt

-- A leg, at a node of a run in which no reference was given twice.
record IsKnown (r : RunState) (i : ℕ) (leg : Leg) : Type 0 where
  fresh : AreFresh (firsts_in r i)
  has : Has (node_at i r.nodes) (leg_opening leg)
  stand : BothStand (IsSection (firsts_in r) i) (now_on leg)

known : (n i : ℕ) (steps : List Step) (leg : Leg) → AreSteps n steps → 2 ≤ n → 1 ≤ i → i ≤ n → all_fresh (run_of n steps) ≡ true → IsLeg i (node_at i (run_of n steps).nodes) leg → IsKnown (run_of n steps) i leg
known n i steps leg are two least most fresh at =
    let r = run_of n steps in
    let node = node_at i r.nodes in
    let nodes = are_nodes n steps two are in
    let head = (nodes.each i least most).head in
    let has = leg_has i node leg head at in
    let S : ℕ → ℕ → ℕ → Type 0 = IsSection (firsts_in r) i in
    let all : AllStand S USUAL_TICKS (openings_of node) = subst (λ (h : LaneHead). AllStand S h.terms.ticks (openings_of node)) head ((is_referred n steps two are).names i least most).0 in record {
      fresh = run_fresh r i least (subst (λ k. i ≤ k) (sym nodes.long) most) fresh;
      has = has;
      stand = (stand_back S USUAL_TICKS has.before (leg_opening leg ∷ has.after) (subst (AllStand S USUAL_TICKS) has.are all)).0;
    }

pub run_places : RunPlaces
run_places n i steps one next are two least less fresh hop =
    let r = run_of n steps in
    let f = firsts_in r in
    let j = i + 1 in
    let near = known n i steps one are two least (omega (arith, less)) fresh hop.here in
    let far = known n j steps next are two (omega arith) (omega (arith, less)) fresh hop.there in
    let near_stays = following_stays USUAL_TICKS one.first (heard_on one) in
    let far_stays = following_stays USUAL_TICKS next.first (heard_on next) in
    let onward = onward_stands n i one.first.that (onward_of n i steps one are two least (omega (arith, less)) near.has) in
    let asked = asked_stands i (node_at j r.nodes) one next hop.there hop.follows in (
      stands_to f i j one.first.that (now_on one).that near.fresh
          (λ mine to. has_first (λ c. IsTo j mine c.this ⊎ IsTo j mine c.that) (node_at i r.nodes) (leg_opening one) near.has (inr to)) near.stand.1 onward near_stays.that.reference,
      stands_to f j i next.first.this (now_on next).this far.fresh
          (λ mine to. has_first (λ c. IsTo i mine c.this ⊎ IsTo i mine c.that) (node_at j r.nodes) (leg_opening next) far.has (inl to)) far.stand.0 asked far_stays.this.reference,
    )
