-- What is carried from node to node along a trail.
use Rattle.std.proofs.Common.{◌≡◌, ◌≢◌, ℕ, suc, ◌+◌, ◌≤◌, ◌<◌, Bool, true, false, List, [], ◌∷◌, ◌-◌, ◌++◌, nat_lt, length, map, take, drop, refl, sym, ◌∙◌, ap, subst, arith, ltb-true, ltb-false}
use Rattle.std.specs.List.{AllByRecursion, list_any}
use Rattle.std.proofs.lemmas.Bool.{false≢true}
use Rattle.std.proofs.lemmas.List.{take-append-drop, get_or_past}
use Rattle.std.proofs.lemmas.List.Folds.{list_any-append}
use Rattle.relay_base.specs.declared.limits.TheConstants.{REFERENCES}
use Rattle.relay_base.specs.declared.words.Output.{Output}
use Rattle.plant_core.specs.declared.terms.TheConstants.{USUAL_TICKS}
use Rattle.section_model.specs.Ends.{End, wire, owner, DataUnit, Section, Connection}
use Rattle.section_model.specs.Opening.{wish_of, slots_needed}
use Rattle.section_model.specs.Journals.{IsConnJournal}
use Rattle.section_model.specs.Lane.{lowest_free, answer_of}
use Rattle.section_model.specs.Laws.{openings_from}
use Rattle.lane_law.proofs.Splitting.{splits}
use Rattle.hop_law.specs.Units.{units_on}
use Rattle.hop_law.proofs.Reading.{joined_on}
use Rattle.connection_law.specs.InStep.{class_at, passed_at, got_at}
use Rattle.hop_law.specs.TextLaw.{Begins}
use Rattle.hop_law.specs.ClassLaw.{IsOfAClass}
use Rattle.hop_law.specs.PlaceLaw.{StaysPut}
use Rattle.hop_law.specs.LeavingLaw.{AreSides, this_and_that, that_and_this}
use Rattle.hop_law.specs.ClearingLaw.{is_reset}
use Rattle.hop_law.proofs.Clearing.{begins_then}
use Rattle.hop_law.proofs.Placing.{along_place}
use Rattle.hop_law.specs.Waiting.{Waiting}
use Rattle.hop_law.specs.LeftAlong.{outs_along}
use Rattle.hop_law.specs.Hop.{IsCarried}
use Rattle.hop_law.proofs.Along.{of_end, all_hear, neither, left_along}
use Rattle.chain_step.specs.Run.{NodeState, RunState, first_node, head_of, node_at}
use Rattle.passage_law.specs.Nodes.{IsNode}
use Rattle.passage_law.specs.Trails.{Leg, lane_at, IsLeg, heard_on, now_on, outs_on, IsNext, AreLegs, is_user, last_of}
use Rattle.passage_law.specs.Hops.{AreNeighbours, HopCarries, StandsTo, queue_of}
use Rattle.passage_law.proofs.Opening.{IsReached, StandsWhere, Begun, entry_begins, entry_class}
use Rattle.passage_law.proofs.Placing.{Stood, Stands, apart_along}

-- A leg at a node whose journal is a legal one.
pub record IsLegal (leg : Leg) : Type 0 where
  pub begun : Begun leg.first leg.by.outs
  pub class : IsOfAClass (class_at leg.first.this)

abbrev pub references_at : ℕ → Leg → List ℕ
references_at i leg =
    lowest_free (lane_at i) (openings_from (lane_at i) [] leg.before) (slots_needed (wish_of (head_of i).terms leg.by.event) (answer_of leg.by))

pub is_legal : (n i : ℕ) (node : NodeState) (leg : Leg) → IsNode n i node → IsLeg i node leg → IsLegal leg
is_legal n i node leg is at =
    let openings = openings_from (lane_at i) [] leg.before in
    let legal : IsConnJournal (head_of i) 0 (leg.before ++ leg.by ∷ leg.since) = subst (IsConnJournal (head_of i) 0) at.journal is.legal in
    let entry = ((splits (lane_at i) [] leg.before (leg.by ∷ leg.since)).0 legal).1.0 in
    record { begun = entry_begins (lane_at i) openings leg.by leg.first entry at.opens; class = entry_class (lane_at i) openings leg.by leg.first entry at.opens }

pub none_reset : (leg : Leg) → list_any is_reset (outs_on leg) ≡ false → list_any is_reset (outs_along USUAL_TICKS leg.first (heard_on leg)) ≡ false
none_reset leg none =
    let outs = outs_along USUAL_TICKS leg.first (heard_on leg) in
    (neither (list_any is_reset leg.by.outs) (list_any is_reset outs) (sym (list_any-append is_reset leg.by.outs outs) ∙ none)).1

begins_take : (n : ℕ) (units left : List DataUnit) → left ≡ take n units → Begins left units
begins_take n units left e = record { more = drop n units; is = sym (ap (λ (first : List DataUnit). first ++ drop n units) e ∙ take-append-drop n units) }

-- What left on a section begins what came in at the other end, which stood to another point always.
pub leaves_on : (i point : ℕ) (node : NodeState) (leg : Leg) (end other : Connection → End) (x : Section) → IsLeg i node leg → IsLegal leg → AreSides end other → AreSides other end
    → end (now_on leg) ≡ wire x → x.head.other < REFERENCES → x.head.point ≢ point → Stood point (other leg.first) → Stands point (other (now_on leg)) → list_any is_reset (outs_on leg) ≡ false
    → Begins (units_on x.head (outs_on leg)) (got_at (other (now_on leg)))
leaves_on i point node leg end other x at legal sides back is fits differs stood stands none =
    let events = map (λ e. e.event) leg.since in
    let outs = outs_along USUAL_TICKS leg.first (heard_on leg) in
    let apart = apart_along USUAL_TICKS other end point x.head back differs (heard_on leg) leg.first (all_hear USUAL_TICKS leg.first events) stood stands in
    let left = left_along (head_of i).terms leg.by.event (answer_of leg.by) (references_at i leg) leg.first events end other x (omega arith) at.opens legal.class sides is fits apart (none_reset leg none) in
    begins_take (passed_at (other (now_on leg))) (got_at (other (now_on leg))) (units_on x.head (outs_on leg))
    (joined_on x.head leg.by.outs outs ∙ (ap (λ (units : List DataUnit). units ++ units_on x.head outs) (legal.begun.no_unit x.head) ∙ left))

-- no connection of a trail sent RSR or RSC
abbrev pub NoneResets : List Leg → Type 0
NoneResets legs = AllByRecursion (λ leg. list_any is_reset (outs_on leg) ≡ false) legs

-- What is known of a run: each leg is legal, and between neighbours units are carried and the sections stand.
pub record Carries (r : RunState) : Type 0 where
  pub legal : (i : ℕ) (leg : Leg) → 1 ≤ i → IsLeg i (node_at i r.nodes) leg → IsLegal leg
  pub places : (i : ℕ) (one next : Leg) → 1 ≤ i → AreNeighbours r i one next → StandsTo (i + 1) (now_on one).that × StandsTo i (now_on next).this
  pub hops :
      (i : ℕ) (one next : Leg) → 1 ≤ i → AreNeighbours r i one next → list_any is_reset (outs_on one) ≡ false → list_any is_reset (outs_on next) ≡ false →
      HopCarries r i one next

-- a node with a leg is one of the row
pub within : (r : RunState) (i : ℕ) (leg : Leg) → 1 ≤ i → IsLeg i (node_at i r.nodes) leg → i ≤ length r.nodes
within r i leg least at = by_test (nat_lt (length r.nodes) i) refl
  where
    no_entry : [] ≡ leg.before ++ leg.by ∷ leg.since → ⊥
    no_entry e = elim leg.before as (λ before. [] ≡ before ++ leg.by ∷ leg.since → ⊥) [ [] ↦ λ e. cc | entry ∷ more ↦ λ e. cc ] e

    by_test : (b : Bool) → nat_lt (length r.nodes) i ≡ b → i ≤ length r.nodes
    by_test false e = omega (arith, ltb-false (length r.nodes) i e)
    by_test true e = absurd (no_entry (sym (ap (λ (node : NodeState). node.journal) (get_or_past r.nodes (i - 1) (first_node 0 0) (omega (arith, ltb-true (length r.nodes) i e, least)))) ∙ at.journal))

-- the two sections of a hop, and what came in at the one of what left on the other
record Hopped (outs : List Output) (e f : End) : Type 0 where
  leaving : Section
  taking : Section
  is_leaving : e ≡ wire leaving
  is_taking : f ≡ wire taking
  begins : Begins taking.windows.got (units_on leaving.head outs)

hopped : (outs : List Output) (e f : End) (queue : List Waiting) → IsCarried outs e f queue → Hopped outs e f
hopped outs (wire y) (wire x) queue c = record { leaving = y; taking = x; is_leaving = refl; is_taking = refl; begins = c.0 }
hopped outs (wire y) (owner u) queue c = absurd c
hopped outs (owner u) f queue c = absurd c

pub first_leg : (r : RunState) (i : ℕ) (leg : Leg) (more : List Leg) → AreLegs r i leg more → IsLeg i (node_at i r.nodes) leg
first_leg r i leg [] legs = legs
first_leg r i leg (next ∷ more) legs = legs.0

-- Units that begin others at the other end of a leg begin them at the end of its neighbour.
carried_over : (i point to : ℕ) (node : NodeState) (leg : Leg) (end other : Connection → End) (f : End) (units : List DataUnit) → IsLeg i node leg → IsLegal leg → AreSides end other → AreSides other end
    → to ≢ point → Stood point (other leg.first) → Stands point (other (now_on leg)) → StandsTo to (end (now_on leg)) → list_any is_reset (outs_on leg) ≡ false → Hopped (outs_on leg) (end (now_on leg)) f
    → Begins (got_at (other (now_on leg))) units → Begins (got_at f) units
carried_over i point to node leg end other f units at legal sides back differs stood stands placed none h begins =
    let x = h.leaving in
    let place : StandsTo to (wire x) = subst (StandsTo to) h.is_leaving placed in
    let left = leaves_on i point node leg end other x at legal sides back h.is_leaving place.1 (λ same. differs (sym place.0 ∙ same)) stood stands none in
    subst (λ e. Begins (got_at e) units) (sym h.is_taking)
    (begins_then h.taking.windows.got (units_on x.head (outs_on leg)) units h.begins (begins_then (units_on x.head (outs_on leg)) (got_at (other (now_on leg))) units left begins))

asked_stood : (leg : Leg) (point : ℕ) → IsLegal leg → Stood point leg.first.this
asked_stood leg point legal = by_end leg.first.this legal.begun.asked
  where
    by_end : (e : End) → IsReached e → Stood point e
    by_end (wire x) reached = λ unknown. absurd (false≢true (sym unknown ∙ reached))
    by_end (owner u) reached = tt

asking_stood : (leg next : Leg) (i : ℕ) → IsLegal leg → IsNext i leg next → Stood (i + 1) leg.first.that
asking_stood leg next i legal follows = by_end leg.first.that legal.begun.asking
  where
    by_end : (e : End) → StandsWhere e leg.by.outs → Stood (i + 1) e
    by_end (wire x) where_to = λ unknown. where_to i (i + 1) next.by.event follows
    by_end (owner u) where_to = tt

stands_from : (point : ℕ) (e : End) → StandsTo point e → Stands point e
stands_from point (wire x) to = to.0
stands_from point (owner u) to = tt

-- Forward: from the leg at node j + 1, whose asked end stands to node j.
pub forward : (r : RunState) → Carries r → (j : ℕ) (leg : Leg) (more : List Leg) (units : List DataUnit) → AreLegs r (suc j) leg more → NoneResets (leg ∷ more) → Stands j (now_on leg).this
    → Begins (got_at (now_on leg).this) units → Begins (got_at (now_on (last_of leg more)).this) units
forward r k j leg [] units legs none stands begins = begins
forward r k j leg (next ∷ more) units legs none stands begins =
    let hop : AreNeighbours r (suc j) leg next = record { here = legs.0; there = first_leg r (suc j + 1) next more legs.2; follows = legs.1 } in
    let legal = k.legal (suc j) leg (omega arith) legs.0 in
    let place = k.places (suc j) leg next (omega arith) hop in
    let over = hopped (outs_on leg) (now_on leg).that (now_on next).this (queue_of true (node_at (suc j) r.nodes)) (k.hops (suc j) leg next (omega arith) hop none.0 none.1.0).0 in
    let carried = carried_over (suc j) j (suc j + 1) (node_at (suc j) r.nodes) leg (λ c. c.that) (λ c. c.this) (now_on next).this units legs.0 legal that_and_this this_and_that (omega arith)
    (asked_stood leg j legal) stands place.0 none.0 over begins in
    forward r k (suc j) next more units (subst (λ i. AreLegs r i next more) (omega arith) legs.2) none.1 (stands_from (suc j) (now_on next).this place.1) carried

-- Back: to the leg at node i, whose other end stands to the next node.
pub back : (r : RunState) → Carries r → (i : ℕ) (leg : Leg) (more : List Leg) (units : List DataUnit) → 1 ≤ i → AreLegs r i leg more → NoneResets (leg ∷ more)
    → is_user (last_of leg more).first.that ≡ true → Begins (got_at (now_on (last_of leg more)).that) units → Begins (got_at (now_on leg).that) units × Stands (i + 1) (now_on leg).that × Stood (i + 1) leg.first.that
back r k i leg [] units least legs none user begins = let placed = by_end leg.first.that (now_on leg).that user (of_end StaysPut (λ c. c.that) (λ c. c.this) leg.first (now_on leg) that_and_this (along_place USUAL_TICKS leg.first (heard_on leg))) in (begins, placed.0, placed.1)
  where
    by_end : (e f : End) → is_user e ≡ true → StaysPut e f → Stands (i + 1) f × Stood (i + 1) e
    by_end (wire x) f user put = absurd (false≢true user)
    by_end (owner u) (wire y) user put = absurd put
    by_end (owner u) (owner v) user put = (tt, tt)
back r k i leg (next ∷ more) units least legs none user begins =
    let there = first_leg r (i + 1) next more legs.2 in
    let hop : AreNeighbours r i leg next = record { here = legs.0; there = there; follows = legs.1 } in
    let place = k.places i leg next least hop in
    let behind = back r k (i + 1) next more units (omega arith) legs.2 none.1 user begins in
    let over = hopped (outs_on next) (now_on next).this (now_on leg).that (queue_of false (node_at (i + 1) r.nodes)) (k.hops i leg next least hop none.0 none.1.0).1 in
    let carried = carried_over (i + 1) (i + 1 + 1) i (node_at (i + 1) r.nodes) next (λ c. c.this) (λ c. c.that) (now_on leg).that units there (k.legal (i + 1) next (omega arith) there)
    this_and_that that_and_this (omega arith) behind.2 behind.1 place.1 none.1.0 over behind.0 in
    (carried, stands_from (i + 1) (now_on leg).that place.0, asking_stood leg next i (k.legal i leg least legs.0) legs.1)
