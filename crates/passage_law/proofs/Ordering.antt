-- What users are told along a trail are the first of the texts that were given.
use Rattle.std.proofs.Common.{◌≡◌, ℕ, ◌+◌, ◌≤◌, ◌<◌, nat_lt, true, false, List, [], ◌∷◌, ◌++◌, length, map, sym, ◌∙◌, ap, subst, arith, ltb-true}
use Rattle.std.specs.List.{list_any, flat_map}
use Rattle.std.proofs.lemmas.List.Concat.{flat_map-append}
use Rattle.std.proofs.lemmas.Bool.{false≢true}
use Rattle.relay_base.specs.declared.words.Event.{Event}
use Rattle.relay_base.specs.declared.words.Event.TheVariants.{Message as Arrived, Asked as Requested, Tick}
use Rattle.relay_base.specs.declared.words.Output.{Output}
use Rattle.relay_base.specs.declared.words.Request.{Request}
use Rattle.relay_base.specs.declared.words.Request.TheVariants as request
use Rattle.plant_core.specs.declared.terms.Ticks.{Ticks}
use Rattle.plant_core.specs.declared.terms.TheConstants.{USUAL_TICKS}
use Rattle.section_model.specs.Ends.{End, wire, owner, DataUnit, Connection}
use Rattle.section_model.specs.UserEnd.{units_of}
use Rattle.section_model.specs.Step.{is_in_range, hears, connection_step}
use Rattle.section_model.specs.Lane.{next, answer_of}
use Rattle.connection_law.specs.InStep.{got_at}
use Rattle.connection_law.proofs.Flow.Flowing.{either}
use Rattle.hop_law.specs.TextLaw.{Begins, AreTexts}
use Rattle.hop_law.proofs.Joining.{few_texts}
use Rattle.hop_law.specs.PlaceLaw.{StaysPut}
use Rattle.hop_law.specs.LeavingLaw.{AreSides, this_and_that, that_and_this}
use Rattle.hop_law.specs.ClearingLaw.{is_reset}
use Rattle.hop_law.proofs.Clearing.{all_of, begins_then}
use Rattle.hop_law.proofs.Placing.{along_place}
use Rattle.hop_law.proofs.Passing.{first_true}
use Rattle.hop_law.specs.LeftAlong.{outs_along}
use Rattle.hop_law.proofs.Along.{AllHear, all_hear}
use Rattle.hop_law.specs.ResetAnswering.{NoneBringsRsr}
use Rattle.chain_step.specs.declared.step.Step.{Step}
use Rattle.chain_step.specs.Fresh.{all_fresh}
use Rattle.chain_step.specs.Run.{RunState, head_of, node_at, run_of}
use Rattle.passage_law.specs.Nodes.{AreSteps, IsNode}
use Rattle.hop_law.proofs.Lists.{all_joined}
use Rattle.passage_law.proofs.RowStanding.{are_nodes}
use Rattle.passage_law.specs.Trails.{Leg, IsLeg, heard_on, now_on, outs_on, AreLegs, is_user, IsTrail, IsWhole, last_of}
use Rattle.passage_law.specs.Hops.{AreNeighbours, RunHop, RunPlaces}
use Rattle.passage_law.specs.Texts.{is_refusal, given_by, text_told, given_along, texts_among, given_on, told_on}
use Rattle.passage_law.specs.Users.{AreToldOf, TextsCome, UnitsAreTold}
use Rattle.passage_law.specs.Resets.{met_on, RunRsr, RunEnds}
use Rattle.passage_law.specs.TrailLaw.{TextsKeepOrder, OrderOfHops, NoneSendsRsr, CarryAlong, HopsKeepOrder}
use Rattle.passage_law.proofs.Placing.{Stands}
use Rattle.passage_law.proofs.Users.{is_owner}
use Rattle.passage_law.proofs.Giving.{texts_come}
use Rattle.passage_law.proofs.TrailJoining.{units_are_told}
use Rattle.passage_law.proofs.Standing.{run_places}
use Rattle.passage_law.proofs.Trailing.{references_at, is_legal, none_reset, NoneResets, Carries, within, first_leg, forward, back}
use Rattle.passage_law.proofs.Resetting.{Crosses, opens_quietly, user_brings_none, none_resets}

-- Texts that are given are of an octet at least.

by_event : (c : Connection) (event : Event) (outs : List Output) → hears c event ≡ true → AreTexts (given_by event outs)
unfolding hears
by_event c (Arrived point sls bytes) outs h = tt
by_event c Tick outs h = tt
by_event c (Requested ssn r) outs h = of_request r (first_true _ _ h)
  where
    of_request : (r : Request) → is_in_range r ≡ true → AreTexts (given_by (Requested ssn r) outs)
    of_request (request.Send mine body) within =
        either AreTexts (list_any is_refusal outs) _ _ (λ _. tt) (λ _. (ltb-true 0 (length body) (first_true (nat_lt 0 (length body)) _ within), tt))
    of_request _ within = tt

are_texts : (ticks : Ticks) (events : List Event) (c : Connection) → AllHear ticks c events → AreTexts (given_along ticks c events)
unfolding AllHear given_along
are_texts ticks [] c hear = tt
are_texts ticks (event ∷ events) c hear =
    all_joined (λ (text : List ℕ). 1 ≤ length text) (given_by event (connection_step ticks c event).1) (given_along ticks (next ticks c event) events)
    (by_event c event (connection_step ticks c event).1 hear.0) (are_texts ticks events (next ticks c event) hear.1)

-- The first of the units that came in make the first of the texts.
told_first : (told given : List (List ℕ)) (got : List DataUnit) → AreTexts given → AreToldOf told got → Begins got (flat_map units_of given) → Begins told given
told_first told given got are t begins =
    let whole = begins_then t.units got (flat_map units_of given) t.first begins in
    let few = few_texts given t.units whole.more are whole.is in
    record { more = few.later; is = few.are ∙ ap (λ (texts : List (List ℕ)). texts ++ few.later) t.told }

texts_on : (leg : Leg) → AreTexts (given_on leg)
texts_on leg = are_texts USUAL_TICKS (heard_on leg) leg.first (all_hear USUAL_TICKS leg.first (map (λ e. e.event) leg.since))

-- A user's end.

user_stands : (point : ℕ) (e f : End) → is_user e ≡ true → StaysPut e f → Stands point f
user_stands point (wire x) f user put = absurd (false≢true user)
user_stands point (owner u) (wire y) user put = absurd put
user_stands point (owner u) (owner v) user put = tt

-- A leg at its node.
record IsAt (r : RunState) (leg : Leg) : Type 0 where
  node : ℕ
  least : 1 ≤ node
  leg_at : IsLeg node (node_at node r.nodes) leg
  none : list_any is_reset (outs_on leg) ≡ false

last_at : (r : RunState) (i : ℕ) (leg : Leg) (more : List Leg) → 1 ≤ i → AreLegs r i leg more → NoneResets (leg ∷ more) → IsAt r (last_of leg more)
last_at r i leg [] least legs none = record { node = i; least = least; leg_at = legs; none = none.0 }
last_at r i leg (next ∷ more) least legs none = last_at r (i + 1) next more (omega arith) legs.2 none.1

-- What came in at a user's end of it, and what that user was told.
come_on : TextsCome → (r : RunState) → Carries r → (leg : Leg) → IsAt r leg → (end other : Connection → End) → AreSides end other → is_user (end leg.first) ≡ true
    → Begins (got_at (end (now_on leg))) (flat_map units_of (given_on leg))
come_on come r k leg at end other sides user =
    let legal = k.legal at.node leg at.least at.leg_at in
    let u = is_owner (end leg.first) user in
    let events = map (λ e. e.event) leg.since in
    let come_in = come (head_of at.node).terms leg.by.event (answer_of leg.by) (references_at at.node leg) leg.first events end other u.user (omega arith) at.leg_at.opens legal.class sides u.is
    (none_reset leg at.none) in
    subst (λ (units : List DataUnit). Begins (got_at (end (now_on leg))) units) come_in (all_of (got_at (end (now_on leg))))

told_at : UnitsAreTold → (r : RunState) → Carries r → (leg : Leg) → IsAt r leg → (end other : Connection → End) → AreSides end other → is_user (end leg.first) ≡ true
    → AreToldOf (told_on leg) (got_at (other (now_on leg)))
unfolding texts_among
told_at told r k leg at end other sides user =
    let legal = k.legal at.node leg at.least at.leg_at in
    let u = is_owner (end leg.first) user in
    let events = map (λ e. e.event) leg.since in
    let outs = outs_along USUAL_TICKS leg.first (heard_on leg) in
    let told_there = told (head_of at.node).terms leg.by.event (answer_of leg.by) (references_at at.node leg) leg.first events end other u.user (omega arith) at.leg_at.opens legal.class sides u.is
    (none_reset leg at.none) in
    subst (λ texts. AreToldOf texts (got_at (other (now_on leg))))
    (sym (flat_map-append text_told leg.by.outs outs ∙ ap (λ (texts : List (List ℕ)). texts ++ texts_among outs) legal.begun.no_text)) told_there

-- node i + 1 of two neighbours is one of the row
below : (n : ℕ) (steps : List Step) → AreSteps n steps → 2 ≤ n → (i : ℕ) (one next : Leg) → AreNeighbours (run_of n steps) i one next → i < n
below n steps are two i one next hop =
    let most = within (run_of n steps) (i + 1) next (omega arith) hop.there in
    let nodes = are_nodes n steps two are in omega (arith, most, nodes.long)

is_node : (n : ℕ) (steps : List Step) → AreSteps n steps → 2 ≤ n → (i : ℕ) (leg : Leg) → 1 ≤ i → IsLeg i (node_at i (run_of n steps).nodes) leg → IsNode n i (node_at i (run_of n steps).nodes)
is_node n steps are two i leg least at =
    let most = within (run_of n steps) i leg least at in
    let nodes = are_nodes n steps two are in nodes.each i least (omega (arith, most, nodes.long))

carries : RunHop → RunPlaces → (n : ℕ) (steps : List Step) → AreSteps n steps → 2 ≤ n → all_fresh (run_of n steps) ≡ true → Carries (run_of n steps)
carries hops places n steps are two fresh =
    let r = run_of n steps in record {
      legal = λ i leg least at. is_legal n i (node_at i r.nodes) leg (is_node n steps are two i leg least at) at;
      places = λ i one next least hop. places n i steps one next are two least (below n steps are two i one next hop) fresh hop;
      hops = λ i one next least hop none none_next. hops n i steps one next are two least (below n steps are two i one next hop) fresh hop none none_next;
    }

crosses : RunRsr → (n : ℕ) (steps : List Step) → AreSteps n steps → 2 ≤ n → all_fresh (run_of n steps) ≡ true → Crosses (run_of n steps)
crosses rsr n steps are two fresh =
    let r = run_of n steps in record {
      opens = λ i leg least at. opens_quietly n i (node_at i r.nodes) leg (is_node n steps are two i leg least at) at;
      crosses = λ i one next least hop. rsr n i steps one next are two least (below n steps are two i one next hop) fresh hop;
    }

-- so no connection of a trail sends RSC, if no RSR comes to its last one from beyond
trail_resets_none : RunRsr → (n : ℕ) (steps : List Step) (leg : Leg) (more : List Leg) → AreSteps n steps → 2 ≤ n → all_fresh (run_of n steps) ≡ true → IsTrail (run_of n steps) leg more
    → (let last = last_of leg more in NoneBringsRsr last.first.that (met_on last)) → NoneSendsRsr (leg ∷ more) → NoneResets (leg ∷ more)
trail_resets_none rsr n steps leg more are two fresh trail other none =
    none_resets (run_of n steps) (crosses rsr n steps are two fresh) 1 leg more (omega arith) trail.1 none (user_brings_none leg.first.this (met_on leg) trail.0) other

-- and none does to that of a whole trail
last_brings_none : RunEnds → (n : ℕ) (steps : List Step) → AreSteps n steps → 2 ≤ n → all_fresh (run_of n steps) ≡ true → (i : ℕ) (leg : Leg) (more : List Leg) → 1 ≤ i → AreLegs (run_of n steps) i leg more
    → IsWhole (run_of n steps) i leg more → (let last = last_of leg more in NoneBringsRsr last.first.that (met_on last))
last_brings_none ends n steps are two fresh i leg [] least legs whole = ends n i steps leg are two least fresh legs whole
last_brings_none ends n steps are two fresh i leg (next ∷ more) least legs whole = last_brings_none ends n steps are two fresh (i + 1) next more (omega arith) legs.2 whole

pub texts_keep_order : RunHop → RunPlaces → RunRsr → TextsCome → UnitsAreTold → TextsKeepOrder
texts_keep_order hops places rsr come told n steps are two leg more fresh trail user no_rsr =
    let r = run_of n steps in
    let last = last_of leg more in
    let none : NoneResets (leg ∷ more) = trail_resets_none rsr n steps leg more are two fresh trail (user_brings_none last.first.that (met_on last) user) no_rsr in
    let k = carries hops places n steps are two fresh in
    let first_is : IsAt r leg = record { node = 1; least = omega arith; leg_at = first_leg r 1 leg more trail.1; none = none.0 } in
    let last_is = last_at r 1 leg more (omega arith) trail.1 none in
    let put = along_place USUAL_TICKS leg.first (heard_on leg) in
    let onward = forward r k 0 leg more (flat_map units_of (given_on leg)) trail.1 none (user_stands 0 leg.first.this (now_on leg).this trail.0 put.0)
    (come_on come r k leg first_is (λ c. c.this) (λ c. c.that) this_and_that trail.0) in
    let backward = back r k 1 leg more (flat_map units_of (given_on last)) (omega arith) trail.1 none user (come_on come r k last last_is (λ c. c.that) (λ c. c.this) that_and_this user) in (
      told_first (told_on last) (given_on leg) (got_at (now_on last).this) (texts_on leg) (told_at told r k last last_is (λ c. c.that) (λ c. c.this) that_and_this user) onward,
      told_first (told_on leg) (given_on last) (got_at (now_on leg).that) (texts_on last) (told_at told r k leg first_is (λ c. c.this) (λ c. c.that) this_and_that trail.0) backward.0,
    )

carry_along : (r : RunState) → Carries r → (i : ℕ) (leg : Leg) (more : List Leg) → 1 ≤ i → AreLegs r i leg more → NoneResets (leg ∷ more) → CarryAlong r i leg more
carry_along r k i leg [] least legs none = tt
carry_along r k i leg (next ∷ more) least legs none =
    let hop : AreNeighbours r i leg next = record { here = legs.0; there = first_leg r (i + 1) next more legs.2; follows = legs.1 } in
    (k.hops i leg next least hop none.0 none.1.0, carry_along r k (i + 1) next more (omega arith) legs.2 none.1)

hops_keep_order : RunHop → RunPlaces → RunRsr → RunEnds → HopsKeepOrder
hops_keep_order hops places rsr ends n steps are two leg more fresh trail whole no_rsr =
    carry_along (run_of n steps) (carries hops places n steps are two fresh) 1 leg more (omega arith) trail.1
    (trail_resets_none rsr n steps leg more are two fresh trail (last_brings_none ends n steps are two fresh 1 leg more (omega arith) trail.1 whole) no_rsr)

pub order_of_hops : OrderOfHops
order_of_hops hops rsr ends = (texts_keep_order hops run_places rsr texts_come units_are_told, hops_keep_order hops run_places rsr ends)
