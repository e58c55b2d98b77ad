-- Where a trail ends: no RSR comes to the section of its last leg that asks, or asked, the next node.
use Rattle.std.proofs.Common.{◌≡◌, ◌⊎◌, inl, inr, ℕ, ◌≤◌, ◌<◌, ◌+◌, ◌-◌, Bool, true, false, List, [], ◌∷◌, map, Option, Some, None, IfSome, Result, Ok, Err, IfOk, refl, sym, ◌∙◌, ap, subst, arith, append-nil}
use Rattle.std.specs.List.{AllByRecursion}
use Rattle.std.proofs.lemmas.Bool.{false≢true}
use Rattle.std.proofs.lemmas.List.Concat.{flat_map-append}
use Rattle.relay_base.specs.declared.words.Event.{Event}
use Rattle.relay_base.specs.declared.words.Event.TheVariants.{Message as Arrived, Asked as Requested, Tick}
use Rattle.relay_base.specs.declared.words.Output.{Output}
use Rattle.relay_base.specs.declared.words.ReadFault.{ReadFault}
use Rattle.plant_core.specs.declared.entry.Entry.{Entry}
use Rattle.plant_core.specs.declared.terms.LaneHead.{LaneHead}
use Rattle.q713_codec.specs.Names.{Message}
use Rattle.q713_codec.specs.Reading.{reading_of}
use Rattle.section_model.specs.declared.cell.Occasion.{Occasion}
use Rattle.section_model.specs.declared.cell.Occasion.TheVariants as on
use Rattle.section_model.specs.Parameters.{Arrival, arrival_of, arrival_by, arrival_in}
use Rattle.section_model.specs.Ends.{End, wire, owner, Section, Connection}
use Rattle.section_model.specs.Opening.{wish_of}
use Rattle.section_model.specs.Journals.{lane_of}
use Rattle.section_model.specs.Lane.{reference_of, opening_of, answer_of}
use Rattle.section_model.specs.Laws.{openings_from}
use Rattle.hop_law.specs.Hop.{IsElsewhere}
use Rattle.hop_law.proofs.Lists.{all_joined}
use Rattle.hop_law.specs.ResetAnswering.{IsRsrFor, BringsRsr, NoneBringsRsr}
use Rattle.hop_law.proofs.Coming.{elsewhere_brings_none}
use Rattle.chain_step.specs.declared.step.Step.{Step}
use Rattle.chain_step.specs.Fresh.{all_fresh}
use Rattle.chain_step.specs.Run.{NodeState, RunState, head_of, messages_in, node_at, run_of}
use Rattle.passage_law.specs.Nodes.{AreSteps}
use Rattle.passage_law.specs.Links.{is_from}
use Rattle.passage_law.specs.Naming.{NamesArrival, NamesMessage}
use Rattle.passage_law.specs.References.{Firsts, firsts_in, OfOne, IsTo, IsAskedBy, ArePaired, IsCrFrom, AnswersTo, allowed}
use Rattle.passage_law.specs.Once.{is_cr_from}
use Rattle.passage_law.specs.Ways.{IsOnward}
use Rattle.passage_law.proofs.RowStanding.{are_nodes}
use Rattle.passage_law.proofs.Linking.{sent_by, is_row}
use Rattle.passage_law.proofs.Referring.{IsSentEvent, all_sent, is_referred}
use Rattle.passage_law.proofs.AskedOnce.{is_that_cr}
use Rattle.passage_law.proofs.Once.{IsNoCr, sent_among, cr_is_of_opening}
use Rattle.passage_law.proofs.RowFair.{opening_least}
use Rattle.passage_law.proofs.Own.{none_named}
use Rattle.passage_law.proofs.Ways.{all_go_on}
use Rattle.passage_law.specs.Trails.{Leg, IsLeg, IsNext, IsWhole, AreLegs, is_user, last_of}
use Rattle.passage_law.specs.Resets.{met_on, RunEnds}
use Rattle.passage_law.specs.TrailLaw.{UsersEndTrails}
use Rattle.passage_law.proofs.Trailing.{within}
use Rattle.passage_law.proofs.Resetting.{user_brings_none}
use Rattle.passage_law.proofs.Openings.{leg_opening, leg_has, opened_leg}
use Rattle.passage_law.proofs.Coming.{asked_came, is_from_cr}
use Rattle.passage_law.proofs.Standing.{onward_of}
use Rattle.passage_law.proofs.Fair.{IsOfOthers}
use Rattle.passage_law.proofs.Asking.{Asks}
use Rattle.passage_law.proofs.Beginning.{leg_parts, all_came, leg_opens}
use Rattle.passage_law.proofs.Joining.{none_back}
use Rattle.passage_law.proofs.Fairness.{all_elsewhere, behind}

-- A section of the next node that a leg's section asked for belongs to a leg that follows.

-- any CR of the leg's section is the one message that the entry which opened it sent there
abbrev IsOne : ℕ → ℕ → Event → Event → Type 0
IsOne i slr one event = is_cr_from i slr event ≡ true → event ≡ one

none_is : (i slr : ℕ) (one : Event) (events : List Event) → AllByRecursion (IsNoCr i slr) events → AllByRecursion (IsOne i slr one) events
none_is i slr one [] none = tt
none_is i slr one (event ∷ events) none = ((λ is. absurd (none.0 is)), none_is i slr one events none.1)

all_are_one : (n i : ℕ) (steps : List Step) (leg : Leg) (x : Section) (one : Event) → AreSteps n steps → 2 ≤ n → 1 ≤ i → i ≤ n → (let r = run_of n steps in
    all_fresh r ≡ true → IsLeg i (node_at i r.nodes) leg → leg.first.that ≡ wire x → messages_in i (i + 1) leg.by.outs ≡ one ∷ [] →
    AllByRecursion (IsOne i x.head.mine one) (sent_by i (i + 1) (node_at i r.nodes)))
all_are_one n i steps leg x one are two least most fresh at is sent =
    let r = run_of n steps in
    let node = node_at i r.nodes in
    let j = i + 1 in
    let m = x.head.mine in
    let head = ((are_nodes n steps two are).each i least most).head in
    let P : Event → Type 0 = IsOne i m one in
    let none = cr_is_of_opening n i j x.head.point m steps leg.before leg.since leg.by leg.first are two least most fresh at.journal
    (subst (λ (h : LaneHead). let lane = lane_of h 0 in
    (opening_of lane (openings_from lane [] leg.before) (wish_of lane.terms leg.by.event) (answer_of leg.by)).connection ≡ Some leg.first) (sym head) at.opens)
    (subst (IsTo x.head.point m) (sym is) (refl, refl)) in
    let here : AllByRecursion P (sent_among i j (leg.by ∷ [])) =
    subst (AllByRecursion P) (sym (append-nil (messages_in i j leg.by.outs) ∙ sent)) ((λ is. refl), tt) in
    let last : AllByRecursion P (sent_among i j (leg.by ∷ leg.since)) =
    subst (AllByRecursion P) (sym (flat_map-append (λ (e : Entry). messages_in i j e.outs) (leg.by ∷ []) leg.since))
    (all_joined P (sent_among i j (leg.by ∷ [])) (sent_among i j leg.since) here (none_is i m one (sent_among i j leg.since) none.1)) in
    subst (AllByRecursion P)
    (sym (ap (sent_among i j) at.journal ∙ flat_map-append (λ (e : Entry). messages_in i j e.outs) leg.before (leg.by ∷ leg.since)))
    (all_joined P (sent_among i j leg.before) (sent_among i j (leg.by ∷ leg.since)) (none_is i m one (sent_among i j leg.before) none.0) last)

asked_follows : (n i mine : ℕ) (steps : List Step) (leg : Leg) (x : Section) → AreSteps n steps → 2 ≤ n → 1 ≤ i → i < n → (let r = run_of n steps in
    all_fresh r ≡ true → IsLeg i (node_at i r.nodes) leg → leg.first.that ≡ wire x → x.head.point ≡ i + 1 → OfOne (λ (c : Connection). IsAskedBy i x.head.mine mine c.this) (firsts_in r (i + 1)) →
    (next : Leg) × IsLeg (i + 1) (node_at (i + 1) r.nodes) next × IsNext i leg next)
asked_follows n i mine steps leg x are two least less fresh at is point asked =
    let r = run_of n steps in
    let j = i + 1 in
    let m = x.head.mine in
    let near = node_at i r.nodes in
    let far = node_at j r.nodes in
    let row = is_row n steps two are in
    let near_is = row.nodes.each i least (omega (arith, less)) in
    let opened = opened_leg (λ (c : Connection). IsAskedBy i m mine c.this) j far (row.nodes.each j (omega arith) (omega (arith, less))).head asked in
    let cr : IsCrFrom i m opened.0.by.event = asked_came j i m mine far opened.0 opened.1 opened.2 in
    let asks : Asks (wire x) leg.by.outs = subst (λ e. Asks e leg.by.outs) is (leg_opens n i near leg near_is at).asks in
    let sent : (one : Event) × (messages_in i j leg.by.outs ≡ one ∷ []) = subst (λ p. (one : Event) × (messages_in i p leg.by.outs ≡ one ∷ [])) point (asks.3 i) in
    let ahead = row.links i true least (omega (arith, less)) (omega arith) (omega (arith, less)) in
    let came = all_came (IsOne i m sent.0) i true near far ahead (all_are_one n i steps leg x sent.0 are two least (omega (arith, less)) fresh at is sent.1) in
    let same : opened.0.by.event ≡ sent.0 =
    (leg_parts (λ (e : Entry). is_from i e.event ≡ true → IsOne i m sent.0 e.event) j far opened.0 opened.1 came).0 (is_from_cr i m opened.0.by.event cr) (is_that_cr i m opened.0.by.event cr) in
    (opened.0, opened.1, sent.1 ∙ ap (λ event. event ∷ []) (sym same))

-- RSR names a section that is paired with one of its sender.

abbrev IsUnpaired : Firsts → ℕ → ℕ → ℕ → Type 0
IsUnpaired f j i m = (mine : ℕ) → ArePaired f j mine i m → ⊥

answers_no_rsr : (f : Firsts) (j i dlr : ℕ) (cause : Event) (o : Occasion) → o ≡ on.Rsr → AnswersTo f j cause o i dlr → ⊥
answers_no_rsr f j i dlr cause o is answer = subst (λ o. AnswersTo f j cause o i dlr) is answer

found_unpaired : (f : Firsts) (j i : ℕ) (x : Section) (cause : Event) (found : Option Arrival) → 1 ≤ x.head.mine → IsUnpaired f j i x.head.mine → IfSome found (NamesArrival (allowed f j cause) i)
    → IsRsrFor (Some x.head.mine) found → ⊥
found_unpaired f j i x cause None least unpaired names rsr = rsr
found_unpaired f j i x cause (Some a) least unpaired names rsr = by_name names
  where
    same : a.parameters.dlr ≡ x.head.mine
    same = let e : x.head.mine ≡ a.parameters.dlr = named rsr.1 in sym e
      where
        named : Some x.head.mine ≡ Some a.parameters.dlr → x.head.mine ≡ a.parameters.dlr
        named e = cc

    by_known : (mine : ℕ) → (a.parameters.dlr ≡ 0) ⊎ ArePaired f j mine i a.parameters.dlr → ⊥
    by_known mine (inl none) = none_named a.parameters.dlr x.head.mine same none least
    by_known mine (inr paired) = unpaired mine (subst (ArePaired f j mine i) same paired)

    by_name : NamesArrival (allowed f j cause) i a → ⊥
    by_name (inl on_one) = by_known on_one.0 on_one.1.4
    by_name (inr answer) = answers_no_rsr f j i a.parameters.dlr cause a.occasion rsr.0 answer.1

sent_unpaired : (f : Firsts) (j i : ℕ) (x : Section) (event : Event) → 1 ≤ x.head.mine → IsUnpaired f j i x.head.mine → IsSentEvent f j i event → BringsRsr (wire x) event → ⊥
unfolding arrival_in
sent_unpaired f j i x (Arrived point sls bytes) least unpaired sent rsr = by_reading (reading_of bytes) sent.1.1 rsr
  where
    by_reading : (read : Result Message ReadFault) → IfOk read (NamesMessage (allowed f j sent.1.0) i) → IsRsrFor (Some x.head.mine) (arrival_by read) → ⊥
    by_reading (Ok m) names rsr = found_unpaired f j i x sent.1.0 (arrival_of m) least unpaired names.0 rsr
    by_reading (Err fault) names rsr = rsr
sent_unpaired f j i x (Requested ssn r) least unpaired sent rsr = rsr
sent_unpaired f j i x Tick least unpaired sent rsr = rsr

all_unpaired : (f : Firsts) (j i : ℕ) (x : Section) (events : List Event) → 1 ≤ x.head.mine → IsUnpaired f j i x.head.mine → AllByRecursion (IsSentEvent f j i) events → NoneBringsRsr (wire x) events
all_unpaired f j i x [] least unpaired all = tt
all_unpaired f j i x (event ∷ events) least unpaired all = (sent_unpaired f j i x event least unpaired all.0, all_unpaired f j i x events least unpaired all.1)

-- What comes is of the next node, or it comes from elsewhere.

not_brought : (point : ℕ) (e : End) (event : Event) → (is_from point event ≡ false → IsElsewhere point e event) → (is_from point event ≡ true → BringsRsr e event → ⊥) → BringsRsr e event → ⊥
not_brought point e event elsewhere came rsr = by_test (is_from point event) refl
  where
    by_test : (b : Bool) → is_from point event ≡ b → ⊥
    by_test true is = came is rsr
    by_test false is = elsewhere_brings_none point e event (elsewhere is) rsr

none_brought : (point : ℕ) (e : End) (entries : List Entry) → AllByRecursion (IsOfOthers point e) entries → AllByRecursion (λ (x : Entry). is_from point x.event ≡ true → BringsRsr e x.event → ⊥) entries
    → NoneBringsRsr e (map (λ (x : Entry). x.event) entries)
none_brought point e [] elsewhere came = tt
none_brought point e (x ∷ entries) elsewhere came = (not_brought point e x.event elsewhere.0 came.0, none_brought point e entries elsewhere.1 came.1)

-- The last leg of a trail, whose section stands to the next node.
section_ends : (n i : ℕ) (steps : List Step) (leg : Leg) (x : Section) → AreSteps n steps → 2 ≤ n → 1 ≤ i → i < n → (let r = run_of n steps in
    all_fresh r ≡ true → IsLeg i (node_at i r.nodes) leg → leg.first.that ≡ wire x → x.head.point ≡ i + 1 → IsWhole r i leg [] → NoneBringsRsr (wire x) (met_on leg))
section_ends n i steps leg x are two least less fresh at is point last =
    let far = node_at j r.nodes in
    let here : i + 1 - 1 ≡ i = omega arith in
    let sent : NoneBringsRsr (wire x) (sent_by j (j - 1) far) =
    subst (λ k. NoneBringsRsr (wire x) (sent_by j k far)) (sym here)
    (all_unpaired f j i x (sent_by j i far) least_mine unpaired (all_sent f j i far ((is_referred n steps two are).names j (omega arith) (omega (arith, less))).1)) in
    none_brought j (wire x) leg.since (all_elsewhere n i two least less steps are fresh leg x at is point)
    (leg_parts (λ (e : Entry). is_from j e.event ≡ true → BringsRsr (wire x) e.event → ⊥) i near leg at
    (all_came (λ event. BringsRsr (wire x) event → ⊥) j false far near (behind n i two least less steps are) sent)).1
  where
    r : RunState
    r = run_of n steps

    f : Firsts
    f = firsts_in r

    j : ℕ
    j = i + 1

    near : NodeState
    near = node_at i r.nodes

    near_head : near.head ≡ head_of i
    near_head = ((are_nodes n steps two are).each i least (omega (arith, less))).head

    least_mine : 1 ≤ x.head.mine
    least_mine =
        opening_least f i near (leg_opening leg) ((is_referred n steps two are).names i least (omega (arith, less))).0 (leg_has i near leg near_head at) x.head.mine (inr (ap reference_of is))

    unpaired : (mine : ℕ) → ArePaired f j mine i x.head.mine → ⊥
    unpaired mine (inl asked) =
        let next = asked_follows n i mine steps leg x are two least less fresh at is point asked.0 in
        last next.0 next.1 next.2
    unpaired mine (inr asked) =
        none_back n j i mine (f j) (λ same. omega (arith, same)) (all_go_on n j steps are two (omega arith) (omega (arith, less))) asked.1

pub run_ends : RunEnds
run_ends n i steps leg are two least fresh at last = by_end leg.first.that refl
  where
    r : RunState
    r = run_of n steps

    most : i ≤ n
    most = let nodes = are_nodes n steps two are in omega (arith, within r i leg least at, nodes.long)

    onward : (x : Section) → leg.first.that ≡ wire x → (x.head.point ≡ i + 1) × (i < n)
    onward x is =
        subst (IsOnward n i) is (onward_of n i steps leg are two least most (leg_has i (node_at i r.nodes) leg ((are_nodes n steps two are).each i least most).head at))

    by_end : (e : End) → leg.first.that ≡ e → NoneBringsRsr leg.first.that (met_on leg)
    by_end (wire x) is =
        subst (λ e. NoneBringsRsr e (met_on leg)) (sym is) (section_ends n i steps leg x are two least (onward x is).1 fresh at is (onward x is).0 last)
    by_end (owner u) is = user_brings_none leg.first.that (met_on leg) (ap is_user is)

-- No leg follows one that reaches a user.

user_asks_none : (own to : ℕ) (e : End) (outs : List Output) (event : Event) → is_user e ≡ true → Asks e outs → messages_in own to outs ≡ event ∷ [] → ⊥
user_asks_none own to (wire x) outs event user asks sent = false≢true user
user_asks_none own to (owner u) outs event user asks sent = nothing (sym (asks.0 own to) ∙ sent)
  where
    nothing : [] ≡ event ∷ [] → ⊥
    nothing e = cc

user_ends : (n i : ℕ) (steps : List Step) (leg : Leg) (more : List Leg) → AreSteps n steps → 2 ≤ n → 1 ≤ i → (let r = run_of n steps in
    AreLegs r i leg more → is_user (last_of leg more).first.that ≡ true → IsWhole r i leg more)
user_ends n i steps leg [] are two least at user =
    let r = run_of n steps in
    let nodes = are_nodes n steps two are in
    let most : i ≤ n = omega (arith, within r i leg least at, nodes.long) in
    λ next there follows. user_asks_none i (i + 1) leg.first.that leg.by.outs next.by.event user (leg_opens n i (node_at i r.nodes) leg (nodes.each i least most) at).asks follows
user_ends n i steps leg (next ∷ more) are two least legs user = user_ends n (i + 1) steps next more are two (omega arith) legs.2 user

pub users_end_trails : UsersEndTrails
users_end_trails n steps leg more are two trail user = user_ends n 1 steps leg more are two (omega arith) trail.1 user
