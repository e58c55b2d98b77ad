-- Each step of a run in which no reference was given twice is fair to the hop of two legs.
use Rattle.std.proofs.Common.{◌≡◌, ◌≢◌, ◌⊎◌, inl, inr, ℕ, ◌≤◌, ◌<◌, ◌+◌, ◌-◌, ◌==◌, Bool, true, false, List, [], ◌∷◌, ◌++◌, if◌then◌else◌, Option, Some, None, IfSome, refl, sym, ◌∙◌, ap, subst, arith, append_assoc, lt-ltb, IsTrue}
use Rattle.std.specs.Prelude.{slice_get}
use Rattle.std.specs.List.{AllByRecursion}
use Rattle.std.proofs.lemmas.Bool.{false≢true, true≢false, eqb-true, eqb-false}
use Rattle.std.proofs.lemmas.List.Concat.{flat_map-append}
use Rattle.relay_base.specs.declared.limits.TheConstants.{REFERENCES}
use Rattle.relay_base.specs.declared.words.Event.{Event}
use Rattle.relay_base.specs.declared.words.Event.TheVariants.{Message as Arrived, Asked as Requested, Tick as Ticked}
use Rattle.relay_base.specs.declared.words.Output.{Output}
use Rattle.plant_core.specs.declared.entry.Entry.{Entry}
use Rattle.plant_core.specs.declared.terms.LaneHead.{LaneHead}
use Rattle.plant_core.specs.declared.terms.TheConstants.{USUAL_TICKS}
use Rattle.section_model.specs.Parameters.{arrival_in}
use Rattle.section_model.specs.Ends.{End, wire, owner, Section, Connection}
use Rattle.section_model.specs.Lane.{Opening, connection_of, part_by, part_of, reference_of}
use Rattle.hop_law.specs.Waiting.{Waiting, messages_to}
use Rattle.hop_law.specs.Hop.{IsStrange, IsElsewhere}
use Rattle.hop_law.proofs.Lists.{all_joined}
use Rattle.chain_step.specs.declared.step.Step.{Step}
use Rattle.chain_step.specs.declared.step.Step.TheVariants.{Ask, Pass, Tick}
use Rattle.chain_step.specs.declared.terms.TheConstants.{USER}
use Rattle.chain_step.specs.Fresh.{has_twice, all_fresh}
use Rattle.chain_step.specs.Run.{NodeState, RunState, neighbour, given_of, waiting, outputs_of, entry_of, node_at, start, run_of, after_step}
use Rattle.chain_step.specs.Steps.{is_step, has_neighbour}
use Rattle.chain_step.proofs.Running.{after_more, passer_exists, neighbour_exists}
use Rattle.passage_law.specs.Nodes.{AreSteps}
use Rattle.passage_law.specs.Links.{is_from}
use Rattle.passage_law.specs.References.{firsts_of, Firsts, firsts_in, OfOne, IsTo, IsAskedBy, Gave, Asks, IsCrFrom}
use Rattle.passage_law.specs.Own.{NamesOwn}
use Rattle.passage_law.specs.Fair.{Has, AreJoined, AreStrange, HasStrange, IsNewEntry}
use Rattle.passage_law.proofs.Changing.{Change, stays, meets, gives, changed, at_node, passes, change_by, node_changed}
use Rattle.passage_law.proofs.RowStanding.{AreNodes}
use Rattle.passage_law.proofs.Linking.{sent_by, all_at, Links, IsRow, is_row}
use Rattle.passage_law.proofs.Referring.{IsSentEvent, all_sent, is_referred}
use Rattle.passage_law.proofs.Freshness.{ends_of, given_by, AreFresh, run_fresh, in_one_part, among_given, is_one, to_has, freshness_before}
use Rattle.passage_law.proofs.Own.{names_no_other}
use Rattle.passage_law.proofs.RowFair.{has_first, opening_least, others_are_strange}
use Rattle.passage_law.proofs.RowBeginning.{nothing_before}
use Rattle.passage_law.specs.Trails.{Leg, IsLeg, now_on}
use Rattle.passage_law.specs.Hops.{AreNeighbours}
use Rattle.passage_law.proofs.Openings.{leg_opening, leg_has, firsts_opened}
use Rattle.passage_law.proofs.Coming.{asked_came}
use Rattle.passage_law.proofs.Fair.{IsMeeting, IsOfOthers, IsNotTo, ReferenceFits, sent_to, IsBeginning, RunsAreFair}
use Rattle.passage_law.proofs.Queue.{IsMessageOf, waits_of_node}
use Rattle.passage_law.proofs.Legs.{LegCut, opened_now, was_before, cut_leg, as_leg, no_leg_yet, along_run}
use Rattle.passage_law.proofs.Moving.{Moves, rest, near_gives, far_gives, near_alone, far_alone, forward, back, moves}
use Rattle.passage_law.proofs.Asking.{Asks as AsksAt}
use Rattle.passage_law.proofs.Beginning.{leg_opens}
use Rattle.passage_law.proofs.Joining.{sent_asks, reference_fits, legs_joined}

-- What a node meets at a step: an event that is no message, or the first message that waits for it at a neighbour.

IsNoMessage : Event → Type 0
IsNoMessage (Arrived point sls bytes) = ⊥
IsNoMessage (Requested ssn r) = Unit {0}
IsNoMessage Ticked = Unit {0}

record CameFrom (n : ℕ) (r : RunState) (x : ℕ) (event : Event) : Type 0 where
  from : ℕ
  way : Bool
  inside : (1 ≤ from) × (from ≤ n)
  beside : (1 ≤ neighbour way from) × (neighbour way from ≤ n)
  here : x ≡ neighbour way from
  waits : waiting way (node_at from r.nodes) ≡ Some event

abbrev Met : ℕ → RunState → ℕ → Event → Type 0
Met n r x event = IsNoMessage event ⊎ CameFrom n r x event

met_at : (x j number other : ℕ) (event met : Event) → at_node j (meets number event) x ≡ meets other met → (x ≡ j) × (event ≡ met)
met_at x j number other event met same = by_test (x == j) refl same
  where
    by_test : (b : Bool) → (x == j) ≡ b → (if b then meets number event else stays) ≡ meets other met → (x ≡ j) × (event ≡ met)
    by_test true is same = (eqb-true x j is, (let e : event ≡ met = cc in e))
    by_test false is same = absurd (nothing same)
      where
        nothing : stays ≡ meets other met → ⊥
        nothing same = cc

met_by : (n x : ℕ) (r : RunState) (step : Step) (number : ℕ) (event : Event) → IsTrue (is_step n step) → change_by r step x ≡ meets number event → Met n r x event
unfolding IsNoMessage
met_by n x r (Ask j request) number event is same = inl (subst IsNoMessage (met_at x j (r.taken + 1) number (Requested USER request) event same).1 tt)
met_by n x r (Tick j) number event is same = inl (subst IsNoMessage (met_at x j (r.taken + 1) number Ticked event same).1 tt)
met_by n x r (Pass j g) number event is same = by_message (waiting g (node_at j r.nodes)) refl same
  where
    by_test : (b : Bool) (message : Event) → waiting g (node_at j r.nodes) ≡ Some message → (if b then gives g else at_node (neighbour g j) (meets (r.taken + 1) message) x) ≡ meets number event → Met n r x event
    by_test true message some same = absurd (nothing same)
      where
        nothing : gives g ≡ meets number event → ⊥
        nothing same = cc
    by_test false message some same =
        let met = met_at x (neighbour g j) (r.taken + 1) number message event same in
        inr (record {
          from = j;
          way = g;
          inside = passer_exists n j g (Pass j g) refl is;
          beside = neighbour_exists n j g (Pass j g) refl is;
          here = met.0;
          waits = some ∙ ap (λ (e : Event). Some e) met.1;
        })

    by_message : (message : Option Event) → waiting g (node_at j r.nodes) ≡ message → passes (r.taken + 1) j g message x ≡ meets number event → Met n r x event
    by_message None some same = absurd (nothing same)
      where
        nothing : stays ≡ meets number event → ⊥
        nothing same = cc
    by_message (Some message) some same = by_test (x == j) message some same

-- A message that doesn't come from the point of a section doesn't name it.

has_way : (n j : ℕ) (way : Bool) → (1 ≤ neighbour way j) × (neighbour way j ≤ n) → IsTrue (has_neighbour n way j)
has_way n j true beside = lt-ltb j n (omega (arith, beside.1))
has_way n j false beside = lt-ltb 1 j (omega (arith, beside.0))

no_message : (q : ℕ) (e : End) (event : Event) → IsNoMessage event → IsElsewhere q e event
unfolding IsNoMessage
no_message q e (Arrived point sls bytes) none = absurd none
no_message q e (Requested ssn r) none = tt
no_message q e Ticked none = tt

gave_by : (f : Firsts) (x q : ℕ) (node : NodeState) (o : Opening) (s : Section) → f x ≡ firsts_of node → Has node o → (o.first.this ≡ wire s) ⊎ (o.first.that ≡ wire s) → s.head.point ≡ q → Gave f x q s.head.mine
gave_by f x q node o s are has is at =
    subst (OfOne (λ (c : Connection). IsTo q s.head.mine c.this ⊎ IsTo q s.head.mine c.that)) (sym are) (has_first (λ c. IsTo q s.head.mine c.this ⊎ IsTo q s.head.mine c.that) node o has (by_end is))
  where
    by_end : (o.first.this ≡ wire s) ⊎ (o.first.that ≡ wire s) → IsTo q s.head.mine o.first.this ⊎ IsTo q s.head.mine o.first.that
    by_end (inl this) = inl (subst (IsTo q s.head.mine) (sym this) (at, refl))
    by_end (inr that) = inr (subst (IsTo q s.head.mine) (sym that) (at, refl))

elsewhere_met : (n x q number : ℕ) (steps : List Step) (step : Step) (event : Event) (o : Opening) (s : Section) → AreSteps n steps → IsTrue (is_step n step) → 2 ≤ n → 1 ≤ x → x ≤ n → (let r = run_of n steps in
    all_fresh r ≡ true → change_by r step x ≡ meets number event → Has (node_at x r.nodes) o → (o.first.this ≡ wire s) ⊎ (o.first.that ≡ wire s) → s.head.point ≡ q → is_from q event ≡ false
    → IsElsewhere q (wire s) event)
elsewhere_met n x q number steps step event o s are is two least most fresh same has end at from = by_met (met_by n x (run_of n steps) step number event is same)
  where
    r : RunState
    r = run_of n steps

    f : Firsts
    f = firsts_in r

    by_met : Met n r x event → IsElsewhere q (wire s) event
    by_met (inl none) = no_message q (wire s) event none
    by_met (inr comes) =
        let j = comes.from in
        let sender = node_at j r.nodes in
        let own = ap (λ (h : LaneHead). h.terms.own) ((is_referred n steps two are).row.nodes.each j comes.inside.0 comes.inside.1).head in
        let first : slice_get (sent_by j (neighbour comes.way j) sender) (given_of comes.way sender) ≡ Some event =
        ap (λ k. slice_get (sent_by k (neighbour comes.way k) sender) (given_of comes.way sender)) (sym own) ∙ comes.waits in
        let all : AllByRecursion (NamesOwn f j (neighbour comes.way j)) (sent_by j (neighbour comes.way j) sender) =
        subst (λ k. AllByRecursion (NamesOwn f j (neighbour comes.way j)) (sent_by k (neighbour comes.way j) sender)) own
        (names_no_other n j comes.way steps are two comes.inside.0 comes.inside.1 (has_way n j comes.way comes.beside) fresh) in
        by_message j (waits_of_node j (neighbour comes.way j) (given_of comes.way sender) event sender first)
        (subst (λ k. NamesOwn f j k event) (sym comes.here) (all_at (NamesOwn f j (neighbour comes.way j)) (sent_by j (neighbour comes.way j) sender) (given_of comes.way sender) event all first))
      where
        least_mine : 1 ≤ s.head.mine
        least_mine = opening_least f x (node_at x r.nodes) o ((is_referred n steps two are).names x least most).0 has s.head.mine (by_end end)
          where
            by_end : (o.first.this ≡ wire s) ⊎ (o.first.that ≡ wire s) → (reference_of o.first.this ≡ Some s.head.mine) ⊎ (reference_of o.first.that ≡ Some s.head.mine)
            by_end (inl this) = inl (ap reference_of this)
            by_end (inr that) = inr (ap reference_of that)

        of_other : (j : ℕ) (m : Waiting) → NamesOwn f j x (Arrived j m.sls m.bytes) → is_from q (Arrived j m.sls m.bytes) ≡ false → IsElsewhere q (wire s) (Arrived j m.sls m.bytes)
        of_other j m names from =
            let differ : j ≢ q = eqb-false j q from in
            (differ, λ named. differ (sym (names q s.head.mine least_mine (gave_by f x q (node_at x r.nodes) o s refl has end at) named)))

        by_message : (j : ℕ) → IsMessageOf j event → NamesOwn f j x event → IsElsewhere q (wire s) event
        by_message j message names =
            subst (IsElsewhere q (wire s)) (sym message.1) (of_other j message.0 (subst (NamesOwn f j x) message.1 names) (subst (λ e. is_from q e ≡ false) message.1 from))

-- A section with a reference.
section_to : (q mine : ℕ) (e : End) → IsTo q mine e → (s : Section) × ((e ≡ wire s) × (s.head.point ≡ q) × (s.head.mine ≡ mine))
section_to q mine (wire x) to = (x, (refl, to.0, to.1))
section_to q mine (owner u) to = absurd to

asked_to : (p other mine : ℕ) (e : End) → IsAskedBy p other mine e → IsTo p mine e
asked_to p other mine (wire x) asked = (asked.0, asked.2)
asked_to p other mine (owner u) asked = absurd asked

-- The two nodes of a hop at a step.
as_meeting : (to : ℕ) (end : Connection → End) (node : NodeState) (leg : Leg) (there : Connection) (event : Event) → node.head.terms.ticks ≡ USUAL_TICKS
    → HasStrange there to (part_of node.head.terms.ticks event (leg_opening leg)) (outputs_of event node) → (is_from to event ≡ false → IsElsewhere to (end leg.first) event) → IsMeeting to end node leg there event
as_meeting to end node leg there event ticks s elsewhere = record {
  first = s.one;
  then = s.other;
  outs =
      s.are
      ∙ (ap (λ t. s.one ++ (part_by t event (connection_of t (leg_opening leg)) ++ s.other)) ticks
      ∙ sym (append_assoc s.one (part_by USUAL_TICKS event (now_on leg)) s.other));
  strange = (s.before, s.after);
  elsewhere = elsewhere;
}

module _ (n i : ℕ) (two : 2 ≤ n) (least : 1 ≤ i) (most : i < n) where
  pub behind : (steps : List Step) → AreSteps n steps → Links (i + 1) false (node_at (i + 1) (run_of n steps).nodes) (node_at i (run_of n steps).nodes)
  behind steps are =
      let here : i + 1 - 1 ≡ i = omega arith in
      subst (λ k. Links (i + 1) false (node_at (i + 1) (run_of n steps).nodes) (node_at k (run_of n steps).nodes)) here
      ((is_row n steps two are).links (i + 1) false (omega arith) (omega (arith, most)) (omega (arith, least)) (omega (arith, most)))

  was_fresh : (steps : List Step) (step : Step) → all_fresh (after_step (run_of n steps) step) ≡ true → all_fresh (run_of n steps) ≡ true
  was_fresh steps step fresh = freshness_before n steps step (ap all_fresh (after_more (start n) steps step) ∙ fresh)

  more_steps : (steps : List Step) (step : Step) → AreSteps n steps → IsTrue (is_step n step) → AreSteps n (steps ++ step ∷ [])
  more_steps steps step are is = all_joined (λ s. IsTrue (is_step n s)) steps (step ∷ []) are (is, tt)

  -- the node has one entry more
  new_entry : (x : ℕ) (steps : List Step) (step : Step) (number : ℕ) (event : Event) → 1 ≤ x → x ≤ n → AreSteps n steps → IsTrue (is_step n step) → (let node = node_at x (run_of n steps).nodes in
      change_by (run_of n steps) step x ≡ meets number event → IsNewEntry node (node_at x (run_of n (steps ++ step ∷ [])).nodes) (entry_of number event node))
  new_entry x steps step number event first last are is same =
      let r = run_of n steps in
      subst (λ (after : RunState). (node_at x after.nodes).journal ≡ (node_at x r.nodes).journal ++ entry_of number event (node_at x r.nodes) ∷ []) (sym (after_more (start n) steps step))
      (ap (λ (node : NodeState). node.journal) (node_changed n x r step two is first (subst (λ k. x ≤ k) (sym (is_row n steps two are).nodes.long) last))
      ∙ ap (λ c. (changed c (node_at x r.nodes)).journal) same)

  near_fair : (steps : List Step) (step : Step) (one next : Leg) (number : ℕ) (e : Event) → AreSteps n steps → IsTrue (is_step n step) → (let r = run_of n steps in
      all_fresh (after_step r step) ≡ true → AreNeighbours r i one next → change_by r step i ≡ meets number e → IsMeeting (i + 1) (λ c. c.that) (node_at i r.nodes) one next.first e)
  near_fair steps step one next number e are is fresh at same =
      let r = run_of n steps in
      let near = node_at i r.nodes in
      let nodes = (is_row n steps two are).nodes in
      let near_is = nodes.each i least (omega (arith, most)) in
      let far_is = nodes.each (i + 1) (omega arith) (omega (arith, most)) in
      let has = leg_has i near one near_is.head at.here in
      let joined = legs_joined n i steps one next are two least most (behind steps are) at in
      let strange = others_are_strange n i steps step (more_steps steps step are is) two least (omega (arith, most)) (ap all_fresh (after_more (start n) steps step) ∙ fresh) (leg_opening one) (leg_opening next) has
      (leg_has (i + 1) (node_at (i + 1) r.nodes) next far_is.head at.there) joined in
      let s = section_to (i + 1) joined.near_reference one.first.that joined.asks in
      as_meeting (i + 1) (λ c. c.that) near one next.first e (ap (λ (h : LaneHead). h.terms.ticks) near_is.head)
      (strange.0 (entry_of number e near) (new_entry i steps step number e least (omega (arith, most)) are is same))
      (λ from.
      subst (λ end. IsElsewhere (i + 1) end e) (sym s.1.0)
      (elsewhere_met n i (i + 1) number steps step e (leg_opening one) s.0 are is two least (omega (arith, most)) (was_fresh steps step fresh) same has (inr s.1.0) s.1.1 from))

  far_fair : (steps : List Step) (step : Step) (one next : Leg) (number : ℕ) (e : Event) → AreSteps n steps → IsTrue (is_step n step) → (let r = run_of n steps in
      all_fresh (after_step r step) ≡ true → AreNeighbours r i one next → change_by r step (i + 1) ≡ meets number e → IsMeeting i (λ c. c.this) (node_at (i + 1) r.nodes) next one.first e)
  far_fair steps step one next number e are is fresh at same =
      let r = run_of n steps in
      let j = i + 1 in
      let far = node_at j r.nodes in
      let nodes = (is_row n steps two are).nodes in
      let near_is = nodes.each i least (omega (arith, most)) in
      let far_is = nodes.each j (omega arith) (omega (arith, most)) in
      let has = leg_has j far next far_is.head at.there in
      let joined = legs_joined n i steps one next are two least most (behind steps are) at in
      let strange = others_are_strange n i steps step (more_steps steps step are is) two least (omega (arith, most)) (ap all_fresh (after_more (start n) steps step) ∙ fresh) (leg_opening one) (leg_opening next)
      (leg_has i (node_at i r.nodes) one near_is.head at.here) has joined in
      let s = section_to i joined.far_reference next.first.this (asked_to i joined.near_reference joined.far_reference next.first.this joined.asked) in
      as_meeting i (λ c. c.this) far next one.first e (ap (λ (h : LaneHead). h.terms.ticks) far_is.head)
      (strange.1 (entry_of number e far) (new_entry j steps step number e (omega arith) (omega (arith, most)) are is same))
      (λ from.
      subst (λ end. IsElsewhere i end e) (sym s.1.0)
      (elsewhere_met n j i number steps step e (leg_opening next) s.0 are is two (omega arith) (omega (arith, most)) (was_fresh steps step fresh) same has (inl s.1.0) s.1.1 from))

  -- Of all that came to the near node since the leg was opened.

  abbrev pub AllElsewhere : RunState → Type 0
  AllElsewhere r =
      all_fresh r ≡ true → (leg : Leg) (s : Section) → IsLeg i (node_at i r.nodes) leg → leg.first.that ≡ wire s → s.head.point ≡ i + 1 →
      AllByRecursion (IsOfOthers (i + 1) (wire s)) leg.since

  elsewhere_step : (done : List Step) (step : Step) → AreSteps n done → IsTrue (is_step n step) → AllElsewhere (run_of n done) → AllElsewhere (after_step (run_of n done) step)
  elsewhere_step done step are is before fresh leg s at that point =
      by_change (change_by r step i) refl (node_changed n i r step two is least (subst (λ k. i ≤ k) (sym (is_row n done two are).nodes.long) (omega (arith, most))))
    where
      r : RunState
      r = run_of n done

      near : NodeState
      near = node_at i r.nodes

      by_cut : (number : ℕ) (event : Event) → change_by r step i ≡ meets number event → LegCut i (entry_of number event near) near leg
          → AllByRecursion (IsOfOthers (i + 1) (wire s)) leg.since
      by_cut number event met (opened_now new by none) = subst (AllByRecursion (IsOfOthers (i + 1) (wire s))) (sym none) tt
      by_cut number event met (was_before earlier here same) =
          let named : earlier.first.that ≡ wire s = subst (λ (l : Leg). l.first.that ≡ wire s) same that in
          let last : is_from (i + 1) event ≡ false → IsElsewhere (i + 1) (wire s) event =
          elsewhere_met n i (i + 1) number done step event (leg_opening earlier) s are is two least (omega (arith, most)) (was_fresh done step fresh) met
          (leg_has i near earlier ((is_row n done two are).nodes.each i least (omega (arith, most))).head here) (inr named) point in
          subst (λ (l : Leg). AllByRecursion (IsOfOthers (i + 1) (wire s)) l.since) (sym same)
          (all_joined (IsOfOthers (i + 1) (wire s)) earlier.since (entry_of number event near ∷ [])
          (before (was_fresh done step fresh) earlier s here named point) (last, tt))

      by_change : (c : Change) → change_by r step i ≡ c → node_at i (after_step r step).nodes ≡ changed c near
          → AllByRecursion (IsOfOthers (i + 1) (wire s)) leg.since
      by_change stays met later = before (was_fresh done step fresh) leg s (subst (λ node. IsLeg i node leg) later at) that point
      by_change (gives way) met later = before (was_fresh done step fresh) leg s (as_leg i way near leg (subst (λ node. IsLeg i node leg) later at)) that point
      by_change (meets number event) met later = by_cut number event met (cut_leg i number event near leg (subst (λ node. IsLeg i node leg) later at))

  pub all_elsewhere : (steps : List Step) → AreSteps n steps → AllElsewhere (run_of n steps)
  all_elsewhere = along_run n AllElsewhere (λ fresh leg s at that point. absurd (no_leg_yet n i leg least (omega (arith, most)) at)) elsewhere_step

-- The opening of the far leg.

abbrev is_meeting : Change → Bool
is_meeting (meets number event) = true
is_meeting _ = false

flat_strange : (c : Connection) (point : ℕ) (journal : List Entry) → AllByRecursion (λ (e : Entry). AreStrange c (messages_to point e.outs)) journal → AreStrange c (sent_to point journal)
flat_strange c point [] all = tt
flat_strange c point (e ∷ journal) all = all_joined (λ (m : Waiting). IsStrange c (arrival_in m.bytes)) (messages_to point e.outs) (sent_to point journal) all.0 (flat_strange c point journal all.1)

quiet_to : (to : ℕ) (e : End) (outs : List Output) → AsksAt e outs → ((mine : ℕ) → IsTo to mine e → ⊥) → messages_to to outs ≡ []
quiet_to to (wire x) outs asks none = asks.2 to (λ same. none x.head.mine (same, refl))
quiet_to to (owner u) outs asks none = asks.1 to

not_to_any : (point : ℕ) (e : End) → ((mine : ℕ) → IsTo point mine e → ⊥) → IsNotTo point e
not_to_any point (wire x) none = λ same. none x.head.mine (same, refl)
not_to_any point (owner u) none = tt

fits_end : (e : End) → IfSome (reference_of e) (λ mine. mine < REFERENCES) → ReferenceFits e
fits_end (wire x) fits = fits
fits_end (owner u) fits = tt

not_nil : {A : Type 0} (xs : List A) (x : A) → xs ++ x ∷ [] ≡ [] → ⊥
not_nil [] x e = cc
not_nil (y ∷ xs) x e = cc

-- the two ends of a connection have not one reference
two_references : (node : NodeState) (o : Opening) (mine : ℕ) → AreFresh (firsts_of node) → Has node o → reference_of o.first.this ≡ Some mine → reference_of o.first.that ≡ Some mine → ⊥
two_references node o mine fresh has this that =
    let A : End → Type 0 = λ e. reference_of e ≡ Some mine in
    true≢false (is_one mine A A true false (firsts_of node) fresh (λ e is. is) (λ e is. is) (has_first (λ c. A c.this) node o has this) (has_first (λ c. A c.that) node o has that)).side

module _ (n i : ℕ) (two : 2 ≤ n) (least : 1 ≤ i) (most : i < n) where
  begins_fair : (steps : List Step) (step : Step) (one next : Leg) (number : ℕ) (e : Event) → AreSteps n steps → IsTrue (is_step n step) → (let r = run_of n steps in
      let after = after_step r step in
      all_fresh after ≡ true → AreNeighbours after i one next → next.since ≡ [] → change_by r step (i + 1) ≡ meets number e → IsBeginning i after one next)
  begins_fair steps step one next number e are is fresh at none met =
      subst (λ (after : RunState). IsBeginning i after one next) same_run
      (by_near (by_moves (change_by r step i) (change_by r step j) (moves n i r step two least most is row) met
      (node_changed n i r step two is least (subst (λ k. i ≤ k) (sym row.nodes.long) (omega (arith, most)))))
      (by_cut (cut_leg j number e far next (subst (λ node. IsLeg j node next)
      (node_changed n j r step two is (omega arith) (subst (λ k. j ≤ k) (sym row.nodes.long) (omega (arith, most))) ∙ ap (λ c. changed c far) met) at.there))))
    where
      j : ℕ
      j = i + 1

      r : RunState
      r = run_of n steps

      row : IsRow n r
      row = is_row n steps two are

      near : NodeState
      near = node_at i r.nodes

      far : NodeState
      far = node_at j r.nodes

      later : RunState
      later = run_of n (steps ++ step ∷ [])

      same_run : later ≡ after_step r step
      same_run = after_more (start n) steps step

      more : AreSteps n (steps ++ step ∷ [])
      more = more_steps n i two least most steps step are is

      nodes : AreNodes n later
      nodes = (is_row n (steps ++ step ∷ []) two more).nodes

      fresh_later : all_fresh later ≡ true
      fresh_later = ap all_fresh same_run ∙ fresh

      at_later : AreNeighbours later i one next
      at_later = subst (λ (after : RunState). AreNeighbours after i one next) (sym same_run) at

      joined : AreJoined i (i + 1) one.first next.first
      joined = legs_joined n i (steps ++ step ∷ []) one next more two least most (behind n i two least most (steps ++ step ∷ []) more) at_later

      by_moves : (c d : Change) → Moves i near far c d → d ≡ meets number e → node_at i (after_step r step).nodes ≡ changed c near
          → IsLeg i near one × ((node_at i (after_step r step).nodes).journal ≡ near.journal)
      by_moves _ _ rest other is = absurd (false≢true (ap is_meeting other))
      by_moves _ _ near_gives other is = absurd (false≢true (ap is_meeting other))
      by_moves _ _ far_gives other is = absurd (false≢true (ap is_meeting other))
      by_moves _ _ (near_alone k event from) other is = absurd (false≢true (ap is_meeting other))
      by_moves _ _ (back k event some) other is = absurd (false≢true (ap is_meeting other))
      by_moves _ _ (far_alone k event from) other is = (subst (λ node. IsLeg i node one) is at.here, ap (λ (node : NodeState). node.journal) is)
      by_moves _ _ (forward k event some) other is = (as_leg i true near one (subst (λ node. IsLeg i node one) is at.here), ap (λ (node : NodeState). node.journal) is)

      by_cut : LegCut j (entry_of number e far) far next → next.before ≡ far.journal
      by_cut (opened_now new by empty) = new
      by_cut (was_before earlier there same) = absurd (not_nil earlier.since (entry_of number e far) (sym (ap (λ (l : Leg). l.since) same) ∙ none))

      by_near : IsLeg i near one × ((node_at i (after_step r step).nodes).journal ≡ near.journal) → next.before ≡ far.journal → IsBeginning i later one next
      by_near before new =
          let near_is = nodes.each i least (omega (arith, most)) in
          let far_is = nodes.each j (omega arith) (omega (arith, most)) in
          let near_later = node_at i later.nodes in
          let far_later = node_at j later.nodes in
          let has = leg_has i near one (row.nodes.each i least (omega (arith, most))).head before.0 in
          let has_later = leg_has i near_later one near_is.head at_later.here in
          let has_next = leg_has j far_later next far_is.head at_later.there in
          let firsts = firsts_opened j far far_later next (row.nodes.each j (omega arith) (omega (arith, most))).head far_is.head at_later.there none new in
          let nothing = nothing_before n i steps step more two least (omega (arith, most)) fresh_later (leg_opening one) (leg_opening next) has has_next firsts joined in
          let names = is_referred n (steps ++ step ∷ []) two more in
          let s = section_to j joined.near_reference one.first.that joined.asks in
          let k = section_to i joined.far_reference next.first.this (asked_to i joined.near_reference joined.far_reference next.first.this joined.asked) in
          let opens = leg_opens n j far_later next far_is at_later.there in
          let own : AreStrange one.first (messages_to i next.by.outs) = subst (AreStrange one.first) (sym (quiet_to i next.first.that next.by.outs opens.asks joined.far_apart)) tt in
          let journal : far_later.journal ≡ far.journal ++ next.by ∷ [] =
          at_later.there.journal ∙ (ap (λ since. next.before ++ next.by ∷ since) none ∙ ap (λ entries. entries ++ next.by ∷ []) new) in
          let long = nodes.long in record {
            forward =
                subst (λ entries. AreStrange next.first (sent_to j entries)) (sym (ap (λ (after : RunState). (node_at i after.nodes).journal) same_run ∙ before.1))
                (flat_strange next.first j near.journal nothing.0);
            back =
                subst (λ entries. AreStrange one.first (sent_to i entries)) (sym journal)
                (flat_strange one.first i (far.journal ++ next.by ∷ [])
                (all_joined (λ (x : Entry). AreStrange one.first (messages_to i x.outs)) far.journal (next.by ∷ []) nothing.1 (own, tt)));
            elsewhere =
                subst (λ end. AllByRecursion (IsOfOthers j end) one.since) (sym s.1.0)
                (all_elsewhere n i two least most (steps ++ step ∷ []) more fresh_later one s.0 at_later.here s.1.0 s.1.1);
            apart = (not_to_any j one.first.this joined.near_apart, not_to_any i next.first.that joined.far_apart);
            references = (
              fits_end one.first.that (reference_fits (firsts_in later) i near_later (leg_opening one) (names.names i least (omega (arith, most))).0 has_later).1,
              fits_end next.first.this (reference_fits (firsts_in later) j far_later (leg_opening next) (names.names j (omega arith) (omega (arith, most))).0 has_next).0,
            );
            differ = (
              λ same. two_references near_later (leg_opening one) s.0.head.mine (run_fresh later i least (subst (λ k. i ≤ k) (sym long) (omega (arith, most))) fresh_later) has_later
                  (same ∙ ap reference_of s.1.0) (ap reference_of s.1.0),
              λ same. two_references far_later (leg_opening next) k.0.head.mine (run_fresh later j (omega arith) (subst (λ k. j ≤ k) (sym long) (omega (arith, most))) fresh_later) has_next
                  (ap reference_of k.1.0) (sym same ∙ ap reference_of k.1.0),
            );
          }

  -- The CR of a near leg that was just opened wasn't sent before.
  once_fair : (steps : List Step) (step : Step) (one next : Leg) (number : ℕ) (e : Event) → AreSteps n steps → IsTrue (is_step n step) → (let r = run_of n steps in
      let after = after_step r step in
      all_fresh after ≡ true → AreNeighbours after i one next → one.before ≡ (node_at i r.nodes).journal → one.since ≡ [] → change_by r step i ≡ meets number e →
      AllByRecursion (λ event. event ≢ next.by.event) (sent_by i (i + 1) (node_at i r.nodes)))
  once_fair steps step one next number e are is fresh at new none met =
      not_sent (sent_by i (i + 1) near) (all_sent (firsts_in r) i (i + 1) near ((is_referred n steps two are).names i least (omega (arith, most))).1)
    where
      r : RunState
      r = run_of n steps

      near : NodeState
      near = node_at i r.nodes

      later : RunState
      later = run_of n (steps ++ step ∷ [])

      same_run : later ≡ after_step r step
      same_run = after_more (start n) steps step

      more : AreSteps n (steps ++ step ∷ [])
      more = more_steps n i two least most steps step are is

      nodes : AreNodes n later
      nodes = (is_row n (steps ++ step ∷ []) two more).nodes

      at_later : AreNeighbours later i one next
      at_later = subst (λ (after : RunState). AreNeighbours after i one next) (sym same_run) at

      joined : AreJoined i (i + 1) one.first next.first
      joined = legs_joined n i (steps ++ step ∷ []) one next more two least most (behind n i two least most (steps ++ step ∷ []) more) at_later

      cr : IsCrFrom i joined.near_reference next.by.event
      cr = asked_came (i + 1) i joined.near_reference joined.far_reference (node_at (i + 1) later.nodes) next at_later.there joined.asked

      not_given : Asks (firsts_in r) i (i + 1) joined.near_reference → ⊥
      not_given asks =
          let m = joined.near_reference in
          let A : End → Type 0 = IsTo (i + 1) m in
          let near_later = node_at i later.nodes in
          let firsts = firsts_opened i near near_later one ((is_row n steps two are).nodes.each i least (omega (arith, most))).head (nodes.each i least (omega (arith, most))).head at_later.here none new in
          let whole : AreFresh (firsts_of near ++ one.first ∷ []) =
          subst AreFresh firsts (run_fresh later i least (subst (λ k. i ≤ k) (sym nodes.long) (omega (arith, most))) (ap all_fresh same_run ∙ fresh)) in
          in_one_part m (given_by (firsts_of near)) (given_by (one.first ∷ [])) (ap has_twice (sym (flat_map-append ends_of (firsts_of near) (one.first ∷ []))) ∙ whole)
          (among_given m A false (firsts_of near) (to_has (i + 1) m) asks) (among_given m A false (one.first ∷ []) (to_has (i + 1) m) (inl joined.asks))

      not_sent : (events : List Event) → AllByRecursion (IsSentEvent (firsts_in r) i (i + 1)) events → AllByRecursion (λ event. event ≢ next.by.event) events
      not_sent [] all = tt
      not_sent (event ∷ events) all = (
        λ same. not_given (sent_asks (firsts_in r) i (i + 1) i joined.near_reference event all.0 (subst (IsCrFrom i joined.near_reference) (sym same) cr)),
        not_sent events all.1,
      )

pub runs_are_fair : RunsAreFair
runs_are_fair n i two least most = record {
  near = near_fair n i two least most;
  far = far_fair n i two least most;
  begins = begins_fair n i two least most;
  once = once_fair n i two least most;
  before = λ steps step are is fresh. was_fresh n i two least most steps step fresh;
}
