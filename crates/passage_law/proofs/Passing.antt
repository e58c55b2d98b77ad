-- From its beginning on, the run of two legs is a course of their hop.
use Rattle.std.proofs.Common.{◌≡◌, ◌≢◌, ℕ, ◌≤◌, ◌<◌, ◌+◌, ◌-◌, Bool, true, false, List, [], ◌∷◌, ◌++◌, length, Some, refl, sym, ◌∙◌, ap, subst, arith, append-nil, append_assoc, eq-eqb, IsTrue}
use Rattle.std.specs.List.{AllByRecursion, list_any}
use Rattle.std.proofs.lemmas.List.Folds.{list_any-append}
use Rattle.relay_base.specs.declared.words.Event.{Event}
use Rattle.relay_base.specs.declared.words.Event.TheVariants.{Message as Arrived, Asked as Requested, Tick}
use Rattle.relay_base.specs.declared.words.Output.{Output}
use Rattle.plant_core.specs.declared.entry.Entry.{Entry}
use Rattle.plant_core.specs.declared.terms.LaneHead.{LaneHead}
use Rattle.plant_core.specs.declared.terms.TheConstants.{USUAL_TICKS}
use Rattle.section_model.specs.Ends.{End, wire, owner, SectionHead}
use Rattle.section_model.specs.Lane.{fed, part_by, reference_of}
use Rattle.hop_law.specs.Units.{units_on}
use Rattle.hop_law.proofs.Reading.{joined_on}
use Rattle.connection_law.specs.ReferenceLaw.{BothStay}
use Rattle.connection_law.proofs.Reference.Following.{following_stays}
use Rattle.hop_law.specs.TextLaw.{Begins}
use Rattle.hop_law.specs.ClearingLaw.{is_reset}
use Rattle.hop_law.specs.Waiting.{Waiting, messages_to}
use Rattle.hop_law.specs.Hop.{Hop, Course, begun, IsElsewhere, IsBegun, IsCarried}
use Rattle.hop_law.proofs.Along.{neither}
use Rattle.hop_law.specs.ResetAnswering.{is_rsr}
use Rattle.hop_law.specs.Coming.{SendsNoRsr, NoRsrWaits}
use Rattle.hop_law.proofs.ResetAnswering.{brings_as}
use Rattle.hop_law.proofs.Coming.{rsr_is_sent}
use Rattle.hop_law.proofs.Flows.{Comes, elsewhere, first}
use Rattle.hop_law.proofs.Hopping.{one_hop}
use Rattle.chain_step.specs.declared.step.Step.{Step}
use Rattle.chain_step.specs.Fresh.{all_fresh}
use Rattle.chain_step.specs.Run.{NodeState, RunState, given_of, waiting, outputs_of, entry_of, after_event, after_giving, node_at, start, run_of, after_step}
use Rattle.chain_step.specs.Steps.{is_step}
use Rattle.passage_law.specs.Nodes.{AreSteps}
use Rattle.passage_law.specs.Links.{is_from}
use Rattle.passage_law.specs.Fair.{AreStrange}
use Rattle.passage_law.proofs.Changing.{Change, meets, changed, change_by, node_changed}
use Rattle.passage_law.proofs.Linking.{sent_by, Links, IsRow, row_kept, is_row}
use Rattle.passage_law.specs.Trails.{Leg, IsLeg, heard_on, now_on, outs_on, IsNext}
use Rattle.passage_law.specs.Hops.{queue_of, AreNeighbours, RunHop}
use Rattle.passage_law.specs.Resets.{RsrCrosses, RunRsr}
use Rattle.passage_law.proofs.Fair.{IsMeeting, IsFairRun, RunsAreFair}
use Rattle.passage_law.proofs.Queue.{IsMessageOf, sent_of_node, waits_of_node, queue_met, queue_given}
use Rattle.passage_law.proofs.Meeting.{Leads, leads_then, leads_nowhere, near_after, far_after, near_event, far_event}
use Rattle.passage_law.proofs.Legs.{leg_more, LegCut, opened_now, was_before, cut_leg, as_leg, no_leg_yet, along_run, now_more, outs_on_more}
use Rattle.passage_law.proofs.Crossing.{begun_crosses, near_crosses, far_crosses, comes_without}
use Rattle.passage_law.proofs.Moving.{Moves, rest, near_gives, far_gives, near_alone, far_alone, forward, back, moves}
use Rattle.passage_law.proofs.Beginning.{leg_parts, all_came, all_as, neighbours, hop_of, HasBegun, has_begun}

-- outputs but for the first of them, which carry no unit
pub record IsRest (outs later : List Output) : Type 0 where
  pub early : List Output
  pub is : outs ≡ early ++ later
  pub quiet : (x : SectionHead) → units_on x early ≡ []

abbrev pub course_of : NodeState → NodeState → Leg → Leg → List Output → List Output → Course
course_of near far one next near_outs far_outs = record { hop = hop_of near far one next; near_outs = near_outs; far_outs = far_outs }

-- The hop of two legs as it is now comes of where it began, by fair steps.
pub record Passes (i : ℕ) (near far : NodeState) (one next : Leg) : Type 0 where
  pub hop : Hop
  pub begins : IsBegun (neighbours i) hop
  pub near_outs : List Output
  pub far_outs : List Output
  pub leads : Leads (neighbours i) (begun hop) (course_of near far one next near_outs far_outs)
  pub near_sent : IsRest (outs_on one) near_outs
  pub far_sent : IsRest (outs_on next) far_outs
  pub crosses : RsrCrosses one next

none_of_rest : (p : Output → Bool) (outs later : List Output) → IsRest outs later → list_any p outs ≡ false → list_any p later ≡ false
none_of_rest p outs later r none = (neither (list_any p r.early) (list_any p later) (sym (ap (list_any p) r.is ∙ list_any-append p r.early later) ∙ none)).1

all_early : (outs : List Output) → ((x : SectionHead) → units_on x outs ≡ []) → IsRest outs []
all_early outs quiet = record { early = outs; is = sym (append-nil outs); quiet = quiet }

rest_more : (outs later part more : List Output) → more ≡ outs ++ part → IsRest outs later → IsRest more (later ++ part)
rest_more outs later part more is r =
    record { early = r.early; is = is ∙ (ap (λ all. all ++ part) r.is ∙ append_assoc r.early later part); quiet = r.quiet }

just_begun : (i : ℕ) (near far : NodeState) (one next : Leg) → next.since ≡ [] → HasBegun i near far one next → Passes i near far one next
just_begun i near far one next none b = record {
  hop = hop_of near far one next;
  begins = b.begun;
  near_outs = [];
  far_outs = [];
  leads = leads_nowhere (neighbours i) (begun (hop_of near far one next));
  near_sent = all_early (outs_on one) b.near_quiet;
  far_sent = all_early (outs_on next) b.far_quiet;
  crosses = begun_crosses (i + 1) one next b.unanswered none;
}

-- A node meets an event.

references_now : (leg : Leg) → BothStay leg.first (now_on leg)
references_now leg = following_stays USUAL_TICKS leg.first (heard_on leg)

strange_now : (leg : Leg) (queue : List Waiting) → AreStrange leg.first queue → AreStrange (now_on leg) queue
strange_now leg queue strange = let stay = references_now leg in all_as leg.first (now_on leg) queue stay.this.reference stay.that.reference strange

elsewhere_as : (point : ℕ) (e f : End) (event : Event) → reference_of f ≡ reference_of e → IsElsewhere point e event → IsElsewhere point f event
elsewhere_as point e f (Arrived from sls bytes) same is = (is.0, λ named. is.1 (named ∙ same))
elsewhere_as point e f (Requested ssn r) same is = tt
elsewhere_as point e f Tick same is = tt

-- no RSR waits, as long as none is sent at the other node
none_waits : (i : ℕ) (near far : NodeState) (one next : Leg) → Passes i near far one next
    → (SendsNoRsr (outs_on one) → NoRsrWaits (now_on next).this (queue_of true near)) × (SendsNoRsr (outs_on next) → NoRsrWaits (now_on one).that (queue_of false far))
none_waits i near far one next p =
    let both = subst (λ (g : Course). (SendsNoRsr g.near_outs → NoRsrWaits g.hop.far.this g.hop.forward) × (SendsNoRsr g.far_outs → NoRsrWaits g.hop.near.that g.hop.back))
    p.leads.to (rsr_is_sent (neighbours i) p.hop p.leads.steps p.begins p.leads.fair) in
    (λ none. both.0 (none_of_rest is_rsr (outs_on one) p.near_outs p.near_sent none), λ none. both.1 (none_of_rest is_rsr (outs_on next) p.far_outs p.far_sent none))

near_step : (i number : ℕ) (event : Event) (near far later : NodeState) (one next : Leg) (queue : List Waiting) → near.head.terms.own ≡ i → near.ahead ≤ length (sent_by i (i + 1) near)
    → IsMeeting (i + 1) (λ c. c.that) near one next.first event → Comes (i + 1) (now_on one).that (queue_of false far) event queue → queue ≡ queue_of false later
    → Passes i near far one next → Passes i (after_event number event near) later (leg_more one (entry_of number event near)) next
near_step i number event near far later one next queue own within meeting comes is p =
    let n = neighbours i in
    let entry = entry_of number event near in
    let part = part_by USUAL_TICKS event (now_on one) in
    let g = course_of near far one next p.near_outs p.far_outs in
    let leads = near_event n g event meeting.first meeting.then queue (strange_now next _ meeting.strange.0) (strange_now next _ meeting.strange.1) comes in
    let joins : queue_of true near ++ messages_to (i + 1) (meeting.first ++ part ++ meeting.then) ≡ queue_of true (after_event number event near) =
    ap (λ outs. queue_of true near ++ messages_to (i + 1) outs) (sym meeting.outs) ∙ sym (queue_met true i number event near own within) in record {
      hop = p.hop;
      begins = p.begins;
      near_outs = p.near_outs ++ part;
      far_outs = p.far_outs;
      leads =
          subst (λ c. Leads n (begun p.hop) (record {
            hop = record { near = c; far = now_on next; forward = queue_of true (after_event number event near); back = queue_of false later };
            near_outs = p.near_outs ++ part;
            far_outs = p.far_outs;
          })) (sym (now_more one entry))
          (subst (λ q. Leads n (begun p.hop) (record {
            hop = record { near = fed USUAL_TICKS (now_on one) event; far = now_on next; forward = queue_of true (after_event number event near); back = q };
            near_outs = p.near_outs ++ part;
            far_outs = p.far_outs;
          })) is
          (subst (λ q. Leads n (begun p.hop) (record {
            hop = record { near = fed USUAL_TICKS (now_on one) event; far = now_on next; forward = q; back = queue };
            near_outs = p.near_outs ++ part;
            far_outs = p.far_outs;
          })) joins (leads_then n (begun p.hop) g (near_after n event meeting.first meeting.then queue g) p.leads leads)));
      near_sent = rest_more (outs_on one) p.near_outs part (outs_on (leg_more one entry)) (outs_on_more one entry) p.near_sent;
      far_sent = p.far_sent;
      crosses =
          near_crosses one next entry p.crosses
          (λ none. brings_as (now_on one).that one.first.that event (sym (references_now one).that.reference)
          (comes_without (i + 1) (now_on one).that (queue_of false far) queue event comes ((none_waits i near far one next p).1 none)));
    }

far_step : (i number : ℕ) (event : Event) (near far later : NodeState) (one next : Leg) (queue : List Waiting) → far.head.terms.own ≡ i + 1 → far.back ≤ length (sent_by (i + 1) (i + 1 - 1) far)
    → IsMeeting i (λ c. c.this) far next one.first event → Comes i (now_on next).this (queue_of true near) event queue → queue ≡ queue_of true later
    → Passes i near far one next → Passes i later (after_event number event far) one (leg_more next (entry_of number event far))
far_step i number event near far later one next queue own within meeting comes is p =
    let n = neighbours i in
    let entry = entry_of number event far in
    let part = part_by USUAL_TICKS event (now_on next) in
    let g = course_of near far one next p.near_outs p.far_outs in
    let here : i + 1 - 1 ≡ i = omega arith in
    let leads = far_event n g event meeting.first meeting.then queue (strange_now one _ meeting.strange.0) (strange_now one _ meeting.strange.1) comes in
    let joins : queue_of false far ++ messages_to i (meeting.first ++ part ++ meeting.then) ≡ queue_of false (after_event number event far) =
    ap (λ outs. queue_of false far ++ messages_to i outs) (sym meeting.outs)
    ∙ (ap (λ to. queue_of false far ++ messages_to to (outputs_of event far)) (sym here) ∙ sym (queue_met false (i + 1) number event far own within)) in record {
      hop = p.hop;
      begins = p.begins;
      near_outs = p.near_outs;
      far_outs = p.far_outs ++ part;
      leads =
          subst (λ c. Leads n (begun p.hop) (record {
            hop = record { near = now_on one; far = c; forward = queue_of true later; back = queue_of false (after_event number event far) };
            near_outs = p.near_outs;
            far_outs = p.far_outs ++ part;
          })) (sym (now_more next entry))
          (subst (λ q. Leads n (begun p.hop) (record {
            hop = record { near = now_on one; far = fed USUAL_TICKS (now_on next) event; forward = q; back = queue_of false (after_event number event far) };
            near_outs = p.near_outs;
            far_outs = p.far_outs ++ part;
          })) is
          (subst (λ q. Leads n (begun p.hop) (record {
            hop = record { near = now_on one; far = fed USUAL_TICKS (now_on next) event; forward = queue; back = q };
            near_outs = p.near_outs;
            far_outs = p.far_outs ++ part;
          })) joins (leads_then n (begun p.hop) g (far_after n event meeting.first meeting.then queue g) p.leads leads)));
      near_sent = p.near_sent;
      far_sent = rest_more (outs_on next) p.far_outs part (outs_on (leg_more next entry)) (outs_on_more next entry) p.far_sent;
      crosses =
          far_crosses one next entry p.crosses
          (λ none. brings_as (now_on next).this next.first.this event (sym (references_now next).this.reference)
          (comes_without i (now_on next).this (queue_of true near) queue event comes ((none_waits i near far one next p).0 none)));
    }

-- A message that waits comes.
first_comes : (point : ℕ) (e : End) (way : Bool) (node : NodeState) (event : Event) → node.head.terms.own ≡ point → waiting way node ≡ Some event
    → Comes point e (queue_of way node) event (queue_of way (after_giving way node))
first_comes point e way node event own some =
    by_message (subst (λ k. IsMessageOf k event) own (waits_of_node node.head.terms.own _ (given_of way node) event node some))
  where
    by_message : IsMessageOf point event → Comes point e (queue_of way node) event (queue_of way (after_giving way node))
    by_message message =
        subst (λ event. Comes point e (queue_of way node) event (queue_of way (after_giving way node))) (sym message.1)
        (first message.0 (queue_of way (after_giving way node)) (queue_given way point message.0 event node some message.1))

-- A message was given to another node.

near_aside : (i : ℕ) (near far : NodeState) (one next : Leg) → Passes i near far one next → Passes i (after_giving false near) far one next
near_aside i near far one next p = record {
  hop = p.hop;
  begins = p.begins;
  near_outs = p.near_outs;
  far_outs = p.far_outs;
  leads = p.leads;
  near_sent = p.near_sent;
  far_sent = p.far_sent;
  crosses = p.crosses;
}

far_aside : (i : ℕ) (near far : NodeState) (one next : Leg) → Passes i near far one next → Passes i near (after_giving true far) one next
far_aside i near far one next p = record {
  hop = p.hop;
  begins = p.begins;
  near_outs = p.near_outs;
  far_outs = p.far_outs;
  leads = p.leads;
  near_sent = p.near_sent;
  far_sent = p.far_sent;
  crosses = p.crosses;
}

-- The near leg was opened before CR came to the far node.

not_itself : (i : ℕ) (far : NodeState) (next : Leg) → IsLeg (i + 1) far next → is_from i next.by.event ≡ true
    → AllByRecursion (λ (e : Entry). is_from i e.event ≡ true → e.event ≢ next.by.event) far.journal → ⊥
not_itself i far next at from none = (leg_parts (λ (e : Entry). is_from i e.event ≡ true → e.event ≢ next.by.event) (i + 1) far next at none).0 from refl

module _ (n i : ℕ) (two : 2 ≤ n) (least : 1 ≤ i) (most : i < n) (fair : IsFairRun n i) where
  abbrev AllPass : RunState → Type 0
  AllPass r = all_fresh r ≡ true → (one next : Leg) → AreNeighbours r i one next → Passes i (node_at i r.nodes) (node_at (i + 1) r.nodes) one next

  step_passes : (done : List Step) (step : Step) → AreSteps n done → IsTrue (is_step n step) → AllPass (run_of n done) → AllPass (after_step (run_of n done) step)
  step_passes done step are is before fresh one next at =
      by_moves (change_by r step i) (change_by r step (i + 1)) (moves n i r step two least most is row) refl refl
      (node_changed n i r step two is least (subst (λ k. i ≤ k) (sym row.nodes.long) (omega (arith, most))))
      (node_changed n (i + 1) r step two is (omega arith) (subst (λ k. i + 1 ≤ k) (sym row.nodes.long) (omega (arith, most))))
    where
      r : RunState
      r = run_of n done

      after : RunState
      after = after_step r step

      row : IsRow n r
      row = is_row n done two are

      later : IsRow n after
      later = row_kept n two r step is row

      near : NodeState
      near = node_at i r.nodes

      far : NodeState
      far = node_at (i + 1) r.nodes

      near_own : near.head.terms.own ≡ i
      near_own = ap (λ (h : LaneHead). h.terms.own) (row.nodes.each i least (omega (arith, most))).head

      far_own : far.head.terms.own ≡ i + 1
      far_own = ap (λ (h : LaneHead). h.terms.own) (row.nodes.each (i + 1) (omega arith) (omega (arith, most))).head

      ahead : Links i true near far
      ahead = row.links i true least (omega (arith, most)) (omega arith) (omega (arith, most))

      here : i + 1 - 1 ≡ i
      here = omega arith

      behind : (r : RunState) → IsRow n r → Links (i + 1) false (node_at (i + 1) r.nodes) (node_at i r.nodes)
      behind r row =
          subst (λ k. Links (i + 1) false (node_at (i + 1) r.nodes) (node_at k r.nodes)) here
          (row.links (i + 1) false (omega arith) (omega (arith, most)) (omega (arith, least)) (omega (arith, most)))

      earlier : (one next : Leg) → IsLeg i near one → IsLeg (i + 1) far next → IsNext i one next → AreNeighbours r i one next
      earlier one next here there follows = record { here = here; there = there; follows = follows }

      passed : (one next : Leg) → AreNeighbours r i one next → Passes i near far one next
      passed one next at = before (fair.before done step are is fresh) one next at

      -- the far leg was opened by this step
      new_far : (number : ℕ) (event : Event) → change_by r step (i + 1) ≡ meets number event → next.since ≡ [] → Passes i (node_at i after.nodes) (node_at (i + 1) after.nodes) one next
      new_far number event met none =
          just_begun i (node_at i after.nodes) (node_at (i + 1) after.nodes) one next none
          (has_begun n i after one next (later.nodes.each i least (omega (arith, most))) (later.nodes.each (i + 1) (omega arith) (omega (arith, most))) (behind after later)
          at.here at.there at.follows none (fair.begins done step one next number event are is fresh at none met))

      -- the near one can't have been
      from_near : is_from i next.by.event ≡ true
      from_near =
          let message : AllByRecursion (IsMessageOf i) (next.by.event ∷ []) = subst (AllByRecursion (IsMessageOf i)) at.follows (sent_of_node i (i + 1) one.by.outs) in
          ap (is_from i) message.0.1 ∙ eq-eqb i i refl

      no_new_near : (number : ℕ) (event : Event) → change_by r step i ≡ meets number event → IsLeg (i + 1) far next → one.before ≡ near.journal → one.since ≡ [] → ⊥
      no_new_near number event met leg new none =
          not_itself i far next leg from_near
          (all_came (λ event. event ≢ next.by.event) i true near far ahead (fair.once done step one next number event are is fresh at new none met))

      closes : (a b : NodeState) → node_at i after.nodes ≡ a → node_at (i + 1) after.nodes ≡ b → Passes i a b one next → Passes i (node_at i after.nodes) (node_at (i + 1) after.nodes) one next
      closes a b near_is far_is p = subst (λ x. Passes i x (node_at (i + 1) after.nodes) one next) (sym near_is) (subst (λ x. Passes i a x one next) (sym far_is) p)

      near_leg : (a : NodeState) → node_at i after.nodes ≡ a → IsLeg i a one
      near_leg a is = subst (λ x. IsLeg i x one) is at.here

      far_leg : (b : NodeState) → node_at (i + 1) after.nodes ≡ b → IsLeg (i + 1) b next
      far_leg b is = subst (λ x. IsLeg (i + 1) x next) is at.there

      -- the near node met the event, and the far one has these messages left
      near_met : (number : ℕ) (event : Event) (b : NodeState) (queue : List Waiting) → change_by r step i ≡ meets number event → IsLeg (i + 1) far next → queue ≡ queue_of false b
          → ((leg : Leg) → IsMeeting (i + 1) (λ c. c.that) near leg next.first event → Comes (i + 1) (now_on leg).that (queue_of false far) event queue)
          → LegCut i (entry_of number event near) near one → Passes i (after_event number event near) b one next
      near_met number event b queue met there left comes (opened_now new by none) = absurd (no_new_near number event met there new none)
      near_met number event b queue met there left comes (was_before leg here same) =
          let at = earlier leg next here there (subst (λ leg. IsNext i leg next) same at.follows) in
          let meeting = fair.near done step leg next number event are is fresh at met in
          subst (λ leg. Passes i (after_event number event near) b leg next) (sym same)
          (near_step i number event near far b leg next queue near_own ahead.within meeting (comes leg meeting) left (passed leg next at))

      far_met : (number : ℕ) (event : Event) (a : NodeState) (queue : List Waiting) → change_by r step (i + 1) ≡ meets number event → node_at i after.nodes ≡ a
          → node_at (i + 1) after.nodes ≡ after_event number event far → IsLeg i near one → queue ≡ queue_of true a
          → ((leg : Leg) → IsMeeting i (λ c. c.this) far leg one.first event → Comes i (now_on leg).this (queue_of true near) event queue)
          → LegCut (i + 1) (entry_of number event far) far next → Passes i (node_at i after.nodes) (node_at (i + 1) after.nodes) one next
      far_met number event a queue met near_is far_is here left comes (opened_now new by none) = new_far number event met none
      far_met number event a queue met near_is far_is here left comes (was_before leg there same) =
          let at = earlier one leg here there (subst (λ leg. IsNext i one leg) same at.follows) in
          let meeting = fair.far done step one leg number event are is fresh at met in
          closes a (after_event number event far) near_is far_is
          (subst (λ leg. Passes i a (after_event number event far) one leg) (sym same)
          (far_step i number event near far a one leg queue far_own (behind r row).within meeting (comes leg meeting) left (passed one leg at)))

      by_moves : (c d : Change) → Moves i near far c d → change_by r step i ≡ c → change_by r step (i + 1) ≡ d → node_at i after.nodes ≡ changed c near
          → node_at (i + 1) after.nodes ≡ changed d far → Passes i (node_at i after.nodes) (node_at (i + 1) after.nodes) one next
      by_moves _ _ rest met other near_is far_is =
          closes near far near_is far_is (passed one next (earlier one next (near_leg near near_is) (far_leg far far_is) at.follows))
      by_moves _ _ near_gives met other near_is far_is =
          closes (after_giving false near) far near_is far_is
          (near_aside i near far one next (passed one next (earlier one next (as_leg i false near one (near_leg (after_giving false near) near_is)) (far_leg far far_is) at.follows)))
      by_moves _ _ far_gives met other near_is far_is =
          closes near (after_giving true far) near_is far_is
          (far_aside i near far one next (passed one next (earlier one next (near_leg near near_is) (as_leg (i + 1) true far next (far_leg (after_giving true far) far_is)) at.follows)))
      by_moves _ _ (near_alone number event from) met other near_is far_is =
          closes (after_event number event near) far near_is far_is
          (near_met number event far (queue_of false far) met (far_leg far far_is) refl
          (λ leg meeting. elsewhere event (elsewhere_as (i + 1) leg.first.that (now_on leg).that event (references_now leg).that.reference (meeting.elsewhere from)))
          (cut_leg i number event near one (near_leg (after_event number event near) near_is)))
      by_moves _ _ (back number event some) met other near_is far_is =
          closes (after_event number event near) (after_giving false far) near_is far_is
          (near_met number event (after_giving false far) (queue_of false (after_giving false far)) met (as_leg (i + 1) false far next (far_leg (after_giving false far) far_is)) refl
          (λ leg meeting. first_comes (i + 1) (now_on leg).that false far event far_own some)
          (cut_leg i number event near one (near_leg (after_event number event near) near_is)))
      by_moves _ _ (far_alone number event from) met other near_is far_is =
          far_met number event near (queue_of true near) other near_is far_is (near_leg near near_is) refl
          (λ leg meeting. elsewhere event (elsewhere_as i leg.first.this (now_on leg).this event (references_now leg).this.reference (meeting.elsewhere from)))
          (cut_leg (i + 1) number event far next (far_leg (after_event number event far) far_is))
      by_moves _ _ (forward number event some) met other near_is far_is =
          far_met number event (after_giving true near) (queue_of true (after_giving true near)) other near_is far_is (as_leg i true near one (near_leg (after_giving true near) near_is)) refl
          (λ leg meeting. first_comes i (now_on leg).this true near event near_own some)
          (cut_leg (i + 1) number event far next (far_leg (after_event number event far) far_is))

  -- along all steps
  none_yet : AllPass (start n)
  none_yet fresh one next at = absurd (no_leg_yet n i one least (omega (arith, most)) at.here)

  pub all_pass : (steps : List Step) → AreSteps n steps → AllPass (run_of n steps)
  all_pass = along_run n AllPass none_yet step_passes

-- So the law of one hop holds of it.

units_of_rest : (outs later : List Output) (x : SectionHead) → IsRest outs later → units_on x outs ≡ units_on x later
units_of_rest outs later x r =
    ap (units_on x) r.is ∙ (joined_on x r.early later ∙ ap (λ units. units ++ units_on x later) (r.quiet x))

carried_of_rest : (outs later : List Output) (e f : End) (queue : List Waiting) → IsRest outs later → IsCarried later e f queue → IsCarried outs e f queue
carried_of_rest outs later (wire y) (wire x) queue r carried =
    let same = sym (units_of_rest outs later y.head r) in
    (subst (Begins x.windows.got) same carried.0, λ may. sym same ∙ carried.1 may)
carried_of_rest outs later (wire y) (owner u) queue r carried = absurd carried
carried_of_rest outs later (owner u) f queue r carried = absurd carried

carries : (i : ℕ) (near far : NodeState) (one next : Leg) → Passes i near far one next → list_any is_reset (outs_on one) ≡ false → list_any is_reset (outs_on next) ≡ false
    → IsCarried (outs_on one) (now_on one).that (now_on next).this (queue_of true near) × IsCarried (outs_on next) (now_on next).this (now_on one).that (queue_of false far)
carries i near far one next p none_near none_far =
    let n = neighbours i in
    let both = subst (λ (g : Course). list_any is_reset g.near_outs ≡ false → list_any is_reset g.far_outs ≡ false →
    IsCarried g.near_outs g.hop.near.that g.hop.far.this g.hop.forward × IsCarried g.far_outs g.hop.far.this g.hop.near.that g.hop.back)
    p.leads.to (one_hop n p.hop p.leads.steps p.begins p.leads.fair)
    (none_of_rest is_reset (outs_on one) p.near_outs p.near_sent none_near) (none_of_rest is_reset (outs_on next) p.far_outs p.far_sent none_far) in (
      carried_of_rest (outs_on one) p.near_outs (now_on one).that (now_on next).this (queue_of true near) p.near_sent both.0,
      carried_of_rest (outs_on next) p.far_outs (now_on next).this (now_on one).that (queue_of false far) p.far_sent both.1,
    )

pub run_hop : RunsAreFair → RunHop
run_hop fair n i steps one next are two least most fresh at none_near none_far =
    let r = run_of n steps in
    carries i (node_at i r.nodes) (node_at (i + 1) r.nodes) one next (all_pass n i two least most (fair n i two least most) steps are fresh one next at) none_near none_far

pub run_rsr : RunsAreFair → RunRsr
run_rsr fair n i steps one next are two least most fresh at = (all_pass n i two least most (fair n i two least most) steps are fresh one next at).crosses
