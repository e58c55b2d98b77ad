-- Where the hop of two legs begins: CR just came to the far node.
use Rattle.std.proofs.Common.{◌≡◌, ◌≢◌, ◌⊎◌, inl, inr, ℕ, ◌<◌, ◌+◌, ◌-◌, Bool, true, false, List, [], ◌∷◌, ◌++◌, map, Some, refl, sym, ◌∙◌, ap, ap₂, subst, arith, append-nil}
use Rattle.std.specs.Prelude.{flat_map}
use Rattle.std.specs.List.{AllByRecursion}
use Rattle.std.proofs.ByRecursion.{All-take, All-drop}
use Rattle.relay_base.specs.declared.limits.TheConstants.{REFERENCES}
use Rattle.relay_base.specs.declared.words.Event.{Event}
use Rattle.relay_base.specs.declared.words.Event.TheVariants.{Message as Arrived, Asked as Requested, Tick}
use Rattle.plant_core.specs.declared.entry.Entry.{Entry}
use Rattle.plant_core.specs.declared.terms.LaneHead.{LaneHead}
use Rattle.plant_core.specs.declared.terms.TheConstants.{USUAL_TICKS}
use Rattle.section_model.specs.declared.cell.SectionState.TheVariants.{Asking, Gone}
use Rattle.section_model.specs.Parameters.{arrival_in}
use Rattle.section_model.specs.Ends.{End, wire, owner, SectionHead, Section, Connection, is_gone, is_reached}
use Rattle.section_model.specs.Opening.{wish_of}
use Rattle.section_model.specs.Journals.{IsConnJournal}
use Rattle.section_model.specs.Lane.{answer_of, reference_of, heard, follow, legal_outputs, IsLegalEntry}
use Rattle.section_model.specs.Laws.{openings_from}
use Rattle.lane_law.proofs.Splitting.{splits}
use Rattle.hop_law.specs.Units.{units_on}
use Rattle.hop_law.proofs.Reading.{joined_on}
use Rattle.connection_law.specs.InStep.{class_at, IsInStep}
use Rattle.connection_law.proofs.Flow.Opening.{opening_begins}
use Rattle.hop_law.specs.ClassLaw.{IsOfAClass}
use Rattle.hop_law.specs.LeavingLaw.{IsApart}
use Rattle.hop_law.proofs.Early.{opening_empty}
use Rattle.hop_law.specs.LeftAlong.{outs_along}
use Rattle.hop_law.specs.Waiting.{Waiting, messages_to}
use Rattle.hop_law.specs.Hop.{Hop, Neighbours, GotNothing, IsStrange, IsElsewhere, IsBegun}
use Rattle.hop_law.proofs.Along.{apart_place}
use Rattle.hop_law.proofs.Lists.{all_joined, each_filtered}
use Rattle.chain_step.specs.Run.{NodeState, RunState, head_of, messages_in, neighbour, given_of, node_at}
use Rattle.passage_law.specs.Nodes.{IsNode}
use Rattle.passage_law.specs.Links.{is_from}
use Rattle.passage_law.specs.Fair.{AreStrange}
use Rattle.passage_law.proofs.Linking.{sent_by, Links}
use Rattle.passage_law.specs.Trails.{Leg, lane_at, IsLeg, heard_on, now_on, outs_on, IsNext}
use Rattle.passage_law.specs.Hops.{as_waiting, queue_of}
use Rattle.passage_law.specs.Resets.{met_on}
use Rattle.passage_law.proofs.Opening.{opens_outs}
use Rattle.passage_law.proofs.Trailing.{references_at, is_legal}
use Rattle.passage_law.proofs.Fair.{IsOfOthers, IsNotTo, ReferenceFits, sent_to, IsBeginning}
use Rattle.passage_law.proofs.Queue.{waiting_in}
use Rattle.passage_law.proofs.Asking.{IsCr, Asks, IsAskedAs, opening_as, IsAskedBy, asked_by}
use Rattle.passage_law.proofs.Waiting.{IsNoAnswer, IsWaiting, WaitsAfter, strange_as, waits_along}

-- What holds of each.

pub all_parts : {A : Type 0} (P : A → Type 0) (one other : List A) → AllByRecursion P (one ++ other) → AllByRecursion P one × AllByRecursion P other
all_parts P [] other all = (tt, all)
all_parts P (x ∷ one) other all = let rest = all_parts P one other all.1 in ((all.0, rest.0), rest.1)

pub all_mapped : {A B : Type 0} (P : B → Type 0) (f : A → B) (xs : List A) → AllByRecursion P (map f xs) → AllByRecursion (λ x. P (f x)) xs
all_mapped P f [] all = tt
all_mapped P f (x ∷ xs) all = (all.0, all_mapped P f xs all.1)

map_all : {A B : Type 0} (P : B → Type 0) (f : A → B) (xs : List A) → AllByRecursion (λ x. P (f x)) xs → AllByRecursion P (map f xs)
map_all P f [] all = tt
map_all P f (x ∷ xs) all = (all.0, map_all P f xs all.1)

-- and of what stands in the journal of a leg's node: of the entry that opened it, and of those since
pub leg_parts : (P : Entry → Type 0) (i : ℕ) (node : NodeState) (leg : Leg) → IsLeg i node leg → AllByRecursion P node.journal → P leg.by × AllByRecursion P leg.since
leg_parts P i node leg at all = (all_parts P leg.before (leg.by ∷ leg.since) (subst (AllByRecursion P) at.journal all)).1

-- What holds of all that a node sent to a neighbour holds of each message that arrived there from it.
pub all_came : (P : Event → Type 0) (i : ℕ) (forward : Bool) (one other : NodeState) → Links i forward one other → AllByRecursion P (sent_by i (neighbour forward i) one)
    → AllByRecursion (λ (e : Entry). is_from i e.event ≡ true → P e.event) other.journal
all_came P i forward one other link all =
    all_mapped (λ event. is_from i event ≡ true → P event) (λ (e : Entry). e.event) other.journal
    (each_filtered P (is_from i) (map (λ (e : Entry). e.event) other.journal)
    (subst (AllByRecursion P) (sym link.first) (All-take P (given_of forward one) (sent_by i (neighbour forward i) one) all)))

-- Strange messages, as events.

abbrev pub IsStrangeEvent : Connection → Event → Type 0
IsStrangeEvent c (Arrived from sls bytes) = IsStrange c (arrival_in bytes)
IsStrangeEvent c (Requested ssn r) = Unit {0}
IsStrangeEvent c Tick = Unit {0}

abbrev AreStrangeEvents : Connection → List Event → Type 0
AreStrangeEvents c events = AllByRecursion (IsStrangeEvent c) events

as_events : (c : Connection) (events : List Event) → AreStrange c (flat_map as_waiting events) → AreStrangeEvents c events
as_events c [] strange = tt
as_events c (Arrived from sls bytes ∷ events) strange = (strange.0, as_events c events strange.1)
as_events c (Requested ssn r ∷ events) strange = (tt, as_events c events strange)
as_events c (Tick ∷ events) strange = (tt, as_events c events strange)

of_events : (c : Connection) (events : List Event) → AreStrangeEvents c events → AreStrange c (flat_map as_waiting events)
of_events c [] strange = tt
of_events c (Arrived from sls bytes ∷ events) strange = (strange.0, of_events c events strange.1)
of_events c (Requested ssn r ∷ events) strange = of_events c events strange.1
of_events c (Tick ∷ events) strange = of_events c events strange.1

sent_strange : (c : Connection) (own to : ℕ) (journal : List Entry) → AreStrange c (sent_to to journal) → AreStrangeEvents c (flat_map (λ (e : Entry). messages_in own to e.outs) journal)
sent_strange c own to [] strange = tt
sent_strange c own to (entry ∷ journal) strange =
    let both = all_parts (λ (m : Waiting). IsStrange c (arrival_in m.bytes)) (messages_to to entry.outs) (sent_to to journal) strange in
    all_joined (IsStrangeEvent c) (messages_in own to entry.outs) (flat_map (λ (e : Entry). messages_in own to e.outs) journal)
    (as_events c (messages_in own to entry.outs) (subst (AreStrange c) (sym (waiting_in own to entry.outs)) both.0)) (sent_strange c own to journal both.1)

queue_strange : (c : Connection) (forward : Bool) (own to : ℕ) (node : NodeState) → node.head.terms.own ≡ own → neighbour forward own ≡ to → AreStrange c (sent_to to node.journal)
    → AreStrange c (queue_of forward node)
queue_strange c forward own to node is there strange =
    of_events c _
    (All-drop (IsStrangeEvent c) (given_of forward node) _
    (sent_strange c node.head.terms.own (neighbour forward node.head.terms.own) node.journal
    (subst (λ k. AreStrange c (sent_to k node.journal)) (sym (ap (neighbour forward) is ∙ there)) strange)))

-- Of what came to the near node since its leg was opened, nothing answers.

since_strange : (c : Connection) (i : ℕ) (near far : NodeState) (leg : Leg) → Links (i + 1) false far near → IsLeg i near leg → AreStrange c (sent_to i far.journal)
    → AllByRecursion (λ (e : Entry). is_from (i + 1) e.event ≡ true → IsStrangeEvent c e.event) leg.since
since_strange c i near far leg link at strange =
    let here : i + 1 - 1 ≡ i = omega arith in
    let sent : AreStrangeEvents c (sent_by (i + 1) (i + 1 - 1) far) = sent_strange c (i + 1) (i + 1 - 1) far.journal (subst (λ k. AreStrange c (sent_to k far.journal)) (sym here) strange) in
    (leg_parts (λ (e : Entry). is_from (i + 1) e.event ≡ true → IsStrangeEvent c e.event) i near leg at (all_came (IsStrangeEvent c) (i + 1) false far near link sent)).1

no_answer : (point : ℕ) (c : Connection) (event : Event) → (is_from point event ≡ false → IsElsewhere point c.that event) → (is_from point event ≡ true → IsStrangeEvent c event) → IsNoAnswer point c event
no_answer point c (Arrived from sls bytes) elsewhere strange = by_test (is_from point (Arrived from sls bytes)) refl
  where
    by_test : (b : Bool) → is_from point (Arrived from sls bytes) ≡ b → IsNoAnswer point c (Arrived from sls bytes)
    by_test true is = inr (strange is)
    by_test false is = inl (elsewhere is)
no_answer point c (Requested ssn r) elsewhere strange = tt
no_answer point c Tick elsewhere strange = tt

no_answers : (point : ℕ) (c : Connection) (entries : List Entry) → AllByRecursion (IsOfOthers point c.that) entries
    → AllByRecursion (λ (e : Entry). is_from point e.event ≡ true → IsStrangeEvent c e.event) entries → AllByRecursion (IsNoAnswer point c) (map (λ (e : Entry). e.event) entries)
no_answers point c [] elsewhere strange = tt
no_answers point c (e ∷ entries) elsewhere strange = (no_answer point c e.event elsewhere.0 strange.0, no_answers point c entries elsewhere.1 strange.1)

-- A leg's opening.

leg_legal : (n i : ℕ) (node : NodeState) (leg : Leg) → IsNode n i node → IsLeg i node leg → IsLegalEntry (lane_at i) (openings_from (lane_at i) [] leg.before) leg.by
leg_legal n i node leg is at =
    ((splits (lane_at i) [] leg.before (leg.by ∷ leg.since)).0 (subst (IsConnJournal (head_of i) 0) at.journal is.legal)).1.0

pub record Opens (i : ℕ) (leg : Leg) : Type 0 where
  pub asks : Asks leg.first.that leg.by.outs
  pub asked : IsAskedAs (wish_of (head_of i).terms leg.by.event) leg.first.this
  pub in_step : IsInStep leg.first
  pub nothing : GotNothing leg.first
  pub class : IsOfAClass (class_at leg.first.this)
  pub no_unit : (x : SectionHead) → units_on x leg.by.outs ≡ []

pub leg_opens : (n i : ℕ) (node : NodeState) (leg : Leg) → IsNode n i node → IsLeg i node leg → Opens i leg
unfolding legal_outputs
leg_opens n i node leg is at =
    let terms = (head_of i).terms in
    let wish = wish_of terms leg.by.event in
    let answer = answer_of leg.by in
    let openings = openings_from (lane_at i) [] leg.before in
    let legal = is_legal n i node leg is at in
    let asks = opening_as terms wish answer (references_at i leg) leg.first at.opens in
    let outs = (leg_legal n i node leg is at).outputs ∙ opens_outs (lane_at i) openings leg.by.event answer wish leg.first at.opens in record {
      asks = subst (Asks leg.first.that) (sym outs) asks.0;
      asked = asks.1;
      in_step = (opening_begins terms leg.by.event answer (references_at i leg) leg.first (omega arith) at.opens).0;
      nothing = opening_empty terms wish answer (references_at i leg) leg.first at.opens;
      class = legal.class;
      no_unit = legal.begun.no_unit;
    }

-- the near leg sent CR from its section, which asks
pub record SentCr (i : ℕ) (one : Leg) (event : Event) : Type 0 where
  pub section : Section
  pub is : one.first.that ≡ wire section
  pub state : section.head.state ≡ Asking
  pub cr : IsCr i section.head.mine event

pub sent_cr : (i : ℕ) (one next : Leg) (e : End) → one.first.that ≡ e → Asks e one.by.outs → IsNext i one next → SentCr i one next.by.event
sent_cr i one next (wire x) is asks follows = record { section = x; is = is; state = asks.0; cr = asks.1 i (i + 1) next.by.event follows }
sent_cr i one next (owner u) is asks follows = absurd (nothing (sym (asks.0 i (i + 1)) ∙ follows))
  where
    nothing : [] ≡ next.by.event ∷ [] → ⊥
    nothing e = cc

not_to : (y : SectionHead) (e : End) → IsNotTo y.point e → IsApart y e
not_to y (wire x) differs = differs
not_to y (owner u) differs = tt

reference_below : (e : End) (x : Section) → e ≡ wire x → ReferenceFits e → x.head.mine < REFERENCES
reference_below e x is below = subst ReferenceFits is below

-- strangeness hangs on the references alone
pub all_as : (c d : Connection) (queue : List Waiting) → reference_of d.this ≡ reference_of c.this → reference_of d.that ≡ reference_of c.that → AreStrange c queue → AreStrange d queue
all_as c d [] this that strange = tt
all_as c d (m ∷ queue) this that strange = (strange_as c d (arrival_in m.bytes) this that strange.0, all_as c d queue this that strange.1)

-- The hop.

abbrev pub neighbours : ℕ → Neighbours
neighbours i = record { near = i; far = i + 1; near_ticks = USUAL_TICKS; far_ticks = USUAL_TICKS }

abbrev pub hop_of : NodeState → NodeState → Leg → Leg → Hop
hop_of near far one next = record { near = now_on one; far = now_on next; forward = queue_of true near; back = queue_of false far }

pub record HasBegun (i : ℕ) (near far : NodeState) (one next : Leg) : Type 0 where
  pub begun : IsBegun (neighbours i) (hop_of near far one next)
  pub near_quiet : (x : SectionHead) → units_on x (outs_on one) ≡ []
  pub far_quiet : (x : SectionHead) → units_on x (outs_on next) ≡ []
  pub unanswered : AllByRecursion (IsNoAnswer (i + 1) one.first) (met_on one)

now_first : (leg : Leg) → leg.since ≡ [] → now_on leg ≡ leg.first
unfolding heard follow
now_first leg none = ap (λ since. follow USUAL_TICKS leg.first (heard USUAL_TICKS leg.first (map (λ (e : Entry). e.event) since))) none

outs_first : (leg : Leg) → leg.since ≡ [] → outs_on leg ≡ leg.by.outs
unfolding heard outs_along
outs_first leg none =
    ap (λ since. leg.by.outs ++ outs_along USUAL_TICKS leg.first (heard USUAL_TICKS leg.first (map (λ (e : Entry). e.event) since))) none ∙ append-nil leg.by.outs

quiet_on : (leg : Leg) → ((x : SectionHead) → units_on x leg.by.outs ≡ []) → ((x : SectionHead) → units_on x (outs_along USUAL_TICKS leg.first (heard_on leg)) ≡ []) → (x : SectionHead)
    → units_on x (outs_on leg) ≡ []
quiet_on leg opening later x = joined_on x leg.by.outs (outs_along USUAL_TICKS leg.first (heard_on leg)) ∙ ap₂ (λ a b. a ++ b) (opening x) (later x)

own_point : (n i : ℕ) (node : NodeState) → IsNode n i node → node.head.terms.own ≡ i
own_point n i node is = ap (λ (h : LaneHead). h.terms.own) is.head

-- The near connection waits for CC, or its section is over.
near_unanswered : (i : ℕ) (r : RunState) (one next : Leg) → Links (i + 1) false (node_at (i + 1) r.nodes) (node_at i r.nodes) → IsLeg i (node_at i r.nodes) one → IsBeginning i r one next
    → AllByRecursion (IsNoAnswer (i + 1) one.first) (met_on one)
near_unanswered i r one next link at begins =
    no_answers (i + 1) one.first one.since begins.elsewhere
    (since_strange one.first i (node_at i r.nodes) (node_at (i + 1) r.nodes) one link at begins.back)

near_waits : (n i : ℕ) (r : RunState) (one next : Leg) (sent : SentCr i one next.by.event) → Opens i one → Links (i + 1) false (node_at (i + 1) r.nodes) (node_at i r.nodes) → IsLeg i (node_at i r.nodes) one
    → IsBeginning i r one next → WaitsAfter (record sent.section.head { point = i + 1 }) one.first (now_on one) (outs_along USUAL_TICKS one.first (heard_on one))
near_waits n i r one next sent opens link at begins =
    waits_along USUAL_TICKS (record sent.section.head { point = i + 1 }) one.first (met_on one) one.first
    (record {
      section = sent.section;
      is = sent.is;
      waits = inl (ap is_reached sent.state);
      sound = record { in_step = opens.in_step; class = opens.class; early = (λ early. opens.nothing.0, λ early. opens.nothing.1); references = begins.differ.0 };
      nothing = opens.nothing;
      apart = not_to (record sent.section.head { point = i + 1 }) one.first.this begins.apart.0;
      references = (refl, refl);
    })
    (near_unanswered i r one next link at begins)

same_mine : (x z : Section) → Some x.head.mine ≡ Some z.head.mine → x.head.mine ≡ z.head.mine
same_mine x z e = cc

still : (x : Section) → (is_reached x.head.state ≡ false) ⊎ (x.head.state ≡ Gone) → (is_reached x.head.state ≡ false) ⊎ (is_gone x.head.state ≡ true)
still x (inl unreached) = inl unreached
still x (inr gone) = inr (ap is_gone gone)

-- the far one was just opened
begun_with : (n i : ℕ) (r : RunState) (one next : Leg) (x : Section) → (let near = node_at i r.nodes in
    let far = node_at (i + 1) r.nodes in
    near.head.terms.own ≡ i → far.head.terms.own ≡ i + 1 → IsBeginning i r one next → one.first.that ≡ wire x → IsWaiting (record x.head { point = i + 1 }) one.first (now_on one) → Opens (i + 1) next
    → IsAskedBy i x.head.mine next.first.this → now_on next ≡ next.first → IsBegun (neighbours i) (hop_of near far one next))
begun_with n i r one next x near_own far_own begins is w opens asked same =
    let near = node_at i r.nodes in
    let far = node_at (i + 1) r.nodes in
    let mine : w.section.head.mine ≡ x.head.mine = same_mine w.section x (sym (ap reference_of w.is) ∙ (w.references.1 ∙ ap reference_of is)) in record {
      asking = w.section;
      asked = asked.section;
      is_asking = w.is;
      is_asked = ap (λ (c : Connection). c.this) same ∙ asked.is;
      waits = still w.section w.waits;
      state = asked.state;
      point = asked.point;
      named = asked.other ∙ sym mine;
      references = (subst (λ k. k < REFERENCES) (sym mine) (reference_below one.first.that x is begins.references.0), reference_below next.first.this asked.section asked.is begins.references.1);
      class = (subst IsOfAClass (w.sound.in_step.1 ∙ ap class_at w.is) w.sound.class, subst IsOfAClass (ap class_at asked.is) opens.class);
      in_step = (w.sound.in_step, subst IsInStep (sym same) opens.in_step);
      nothing = (w.nothing, subst GotNothing (sym same) opens.nothing);
      other_references = (w.sound.references, subst (λ (c : Connection). reference_of c.this ≢ reference_of c.that) (sym same) begins.differ.1);
      apart = (
        apart_place (record x.head { point = i + 1 }) (record w.section.head { point = i + 1 }) (now_on one).this refl w.apart,
        subst (λ (c : Connection). IsApart asked.section.head c.that) (sym same)
            (not_to asked.section.head next.first.that (subst (λ k. IsNotTo k next.first.that) (sym asked.point) begins.apart.1)),
      );
      forward = subst (λ c. AreStrange c (queue_of true near)) (sym same) (queue_strange next.first true i (i + 1) near near_own refl begins.forward);
      back = all_as one.first (now_on one) (queue_of false far) w.references.0 w.references.1 (queue_strange one.first false (i + 1) i far far_own (omega arith) begins.back);
    }

pub has_begun : (n i : ℕ) (r : RunState) (one next : Leg) → (let near = node_at i r.nodes in
    let far = node_at (i + 1) r.nodes in
    IsNode n i near → IsNode n (i + 1) far → Links (i + 1) false far near → IsLeg i near one → IsLeg (i + 1) far next → IsNext i one next → next.since ≡ [] → IsBeginning i r one next
    → HasBegun i near far one next)
has_begun n i r one next near_is far_is link at there follows none begins =
    let near = node_at i r.nodes in
    let far = node_at (i + 1) r.nodes in
    let opens : Opens i one = leg_opens n i near one near_is at in
    let far_opens : Opens (i + 1) next = leg_opens n (i + 1) far next far_is there in
    let sent : SentCr i one next.by.event = sent_cr i one next one.first.that refl opens.asks follows in
    let waits = near_waits n i r one next sent opens link at begins in
    let asked : IsAskedBy i sent.section.head.mine next.first.this =
    asked_by (head_of (i + 1)).terms i sent.section.head.mine next.by.event next.first.this (reference_below one.first.that sent.section sent.is begins.references.0) sent.cr far_opens.asked in record {
      begun =
          begun_with n i r one next sent.section (own_point n i near near_is) (own_point n (i + 1) far far_is) begins sent.is waits.0 far_opens asked (now_first next none);
      near_quiet = quiet_on one opens.no_unit waits.1;
      far_quiet = λ x. ap (units_on x) (outs_first next none) ∙ far_opens.no_unit x;
      unanswered = near_unanswered i r one next link at begins;
    }
