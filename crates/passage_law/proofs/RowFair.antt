-- What other connections of two neighbours send to each other is strange to a connection that they have with each other.
use Rattle.std.proofs.Common.{◌≡◌, ◌⊎◌, inl, inr, ℕ, ◌≤◌, ◌+◌, ◌==◌, Bool, true, false, List, [], ◌∷◌, ◌++◌, length, map, if◌then◌else◌, Option, Some, None, IfSome, Result, Ok, Err, IfOk, IsTrue, refl, sym, subst, ap, ◌∙◌, arith, eqb-true, lt-ltb, length-append}
use Rattle.std.specs.Prelude.{count_by}
use Rattle.std.specs.List.{AllByRecursion}
use Rattle.std.proofs.lemmas.List.{map-append, append_cancel_left}
use Rattle.relay_base.specs.declared.words.Event.{Event}
use Rattle.relay_base.specs.declared.words.Output.{Output}
use Rattle.relay_base.specs.declared.words.Output.TheVariants.{Sent, Told, Lost}
use Rattle.relay_base.specs.declared.words.ReadFault.{ReadFault}
use Rattle.plant_core.specs.declared.entry.Entry.{Entry}
use Rattle.plant_core.specs.declared.terms.LaneHead.{LaneHead}
use Rattle.plant_core.specs.declared.terms.Ticks.{Ticks}
use Rattle.q713_codec.specs.Names.{Message}
use Rattle.q713_codec.specs.Reading.{reading_of}
use Rattle.section_model.specs.Ends.{End, wire, owner, Connection}
use Rattle.section_model.specs.Parameters.{Arrival, arrival_of, arrival_by, arrival_in}
use Rattle.section_model.specs.Journals.{IsConnJournal}
use Rattle.section_model.specs.Lane.{Opening, heard, connection_of, part_of, reference_of}
use Rattle.connection_law.proofs.Reference.Following.{following_stays}
use Rattle.hop_law.specs.Waiting.{Waiting, message_to, messages_to}
use Rattle.hop_law.specs.Hop.{IsStrange}
use Rattle.chain_step.specs.declared.step.Step.{Step}
use Rattle.chain_step.specs.Run.{NodeState, RunState, node_at, openings_of, entry_of, start, run_of, after_step}
use Rattle.chain_step.specs.Steps.{is_step, has_neighbour}
use Rattle.chain_step.specs.Fresh.{all_fresh}
use Rattle.chain_step.proofs.Running.{after_more}
use Rattle.passage_law.specs.Nodes.{AreSteps}
use Rattle.passage_law.specs.Naming.{Allowed, NamesArrival, NamesMessage, Names, AllName, StandsOn}
use Rattle.passage_law.specs.References.{firsts_of, Firsts, firsts_in, OfOne, IsTo, IsAskedBy, IsSection, IsCrFrom}
use Rattle.passage_law.specs.Once.{is_cr_from}
use Rattle.passage_law.specs.Fair.{Has, AreJoined, AreStrange, HasStrange, IsNewEntry, OthersAreStrange}
use Rattle.passage_law.proofs.Changing.{Change, stays, meets, gives, changed, change_by, node_changed}
use Rattle.hop_law.proofs.Lists.{all_joined}
use Rattle.passage_law.proofs.LaneNames.{AllStand}
use Rattle.passage_law.proofs.Growing.{Grows, one_more, asks_more, firsts_met, step_grows}
use Rattle.passage_law.proofs.Referring.{Makes, MeetsSo, IsReferred, names_more, step_so, is_referred}
use Rattle.passage_law.proofs.Freshness.{AreFresh, AtSide, to_has, asked_has, run_fresh}
use Rattle.passage_law.proofs.Once.{one_if, count_joined, cr_comes_once}
use Rattle.passage_law.proofs.AskedOnce.{was_asked, is_that_cr, asked_within, counted, asked_one}
use Rattle.passage_law.proofs.Others.{HasPart}
use Rattle.passage_law.proofs.Strange.{others, ArePartners, strange_forward, strange_back}
use Rattle.passage_law.proofs.Parting.{event_parts, stand_back}

-- Outputs that name so are strange.

out_strange : (A : Allowed) (c : Connection) (point : ℕ) → ((a : Arrival) → NamesArrival A point a → IsStrange c (Some a)) → (out : Output) → Names A out
    → AllByRecursion (λ (m : Waiting). IsStrange c (arrival_in m.bytes)) (message_to point out)
unfolding arrival_in
out_strange A c point strange (Sent to sls bytes) names = by_test (to == point) refl
  where
    by_found : (found : Option Arrival) → IfSome found (NamesArrival A point) → IsStrange c found
    by_found None is = tt
    by_found (Some a) is = strange a is

    by_reading : (read : Result Message ReadFault) → IfOk read (NamesMessage A point) → IsStrange c (arrival_by read)
    by_reading (Ok m) is = by_found (arrival_of m) is.0
    by_reading (Err fault) is = tt

    by_test : (b : Bool) → (to == point) ≡ b → AllByRecursion (λ (m : Waiting). IsStrange c (arrival_by (reading_of m.bytes))) (if b then record { sls = sls; bytes = bytes } ∷ [] else [])
    by_test true e = (by_reading (reading_of bytes) (subst (λ p. IfOk (reading_of bytes) (NamesMessage A p)) (eqb-true to point e) names), tt)
    by_test false e = tt
out_strange A c point strange (Told ssn tell) names = tt
out_strange A c point strange (Lost lost) names = tt

pub outs_strange : (A : Allowed) (c : Connection) (point : ℕ) → ((a : Arrival) → NamesArrival A point a → IsStrange c (Some a)) → (outs : List Output) → AllName A outs → AreStrange c (messages_to point outs)
unfolding messages_to
outs_strange A c point strange [] names = tt
outs_strange A c point strange (out ∷ outs) names =
    all_joined (λ (m : Waiting). IsStrange c (arrival_in m.bytes)) (message_to point out) (messages_to point outs) (out_strange A c point strange out names.0)
    (outs_strange A c point strange outs names.1)

part_strange : (A : Allowed) (c : Connection) (point : ℕ) (ticks : Ticks) (e : Event) (o : Opening) (outs : List Output) → ((a : Arrival) → NamesArrival A point a → IsStrange c (Some a))
    → HasPart A ticks e o outs → HasStrange c point (part_of ticks e o) outs
part_strange A c point ticks e o outs strange part = record {
  one = part.one;
  other = part.other;
  are = part.are;
  before = outs_strange A c point strange part.one part.before;
  after = outs_strange A c point strange part.other part.after;
}

-- The entry of a step.

longer : (journal : List Entry) (entry : Entry) → journal ≡ journal ++ entry ∷ [] → ⊥
longer journal entry same = omega (arith, ap length same, length-append journal (entry ∷ []))

last_one : (journal : List Entry) (one other : Entry) → journal ++ one ∷ [] ≡ journal ++ other ∷ [] → one ≡ other
last_one journal one other same = head (append_cancel_left journal (one ∷ []) (other ∷ []) same)
  where
    head : one ∷ [] ≡ other ∷ [] → one ≡ other
    head e = cc

record IsMet (node : NodeState) (change : Change) (entry : Entry) : Type 0 where
  number : ℕ
  event : Event
  meets : change ≡ meets number event
  is : entry ≡ entry_of number event node

entry_met : (node : NodeState) (change : Change) (entry : Entry) → (changed change node).journal ≡ node.journal ++ entry ∷ [] → IsMet node change entry
entry_met node stays entry same = absurd (longer node.journal entry same)
entry_met node (meets number e) entry same = record { number = number; event = e; meets = refl; is = sym (last_one node.journal (entry_of number e node) entry same) }
entry_met node (gives true) entry same = absurd (longer node.journal entry same)
entry_met node (gives false) entry same = absurd (longer node.journal entry same)

-- Where an opening is among those of a node.

of_middle : {A : Type 0} (P : A → Type 0) (xs ys : List A) (x : A) → P x → OfOne P (xs ++ x ∷ ys)
of_middle P [] ys x p = inl p
of_middle P (y ∷ xs) ys x p = inr (of_middle P xs ys x p)

pub has_first : (P : Connection → Type 0) (node : NodeState) (o : Opening) → Has node o → P o.first → OfOne P (firsts_of node)
has_first P node o has p =
    subst (OfOne P) (sym (ap (map (λ (x : Opening). x.first)) has.are ∙ map-append (λ (x : Opening). x.first) has.before (o ∷ has.after)))
    (of_middle P (map (λ (x : Opening). x.first) has.before) (map (λ (x : Opening). x.first) has.after) o.first p)

pub to_point : (e : End) (mine : ℕ) → reference_of e ≡ Some mine → (q : ℕ) × IsTo q mine e
to_point (wire x) mine is = (x.head.point, (refl, (let same : x.head.mine ≡ mine = cc in same)))
to_point (owner u) mine is = absurd (cc)

end_least : (f : Firsts) (i mine : ℕ) (e : End) → StandsOn (IsSection f i) e → reference_of e ≡ Some mine → 1 ≤ mine
end_least f i mine (wire x) stands is = subst (λ k. 1 ≤ k) (let same : x.head.mine ≡ mine = cc in same) stands.2
end_least f i mine (owner u) stands is = absurd (cc)

-- One step.

pub record IsStepped (n : ℕ) (r later : RunState) : Type 0 where
  pub referred : IsReferred n r
  pub grows : Grows (firsts_in r) (firsts_in later)
  pub fresh : (i : ℕ) → 1 ≤ i → i ≤ n → AreFresh (firsts_in later i)
  pub parts :
      (i : ℕ) → 1 ≤ i → i ≤ n → (o : Opening) → Has (node_at i r.nodes) o → (entry : Entry) → IsNewEntry (node_at i r.nodes) (node_at i later.nodes) entry
      → HasPart (others (firsts_in later) i entry.event o.first) (node_at i r.nodes).head.terms.ticks entry.event o entry.outs
  pub stands :
      (i : ℕ) → 1 ≤ i → i ≤ n → (o : Opening) → Has (node_at i r.nodes) o → (mine : ℕ) → (reference_of o.first.this ≡ Some mine) ⊎ (reference_of o.first.that ≡ Some mine) → 1 ≤ mine

pub opening_least : (f : Firsts) (i : ℕ) (node : NodeState) (o : Opening) → AllStand (IsSection f i) node.head.terms.ticks (openings_of node) → Has node o → (mine : ℕ)
    → (reference_of o.first.this ≡ Some mine) ⊎ (reference_of o.first.that ≡ Some mine) → 1 ≤ mine
opening_least f i node o all has mine named =
    by_end named (stand_back (IsSection f i) node.head.terms.ticks has.before (o ∷ has.after) (subst (AllStand (IsSection f i) node.head.terms.ticks) has.are all)).0
  where
    ticks : Ticks
    ticks = node.head.terms.ticks

    by_end : (reference_of o.first.this ≡ Some mine) ⊎ (reference_of o.first.that ≡ Some mine)
        → StandsOn (IsSection f i) (connection_of node.head.terms.ticks o).this × StandsOn (IsSection f i) (connection_of node.head.terms.ticks o).that → 1 ≤ mine
    by_end (inl this) both = end_least f i mine (connection_of ticks o).this both.0 ((following_stays ticks o.first (heard ticks o.first o.since)).this.reference ∙ this)
    by_end (inr that) both = end_least f i mine (connection_of ticks o).that both.1 ((following_stays ticks o.first (heard ticks o.first o.since)).that.reference ∙ that)

pub stepped : (n : ℕ) (r later : RunState) (step : Step) → 2 ≤ n → IsTrue (is_step n step) → IsReferred n r → later ≡ after_step r step → length later.nodes ≡ n → all_fresh later ≡ true → IsStepped n r later
stepped n r later step two is referred same long fresh =
    subst (λ (s : RunState). length s.nodes ≡ n → all_fresh s ≡ true → IsStepped n r s) (sym same) at_step long fresh
  where
    at_step : length (after_step r step).nodes ≡ n → all_fresh (after_step r step) ≡ true → IsStepped n r (after_step r step)
    at_step long fresh = record {
      referred = referred;
      grows = step_grows r step;
      fresh = λ i least most. run_fresh (after_step r step) i least (subst (λ k. i ≤ k) (sym long) most) fresh;
      parts = λ i least most o has entry new.
          let node = node_at i r.nodes in
          let after = node_changed n i r step two is least (subst (λ k. i ≤ k) (sym referred.row.nodes.long) most) in
          let met = entry_met node (change_by r step i) entry (ap (λ (x : NodeState). x.journal) (sym after) ∙ new) in
          let g = firsts_in (after_step r step) in
          let makes : Makes g i node met.event = subst (MeetsSo g i node) met.meets (step_so n i r step two is referred) in
          let last = ap firsts_of (after ∙ ap (λ c. changed c node) met.meets) ∙ firsts_met met.number met.event node in
          let is_node = referred.row.nodes.each i least most in
          subst (λ (x : Entry). HasPart (others g i x.event o.first) node.head.terms.ticks x.event o x.outs) (sym met.is)
          (event_parts g i met.event node has.before has.after o (run_fresh (after_step r step) i least (subst (λ k. i ≤ k) (sym long) most) fresh) last makes
          (names_more (firsts_in r) g i (step_grows r step) node (referred.names i least most)).0
          (subst (λ (h : LaneHead). IsConnJournal h 0 node.journal) (sym is_node.head) is_node.legal) has.are);
      stands = λ i least most o has. opening_least (firsts_in r) i (node_at i r.nodes) o (referred.names i least most).0 has;
    }

-- The two sections.

partners : (n i : ℕ) (r later : RunState) (o p : Opening) → IsStepped n r later → 1 ≤ i → i + 1 ≤ n → Has (node_at i r.nodes) o → Has (node_at (i + 1) r.nodes) p
    → (joined : AreJoined i (i + 1) o.first p.first) → ArePartners (firsts_in later) i (i + 1) joined.near_reference joined.far_reference o.first p.first
partners n i r later o p s least most near far joined =
    let m = joined.near_reference in
    let k = joined.far_reference in
    let j = i + 1 in
    let f = firsts_in r in
    let g = firsts_in later in
    let here : i ≤ n = omega (arith, most) in
    let next : 1 ≤ j = omega (arith, least) in
    let of_asking = to_has j m o.first.that joined.asks in
    let of_asked = asked_has i m k p.first.this joined.asked in record {
      here = s.fresh i least here;
      there = s.fresh j next most;
      least = (s.stands i least here o near m (inr of_asking), s.stands j next most p far k (inl of_asked));
      asks = asks_more f g s.grows i j m (has_first (λ c. IsTo j m c.that) (node_at i r.nodes) o near joined.asks);
      asked = one_more (λ c. IsAskedBy i m k c.this) (f j) (g j) (s.grows j) (has_first (λ c. IsAskedBy i m k c.this) (node_at j r.nodes) p far joined.asked);
      of_asking = of_asking;
      of_asked = of_asked;
      before = λ mine is.
          let to = to_point o.first.this mine is in (
            s.stands i least here o near mine (inl is),
            (
              to.0,
              one_more (λ c. IsTo to.0 mine c.this ⊎ IsTo to.0 mine c.that) (f i) (g i) (s.grows i) (has_first (λ c. IsTo to.0 mine c.this ⊎ IsTo to.0 mine c.that) (node_at i r.nodes) o near (inl to.1)),
              λ same. joined.near_apart mine (subst (λ q. IsTo q mine o.first.this) same to.1),
            ),
          );
      after = λ mine is.
          let to = to_point p.first.that mine is in (
            s.stands j next most p far mine (inr is),
            (
              to.0,
              one_more (λ c. IsTo to.0 mine c.this ⊎ IsTo to.0 mine c.that) (f j) (g j) (s.grows j) (has_first (λ c. IsTo to.0 mine c.this ⊎ IsTo to.0 mine c.that) (node_at j r.nodes) p far (inr to.1)),
              λ same. joined.far_apart mine (subst (λ q. IsTo q mine p.first.that) same to.1),
            ),
          );
    }

-- CR of the asking section doesn't come again.
comes_not_again : (i m k : ℕ) (journal later : List Entry) (entry : Entry) (cs : List Connection) → later ≡ journal ++ entry ∷ []
    → count_by (is_cr_from i m) (map (λ (e : Entry). e.event) later) ≤ 1 → count_by (was_asked i m) cs ≤ count_by (is_cr_from i m) (map (λ (e : Entry). e.event) journal)
    → AtSide true (IsAskedBy i m k) cs → IsCrFrom i m entry.event → ⊥
comes_not_again i m k journal later entry cs new once within asked is =
    let all : count_by (is_cr_from i m) (map (λ (e : Entry). e.event) later) ≡ count_by (is_cr_from i m) (map (λ (e : Entry). e.event) journal) + (0 + one_if (is_cr_from i m entry.event)) =
    ap (λ (es : List Entry). count_by (is_cr_from i m) (map (λ (e : Entry). e.event) es)) new
    ∙ (ap (count_by (is_cr_from i m)) (map-append (λ (e : Entry). e.event) journal (entry ∷ []))
    ∙ count_joined (is_cr_from i m) (map (λ (e : Entry). e.event) journal) (entry.event ∷ [])) in
    let one : one_if (is_cr_from i m entry.event) ≡ 1 = ap one_if (is_that_cr i m entry.event is) in
    omega (arith, all, one, once, within, counted i m k cs asked)

pub all_but_last : (n : ℕ) (steps : List Step) (step : Step) → AreSteps n (steps ++ step ∷ []) → AreSteps n steps × IsTrue (is_step n step)
all_but_last n [] step are = (tt, are.0)
all_but_last n (s ∷ steps) step are = let rest = all_but_last n steps step are.1 in ((are.0, rest.0), rest.1)

pub others_are_strange : OthersAreStrange
others_are_strange n i steps step are two least most fresh o p near far joined =
    let parts = all_but_last n steps step are in
    let r = run_of n steps in
    let later = run_of n (steps ++ step ∷ []) in
    let j = i + 1 in
    let m = joined.near_reference in
    let k = joined.far_reference in
    let here : i ≤ n = omega (arith, most) in
    let next : 1 ≤ j = omega (arith, least) in
    let s = stepped n r later step two parts.1 (is_referred n steps two parts.0) (after_more (start n) steps step) (is_referred n (steps ++ step ∷ []) two are).row.nodes.long fresh in
    let g = firsts_in later in
    let pair = partners n i r later o p s least most near far joined in
    let neighbour : IsTrue (has_neighbour n true i) = lt-ltb i n (omega (arith, most)) in
    let once : count_by (is_cr_from i m) (map (λ (e : Entry). e.event) (node_at j later.nodes).journal) ≤ 1 = cr_comes_once n i m true (steps ++ step ∷ []) are two least here neighbour fresh in
    let one : count_by (was_asked i m) (g j) ≤ 1 = omega (arith, once, asked_within n j i m (steps ++ step ∷ []) two are next most) in (
      λ entry new.
          part_strange (others g i entry.event o.first) p.first j (node_at i r.nodes).head.terms.ticks entry.event o entry.outs
          (λ a names. strange_forward g i j m k o.first p.first entry.event a pair names) (s.parts i least here o near entry new),
      λ entry new.
          part_strange (others g j entry.event p.first) o.first i (node_at j r.nodes).head.terms.ticks entry.event p entry.outs
          (λ a names.
          strange_back g i j m k o.first p.first entry.event a pair (λ other asked. asked_one i m k other (g j) one pair.asked asked)
          (comes_not_again i m k (node_at j r.nodes).journal (node_at j later.nodes).journal entry (firsts_in r j) new once
          (asked_within n j i m steps two parts.0 next most) (has_first (λ c. IsAskedBy i m k c.this) (node_at j r.nodes) p far joined.asked)) names)
          (s.parts j next most p far entry new),
    )
