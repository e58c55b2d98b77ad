-- Nothing that two nodes sent to each other before names the sections of a connection that is being opened between them.
use Rattle.std.proofs.Common.{◌≡◌, ◌⊎◌, inl, inr, ℕ, ◌≤◌, ◌+◌, Bool, true, false, List, [], ◌∷◌, ◌++◌, length, map, Some, IsTrue, refl, sym, subst, ap, ◌∙◌, arith, lt-ltb, length-append}
use Rattle.std.specs.Prelude.{count_by}
use Rattle.std.specs.List.{AllByRecursion}
use Rattle.std.proofs.lemmas.List.{map-append, append_cancel_left}
use Rattle.std.proofs.lemmas.List.Concat.{flat_map-append}
use Rattle.relay_base.specs.declared.words.Event.{Event}
use Rattle.plant_core.specs.declared.entry.Entry.{Entry}
use Rattle.section_model.specs.Ends.{Connection}
use Rattle.section_model.specs.Parameters.{Arrival}
use Rattle.section_model.specs.Lane.{reference_of}
use Rattle.hop_law.specs.Waiting.{messages_to}
use Rattle.hop_law.specs.Hop.{is_stray_answer, IsStrange}
use Rattle.chain_step.specs.Run.{NodeState, RunState, node_at, entry_of, start, run_of, after_event}
use Rattle.chain_step.specs.Steps.{has_neighbour}
use Rattle.chain_step.specs.Fresh.{is_among, has_twice}
use Rattle.chain_step.proofs.Running.{after_more}
use Rattle.passage_law.specs.Naming.{NamesArrival}
use Rattle.passage_law.specs.References.{firsts_of, Firsts, firsts_in, OfOne, IsTo, Gave, Asks, IsAskedBy, ArePaired, IsCrFrom, allowed}
use Rattle.passage_law.specs.Once.{is_cr_from}
use Rattle.passage_law.specs.Fair.{AreStrange}
use Rattle.passage_law.specs.Beginning.{NothingBefore}
use Rattle.passage_law.proofs.Changing.{Change, stays, meets, gives, changed, change_by, node_changed}
use Rattle.passage_law.proofs.Growing.{opened_by, new_firsts, firsts_met}
use Rattle.passage_law.proofs.Referring.{MeetsSo, AllNamed, turned_pair, pair_gave, step_so, is_referred}
use Rattle.passage_law.proofs.Freshness.{ends_of, given_by, AreFresh, AtSide, fresh_before, among_left, among_right, among_ends, in_one_part, to_has, asked_asks_not}
use Rattle.passage_law.proofs.Once.{one_if, count_cons, count_joined, cr_comes_once}
use Rattle.passage_law.proofs.AskedOnce.{was_asked, is_counted, is_that_cr, new_asked, asked_within, counted}
use Rattle.passage_law.proofs.Own.{none_named, arrival_own}
use Rattle.passage_law.proofs.Strange.{answers_so, some_is}
use Rattle.passage_law.proofs.RowFair.{outs_strange, stepped, has_first, opening_least, to_point, all_but_last}

-- Forward: the references of the new connection are new.

gave_among : (f : Firsts) (j p mine : ℕ) → Gave f j p mine → is_among mine (given_by (f j)) ≡ true
gave_among f j p mine gave = by_list (f j) gave
  where
    by_list : (cs : List Connection) → OfOne (λ (c : Connection). IsTo p mine c.this ⊎ IsTo p mine c.that) cs → is_among mine (given_by cs) ≡ true
    by_list [] one = absurd one
    by_list (c ∷ cs) (inl (inl this)) = among_left mine (ends_of c) (given_by cs) (among_ends mine (IsTo p mine) true c (to_has p mine) this)
    by_list (c ∷ cs) (inl (inr that)) = among_left mine (ends_of c) (given_by cs) (among_ends mine (IsTo p mine) false c (to_has p mine) that)
    by_list (c ∷ cs) (inr one) = among_right mine (ends_of c) (given_by cs) (by_list cs one)

is_new : (before : List Connection) (d : Connection) (mine : ℕ) → AreFresh (before ++ d ∷ []) → is_among mine (given_by before) ≡ true → is_among mine (ends_of d) ≡ true → ⊥
is_new before d mine fresh old new =
    in_one_part mine (given_by before) (given_by (d ∷ [])) (ap has_twice (sym (flat_map-append ends_of before (d ∷ []))) ∙ fresh) old (among_left mine (ends_of d) [] new)

named_gave : (f : Firsts) (i j : ℕ) (e : Event) (a : Arrival) → NamesArrival (allowed f i e) j a → 1 ≤ a.parameters.dlr → Gave f j i a.parameters.dlr
named_gave f i j e a (inl on_one) least = by_known on_one.1.4
  where
    by_known : (a.parameters.dlr ≡ 0) ⊎ ArePaired f i on_one.0 j a.parameters.dlr → Gave f j i a.parameters.dlr
    by_known (inl none) = absurd (none_named a.parameters.dlr a.parameters.dlr refl none least)
    by_known (inr paired) = pair_gave f j a.parameters.dlr i on_one.0 (turned_pair f i on_one.0 j a.parameters.dlr paired)
named_gave f i j e a (inr answer) least = answer.2

new_is_unnamed : (f : Firsts) (i j : ℕ) (e : Event) (d : Connection) (a : Arrival) → AreFresh (f j ++ d ∷ [])
    → ((mine : ℕ) → (reference_of d.this ≡ Some mine) ⊎ (reference_of d.that ≡ Some mine) → 1 ≤ mine) → NamesArrival (allowed f i e) j a → IsStrange d (Some a)
new_is_unnamed f i j e d a fresh least names named =
    absurd (is_new (f j) d a.parameters.dlr fresh (gave_among f j i a.parameters.dlr (named_gave f i j e a names (least a.parameters.dlr named))) (by_end named))
  where
    by_end : (reference_of d.this ≡ Some a.parameters.dlr) ⊎ (reference_of d.that ≡ Some a.parameters.dlr) → is_among a.parameters.dlr (ends_of d) ≡ true
    by_end (inl this) = among_ends a.parameters.dlr (λ x. reference_of x ≡ Some a.parameters.dlr) true d (λ x has. has) this
    by_end (inr that) = among_ends a.parameters.dlr (λ x. reference_of x ≡ Some a.parameters.dlr) false d (λ x has. has) that

each_strange : (f : Firsts) (i point : ℕ) (c : Connection) → ((e : Event) (a : Arrival) → NamesArrival (allowed f i e) point a → IsStrange c (Some a)) → (journal : List Entry) → AllNamed f i journal
    → AllByRecursion (λ (entry : Entry). AreStrange c (messages_to point entry.outs)) journal
each_strange f i point c strange [] all = tt
each_strange f i point c strange (e ∷ journal) all =
    (outs_strange (allowed f i e.event) c point (strange e.event) e.outs all.0, each_strange f i point c strange journal all.1)

-- Back: CR of the asking section didn't come before.

each_back : (f : Firsts) (j i : ℕ) (c : Connection) (m : ℕ) → ((e : Event) (a : Arrival) → (IsCrFrom i m e → ⊥) → NamesArrival (allowed f j e) i a → IsStrange c (Some a)) → (journal : List Entry)
    → count_by (is_cr_from i m) (map (λ (e : Entry). e.event) journal) ≡ 0 → AllNamed f j journal → AllByRecursion (λ (entry : Entry). AreStrange c (messages_to i entry.outs)) journal
each_back f j i c m strange [] none all = tt
each_back f j i c m strange (e ∷ journal) none all =
    let parts = count_cons (is_cr_from i m) e.event (map (λ (x : Entry). x.event) journal) in (
      outs_strange (allowed f j e.event) c i (λ a names. strange e.event a (λ is. one_is_some (is_cr_from i m e.event) (is_that_cr i m e.event is) (omega (arith, none, parts))) names) e.outs all.0,
      each_back f j i c m strange journal (omega (arith, none, parts)) all.1,
    )
  where
    one_is_some : (b : Bool) → b ≡ true → one_if b ≡ 0 → ⊥
    one_is_some b is zero = omega (arith, ap one_if is, zero)

back_unnamed : (f : Firsts) (i j m : ℕ) (e : Event) (c : Connection) (a : Arrival) → AreFresh (f i) → Asks f i j m → reference_of c.that ≡ Some m → 1 ≤ m → ((o : ℕ) → AtSide true (IsAskedBy i m o) (f j) → ⊥)
    → ((mine : ℕ) → reference_of c.this ≡ Some mine → (1 ≤ mine) × ((q : ℕ) × Gave f i q mine × (q ≡ j → ⊥))) → (IsCrFrom i m e → ⊥) → NamesArrival (allowed f j e) i a → IsStrange c (Some a)
back_unnamed f i j m e c a fresh asks of_asking least never before no_cr names (inl this) =
    let other = before a.parameters.dlr this in absurd (other.1.2 (arrival_own f j i e a fresh names other.1.0 a.parameters.dlr other.0 other.1.1 refl))
back_unnamed f i j m e c a fresh asks of_asking least never before no_cr (inl on_one) (inr that) = by_known on_one.1.4
  where
    same : m ≡ a.parameters.dlr
    same = some_is m a.parameters.dlr (reference_of c.that) of_asking that

    by_pair : ArePaired f j on_one.0 i m → is_stray_answer a.occasion ≡ true
    by_pair (inl asked) = absurd (never on_one.0 asked.0)
    by_pair (inr asked) = absurd (asked_asks_not f i j j on_one.0 m fresh asked.0 asks)

    by_known : (a.parameters.dlr ≡ 0) ⊎ ArePaired f j on_one.0 i a.parameters.dlr → is_stray_answer a.occasion ≡ true
    by_known (inl none) = absurd (none_named a.parameters.dlr m (sym same) none least)
    by_known (inr paired) = by_pair (subst (ArePaired f j on_one.0 i) (sym same) paired)
back_unnamed f i j m e c a fresh asks of_asking least never before no_cr (inr answer) (inr that) = by_answer (answers_so f j e a.occasion i a.parameters.dlr answer.1)
  where
    same : m ≡ a.parameters.dlr
    same = some_is m a.parameters.dlr (reference_of c.that) of_asking that

    by_answer : (is_stray_answer a.occasion ≡ true) ⊎ (IsCrFrom i a.parameters.dlr e × Asks f i j a.parameters.dlr) → is_stray_answer a.occasion ≡ true
    by_answer (inl stray) = stray
    by_answer (inr cref) = absurd (no_cr (subst (λ k. IsCrFrom i k e) (sym same) cref.0))

-- The event of the step is that CR.

record IsCrStep (i m : ℕ) (node later : NodeState) : Type 0 where
  none : count_by (is_cr_from i m) (map (λ (e : Entry). e.event) node.journal) ≡ 0

same_new : (node : NodeState) (one other : List Connection) → firsts_of node ++ one ≡ firsts_of node ++ other → one ≡ other
same_new node one other same = append_cancel_left (firsts_of node) one other same

no_new : (node : NodeState) (d : Connection) → firsts_of node ≡ firsts_of node ++ d ∷ [] → ⊥
no_new node d same = omega (arith, ap length same, length-append (firsts_of node) (d ∷ []))

cr_step : (g : Firsts) (i j m o : ℕ) (node : NodeState) (change : Change) (d : Connection) → MeetsSo g j node change → firsts_of (changed change node) ≡ firsts_of node ++ d ∷ [] → IsAskedBy i m o d.this
    → count_by (is_cr_from i m) (map (λ (e : Entry). e.event) (changed change node).journal) ≤ 1 → IsCrStep i m node (changed change node)
cr_step g i j m o node stays d so new asked once = absurd (no_new node d new)
cr_step g i j m o node (gives true) d so new asked once = absurd (no_new node d new)
cr_step g i j m o node (gives false) d so new asked once = absurd (no_new node d new)
cr_step g i j m o node (meets number e) d so new asked once =
    let opened : new_firsts (opened_by e node) ≡ d ∷ [] = same_new node (new_firsts (opened_by e node)) (d ∷ []) (sym (firsts_met number e node) ∙ new) in
    let one : 0 + one_if (was_asked i m d) ≤ one_if (is_cr_from i m e) = subst (λ cs. count_by (was_asked i m) cs ≤ one_if (is_cr_from i m e)) opened (new_asked g j i m e node so) in
    let is : one_if (was_asked i m d) ≡ 1 = ap one_if (is_counted i m o d.this asked) in
    let all : count_by (is_cr_from i m) (map (λ (x : Entry). x.event) (after_event number e node).journal) ≡ count_by (is_cr_from i m) (map (λ (x : Entry). x.event) node.journal) + (0 + one_if (is_cr_from i m e)) =
    ap (count_by (is_cr_from i m)) (map-append (λ (x : Entry). x.event) node.journal (entry_of number e node ∷ [])) ∙ count_joined (is_cr_from i m) (map (λ (x : Entry). x.event) node.journal) (e ∷ []) in
    record { none = omega (arith, one, is, all, once) }

-- The law.

pub nothing_before : NothingBefore
nothing_before n i steps step are two least most fresh o p near here new joined =
    let parts = all_but_last n steps step are in
    let r = run_of n steps in
    let later = run_of n (steps ++ step ∷ []) in
    let j = i + 1 in
    let m = joined.near_reference in
    let k = joined.far_reference in
    let f = firsts_in r in
    let g = firsts_in later in
    let within : i ≤ n = omega (arith, most) in
    let next : 1 ≤ j = omega (arith, least) in
    let referred = is_referred n steps two parts.0 in
    let after = is_referred n (steps ++ step ∷ []) two are in
    let s = stepped n r later step two parts.1 referred (after_more (start n) steps step) after.row.nodes.long fresh in
    let change = change_by r step j in
    let far = node_at j r.nodes in
    let far_later : node_at j later.nodes ≡ changed change far =
    ap (λ (x : RunState). node_at j x.nodes) (after_more (start n) steps step) ∙ node_changed n j r step two parts.1 next (subst (λ k. j ≤ k) (sym referred.row.nodes.long) most) in
    let so : MeetsSo g j far change = subst (λ (x : RunState). MeetsSo (firsts_in x) j far change) (sym (after_more (start n) steps step)) (step_so n j r step two parts.1 referred) in
    let neighbour : IsTrue (has_neighbour n true i) = lt-ltb i n (omega (arith, most)) in
    let once : count_by (is_cr_from i m) (map (λ (e : Entry). e.event) (node_at j later.nodes).journal) ≤ 1 = cr_comes_once n i m true (steps ++ step ∷ []) are two least within neighbour fresh in
    let cr = cr_step g i j m k far change p.first so (ap firsts_of (sym far_later) ∙ new) joined.asked (subst (λ (x : NodeState). count_by (is_cr_from i m) (map (λ (e : Entry). e.event) x.journal) ≤ 1) far_later once) in
    let of_asking = to_has j m o.first.that joined.asks in (
      each_strange f i j p.first
          (λ e a names. new_is_unnamed f i j e p.first a (subst AreFresh new (s.fresh j next most)) (λ mine named. opening_least g j (node_at j later.nodes) p (after.names j next most).0 here mine named) names)
          (node_at i r.nodes).journal (referred.names i least within).1,
      each_back f j i o.first m
          (λ e a no_cr names.
          back_unnamed f i j m e o.first a (fresh_before f g i (s.grows i) (s.fresh i least within)) (has_first (λ c. IsTo j m c.that) (node_at i r.nodes) o near joined.asks) of_asking (s.stands i least within o near m (inr of_asking))
          (λ q asked. omega (arith, counted i m q (f j) asked, asked_within n j i m steps two parts.0 next most, cr.none))
          (λ mine is.
          let to = to_point o.first.this mine is in (
            s.stands i least within o near mine (inl is),
            (
              to.0,
              has_first (λ c. IsTo to.0 mine c.this ⊎ IsTo to.0 mine c.that) (node_at i r.nodes) o near (inl to.1),
              λ same. joined.near_apart mine (subst (λ q. IsTo q mine o.first.this) same to.1),
            ),
          ))
          no_cr names)
          far.journal cr.none (referred.names j next most).1,
    )
