-- What arrived at a node from a neighbour is the first of what that neighbour sent there.
use Rattle.std.proofs.Common.{◌≡◌, ℕ, zero, suc, ◌≤◌, ◌+◌, ◌-◌, ◌==◌, Bool, true, false, List, [], ◌∷◌, ◌++◌, length, map, filter, take, drop, if◌then◌else◌, refl, sym, subst, ap, ◌∙◌, arith, IsTrue, append-nil, length-append, take-append-drop}
use Rattle.std.specs.Prelude.{Option, Some, None, flat_map, slice_get}
use Rattle.std.specs.List.{AllByRecursion}
use Rattle.std.proofs.lemmas.Bool.{eqb-true, eqb-false, eq-eqb, ne_eqb}
use Rattle.std.proofs.lemmas.List.{take-append-le, map-append}
use Rattle.std.proofs.lemmas.List.Elements.{filter-append}
use Rattle.relay_base.specs.declared.words.Event.{Event}
use Rattle.relay_base.specs.declared.words.Event.TheVariants.{Message as Arrived, Asked as Requested, Tick as Ticked}
use Rattle.relay_base.specs.declared.words.Output.{Output}
use Rattle.relay_base.specs.declared.words.Output.TheVariants.{Sent, Told, Lost}
use Rattle.plant_core.specs.declared.entry.Entry.{Entry}
use Rattle.plant_core.specs.declared.terms.LaneHead.{LaneHead}
use Rattle.chain_step.specs.declared.step.Step.{Step}
use Rattle.chain_step.specs.declared.step.Step.TheVariants.{Ask, Pass, Tick}
use Rattle.chain_step.specs.declared.terms.TheConstants.{USER}
use Rattle.chain_step.specs.Run.{NodeState, RunState, first_node, arrives, messages_in, neighbour, given_of, waiting, node_at, entry_of, start, run_of, after_step}
use Rattle.chain_step.specs.Steps.{is_step, has_neighbour}
use Rattle.chain_step.proofs.Journals.{sent_more}
use Rattle.chain_step.proofs.Running.{apart, passer_exists, neighbour_exists}
use Rattle.passage_law.specs.Nodes.{AreSteps}
use Rattle.passage_law.specs.Links.{is_from, arrived_from, LinksKeepOrder}
use Rattle.passage_law.proofs.Changing.{Change, stays, meets, gives, changed, at_node, passes, change_by, node_changed, kept_along}
use Rattle.hop_law.proofs.Lists.{all_joined}
use Rattle.passage_law.proofs.RowStanding.{AreNodes, first_is, nodes_begin, nodes_kept}

-- Of what was sent so many were given, and these arrived, in order.
pub record IsLink (given : ℕ) (sent came : List Event) : Type 0 where
  pub first : came ≡ take given sent
  pub within : given ≤ length sent

link_sends : (given : ℕ) (sent came more : List Event) → IsLink given sent came → IsLink given (sent ++ more) came
link_sends given sent came more is = record {
  first = is.first ∙ sym (take-append-le given sent more is.within);
  within = omega (arith, is.within, length-append sent more);
}

next_of : {A : Type 0} (given : ℕ) (xs : List A) (x : A) → slice_get xs given ≡ Some x → (take (suc given) xs ≡ take given xs ++ x ∷ []) × (suc given ≤ length xs)
next_of zero [] x e = absurd (cc)
next_of (suc given) [] x e = absurd (cc)
next_of zero (y ∷ xs) x e = (let same : y ≡ x = cc in ap (λ z. z ∷ []) same, omega arith)
next_of (suc given) (y ∷ xs) x e = let more = next_of given xs x e in (ap (λ zs. y ∷ zs) more.0, omega (arith, more.1))

one_more : (given : ℕ) → suc given ≡ given + 1
one_more given = omega arith

link_gives : (given : ℕ) (sent came : List Event) (e : Event) → IsLink given sent came → slice_get sent given ≡ Some e → IsLink (given + 1) sent (came ++ e ∷ [])
link_gives given sent came e is first =
    let next = next_of given sent e first in
    subst (λ count. IsLink count sent (came ++ e ∷ [])) (one_more given) (record { first = ap (λ xs. xs ++ e ∷ []) is.first ∙ sym next.0; within = next.1 })

-- The link from a node to its neighbour.
abbrev pub sent_by : ℕ → ℕ → NodeState → List Event
sent_by own to node = flat_map (λ (e : Entry). messages_in own to e.outs) node.journal

abbrev pub Links : ℕ → Bool → NodeState → NodeState → Type 0
Links i forward one other = IsLink (given_of forward one) (sent_by i (neighbour forward i) one) (arrived_from i other)

-- One node changes, but gives nothing on the link.

abbrev gives_on : Bool → Change → Bool
gives_on forward stays = false
gives_on forward (meets number e) = false
gives_on true (gives g) = g
gives_on false (gives true) = false
gives_on false (gives false) = true

one_meets : (i number : ℕ) (forward : Bool) (e : Event) (one : NodeState) (came : List Event) (g : Bool)
    → IsLink (given_of g one) (sent_by i (neighbour forward i) one) came
    → IsLink (given_of g (changed (meets number e) one)) (sent_by i (neighbour forward i) (changed (meets number e) one)) came
one_meets i number forward e one came true is =
    subst (λ sent. IsLink one.ahead sent came) (sym (sent_more i (neighbour forward i) one.journal (entry_of number e one)))
    (link_sends one.ahead (sent_by i (neighbour forward i) one) came (messages_in i (neighbour forward i) (entry_of number e one).outs) is)
one_meets i number forward e one came false is =
    subst (λ sent. IsLink one.back sent came) (sym (sent_more i (neighbour forward i) one.journal (entry_of number e one)))
    (link_sends one.back (sent_by i (neighbour forward i) one) came (messages_in i (neighbour forward i) (entry_of number e one).outs) is)

one_changed : (i : ℕ) (forward : Bool) (change : Change) (one other : NodeState) → gives_on forward change ≡ false → Links i forward one other → Links i forward (changed change one) other
one_changed i forward stays one other quiet is = is
one_changed i forward (meets number e) one other quiet is = one_meets i number forward e one (arrived_from i other) forward is
one_changed i true (gives true) one other quiet is = absurd (cc)
one_changed i true (gives false) one other quiet is = is
one_changed i false (gives true) one other quiet is = is
one_changed i false (gives false) one other quiet is = absurd (cc)

-- The other node changes, but nothing arrives on the link.

abbrev brings : ℕ → Change → Bool
brings i stays = false
brings i (meets number e) = is_from i e
brings i (gives g) = false

arrived_more : (i number : ℕ) (e : Event) (other : NodeState) → arrived_from i (changed (meets number e) other) ≡ arrived_from i other ++ (if is_from i e then e ∷ [] else [])
arrived_more i number e other =
    ap (filter (is_from i)) (map-append (λ (x : Entry). x.event) other.journal (entry_of number e other ∷ [])) ∙ filter-append (is_from i) (map (λ (x : Entry). x.event) other.journal) (e ∷ [])

arrived_kept : (i number : ℕ) (e : Event) (other : NodeState) → is_from i e ≡ false → arrived_from i (changed (meets number e) other) ≡ arrived_from i other
arrived_kept i number e other none =
    arrived_more i number e other ∙ (ap (λ (b : Bool). arrived_from i other ++ (if b then e ∷ [] else [])) none ∙ append-nil (arrived_from i other))

arrived_next : (i number : ℕ) (e : Event) (other : NodeState) → is_from i e ≡ true → arrived_from i (changed (meets number e) other) ≡ arrived_from i other ++ e ∷ []
arrived_next i number e other one = arrived_more i number e other ∙ ap (λ (b : Bool). arrived_from i other ++ (if b then e ∷ [] else [])) one

other_changed : (i given : ℕ) (sent : List Event) (change : Change) (other : NodeState) → brings i change ≡ false → IsLink given sent (arrived_from i other) → IsLink given sent (arrived_from i (changed change other))
other_changed i given sent stays other quiet is = is
other_changed i given sent (meets number e) other quiet is = subst (IsLink given sent) (sym (arrived_kept i number e other quiet)) is
other_changed i given sent (gives true) other quiet is = is
other_changed i given sent (gives false) other quiet is = is

both_changed : (i : ℕ) (forward : Bool) (c d : Change) (one other : NodeState) → gives_on forward c ≡ false → brings i d ≡ false → Links i forward one other
    → Links i forward (changed c one) (changed d other)
both_changed i forward c d one other quiet silent is =
    one_changed i forward c one (changed d other) quiet (other_changed i (given_of forward one) (sent_by i (neighbour forward i) one) d other silent is)

-- The first message that waits arrives.
message_arrives : (i number : ℕ) (forward : Bool) (e : Event) (one other : NodeState) → Links i forward one other
    → slice_get (sent_by i (neighbour forward i) one) (given_of forward one) ≡ Some e → is_from i e ≡ true
    → Links i forward (changed (gives forward) one) (changed (meets number e) other)
message_arrives i number true e one other is first from =
    subst (IsLink (one.ahead + 1) (sent_by i (i + 1) one)) (sym (arrived_next i number e other from)) (link_gives one.ahead (sent_by i (i + 1) one) (arrived_from i other) e is first)
message_arrives i number false e one other is first from =
    subst (IsLink (one.back + 1) (sent_by i (i - 1) one)) (sym (arrived_next i number e other from)) (link_gives one.back (sent_by i (i - 1) one) (arrived_from i other) e is first)

-- What waits at a node comes from it.

abbrev pub ComesFrom : ℕ → Event → Type 0
ComesFrom own e = (x : ℕ) → is_from x e ≡ (own == x)

pub arrives_from : (own to : ℕ) (out : Output) → AllByRecursion (ComesFrom own) (arrives own to out)
arrives_from own to (Sent point sls bytes) = by_test (point == to)
  where
    by_test : (b : Bool) → AllByRecursion (ComesFrom own) (if b then Arrived own sls bytes ∷ [] else [])
    by_test true = (λ x. refl, tt)
    by_test false = tt
arrives_from own to (Told ssn tell) = tt
arrives_from own to (Lost lost) = tt

pub all_flat : {A B : Type 0} (P : B → Type 0) (f : A → List B) → ((x : A) → AllByRecursion P (f x)) → (xs : List A) → AllByRecursion P (flat_map f xs)
all_flat P f each [] = tt
all_flat P f each (x ∷ xs) = all_joined P (f x) (flat_map f xs) (each x) (all_flat P f each xs)

pub all_at : {A : Type 0} (P : A → Type 0) (xs : List A) (k : ℕ) (x : A) → AllByRecursion P xs → slice_get xs k ≡ Some x → P x
all_at P [] k x all e = absurd (cc)
all_at P (y ∷ xs) zero x all e = let same : y ≡ x = cc in subst P same all.0
all_at P (y ∷ xs) (suc k) x all e = all_at P xs k x all.1 e

pub waits_from : (own to k : ℕ) (e : Event) (one : NodeState) → slice_get (sent_by own to one) k ≡ Some e → ComesFrom own e
waits_from own to k e one first =
    all_at (ComesFrom own) (sent_by own to one) k e
    (all_flat (ComesFrom own) (λ (x : Entry). messages_in own to x.outs) (λ x. all_flat (ComesFrom own) (arrives own to) (arrives_from own to) x.outs) one.journal) first

-- Each kind of step.

quiet_at : (forward : Bool) (j i number : ℕ) (e : Event) → gives_on forward (at_node j (meets number e) i) ≡ false
quiet_at forward j i number e = by_test (i == j)
  where
    by_test : (b : Bool) → gives_on forward (if b then meets number e else stays) ≡ false
    by_test true = refl
    by_test false = refl

silent_at : (i j o number : ℕ) (e : Event) → is_from i e ≡ false → brings i (at_node j (meets number e) o) ≡ false
silent_at i j o number e none = by_test (o == j)
  where
    by_test : (b : Bool) → brings i (if b then meets number e else stays) ≡ false
    by_test true = none
    by_test false = refl

-- an event that is no message
taking_links : (i j o number : ℕ) (forward : Bool) (e : Event) (one other : NodeState) → is_from i e ≡ false → Links i forward one other
    → Links i forward (changed (at_node j (meets number e) i) one) (changed (at_node j (meets number e) o) other)
taking_links i j o number forward e one other none is =
    both_changed i forward (at_node j (meets number e) i) (at_node j (meets number e) o) one other (quiet_at forward j i number e) (silent_at i j o number e none) is

-- A message arrives from node j. At that node and at the one where it arrives:
pub pass_own : (i number : ℕ) (g : Bool) (e : Event) → passes number i g (Some e) i ≡ gives g
pass_own i number g e = ap (λ (b : Bool). if b then gives g else at_node (neighbour g i) (meets number e) i) (eq-eqb i i refl)

pub pass_from : (i o number : ℕ) (g : Bool) (e : Event) → (o ≡ i → ⊥) → passes number i g (Some e) o ≡ at_node (neighbour g i) (meets number e) o
pass_from i o number g e differ = ap (λ (b : Bool). if b then gives g else at_node (neighbour g i) (meets number e) o) (ne_eqb o i differ)

pub pass_to : (i number : ℕ) (g : Bool) (e : Event) → 1 ≤ i → 1 ≤ neighbour g i → passes number i g (Some e) (neighbour g i) ≡ meets number e
pass_to i number g e least next =
    pass_from i (neighbour g i) number g e (λ same. apart g i least next (ap (λ k. k - 1) (sym same)))
    ∙ ap (λ (b : Bool). if b then meets number e else stays) (eq-eqb (neighbour g i) (neighbour g i) refl)

-- and at the neighbour on the other side
pub pass_away : (i o number : ℕ) (g : Bool) (e : Event) → (o ≡ i → ⊥) → (o ≡ neighbour g i → ⊥) → passes number i g (Some e) o ≡ stays
pass_away i o number g e differ away =
    pass_from i o number g e differ ∙ ap (λ (b : Bool). if b then meets number e else stays) (ne_eqb o (neighbour g i) away)

own_links : (i number : ℕ) (f g : Bool) (e : Event) (one other : NodeState) → 1 ≤ i → 1 ≤ neighbour f i → 1 ≤ neighbour g i
    → slice_get (sent_by i (neighbour g i) one) (given_of g one) ≡ Some e → Links i f one other
    → Links i f (changed (passes number i g (Some e) i) one) (changed (passes number i g (Some e) (neighbour f i)) other)
own_links i number true true e one other least to next first is =
    rw (pass_own i number true e, pass_to i number true e least next)
    (message_arrives i number true e one other is first (waits_from i (i + 1) one.ahead e one first i ∙ eq-eqb i i refl))
own_links i number false false e one other least to next first is =
    rw (pass_own i number false e, pass_to i number false e least next)
    (message_arrives i number false e one other is first (waits_from i (i - 1) one.back e one first i ∙ eq-eqb i i refl))
own_links i number true false e one other least to next first is =
    rw (pass_own i number false e, pass_away i (i + 1) number false e (λ same. omega (arith, same)) (λ same. omega (arith, same)))
    (both_changed i true (gives false) stays one other refl refl is)
own_links i number false true e one other least to next first is =
    rw (pass_own i number true e, pass_away i (i - 1) number true e (λ same. omega (arith, same, least)) (λ same. omega (arith, same)))
    (both_changed i false (gives true) stays one other refl refl is)

-- the message comes from another node
strange_links : (i j o number : ℕ) (f g : Bool) (e : Event) (one other : NodeState) → (i ≡ j → ⊥) → ComesFrom j e → Links i f one other
    → Links i f (changed (passes number j g (Some e) i) one) (changed (passes number j g (Some e) o) other)
strange_links i j o number f g e one other differ from is =
    both_changed i f (passes number j g (Some e) i) (passes number j g (Some e) o) one other
    (ap (gives_on f) (pass_from j i number g e differ) ∙ quiet_at f (neighbour g j) i number e)
    (by_test (o == j)) is
  where
    by_test : (b : Bool) → brings i (if b then gives g else at_node (neighbour g j) (meets number e) o) ≡ false
    by_test true = refl
    by_test false = silent_at i (neighbour g j) o number e (from i ∙ ne_eqb j i (λ same. differ (sym same)))

-- A row: its nodes, and its links.

pub record IsRow (n : ℕ) (r : RunState) : Type 0 where
  pub nodes : AreNodes n r
  pub links : (i : ℕ) (f : Bool) → 1 ≤ i → i ≤ n → 1 ≤ neighbour f i → neighbour f i ≤ n → Links i f (node_at i r.nodes) (node_at (neighbour f i) r.nodes)

links_by : (n i : ℕ) (f : Bool) (r : RunState) (step : Step) → 2 ≤ n → IsTrue (is_step n step) → IsRow n r → 1 ≤ i → i ≤ n → 1 ≤ neighbour f i
    → Links i f (node_at i r.nodes) (node_at (neighbour f i) r.nodes)
    → Links i f (changed (change_by r step i) (node_at i r.nodes)) (changed (change_by r step (neighbour f i)) (node_at (neighbour f i) r.nodes))
links_by n i f r (Ask j request) two is row least most next link =
    taking_links i j (neighbour f i) (r.taken + 1) f (Requested USER request) (node_at i r.nodes) (node_at (neighbour f i) r.nodes) refl link
links_by n i f r (Tick j) two is row least most next link =
    taking_links i j (neighbour f i) (r.taken + 1) f Ticked (node_at i r.nodes) (node_at (neighbour f i) r.nodes) refl link
links_by n i f r (Pass j g) two is row least most next link =
    by_message (waiting g (node_at j r.nodes)) refl
  where
    one : NodeState
    one = node_at i r.nodes

    other : NodeState
    other = node_at (neighbour f i) r.nodes

    inside : (1 ≤ j) × (j ≤ n)
    inside = passer_exists n j g (Pass j g) refl is

    own : (node_at j r.nodes).head.terms.own ≡ j
    own = ap (λ (h : LaneHead). h.terms.own) (row.nodes.each j inside.0 inside.1).head

    first : (e : Event) → waiting g (node_at j r.nodes) ≡ Some e → slice_get (sent_by j (neighbour g j) (node_at j r.nodes)) (given_of g (node_at j r.nodes)) ≡ Some e
    first e is = ap (λ k. slice_get (sent_by k (neighbour g k) (node_at j r.nodes)) (given_of g (node_at j r.nodes))) (sym own) ∙ is

    by_node : (e : Event) → waiting g (node_at j r.nodes) ≡ Some e → (b : Bool) → (i == j) ≡ b
        → Links i f (changed (passes (r.taken + 1) j g (Some e) i) one) (changed (passes (r.taken + 1) j g (Some e) (neighbour f i)) other)
    by_node e some true t =
        let same : i ≡ j = eqb-true i j t in
        subst (λ k. Links i f (changed (passes (r.taken + 1) k g (Some e) i) one) (changed (passes (r.taken + 1) k g (Some e) (neighbour f i)) other)) same
        (own_links i (r.taken + 1) f g e one other least next (subst (λ k. 1 ≤ neighbour g k) (sym same) (neighbour_exists n j g (Pass j g) refl is).0)
        (subst (λ k. slice_get (sent_by k (neighbour g k) (node_at k r.nodes)) (given_of g (node_at k r.nodes)) ≡ Some e) (sym same) (first e some)) link)
    by_node e some false t =
        strange_links i j (neighbour f i) (r.taken + 1) f g e one other (eqb-false i j t)
        (waits_from j (neighbour g j) (given_of g (node_at j r.nodes)) e (node_at j r.nodes) (first e some)) link

    by_message : (message : Option Event) → waiting g (node_at j r.nodes) ≡ message
        → Links i f (changed (passes (r.taken + 1) j g message i) one) (changed (passes (r.taken + 1) j g message (neighbour f i)) other)
    by_message None e = link
    by_message (Some e) some = by_node e some (i == j) refl

pub row_kept : (n : ℕ) → 2 ≤ n → (r : RunState) (step : Step) → IsTrue (is_step n step) → IsRow n r → IsRow n (after_step r step)
row_kept n two r step is row = record {
  nodes = nodes_kept n two r step is row.nodes;
  links = λ i f least most next last.
      let after = node_changed n i r step two is least (subst (λ k. i ≤ k) (sym row.nodes.long) most) in
      let there = node_changed n (neighbour f i) r step two is next (subst (λ k. neighbour f i ≤ k) (sym row.nodes.long) last) in
      subst (λ one. Links i f one (node_at (neighbour f i) (after_step r step).nodes)) (sym after)
      (subst (λ other. Links i f (changed (change_by r step i) (node_at i r.nodes)) other) (sym there)
      (links_by n i f r step two is row least most next (row.links i f least most next last)));
}

-- Before the first step nothing was sent.
pub row_begins : (n : ℕ) → IsRow n (start n)
row_begins n = record {
  nodes = nodes_begin n;
  links = λ i f least most next last. rw (first_is n i least most, first_is n (neighbour f i) next last) (by_way i f);
}
  where
    by_way : (i : ℕ) (f : Bool) → Links i f (first_node n i) (first_node n (neighbour f i))
    by_way i true = record { first = refl; within = omega arith }
    by_way i false = record { first = refl; within = omega arith }

pub is_row : (n : ℕ) (steps : List Step) → 2 ≤ n → AreSteps n steps → IsRow n (run_of n steps)
is_row n steps two are = kept_along n (IsRow n) (row_kept n two) (start n) steps are (row_begins n)

pub there_is : (n i : ℕ) (f : Bool) → 1 ≤ i → i ≤ n → IsTrue (has_neighbour n f i) → (1 ≤ neighbour f i) × (neighbour f i ≤ n)
there_is n i true least most t = (omega (arith, least), grind (arith, t))
there_is n i false least most t = (grind (arith, t), omega (arith, most))

pub links_keep_order : LinksKeepOrder
links_keep_order n i f steps are two least most t =
    let row = is_row n steps two are in
    let there = there_is n i f least most t in
    let one = node_at i (run_of n steps).nodes in
    let other = node_at (neighbour f i) (run_of n steps).nodes in
    let link = row.links i f least most there.0 there.1 in
    let own : one.head.terms.own ≡ i = ap (λ (h : LaneHead). h.terms.own) (row.nodes.each i least most).head in
    subst (λ k. sent_by k (neighbour f k) one ≡ arrived_from k other ++ drop (given_of f one) (sent_by k (neighbour f k) one)) (sym own)
    (sym (take-append-drop (given_of f one) (sent_by i (neighbour f i) one)) ∙ ap (λ came. came ++ drop (given_of f one) (sent_by i (neighbour f i) one)) (sym link.first))
