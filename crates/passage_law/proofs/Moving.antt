-- What one step changes at two neighbours.
use Rattle.std.proofs.Common.{◌≡◌, ◌≢◌, ℕ, ◌≤◌, ◌<◌, ◌+◌, ◌-◌, ◌==◌, Bool, true, false, if◌then◌else◌, refl, sym, ◌∙◌, ap, subst, arith, IsTrue}
use Rattle.std.specs.Prelude.{Option, Some, None, slice_get}
use Rattle.std.proofs.lemmas.Bool.{eqb-true, eqb-false, ne_eqb}
use Rattle.relay_base.specs.declared.words.Event.{Event}
use Rattle.relay_base.specs.declared.words.Event.TheVariants.{Asked as Requested, Tick as Ticked}
use Rattle.plant_core.specs.declared.terms.LaneHead.{LaneHead}
use Rattle.chain_step.specs.declared.step.Step.{Step}
use Rattle.chain_step.specs.declared.step.Step.TheVariants.{Ask, Pass, Tick}
use Rattle.chain_step.specs.declared.terms.TheConstants.{USER}
use Rattle.chain_step.specs.Run.{NodeState, RunState, neighbour, given_of, waiting, node_at}
use Rattle.chain_step.specs.Steps.{is_step}
use Rattle.chain_step.proofs.Running.{passer_exists, neighbour_exists}
use Rattle.passage_law.specs.Links.{is_from}
use Rattle.passage_law.proofs.Changing.{Change, stays, meets, gives, at_node, passes, change_by}
use Rattle.passage_law.proofs.Linking.{sent_by, ComesFrom, waits_from, pass_own, pass_to, pass_from, pass_away, IsRow}

-- The changes at node i and at the next one. One of the two meets an event that isn't a message of the other; a message passes between them; or nothing of it.
pub data Moves (i : ℕ) (near far : NodeState) : Change → Change → Type 0 where
  rest : Moves i near far stays stays
  near_gives : Moves i near far (gives false) stays
  far_gives : Moves i near far stays (gives true)
  near_alone : (number : ℕ) (event : Event) → is_from (i + 1) event ≡ false → Moves i near far (meets number event) stays
  far_alone : (number : ℕ) (event : Event) → is_from i event ≡ false → Moves i near far stays (meets number event)
  forward : (number : ℕ) (event : Event) → waiting true near ≡ Some event → Moves i near far (gives true) (meets number event)
  back : (number : ℕ) (event : Event) → waiting false far ≡ Some event → Moves i near far (meets number event) (gives false)

-- an event at node j
at_one : (i j number : ℕ) (event : Event) (near far : NodeState) → (j ≡ i → is_from (i + 1) event ≡ false) → (j ≡ i + 1 → is_from i event ≡ false)
    → Moves i near far (at_node j (meets number event) i) (at_node j (meets number event) (i + 1))
at_one i j number event near far here there = by_tests (i == j) (i + 1 == j) refl refl
  where
    not_both : i ≡ j → i + 1 ≡ j → ⊥
    not_both one other = omega (arith, one, other)

    by_tests : (a b : Bool) → (i == j) ≡ a → (i + 1 == j) ≡ b → Moves i near far (if a then meets number event else stays) (if b then meets number event else stays)
    by_tests true true one other = absurd (not_both (eqb-true i j one) (eqb-true (i + 1) j other))
    by_tests true false one other = near_alone number event (here (sym (eqb-true i j one)))
    by_tests false true one other = far_alone number event (there (sym (eqb-true (i + 1) j other)))
    by_tests false false one other = rest

-- a message of node j
passed : (i j number : ℕ) (g : Bool) (event : Event) (near far : NodeState) → 1 ≤ i → 1 ≤ j → 1 ≤ neighbour g j → ComesFrom j event → (j ≡ i → g ≡ true → waiting true near ≡ Some event)
    → (j ≡ i + 1 → g ≡ false → waiting false far ≡ Some event) → Moves i near far (passes number j g (Some event) i) (passes number j g (Some event) (i + 1))
passed i j number g event near far least one next from on back_on = by_place (i == j) (i + 1 == j) refl refl
  where
    from_near : (g : Bool) → i ≡ j → (g ≡ true → waiting true near ≡ Some event) → Moves i near far (passes number i g (Some event) i) (passes number i g (Some event) (i + 1))
    from_near true same on = rw (pass_own i number true event, pass_to i number true event least (omega arith)) (forward number event (on refl))
    from_near false same on =
        rw (pass_own i number false event, pass_away i (i + 1) number false event (λ same. omega (arith, same)) (λ same. omega (arith, same))) near_gives

    from_far : (g : Bool) → (g ≡ false → waiting false far ≡ Some event) → Moves i near far (passes number (i + 1) g (Some event) i) (passes number (i + 1) g (Some event) (i + 1))
    from_far true on =
        rw (pass_own (i + 1) number true event, pass_away (i + 1) i number true event (λ same. omega (arith, same)) (λ same. omega (arith, same))) far_gives
    from_far false on =
        let here : i + 1 - 1 ≡ i = omega arith in
        rw (pass_own (i + 1) number false event)
        (subst (λ c. Moves i near far c (gives false)) (sym (subst (λ k. passes number (i + 1) false (Some event) k ≡ meets number event) here (pass_to (i + 1) number false event (omega arith) (omega (arith, least)))))
        (back number event (on refl)))

    from_else : i ≢ j → i + 1 ≢ j → Moves i near far (passes number j g (Some event) i) (passes number j g (Some event) (i + 1))
    from_else differ differs =
        rw (pass_from j i number g event differ, pass_from j (i + 1) number g event differs)
        (at_one i (neighbour g j) number event near far (λ _. from (i + 1) ∙ ne_eqb j (i + 1) (λ same. differs (sym same))) (λ _. from i ∙ ne_eqb j i (λ same. differ (sym same))))

    by_place : (a b : Bool) → (i == j) ≡ a → (i + 1 == j) ≡ b → Moves i near far (passes number j g (Some event) i) (passes number j g (Some event) (i + 1))
    by_place true b here there =
        let same : i ≡ j = eqb-true i j here in
        subst (λ k. Moves i near far (passes number k g (Some event) i) (passes number k g (Some event) (i + 1))) same (from_near g same (on (sym same)))
    by_place false true here there =
        let same : i + 1 ≡ j = eqb-true (i + 1) j there in
        subst (λ k. Moves i near far (passes number k g (Some event) i) (passes number k g (Some event) (i + 1))) same (from_far g (back_on (sym same)))
    by_place false false here there = from_else (eqb-false i j here) (eqb-false (i + 1) j there)

-- each kind of step
pub moves : (n i : ℕ) (r : RunState) (step : Step) → 2 ≤ n → 1 ≤ i → i < n → IsTrue (is_step n step) → IsRow n r
    → Moves i (node_at i r.nodes) (node_at (i + 1) r.nodes) (change_by r step i) (change_by r step (i + 1))
moves n i r (Ask j request) two least most is row =
    at_one i j (r.taken + 1) (Requested USER request) (node_at i r.nodes) (node_at (i + 1) r.nodes) (λ _. refl) (λ _. refl)
moves n i r (Tick j) two least most is row = at_one i j (r.taken + 1) Ticked (node_at i r.nodes) (node_at (i + 1) r.nodes) (λ _. refl) (λ _. refl)
moves n i r (Pass j g) two least most is row = by_message (waiting g (node_at j r.nodes)) refl
  where
    near : NodeState
    near = node_at i r.nodes

    far : NodeState
    far = node_at (i + 1) r.nodes

    inside : (1 ≤ j) × (j ≤ n)
    inside = passer_exists n j g (Pass j g) refl is

    own : (node_at j r.nodes).head.terms.own ≡ j
    own = ap (λ (h : LaneHead). h.terms.own) (row.nodes.each j inside.0 inside.1).head

    first : (event : Event) → waiting g (node_at j r.nodes) ≡ Some event → slice_get (sent_by j (neighbour g j) (node_at j r.nodes)) (given_of g (node_at j r.nodes)) ≡ Some event
    first event some = ap (λ k. slice_get (sent_by k (neighbour g k) (node_at j r.nodes)) (given_of g (node_at j r.nodes))) (sym own) ∙ some

    by_message : (message : Option Event) → waiting g (node_at j r.nodes) ≡ message
        → Moves i near far (passes (r.taken + 1) j g message i) (passes (r.taken + 1) j g message (i + 1))
    by_message None some = rest
    by_message (Some event) some =
        passed i j (r.taken + 1) g event near far least inside.0 (neighbour_exists n j g (Pass j g) refl is).0
        (waits_from j (neighbour g j) (given_of g (node_at j r.nodes)) event (node_at j r.nodes) (first event some))
        (λ same on. subst (λ k. waiting true (node_at k r.nodes) ≡ Some event) same (subst (λ b. waiting b (node_at j r.nodes) ≡ Some event) on some))
        (λ same on. subst (λ k. waiting false (node_at k r.nodes) ≡ Some event) same (subst (λ b. waiting b (node_at j r.nodes) ≡ Some event) on some))
