-- The CR of a section asks for one section at most.
use Rattle.std.proofs.Common.{◌≡◌, inl, inr, ℕ, ◌≤◌, ◌+◌, ◌==◌, ◌&&◌, Bool, true, false, List, [], ◌∷◌, map, Option, Some, None, IfSome, Result, Ok, Err, IsTrue, refl, sym, subst, ap, ◌∙◌, arith, eqb-true, eq-eqb}
use Rattle.std.specs.Prelude.{count_by}
use Rattle.std.proofs.lemmas.Bool.{false≢true, and_parts, and_from}
use Rattle.std.proofs.lemmas.List.{map-append}
use Rattle.relay_base.specs.declared.words.Event.{Event}
use Rattle.relay_base.specs.declared.words.Event.TheVariants.{Message as Arrived, Asked as Requested, Tick as Ticked}
use Rattle.relay_base.specs.declared.words.ReadFault.{ReadFault}
use Rattle.plant_core.specs.declared.entry.Entry.{Entry}
use Rattle.q713_codec.specs.Names.{Message}
use Rattle.q713_codec.specs.declared.message.Message.TheVariants.{Cr}
use Rattle.q713_codec.specs.Reading.{reading_of}
use Rattle.section_model.specs.Ends.{End, wire, owner, Connection}
use Rattle.section_model.specs.Opening.{Wish, by_cr, by_user, no_wish, wish_of, slots_needed}
use Rattle.section_model.specs.Journals.{lane_of}
use Rattle.section_model.specs.Lane.{lowest_free, answer_of}
use Rattle.chain_step.specs.declared.step.Step.{Step}
use Rattle.chain_step.specs.Run.{NodeState, RunState, node_at, openings_of, entry_of, start, run_of, after_event, after_step}
use Rattle.chain_step.specs.Steps.{is_step}
use Rattle.passage_law.specs.Nodes.{AreSteps}
use Rattle.passage_law.specs.References.{firsts_of, Firsts, firsts_in, IsAskedBy, HasSource, IsCrFrom}
use Rattle.passage_law.specs.Once.{is_cr_with, is_cr_from}
use Rattle.passage_law.proofs.Changing.{Change, stays, meets, gives, changed, change_by, node_changed, kept_along}
use Rattle.passage_law.proofs.RowStanding.{first_is}
use Rattle.passage_law.proofs.Growing.{opened_by, new_firsts, firsts_met}
use Rattle.passage_law.proofs.Referring.{Makes, MeetsSo, WishFrom, ThisShape, HasShape, opened_shape, IsReferred, step_so, referred_begins, referred_kept}
use Rattle.passage_law.proofs.Freshness.{AtSide}
use Rattle.passage_law.proofs.Once.{one_if, count_cons, count_joined}

-- a connection whose section was asked for by CR from a point with this source
abbrev pub is_asked : ℕ → ℕ → End → Bool
is_asked p slr (wire x) = x.head.point == p && x.head.other == slr
is_asked p slr (owner u) = false

abbrev pub was_asked : ℕ → ℕ → Connection → Bool
was_asked p slr c = is_asked p slr c.this

-- It was opened by that CR.

has_it : (slr : ℕ) (read : Result Message ReadFault) → HasSource slr read → is_cr_with slr read ≡ true
has_it slr (Ok (Cr source class called credit calling body hop importance)) has = eq-eqb source slr has
has_it slr (Ok _) has = absurd has
has_it slr (Err fault) has = absurd has

pub is_that_cr : (p slr : ℕ) (e : Event) → IsCrFrom p slr e → is_cr_from p slr e ≡ true
is_that_cr p slr (Arrived point sls bytes) is = and_from (point == p) (is_cr_with slr (reading_of bytes)) (eq-eqb point p is.0) (has_it slr (reading_of bytes) is.1)
is_that_cr p slr (Requested ssn q) is = absurd is
is_that_cr p slr Ticked is = absurd is

asked_by_event : (f : Firsts) (i p slr : ℕ) (e : Event) (wish : Wish) (this : End) → ThisShape wish this → WishFrom f i e wish → is_asked p slr this ≡ true → is_cr_from p slr e ≡ true
asked_by_event f i p slr e (by_cr w) (wire x) shape from is =
    let parts = and_parts (x.head.point == p) (x.head.other == slr) is in
    is_that_cr p slr e
    (subst (λ k. IsCrFrom k slr e) (sym shape.0 ∙ eqb-true x.head.point p parts.0)
    (subst (λ k. IsCrFrom w.point k e) (sym shape.1 ∙ eqb-true x.head.other slr parts.1) from.2))
asked_by_event f i p slr e (by_cr w) (owner u) shape from is = absurd (false≢true is)
asked_by_event f i p slr e (by_user ssn tag w) (owner u) shape from is = absurd (false≢true is)
asked_by_event f i p slr e (by_user ssn tag w) (wire x) shape from is = absurd shape
asked_by_event f i p slr e no_wish this shape from is = absurd shape

pub new_asked : (f : Firsts) (i p slr : ℕ) (e : Event) (node : NodeState) → Makes f i node e → count_by (was_asked p slr) (new_firsts (opened_by e node)) ≤ one_if (is_cr_from p slr e)
new_asked f i p slr e node makes =
    by_connection (opened_by e node) (opened_shape node.head.terms wish (answer_of (entry_of 0 e node)) (lowest_free (lane_of node.head 0) (openings_of node) (slots_needed wish (answer_of (entry_of 0 e node)))))
  where
    wish : Wish
    wish = wish_of node.head.terms e

    by_connection : (connection : Option Connection) → IfSome connection (HasShape (wish_of node.head.terms e)) → count_by (was_asked p slr) (new_firsts connection) ≤ one_if (is_cr_from p slr e)
    by_connection None shape = omega arith
    by_connection (Some c) shape = by_test (is_asked p slr c.this) refl
      where
        by_test : (b : Bool) → is_asked p slr c.this ≡ b → 0 + one_if (is_asked p slr c.this) ≤ one_if (is_cr_from p slr e)
        by_test true t = subst (λ k. 0 + one_if (is_asked p slr c.this) ≤ one_if k) (sym (asked_by_event f i p slr e wish c.this shape.0 makes.1 t)) (omega (arith, ap one_if t))
        by_test false t = omega (arith, ap one_if t)

-- Along the run.

abbrev events_of : NodeState → List Event
events_of node = map (λ (e : Entry). e.event) node.journal

abbrev AskedWithin : NodeState → Type 0
AskedWithin node = (p slr : ℕ) → count_by (was_asked p slr) (firsts_of node) ≤ count_by (is_cr_from p slr) (events_of node)

meets_within : (f : Firsts) (i number : ℕ) (e : Event) (node : NodeState) → Makes f i node e → AskedWithin node → AskedWithin (after_event number e node)
meets_within f i number e node makes within p slr =
    let one : count_by (was_asked p slr) (firsts_of (after_event number e node)) ≡ count_by (was_asked p slr) (firsts_of node) + count_by (was_asked p slr) (new_firsts (opened_by e node)) =
    ap (count_by (was_asked p slr)) (firsts_met number e node) ∙ count_joined (was_asked p slr) (firsts_of node) (new_firsts (opened_by e node)) in
    let two : count_by (is_cr_from p slr) (events_of (after_event number e node)) ≡ count_by (is_cr_from p slr) (events_of node) + (0 + one_if (is_cr_from p slr e)) =
    ap (count_by (is_cr_from p slr)) (map-append (λ (x : Entry). x.event) node.journal (entry_of number e node ∷ [])) ∙ count_joined (is_cr_from p slr) (events_of node) (e ∷ []) in
    omega (arith, one, two, within p slr, new_asked f i p slr e node makes)

changed_within : (f : Firsts) (i : ℕ) (change : Change) (node : NodeState) → MeetsSo f i node change → AskedWithin node → AskedWithin (changed change node)
changed_within f i stays node so within = within
changed_within f i (meets number e) node so within = meets_within f i number e node so within
changed_within f i (gives true) node so within = within
changed_within f i (gives false) node so within = within

record IsAskedSo (n : ℕ) (r : RunState) : Type 0 where
  referred : IsReferred n r
  within : (i : ℕ) → 1 ≤ i → i ≤ n → AskedWithin (node_at i r.nodes)

asked_kept : (n : ℕ) → 2 ≤ n → (r : RunState) (step : Step) → IsTrue (is_step n step) → IsAskedSo n r → IsAskedSo n (after_step r step)
asked_kept n two r step is asked = record {
  referred = referred_kept n two r step is asked.referred;
  within = λ i least most.
      let g = firsts_in (after_step r step) in
      subst AskedWithin (sym (node_changed n i r step two is least (subst (λ k. i ≤ k) (sym asked.referred.row.nodes.long) most)))
      (changed_within g i (change_by r step i) (node_at i r.nodes) (step_so n i r step two is asked.referred) (asked.within i least most));
}

asked_begins : (n : ℕ) → IsAskedSo n (start n)
asked_begins n = record {
  referred = referred_begins n;
  within = λ i least most. subst AskedWithin (sym (first_is n i least most)) (λ p slr. omega arith);
}

pub asked_within : (n i p slr : ℕ) (steps : List Step) → 2 ≤ n → AreSteps n steps → 1 ≤ i → i ≤ n
    → count_by (was_asked p slr) (firsts_of (node_at i (run_of n steps).nodes)) ≤ count_by (is_cr_from p slr) (map (λ (e : Entry). e.event) (node_at i (run_of n steps).nodes).journal)
asked_within n i p slr steps two are least most = (kept_along n (IsAskedSo n) (asked_kept n two) (start n) steps are (asked_begins n)).within i least most p slr

-- So two such sections are one.

pub is_counted : (p slr mine : ℕ) (e : End) → IsAskedBy p slr mine e → is_asked p slr e ≡ true
is_counted p slr mine (wire x) asked = and_from (x.head.point == p) (x.head.other == slr) (eq-eqb x.head.point p asked.0) (eq-eqb x.head.other slr asked.1)
is_counted p slr mine (owner u) asked = absurd asked

pub counted : (p slr mine : ℕ) (cs : List Connection) → AtSide true (IsAskedBy p slr mine) cs → 1 ≤ count_by (was_asked p slr) cs
counted p slr mine [] asked = absurd asked
counted p slr mine (c ∷ cs) (inl asked) =
    let all : count_by (was_asked p slr) (c ∷ cs) ≡ 1 + count_by (was_asked p slr) cs =
    count_cons (was_asked p slr) c cs ∙ ap (λ b. one_if b + count_by (was_asked p slr) cs) (is_counted p slr mine c.this asked) in
    omega (arith, all)
counted p slr mine (c ∷ cs) (inr asked) = omega (arith, count_cons (was_asked p slr) c cs, counted p slr mine cs asked)

more_than_one : (p slr mine other : ℕ) (c : Connection) (cs : List Connection) → count_by (was_asked p slr) (c ∷ cs) ≤ 1 → IsAskedBy p slr mine c.this → AtSide true (IsAskedBy p slr other) cs → ⊥
more_than_one p slr mine other c cs most asked later =
    let all : count_by (was_asked p slr) (c ∷ cs) ≡ 1 + count_by (was_asked p slr) cs =
    count_cons (was_asked p slr) c cs ∙ ap (λ b. one_if b + count_by (was_asked p slr) cs) (is_counted p slr mine c.this asked) in
    omega (arith, all, most, counted p slr other cs later)

same_mine : (p slr mine other : ℕ) (e : End) → IsAskedBy p slr mine e → IsAskedBy p slr other e → mine ≡ other
same_mine p slr mine other (wire x) one two = sym one.2 ∙ two.2
same_mine p slr mine other (owner u) one two = absurd one

pub asked_one : (p slr mine other : ℕ) (cs : List Connection) → count_by (was_asked p slr) cs ≤ 1 → AtSide true (IsAskedBy p slr mine) cs → AtSide true (IsAskedBy p slr other) cs → mine ≡ other
asked_one p slr mine other [] most one two = absurd one
asked_one p slr mine other (c ∷ cs) most (inl one) (inl two) = same_mine p slr mine other c.this one two
asked_one p slr mine other (c ∷ cs) most (inl one) (inr two) = absurd (more_than_one p slr mine other c cs most one two)
asked_one p slr mine other (c ∷ cs) most (inr one) (inl two) = absurd (more_than_one p slr other mine c cs most two one)
asked_one p slr mine other (c ∷ cs) most (inr one) (inr two) = asked_one p slr mine other cs (omega (arith, count_cons (was_asked p slr) c cs, most)) one two
