-- What a node may name, it may name later on.
use Rattle.std.proofs.Common.{◌≡◌, ◌⊎◌, inl, inr, ℕ, ◌<◌, ◌≤◌, ◌+◌, ◌-◌, Bool, true, false, List, [], ◌∷◌, ◌++◌, length, map, get_or, Option, Some, None, IfSome, Result, Ok, Err, IfOk, refl, sym, subst, ap, ◌∙◌, append-nil, append_assoc, nat_lt}
use Rattle.std.proofs.lemmas.Bool.{ltb-true, ltb-false, cases_eq}
use Rattle.std.proofs.lemmas.List.{map-append, get_or-set_same, get_or_past, length-set}
use Rattle.relay_base.specs.declared.words.Event.{Event}
use Rattle.relay_base.specs.declared.words.Event.TheVariants.{Asked as Requested, Tick as Ticked}
use Rattle.relay_base.specs.declared.words.Output.{Output}
use Rattle.relay_base.specs.declared.words.Output.TheVariants.{Sent, Told, Lost}
use Rattle.relay_base.specs.declared.words.ReadFault.{ReadFault}
use Rattle.plant_core.specs.declared.entry.Entry.{Entry}
use Rattle.q713_codec.specs.Names.{Message}
use Rattle.q713_codec.specs.declared.message.Message.TheVariants.{Cr}
use Rattle.q713_codec.specs.Reading.{reading_of}
use Rattle.section_model.specs.declared.cell.Occasion.{Occasion}
use Rattle.section_model.specs.declared.cell.Occasion.TheVariants as on
use Rattle.section_model.specs.Parameters.{Arrival, arrival_of}
use Rattle.section_model.specs.Ends.{End, wire, owner, Connection}
use Rattle.section_model.specs.Opening.{wish_of}
use Rattle.section_model.specs.Journals.{lane_of}
use Rattle.section_model.specs.Lane.{Lane, Opening, with_event, opening_of, opening_list, openings_after, answer_of}
use Rattle.section_model.specs.Laws.{openings_from}
use Rattle.chain_step.specs.declared.step.Step.{Step}
use Rattle.chain_step.specs.declared.step.Step.TheVariants.{Ask, Pass, Tick}
use Rattle.chain_step.specs.declared.terms.TheConstants.{USER}
use Rattle.chain_step.specs.Run.{NodeState, RunState, first_node, node_at, with_node, neighbour, waiting, after_event, after_giving, openings_of, entry_of, passing, after_step}
use Rattle.chain_step.proofs.Journals.{openings_more}
use Rattle.chain_step.proofs.Running.{other_node}
use Rattle.passage_law.specs.Naming.{Allowed, NamesArrival, AsksFrom, NamesMessage, Names, AllName, StandsOn, BothStand}
use Rattle.passage_law.specs.References.{firsts_of, Firsts, firsts_in, OfOne, IsTo, Gave, Asks, IsAskedBy, WasAsked, ArePaired, IsSection, AnswersTo, allowed}

-- what may be named by the one may be named by the other
pub record IsWithin (A B : Allowed) : Type 0 where
  pub stands : (point other mine : ℕ) → A.stands point other mine → B.stands point other mine
  pub answers : (o : Occasion) (point reference : ℕ) → A.answers o point reference → B.answers o point reference
  pub asks : (point reference : ℕ) → A.asks point reference → B.asks point reference

arrival_within : (A B : Allowed) → IsWithin A B → (point : ℕ) (a : Arrival) → NamesArrival A point a → NamesArrival B point a
arrival_within A B w point a (inl on) = inl (on.0, w.stands point a.parameters.dlr on.0 on.1, on.2)
arrival_within A B w point a (inr answer) = inr (w.answers a.occasion point a.parameters.dlr answer)

asks_within : (A B : Allowed) → IsWithin A B → (point : ℕ) (m : Message) → AsksFrom A point m → AsksFrom B point m
asks_within A B w point (Cr slr class called credit calling body hop importance) asks = w.asks point slr asks
asks_within A B w point _ asks = tt

found_within : (A B : Allowed) → IsWithin A B → (point : ℕ) (found : Option Arrival) → IfSome found (NamesArrival A point) → IfSome found (NamesArrival B point)
found_within A B w point None names = tt
found_within A B w point (Some a) names = arrival_within A B w point a names

read_within : (A B : Allowed) → IsWithin A B → (point : ℕ) (read : Result Message ReadFault) → IfOk read (NamesMessage A point) → IfOk read (NamesMessage B point)
read_within A B w point (Ok m) names = (found_within A B w point (arrival_of m) names.0, asks_within A B w point m names.1)
read_within A B w point (Err fault) names = tt

output_within : (A B : Allowed) → IsWithin A B → (out : Output) → Names A out → Names B out
output_within A B w (Sent point sls bytes) names = read_within A B w point (reading_of bytes) names
output_within A B w (Told ssn tell) names = tt
output_within A B w (Lost lost) names = tt

pub all_within : (A B : Allowed) → IsWithin A B → (outs : List Output) → AllName A outs → AllName B outs
all_within A B w [] names = tt
all_within A B w (out ∷ outs) names = (output_within A B w out names.0, all_within A B w outs names.1)

end_within : (S T : ℕ → ℕ → ℕ → Type 0) → ((point other mine : ℕ) → S point other mine → T point other mine) → (e : End) → StandsOn S e → StandsOn T e
end_within S T within (wire x) stands = within x.head.point x.head.other x.head.mine stands
end_within S T within (owner u) stands = tt

pub both_within : (S T : ℕ → ℕ → ℕ → Type 0) → ((point other mine : ℕ) → S point other mine → T point other mine) → (c : Connection) → BothStand S c → BothStand T c
both_within S T within c both = (end_within S T within c.this both.0, end_within S T within c.that both.1)

-- More connections were opened.

pub of_more : {A : Type 0} (P : A → Type 0) (xs more : List A) → OfOne P xs → OfOne P (xs ++ more)
of_more P [] more one = absurd one
of_more P (x ∷ xs) more (inl p) = inl p
of_more P (x ∷ xs) more (inr one) = inr (of_more P xs more one)

pub of_last : {A : Type 0} (P : A → Type 0) (xs : List A) (x : A) → P x → OfOne P (xs ++ x ∷ [])
of_last P [] x p = inl p
of_last P (y ∷ xs) x p = inr (of_last P xs x p)

abbrev pub Begin : List Connection → List Connection → Type 0
Begin one other = (more : List Connection) × (other ≡ one ++ more)

abbrev pub Grows : Firsts → Firsts → Type 0
Grows f g = (i : ℕ) → Begin (f i) (g i)

pub one_more : (P : Connection → Type 0) (xs ys : List Connection) → Begin xs ys → OfOne P xs → OfOne P ys
one_more P xs ys b one = subst (OfOne P) (sym b.1) (of_more P xs b.0 one)

pub gave_more : (f g : Firsts) → Grows f g → (i point mine : ℕ) → Gave f i point mine → Gave g i point mine
gave_more f g grows i point mine gave = one_more (λ (c : Connection). IsTo point mine c.this ⊎ IsTo point mine c.that) (f i) (g i) (grows i) gave

pub asks_more : (f g : Firsts) → Grows f g → (i point mine : ℕ) → Asks f i point mine → Asks g i point mine
asks_more f g grows i point mine asks = one_more (λ (c : Connection). IsTo point mine c.that) (f i) (g i) (grows i) asks

asked_more : (f g : Firsts) → Grows f g → (i p other mine : ℕ) → WasAsked f i p other mine → WasAsked g i p other mine
asked_more f g grows i p other mine asked =
    (one_more (λ (c : Connection). IsAskedBy p other mine c.this) (f i) (g i) (grows i) asked.0, asks_more f g grows p i other asked.1)

pub paired_more : (f g : Firsts) → Grows f g → (i mine p other : ℕ) → ArePaired f i mine p other → ArePaired g i mine p other
paired_more f g grows i mine p other (inl a) = inl (asked_more f g grows i p other mine a)
paired_more f g grows i mine p other (inr a) = inr (asked_more f g grows p i mine other a)

known_more : (f g : Firsts) → Grows f g → (i mine p other : ℕ) → (other ≡ 0) ⊎ ArePaired f i mine p other → (other ≡ 0) ⊎ ArePaired g i mine p other
known_more f g grows i mine p other (inl none) = inl none
known_more f g grows i mine p other (inr paired) = inr (paired_more f g grows i mine p other paired)

pub section_more : (f g : Firsts) → Grows f g → (i p other mine : ℕ) → IsSection f i p other mine → IsSection g i p other mine
section_more f g grows i p other mine s = (s.0, s.1, s.2, gave_more f g grows i p mine s.3, known_more f g grows i mine p other s.4)

answers_more : (f g : Firsts) → Grows f g → (i : ℕ) (e : Event) (o : Occasion) (p slr : ℕ) → AnswersTo f i e o p slr → AnswersTo g i e o p slr
answers_more f g grows i e on.Err p slr s = tt
answers_more f g grows i e on.Rlc p slr s = tt
answers_more f g grows i e on.Cref p slr s = (s.0, asks_more f g grows p i slr s.1)
answers_more f g grows i e _ p slr s = absurd s

pub allowed_more : (f g : Firsts) → Grows f g → (i : ℕ) (e : Event) → IsWithin (allowed f i e) (allowed g i e)
allowed_more f g grows i e = record {
  stands = section_more f g grows i;
  answers = λ o p reference s. (s.0, answers_more f g grows i e o p reference s.1, gave_more f g grows p i reference s.2);
  asks = λ p mine s. (s.0, s.1, asks_more f g grows i p mine s.2);
}

-- The connections that entries open, one after another.

pub openings_joined : (lane : Lane) (openings : List Opening) (one other : List Entry) → openings_from lane openings (one ++ other) ≡ openings_from lane (openings_from lane openings one) other
openings_joined lane openings [] other = refl
openings_joined lane openings (entry ∷ one) other = openings_joined lane (openings_after lane openings entry.event (answer_of entry)) one other

pub same_firsts : (event : Event) (openings : List Opening) → map (λ (o : Opening). o.first) (map (with_event event) openings) ≡ map (λ (o : Opening). o.first) openings
same_firsts event [] = refl
same_firsts event (o ∷ openings) = ap (λ more. o.first ∷ more) (same_firsts event openings)

abbrev pub opened_at : Lane → List Opening → Entry → Option Connection
opened_at lane openings entry = (opening_of lane openings (wish_of lane.terms entry.event) (answer_of entry)).connection

abbrev pub new_firsts : Option Connection → List Connection
new_firsts connection = map (λ (o : Opening). o.first) (opening_list connection)

pub firsts_after : (lane : Lane) (openings : List Opening) (entry : Entry)
    → map (λ (o : Opening). o.first) (openings_after lane openings entry.event (answer_of entry)) ≡ map (λ (o : Opening). o.first) openings ++ new_firsts (opened_at lane openings entry)
unfolding openings_after
firsts_after lane openings entry =
    map-append (λ (o : Opening). o.first) (map (with_event entry.event) openings) (opening_list (opened_at lane openings entry))
    ∙ ap (λ xs. xs ++ new_firsts (opened_at lane openings entry)) (same_firsts entry.event openings)

-- The connections of a node after one more event.

abbrev pub opened_by : Event → NodeState → Option Connection
opened_by e node = let lane = lane_of node.head 0 in (opening_of lane (openings_of node) (wish_of node.head.terms e) (answer_of (entry_of 0 e node))).connection

pub openings_are : (number : ℕ) (e : Event) (node : NodeState) → openings_of (after_event number e node) ≡ openings_after (lane_of node.head 0) (openings_of node) e (answer_of (entry_of number e node))
openings_are number e node = openings_more (lane_of node.head 0) [] node.journal (entry_of number e node)

pub firsts_met : (number : ℕ) (e : Event) (node : NodeState) → firsts_of (after_event number e node) ≡ firsts_of node ++ new_firsts (opened_by e node)
firsts_met number e node = ap (map (λ (o : Opening). o.first)) (openings_are number e node) ∙ firsts_after (lane_of node.head 0) (openings_of node) (entry_of number e node)

-- All nodes after a step.

abbrev NodeGrows : NodeState → NodeState → Type 0
NodeGrows one other = Begin (firsts_of one) (firsts_of other)

same_grows : (node : NodeState) → NodeGrows node node
same_grows node = ([], sym (append-nil (firsts_of node)))

then_grows : (one other third : NodeState) → NodeGrows one other → NodeGrows other third → NodeGrows one third
then_grows one other third a b = (a.0 ++ b.0, b.1 ∙ (ap (λ xs. xs ++ b.0) a.1 ∙ append_assoc (firsts_of one) a.0 b.0))

with_grows : (x j : ℕ) (change : NodeState → NodeState) (nodes : List NodeState) → ((node : NodeState) → NodeGrows node (change node)) → NodeGrows (node_at x nodes) (node_at x (with_node j change nodes))
with_grows x j change nodes grows = by_place (cases_eq (x - 1) (j - 1))
  where
    new : NodeState
    new = change (node_at j nodes)

    by_length : (b : Bool) → nat_lt (x - 1) (length nodes) ≡ b → x - 1 ≡ j - 1 → NodeGrows (node_at x nodes) (node_at x (with_node j change nodes))
    by_length true e same =
        subst (NodeGrows (node_at x nodes))
        (ap (λ k. change (get_or nodes k (first_node 0 0))) same
        ∙ (sym (get_or-set_same nodes (j - 1) new (first_node 0 0) (subst (λ k. k < length nodes) same (ltb-true (x - 1) (length nodes) e)))
        ∙ ap (λ k. get_or (with_node j change nodes) k (first_node 0 0)) (sym same)))
        (grows (node_at x nodes))
    by_length false e same =
        let past : length nodes ≤ x - 1 = ltb-false (x - 1) (length nodes) e in
        subst (NodeGrows (node_at x nodes))
        (get_or_past nodes (x - 1) (first_node 0 0) past
        ∙ sym (get_or_past (with_node j change nodes) (x - 1) (first_node 0 0) (subst (λ k. k ≤ x - 1) (sym (length-set nodes (j - 1) new)) past)))
        (same_grows (node_at x nodes))

    by_place : (x - 1 ≡ j - 1) ⊎ (x - 1 ≡ j - 1 → ⊥) → NodeGrows (node_at x nodes) (node_at x (with_node j change nodes))
    by_place (inl same) = by_length (nat_lt (x - 1) (length nodes)) refl same
    by_place (inr differ) = subst (NodeGrows (node_at x nodes)) (sym (other_node x j change nodes differ)) (same_grows (node_at x nodes))

meets_grows : (number : ℕ) (e : Event) (node : NodeState) → NodeGrows node (after_event number e node)
meets_grows number e node = (new_firsts (opened_by e node), firsts_met number e node)

gives_grows : (forward : Bool) (node : NodeState) → NodeGrows node (after_giving forward node)
gives_grows true node = same_grows node
gives_grows false node = same_grows node

taking_grows : (i number : ℕ) (e : Event) (nodes : List NodeState) (x : ℕ) → NodeGrows (node_at x nodes) (node_at x (with_node i (after_event number e) nodes))
taking_grows i number e nodes x = with_grows x i (after_event number e) nodes (meets_grows number e)

passing_grows : (i : ℕ) (forward : Bool) (message : Option Event) (r : RunState) (x : ℕ) → NodeGrows (node_at x r.nodes) (node_at x (passing i forward message r).nodes)
passing_grows i forward None r x = same_grows (node_at x r.nodes)
passing_grows i forward (Some e) r x =
    let after : List NodeState = with_node (neighbour forward i) (after_event (r.taken + 1) e) r.nodes in
    then_grows (node_at x r.nodes) (node_at x after) (node_at x (with_node i (after_giving forward) after)) (taking_grows (neighbour forward i) (r.taken + 1) e r.nodes x)
    (with_grows x i (after_giving forward) after (gives_grows forward))

pub step_grows : (r : RunState) (step : Step) → Grows (firsts_in r) (firsts_in (after_step r step))
unfolding after_step
step_grows r (Ask i request) x = taking_grows i (r.taken + 1) (Requested USER request) r.nodes x
step_grows r (Pass i forward) x = passing_grows i forward (waiting forward (node_at i r.nodes)) r x
step_grows r (Tick i) x = taking_grows i (r.taken + 1) Ticked r.nodes x
