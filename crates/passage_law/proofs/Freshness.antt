-- Where no reference was given twice, a reference is that of one end.
use Rattle.std.proofs.Common.{◌≡◌, ◌⊎◌, inl, inr, ℕ, zero, suc, ◌<◌, ◌≤◌, ◌+◌, ◌-◌, length, arith, Bool, true, false, List, [], ◌∷◌, ◌++◌, map, Option, Some, None, refl, sym, subst, ap, ◌∙◌}
use Rattle.std.specs.Prelude.{nat_eq, get_or}
use Rattle.std.specs.List.{flat_map, list_all}
use Rattle.std.proofs.lemmas.Bool.{false≢true, true≢false, both_ways, and_parts, or_parts, or_cases, or_left, or_right, or_from, and_from, eqb-true, eq-eqb, not-true, not_from_false, false_from_ne_true}
use Rattle.std.proofs.lemmas.List.{append_assoc}
use Rattle.std.proofs.lemmas.List.Concat.{flat_map-append}
use Rattle.std.proofs.lemmas.List.Folds.{list_any-append}
use Rattle.section_model.specs.Ends.{End, wire, owner, Connection}
use Rattle.section_model.specs.Lane.{Opening, reference_of}
use Rattle.chain_step.specs.Run.{NodeState, RunState, first_node, openings_of, node_at, start, run_of, after_step}
use Rattle.chain_step.proofs.Running.{after_more, length_more}
use Rattle.chain_step.specs.Fresh.{listed, references_in, references_of, is_among, has_twice, is_fresh, all_fresh}
use Rattle.passage_law.specs.References.{firsts_of, Firsts, firsts_in, OfOne, IsTo, Gave, Asks, IsAskedBy, ArePaired}
use Rattle.passage_law.specs.Freshness.{FreshBefore}
use Rattle.passage_law.proofs.Growing.{Begin, Grows, step_grows}

-- the references of the two ends
abbrev pub ends_of : Connection → List ℕ
ends_of c = listed (reference_of c.this) ++ listed (reference_of c.that)

abbrev pub given_by : List Connection → List ℕ
given_by cs = flat_map ends_of cs

abbrev pub AreFresh : List Connection → Type 0
AreFresh cs = has_twice (given_by cs) ≡ false

firsts_given : (openings : List Opening) → flat_map references_in openings ≡ given_by (map (λ (o : Opening). o.first) openings)
firsts_given [] = refl
firsts_given (o ∷ openings) = ap (λ more. references_in o ++ more) (firsts_given openings)

node_fresh : (node : NodeState) → is_fresh node ≡ true → AreFresh (firsts_of node)
node_fresh node fresh = ap has_twice (sym (firsts_given (openings_of node))) ∙ not-true (has_twice (references_of node)) fresh

no_place : (k : ℕ) → k < 0 → ⊥
no_place k short = omega (arith, short)

-- each node of a run in which none gave a reference twice
each_fresh : (nodes : List NodeState) (k : ℕ) → k < length nodes → list_all is_fresh nodes ≡ true → is_fresh (get_or nodes k (first_node 0 0)) ≡ true
each_fresh [] k short fresh = absurd (no_place k short)
each_fresh (node ∷ nodes) zero short fresh = (and_parts (is_fresh node) (list_all is_fresh nodes) fresh).0
each_fresh (node ∷ nodes) (suc k) short fresh = each_fresh nodes k (omega (arith, short)) (and_parts (is_fresh node) (list_all is_fresh nodes) fresh).1

pub run_fresh : (r : RunState) (i : ℕ) → 1 ≤ i → i ≤ length r.nodes → all_fresh r ≡ true → AreFresh (firsts_of (node_at i r.nodes))
run_fresh r i least most fresh = node_fresh (node_at i r.nodes) (each_fresh r.nodes (i - 1) (omega (arith, least, most)) fresh)

-- One that is in two parts of a list is in it twice.

pub among_left : (mine : ℕ) (xs ys : List ℕ) → is_among mine xs ≡ true → is_among mine (xs ++ ys) ≡ true
among_left mine xs ys is = list_any-append (nat_eq mine) xs ys ∙ or_left (is_among mine xs) (is_among mine ys) is

pub among_right : (mine : ℕ) (xs ys : List ℕ) → is_among mine ys ≡ true → is_among mine (xs ++ ys) ≡ true
among_right mine xs ys is = list_any-append (nat_eq mine) xs ys ∙ or_right (is_among mine xs) (is_among mine ys) is

pub in_one_part : (mine : ℕ) (xs ys : List ℕ) → has_twice (xs ++ ys) ≡ false → is_among mine xs ≡ true → is_among mine ys ≡ true → ⊥
in_one_part mine [] ys none one other = false≢true one
in_one_part mine (x ∷ xs) ys none one other =
    let parts = or_parts (is_among x (xs ++ ys)) (has_twice (xs ++ ys)) none in
    by_place parts.0 (λ there. in_one_part mine xs ys parts.1 there other) (or_cases (nat_eq mine x) (is_among mine xs) one)
  where
    by_place : is_among x (xs ++ ys) ≡ false → (is_among mine xs ≡ true → ⊥) → (nat_eq mine x ≡ true) ⊎ (is_among mine xs ≡ true) → ⊥
    by_place away later (inl here) = both_ways (is_among x (xs ++ ys)) away (subst (λ k. is_among k (xs ++ ys) ≡ true) (eqb-true mine x here) (among_right mine xs ys other))
    by_place away later (inr there) = later there

pub later_part : (xs ys : List ℕ) → has_twice (xs ++ ys) ≡ false → has_twice ys ≡ false
later_part [] ys none = none
later_part (x ∷ xs) ys none = later_part xs ys (or_parts (is_among x (xs ++ ys)) (has_twice (xs ++ ys)) none).1

-- An end that has a reference.

abbrev pub HasIt : ℕ → (End → Type 0) → Type 0
HasIt mine A = (e : End) → A e → reference_of e ≡ Some mine

pub among_listed : (mine : ℕ) (reference : Option ℕ) → reference ≡ Some mine → is_among mine (listed reference) ≡ true
among_listed mine None is = absurd (cc)
among_listed mine (Some m) is = let same : mine ≡ m = cc in or_left (nat_eq mine m) false (eq-eqb mine m same)

abbrev pub side : Bool → Connection → End
side true c = c.this
side false c = c.that

abbrev pub AtSide : Bool → (End → Type 0) → List Connection → Type 0
AtSide s A cs = OfOne (λ (c : Connection). A (side s c)) cs

pub among_ends : (mine : ℕ) (A : End → Type 0) (s : Bool) (c : Connection) → HasIt mine A → A (side s c) → is_among mine (ends_of c) ≡ true
among_ends mine A true c has a = among_left mine (listed (reference_of c.this)) (listed (reference_of c.that)) (among_listed mine (reference_of c.this) (has c.this a))
among_ends mine A false c has a = among_right mine (listed (reference_of c.this)) (listed (reference_of c.that)) (among_listed mine (reference_of c.that) (has c.that a))

pub among_given : (mine : ℕ) (A : End → Type 0) (s : Bool) (cs : List Connection) → HasIt mine A → AtSide s A cs → is_among mine (given_by cs) ≡ true
among_given mine A s [] has one = absurd one
among_given mine A s (c ∷ cs) has (inl a) = among_left mine (ends_of c) (given_by cs) (among_ends mine A s c has a)
among_given mine A s (c ∷ cs) has (inr one) = among_right mine (ends_of c) (given_by cs) (among_given mine A s cs has one)

-- the two ends of one connection have not the same reference
not_both : (mine : ℕ) (c : Connection) (cs : List Connection) → AreFresh (c ∷ cs) → reference_of c.this ≡ Some mine → reference_of c.that ≡ Some mine → ⊥
not_both mine c cs fresh one other =
    in_one_part mine (listed (reference_of c.this)) (listed (reference_of c.that) ++ given_by cs)
    (ap has_twice (sym (append_assoc (listed (reference_of c.this)) (listed (reference_of c.that)) (given_by cs))) ∙ fresh)
    (among_listed mine (reference_of c.this) one)
    (among_left mine (listed (reference_of c.that)) (given_by cs) (among_listed mine (reference_of c.that) other))

-- Two such ends are one, at one side.
pub record IsOne (A B : End → Type 0) (s t : Bool) : Type 0 where
  pub side : s ≡ t
  pub end : End
  pub one : A end
  pub other : B end

in_first : (mine : ℕ) (A B : End → Type 0) (s t : Bool) (c : Connection) (cs : List Connection) → AreFresh (c ∷ cs) → HasIt mine A → HasIt mine B → A (side s c) → B (side t c) → IsOne A B s t
in_first mine A B true true c cs fresh has too a b = record { side = refl; end = c.this; one = a; other = b }
in_first mine A B false false c cs fresh has too a b = record { side = refl; end = c.that; one = a; other = b }
in_first mine A B true false c cs fresh has too a b = absurd (not_both mine c cs fresh (has c.this a) (too c.that b))
in_first mine A B false true c cs fresh has too a b = absurd (not_both mine c cs fresh (too c.this b) (has c.that a))

pub is_one : (mine : ℕ) (A B : End → Type 0) (s t : Bool) (cs : List Connection) → AreFresh cs → HasIt mine A → HasIt mine B → AtSide s A cs → AtSide t B cs → IsOne A B s t
is_one mine A B s t [] fresh has too one other = absurd one
is_one mine A B s t (c ∷ cs) fresh has too (inl a) (inl b) = in_first mine A B s t c cs fresh has too a b
is_one mine A B s t (c ∷ cs) fresh has too (inl a) (inr other) =
    absurd (in_one_part mine (ends_of c) (given_by cs) fresh (among_ends mine A s c has a) (among_given mine B t cs too other))
is_one mine A B s t (c ∷ cs) fresh has too (inr one) (inl b) =
    absurd (in_one_part mine (ends_of c) (given_by cs) fresh (among_ends mine B t c too b) (among_given mine A s cs has one))
is_one mine A B s t (c ∷ cs) fresh has too (inr one) (inr other) = is_one mine A B s t cs (later_part (ends_of c) (given_by cs) fresh) has too one other

-- The sections of a node.

pub to_has : (point mine : ℕ) → HasIt mine (IsTo point mine)
to_has point mine (wire x) to = ap Some to.1
to_has point mine (owner u) to = absurd to

pub asked_has : (p other mine : ℕ) → HasIt mine (IsAskedBy p other mine)
asked_has p other mine (wire x) asked = ap Some asked.2
asked_has p other mine (owner u) asked = absurd asked

at_a_side : (A : End → Type 0) (cs : List Connection) → OfOne (λ (c : Connection). A c.this ⊎ A c.that) cs → AtSide true A cs ⊎ AtSide false A cs
at_a_side A [] one = absurd one
at_a_side A (c ∷ cs) (inl (inl a)) = inl (inl a)
at_a_side A (c ∷ cs) (inl (inr a)) = inr (inl a)
at_a_side A (c ∷ cs) (inr one) = by_rest (at_a_side A cs one)
  where
    by_rest : AtSide true A cs ⊎ AtSide false A cs → AtSide true A (c ∷ cs) ⊎ AtSide false A (c ∷ cs)
    by_rest (inl a) = inl (inr a)
    by_rest (inr a) = inr (inr a)

same_point : (p q mine : ℕ) (e : End) → IsTo p mine e → IsTo q mine e → p ≡ q
same_point p q mine (wire x) one other = sym one.0 ∙ other.0
same_point p q mine (owner u) one other = absurd one

-- a reference was given to a section to one point
pub one_point : (f : Firsts) (i p q mine : ℕ) → AreFresh (f i) → Gave f i p mine → Gave f i q mine → p ≡ q
one_point f i p q mine fresh one other = by_sides (at_a_side (IsTo p mine) (f i) one) (at_a_side (IsTo q mine) (f i) other)
  where
    at : (s t : Bool) → AtSide s (IsTo p mine) (f i) → AtSide t (IsTo q mine) (f i) → p ≡ q
    at s t a b = let both = is_one mine (IsTo p mine) (IsTo q mine) s t (f i) fresh (to_has p mine) (to_has q mine) a b in same_point p q mine both.end both.one both.other

    by_sides : AtSide true (IsTo p mine) (f i) ⊎ AtSide false (IsTo p mine) (f i) → AtSide true (IsTo q mine) (f i) ⊎ AtSide false (IsTo q mine) (f i) → p ≡ q
    by_sides (inl a) (inl b) = at true true a b
    by_sides (inl a) (inr b) = at true false a b
    by_sides (inr a) (inl b) = at false true a b
    by_sides (inr a) (inr b) = at false false a b

-- a section that was asked for doesn't ask
pub asked_asks_not : (f : Firsts) (i p q other mine : ℕ) → AreFresh (f i) → AtSide true (IsAskedBy p other mine) (f i) → Asks f i q mine → ⊥
asked_asks_not f i p q other mine fresh asked asks =
    true≢false (is_one mine (IsAskedBy p other mine) (IsTo q mine) true false (f i) fresh (asked_has p other mine) (to_has q mine) asked asks).side

same_other : (p one other mine : ℕ) (e : End) → IsAskedBy p one mine e → IsAskedBy p other mine e → one ≡ other
same_other p one other mine (wire x) a b = sym a.1 ∙ b.1
same_other p one other mine (owner u) a b = absurd a

-- the section that one was asked for by is the one that it is to
pub one_pair : (f : Firsts) (i p mine one other : ℕ) → AreFresh (f i) → AtSide true (IsAskedBy p one mine) (f i) → ArePaired f i mine p other → one ≡ other
one_pair f i p mine one other fresh asked (inl too) =
    let both = is_one mine (IsAskedBy p one mine) (IsAskedBy p other mine) true true (f i) fresh (asked_has p one mine) (asked_has p other mine) asked too.0 in
    same_other p one other mine both.end both.one both.other
one_pair f i p mine one other fresh asked (inr asks) = absurd (asked_asks_not f i p p one mine fresh asked asks.1)

-- One more step.

first_part : (xs ys : List ℕ) → has_twice (xs ++ ys) ≡ false → has_twice xs ≡ false
first_part [] ys none = refl
first_part (x ∷ xs) ys none =
    let parts = or_parts (is_among x (xs ++ ys)) (has_twice (xs ++ ys)) none in
    or_from (is_among x xs) (has_twice xs) (false_from_ne_true (is_among x xs) (λ is. both_ways (is_among x (xs ++ ys)) parts.0 (among_left x xs ys is))) (first_part xs ys parts.1)

pub fresh_before : (f g : Firsts) (i : ℕ) → Begin (f i) (g i) → AreFresh (g i) → AreFresh (f i)
fresh_before f g i grows fresh =
    first_part (given_by (f i)) (given_by grows.0) (ap has_twice (sym (flat_map-append ends_of (f i) grows.0)) ∙ subst AreFresh grows.1 fresh)

-- so a run in which none was given twice had none before
node_is_fresh : (node : NodeState) → AreFresh (firsts_of node) → is_fresh node ≡ true
node_is_fresh node fresh = not_from_false (has_twice (references_of node)) (ap has_twice (firsts_given (openings_of node)) ∙ fresh)

all_are_fresh : (nodes : List NodeState) → ((k : ℕ) → k < length nodes → is_fresh (get_or nodes k (first_node 0 0)) ≡ true) → list_all is_fresh nodes ≡ true
all_are_fresh [] each = refl
all_are_fresh (node ∷ nodes) each = and_from (is_fresh node) (list_all is_fresh nodes) (each 0 (omega arith)) (all_are_fresh nodes (λ k short. each (suc k) (omega (arith, short))))

pub was_fresh : (r later : RunState) → Grows (firsts_in r) (firsts_in later) → length later.nodes ≡ length r.nodes → all_fresh later ≡ true → all_fresh r ≡ true
was_fresh r later grows long fresh =
    all_are_fresh r.nodes (λ k short.
    subst (λ p. is_fresh (get_or r.nodes p (first_node 0 0)) ≡ true) (place k)
    (node_is_fresh (node_at (k + 1) r.nodes)
    (fresh_before (firsts_in r) (firsts_in later) (k + 1) (grows (k + 1)) (run_fresh later (k + 1) (omega arith) (omega (arith, short, long)) fresh))))
  where
    place : (k : ℕ) → k + 1 - 1 ≡ k
    place k = omega arith

pub freshness_before : FreshBefore
freshness_before n steps step fresh =
    let r = run_of n steps in
    was_fresh r (after_step r step) (step_grows r step) (length_more r step) (ap all_fresh (sym (after_more (start n) steps step)) ∙ fresh)
