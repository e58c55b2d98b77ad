-- The references that a journal gave.
use Rattle.std.proofs.Common.{◌≡◌, ℕ, Bool, true, false, List, [], ◌∷◌, ◌++◌, refl, sym, subst, ap, ap₂, ◌∙◌, arith, append-nil}
use Rattle.std.specs.Prelude.{◌||◌, nat_eq, map, flat_map, Option, Some, None}
use Rattle.std.proofs.lemmas.List.Concat.{flat_map-append}
use Rattle.relay_base.specs.declared.words.Event.{Event}
use Rattle.plant_core.specs.declared.answer.Answer.{Answer}
use Rattle.section_model.specs.Ends.{Connection}
use Rattle.section_model.specs.Opening.{wish_of}
use Rattle.section_model.specs.Lane.{Lane, Opening, with_event, opening_of, opening_list, openings_after}
use Rattle.chain_step.specs.Fresh.{listed, references_in, is_among, has_twice}
use Rattle.conn_journal.specs.Outcomes.{taken_by}
use Rattle.chain_node.specs.Inner.Taking.{ReferencesState, AreTaken, is_it, had}

or_assoc : (a b c : Bool) → ((a || b) || c) ≡ (a || (b || c))
or_assoc true b c = refl
or_assoc false b c = refl

or_false : (a : Bool) → (a || false) ≡ a
or_false true = refl
or_false false = refl

or_comm : (a b : Bool) → (a || b) ≡ (b || a)
or_comm true true = refl
or_comm true false = refl
or_comm false true = refl
or_comm false false = refl

or_swap : (a b c d : Bool) → ((a || b) || (c || d)) ≡ ((a || c) || (b || d))
or_swap true b c d = refl
or_swap false true true d = refl
or_swap false true false d = refl
or_swap false false true d = refl
or_swap false false false d = refl

eq_swap : (m n : ℕ) → nat_eq m n ≡ nat_eq n m
eq_swap m n = grind arith

among_append : (mine : ℕ) (xs ys : List ℕ) → is_among mine (xs ++ ys) ≡ (is_among mine xs || is_among mine ys)
among_append mine [] ys = refl
among_append mine (x ∷ xs) ys = ap (λ b. nat_eq mine x || b) (among_append mine xs ys) ∙ sym (or_assoc (nat_eq mine x) (is_among mine xs) (is_among mine ys))

among_more : (mine : ℕ) (xs : List ℕ) (y : ℕ) → is_among mine (xs ++ y ∷ []) ≡ (is_among mine xs || nat_eq y mine)
among_more mine xs y = among_append mine xs (y ∷ []) ∙ ap (λ b. is_among mine xs || b) (or_false (nat_eq mine y) ∙ eq_swap mine y)

twice_more : (xs : List ℕ) (y : ℕ) → has_twice (xs ++ y ∷ []) ≡ (has_twice xs || is_among y xs)
twice_more [] y = refl
twice_more (x ∷ xs) y =
    ap₂ (λ p q. p || q) (among_more x xs y) (twice_more xs y)
    ∙ or_swap (is_among x xs) (nat_eq y x) (has_twice xs) (is_among y xs)

-- an end takes a reference, if it does
pub taken_one : (references later : ReferencesState) (list : List ℕ) (mine : Option ℕ) → AreTaken references list
    → ((r : ℕ) → is_among r later.taken ≡ (is_it mine r || is_among r references.taken)) → later.twice ≡ (references.twice || had mine references.taken)
    → AreTaken later (list ++ listed mine)
taken_one references later list None are each twice =
    subst (AreTaken later) (sym (append-nil list)) (record { each = λ r. each r ∙ are.each r; twice = twice ∙ (or_false references.twice ∙ are.twice) })
taken_one references later list (Some mine) are each twice = record {
  each = λ r.
      each r
      ∙ (or_comm (nat_eq mine r) (is_among r references.taken)
      ∙ (ap (λ b. b || nat_eq mine r) (are.each r) ∙ sym (among_more r list mine)));
  twice = twice ∙ (ap₂ (λ p q. p || q) are.twice (are.each mine) ∙ sym (twice_more list mine));
}

-- the references after one more entry

references_kept : (event : Event) (openings : List Opening) → flat_map references_in (map (with_event event) openings) ≡ flat_map references_in openings
references_kept event [] = refl
references_kept event (o ∷ openings) = ap (λ more. references_in o ++ more) (references_kept event openings)

references_opened : (c : Option Connection) → flat_map references_in (opening_list c) ≡ listed (taken_by (λ c. c.this) c) ++ listed (taken_by (λ c. c.that) c)
references_opened None = refl
references_opened (Some c) = append-nil (references_in (record { first = c; since = [] }))

pub references_after : (lane : Lane) (openings : List Opening) (event : Event) (answer : Option Answer) → let c : Option Connection = (opening_of lane openings (wish_of lane.terms event) answer).connection in
    flat_map references_in (openings_after lane openings event answer) ≡ flat_map references_in openings ++ (listed (taken_by (λ c. c.this) c) ++ listed (taken_by (λ c. c.that) c))
unfolding openings_after
references_after lane openings event answer =
    let c : Option Connection = (opening_of lane openings (wish_of lane.terms event) answer).connection in
    flat_map-append references_in (map (with_event event) openings) (opening_list c)
    ∙ ap₂ (λ xs ys. xs ++ ys) (references_kept event openings) (references_opened c)
