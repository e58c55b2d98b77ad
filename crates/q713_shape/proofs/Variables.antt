-- The variable parameters, one after the other.
use Rattle.std.proofs.Common.{◌≡◌, ℕ, ◌+◌, ◌-◌, ◌*◌, ◌<◌, ◌≤◌, Bool, List, [], ◌∷◌, ◌++◌, length, get_or, set, length-set, take, drop, replicate, Ok, Err, refl, ap, sym, ◌∙◌, add-one, arith, append-nil, take-append-drop, length-take-le}
use Rattle.std.proofs.Math.Seq.{drop-cons}
use Rattle.std.specs.Borrow.{Bor}
use Rattle.std.proofs.lemmas.List.{take_more_set, map-set, drop-set-lt, drop-drop, length-map, drop-replicate, drop_all}
use Rattle.relay_base.specs.Giving.{◌>>=◌}
use Rattle.relay_base.specs.declared.words.ReadFault.{ReadFault}
use Rattle.q713_shape.specs.declared.rules.VarRule.{VarRule}
use Rattle.q713_shape.specs.Format.{pointer_width, filled}
use Rattle.q713_shape.specs.Reading.{variable_at, variables_at, filled_variables}
use Rattle.q713_shape.specs.Parts.{slices}
use Rattle.q713_shape.proofs.Fronts.{after, after-cons}

-- the first of the variable parameters from the i-th on
variables_at-drop : (wide : Bool) (b : List ℕ) (p : ℕ) (rules : List VarRule) (i : ℕ) (d : VarRule) → i < length rules → variables_at wide b p (drop i rules) ≡ (variable_at wide b p (get_or rules i d) >>= (λ first. variables_at wide b (p + pointer_width wide) (drop (i + 1) rules) >>= (λ rest. Ok (first ∷ rest))))
unfolding variables_at
variables_at-drop wide b p rules i d h = rw (drop-cons rules i d, add-one) refl

variables_at-read : (wide : Bool) (b : List ℕ) (p : ℕ) (rules : List VarRule) (i : ℕ) (d : VarRule) (xs : List (List ℕ)) (v : List ℕ) → i < length rules → variable_at wide b p (get_or rules i d) ≡ Ok v → after xs (variables_at wide b p (drop i rules)) ≡ after (xs ++ v ∷ []) (variables_at wide b (p + pointer_width wide) (drop (i + 1) rules))
variables_at-read wide b p rules i d xs v h e = rw (variables_at-drop wide b p rules i d h, e) (after-cons xs v (variables_at wide b (p + pointer_width wide) (drop (i + 1) rules)))

variables_at-fault : (wide : Bool) (b : List ℕ) (p : ℕ) (rules : List VarRule) (i : ℕ) (d : VarRule) (fault : ReadFault) → i < length rules → variable_at wide b p (get_or rules i d) ≡ Err fault → variables_at wide b p (drop i rules) ≡ Err fault
variables_at-fault wide b p rules i d fault h e = rw (variables_at-drop wide b p rules i d h, e) refl

-- one more place of the room is taken
take-slices-set : (values : List (Bor (List ℕ))) (i : ℕ) (v : Bor (List ℕ)) → i < length values → take (i + 1) (slices (set values i v)) ≡ take i (slices values) ++ v.now ∷ []
take-slices-set values i v h =
    let h' : i < length (slices values) = rw (length-map values (λ (x : Bor (List ℕ)). x.now)) h in
    rw (map-set (λ (x : Bor (List ℕ)). x.now) values i v) (take_more_set (slices values) i v.now h')

drop-slices-set : (values : List (Bor (List ℕ))) (i room : ℕ) (v : Bor (List ℕ)) → drop i (slices values) ≡ replicate room [] → drop (i + 1) (slices (set values i v)) ≡ replicate (room - 1) []
drop-slices-set values i room v h =
    rw (map-set (λ (x : Bor (List ℕ)). x.now) values i v)
    (drop-set-lt (i + 1) (slices values) i v.now (omega arith) ∙ sym (drop-drop 1 i (slices values)) ∙ ap (drop 1) h ∙ drop-replicate 1 room [])

next_place : (place width i : ℕ) → place + width * i + width ≡ place + width * (i + 1)
next_place place width i = grind arith

-- what the loop keeps: the parameters read so far, and what the room is beyond them
pub record IsReadTo (wide : Bool) (b : List ℕ) (place width : ℕ) (rules : List VarRule) (values : List (Bor (List ℕ))) (i : ℕ) : Type 0 where
  pub so_far : variables_at wide b place rules ≡ after (take i (slices values)) (variables_at wide b (place + width * i) (drop i rules))
  pub rest : drop i (slices values) ≡ replicate (3 - i) []
  pub room : length values ≡ 3

pub IsReadTo-next : (wide : Bool) (b : List ℕ) (place width : ℕ) (rules : List VarRule) (values : List (Bor (List ℕ))) (i : ℕ) (d : VarRule) (v : Bor (List ℕ)) → width ≡ pointer_width wide → length rules ≤ 3 → i < length rules → variable_at wide b (place + width * i) (get_or rules i d) ≡ Ok v.now → IsReadTo wide b place width rules values i → IsReadTo wide b place width rules (set values i v) (i + 1)
IsReadTo-next wide b place width rules values i d v w few h e s = record {
  so_far =
      s.so_far ∙ variables_at-read wide b (place + width * i) rules i d (take i (slices values)) v.now h e
      ∙ ap (λ xs. after xs (variables_at wide b (place + width * i + pointer_width wide) (drop (i + 1) rules))) (sym (take-slices-set values i v (omega (arith, s.room))))
      ∙ ap (λ n. after (take (i + 1) (slices (set values i v))) (variables_at wide b n (drop (i + 1) rules))) (ap (λ n. place + width * i + n) (sym w) ∙ next_place place width i);
  rest = drop-slices-set values i (3 - i) v s.rest ∙ ap (λ n. replicate n []) (let n : 3 - i - 1 ≡ 3 - (i + 1) = omega arith in n);
  room = length-set values i v ∙ s.room;
}

pub IsReadTo-fault : (wide : Bool) (b : List ℕ) (place width : ℕ) (rules : List VarRule) (values : List (Bor (List ℕ))) (i : ℕ) (d : VarRule) (fault : ReadFault) → i < length rules → variable_at wide b (place + width * i) (get_or rules i d) ≡ Err fault → IsReadTo wide b place width rules values i → filled_variables wide b place rules ≡ Err fault
IsReadTo-fault wide b place width rules values i d fault h e s =
    ap (λ r. r >>= (λ vars. Ok (filled 3 [] vars))) (s.so_far ∙ ap (after (take i (slices values))) (variables_at-fault wide b (place + width * i) rules i d fault h e))

pub IsReadTo-whole : (wide : Bool) (b : List ℕ) (place width : ℕ) (rules : List VarRule) (values : List (Bor (List ℕ))) (i : ℕ) → length rules ≤ 3 → i ≤ length rules → length rules ≤ i → IsReadTo wide b place width rules values i → filled_variables wide b place rules ≡ Ok (slices values)
unfolding variables_at
IsReadTo-whole wide b place width rules values i few most least s =
    let xs : List (List ℕ) = slices values in
    let n : length (take i xs) ≡ i = length-take-le i xs (omega (arith, s.room, length-map values (λ (x : Bor (List ℕ)). x.now))) in
    let all : variables_at wide b place rules ≡ Ok (take i xs) = s.so_far ∙ ap (λ r. after (take i xs) (variables_at wide b (place + width * i) r)) (drop_all i rules least) ∙ ap Ok (append-nil (take i xs)) in
    ap (λ r. r >>= (λ vars. Ok (filled 3 [] vars))) all ∙ ap Ok (ap (λ k. take i xs ++ replicate (3 - k) []) n ∙ ap (λ r. take i xs ++ r) (sym s.rest) ∙ take-append-drop i xs)
