-- Optional parameters, taken one after the other.
use Rattle.std.proofs.Common.{◌≡◌, ◌⊎◌, inl, inr, ℕ, suc, ◌+◌, ◌<◌, ◌≤◌, ◌==◌, ◌&&◌, Bool, true, false, not, List, [], ◌∷◌, ◌++◌, length, get_or, set, length-set, take, drop, map, Ok, Err, refl, ap, sym, ◌∙◌, add-one, arith, append_assoc, take-append-drop, if◌then◌else◌}
use Rattle.std.specs.Prelude.{Option, Some, None}
use Rattle.std.specs.Option.{option_map, is_some}
use Rattle.std.specs.Borrow.{Bor}
use Rattle.std.proofs.Math.Seq.{drop-cons}
use Rattle.std.proofs.Math.ListN.{get_or-map}
use Rattle.std.proofs.lemmas.Bool.{eq-eqb}
use Rattle.std.proofs.lemmas.List.{take_more, take_more_set, map-set, drop-set-lt, length-map, drop_all}
use Rattle.std.specs.declared.result.Result.{Result}
use Rattle.q713_shape.specs.Parts.{optional_slices}
use Rattle.q713_shape.specs.Inner.Taking.{taken_with, names_left, found_with}
use Rattle.q713_shape.specs.Format.{is_option_length}
use Rattle.relay_base.specs.declared.words.ReadFault.TheVariants.{ValueLength}
use Rattle.std.specs.List.{list_any}
use Rattle.q713_shape.proofs.Fronts.{after}

-- what the loop keeps: the values up to a place are those of the result
pub record IsTakenTo (names : List ℕ) (n : ℕ) (v : List ℕ) (before values : List (Option (Bor (List ℕ)))) (i : ℕ) : Type 0 where
  pub so_far : taken_with names (optional_slices before) n v ≡ after (take i (optional_slices values)) (taken_with (drop i names) (drop i (optional_slices values)) n v)
  pub room : length values ≡ 5

after-after : {A E : Type 0} (xs : List A) (ys : List A) (r : Result (List A) E) → after xs (after ys r) ≡ after (xs ++ ys) r
after-after xs ys (Ok zs) = ap Ok (sym (append_assoc xs ys zs))
after-after xs ys (Err e) = refl

after-if : {A E : Type 0} (t : Bool) (e : E) (x : A) (xs : List A) → (if t then Err e else Ok (x ∷ xs)) ≡ after (x ∷ []) (if t then Err e else Ok xs)
after-if true e x xs = refl
after-if false e x xs = refl

and-not-true : (t : Bool) → (t && not true) ≡ false
and-not-true true = refl
and-not-true false = refl

-- the steps, by what stands at the first place
taken_with-found : (name : ℕ) (names : List ℕ) (x : List ℕ) (found : List (Option (List ℕ))) (n : ℕ) (v : List ℕ) → taken_with (name ∷ names) (Some x ∷ found) n v ≡ after (Some x ∷ []) (taken_with names found n v)
unfolding taken_with
taken_with-found name names x found n v = after-if (list_any (λ m. m == n) (names_left names found) && not (is_option_length n (length v))) (ValueLength n) (Some x) (found_with names found n v)

taken_with-other : (name : ℕ) (names : List ℕ) (found : List (Option (List ℕ))) (n : ℕ) (v : List ℕ) → (name == n) ≡ false → taken_with (name ∷ names) (None ∷ found) n v ≡ after (None ∷ []) (taken_with names found n v)
unfolding taken_with
taken_with-other name names found n v e = rw e (after-if (list_any (λ m. m == n) (names_left names found) && not (is_option_length n (length v))) (ValueLength n) None (found_with names found n v))

taken_with-value : (name : ℕ) (names : List ℕ) (found : List (Option (List ℕ))) (n : ℕ) (v : List ℕ) → (name == n) ≡ true → is_option_length n (length v) ≡ true → taken_with (name ∷ names) (None ∷ found) n v ≡ after (Some v ∷ []) (taken_with names found n v)
unfolding taken_with
taken_with-value name names found n v e h = rw (e, h, and-not-true (list_any (λ m. m == n) (names_left names found))) refl

taken_with-fault : (name : ℕ) (names : List ℕ) (found : List (Option (List ℕ))) (n : ℕ) (v : List ℕ) → (name == n) ≡ true → is_option_length n (length v) ≡ false → taken_with (name ∷ names) (None ∷ found) n v ≡ Err (ValueLength n)
unfolding taken_with
taken_with-fault name names found n v e h = rw (e, h) refl

-- the place i of the values found
drop-slices : (values : List (Option (Bor (List ℕ)))) (i : ℕ) → i < length values → drop i (optional_slices values) ≡ option_map (λ x. x.now) (get_or values i None) ∷ drop (i + 1) (optional_slices values)
drop-slices values i h =
    let f : Option (Bor (List ℕ)) → Option (List ℕ) = option_map (λ x. x.now) in
    let n : i < length (map f values) = rw (length-map values f) h in
    drop-cons (map f values) i None n ∙ ap (λ x. x ∷ drop (suc i) (map f values)) (get_or-map f values i None) ∙ ap (λ m. f (get_or values i None) ∷ drop m (map f values)) (sym (add-one i))

drop-names : (names : List ℕ) (i : ℕ) → i < length names → drop i names ≡ get_or names i 0 ∷ drop (i + 1) names
drop-names names i h = rw (add-one) (drop-cons names i 0 h)

-- the next place, whatever it gets
next_place : (names : List ℕ) (n : ℕ) (v : List ℕ) (before values later : List (Option (Bor (List ℕ)))) (i : ℕ) (y : Option (List ℕ)) → taken_with (drop i names) (drop i (optional_slices values)) n v ≡ after (y ∷ []) (taken_with (drop (i + 1) names) (drop (i + 1) (optional_slices values)) n v) → take (i + 1) (optional_slices later) ≡ take i (optional_slices values) ++ y ∷ [] → drop (i + 1) (optional_slices later) ≡ drop (i + 1) (optional_slices values) → length later ≡ 5 → IsTakenTo names n v before values i → IsTakenTo names n v before later (i + 1)
next_place names n v before values later i y step front back room s = record {
  so_far =
      s.so_far ∙ ap (after (take i (optional_slices values))) step
      ∙ after-after (take i (optional_slices values)) (y ∷ []) (taken_with (drop (i + 1) names) (drop (i + 1) (optional_slices values)) n v)
      ∙ ap (λ xs. after xs (taken_with (drop (i + 1) names) (drop (i + 1) (optional_slices values)) n v)) (sym front)
      ∙ ap (λ xs. after (take (i + 1) (optional_slices later)) (taken_with (drop (i + 1) names) xs n v)) (sym back);
  room = room;
}

none_is : (x : Option (Bor (List ℕ))) → is_some x ≡ false → x ≡ None
none_is None e = refl
none_is (Some x) e = absurd (cc)

-- a place that stays as it is
stays : (name : ℕ) (names : List ℕ) (x : Option (Bor (List ℕ))) (found : List (Option (List ℕ))) (n : ℕ) (v : List ℕ) → (is_some x ≡ true) ⊎ ((name == n) ≡ false) → taken_with (name ∷ names) (option_map (λ x. x.now) x ∷ found) n v ≡ after (option_map (λ x. x.now) x ∷ []) (taken_with names found n v)
stays name names (Some x) found n v e = taken_with-found name names x.now found n v
stays name names None found n v (inl e) = absurd (cc)
stays name names None found n v (inr e) = taken_with-other name names found n v e

pub IsTakenTo-same : (names : List ℕ) (n : ℕ) (v : List ℕ) (before values : List (Option (Bor (List ℕ)))) (i : ℕ) → i < length names → length names ≤ 5 → (is_some (get_or values i None) ≡ true) ⊎ ((get_or names i 0 == n) ≡ false) → IsTakenTo names n v before values i → IsTakenTo names n v before values (i + 1)
IsTakenTo-same names n v before values i h few e s =
    let f : Option (Bor (List ℕ)) → Option (List ℕ) = option_map (λ x. x.now) in
    let room : i < length values = omega (arith, s.room) in
    let room' : i < length (map f values) = rw (length-map values f) room in
    let x : Option (Bor (List ℕ)) = get_or values i None in
    next_place names n v before values values i (f x)
    (rw (drop-names names i h, drop-slices values i room) (stays (get_or names i 0) (drop (i + 1) names) x (drop (i + 1) (map f values)) n v e))
    (take_more (map f values) i None room' ∙ ap (λ y. take i (map f values) ++ y ∷ []) (get_or-map f values i None))
    refl s.room s

pub IsTakenTo-set : (names : List ℕ) (n : ℕ) (v : Bor (List ℕ)) (before values : List (Option (Bor (List ℕ)))) (i : ℕ) → i < length names → length names ≤ 5 → is_some (get_or values i None) ≡ false → get_or names i 0 ≡ n → is_option_length n (length v.now) ≡ true → IsTakenTo names n v.now before values i → IsTakenTo names n v.now before (set values i (Some v)) (i + 1)
IsTakenTo-set names n v before values i h few none e good s =
    let f : Option (Bor (List ℕ)) → Option (List ℕ) = option_map (λ x. x.now) in
    let room : i < length values = omega (arith, s.room) in
    let room' : i < length (map f values) = rw (length-map values f) room in
    next_place names n v.now before values (set values i (Some v)) i (Some v.now)
    (rw (drop-names names i h, drop-slices values i room, none_is (get_or values i None) none) (taken_with-value (get_or names i 0) (drop (i + 1) names) (drop (i + 1) (map f values)) n v.now (eq-eqb (get_or names i 0) n e) good))
    (rw (map-set f values i (Some v)) (take_more_set (map f values) i (Some v.now) room'))
    (rw (map-set f values i (Some v)) (drop-set-lt (i + 1) (map f values) i (Some v.now) (omega arith)))
    (length-set values i (Some v) ∙ s.room) s

pub IsTakenTo-fault : (names : List ℕ) (n : ℕ) (v : List ℕ) (before values : List (Option (Bor (List ℕ)))) (i : ℕ) → i < length names → length names ≤ 5 → is_some (get_or values i None) ≡ false → get_or names i 0 ≡ n → is_option_length n (length v) ≡ false → IsTakenTo names n v before values i → taken_with names (optional_slices before) n v ≡ Err (ValueLength n)
IsTakenTo-fault names n v before values i h few none e bad s =
    let f : Option (Bor (List ℕ)) → Option (List ℕ) = option_map (λ x. x.now) in
    let room : i < length values = omega (arith, s.room) in
    s.so_far ∙ ap (after (take i (map f values))) {y = Err (ValueLength n)}
    (rw (drop-names names i h, drop-slices values i room, none_is (get_or values i None) none) (taken_with-fault (get_or names i 0) (drop (i + 1) names) (drop (i + 1) (map f values)) n v (eq-eqb (get_or names i 0) n e) bad))

pub IsTakenTo-whole : (names : List ℕ) (n : ℕ) (v : List ℕ) (before values : List (Option (Bor (List ℕ)))) (i : ℕ) → length names ≤ i → IsTakenTo names n v before values i → taken_with names (optional_slices before) n v ≡ Ok (optional_slices values)
unfolding taken_with
IsTakenTo-whole names n v before values i h s =
    s.so_far ∙ ap (λ ns. after (take i (optional_slices values)) (taken_with ns (drop i (optional_slices values)) n v)) (drop_all i names h) ∙ ap Ok (take-append-drop i (optional_slices values))
