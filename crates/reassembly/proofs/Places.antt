-- The place of the one element that passes a test: what a list is without it, and with another in its stead.
use Rattle.std.proofs.Common.{◌≡◌, ℕ, ◌+◌, ◌<◌, ◌≤◌, Bool, true, false, not, cond, ltb, List, [], ◌∷◌, length, map, filter, Some, None, refl, sym, ap, ◌∙◌, ⊎_elim, arith}
use Rattle.std.specs.List.{remove, find, position, position_or_len}
use Rattle.std.proofs.Math.ListN.{set, get_or}
use Rattle.std.proofs.lemmas.Bool.{cases_Bool, ltb-true, ltb-false}
use Rattle.std.proofs.lemmas.List.Folds.{find_at}
use Rattle.std.proofs.lemmas.Option.{slice_get_read}
use Rattle.std.proofs.lemmas.Grind.{common_steps}

-- no element passes
pub others_none : {X : Type 0} (p : X → Bool) (xs : List X) → length (filter p xs) ≤ 0 → filter (λ y. not (p y)) xs ≡ xs
others_none p [] none = refl
others_none p (x ∷ xs) none =
    ⊎_elim
    (λ (e : p x ≡ true). let h = rw e at none in absurd (omega arith))
    (λ (e : p x ≡ false). let h = rw e at none in rw e (ap (λ l. x ∷ l) (others_none p xs h)))
    (cases_Bool (p x))

map_none : {X : Type 0} (p : X → Bool) (y : X) (xs : List X) → length (filter p xs) ≤ 0 → map (λ z. cond (p z) y z) xs ≡ xs
map_none p y [] none = refl
map_none p y (x ∷ xs) none =
    ⊎_elim
    (λ (e : p x ≡ true). let h = rw e at none in absurd (omega arith))
    (λ (e : p x ≡ false). let h = rw e at none in rw e (ap (λ l. x ∷ l) (map_none p y xs h)))
    (cases_Bool (p x))

remove-next : {X : Type 0} (x : X) (xs : List X) (i : ℕ) → remove (x ∷ xs) (1 + i) ≡ x ∷ remove xs i
remove-next x xs i = grind arith

set-next : {X : Type 0} (x y : X) (xs : List X) (i : ℕ) → set (x ∷ xs) (1 + i) y ≡ x ∷ set xs i y
set-next x y xs i = grind arith

pub removed : {X : Type 0} (p : X → Bool) (xs : List X) → position_or_len p xs < length xs → length (filter p xs) ≤ 1 → remove xs (position_or_len p xs) ≡ filter (λ y. not (p y)) xs
removed p [] within one = absurd (omega arith)
removed p (x ∷ xs) within one =
    ⊎_elim
    (λ (e : p x ≡ true). let h = rw e at one in rw e (sym (others_none p xs (omega arith))))
    (λ (e : p x ≡ false). let h = rw e at one in let w = rw e at within in rw e (remove-next x xs _ ∙ ap (λ l. x ∷ l) (removed p xs (omega arith) h)))
    (cases_Bool (p x))

pub changed : {X : Type 0} (p : X → Bool) (y : X) (xs : List X) → position_or_len p xs < length xs → length (filter p xs) ≤ 1 → set xs (position_or_len p xs) y ≡ map (λ z. cond (p z) y z) xs
changed p y [] within one = absurd (omega arith)
changed p y (x ∷ xs) within one =
    ⊎_elim
    (λ (e : p x ≡ true). let h = rw e at one in rw e (ap (λ l. y ∷ l) (sym (map_none p y xs (omega arith)))))
    (λ (e : p x ≡ false). let h = rw e at one in let w = rw e at within in rw e (set-next x y xs _ ∙ ap (λ l. x ∷ l) (changed p y xs (omega arith) h)))
    (cases_Bool (p x))

pub remove-set : {X : Type 0} (xs : List X) (i : ℕ) (y : X) → remove (set xs i y) i ≡ remove xs i
remove-set xs i y = grind (arith, common_steps)

-- the first element that passes stands there
pub record StandsAt {X : Type 0} (p : X → Bool) (xs : List X) (i : ℕ) : Type 0 where
  pub here : i ≡ position_or_len p xs
  pub within : i < length xs

pub place_from_position : {X : Type 0} (p : X → Bool) (xs : List X) (i : ℕ) → position p xs ≡ Some i → StandsAt p xs i
place_from_position p xs i e =
    ⊎_elim
    (λ (t : ltb (position_or_len p xs) (length xs) ≡ true). let h = rw t at e in let s : position_or_len p xs ≡ i = cc in record { here = sym s; within = let w = ltb-true _ _ t in omega arith })
    (λ (t : ltb (position_or_len p xs) (length xs) ≡ false). let h = rw t at e in cc)
    (cases_Bool (ltb (position_or_len p xs) (length xs)))

pub none_from_position : {X : Type 0} (p : X → Bool) (xs : List X) → position p xs ≡ None → length xs ≤ position_or_len p xs
none_from_position p xs e =
    ⊎_elim
    (λ (t : ltb (position_or_len p xs) (length xs) ≡ true). let h = rw t at e in cc)
    (λ (t : ltb (position_or_len p xs) (length xs) ≡ false). ltb-false _ _ t)
    (cases_Bool (ltb (position_or_len p xs) (length xs)))

find_none : {X : Type 0} (p : X → Bool) (xs : List X) → length xs ≤ position_or_len p xs → find p xs ≡ None
find_none p [] past = refl
find_none p (x ∷ xs) past =
    ⊎_elim
    (λ (e : p x ≡ true). let h = rw e at past in absurd (omega arith))
    (λ (e : p x ≡ false). let h = rw e at past in rw e (find_none p xs (omega arith)))
    (cases_Bool (p x))

others_all : {X : Type 0} (p : X → Bool) (xs : List X) → length xs ≤ position_or_len p xs → filter (λ y. not (p y)) xs ≡ xs
others_all p [] past = refl
others_all p (x ∷ xs) past =
    ⊎_elim
    (λ (e : p x ≡ true). let h = rw e at past in absurd (omega arith))
    (λ (e : p x ≡ false). let h = rw e at past in rw e (ap (λ l. x ∷ l) (others_all p xs (omega arith))))
    (cases_Bool (p x))

-- what a list is without the element that passes, and with another in its stead
pub record Placed {X : Type 0} (p : X → Bool) (xs : List X) (i : ℕ) : Type 0 where
  pub within : i < length xs
  pub without : remove xs i ≡ filter (λ y. not (p y)) xs
  pub with : (y : X) → set xs i y ≡ map (λ z. cond (p z) y z) xs
  pub found : (x : X) → x ≡ get_or xs i x → find p xs ≡ Some x

pub placed : {X : Type 0} (p : X → Bool) (xs : List X) (i : ℕ) → position p xs ≡ Some i → length (filter p xs) ≤ 1 → Placed p xs i
placed p xs i e one =
    let s = place_from_position p xs i e in
    let w : position_or_len p xs < length xs = omega arith in
    record {
      within = s.within;
      without = rw s.here (removed p xs w one);
      with = λ y. rw s.here (changed p y xs w one);
      found = λ x is. find_at p xs ∙ slice_get_read xs (length xs) (position_or_len p xs) x refl w (rw s.here at is);
    }

pub record Missing {X : Type 0} (p : X → Bool) (xs : List X) : Type 0 where
  pub not_found : find p xs ≡ None
  pub all : filter (λ y. not (p y)) xs ≡ xs

pub missing : {X : Type 0} (p : X → Bool) (xs : List X) → position p xs ≡ None → Missing p xs
missing p xs e =
    let past = none_from_position p xs e in
    record { not_found = find_none p xs past; all = others_all p xs past }
