-- What holds of both arms, and of each element of a list.
use Rattle.std.proofs.Common.{ℕ, zero, suc, Bool, true, false, List, [], ◌∷◌, ◌++◌, map, take, drop, if◌then◌else◌}
use Rattle.std.specs.List.{AllByRecursion}

-- a property of both arms
pub either : {A : Type 0} (P : A → Type 0) (b : Bool) (x y : A) → P x → P y → P (if b then x else y)
either P true x y f g = f
either P false x y f g = g

pub all-append : {A : Type 0} (P : A → Type 0) (xs ys : List A) → AllByRecursion P xs → AllByRecursion P ys → AllByRecursion P (xs ++ ys)
all-append P [] ys f g = g
all-append P (x ∷ xs) ys f g = (f.0, all-append P xs ys f.1 g)

-- of each element of a list that a function gives, whatever it is given
pub all-given : {A B : Type 0} (P : B → Type 0) (f : A → B) → ((x : A) → P (f x)) → (xs : List A) → AllByRecursion P (map f xs)
all-given P f holds [] = tt
all-given P f holds (x ∷ xs) = (holds x, all-given P f holds xs)

pub all-take : {A : Type 0} (P : A → Type 0) (n : ℕ) (xs : List A) → AllByRecursion P xs → AllByRecursion P (take n xs)
all-take P zero xs f = tt
all-take P (suc n) [] f = tt
all-take P (suc n) (x ∷ xs) f = (f.0, all-take P n xs f.1)

pub all-drop : {A : Type 0} (P : A → Type 0) (n : ℕ) (xs : List A) → AllByRecursion P xs → AllByRecursion P (drop n xs)
all-drop P zero xs f = f
all-drop P (suc n) [] f = tt
all-drop P (suc n) (x ∷ xs) f = all-drop P n xs f.1
