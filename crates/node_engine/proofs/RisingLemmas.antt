-- Lists of editions that never fall.
use Rattle.std.proofs.Common.{ℕ, suc, ◌-◌, ◌≤◌, ◌<◌, List, [], ◌∷◌, ◌++◌, length, get_or, sym, subst, arith, append-nil, append_assoc}
use Rattle.std.proofs.lemmas.List.Elements.{All-from_recursion}
use Rattle.std.proofs.lemmas.List.Sorted.{IsNonDecreasingBy-push}
use Rattle.std.specs.List.{AllByRecursion}
use Rattle.std.specs.List.Sorted.{IsNonDecreasing}
use Rattle.right_book.proofs.ListLemmas.{weaker, all-push}

all-from : {A : Type 0} (P : A → Type 0) (xs : List A) → ((i : ℕ) (d : A) → i < length xs → P (get_or xs i d)) → AllByRecursion P xs
all-from P [] f = tt
all-from P (x ∷ xs) f = (f 0 x (omega arith), all-from P xs (λ i d lt. f (suc i) d (omega (arith, lt))))

first-least : (y : ℕ) (ys : List ℕ) → IsNonDecreasing (y ∷ ys) → AllByRecursion (λ n. y ≤ n) ys
first-least y ys r = all-from (λ n. y ≤ n) ys (λ i d lt. r 0 (suc i) d (omega arith) (omega (arith, lt)))

rest-rising : (y : ℕ) (ys : List ℕ) → IsNonDecreasing (y ∷ ys) → IsNonDecreasing ys
rest-rising y ys r i j d le lt = r (suc i) (suc j) d (omega (arith, le)) (omega (arith, lt))

rising-push : (most : ℕ) (editions : List ℕ) → AllByRecursion (λ n. n ≤ most) editions → IsNonDecreasing editions → IsNonDecreasing (editions ++ most ∷ [])
rising-push most editions h r =
    IsNonDecreasingBy-push (λ n. n) editions most r (λ d some. All-from_recursion (λ n. n ≤ most) editions h (length editions - 1) d (omega (arith, some)))

-- editions up to one, and then editions from it on
pub rising-append : (m : ℕ) (xs ys : List ℕ) → AllByRecursion (λ n. n ≤ m) xs → AllByRecursion (λ n. m ≤ n) ys → IsNonDecreasing xs → IsNonDecreasing ys → IsNonDecreasing (xs ++ ys)
rising-append m xs [] low high rx ry = subst IsNonDecreasing (sym (append-nil xs)) rx
rising-append m xs (y ∷ ys) low high rx ry =
    let lower : AllByRecursion (λ n. n ≤ y) xs = weaker (λ n. n ≤ m) (λ n. n ≤ y) xs (λ n le. omega (arith, le, high.0)) low in
    subst IsNonDecreasing (append_assoc xs (y ∷ []) ys)
    (rising-append y (xs ++ y ∷ []) ys (all-push (λ n. n ≤ y) xs y lower (omega arith)) (first-least y ys ry) (rising-push y xs lower rx) (rest-rising y ys ry))
