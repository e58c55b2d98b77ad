-- Facts on each two lanes of two lists.
use Rattle.std.proofs.Common.{◌≡◌, ℕ, zero, ◌+◌, ◌<◌, List, [], ◌∷◌, ◌++◌, length, map, get_or, suc, refl, ap, subst, add-zero, arith}
use Rattle.std.specs.List.{AllByRecursion}
use Rattle.right_book.specs.Lanes.{LanesFrom}
use Rattle.link_threads.specs.Pairs.{PairsFrom}

pub pairs-refl : {A : Type 0} (R : ℕ → A → A → Type 0) (n : ℕ) (xs : List A) → ((k : ℕ) (x : A) → R k x x) → PairsFrom R n xs xs
pairs-refl R n [] f = tt
pairs-refl R n (x ∷ xs) f = (f n x, pairs-refl R (n + 1) xs f)

pub pairs-length : {A B : Type 0} (R : ℕ → A → B → Type 0) (n : ℕ) (xs : List A) (ys : List B) → PairsFrom R n xs ys → length ys ≡ length xs
pairs-length R n [] [] h = refl
pairs-length R n [] (y ∷ ys) h = absurd h
pairs-length R n (x ∷ xs) [] h = absurd h
pairs-length R n (x ∷ xs) (y ∷ ys) h = ap suc (pairs-length R (n + 1) xs ys h.1)

pub pairs-join : {A : Type 0} (R S T : ℕ → A → A → Type 0) (n : ℕ) (xs ys zs : List A) → ((k : ℕ) (x y z : A) → R k x y → S k y z → T k x z) → PairsFrom R n xs ys → PairsFrom S n ys zs → PairsFrom T n xs zs
pairs-join R S T n [] [] [] f g h = tt
pairs-join R S T n [] [] (z ∷ zs) f g h = absurd h
pairs-join R S T n [] (y ∷ ys) zs f g h = absurd g
pairs-join R S T n (x ∷ xs) [] zs f g h = absurd g
pairs-join R S T n (x ∷ xs) (y ∷ ys) [] f g h = absurd h
pairs-join R S T n (x ∷ xs) (y ∷ ys) (z ∷ zs) f g h = (f n x y z g.0 h.0, pairs-join R S T (n + 1) xs ys zs f g.1 h.1)

-- what stands of the lanes before, and of each two, stands of the lanes after
pub pairs-all : {A : Type 0} (P Q : A → Type 0) (R : ℕ → A → A → Type 0) (n : ℕ) (xs ys : List A) → ((k : ℕ) (x y : A) → P x → R k x y → Q y) → AllByRecursion P xs → PairsFrom R n xs ys → AllByRecursion Q ys
pairs-all P Q R n [] [] f g h = tt
pairs-all P Q R n [] (y ∷ ys) f g h = absurd h
pairs-all P Q R n (x ∷ xs) [] f g h = absurd h
pairs-all P Q R n (x ∷ xs) (y ∷ ys) f g h = (f n x y g.0 h.0, pairs-all P Q R (n + 1) xs ys f g.1 h.1)

pub pairs-lanes : {A B : Type 0} (P : ℕ → A → Type 0) (Q : ℕ → B → Type 0) (R : ℕ → A → B → Type 0) (n : ℕ) (xs : List A) (ys : List B) → ((k : ℕ) (x : A) (y : B) → P k x → R k x y → Q k y) → LanesFrom P n xs → PairsFrom R n xs ys → LanesFrom Q n ys
pairs-lanes P Q R n [] [] f g h = tt
pairs-lanes P Q R n [] (y ∷ ys) f g h = absurd h
pairs-lanes P Q R n (x ∷ xs) [] f g h = absurd h
pairs-lanes P Q R n (x ∷ xs) (y ∷ ys) f g h = (f n x y g.0 h.0, pairs-lanes P Q R (n + 1) xs ys f g.1 h.1)

-- each two lanes, seen by a part of them
pub pairs-map : {A B : Type 0} (P : ℕ → A → Type 0) (R : ℕ → A → A → Type 0) (S : ℕ → B → B → Type 0) (f : A → B) (n : ℕ) (xs ys : List A) → ((k : ℕ) (x y : A) → P k x → R k x y → S k (f x) (f y)) → LanesFrom P n xs → PairsFrom R n xs ys → PairsFrom S n (map f xs) (map f ys)
pairs-map P R S f n [] [] s g h = tt
pairs-map P R S f n [] (y ∷ ys) s g h = absurd h
pairs-map P R S f n (x ∷ xs) [] s g h = absurd h
pairs-map P R S f n (x ∷ xs) (y ∷ ys) s g h = (s n x y g.0 h.0, pairs-map P R S f (n + 1) xs ys s g.1 h.1)

-- one more of each
pub pairs-push : {A B : Type 0} (R : ℕ → A → B → Type 0) (n : ℕ) (xs : List A) (ys : List B) (x : A) (y : B) → PairsFrom R n xs ys → R (n + length xs) x y → PairsFrom R n (xs ++ x ∷ []) (ys ++ y ∷ [])
pairs-push R n [] [] x y h r = (subst (λ k. R k x y) (add-zero n) r, tt)
pairs-push R n [] (b ∷ ys) x y h r = absurd h
pairs-push R n (a ∷ xs) [] x y h r = absurd h
pairs-push R n (a ∷ xs) (b ∷ ys) x y h r = (h.0, pairs-push R (n + 1) xs ys x y h.1 (subst (λ k. R k x y) (omega arith) r))

pub pairs-weaker : {A : Type 0} (R S : ℕ → A → A → Type 0) (n : ℕ) (xs ys : List A) → ((k : ℕ) (x y : A) → R k x y → S k x y) → PairsFrom R n xs ys → PairsFrom S n xs ys
pairs-weaker R S n [] [] f h = tt
pairs-weaker R S n [] (y ∷ ys) f h = absurd h
pairs-weaker R S n (x ∷ xs) [] f h = absurd h
pairs-weaker R S n (x ∷ xs) (y ∷ ys) f h = (f n x y h.0, pairs-weaker R S (n + 1) xs ys f h.1)

-- from what is said of each two of one place, if the lists are of one length
pairs-from : {A B : Type 0} (R : ℕ → A → B → Type 0) (n : ℕ) (xs : List A) (ys : List B) → length ys ≡ length xs → ((i : ℕ) (d : A) (e : B) → i < length xs → R (n + i) (get_or xs i d) (get_or ys i e)) → PairsFrom R n xs ys
pairs-from R n [] [] same h = tt
pairs-from R n [] (y ∷ ys) same h = absurd (omega (arith, same))
pairs-from R n (x ∷ xs) [] same h = absurd (omega (arith, same))
pairs-from R n (x ∷ xs) (y ∷ ys) same h = (
  subst (λ k. R k x y) (add-zero n) (h zero x y (omega arith)),
  pairs-from R (n + 1) xs ys (omega (arith, same)) (λ i d e lt. subst (λ k. R k (get_or xs i d) (get_or ys i e)) (omega arith) (h (suc i) d e (omega (arith, lt)))),
)

pub pairs-by : {A B : Type 0} (R : ℕ → A → B → Type 0) (xs : List A) (ys : List B) → length ys ≡ length xs → ((i : ℕ) (d : A) (e : B) → i < length xs → R i (get_or xs i d) (get_or ys i e)) → PairsFrom R 0 xs ys
pairs-by R xs ys same h = pairs-from R 0 xs ys same (λ i d e lt. subst (λ k. R k (get_or xs i d) (get_or ys i e)) (omega arith) (h i d e lt))

-- what is said of the one of a place
lanes-from : {A : Type 0} (P : ℕ → A → Type 0) (n i : ℕ) (xs : List A) (d : A) → i < length xs → LanesFrom P n xs → P (n + i) (get_or xs i d)
lanes-from P n i [] d lt h = absurd (omega (arith, lt))
lanes-from P n zero (x ∷ xs) d lt h = subst (λ k. P k x) (omega arith) h.0
lanes-from P n (suc i) (x ∷ xs) d lt h = subst (λ k. P k (get_or xs i d)) (omega arith) (lanes-from P (n + 1) i xs d (omega (arith, lt)) h.1)

pub lanes-at : {A : Type 0} (P : ℕ → A → Type 0) (i : ℕ) (xs : List A) (d : A) → i < length xs → LanesFrom P 0 xs → P i (get_or xs i d)
lanes-at P i xs d lt h = subst (λ k. P k (get_or xs i d)) (omega arith) (lanes-from P 0 i xs d lt h)
