-- Facts on each member of a list, and on each lane of a list of lanes.
use Rattle.std.proofs.Common.{◌≡◌, ℕ, ◌+◌, Bool, true, false, cond, List, [], ◌∷◌, ◌++◌, length, map, refl, ap, ◌∙◌, subst, add-zero, zero-add, arith}
use Rattle.std.specs.Prelude.{count_by, filter}
use Rattle.std.proofs.lemmas.List.Sums.{sum_by-append}
use Rattle.std.specs.List.{AllByRecursion}
use Rattle.right_book.specs.Lanes.{LanesFrom}

pub weaker : {A : Type 0} (P Q : A → Type 0) (xs : List A) → ((x : A) → P x → Q x) → AllByRecursion P xs → AllByRecursion Q xs
weaker P Q [] f h = tt
weaker P Q (x ∷ xs) f h = (f x h.0, weaker P Q xs f h.1)

pub weaker-two : {A : Type 0} (P S Q : A → Type 0) (xs : List A) → ((x : A) → P x → S x → Q x) → AllByRecursion P xs → AllByRecursion S xs → AllByRecursion Q xs
weaker-two P S Q [] f h g = tt
weaker-two P S Q (x ∷ xs) f h g = (f x h.0 g.0, weaker-two P S Q xs f h.1 g.1)

pub all-append : {A : Type 0} (P : A → Type 0) (xs ys : List A) → AllByRecursion P xs → AllByRecursion P ys → AllByRecursion P (xs ++ ys)
all-append P [] ys f g = g
all-append P (x ∷ xs) ys f g = (f.0, all-append P xs ys f.1 g)

pub all-push : {A : Type 0} (P : A → Type 0) (xs : List A) (x : A) → AllByRecursion P xs → P x → AllByRecursion P (xs ++ x ∷ [])
all-push P xs x h p = all-append P xs (x ∷ []) h (p, tt)

pub all-first : {A : Type 0} (P : A → Type 0) (xs ys : List A) → AllByRecursion P (xs ++ ys) → AllByRecursion P xs
all-first P [] ys h = tt
all-first P (x ∷ xs) ys h = (h.0, all-first P xs ys h.1)

pub all-rest : {A : Type 0} (P : A → Type 0) (xs ys : List A) → AllByRecursion P (xs ++ ys) → AllByRecursion P ys
all-rest P [] ys h = h
all-rest P (x ∷ xs) ys h = all-rest P xs ys h.1

pub all-cond : {A : Type 0} (P : A → Type 0) (t : Bool) (x : A) (rest : List A) → P x → AllByRecursion P rest → AllByRecursion P (cond t (x ∷ rest) rest)
all-cond P true x rest p h = (p, h)
all-cond P false x rest p h = h

pub all-filter : {A : Type 0} (P : A → Type 0) (test : A → Bool) (xs : List A) → AllByRecursion P xs → AllByRecursion P (filter test xs)
all-filter P test [] h = tt
all-filter P test (x ∷ xs) h = all-cond P (test x) x (filter test xs) h.0 (all-filter P test xs h.1)

pub all-map : {A B : Type 0} (P : B → Type 0) (f : A → B) (xs : List A) → AllByRecursion (λ x. P (f x)) xs → AllByRecursion P (map f xs)
all-map P f [] h = tt
all-map P f (x ∷ xs) h = (h.0, all-map P f xs h.1)

pub all-mapped : {A B : Type 0} (P : B → Type 0) (f : A → B) (xs : List A) → AllByRecursion P (map f xs) → AllByRecursion (λ x. P (f x)) xs
all-mapped P f [] h = tt
all-mapped P f (x ∷ xs) h = (h.0, all-mapped P f xs h.1)

-- a list seen in two ways
pub map-twice : {A B C D : Type 0} (f : B → D) (g : A → B) (h : C → D) (k : A → C) (xs : List A) → ((x : A) → f (g x) ≡ h (k x)) → map f (map g xs) ≡ map h (map k xs)
map-twice f g h k [] same = refl
map-twice f g h k (x ∷ xs) same = let first = same x in let rest = map-twice f g h k xs same in λ i. first i ∷ rest i

-- the first of a list is counted alone
pub count-first : {A : Type 0} (p : A → Bool) (x : A) (xs : List A) → count_by p (x ∷ xs) ≡ cond (p x) 1 0 + count_by p xs
count-first p x xs = sum_by-append (λ y. cond (p y) 1 0) (x ∷ []) xs ∙ ap (λ n. n + count_by p xs) (zero-add (cond (p x) 1 0))

-- ---- lanes

pub lanes-weaker : {A : Type 0} (P Q : ℕ → A → Type 0) (n : ℕ) (xs : List A) → ((k : ℕ) (x : A) → P k x → Q k x) → LanesFrom P n xs → LanesFrom Q n xs
lanes-weaker P Q n [] f h = tt
lanes-weaker P Q n (x ∷ xs) f h = (f n x h.0, lanes-weaker P Q (n + 1) xs f h.1)

pub any-lanes : {A : Type 0} (n : ℕ) (xs : List A) → LanesFrom (λ k x. Unit {0}) n xs
any-lanes n [] = tt
any-lanes n (x ∷ xs) = (tt, any-lanes (n + 1) xs)

pub lanes-all : {A : Type 0} (P : ℕ → A → Type 0) (Q : A → Type 0) (n : ℕ) (xs : List A) → ((k : ℕ) (x : A) → P k x → Q x) → LanesFrom P n xs → AllByRecursion Q xs
lanes-all P Q n [] f h = tt
lanes-all P Q n (x ∷ xs) f h = (f n x h.0, lanes-all P Q (n + 1) xs f h.1)

pub all-lanes : {A : Type 0} (P : A → Type 0) (Q S : ℕ → A → Type 0) (n : ℕ) (xs : List A) → ((k : ℕ) (x : A) → P x → S k x → Q k x) → AllByRecursion P xs → LanesFrom S n xs → LanesFrom Q n xs
all-lanes P Q S n [] f h g = tt
all-lanes P Q S n (x ∷ xs) f h g = (f n x h.0 g.0, all-lanes P Q S (n + 1) xs f h.1 g.1)

pub lanes-map : {A B : Type 0} (P : ℕ → B → Type 0) (f : A → B) (n : ℕ) (xs : List A) → LanesFrom (λ k x. P k (f x)) n xs → LanesFrom P n (map f xs)
lanes-map P f n [] h = tt
lanes-map P f n (x ∷ xs) h = (h.0, lanes-map P f (n + 1) xs h.1)

pub lanes-mapped : {A B : Type 0} (P : ℕ → B → Type 0) (f : A → B) (n : ℕ) (xs : List A) → LanesFrom P n (map f xs) → LanesFrom (λ k x. P k (f x)) n xs
lanes-mapped P f n [] h = tt
lanes-mapped P f n (x ∷ xs) h = (h.0, lanes-mapped P f (n + 1) xs h.1)

pub lanes-push : {A : Type 0} (P : ℕ → A → Type 0) (n : ℕ) (xs : List A) (x : A) → LanesFrom P n xs → P (n + length xs) x → LanesFrom P n (xs ++ x ∷ [])
lanes-push P n [] x h p = (subst (λ k. P k x) (add-zero n) p, tt)
lanes-push P n (y ∷ ys) x h p = (h.0, lanes-push P (n + 1) ys x h.1 (subst (λ k. P k x) (omega arith) p))
