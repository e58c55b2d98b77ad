-- What holds of each element of a list.
use Rattle.std.proofs.Common.{ℕ, zero, suc, ◌-◌, Bool, List, [], ◌∷◌, length, map, replicate, slice_index, slice_index_or, arith}
use Rattle.std.specs.List.{AllByRecursion, concat, filter}
use Rattle.q713_shape.specs.Format.{filled}
pub use Rattle.book_law.proofs.Outputs.{either, all-append, all-given, all-take, all-drop}
use Rattle.printable_law.specs.OctetLaw.{IsOctet, AreOctets}

pub all-concat : (P : ℕ → Type 0) (lists : List (List ℕ)) → AllByRecursion (λ xs. AllByRecursion P xs) lists → AllByRecursion P (concat lists)
all-concat P [] f = tt
all-concat P (xs ∷ lists) f = all-append P xs (concat lists) f.0 (all-concat P lists f.1)

pub all-map : {A B : Type 0} (P : A → Type 0) (Q : B → Type 0) (f : A → B) → ((x : A) → P x → Q (f x)) → (xs : List A) → AllByRecursion P xs
    → AllByRecursion Q (map f xs)
all-map P Q f holds [] all = tt
all-map P Q f holds (x ∷ xs) all = (holds x all.0, all-map P Q f holds xs all.1)

pub all-replicate : {A : Type 0} (P : A → Type 0) (n : ℕ) (x : A) → P x → AllByRecursion P (replicate n x)
all-replicate P zero x f = tt
all-replicate P (suc n) x f = (f, all-replicate P n x f)

pub all-filled : {A : Type 0} (P : A → Type 0) (n : ℕ) (x : A) (xs : List A) → P x → AllByRecursion P xs → AllByRecursion P (filled n x xs)
all-filled P n x xs f all = all-append P xs (replicate (n - length xs) x) all (all-replicate P (n - length xs) x f)

pub all-filter : {A : Type 0} (P : A → Type 0) (test : A → Bool) (xs : List A) → AllByRecursion P xs → AllByRecursion P (filter test xs)
all-filter P test [] all = tt
all-filter P test (x ∷ xs) all =
    either (AllByRecursion P) (test x) (x ∷ filter test xs) (filter test xs) (all.0, all-filter P test xs all.1) (all-filter P test xs all.1)

-- the element at a place, or what stands for one behind the last
pub all-at : {A : Type 0} (P : A → Type 0) (xs : List A) (place : ℕ) (x : A) → P x → AllByRecursion P xs → P (slice_index_or xs place x)
all-at P [] place x f all = f
all-at P (y ∷ ys) zero x f all = all.0
all-at P (y ∷ ys) (suc place) x f all = all-at P ys place x f all.1

pub octet-at : (octets : List ℕ) (place : ℕ) → AreOctets octets → IsOctet (slice_index octets place)
octet-at octets place are = all-at IsOctet octets place 0 (omega arith) are
