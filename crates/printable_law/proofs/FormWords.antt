-- Words that are joined are parted again.
use Rattle.std.proofs.Common.{◌≡◌, ◌∙◌, ℕ, ◌==◌, ◌&&◌, not, Bool, true, false, List, [], ◌∷◌, ◌++◌, refl, ap}
use Rattle.std.proofs.lemmas.Bool.{eq-eqb}
use Rattle.std.proofs.lemmas.List.Elements.{All-from_recursion}
use Rattle.std.proofs.lemmas.List.Splits.{slice_split_none, slice_split_at}
use Rattle.std.specs.List.{AllByRecursion, list_all, join_with_byte}
use Rattle.capture_form.proofs.PhaseLemmas.{both-left, both-right}
use Rattle.journal_form.specs.Words.{parted}

-- the octet doesn't stand in the word
abbrev pub is_without : ℕ → List ℕ → Bool
is_without octet word = list_all (λ b. not (b == octet)) word

abbrev pub AreWithout : ℕ → List (List ℕ) → Type 0
AreWithout octet words = AllByRecursion (λ (word : List ℕ). is_without octet word ≡ true) words

-- what passes one test passes the other
pub passes_too : (p q : ℕ → Bool) → ((b : ℕ) → p b ≡ true → q b ≡ true) → (word : List ℕ) → list_all p word ≡ true → list_all q word ≡ true
passes_too p q f [] h = refl
passes_too p q f (b ∷ bs) h =
    ap (λ t. t && list_all q bs) (f b (both-left (p b) (list_all p bs) h)) ∙ passes_too p q f bs (both-right (p b) (list_all p bs) h)

pub all_both : (p : ℕ → Bool) (xs ys : List ℕ) → list_all p xs ≡ true → list_all p ys ≡ true → list_all p (xs ++ ys) ≡ true
all_both p [] ys h k = k
all_both p (x ∷ xs) ys h k =
    ap (λ t. t && list_all p (xs ++ ys)) (both-left (p x) (list_all p xs) h) ∙ all_both p xs ys (both-right (p x) (list_all p xs) h) k

pub is_no : (t : Bool) → not t ≡ true → t ≡ false
is_no true h = cc
is_no false h = refl

each : (octet : ℕ) (word : List ℕ) → is_without octet word ≡ true → AllByRecursion (λ b. (b == octet) ≡ false) word
each octet [] h = tt
each octet (b ∷ bs) h =
    let rest = list_all (λ b. not (b == octet)) bs in
    (is_no (b == octet) (both-left (not (b == octet)) rest h), each octet bs (both-right (not (b == octet)) rest h))

pub joined_parted : (octet : ℕ) (word : List ℕ) (more : List (List ℕ)) → AreWithout octet (word ∷ more)
    → parted octet (join_with_byte octet (word ∷ more)) ≡ word ∷ more
joined_parted octet word [] h = slice_split_none (λ b. b == octet) word (All-from_recursion (λ b. (b == octet) ≡ false) word (each octet word h.0))
joined_parted octet word (next ∷ more) h =
    slice_split_at (λ b. b == octet) word octet (join_with_byte octet (next ∷ more)) (All-from_recursion (λ b. (b == octet) ≡ false) word (each octet word h.0)) (eq-eqb octet octet refl)
    ∙ ap (λ l. word ∷ l) (joined_parted octet next more h.1)
