-- What holds of each of a list.
use Rattle.std.proofs.Common.{◌≡◌, Bool, true, false, List, [], ◌∷◌, ◌++◌, filter, if◌then◌else◌, refl, sym, ◌∙◌}
use Rattle.std.specs.List.{AllByRecursion}
use Rattle.std.proofs.lemmas.Bool.{false≢true}

pub all_joined : {A : Type 0} (P : A → Type 0) (one other : List A) → AllByRecursion P one → AllByRecursion P other → AllByRecursion P (one ++ other)
all_joined P [] other p q = q
all_joined P (item ∷ one) other p q = (p.0, all_joined P one other p.1 q)

-- what holds of each that is left by a test
pub each_filtered : {A : Type 0} (P : A → Type 0) (test : A → Bool) (items : List A) → AllByRecursion P (filter test items) → AllByRecursion (λ (item : A). test item ≡ true → P item) items
each_filtered P test [] all = tt
each_filtered {A} P test (item ∷ items) all = by_test (test item) refl (each_filtered P test items) all
  where
    by_test : (b : Bool) → test item ≡ b → (AllByRecursion P (filter test items) → AllByRecursion (λ (item : A). test item ≡ true → P item) items)
        → AllByRecursion P (if b then item ∷ filter test items else filter test items) → AllByRecursion (λ (item : A). test item ≡ true → P item) (item ∷ items)
    by_test true e more all = (λ _. all.0, more all.1)
    by_test false e more all = (λ is. absurd (false≢true (sym e ∙ is)), more all)
