-- The lanes of a kind before and after.
use Rattle.std.specs.Prelude.{ℕ, ◌+◌, List, [], ◌∷◌}

-- this is said of each two of one number, of which the first is this one
abbrev pub PairsFrom : {A B : Type 0} → (ℕ → A → B → Type 0) → ℕ → List A → List B → Type 0
PairsFrom R number [] [] = Unit {0}
PairsFrom R number [] (new ∷ news) = ⊥
PairsFrom R number (old ∷ olds) [] = ⊥
PairsFrom R number (old ∷ olds) (new ∷ news) = R number old new × PairsFrom R (number + 1) olds news
