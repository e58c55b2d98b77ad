-- What is asked of the items of a list.
use Rattle.std.specs.Prelude.{List, [], ◌∷◌}
use denote.Ref.{Bor}
use denote.Param.Members.{Shared}

-- this is said of each two of two lists
abbrev pub Beside : {A B : Type 0} → (A → B → Type 0) → List A → List B → Type 0
Beside R [] [] = Unit {0}
Beside R [] (y ∷ ys) = ⊥
Beside R (x ∷ xs) [] = ⊥
Beside R (x ∷ xs) (y ∷ ys) = R x y × Beside R xs ys

-- f may be called at a `&` to any item
abbrev pub Accepts : {F T X : Type 0} → Shared F (Bor T × Unit {0}) X → F → Type 0
Accepts {F} {T} g f = (item : Bor T) → g.pre f (item, tt)
