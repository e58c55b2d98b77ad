-- The items of a list, each with what came of it.
use Rattle.std.proofs.Common.{◌≡◌, ◌<◌, ◌++◌, ℕ, zero, suc, List, [], ◌∷◌, length, Option, None, Result, Ok, Err, refl, sym, ap, ◌∙◌, subst, arith, append-nil, append_assoc, get_or, slice_index_or, slice_set, All, IfOk, IfSome}
use Rattle.std.proofs.lemmas.List.Elements.{recursion_from_All}
use Rattle.std.specs.Prelude.{Vec, vec_len}
use Rattle.std.specs.List.{AllByRecursion}
use Rattle.std.specs.Fork.{GivesEach}
use Rattle.std.specs.Fn.{FnReturns}
use denote.Param.Members.{Shared}
use Rattle.block_threads.specs.Items.{Beside}
use Rattle.block_threads.specs.Inner.Shares.{AreCells}
use Rattle.block_threads.proofs.BesideLemmas.{beside_from}

module _ {T X : Type 0} (R : T → X → Type 0) where
  pub beside_none : (items : List T) → items ≡ [] → Beside R items []
  beside_none items none = subst (λ l. Beside R l []) (sym none) tt

  pub beside_end : (items : List T) → Beside R items [] → items ≡ []
  beside_end [] h = refl
  beside_end (item ∷ items) h = absurd h

  pub beside_more : (items : List T) (first : T) (rest : List T) (x : X) (xs : List X) → items ≡ first ∷ rest → R first x → Beside R rest xs → Beside R items (x ∷ xs)
  beside_more items first rest x xs parted here behind = subst (λ l. Beside R l (x ∷ xs)) (sym parted) (here, behind)

  pub beside_first : (items : List T) (x : X) (xs : List X) → Beside R items (x ∷ xs) → (first : T) × (rest : List T) × (items ≡ first ∷ rest) × R first x × Beside R rest xs
  beside_first [] x xs h = absurd h
  beside_first (item ∷ items) x xs h = (item, items, refl, h.0, h.1)

  -- another one in one place
  pub beside_set : (items : List T) (xs : List X) (n : ℕ) (x : X) → Beside R items xs → ((d : T) → R (slice_index_or items n d) x) → Beside R items (slice_set xs n x)
  beside_set [] [] n x h at = tt
  beside_set [] (y ∷ ys) n x h at = absurd h
  beside_set (item ∷ items) [] n x h at = absurd h
  beside_set (item ∷ items) (y ∷ ys) zero x h at = (at item, h.1)
  beside_set (item ∷ items) (y ∷ ys) (suc n) x h at = (h.0, beside_set items ys n x h.1 at)

  -- empty places
  pub beside_empty : (items : List T) (cells : List (Option X)) → length cells ≡ length items → All (λ cell. cell ≡ None) cells → AreCells R items cells
  beside_empty items cells same none = beside_from (λ item cell. IfSome cell (R item)) items cells same
      (λ i d e lt. subst (λ c. IfSome c (R (get_or items i d))) (sym (none i e (omega (arith, same, lt)))) tt)

-- whatever has the one property has the other one behind these
abbrev pub GoesOn : {X : Type 0} → (List X → Type 0) → (List X → Type 0) → List X → Type 0
GoesOn {X} whole left xs = (more : List X) → left more → whole (xs ++ more)

pub goes_on-next : {X : Type 0} (whole left new : List X → Type 0) (xs ys : List X) (x : X) → ys ≡ xs ++ x ∷ [] → GoesOn whole left xs → ((more : List X) → new more → left (x ∷ more)) → GoesOn whole new ys
goes_on-next whole left new xs ys x e so step = λ more m. subst whole (sym (ap (λ l. l ++ more) e ∙ append_assoc xs (x ∷ []) more)) (so (x ∷ more) (step more m))

pub goes_on-end : {X : Type 0} (whole left : List X → Type 0) (xs : List X) → GoesOn whole left xs → left [] → whole xs
goes_on-end whole left xs so none = subst whole (append-nil xs) (so [] none)

-- an item is the same whatever stands for one that isn't there
pub index-any : {T : Type 0} (xs : List T) (n : ℕ) (d e : T) → n < length xs → slice_index_or xs n d ≡ slice_index_or xs n e
index-any [] n d e inside = absurd (omega (arith, inside))
index-any (x ∷ xs) zero d e inside = refl
index-any (x ∷ xs) (suc n) d e inside = index-any xs n d e (omega (arith, inside))

-- what holds of each result that a thread may give holds of all
pub all-given : {F R Z E : Type 0} {g : Shared F (ℕ × Unit {0}) R} {f : F} (made : Result (Vec R Z) E) (n : ℕ) (P : R → Type 0) → ((i : ℕ) (r : R) → FnReturns g f (i, tt) r → P r)
    → IfOk made (λ v. vec_len v ≡ n) → IfOk made (λ v. GivesEach g f n v.items) → IfOk made (λ v. AllByRecursion P v.items)
all-given (Ok v) n P holds len each = recursion_from_All P v.items (λ i d lt. holds i (slice_index_or v.items i d) (each i d (search (arith, lt, len))).1)
all-given (Err e) n P holds len each = tt
