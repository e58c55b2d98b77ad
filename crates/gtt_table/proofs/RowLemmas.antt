-- What a search in a list tells.
use Rattle.std.proofs.Common.{◌≡◌, ℕ, suc, ◌<◌, ◌≤◌, List, [], ◌∷◌, Bool, true, false, nat_lt, Some, None, refl, arith, find, ◌⊎◌, inl, inr}
use Rattle.std.specs.List.{list_any}
use Rattle.std.proofs.lemmas.Bool.Decides.{leb_tells}

-- where a search finds nothing there is nothing
pub find-none : {X : Type 0} (test : X → Bool) (xs : List X) → find test xs ≡ None → list_any test xs ≡ false
find-none test [] h = refl
find-none test (x ∷ xs) h = by_test (find-none test xs) (test x) refl
  where
    by_test : (find test xs ≡ None → list_any test xs ≡ false) → (b : Bool) → test x ≡ b → list_any test (x ∷ xs) ≡ false
    by_test later true e = (let found = rw e at h in cc)
    by_test later false e = rw e (later (rw e at h))

-- where a search finds something it is there
pub find-some : {X : Type 0} (test : X → Bool) (xs : List X) (y : X) → find test xs ≡ Some y → list_any test xs ≡ true
find-some test [] y h = cc
find-some test (x ∷ xs) y h = by_test (find-some test xs y) (test x) refl
  where
    by_test : (find test xs ≡ Some y → list_any test xs ≡ true) → (b : Bool) → test x ≡ b → list_any test (x ∷ xs) ≡ true
    by_test later true e = rw e refl
    by_test later false e = rw e (later (rw e at h))

pub ruleset searches = (find-none, find-some)

pub lt_tells : (a b : ℕ) → ((nat_lt a b ≡ true) × (a < b)) ⊎ ((nat_lt a b ≡ false) × (b ≤ a))
lt_tells a b = elim (leb_tells (suc a) b) [ inl t ↦ inl (t.0, t.1) | inr f ↦ inr (f.0, (omega (arith, f.1))) ]
