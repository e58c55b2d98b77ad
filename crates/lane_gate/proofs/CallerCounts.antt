-- Lists of callers with what they have delivered, and lists of views.
use Rattle.std.proofs.Common.{◌≡◌, ◌⊎◌, ℕ, zero, suc, ◌+◌, ◌<◌, ◌≤◌, List, [], ◌∷◌, ◌++◌, length, get_or, set, Contains, sym, refl, ap, ◌∙◌, ⊎_elim, inl, inr, arith}
use Rattle.std.proofs.lemmas.List.Elements.{Contains-append_cases}
use mathlib.Core.Option.{some, some-injective, some-ne-none}
use lib.ListN.{get_elem?}
use Rattle.lane_gate.specs.Inner.Views.{fresh_counts}

module _ {A : Type 0} where
  pub here_after : (l : List A) (i : ℕ) (a b : A) → get_elem? l i ≡ some b → get_elem? (set l i a) i ≡ some a
  here_after [] i a b e = absurd (some-ne-none b (sym e))
  here_after (x ∷ xs) zero a b e = refl
  here_after (x ∷ xs) (suc i) a b e = here_after xs i a b e

  pub snoc_at : (l : List A) (a b : A) (j : ℕ) → get_elem? (l ++ a ∷ []) j ≡ some b → (get_elem? l j ≡ some b) ⊎ ((j ≡ length l) × (a ≡ b))
  snoc_at [] a b zero e = inr (refl, some-injective a b e)
  snoc_at [] a b (suc j) e = absurd (some-ne-none b (sym e))
  snoc_at (x ∷ xs) a b zero e = inl e
  snoc_at (x ∷ xs) a b (suc j) e = ⊎_elim inl (λ (t : (j ≡ length xs) × (a ≡ b)). inr (ap suc t.0, t.1)) (snoc_at xs a b j e)

  pub only_one : (w v : A) (i : ℕ) → get_elem? (w ∷ []) i ≡ some v → (i ≡ 0) × (w ≡ v)
  only_one w v zero e = (refl, some-injective w v e)
  only_one w v (suc i) e = absurd (some-ne-none v (sym e))

  pub none_in_nil : (x : A) → Contains [] x → ⊥
  none_in_nil x c = let lt = c.1 in omega arith

  pub in_cons : (x y : A) (xs : List A) → Contains (x ∷ xs) y → (x ≡ y) ⊎ Contains xs y
  in_cons x y xs c = ⊎_elim (λ (h : Contains (x ∷ []) y). inl (alone h)) (λ (t : Contains xs y). inr t) (Contains-append_cases (x ∷ []) xs y c)
    where
      first : (k : ℕ) → k < 1 → get_or (x ∷ []) k y ≡ y → x ≡ y
      first zero lt e = e
      first (suc k) lt e = absurd (omega arith)

      alone : Contains (x ∷ []) y → x ≡ y
      alone h = first h.0 h.1 h.2

  pub in_alone : (x y : A) → Contains (x ∷ []) y → x ≡ y
  in_alone x y c = ⊎_elim (λ (e : x ≡ y). e) (λ (n : Contains [] y). absurd (none_in_nil y n)) (in_cons x y [] c)

-- of the callers that have delivered nothing
pub in_fresh : (from more j d : ℕ) → Contains (fresh_counts from more) (j, d) → (from ≤ j) × (j < from + more) × (d ≡ 0)
in_fresh from zero j d c = absurd (none_in_nil (j, d) c)
in_fresh from (suc more) j d c = ⊎_elim
    (λ (e : (from, 0) ≡ (j, d)). let a : from ≡ j = ap (λ (p : ℕ × ℕ). p.0) e in let b : 0 ≡ d = ap (λ (p : ℕ × ℕ). p.1) e in (omega arith, omega arith, sym b))
    (λ (t : Contains (fresh_counts (from + 1) more) (j, d)). let r = in_fresh (from + 1) more j d t in let low = r.0 in let high = r.1 in (omega arith, omega arith, r.2))
    (in_cons (from, 0) (j, d) (fresh_counts (from + 1) more) c)

-- the first values of a function
pub first_values : (ℕ → ℕ) → ℕ → List ℕ
first_values f zero = []
first_values f (suc n) = f 0 ∷ first_values (λ i. f (i + 1)) n

pub first_values_at : (n : ℕ) (f : ℕ → ℕ) → ((j : ℕ) → n ≤ j → f j ≡ 0) → (j : ℕ) → get_or (first_values f n) j 0 ≡ f j
unfolding first_values
first_values_at zero f past j = sym (past j (omega arith))
first_values_at (suc n) f past zero = refl
first_values_at (suc n) f past (suc j) = first_values_at n (λ i. f (i + 1)) (λ i le. past (i + 1) (omega arith)) j ∙ ap f (omega arith)

pub fresh_step : (from m more : ℕ) → m ≡ more + 1 → fresh_counts from m ≡ (from, 0) ∷ fresh_counts (from + 1) more
fresh_step from zero more e = absurd (omega arith)
fresh_step from (suc m) more e = ap (λ (n : ℕ). (from, 0) ∷ fresh_counts (from + 1) n) (omega arith)
