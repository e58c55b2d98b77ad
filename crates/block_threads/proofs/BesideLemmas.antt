-- Facts on each two of two lists.
use Rattle.std.proofs.Common.{◌≡◌, ℕ, zero, suc, ◌<◌, List, [], ◌∷◌, ◌++◌, length, map, get_or, refl, ap, arith}
use Rattle.block_threads.specs.Items.{Beside}

module _ {A B : Type 0} where
  pub beside_length : (R : A → B → Type 0) (xs : List A) (ys : List B) → Beside R xs ys → length ys ≡ length xs
  beside_length R [] [] h = refl
  beside_length R [] (y ∷ ys) h = absurd h
  beside_length R (x ∷ xs) [] h = absurd h
  beside_length R (x ∷ xs) (y ∷ ys) h = ap suc (beside_length R xs ys h.1)

  pub beside_at : (R : A → B → Type 0) (i : ℕ) (xs : List A) (ys : List B) (d : A) (e : B) → i < length ys → Beside R xs ys → R (get_or xs i d) (get_or ys i e)
  beside_at R i [] [] d e lt h = absurd (omega (arith, lt))
  beside_at R i [] (y ∷ ys) d e lt h = absurd h
  beside_at R i (x ∷ xs) [] d e lt h = absurd h
  beside_at R zero (x ∷ xs) (y ∷ ys) d e lt h = h.0
  beside_at R (suc i) (x ∷ xs) (y ∷ ys) d e lt h = beside_at R i xs ys d e (omega (arith, lt)) h.1

  -- from what is said of each two of one number
  pub beside_from : (R : A → B → Type 0) (xs : List A) (ys : List B) → length ys ≡ length xs → ((i : ℕ) (d : A) (e : B) → i < length xs → R (get_or xs i d) (get_or ys i e)) → Beside R xs ys
  beside_from R [] [] same h = tt
  beside_from R [] (y ∷ ys) same h = absurd (omega (arith, same))
  beside_from R (x ∷ xs) [] same h = absurd (omega (arith, same))
  beside_from R (x ∷ xs) (y ∷ ys) same h = (h 0 x y (omega arith), beside_from R xs ys (omega (arith, same)) (λ i d e lt. h (suc i) d e (omega (arith, lt))))

  pub beside_weaker : (R S : A → B → Type 0) (xs : List A) (ys : List B) → ((x : A) (y : B) → R x y → S x y) → Beside R xs ys → Beside S xs ys
  beside_weaker R S [] [] f h = tt
  beside_weaker R S [] (y ∷ ys) f h = absurd h
  beside_weaker R S (x ∷ xs) [] f h = absurd h
  beside_weaker R S (x ∷ xs) (y ∷ ys) f h = (f x y h.0, beside_weaker R S xs ys f h.1)

  pub beside_push : (R : A → B → Type 0) (xs : List A) (ys : List B) (x : A) (y : B) → Beside R xs ys → R x y → Beside R (xs ++ x ∷ []) (ys ++ y ∷ [])
  beside_push R [] [] x y h r = (r, tt)
  beside_push R [] (b ∷ ys) x y h r = absurd h
  beside_push R (a ∷ xs) [] x y h r = absurd h
  beside_push R (a ∷ xs) (b ∷ ys) x y h r = (h.0, beside_push R xs ys x y h.1 r)

  none_behind : (R : A → B → Type 0) (ys : List B) (y : B) → Beside R [] (ys ++ y ∷ []) → ⊥
  none_behind R [] y h = h
  none_behind R (b ∷ ys) y h = h

  none_before : (R : A → B → Type 0) (xs : List A) (x : A) → Beside R (xs ++ x ∷ []) [] → ⊥
  none_before R [] x h = h
  none_before R (a ∷ xs) x h = h

  pub beside_pop : (R : A → B → Type 0) (xs : List A) (ys : List B) (x : A) (y : B) → Beside R (xs ++ x ∷ []) (ys ++ y ∷ []) → Beside R xs ys × R x y
  beside_pop R [] [] x y h = (tt, h.0)
  beside_pop R [] (b ∷ ys) x y h = absurd (none_behind R ys y h.1)
  beside_pop R (a ∷ xs) [] x y h = absurd (none_before R xs x h.1)
  beside_pop R (a ∷ xs) (b ∷ ys) x y h = let more = beside_pop R xs ys x y h.1 in ((h.0, more.0), more.1)

  -- the second list, in two parts as the first
  pub record AreSplit (R : A → B → Type 0) (xs ys : List A) (zs : List B) : Type 0 where
    pub front : List B
    pub back : List B
    pub is : zs ≡ front ++ back
    pub fronts : Beside R xs front
    pub backs : Beside R ys back

  pub beside_split : (R : A → B → Type 0) (xs ys : List A) (zs : List B) → Beside R (xs ++ ys) zs → AreSplit R xs ys zs
  beside_split R [] ys zs h = record { front = []; back = zs; is = refl; fronts = tt; backs = h }
  beside_split R (x ∷ xs) ys [] h = absurd h
  beside_split R (x ∷ xs) ys (z ∷ zs) h =
      let more = beside_split R xs ys zs h.1 in
      record { front = z ∷ more.front; back = more.back; is = ap (λ (l : List B). z ∷ l) more.is; fronts = (h.0, more.fronts); backs = more.backs }

pub beside_map : {A B C : Type 0} (R : C → B → Type 0) (f : A → C) (xs : List A) (ys : List B) → Beside (λ x y. R (f x) y) xs ys → Beside R (map f xs) ys
beside_map R f [] [] h = tt
beside_map R f [] (y ∷ ys) h = absurd h
beside_map R f (x ∷ xs) [] h = absurd h
beside_map R f (x ∷ xs) (y ∷ ys) h = (h.0, beside_map R f xs ys h.1)

-- the same of two lists of one type
pub beside_by : {A : Type 0} (R : A → A → Type 0) (xs ys : List A) → length ys ≡ length xs → ((i : ℕ) (d : A) → i < length xs → R (get_or xs i d) (get_or ys i d)) → Beside R xs ys
beside_by R [] [] same h = tt
beside_by R [] (y ∷ ys) same h = absurd (omega (arith, same))
beside_by R (x ∷ xs) [] same h = absurd (omega (arith, same))
beside_by R (x ∷ xs) (y ∷ ys) same h = (h 0 x (omega arith), beside_by R xs ys (omega (arith, same)) (λ i d lt. h (suc i) d (omega (arith, lt))))
