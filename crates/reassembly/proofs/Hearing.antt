-- What a look-up finds after a change.
use Rattle.std.proofs.Common.{◌≡◌, ◌≤◌, Bool, true, false, not, cond, List, [], ◌∷◌, ◌++◌, length, map, filter, Some, None, refl, ap, ⊎_elim, arith}
use Rattle.std.specs.List.{find}
use Rattle.std.proofs.lemmas.Bool.{cases_Bool}
use Rattle.reassembly.specs.Reassembly.{is_due, aged, after_tick, reassembly_after_tick}
use Rattle.reassembly.specs.declared.process.Process.{Process}

-- none is left where all that pass are taken out
pub find_without : {X : Type 0} (p : X → Bool) (xs : List X) → find p (filter (λ y. not (p y)) xs) ≡ None
find_without p [] = refl
find_without p (x ∷ xs) =
    ⊎_elim
    (λ (e : p x ≡ true). rw e (find_without p xs))
    (λ (e : p x ≡ false). rw (e, e) (find_without p xs))
    (cases_Bool (p x))

-- what passes another test stays
pub find_past : {X : Type 0} (p q : X → Bool) → ((x : X) → p x ≡ true → q x ≡ false) → (xs : List X) → find q (filter (λ y. not (p y)) xs) ≡ find q xs
find_past p q apart [] = refl
find_past p q apart (x ∷ xs) =
    ⊎_elim
    (λ (e : p x ≡ true). rw (e, apart x e) (find_past p q apart xs))
    (λ (e : p x ≡ false). ⊎_elim
    (λ (t : q x ≡ true). rw (e, t) refl)
    (λ (t : q x ≡ false). rw (e, t) (find_past p q apart xs))
    (cases_Bool (q x)))
    (cases_Bool (p x))

-- one more that fails, and one that passes where none did
pub find_push_other : {X : Type 0} (q : X → Bool) (xs : List X) (y : X) → q y ≡ false → find q (xs ++ y ∷ []) ≡ find q xs
find_push_other q [] y other = rw other refl
find_push_other q (x ∷ xs) y other = ap (λ o. cond (q x) (Some x) o) (find_push_other q xs y other)

pub find_push : {X : Type 0} (q : X → Bool) (xs : List X) (y : X) → find q xs ≡ None → q y ≡ true → find q (xs ++ y ∷ []) ≡ Some y
find_push q [] y none passes = rw passes refl
find_push q (x ∷ xs) y none passes =
    ⊎_elim
    (λ (t : q x ≡ true). let h = rw t at none in cc)
    (λ (t : q x ≡ false). let h = rw t at none in rw t (find_push q xs y h passes))
    (cases_Bool (q x))

-- another in the stead of those that pass
pub find_changed : {X : Type 0} (p : X → Bool) (y x0 : X) → p y ≡ true → (xs : List X) → find p xs ≡ Some x0 → find p (map (λ z. cond (p z) y z) xs) ≡ Some y
find_changed p y x0 passes [] found = cc
find_changed p y x0 passes (x ∷ xs) found =
    ⊎_elim
    (λ (e : p x ≡ true). rw (e, passes) refl)
    (λ (e : p x ≡ false). let h = rw e at found in rw (e, e) (find_changed p y x0 passes xs h))
    (cases_Bool (p x))

pub find_changed_other : {X : Type 0} (p q : X → Bool) (y : X) → ((x : X) → p x ≡ true → q x ≡ false) → q y ≡ false → (xs : List X) → find q (map (λ z. cond (p z) y z) xs) ≡ find q xs
find_changed_other p q y apart other [] = refl
find_changed_other p q y apart other (x ∷ xs) =
    ⊎_elim
    (λ (e : p x ≡ true). rw (e, apart x e, other) (find_changed_other p q y apart other xs))
    (λ (e : p x ≡ false). rw e (ap (λ o. cond (q x) (Some x) o) (find_changed_other p q y apart other xs)))
    (cases_Bool (p x))

-- ticks
none_after_tick : (q : Process → Bool) → ((x : Process) → q (aged x) ≡ q x) → (xs : List Process) → length (filter q xs) ≤ 0 → find q (after_tick xs) ≡ None
none_after_tick q keeps [] none = refl
none_after_tick q keeps (x ∷ xs) none =
    ⊎_elim
    (λ (t : q x ≡ true). let h = rw t at none in absurd (omega arith))
    (λ (t : q x ≡ false). let h = rw t at none in ⊎_elim
    (λ (e : is_due x ≡ true). rw e (none_after_tick q keeps xs h))
    (λ (e : is_due x ≡ false). rw (e, keeps x, t) (none_after_tick q keeps xs h))
    (cases_Bool (is_due x)))
    (cases_Bool (q x))

pub find_after_tick : (q : Process → Bool) → ((x : Process) → q (aged x) ≡ q x) → (xs : List Process) → length (filter q xs) ≤ 1 → find q (after_tick xs) ≡ reassembly_after_tick (find q xs)
unfolding reassembly_after_tick
find_after_tick q keeps [] one = refl
find_after_tick q keeps (x ∷ xs) one =
    ⊎_elim
    (λ (t : q x ≡ true). let h = rw t at one in ⊎_elim
    (λ (e : is_due x ≡ true). rw (e, t, e) (none_after_tick q keeps xs (omega arith)))
    (λ (e : is_due x ≡ false). rw (e, keeps x, t, e) refl)
    (cases_Bool (is_due x)))
    (λ (t : q x ≡ false). let h = rw t at one in ⊎_elim
    (λ (e : is_due x ≡ true). rw (e, t) (find_after_tick q keeps xs h))
    (λ (e : is_due x ≡ false). rw (e, keeps x, t) (find_after_tick q keeps xs h))
    (cases_Bool (is_due x)))
    (cases_Bool (q x))
