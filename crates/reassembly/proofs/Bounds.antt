-- How many elements pass a test after a change.
use Rattle.std.proofs.Common.{◌≡◌, ◌≤◌, suc, Bool, true, false, not, cond, List, [], ◌∷◌, length, map, filter, refl, ap, ⊎_elim, arith}
use Rattle.std.proofs.lemmas.Bool.{cases_Bool}
use Rattle.reassembly.specs.Reassembly.{is_due, aged, after_tick}
use Rattle.reassembly.specs.declared.process.Process.{Process}

-- a test of those that another test left
pub filter_fewer : {X : Type 0} (r q : X → Bool) (xs : List X) → length (filter q (filter r xs)) ≤ length (filter q xs)
filter_fewer r q [] = omega arith
filter_fewer r q (x ∷ xs) =
    let more = filter_fewer r q xs in
    ⊎_elim
    (λ (e : r x ≡ true). ⊎_elim
    (λ (t : q x ≡ true). rw (e, t) (omega arith))
    (λ (t : q x ≡ false). rw (e, t) more)
    (cases_Bool (q x)))
    (λ (e : r x ≡ false). ⊎_elim
    (λ (t : q x ≡ true). rw (e, t) (omega arith))
    (λ (t : q x ≡ false). rw (e, t) more)
    (cases_Bool (q x)))
    (cases_Bool (r x))

pub length_filter : {X : Type 0} (p : X → Bool) (xs : List X) → length (filter p xs) ≤ length xs
length_filter p [] = omega arith
length_filter p (x ∷ xs) =
    let more = length_filter p xs in
    ⊎_elim (λ (e : p x ≡ true). rw e (omega arith)) (λ (e : p x ≡ false). rw e (omega arith)) (cases_Bool (p x))

-- none passes among those that fail
pub none_without : {X : Type 0} (p : X → Bool) (xs : List X) → length (filter p (filter (λ y. not (p y)) xs)) ≤ 0
none_without p [] = omega arith
none_without p (x ∷ xs) =
    ⊎_elim
    (λ (e : p x ≡ true). rw e (none_without p xs))
    (λ (e : p x ≡ false). rw (e, e) (none_without p xs))
    (cases_Bool (p x))

-- another in the stead of those that pass, which passes where they do
pub filter_changed : {X : Type 0} (p q : X → Bool) (y : X) → ((x : X) → p x ≡ true → q y ≡ q x) → (xs : List X) → length (filter q (map (λ z. cond (p z) y z) xs)) ≡ length (filter q xs)
filter_changed p q y same [] = refl
filter_changed p q y same (x ∷ xs) =
    let more = filter_changed p q y same xs in
    ⊎_elim
    (λ (e : p x ≡ true). ⊎_elim
    (λ (t : q x ≡ true). rw (e, same x e, t) (ap suc more))
    (λ (t : q x ≡ false). rw (e, same x e, t) more)
    (cases_Bool (q x)))
    (λ (e : p x ≡ false). ⊎_elim
    (λ (t : q x ≡ true). rw (e, t) (ap suc more))
    (λ (t : q x ≡ false). rw (e, t) more)
    (cases_Bool (q x)))
    (cases_Bool (p x))

-- ticks
pub filter_after_tick : (q : Process → Bool) → ((x : Process) → q (aged x) ≡ q x) → (xs : List Process) → length (filter q (after_tick xs)) ≤ length (filter q xs)
filter_after_tick q keeps [] = omega arith
filter_after_tick q keeps (x ∷ xs) =
    let more = filter_after_tick q keeps xs in
    ⊎_elim
    (λ (e : is_due x ≡ true). ⊎_elim
    (λ (t : q x ≡ true). rw (e, t) (omega arith))
    (λ (t : q x ≡ false). rw (e, t) more)
    (cases_Bool (q x)))
    (λ (e : is_due x ≡ false). ⊎_elim
    (λ (t : q x ≡ true). rw (e, keeps x, t) (omega arith))
    (λ (t : q x ≡ false). rw (e, keeps x, t) more)
    (cases_Bool (q x)))
    (cases_Bool (is_due x))
