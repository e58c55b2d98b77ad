-- A change alters the service of no user but the one that it is about.
use Rattle.std.proofs.Common.{◌≡◌, ℕ, ◌+◌, ◌==◌, Bool, true, false, not, List, [], ◌∷◌, ◌++◌, map, filter, cond, refl, sym, ap, ap₂, ◌∙◌, nat_lt, ⊎_elim, arith, zero, suc, Option, Some, append-nil}
use Rattle.std.specs.Prelude.{◌&&◌, ◌||◌}
use Rattle.std.specs.List.{range_with_len}
use Rattle.std.proofs.lemmas.Bool.{cases_Bool, eqb-true, eqb-false, ne_eqb}
use Rattle.std.proofs.lemmas.List.Elements.{filter-append}
use Rattle.relay_base.specs.declared.words.Output.TheVariants.{Told}
use Rattle.relay_base.specs.declared.words.Tell.{Tell}
use Rattle.plant_core.specs.declared.change.Change.{Change}
use Rattle.plant_core.specs.declared.change.Change.TheVariants.{AddRow, DelRow, BarPoint, FreePoint, BarSub, FreeSub, LocalUp, LocalDown}
use Rattle.plant_core.specs.declared.change.Group.{Group}
use Rattle.plant_core.specs.Plant.{RoutingData, is_among}
use Rattle.plant_core.proofs.MemberLemmas.{any-append}
use Rattle.plant_core.proofs.GroupLemmas.{users_all}
use Rattle.plant_core.specs.Changes.{but_for, with_number, group_verdict, is_alters, changed, changed_all, plant_after}
use Rattle.scmg.specs.declared.head.ControlHead.{ControlHead}
use Rattle.scmg.specs.Inner.Kept.{in_order}
use Rattle.scmg.specs.Control.{subsystems, is_about, is_told, told_among, told_all, made_known, to_concerned, only_among, known_by}

-- numbers up to one more
range-past : (a n : ℕ) → range_with_len a (n + 1) ≡ range_with_len a n ++ (a + n) ∷ []
range-past a zero = let e : a + 0 ≡ a = omega arith in rw e refl
range-past a (suc n) =
    let e : suc n + 1 ≡ suc (n + 1) = omega arith in
    let f : a + suc n ≡ (a + 1) + n = omega arith in
    rw (e, f) (ap (λ xs. a ∷ xs) (range-past (a + 1) n))

range-more : (n : ℕ) → range_with_len 0 (n + 1) ≡ range_with_len 0 n ++ n ∷ []
range-more n = let e : 0 + n ≡ n = omega arith in range-past 0 n ∙ ap (λ m. range_with_len 0 n ++ m ∷ []) e

one-past : (p : ℕ → Bool) (n : ℕ) → filter p (range_with_len 0 (n + 1)) ≡ filter p (range_with_len 0 n) ++ filter p (n ∷ [])
one-past p n = ap (filter p) (range-more n) ∙ filter-append p (range_with_len 0 n) (n ∷ [])

-- one more number passes, or is passed over
pub one-more : (p : ℕ → Bool) (n : ℕ) → p n ≡ true → filter p (range_with_len 0 (n + 1)) ≡ filter p (range_with_len 0 n) ++ n ∷ []
one-more p n e = one-past p n ∙ ap (λ b. filter p (range_with_len 0 n) ++ cond b (n ∷ []) []) e

pub none-more : (p : ℕ → Bool) (n : ℕ) → p n ≡ false → filter p (range_with_len 0 (n + 1)) ≡ filter p (range_with_len 0 n)
none-more p n e = one-past p n ∙ ap (λ b. filter p (range_with_len 0 n) ++ cond b (n ∷ []) []) e ∙ append-nil (filter p (range_with_len 0 n))

-- none but users are told
told-within : (p : RoutingData) (subject : Option ℕ) (xs : List ℕ)
    → filter (is_told p subject) (filter (λ ssn. is_among ssn p.users) xs) ≡ filter (is_told p subject) xs
told-within p subject [] = refl
told-within p subject (x ∷ xs) =
    by (is_among x p.users) (not (is_among x p.out_of_service)) (not (is_about subject x)) refl (told-within p subject xs)
  where
    others : List ℕ
    others = filter (λ ssn. is_among ssn p.users) xs

    by : (a b c : Bool) → is_told p subject x ≡ ((a && b) && c) → filter (is_told p subject) others ≡ filter (is_told p subject) xs
        → filter (is_told p subject) (cond a (x ∷ others) others) ≡ cond ((a && b) && c) (x ∷ filter (is_told p subject) xs) (filter (is_told p subject) xs)
    by true b c is rest = ap (λ t. cond t (x ∷ filter (is_told p subject) others) (filter (is_told p subject) others)) is ∙ ap (λ l. cond ((true && b) && c) (x ∷ l) l) rest
    by false b c is rest = rest

pub told-in-order : (p : RoutingData) (subject : Option ℕ) (t : Tell) → told_among p subject t (in_order p.users) ≡ told_all p subject t
told-in-order p subject t = ap (map (λ ssn. Told ssn t)) (told-within p subject subsystems)

-- two routing data with the same users in service but for the subject tell the same
record ServeAlike (ssn : ℕ) (p q : RoutingData) : Type 0 where
  users : q.users ≡ p.users
  out : (x : ℕ) → (x == ssn) ≡ false → is_among x q.out_of_service ≡ is_among x p.out_of_service

and-false : (b : Bool) → (b && false) ≡ false
and-false true = refl
and-false false = refl

but-subject : (a b c t : Bool) → (t ≡ false → b ≡ c) → ((a && not b) && not t) ≡ ((a && not c) && not t)
but-subject a b c true h = and-false (a && not b) ∙ sym (and-false (a && not c))
but-subject a b c false h = ap (λ x. (a && not x) && true) (h refl)

told-alike : (ssn : ℕ) (p q : RoutingData) → ServeAlike ssn p q → (x : ℕ) → is_told q (Some ssn) x ≡ is_told p (Some ssn) x
told-alike ssn p q alike x =
    ap (λ users. (is_among x users && not (is_among x q.out_of_service)) && not (x == ssn)) alike.users
    ∙ but-subject (is_among x p.users) (is_among x q.out_of_service) (is_among x p.out_of_service) (x == ssn) (alike.out x)

filter-alike : (f g : ℕ → Bool) → ((x : ℕ) → f x ≡ g x) → (xs : List ℕ) → filter f xs ≡ filter g xs
filter-alike f g h [] = refl
filter-alike f g h (x ∷ xs) = ap (λ b. cond b (x ∷ filter f xs) (filter f xs)) (h x) ∙ ap (λ l. cond (g x) (x ∷ l) l) (filter-alike f g h xs)

all-alike : (ssn : ℕ) (p q : RoutingData) (t : Tell) → ServeAlike ssn p q → told_all q (Some ssn) t ≡ told_all p (Some ssn) t
all-alike ssn p q t alike = ap (map (λ n. Told n t)) (filter-alike (is_told q (Some ssn)) (is_told p (Some ssn)) (told-alike ssn p q alike) subsystems)

-- one user goes out of service, or comes back
on-either-side : (x y ssn : ℕ) → (x == ssn) ≡ false → (y == x) ≡ true → (nat_lt y ssn || nat_lt ssn y) ≡ true
on-either-side x y ssn e t = grind (arith, e, t)

among-more : (x y : ℕ) (b : Bool) (list : List ℕ) → is_among x (cond b (y ∷ list) list) ≡ ((b && (y == x)) || is_among x list)
among-more x y true list = refl
among-more x y false list = refl

either-side : (below above same f g : Bool) → (same ≡ true → (below || above) ≡ true) → (((below && same) || f) || ((above && same) || g)) ≡ (same || (f || g))
either-side true true true f g h = refl
either-side true false true f g h = refl
either-side false true true true g h = refl
either-side false true true false g h = refl
either-side false false true f g h = ap (λ b. cond b true (f || g)) (h refl)
either-side true true false f g h = refl
either-side true false false f g h = refl
either-side false true false f g h = refl
either-side false false false f g h = refl

both-sides : (ssn x : ℕ) (out : List ℕ) → (x == ssn) ≡ false → (is_among x (filter (λ y. nat_lt y ssn) out) || is_among x (filter (nat_lt ssn) out)) ≡ is_among x out
both-sides ssn x [] e = refl
both-sides ssn x (y ∷ out) e =
    let below = filter (λ y. nat_lt y ssn) out in
    let above = filter (nat_lt ssn) out in
    ap₂ (λ a b. a || b) (among-more x y (nat_lt y ssn) below) (among-more x y (nat_lt ssn y) above)
    ∙ either-side (nat_lt y ssn) (nat_lt ssn y) (y == x) (is_among x below) (is_among x above) (on-either-side x y ssn e)
    ∙ ap (λ b. (y == x) || b) (both-sides ssn x out e)

goes-out : (ssn x : ℕ) (out : List ℕ) → (x == ssn) ≡ false → is_among x (with_number ssn out) ≡ is_among x out
goes-out ssn x out e =
    let below = filter (λ y. nat_lt y ssn) out in
    let above = filter (nat_lt ssn) out in
    let f : (ssn == x) ≡ false = ne_eqb ssn x (λ s. eqb-false x ssn e (sym s)) in
    any-append (λ y. y == x) below (ssn ∷ above) ∙ ap (λ b. is_among x below || (b || is_among x above)) f ∙ both-sides ssn x out e

comes-back : (ssn x : ℕ) (out : List ℕ) → (x == ssn) ≡ false → is_among x (but_for ssn out) ≡ is_among x out
comes-back ssn x [] e = refl
comes-back ssn x (y ∷ out) e =
    ⊎_elim
    (λ (t : (y == ssn) ≡ true).
    let same = eqb-true y ssn t in
    let f : (y == x) ≡ false = ne_eqb y x (λ s. eqb-false x ssn e (sym s ∙ same)) in
    rw t (comes-back ssn x out e ∙ sym (ap (λ b. b || is_among x out) f)))
    (λ (t : (y == ssn) ≡ false). rw t (ap (λ b. (y == x) || b) (comes-back ssn x out e)))
    (cases_Bool (y == ssn))

-- what holds of the routing data with the changes of a group, and of those without, holds of those after the group
after-group : (P : RoutingData → Type 0) (p : RoutingData) (group : Group) → P (changed_all p group.changes) → P p → P (plant_after p group)
unfolding plant_after
after-group P p group with_it without =
    ⊎_elim
    (λ (t : is_alters (group_verdict p group) ≡ true). rw t with_it)
    (λ (t : is_alters (group_verdict p group) ≡ false). rw t without)
    (cases_Bool (is_alters (group_verdict p group)))

-- the users stay
pub users-after : (p : RoutingData) (group : Group) → (plant_after p group).users ≡ p.users
users-after p group = after-group (λ q. q.users ≡ p.users) p group (users_all p group.changes) refl

known-changed : (head : ControlHead) (p : RoutingData) (change : Change) → made_known head (changed p change) change ≡ made_known head p change
unfolding changed
known-changed head p (AddRow row) = refl
known-changed head p (DelRow selector prefix) = refl
known-changed head p (BarPoint point) = refl
known-changed head p (FreePoint point) = refl
known-changed head p (BarSub point ssn) = refl
known-changed head p (FreeSub point ssn) = refl
known-changed head p (LocalUp ssn) =
    ap (λ outs. outs ++ to_concerned head p true ssn)
    (all-alike ssn p (changed p (LocalUp ssn)) _ (record { users = refl; out = λ x e. comes-back ssn x p.out_of_service e }))
known-changed head p (LocalDown ssn) =
    ap (λ outs. outs ++ to_concerned head p false ssn)
    (all-alike ssn p (changed p (LocalDown ssn)) _ (record { users = refl; out = λ x e. goes-out ssn x p.out_of_service e }))

only-changed : (head : ControlHead) (p : RoutingData) (changes : List Change) → known_by head (changed_all p changes) (only_among changes) ≡ known_by head p (only_among changes)
only-changed head p [] = refl
only-changed head p (change ∷ []) = known-changed head p change
only-changed head p (change ∷ other ∷ more) = refl

-- so what a group makes known is told by the routing data before it too
pub known-after : (head : ControlHead) (p : RoutingData) (group : Group) → known_by head (plant_after p group) (only_among group.changes) ≡ known_by head p (only_among group.changes)
known-after head p group =
    let change = only_among group.changes in
    after-group (λ q. known_by head q change ≡ known_by head p change) p group (only-changed head p group.changes) refl
