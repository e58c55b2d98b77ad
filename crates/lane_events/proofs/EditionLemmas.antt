-- Digits and editions, one more at a time.
use Rattle.std.proofs.Common.{◌≡◌, ℕ, ◌+◌, ◌-◌, ◌*◌, ◌<◌, ◌++◌, [], ◌∷◌, min, List, length, get_or, take, ap, sym, ◌∙◌, refl, arith}
use Rattle.std.proofs.lemmas.List.{take_more}
use Rattle.std.proofs.lemmas.List.Sums.{fold_more}
use Rattle.relay_base.specs.Decimal.{digits_value}
use Rattle.plant_core.specs.Plant.{RoutingData}
use Rattle.plant_core.specs.declared.change.Group.{Group}
use Rattle.plant_core.specs.Changes.{plant_after, plant_after_all}

pub value_more : (digits : List ℕ) (i d most : ℕ) → i < length digits → min most (10 * min most (digits_value (take i digits)) + (get_or digits i d - 48)) ≡ min most (digits_value (take (i + 1) digits))
value_more digits i d most lt =
    let more = fold_more (λ n b. 10 * n + (b - 48)) 0 digits i d lt in
    let capped : min most (10 * min most (digits_value (take i digits)) + (get_or digits i d - 48)) ≡ min most (10 * digits_value (take i digits) + (get_or digits i d - 48)) = omega arith in
    capped ∙ ap (min most) (sym more)

absorbed-last : (p : RoutingData) (groups : List Group) (g : Group) → plant_after_all p (groups ++ g ∷ []) ≡ plant_after (plant_after_all p groups) g
absorbed-last p [] g = refl
absorbed-last p (first ∷ groups) g = absorbed-last (plant_after p first) groups g

pub absorbed_more : (p : RoutingData) (groups : List Group) (i : ℕ) (g : Group) → i < length groups → plant_after_all p (take (i + 1) groups) ≡ plant_after (plant_after_all p (take i groups)) (get_or groups i g)
absorbed_more p groups i g lt = ap (plant_after_all p) (take_more groups i g lt) ∙ absorbed-last p (take i groups) (get_or groups i g)
