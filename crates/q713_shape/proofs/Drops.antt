-- Lists, from a place on.
use Rattle.std.proofs.Common.{◌≡◌, ℕ, ◌+◌, ◌<◌, List, ◌∷◌, length, get_or, drop, map, ap, ◌∙◌, add-one}
use Rattle.std.specs.Prelude.{Option, None}
use Rattle.std.specs.Option.{option_map}
use Rattle.std.specs.Borrow.{Bor}
use Rattle.std.proofs.Math.Seq.{drop-cons}
use Rattle.std.proofs.Math.ListN.{get_or-map}
use Rattle.std.proofs.lemmas.List.{length-map}
use Rattle.q713_shape.specs.Parts.{slices, optional_slices}

pub drop-next : {A : Type 0} (xs : List A) (i : ℕ) (d : A) → i < length xs → drop i xs ≡ get_or xs i d ∷ drop (i + 1) xs
drop-next xs i d h = rw (add-one) (drop-cons xs i d h)

map-drop_next : {A B : Type 0} (f : A → B) (xs : List A) (i : ℕ) (d : A) → i < length xs → drop i (map f xs) ≡ f (get_or xs i d) ∷ drop (i + 1) (map f xs)
map-drop_next f xs i d h = drop-next (map f xs) i (f d) (rw (length-map xs f) h) ∙ ap (λ x. x ∷ drop (i + 1) (map f xs)) (get_or-map f xs i d)

pub slices-drop : (values : List (Bor (List ℕ))) (i : ℕ) (d : Bor (List ℕ)) → i < length values → drop i (slices values) ≡ (get_or values i d).now ∷ drop (i + 1) (slices values)
slices-drop values i d h = map-drop_next (λ (x : Bor (List ℕ)). x.now) values i d h

pub optional_slices-drop : (values : List (Option (Bor (List ℕ)))) (i : ℕ) → i < length values → drop i (optional_slices values) ≡ option_map (λ x. x.now) (get_or values i None) ∷ drop (i + 1) (optional_slices values)
optional_slices-drop values i h = map-drop_next (option_map (λ (x : Bor (List ℕ)). x.now)) values i None h
