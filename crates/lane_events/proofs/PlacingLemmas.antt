-- The events that a lane takes, one more at a time.
use Rattle.std.proofs.Common.{◌≡◌, ℕ, ◌+◌, ◌<◌, ◌++◌, [], ◌∷◌, List, length, get_or, take, map, filter, ap, sym, subst, ◌∙◌, Bor, arith}
use Rattle.std.proofs.lemmas.List.{take_more, map-append, get_or-map, length-map}
use Rattle.std.proofs.lemmas.List.Elements.{filter-append}
use Rattle.relay_base.specs.declared.words.Stamp.{Stamp}
use Rattle.plant_core.specs.declared.entry.ControlEvent.{ControlEvent}
use Rattle.capture_form.specs.declared.lane_place.LanePlace.{LanePlace}
use Rattle.lane_events.specs.declared.placing.Lane.{Lane}
use Rattle.lane_events.specs.Placing.{is_in, kept}

kept-append : (lane : Lane) (xs ys : List (LanePlace × (Stamp × ControlEvent))) → kept lane (xs ++ ys) ≡ kept lane xs ++ kept lane ys
kept-append lane xs ys = ap (map (λ e. e.1)) (filter-append (λ e. is_in lane e.0) xs ys) ∙ map-append (λ e. e.1) (filter (λ e. is_in lane e.0) xs) (filter (λ e. is_in lane e.0) ys)

-- a list by reference, of which one item more is seen
pub kept_more : (lane : Lane) (xs : List (LanePlace × Bor (Stamp × ControlEvent))) (all : List (LanePlace × (Stamp × ControlEvent))) (i : ℕ) (x : LanePlace × Bor (Stamp × ControlEvent)) → map (λ e. (e.0, e.1.now)) xs ≡ all → i < length xs → x ≡ get_or xs i x
    → kept lane (take i all) ++ kept lane ((x.0, x.1.now) ∷ []) ≡ kept lane (take (i + 1) all)
kept_more lane xs all i x seen lt is =
    let y : LanePlace × (Stamp × ControlEvent) = (x.0, x.1.now) in
    let see : LanePlace × Bor (Stamp × ControlEvent) → LanePlace × (Stamp × ControlEvent) = λ e. (e.0, e.1.now) in
    let within : i < length (map see xs) = omega (arith, lt, length-map xs see) in
    let there : get_or (map see xs) i y ≡ y = get_or-map see xs i x y lt ∙ ap see (sym is) in
    let here = sym (ap (kept lane) (take_more (map see xs) i y within ∙ ap (λ z. take i (map see xs) ++ z ∷ []) there) ∙ kept-append lane (take i (map see xs)) (y ∷ [])) in
    subst (λ l. kept lane (take i l) ++ kept lane (y ∷ []) ≡ kept lane (take (i + 1) l)) seen here
