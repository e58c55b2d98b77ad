-- The lanes of a phase come to their places, and leave them.
use Rattle.std.proofs.Common.{◌≡◌, ◌+◌, true, List, [], ◌∷◌, ◌++◌, length, map, reverse, All, Result, Ok, Err, IfOk, sym, ap, ◌∙◌, subst, arith, append_assoc, length-append}
use Rattle.std.proofs.lemmas.List.{map-append, length-map, reverse-append, reverse-reverse, length-reverse}
use Rattle.std.proofs.lemmas.List.Elements.{recursion_from_All}
use Rattle.std.specs.declared.vec.Vec.{Vec}
use Rattle.std.specs.declared.alloc.Global.{Global}
use Rattle.std.specs.List.{AllByRecursion}
use Rattle.plant_core.specs.Plant.{PlantState}
use Rattle.gtt_editions.specs.Editions.{edition_of}
use Rattle.gtt_editions.specs.Published.{Published, published, Begins}
use Rattle.gtt_editions.specs.Standing.{Standing, Publishing, IsNewPlace, IsOpenedOn, IsEndOf}
use Rattle.scmg.specs.Lane.{ControlState}
use Rattle.lane_seats.specs.Seats.{SeatState}
use Rattle.node_engine.specs.Barriers.{IsPlantOf, IsAtOpening, HaveSeen}
use Rattle.right_book.proofs.ListLemmas.{all-push, all-first, all-rest, weaker}

pub opening-places : {E : Type 0} (r : Result (Publishing × Vec Standing Global) E) (lane : ControlState) (plant : PlantState) → IsPlantOf lane plant → IfOk r (λ t. IsOpenedOn plant t.0) → IfOk r (λ t. All (IsNewPlace t.0) t.1.items) → IfOk r (λ t. AllByRecursion (IsAtOpening lane) t.1.items)
opening-places (Ok t) lane plant of opened new =
    weaker (IsNewPlace t.0) (IsAtOpening lane) t.1.items
    (λ p n. let same : p.opened ≡ edition_of plant = n.opened ∙ opened.opened in record { routing = ap (λ o. o.routing) same ∙ of.routing; number = ap (λ o. o.number) same ∙ of.edition; seen = n.seen })
    (recursion_from_All (IsNewPlace t.0) t.1.items new)
opening-places (Err f) lane plant of opened new = tt

all-reversed : {A : Type 0} (P : A → Type 0) (xs : List A) → AllByRecursion P xs → AllByRecursion P (reverse xs)
all-reversed P [] h = tt
all-reversed P (x ∷ xs) h = subst (AllByRecursion P) (sym (reverse-append (x ∷ []) xs)) (all-push P (reverse xs) x (all-reversed P xs h.1) h.0)

-- what is said of all places is said of those that lanes took, and of the others
pub places-taken : {A : Type 0} (P : Standing → Type 0) (old new : List Standing) (seats : List (SeatState A)) → old ≡ new ++ reverse (map (λ s. s.place) seats) → AllByRecursion P old
    → AllByRecursion P (map (λ s. s.place) seats) × AllByRecursion P new
places-taken P old new seats same h =
    let both : AllByRecursion P (new ++ reverse (map (λ s. s.place) seats)) = subst (AllByRecursion P) same h in
    let back : AllByRecursion P (reverse (reverse (map (λ s. s.place) seats))) = all-reversed P (reverse (map (λ s. s.place) seats)) (all-rest P new (reverse (map (λ s. s.place) seats)) both) in
    (subst (AllByRecursion P) (reverse-reverse (map (λ s. s.place) seats)) back, all-first P new (reverse (map (λ s. s.place) seats)) both)

-- one lane more
pub place-taken : {A : Type 0} (all left rest : List Standing) (place : Standing) (lane : A) (seats : List (SeatState A)) → all ≡ left ++ reverse (map (λ s. s.place) seats) → left ≡ rest ++ place ∷ []
    → all ≡ rest ++ reverse (map (λ s. s.place) (seats ++ record { lane = lane; place = place } ∷ []))
place-taken {A} all left rest place lane seats same last =
    let one : SeatState A = record { lane = lane; place = place } in
    let pushed : reverse (map (λ s. s.place) (seats ++ one ∷ [])) ≡ place ∷ reverse (map (λ s. s.place) seats) =
    ap reverse (map-append (λ (s : SeatState A). s.place) seats (one ∷ [])) ∙ reverse-append (map (λ s. s.place) seats) (place ∷ []) in
    same ∙ (ap (λ l. l ++ reverse (map (λ s. s.place) seats)) last ∙ (append_assoc rest (place ∷ []) (reverse (map (λ s. s.place) seats)) ∙ ap (λ l. rest ++ l) (sym pushed)))

pub places-left : {A : Type 0} (old new : List Standing) (seats : List (SeatState A)) (lanes : List A) → old ≡ new ++ reverse (map (λ s. s.place) seats) → map (λ s. s.lane) seats ≡ lanes → length old ≡ length new + length lanes
places-left {A} old new seats lanes same are =
    omega (arith, ap length same, length-append new (reverse (map (λ s. s.place) seats)), length-reverse (map (λ s. s.place) seats), length-map seats (λ (s : SeatState A). s.place), length-map seats (λ (s : SeatState A). s.lane), ap length are)

-- ---- and leave them

-- lanes that have learnt the end of a publisher have seen what that published
pub seen-at-end : {A : Type 0} (from p : Publishing) (end : Standing) (seats lanes : List (SeatState A)) → from ≡ p → IsEndOf from end → seats ≡ lanes → AllByRecursion (λ s. Begins end.seen s.place.seen) seats → HaveSeen p lanes
seen-at-end from p end seats lanes same of are h =
    subst (HaveSeen p) are (subst (λ (x : Published). AllByRecursion (λ s. Begins x s.place.seen) seats) (of.seen ∙ ap (λ (x : Publishing). published x.seen.changes true) same) h)
