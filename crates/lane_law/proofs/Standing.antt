-- No slot is held by two openings, whatever entries there are.
use Rattle.std.proofs.Common.{◌≡◌, ℕ, zero, suc, ◌<◌, ◌||◌, true, false, List, [], ◌∷◌, ◌++◌, map, Option, Some, None, IfSome, refl, sym, subst, ap, ◌∙◌, ⊎_elim, append-nil, eqb-true}
use Rattle.std.specs.Prelude.{slice_get}
use Rattle.std.proofs.lemmas.Bool.{both_ways, and_parts, or_cases, or_parts, or_from, or_left, or_right, false_from_ne_true}
use Rattle.std.proofs.lemmas.List.Folds.{list_any-append}
use Rattle.relay_base.specs.declared.words.Event.{Event}
use Rattle.plant_core.specs.declared.answer.Answer.{Answer}
use Rattle.plant_core.specs.declared.entry.Entry.{Entry}
use Rattle.plant_core.specs.declared.terms.Ticks.{Ticks}
use Rattle.section_model.specs.Ends.{End, Connection}
use Rattle.section_model.specs.Opening.{wish_of}
use Rattle.relay_base.specs.declared.limits.TheConstants.{MOST_LANES}
use Rattle.section_model.specs.References.{slot_of}
use Rattle.section_model.specs.Lane.{Lane, Opening, reference_of, is_at, is_kept_by, gone_for, holds, holds_by, is_held, with_event, opening_of, opening_list, openings_after, answer_of}
use Rattle.section_model.specs.Laws.{openings_from}
use Rattle.lane_law.specs.HearingLaw.{OneHolds}
use Rattle.lane_law.proofs.Opened.{EndsAre, AreAmong, IsNext, opens_next}
use Rattle.lane_law.proofs.Held.{holds_before, free_after}

abbrev pub AreApart : Ticks → List Opening → Type 0
AreApart ticks [] = Unit {0}
AreApart ticks (o ∷ more) = ((slot : ℕ) → holds ticks slot o ≡ true → is_held ticks more slot ≡ false) × AreApart ticks more

-- One more event.

apart_after : (ticks : Ticks) (event : Event) (openings : List Opening) → AreApart ticks openings → AreApart ticks (map (with_event event) openings)
apart_after ticks event [] apart = tt
apart_after ticks event (o ∷ openings) apart = (
  λ slot held. free_after ticks slot event openings (apart.0 slot (holds_before ticks slot event o held)),
  apart_after ticks event openings apart.1,
)

-- One opening more, which holds no slot that another holds.

abbrev HoldsNew : Ticks → List Opening → Opening → Type 0
HoldsNew ticks openings o = (slot : ℕ) → holds ticks slot o ≡ true → is_held ticks openings slot ≡ false

not_by_new : (ticks : Ticks) (slot : ℕ) (o x : Opening) (openings : List Opening) → (holds ticks slot o ≡ true → is_held ticks (x ∷ openings) slot ≡ false)
    → holds ticks slot x ≡ true → holds ticks slot o ≡ false
not_by_new ticks slot o x openings new held =
    false_from_ne_true (holds ticks slot o) (λ too. both_ways (holds ticks slot x) (or_parts (holds ticks slot x) (is_held ticks openings slot) (new too)).0 held)

apart_with : (ticks : Ticks) (openings : List Opening) (o : Opening) → AreApart ticks openings → HoldsNew ticks openings o → AreApart ticks (openings ++ o ∷ [])
apart_with ticks [] o apart new = (λ slot held. refl, tt)
apart_with ticks (x ∷ openings) o apart new = (
  λ slot held. list_any-append (holds ticks slot) openings (o ∷ [])
      ∙ or_from (is_held ticks openings slot) (holds ticks slot o || false)
      (apart.0 slot held) (or_from (holds ticks slot o) false (not_by_new ticks slot o x openings (new slot) held) refl),
  apart_with ticks openings o apart.1 (λ slot held. (or_parts (holds ticks slot x) (is_held ticks openings slot) (new slot held)).1),
)

-- What an event opens.

end_is_free : (lane : Lane) (openings : List Opening) (slot : ℕ) (mine : Option ℕ) → IfSome mine (IsNext lane openings) → is_at slot mine ≡ true
    → is_held lane.terms.ticks openings slot ≡ false
end_is_free lane openings slot None next at = absurd (cc)
end_is_free lane openings slot (Some m) next at = subst (λ s. is_held lane.terms.ticks openings s ≡ false) (eqb-true (slot_of m) slot at) next.free

abbrev pub new_of : Connection → Opening
new_of c = record { first = c; since = [] }

new_is_apart : (lane : Lane) (openings : List Opening) (c : Connection) → EndsAre (IsNext lane openings) c → HoldsNew lane.terms.ticks openings (new_of c)
new_is_apart lane openings c next = λ slot held.
    let ticks : Ticks = lane.terms.ticks in
    let part : (end : Connection → End) → IfSome (reference_of (end c)) (IsNext lane openings) → holds_by ticks slot end (new_of c) ≡ true → is_held ticks openings slot ≡ false =
    λ end is e. end_is_free lane openings slot (reference_of (end c)) is (and_parts (is_at slot (reference_of (end c))) (is_kept_by ticks.freeze (gone_for ticks end c [])) e).0 in
    ⊎_elim (part (λ d. d.this) next.0) (part (λ d. d.that) next.1)
    (or_cases (holds_by ticks slot (λ d. d.this) (new_of c)) (holds_by ticks slot (λ d. d.that) (new_of c)) held)

apart_opened : (lane : Lane) (event : Event) (openings : List Opening) (connection : Option Connection) → AreAmong (IsNext lane openings) connection
    → AreApart lane.terms.ticks openings → AreApart lane.terms.ticks (map (with_event event) openings ++ opening_list connection)
apart_opened lane event openings None next apart =
    subst (AreApart lane.terms.ticks) (sym (append-nil (map (with_event event) openings))) (apart_after lane.terms.ticks event openings apart)
apart_opened lane event openings (Some c) next apart =
    apart_with lane.terms.ticks (map (with_event event) openings) (new_of c) (apart_after lane.terms.ticks event openings apart)
    (λ slot held. free_after lane.terms.ticks slot event openings (new_is_apart lane openings c next slot held))

-- All entries.

apart_next : (lane : Lane) (openings : List Opening) (event : Event) (answer : Option Answer) → lane.number < MOST_LANES
    → AreApart lane.terms.ticks openings → AreApart lane.terms.ticks (openings_after lane openings event answer)
unfolding openings_after
apart_next lane openings event answer within apart =
    let wish = wish_of lane.terms event in
    apart_opened lane event openings (opening_of lane openings wish answer).connection (opens_next lane openings wish answer within) apart

pub apart_from : (lane : Lane) (openings : List Opening) (journal : List Entry) → lane.number < MOST_LANES
    → AreApart lane.terms.ticks openings → AreApart lane.terms.ticks (openings_from lane openings journal)
apart_from lane openings [] within apart = apart
apart_from lane openings (entry ∷ journal) within apart =
    apart_from lane (openings_after lane openings entry.event (answer_of entry)) journal within
    (apart_next lane openings entry.event (answer_of entry) within apart)

-- Two openings that hold one slot.

held_at : (ticks : Ticks) (slot : ℕ) (openings : List Opening) (i : ℕ) (o : Opening) → slice_get openings i ≡ Some o → holds ticks slot o ≡ true
    → is_held ticks openings slot ≡ true
held_at ticks slot [] i o here held = absurd (cc)
held_at ticks slot (x ∷ openings) zero o here held =
    let same : x ≡ o = cc in
    or_left (holds ticks slot x) (is_held ticks openings slot) (ap (holds ticks slot) same ∙ held)
held_at ticks slot (x ∷ openings) (suc i) o here held =
    or_right (holds ticks slot x) (is_held ticks openings slot) (held_at ticks slot openings i o here held)

no_later : (ticks : Ticks) (slot : ℕ) (x : Opening) (openings : List Opening) (j : ℕ) (one other : Opening) → AreApart ticks (x ∷ openings)
    → Some x ≡ Some one → slice_get openings j ≡ Some other → holds ticks slot one ≡ true → holds ticks slot other ≡ true → ⊥
no_later ticks slot x openings j one other apart first second held too =
    let same : x ≡ one = cc in
    both_ways (is_held ticks openings slot) (apart.0 slot (ap (holds ticks slot) same ∙ held)) (held_at ticks slot openings j other second too)

pub one_place : (ticks : Ticks) (slot : ℕ) (openings : List Opening) (i j : ℕ) (one other : Opening) → AreApart ticks openings
    → slice_get openings i ≡ Some one → slice_get openings j ≡ Some other → holds ticks slot one ≡ true → holds ticks slot other ≡ true → i ≡ j
one_place ticks slot [] i j one other apart first second held too = absurd (cc)
one_place ticks slot (x ∷ openings) zero zero one other apart first second held too = refl
one_place ticks slot (x ∷ openings) zero (suc j) one other apart first second held too =
    absurd (no_later ticks slot x openings j one other apart first second held too)
one_place ticks slot (x ∷ openings) (suc i) zero one other apart first second held too =
    absurd (no_later ticks slot x openings i other one apart second first too held)
one_place ticks slot (x ∷ openings) (suc i) (suc j) one other apart first second held too =
    ap suc (one_place ticks slot openings i j one other apart.1 first second held too)

pub one_holds : OneHolds
one_holds lane journal slot i j one other within first second held too =
    one_place lane.terms.ticks slot (openings_from lane [] journal) i j one other (apart_from lane [] journal within tt) first second held too
