-- A slot that an opening holds after one more event it held before.
use Rattle.std.proofs.Common.{◌≡◌, ℕ, ◌+◌, nat_lt, Bool, true, false, cond, List, [], ◌∷◌, ◌++◌, map, Some, None, if◌then◌else◌, refl, ⊎_elim, arith, count_by}
use Rattle.std.proofs.lemmas.Bool.{both_ways, lt-ltb, ltb-true, and_parts, and_from, or_cases, or_parts, or_from, or_left, or_right, false_from_ne_true}
use Rattle.std.proofs.lemmas.List.Sums.{sum_by-append}
use Rattle.relay_base.specs.declared.words.Event.{Event}
use Rattle.plant_core.specs.declared.terms.Ticks.{Ticks}
use Rattle.section_model.specs.Ends.{End, Connection}
use Rattle.section_model.specs.Step.{end_is_gone}
use Rattle.section_model.specs.Lane.{Opening, fed, gone_for, is_tick, is_kept_by, is_at, reference_of, holds, holds_by, is_held, with_event}

-- ticks are counted on
kept_of_fewer : (freeze few more : ℕ) → nat_lt (few + more) freeze ≡ true → nat_lt few freeze ≡ true
kept_of_fewer freeze few more kept = let within = ltb-true (few + more) freeze kept in lt-ltb few freeze (omega (arith, within))

kept_of_ticks : (freeze : ℕ) (events : List Event) (event : Event)
    → nat_lt (count_by is_tick (events ++ event ∷ [])) freeze ≡ true → nat_lt (count_by is_tick events) freeze ≡ true
kept_of_ticks freeze events event kept =
    kept_of_fewer freeze (count_by is_tick events) (count_by is_tick (event ∷ []))
    (rw (sum_by-append (λ e. cond (is_tick e) 1 0) events (event ∷ [])) at kept)

kept_before : (freeze : ℕ) (ticks : Ticks) (end : Connection → End) (c : Connection) (events : List Event) (event : Event)
    → is_kept_by freeze (gone_for ticks end c (events ++ event ∷ [])) ≡ true → is_kept_by freeze (gone_for ticks end c events) ≡ true
unfolding gone_for
kept_before freeze ticks end c [] event kept = by_test (end_is_gone (end c)) kept
  where
    by_test : (b : Bool)
        → is_kept_by freeze (elim b [ true ↦ Some (count_by is_tick (event ∷ [])) | false ↦ gone_for ticks end (fed ticks c event) [] ]) ≡ true
        → is_kept_by freeze (if b then Some 0 else None) ≡ true
    by_test true kept = kept_of_ticks freeze [] event kept
    by_test false kept = refl
kept_before freeze ticks end c (first ∷ events) event kept =
    by_test (end_is_gone (end c)) (kept_before freeze ticks end (fed ticks c first) events event) kept
  where
    by_test : (b : Bool)
        → (is_kept_by freeze (gone_for ticks end (fed ticks c first) (events ++ event ∷ [])) ≡ true → is_kept_by freeze (gone_for ticks end (fed ticks c first) events) ≡ true)
        → is_kept_by freeze (elim b [ true ↦ Some (count_by is_tick (first ∷ events ++ event ∷ [])) | false ↦ gone_for ticks end (fed ticks c first) (events ++ event ∷ []) ]) ≡ true
        → is_kept_by freeze (elim b [ true ↦ Some (count_by is_tick (first ∷ events)) | false ↦ gone_for ticks end (fed ticks c first) events ]) ≡ true
    by_test true rest kept = kept_of_ticks freeze (first ∷ events) event kept
    by_test false rest kept = rest kept

end_before : (ticks : Ticks) (slot : ℕ) (end : Connection → End) (event : Event) (o : Opening)
    → holds_by ticks slot end (with_event event o) ≡ true → holds_by ticks slot end o ≡ true
end_before ticks slot end event o later =
    let parts = and_parts (is_at slot (reference_of (end o.first))) (is_kept_by ticks.freeze (gone_for ticks end o.first (o.since ++ event ∷ []))) later in
    and_from (is_at slot (reference_of (end o.first))) (is_kept_by ticks.freeze (gone_for ticks end o.first o.since))
    parts.0 (kept_before ticks.freeze ticks end o.first o.since event parts.1)

pub holds_before : (ticks : Ticks) (slot : ℕ) (event : Event) (o : Opening) → holds ticks slot (with_event event o) ≡ true → holds ticks slot o ≡ true
holds_before ticks slot event o later =
    let this = holds_by ticks slot (λ c. c.this) in
    let that = holds_by ticks slot (λ c. c.that) in
    ⊎_elim
    (λ (e : this (with_event event o) ≡ true). or_left (this o) (that o) (end_before ticks slot (λ c. c.this) event o e))
    (λ (e : that (with_event event o) ≡ true). or_right (this o) (that o) (end_before ticks slot (λ c. c.that) event o e))
    (or_cases (this (with_event event o)) (that (with_event event o)) later)

holds_never : (ticks : Ticks) (slot : ℕ) (event : Event) (o : Opening) → holds ticks slot o ≡ false → holds ticks slot (with_event event o) ≡ false
holds_never ticks slot event o free =
    false_from_ne_true (holds ticks slot (with_event event o)) (λ later. both_ways (holds ticks slot o) free (holds_before ticks slot event o later))

-- a slot that nobody holds stays free
pub free_after : (ticks : Ticks) (slot : ℕ) (event : Event) (openings : List Opening)
    → is_held ticks openings slot ≡ false → is_held ticks (map (with_event event) openings) slot ≡ false
free_after ticks slot event [] free = refl
free_after ticks slot event (o ∷ openings) free =
    let parts = or_parts (holds ticks slot o) (is_held ticks openings slot) free in
    or_from (holds ticks slot (with_event event o)) (is_held ticks (map (with_event event) openings) slot)
    (holds_never ticks slot event o parts.0) (free_after ticks slot event openings parts.1)
