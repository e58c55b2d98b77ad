-- What came on a link, phase after phase.
use Rattle.std.proofs.Common.{◌≡◌, ℕ, suc, ◌+◌, ◌-◌, ◌≤◌, ◌<◌, ◌==◌, ◌&&◌, nat_le, Bool, true, false, cond, List, [], ◌∷◌, ◌++◌, refl, sym, ap, ap₂, ◌∙◌, arith, inl, inr, le-leb, eq-eqb, ne_eqb}
use Rattle.std.specs.Prelude.{filter, slice_index_or}
use Rattle.std.specs.List.{AllByRecursion}
use Rattle.std.specs.List.Sorted.{IsNonDecreasingBy}
use Rattle.std.proofs.lemmas.Bool.{lt-leb, cases_order, cases_Bool, and_parts, leb-true}
use Rattle.std.proofs.lemmas.List.Elements.{filter_agree}
use Rattle.relay_base.specs.declared.words.Stamp.{Stamp}
use Rattle.plant_core.specs.declared.entry.ControlEvent.{ControlEvent}
use Rattle.capture_form.specs.Events.{Stamped, is_at}
use Rattle.right_book.specs.Own.{HasEventsInOrder}
use Rattle.right_book.proofs.ListLemmas.{weaker}
use Rattle.book_law.specs.SequenceLaw.{on_link, events_on}

abbrev Event : Type 0
Event = Stamp × ControlEvent

-- Phases never fall.

abbrev Rises : Stamped → Type 0
Rises events = IsNonDecreasingBy (λ e. e.0.phase) events

rises_tail : (x : Event) (xs : Stamped) → Rises (x ∷ xs) → Rises xs
rises_tail x xs rises = λ i j d le lt. rises (suc i) (suc j) d (omega (arith, le)) (omega (arith, lt))

head_least : (x : Event) (xs : Stamped) → Rises (x ∷ xs) → AllByRecursion (λ e. x.0.phase ≤ e.0.phase) xs
head_least x [] rises = tt
head_least x (y ∷ ys) rises =
    let first : x.0.phase ≤ y.0.phase = rises 0 1 x (omega arith) (omega arith) in
    (first, weaker (λ e. y.0.phase ≤ e.0.phase) (λ e. x.0.phase ≤ e.0.phase) ys (λ e least. omega (arith, first, least)) (head_least y ys (rises_tail x (y ∷ ys) rises)))

-- What came on a link from a phase on.

abbrev from_phase : ℕ → ℕ → Stamped → Stamped
from_phase phase link events = filter (λ e. nat_le phase e.0.phase && e.0.link == link) events

none_at : (phase link : ℕ) (events : Stamped) → AllByRecursion (λ e. phase < e.0.phase) events → filter (is_at phase link) events ≡ []
none_at phase link [] later = refl
none_at phase link (e ∷ events) later =
    ap (λ t. cond (t && e.0.link == link) (e ∷ filter (is_at phase link) events) (filter (is_at phase link) events))
    (ne_eqb e.0.phase phase (λ same. omega (arith, later.0, same)))
    ∙ none_at phase link events later.1

-- one event, of an earlier phase, of this one, and of a later one
earlier : (on t u v : Bool) (x : Event) (f g h : Stamped) → t ≡ false → u ≡ false → v ≡ false → f ≡ g ++ h
    → cond (t && on) (x ∷ f) f ≡ cond (u && on) (x ∷ g) g ++ cond (v && on) (x ∷ h) h
earlier on t u v x f g h first second third is = rw (first, second, third) is

present : (on t u v : Bool) (x : Event) (f g h : Stamped) → t ≡ true → u ≡ true → v ≡ false → f ≡ g ++ h
    → cond (t && on) (x ∷ f) f ≡ cond (u && on) (x ∷ g) g ++ cond (v && on) (x ∷ h) h
present true t u v x f g h first second third is = rw (first, second, third) (ap (λ l. x ∷ l) is)
present false t u v x f g h first second third is = rw (first, second, third) is

later : (on t u v : Bool) (x : Event) (f g h : Stamped) → t ≡ true → u ≡ false → v ≡ true → g ≡ [] → f ≡ g ++ h
    → cond (t && on) (x ∷ f) f ≡ cond (u && on) (x ∷ g) g ++ cond (v && on) (x ∷ h) h
later true t u v x f g h first second third none is =
    rw (first, second, third) (ap (λ l. x ∷ l) (is ∙ ap (λ l. l ++ h) none) ∙ ap (λ l. l ++ x ∷ h) (sym none))
later false t u v x f g h first second third none is = rw (first, second, third) is

-- that of a phase stands before that of the later ones
one_phase : (phase link : ℕ) (events : Stamped) → Rises events
    → from_phase phase link events ≡ filter (is_at phase link) events ++ from_phase (phase + 1) link events
one_phase phase link [] rises = refl
one_phase phase link (x ∷ xs) rises =
    let rest = one_phase phase link xs (rises_tail x xs rises) in
    let f = from_phase phase link xs in
    let g = filter (is_at phase link) xs in
    let h = from_phase (phase + 1) link xs in
    let p = x.0.phase in
    elim (cases_order p phase) [
      | inl same ↦ present (x.0.link == link) (nat_le phase p) (p == phase) (nat_le (phase + 1) p) x f g h
          (le-leb phase p (omega (arith, same))) (eq-eqb p phase same) (lt-leb (phase + 1) p (omega (arith, same))) rest
      | inr (inl less) ↦ earlier (x.0.link == link) (nat_le phase p) (p == phase) (nat_le (phase + 1) p) x f g h
          (lt-leb phase p less) (ne_eqb p phase (λ same. omega (arith, same, less))) (lt-leb (phase + 1) p (omega (arith, less))) rest
      | inr (inr more) ↦ later (x.0.link == link) (nat_le phase p) (p == phase) (nat_le (phase + 1) p) x f g h
          (le-leb phase p (omega (arith, more))) (ne_eqb p phase (λ same. omega (arith, same, more))) (le-leb (phase + 1) p (omega (arith, more)))
          (none_at phase link xs (weaker (λ e. p ≤ e.0.phase) (λ e. phase < e.0.phase) xs (λ e least. omega (arith, least, more)) (head_least x xs rises))) rest
    ]

-- nothing comes where each phase has nothing
not_nil : (t : Bool) (x : Event) (xs : Stamped) → t ≡ true → cond t (x ∷ xs) xs ≡ [] → ⊥
not_nil t x xs is none = let some : x ∷ xs ≡ [] = ap (λ b. cond b (x ∷ xs) xs) (sym is) ∙ none in cc

rest_nil : (t : Bool) (x : Event) (xs : Stamped) → cond t (x ∷ xs) xs ≡ [] → xs ≡ []
rest_nil true x xs none = cc
rest_nil false x xs none = none

nothing : (phase link : ℕ) (events : Stamped) → ((k : ℕ) → filter (is_at (phase + k) link) events ≡ []) → from_phase phase link events ≡ []
nothing phase link [] none = refl
nothing phase link (x ∷ xs) none =
    elim (cases_Bool (nat_le phase x.0.phase && x.0.link == link)) [
      | inl is ↦
          let parts = and_parts (nat_le phase x.0.phase) (x.0.link == link) is in
          let there : x.0.phase ≡ phase + (x.0.phase - phase) = omega (arith, leb-true phase x.0.phase parts.0) in
          absurd (not_nil (is_at (phase + (x.0.phase - phase)) link x) x (filter (is_at (phase + (x.0.phase - phase)) link) xs)
          (ap (λ n. x.0.phase == n && x.0.link == link) (sym there) ∙ rw (eq-eqb x.0.phase x.0.phase refl, parts.1) refl) (none (x.0.phase - phase)))
      | inr missed ↦
          ap (λ t. cond t (x ∷ from_phase phase link xs) (from_phase phase link xs)) missed
          ∙ nothing phase link xs (λ k. rest_nil (is_at (phase + k) link x) x (filter (is_at (phase + k) link) xs) (none k))
    ]

-- phase after phase
phases_from : (phase link : ℕ) (phases : List (List Stamped)) (events : Stamped) → Rises events
    → ((k : ℕ) → filter (is_at (phase + k) link) events ≡ slice_index_or (slice_index_or phases k []) link [])
    → from_phase phase link events ≡ events_on phases link
phases_from phase link [] events rises has = nothing phase link events has
phases_from phase link (lists ∷ phases) events rises has =
    one_phase phase link events rises
    ∙ ap₂ (λ (now later : Stamped). now ++ later)
    (ap (λ n. filter (is_at n link) events) (omega arith) ∙ has 0)
    (phases_from (phase + 1) link phases events rises (λ k. ap (λ n. filter (is_at n link) events) (omega arith) ∙ has (suc k)))

-- events in order are on a link those of the phases
pub link_in_order : (link : ℕ) (phases : List (List Stamped)) (events : Stamped) → HasEventsInOrder events phases → on_link link events ≡ events_on phases link
link_in_order link phases events own =
    filter_agree (λ e. e.0.link == link) (λ e. nat_le 0 e.0.phase && e.0.link == link) (λ e. ap (λ t. t && e.0.link == link) (sym (le-leb 0 e.0.phase (omega arith)))) events
    ∙ (one_phase 0 link events own.phases_rise
    ∙ (ap (λ l. l ++ from_phase 1 link events) (own.in_order 0 link)
    ∙ phases_from 1 link phases events own.phases_rise (λ k. ap (λ n. filter (is_at n link) events) (omega arith) ∙ own.in_order (suc k) link)))
