-- Events that never fall in phases, of one link in each, are known by those of each phase and link.
use Rattle.std.proofs.Common.{◌≡◌, ℕ, suc, ◌≤◌, ◌<◌, ◌==◌, Bool, true, false, cond, [], ◌∷◌, refl, sym, ap, ◌∙◌, arith, inl, inr}
use Rattle.std.specs.Prelude.{◌≢◌, filter}
use Rattle.std.specs.List.{AllByRecursion}
use Rattle.std.specs.List.Sorted.{IsNonDecreasingBy}
use Rattle.std.proofs.lemmas.Bool.{eqb-true, cases_Bool, cases_lt}
use Rattle.std.proofs.lemmas.Bool.Decides.{nat_tests}
use Rattle.std.proofs.lemmas.List.Elements.{recursion_from_All}
use Rattle.std.proofs.lemmas.List.Sorted.{IsNonDecreasingBy-drop}
use Rattle.relay_base.specs.declared.words.Stamp.{Stamp}
use Rattle.plant_core.specs.declared.entry.ControlEvent.{ControlEvent}
use Rattle.capture_form.specs.Events.{Stamped, is_at}
use Rattle.right_book.proofs.ListLemmas.{weaker}

same_number : (n : ℕ) → (n == n) ≡ true
same_number n = grind (arith, nat_tests)

differs : (a b : ℕ) → a ≢ b → (a == b) ≡ false
differs a b h = elim (cases_Bool (a == b)) [ inl e ↦ absurd (h (eqb-true a b e)) | inr e ↦ e ]

-- a pair stands where its stamp says
pub here : (e : Stamp × ControlEvent) → is_at e.0.phase e.0.link e ≡ true
here e = rw (same_number e.0.phase, same_number e.0.link) refl

other_phase : (phase k : ℕ) (e : Stamp × ControlEvent) → e.0.phase ≢ phase → is_at phase k e ≡ false
other_phase phase k e h = rw (differs e.0.phase phase h) refl

cons-none : (t : Bool) (e : Stamp × ControlEvent) (es : Stamped) → t ≡ true → cond t (e ∷ es) es ≡ [] → ⊥
cons-none t e es is h = let none : e ∷ es ≡ [] = ap (λ b. cond b (e ∷ es) es) (sym is) ∙ h in cc

rest-none : (t : Bool) (e : Stamp × ControlEvent) (es : Stamped) → cond t (e ∷ es) es ≡ [] → es ≡ []
rest-none true e es h = cc
rest-none false e es h = h

-- each of the events is of the one link of its phase
abbrev pub HasLinks : (ℕ → ℕ) → Stamped → Type 0
HasLinks one events = AllByRecursion (λ e. e.0.link ≡ one e.0.phase) events

pub links : (one : ℕ → ℕ) (events : Stamped) → ((phase k : ℕ) → k ≢ one phase → filter (is_at phase k) events ≡ []) → HasLinks one events
links one [] h = tt
links one (e ∷ es) h =
    let is : e.0.link ≡ one e.0.phase = elim (cases_Bool (e.0.link == one e.0.phase)) [
      | inl same ↦ eqb-true e.0.link (one e.0.phase) same
      | inr not ↦ absurd (cons-none (is_at e.0.phase e.0.link e) e (filter (is_at e.0.phase e.0.link) es) (here e)
          (h e.0.phase e.0.link (λ same. absurd (unlike e.0.link (one e.0.phase) same not))))
    ] in
    (is, links one es (λ phase k n. rest-none (is_at phase k e) e (filter (is_at phase k) es) (h phase k n)))
  where
    unlike : (a b : ℕ) → a ≡ b → (a == b) ≡ false → ⊥
    unlike a b same not = let t : (a == b) ≡ true = ap (λ n. a == n) (sym same) ∙ same_number a in cc

-- what holds of all events of each phase and link holds of all
pub members : (P : ℕ → Stamp × ControlEvent → Type 0) (events : Stamped) → ((phase k : ℕ) → AllByRecursion (P phase) (filter (is_at phase k) events)) → AllByRecursion (λ e. P e.0.phase e) events
members P [] h = tt
members P (e ∷ es) h = (
  first (is_at e.0.phase e.0.link e) (filter (is_at e.0.phase e.0.link) es) (here e) (h e.0.phase e.0.link),
  members P es (λ phase k. rest (P phase) (is_at phase k e) (filter (is_at phase k) es) (h phase k)),
)
  where
    first : (t : Bool) (es : Stamped) → t ≡ true → AllByRecursion (P e.0.phase) (cond t (e ∷ es) es) → P e.0.phase e
    first true es is h = h.0
    first false es is h = absurd cc

    rest : (Q : Stamp × ControlEvent → Type 0) (t : Bool) (es : Stamped) → AllByRecursion Q (cond t (e ∷ es) es) → AllByRecursion Q es
    rest Q true es h = h.1
    rest Q false es h = h

-- phases never fall
abbrev Climbs : Stamped → Type 0
Climbs [] = Unit {0}
Climbs (e ∷ es) = AllByRecursion (λ x. e.0.phase ≤ x.0.phase) es × Climbs es

pub climbs : (events : Stamped) → IsNonDecreasingBy (λ e. e.0.phase) events → Climbs events
climbs [] h = tt
climbs (e ∷ es) h = (
  recursion_from_All (λ x. e.0.phase ≤ x.0.phase) es (λ i d lt. h 0 (suc i) d (omega arith) (omega (arith, lt))),
  climbs es (IsNonDecreasingBy-drop (λ x. x.0.phase) 1 (e ∷ es) h),
)

none_at : (phase k : ℕ) (events : Stamped) → AllByRecursion (λ x. phase < x.0.phase) events → filter (is_at phase k) events ≡ []
none_at phase k [] h = refl
none_at phase k (x ∷ xs) h =
    ap (λ t. cond t (x ∷ filter (is_at phase k) xs) (filter (is_at phase k) xs)) (other_phase phase k x (λ s. absurd (omega (arith, s, h.0)))) ∙ none_at phase k xs h.1

abbrev Alike : Stamped → Stamped → Type 0
Alike xs ys = (phase k : ℕ) → filter (is_at phase k) xs ≡ filter (is_at phase k) ys

first_is_least : (x y : Stamp × ControlEvent) (xs ys : Stamped) → Climbs (y ∷ ys) → Alike (x ∷ xs) (y ∷ ys) → y.0.phase ≤ x.0.phase
first_is_least x y xs ys up h = elim (cases_lt x.0.phase y.0.phase) [
  | inl lt ↦ absurd (cons-none (is_at x.0.phase x.0.link x) x (filter (is_at x.0.phase x.0.link) xs) (here x)
      (h x.0.phase x.0.link ∙ none_at x.0.phase x.0.link (y ∷ ys) (lt, weaker (λ e. y.0.phase ≤ e.0.phase) (λ e. x.0.phase < e.0.phase) ys (λ e le. omega (arith, lt, le)) up.0)))
  | inr le ↦ le
]

heads : (s t : Bool) (x y : Stamp × ControlEvent) (xs ys : Stamped) → s ≡ true → t ≡ true → cond s (x ∷ xs) xs ≡ cond t (y ∷ ys) ys → x ≡ y
heads true true x y xs ys p q h = cc
heads false t x y xs ys p q h = absurd cc
heads true false x y xs ys p q h = absurd cc

rests : (t : Bool) (x : Stamp × ControlEvent) (xs ys : Stamped) → cond t (x ∷ xs) xs ≡ cond t (x ∷ ys) ys → xs ≡ ys
rests true x xs ys h = cc
rests false x xs ys h = h

same_from : (one : ℕ → ℕ) (xs ys : Stamped) → Climbs xs → Climbs ys → HasLinks one xs → HasLinks one ys → Alike xs ys → xs ≡ ys
same_from one [] [] f g l m h = refl
same_from one [] (y ∷ ys) f g l m h = absurd (cons-none (is_at y.0.phase y.0.link y) y (filter (is_at y.0.phase y.0.link) ys) (here y) (sym (h y.0.phase y.0.link)))
same_from one (x ∷ xs) [] f g l m h = absurd (cons-none (is_at x.0.phase x.0.link x) x (filter (is_at x.0.phase x.0.link) xs) (here x) (h x.0.phase x.0.link))
same_from one (x ∷ xs) (y ∷ ys) f g l m h =
    let phase : y.0.phase ≡ x.0.phase = omega (arith, first_is_least x y xs ys g h, first_is_least y x ys xs f (λ p k. sym (h p k))) in
    let link : y.0.link ≡ x.0.link = m.0 ∙ ap one phase ∙ sym l.0 in
    let at : is_at x.0.phase x.0.link y ≡ true = rw (phase, link, same_number x.0.phase, same_number x.0.link) refl in
    let same : x ≡ y = heads (is_at x.0.phase x.0.link x) (is_at x.0.phase x.0.link y) x y (filter (is_at x.0.phase x.0.link) xs) (filter (is_at x.0.phase x.0.link) ys) (here x) at (h x.0.phase x.0.link) in
    let more : Alike xs ys = λ p k. rests (is_at p k x) x (filter (is_at p k) xs) (filter (is_at p k) ys) (h p k ∙ ap (λ e. filter (is_at p k) (e ∷ ys)) (sym same)) in
    ap (λ e. e ∷ xs) same ∙ ap (λ es. y ∷ es) (same_from one xs ys f.1 g.1 l.1 m.1 more)

pub same_events : (one : ℕ → ℕ) (xs ys : Stamped) → IsNonDecreasingBy (λ e. e.0.phase) xs → IsNonDecreasingBy (λ e. e.0.phase) ys → HasLinks one xs → HasLinks one ys
    → ((phase k : ℕ) → filter (is_at phase k) xs ≡ filter (is_at phase k) ys) → xs ≡ ys
same_events one xs ys f g l m h = same_from one xs ys (climbs xs f) (climbs ys g) l m h
