-- What is known of events of which each link's are known.
use Rattle.std.proofs.Common.{◌≡◌, ℕ, zero, suc, ◌+◌, ◌-◌, ◌≤◌, ◌==◌, Bool, true, false, not, cond, List, [], ◌∷◌, length, map, get_or, refl, sym, ap, ◌∙◌, subst, arith, length-append, zero-add, add-zero, inl, inr}
use Rattle.std.specs.Prelude.{◌≢◌, filter}
use Rattle.std.specs.List.{AllByRecursion}
use Rattle.std.proofs.lemmas.Bool.{eqb-true, cases_Bool}
use Rattle.std.proofs.lemmas.Bool.Decides.{nat_tests}
use Rattle.std.proofs.lemmas.List.Filters.{length-filter_both}
use Rattle.std.proofs.lemmas.List.{length-map}
use Rattle.reassembly.proofs.Bounds.{length_filter}
use Rattle.relay_base.specs.declared.words.Stamp.{Stamp}
use Rattle.plant_core.specs.declared.entry.ControlEvent.{ControlEvent}
use Rattle.node_head.specs.declared.head.Head.{Head}
use Rattle.capture_form.specs.Events.{Stamped, phase_events, AreOfLinks}
use Rattle.capture_form.specs.Place.{place_of}
use Rattle.capture_form.specs.declared.lane_place.LanePlace.{LanePlace}
use Rattle.right_book.proofs.ListLemmas.{weaker, all-filter}
use Rattle.lane_seats.specs.Plans.{of_link, planned, AreWhole}
use Rattle.node_engine.specs.Running.{Took}

pub differs : (a b : ℕ) → a ≢ b → (a == b) ≡ false
differs a b h =
    elim (cases_Bool (a == b)) [
      | inl e ↦ absurd (h (eqb-true a b e))
      | inr e ↦ e
    ]

pub same_number : (n : ℕ) → (n == n) ≡ true
same_number n = grind (arith, nat_tests)

-- ---- what is said of each link's events is said of all

first-of : (P : Stamp × ControlEvent → Type 0) (t : Bool) (e : Stamp × ControlEvent) (es : Stamped) → t ≡ true → AllByRecursion P (cond t (e ∷ es) es) → P e
first-of P t e es is h = let all : AllByRecursion P (e ∷ es) = subst (λ b. AllByRecursion P (cond b (e ∷ es) es)) is h in all.0

rest-of : (P : Stamp × ControlEvent → Type 0) (t : Bool) (e : Stamp × ControlEvent) (es : Stamped) → AllByRecursion P (cond t (e ∷ es) es) → AllByRecursion P es
rest-of P true e es h = h.1
rest-of P false e es h = h

all-links : (P : Stamp × ControlEvent → Type 0) (events : Stamped) → ((link : ℕ) → AllByRecursion P (of_link link events)) → AllByRecursion P events
all-links P [] h = tt
all-links P (e ∷ es) h =
    (first-of P (e.0.link == e.0.link) e (of_link e.0.link es) (same_number e.0.link) (h e.0.link), all-links P es (λ link. rest-of P (e.0.link == link) e (of_link link es) (h link)))

-- the list of a link has events of the phase
list-phase : (phase link n : ℕ) (lists : List Stamped) → AreOfLinks phase link lists → AllByRecursion (λ e. e.0.phase ≡ phase) (get_or lists n [])
list-phase phase link n [] h = tt
list-phase phase link zero (events ∷ more) h = weaker (λ e. (e.0.phase ≡ phase) × (e.0.link ≡ link)) (λ e. e.0.phase ≡ phase) events (λ e at. at.0) h.0
list-phase phase link (suc n) (events ∷ more) h = list-phase phase (link + 1) n more h.1

-- so what is whole of a phase is of the phase
pub whole-phase : (in_lane : LanePlace → Bool) (head : Head) (phase : ℕ) (lists : List Stamped) (events : Stamped) → AreOfLinks phase 0 lists → AreWhole (planned in_lane head lists) events → AllByRecursion (λ e. e.0.phase ≡ phase) events
whole-phase in_lane head phase lists events at whole =
    all-links (λ e. e.0.phase ≡ phase) events
    (λ link. subst (AllByRecursion (λ e. e.0.phase ≡ phase)) (sym (whole link))
    (all-filter (λ e. e.0.phase ≡ phase) (λ e. in_lane (place_of head e.1)) (get_or lists link []) (list-phase phase 0 link lists at)))

-- ---- there are no more of them than the phase has

-- those of the other links
abbrev others : ℕ → Stamped → Stamped
others link events = filter (λ e. not (e.0.link == link)) events

kept-one : (t : Bool) (k : ℕ) (e : Stamp × ControlEvent) (rest es : Stamped) → (t ≡ true → (e.0.link == k) ≡ false) → of_link k rest ≡ of_link k es → of_link k (cond (not t) (e ∷ rest) rest) ≡ of_link k (e ∷ es)
kept-one true k e rest es out same = same ∙ ap (λ b. cond b (e ∷ of_link k es) (of_link k es)) (sym (out refl))
kept-one false k e rest es out same = ap (λ l. cond (e.0.link == k) (e ∷ l) l) same

others-kept : (n k : ℕ) (events : Stamped) → n ≢ k → of_link k (others n events) ≡ of_link k events
others-kept n k [] other = refl
others-kept n k (e ∷ es) other =
    kept-one (e.0.link == n) k e (others n es) es (λ is. differs e.0.link k (λ s. other (sym (eqb-true e.0.link n is) ∙ s))) (others-kept n k es other)

later-one : (t : Bool) (n : ℕ) (e : Stamp × ControlEvent) (rest : Stamped) → (t ≡ false → n + 1 ≤ e.0.link) → AllByRecursion (λ x. n + 1 ≤ x.0.link) rest → AllByRecursion (λ x. n + 1 ≤ x.0.link) (cond (not t) (e ∷ rest) rest)
later-one true n e rest later h = h
later-one false n e rest later h = (later refl, h)

past : (a n : ℕ) → n ≤ a → (a == n) ≡ false → n + 1 ≤ a
past a n le out = grind (arith, nat_tests)

others-later : (n : ℕ) (events : Stamped) → AllByRecursion (λ e. n ≤ e.0.link) events → AllByRecursion (λ e. n + 1 ≤ e.0.link) (others n events)
others-later n [] h = tt
others-later n (e ∷ es) h = later-one (e.0.link == n) n e (others n es) (λ out. past e.0.link n h.0 out) (others-later n es h.1)

-- one event at least, where one is of the link
some-of : (t : Bool) (e : Stamp × ControlEvent) (es : Stamped) → t ≡ true → 1 ≤ length (cond t (e ∷ es) es)
some-of t e es is = subst (λ b. 1 ≤ length (cond b (e ∷ es) es)) (sym is) (omega arith)

count-links : (n : ℕ) (lists : List Stamped) (events : Stamped) → AllByRecursion (λ e. n ≤ e.0.link) events → ((k : ℕ) → length (of_link (n + k) events) ≤ length (get_or lists k [])) → length events ≤ length (phase_events lists)
count-links n [] [] from h = omega arith
count-links n [] (e ∷ es) from h =
    let here : n + (e.0.link - n) ≡ e.0.link = omega (arith, from.0) in
    let none : length (of_link e.0.link (e ∷ es)) ≤ 0 = subst (λ k. length (of_link k (e ∷ es)) ≤ 0) here (h (e.0.link - n)) in
    absurd (omega (arith, none, some-of (e.0.link == e.0.link) e (of_link e.0.link es) (same_number e.0.link)))
count-links n (list ∷ more) events from h =
    let rest : Stamped = others n events in
    let later : (k : ℕ) → length (of_link (n + 1 + k) rest) ≤ length (get_or more k []) =
    λ k. let same : of_link (n + 1 + k) rest ≡ of_link (n + suc k) events = others-kept n (n + 1 + k) events (λ s. absurd (omega (arith, s))) ∙ ap (λ m. of_link m events) (omega arith) in
    let least : length (of_link (n + suc k) events) ≤ length (get_or more k []) = h (suc k) in omega (arith, least, ap length same) in
    let first : length (of_link n events) ≤ length list = subst (λ k. length (of_link k events) ≤ length list) (add-zero n) (h 0) in
    omega (arith, length-filter_both (λ e. e.0.link == n) (λ e. not (e.0.link == n)) (λ e. refl) events, first, length-append list (phase_events more), count-links (n + 1) more rest (others-later n events from) later)

any-later : (events : Stamped) → AllByRecursion (λ e. 0 ≤ e.0.link) events
any-later [] = tt
any-later (e ∷ es) = (omega arith, any-later es)

whole-length : (in_lane : LanePlace → Bool) (head : Head) (lists : List Stamped) (events : Stamped) → AreWhole (planned in_lane head lists) events → length events ≤ length (phase_events lists)
whole-length in_lane head lists events whole =
    count-links 0 lists events (any-later events)
    (λ k. omega (arith, ap length (ap (λ n. of_link n events) (zero-add k) ∙ whole k), length_filter (λ e. in_lane (place_of head e.1)) (get_or lists k [])))

-- a journal grows by no more than the events
pub took-length : {E : Type 0} (pair : E → Stamp × ControlEvent) (in_lane : LanePlace → Bool) (head : Head) (lists : List Stamped) (old new : List E) → Took (map pair) in_lane head lists old new → length new ≤ length old + length (phase_events lists)
took-length pair in_lane head lists old new t =
    omega (arith, ap length t.journal, length-append old t.entries, length-map t.entries pair, whole-length in_lane head lists (map pair t.entries) t.own)
