-- The events of phases, one phase after another, are those of each phase and link in order.
use Rattle.std.proofs.Common.{◌≡◌, ℕ, zero, suc, ◌+◌, ◌-◌, ◌≤◌, ◌<◌, ◌==◌, Bool, true, false, cond, List, [], ◌∷◌, ◌++◌, length, get_or, refl, sym, ap, ◌∙◌, subst, arith, append-nil, append_assoc, inl, inr}
use Rattle.std.specs.Prelude.{◌≢◌, filter}
use Rattle.std.specs.List.{AllByRecursion}
use Rattle.std.specs.List.Sorted.{IsNonDecreasingBy}
use Rattle.std.proofs.lemmas.Bool.{cases_lt, cases_order}
use Rattle.std.proofs.lemmas.List.{get_or_past}
use Rattle.std.proofs.lemmas.List.Elements.{filter-append, All-from_recursion}
use Rattle.std.proofs.lemmas.List.Sorted.{IsNonDecreasingBy-push}
use Rattle.relay_base.specs.declared.words.Stamp.{Stamp}
use Rattle.plant_core.specs.declared.entry.ControlEvent.{ControlEvent}
use Rattle.capture_form.specs.Events.{Stamped, is_at}
use Rattle.right_book.specs.Own.{events_at, HasEventsInOrder}
use Rattle.right_book.proofs.ListLemmas.{weaker, all-push}
use Rattle.lane_seats.specs.Plans.{of_link, AreWhole}
use Rattle.node_engine.proofs.LinkLemmas.{differs, same_number}

-- a pair stands where its stamp says, and nowhere else
here : (e : Stamp × ControlEvent) → is_at e.0.phase e.0.link e ≡ true
here e = rw (same_number e.0.phase, same_number e.0.link) refl

other_phase : (phase k : ℕ) (e : Stamp × ControlEvent) → e.0.phase ≢ phase → is_at phase k e ≡ false
other_phase phase k e h = rw (differs e.0.phase phase h) refl

same_phase : (phase k : ℕ) (e : Stamp × ControlEvent) → e.0.phase ≡ phase → is_at phase k e ≡ (e.0.link == k)
same_phase phase k e h = rw (h, same_number phase) refl

-- ---- the events of one phase

-- no event stands in another phase
filter-none : (phase link : ℕ) (events : Stamped) → AllByRecursion (λ e. is_at phase link e ≡ false) events → filter (is_at phase link) events ≡ []
filter-none phase link [] h = refl
filter-none phase link (e ∷ es) h = ap (λ t. cond t (e ∷ filter (is_at phase link) es) (filter (is_at phase link) es)) h.0 ∙ filter-none phase link es h.1

abbrev IsAllOf : ℕ → Stamped → Type 0
IsAllOf phase events = AllByRecursion (λ e. e.0.phase ≡ phase) events

of-other : (phase other link : ℕ) (events : Stamped) → phase ≢ other → IsAllOf phase events → filter (is_at other link) events ≡ []
of-other phase other link events n h =
    filter-none other link events (weaker (λ e. e.0.phase ≡ phase) (λ e. is_at other link e ≡ false) events (λ e at. other_phase other link e (λ s. n (sym at ∙ s))) h)

-- in their own, those of a link are told by the link
of-same : (phase link : ℕ) (events : Stamped) → IsAllOf phase events → filter (is_at phase link) events ≡ of_link link events
of-same phase link [] h = refl
of-same phase link (e ∷ es) h =
    ap (λ t. cond t (e ∷ filter (is_at phase link) es) (filter (is_at phase link) es)) (same_phase phase link e h.0) ∙ ap (λ l. cond (e.0.link == link) (e ∷ l) l) (of-same phase link es h.1)

-- ---- phases never fall

abbrev Rises : Stamped → Type 0
Rises events = IsNonDecreasingBy (λ e. e.0.phase) events

rises-append : (phase : ℕ) (xs ys : Stamped) → Rises xs → AllByRecursion (λ e. e.0.phase ≤ phase) xs → AllByRecursion (λ e. e.0.phase ≡ phase) ys → Rises (xs ++ ys)
rises-append phase xs [] r f g = subst Rises (sym (append-nil xs)) r
rises-append phase xs (y ∷ ys) r f g =
    let last : (d : Stamp × ControlEvent) → 0 < length xs → (get_or xs (length xs - 1) d).0.phase ≤ y.0.phase =
    λ d some. let most : (get_or xs (length xs - 1) d).0.phase ≤ phase = All-from_recursion (λ (e : Stamp × ControlEvent). e.0.phase ≤ phase) xs f (length xs - 1) d (omega (arith, some)) in omega (arith, most, g.0) in
    subst Rises (append_assoc xs (y ∷ []) ys)
    (rises-append phase (xs ++ y ∷ []) ys (IsNonDecreasingBy-push (λ e. e.0.phase) xs y r last) (all-push (λ e. e.0.phase ≤ phase) xs y f (omega (arith, g.0))) g.1)

-- ---- one more phase

-- no event is of a later phase than there are
cons-none : (t : Bool) (e : Stamp × ControlEvent) (es : Stamped) → t ≡ true → cond t (e ∷ es) es ≡ [] → ⊥
cons-none t e es is h = let none : e ∷ es ≡ [] = ap (λ b. cond b (e ∷ es) es) (sym is) ∙ h in cc

rest-none : (t : Bool) (e : Stamp × ControlEvent) (es : Stamped) → cond t (e ∷ es) es ≡ [] → es ≡ []
rest-none true e es h = cc
rest-none false e es h = h

within : (most : ℕ) (events : Stamped) → ((phase link : ℕ) → most < phase → filter (is_at phase link) events ≡ []) → AllByRecursion (λ e. e.0.phase ≤ most) events
within most [] h = tt
within most (e ∷ es) h =
    let small : e.0.phase ≤ most = elim (cases_lt most e.0.phase) [
      | inl lt ↦ absurd (cons-none (is_at e.0.phase e.0.link e) e (filter (is_at e.0.phase e.0.link) es) (here e) (h e.0.phase e.0.link lt))
      | inr le ↦ le
    ] in
    (small, within most es (λ phase link lt. rest-none (is_at phase link e) e (filter (is_at phase link) es) (h phase link lt)))

none-later : (phases : List (List Stamped)) (phase link : ℕ) → length phases < phase → events_at phases phase link ≡ []
none-later phases zero link lt = refl
none-later phases (suc n) link lt = ap (λ lists. get_or lists link []) (get_or_past phases n [] (omega (arith, lt)))

pub phases-within : (phases : List (List Stamped)) (events : Stamped) → HasEventsInOrder events phases → AllByRecursion (λ e. e.0.phase ≤ length phases) events
phases-within phases events h = within (length phases) events (λ phase link lt. h.in_order phase link ∙ none-later phases phase link lt)

nothing-in_order : (phase link : ℕ) → filter (is_at phase link) [] ≡ events_at [] phase link
nothing-in_order zero link = refl
nothing-in_order (suc n) link = refl

pub no-events : HasEventsInOrder [] []
no-events = record { phases_rise = λ i j d le lt. absurd (omega (arith, lt)); in_order = nothing-in_order }

-- the lists of a phase, where there is one phase more
abbrev lists_at : List (List Stamped) → ℕ → List Stamped
lists_at phases n = get_or phases n []

lists-before : (phases : List (List Stamped)) (lists : List Stamped) (n : ℕ) → n < length phases → lists_at (phases ++ lists ∷ []) n ≡ lists_at phases n
lists-before [] lists n lt = absurd (omega (arith, lt))
lists-before (x ∷ xs) lists zero lt = refl
lists-before (x ∷ xs) lists (suc n) lt = lists-before xs lists n (omega (arith, lt))

lists-last : (phases : List (List Stamped)) (lists : List Stamped) → lists_at (phases ++ lists ∷ []) (length phases) ≡ lists
lists-last [] lists = refl
lists-last (x ∷ xs) lists = lists-last xs lists

lists-after : (phases : List (List Stamped)) (lists : List Stamped) (n : ℕ) → length phases < n → lists_at (phases ++ lists ∷ []) n ≡ []
lists-after [] lists zero lt = absurd (omega (arith, lt))
lists-after [] lists (suc n) lt = refl
lists-after (x ∷ xs) lists zero lt = absurd (omega (arith, lt))
lists-after (x ∷ xs) lists (suc n) lt = lists-after xs lists n (omega (arith, lt))

-- an earlier phase, the new one, and a later one
module _ (phases : List (List Stamped)) (lists : List Stamped) (events new : Stamped) (h : HasEventsInOrder events phases) (at : IsAllOf (length phases + 1) new) (whole : AreWhole (λ link. get_or lists link []) new) where
  abbrev Placed : ℕ → ℕ → Type 0
  Placed phase link = filter (is_at phase link) (events ++ new) ≡ events_at (phases ++ lists ∷ []) phase link

  -- where the new events have none, and where the old ones have none
  old-alone : (phase link : ℕ) → length phases + 1 ≢ phase → filter (is_at phase link) (events ++ new) ≡ filter (is_at phase link) events
  old-alone phase link other =
      filter-append (is_at phase link) events new ∙ ap (λ l. filter (is_at phase link) events ++ l) (of-other (length phases + 1) phase link new other at) ∙ append-nil (filter (is_at phase link) events)

  place-before : (n link : ℕ) → n < length phases → Placed (suc n) link
  place-before n link lt = old-alone (suc n) link (λ s. absurd (omega (arith, lt, s))) ∙ h.in_order (suc n) link ∙ ap (λ l. get_or l link []) (sym (lists-before phases lists n lt))

  place-last : (n link : ℕ) → n ≡ length phases → Placed (suc n) link
  place-last n link same =
      let old : filter (is_at (suc n) link) events ≡ [] = h.in_order (suc n) link ∙ none-later phases (suc n) link (omega (arith, same)) in
      let fresh : filter (is_at (suc n) link) new ≡ get_or lists link [] =
      ap (λ k. filter (is_at k link) new) (omega (arith, same)) ∙ of-same (length phases + 1) link new at ∙ whole link in
      filter-append (is_at (suc n) link) events new ∙ ap (λ l. l ++ filter (is_at (suc n) link) new) old ∙ fresh ∙ ap (λ l. get_or l link []) (sym (ap (lists_at (phases ++ lists ∷ [])) same ∙ lists-last phases lists))

  place-after : (n link : ℕ) → length phases < n → Placed (suc n) link
  place-after n link lt =
      old-alone (suc n) link (λ s. absurd (omega (arith, lt, s))) ∙ h.in_order (suc n) link ∙ none-later phases (suc n) link (omega (arith, lt)) ∙ ap (λ l. get_or l link []) (sym (lists-after phases lists n lt))

  place : (phase link : ℕ) → Placed phase link
  place zero link = old-alone zero link (λ s. absurd (omega (arith, s))) ∙ h.in_order zero link
  place (suc n) link =
      elim (cases_order n (length phases)) [
        | inl same ↦ place-last n link same
        | inr other ↦ elim other [
          | inl lt ↦ place-before n link lt
          | inr gt ↦ place-after n link gt
        ]
      ]

  -- events that stand in order, with those of one phase more
  pub more-events : HasEventsInOrder (events ++ new) (phases ++ lists ∷ [])
  more-events = record {
    phases_rise = rises-append (length phases + 1) events new h.phases_rise
        (weaker (λ e. e.0.phase ≤ length phases) (λ e. e.0.phase ≤ length phases + 1) events (λ e le. omega (arith, le)) (phases-within phases events h)) at;
    in_order = place;
  }
