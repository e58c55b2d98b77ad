-- The events of a journal: each is the next one of its phase and link exactly where the journal has all events in their order.
use Rattle.std.proofs.Common.{◌≡◌, ◌∙◌, ℕ, zero, suc, ◌+◌, ◌-◌, ◌≤◌, ◌==◌, ◌&&◌, nat_le, Bool, true, false, cond, List, [], ◌∷◌, ◌++◌, length, map, take, get_or, Option, Some, None, option_and_then, refl, sym, ap, ap₂, subst, arith, length-append, append_assoc, append-nil, add-zero, zero-add}
use Rattle.std.specs.Prelude.{filter, count_by, slice_get}
use Rattle.std.specs.List.{AllByRecursion, list_all}
use Rattle.std.specs.List.Sorted.{IsNonDecreasingBy}
use Rattle.std.proofs.Math.Seq.{get_or-append_seam}
use Rattle.std.proofs.lemmas.Bool.{eqb-true, eq-eqb, leb-true, le-leb}
use Rattle.std.proofs.lemmas.List.{map-append, take_all}
use Rattle.std.proofs.lemmas.List.Elements.{filter-append, All-from_recursion}
use Rattle.std.proofs.lemmas.List.Sorted.{IsNonDecreasingBy-drop, IsNonDecreasingBy-push}
use Rattle.relay_base.specs.declared.words.Stamp.{Stamp}
use Rattle.plant_core.specs.declared.entry.ControlEvent.{ControlEvent}
use Rattle.capture_form.specs.Events.{Stamped, is_at}
use Rattle.right_book.specs.Own.{events_at, HasEventsInOrder}
use Rattle.journal_finding.specs.Entries.{LaneRules, is_stamped_at, is_same_stamp, taken_at, next_event, is_phase_reached, if_stamped, links_taken, phases_taken, all_taken}
use Rattle.finding_law.proofs.Next.{HasParts, ComesNext, Along}
use Rattle.capture_form.proofs.PhaseLemmas.{both-left, both-right}
use Rattle.right_book.proofs.ListLemmas.{count-first}

-- ---- stamps

same_stamp : (one other : Stamp) → is_same_stamp one other ≡ true → one ≡ other
same_stamp one other h =
    let front = both-left (one.phase == other.phase && one.link == other.link) (one.line == other.line) h in
    let phase = eqb-true one.phase other.phase (both-left (one.phase == other.phase) (one.link == other.link) front) in
    let link = eqb-true one.link other.link (both-right (one.phase == other.phase) (one.link == other.link) front) in
    let line = eqb-true one.line other.line (both-right (one.phase == other.phase && one.link == other.link) (one.line == other.line) h) in
    λ i. record { phase = phase i; link = link i; line = line i }

stamp_itself : (stamp : Stamp) → is_same_stamp stamp stamp ≡ true
stamp_itself stamp = rw (eq-eqb stamp.phase stamp.phase refl, eq-eqb stamp.link stamp.link refl, eq-eqb stamp.line stamp.line refl) refl

at_itself : (stamp : Stamp) → is_stamped_at stamp.phase stamp.link stamp ≡ true
at_itself stamp = rw (eq-eqb stamp.phase stamp.phase refl, eq-eqb stamp.link stamp.link refl) refl

-- ---- lists

counted : {A B : Type 0} (p : A → Bool) (q : B → Bool) (f : A → B) → ((x : A) → q (f x) ≡ p x) → (xs : List A) → count_by p xs ≡ length (filter q (map f xs))
counted p q f same [] = refl
counted p q f same (x ∷ xs) =
    count-first p x xs ∙ ap₂ (λ t n. cond t 1 0 + n) (sym (same x)) (counted p q f same xs) ∙ longer (q (f x)) (f x) (filter q (map f xs))
  where
    longer : {B : Type 0} (t : Bool) (y : B) (ys : List B) → cond t 1 0 + length ys ≡ length (cond t (y ∷ ys) ys)
    longer true y ys = omega arith
    longer false y ys = omega arith

seam : {A : Type 0} (xs : List A) (y : A) (ys : List A) → slice_get (xs ++ y ∷ ys) (length xs) ≡ Some y
seam [] y ys = refl
seam (x ∷ xs) y ys = seam xs y ys

begins_more : {A : Type 0} (xs ys : List A) (y : A) → xs ≡ take (length xs) ys → slice_get ys (length xs) ≡ Some y → xs ++ y ∷ [] ≡ take (length (xs ++ y ∷ [])) ys
begins_more [] [] y h k = absurd cc
begins_more [] (z ∷ zs) y h k = let same : z ≡ y = cc in ap (λ a. a ∷ []) (sym same)
begins_more (x ∷ xs) [] y h k = absurd cc
begins_more (x ∷ xs) (z ∷ zs) y h k =
    let first : x ≡ z = cc in
    let rest : xs ≡ take (length xs) zs = cc in
    ap₂ (λ a l. a ∷ l) first (begins_more xs zs y rest k)

pub rises_to : {A : Type 0} (n : A → ℕ) (xs : List A) (y : A) (ys : List A) → IsNonDecreasingBy n (xs ++ y ∷ ys) → AllByRecursion (λ x. n x ≤ n y) xs
rises_to n [] y ys h = tt
rises_to n (x ∷ xs) y ys h =
    let there : get_or (x ∷ (xs ++ y ∷ ys)) (suc (length xs)) y ≡ y = get_or-append_seam xs y ys y in
    let first : n x ≤ n y = subst (λ z. n x ≤ n z) there (h 0 (suc (length xs)) y (omega arith) (omega (arith, length-append xs (y ∷ ys)))) in
    (first, rises_to n xs y ys (IsNonDecreasingBy-drop n 1 (x ∷ (xs ++ y ∷ ys)) h))

-- ---- the next event

-- all that stands before an entry is of its phase or an earlier one, and the entry's pair is the next one of its phase and link
abbrev pub IsReached : {V E : Type 0} (rules : LaneRules V E) → HasParts rules → List E → E → Type 0
IsReached rules has journal e =
    (is_phase_reached rules journal (rules.stamp e).phase ≡ true) × (next_event rules journal (rules.stamp e).phase (rules.stamp e).link ≡ Some (has.pair e))

module _ {V E : Type 0} (rules : LaneRules V E) (has : HasParts rules) where
  pub reaches : (journal : List E) (e : E) → rules.entry journal (rules.stamp e) (has.event e) (rules.asked e) ≡ e → ComesNext rules has journal e → IsReached rules has journal e
  reaches journal e made h = of_phase (is_phase_reached rules journal stamp.phase) refl h
    where
      stamp : Stamp
      stamp = rules.stamp e

      of_stamp : (next : Stamp × ControlEvent) (t : Bool) → is_same_stamp stamp next.0 ≡ t → cond t (rules.event next.1) None ≡ Some (has.event e) → next ≡ has.pair e
      of_stamp next true t k =
          ap (λ s. (s, next.1)) (sym (same_stamp stamp next.0 t)) ∙ sym (has.of_pair journal stamp next.1 (has.event e) (rules.asked e) k) ∙ ap has.pair made
      of_stamp next false t k = absurd cc

      of_next : (o : Option (Stamp × ControlEvent)) → option_and_then (if_stamped rules stamp) o ≡ Some (has.event e) → o ≡ Some (has.pair e)
      of_next None k = absurd cc
      of_next (Some next) k = ap Some (of_stamp next (is_same_stamp stamp next.0) refl k)

      of_phase : (t : Bool) → is_phase_reached rules journal stamp.phase ≡ t
          → cond t (option_and_then (if_stamped rules stamp) (next_event rules journal stamp.phase stamp.link)) None ≡ Some (has.event e)
          → (is_phase_reached rules journal stamp.phase ≡ true) × (next_event rules journal stamp.phase stamp.link ≡ Some (has.pair e))
      of_phase true t k = (t, of_next (next_event rules journal stamp.phase stamp.link) k)
      of_phase false t k = absurd cc

  comes : (journal : List E) (e : E) → IsReached rules has journal e → ComesNext rules has journal e
  comes journal e h =
      let stamp = rules.stamp e in
      ap (λ t. cond t (option_and_then (if_stamped rules stamp) (next_event rules journal stamp.phase stamp.link)) None) h.0
      ∙ ap (option_and_then (if_stamped rules stamp)) h.1
      ∙ ap (λ t. cond t (rules.event (has.pair e).1) None) (ap (is_same_stamp stamp) (has.paired e) ∙ stamp_itself stamp)
      ∙ has.taken e

  -- ---- the pairs of a journal

  abbrev pub pairs : List E → Stamped
  pairs journal = map has.pair journal

  abbrev at : ℕ → ℕ → List E → Stamped
  at phase link journal = filter (is_at phase link) (pairs journal)

  taken_is : (journal : List E) (phase link : ℕ) → taken_at rules journal phase link ≡ length (at phase link journal)
  taken_is journal phase link =
      counted (λ e. is_stamped_at phase link (rules.stamp e)) (is_at phase link) has.pair (λ e. ap (is_stamped_at phase link) (has.paired e)) journal

  -- one entry more
  at_more : (phase link : ℕ) (journal : List E) (e : E) (t : Bool) → is_stamped_at phase link (rules.stamp e) ≡ t
      → at phase link (journal ++ e ∷ []) ≡ at phase link journal ++ cond t (has.pair e ∷ []) []
  at_more phase link journal e t h =
      ap (filter (is_at phase link)) (map-append has.pair journal (e ∷ []))
      ∙ filter-append (is_at phase link) (pairs journal) (has.pair e ∷ [])
      ∙ ap (λ b. at phase link journal ++ cond b (has.pair e ∷ []) []) (ap (is_stamped_at phase link) (has.paired e) ∙ h)

  -- those of each phase and link are the first of its events
  abbrev Begins : List E → Type 0
  Begins journal = (phase link : ℕ) → at phase link journal ≡ take (length (at phase link journal)) (events_at rules.events phase link)

  begins : (journal : List E) (e : E) → IsReached rules has journal e → Begins journal → Begins (journal ++ e ∷ [])
  begins journal e h b phase link = of_test (is_stamped_at phase link (rules.stamp e)) refl
    where
      Is : Stamped → Type 0
      Is here = here ≡ take (length here) (events_at rules.events phase link)

      stamp : Stamp
      stamp = rules.stamp e

      next : is_stamped_at phase link stamp ≡ true → slice_get (events_at rules.events phase link) (length (at phase link journal)) ≡ Some (has.pair e)
      next t =
          let p = eqb-true stamp.phase phase (both-left (stamp.phase == phase) (stamp.link == link) t) in
          let l = eqb-true stamp.link link (both-right (stamp.phase == phase) (stamp.link == link) t) in
          ap (slice_get (events_at rules.events phase link)) (sym (taken_is journal phase link))
          ∙ sym (ap₂ (λ p l. next_event rules journal p l) p l) ∙ h.1

      of_test : (t : Bool) → is_stamped_at phase link stamp ≡ t → Is (at phase link (journal ++ e ∷ []))
      of_test true t =
          subst Is (sym (at_more phase link journal e true t)) (begins_more (at phase link journal) (events_at rules.events phase link) (has.pair e) (b phase link) (next t))
      of_test false t = subst Is (sym (at_more phase link journal e false t ∙ append-nil (at phase link journal))) (b phase link)

  abbrev Rises : List E → Type 0
  Rises journal = IsNonDecreasingBy (λ x. x.0.phase) (pairs journal)

  below : (journal : List E) (phase : ℕ) → is_phase_reached rules journal phase ≡ true → AllByRecursion (λ (x : Stamp × ControlEvent). x.0.phase ≤ phase) (pairs journal)
  below [] phase h = tt
  below (e ∷ journal) phase h =
      let rest = list_all (λ (x : E). nat_le (rules.stamp x).phase phase) journal in
      let first : (rules.stamp e).phase ≤ phase = leb-true (rules.stamp e).phase phase (both-left (nat_le (rules.stamp e).phase phase) rest h) in
      (subst (λ (s : Stamp). s.phase ≤ phase) (sym (has.paired e)) first, below journal phase (both-right (nat_le (rules.stamp e).phase phase) rest h))

  rises : (journal : List E) (e : E) → is_phase_reached rules journal (rules.stamp e).phase ≡ true → Rises journal → Rises (journal ++ e ∷ [])
  rises journal e h r =
      let all : AllByRecursion (λ (x : Stamp × ControlEvent). x.0.phase ≤ (has.pair e).0.phase) (pairs journal) =
      subst (λ (s : Stamp). AllByRecursion (λ (x : Stamp × ControlEvent). x.0.phase ≤ s.phase) (pairs journal)) (sym (has.paired e)) (below journal (rules.stamp e).phase h) in
      subst (IsNonDecreasingBy (λ (x : Stamp × ControlEvent). x.0.phase)) (sym (map-append has.pair journal (e ∷ [])))
      (IsNonDecreasingBy-push (λ (x : Stamp × ControlEvent). x.0.phase) (pairs journal) (has.pair e) r
      (λ d some. All-from_recursion (λ (x : Stamp × ControlEvent). x.0.phase ≤ (has.pair e).0.phase) (pairs journal) all (length (pairs journal) - 1) d (omega (arith, some))))

  -- ---- all entries

  begin_all : (journal more : List E) → Along (IsReached rules has) journal more → Begins journal → Begins (journal ++ more)
  begin_all journal [] h b = subst Begins (sym (append-nil journal)) b
  begin_all journal (e ∷ more) h b = subst Begins (append_assoc journal (e ∷ []) more) (begin_all (journal ++ e ∷ []) more h.1 (begins journal e h.0 b))

  rise_all : (journal more : List E) → Along (IsReached rules has) journal more → Rises journal → Rises (journal ++ more)
  rise_all journal [] h r = subst Rises (sym (append-nil journal)) r
  rise_all journal (e ∷ more) h r = subst Rises (append_assoc journal (e ∷ []) more) (rise_all (journal ++ e ∷ []) more h.1 (rises journal e h.0.0 r))

  -- ---- no event is left

  links_least : (journal : List E) (phase link k : ℕ) (lists : List Stamped) → links_taken rules journal phase link lists ≡ true
      → length (get_or lists k []) ≤ taken_at rules journal phase (link + k)
  links_least journal phase link k [] h = omega arith
  links_least journal phase link zero (events ∷ lists) h =
      let first = eqb-true (taken_at rules journal phase link) (length events) (both-left (taken_at rules journal phase link == length events) (links_taken rules journal phase (link + 1) lists) h) in
      subst (λ n. length events ≤ taken_at rules journal phase n) (sym (add-zero link)) (omega (arith, first))
  links_least journal phase link (suc k) (events ∷ lists) h =
      let place : (link + 1) + k ≡ link + suc k = omega arith in
      subst (λ n. length (get_or lists k []) ≤ taken_at rules journal phase n) place
      (links_least journal phase (link + 1) k lists (both-right (taken_at rules journal phase link == length events) (links_taken rules journal phase (link + 1) lists) h))

  phases_least : (journal : List E) (phase n link : ℕ) (phases : List (List Stamped)) → phases_taken rules journal phase phases ≡ true
      → length (get_or (get_or phases n []) link []) ≤ taken_at rules journal (phase + n) link
  phases_least journal phase n link [] h = omega arith
  phases_least journal phase zero link (lists ∷ phases) h =
      let first = links_least journal phase 0 link lists (both-left (links_taken rules journal phase 0 lists) (phases_taken rules journal (phase + 1) phases) h) in
      subst (λ p. length (get_or lists link []) ≤ taken_at rules journal p link) (sym (add-zero phase)) (subst (λ l. length (get_or lists link []) ≤ taken_at rules journal phase l) (zero-add link) first)
  phases_least journal phase (suc n) link (lists ∷ phases) h =
      let place : (phase + 1) + n ≡ phase + suc n = omega arith in
      subst (λ p. length (get_or (get_or phases n []) link []) ≤ taken_at rules journal p link) place
      (phases_least journal (phase + 1) n link phases (both-right (links_taken rules journal phase 0 lists) (phases_taken rules journal (phase + 1) phases) h))

  least : (journal : List E) (phase link : ℕ) → all_taken rules journal ≡ true → length (events_at rules.events phase link) ≤ taken_at rules journal phase link
  least journal zero link h = omega arith
  least journal (suc n) link h =
      let place : 1 + n ≡ suc n = omega arith in
      subst (λ p. length (get_or (get_or rules.events n []) link []) ≤ taken_at rules journal p link) place (phases_least journal 1 n link rules.events h)

  -- the journal has all events in their order
  pub has_events : (journal : List E) → Along (IsReached rules has) [] journal → all_taken rules journal ≡ true → HasEventsInOrder (pairs journal) rules.events
  has_events journal h all = record {
    phases_rise = rise_all [] journal h (λ i j d le lt. absurd (omega (arith, lt)));
    in_order = λ phase link.
        begin_all [] journal h (λ phase link. refl) phase link
        ∙ take_all (length (at phase link journal)) (events_at rules.events phase link) (omega (arith, least journal phase link all, taken_is journal phase link));
  }

  -- ---- and back

  links_all : (journal : List E) (phase link : ℕ) (lists : List Stamped) → ((k : ℕ) → taken_at rules journal phase (link + k) ≡ length (get_or lists k []))
      → links_taken rules journal phase link lists ≡ true
  links_all journal phase link [] h = refl
  links_all journal phase link (events ∷ lists) h =
      let first : taken_at rules journal phase link ≡ length events = ap (taken_at rules journal phase) (sym (add-zero link)) ∙ h 0 in
      ap₂ (λ a b. a && b) (eq-eqb (taken_at rules journal phase link) (length events) first)
      (links_all journal phase (link + 1) lists (λ k. ap (taken_at rules journal phase) (place k) ∙ h (suc k)))
    where
      place : (k : ℕ) → (link + 1) + k ≡ link + suc k
      place k = omega arith

  phases_all : (journal : List E) (phase : ℕ) (phases : List (List Stamped))
      → ((n link : ℕ) → taken_at rules journal (phase + n) link ≡ length (get_or (get_or phases n []) link [])) → phases_taken rules journal phase phases ≡ true
  phases_all journal phase [] h = refl
  phases_all journal phase (lists ∷ phases) h =
      ap₂ (λ a b. a && b)
      (links_all journal phase 0 lists (λ k. ap₂ (λ p l. taken_at rules journal p l) (sym (add-zero phase)) (zero-add k) ∙ h 0 k))
      (phases_all journal (phase + 1) phases (λ n link. ap (λ p. taken_at rules journal p link) (place n) ∙ h (suc n) link))
    where
      place : (n : ℕ) → (phase + 1) + n ≡ phase + suc n
      place n = omega arith

  pub takes_all : (journal : List E) → HasEventsInOrder (pairs journal) rules.events → all_taken rules journal ≡ true
  takes_all journal h =
      phases_all journal 1 rules.events (λ n link. taken_is journal (1 + n) link ∙ ap length (h.in_order (1 + n) link) ∙ ap (λ p. length (events_at rules.events p link)) (place n))
    where
      place : (n : ℕ) → 1 + n ≡ suc n
      place n = omega arith

  reached : (journal : List E) (phase : ℕ) → AllByRecursion (λ (x : Stamp × ControlEvent). x.0.phase ≤ phase) (pairs journal) → is_phase_reached rules journal phase ≡ true
  reached [] phase h = refl
  reached (e ∷ journal) phase h =
      ap₂ (λ a b. a && b) (le-leb (rules.stamp e).phase phase (subst (λ (s : Stamp). s.phase ≤ phase) (has.paired e) h.0)) (reached journal phase h.1)

  -- of a journal that has them
  stands : (journal : List E) (e : E) (more : List E) → HasEventsInOrder (pairs (journal ++ e ∷ more)) rules.events → IsReached rules has journal e
  stands journal e more h =
      let stamp = rules.stamp e in
      let parted : pairs (journal ++ e ∷ more) ≡ pairs journal ++ has.pair e ∷ pairs more = map-append has.pair journal (e ∷ more) in
      let up : IsNonDecreasingBy (λ (x : Stamp × ControlEvent). x.0.phase) (pairs journal ++ has.pair e ∷ pairs more) = subst (IsNonDecreasingBy (λ (x : Stamp × ControlEvent). x.0.phase)) parted h.phases_rise in
      let low : AllByRecursion (λ (x : Stamp × ControlEvent). x.0.phase ≤ (has.pair e).0.phase) (pairs journal) = rises_to (λ (x : Stamp × ControlEvent). x.0.phase) (pairs journal) (has.pair e) (pairs more) up in
      let here : is_at stamp.phase stamp.link (has.pair e) ≡ true = ap (is_stamped_at stamp.phase stamp.link) (has.paired e) ∙ at_itself stamp in
      let rest = filter (is_at stamp.phase stamp.link) (pairs more) in
      let events : events_at rules.events stamp.phase stamp.link ≡ at stamp.phase stamp.link journal ++ has.pair e ∷ rest =
      sym (h.in_order stamp.phase stamp.link) ∙ ap (filter (is_at stamp.phase stamp.link)) parted
      ∙ filter-append (is_at stamp.phase stamp.link) (pairs journal) (has.pair e ∷ pairs more)
      ∙ ap (λ t. at stamp.phase stamp.link journal ++ cond t (has.pair e ∷ rest) rest) here in (
        reached journal stamp.phase (subst (λ (s : Stamp). AllByRecursion (λ (x : Stamp × ControlEvent). x.0.phase ≤ s.phase) (pairs journal)) (has.paired e) low),
        ap₂ slice_get events (taken_is journal stamp.phase stamp.link) ∙ seam (at stamp.phase stamp.link journal) (has.pair e) rest,
      )

  stand_all : (journal more : List E) → HasEventsInOrder (pairs (journal ++ more)) rules.events → Along (ComesNext rules has) journal more
  stand_all journal [] h = tt
  stand_all journal (e ∷ more) h = (
    comes journal e (stands journal e more h),
    stand_all (journal ++ e ∷ []) more (subst (λ l. HasEventsInOrder (pairs l) rules.events) (sym (append_assoc journal (e ∷ []) more)) h),
  )

  pub all_come : (journal : List E) → HasEventsInOrder (pairs journal) rules.events → Along (ComesNext rules has) [] journal
  all_come journal h = stand_all [] journal h
