-- What waits, and what may be named, after one more entry.
use Rattle.std.proofs.Common.{◌≡◌, ℕ, ◌+◌, ◌≤◌, ◌<◌, ◌==◌, ◌&&◌, ◌++◌, zero, suc, nat_le, Bool, true, false, true≢false, List, [], ◌∷◌, length, map, get_or, set, Option, Some, None, is_some, cond, is_none, ⊎_elim, le_trans, le-leb, leb-true, if◌then◌else◌, ap, sym, subst, ◌∙◌, refl, arith}
use Rattle.std.specs.List.{list_all}
use Rattle.std.proofs.Common.{get_or-set_same, get_or-set_other, append-nil}
use Rattle.std.proofs.lemmas.Grind.{flat_map-append}
use Rattle.std.proofs.lemmas.Bool.Decides.{leb_tells, eqb_tells}
use Rattle.std.proofs.lemmas.List.Sums.{sum_by-append}
use lib.Seq.{map-set_same}
use Rattle.std.proofs.lemmas.List.Folds.{list_all-append}
use Rattle.relay_base.specs.Decimal.{digits_value}
use Rattle.relay_base.specs.declared.words.Stamp.{Stamp}
use Rattle.plant_core.specs.Asking.{Question, asked_at}
use Rattle.plant_core.specs.Plant.{RoutingData}
use Rattle.plant_core.specs.declared.entry.ControlEvent.{ControlEvent}
use Rattle.journal_form.specs.Headings.{RoutingWords}
use Rattle.right_book.specs.Editions.{named}
use Rattle.journal_finding.specs.Entries.{LaneRules, is_stamped_at, taken_at, is_phase_reached, editions_of, links_taken, phases_taken, all_taken}
use Rattle.lane_events.specs.Pending.{Pending, Waiting, none_pending, one_taken, is_done, links_in, next_of, next_on, next_in, taken_in}
use Rattle.lane_events.specs.Editions.{Named, before_phase, named_next}
use Rattle.lane_audit.specs.Follows.{Awaits, Names, may_follow, named_by}

-- ---- all events were taken

module _ {V E : Type 0} (rules : LaneRules V E) (journal : List E) where
  links_all : (ps : List Pending) (phase from : ℕ) → ((k : ℕ) → (get_or ps k none_pending).taken ≡ taken_at rules journal phase (from + k)) → links_taken rules journal phase from (map (λ p. p.events) ps) ≡ list_all is_done ps
  links_all [] phase from h = refl
  links_all (p ∷ ps) phase from h =
      let here : from + 0 ≡ from = omega arith in
      let first : taken_at rules journal phase from ≡ p.taken = ap (taken_at rules journal phase) (sym here) ∙ sym (h 0) in
      let rest = links_all ps phase (from + 1) (λ k. let e : from + suc k ≡ from + 1 + k = omega arith in h (suc k) ∙ ap (taken_at rules journal phase) e) in
      ap (λ n. (n == length p.events) && links_taken rules journal phase (from + 1) (map (λ p. p.events) ps)) first
      ∙ ap (λ b. is_done p && b) rest

  phases_all : (phases : List (List Pending)) (from : ℕ) → ((n link : ℕ) → (get_or (get_or phases n []) link none_pending).taken ≡ taken_at rules journal (from + n) link) → phases_taken rules journal from (map (map (λ p. p.events)) phases) ≡ list_all (list_all is_done) phases
  phases_all [] from h = refl
  phases_all (links ∷ more) from h =
      let here : from + 0 ≡ from = omega arith in
      let first = links_all links from 0 (λ k. let e : 0 + k ≡ k = omega arith in h 0 k ∙ ap (λ p. taken_at rules journal p k) here ∙ ap (taken_at rules journal from) (sym e)) in
      let rest = phases_all more (from + 1) (λ n link. let e : from + suc n ≡ from + 1 + n = omega arith in h (suc n) link ∙ ap (λ p. taken_at rules journal p link) e) in
      ap (λ b. b && phases_taken rules journal (from + 1) (map (map (λ p. p.events)) more)) first
      ∙ ap (λ b. list_all is_done links && b) rest

  -- no event of the lane is left where none waits
  pub all_is : (w : Waiting) → Awaits rules journal w → all_taken rules journal ≡ list_all (list_all is_done) w.phases
  all_is w awaits =
      ap (phases_taken rules journal 1) (sym awaits.events)
      ∙ phases_all w.phases 1 (λ n link. let e : suc n ≡ 1 + n = omega arith in awaits.taken (suc n) link ∙ ap (λ p. taken_at rules journal p link) e)

-- ---- one more entry

-- a test that holds wherever a later one does
both-hold : (a b n : ℕ) → a ≤ b → nat_le b n ≡ (nat_le a n && (nat_le b n && true))
both-hold a b n le = ⊎_elim
    (λ h. let lower : nat_le a n ≡ true = le-leb a n (le_trans le h.1) in h.0 ∙ sym (ap (λ x. x && (nat_le b n && true)) lower ∙ ap (λ x. x && true) h.0))
    (λ h. h.0 ∙ sym (ap (λ x. nat_le a n && (x && true)) h.0 ∙ and-false (nat_le a n)))
    (leb_tells b n)
  where
    and-false : (x : Bool) → (x && false) ≡ false
    and-false true = refl
    and-false false = refl

and-true : (x : Bool) → x ≡ (x && true)
and-true true = refl
and-true false = refl

module _ {V E : Type 0} (rules : LaneRules V E) (journal : List E) (e : E) where
  editions-more : editions_of rules (journal ++ e ∷ []) ≡ editions_of rules journal ++ named (rules.asked e)
  editions-more = flat_map-append (λ x. named (rules.asked x)) journal (e ∷ []) ∙ ap (λ l. editions_of rules journal ++ l) (append-nil (named (rules.asked e)))

  named-more : (s : Named) (n : ℕ) → Names rules journal s → list_all (λ m. nat_le m n) (editions_of rules (journal ++ e ∷ [])) ≡ (nat_le s.edition n && list_all (λ m. nat_le m n) (named (rules.asked e)))
  named-more s n names =
      ap (list_all (λ m. nat_le m n)) editions-more
      ∙ list_all-append (λ m. nat_le m n) (editions_of rules journal) (named (rules.asked e))
      ∙ ap (λ b. b && list_all (λ m. nat_le m n) (named (rules.asked e))) (sym (names.named n))

  -- the edition of the entry's routing is the last one that was named
  pub names_more : (s : Named) (phase : ℕ) (words : Option RoutingWords) (q : Option Question) (routing : RoutingData) → Names rules journal s → may_follow s phase words ≡ true → is_some q ≡ is_some words
      → rules.asked e ≡ asked_at (named_by s phase words).edition routing q → Names rules (journal ++ e ∷ []) (named_by s phase words)
  names_more s phase None None routing names may same asked = record {
    first = names.first;
    last = names.last;
    routing = names.routing;
    phases = names.phases;
    few = names.few;
    named = λ n. and-true (nat_le s.edition n) ∙ ap (λ a. nat_le s.edition n && list_all (λ m. nat_le m n) (named a)) (sym asked) ∙ sym (named-more s n names);
  }
  names_more s phase None (Some q) routing names may same asked = absurd (true≢false same)
  names_more s phase (Some words) None routing names may same asked = absurd (true≢false (sym same))
  names_more s phase (Some words) (Some q) routing names may same asked =
      let edition = digits_value words.edition in
      let next : Named = record s { edition = edition } in
      let is : named_next s phase edition ≡ next = ap (λ b. if b then record s { edition = edition } else s) may in
      let later : s.edition ≤ edition = leb-true s.edition edition (last-holds (nat_le (before_phase s phase) edition) (nat_le edition (before_phase s (phase + 1))) (nat_le s.edition edition) may) in
      let asks : rules.asked e ≡ asked_at edition routing (Some q) = asked ∙ ap (λ (x : Named). asked_at x.edition routing (Some q)) is in
      let more : Names rules (journal ++ e ∷ []) next = record {
        first = names.first;
        last = names.last;
        routing = names.routing;
        phases = names.phases;
        few = names.few;
        named = λ n. both-hold s.edition edition n later ∙ ap (λ a. nat_le s.edition n && list_all (λ m. nat_le m n) (named a)) (sym asks) ∙ sym (named-more s n names);
      } in
      subst (Names rules (journal ++ e ∷ [])) (sym is) more
    where
      last-holds : (x y z : Bool) → (x && y && z) ≡ true → z ≡ true
      last-holds true true z h = h
      last-holds true false z h = absurd (true≢false (sym h))
      last-holds false y z h = absurd (true≢false (sym h))

-- ---- one more event

one-taken_at : (links : List Pending) (l link : ℕ) → l < length links → (get_or (set links l (one_taken (get_or links l none_pending))) link none_pending).taken ≡ (get_or links link none_pending).taken + cond (l == link) 1 0
one-taken_at links l link within = ⊎_elim
    (λ h. ap (λ k. (get_or (set links l (one_taken (get_or links l none_pending))) k none_pending).taken) (sym h.1)
    ∙ ap (λ (p : Pending). p.taken) (get_or-set_same links l (one_taken (get_or links l none_pending)) none_pending within)
    ∙ ap (λ k. (get_or links k none_pending).taken + 1) h.1
    ∙ ap (λ b. (get_or links link none_pending).taken + cond b 1 0) (sym h.0))
    (λ h. let zero-more : (get_or links link none_pending).taken ≡ (get_or links link none_pending).taken + 0 = omega arith in
    ap (λ (p : Pending). p.taken) (get_or-set_other links l link (one_taken (get_or links l none_pending)) none_pending (λ e. h.1 (sym e)))
    ∙ zero-more
    ∙ ap (λ b. (get_or links link none_pending).taken + cond b 1 0) (sym h.0))
    (eqb_tells l link)

taken-there : (phases : List (List Pending)) (n l phase link : ℕ) → n < length phases → l < length (get_or phases n []) →
    (get_or (links_in (set phases n (set (get_or phases n []) l (one_taken (get_or (get_or phases n []) l none_pending)))) phase) link none_pending).taken
    ≡ (get_or (links_in phases phase) link none_pending).taken + cond (suc n == phase && l == link) 1 0
taken-there phases n l zero link within inside = ⊎_elim
    (λ h. absurd (omega (arith, h.1)))
    (λ h. ap (λ b. 0 + cond (b && l == link) 1 0) (sym h.0))
    (eqb_tells (suc n) zero)
taken-there phases n l (suc m) link within inside =
    let links = get_or phases n [] in
    let changed = set links l (one_taken (get_or links l none_pending)) in
    ⊎_elim
    (λ h. let e : n ≡ m = omega (arith, h.1) in
    ap (λ k. (get_or (get_or (set phases n changed) k []) link none_pending).taken) (sym e)
    ∙ ap (λ (x : List Pending). (get_or x link none_pending).taken) (get_or-set_same phases n changed [] within)
    ∙ one-taken_at links l link inside
    ∙ ap (λ k. (get_or (get_or phases k []) link none_pending).taken + cond (l == link) 1 0) e
    ∙ ap (λ b. (get_or (get_or phases m []) link none_pending).taken + cond (b && l == link) 1 0) (sym h.0))
    (λ h. let ne : m ≡ n → ⊥ = λ e. h.1 (ap suc (sym e)) in
    let old = (get_or (get_or phases m []) link none_pending).taken in
    let zero-more : old ≡ old + 0 = omega arith in
    ap (λ (x : List Pending). (get_or x link none_pending).taken) (get_or-set_other phases n m changed [] ne)
    ∙ zero-more
    ∙ ap (λ b. old + cond (b && l == link) 1 0) (sym h.0))
    (eqb_tells (suc n) (suc m))

-- a link and a phase from which an event comes are there
link-there : (stamp : Stamp) (links : List Pending) (l : ℕ) (event : ControlEvent) → next_of stamp (get_or links l none_pending) ≡ Some event → l < length links
link-there stamp [] l event is = absurd (true≢false (ap is_none is))
link-there stamp (p ∷ links) zero event is = omega arith
link-there stamp (p ∷ links) (suc l) event is = let h = link-there stamp links l event is in omega (arith, h)

phase-there : (phases : List (List Pending)) (n : ℕ) → 0 < length (get_or phases n []) → n < length phases
phase-there [] n h = absurd (omega (arith, h))
phase-there (links ∷ phases) zero h = omega arith
phase-there (links ∷ phases) (suc n) h = let i = phase-there phases n h in omega (arith, i)

reached-first : (b : Bool) (x : Option ControlEvent) (event : ControlEvent) → (if b then x else None) ≡ Some event → (b ≡ true) × (x ≡ Some event)
reached-first true x event h = (refl, h)
reached-first false x event h = absurd (true≢false (ap is_none h))

events-stay : (phases : List (List Pending)) (n l : ℕ) → map (map (λ (p : Pending). p.events)) (set phases n (set (get_or phases n []) l (one_taken (get_or (get_or phases n []) l none_pending)))) ≡ map (map (λ (p : Pending). p.events)) phases
events-stay phases n l =
    let links = get_or phases n [] in
    map-set_same (map (λ (p : Pending). p.events)) phases n (set links l (one_taken (get_or links l none_pending))) [] (map-set_same (λ (p : Pending). p.events) links l (one_taken (get_or links l none_pending)) none_pending refl)

module _ {V E : Type 0} (rules : LaneRules V E) (journal : List E) (e : E) where
  count-more : (phase link : ℕ) → taken_at rules (journal ++ e ∷ []) phase link ≡ taken_at rules journal phase link + cond (is_stamped_at phase link (rules.stamp e)) 1 0
  count-more phase link =
      let one = sum_by-append (λ x. cond (is_stamped_at phase link (rules.stamp x)) 1 0) journal (e ∷ []) in
      omega (arith, one)

  waits-at : (w : Waiting) (phase link : ℕ) (line : ℕ) (event : ControlEvent) → Awaits rules journal w → rules.stamp e ≡ record { phase = phase; link = link; line = line } → next_in w (record { phase = phase; link = link; line = line }) ≡ Some event
      → Awaits rules (journal ++ e ∷ []) (taken_in w (record { phase = phase; link = link; line = line }))
  waits-at w zero link line event awaits stamped next = absurd (true≢false (ap is_none (reached-first (nat_le w.reached zero) None event next).1))
  waits-at w (suc n) link line event awaits stamped next =
      let stamp : Stamp = record { phase = suc n; link = link; line = line } in
      let first = reached-first (nat_le w.reached (suc n)) (next_on stamp (get_or w.phases n [])) event next in
      let inside = link-there stamp (get_or w.phases n []) link event first.1 in
      let within = phase-there w.phases n (omega (arith, inside)) in
      let later : w.reached ≤ suc n = leb-true w.reached (suc n) first.0 in
      record {
        events = events-stay w.phases n link ∙ awaits.events;
        taken = λ phase other.
            taken-there w.phases n link phase other within inside
            ∙ ap (λ k. k + cond (suc n == phase && link == other) 1 0) (awaits.taken phase other)
            ∙ sym (count-more phase other ∙ ap (λ (x : Stamp). taken_at rules journal phase other + cond (is_stamped_at phase other x) 1 0) stamped);
        reached = λ phase.
            both-hold w.reached (suc n) phase later
            ∙ ap (λ b. b && (nat_le (suc n) phase && true)) (awaits.reached phase)
            ∙ ap (λ (x : Stamp). is_phase_reached rules journal phase && (nat_le x.phase phase && true)) (sym stamped)
            ∙ sym (list_all-append (λ x. nat_le (rules.stamp x).phase phase) journal (e ∷ []));
      }

  -- the event of the entry was the next one, and is taken
  pub waits_more : (w : Waiting) (stamp : Stamp) (event : ControlEvent) → Awaits rules journal w → rules.stamp e ≡ stamp → next_in w stamp ≡ Some event → Awaits rules (journal ++ e ∷ []) (taken_in w stamp)
  waits_more w stamp event awaits stamped next = waits-at w stamp.phase stamp.link stamp.line event awaits stamped next

-- the phase of an event that waits is one of the lane's
pub phase_within : (w : Waiting) (stamp : Stamp) (event : ControlEvent) → next_in w stamp ≡ Some event → stamp.phase ≤ length w.phases
phase_within w stamp event next = at stamp.phase refl
  where
    at : (n : ℕ) → n ≡ stamp.phase → stamp.phase ≤ length w.phases
    at zero e = omega (arith, e)
    at (suc n) e =
        let first = reached-first (nat_le w.reached stamp.phase) (next_on stamp (links_in w.phases stamp.phase)) event next in
        let is : next_on stamp (get_or w.phases n []) ≡ Some event = ap (λ k. next_on stamp (links_in w.phases k)) e ∙ first.1 in
        let inside = link-there stamp (get_or w.phases n []) stamp.link event is in
        let within = phase-there w.phases n (omega (arith, inside)) in
        omega (arith, within, e)
