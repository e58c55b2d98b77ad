-- The routings of a journal: each may stand next exactly where each is one that its event asks, and their editions never fall.
use Rattle.std.proofs.Common.{◌≡◌, ◌∙◌, ℕ, ◌-◌, ◌≤◌, ◌&&◌, nat_le, true, List, [], ◌∷◌, ◌++◌, length, Option, Some, None, refl, sym, ap, ap₂, subst, arith, append_assoc, append-nil}
use Rattle.std.specs.List.{AllByRecursion, list_all}
use Rattle.std.specs.List.Sorted.{IsNonDecreasing}
use Rattle.std.proofs.lemmas.Bool.{leb-true, le-leb}
use Rattle.std.proofs.lemmas.Grind.{flat_map-append}
use Rattle.std.proofs.lemmas.List.Elements.{All-from_recursion}
use Rattle.std.proofs.lemmas.List.Sorted.{IsNonDecreasingBy-push}
use Rattle.plant_core.specs.Asking.{Question, answer_to}
use Rattle.plant_core.specs.declared.entry.Asked.{Asked}
use Rattle.right_book.specs.Editions.{named}
use Rattle.journal_finding.specs.Entries.{LaneRules, editions_of}
use Rattle.finding_law.proofs.Next.{HasParts, IsRoutingNext, IsRoutedNext, Along}
use Rattle.capture_form.proofs.PhaseLemmas.{both-left, both-right}
use Rattle.finding_law.proofs.Order.{rises_to}

-- a routing is there exactly where one is asked, of an edition in its bounds, with the answer of its routing data
abbrev pub IsRoutingBy : {V E : Type 0} → LaneRules V E → ℕ → Option Question → Option Asked → Type 0
IsRoutingBy rules phase None None = Unit {0}
IsRoutingBy rules phase (Some asks) (Some asked) =
    (rules.first phase ≤ asked.edition) × (asked.edition ≤ rules.last phase) × (asked.answer ≡ answer_to (rules.routing asked.edition) asks)
IsRoutingBy rules phase _ _ = ⊥

all_tested : (n : ℕ) (xs : List ℕ) → list_all (λ x. nat_le x n) xs ≡ true → AllByRecursion (λ x. x ≤ n) xs
all_tested n [] h = tt
all_tested n (x ∷ xs) h =
    let rest = list_all (λ x. nat_le x n) xs in (leb-true x n (both-left (nat_le x n) rest h), all_tested n xs (both-right (nat_le x n) rest h))

all_pass : (n : ℕ) (xs : List ℕ) → AllByRecursion (λ x. x ≤ n) xs → list_all (λ x. nat_le x n) xs ≡ true
all_pass n [] h = refl
all_pass n (x ∷ xs) h = ap₂ (λ a b. a && b) (le-leb x n h.0) (all_pass n xs h.1)

module _ {V E : Type 0} (rules : LaneRules V E) (has : HasParts rules) where
  -- the routing of each entry is so
  abbrev pub IsRoutedBy : E → Type 0
  IsRoutedBy e = IsRoutingBy rules (rules.stamp e).phase (rules.question (has.event e)) (rules.asked e)

  -- ---- from routings that may stand next

  bounds : (journal : List E) (phase : ℕ) (asks : Option Question) (asked : Option Asked) → IsRoutingNext rules journal phase asks asked → IsRoutingBy rules phase asks asked
  bounds journal phase None None h = tt
  bounds journal phase None (Some a) h = h
  bounds journal phase (Some q) None h = h
  bounds journal phase (Some q) (Some a) h =
      let low = nat_le (rules.first phase) a.edition in
      let high = nat_le a.edition (rules.last phase) in
      let rise = list_all (λ n. nat_le n a.edition) (editions_of rules journal) in
      let front = both-left (low && high) rise h.0 in
      (leb-true (rules.first phase) a.edition (both-left low high front), leb-true a.edition (rules.last phase) (both-right low high front), h.1)

  pub routed_all : (journal more : List E) → Along (IsRoutedNext rules has) journal more → AllByRecursion IsRoutedBy more
  routed_all journal [] h = tt
  routed_all journal (e ∷ more) h =
      (bounds journal (rules.stamp e).phase (rules.question (has.event e)) (rules.asked e) h.0, routed_all (journal ++ e ∷ []) more h.1)

  editions_more : (journal : List E) (e : E) → editions_of rules (journal ++ e ∷ []) ≡ editions_of rules journal ++ named (rules.asked e)
  editions_more journal e =
      flat_map-append (λ (x : E). named (rules.asked x)) journal (e ∷ []) ∙ ap (λ l. editions_of rules journal ++ l) (append-nil (named (rules.asked e)))

  rising_more : (journal : List E) (phase : ℕ) (asks : Option Question) (asked : Option Asked) → IsRoutingNext rules journal phase asks asked
      → IsNonDecreasing (editions_of rules journal) → IsNonDecreasing (editions_of rules journal ++ named asked)
  rising_more journal phase asks None h r = subst IsNonDecreasing (sym (append-nil (editions_of rules journal))) r
  rising_more journal phase None (Some a) h r = absurd h
  rising_more journal phase (Some q) (Some a) h r =
      let low = nat_le (rules.first phase) a.edition in
      let high = nat_le a.edition (rules.last phase) in
      let editions = editions_of rules journal in
      let all = all_tested a.edition editions (both-right (low && high) (list_all (λ n. nat_le n a.edition) editions) h.0) in
      IsNonDecreasingBy-push (λ n. n) editions a.edition r (λ d some. All-from_recursion (λ n. n ≤ a.edition) editions all (length editions - 1) d (omega (arith, some)))

  rising_all : (journal more : List E) → Along (IsRoutedNext rules has) journal more → IsNonDecreasing (editions_of rules journal) → IsNonDecreasing (editions_of rules (journal ++ more))
  rising_all journal [] h r = subst (λ l. IsNonDecreasing (editions_of rules l)) (sym (append-nil journal)) r
  rising_all journal (e ∷ more) h r =
      subst (λ l. IsNonDecreasing (editions_of rules l)) (append_assoc journal (e ∷ []) more)
      (rising_all (journal ++ e ∷ []) more h.1
      (subst IsNonDecreasing (sym (editions_more journal e)) (rising_more journal (rules.stamp e).phase (rules.question (has.event e)) (rules.asked e) h.0 r)))

  pub rising : (journal : List E) → Along (IsRoutedNext rules has) [] journal → IsNonDecreasing (editions_of rules journal)
  rising journal h = rising_all [] journal h (λ i j d le lt. absurd (omega (arith, lt)))

  -- ---- and back

  may_stand : (journal : List E) (phase : ℕ) (asks : Option Question) (asked : Option Asked) (more : List ℕ) → IsRoutingBy rules phase asks asked
      → IsNonDecreasing (editions_of rules journal ++ (named asked ++ more)) → IsRoutingNext rules journal phase asks asked
  may_stand journal phase None None more h r = tt
  may_stand journal phase None (Some a) more h r = h
  may_stand journal phase (Some q) None more h r = h
  may_stand journal phase (Some q) (Some a) more h r =
      let editions = editions_of rules journal in (
        ap₂ (λ a b. a && b) (ap₂ (λ a b. a && b) (le-leb (rules.first phase) a.edition h.0) (le-leb a.edition (rules.last phase) h.1))
            (all_pass a.edition editions (rises_to (λ n. n) editions a.edition more r)),
        h.2,
      )

  pub routed_next : (journal more : List E) → AllByRecursion IsRoutedBy more → IsNonDecreasing (editions_of rules (journal ++ more)) → Along (IsRoutedNext rules has) journal more
  routed_next journal [] h r = tt
  routed_next journal (e ∷ more) h r = (
    may_stand journal (rules.stamp e).phase (rules.question (has.event e)) (rules.asked e) (editions_of rules more) h.0
        (subst IsNonDecreasing (flat_map-append (λ (x : E). named (rules.asked x)) journal (e ∷ more)) r),
    routed_next (journal ++ e ∷ []) more h.1 (subst (λ l. IsNonDecreasing (editions_of rules l)) (sym (append_assoc journal (e ∷ []) more)) r),
  )
