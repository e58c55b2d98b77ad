-- The passes of a gate, as they are handed out and taken back.
use Rattle.std.proofs.Common.{◌≡◌, ◌≢◌, ◌⊎◌, ℕ, zero, suc, ◌+◌, ◌<◌, ◌≤◌, List, [], ◌∷◌, ◌++◌, length, map, All, Any, Contains, get_or, slice_get, Some, sym, refl, ap, ◌∙◌, subst, ⊎_elim, inl, inr, arith, length-append, append_assoc}
use mathlib.Core.Logic.{dite}
use native.Mathlib.Decide.{dec_le}
use Rattle.std.proofs.lemmas.List.{map_push, get_or-map}
use Rattle.std.proofs.lemmas.List.Elements.{All-contains}
use lib.ListN.{length-map}
use Rattle.lane_gate.specs.declared.table.View.{View}
use Rattle.lane_gate.specs.declared.pass.Pass.{Pass}
use Rattle.lane_gate.specs.Gates.{AreNumbered}
use Rattle.lane_gate.specs.Passes.{count_of, done_of}
use Rattle.lane_gate.specs.Inner.Views.{fresh_counts, new_view, front_view, rear_view, done_in, only_view, IsResting, IsIdle}
use Rattle.lane_gate.proofs.CallerCounts.{fresh_step}

module _ {A : Type 0} where
  get_snoc : (l : List A) (a b : A) (k : ℕ) → slice_get (l ++ a ∷ []) k ≡ Some b → (slice_get l k ≡ Some b) ⊎ ((k ≡ length l) × (a ≡ b))
  get_snoc [] a b zero e = inr (refl, cc)
  get_snoc [] a b (suc k) e = absurd (cc)
  get_snoc (x ∷ xs) a b zero e = inl e
  get_snoc (x ∷ xs) a b (suc k) e = ⊎_elim inl (λ (t : (k ≡ length xs) × (a ≡ b)). inr (ap suc t.0, t.1)) (get_snoc xs a b k e)

  there : (l : List A) (k : ℕ) → k < length l → (a : A) × (slice_get l k ≡ Some a) × (get_or l k a ≡ a)
  there [] k lt = absurd (omega arith)
  there (x ∷ xs) zero lt = (x, refl, refl)
  there (x ∷ xs) (suc k) lt = there xs k (omega arith)

-- the next pass
pub one_more : (n : ℕ) (passes : List Pass) (p : Pass) → AreNumbered n passes → p.number ≡ n → AreNumbered (n + 1) (passes ++ p ∷ [])
one_more n passes p first number = record {
  count = (let c = first.count in omega (arith, length-append passes (p ∷ [])));
  each = λ k q e. ⊎_elim (first.each k q) (λ (t : (k ≡ length passes) × (p ≡ q)). ap (λ (x : Pass). x.number) (sym t.1) ∙ (number ∙ sym (t.0 ∙ first.count))) (get_snoc passes p q k e);
}

-- each number below the count is that of a pass
pub each_there : (n : ℕ) (passes : List Pass) → AreNumbered n passes → (k : ℕ) → k < n → Any (λ p. p.number ≡ k) passes
each_there n passes all k lt = let within : k < length passes = (let c = all.count in omega arith) in let p = there passes k within in (k, p.0, within, p.2, all.each k p.0 p.1)

-- a seat that has been cut off has one caller, which has delivered nothing
pub front_idle : {S : Type 0} (old new : View × List (ℕ × S)) (from m more : ℕ) → m ≡ more + 1 → old ≡ (new_view (fresh_counts from m), []) → new ≡ (front_view old.0, old.1) → IsIdle new from × (done_in new.0 ≡ 0)
front_idle {S} old new from m more size is cut = subst (λ (n : View × List (ℕ × S)). IsIdle n from × (done_in n.0 ≡ 0))
    (sym (cut ∙ (ap (λ (o : View × List (ℕ × S)). (front_view o.0, o.1)) is ∙ ap (λ (cs : List (ℕ × ℕ)). (front_view (new_view cs), [])) (fresh_step from m more size)))) ((refl, refl), refl)

-- and the rest of the callers are new ones
pub behind_new : {S : Type 0} (old : View × List (ℕ × S)) (from m more : ℕ) → m ≡ more + 1 → old ≡ (new_view (fresh_counts from m), []) → ◌≡◌ {A = View × List (ℕ × S)} (rear_view old.0, []) (new_view (fresh_counts (from + 1) more), [])
behind_new {S} old from m more size is = let nothing : List (ℕ × S) = [] in
    ap (λ (o : View × List (ℕ × S)). (rear_view o.0, nothing)) is ∙ ap (λ (cs : List (ℕ × ℕ)). (rear_view (new_view cs), nothing)) (fresh_step from m more size)

-- what a pass's seat counts
pub seat_counts : (pass : Pass) (v : View) → pass.badge.views ≡ v ∷ [] → IsResting v pass.number → v.counts ≡ count_of pass ∷ []
seat_counts pass v views rests = ap (λ (v : View). v.counts) rests ∙ ap (λ (vs : List View). (pass.number, done_in (only_view vs)) ∷ []) (sym views)

-- a pass was taken from the end, and its seat's callers stand before the others
pub taken_back : (all rest : List Pass) (pass : Pass) (own others counts : List (ℕ × ℕ)) → all ≡ rest ++ pass ∷ [] → own ≡ count_of pass ∷ [] → counts ≡ own ++ others → map count_of all ++ others ≡ map count_of rest ++ counts
taken_back all rest pass own others counts is one joins =
    ap (λ (ps : List Pass). map count_of ps ++ others) is
    ∙ (ap (λ (cs : List (ℕ × ℕ)). cs ++ others) (map_push count_of rest pass)
    ∙ (append_assoc (map count_of rest) (count_of pass ∷ []) others
    ∙ ap (λ (cs : List (ℕ × ℕ)). map count_of rest ++ cs) (ap (λ (cs : List (ℕ × ℕ)). cs ++ others) (sym one) ∙ sym joins)))

-- the count of each pass is among theirs
pub counts_pass : (passes : List Pass) (k : ℕ) (p : Pass) → k < length passes → get_or passes k p ≡ p → Contains (map count_of passes) (count_of p)
counts_pass passes k p lt e = (k, (let same = length-map passes count_of in omega arith), get_or-map count_of passes k p (count_of p) lt ∙ ap count_of e)

pub counts_each : (n : ℕ) (passes : List Pass) → ((k : ℕ) → k < n → Any (λ p. p.number ≡ k) passes) → (k : ℕ) → k < n → (d : ℕ) × Contains (map count_of passes) (k, d)
counts_each n passes each k lt = let p = each k lt in (done_of p.1, subst (λ (j : ℕ). Contains (map count_of passes) (j, done_of p.1)) p.4 (counts_pass passes p.0 p.1 p.2 p.3))

-- a link that no pass has is past the callers
pub past_callers : (n : ℕ) (passes : List Pass) (link : ℕ) → ((k : ℕ) → k < n → Any (λ p. p.number ≡ k) passes) → All (λ p. p.number ≢ link) passes → n ≤ link
past_callers n passes link each none = dite (dec_le n link) (λ le. le) (λ near. let p = each link (omega arith) in absurd (All-contains (λ (p : Pass). p.number ≢ link) passes p.1 none (p.0, p.2, p.3) p.4))
