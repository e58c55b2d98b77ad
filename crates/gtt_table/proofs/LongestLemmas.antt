-- The longest match is a match, and no match is longer.
use Rattle.std.proofs.Common.{◌≡◌, ℕ, zero, suc, ◌≤◌, List, [], ◌∷◌, length, Bool, true, false, IsTrue, Option, Some, None, refl, sym, ◌∙◌, arith, All, inl, inr}
use Rattle.std.proofs.lemmas.List.Elements.{All-cons}
use Rattle.sccp_address.specs.declared.address.Selector.{Selector}
use Rattle.gtt_table.specs.declared.row.Row.{Row}
use Rattle.gtt_table.specs.Rows.{is_match}
use Rattle.gtt_table.specs.Translation.{longer, longest_match, IsLongestMatch}
use Rattle.gtt_table.proofs.RowLemmas.{lt_tells}

abbrev pub IsBest : Selector → List ℕ → List Row → Option Row → Type 0
IsBest selector digits rows None = All (λ other. is_match selector digits other ≡ false) rows
IsBest selector digits rows (Some row) = IsLongestMatch rows selector digits row

-- a row before the others that doesn't match
passed : (selector : Selector) (digits : List ℕ) (first : Row) (rest : List Row) (best : Option Row) → is_match selector digits first ≡ false
    → IsBest selector digits rest best → IsBest selector digits (first ∷ rest) best
passed selector digits first rest None e h = All-cons (λ other. is_match selector digits other ≡ false) first rest e h
passed selector digits first rest (Some row) e h = record {
  present = (suc h.present.0, omega (arith, h.present.1), h.present.2);
  matches = h.matches;
  longest = All-cons (λ other. IsTrue (is_match selector digits other) → length other.prefix ≤ length row.prefix) first rest (λ t. let no : true ≡ false = sym t ∙ e in cc) h.longest;
}

-- and one that does
matched : (selector : Selector) (digits : List ℕ) (first : Row) (rest : List Row) (best : Option Row) → is_match selector digits first ≡ true
    → IsBest selector digits rest best → IsBest selector digits (first ∷ rest) (longer (Some first) best)
matched selector digits first rest None e h = record {
  present = (zero, omega arith, refl);
  matches = e;
  longest = All-cons (λ other. IsTrue (is_match selector digits other) → length other.prefix ≤ length first.prefix) first rest (λ _. omega arith)
      (λ k d below t. let no : true ≡ false = sym t ∙ h k d below in cc);
}
matched selector digits first rest (Some row) e h =
    elim (lt_tells (length first.prefix) (length row.prefix)) [
      | inl shorter ↦ rw (shorter.0) (
          let better : IsLongestMatch (first ∷ rest) selector digits row = record {
            present = (suc h.present.0, omega (arith, h.present.1), h.present.2);
            matches = h.matches;
            longest = All-cons (λ other. IsTrue (is_match selector digits other) → length other.prefix ≤ length row.prefix) first rest (λ _. omega (arith, shorter.1)) h.longest;
          } in better)
      | inr longer_one ↦ rw (longer_one.0) (
          let better : IsLongestMatch (first ∷ rest) selector digits first = record {
            present = (zero, omega arith, refl);
            matches = e;
            longest = All-cons (λ other. IsTrue (is_match selector digits other) → length other.prefix ≤ length first.prefix) first rest (λ _. omega arith)
                (λ k d below t. omega (arith, longer_one.1, h.longest k d below t));
          } in better)
    ]

pub IsBest-longest_match : (selector : Selector) (digits : List ℕ) (rows : List Row) → IsBest selector digits rows (longest_match selector digits rows)
IsBest-longest_match selector digits [] = λ k d below. absurd (omega (arith, below))
IsBest-longest_match selector digits (first ∷ rest) = by_first (IsBest-longest_match selector digits rest) (is_match selector digits first) refl
  where
    by_first : IsBest selector digits rest (longest_match selector digits rest) → (b : Bool) → is_match selector digits first ≡ b → IsBest selector digits (first ∷ rest) (longest_match selector digits (first ∷ rest))
    by_first ih true e = rw e (matched selector digits first rest (longest_match selector digits rest) e ih)
    by_first ih false e = rw e (passed selector digits first rest (longest_match selector digits rest) e ih)

pub longest_match-longest : (selector : Selector) (digits : List ℕ) (rows : List Row) (row : Row) → Some row ≡ longest_match selector digits rows → IsLongestMatch rows selector digits row
longest_match-longest selector digits rows row e = rw (sym e) at (IsBest-longest_match selector digits rows)
