-- The number that decimal digits write, read from the left.
use Rattle.std.proofs.Common.{◌≡◌, ℕ, ◌+◌, ◌-◌, ◌*◌, List, fold, refl, ap, arith}
use Rattle.std.proofs.lemmas.Str.Parse.{FoldsDigits}

abbrev pub value_from : ℕ → List ℕ → ℕ
value_from n ds = fold (λ number digit. 10 * number + (digit - 48)) n ds

pub value_folds : FoldsDigits value_from
value_folds = record {
  empty = λ n. refl;
  more = λ n c cs h. ap (λ m. value_from m cs) (turned n (c - 48));
}
  where
    turned : (n d : ℕ) → 10 * n + d ≡ n * 10 + d
    turned n d = omega arith
