-- What is known of a result behind another one.
use Rattle.std.proofs.Common.{◌≡◌, Result, Ok, Err, refl}
use Rattle.journal_finding.specs.Entries.{◌>>=◌}

-- the first one is no fault, and the other comes of it
pub record IsBehind {A B E : Type 0} (r : Result A E) (f : A → Result B E) (y : B) : Type 0 where
  pub first : A
  pub is : r ≡ Ok first
  pub then : f first ≡ Ok y

pub behind : {A B E : Type 0} (r : Result A E) (f : A → Result B E) (y : B) → (r >>= f) ≡ Ok y → IsBehind r f y
behind (Ok x) f y h = record { first = x; is = refl; then = h }
behind (Err e) f y h = absurd cc
