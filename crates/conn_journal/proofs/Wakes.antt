-- The connections that a tick wakes.
use Rattle.std.proofs.Common.{◌≡◌, ℕ, Bool, List, Option, ◌∙◌}
use Rattle.section_coupling.specs.Duos.{DuoState}
use Rattle.conn_journal.specs.declared.change.Next.{Next}
use Rattle.conn_journal.specs.Inner.Waking.{AllWoken}

-- the same said otherwise
pub all_woken_same : (p q : ℕ → Bool) → ((n : ℕ) → p n ≡ q n) → (kept : List (Option DuoState)) (nexts : List Next) → AllWoken p kept nexts → AllWoken q kept nexts
all_woken_same p q same kept nexts woken = λ n is. woken n (same n ∙ is)
