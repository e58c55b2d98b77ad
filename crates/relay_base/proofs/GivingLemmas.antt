-- A step that follows another one.
use Rattle.std.proofs.Common.{Ok, Err, IfOk}
use Rattle.std.specs.declared.result.Result.{Result}
use Rattle.relay_base.specs.Giving.{◌>>=◌}

-- it keeps what the first one gave
pub bound : {A B E : Type 0} (P : A → Type 0) (Q : B → Type 0) (r : Result A E) (f : A → Result B E) → IfOk r P → ((x : A) → P x → IfOk (f x) Q) → IfOk (r >>= f) Q
bound P Q (Ok x) f first next = next x first
bound P Q (Err e) f first next = tt
