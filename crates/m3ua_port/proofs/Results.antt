-- Results of two steps.
use Rattle.std.proofs.Common.{◌≡◌, Ok, Err, refl}
use Rattle.std.specs.declared.result.Result.{Result}
use Rattle.relay_base.specs.Giving.{◌>>=◌}

-- two second steps that agree on what the first gave
pub bind-ext : {A B E : Type 0} (r : Result A E) (f g : A → Result B E) → ((a : A) → r ≡ Ok a → f a ≡ g a) → (r >>= f) ≡ (r >>= g)
bind-ext (Ok a) f g h = h a refl
bind-ext (Err e) f g h = refl
