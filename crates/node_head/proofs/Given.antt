-- What holds of the value that a definition gives, if it gives one.
use Rattle.std.proofs.Common.{◌≡◌, Bool, true, false, cond, Result, Ok, Err, IfOk, refl}
use Rattle.relay_base.specs.Giving.{◌>>=◌}

-- after a step whatever that gives
pub after_any : {A B E : Type 0} (P : B → Type 0) (r : Result A E) (f : A → Result B E) → ((a : A) → IfOk (f a) P) → IfOk (r >>= f) P
after_any P (Ok a) f h = h a
after_any P (Err fault) f h = tt

pub either : {A E : Type 0} (P : A → Type 0) (t : Bool) (a b : Result A E) → IfOk a P → IfOk b P → IfOk (cond t a b) P
either P true a b f g = f
either P false a b f g = g

-- by a test that is known in its arms
pub by_test : {A E : Type 0} (P : A → Type 0) (t : Bool) (a b : Result A E) → (t ≡ true → IfOk a P) → (t ≡ false → IfOk b P) → IfOk (cond t a b) P
by_test P true a b f g = f refl
by_test P false a b f g = g refl
