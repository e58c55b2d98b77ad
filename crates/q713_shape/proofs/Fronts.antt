-- Results whose list begins with what is known already.
use Rattle.std.proofs.Common.{◌≡◌, List, [], ◌∷◌, ◌++◌, Ok, Err, refl, ap, sym, append_assoc}
use Rattle.std.specs.declared.result.Result.{Result}
use Rattle.relay_base.specs.Giving.{◌>>=◌}

-- the members before those of the result
abbrev pub after : {A E : Type 0} → List A → Result (List A) E → Result (List A) E
after xs (Ok ys) = Ok (xs ++ ys)
after xs (Err e) = Err e

pub after-cons : {A E : Type 0} (xs : List A) (x : A) (r : Result (List A) E) → after xs (r >>= (λ ys. Ok (x ∷ ys))) ≡ after (xs ++ x ∷ []) r
after-cons xs x (Ok ys) = ap Ok (sym (append_assoc xs (x ∷ []) ys))
after-cons xs x (Err e) = refl
