-- Fields and words of unlike numbers.
use Rattle.std.proofs.Common.{◌≡◌, ◌≢◌, ℕ, ◌&&◌, true, false, Bool, List, [], ◌∷◌, length, refl, arith}
use Rattle.journal_form.specs.Outputs.{Field, is_in, fit}

and_false : (t : Bool) → (t && false) ≡ false
and_false true = refl
and_false false = refl

-- there is a word for each field only where there are as many
pub fit_unlike : (fields : List Field) (words : List (List ℕ)) → length fields ≢ length words → fit fields words ≡ false
fit_unlike [] [] h = grind arith
fit_unlike [] (word ∷ more) h = refl
fit_unlike (field ∷ fields) [] h = refl
fit_unlike (field ∷ fields) (word ∷ more) h =
    let fewer : length fields ≢ length more = grind (arith, h) in
    let rest : fit fields more ≡ false = fit_unlike fields more fewer in
    rw rest (and_false (is_in field word))
