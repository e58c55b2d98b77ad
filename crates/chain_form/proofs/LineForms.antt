-- Lines by the number of their words.
use Rattle.std.proofs.Common.{◌≡◌, ℕ, ◌<◌, List, [], ◌∷◌, length, map, Bor, refl, arith, Err}
use Rattle.capture_form.specs.declared.fault.LineKind.TheVariants.{Words as WordsKind}
use Rattle.chain_form.specs.Line.{ask_form}

-- a request has at least a node and a word
pub ask_short : (nodes : ℕ) (ws : List (Bor (List ℕ))) → length ws < 2 → ask_form nodes (map (λ w. w.now) ws) ≡ Err WordsKind
ask_short nodes [] h = refl
ask_short nodes (a ∷ []) h = refl
ask_short nodes (a ∷ b ∷ ws) h = absurd (omega (arith, h))
