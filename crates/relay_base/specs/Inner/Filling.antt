-- Digits kept in an array of octets, of which the first ones count and the others are 0.
use Rattle.std.specs.Prelude.{◌≡◌, ℕ, ◌-◌, ◌<◌, ◌≤◌, ◌++◌, List, length, take, drop, replicate, All}
use Rattle.relay_base.specs.declared.limits.TheConstants.{DIGIT_VALUES, MOST_DIGITS}
use Rattle.std.proofs.Common.{sym, ap, ◌∙◌, arith, take-append-drop, length-take-le}

-- the first octets are digits, and the others are 0
pub record IsFilled (digits : List ℕ) (count : ℕ) : Type 0 where
  pub whole : length digits ≡ MOST_DIGITS
  pub within : count ≤ MOST_DIGITS
  pub small : All (λ d. d < DIGIT_VALUES) (take count digits)
  pub rest : drop count digits ≡ replicate (MOST_DIGITS - count) 0

-- the array of these digits
abbrev pub padded : List ℕ → List ℕ
padded l = l ++ replicate (MOST_DIGITS - length l) 0

pub length-filled : (digits : List ℕ) (count : ℕ) → IsFilled digits count → length (take count digits) ≡ count
length-filled digits count h = length-take-le count digits (omega (arith, h.whole, h.within))

pub padded-take : (digits : List ℕ) (count : ℕ) → IsFilled digits count → padded (take count digits) ≡ digits
padded-take digits count h =
    ap (λ n. take count digits ++ replicate (MOST_DIGITS - n) 0) (length-filled digits count h)
    ∙ ap (λ l. take count digits ++ l) (sym h.rest) ∙ take-append-drop count digits
