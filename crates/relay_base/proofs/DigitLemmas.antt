-- Lemmas on an array of digits.
use Rattle.std.proofs.Common.{◌≡◌, ℕ, ◌+◌, ◌-◌, ◌<◌, List, [], ◌∷◌, ◌++◌, length, take, drop, All, replicate, sym, ap, ◌∙◌, arith, subst}
use Rattle.std.proofs.lemmas.List.{take_more_set, drop-set-lt, drop-drop, drop-replicate, length-set}
use Rattle.std.proofs.lemmas.List.Elements.{All-push}
use Rattle.std.proofs.Math.ListN.{set}
use Rattle.relay_base.specs.declared.limits.TheConstants.{DIGIT_VALUES, MOST_DIGITS}
use Rattle.relay_base.specs.Inner.Filling.{IsFilled, length-filled}

-- one more digit
pub IsFilled-set : (digits l : List ℕ) (count d : ℕ) → IsFilled digits count → take count digits ≡ l → length l < MOST_DIGITS → d < DIGIT_VALUES → IsFilled (set digits count d) (count + 1)
IsFilled-set digits l count d h e lt small =
    let size : length (take count digits) ≡ count = length-filled digits count h in
    let below : count < MOST_DIGITS = omega (arith, size, ap length e) in
    let inside : count < length digits = omega (arith, h.whole) in
    let more : take (count + 1) (set digits count d) ≡ take count digits ++ d ∷ [] = take_more_set digits count d inside in
    let tail : drop (count + 1) (set digits count d) ≡ drop (count + 1) digits = drop-set-lt (count + 1) digits count d (omega arith) in
    let fewer : MOST_DIGITS - count - 1 ≡ MOST_DIGITS - (count + 1) = omega arith in
    record {
      whole = length-set digits count d ∙ h.whole;
      within = omega arith;
      small = subst (All (λ n. n < DIGIT_VALUES)) (sym more) (All-push (λ n. n < DIGIT_VALUES) (take count digits) d h.small small);
      rest = tail ∙ sym (drop-drop 1 count digits) ∙ ap (drop 1) h.rest ∙ drop-replicate 1 (MOST_DIGITS - count) 0 ∙ ap (λ n. replicate n 0) fewer;
    }
