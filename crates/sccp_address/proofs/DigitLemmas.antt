-- Lemmas on digits and their octets.
use Rattle.std.proofs.Common.{◌≡◌, ℕ, zero, suc, ◌+◌, ◌-◌, ◌*◌, ◌/◌, ◌%◌, ◌<◌, ◌≤◌, List, [], ◌∷◌, ◌++◌, length, take, drop, get_or, Bool, true, false, if◌then◌else◌, refl, sym, ap, append_assoc, append-nil, length-drop, replicate, All, ◌∙◌, arith}
use Rattle.std.proofs.lemmas.List.{take_more, take_all}
use Rattle.std.specs.Prelude.{◌==◌}
use Rattle.relay_base.specs.declared.limits.TheConstants.{DIGIT_VALUES}
use lib.Seq.{take-append_seam}
use Rattle.sccp_address.specs.Spelling.{is_odd}
use Rattle.sccp_address.specs.Digits.{halves, digits_in, digit_octets}
use Rattle.sccp_address.specs.Inner.Halves.{nibble_at}

pub length-halves : (octets : List ℕ) → length (halves octets) ≡ 2 * length octets
length-halves [] = refl
length-halves (octet ∷ rest) = omega (arith, length-halves rest)

-- two halves further on stands the next octet
nibble_at-next : (octet : ℕ) (rest : List ℕ) (place : ℕ) → nibble_at (octet ∷ rest) (suc (suc place)) ≡ nibble_at rest place
nibble_at-next octet rest place =
    let whole : suc (suc place) / 2 ≡ suc (place / 2) = omega arith in
    let left : suc (suc place) % 2 ≡ place % 2 = omega arith in
    rw (whole, left) refl

-- each half stands at its place
pub get_or-halves : (octets : List ℕ) (place : ℕ) → place < 2 * length octets → get_or (halves octets) place 0 ≡ nibble_at octets place
get_or-halves [] place h = absurd (omega (arith, h))
get_or-halves (octet ∷ rest) zero h = refl
get_or-halves (octet ∷ rest) (suc zero) h = refl
get_or-halves (octet ∷ rest) (suc (suc place)) h =
    let less : place < 2 * length rest = omega (arith, h) in
    get_or-halves rest place less ∙ sym (nibble_at-next octet rest place)

-- one half more
pub take-halves : (octets : List ℕ) (place : ℕ) → place < 2 * length octets
    → take (place + 1) (halves octets) ≡ take place (halves octets) ++ nibble_at octets place ∷ []
take-halves octets place h =
    let inside : place < length (halves octets) = omega (arith, length-halves octets) in
    take_more (halves octets) place 0 inside ∙ ap (λ n. take place (halves octets) ++ n ∷ []) (get_or-halves octets place h)

pub length-digit_octets : (digits : List ℕ) → 2 * length (digit_octets digits) ≡ length digits + length digits % 2
length-digit_octets [] = refl
length-digit_octets (last ∷ []) = refl
length-digit_octets (low ∷ high ∷ rest) = omega (arith, length-digit_octets rest)

-- each pair of digits is an octet
get_or-digit_octets : (digits : List ℕ) (place : ℕ) → 2 * place + 1 < length digits
    → get_or (digit_octets digits) place 0 ≡ get_or digits (2 * place) 0 + 16 * get_or digits (2 * place + 1) 0
get_or-digit_octets [] place h = absurd (omega (arith, h))
get_or-digit_octets (last ∷ []) place h = absurd (omega (arith, h))
get_or-digit_octets (low ∷ high ∷ rest) zero h = refl
get_or-digit_octets (low ∷ high ∷ rest) (suc place) h =
    let less : 2 * place + 1 < length rest = omega (arith, h) in
    let first : get_or (low ∷ high ∷ rest) (2 * suc place) 0 ≡ get_or rest (2 * place) 0 =
    ap (λ n. get_or (low ∷ high ∷ rest) n 0) (let e : 2 * suc place ≡ suc (suc (2 * place)) = omega arith in e) in
    let second : get_or (low ∷ high ∷ rest) (2 * suc place + 1) 0 ≡ get_or rest (2 * place + 1) 0 =
    ap (λ n. get_or (low ∷ high ∷ rest) n 0) (let e : 2 * suc place + 1 ≡ suc (suc (2 * place + 1)) = omega arith in e) in
    let here : get_or (digit_octets rest) place 0 ≡ get_or rest (2 * place) 0 + 16 * get_or rest (2 * place + 1) 0 = get_or-digit_octets rest place less in
    here ∙ sym (ap (λ n. n + 16 * get_or (low ∷ high ∷ rest) (2 * suc place + 1) 0) first ∙ ap (λ n. get_or rest (2 * place) 0 + 16 * n) second)

-- one pair more
pub take-digit_octets : (digits : List ℕ) (place : ℕ) → 2 * place + 1 < length digits
    → take (place + 1) (digit_octets digits) ≡ take place (digit_octets digits) ++ (get_or digits (2 * place) 0 + 16 * get_or digits (2 * place + 1) 0) ∷ []
take-digit_octets digits place h =
    let inside : place < length (digit_octets digits) = omega (arith, length-digit_octets digits) in
    take_more (digit_octets digits) place 0 inside ∙ ap (λ n. take place (digit_octets digits) ++ n ∷ []) (get_or-digit_octets digits place h)

-- all pairs, and the digit that is left
pub digit_octets-rest : (digits : List ℕ) → take (length digits / 2) (digit_octets digits) ++ drop (length digits / 2 * 2) digits ≡ digit_octets digits
digit_octets-rest [] = refl
digit_octets-rest (last ∷ []) = refl
digit_octets-rest (low ∷ high ∷ rest) =
    let more : length (low ∷ high ∷ rest) / 2 ≡ suc (length rest / 2) = omega arith in
    let twice : suc (length rest / 2) * 2 ≡ suc (suc (length rest / 2 * 2)) = omega arith in
    rw (more, twice) (ap (λ l. (low + 16 * high) ∷ l) (digit_octets-rest rest))

-- a loop that has written some pairs writes one more
pub put_pair : (old octets next digits : List ℕ) (place : ℕ) → octets ≡ old ++ take place (digit_octets digits)
    → next ≡ octets ++ (get_or digits (2 * place) 0 + 16 * get_or digits (2 * place + 1) 0) ∷ [] → 2 * place + 1 < length digits
    → next ≡ old ++ take (place + 1) (digit_octets digits)
put_pair old octets next digits place before after h =
    after ∙ ap (λ l. l ++ (get_or digits (2 * place) 0 + 16 * get_or digits (2 * place + 1) 0) ∷ []) before
    ∙ append_assoc old (take place (digit_octets digits)) ((get_or digits (2 * place) 0 + 16 * get_or digits (2 * place + 1) 0) ∷ []) ∙ ap (λ l. old ++ l) (sym (take-digit_octets digits place h))

-- and after the last pair the digit that is left
pub put_rest : (old octets all digits numbers : List ℕ) (place : ℕ) → octets ≡ old ++ take place (digit_octets digits)
    → place ≡ length digits / 2 → digits ≡ numbers
    → all ≡ octets ++ take (length digits - length digits / 2 * 2) (drop (length digits / 2 * 2) digits)
    → all ≡ old ++ digit_octets numbers
put_rest old octets all digits numbers place before last same after =
    let size : length (drop (length digits / 2 * 2) digits) ≤ length digits - length digits / 2 * 2 = omega (arith, length-drop (length digits / 2 * 2) digits) in
    let tail : take (length digits - length digits / 2 * 2) (drop (length digits / 2 * 2) digits) ≡ drop (length digits / 2 * 2) digits = take_all _ _ size in
    after ∙ ap (λ l. octets ++ l) tail ∙ ap (λ l. l ++ drop (length digits / 2 * 2) digits) (before ∙ ap (λ n. old ++ take n (digit_octets digits)) last)
    ∙ append_assoc old (take (length digits / 2) (digit_octets digits)) (drop (length digits / 2 * 2) digits) ∙ ap (λ l. old ++ l) (digit_octets-rest digits ∙ ap digit_octets same)

-- the halves that count
pub take-digits : (is_odd : Bool) (octets : List ℕ) (count : ℕ) → count ≡ 2 * length octets - (if is_odd then 1 else 0)
    → take count (halves octets) ≡ digits_in is_odd octets
unfolding digits_in
take-digits true octets count e = ap (λ n. take n (halves octets)) e
take-digits false octets count e =
    let whole : length (halves octets) ≤ count = omega (arith, length-halves octets) in
    take_all count (halves octets) whole

-- digits read back
halves-digit_octets : (digits : List ℕ) → All (λ d. d < DIGIT_VALUES) digits → halves (digit_octets digits) ≡ digits ++ replicate (length digits % 2) 0
halves-digit_octets [] small = refl
halves-digit_octets (last ∷ []) small =
    let below : last < DIGIT_VALUES = small 0 0 (omega arith) in
    let low : last % 16 ≡ last = omega arith in
    let high : last / 16 ≡ 0 = omega arith in
    rw (low, high) refl
halves-digit_octets (low ∷ high ∷ rest) small =
    let below_low : low < DIGIT_VALUES = small 0 0 (omega arith) in
    let below_high : high < DIGIT_VALUES = small 1 0 (omega arith) in
    let first : (low + 16 * high) % 16 ≡ low = omega arith in
    let second : (low + 16 * high) / 16 ≡ high = omega arith in
    let parity : suc (suc (length rest)) % 2 ≡ length rest % 2 = omega arith in
    rw (first, second, parity) (ap (λ l. low ∷ high ∷ l) (halves-digit_octets rest (λ k d h. small (suc (suc k)) d (omega (arith, h)))))

pub digits_in-digit_octets : (digits : List ℕ) → All (λ d. d < DIGIT_VALUES) digits → digits_in (is_odd digits) (digit_octets digits) ≡ digits
unfolding digits_in
digits_in-digit_octets digits small = of_parity (length digits % 2) refl (omega arith)
  where
    of_parity : (parity : ℕ) → length digits % 2 ≡ parity → parity < 2 → (if length digits % 2 == 1 then take (2 * length (digit_octets digits) - 1) (halves (digit_octets digits)) else halves (digit_octets digits)) ≡ digits
    of_parity zero e h = rw e (halves-digit_octets digits small ∙ rw e (append-nil digits))
    of_parity (suc zero) e h = rw e (
        let size : 2 * length (digit_octets digits) - 1 ≡ length digits = omega (arith, length-digit_octets digits) in
        rw (size, halves-digit_octets digits small, e) (take-append_seam digits (0 ∷ [])))
    of_parity (suc (suc parity)) e h = absurd (omega arith)

pub ruleset octets_of_digits = (length-halves, take-halves, take-digit_octets, digit_octets-rest, take-digits)
