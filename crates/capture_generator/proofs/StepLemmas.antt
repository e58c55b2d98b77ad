-- One step more of the generator's recursions.
use Rattle.std.proofs.Common.{◌≡◌, ◌∙◌, ℕ, zero, suc, ◌+◌, ◌*◌, [], ◌∷◌, ◌++◌, refl, sym, ap, arith}
use Rattle.capture_generator.specs.declared.events.TheConstants.{BLOCK}
use Rattle.capture_generator.specs.Generator.{next_number, number_after, stamped_at, events_after, lines_phase, block_phase, tick_phase, whole_blocks}

pub number_none : (x : ℕ) → number_after x 0 ≡ x
unfolding number_after
number_none x = refl

pub events_none : (x i : ℕ) → events_after x i 0 ≡ []
unfolding events_after
events_none x i = refl

pub blocks_none : (x : ℕ) → whole_blocks x 0 ≡ []
unfolding whole_blocks
blocks_none x = refl

pub number_more : (x n : ℕ) → number_after x (n + 1) ≡ next_number (number_after x n)
unfolding number_after
number_more x n =
    let one : n + 1 ≡ suc n = omega arith in
    ap (number_after x) one

pub number-add : (x a b : ℕ) → number_after (number_after x a) b ≡ number_after x (a + b)
unfolding number_after
number-add x a zero = ap (number_after x) (omega arith)
number-add x a (suc b) =
    let sum : suc (a + b) ≡ a + suc b = omega arith in
    ap next_number (number-add x a b) ∙ ap (number_after x) sum

-- a whole block of numbers more
pub number_block : (x b : ℕ) → number_after (number_after x (BLOCK * b)) BLOCK ≡ number_after x (BLOCK * (b + 1))
number_block x b = number-add x (BLOCK * b) BLOCK ∙ ap (number_after x) (omega arith)

pub events_more : (x i n : ℕ) → events_after x i (n + 1) ≡ events_after x i n ++ stamped_at (next_number (number_after x n)) (i + n) ∷ []
unfolding events_after number_after
events_more x i n =
    let one : n + 1 ≡ suc n = omega arith in
    ap (events_after x i) one

blocks_more : (x b : ℕ) → whole_blocks x (b + 1) ≡ whole_blocks x b ++ block_phase x b BLOCK ∷ tick_phase b ∷ []
unfolding whole_blocks
blocks_more x b =
    let one : b + 1 ≡ suc b = omega arith in
    ap (whole_blocks x) one

-- the phases of one whole block more, of which y is the number before the first line
pub blocks_step : (x y b : ℕ) → y ≡ number_after x (BLOCK * b) → whole_blocks x b ++ lines_phase y (BLOCK * b) BLOCK ∷ tick_phase b ∷ [] ≡ whole_blocks x (b + 1)
blocks_step x y b e = ap (λ z. whole_blocks x b ++ lines_phase z (BLOCK * b) BLOCK ∷ tick_phase b ∷ []) e ∙ sym (blocks_more x b)
