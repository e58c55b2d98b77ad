-- What a command states.
use Rattle.std.proofs.Common.{◌≡◌, ℕ, ◌≤◌, ◌&&◌, nat_le, codes, Bool, true, false, List, [], ◌∷◌, Some, None, refl, subst, if◌then◌else◌, leb-true}
use Rattle.std.specs.Prelude.{Option}
use Rattle.relay_base.specs.declared.limits.TheConstants.{MOST_GENERATED_LINES}
use Rattle.command_words.specs.declared.command.Command.{Command}
use Rattle.command_words.specs.declared.command.Command.TheVariants.{Run, Generate, Stream, Frames, Chain, Audit}
use Rattle.relay_base.specs.Decimal.{number_of}
use Rattle.command_words.specs.Commands.{same, within, number_in, generate_of, generate_in, command_in}

second : (a b : Bool) → (a && b) ≡ true → b ≡ true
second true b e = e
second false b e = absurd (cc)

-- a number in a range is no more than the most
chosen : (t : Bool) (k n most : ℕ) → (t ≡ true → k ≤ most) → (if t then Some k else None) ≡ Some n → n ≤ most
chosen true k n most f e =
    let same_number : k ≡ n = cc in
    subst (λ m. m ≤ most) same_number (f refl)
chosen false k n most f e = absurd (cc)

within-most : (least most : ℕ) (x : Option ℕ) (n : ℕ) → within least most x ≡ Some n → n ≤ most
within-most least most None n e = absurd (cc)
within-most least most (Some k) n e = chosen (nat_le least k && nat_le k most) k n most (λ t. leb-true _ _ (second (nat_le least k) (nat_le k most) t)) e

in-most : (least most : ℕ) (word : List ℕ) (n : ℕ) → number_in least most word ≡ Some n → n ≤ most
unfolding number_in
in-most least most word n e = within-most least most (number_of word) n e

made-most : (a b : Option ℕ) (number lines most : ℕ) → ((n : ℕ) → b ≡ Some n → n ≤ most) → generate_of a b ≡ Some (Generate number lines) → lines ≤ most
made-most (Some x) (Some y) number lines most f e =
    let same_lines : y ≡ lines = cc in
    subst (λ m. m ≤ most) same_lines (f y refl)
made-most (Some x) None number lines most f e = absurd (cc)
made-most None b number lines most f e = absurd (cc)

only-if : (t : Bool) (x : Option Command) (number lines most : ℕ) → (x ≡ Some (Generate number lines) → lines ≤ most) → (if t then x else None) ≡ Some (Generate number lines) → lines ≤ most
only-if true x number lines most f e = f e
only-if false x number lines most f e = absurd (cc)

-- one word, and two, make no capture
word-makes-none : (run stream chain audit : Bool) (number lines : ℕ)
    → (if run then Some Run else (if stream then Some Stream else (if chain then Some Chain else (if audit then Some Audit else None)))) ≡ Some (Generate number lines) → ⊥
word-makes-none true stream chain audit number lines e = cc
word-makes-none false true chain audit number lines e = cc
word-makes-none false false true audit number lines e = cc
word-makes-none false false false true number lines e = cc
word-makes-none false false false false number lines e = cc

words-make-none : (stream frames : Bool) (number lines : ℕ) → (if stream then (if frames then Some Frames else None) else None) ≡ Some (Generate number lines) → ⊥
words-make-none true true number lines e = cc
words-make-none true false number lines e = cc
words-make-none false frames number lines e = cc

-- `gen` has at most 199,000 lines
pub lines-most : (words : List (List ℕ)) (number lines : ℕ) → command_in words ≡ Some (Generate number lines) → lines ≤ MOST_GENERATED_LINES
lines-most [] number lines e = absurd (cc)
lines-most (word ∷ []) number lines e = absurd (word-makes-none (same word (codes "run")) (same word (codes "m3ua")) (same word (codes "chain")) (same word (codes "audit")) number lines e)
lines-most (word ∷ output ∷ []) number lines e = absurd (words-make-none (same word (codes "m3ua")) (same output (codes "frames")) number lines e)
lines-most (word ∷ first ∷ last ∷ []) number lines e =
    only-if (same word (codes "gen")) (generate_in first last) number lines MOST_GENERATED_LINES
    (made-most (number_in 0 4294967295 first) (number_in 1 MOST_GENERATED_LINES last) number lines MOST_GENERATED_LINES (in-most 1 MOST_GENERATED_LINES last)) e
lines-most (word ∷ first ∷ last ∷ next ∷ more) number lines e = absurd (cc)
