-- The words of a line, cut at its first space.
use Rattle.std.proofs.Common.{◌≡◌, ◌==◌, ◌<◌, ℕ, zero, suc, ◌-◌, not, true, false, cond, List, [], ◌∷◌, ◌++◌, length, take, drop, refl, sym, ap, ◌∙◌, arith}
use Rattle.std.specs.Prelude.{filter}
use Rattle.std.specs.List.{slice_split}
use Rattle.std.proofs.lemmas.Bool.{false_from_ne_true}
use Rattle.std.proofs.lemmas.List.{take_all, append_assoc, length-drop}
use Rattle.memchr.specs.Find.{Nowhere, Passes, is_byte}
use Rattle.capture_form.specs.Text.{words, if_any}

split-none : (line : List ℕ) → Nowhere (Passes (is_byte 32) line) 0 (length line) → slice_split (λ b. b == 32) line ≡ line ∷ []
split-none [] none = refl
split-none (x ∷ xs) none =
    rw (false_from_ne_true (x == 32) (none 0 (omega arith) (omega arith)), split-none xs (λ k low high. none (suc k) (omega arith) (omega (arith, high))))

split-at : (line : List ℕ) (at : ℕ) → at < length line → Nowhere (Passes (is_byte 32) line) 0 at → Passes (is_byte 32) line at
    → slice_split (λ b. b == 32) line ≡ take at line ∷ slice_split (λ b. b == 32) (drop 1 (drop at line))
split-at [] at within none here = absurd (omega (arith, within))
split-at (x ∷ xs) zero within none here = rw here
split-at (x ∷ xs) (suc n) within none here =
    rw (
      false_from_ne_true (x == 32) (none 0 (omega arith) (omega arith)),
      split-at xs n (omega (arith, within)) (λ k low high. none (suc k) (omega arith) (omega (arith, high))) here,
    )

-- no space stands in a line: it is a word, if it has octets
pub one_word : (line : List ℕ) → Nowhere (Passes (is_byte 32) line) 0 (length line) → words line ≡ if_any line
unfolding words
one_word line none = ap (filter (λ w. not (length w == 0))) (split-none line none)

-- the first space of a line stands here: a word before it, and those behind it
pub words_at : (line : List ℕ) (at : ℕ) → at < length line → Nowhere (Passes (is_byte 32) line) 0 at → Passes (is_byte 32) line at
    → words line ≡ if_any (take at line) ++ words (drop 1 (drop at line))
unfolding words
words_at line at within none here =
    ap (filter (λ w. not (length w == 0))) (split-at line at within none here) ∙
    (let word : List ℕ = take at line in let more : List (List ℕ) = words (drop 1 (drop at line)) in
    elim (length word == 0) as (λ b. cond (not b) (word ∷ more) more ≡ cond (not b) (word ∷ []) [] ++ more) [ true ↦ refl | false ↦ refl ])

-- the words that were found, and those behind the first space of the rest
pub next_words : (before after all : List (List ℕ)) (rest word more : List ℕ) (at : ℕ) → at < length rest → Nowhere (Passes (is_byte 32) rest) 0 at
    → Passes (is_byte 32) rest at → word ≡ take at rest → more ≡ drop at rest → after ≡ before ++ if_any word → before ++ words rest ≡ all
    → after ++ words (take (length more - 1) (drop 1 more)) ≡ all
next_words before after all rest word more at within none here is_word is_more put found =
    let rest_of : take (length more - 1) (drop 1 more) ≡ drop 1 (drop at rest) =
    take_all (length more - 1) (drop 1 more) (omega (arith, length-drop 1 more)) ∙ ap (drop 1) is_more in
    let found_of : after ≡ before ++ if_any (take at rest) = put ∙ ap (λ w. before ++ if_any w) is_word in
    ap (λ xs. after ++ words xs) rest_of ∙ ap (λ xs. xs ++ words (drop 1 (drop at rest))) found_of
    ∙ append_assoc before (if_any (take at rest)) (words (drop 1 (drop at rest))) ∙ ap (λ xs. before ++ xs) (sym (words_at rest at within none here)) ∙ found
