-- A text that was joined of lines and words is split into them again.
use Rattle.std.proofs.Common.{◌≡◌, ◌≢◌, ℕ, zero, suc, ◌+◌, ◌-◌, ◌≤◌, ◌<◌, ◌==◌, ◌&&◌, nat_lt, nat_le, not, Bool, true, false, cond, List, [], ◌∷◌, ◌++◌, length, map, take, slice_index, refl, ap, ◌∙◌, arith, length-append, inr}
use Rattle.std.proofs.lemmas.Bool.{leb-true, ltb-true}
use Rattle.std.proofs.Math.Dec.{eqb-suc-zero}
use Rattle.std.proofs.lemmas.Bool.Decides.{nat_tests}
use Rattle.std.proofs.lemmas.List.{take-append-le, take_all}
use Rattle.std.proofs.lemmas.List.Elements.{All-from_recursion}
use Rattle.std.proofs.lemmas.List.Splits.{slice_split_none, slice_split_at}
use Rattle.std.specs.List.{AllByRecursion, list_all, filter, slice_split}
use Rattle.bstr.specs.Text.{lines_of, no_cr, without_terminator}
use Rattle.bstr.proofs.lemmas.LineLemmas.{lines-nil, lines-append, lines-one}
use Rattle.node_head.specs.Lines.{lines, joined}
use Rattle.journal_text.specs.Print.{spaced}
use Rattle.capture_form.specs.Text.{words}
use Rattle.capture_form.specs.Capture.{is_skipped}
use Rattle.capture_form.proofs.PhaseLemmas.{both-left, both-right}

-- ---- tests

pub is_less : (n m : ℕ) → n < m → nat_lt n m ≡ true
is_less n m h = grind (arith, nat_tests)

pub none_and : (t : Bool) → (t && false) ≡ false
none_and true = refl
none_and false = refl

-- what holds of each element by a test that computes
pub all_passed : {A : Type 0} (p : A → Bool) (P : A → Type 0) (xs : List A) → ((x : A) → p x ≡ true → P x) → list_all p xs ≡ true → AllByRecursion P xs
all_passed p P [] f h = tt
all_passed p P (x ∷ xs) f h = (f x (both-left (p x) (list_all p xs) h), all_passed p P xs f (both-right (p x) (list_all p xs) h))

-- ---- words

-- a byte above the space; a word of such; and a line of bytes from the space on
abbrev pub IsDark : ℕ → Type 0
IsDark b = 33 ≤ b

abbrev pub IsWord : List ℕ → Type 0
IsWord w = (0 < length w) × AllByRecursion IsDark w

abbrev pub IsLine : List ℕ → Type 0
IsLine line = AllByRecursion (λ b. 32 ≤ b) line

abbrev pub is_word : List ℕ → Bool
is_word w = nat_lt 0 (length w) && list_all (nat_le 33) w

pub word : (w : List ℕ) → is_word w ≡ true → IsWord w
word w h = (ltb-true 0 (length w) (both-left (nat_lt 0 (length w)) (list_all (nat_le 33) w) h), all_passed (nat_le 33) IsDark w (leb-true 33) (both-right (nat_lt 0 (length w)) (list_all (nat_le 33) w) h))

pub line : (l : List ℕ) → list_all (nat_le 32) l ≡ true → IsLine l
line l h = all_passed (nat_le 32) (λ b. 32 ≤ b) l (leb-true 32) h

not_space : (b : ℕ) → IsDark b → (b == 32) ≡ false
not_space b h = grind (arith, nat_tests)

no_spaces : (w : List ℕ) → AllByRecursion IsDark w → AllByRecursion (λ b. (b == 32) ≡ false) w
no_spaces [] h = tt
no_spaces (b ∷ bs) h = (not_space b h.0, no_spaces bs h.1)

stays : (w : List ℕ) (rest : List (List ℕ)) → 0 < length w → filter (λ word. not (length word == 0)) (w ∷ rest) ≡ w ∷ filter (λ word. not (length word == 0)) rest
stays [] rest h = absurd (omega (arith, h))
stays (b ∷ bs) rest h = ap (λ t. cond (not t) ((b ∷ bs) ∷ filter (λ word. not (length word == 0)) rest) (filter (λ word. not (length word == 0)) rest)) (eqb-suc-zero (length bs))

pub words-spaced : (ws : List (List ℕ)) → AllByRecursion IsWord ws → words (spaced ws) ≡ ws
unfolding words
words-spaced [] h = refl
words-spaced (w ∷ []) h =
    ap (filter (λ word. not (length word == 0))) (slice_split_none (λ b. b == 32) w (All-from_recursion (λ b. (b == 32) ≡ false) w (no_spaces w h.0.1)))
    ∙ stays w [] h.0.0
words-spaced (w ∷ v ∷ ws) h =
    ap (filter (λ word. not (length word == 0)))
    (slice_split_at (λ b. b == 32) w 32 (spaced (v ∷ ws)) (All-from_recursion (λ b. (b == 32) ≡ false) w (no_spaces w h.0.1)) refl)
    ∙ stays w (slice_split (λ b. b == 32) (spaced (v ∷ ws))) h.0.0
    ∙ ap (λ more. w ∷ more) (words-spaced (v ∷ ws) h.1)

dark_line : (w rest : List ℕ) → AllByRecursion IsDark w → IsLine rest → IsLine (w ++ rest)
dark_line [] rest h g = g
dark_line (b ∷ bs) rest h g = (omega (arith, h.0), dark_line bs rest h.1 g)

word_line : (w : List ℕ) → AllByRecursion IsDark w → IsLine w
word_line [] h = tt
word_line (b ∷ bs) h = (omega (arith, h.0), word_line bs h.1)

pub spaced-line : (ws : List (List ℕ)) → AllByRecursion IsWord ws → IsLine (spaced ws)
spaced-line [] h = tt
spaced-line (w ∷ []) h = word_line w h.0.1
spaced-line (w ∷ v ∷ ws) h = dark_line w (32 ∷ spaced (v ∷ ws)) h.0.1 (omega arith, spaced-line (v ∷ ws) h.1)

-- ---- lines

-- a line that is read
pub stated : (b : ℕ) (bs : List ℕ) → (b == 35) ≡ false → is_skipped (b ∷ bs) ≡ false
stated b bs h = rw (eqb-suc-zero (length bs), h) refl

-- the bytes of a line before its feed
no_feed : (line : List ℕ) (k : ℕ) → IsLine line → k + 1 < length (line ++ 10 ∷ []) → slice_index (line ++ 10 ∷ []) k ≢ 10
no_feed [] k h lt e = absurd (omega (arith, lt))
no_feed (b ∷ bs) zero h lt e = absurd (omega (arith, h.0, e))
no_feed (b ∷ bs) (suc k) h lt e = no_feed bs k h.1 (omega (arith, lt)) e

last_feed : (line : List ℕ) (k : ℕ) → k ≡ length line → slice_index (line ++ 10 ∷ []) k ≡ 10
last_feed [] zero e = refl
last_feed [] (suc k) e = absurd (omega (arith, e))
last_feed (b ∷ bs) zero e = absurd (omega (arith, e))
last_feed (b ∷ bs) (suc k) e = last_feed bs k (omega (arith, e))

last_byte : (line : List ℕ) (k : ℕ) → IsLine line → k < length line → 32 ≤ slice_index line k
last_byte [] k h lt = absurd (omega (arith, lt))
last_byte (b ∷ bs) zero h lt = h.0
last_byte (b ∷ bs) (suc k) h lt = last_byte bs k h.1 (omega (arith, lt))

other_than : (n m : ℕ) → m < n → (n == m) ≡ false
other_than n m h = grind (arith, nat_tests)

same_as : (n m : ℕ) → n ≡ m → (n == m) ≡ true
same_as n m h = grind (arith, nat_tests)

stays_whole : (line : List ℕ) → IsLine line → no_cr line ≡ line
stays_whole [] h = refl
stays_whole (b ∷ bs) h =
    let last : (slice_index (b ∷ bs) (length (b ∷ bs) - 1) == 13) ≡ false =
    other_than (slice_index (b ∷ bs) (length (b ∷ bs) - 1)) 13 (omega (arith, last_byte (b ∷ bs) (length (b ∷ bs) - 1) h (omega arith))) in
    ap (λ t. cond (nat_lt 0 (length (b ∷ bs)) && t) (take (length (b ∷ bs) - 1) (b ∷ bs)) (b ∷ bs)) last
    ∙ ap (λ t. cond t (take (length (b ∷ bs) - 1) (b ∷ bs)) (b ∷ bs)) (none_and (nat_lt 0 (length (b ∷ bs))))

terminated : (line : List ℕ) → IsLine line → without_terminator (line ++ 10 ∷ []) ≡ line
terminated line h =
    let long : length (line ++ 10 ∷ []) ≡ length line + 1 = length-append line (10 ∷ []) in
    let place : length (line ++ 10 ∷ []) - 1 ≡ length line = omega (arith, long) in
    let some : nat_lt 0 (length (line ++ 10 ∷ [])) ≡ true = is_less 0 (length (line ++ 10 ∷ [])) (omega (arith, long)) in
    let last : (slice_index (line ++ 10 ∷ []) (length (line ++ 10 ∷ []) - 1) == 10) ≡ true =
    same_as (slice_index (line ++ 10 ∷ []) (length (line ++ 10 ∷ []) - 1)) 10 (last_feed line (length (line ++ 10 ∷ []) - 1) place) in
    let front : take (length (line ++ 10 ∷ []) - 1) (line ++ 10 ∷ []) ≡ line =
    ap (λ n. take n (line ++ 10 ∷ [])) place ∙ take-append-le (length line) line (10 ∷ []) (omega arith) ∙ take_all (length line) line (omega arith) in
    ap (λ t. cond (t && (slice_index (line ++ 10 ∷ []) (length (line ++ 10 ∷ []) - 1) == 10)) (no_cr (take (length (line ++ 10 ∷ []) - 1) (line ++ 10 ∷ []))) (line ++ 10 ∷ [])) some
    ∙ ap (λ t. cond t (no_cr (take (length (line ++ 10 ∷ []) - 1) (line ++ 10 ∷ []))) (line ++ 10 ∷ [])) last
    ∙ ap no_cr front ∙ stays_whole line h

pub lines-joined : (ls : List (List ℕ)) → AllByRecursion IsLine ls → lines (joined ls) ≡ ls
lines-joined [] h = ap (map without_terminator) lines-nil
lines-joined (line ∷ more) h =
    let long : length (line ++ 10 ∷ []) ≡ length line + 1 = length-append line (10 ∷ []) in
    let ends : slice_index (line ++ 10 ∷ []) (length (line ++ 10 ∷ []) - 1) ≡ 10 = last_feed line (length (line ++ 10 ∷ []) - 1) (omega (arith, long)) in
    ap (map without_terminator) (lines-append (length (line ++ 10 ∷ [])) (line ++ 10 ∷ []) (joined more) (omega arith) (inr ends)
    ∙ ap (λ l. l ++ lines_of (joined more)) (lines-one (line ++ 10 ∷ []) (omega (arith, long)) (λ k lt. no_feed line k h.0 lt)))
    ∙ ap (λ l. l ∷ lines (joined more)) (terminated line h.0)
    ∙ ap (λ ls. line ∷ ls) (lines-joined more h.1)
