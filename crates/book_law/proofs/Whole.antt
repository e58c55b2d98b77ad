-- The whole text of the generator reads as its capture.
use Rattle.std.proofs.Common.{◌≡◌, ℕ, zero, suc, ◌+◌, ◌*◌, ◌/◌, ◌%◌, ◌≤◌, ◌<◌, ◌==◌, nat_le, codes, Bool, true, false, cond, List, [], ◌∷◌, ◌++◌, length, Result, Ok, Err, refl, sym, ap, ◌∙◌, arith, length-append}
use Rattle.std.proofs.Math.Dec.{eqb-suc-zero}
use Rattle.std.proofs.lemmas.Bool.Decides.{nat_tests}
use Rattle.std.proofs.lemmas.Grind.{flat_map-append}
use Rattle.std.specs.List.{AllByRecursion, list_all}
use Rattle.std.specs.Str.{is_utf8, chars}
use Rattle.relay_base.specs.declared.limits.TheConstants.{MOST_GENERATED_LINES, MOST_BYTES}
use Rattle.capture_generator.specs.declared.events.TheConstants.{BLOCK}
use Rattle.relay_base.specs.Giving.{◌>>=◌}
use Rattle.toml.proofs.OnLiterals.{toml_on_literals}
use Rattle.node_head.specs.Lines.{halves, joined}
use Rattle.node_head.specs.Head.{table_of, counts_of, values_of, head_of_text, begun}
use Rattle.node_head.specs.Keys.{path, known_keys, known_tables, all_known, number_at, point_at}
use Rattle.node_head.specs.Tables.{tables_value}
use Rattle.node_head.specs.Numbers.{numbers_value, points_value}
use Rattle.node_head.specs.Timers.{ticks_at, ticks_of, timers_value}
use Rattle.node_head.specs.Rows.{rows_value}
use Rattle.node_head.specs.Replicates.{replicates_value}
use Rattle.node_head.specs.declared.head.Head.{Head}
use Rattle.node_head.specs.declared.fault.HeadFault.{HeadFault}
use Rattle.capture_form.specs.declared.fault.CaptureFault.{CaptureFault}
use Rattle.capture_form.specs.declared.fault.CaptureFault.TheVariants as refused
use Rattle.capture_form.specs.declared.fault.Limit.TheVariants as limit
use Rattle.capture_form.specs.declared.reading.Reading.{Reading}
use Rattle.capture_form.specs.Capture.{at_head, capture_after, capture_from, capture_within, capture_of}
use Rattle.capture_form.specs.Inner.Reader.{closed, phases_read}
use Rattle.capture_form.proofs.ReaderLemmas.{reader-agrees}
use Rattle.capture_generator.proofs.CaptureLemmas.{all-append}
use Rattle.capture_generator.specs.Generator.{generator_head, Phases, number_after, block_phase, whole_blocks, phases_after}
use Rattle.capture_generator.specs.Text.{Lines, head_lines, line_at, barriers_after, lines_after, generated_text}
use Rattle.book_law.specs.TextLaw.{TextLaw}
use Rattle.book_law.proofs.Splitting.{IsLine, line, all_passed, spaced-line, lines-joined}
use Rattle.book_law.proofs.GeneratorEvents.{kind-writes}
use Rattle.book_law.proofs.Reading.{not_above, read_at, lines-read}

-- ---- the head

head-read : head_of_text (joined (codes "point = 1" ∷ codes "users = [8]" ∷ codes "conn_lanes = 4" ∷ codes "data_lanes = 4" ∷ [])) ≡ Ok generator_head
unfolding toml_on_literals is_utf8 chars head_of_text table_of values_of counts_of path known_keys known_tables all_known number_at point_at tables_value numbers_value points_value ticks_at ticks_of timers_value rows_value replicates_value
head-read = refl

begun-head : (ls : Lines) → begun (halves (head_lines ++ ls)) ≡ Ok (generator_head, 4, ls)
unfolding halves
begun-head ls =
    ap (λ (r : Result Head HeadFault). r >>= (λ head. Ok (head, 4, ls))) head-read

-- ---- the lines

barrier-lines : (n : ℕ) → AllByRecursion IsLine (barriers_after n)
barrier-lines n = by_test (n % BLOCK == 0)
  where
    by_test : (t : Bool) → AllByRecursion IsLine (cond t (codes "w" ∷ codes "t" ∷ codes "w" ∷ []) [])
    by_test true = all_passed (list_all (nat_le 32)) IsLine (codes "w" ∷ codes "t" ∷ codes "w" ∷ []) line refl
    by_test false = tt

event-lines : (x n : ℕ) → AllByRecursion IsLine (lines_after x n)
unfolding lines_after
event-lines x zero = tt
event-lines x (suc n) =
    all-append IsLine (lines_after x n) (line_at (number_after x (suc n)) n ∷ barriers_after (n + 1)) (event-lines x n)
    (spaced-line _ (kind-writes (number_after x (suc n) / 65536 % 4) n).each, barrier-lines (n + 1))

lines-of-head : AllByRecursion IsLine head_lines
lines-of-head = all_passed (list_all (nat_le 32)) IsLine head_lines line refl

-- ---- the length

length-joined : (xs ys : Lines) → length (joined (xs ++ ys)) ≡ length (joined xs) + length (joined ys)
length-joined xs ys = ap length (flat_map-append (λ l. l ++ 10 ∷ []) xs ys) ∙ length-append (joined xs) (joined ys)

length-line : (line : List ℕ) (more : Lines) → length (joined (line ∷ more)) ≡ length line + 1 + length (joined more)
length-line line more = omega (arith, length-append (line ++ 10 ∷ []) (joined more), length-append line (10 ∷ []))

length-barriers : (n : ℕ) → length (joined (barriers_after n)) ≤ 6
length-barriers n = by_test (n % BLOCK == 0)
  where
    by_test : (t : Bool) → length (joined (cond t (codes "w" ∷ codes "t" ∷ codes "w" ∷ []) [])) ≤ 6
    by_test true = omega arith
    by_test false = omega arith

length-lines : (x n : ℕ) → length (joined (lines_after x n)) ≤ 100 * n
unfolding lines_after
length-lines x zero = omega arith
length-lines x (suc n) = omega (
  arith,
  length-joined (lines_after x n) (line_at (number_after x (suc n)) n ∷ barriers_after (n + 1)),
  length-line (line_at (number_after x (suc n)) n) (barriers_after (n + 1)),
  length-barriers (n + 1),
  (kind-writes (number_after x (suc n) / 65536 % 4) n).short,
  length-lines x n,
)

-- ---- the capture

none_left : (n : ℕ) → ((BLOCK + 1) * (n / BLOCK) + n % BLOCK == 0) ≡ (n == 0)
none_left zero = refl
none_left (suc n) = not_zero ((BLOCK + 1) * (suc n / BLOCK) + suc n % BLOCK) (omega arith) ∙ sym (eqb-suc-zero n)
  where
    not_zero : (k : ℕ) → 0 < k → (k == 0) ≡ false
    not_zero k h = grind (arith, nat_tests)

phases-read : (x n : ℕ) → phases_read (read_at x (n / BLOCK) (n % BLOCK)) ≡ phases_after x n
phases-read x n = ap (λ (t : Bool). cond {A = Phases} t [] (whole_blocks x (n / BLOCK) ++ block_phase x (n / BLOCK) (n % BLOCK) ∷ [])) (none_left n)

lines-capture : (x n : ℕ) → n ≤ MOST_GENERATED_LINES → capture_after generator_head 6 (lines_after x n) ≡ Ok (record { head = generator_head; phases = phases_after x n })
lines-capture x n h =
    sym (reader-agrees generator_head 6 (lines_after x n))
    ∙ ap (λ (m : Result Reading CaptureFault). m >>= (λ r. closed r.group >>= (λ _. Ok (record { head = generator_head; phases = phases_read r })))) (lines-read x n h).1
    ∙ ap (λ (phases : Phases). Ok (record { head = generator_head; phases = phases })) (phases-read x n)

within-read : (x n : ℕ) → n ≤ MOST_GENERATED_LINES → capture_within (joined (head_lines ++ lines_after x n)) ≡ Ok (record { head = generator_head; phases = phases_after x n })
within-read x n h =
    ap (λ ls. at_head (begun (halves ls)) >>= capture_from) (lines-joined (head_lines ++ lines_after x n) (all-append IsLine head_lines (lines_after x n) lines-of-head (event-lines x n)))
    ∙ ap (λ (r : Result (Head × ℕ × Lines) HeadFault). at_head r >>= capture_from) (begun-head (lines_after x n))
    ∙ lines-capture x n h

pub text_law : TextLaw
unfolding capture_of
text_law number count h =
    let x : ℕ = number % 2147483648 in
    let text : List ℕ = generated_text number count in
    let few : length text ≤ MOST_BYTES = omega (arith, h, length-joined head_lines (lines_after x count), length-lines x count) in
    ap (λ t. cond t (Err (refused.TooLong limit.Bytes)) (capture_within text)) (not_above (length text) MOST_BYTES few)
    ∙ within-read x count h
