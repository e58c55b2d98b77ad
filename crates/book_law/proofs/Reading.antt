-- What the reader has read after so many generated lines.
use Rattle.std.proofs.Common.{◌≡◌, ℕ, zero, suc, ◌+◌, ◌*◌, ◌/◌, ◌%◌, ◌≤◌, ◌<◌, ◌==◌, nat_lt, nat_le, codes, not, Bool, true, false, cond, List, [], ◌∷◌, ◌++◌, None, Result, Ok, Err, refl, sym, ap, ◌∙◌, arith, append_assoc, inl, inr}
use Rattle.std.specs.Prelude.{◌≢◌}
use Rattle.std.proofs.lemmas.Bool.{cases_Bool, eqb-true, eqb-false}
use Rattle.std.proofs.lemmas.Bool.Decides.{nat_tests}
use Rattle.relay_base.specs.declared.limits.TheConstants.{MOST_GENERATED_LINES}
use Rattle.capture_form.specs.declared.steps.TheConstants.{MOST_BARRIERS, MOST_LINES, MOST_TICK_LINES}
use Rattle.capture_generator.specs.declared.events.TheConstants.{BLOCK}
use Rattle.relay_base.specs.Giving.{◌>>=◌}
use Rattle.relay_base.specs.declared.words.Event.{Event}
use Rattle.relay_base.specs.declared.words.Event.TheVariants.{Tick}
use Rattle.relay_base.specs.declared.words.Stamp.{Stamp}
use Rattle.plant_core.specs.declared.entry.ControlEvent.{ControlEvent}
use Rattle.plant_core.specs.declared.entry.ControlEvent.TheVariants.{Plain}
use Rattle.journal_text.specs.Print.{spaced}
use Rattle.node_head.specs.declared.head.Head.{Head}
use Rattle.capture_form.specs.Events.{Stamped}
use Rattle.capture_form.specs.Text.{words}
use Rattle.capture_form.specs.declared.fault.CaptureFault.{CaptureFault}
use Rattle.capture_form.specs.declared.meaning.Meaning.TheVariants.{Event as Brings}
use Rattle.capture_form.specs.declared.reading.Reading.{Reading}
use Rattle.capture_form.specs.Capture.{is_skipped}
use Rattle.capture_form.specs.Inner.Stated.{numbered}
use Rattle.capture_form.specs.Inner.Reader.{phase_ended, meaning_taken, line_added, at_number, words_taken, lines_taken, all_taken, nothing_read}
use Rattle.capture_generator.specs.Generator.{generator_head, Phases, number_after, event_at, stamp_at, stamped_at, events_after, block_phase, tick_phase, whole_blocks}
use Rattle.capture_generator.specs.Text.{Lines, line_at, words_of_kind, barriers_after, lines_after}
use Rattle.capture_generator.proofs.StepLemmas.{number-add}
use Rattle.book_law.proofs.Splitting.{words-spaced}
use Rattle.book_law.proofs.GeneratorEvents.{Writes, kind-writes}

-- ---- lines one after another

-- the next line has the next number
abbrev next : Reading → Reading
next r = record r { line = r.line + 1 }

-- what is read by a line, of which the number is that of the reading
abbrev step : Head → Reading → List ℕ → Result Reading CaptureFault
step head r line = cond (is_skipped line) (Ok (next r)) (words_taken head r (words line) >>= (λ s. Ok (at_number s (r.line + 1))))

unfoldable steps : Head → Reading → Lines → Result Reading CaptureFault
steps head r [] = Ok r
steps head r (line ∷ more) = step head r line >>= (λ s. steps head s more)

-- that is what is taken of the lines that state something
stated-line : (head : Head) (r : Reading) (number : ℕ) (line : List ℕ) (more : Lines) (s : Reading) (skipped : Bool) (m : Result Reading CaptureFault) → m ≡ words_taken head (at_number r number) (words line)
    → ((t : Reading) → steps head (at_number t (number + 1)) more ≡ Ok s → (last : ℕ) × (lines_taken head t (numbered (number + 1) more) ≡ Ok (at_number s last)))
    → (cond skipped (Ok (at_number r (number + 1))) (m >>= (λ t. Ok (at_number t (number + 1)))) >>= (λ t. steps head t more)) ≡ Ok s
    → (last : ℕ) × (lines_taken head r (cond (not skipped) ((number, line) ∷ numbered (number + 1) more) (numbered (number + 1) more)) ≡ Ok (at_number s last))
unfolding all_taken
stated-line head r number line more s true m is later e = later r e
stated-line head r number line more s false (Err fault) is later e = absurd cc
stated-line head r number line more s false (Ok t) is later e =
    let rest = later t e in
    (rest.0, ap (λ (x : Result Reading CaptureFault). x >>= (λ t. lines_taken head t (numbered (number + 1) more))) (sym is) ∙ rest.1)

steps-taken : (head : Head) (r : Reading) (number : ℕ) (ls : Lines) (s : Reading) → steps head (at_number r number) ls ≡ Ok s
    → (last : ℕ) × (lines_taken head r (numbered number ls) ≡ Ok (at_number s last))
unfolding steps all_taken
steps-taken head r number [] s e =
    let same : at_number r number ≡ s = cc in
    (r.line, ap (λ t. Ok (at_number t r.line)) same)
steps-taken head r number (line ∷ more) s e =
    stated-line head r number line more s (is_skipped line) (words_taken head (at_number r number) (words line)) refl (λ t e. steps-taken head t (number + 1) more s e) e

then_lines : (head : Head) (r s : Reading) (xs ys : Lines) → steps head r xs ≡ Ok s → steps head r (xs ++ ys) ≡ steps head s ys
unfolding steps
then_lines head r s [] ys h =
    let same : r ≡ s = cc in
    ap (λ t. steps head t ys) same
then_lines head r s (line ∷ more) ys h = after (λ t e. then_lines head t s more ys e) (step head r line) h
  where
    after : ((t : Reading) → steps head t more ≡ Ok s → steps head t (more ++ ys) ≡ steps head s ys)
        → (m : Result Reading CaptureFault) → (m >>= (λ t. steps head t more)) ≡ Ok s → (m >>= (λ t. steps head t (more ++ ys))) ≡ steps head s ys
    after f (Ok t) e = f t e
    after f (Err fault) e = absurd cc

next_line : (head : Head) (r s : Reading) (line : List ℕ) (more : Lines) → step head r line ≡ Ok s → steps head r (line ∷ more) ≡ steps head s more
unfolding steps
next_line head r s line more h = ap (λ (m : Result Reading CaptureFault). m >>= (λ t. steps head t more)) h

not_yet : (n most : ℕ) → n < most → nat_le most n ≡ false
not_yet n most h = grind (arith, nat_tests)

pub not_above : (n most : ℕ) → n ≤ most → nat_lt most n ≡ false
not_above n most h = grind (arith, nat_tests)

-- an event line
event_line : (ws : Lines) (event : Event) (r : Reading) → Writes ws event → r.group ≡ None → r.events < MOST_LINES
    → step generator_head r (spaced ws) ≡ Ok (next (line_added (meaning_taken r (Brings 1 (Plain event)))))
event_line ws event r h alone few =
    rw (h.stated, words-spaced ws h.each, h.no_barrier, not_yet r.events MOST_LINES few, h.no_tick, alone, h.no_commit, h.means) refl

-- a barrier, and a tick
barrier_line : (r : Reading) → r.group ≡ None → r.phase ≤ MOST_BARRIERS → step generator_head r (codes "w") ≡ Ok (next (phase_ended generator_head r))
unfolding words
barrier_line r alone h = rw (not_above r.phase MOST_BARRIERS h, alone) refl

tick_line : (r : Reading) → r.group ≡ None → r.events < MOST_LINES → r.ticks < MOST_TICK_LINES
    → step generator_head r (codes "t") ≡ Ok (next (line_added (meaning_taken (record r { ticks = r.ticks + 1 }) (Brings 0 (Plain Tick)))))
unfolding words
tick_line r alone few h = rw (not_yet r.events MOST_LINES few, not_yet r.ticks MOST_TICK_LINES h, alone) refl

-- ---- what was read

abbrev reading : Phases → List Stamped → ℕ → ℕ → ℕ → ℕ → Reading
reading phases current phase line events ticks =
    record { phases = phases; current = current; phase = phase; line = line; events = events; ticks = ticks; group = None }

-- after q blocks and r lines more
abbrev pub read_at : ℕ → ℕ → ℕ → Reading
read_at x q r = reading (whole_blocks x q) (block_phase x q r) (1 + 2 * q) (6 + (BLOCK + 3) * q + r) ((BLOCK + 1) * q + r) q

reading_same : (phases : Phases) (current now : List Stamped) (phase line line' events events' ticks : ℕ) → current ≡ now → line ≡ line' → events ≡ events'
    → reading phases current phase line events ticks ≡ reading phases now phase line' events' ticks
reading_same phases current now phase line line' events events' ticks a b c =
    ap (λ l. reading phases l phase line events ticks) a ∙ ap (λ n. reading phases now phase n events ticks) b ∙ ap (λ n. reading phases now phase line' n ticks) c

abbrev stamp : ℕ → ℕ → ℕ → Stamp
stamp phase link line = record { phase = phase; link = link; line = line }

-- one event line more
more_events : (y i r : ℕ) → events_after y i r ++ stamped_at (number_after y (r + 1)) (i + r) ∷ [] ≡ events_after y i (r + 1)
unfolding events_after
more_events y i r =
    let one : suc r ≡ r + 1 = omega arith in
    ap (λ k. events_after y i r ++ stamped_at (number_after y k) (i + r) ∷ []) (sym one) ∙ ap (events_after y i) one

-- event n in block q, as it is read
abbrev event_read : ℕ → ℕ → ℕ → ℕ → Stamp × ControlEvent
event_read x q r n = (record { phase = 1 + 2 * q; link = 1; line = 6 + (BLOCK + 3) * q + r }, Plain (event_at (number_after x (n + 1)) n))

one_more : (x q r n : ℕ) → n ≡ BLOCK * q + r → r < BLOCK
    → events_after (number_after x (BLOCK * q)) (BLOCK * q) r ++ event_read x q r n ∷ [] ≡ events_after (number_after x (BLOCK * q)) (BLOCK * q) (r + 1)
one_more x q r n at h =
    let y : ℕ = number_after x (BLOCK * q) in
    let before : Stamped = events_after y (BLOCK * q) r in
    let whole : n / BLOCK ≡ q = omega (arith, at, h) in
    let picked : number_after x (n + 1) ≡ number_after y (r + 1) = ap (number_after x) (omega (arith, at)) ∙ sym (number-add x (BLOCK * q) (r + 1)) in
    let event : Event = event_at (number_after x (n + 1)) n in
    ap (λ k. before ++ (stamp k 1 (6 + (BLOCK + 3) * q + r), Plain event) ∷ []) (omega (arith, whole))
    ∙ ap (λ k. before ++ (stamp (1 + 2 * (n / BLOCK)) 1 k, Plain event) ∷ []) (omega (arith, at, whole))
    ∙ ap (λ z. before ++ (stamp_at n, Plain (event_at z n)) ∷ []) picked
    ∙ ap (λ m. before ++ stamped_at (number_after y (r + 1)) m ∷ []) at
    ∙ more_events y (BLOCK * q) r

event-read : (x q r n : ℕ) → n ≡ BLOCK * q + r → r < BLOCK → n < MOST_GENERATED_LINES
    → step generator_head (read_at x q r) (line_at (number_after x (n + 1)) n) ≡ Ok (read_at x q (r + 1))
event-read x q r n at h few =
    let picked : ℕ = number_after x (n + 1) in
    event_line (words_of_kind (picked / 65536 % 4) n) (event_at picked n) (read_at x q r) (kind-writes (picked / 65536 % 4) n) refl (omega (arith, at, h, few))
    ∙ ap Ok (reading_same (whole_blocks x q) ([] ∷ (events_after (number_after x (BLOCK * q)) (BLOCK * q) r ++ event_read x q r n ∷ []) ∷ []) (block_phase x q (r + 1)) (1 + 2 * q)
    (6 + (BLOCK + 3) * q + r + 1) (6 + (BLOCK + 3) * q + (r + 1)) ((BLOCK + 1) * q + r + 1) ((BLOCK + 1) * q + (r + 1)) q
    (ap (λ (es : Stamped). [] ∷ es ∷ []) (one_more x q r n at h)) (omega arith) (omega arith))

-- a barrier, a tick and a barrier after a whole block
more_blocks : (x q : ℕ) → whole_blocks x q ++ block_phase x q BLOCK ∷ tick_phase q ∷ [] ≡ whole_blocks x (q + 1)
unfolding whole_blocks
more_blocks x q =
    let one : suc q ≡ q + 1 = omega arith in
    ap (whole_blocks x) one

abbrev tick_read : ℕ → ℕ → List Stamped
tick_read phase line = ((stamp phase 0 line, Plain Tick) ∷ []) ∷ [] ∷ []

abbrev none_read : List Stamped
none_read = [] ∷ [] ∷ []

-- after the second barrier
abbrev ended : ℕ → ℕ → Reading
ended x q =
    reading ((whole_blocks x q ++ block_phase x q BLOCK ∷ []) ++ tick_read (1 + 2 * q + 1) (6 + (BLOCK + 3) * q + BLOCK + 1) ∷ []) none_read
    (1 + 2 * q + 1 + 1) (6 + (BLOCK + 3) * q + BLOCK + 1 + 1 + 1) ((BLOCK + 1) * q + BLOCK + 1) (q + 1)

ended_same : (x q : ℕ) → ended x q ≡ read_at x (q + 1) 0
unfolding events_after
ended_same x q =
    let phase : ℕ = 1 + 2 * q + 1 + 1 in
    let line : ℕ = 6 + (BLOCK + 3) * q + BLOCK + 1 + 1 + 1 in
    let events : ℕ = (BLOCK + 1) * q + BLOCK + 1 in
    let before : Phases = whole_blocks x q ++ block_phase x q BLOCK ∷ [] in
    ap (λ k. reading (before ++ tick_read k (6 + (BLOCK + 3) * q + BLOCK + 1) ∷ []) none_read phase line events (q + 1)) (omega arith)
    ∙ ap (λ k. reading (before ++ tick_read (2 + 2 * q) k ∷ []) none_read phase line events (q + 1)) (omega arith)
    ∙ ap (λ ps. reading ps none_read phase line events (q + 1)) (append_assoc (whole_blocks x q) (block_phase x q BLOCK ∷ []) (tick_phase q ∷ []) ∙ more_blocks x q)
    ∙ ap (λ k. reading (whole_blocks x (q + 1)) none_read k line events (q + 1)) (omega arith)
    ∙ reading_same (whole_blocks x (q + 1)) none_read none_read (1 + 2 * (q + 1)) line (6 + (BLOCK + 3) * (q + 1) + 0) events ((BLOCK + 1) * (q + 1) + 0) (q + 1) refl (omega arith) (omega arith)

block-read : (x q : ℕ) → q < 498 → steps generator_head (read_at x q BLOCK) (codes "w" ∷ codes "t" ∷ codes "w" ∷ []) ≡ Ok (read_at x (q + 1) 0)
unfolding steps
block-read x q h =
    let first : Reading = read_at x q BLOCK in
    let second : Reading = next (phase_ended generator_head first) in
    let third : Reading = next (line_added (meaning_taken (record second { ticks = second.ticks + 1 }) (Brings 0 (Plain Tick)))) in
    next_line generator_head first second (codes "w") (codes "t" ∷ codes "w" ∷ []) (barrier_line first refl (omega (arith, h)))
    ∙ next_line generator_head second third (codes "t") (codes "w" ∷ []) (tick_line second refl (omega (arith, h)) (omega (arith, h)))
    ∙ next_line generator_head third (next (phase_ended generator_head third)) (codes "w") [] (barrier_line third refl (omega (arith, h)))
    ∙ ap Ok (ended_same x q)

-- ---- all lines

barriers-read : (x q r n : ℕ) → n ≡ BLOCK * q + r → r < BLOCK → n < MOST_GENERATED_LINES
    → steps generator_head (read_at x q (r + 1)) (barriers_after (n + 1)) ≡ Ok (read_at x ((n + 1) / BLOCK) ((n + 1) % BLOCK))
unfolding steps
barriers-read x q r n at h few = elim (cases_Bool ((n + 1) % BLOCK == 0)) [
  | inl whole ↦
      let none : (n + 1) % BLOCK ≡ 0 = eqb-true ((n + 1) % BLOCK) 0 whole in
      let full : r + 1 ≡ BLOCK = omega (arith, at, h, none) in
      let next : q + 1 ≡ (n + 1) / BLOCK = omega (arith, at, full) in
      ap (λ t. steps generator_head (read_at x q (r + 1)) (cond t (codes "w" ∷ codes "t" ∷ codes "w" ∷ []) [])) whole
      ∙ ap (λ k. steps generator_head (read_at x q k) (codes "w" ∷ codes "t" ∷ codes "w" ∷ [])) full
      ∙ block-read x q (omega (arith, at, few))
      ∙ ap (λ k. Ok (read_at x k 0)) next ∙ ap (λ k. Ok (read_at x ((n + 1) / BLOCK) k)) (sym none)
  | inr part ↦
      let some : (n + 1) % BLOCK ≢ 0 = eqb-false ((n + 1) % BLOCK) 0 part in
      let same : q ≡ (n + 1) / BLOCK = omega (arith, at, h, some) in
      let more : r + 1 ≡ (n + 1) % BLOCK = omega (arith, at, h, some) in
      ap (λ t. steps generator_head (read_at x q (r + 1)) (cond t (codes "w" ∷ codes "t" ∷ codes "w" ∷ []) [])) part
      ∙ ap (λ k. Ok (read_at x k (r + 1))) same ∙ ap (λ k. Ok (read_at x ((n + 1) / BLOCK) k)) more
]

before_all : (x : ℕ) → steps generator_head (at_number (nothing_read generator_head) 6) [] ≡ Ok (read_at x 0 0)
unfolding steps whole_blocks events_after
before_all x = refl

stepped : (x n : ℕ) → n ≤ MOST_GENERATED_LINES → steps generator_head (at_number (nothing_read generator_head) 6) (lines_after x n) ≡ Ok (read_at x (n / BLOCK) (n % BLOCK))
unfolding lines_after
stepped x zero h = before_all x
stepped x (suc n) h =
    let at : n ≡ BLOCK * (n / BLOCK) + n % BLOCK = omega arith in
    let one : suc n ≡ n + 1 = omega arith in
    then_lines generator_head (at_number (nothing_read generator_head) 6) (read_at x (n / BLOCK) (n % BLOCK)) (lines_after x n) (line_at (number_after x (suc n)) n ∷ barriers_after (n + 1)) (stepped x n (omega (arith, h)))
    ∙ next_line generator_head (read_at x (n / BLOCK) (n % BLOCK)) (read_at x (n / BLOCK) (n % BLOCK + 1)) (line_at (number_after x (suc n)) n) (barriers_after (n + 1))
    (ap (λ k. step generator_head (read_at x (n / BLOCK) (n % BLOCK)) (line_at (number_after x k) n)) one ∙ event-read x (n / BLOCK) (n % BLOCK) n at (omega arith) (omega (arith, h)))
    ∙ barriers-read x (n / BLOCK) (n % BLOCK) n at (omega arith) (omega (arith, h))
    ∙ ap (λ k. Ok (read_at x (k / BLOCK) (k % BLOCK))) (sym one)

-- what is taken of the lines, of which the last has some number
pub lines-read : (x n : ℕ) → n ≤ MOST_GENERATED_LINES
    → (last : ℕ) × (lines_taken generator_head (nothing_read generator_head) (numbered 6 (lines_after x n)) ≡ Ok (at_number (read_at x (n / BLOCK) (n % BLOCK)) last))
lines-read x n h = steps-taken generator_head (nothing_read generator_head) 6 (lines_after x n) (read_at x (n / BLOCK) (n % BLOCK)) (stepped x n h)
