-- The segments of what is cut, fed to the reassemblies in their order.
use Rattle.std.proofs.Common.{◌≡◌, ℕ, zero, suc, ◌+◌, ◌-◌, ◌*◌, ◌≤◌, ◌<◌, ◌==◌, true, false, List, [], ◌∷◌, ◌++◌, length, map, take, drop, replicate, if◌then◌else◌, refl, sym, ap, ap₂, ◌∙◌, Option, Some, None, arith}
use Rattle.std.specs.List.{range_with_len}
use Rattle.std.proofs.lemmas.List.{take_all}
use Rattle.std.proofs.Math.Seq.{take-add}
use Rattle.std.proofs.Math.Nat.{mul-add}
use Rattle.reassembly.specs.Segments.{key_of, is_first, remaining}
use Rattle.reassembly.specs.Reassembly.{After, live, has_no_room, reassembly_after, takes, extended, whole_of, process_begun}
use Rattle.reassembly.specs.declared.piece.Piece.{Piece}
use Rattle.reassembly.specs.declared.piece.Now.TheVariants.{Whole}
use Rattle.reassembly.specs.declared.piece.Taken.{Taken}
use Rattle.reassembly.specs.declared.process.Process.{Process}
use Rattle.reassembly.proofs.Alone.{alone}
use Rattle.reassembly.proofs.Keys.{key_own}
use Rattle.connectionless.specs.Cutting.{Cutting, segment_size, segment_count}
use Rattle.unit_law.specs.Together.{piece_at, pieces, answers, awaiting, whole}
use Rattle.unit_law.proofs.Sizes.{Counted, left_of, is_first_one, is_later_one, not_zero, is_zero, same_number}

-- One reassembly.

after_begun : (ticks : ℕ) (piece : Piece) → is_first piece ≡ true → (remaining piece == 0) ≡ false
    → reassembly_after ticks None piece ≡ record { process = Some (process_begun ticks piece); taken = awaiting }
unfolding reassembly_after
after_begun ticks piece first more = rw (first, more) refl

after_more : (ticks : ℕ) (x : Process) (piece : Piece) → is_first piece ≡ false → (remaining piece + 1 == x.left) ≡ true → (remaining piece == 0) ≡ false
    → reassembly_after ticks (Some x) piece ≡ record { process = Some (extended x piece); taken = awaiting }
unfolding reassembly_after
after_more ticks x piece later next more = rw (later, next, more) refl

after_last : (ticks : ℕ) (x : Process) (piece : Piece) → is_first piece ≡ false → (remaining piece + 1 == x.left) ≡ true → (remaining piece == 0) ≡ true
    → reassembly_after ticks (Some x) piece ≡ record { process = None; taken = record { failed = None; now = Whole (whole_of (extended x piece)) } }
unfolding reassembly_after
after_last ticks x piece later next last = rw (later, next, last) refl

-- Many of them.

room_later : (piece : Piece) (xs : List Process) → is_first piece ≡ false → has_no_room piece xs ≡ false
room_later piece xs later = rw later refl

pub record Gives (ticks : ℕ) (xs : List Process) (piece : Piece) (after : After) : Type 0 where
  pub taken : (takes ticks xs piece).1 ≡ after.taken
  pub lives : live (key_of piece) (takes ticks xs piece).0 ≡ after.process

gives : (ticks : ℕ) (xs : List Process) (piece : Piece) (process : Option Process) (after : After) → has_no_room piece xs ≡ false
    → live (key_of piece) xs ≡ process → reassembly_after ticks process piece ≡ after → Gives ticks xs piece after
gives ticks xs piece process after room lives is =
    let same : reassembly_after ticks (live (key_of piece) xs) piece ≡ after = ap (λ p. reassembly_after ticks p piece) lives ∙ is in
    record {
      taken = alone.answer ticks xs piece room ∙ ap (λ (x : After). x.taken) same;
      lives = alone.of_segment ticks xs piece (key_of piece) room
          ∙ ap (λ own. if own then (reassembly_after ticks (live (key_of piece) xs) piece).process else live (key_of piece) xs) (key_own (key_of piece))
          ∙ ap (λ (x : After). x.process) same;
    }

-- What the reassembly of the segments has before the one at place k.
process_at : Cutting → ℕ → ℕ → ℕ → ℕ → Process
process_at c opc ssn ticks k = record {
  first = piece_at c opc ssn 0;
  body = take (segment_size c * k) c.body;
  left = segment_count c - k;
  ticks = ticks;
}

abbrev pub Counts : Cutting → Type 0
Counts c = (c.class ≤ 1) × Counted (segment_size c) (length c.body) (segment_count c)

later_first : (c : Cutting) (opc ssn k : ℕ) → Counts c → 1 ≤ k → is_first (piece_at c opc ssn k) ≡ false
later_first c opc ssn k counts some =
    is_later_one k c.class (segment_count c - 1 - k) some counts.0 (omega (arith, counts.1.most))

remaining_at : (c : Cutting) (opc ssn k : ℕ) → Counts c → remaining (piece_at c opc ssn k) ≡ segment_count c - 1 - k
remaining_at c opc ssn k counts = left_of (k == 0) c.class (segment_count c - 1 - k) (omega (arith, counts.1.most))

-- the data up to the next segment
joined : (s k : ℕ) (body : List ℕ) → take (s * k) body ++ take s (drop (s * k) body) ≡ take (s * (k + 1)) body
joined s k body =
    let size : s * (k + 1) ≡ s * k + s = omega (arith, mul-add s k 1) in
    sym (take-add (s * k) s body) ∙ ap (λ n. take n body) (sym size)

extended_at : (c : Cutting) (opc ssn ticks k : ℕ) → Counts c → extended (process_at c opc ssn ticks k) (piece_at c opc ssn k) ≡ process_at c opc ssn ticks (k + 1)
unfolding process_at
extended_at c opc ssn ticks k counts =
    let body = joined (segment_size c) k c.body in
    let left : remaining (piece_at c opc ssn k) ≡ segment_count c - (k + 1) = remaining_at c opc ssn k counts ∙ omega arith in
    λ i. record { first = piece_at c opc ssn 0; body = body i; left = left i; ticks = ticks }

begun_at : (c : Cutting) (opc ssn ticks : ℕ) → Counts c → process_begun ticks (piece_at c opc ssn 0) ≡ process_at c opc ssn ticks 1
unfolding process_at
begun_at c opc ssn ticks counts =
    let none : segment_size c * 0 ≡ 0 = omega arith in
    let one : segment_size c ≡ segment_size c * 1 = omega arith in
    let body : take (segment_size c) (drop (segment_size c * 0) c.body) ≡ take (segment_size c * 1) c.body =
    ap (λ n. take (segment_size c) (drop n c.body)) none ∙ ap (λ n. take n c.body) one in
    let left : remaining (piece_at c opc ssn 0) ≡ segment_count c - 1 = remaining_at c opc ssn 0 counts ∙ omega arith in
    λ i. record { first = piece_at c opc ssn 0; body = body i; left = left i; ticks = ticks }

-- the whole
whole_at : (c : Cutting) (opc ssn ticks k : ℕ) → Counts c → k + 1 ≡ segment_count c → whole_of (extended (process_at c opc ssn ticks k) (piece_at c opc ssn k)) ≡ whole c opc ssn
unfolding process_at
whole_at c opc ssn ticks k counts last =
    let body : take (segment_size c * k) c.body ++ take (segment_size c) (drop (segment_size c * k) c.body) ≡ c.body =
    joined (segment_size c) k c.body ∙ ap (λ n. take (segment_size c * n) c.body) last ∙ take_all (segment_size c * segment_count c) c.body counts.1.enough in
    ap (λ (b : List ℕ). record (piece_at c opc ssn 0) { body = b }) body

-- Each.

first_given : (c : Cutting) (opc ssn ticks : ℕ) (xs : List Process) → Counts c → live (key_of (piece_at c opc ssn 0)) xs ≡ None → has_no_room (piece_at c opc ssn 0) xs ≡ false
    → Gives ticks xs (piece_at c opc ssn 0) (record { process = Some (process_at c opc ssn ticks 1); taken = awaiting })
first_given c opc ssn ticks xs counts none room =
    let more : (remaining (piece_at c opc ssn 0) == 0) ≡ false = not_zero (remaining (piece_at c opc ssn 0)) (omega (arith, remaining_at c opc ssn 0 counts, counts.1.two)) in
    gives ticks xs (piece_at c opc ssn 0) None _ room none
    (after_begun ticks (piece_at c opc ssn 0) (is_first_one c.class (segment_count c - 1 - 0)) more
    ∙ ap (λ p. record { process = Some p; taken = awaiting }) (begun_at c opc ssn ticks counts))

abbrev last_answer : Cutting → ℕ → ℕ → Taken
last_answer c opc ssn = record { failed = None; now = Whole (whole c opc ssn) }

next_given : (c : Cutting) (opc ssn ticks k : ℕ) (xs : List Process) → Counts c → 1 ≤ k → k + 1 < segment_count c → live (key_of (piece_at c opc ssn k)) xs ≡ Some (process_at c opc ssn ticks k)
    → Gives ticks xs (piece_at c opc ssn k) (record { process = Some (process_at c opc ssn ticks (k + 1)); taken = awaiting })
unfolding process_at
next_given c opc ssn ticks k xs counts some within lives =
    let left = remaining_at c opc ssn k counts in
    let later = later_first c opc ssn k counts some in
    gives ticks xs (piece_at c opc ssn k) _ _ (room_later (piece_at c opc ssn k) xs later) lives
    (after_more ticks (process_at c opc ssn ticks k) (piece_at c opc ssn k) later
    (same_number (remaining (piece_at c opc ssn k) + 1) (segment_count c - k) (omega (arith, left)))
    (not_zero (remaining (piece_at c opc ssn k)) (omega (arith, left)))
    ∙ ap (λ p. record { process = Some p; taken = awaiting }) (extended_at c opc ssn ticks k counts))

last_given : (c : Cutting) (opc ssn ticks k : ℕ) (xs : List Process) → Counts c → 1 ≤ k → k + 1 ≡ segment_count c → live (key_of (piece_at c opc ssn k)) xs ≡ Some (process_at c opc ssn ticks k)
    → Gives ticks xs (piece_at c opc ssn k) (record { process = None; taken = last_answer c opc ssn })
unfolding process_at
last_given c opc ssn ticks k xs counts some last lives =
    let left = remaining_at c opc ssn k counts in
    let later = later_first c opc ssn k counts some in
    gives ticks xs (piece_at c opc ssn k) _ _ (room_later (piece_at c opc ssn k) xs later) lives
    (after_last ticks (process_at c opc ssn ticks k) (piece_at c opc ssn k) later
    (same_number (remaining (piece_at c opc ssn k) + 1) (segment_count c - k) (omega (arith, left)))
    (is_zero (remaining (piece_at c opc ssn k)) (omega (arith, left)))
    ∙ ap (λ w. record { process = None; taken = record { failed = None; now = Whole w } }) (whole_at c opc ssn ticks k counts last))

-- All.

later_ones : (c : Cutting) (opc ssn ticks : ℕ) → Counts c → (j k : ℕ) → k + suc j ≡ segment_count c → 1 ≤ k → (xs : List Process)
    → live (key_of (piece_at c opc ssn 0)) xs ≡ Some (process_at c opc ssn ticks k)
    → answers ticks xs (map (piece_at c opc ssn) (range_with_len k (suc j))) ≡ replicate j awaiting ++ last_answer c opc ssn ∷ []
later_ones c opc ssn ticks counts zero k count some xs lives =
    let given = last_given c opc ssn ticks k xs counts some (omega (arith, count)) lives in
    ap (λ t. t ∷ []) given.taken
later_ones c opc ssn ticks counts (suc j) k count some xs lives =
    let given = next_given c opc ssn ticks k xs counts some (omega (arith, count)) lives in
    let more = later_ones c opc ssn ticks counts j (k + 1) (omega (arith, count)) (omega arith) (takes ticks xs (piece_at c opc ssn k)).0 given.lives in
    ap₂ (λ (t : Taken) (ts : List Taken). t ∷ ts) given.taken more

all_ones : (c : Cutting) (opc ssn ticks m : ℕ) → Counts c → suc (suc m) ≡ segment_count c → (xs : List Process)
    → live (key_of (piece_at c opc ssn 0)) xs ≡ None → has_no_room (piece_at c opc ssn 0) xs ≡ false
    → answers ticks xs (map (piece_at c opc ssn) (range_with_len 0 (suc (suc m)))) ≡ replicate (suc m) awaiting ++ last_answer c opc ssn ∷ []
all_ones c opc ssn ticks m counts count xs none room =
    let given = first_given c opc ssn ticks xs counts none room in
    let more = later_ones c opc ssn ticks counts m 1 (omega (arith, count)) (omega arith) (takes ticks xs (piece_at c opc ssn 0)).0 given.lives in
    ap₂ (λ (t : Taken) (ts : List Taken). t ∷ ts) given.taken more

pub answered : (c : Cutting) (opc ssn ticks : ℕ) → Counts c → (xs : List Process)
    → live (key_of (piece_at c opc ssn 0)) xs ≡ None → has_no_room (piece_at c opc ssn 0) xs ≡ false
    → answers ticks xs (pieces c opc ssn) ≡ replicate (segment_count c - 1) awaiting ++ last_answer c opc ssn ∷ []
answered c opc ssn ticks counts xs none room =
    let m = segment_count c - 2 in
    let count : suc (suc m) ≡ segment_count c = omega (arith, counts.1.two) in
    let less : suc m ≡ segment_count c - 1 = omega (arith, counts.1.two) in
    ap (λ n. answers ticks xs (map (piece_at c opc ssn) (range_with_len 0 n))) (sym count)
    ∙ all_ones c opc ssn ticks m counts count xs none room
    ∙ ap (λ n. replicate n awaiting ++ last_answer c opc ssn ∷ []) less
