-- What a later segment does, by the place of its process.
use Rattle.std.proofs.Common.{◌≡◌, ℕ, ◌+◌, ◌==◌, ◌<◌, true, false, not, List, length, filter, Option, Some, None, sym, ap, ◌∙◌, arith}
use Rattle.std.specs.List.{remove}
use Rattle.std.proofs.Math.ListN.{set, get_or}
use Rattle.std.proofs.lemmas.Grind.{common_steps}
use Rattle.reassembly.specs.Segments.{key_of, is_first, remaining}
use Rattle.reassembly.specs.Reassembly.{is_of, reassembly_after, takes, extended, whole_of}
use Rattle.reassembly.specs.declared.piece.Piece.{Piece}
use Rattle.reassembly.specs.declared.piece.Now.{Now}
use Rattle.reassembly.specs.declared.piece.Now.TheVariants.{Waiting, Whole, Orphan, Broken}
use Rattle.reassembly.specs.declared.piece.Taken.{Taken}
use Rattle.reassembly.specs.declared.process.Process.{Process}
use Rattle.reassembly.proofs.Places.{Placed, Missing, remove-set}

abbrev answer_of : Option Piece → Now → Taken
answer_of failed now = record { failed = failed; now = now }

pub orphan : (ticks : ℕ) (xs : List Process) (piece : Piece) → is_first piece ≡ false → Missing (is_of (key_of piece)) xs → (xs, answer_of None Orphan) ≡ takes ticks xs piece
unfolding takes reassembly_after
orphan ticks xs piece e m = rw (e, m.not_found) (ap (λ l. (l, answer_of None Orphan)) (sym m.all))

pub broken : (ticks : ℕ) (xs : List Process) (piece : Piece) (i : ℕ) (x : Process) → is_first piece ≡ false → Placed (is_of (key_of piece)) xs i → x ≡ get_or xs i x → (remaining piece + 1 == x.left) ≡ false → (remove xs i, answer_of (Some x.first) Broken) ≡ takes ticks xs piece
unfolding takes reassembly_after
broken ticks xs piece i x e p is t = rw (e, p.found x is, t) (ap (λ l. (l, answer_of (Some x.first) Broken)) p.without)

pub waiting : (ticks : ℕ) (xs : List Process) (piece : Piece) (i : ℕ) (x : Process) → is_first piece ≡ false → Placed (is_of (key_of piece)) xs i → x ≡ get_or xs i x → (remaining piece + 1 == x.left) ≡ true → (remaining piece == 0) ≡ false → (set xs i (extended x piece), answer_of None Waiting) ≡ takes ticks xs piece
unfolding takes reassembly_after
waiting ticks xs piece i x e p is t r = rw (e, p.found x is, t, r, e) (ap (λ l. (l, answer_of None Waiting)) (p.with (extended x piece)))

written : {X : Type 0} (xs : List X) (i : ℕ) (y z : X) → i < length xs → y ≡ get_or (set xs i z) i y → y ≡ z
written xs i y z within is = grind (arith, common_steps)

pub whole : (ticks : ℕ) (xs : List Process) (piece : Piece) (i : ℕ) (x y : Process) → is_first piece ≡ false → Placed (is_of (key_of piece)) xs i → x ≡ get_or xs i x → (remaining piece + 1 == x.left) ≡ true → (remaining piece == 0) ≡ true → y ≡ get_or (set xs i (extended x piece)) i y → (remove (set xs i (extended x piece)) i, answer_of None (Whole (whole_of y))) ≡ takes ticks xs piece
unfolding takes reassembly_after
whole ticks xs piece i x y e p is t r last =
    let same : y ≡ extended x piece = written xs i y (extended x piece) p.within last in
    let without : remove (set xs i (extended x piece)) i ≡ filter (λ z. not (is_of (key_of piece) z)) xs = remove-set xs i (extended x piece) ∙ p.without in
    rw (e, p.found x is, t, r) (ap (λ l. (l, answer_of None (Whole (whole_of y)))) without ∙ ap (λ z. (filter (λ z'. not (is_of (key_of piece) z')) xs, answer_of None (Whole (whole_of z)))) same)
