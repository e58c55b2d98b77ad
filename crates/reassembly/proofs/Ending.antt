-- Which process a segment ends as failed.
use Rattle.std.proofs.Common.{◌≡◌, ℕ, ◌+◌, ◌==◌, true, false, List, Some, None, refl, ⊎_elim}
use Rattle.std.specs.List.{find}
use Rattle.std.proofs.lemmas.Bool.{cases_Bool}
use Rattle.reassembly.specs.Segments.{key_of, is_first, remaining}
use Rattle.reassembly.specs.Reassembly.{is_of, has_no_room, reassembly_after, takes}
use Rattle.reassembly.specs.declared.piece.Piece.{Piece}
use Rattle.reassembly.specs.declared.process.Process.{Process}

pub none_full : (ticks : ℕ) (xs : List Process) (piece : Piece) → has_no_room piece xs ≡ true → (takes ticks xs piece).1.failed ≡ None
unfolding takes reassembly_after
none_full ticks xs piece full = rw full refl

pub none_live : (ticks : ℕ) (xs : List Process) (piece : Piece) → has_no_room piece xs ≡ false → find (is_of (key_of piece)) xs ≡ None → (takes ticks xs piece).1.failed ≡ None
unfolding takes reassembly_after
none_live ticks xs piece room is =
    ⊎_elim
    (λ (first : is_first piece ≡ true). ⊎_elim
    (λ (one : (remaining piece == 0) ≡ true). rw (room, first, one, is) refl)
    (λ (several : (remaining piece == 0) ≡ false). rw (room, first, several, is) refl)
    (cases_Bool (remaining piece == 0)))
    (λ (later : is_first piece ≡ false). rw (room, later, is) refl)
    (cases_Bool (is_first piece))

pub none_awaited : (ticks : ℕ) (xs : List Process) (piece : Piece) (x : Process) → has_no_room piece xs ≡ false → is_first piece ≡ false → find (is_of (key_of piece)) xs ≡ Some x → (remaining piece + 1 == x.left) ≡ true → (takes ticks xs piece).1.failed ≡ None
unfolding takes reassembly_after
none_awaited ticks xs piece x room later is next =
    ⊎_elim
    (λ (last : (remaining piece == 0) ≡ true). rw (room, later, is, next, last) refl)
    (λ (more : (remaining piece == 0) ≡ false). rw (room, later, is, next, more) refl)
    (cases_Bool (remaining piece == 0))

pub repeated : (ticks : ℕ) (xs : List Process) (piece : Piece) (x : Process) → has_no_room piece xs ≡ false → is_first piece ≡ true → find (is_of (key_of piece)) xs ≡ Some x → (takes ticks xs piece).1.failed ≡ Some x.first
unfolding takes reassembly_after
repeated ticks xs piece x room first is =
    ⊎_elim
    (λ (one : (remaining piece == 0) ≡ true). rw (room, first, one, is) refl)
    (λ (several : (remaining piece == 0) ≡ false). rw (room, first, several, is) refl)
    (cases_Bool (remaining piece == 0))

pub unexpected : (ticks : ℕ) (xs : List Process) (piece : Piece) (x : Process) → has_no_room piece xs ≡ false → is_first piece ≡ false → find (is_of (key_of piece)) xs ≡ Some x → (remaining piece + 1 == x.left) ≡ false → (takes ticks xs piece).1.failed ≡ Some x.first
unfolding takes reassembly_after
unexpected ticks xs piece x room later is next = rw (room, later, is, next) refl
