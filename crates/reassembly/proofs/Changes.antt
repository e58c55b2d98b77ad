-- What a segment makes of the processes: its own is gone, begins behind the others, or goes on in its place.
use Rattle.std.proofs.Common.{◌≡◌, ℕ, ◌+◌, ◌==◌, ◌<◌, Bool, true, false, not, cond, List, [], ◌∷◌, ◌++◌, length, map, Option, Some, None, refl, sym, ap, ◌∙◌, ⊎_elim}
use Rattle.std.specs.List.{find, count_by}
use Rattle.std.proofs.lemmas.Bool.{cases_Bool, leb-false}
use Rattle.std.proofs.lemmas.List.Sums.{length-filter}
use Rattle.reassembly.specs.declared.processes.TheConstants.{MOST_REASSEMBLIES}
use Rattle.reassembly.specs.Segments.{key_of, is_first, remaining}
use Rattle.reassembly.specs.Reassembly.{is_of, live, others, has_no_room, reassembly_after, takes, process_begun, extended}
use Rattle.reassembly.specs.declared.piece.Piece.{Piece}
use Rattle.reassembly.specs.declared.process.Process.{Process}

-- the processes with this one in its place
abbrev pub in_place : Piece → Process → List Process → List Process
in_place piece x xs = map (λ z. cond (is_of (key_of piece) z) x z) xs

few_others : (xs : List Process) (piece : Piece) → has_no_room piece xs ≡ false → is_first piece ≡ true → (remaining piece == 0) ≡ false → length (others (key_of piece) xs) < MOST_REASSEMBLIES
few_others xs piece room first several =
    let h = rw (first, several) at room in
    let few = leb-false MOST_REASSEMBLIES (count_by (λ x. not (is_of (key_of piece) x)) xs) h in
    rw (length-filter (λ x. not (is_of (key_of piece) x)) xs) few

find_passes : {X : Type 0} (p : X → Bool) (xs : List X) (x : X) → find p xs ≡ Some x → p x ≡ true
find_passes p [] x found = cc
find_passes p (y ∷ xs) x found =
    ⊎_elim
    (λ (e : p y ≡ true). let h = rw e at found in let same : y ≡ x = cc in ap p (sym same) ∙ e)
    (λ (e : p y ≡ false). let h = rw e at found in find_passes p xs x h)
    (cases_Bool (p y))

-- each fact of the processes that holds of these three holds after a segment
module _ (P : Option Process → List Process → Type 0) (xs : List Process) (piece : Piece) where
  abbrev Gone : Type 0
  Gone = P None (others (key_of piece) xs)

  abbrev Begins : Type 0
  Begins = (x : Process) → key_of piece ≡ key_of x.first → length (others (key_of piece) xs) < MOST_REASSEMBLIES → P (Some x) (others (key_of piece) xs ++ x ∷ [])

  abbrev GoesOn : Type 0
  GoesOn = (x x0 : Process) → is_of (key_of piece) x ≡ true → live (key_of piece) xs ≡ Some x0 → P (Some x) (in_place piece x xs)

  first_changes : (ticks : ℕ) → Gone → Begins → has_no_room piece xs ≡ false → is_first piece ≡ true → P (reassembly_after ticks (live (key_of piece) xs) piece).process (takes ticks xs piece).0
  unfolding takes reassembly_after
  first_changes ticks gone begins room first =
      ⊎_elim
      (λ (one : (remaining piece == 0) ≡ true). rw (room, first, one) gone)
      (λ (several : (remaining piece == 0) ≡ false). rw (room, first, several, first) (begins (process_begun ticks piece) refl (few_others xs piece room first several)))
      (cases_Bool (remaining piece == 0))

  later_changes : (ticks : ℕ) (process : Option Process) → live (key_of piece) xs ≡ process → Gone → GoesOn → has_no_room piece xs ≡ false → is_first piece ≡ false → P (reassembly_after ticks (live (key_of piece) xs) piece).process (takes ticks xs piece).0
  unfolding takes reassembly_after
  later_changes ticks None is gone goes_on room first = rw (room, first, is) gone
  later_changes ticks (Some x) is gone goes_on room first =
      ⊎_elim
      (λ (next : (remaining piece + 1 == x.left) ≡ true). ⊎_elim
      (λ (last : (remaining piece == 0) ≡ true). rw (room, first, is, next, last) gone)
      (λ (more : (remaining piece == 0) ≡ false). rw (room, first, is, next, more, first) (goes_on (extended x piece) x (find_passes (is_of (key_of piece)) xs x is) is))
      (cases_Bool (remaining piece == 0)))
      (λ (next : (remaining piece + 1 == x.left) ≡ false). rw (room, first, is, next) gone)
      (cases_Bool (remaining piece + 1 == x.left))

  pub changes : (ticks : ℕ) → Gone → Begins → GoesOn → has_no_room piece xs ≡ false → P (reassembly_after ticks (live (key_of piece) xs) piece).process (takes ticks xs piece).0
  changes ticks gone begins goes_on room =
      ⊎_elim
      (λ (first : is_first piece ≡ true). first_changes ticks gone begins room first)
      (λ (later : is_first piece ≡ false). later_changes ticks (live (key_of piece) xs) refl gone goes_on room later)
      (cases_Bool (is_first piece))
