-- There is at most one process a key, and there are at most 256, after a segment and after a tick.
use Rattle.std.proofs.Common.{◌≡◌, ℕ, ◌<◌, ◌≤◌, Bool, true, false, cond, List, [], ◌∷◌, ◌++◌, length, map, filter, not, refl, sym, ap, ◌∙◌, ⊎_elim, arith, length-append, Result, Ok, Err, IfOk, OnErr}
use Rattle.std.proofs.lemmas.Bool.{cases_Bool}
use Rattle.std.proofs.lemmas.List.{length-map}
use Rattle.std.proofs.lemmas.List.Elements.{filter-append}
use Rattle.reassembly.specs.declared.processes.TheConstants.{MOST_REASSEMBLIES}
use Rattle.reassembly.specs.Segments.{Key, key_of}
use Rattle.reassembly.specs.Reassembly.{is_of, is_due, others, has_no_room, takes, after_tick}
use Rattle.reassembly.specs.Laws.{IsWithinBounds, StaysWithinBounds}
use Rattle.reassembly.specs.declared.piece.Piece.{Piece}
use Rattle.reassembly.specs.declared.piece.Taken.{Taken}
use Rattle.reassembly.specs.declared.process.Process.{Process}
use Rattle.relay_base.specs.declared.errors.Memory.{Memory}
use Rattle.reassembly.proofs.Bounds.{filter_fewer, length_filter, none_without, filter_changed, filter_after_tick}
use Rattle.reassembly.proofs.Changes.{changes}
use Rattle.reassembly.proofs.Keys.{key_same, of_same}

-- one more passes only where none did
push_one : {X : Type 0} (q : X → Bool) (ys : List X) (y : X) → length (filter q ys) ≤ 1 → (q y ≡ true → length (filter q ys) ≤ 0) → length (filter q (ys ++ y ∷ [])) ≤ 1
push_one q ys y one none =
    rw (filter-append q ys (y ∷ []), length-append)
    (⊎_elim
    (λ (t : q y ≡ true). let h = none t in rw t (omega arith))
    (λ (t : q y ≡ false). rw t (omega arith))
    (cases_Bool (q y)))

begins : (xs : List Process) (piece : Piece) → IsWithinBounds xs → (x : Process) → key_of piece ≡ key_of x.first → length (others (key_of piece) xs) < MOST_REASSEMBLIES → IsWithinBounds (others (key_of piece) xs ++ x ∷ [])
begins xs piece bounds x same few =
    let p = is_of (key_of piece) in
    let one : (key : Key) → length (filter (is_of key) (others (key_of piece) xs)) ≤ 1 =
    λ key. let h = filter_fewer (λ y. not (p y)) (is_of key) xs in let one = bounds.one_per_key key in omega arith in
    record {
      one_per_key = λ key. push_one (is_of key) (others (key_of piece) xs) x (one key) (λ (t : is_of key x ≡ true).
          let e : key ≡ key_of piece = key_same key (key_of x.first) t ∙ sym same in
          rw e (none_without p xs));
      few = rw length-append (omega arith);
    }

goes_on : (xs : List Process) (piece : Piece) → IsWithinBounds xs → (x : Process) → is_of (key_of piece) x ≡ true → IsWithinBounds (map (λ z. cond (is_of (key_of piece) z) x z) xs)
goes_on xs piece bounds x passes = record {
  one_per_key = λ key.
      rw (filter_changed (is_of (key_of piece)) (is_of key) x (λ y there. of_same key (key_of piece) x y (key_same (key_of piece) (key_of x.first) passes) there) xs)
      (bounds.one_per_key key);
  few = rw length-map bounds.few;
}

gone : (xs : List Process) (piece : Piece) → IsWithinBounds xs → IsWithinBounds (others (key_of piece) xs)
gone xs piece bounds = record {
  one_per_key = λ key. let h = filter_fewer (λ y. not (is_of (key_of piece) y)) (is_of key) xs in let one = bounds.one_per_key key in omega arith;
  few = let h = length_filter (λ y. not (is_of (key_of piece) y)) xs in let few = bounds.few in omega arith;
}

pub after_segment : (ticks : ℕ) (xs : List Process) (piece : Piece) → IsWithinBounds xs → IsWithinBounds (takes ticks xs piece).0
unfolding takes
after_segment ticks xs piece bounds =
    ⊎_elim
    (λ (full : has_no_room piece xs ≡ true). rw full bounds)
    (λ (room : has_no_room piece xs ≡ false).
    changes (λ o ys. IsWithinBounds ys) xs piece ticks (gone xs piece bounds) (begins xs piece bounds) (λ x x0 passes is. goes_on xs piece bounds x passes) room)
    (cases_Bool (has_no_room piece xs))

pub after_a_tick : (xs : List Process) → IsWithinBounds xs → IsWithinBounds (after_tick xs)
after_a_tick xs bounds = record {
  one_per_key = λ key. let h = filter_after_tick (is_of key) (λ x. refl) xs in let one = bounds.one_per_key key in omega arith;
  few = let h = length_filter (λ x. not (is_due x)) xs in let few = bounds.few in rw length-map (omega arith);
}

pub stays_within : StaysWithinBounds
stays_within = record { after_segment = after_segment; after_tick = after_a_tick }

-- the answer of a call
pub bounds_after : (ticks : ℕ) (old new : List Process) (piece : Piece) (answer : Result Taken Memory) → IfOk answer (λ taken. (new, taken) ≡ takes ticks old piece) → OnErr answer (new ≡ old) → IsWithinBounds old → IsWithinBounds new
bounds_after ticks old new piece (Ok taken) ok err bounds = let e : new ≡ (takes ticks old piece).0 = ap (λ pair. pair.0) ok in rw e (after_segment ticks old piece bounds)
bounds_after ticks old new piece (Err memory) ok err bounds = rw err bounds

-- the answer to a later segment, which is the same whatever ticks a new process would have
pub at_ticks : (ticks : ℕ) (old new : List Process) (piece : Piece) (answer : Result Taken Memory) → IfOk answer (λ taken. (n : ℕ) → (new, taken) ≡ takes n old piece) → IfOk answer (λ taken. (new, taken) ≡ takes ticks old piece)
at_ticks ticks old new piece (Ok taken) same = same ticks
at_ticks ticks old new piece (Err memory) same = same
