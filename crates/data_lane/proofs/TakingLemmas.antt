-- What a segment and a tick leave.
use Rattle.std.proofs.Common.{◌≡◌, ℕ, ◌+◌, ◌<◌, ◌≤◌, ◌==◌, Bool, true, false, List, [], ◌∷◌, ◌++◌, length, drop, slice_get, map, filter, refl, sym, ap, ◌∙◌, ⊎_elim, arith, append_assoc, Result, Ok, Err, IfOk, OnErr, Some, None, Option, zero, suc, add-one, append-nil}
use Rattle.std.proofs.lemmas.Bool.{cases_Bool}
use Rattle.std.proofs.lemmas.List.{length-map}
use Rattle.reassembly.specs.declared.processes.TheConstants.{MOST_REASSEMBLIES}
use Rattle.relay_base.specs.declared.errors.Memory.{Memory}
use Rattle.relay_base.specs.declared.words.Output.{Output}
use Rattle.reassembly.specs.Segments.{key_of, is_first, remaining}
use Rattle.reassembly.specs.Laws.{IsWithinBounds}
use Rattle.reassembly.specs.Reassembly.{is_due, has_no_room, live, reassembly_after, takes, ended_by_tick, Reassemblies}
use Rattle.reassembly.specs.declared.piece.Piece.{Piece}
use Rattle.reassembly.specs.declared.piece.Taken.{Taken}
use Rattle.reassembly.specs.declared.process.Process.{Process}
use Rattle.data_lane.specs.Legal.{failures, of_now, is_no_room, taken_outs}

-- the return of the one that failed stands before the rest
pub taken-outs : (own : ℕ) (x : List Process × Taken) (processes : List Process) (taken : Taken) (outs before reserved : List Output) (r : Result (List Output) Memory)
    → (processes, taken) ≡ x → before ≡ outs ++ failures own x.1.failed → reserved ≡ before → IfOk r (λ all. all ≡ reserved ++ of_now own taken.now) → IfOk r (λ all. all ≡ outs ++ taken_outs own x.1)
taken-outs own x processes taken outs before reserved (Ok all) e b s h =
    h ∙ ap (λ o. o ++ of_now own taken.now) (s ∙ b) ∙ append_assoc outs (failures own x.1.failed) (of_now own taken.now) ∙ ap (λ (t : List Process × Taken). outs ++ (failures own x.1.failed ++ of_now own t.1.now)) e
taken-outs own x processes taken outs before reserved (Err m) e b s h = tt

has_room : (ticks : ℕ) (process : Option Process) (piece : Piece) → is_no_room (reassembly_after ticks process piece).taken.now ≡ false
unfolding reassembly_after
has_room ticks None piece =
    ⊎_elim
    (λ (first : is_first piece ≡ true). ⊎_elim
    (λ (one : (remaining piece == 0) ≡ true). rw (first, one) refl)
    (λ (several : (remaining piece == 0) ≡ false). rw (first, several) refl)
    (cases_Bool (remaining piece == 0)))
    (λ (later : is_first piece ≡ false). rw later refl)
    (cases_Bool (is_first piece))
has_room ticks (Some x) piece =
    ⊎_elim
    (λ (first : is_first piece ≡ true). ⊎_elim
    (λ (one : (remaining piece == 0) ≡ true). rw (first, one) refl)
    (λ (several : (remaining piece == 0) ≡ false). rw (first, several) refl)
    (cases_Bool (remaining piece == 0)))
    (λ (later : is_first piece ≡ false). ⊎_elim
    (λ (next : (remaining piece + 1 == x.left) ≡ true). ⊎_elim
    (λ (last : (remaining piece == 0) ≡ true). rw (later, next, last) refl)
    (λ (more : (remaining piece == 0) ≡ false). rw (later, next, more) refl)
    (cases_Bool (remaining piece == 0)))
    (λ (other : (remaining piece + 1 == x.left) ≡ false). rw (later, other) refl)
    (cases_Bool (remaining piece + 1 == x.left)))
    (cases_Bool (is_first piece))

-- where there is no room, all is as before
pub no-room : (ticks : ℕ) (xs : List Process) (piece : Piece) → is_no_room (takes ticks xs piece).1.now ≡ true → (takes ticks xs piece).0 ≡ xs
unfolding takes
no-room ticks xs piece is =
    ⊎_elim
    (λ (full : has_no_room piece xs ≡ true). rw full refl)
    (λ (room : has_no_room piece xs ≡ false). let h = has_room ticks (live (key_of piece) xs) piece in let t = rw room at is in cc)
    (cases_Bool (has_no_room piece xs))

-- so after want of memory all is as before
pub as-before : (before after : Reassemblies) (piece : Piece) (taken : Taken) (r : Result (List Output) Memory)
    → (after.processes, taken) ≡ takes before.ticks before.processes piece → after.ticks ≡ before.ticks → OnErr r (is_no_room taken.now ≡ true) → OnErr r (after ≡ before)
as-before before after piece taken (Ok all) e t h = tt
as-before before after piece taken (Err m) e t h =
    let full : is_no_room (takes before.ticks before.processes piece).1.now ≡ true = ap (λ (x : List Process × Taken). is_no_room x.1.now) (sym e) ∙ h in
    let same : after.processes ≡ before.processes = ap (λ (x : List Process × Taken). x.0) e ∙ no-room before.ticks before.processes piece full in
    λ i. record { ticks = t i; processes = same i }

-- the member at a place
there : {X : Type 0} (xs : List X) (at : ℕ) (x : X) → slice_get xs at ≡ Some x → drop at xs ≡ x ∷ drop (suc at) xs
there [] at x e = cc
there (y ∷ ys) zero x e = cc
there (y ∷ ys) (suc n) x e = there ys n x e

pub member-there : {X : Type 0} (xs : List X) (at : ℕ) (x : X) → slice_get xs at ≡ Some x → drop at xs ≡ x ∷ drop (at + 1) xs
member-there xs at x e = rw (add-one at) (there xs at x e)

pub member-within : {X : Type 0} (xs : List X) (at : ℕ) (x : X) → slice_get xs at ≡ Some x → at < length xs
member-within [] at x e = cc
member-within (y ∷ ys) zero x e = omega arith
member-within (y ∷ ys) (suc n) x e = let h = member-within ys n x e in omega arith

pub member-none : {X : Type 0} (xs : List X) (at : ℕ) → slice_get xs at ≡ None → drop at xs ≡ []
member-none [] zero e = refl
member-none [] (suc n) e = refl
member-none (y ∷ ys) zero e = cc
member-none (y ∷ ys) (suc n) e = member-none ys n e

length-filter : {X : Type 0} (p : X → Bool) (xs : List X) → length (filter p xs) ≤ length xs
length-filter p [] = omega arith
length-filter p (x ∷ xs) =
    let h = length-filter p xs in
    ⊎_elim
    (λ (t : p x ≡ true). rw t (omega arith))
    (λ (t : p x ≡ false). rw t (omega arith))
    (cases_Bool (p x))

pub few-ended : (xs : List Process) → IsWithinBounds xs → length (ended_by_tick xs) ≤ MOST_REASSEMBLIES
few-ended xs bounds = let h = length-filter is_due xs in let few = bounds.few in rw length-map (omega arith)

-- one more return, and the last one
pub more-returned : (f : Piece → Output) (before after all : List Output) (xs : List Piece) (at : ℕ) (x : Piece) → slice_get xs at ≡ Some x → after ≡ before ++ f x ∷ [] → before ++ map f (drop at xs) ≡ all
    → after ++ map f (drop (at + 1) xs) ≡ all
more-returned f before after all xs at x e push h =
    ap (λ l. l ++ map f (drop (at + 1) xs)) push ∙ append_assoc before (f x ∷ []) (map f (drop (at + 1) xs)) ∙ ap (λ l. before ++ map f l) (sym (member-there xs at x e)) ∙ h

pub all-returned : (f : Piece → Output) (outs all : List Output) (xs : List Piece) (at : ℕ) → slice_get xs at ≡ None → outs ++ map f (drop at xs) ≡ all → outs ≡ all
all-returned f outs all xs at e h = sym (append-nil outs) ∙ ap (λ l. outs ++ map f l) (sym (member-none xs at e)) ∙ h
