-- The process of a key hears the segments of its key and the ticks alone.
use Rattle.std.proofs.Common.{◌≡◌, ℕ, true, false, List, refl, sym, ap, ◌∙◌, ⊎_elim}
use Rattle.std.proofs.lemmas.Bool.{cases_Bool}
use Rattle.reassembly.specs.Segments.{Key, key_of, same_key}
use Rattle.reassembly.specs.Reassembly.{is_of, live, others, has_no_room, reassembly_after, takes}
use Rattle.reassembly.specs.Laws.{HearsItsKeyAlone}
use Rattle.reassembly.specs.declared.piece.Piece.{Piece}
use Rattle.reassembly.specs.declared.process.Process.{Process}
use Rattle.reassembly.proofs.Changes.{changes}
use Rattle.reassembly.proofs.Hearing.{find_without, find_past, find_push, find_push_other, find_changed, find_changed_other, find_after_tick}
use Rattle.reassembly.proofs.Keys.{key_same, key_own, of_other}

is_own : (piece : Piece) (x : Process) → key_of piece ≡ key_of x.first → is_of (key_of piece) x ≡ true
is_own piece x same = ap (λ k. same_key (key_of piece) k) (sym same) ∙ key_own (key_of piece)

own : (ticks : ℕ) (xs : List Process) (piece : Piece) → has_no_room piece xs ≡ false → live (key_of piece) (takes ticks xs piece).0 ≡ (reassembly_after ticks (live (key_of piece) xs) piece).process
own ticks xs piece room =
    let p = is_of (key_of piece) in
    changes (λ o ys. live (key_of piece) ys ≡ o) xs piece ticks
    (find_without p xs)
    (λ x same few. find_push p (others (key_of piece) xs) x (find_without p xs) (is_own piece x same))
    (λ x x0 passes is. find_changed p x x0 passes xs is)
    room

other : (ticks : ℕ) (xs : List Process) (piece : Piece) (key : Key) → has_no_room piece xs ≡ false → same_key key (key_of piece) ≡ false → live key (takes ticks xs piece).0 ≡ live key xs
other ticks xs piece key room differs =
    let p = is_of (key_of piece) in
    let q = is_of key in
    let apart : (y : Process) → p y ≡ true → q y ≡ false = λ y there. of_other key (key_of piece) y differs there in
    changes (λ o ys. live key ys ≡ live key xs) xs piece ticks
    (find_past p q apart xs)
    (λ x same few. find_push_other q (others (key_of piece) xs) x (apart x (is_own piece x same)) ∙ find_past p q apart xs)
    (λ x x0 passes is. find_changed_other p q x apart (apart x passes) xs)
    room

pub alone : HearsItsKeyAlone
unfolding takes
alone = record {
  of_segment = λ ticks xs piece key room.
      ⊎_elim
      (λ (e : same_key key (key_of piece) ≡ true). rw e (rw (key_same key (key_of piece) e) (own ticks xs piece room)))
      (λ (e : same_key key (key_of piece) ≡ false). rw e (other ticks xs piece key room e))
      (cases_Bool (same_key key (key_of piece)));
  answer = λ ticks xs piece room. rw room refl;
  without_room = λ ticks xs piece full. rw full refl;
  of_tick = λ xs key one. find_after_tick (is_of key) (λ x. refl) xs (one key);
}
