-- Queues: what waits is what was sent, less what was given.
use Rattle.std.proofs.Common.{◌≡◌, ℕ, zero, suc, ◌≤◌, ◌+◌, true, List, [], ◌∷◌, ◌++◌, length, refl, sym, subst, ap, ◌∙◌, arith, length-append}
use Rattle.std.specs.Prelude.{is_some, drop, slice_get}
use Rattle.std.proofs.lemmas.List.{drop-append-le}
use Rattle.relay_base.specs.declared.words.Event.{Event}
use Rattle.chain_node.specs.Inner.Queues.{QueueState}
use Rattle.chain_node.specs.Inner.Kept.{Waits}

-- the first that waits
first_dropped : {A : Type 0} (count : ℕ) (xs : List A) → slice_get (drop count xs) 0 ≡ slice_get xs count
first_dropped zero xs = refl
first_dropped (suc count) [] = refl
first_dropped (suc count) (x ∷ xs) = first_dropped count xs

pub first_waits : (q : QueueState) (messages : List Event) → Waits q messages → slice_get q.waiting 0 ≡ slice_get messages q.given
first_waits q messages w = ap (λ xs. slice_get xs 0) w.waiting ∙ first_dropped q.given messages

-- it is given
drop_suc : {A : Type 0} (count : ℕ) (xs : List A) → drop 1 (drop count xs) ≡ drop (suc count) xs
drop_suc zero xs = refl
drop_suc (suc count) [] = refl
drop_suc (suc count) (x ∷ xs) = drop_suc count xs

next_count : (count : ℕ) → suc count ≡ count + 1
next_count count = omega arith

drop_one : {A : Type 0} (count : ℕ) (xs : List A) → drop 1 (drop count xs) ≡ drop (count + 1) xs
drop_one count xs = drop_suc count xs ∙ ap (λ n. drop n xs) (next_count count)

within_some : {A : Type 0} (xs : List A) (count : ℕ) → is_some (slice_get xs count) ≡ true → count + 1 ≤ length xs
within_some [] count e = absurd (cc)
within_some (x ∷ xs) zero e = omega arith
within_some (x ∷ xs) (suc count) e = omega (arith, within_some xs count e)

pub given_waits : (q later : QueueState) (messages : List Event) → Waits q messages → is_some (slice_get messages q.given) ≡ true → later.waiting ≡ drop 1 q.waiting → later.given ≡ q.given + 1 → Waits later messages
given_waits q later messages w some waiting given = record {
  waiting = waiting ∙ (ap (drop 1) w.waiting ∙ (drop_one q.given messages ∙ sym (ap (λ n. drop n messages) given)));
  given = subst (λ n. n ≤ length messages) (sym given) (within_some messages q.given some);
}

-- more are put
pub put_waits : (q later : QueueState) (messages more : List Event) → Waits q messages → later.waiting ≡ q.waiting ++ more → later.given ≡ q.given → Waits later (messages ++ more)
put_waits q later messages more w waiting given = record {
  waiting = waiting ∙ (ap (λ xs. xs ++ more) w.waiting ∙ (sym (drop-append-le q.given messages more w.given) ∙ sym (ap (λ n. drop n (messages ++ more)) given)));
  given = omega (arith, given, w.given, length-append messages more);
}
