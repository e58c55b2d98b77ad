-- How editions are counted while a control journal grows.
use Rattle.std.proofs.Common.{◌≡◌, ℕ, ◌≤◌, ◌&&◌, nat_lt, nat_le, Bool, true, false, cond, List, [], ◌∷◌, ◌++◌, length, take, Option, Some, None, refl, sym, ap, ◌∙◌, arith}
use Rattle.std.specs.Prelude.{count_by, is_some}
use Rattle.std.specs.List.{AllByRecursion}
use Rattle.std.proofs.lemmas.Bool.Decides.{nat_tests}
use Rattle.std.proofs.lemmas.List.{take-append-le}
use Rattle.std.proofs.lemmas.List.Sums.{sum_by-append}
use Rattle.plant_core.specs.Asking.{Question, answer_to}
use Rattle.plant_core.specs.declared.change.Group.{Group}
use Rattle.plant_core.specs.declared.entry.Asked.{Asked}
use Rattle.plant_core.specs.declared.entry.ControlEntry.{ControlEntry}
use Rattle.node_head.specs.declared.head.Head.{Head}
use Rattle.scmg.specs.Control.{routing_after}
use Rattle.right_book.specs.Heads.{routing_of}
use Rattle.right_book.specs.Editions.{changes_of, edition_of, editions_before, editions_upto, IsAnswer, IsRouting, named}
use Rattle.node_engine.specs.Running.{IsCounted}
use Rattle.right_book.proofs.ListLemmas.{count-first}

-- no more entries published before a phase, and up to it, than published at all
both-true : (p t : Bool) → cond {A = ℕ} (p && t) 1 0 ≤ cond p 1 0
both-true true true = omega arith
both-true true false = omega arith
both-true false t = omega arith

pub before-all : (phase : ℕ) (control : List ControlEntry) → editions_before phase control ≤ count_by (λ e. is_some e.published) control
before-all phase [] = omega arith
before-all phase (e ∷ es) = omega (arith, count-first (λ x. is_some x.published) e es, count-first (λ x. is_some x.published && nat_lt x.stamp.phase phase) e es, both-true (is_some e.published) (nat_lt e.stamp.phase phase), before-all phase es)

upto-all : (phase : ℕ) (control : List ControlEntry) → editions_upto phase control ≤ count_by (λ e. is_some e.published) control
upto-all phase [] = omega arith
upto-all phase (e ∷ es) = omega (arith, count-first (λ x. is_some x.published) e es, count-first (λ x. is_some x.published && nat_le x.stamp.phase phase) e es, both-true (is_some e.published) (nat_le e.stamp.phase phase), upto-all phase es)

-- where no entry is of a later phase, all that published did so up to this one
le-test : (m n : ℕ) → m ≤ n → nat_le m n ≡ true
le-test m n h = grind (arith, nat_tests)

lt-test : (m n : ℕ) → n ≤ m → nat_lt m n ≡ false
lt-test m n h = grind (arith, nat_tests)

and-true : (p t : Bool) → t ≡ true → cond {A = ℕ} (p && t) 1 0 ≡ cond p 1 0
and-true true t h = ap (λ b. cond b 1 0) h
and-true false t h = refl

and-false : (p t : Bool) → t ≡ false → cond {A = ℕ} (p && t) 1 0 ≡ 0
and-false true t h = ap (λ b. cond b 1 0) h
and-false false t h = refl

pub upto-whole : (phase : ℕ) (control : List ControlEntry) → AllByRecursion (λ e. e.stamp.phase ≤ phase) control → editions_upto phase control ≡ count_by (λ e. is_some e.published) control
upto-whole phase [] h = refl
upto-whole phase (e ∷ es) h =
    omega (arith, count-first (λ x. is_some x.published) e es, count-first (λ x. is_some x.published && nat_le x.stamp.phase phase) e es, and-true (is_some e.published) (nat_le e.stamp.phase phase) (le-test e.stamp.phase phase h.0), upto-whole phase es h.1)

-- entries of a phase publish nothing before it
none-before : (phase earlier : ℕ) (control : List ControlEntry) → earlier ≤ phase → AllByRecursion (λ e. e.stamp.phase ≡ phase) control → editions_before earlier control ≡ 0
none-before phase earlier [] le h = refl
none-before phase earlier (e ∷ es) le h =
    omega (arith, count-first (λ x. is_some x.published && nat_lt x.stamp.phase earlier) e es, and-false (is_some e.published) (nat_lt e.stamp.phase earlier) (lt-test e.stamp.phase earlier (omega (arith, le, h.0))), none-before phase earlier es le h.1)

pub before-more : (phase earlier : ℕ) (control more : List ControlEntry) → earlier ≤ phase → AllByRecursion (λ e. e.stamp.phase ≡ phase) more → editions_before earlier (control ++ more) ≡ editions_before earlier control
before-more phase earlier control more le h =
    omega (arith, sum_by-append (λ e. cond (is_some e.published && nat_lt e.stamp.phase earlier) 1 0) control more, none-before phase earlier more le h)

upto-more : (phase : ℕ) (control more : List ControlEntry) → editions_upto phase control ≤ editions_upto phase (control ++ more)
upto-more phase control more = omega (arith, sum_by-append (λ e. cond (is_some e.published && nat_le e.stamp.phase phase) 1 0) control more)

-- ---- one routing

-- the control journal grew in this phase, or did not
pub record Grows (head : Head) (phase : ℕ) (old new : List ControlEntry) : Type 0 where
  pub more : List ControlEntry
  pub journal : new ≡ old ++ more
  pub of_phase : AllByRecursion (λ e. e.stamp.phase ≡ phase) more
  pub published : List Group
  pub changes : changes_of head new ≡ changes_of head old ++ published

-- an edition that was there is the same later on
edition-kept : (head : Head) (old new : List ControlEntry) (published : List Group) (n : ℕ) → changes_of head new ≡ changes_of head old ++ published → n ≤ length (changes_of head old) → edition_of head new n ≡ edition_of head old n
edition-kept head old new published n grown le =
    ap (λ l. routing_after (routing_of head) (take n l)) grown ∙ ap (routing_after (routing_of head)) (take-append-le n (changes_of head old) published le)

answer-kept : (head : Head) (phase at : ℕ) (old new : List ControlEntry) (asks : Question) (asked : Asked) → at ≤ phase → IsCounted head old → Grows head phase old new → IsAnswer head old at asks asked → IsAnswer head new at asks asked
answer-kept head phase at old new asks asked le counted g h =
    let least : editions_before at new ≡ editions_before at old = ap (editions_before at) g.journal ∙ before-more phase at old g.more le g.of_phase in
    let most : editions_upto at old ≤ editions_upto at (old ++ g.more) = upto-more at old g.more in
    let grown : editions_upto at new ≡ editions_upto at (old ++ g.more) = ap (editions_upto at) g.journal in
    let known : asked.edition ≤ length (changes_of head old) = omega (arith, h.most, upto-all at old, counted) in
    record {
      least = omega (arith, least, h.least);
      most = omega (arith, most, grown, h.most);
      answer = h.answer ∙ ap (λ r. answer_to r asks) (sym (edition-kept head old new g.published asked.edition g.changes known));
    }

pub routing-kept : (head : Head) (phase at : ℕ) (old new : List ControlEntry) (asks : Option Question) (asked : Option Asked) → at ≤ phase → IsCounted head old → Grows head phase old new → IsRouting head old at asks asked → IsRouting head new at asks asked
routing-kept head phase at old new None None le counted g h = tt
routing-kept head phase at old new None (Some a) le counted g h = h
routing-kept head phase at old new (Some q) None le counted g h = h
routing-kept head phase at old new (Some q) (Some a) le counted g h = answer-kept head phase at old new q a le counted g h

-- the editions that a routing names were published
pub routing-known : (head : Head) (at : ℕ) (control : List ControlEntry) (asks : Option Question) (asked : Option Asked) → IsCounted head control → IsRouting head control at asks asked
    → AllByRecursion (λ n. n ≤ length (changes_of head control)) (named asked)
routing-known head at control asks None counted h = tt
routing-known head at control None (Some a) counted h = absurd h
routing-known head at control (Some q) (Some a) counted h = (omega (arith, h.most, upto-all at control, counted), tt)
