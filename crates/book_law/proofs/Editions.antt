-- In a phase that publishes nothing a routing names the one edition of the phase.
use Rattle.std.proofs.Common.{◌≡◌, ℕ, ◌&&◌, nat_lt, nat_le, Bool, true, false, cond, List, [], ◌∷◌, Option, Some, None, refl, ap, ◌∙◌, arith}
use Rattle.std.specs.Prelude.{is_some, ◌≢◌}
use Rattle.std.specs.List.{AllByRecursion}
use Rattle.std.proofs.lemmas.Bool.Decides.{nat_tests}
use Rattle.plant_core.specs.Asking.{Question, answer_to, asked_at}
use Rattle.plant_core.specs.declared.answer.Answer.{Answer}
use Rattle.plant_core.specs.declared.entry.Asked.{Asked}
use Rattle.plant_core.specs.declared.entry.ControlEntry.{ControlEntry}
use Rattle.node_head.specs.declared.head.Head.{Head}
use Rattle.right_book.specs.Editions.{edition_of, editions_before, editions_upto, IsRouting}
use Rattle.right_book.proofs.ListLemmas.{count-first}
use Rattle.book_law.proofs.Booleans.{absurd_bool}

abbrev routing_record : ℕ → Answer → Asked
routing_record edition answer = record { edition = edition; answer = answer }

-- the routing of the edition before a phase
abbrev pub asked_before : Head → List ControlEntry → ℕ → Option Question → Option Asked
asked_before head control phase asks = asked_at (editions_before phase control) (edition_of head control (editions_before phase control)) asks

-- where as many editions were published up to a phase as before it, a routing is the one of that edition
pub one_routing : (head : Head) (control : List ControlEntry) (phase : ℕ) (asks : Option Question) (asked : Option Asked)
    → editions_upto phase control ≡ editions_before phase control → IsRouting head control phase asks asked → asked ≡ asked_before head control phase asks
one_routing head control phase None None same h = refl
one_routing head control phase None (Some a) same h = absurd h
one_routing head control phase (Some q) None same h = absurd h
one_routing head control phase (Some q) (Some a) same h =
    let edition : a.edition ≡ editions_before phase control = omega (arith, same, h.least, h.most) in
    ap (λ x. Some (routing_record a.edition x)) h.answer
    ∙ ap (λ n. Some (routing_record n (answer_to (edition_of head control n) q))) edition

-- nothing is asked, and nothing is there
pub no_routing : (head : Head) (control : List ControlEntry) (phase : ℕ) (asked : Option Asked) → IsRouting head control phase None asked → asked ≡ None
no_routing head control phase None h = refl
no_routing head control phase (Some a) h = absurd h

-- a phase in which no entry publishes
abbrev pub IsCalm : ℕ → List ControlEntry → Type 0
IsCalm phase control = AllByRecursion (λ e. e.stamp.phase ≡ phase → is_some e.published ≡ false) control

counted : (t : Bool) (m n : ℕ) → (m ≡ n → t ≡ false) → cond {A = ℕ} (t && nat_le m n) 1 0 ≡ cond {A = ℕ} (t && nat_lt m n) 1 0
counted false m n h = refl
counted true m n h = ap (λ b. cond b 1 0) (same_test m n (λ e. absurd_bool (h e)))
  where
    same_test : (m n : ℕ) → m ≢ n → nat_le m n ≡ nat_lt m n
    same_test m n h = grind (arith, nat_tests, h)

pub one_edition : (phase : ℕ) (control : List ControlEntry) → IsCalm phase control → editions_upto phase control ≡ editions_before phase control
one_edition phase [] h = refl
one_edition phase (e ∷ es) h =
    omega (arith, count-first (λ x. is_some x.published && nat_lt x.stamp.phase phase) e es, count-first (λ x. is_some x.published && nat_le x.stamp.phase phase) e es, counted (is_some e.published) e.stamp.phase phase h.0, one_edition phase es h.1)
