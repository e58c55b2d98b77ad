-- A legal control journal has as many entries that published as groups of changes.
use Rattle.std.proofs.Common.{◌≡◌, ℕ, ◌+◌, cond, List, [], ◌∷◌, length, Option, Some, None, refl, sym, ap, ◌∙◌, length-append}
use Rattle.std.specs.Prelude.{count_by, is_some, option_to_list}
use Rattle.plant_core.specs.declared.change.Group.{Group}
use Rattle.plant_core.specs.declared.entry.ControlEntry.{ControlEntry}
use Rattle.node_head.specs.declared.head.Head.{Head}
use Rattle.scmg.specs.declared.head.ControlHead.{ControlHead}
use Rattle.scmg.specs.Control.{Control, IsControlJournal, LegalFrom, changes_from, managed, after_entry, count_after, edition_after, start_of_control}
use Rattle.right_book.specs.Heads.{routing_of, control_head_of}
use Rattle.node_engine.specs.Running.{IsCounted}
use Rattle.right_book.proofs.ListLemmas.{count-first}

published-one : (n : ℕ) (published : Option ℕ) (group : Option Group) → published ≡ edition_after n group → cond {A = ℕ} (is_some published) 1 0 ≡ length (option_to_list group)
published-one n published None h = ap (λ p. cond (is_some p) 1 0) h
published-one n published (Some group) h = ap (λ p. cond (is_some p) 1 0) h

counted-from : (head : ControlHead) (c : Control) (n : ℕ) (journal : List ControlEntry) → LegalFrom head c n journal → count_by (λ e. is_some e.published) journal ≡ length (changes_from head c journal)
counted-from head c n [] h = refl
counted-from head c n (e ∷ es) h =
    let group : Option Group = (managed head c e.event).published in
    let next : Control = after_entry head c e in
    count-first (λ x. is_some x.published) e es ∙ ap (λ m. m + count_by (λ x. is_some x.published) es) (published-one n e.published group h.0.published) ∙ ap (λ m. length (option_to_list group) + m) (counted-from head next (count_after n group) es h.1)
    ∙ sym (length-append (option_to_list group) (changes_from head next es))

pub counted-legal : (head : Head) (journal : List ControlEntry) → IsControlJournal (control_head_of head) (routing_of head) journal → IsCounted head journal
counted-legal head journal h = counted-from (control_head_of head) (start_of_control (routing_of head)) 0 journal h
