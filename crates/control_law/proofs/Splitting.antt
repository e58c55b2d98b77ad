-- A journal parts anywhere.
use Rattle.std.proofs.Common.{◌≡◌, ℕ, ◌+◌, List, [], ◌∷◌, ◌++◌, length, Option, Some, None, refl, sym, subst, arith, add-zero}
use Rattle.plant_core.specs.declared.change.Group.{Group}
use Rattle.plant_core.specs.declared.entry.ControlEntry.{ControlEntry}
use Rattle.scmg.specs.declared.head.ControlHead.{ControlHead}
use Rattle.scmg.specs.Control.{Control, managed, count_after, after_entry, changes_from, LegalFrom}
use Rattle.scmg.specs.Inner.Kept.{after_entries}
use Rattle.std.specs.Option.{option_to_list}
use Rattle.control_law.specs.Played.{JournalSplits}

-- the editions after an entry and others
counted : (edition : ℕ) (published : Option Group) (more : List Group)
    → count_after edition published + length more ≡ edition + length (option_to_list published ++ more)
counted edition None more = refl
counted edition (Some group) more = omega arith

abbrev Parted : ControlHead → Control → ℕ → List ControlEntry → List ControlEntry → ℕ → Type 0
Parted head c edition one other editions = LegalFrom head c edition one × LegalFrom head (after_entries head c one) editions other

parted : (head : ControlHead) (c : Control) (edition : ℕ) (one other : List ControlEntry) → LegalFrom head c edition (one ++ other)
    → Parted head c edition one other (edition + length (changes_from head c one))
parted head c edition [] other legal = (tt, subst (λ n. LegalFrom head c n other) (sym (add-zero edition)) legal)
parted head c edition (entry ∷ one) other legal =
    let published = (managed head c entry.event).published in
    let rest = parted head (after_entry head c entry) (count_after edition published) one other legal.1 in (
      (legal.0, rest.0),
      subst (λ n. LegalFrom head (after_entries head (after_entry head c entry) one) n other) (counted edition published (changes_from head (after_entry head c entry) one)) rest.1,
    )

joined : (head : ControlHead) (c : Control) (edition : ℕ) (one other : List ControlEntry)
    → Parted head c edition one other (edition + length (changes_from head c one)) → LegalFrom head c edition (one ++ other)
joined head c edition [] other both = subst (λ n. LegalFrom head c n other) (add-zero edition) both.1
joined head c edition (entry ∷ one) other both =
    let published = (managed head c entry.event).published in (
      both.0.0,
      joined head (after_entry head c entry) (count_after edition published) one other
          (both.0.1, subst (λ n. LegalFrom head (after_entries head (after_entry head c entry) one) n other) (sym (counted edition published (changes_from head (after_entry head c entry) one))) both.1),
    )

pub splits : JournalSplits
splits head c edition one other =
    (λ legal. parted head c edition one other legal, λ both. joined head c edition one other both)
