-- A lane takes an event.
use Rattle.std.proofs.Common.{ℕ, ◌≤◌, List, [], ◌∷◌, length, Option}
use Rattle.std.specs.List.{AllByRecursion}
use Rattle.relay_base.specs.declared.words.Event.{Event}
use Rattle.plant_core.specs.Asking.{Question}
use Rattle.plant_core.specs.declared.entry.Entry.{Entry}
use Rattle.plant_core.specs.declared.entry.ControlEntry.{ControlEntry}
use Rattle.node_head.specs.declared.head.Head.{Head}
use Rattle.right_book.specs.Editions.{changes_of, editions_in, named}
use Rattle.right_book.specs.Lanes.{IsRouted}
use Rattle.node_engine.specs.Running.{IsRightSoFar, IsCounted}
use Rattle.right_book.proofs.ListLemmas.{weaker-two, all-append}
use Rattle.node_engine.proofs.EditionLemmas.{Grows, routing-kept, routing-known}

-- ---- the control journal grew

pub stands-kept : (question : Event → Option Question) (head : Head) (phase : ℕ) (before after : List ControlEntry) (journal : List Entry) → IsCounted head before → Grows head phase before after
    → IsRightSoFar question head phase before journal → IsRightSoFar question head phase after journal
stands-kept question head phase before after journal counted g h = record {
  within = h.within;
  routed = weaker-two (λ e. e.stamp.phase ≤ phase) (IsRouted question head before) (IsRouted question head after) journal
      (λ e le r. routing-kept head phase e.stamp.phase before after (question e.event) e.asked le counted g r) h.within h.routed;
  rising = h.rising;
}

-- ---- the editions that are named

pub known-editions : (question : Event → Option Question) (head : Head) (control : List ControlEntry) (journal : List Entry) → IsCounted head control → AllByRecursion (IsRouted question head control) journal
    → AllByRecursion (λ n. n ≤ length (changes_of head control)) (editions_in journal)
known-editions question head control [] counted h = tt
known-editions question head control (e ∷ es) counted h =
    all-append (λ n. n ≤ length (changes_of head control)) (named e.asked) (editions_in es)
    (routing-known head e.stamp.phase control (question e.event) e.asked counted h.0) (known-editions question head control es counted h.1)
