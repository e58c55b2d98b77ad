-- Which events the journal of a lane has, and in which order.
use Rattle.std.specs.Prelude.{◌≡◌, ℕ, zero, suc, List, [], map, filter, slice_index_or}
use Rattle.std.specs.List.Sorted.{IsNonDecreasingBy}
use Rattle.plant_core.specs.declared.entry.Entry.{Entry}
use Rattle.plant_core.specs.declared.entry.ControlEntry.{ControlEntry}
use Rattle.plant_core.specs.declared.entry.ControlEvent.TheVariants.{Plain}
use Rattle.capture_form.specs.Events.{Stamped, is_at}

-- the pairs of stamp and event of a journal, and of the control lane's
abbrev pub pairs_of : List Entry → Stamped
pairs_of journal = map (λ e. (e.stamp, Plain e.event)) journal

abbrev pub control_pairs_of : List ControlEntry → Stamped
control_pairs_of journal = map (λ e. (e.stamp, e.event)) journal

-- the events of a phase, counted from 1, and of a link, from 0
abbrev pub events_at : List (List Stamped) → ℕ → ℕ → Stamped
events_at phases zero link = []
events_at phases (suc n) link = slice_index_or (slice_index_or phases n []) link []

-- the phases never fall; each link's events of each phase stand once and in order; and nothing else stands
pub record HasEventsInOrder (journal : Stamped) (phases : List (List Stamped)) : Type 0 where
  pub phases_rise : IsNonDecreasingBy (λ e. e.0.phase) journal
  pub in_order : (phase link : ℕ) → filter (is_at phase link) journal ≡ events_at phases phase link
