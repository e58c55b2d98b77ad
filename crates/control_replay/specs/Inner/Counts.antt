-- How many editions a control journal published in a phase.
use Rattle.std.specs.Prelude.{ℕ, ◌+◌, ◌==◌, ◌&&◌, Bool, List, is_some, cond, count_by}
use Rattle.plant_core.specs.declared.entry.ControlEntry.{ControlEntry}

-- an entry published one in a phase
abbrev pub published_in : ℕ → ControlEntry → Bool
published_in phase e = is_some e.published && e.stamp.phase == phase

abbrev pub editions_in : ℕ → List ControlEntry → ℕ
editions_in phase control = count_by (published_in phase) control

-- with an entry more
abbrev pub count_more : ℕ → ℕ → ControlEntry → ℕ
count_more count phase e = count + cond (published_in phase e) 1 0
