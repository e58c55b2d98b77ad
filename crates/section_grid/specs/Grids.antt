-- The cells of the tables by the numbers of their states and events.
use Rattle.std.specs.Prelude.{ℕ, List, [], ◌∷◌, ◌≡◌, ◌<◌, slice_index_or}
use Rattle.section_grid.specs.declared.grid.Grid.{Grid}
use Rattle.section_model.specs.declared.cell.Cell.{Cell}
use Rattle.section_model.specs.Views.{state_numbered}
use Rattle.section_model.specs.declared.cell.Cell.TheVariants.{Nothing}
use Rattle.section_model.specs.declared.cell.UserState.{UserState}
use Rattle.section_model.specs.declared.cell.UserState.TheVariants as end
use Rattle.section_model.specs.declared.cell.Occasion.{Occasion}
use Rattle.section_model.specs.declared.cell.Occasion.TheVariants as on
use Rattle.section_model.specs.declared.cell.UserOccasion.{UserOccasion}
use Rattle.section_model.specs.declared.cell.UserOccasion.TheVariants as by
use Rattle.section_model.specs.Table.{section_cell, user_cell}

-- The events of the tables by their numbers from 0, in the order in which the tables name them, and the states of a user's end.
abbrev pub occasions : List Occasion
occasions =
    on.Cc ∷ on.Cref ∷ on.Rlsd ∷ on.Rlc ∷ on.Dt1 ∷ on.Dt2 ∷ on.Ak ∷ on.Ed ∷ on.Ea ∷ on.Rsr ∷ on.Rsc ∷ on.Err ∷ on.It
    ∷ on.ConnectFires ∷ on.ResetFires ∷ on.IarFires ∷ on.IasFires ∷ on.RelFires ∷ on.IntFires ∷ on.RepeatFires
    ∷ on.AcceptComes ∷ on.RefuseComes ∷ on.EndComes ∷ on.UnitComes ∷ on.ExpeditedComes ∷ on.ResetComes ∷ on.DoneComes ∷ []

abbrev pub user_states : List UserState
user_states = end.Offered ∷ end.Calling ∷ end.Ready ∷ end.Renewing ∷ end.Gone ∷ []

abbrev pub user_state_numbered : ℕ → UserState
user_state_numbered n = slice_index_or user_states n end.Gone

abbrev pub user_occasions : List UserOccasion
user_occasions =
    by.Accepts ∷ by.Refuses ∷ by.Sends ∷ by.Expedites ∷ by.Resets ∷ by.Disconnects
    ∷ by.AcceptTold ∷ by.RefuseTold ∷ by.EndTold ∷ by.UnitTold ∷ by.ExpeditedTold ∷ by.ResetTold ∷ by.DoneTold ∷ []

-- a grid's cell by the numbers of its state and its event
abbrev pub cell_at : {S E : ℕ} → Grid S E → ℕ → ℕ → Cell
cell_at grid state event = slice_index_or (slice_index_or grid.rows event []) state Nothing

-- each cell is that of the table of a section
abbrev pub IsSectionGrid : Grid 7 27 → Type 0
IsSectionGrid grid =
    (state event : ℕ) → state < 7 → event < 27
    → cell_at grid state event ≡ section_cell (state_numbered state) (slice_index_or occasions event on.DoneComes)

-- each cell is that of the table of a user's end
abbrev pub IsUserGrid : Grid 5 13 → Type 0
IsUserGrid grid =
    (state event : ℕ) → state < 5 → event < 13
    → cell_at grid state event ≡ user_cell (user_state_numbered state) (slice_index_or user_occasions event by.DoneTold)
