-- What changes do to the routing data: edits of the translation (Q.714, 2.4), the status of points (Q.714, 5.2), that of subsystems of
-- other points (Q.714, 5.3.2 and 5.3.3), and users that go in and out of service (Q.714, 5.3).
use Rattle.std.specs.Prelude.{ℕ, ◌≤◌, ◌==◌, ◌&&◌, ◌||◌, nat_lt, not, Bool, true, false, List, [], ◌∷◌, ◌++◌, filter, count_by, IsTrue, if◌then◌else◌, Option, Some, None}
use Rattle.gtt_table.specs.Adding.{add_refusal}
use Rattle.gtt_table.specs.Rows.{has_row, without}
use Rattle.gtt_table.specs.declared.table.AddFault.{AddFault}
use Rattle.gtt_table.specs.declared.table.AddFault.TheVariants as fault
use Rattle.plant_core.specs.declared.change.Change.{Change}
use Rattle.plant_core.specs.declared.change.Change.TheVariants.{AddRow, DelRow, BarPoint, FreePoint, BarSub, FreeSub, LocalUp, LocalDown}
use Rattle.plant_core.specs.declared.change.Group.{Group}
use Rattle.plant_core.specs.declared.change.Verdict.{Verdict}
use Rattle.plant_core.specs.declared.change.Verdict.TheVariants.{Alters, Same, Duplicate, RowsFull, NoRow}
use Rattle.plant_core.specs.declared.statuses.RemoteSubsystem.{RemoteSubsystem}
use Rattle.plant_core.specs.Plant.{RoutingData, PlantState, is_among, is_same_subsystem, is_barred_subsystem, is_in_service}

abbrev pub alters_if : Bool → Verdict
alters_if b = if b then Alters else Same

-- a row that isn't refused alters
abbrev pub verdict_by : Option AddFault → Verdict
verdict_by None = Alters
verdict_by (Some fault.Duplicate) = Duplicate
verdict_by (Some _) = RowsFull

-- what a single change would do
unfoldable pub verdict_on : RoutingData → Change → Verdict
verdict_on p (AddRow row) = verdict_by (add_refusal p.rows row)
verdict_on p (DelRow selector prefix) = if has_row selector prefix p.rows then Alters else NoRow
verdict_on p (BarPoint point) = alters_if (not (is_among point p.barred_points))
verdict_on p (FreePoint point) = alters_if (is_among point p.barred_points)
verdict_on p (BarSub point ssn) = alters_if (not (is_barred_subsystem p point ssn))
verdict_on p (FreeSub point ssn) = alters_if (is_barred_subsystem p point ssn)
verdict_on p (LocalUp ssn) = alters_if (is_among ssn p.users && is_among ssn p.out_of_service)
verdict_on p (LocalDown ssn) = alters_if (is_in_service p ssn)

-- the numbers but for this one
abbrev pub but_for : ℕ → List ℕ → List ℕ
but_for n list = filter (λ x. not (x == n)) list

-- the numbers with this one, by rising number
abbrev pub with_number : ℕ → List ℕ → List ℕ
with_number n list = filter (λ x. nat_lt x n) list ++ n ∷ filter (nat_lt n) list

-- the subsystems with this one, by rising point and subsystem
abbrev pub is_before : RemoteSubsystem → RemoteSubsystem → Bool
is_before x other = nat_lt x.point other.point || (x.point == other.point && nat_lt x.ssn other.ssn)

abbrev pub with_subsystem : RemoteSubsystem → List RemoteSubsystem → List RemoteSubsystem
with_subsystem x list = filter (λ other. is_before other x) list ++ x ∷ filter (is_before x) list

-- a single change that alters adds to one list or takes from it
unfoldable pub changed : RoutingData → Change → RoutingData
changed p (AddRow row) = record p { rows = p.rows ++ row ∷ [] }
changed p (DelRow selector prefix) = record p { rows = without selector prefix p.rows }
changed p (BarPoint point) = record p { barred_points = with_number point p.barred_points }
changed p (FreePoint point) = record p { barred_points = but_for point p.barred_points }
changed p (BarSub point ssn) = record p { barred_subsystems = with_subsystem (record { point = point; ssn = ssn }) p.barred_subsystems }
changed p (FreeSub point ssn) = record p { barred_subsystems = filter (λ x. not (is_same_subsystem point ssn x)) p.barred_subsystems }
changed p (LocalUp ssn) = record p { out_of_service = but_for ssn p.out_of_service }
changed p (LocalDown ssn) = record p { out_of_service = with_number ssn p.out_of_service }

abbrev pub is_alters : Verdict → Bool
is_alters Alters = true
is_alters Same = false
is_alters Duplicate = false
is_alters RowsFull = false
is_alters NoRow = false

-- all single changes, in order
abbrev pub changed_all : RoutingData → List Change → RoutingData
changed_all p [] = p
changed_all p (change ∷ more) = changed_all (changed p change) more

-- A group of single changes is made whole or not at all: by the verdict on the first one that doesn't alter what those before it left.

abbrev pub first_verdict : RoutingData → List Change → Verdict
first_verdict p [] = Alters
first_verdict p (change ∷ more) =
    elim (is_alters (verdict_on p change)) [ true ↦ first_verdict (changed p change) more | false ↦ verdict_on p change ]

abbrev pub verdict_on_all : RoutingData → List Change → Verdict
verdict_on_all p [] = Same
verdict_on_all p (change ∷ more) = first_verdict p (change ∷ more)

-- what a group would do; an empty one nothing
unfoldable pub group_verdict : RoutingData → Group → Verdict
group_verdict p group = verdict_on_all p group.changes

-- a group that doesn't alter leaves the lists as they are
unfoldable pub plant_after : RoutingData → Group → RoutingData
plant_after p group = if is_alters (group_verdict p group) then changed_all p group.changes else p

-- the routing data after groups, in order
abbrev pub plant_after_all : RoutingData → List Group → RoutingData
plant_after_all p [] = p
plant_after_all p (group ∷ groups) = plant_after_all (plant_after p group) groups

-- the group of one change
abbrev pub alone : Change → Group
alone change = record { changes = change ∷ [] }

-- Without memory a plant takes as many rows and subsystems of other points as it has room for.

abbrev pub adds_row : Change → Bool
adds_row (AddRow row) = true
adds_row _ = false

abbrev pub bars_subsystem : Change → Bool
bars_subsystem (BarSub point ssn) = true
bars_subsystem _ = false

pub record HasRoomFor (changes : List Change) (p : PlantState) : Type 0 where
  pub rows : count_by adds_row changes ≤ p.row_room
  pub subsystems : count_by bars_subsystem changes ≤ p.subsystem_room
  pub statuses : IsTrue p.has_room
