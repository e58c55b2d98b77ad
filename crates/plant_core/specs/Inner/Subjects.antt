-- What single changes are about.
use Rattle.std.specs.Prelude.{◌==◌, ◌&&◌, nat_eq, Bool, true, false}
use lib.Pointwise.{pointwise}
use Rattle.gtt_table.specs.Rows.{is_same_selector, has_row}
use Rattle.plant_core.specs.declared.change.Change.{Change}
use Rattle.plant_core.specs.declared.change.Change.TheVariants.{AddRow, DelRow, BarPoint, FreePoint, BarSub, FreeSub, LocalUp, LocalDown}
use Rattle.plant_core.specs.declared.subject.Subject.{Subject}
use Rattle.plant_core.specs.declared.subject.Subject.TheVariants.{Row, Point, Subsystem, User}
use Rattle.plant_core.specs.Plant.{RoutingData, is_among, is_barred_subsystem}

abbrev pub subject_of : Change → Subject
subject_of (AddRow row) = Row row.selector row.prefix
subject_of (DelRow selector prefix) = Row selector prefix
subject_of (BarPoint point) = Point point
subject_of (FreePoint point) = Point point
subject_of (BarSub point ssn) = Subsystem point ssn
subject_of (FreeSub point ssn) = Subsystem point ssn
subject_of (LocalUp ssn) = User ssn
subject_of (LocalDown ssn) = User ssn

-- it puts its subject into a list, and doesn't take it out
abbrev pub puts : Change → Bool
puts (AddRow row) = true
puts (BarPoint point) = true
puts (BarSub point ssn) = true
puts (LocalDown ssn) = true
puts _ = false

abbrev pub is_same : Subject → Subject → Bool
is_same (Row selector prefix) (Row other digits) = is_same_selector other selector && pointwise nat_eq digits prefix
is_same (Point point) (Point other) = other == point
is_same (Subsystem point ssn) (Subsystem other number) = other == point && number == ssn
is_same (User ssn) (User other) = other == ssn
is_same _ _ = false

abbrev pub is_about : Subject → Change → Bool
is_about subject change = is_same subject (subject_of change)

-- the subject stands in its list
abbrev pub stands : RoutingData → Subject → Bool
stands p (Row selector prefix) = has_row selector prefix p.rows
stands p (Point point) = is_among point p.barred_points
stands p (Subsystem point ssn) = is_barred_subsystem p point ssn
stands p (User ssn) = is_among ssn p.out_of_service
