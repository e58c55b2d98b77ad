-- What comes on a link, and what comes on none.
use Rattle.std.specs.Prelude.{◌≡◌, Bool, true, false, List, [], ◌∷◌}
use Rattle.std.specs.List.{AllByRecursion}
use Rattle.relay_base.specs.declared.words.Event.TheVariants.{Message as Arrived, Asked, Tick}
use Rattle.plant_core.specs.declared.entry.ControlEvent.{ControlEvent}
use Rattle.plant_core.specs.declared.entry.ControlEvent.TheVariants.{Plain, Change as Changed}
use Rattle.capture_form.specs.Events.{Stamped, phase_events}

-- messages and requests come on a link; ticks and changes of the routing data come on none
abbrev pub comes_on_link : ControlEvent → Bool
comes_on_link (Plain (Arrived opc sls bytes)) = true
comes_on_link (Plain (Asked ssn request)) = true
comes_on_link (Plain Tick) = false
comes_on_link (Changed change) = false

-- the first list of a phase, that of link 0, has what comes on no link, and the others have what comes on one
abbrev pub AreOnLinks : List Stamped → Type 0
AreOnLinks [] = Unit {0}
AreOnLinks (first ∷ more) =
    AllByRecursion (λ e. comes_on_link e.1 ≡ false) first × AllByRecursion (λ e. comes_on_link e.1 ≡ true) (phase_events more)

abbrev pub AreLinked : List (List Stamped) → Type 0
AreLinked phases = AllByRecursion AreOnLinks phases
