-- What comes to a connection: a message from a point, with what it is to a section, or a request of a subsystem.
use Rattle.std.specs.Prelude.{◌≡◌, ℕ, List, Option, Some, None, IsTrue}
use Rattle.relay_base.specs.declared.words.Event.{Event}
use Rattle.relay_base.specs.declared.words.Event.TheVariants.{Message, Asked, Tick}
use Rattle.relay_base.specs.declared.words.Output.{Output}
use Rattle.section_model.specs.declared.hand.Acted.{Acted}
use Rattle.section_model.specs.Ends.{Section, End, Connection}
use Rattle.section_model.specs.Parameters.{Arrival, arrival_in}
use Rattle.section_model.specs.Step.{is_in_range, checked, hears_checked, hears_message}
use Rattle.section_model.specs.Views.{seen_parameters, seen_arrival}
use Rattle.section_coupling.specs.declared.clock.Clock.{Clock}
use Rattle.section_coupling.specs.declared.coming.Coming.{Coming}
use Rattle.section_coupling.specs.declared.coming.Wanting.{Wanting}

pub record Arrived : Type 0 where
  pub point : ℕ
  pub arrival : Option Arrival

abbrev pub arrived_in : Event → Arrived
arrived_in (Message point sls bytes) = record { point = point; arrival = arrival_in bytes }
arrived_in (Asked ssn r) = record { point = 0; arrival = None }
arrived_in Tick = record { point = 0; arrival = None }

-- the event is this message
abbrev pub IsArrival : Coming → Type 0
IsArrival c = arrived_in c.event.now ≡ record { point = c.point; arrival = Some (seen_arrival c.arrival) }

-- the event is this request
abbrev pub IsRequest : Wanting → Type 0
IsRequest w = w.event.now ≡ Asked w.ssn w.request.now

abbrev pub IsInRange : Wanting → Type 0
IsInRange w = IsTrue (is_in_range w.request.now)

-- A message on a section, by the clock: by a check or by the table's cell, and on a section whose point may be another.

abbrev pub hears_coming : Clock → Coming → Section → End × Acted
hears_coming clock c x =
    let parameters = seen_parameters c.arrival.parameters in
    let o = c.arrival.occasion in
    hears_checked clock.ticks o c.point parameters x (checked o parameters x.head)

abbrev pub hears_on : Clock → Coming → Section → End → Connection × List Output
hears_on clock c x that = hears_message clock.ticks c.arrival.occasion c.point (seen_parameters c.arrival.parameters) x that
