-- The messages of a type among the outputs of a step.
use Rattle.std.specs.Prelude.{ℕ, ◌==◌, Bool, false, List, [], ◌∷◌, filter}
use Rattle.relay_base.specs.declared.words.Event.{Event}
use Rattle.relay_base.specs.declared.words.Output.{Output}
use Rattle.relay_base.specs.declared.words.Output.TheVariants.{Sent}
use Rattle.plant_core.specs.declared.terms.Ticks.{Ticks}
use Rattle.section_model.specs.Ends.{Connection}
use Rattle.section_model.specs.Step.{event_step, connection_step}

-- the first octet of a message is its type (Q.713, 2.1)
abbrev pub begins_with : ℕ → List ℕ → Bool
begins_with kind [] = false
begins_with kind (octet ∷ octets) = octet == kind

abbrev pub is_of_type : ℕ → Output → Bool
is_of_type kind (Sent point sls bytes) = begins_with kind bytes
is_of_type kind _ = false

-- DT2, and ED
unfoldable pub data_among : List Output → List Output
data_among outs = filter (is_of_type 0x07) outs

unfoldable pub expedited_among : List Output → List Output
expedited_among outs = filter (is_of_type 0x0B) outs

-- The connection as the event itself leaves it, before units leave; and as the step leaves it.
abbrev pub acted : Ticks → Connection → Event → Connection
acted ticks c event = (event_step ticks c event).0

abbrev pub stepped : Ticks → Connection → Event → Connection
stepped ticks c event = (connection_step ticks c event).0
