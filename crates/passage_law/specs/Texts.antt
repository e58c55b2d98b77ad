-- The texts that the user at an end of a connection gives, and those that it is told (Q.711, N-DATA; Q.714, 3.5).
use Rattle.std.specs.Prelude.{ℕ, Bool, true, false, List, [], ◌∷◌, ◌++◌, if◌then◌else◌}
use Rattle.std.specs.List.{list_any, flat_map}
use Rattle.relay_base.specs.declared.words.Event.{Event}
use Rattle.relay_base.specs.declared.words.Event.TheVariants.{Asked as Requested}
use Rattle.relay_base.specs.declared.words.Output.{Output}
use Rattle.relay_base.specs.declared.words.Output.TheVariants.{Told}
use Rattle.relay_base.specs.declared.words.Request.TheVariants as request
use Rattle.relay_base.specs.declared.words.Tell.TheVariants as tell
use Rattle.plant_core.specs.declared.terms.TheConstants.{USUAL_TICKS}
use Rattle.plant_core.specs.declared.terms.Ticks.{Ticks}
use Rattle.section_model.specs.Ends.{Connection}
use Rattle.section_model.specs.Step.{connection_step}
use Rattle.section_model.specs.Lane.{next}
use Rattle.passage_law.specs.Trails.{Leg, heard_on, outs_on}

-- a request was refused
abbrev pub is_refusal : Output → Bool
is_refusal (Told ssn (tell.No why)) = true
is_refusal _ = false

-- the text that an event gives, unless it was refused
abbrev pub given_by : Event → List Output → List (List ℕ)
given_by (Requested ssn (request.Send mine body)) outs = if list_any is_refusal outs then [] else body ∷ []
given_by _ outs = []

-- those given by what a connection hears
unfoldable pub given_along : Ticks → Connection → List Event → List (List ℕ)
given_along ticks c [] = []
given_along ticks c (event ∷ events) = given_by event (connection_step ticks c event).1 ++ given_along ticks (next ticks c event) events

abbrev pub text_told : Output → List (List ℕ)
text_told (Told ssn (tell.Text mine text)) = text ∷ []
text_told _ = []

unfoldable pub texts_among : List Output → List (List ℕ)
texts_among outs = flat_map text_told outs

-- those that the user at an end of a leg gave, and those that it was told
abbrev pub given_on : Leg → List (List ℕ)
given_on leg = given_along USUAL_TICKS leg.first (heard_on leg)

abbrev pub told_on : Leg → List (List ℕ)
told_on leg = texts_among (outs_on leg)
