-- What routing control is asked (Q.714, 2.3), and the routing that an entry of a journal has.
use Rattle.std.specs.Prelude.{ℕ, Option, option_map}
use Rattle.sccp_address.specs.Form.{Form, seen}
use Rattle.plant_core.specs.declared.answer.Ask.{Ask}
use Rattle.plant_core.specs.declared.answer.Answer.{Answer}
use Rattle.plant_core.specs.declared.answer.Origin.{Origin}
use Rattle.plant_core.specs.declared.entry.Asked.{Asked}
use Rattle.plant_core.specs.Plant.{RoutingData}
use Rattle.plant_core.specs.Routing.{route_of}

-- a called address, a hop counter, and who asks
pub record Question : Type 0 where
  pub called : Form
  pub hop : Option ℕ
  pub origin : Origin

abbrev pub seen_ask : Ask → Question
seen_ask ask = record { called = seen ask.called; hop = ask.hop; origin = ask.origin }

abbrev pub answer_to : RoutingData → Question → Answer
answer_to routing q = route_of routing q.called q.hop q.origin

-- the routing for what is asked, at this edition of the routing data
abbrev pub asked_at : ℕ → RoutingData → Option Question → Option Asked
asked_at edition routing asks = option_map (λ q. record { edition = edition; answer = answer_to routing q }) asks

abbrev pub answer_in : Option Asked → Option Answer
answer_in asked = option_map (λ a. a.answer) asked
