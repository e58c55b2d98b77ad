-- What a data lane keeps beside its journal.
use Rattle.std.specs.Prelude.{◌≡◌, ℕ, ◌%◌, List, Option}
use Rattle.plant_core.specs.Asking.{Question, asked_at, answer_in}
use Rattle.plant_core.specs.declared.answer.Answer.{Answer}
use Rattle.plant_core.specs.declared.entry.Asked.{Asked}
use Rattle.plant_core.specs.declared.entry.Entry.{Entry}
use Rattle.plant_core.specs.declared.terms.LaneHead.{LaneHead}
use Rattle.reassembly.specs.Laws.{IsWithinBounds}
use Rattle.reassembly.specs.Reassembly.{Reassemblies}
use Rattle.connectionless.specs.Asking.{Matter}
use Rattle.connectionless.specs.Given.{reference_after}
use Rattle.connectionless.specs.Unitdata.{Unitdata}
use Rattle.long_interwork.specs.Routed.{routed_message}
use Rattle.data_lane.specs.declared.effect.Context.{Context}
use Rattle.data_lane.specs.declared.effect.Effect.{Effect}
use Rattle.data_lane.specs.declared.journal.TheConstants.{REFERENCES}
use Rattle.data_lane.specs.Legal.{at_first, state_after, effect_by, of_routed, IsDataJournal}

-- A count of units that were cut, as far as references tell them apart.
abbrev pub reduced : ℕ → ℕ
reduced count = count % REFERENCES

-- The journal is legal, and the count and the reassemblies are what its entries leave.
pub record IsLane (head : LaneHead) (number : ℕ) (journal : List Entry) (count : ℕ) (bench : Reassemblies) : Type 0 where
  pub legal : IsDataJournal head number journal
  pub cut : count ≡ reduced (state_after head number at_first journal).cut
  pub processes : bench.processes ≡ (state_after head number at_first journal).processes
  pub ticks : bench.ticks ≡ head.reassembly
  pub bounds : IsWithinBounds bench.processes

-- The routing for what is asked, and what comes of a matter by the routing that was asked, with what a lane knows as it takes an event.
abbrev pub asked_in : Context → Option Question → Option Asked
asked_in c asks = asked_at c.plant.now.edition c.plant.now.routing asks

abbrev pub effect_in : Context → Matter → Option Asked → Effect
effect_in c matter asked = effect_by c.head.now c.number c.cut matter (answer_in asked)

-- what comes of a unit or a service message by the answer to it
abbrev pub routed_in : Context → ℕ → ℕ → Option Unitdata → Answer → Effect
routed_in c opc sls unit answer =
    of_routed (routed_message c.head.now.short c.head.now.terms.own opc sls unit answer (reference_after c.number c.cut))
