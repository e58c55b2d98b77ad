-- What comes of a message, with what a data lane sends with.
use Rattle.std.specs.Prelude.{ℕ, Option}
use Rattle.plant_core.specs.declared.answer.Answer.{Answer}
use Rattle.connectionless.specs.Unitdata.{Unitdata}
use Rattle.long_interwork.specs.declared.routed.Sender.{Sender}
use Rattle.long_interwork.specs.Routed.{Routed, routed_message}

abbrev pub routed_in : Sender → ℕ → ℕ → Option Unitdata → Answer → Routed
routed_in s opc sls unit answer = routed_message s.short.now s.own opc sls unit answer s.reference
