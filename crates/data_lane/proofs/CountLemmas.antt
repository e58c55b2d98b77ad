-- A count that is reduced to the references of a lane gives the same ones.
use Rattle.std.proofs.Common.{◌≡◌, ℕ, ◌+◌, arith, refl, ap, Option, Some, None}
use Rattle.plant_core.specs.declared.answer.Answer.{Answer}
use Rattle.plant_core.specs.declared.terms.LaneHead.{LaneHead}
use Rattle.connectionless.specs.Given.{reference_after, given_outcome}
use Rattle.connectionless.specs.Asking.{Matter, from_network, from_user, settled, of_tick}
use Rattle.long_interwork.specs.Routed.{routed}
use Rattle.data_lane.specs.Legal.{effect_by, of_routed, of_sending}
use Rattle.data_lane.specs.Inner.Lane.{reduced}

pub reference-reduced : (number n : ℕ) → reference_after number (reduced n) ≡ reference_after number n
reference-reduced number n = omega arith

pub reduced-add : (n k : ℕ) → reduced (reduced (reduced n) + k) ≡ reduced (n + k)
reduced-add n k = omega arith

pub effect-reduced : (head : LaneHead) (number n : ℕ) (matter : Matter) (answer : Option Answer) → effect_by head number (reduced n) matter answer ≡ effect_by head number n matter answer
effect-reduced head number n (from_network opc sls x q) (Some answer) = ap (λ reference. of_routed (routed head.short head.terms.own opc sls x answer reference)) (reference-reduced number n)
effect-reduced head number n (from_network opc sls x q) None = refl
effect-reduced head number n (from_user g q) (Some answer) = ap (λ reference. of_sending (given_outcome g answer reference)) (reference-reduced number n)
effect-reduced head number n (from_user g q) None = refl
effect-reduced head number n (settled outs) answer = refl
effect-reduced head number n of_tick answer = refl
