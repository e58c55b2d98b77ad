use Rattle.std.proofs.Common.{◌≡◌, ◌+◌, vec_len}
use Rattle.std.specs.Vec.{vec_capacity}
use Rattle.timer_wheel.proofs.wheel.grow.Given as goal

abbrev pub invariant-loop : goal.invariant-loop
invariant-loop l = (vec_len l.spare ≡ vec_len l.initial.spare + l.counter) × (vec_capacity l.spare ≡ vec_capacity l.initial.spare)
