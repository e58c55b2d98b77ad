use Rattle.std.proofs.Common.{◌≡◌, ◌≤◌, All, vec_len}
use Rattle.plant_core.specs.Inner.Members.{IsCleared}
use Rattle.plant_core.proofs.statuses.clear.Given as goal

abbrev pub invariant-loop : goal.invariant-loop
invariant-loop l = record {
  cleared : All IsCleared l.spare.items;
  more : vec_len l.initial.spare ≤ vec_len l.spare;
  len : l.counter ≡ vec_len l.spare;
}
