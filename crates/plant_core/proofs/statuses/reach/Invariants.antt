use Rattle.std.proofs.Common.{◌≡◌, ◌≤◌, All, vec_len}
use Rattle.std.specs.Vec.{vec_capacity}
use Rattle.relay_base.specs.declared.limits.TheConstants.{POINT_CODES}
use Rattle.plant_core.specs.Inner.Members.{IsWhole, subsystems_from}
use Rattle.plant_core.proofs.statuses.reach.Given as goal

-- so many rows are there, of which those that were added have no marks
abbrev pub invariant-loop : goal.invariant-loop
invariant-loop l = record {
  members : subsystems_from 0 l.rows.items ≡ subsystems_from 0 l.initial.rows.items;
  whole : All IsWhole l.rows.items;
  len : vec_len l.rows ≡ l.counter;
  few : vec_len l.rows ≤ POINT_CODES;
  capacity : vec_capacity l.rows ≡ vec_capacity l.initial.rows;
}
