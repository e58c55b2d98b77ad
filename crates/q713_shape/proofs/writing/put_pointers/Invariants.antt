use Rattle.std.proofs.Common.{◌≡◌, ◌++◌, drop, map}
use Rattle.std.specs.List.{concat}
use Rattle.q713_shape.specs.Format.{pointer_width}
use Rattle.q713_shape.specs.Parts.{slices}
use Rattle.q713_shape.specs.Writing.{skips, variables, number_octets}
use Rattle.q713_shape.proofs.Counting.{IsCounted}
use Rattle.q713_shape.proofs.writing.put_pointers.Given as goal

abbrev pub invariant-loop-i : goal.invariant-loop-i
invariant-loop-i l = record {
  counted : IsCounted l.rules l.values l.before l.i;
  left : l.initial.out ++ concat (map (number_octets l.wide) (skips (pointer_width l.wide) l.behind 0 (variables l.rules (slices l.values)))) ≡ l.out ++ concat (map (number_octets l.wide) (skips (pointer_width l.wide) l.behind l.before (variables (drop l.i l.rules) (drop l.i (slices l.values)))));
}
