use Rattle.std.proofs.Common.{◌≡◌, drop}
use Rattle.std.specs.List.{list_all}
use Rattle.q713_shape.specs.Format.{pointer_width}
use Rattle.q713_shape.specs.Parts.{slices}
use Rattle.q713_shape.specs.Writing.{skips, variables, fits_pointer}
use Rattle.q713_shape.proofs.Counting.{IsCounted}
use Rattle.q713_shape.proofs.writing.pointers_fit.Given as goal

abbrev pub invariant-loop-i : goal.invariant-loop-i
invariant-loop-i l = record {
  counted : IsCounted l.rules l.values l.before l.i;
  left : list_all (fits_pointer l.wide) (skips (pointer_width l.wide) l.behind 0 (variables l.rules (slices l.values))) ≡ list_all (fits_pointer l.wide) (skips (pointer_width l.wide) l.behind l.before (variables (drop l.i l.rules) (drop l.i (slices l.values))));
}
