use Rattle.std.proofs.Common.{◌≡◌}
use Rattle.std.specs.List.{AllByRecursion}
use Rattle.capture_form.specs.Inner.Reader.{AreAsMany, IsReadWithin, reads_at, reads_taken}
use Rattle.capture_form.specs.Inner.Progress.{is_numbered}
use Rattle.capture_form.proofs.progress.take_reads.Given as goal

-- what was taken so far, and what the lines to come make of it
abbrev pub invariant-loop-line : goal.invariant-loop-line
invariant-loop-line l = record {
  taken : reads_taken l.head l.read (reads_at l.first l.line-iterator.rest.items) ≡ reads_taken l.head l.fn.read (reads_at l.first l.fn.lines.items);
  within : AllByRecursion (IsReadWithin l.head.links) l.line-iterator.rest.items;
  few : AllByRecursion (is_numbered l.first) l.line-iterator.rest.items;
  kept : AreAsMany l.fn.read l.read;
}
