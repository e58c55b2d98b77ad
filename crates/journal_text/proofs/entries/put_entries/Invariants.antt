use Rattle.std.proofs.Common.{◌≡◌, ◌++◌, drop}
use Rattle.std.specs.List.{flat_map}
use Rattle.journal_text.proofs.entries.put_entries.Given as goal

-- the text so far, and the print of what is left
abbrev pub invariant-loop-entry : goal.invariant-loop-entry
invariant-loop-entry g l =
    let print = flat_map g.P.Printed.print in
    l.text ++ print (drop l.entry-index l.entries) ≡ l.initial.text ++ print l.entries
