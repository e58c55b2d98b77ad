use Rattle.std.proofs.Common.{◌≡◌, ◌++◌, ◌-◌}
use Rattle.journal_form.specs.Form.{kind_lines}
use Rattle.journal_form.proofs.form.put_kind.Given as goal

-- the lines so far, and those of the lanes that are left
abbrev pub invariant-loop-number : goal.invariant-loop-number
invariant-loop-number l = l.lines ++ kind_lines l.name l.number (l.count - l.number) ≡ l.initial.lines ++ kind_lines l.name 0 l.count
