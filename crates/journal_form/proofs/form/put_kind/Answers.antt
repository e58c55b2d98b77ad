use Rattle.std.proofs.Common.{◌++◌, rules}
use Rattle.journal_form.specs.Form.{kind_lines}
use Rattle.journal_form.proofs.FormLemmas.{kind_then}
use Rattle.journal_form.proofs.form.put_kind.Goals as goal

pub loop-number-preserved : goal.loop-number-preserved
loop-number-preserved c =
    kind_then c.args.name.now c.loop-number.number c.args.count c.loop-number.lines c.push.new.self (c.args.lines.now ++ kind_lines c.args.name.now 0 c.args.count) c.loop-number-test.true (search rules) c.loop-number.invariant
