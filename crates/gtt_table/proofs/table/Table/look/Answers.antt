use Rattle.std.proofs.Common.{refl, sym}
use Rattle.gtt_table.specs.Translation.{translation_of}
use Rattle.gtt_table.proofs.KeptLemmas.{match_has_selector}
use Rattle.gtt_table.proofs.LongestLemmas.{longest_match-longest}
use Rattle.gtt_table.proofs.table.Table.look.Goals as goal

pub returns-in-Some-clause-value : goal.returns-in-Some-clause-value
unfolding translation_of
returns-in-Some-clause-value c =
    let has = match_has_selector c.args.selector.now c.args.digits.now c.args.self.now.rows c.in-Some.row.now c.in-Some.ensures in
    rw (has, sym c.in-Some.ensures) refl

pub returns-in-Some-clause-longest : goal.returns-in-Some-clause-longest
returns-in-Some-clause-longest c =
    longest_match-longest c.args.selector.now c.args.digits.now c.args.self.now.rows c.in-Some.row.now c.in-Some.ensures
