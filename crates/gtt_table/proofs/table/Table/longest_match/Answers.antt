use Rattle.std.proofs.Common.{◌∙◌, ap, ap₂}
use Rattle.gtt_table.specs.Rows.{Rows}
use Rattle.gtt_table.specs.Translation.{longest_match}
use Rattle.gtt_table.proofs.KeptLemmas.{longest_same}
use Rattle.gtt_table.proofs.table.Table.longest_match.Goals as goal

pub returns : goal.returns
returns c =
    let selector = c.args.selector.now in
    let kept = c.self.invariant in
    c.longest_match.ensures ∙ ap₂ (longest_match selector) c.as_slice.ensures.value c.deref.ensures.value
    ∙ longest_same selector c.args.digits.now c.self.inside.rows.items c.self.inside.added.value kept.distinct kept.were_added kept.stay
    ∙ ap (λ (v : Rows). longest_match selector c.args.digits.now v.rows) c.self.view_is
