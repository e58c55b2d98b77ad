use Rattle.std.proofs.Common.{◌≡◌, None, subst, ap, ◌∙◌}
use Rattle.section_model.specs.Step.{hears}
use Rattle.section_coupling.specs.Duos.{duo_at}
use Rattle.conn_journal.specs.Inner.Remnants.{part_in}
use Rattle.conn_journal.specs.Inner.Views.{live_at}
use Rattle.conn_journal.proofs.Became.{deaf}
use Rattle.conn_journal.proofs.kept.Kept.hear.Goals as goal

pub returns-then-not-hears_read : goal.returns-then-not-hears_read
returns-then-not-hears_read c =
    subst (λ d. part_in c.args.event (live_at c.args.now d) ≡ None) c.self.view_is
    (deaf c.args.event c.args.now c.self.inside.duo.value c.hears_read.result
    (c.hears_read.ensures c.args.now ∙ ap (λ d. hears (duo_at c.args.now d) c.args.event) c.deref.ensures) c.if-not-hears_read.true)
