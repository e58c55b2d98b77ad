use Rattle.conn_journal.proofs.Became.{became}
use Rattle.section_coupling.specs.Duos.{taken_after}
use Rattle.conn_journal.proofs.kept.after.Goals as goal

pub returns : goal.returns
returns c =
    let later = taken_after c.args.now c.args.event in
    became c.args.event c.args.now c.args.duo.now c.in_ok-later.later _ c.in_ok-later.ensures.fed c.in_ok-later.ensures.ticks (c.in_ok-one.ensures later) (c.given_up-this.ensures c.args.now later)
    (c.given_up-that.ensures c.args.now later) c.in_ok-later.ensures.part
