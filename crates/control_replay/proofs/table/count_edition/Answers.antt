use Rattle.std.proofs.Common.{◌∙◌, sym}
use Rattle.control_replay.proofs.TableLemmas.{counted, uncounted, unpublished}
use Rattle.control_replay.proofs.table.count_edition.Goals as goal
use Rattle.control_replay.proofs.table.count_edition.Goals.{else-is_some-via-then-is_some+else-phase-counts, else-is_some-via-else-is_some}

pub returns-then-phase-counts-clause-each : goal.returns-then-phase-counts-clause-each
returns-then-phase-counts-clause-each c = counted c.args.counts.now c.args.entry.now (sym c.is_some.ensures ∙ c.if-is_some.true) c.if-phase-counts.true

pub returns-else-is_some-clause-each : goal.returns-else-is_some-clause-each
returns-else-is_some-clause-each c phase lt =
    elim c.else-is_some.branch [
      | else-is_some-via-then-is_some+else-phase-counts w ↦ uncounted _ _ phase c.args.entry.now w.if-phase-counts.false lt
      | else-is_some-via-else-is_some w ↦ unpublished _ phase c.args.entry.now (sym c.is_some.ensures ∙ w.if-is_some.false)
    ]
