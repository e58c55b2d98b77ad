use Rattle.std.proofs.Common.{ap}
use Rattle.plant_core.specs.Asking.{answer_in}
use Rattle.section_model.specs.Opening.{wish_of, slots_needed}
use Rattle.conn_journal.specs.Inner.Lowest.{lowest_of}
use Rattle.conn_journal.proofs.LaneGrows.{open_comes, open_takes}
use Rattle.conn_journal.proofs.Opened.{opened_alive}
use Rattle.conn_journal.proofs.journal.Context.open.Goals as goal

pub open-requires : goal.open-requires
open-requires g c =
    let terms = c.args.self.now.head.now.terms in
    let wish = wish_of terms c.args.event.now in
    let answer = answer_in c.asked_by-asked.result in
    record { alive = opened_alive c.args.openings.now.state.taken terms wish answer (lowest_of c.args.openings.now.state.slots (slots_needed wish answer)) c.in_ok-begun.begun.duo (ap (λ x. x.connection) c.in_ok-begun.ensures.opened) }

pub returns-clause-turns : goal.returns-clause-turns
returns-clause-turns g c =
    record {
      comes = λ keeps at.
          open_comes c.args.plant.now c.args.self.now.head.now c.args.self.now.number c.args.event.now c.args.openings.now.state c.asked_by-asked.result c.in_ok-begun.begun.duo c.in_ok-begun.begun.outs c.in_ok-change.change
          c.requires.number c.requires.wish (c.asked_by-asked.ensures c.args.self.now.head.now) c.in_ok-begun.ensures.opened c.in_ok-begun.ensures.ticks c.in_ok-change.ensures.opens keeps at;
      takes = λ keeps at.
          open_takes c.args.self.now.head.now c.args.self.now.number keeps c.args.openings.now.state (wish_of c.args.self.now.head.now.terms c.args.event.now) (answer_in c.asked_by-asked.result)
          c.in_ok-begun.begun.duo c.in_ok-begun.begun.outs c.in_ok-change.change at c.in_ok-begun.ensures.opened c.in_ok-change.ensures.opens;
    }
