use Rattle.section_model.specs.Journals.{lane_of}
use Rattle.section_model.specs.Opening.{wish_of}
use Rattle.std.proofs.Common.{None}
use Rattle.conn_journal.proofs.LaneGrows.{hear_comes, other_takes}
use Rattle.conn_journal.proofs.journal.Context.hear.Goals as goal

pub returns-clause-turns : goal.returns-clause-turns
returns-clause-turns g c =
    λ plant.
    record {
      comes = λ keeps at.
          hear_comes plant c.args.self.now.head.now c.args.self.now.number c.args.event.now c.args.openings.now.state c.in_ok-change.part c.in_ok-outs.outs c.in_ok-change.change keeps
          c.requires.event c.requires.wish (c.in_ok-change.ensures.part keeps at.stands) c.in_ok-outs.ensures (c.in_ok-change.ensures.makes keeps at.stands);
      takes = λ keeps at.
          other_takes (lane_of c.args.self.now.head.now c.args.self.now.number) keeps (wish_of c.args.self.now.head.now.terms c.args.event.now) None c.in_ok-change.change
          c.requires.wish c.in_ok-change.ensures.takes;
    }
