use Rattle.relay_base.specs.declared.words.Event.TheVariants.{Tick}
use Rattle.section_model.specs.Journals.{lane_of}
use Rattle.section_model.specs.Opening.{wish_of}
use Rattle.std.proofs.Common.{None}
use Rattle.conn_journal.proofs.LaneGrows.{tick_comes, no_wish_of_tick, other_takes}
use Rattle.conn_journal.proofs.journal.Context.tick.Goals as goal

pub returns-clause-turns : goal.returns-clause-turns
returns-clause-turns g c =
    λ plant.
    record {
      comes = λ keeps at.
          tick_comes plant c.args.self.now.head.now c.args.self.now.number c.args.openings.now.state c.in_ok-change.outs c.in_ok-change.change keeps
          (c.in_ok-change.ensures.outs keeps at.stands) (c.in_ok-change.ensures.makes keeps at.stands);
      takes = λ keeps at.
          other_takes (lane_of c.args.self.now.head.now c.args.self.now.number) keeps (wish_of c.args.self.now.head.now.terms Tick) None c.in_ok-change.change
          (no_wish_of_tick c.args.self.now.head.now.terms) c.in_ok-change.ensures.takes;
    }
