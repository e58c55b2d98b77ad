use Rattle.std.proofs.Common.{◌≡◌, ◌<◌, ◌^◌, length, sym, subst, ap, ◌∙◌, refl}
use Rattle.conn_journal.specs.Lanes.{ConnLaneState, ConnLaneTakes, conn_asked_of}
use Rattle.conn_journal.specs.Inner.Changes.{changed}
use Rattle.conn_journal.proofs.LaneGrows.{lane_stands, lane_written, few_taken, on_ok, on_err}
use Rattle.conn_journal.proofs.Quiet.{kept_quiet}
use Rattle.conn_journal.proofs.journal.ConnJournal.step_owned.Goals as goal

pub entry-requires-clause-quiet : goal.entry-requires-clause-quiet
entry-requires-clause-quiet g c = kept_quiet c.self.inside.head c.self.inside.number c.self.inside.journal c.self.inside.openings.state c.self.invariant

pub write-requires-clause-taken : goal.write-requires-clause-taken
write-requires-clause-taken g c =
    few_taken c.self.inside.openings.state.taken (length c.self.inside.journal) c.self.invariant.keeps.few
    (subst (λ (v : ConnLaneState). length v.journal < 2 ^ 32) (sym c.self.view_is) c.requires.few)

pub write-requires-clause-count : goal.write-requires-clause-count
write-requires-clause-count g c =
    few_taken (length c.self.inside.openings.state.kept) (length c.self.inside.journal) c.self.invariant.keeps.many
    (subst (λ (v : ConnLaneState). length v.journal < 2 ^ 32) (sym c.self.view_is) c.requires.few)

pub write-requires-clause-fits : goal.write-requires-clause-fits
write-requires-clause-fits g c =
    c.in_ok-change.ensures.fits _ (lane_stands c.self.inside.head c.self.inside.number c.self.inside.journal c.self.inside.openings.state c.self.invariant)

pub invariant_of-self : goal.invariant_of-self
invariant_of-self g c =
    lane_written c.write.result c.args.plant.now c.self.inside.head c.self.inside.number c.self.inside.journal c.write.new.journal c.self.inside.openings.state c.write.new.self.state
    (changed c.in_ok-change.change c.self.inside.openings.state) c.in_ok-change.entry c.self.invariant c.in_ok-change.ensures.grows c.write.ensures.journal c.write.ensures.openings c.write.ensures.err

pub returns-clause-ok : goal.returns-clause-ok
returns-clause-ok g c =
    on_ok c.write.result
    (λ same.
    subst (λ v. ConnLaneTakes c.args.plant.now c.args.stamp c.args.event v (record { head = c.self.inside.head; number = c.self.inside.number; journal = c.write.new.journal })) c.self.view_is
    (record {
      entry = c.in_ok-change.entry;
      journal = same;
      stamped = c.in_ok-change.ensures.stamp;
      of_event = c.in_ok-change.ensures.event;
      answered = (c.in_ok-change.ensures.grows _ (lane_stands c.self.inside.head c.self.inside.number c.self.inside.journal c.self.inside.openings.state c.self.invariant)).asked
          ∙ ap (conn_asked_of c.self.inside.head c.args.plant.now) c.in_ok-change.ensures.event;
      head = refl;
      number = refl;
    }))
    c.write.ensures.journal

pub returns-clause-err : goal.returns-clause-err
returns-clause-err g c =
    let S : Type 0 = ConnLaneState in
    on_err c.write.result
    (λ same.
    subst (λ j. ◌≡◌ {A = S} (record { head = c.self.inside.head; number = c.self.inside.number; journal = j }) c.args.self.now) (sym same.0) c.self.view_is)
    c.write.ensures.err
