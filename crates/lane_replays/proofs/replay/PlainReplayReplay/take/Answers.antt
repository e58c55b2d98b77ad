use Rattle.std.proofs.Common.{[], ◌∷◌, ◌++◌, IfOk, refl, ◌∙◌, subst}
use Rattle.journal_form.specs.Inner.Seen.{seen_part}
use Rattle.lane_audit.specs.Follows.{Takes}
use Rattle.lane_replays.specs.Plain.{PlainState, plain_rules}
use Rattle.lane_replays.proofs.TakeLemmas.{takes, last-pushed}
use Rattle.lane_replays.proofs.replay.PlainReplayReplay.take.Goals as goal

pub returns-clause-taken : goal.returns-clause-taken
returns-clause-taken g c =
    let lane = g.L.PlainLane in
    let capture = c.self.inside.capture.now in
    let old = lane.state c.self.inside.lane in
    let new = lane.state c.take.new.self in
    let part = seen_part c.args.part.now in
    let taken = c.in_ok-take.ensures.ok in
    let entries = c.as_slice-entries.ensures ∙ c.entries.ensures.value in
    let last = c.index-entries-entries.result in
    let entry = taken.entry in
    let ends = c.index-entries-entries.is ∙ last-pushed old.journal c.as_slice-entries.result.now entry _ (entries ∙ taken.journal) in
    let longer = old.journal ++ entry ∷ [] in
    let legal =
    subst (λ told. lane.is_legal told old.number longer) taken.told
    (subst (λ number. lane.is_legal new.told number longer) taken.number (subst (lane.is_legal new.told new.number) taken.journal c.entries.ensures.legal)) in
    let s : PlainState = record { head = capture.head; phases = capture.phases; control = c.self.inside.control.now; number = c.self.inside.number; journal = old.journal } in
    subst (λ (r : PlainState). IfOk c.judge.result (λ judged. Takes (plain_rules lane.named lane.question lane.outs r) r.journal new.journal c.args.plant.now c.args.stamp c.args.event.now part judged)) c.self.view_is
    (takes lane.named lane.question lane.outs s c.args.plant.now c.args.stamp c.args.event.now c.in-Plain.event part old new last c.judge.result c.self.invariant refl c.in-Plain.is taken ends (g.met.L.PlainLane.last_is_legal old.told old.number old.journal entry legal) c.judge.ensures.asks c.judge.ensures.written)
