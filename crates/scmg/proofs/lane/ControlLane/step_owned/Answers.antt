use Rattle.std.proofs.Common.{◌∙◌, length, OnOk, ap, subst, arith}
use Rattle.plant_core.specs.declared.entry.ControlEntry.{ControlEntry}
use Rattle.scmg.specs.Control.{start_of_control, changes_in}
use Rattle.scmg.specs.Lane.{ControlState, changes_of, GrowAlike}
use Rattle.scmg.proofs.JournalLemmas.{few-changes, effect-made, grown-by, stayed-by, lane-either, grow-alike}
use Rattle.scmg.proofs.lane.ControlLane.step_owned.Goals as goal

pub write-written-requires-clause-few : goal.write-written-requires-clause-few
write-written-requires-clause-few g c =
    let lane = c.self.inside in
    let few = few-changes lane.head (start_of_control lane.start.value.routing) lane.journal in
    let same = ap (λ (l : ControlState). length l.journal) c.self.view_is in
    omega (arith, few, same, c.self.invariant.edition, c.requires.few)

pub invariant_of-self : goal.invariant_of-self
invariant_of-self g c =
    let lane = c.self.inside in
    let r = c.write-written.result in
    let stated = c.in_ok-entry.ensures in
    let made = effect-made lane.head c.args.event lane.kept c.in_ok-entry.entry c.in_ok-entry.act (ap (λ (e : ControlEntry). e.event) stated.entry) (ap (λ (e : ControlEntry). e.outs) stated.entry) stated.act in
    let old = c.into_vec-journal.ensures ∙ c.replace.ensures.value in
    let grown = grown-by r _ _ _ lane.journal _ c.from.ensures old c.write-written.ensures.entry in
    lane-either r lane.head lane.start.value.routing lane.journal c.from.result c.args.event lane.kept c.write-written.new.kept _ _ c.self.invariant made
    c.write-written.ensures.control c.write-written.ensures.edition grown c.write-written.ensures.kept
    (stayed-by r _ _ _ lane.journal c.from.ensures old c.write-written.ensures.journal)

pub returns-clause-published : goal.returns-clause-published
returns-clause-published g c =
    let lane = c.self.inside in
    let r = c.write-written.result in
    let from = g.P.Publish.published c.args.publish.now in
    let to = g.P.Publish.published c.write-written.new.publish in
    let stated = c.in_ok-entry.ensures in
    let made = effect-made lane.head c.args.event lane.kept c.in_ok-entry.entry c.in_ok-entry.act (ap (λ (e : ControlEntry). e.event) stated.entry) (ap (λ (e : ControlEntry). e.outs) stated.entry) stated.act in
    let old = c.into_vec-journal.ensures ∙ c.replace.ensures.value in
    subst (λ (l : ControlState). OnOk r (GrowAlike from to (changes_of l) (changes_in lane.head lane.start.value.routing c.from.result))) c.self.view_is
    (grow-alike r lane.head lane.start.value.routing lane.journal c.from.result c.args.event lane.kept _ _ from to c.self.invariant made c.write-written.ensures.published
    (grown-by r _ _ _ lane.journal _ c.from.ensures old c.write-written.ensures.entry))
