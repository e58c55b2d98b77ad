use Rattle.std.proofs.Common.{◌≡◌, ◌+◌, length, get_or, sym, subst, ap, ◌∙◌, arith}
use Rattle.std.proofs.lemmas.List.{get_or_default}
use Rattle.conn_journal.specs.Inner.Waking.{AreQuiet, WakesAll}
use Rattle.lane_replays.specs.Inner.Soonest.{is_due}
use Rattle.lane_replays.proofs.Scans.{AreScanned, wakes_scanned, sleeps_scanned, wakes_all}
use Rattle.lane_replays.proofs.listed.ListedConnectionsStore.due.Goals.{then-is_due+in_ok-push, else-is_due}
use Rattle.lane_replays.proofs.listed.ListedConnectionsStore.due.Goals as goal

pub loop-number-preserved : goal.loop-number-preserved
loop-number-preserved c =
    let i = c.self.inside in
    let n = c.loop-number.number in
    let numbers = c.loop-number.numbers.items in
    let here : get_or i.soonest.items n 0 ≡ c.index.result.now =
    get_or_default i.soonest.items n 0 c.index.result.now (omega (arith, c.loop-number-test.true, c.loop-number.auto.number-end, c.len-number-end.ensures)) ∙ sym c.index.ensures in
    elim c.if-is_due.branch [
      | then-is_due+in_ok-push w ↦ subst (AreScanned i.taken i.soonest.items (n + 1)) (sym w.in_ok-push.ensures.items ∙ ap (λ v. v.items) (sym w.numbers-is))
          (wakes_scanned i.taken n i.soonest.items numbers (ap (is_due i.taken) here ∙ (sym c.is_due.ensures ∙ w.if-is_due.true)) c.loop-number.invariant)
      | else-is_due w ↦ subst (AreScanned i.taken i.soonest.items (n + 1)) (ap (λ v. v.items) (sym w.numbers-is))
          (sleeps_scanned i.taken n i.soonest.items numbers (ap (is_due i.taken) here ∙ (sym c.is_due.ensures ∙ w.if-is_due.false)) c.loop-number.invariant)
    ]

pub returns-clause-wakes : goal.returns-clause-wakes
returns-clause-wakes c =
    let i = c.self.inside in
    let whole : AreScanned i.taken i.soonest.items (length i.soonest.items) c.loop-number.numbers.items =
    subst (λ n. AreScanned i.taken i.soonest.items n c.loop-number.numbers.items) (omega (arith, c.loop-number-test.false, c.loop-number.auto.number-end, c.len-number-end.ensures)) c.loop-number.invariant in
    subst (λ v. WakesAll v.taken v.kept 0 c.loop-number.numbers.items) c.self.view_is
    (wakes_all i.taken i.kept.items i.soonest.items c.loop-number.numbers.items (subst (λ v. AreQuiet v.taken v.kept) (sym c.self.view_is) c.requires.quiet) c.self.invariant whole)
