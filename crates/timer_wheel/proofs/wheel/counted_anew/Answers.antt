use Rattle.std.proofs.Common.{◌<◌, All, sym, ap, ◌∙◌, subst}
use Rattle.timer_wheel.specs.Inner.Tree.{alarms, Rises}
use Rattle.timer_wheel.specs.Inner.Turning.{armed_at}
use Rattle.timer_wheel.proofs.Turns.{recounted_at, rises_recounted, later_recounted}
use Rattle.timer_wheel.proofs.wheel.counted_anew.Goals as goal

pub returns-clause-same : goal.returns-clause-same
returns-clause-same c = ap (armed_at 0) c.recount.ensures.alarms ∙ recounted_at c.args.passed (alarms c.args.tree.now)

pub returns-clause-turned : goal.returns-clause-turned
returns-clause-turned c =
    let list = alarms c.args.tree.now in
    let turned = c.requires.turned in
    record {
      sound = c.recount.ensures.sound;
      rising = subst Rises (sym c.recount.ensures.alarms) (rises_recounted c.args.passed list turned.rising);
      later = subst (All (λ a. 0 < a.tick)) (sym c.recount.ensures.alarms) (later_recounted c.args.passed list turned.later);
    }
