use Rattle.std.proofs.Common.{◌≡◌, [], ◌∷◌, drop}
use Rattle.left_right.specs.Sides.{view}
use Rattle.gtt_editions.specs.Marked.{shown_by}
use Rattle.gtt_editions.specs.Rule.{IsCurrent, IsGoing}
use Rattle.gtt_editions.proofs.RuleKeeps.{publishes, answers}
use Rattle.gtt_editions.proofs.moves.published_in.Goals as goal

pub publish_as-requires : goal.publish_as-requires
publish_as-requires g c next is =
    let w = c.append.new.writer in
    let going : IsGoing (shown_by w.desk.shown.value) = rw c.append.ensures.desk c.requires.going in
    let one : drop w.behind w.log.items ≡ c.args.step ∷ [] = (c.in-Ok.ensures {u = tt}).pending in
    publishes _ (view w.desk.place) w.desk.shown.value next c.args.step (drop w.behind w.log.items) going.opened going.ended one is

pub returns-in-Ok-clause-ok : goal.returns-in-Ok-clause-ok
returns-in-Ok-clause-ok g c =
    let w = c.append.new.writer in
    let now : IsCurrent (view w.desk.place) (shown_by w.desk.shown.value) = rw c.append.ensures.desk c.requires.current in
    let one : drop w.behind w.log.items ≡ c.args.step ∷ [] = (c.in-Ok.ensures {u = tt}).pending in
    rw (← c.append.ensures.desk) ((answers c.publish_as.result.1 (view w.desk.place) _ w.desk.shown.value _ c.args.step (drop w.behind w.log.items) _ now one c.publish_as.ensures.values c.publish_as.ensures.rule).0)
