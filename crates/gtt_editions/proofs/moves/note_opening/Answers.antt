use Rattle.std.proofs.Common.{◌≡◌, [], ◌∷◌, false, drop}
use Rattle.left_right.specs.Sides.{view}
use Rattle.gtt_editions.specs.declared.step.Step.TheVariants.{Open}
use Rattle.gtt_editions.proofs.RuleKeeps.{opens, open_answers}
use Rattle.gtt_editions.proofs.moves.note_opening.Goals as goal

pub publish_as-requires : goal.publish_as-requires
publish_as-requires g c next is =
    let w = c.append.new.writer in
    let shut : w.desk.shown.value.opened ≡ false = rw c.append.ensures.desk c.requires.shut in
    let going : w.desk.shown.value.ended ≡ false = rw c.append.ensures.desk c.requires.going in
    let one : drop w.behind w.log.items ≡ Open ∷ [] = (c.in-Ok.ensures {u = tt}).pending in
    opens _ (view w.desk.place) w.desk.shown.value next (drop w.behind w.log.items) shut going one is

pub returns-in-Ok-clause-opened : goal.returns-in-Ok-clause-opened
returns-in-Ok-clause-opened g c =
    let w = c.append.new.writer in
    let empty : w.desk.shown.value.changes.items ≡ [] = rw c.append.ensures.desk c.requires.empty in
    let going : w.desk.shown.value.ended ≡ false = rw c.append.ensures.desk c.requires.going in
    let one : drop w.behind w.log.items ≡ Open ∷ [] = (c.in-Ok.ensures {u = tt}).pending in
    rw (← c.append.ensures.desk) ((open_answers c.publish_as.result.1 (view w.desk.place) _ w.desk.shown.value _ (drop w.behind w.log.items) _ empty going one c.publish_as.ensures.values c.publish_as.ensures.rule).0)
