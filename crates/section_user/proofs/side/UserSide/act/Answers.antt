use Rattle.std.proofs.lemmas.Result.{IfOk-weaker}
use Rattle.section_model.specs.declared.input.Input.TheVariants as input
use Rattle.section_user.proofs.Within.{done-within}
use Rattle.section_user.proofs.side.UserSide.act.Goals as goal

pub returns-in-Event-clause-lengths : goal.returns-in-Event-clause-lengths
returns-in-Event-clause-lengths c =
    rw c.in-Event.is (IfOk-weaker c.hear.result _ _ (λ done. done-within c.args.cell (input.Event c.in-Event.event) c.args.self.now c.hear.new.self done) c.hear.ensures.ok)

pub returns-in-Hand-clause-lengths : goal.returns-in-Hand-clause-lengths
returns-in-Hand-clause-lengths c =
    rw c.in-Hand.is (IfOk-weaker c.take.result _ _ (λ done. done-within c.args.cell (input.Hand c.in-Hand.hand) c.args.self.now c.take.new.self done) c.take.ensures.ok)
