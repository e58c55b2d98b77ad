use Rattle.std.proofs.Common.{◌∙◌, sym}
use Rattle.std.proofs.lemmas.Result.{IfOk-weaker}
use Rattle.section_user.proofs.Acts.{too_long, joined, told_whole}
use Rattle.section_user.proofs.side.UserSide.collects.Goals as goal

pub returns-then-is_too_long-clause-ok : goal.returns-then-is_too_long-clause-ok
returns-then-is_too_long-clause-ok c =
    rw c.in-Unit.is (IfOk-weaker c.overruns.result _ _ (λ done. too_long c.in-Unit.body c.in-Unit.more c.args.self.now c.overruns.new.self done (sym c.is_too_long.ensures ∙ c.if-is_too_long.true)) c.overruns.ensures.ok)

pub returns-then-more-clause-ok : goal.returns-then-more-clause-ok
returns-then-more-clause-ok c =
    rw c.in-Unit.is (rw c.if-more.true (IfOk-weaker c.continues.result _ _ (λ done. joined c.in-Unit.body c.args.self.now c.continues.new.self done (sym c.is_too_long.ensures ∙ c.if-is_too_long.false)) c.continues.ensures.ok))

pub returns-else-more-clause-ok : goal.returns-else-more-clause-ok
returns-else-more-clause-ok c =
    rw c.in-Unit.is (rw c.if-more.false (IfOk-weaker c.completes.result _ _ (λ done. told_whole c.in-Unit.body c.args.self.now c.completes.new.self done (sym c.is_too_long.ensures ∙ c.if-is_too_long.false)) c.completes.ensures.ok))
