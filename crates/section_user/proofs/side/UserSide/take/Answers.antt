use Rattle.section_model.specs.UserEnd.{user_takes}
use Rattle.section_user.proofs.side.UserSide.take.Goals as goal

pub returns-in-TellResetDone-clause-ok : goal.returns-in-TellResetDone-clause-ok
unfolding user_takes
returns-in-TellResetDone-clause-ok c = rw c.in-TellResetDone.is c.reset_done.ensures.ok
