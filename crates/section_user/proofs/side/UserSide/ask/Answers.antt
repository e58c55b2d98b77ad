use Rattle.section_model.specs.UserEnd.{user_asks}
use Rattle.section_user.proofs.side.UserSide.ask.Goals as goal

pub returns-in-UserResets-clause-ok : goal.returns-in-UserResets-clause-ok
unfolding user_asks
returns-in-UserResets-clause-ok c = rw c.in-UserResets.is c.resets.ensures.ok
