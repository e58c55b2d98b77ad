use Rattle.section_model.specs.UserEnd.{user_takes}
use Rattle.section_coupling.specs.Views.{user_at}
use Rattle.section_coupling.proofs.owner.Owner.take.Given as goal

-- what the effect makes of what the user gave
abbrev pub ghost-after : goal.ghost-after
ghost-after a =
    let user = (user_takes a.seen.now.cell a.seen.now.hand.now (user_at a.seen.now.owner.now)).0 in
    record { got = user.got; passed = user.passed }
