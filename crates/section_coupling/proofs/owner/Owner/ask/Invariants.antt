use Rattle.section_user.specs.Side.{user_hears_event}
use Rattle.section_coupling.specs.Views.{user_at}
use Rattle.section_coupling.proofs.owner.Owner.ask.Given as goal

-- what the request makes of what the user gave
abbrev pub ghost-after : goal.ghost-after
ghost-after a =
    let user = (user_hears_event a.seen.now.cell a.seen.now.event.now (user_at a.seen.now.owner.now)).0 in
    record { got = user.got; passed = user.passed }
