use Rattle.std.proofs.Common.{ap, sym, ◌∙◌}
use Rattle.section_user.specs.Side.{user_of, user_hears_event}
use Rattle.section_coupling.specs.Views.{user_at}
use Rattle.section_coupling.proofs.SoundUsers.{event-granted, user_acted, acted_granted}
use Rattle.section_coupling.proofs.owner.Owner.ask.Goals as goal

pub returns-clause-asks : goal.returns-clause-asks
returns-clause-asks c =
    let given = c.args.self.now.given.value in
    user_acted (user_hears_event c.args.cell c.args.event.now) c.args.self.now.side _ given.got given.passed _ c.in_ok-acted.ensures.ok
    ∙ ap (λ g. (user_of c.act.new.self g.got g.passed, c.in_ok-acted.acted)) (sym c.after-given.ensures)

pub returns-clause-sound : goal.returns-clause-sound
returns-clause-sound c =
    let given = c.args.self.now.given.value in
    let acts = c.in_ok-acted.ensures.ok given.got given.passed in
    let granted = acted_granted _ _ _ (event-granted c.args.cell c.args.event.now (user_at c.args.self.now) c.requires.sound) acts.0 acts.1 in
    let within = c.in_ok-acted.ensures.lengths c.requires.range in
    (granted.0, ((granted.1, within.0), (granted.2, within.1)))
