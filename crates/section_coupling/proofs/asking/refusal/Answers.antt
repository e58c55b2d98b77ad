use Rattle.std.proofs.Common.{[], sym, ap, ◌∙◌}
use Rattle.section_model.specs.Step.{refusal}
use Rattle.section_coupling.specs.Views.{user_at, section_at}
use Rattle.section_coupling.proofs.asking.refusal.Goals as goal

pub returns-in-Send : goal.returns-in-Send
returns-in-Send c = λ now. c.refusal_to_send.ensures now c.in-Send.mine ∙ ap (λ r. refusal r (user_at c.args.user.now) (section_at now c.args.wire.now)) (sym c.in-Send.is)

pub returns-in-Expedite : goal.returns-in-Expedite
returns-in-Expedite c = λ now. c.refusal_to_expedite.ensures now 0 [] ∙ ap (λ r. refusal r (user_at c.args.user.now) (section_at now c.args.wire.now)) (sym c.in-Expedite.is)

pub returns-in-Reset : goal.returns-in-Reset
returns-in-Reset c = λ now. c.refusal_to_reset.ensures now c.in-Reset.mine ∙ ap (λ r. refusal r (user_at c.args.user.now) (section_at now c.args.wire.now)) (sym c.in-Reset.is)
