use Rattle.std.proofs.Common.{ap₂, ◌∙◌}
use Rattle.section_coupling.specs.Duos.{duo_at, left_of_timer}
use Rattle.section_coupling.proofs.duo.Duo.deadline.Goals as goal

pub returns : goal.returns
returns c = λ now. c.deadline_of.ensures now ∙ ap₂ left_of_timer c.timer_placed.ensures (c.numbered.ensures (duo_at now c.args.self.now))
