use Rattle.std.proofs.Common.{sym, subst, ◌∙◌}
use Rattle.section_coupling.specs.Views.{section_by}
use Rattle.section_coupling.proofs.Composed.{if-ok}
use Rattle.section_coupling.proofs.Arriving.{heard_near}
use Rattle.section_coupling.proofs.HandsCome.{Counts, within-counts, coming-come}
use Rattle.section_coupling.proofs.wire.Wire.hear_from.Goals as goal

pub returns-clause-hears : goal.returns-clause-hears
returns-clause-hears c =
    let clock = c.args.clock.now in
    if-ok c.hear.result (λ acted e. heard_near clock c.args.coming.now (section_by clock c.args.self.now) (section_by clock c.keep_in_touch.new.self) _ (sym c.is_from_elsewhere.ensures ∙ c.if-is_from_elsewhere.false)
    c.keep_in_touch.ensures.value e) c.hear.ensures.hears

pub returns-clause-left : goal.returns-clause-left
returns-clause-left c =
    let clock = c.args.clock.now in
    let within : Counts (section_by clock c.args.self.now) = within-counts c.args.self.now clock.taken c.requires.section.came c.keeps_windows.ensures.passed in
    if-ok c.hear.result (λ acted e that. coming-come clock c.args.coming.now (section_by clock c.keep_in_touch.new.self) that _ (subst Counts (sym c.keep_in_touch.ensures.value) within) e) c.hear.ensures.hears
