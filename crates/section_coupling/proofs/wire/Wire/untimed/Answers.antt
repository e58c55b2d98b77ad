use Rattle.std.proofs.Common.{◌==◌, sym, ◌∙◌}
use Rattle.std.proofs.lemmas.Bool.{and_parts, eqb-true}
use Rattle.section_model.specs.Acting.{is_by_class}
use Rattle.section_coupling.specs.Views.{section_at}
use Rattle.section_coupling.proofs.Composed.{if-ok}
use Rattle.section_coupling.proofs.Arriving.{acts-windowed, acts-lined}
use Rattle.section_coupling.proofs.wire.Wire.untimed.Goals as goal

pub returns-then-in_windows-clause-acts : goal.returns-then-in_windows-clause-acts
returns-then-in_windows-clause-acts c =
    if-ok c.by_windows.result (λ r e now. acts-windowed c.args.cell c.args.input.now (section_at now c.args.self.now) (sym (c.in_windows.ensures now) ∙ c.if-in_windows.true) ∙ e now) c.by_windows.ensures.acts

pub returns-else-in_windows-clause-acts : goal.returns-else-in_windows-clause-acts
returns-else-in_windows-clause-acts c =
    if-ok c.by_line.result (λ r e now. acts-lined c.args.cell c.args.input.now (section_at now c.args.self.now) (sym (c.in_windows.ensures now) ∙ c.if-in_windows.false) ∙ e now) c.by_line.ensures.acts

pub by_windows-requires-clause-class : goal.by_windows-requires-clause-class
by_windows-requires-clause-class c =
    eqb-true c.args.self.now.head.class 3 (and_parts (is_by_class c.args.cell) (c.args.self.now.head.class == 3) (sym (c.in_windows.ensures 0) ∙ c.if-in_windows.true)).1

pub by_line-requires-clause-class : goal.by_line-requires-clause-class
by_line-requires-clause-class c = sym (c.in_windows.ensures 0) ∙ c.if-in_windows.false

pub by_windows-requires-clause-left : goal.by_windows-requires-clause-left
by_windows-requires-clause-left c =
    c.requires.can.left (eqb-true c.args.self.now.head.class 3 (and_parts (is_by_class c.args.cell) (c.args.self.now.head.class == 3) (sym (c.in_windows.ensures 0) ∙ c.if-in_windows.true)).1)
