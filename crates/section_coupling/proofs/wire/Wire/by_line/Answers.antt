use Rattle.std.proofs.Common.{◌≡◌, false, sym, subst, ◌∙◌}
use Rattle.section_model.specs.Lengths.{KeptWithin}
use Rattle.section_coupling.specs.Inner.Acts.{is_set_up}
use Rattle.section_coupling.proofs.SoundLines.{line_acted, begun-or-same, same-counts}
use Rattle.section_coupling.proofs.Arriving.{line-acted}
use Rattle.section_coupling.proofs.wire.Wire.by_line.Goals as goal

pub begin-requires : goal.begin-requires
begin-requires c =
    (line_acted c.args.cell c.args.input.now c.args.self.now.head c.act.new.wire c.args.self.now.line c.act.new.self c.in_ok-acted.acted c.requires.can.input.0 c.requires.sound.credit c.requires.can.sets_up c.in_ok-acted.ensures.ok).has

pub returns-clause-acts : goal.returns-clause-acts
returns-clause-acts c now =
    line-acted now c.args.cell c.args.input.now c.state-old.result c.args.self.now c.act.new.wire c.act.new.self c.begin.new.line c.begin.new.windows c.in_ok-acted.acted c.state-old.ensures c.in_ok-acted.ensures.ok
    c.begin.ensures.kept c.begin.ensures.came c.begin.ensures.windows

pub returns-clause-sound : goal.returns-clause-sound
returns-clause-sound c =
    let acts = line_acted c.args.cell c.args.input.now c.args.self.now.head c.act.new.wire c.args.self.now.line c.act.new.self c.in_ok-acted.acted c.requires.can.input.0 c.requires.sound.credit c.requires.can.sets_up c.in_ok-acted.ensures.ok in
    let within = c.in_ok-acted.ensures.hands c.requires.can.takes.0 in
    let stays : is_set_up c.state-old.result c.act.new.wire ≡ false → (c.act.new.wire.credit ≡ c.args.self.now.head.credit) × (c.act.new.wire.class ≡ c.args.self.now.head.class) = λ e.
    acts.stays (subst (λ s. is_set_up s c.act.new.wire ≡ false) c.state-old.ensures e) in
    let windows = begun-or-same c.state-old.result c.act.new.wire c.begin.new.windows c.args.self.now.windows c.begin.ensures.windows c.requires.sound.windows (λ e. (stays e).0 ∙ sym c.requires.sound.agreed) in (
      record {
        kept = subst KeptWithin (sym c.begin.ensures.kept) c.in_ok-acted.ensures.keeps;
        windows = windows.0;
        agreed = windows.1;
        credit = acts.has;
        came = same-counts c.args.cell c.args.input.now c.state-old.result c.args.self.now.head c.act.new.wire c.args.self.now.line c.act.new.self c.begin.new.line c.args.self.now.windows c.begin.new.windows c.in_ok-acted.acted
            c.requires.class c.in_ok-acted.ensures.ok c.begin.ensures.came c.begin.ensures.windows (λ e. (stays e).1) c.requires.sound.came;
      },
      ((acts.first, within.0), (acts.then_, within.1)),
    )
