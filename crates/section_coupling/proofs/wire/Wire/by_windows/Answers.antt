use Rattle.std.proofs.Common.{sym, subst}
use Rattle.section_coupling.specs.Sound.{IsCredit}
use Rattle.section_coupling.proofs.SoundWindows.{windows_acted}
use Rattle.section_coupling.proofs.Arriving.{windows-acted}
use Rattle.section_coupling.proofs.wire.Wire.by_windows.Goals as goal

pub returns-clause-sound : goal.returns-clause-sound
returns-clause-sound c =
    let acts = windows_acted c.args.cell c.args.input.now c.args.self.now.head c.act.new.wire c.args.self.now.windows c.act.new.self c.in_ok-acted.acted c.in_ok-acted.ensures.ok in
    let within = c.in_ok-acted.ensures.hands c.requires.data.1 in (
      record {
        kept = c.requires.sound.kept;
        windows = c.in_ok-acted.ensures.waits;
        agreed = c.in_ok-acted.ensures.agreed;
        credit = subst IsCredit (sym acts.credit) c.requires.sound.credit;
        came = λ _. c.after.ensures;
      },
      ((acts.first, within.0), (acts.then_, within.1)),
    )

pub returns-clause-acts : goal.returns-clause-acts
returns-clause-acts c now =
    windows-acted now c.args.cell c.args.input.now c.args.self.now c.act.new.wire c.act.new.self c.after.result c.in_ok-acted.acted (c.requires.sound.came c.requires.class) c.in_ok-acted.ensures.ok c.after.ensures
