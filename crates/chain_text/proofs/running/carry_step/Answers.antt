use Rattle.std.proofs.Common.{rules}
use Rattle.journal_text.proofs.Parts.{Carried-nil, Carries-lacks}
use Rattle.chain_text.proofs.running.carry_step.Goals as goal

pub returns-in_err-put_step-clause-text : goal.returns-in_err-put_step-clause-text
returns-in_err-put_step-clause-text g c =
    let held = g.K.Sink.held c.args.out.now in
    let faults = g.K.Sink.faults c.args.out.now in
    Carries-lacks _ _ _ _ _ _ _ _ (Carried-nil held faults _) (search rules)

pub returns-clause-text : goal.returns-clause-text
returns-clause-text g c = rw c.in_ok-put_step.ensures.text at c.write_if_long.ensures
