use Rattle.std.proofs.Common.{◌≡◌, [], rules}
use Rattle.journal_text.proofs.Parts.{Carried-nil}
use Rattle.chain_text.proofs.WriteLemmas.{Writes-fails, Writes-lacks, Writes-ends}
use Rattle.chain_text.proofs.running.write_run.Goals as goal

pub returns-in_err-text : goal.returns-in_err-text
returns-in_err-text g c = Writes-lacks _ _ _ _ _ _ _ (Carried-nil (g.K.Sink.held c.args.out.now) (g.K.Sink.faults c.args.out.now) _) (search rules)

pub returns-in_err-carry_steps : goal.returns-in_err-carry_steps
returns-in_err-carry_steps g c =
    let none : c.in_ok-text.text ≡ [] = search rules in
    Writes-fails _ _ _ _ _ _ _ _ (rw none at c.in_err-carry_steps.ensures) (search rules)

pub returns-in_err-put_waiting : goal.returns-in_err-put_waiting
returns-in_err-put_waiting g c =
    let none : c.in_ok-text.text ≡ [] = search rules in
    Writes-lacks _ _ _ _ _ _ _ (rw none at c.in_ok-carry_steps.ensures.ok) (search rules)

pub returns : goal.returns
returns g c =
    let none : c.in_ok-text.text ≡ [] = search rules in
    Writes-ends _ _ _ _ _ _ _ _ _ _ (rw none at c.in_ok-carry_steps.ensures.ok) (search rules) c.write_text.ensures
