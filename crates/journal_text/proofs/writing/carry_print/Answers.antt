use Rattle.std.proofs.Common.{◌≡◌, [], Ok, Err, subst, rules}
use Rattle.journal_text.specs.Inner.Writing.{Writes}
use Rattle.journal_text.proofs.Parts.{Carried-nil, Carried-then, Carries-fails, Carries-last, Carries-written}
use Rattle.journal_text.proofs.writing.carry_print.Goals as goal

pub returns-in_err-write_text : goal.returns-in_err-write_text
returns-in_err-write_text g c = λ piece is.
    let held = g.K.Sink.held c.args.out.now in
    let faults = g.K.Sink.faults c.args.out.now in
    Carries-fails _ _ _ _ _ _ _ c.args.text.now piece [] c.args.text.now _ _ (Carried-nil held faults _) (Carries-written _ _ _ _ _ (Err c.in_err-write_text.field-0.0) c.in_err-write_text.ensures) (search rules)

pub returns : goal.returns
returns g c = λ piece is.
    let held = g.K.Sink.held c.args.out.now in
    let faults = g.K.Sink.faults c.args.out.now in
    let same : c.in_ok-print.print ≡ piece = search rules in
    let first = Carried-then _ _ _ _ _ _ _ c.args.text.now piece [] (Carried-nil held faults _) (Carries-written _ _ _ _ _ (Ok c.in_ok-write_text.field-0) c.in_ok-write_text.ensures).ok in
    rw c.clear.ensures (Carries-last _ _ _ _ _ _ _ _ _ _ first (Carries-written _ _ _ _ _ c.write_text-2.result (rw same at c.write_text-2.ensures)))
