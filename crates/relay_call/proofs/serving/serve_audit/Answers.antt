use Rattle.std.proofs.Common.{rules}
use Rattle.capture_input.specs.Input.{bytes}
use Rattle.relay_call.proofs.OutcomeLemmas.{judged_whole, judged_illegal, line_stopped}
use Rattle.relay_call.proofs.serving.serve_audit.Goals as goal

pub returns-clause-ok : goal.returns-clause-ok
returns-clause-ok g c =
    let written = bytes (g.K.Sink.held c.args.out.now) (g.K.Sink.held c.write_line.new.out) in
    judged_whole c.ending.result written c.args.audited.now c.in_ok-finding.finding c.in_ok-finding.ensures.found c.in_ok-write_line.ensures.ok c.ending.ensures.ok

pub returns-clause-stopped : goal.returns-clause-stopped
returns-clause-stopped g c =
    let written = bytes (g.K.Sink.held c.args.out.now) (g.K.Sink.held c.write_line.new.out) in
    judged_illegal c.ending.result written c.args.audited.now c.in_ok-finding.finding c.in_ok-finding.ensures.found c.in_ok-write_line.ensures.ok c.ending.ensures.stopped

pub returns-in_err-write_line-clause-stopped : goal.returns-in_err-write_line-clause-stopped
returns-in_err-write_line-clause-stopped g c =
    let written = bytes (g.K.Sink.held c.args.out.now) (g.K.Sink.held c.write_line.new.out) in
    line_stopped c.from_residual-in_err-write_line.result c.in_err-write_line.field-0.0 written c.args.audited.now c.in_ok-finding.finding (search rules)
    c.in_ok-finding.ensures.found c.in_err-write_line.ensures.err c.in_err-write_line.ensures.why
