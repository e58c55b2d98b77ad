use Rattle.std.proofs.Common.{subst, OnOk, OnErr}
use Rattle.capture_input.specs.Input.{bytes}
use Rattle.book_output.specs.Report.{report_text}
use Rattle.relay_call.specs.Outcome.{Wrote, WrotePart}
use Rattle.relay_call.specs.Inner.Reports.{report_of}
use Rattle.relay_call.proofs.OutcomeLemmas.{wrote_whole, write_stopped}
use Rattle.relay_call.proofs.serving.serve_capture.Goals as goal

pub returns-clause-ok : goal.returns-clause-ok
returns-clause-ok g c =
    let written = bytes (g.K.Sink.held c.args.out.now) (g.K.Sink.held c.write.new.out) in
    let whole = subst (λ report. OnOk c.write.result (Wrote written (report_text report c.fill.new.book))) {y = report_of c.args.command c.args.capture.head} c.report_of-report.ensures c.write.ensures.ok in
    wrote_whole c.write.result c.args.command written c.args.capture c.fill.new.book c.in_ok-fill.ensures.ok whole

pub returns-clause-stopped : goal.returns-clause-stopped
returns-clause-stopped g c =
    let written = bytes (g.K.Sink.held c.args.out.now) (g.K.Sink.held c.write.new.out) in
    let part = subst (λ report. OnErr c.write.result (WrotePart written (report_text report c.fill.new.book))) {y = report_of c.args.command c.args.capture.head} c.report_of-report.ensures c.write.ensures.err in
    write_stopped c.write.result c.args.command written c.args.capture c.fill.new.book c.in_ok-fill.ensures.ok part c.write.ensures.why
