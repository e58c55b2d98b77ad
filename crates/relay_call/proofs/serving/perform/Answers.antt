use Rattle.capture_input.specs.Input.{bytes}
use Rattle.relay_call.proofs.OutcomeLemmas.{late_stopped}
use Rattle.relay_call.proofs.serving.perform.Goals as goal

pub returns-clause-stopped : goal.returns-clause-stopped
returns-clause-stopped g c =
    let written = bytes (g.K.Sink.held c.args.out.now) (g.K.Sink.held c.serve_input.new.out) in
    late_stopped c.serve_input.result c.args.command _ written c.in_ok-given.given c.serve_input.new.book c.in_ok-given.ensures.ok c.serve_input.ensures.stopped
