use Rattle.capture_input.specs.Input.{bytes}
use Rattle.relay_call.proofs.OutcomeLemmas.{chain_wrote, chain_stopped, audit_wrote, audit_stopped}
use Rattle.relay_call.proofs.serving.serve_input.Goals as goal

pub returns-in-Chain-clause-ok : goal.returns-in-Chain-clause-ok
returns-in-Chain-clause-ok g c =
    let written = bytes (g.K.Sink.held c.args.out.now) (g.K.Sink.held c.serve_chain.new.out) in
    chain_wrote c.serve_chain.result c.args.command written c.args.given c.in-Chain.steps c.args.book.now c.in-Chain.is c.requires.empty c.serve_chain.ensures.ok

pub returns-in-Chain-clause-stopped : goal.returns-in-Chain-clause-stopped
returns-in-Chain-clause-stopped g c =
    let written = bytes (g.K.Sink.held c.args.out.now) (g.K.Sink.held c.serve_chain.new.out) in
    chain_stopped c.serve_chain.result c.args.command written c.args.given c.in-Chain.steps c.args.book.now c.in-Chain.is c.requires.empty c.serve_chain.ensures.err c.serve_chain.ensures.why

pub returns-in-Audited-clause-ok : goal.returns-in-Audited-clause-ok
returns-in-Audited-clause-ok g c =
    let written = bytes (g.K.Sink.held c.args.out.now) (g.K.Sink.held c.serve_audit.new.out) in
    audit_wrote c.serve_audit.result c.args.command written c.args.given c.in-Audited.audited c.args.book.now c.in-Audited.is c.requires.empty c.serve_audit.ensures.ok

pub returns-in-Audited-clause-stopped : goal.returns-in-Audited-clause-stopped
returns-in-Audited-clause-stopped g c =
    let written = bytes (g.K.Sink.held c.args.out.now) (g.K.Sink.held c.serve_audit.new.out) in
    audit_stopped c.serve_audit.result c.args.command written c.args.given c.in-Audited.audited c.args.book.now c.in-Audited.is c.requires.empty c.serve_audit.ensures.stopped
