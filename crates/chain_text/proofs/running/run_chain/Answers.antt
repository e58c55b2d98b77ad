use Rattle.std.proofs.Common.{OnOk, OnErr, subst, rules}
use Rattle.std.specs.Io.KnownBytes.{Appends}
use Rattle.relay_base.specs.Streams.{AppendedPart}
use Rattle.chain_text.proofs.LineLemmas.{from-start}
use Rattle.chain_text.proofs.running.run_chain.Goals as goal

pub returns-clause-ok : goal.returns-clause-ok
returns-clause-ok g c =
    let whole = from-start c.in_ok-chain.chain c.as_slice.result.now c.args.input.now (search rules) (search rules) in
    subst (λ text. OnOk c.write_run.result (Appends (g.K.Sink.held c.args.out.now) (g.K.Sink.held c.write_run.new.out) text)) whole c.write_run.ensures.ok

pub returns-clause-err : goal.returns-clause-err
returns-clause-err g c =
    let whole = from-start c.in_ok-chain.chain c.as_slice.result.now c.args.input.now (search rules) (search rules) in
    subst (λ text. OnErr c.write_run.result (AppendedPart (g.K.Sink.held c.args.out.now) (g.K.Sink.held c.write_run.new.out) text)) whole c.write_run.ensures.err
