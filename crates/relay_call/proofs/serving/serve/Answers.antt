use Rattle.std.proofs.Common.{◌∙◌, map, sym, ap, subst, Some, IfErr}
use Rattle.std.specs.Prelude.{string_bytes}
use Rattle.capture_input.specs.Input.{bytes}
use Rattle.relay_call.specs.Inner.Stops.{Stopped}
use Rattle.relay_call.proofs.CommandLemmas.{lines-most}
use Rattle.relay_call.proofs.serving.serve.Goals as goal

pub perform-requires-clause-lines : goal.perform-requires-clause-lines
perform-requires-clause-lines g c κs within =
    λ number lines e. lines-most (map string_bytes c.args.words.now) number lines (sym c.in-Ok-Some.ensures ∙ c.in-Ok-Some.field-0-is ∙ ap Some e)

pub returns-in-Ok-Some-clause-stopped : goal.returns-in-Ok-Some-clause-stopped
returns-in-Ok-Some-clause-stopped g c =
    let read = bytes (g.S.Source.left c.args.source.now) (g.S.Source.left c.perform.new.source) in
    let written = bytes (g.K.Sink.held c.args.out.now) (g.K.Sink.held c.perform.new.out) in
    let stated = sym c.in-Ok-Some.ensures ∙ c.in-Ok-Some.field-0-is in
    subst (λ command. IfErr c.perform.result (Stopped command read written c.perform.new.book)) (sym stated) c.perform.ensures.stopped
