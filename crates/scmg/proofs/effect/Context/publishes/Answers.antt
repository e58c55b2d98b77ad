use Rattle.std.proofs.Common.{List, ◌∙◌, ap, sym}
use Rattle.relay_base.specs.declared.words.Output.{Output}
use Rattle.scmg.specs.declared.effect.Effect.{Effect}
use Rattle.scmg.specs.declared.effect.Act.TheVariants.{Publish}
use Rattle.scmg.proofs.KnownLemmas.{known-after}
use Rattle.scmg.proofs.effect.Context.publishes.Goals as goal

pub returns : goal.returns
returns c =
    let effect : List Output → Effect = λ outs. record { outs = outs; act = Publish c.args.group } in
    let head = c.args.self.now.head.now in
    let routing = c.args.self.now.kept.now.control.routing in
    ap effect (c.in_ok-known_by.ensures ∙ sym (known-after head routing c.args.group))
