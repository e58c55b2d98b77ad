use Rattle.std.proofs.Common.{◌≡◌, List, IfOk, ap₂, subst, ◌∙◌}
use Rattle.relay_base.specs.declared.words.Output.{Output}
use Rattle.scmg.specs.Control.{told_among}
use Rattle.scmg.specs.Inner.Known.{told_of}
use Rattle.scmg.proofs.KnownLemmas.{told-in-order}
use Rattle.scmg.proofs.known.told_all.Goals as goal

pub returns : goal.returns
returns c =
    let subject = c.args.subject in
    let tell = told_of c.args.status.now in
    subst (λ (list : List Output). IfOk c.told_among.result (λ outs. outs ≡ list))
    (ap₂ (λ p users. told_among p subject tell users) c.plant.ensures.routing c.users.ensures ∙ told-in-order c.args.kept.now.control.routing subject tell)
    c.told_among.ensures
