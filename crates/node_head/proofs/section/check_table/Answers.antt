use Rattle.std.proofs.Common.{◌∙◌, sym, ap, Err}
use Rattle.node_head.specs.declared.fault.HeadKind.TheVariants.{Unknown}
use Rattle.node_head.specs.Keys.{path}
use Rattle.node_head.specs.Refusals.{fault}
use Rattle.node_head.proofs.HeadLemmas.{fails, known_keys-find, unknown}
use Rattle.node_head.proofs.section.check_table.Goals as goal

pub returns-in-Some : goal.returns-in-Some
returns-in-Some c =
    let place = c.args.place in
    fails _ _ _ c.refuse_at.ensures
    (known_keys-find place c.args.table.now.entries ∙ ap (unknown place) (sym c.in-Some.ensures)
    ∙ ap (λ t. Err (fault Unknown (path place t))) (sym c.as_str.ensures.value))

pub returns-in-None : goal.returns-in-None
returns-in-None c = known_keys-find c.args.place c.args.table.now.entries ∙ ap (unknown c.args.place) (sym c.in-None.ensures)
