use Rattle.std.proofs.Common.{sym, subst}
use Rattle.std.specs.Prelude.{IsTrue}
use Rattle.section_model.specs.Step.{hears}
use Rattle.section_coupling.specs.Views.{connection_at}
use Rattle.section_coupling.proofs.Arriving.{range-of}
use Rattle.section_coupling.proofs.duo.take.Goals as goal

pub ask-requires-clause-range : goal.ask-requires-clause-range
ask-requires-clause-range c =
    range-of _ _ _ _ c.in-Asked.is (subst (λ e. IsTrue (hears (connection_at c.args.now c.args.pair.now) e)) (sym c.into_parts-arrival.ensures.event) c.requires.hears)
