use Rattle.std.proofs.Common.{◌≡◌, true, sym, subst, ◌∙◌}
use Rattle.relay_base.specs.declared.words.Event.TheVariants.{Tick}
use Rattle.section_model.specs.Step.{hears}
use Rattle.section_coupling.specs.Duos.{duo_at}
use Rattle.conn_journal.proofs.Ticked.{over_alike, hears_tick}
use Rattle.conn_journal.proofs.kept.Kept.tick.Goals as goal

pub after-requires : goal.after-requires
after-requires c =
    let d = c.self.inside.duo.value in
    let alive = hears_tick (duo_at c.args.now d) (over_alike c.args.now 0 d ∙ c.self.invariant) in
    let told = subst (λ x. hears (duo_at c.args.now x) Tick ≡ true) (sym c.deref.ensures) alive in
    record { hears = subst (λ event. hears (duo_at c.args.now c.deref.result.now) event ≡ true) (sym c.of.ensures) told }
