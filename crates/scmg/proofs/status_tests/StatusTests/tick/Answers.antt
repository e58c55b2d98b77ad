use Rattle.std.proofs.Common.{◌<◌, map, ap, sym, subst, ◌∙◌}
use Rattle.relay_base.specs.declared.limits.TheConstants.{POINT_CODES}
use Rattle.timer_wheel.specs.Timers.{Timers}
use Rattle.scmg.specs.Control.{test_after_tick}
use Rattle.scmg.specs.Inner.Tests.{TestsState, test_of}
use Rattle.scmg.proofs.TestLemmas.{AllAt, ticked, ticked-all}
use Rattle.scmg.proofs.status_tests.StatusTests.tick.Goals as goal

pub invariant_of-self : goal.invariant_of-self
invariant_of-self c =
    let armed = c.self.inside.wheel.armed in
    let most = c.args.ticks.now.status_max in
    let is = ap (λ (t : Timers). t.armed) c.advance_again.ensures.value in
    subst (AllAt (λ point. point < POINT_CODES)) (sym is) (ticked-all (λ point. point < POINT_CODES) most armed c.self.invariant)

pub returns : goal.returns
returns c =
    let armed = c.self.inside.wheel.armed in
    let ticks = c.args.ticks.now in
    ap (λ (t : Timers). map test_of t.armed) c.advance_again.ensures.value
    ∙ ticked ticks armed c.advance_again.ensures.running
    ∙ ap (λ (s : TestsState). map (test_after_tick ticks) s.tests) c.self.view_is
