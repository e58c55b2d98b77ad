use Rattle.std.proofs.Common.{◌<◌, not, filter, map, ap, ap₂, sym, subst, ◌∙◌}
use Rattle.std.proofs.lemmas.List.Elements.{All-filter}
use Rattle.relay_base.specs.declared.limits.TheConstants.{POINT_CODES}
use Rattle.timer_wheel.specs.Timers.{Timers, timer_of, is_timer}
use Rattle.scmg.specs.Control.{is_test_of}
use Rattle.scmg.specs.Inner.Tests.{TestsState, test_of}
use Rattle.scmg.proofs.TestLemmas.{AllAt, kept}
use Rattle.scmg.proofs.status_tests.StatusTests.end.Goals as goal

pub invariant_of-self : goal.invariant_of-self
invariant_of-self c =
    let armed = c.self.inside.wheel.armed in
    let due = timer_of c.number.result c.number-2.result in
    let is = ap (λ (t : Timers). t.armed) c.cancel.ensures in
    subst (AllAt (λ point. point < POINT_CODES)) (sym is)
    (All-filter (λ a. not (is_timer due a)) (λ a. a.due.conn < POINT_CODES) armed c.self.invariant)

pub returns : goal.returns
returns c =
    let armed = c.self.inside.wheel.armed in
    let point = c.number.result in
    let ssn = c.number-2.result in
    ap (λ (t : Timers). map test_of t.armed) c.cancel.ensures
    ∙ kept (λ t. not (is_test_of point ssn t)) armed
    ∙ ap₂ (λ point ssn. filter (λ t. not (is_test_of point ssn t)) (map test_of armed)) c.number.ensures.value c.number-2.ensures.value
    ∙ ap (λ (s : TestsState). filter (λ t. not (is_test_of c.args.point c.args.ssn t)) s.tests) c.self.view_is
