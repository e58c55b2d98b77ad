use Rattle.std.proofs.Common.{◌<◌, IsTrue, length, map, ap, ap₂, sym, subst, ◌∙◌, arith}
use Rattle.relay_base.specs.declared.limits.TheConstants.{POINT_CODES}
use Rattle.timer_wheel.specs.Timers.{Timers, timer_of}
use Rattle.scmg.specs.Control.{test_begun, with_test}
use Rattle.scmg.specs.Inner.Tests.{TestsState, test_of}
use Rattle.scmg.proofs.TestLemmas.{AllAt, begun, others-length, room-for, with-all}
use Rattle.scmg.proofs.status_tests.StatusTests.begin.Goals as goal

pub arm_interval-requires : goal.arm_interval-requires
arm_interval-requires c =
    let armed = c.self.inside.wheel.armed in
    let room = room-for (length armed) c.self.inside.wheel.room (subst (λ (s : TestsState). IsTrue s.has_room) (sym c.self.view_is) c.requires) in
    record { room = omega (arith, others-length (timer_of c.number.result c.number-2.result) armed, room) }

pub invariant_of-self : goal.invariant_of-self
invariant_of-self c =
    let armed = c.self.inside.wheel.armed in
    let due = timer_of c.number.result c.number-2.result in
    let is = ap (λ (t : Timers). t.armed) c.arm_interval.ensures in
    subst (AllAt (λ point. point < POINT_CODES)) (sym is)
    (with-all (λ point. point < POINT_CODES) due c.args.interval armed (subst (λ point. point < POINT_CODES) (sym c.number.ensures.value) c.number.ensures.range) c.self.invariant)

pub returns : goal.returns
returns c =
    let armed = c.self.inside.wheel.armed in
    let due = timer_of c.number.result c.number-2.result in
    let n = c.args.interval in
    ap (λ (t : Timers). map test_of t.armed) c.arm_interval.ensures
    ∙ begun due n armed
    ∙ ap₂ (λ point ssn. with_test (test_begun n point ssn) (map test_of armed)) c.number.ensures.value c.number-2.ensures.value
    ∙ ap (λ (s : TestsState). with_test (test_begun n c.args.point c.args.ssn) s.tests) c.self.view_is
