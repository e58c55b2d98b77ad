use Rattle.std.proofs.Common.{◌≡◌, ◌<◌, List, All, IfOk, map, filter, ap, sym, subst, ◌∙◌}
use Rattle.relay_base.specs.declared.limits.TheConstants.{POINT_CODES}
use Rattle.plant_core.specs.declared.statuses.RemoteSubsystem.{RemoteSubsystem}
use Rattle.timer_wheel.specs.declared.due.Due.{Due}
use Rattle.scmg.specs.Control.{is_due_test, subsystem_of}
use Rattle.scmg.specs.Inner.Tests.{TestsState, subsystem_at}
use Rattle.scmg.proofs.TestLemmas.{dues-all, due-subsystems}
use Rattle.scmg.proofs.status_tests.StatusTests.due.Goals as goal

pub subsystems_of-requires : goal.subsystems_of-requires
subsystems_of-requires c =
    subst (All (λ (d : Due). d.conn < POINT_CODES)) (sym (c.as_slice.ensures.value ∙ c.in_ok-due.ensures.value))
    (dues-all (λ point. point < POINT_CODES) c.self.inside.wheel.armed c.self.invariant)

pub returns : goal.returns
returns c =
    let armed = c.self.inside.wheel.armed in
    subst (λ (list : List RemoteSubsystem). IfOk c.subsystems_of.result (λ subsystems. subsystems.items ≡ list))
    (ap (map subsystem_at) (c.as_slice.ensures.value ∙ c.in_ok-due.ensures.value) ∙ due-subsystems armed c.in_ok-due.ensures.running
    ∙ ap (λ (s : TestsState). map subsystem_of (filter is_due_test s.tests)) c.self.view_is)
    c.subsystems_of.ensures
