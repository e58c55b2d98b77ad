use Rattle.std.proofs.Common.{◌≡◌}
use Rattle.capture_form.proofs.steps.fitted.Given as goal

-- the events are as before
abbrev pub invariant-loop-link : goal.invariant-loop-link
invariant-loop-link l = l.lists.items ≡ l.initial.lists.items
