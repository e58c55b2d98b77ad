use Rattle.std.proofs.Common.{◌≡◌, ◌+◌, [], replicate}
use Rattle.capture_form.proofs.steps.empty_phase.Given as goal

-- the list of link 0, and one for each link so far
abbrev pub invariant-loop-link : goal.invariant-loop-link
invariant-loop-link l = l.phase ≡ replicate (l._link + 1) []
