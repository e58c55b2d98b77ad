use Rattle.std.proofs.Common.{◌≡◌, ◌+◌, map, string_bytes}
use Rattle.capture_generator.proofs.count.Count.text.Given as goal

-- the digits so far
abbrev pub invariant-loop-digit : goal.invariant-loop-digit
invariant-loop-digit l = string_bytes l.text ≡ map (λ digit. 48 + digit.now) l.yielded
