use Rattle.std.proofs.Common.{◌≡◌, All, length}
use Rattle.gtt_editions.specs.Standing.{IsNewPlace}
use Rattle.gtt_editions.proofs.open.editions.Given as goal

abbrev pub invariant-loop : goal.invariant-loop
invariant-loop g l = (l.publisher ≡ l.initial.publisher) × (length l.list.items ≡ l.counter) × All (IsNewPlace l.publisher) l.list.items
