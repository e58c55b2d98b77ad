-- The laws of a connection along nodes in a row (Q.714, 3.5): what one user is told are the first of the texts that the other one gave; and between every
-- two neighbours what comes in is what left.
use Rattle.std.specs.Prelude.{◌≡◌, ℕ, ◌+◌, ◌≤◌, true, List, [], ◌∷◌}
use Rattle.std.specs.List.{AllByRecursion}
use Rattle.hop_law.specs.TextLaw.{Begins}
use Rattle.hop_law.specs.Coming.{SendsNoRsr}
use Rattle.chain_step.specs.declared.step.Step.{Step}
use Rattle.chain_step.specs.Fresh.{all_fresh}
use Rattle.chain_step.specs.Run.{RunState, run_of}
use Rattle.passage_law.specs.Nodes.{AreSteps}
use Rattle.passage_law.specs.Trails.{Leg, outs_on, is_user, IsTrail, IsWhole, last_of}
use Rattle.passage_law.specs.Hops.{HopCarries, RunHop}
use Rattle.passage_law.specs.Resets.{RunRsr, RunEnds}
use Rattle.passage_law.specs.Texts.{given_on, told_on}

-- no connection of the trail sent RSR (Q.714, 3.7)
abbrev pub NoneSendsRsr : List Leg → Type 0
NoneSendsRsr legs = AllByRecursion (λ leg. SendsNoRsr (outs_on leg)) legs

-- Of a run in which no node gave one reference twice, of each trail that reaches the other user, and of both users.
abbrev pub TextsAlong : RunState → Type 0
TextsAlong r =
    (leg : Leg) (more : List Leg) →
    (let last = last_of leg more in
    all_fresh r ≡ true → IsTrail r leg more → is_user last.first.that ≡ true → NoneSendsRsr (leg ∷ more) →
    Begins (told_on last) (given_on leg) × Begins (told_on leg) (given_on last))

-- The law, of each run.
abbrev pub TextsKeepOrder : Type 0
TextsKeepOrder = (n : ℕ) (steps : List Step) → AreSteps n steps → 2 ≤ n → TextsAlong (run_of n steps)

-- Between every two neighbours of a trail, what came in at the one is what left at the other.
abbrev pub CarryAlong : RunState → ℕ → Leg → List Leg → Type 0
CarryAlong r i leg [] = Unit {0}
CarryAlong r i leg (next ∷ more) = HopCarries r i leg next × CarryAlong r (i + 1) next more

-- Of each whole trail, as far as it goes.
abbrev pub HopsAlong : RunState → Type 0
HopsAlong r = (leg : Leg) (more : List Leg) → all_fresh r ≡ true → IsTrail r leg more → IsWhole r 1 leg more → NoneSendsRsr (leg ∷ more) → CarryAlong r 1 leg more

-- The law, of each run.
abbrev pub HopsKeepOrder : Type 0
HopsKeepOrder = (n : ℕ) (steps : List Step) → AreSteps n steps → 2 ≤ n → HopsAlong (run_of n steps)

-- A trail that reaches the other user is whole.
abbrev pub UsersEndTrails : Type 0
UsersEndTrails =
    (n : ℕ) (steps : List Step) (leg : Leg) (more : List Leg) → AreSteps n steps → 2 ≤ n →
    (let r = run_of n steps in IsTrail r leg more → is_user (last_of leg more).first.that ≡ true → IsWhole r 1 leg more)

-- Both laws of order follow from the law of one hop, and from where RSR comes from.
abbrev pub OrderOfHops : Type 0
OrderOfHops = RunHop → RunRsr → RunEnds → TextsKeepOrder × HopsKeepOrder
