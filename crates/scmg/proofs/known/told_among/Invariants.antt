use Rattle.std.proofs.Common.{◌≡◌, ◌++◌, drop}
use Rattle.scmg.specs.Control.{told_among}
use Rattle.scmg.specs.Inner.Known.{told_of}
use Rattle.scmg.proofs.known.told_among.Given as goal

-- with those to come, they are all
abbrev pub invariant-loop-ssn : goal.invariant-loop-ssn
invariant-loop-ssn l = l.outs ++ told_among l.plant.routing l.subject (told_of l.status) (drop l.ssn-index l.users) ≡ told_among l.plant.routing l.subject (told_of l.status) l.users
