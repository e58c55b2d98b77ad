use Rattle.std.proofs.Common.{[]}
use Rattle.m3ua_port.proofs.port.none_fed.Given as goal

abbrev pub ghost-after : goal.ghost-after
ghost-after a = []
