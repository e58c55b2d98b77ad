use Rattle.std.proofs.Common.{◌++◌}
use Rattle.m3ua_port.proofs.port.fed_with.Given as goal

abbrev pub ghost-after : goal.ghost-after
ghost-after a = a.seen.now.0.now.value ++ a.seen.now.1.now
