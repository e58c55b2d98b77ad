use Rattle.section_coupling.specs.Sound.{came_in}
use Rattle.section_coupling.proofs.wire.Wire.by_windows.Given as goal

-- what the windows count
abbrev pub ghost-after : goal.ghost-after
ghost-after a = came_in a.seen.now.windows
