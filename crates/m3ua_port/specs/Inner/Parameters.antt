-- What a clause sees of a parameter, and the Protocol Data that were found.
use Rattle.std.specs.Prelude.{ℕ, ◌==◌, List, Option, Some, None, if◌then◌else◌}
use Rattle.m3ua_port.specs.Frames as frames
use Rattle.m3ua_port.specs.declared.limits.TheConstants.{PROTOCOL_DATA}
use Rattle.m3ua_port.specs.declared.parameters.Parameter.{Parameter}

abbrev pub parameter_seen : Parameter → frames.Parameter
parameter_seen p = record { tag = p.tag; value = p.value.now }

-- those that were found before a parameter, or else its own
abbrev pub found_with : Option (List ℕ) → frames.Parameter → Option (List ℕ)
found_with (Some value) p = Some value
found_with None p = if p.tag == PROTOCOL_DATA then Some p.value else None
