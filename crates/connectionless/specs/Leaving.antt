-- What may leave the node (Q.714, 4.1).
use Rattle.std.specs.Prelude.{ℕ, ◌||◌, ◌&&◌, nat_le, Bool, true, false, List, length, if◌then◌else◌, Option, Some, None}
use Rattle.relay_base.specs.declared.words.Output.{Output}
use Rattle.relay_base.specs.declared.words.Output.TheVariants.{Sent}
use Rattle.q713_codec.specs.Names.{Message}
use Rattle.q713_codec.specs.Writing.{spelling_of, is_in_range}
use Rattle.q713_codec.specs.declared.longest.TheConstants.{LONGEST}
use Rattle.connectionless.specs.declared.unitdata.Kind.{Kind}
use Rattle.connectionless.specs.declared.unitdata.Kind.TheVariants.{Basic, Extended, Long}
use Rattle.connectionless.specs.Unitdata.{Unitdata, message_of}

abbrev pub is_long : Kind → Bool
is_long Basic = false
is_long Extended = false
is_long Long = true

-- it can be written, and is no longer than a message may be that isn't a long one (Q.713, 4.10 to 4.21)
abbrev pub can_leave : Kind → Message → Bool
can_leave kind message = is_in_range message && (is_long kind || nat_le (length (spelling_of message)) LONGEST)

abbrev pub leaving_by : Kind → Message → Option (List ℕ)
leaving_by kind message = if can_leave kind message then Some (spelling_of message) else None

-- the octets of a unit, if it may leave
unfoldable pub leaving_octets : Unitdata → Option (List ℕ)
leaving_octets x = leaving_by x.kind (message_of x)

-- the octets of a unit that may leave
abbrev pub unit_octets : Unitdata → List ℕ
unit_octets x = spelling_of (message_of x)

-- it is sent where it may leave, and else there is this output
abbrev pub sent_or : ℕ → ℕ → Output → Option (List ℕ) → Output
sent_or point sls other (Some octets) = Sent point sls octets
sent_or point sls other None = other
