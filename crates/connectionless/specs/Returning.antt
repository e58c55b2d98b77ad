-- The return of a unit (Q.714, 4.2), and what else comes of a refusal.
use Rattle.std.specs.Prelude.{ℕ, ◌==◌, ◌&&◌, nat_le, not, Bool, true, false, List, if◌then◌else◌, Option, Some, None, Ok, Err, unwrap_or}
use Rattle.std.specs.declared.result.Result.{Result}
use Rattle.relay_base.specs.declared.words.Output.{Output}
use Rattle.relay_base.specs.declared.words.Output.TheVariants.{Lost as Dropped}
use Rattle.relay_base.specs.declared.words.Lost.TheVariants.{Cause}
use Rattle.sccp_address.specs.Form.{Form}
use Rattle.sccp_address.specs.Parsing.{address_of}
use Rattle.sccp_address.specs.declared.address.AddressFault.{AddressFault}
use Rattle.plant_core.specs.declared.answer.TheConstants.{MOST_HOPS}
use Rattle.reassembly.specs.declared.piece.Piece.{Piece}
use Rattle.connectionless.specs.declared.unitdata.Kind.TheVariants.{Extended}
use Rattle.connectionless.specs.Unitdata.{Unitdata, with_hop}
use Rattle.connectionless.specs.Leaving.{leaving_octets, sent_or}

-- Called and calling change places, the cause stands in the place of the class octet, and the hop counter begins anew (Q.714, 4.2; Q.713, 3.12 and 3.18).
abbrev pub returned : ℕ → Unitdata → Unitdata
returned cause x = record x { is_service = true; first = cause; hop = Some MOST_HOPS; called = x.calling; calling = x.called }

-- the point that an address names, where it routes on its subsystem number and the point isn't the own one
abbrev pub point_named : ℕ → Form → Option ℕ
point_named own a = if a.on_ssn && not (unwrap_or a.point own == own) then a.point else None

abbrev pub point_in : ℕ → Result Form AddressFault → Option ℕ
point_in own (Ok a) = point_named own a
point_in own (Err fault) = None

-- it goes to the point that the calling address names, or else to the origin
abbrev pub return_point : ℕ → ℕ → List ℕ → ℕ
return_point own opc calling = unwrap_or (point_in own (address_of calling)) opc

-- a return that can't leave is lost
abbrev pub return_output : ℕ → ℕ → ℕ → ℕ → Unitdata → Output
return_output own opc sls cause x =
    sent_or (return_point own opc x.calling) sls (Dropped (Cause cause)) (leaving_octets (returned cause x))

-- bit 8 of the class octet asks for return (Q.713, 3.6)
abbrev pub asks_return : Unitdata → Bool
asks_return x = not x.is_service && nat_le 128 x.first

-- a refused unit is returned where it asked that, and else it is lost, as a service message is (Q.714, 4.2)
unfoldable pub refusal_output : ℕ → ℕ → ℕ → ℕ → Unitdata → Output
refusal_output own opc sls cause x =
    if asks_return x then return_output own opc sls cause x else Dropped (Cause cause)

-- the unit that a segment is
abbrev pub unit_in : Piece → Unitdata
unit_in p = with_hop Extended false p.class_octet MOST_HOPS p.called p.calling p.body (Some p.segmentation) p.importance
