-- An LUDT or LUDTS that goes on to a point which can't take it (Q.714, 4.1.1; Q.713, 4.18 to 4.21). Choices of this node are that one without a
-- segmentation is cut too, that the segments have a reference of this node, and the cause of those that can't be cut.
use Rattle.std.specs.Prelude.{◌≡◌, ℕ, ◌+◌, ◌==◌, ◌&&◌, ◌%◌, nat_le, Bool, true, false, List, [], length, slice_index, if◌then◌else◌, Option, Some, None, IsTrue, IsSome, IfSome}
use Rattle.relay_base.specs.declared.causes.TheConstants.{RETURN_SEGMENTATION_FAILURE}
use Rattle.relay_base.specs.declared.limits.TheConstants.{LONGEST_PARAMETER}
use Rattle.relay_base.specs.declared.words.Output.TheVariants.{Sent, Lost as Dropped}
use Rattle.relay_base.specs.declared.words.Lost.TheVariants.{Cause}
use Rattle.q713_codec.specs.Names.{Message}
use Rattle.q713_codec.specs.Writing.{is_in_range}
use Rattle.q713_codec.specs.declared.longest.TheConstants.{LONGEST}
use Rattle.connectionless.specs.declared.unitdata.Kind.TheVariants.{Extended}
use Rattle.connectionless.specs.Unitdata.{Unitdata, with_hop, message_of, unitdata_of, class_of}
use Rattle.connectionless.specs.Leaving.{is_long, unit_octets}
use Rattle.connectionless.specs.Returning.{asks_return, refusal_output}
use Rattle.connectionless.specs.Cutting.{Cutting, can_be_cut, segment_outputs}
use Rattle.connectionless.specs.Given.{Sending, uncut}
use Rattle.connectionless.specs.Asking.{is_of_wrong_class}
use Rattle.long_interwork.specs.declared.forward.Forward.{Forward}

-- the XUDT or XUDTS in its place: no segmentation, and all else as it goes on
abbrev pub extended : Forward → Unitdata → Unitdata
extended to x = with_hop Extended x.is_service x.first to.hop to.called to.calling x.body None x.importance

-- the octets of an importance and of the end behind it (Q.713, 3.19 and 4.18)
abbrev pub option_size : Option ℕ → ℕ
option_size None = 0
option_size (Some level) = 4

-- its data and its octets are few enough (Q.713, 4.18 and 4.19)
abbrev pub is_small : Unitdata → Bool
is_small u =
    nat_le (length u.body) LONGEST_PARAMETER
    && nat_le (10 + length u.called + length u.calling + length u.body + option_size u.importance) LONGEST

-- one message holds it
abbrev pub fits : Unitdata → Bool
fits u = is_small u && is_in_range (message_of u)

-- it is no part of a longer message: no segmentation, or that of a first segment behind which none remains (Q.713, 3.17)
abbrev pub is_entire : Option (List ℕ) → Bool
is_entire None = true
is_entire (Some octets) = nat_le 128 (slice_index octets 0) && slice_index octets 0 % 16 == 0

-- what is cut: the data have the class of the LUDT, and return is asked where it asked that
abbrev pub cutting : ℕ → Forward → Unitdata → ℕ → Cutting
cutting sls to x reference = record {
  point = to.dpc;
  sls = sls;
  class = class_of x;
  ret = asks_return x;
  hop = to.hop;
  called = to.called;
  calling = to.calling;
  body = x.body;
  importance = x.importance;
  reference = reference;
}

abbrev pub in_one : ℕ → Forward → Unitdata → Sending
in_one sls to x = uncut (Sent to.dpc sls (unit_octets (extended to x)))

abbrev pub in_segments : Cutting → Sending
in_segments c = record { outs = segment_outputs c; is_cut = true }

-- LUDT: one XUDT where that holds it, or else segments where there are enough; what is part of a longer message is refused, as what is too long
abbrev pub unit_shortened : ℕ → ℕ → ℕ → Forward → Unitdata → ℕ → Sending
unit_shortened own opc sls to x reference =
    if is_entire x.segmentation && fits (extended to x) then in_one sls to x
    else if is_entire x.segmentation && can_be_cut (cutting sls to x reference) then in_segments (cutting sls to x reference)
    else uncut (refusal_output own opc sls RETURN_SEGMENTATION_FAILURE x)

-- LUDTS: one XUDTS where that holds it
abbrev pub service_shortened : ℕ → Forward → Unitdata → Sending
service_shortened sls to x =
    if fits (extended to x) then in_one sls to x else uncut (Dropped (Cause RETURN_SEGMENTATION_FAILURE))

-- what comes of it: outputs, and whether it was cut into segments with this reference
unfoldable pub shortened : ℕ → ℕ → ℕ → Forward → Unitdata → ℕ → Sending
shortened own opc sls to x reference =
    if x.is_service then service_shortened sls to x else unit_shortened own opc sls to x reference

-- an LUDT whose class is at most 1, or an LUDTS
pub record IsLongUnit (message : Message) : Type 0 where
  pub unit : IsSome (unitdata_of message)
  pub long : IfSome (unitdata_of message) (λ x. IsTrue (is_long x.kind))
  pub class : IfSome (unitdata_of message) (λ x. is_of_wrong_class x ≡ false)

-- what comes of a message that is one; another one has no outputs
abbrev pub shortened_message : ℕ → ℕ → ℕ → Forward → Option Unitdata → ℕ → Sending
shortened_message own opc sls to None reference = record { outs = []; is_cut = false }
shortened_message own opc sls to (Some x) reference = shortened own opc sls to x reference
