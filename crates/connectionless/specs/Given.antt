-- A user's unit (Q.711, N-UNITDATA request; Q.714, 4.1 and 4.1.1).
use Rattle.std.specs.Prelude.{ℕ, ◌+◌, ◌*◌, ◌%◌, ◌&&◌, nat_le, not, is_ok, unwrap_or, Bool, true, false, List, [], ◌∷◌, length, if◌then◌else◌, Option, Some, None}
use Rattle.relay_base.specs.declared.limits.TheConstants.{LONGEST_GIVEN_ADDRESS, LONGEST_GIVEN_UNIT, LONGEST_PARAMETER, MOST_LANES, REFERENCES}
use Rattle.relay_base.specs.declared.words.Output.{Output}
use Rattle.relay_base.specs.declared.words.Output.TheVariants.{Sent, Told, Lost as Dropped}
use Rattle.relay_base.specs.declared.words.Lost.TheVariants.{Cause}
use Rattle.relay_base.specs.declared.words.Tell.TheVariants.{Unit as UnitTold, Notice}
use Rattle.relay_base.specs.declared.words.Request.{Request}
use Rattle.relay_base.specs.declared.words.Request.TheVariants.{Unit as UnitRequest}
use Rattle.sccp_address.specs.Parsing.{address_of}
use Rattle.sccp_address.specs.Subsystems.{subsystem_address}
use Rattle.plant_core.specs.declared.answer.Answer.{Answer}
use Rattle.plant_core.specs.declared.answer.Answer.TheVariants.{Local, Forward, Refused}
use Rattle.plant_core.specs.declared.answer.Rewrite.{Rewrite}
use Rattle.plant_core.specs.declared.answer.TheConstants.{MOST_HOPS}
use Rattle.plant_core.specs.Causes.{return_code}
use Rattle.q713_codec.specs.declared.longest.TheConstants.{LONGEST}
use Rattle.connectionless.specs.Cutting.{Cutting, return_bit, segment_outputs}
use Rattle.connectionless.specs.Unitdata.{Unitdata, basic}
use Rattle.connectionless.specs.Leaving.{unit_octets}
use Rattle.plant_core.specs.Rewriting.{called_onward}

-- The unit that a user gives, with its calling address.
pub record Given : Type 0 where
  pub ssn : ℕ
  pub sls : ℕ
  pub class : ℕ
  pub ret : Bool
  pub called : List ℕ
  pub calling : List ℕ
  pub body : List ℕ

-- an address that a user may give
abbrev pub is_address : List ℕ → Bool
is_address octets = nat_le (length octets) LONGEST_GIVEN_ADDRESS && is_ok (address_of octets)

abbrev pub is_optional_address : Option (List ℕ) → Bool
is_optional_address None = true
is_optional_address (Some octets) = is_address octets

-- a request that is a unit in its ranges: class 0 or 1, at most 40 octets of an address, and at most 2,560 of data
abbrev pub is_unit_request : Request → Bool
is_unit_request (UnitRequest sls class ret called calling body) =
    nat_le class 1 && is_address called && is_optional_address calling && nat_le (length body) LONGEST_GIVEN_UNIT
is_unit_request _ = false

-- the unit that a request gives; where no calling address is given, it is that of the user's subsystem
abbrev pub given_in : ℕ → Request → Option Given
given_in ssn (UnitRequest sls class ret called calling body) =
    Some (record { ssn = ssn; sls = sls; class = class; ret = ret; called = called; calling = unwrap_or calling (subsystem_address ssn); body = body })
given_in ssn _ = None

-- the unit that a request gives, where it is one in its ranges
unfoldable pub given_of : ℕ → Request → Option Given
given_of ssn request = if is_unit_request request then given_in ssn request else None

-- A unit that goes to another point: its called address as it goes on, the point, and the reference that its segments have.
pub record Outgoing : Type 0 where
  pub given : Given
  pub called : List ℕ
  pub point : ℕ
  pub reference : ℕ

-- the unit as one UDT (Q.713, 4.10)
abbrev pub whole : Outgoing → Unitdata
whole u = basic false (u.given.class + return_bit u.given.ret) u.called u.given.calling u.given.body

-- it is cut into segments unless one UDT holds it (Q.714, 4.1.1)
abbrev pub is_cut : Outgoing → Bool
is_cut u =
    not (nat_le (length u.given.body) LONGEST_PARAMETER
    && nat_le (8 + length u.called + length u.given.calling + length u.given.body) LONGEST)

-- what is cut: it leaves its origin, and has no importance
abbrev pub cutting : Outgoing → Cutting
cutting u = record {
  point = u.point;
  sls = u.given.sls;
  class = u.given.class;
  ret = u.given.ret;
  hop = MOST_HOPS;
  called = u.called;
  calling = u.given.calling;
  body = u.given.body;
  importance = None;
  reference = u.reference;
}

unfoldable pub whole_output : Outgoing → Output
whole_output u = Sent u.point u.given.sls (unit_octets (whole u))

-- its outputs
unfoldable pub sent_outputs : Outgoing → List Output
sent_outputs u = if is_cut u then segment_outputs (cutting u) else whole_output u ∷ []

-- a refused one is told back where that was asked, with its addresses in exchange (Q.714, 4.2)
abbrev pub refused_by : Bool → ℕ → Given → Output
refused_by false cause g = Dropped (Cause cause)
refused_by true cause g = Told g.ssn (Notice cause g.calling g.called g.body)

-- a user of this node is told a unit as it was given
abbrev pub told_output : ℕ → Given → Output
told_output ssn g = Told ssn (UnitTold g.class g.called g.calling g.body)

-- What comes of a unit: outputs, and whether it was cut into segments.
pub record Sending : Type 0 where
  pub outs : List Output
  pub is_cut : Bool

abbrev pub uncut : Output → Sending
uncut output = record { outs = output ∷ []; is_cut = false }

abbrev pub sending : Outgoing → Sending
sending u = record { outs = sent_outputs u; is_cut = is_cut u }

-- the unit that goes on to a point with its called address rewritten
abbrev pub outgoing : Given → ℕ → Rewrite → ℕ → Outgoing
outgoing g point rewrite reference =
    record { given = g; called = called_onward rewrite g.called; point = point; reference = reference }

-- what comes of a user's unit by the answer to it, with the reference of its segments
unfoldable pub given_outcome : Given → Answer → ℕ → Sending
given_outcome g (Local ssn) reference = uncut (told_output ssn g)
given_outcome g (Forward point rewrite hop) reference = sending (outgoing g point rewrite reference)
given_outcome g (Refused cause local) reference = uncut (refused_by g.ret (return_code cause) g)

-- the reference of the segments (Q.713, 3.17) after so many units that were cut in this lane
abbrev pub reference_after : ℕ → ℕ → ℕ
reference_after lane count = (count * MOST_LANES + lane) % REFERENCES
