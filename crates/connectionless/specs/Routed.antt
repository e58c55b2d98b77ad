-- What comes of a unit once routing has answered (Q.714, 4.1).
use Rattle.std.specs.Prelude.{ℕ, ◌&&◌, is_none, Bool, true, false, List, [], ◌∷◌, if◌then◌else◌, Option, Some, None, Ok, Err}
use Rattle.std.specs.declared.result.Result.{Result}
use Rattle.relay_base.specs.declared.causes.TheConstants.{RETURN_UNQUALIFIED}
use Rattle.relay_base.specs.declared.words.Output.{Output}
use Rattle.relay_base.specs.declared.words.Output.TheVariants.{Told}
use Rattle.relay_base.specs.declared.words.Tell.{Tell}
use Rattle.relay_base.specs.declared.words.Tell.TheVariants.{Unit as UnitTold, Notice}
use Rattle.sccp_address.specs.Form.{Form}
use Rattle.sccp_address.specs.Parsing.{address_of}
use Rattle.sccp_address.specs.Spelling.{address_spelling}
use Rattle.sccp_address.specs.declared.address.AddressFault.{AddressFault}
use Rattle.plant_core.specs.declared.answer.Answer.{Answer}
use Rattle.plant_core.specs.declared.answer.Answer.TheVariants.{Local, Forward, Refused}
use Rattle.plant_core.specs.declared.answer.Rewrite.{Rewrite}
use Rattle.plant_core.specs.Rewriting.{called_onward}
use Rattle.plant_core.specs.Causes.{return_code}
use Rattle.connectionless.specs.declared.unitdata.Kind.{Kind}
use Rattle.connectionless.specs.declared.unitdata.Kind.TheVariants.{Basic, Extended, Long}
use Rattle.connectionless.specs.declared.segment.Next.{Next}
use Rattle.connectionless.specs.declared.segment.Next.TheVariants.{Done, Gather}
use Rattle.connectionless.specs.declared.segment.Segment.{Segment}
use Rattle.connectionless.specs.Unitdata.{Unitdata, class_of}
use Rattle.connectionless.specs.Leaving.{leaving_octets, sent_or}
use Rattle.connectionless.specs.Returning.{refusal_output}
use Rattle.scmg_messages.specs.Messages.{status_outputs}

-- What comes of a unit: outputs, and a segment where it is to be put together with others.
pub record Outcome : Type 0 where
  pub outs : List Output
  pub next : Next

abbrev pub done : List Output → Outcome
done outs = record { outs = outs; next = Done }

-- a unit is told as it came, and a service message as a notice
abbrev pub told_by : Bool → Unitdata → Tell
told_by false x = UnitTold (class_of x) x.called x.calling x.body
told_by true x = Notice x.first x.called x.calling x.body

-- an extended unit with a segmentation is a segment (Q.713, 3.17; Q.714, 4.1.1)
abbrev pub segmentation_by : Kind → Bool → Option (List ℕ) → Option (List ℕ)
segmentation_by Extended false segmentation = segmentation
segmentation_by Extended true segmentation = None
segmentation_by Basic is_service segmentation = None
segmentation_by Long is_service segmentation = None

abbrev pub segmentation_in : Unitdata → Option (List ℕ)
segmentation_in x = segmentation_by x.kind x.is_service x.segmentation

abbrev pub segment_of : ℕ → ℕ → Unitdata → List ℕ → Segment
segment_of opc sls x segmentation = record {
  opc = opc;
  sls = sls;
  class_octet = x.first;
  called = x.called;
  calling = x.calling;
  body = x.body;
  segmentation = segmentation;
  importance = x.importance;
}

abbrev pub delivery_by : Option (List ℕ) → ℕ → ℕ → ℕ → Unitdata → Outcome
delivery_by None opc sls ssn x = done (Told ssn (told_by x.is_service x) ∷ [])
delivery_by (Some segmentation) opc sls ssn x = record { outs = []; next = Gather (segment_of opc sls x segmentation) ssn }

-- to a local subsystem
unfoldable pub delivery : ℕ → ℕ → ℕ → Unitdata → Outcome
delivery opc sls ssn x = delivery_by (segmentation_in x) opc sls ssn x

-- a calling address that routes on its subsystem number and names no point gets the point of the origin
abbrev pub with_origin_by : Result Form AddressFault → ℕ → List ℕ → List ℕ
with_origin_by (Ok a) opc octets = if a.on_ssn && is_none a.point then address_spelling (record a { point = Some opc }) else octets
with_origin_by (Err fault) opc octets = octets

unfoldable pub calling_with_origin : ℕ → List ℕ → List ℕ
calling_with_origin opc octets = with_origin_by (address_of octets) opc octets

abbrev pub calling_by : Bool → ℕ → List ℕ → List ℕ
calling_by false opc octets = calling_with_origin opc octets
calling_by true opc octets = octets

-- the same message, with another called address and hop counter, and the calling address of a unit with its origin
abbrev pub forwarded : ℕ → Rewrite → Option ℕ → Unitdata → Unitdata
forwarded opc rewrite hop x =
    record x { called = called_onward rewrite x.called; calling = calling_by x.is_service opc x.calling; hop = hop }

-- where it can't leave, it is as if refused, unqualified (Q.713, 3.12)
unfoldable pub forward_output : ℕ → ℕ → ℕ → ℕ → Rewrite → Option ℕ → Unitdata → Output
forward_output own opc sls point rewrite hop x =
    sent_or point sls (refusal_output own opc sls RETURN_UNQUALIFIED x) (leaving_octets (forwarded opc rewrite hop x))

-- what comes of a unit by the answer to it
unfoldable pub unit_outcome : ℕ → ℕ → ℕ → Unitdata → Answer → Outcome
unit_outcome own opc sls x (Local ssn) = delivery opc sls ssn x
unit_outcome own opc sls x (Forward point rewrite hop) = done (forward_output own opc sls point rewrite hop x ∷ [])
unit_outcome own opc sls x (Refused cause local) =
    done (refusal_output own opc sls (return_code cause) x ∷ status_outputs own opc sls local)
