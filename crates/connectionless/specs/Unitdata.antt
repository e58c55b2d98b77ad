-- The six messages of the connectionless service (Q.713, 4.10, 4.11 and 4.18 to 4.21), as one record of their parameters.
use Rattle.std.specs.Prelude.{ℕ, Bool, true, false, List, Option, Some, None, unwrap_or}
use Rattle.q713_codec.specs.Names.{Message}
use Rattle.q713_codec.specs.Messages.{protocol_class}
use Rattle.q713_codec.specs.declared.message.Message.TheVariants.{Udt, Udts, Xudt, Xudts, Ludt, Ludts}
use Rattle.connectionless.specs.declared.unitdata.Kind.{Kind}
use Rattle.connectionless.specs.declared.unitdata.Kind.TheVariants.{Basic, Extended, Long}

-- A unit, or a service message. The first octet is the class octet of a unit, and the return cause of a service message.
pub record Unitdata : Type 0 where
  pub kind : Kind
  pub is_service : Bool
  pub first : ℕ
  pub hop : Option ℕ
  pub called : List ℕ
  pub calling : List ℕ
  pub body : List ℕ
  pub segmentation : Option (List ℕ)
  pub importance : Option ℕ

-- UDT and UDTS have no hop counter and no optional part
abbrev pub basic : Bool → ℕ → List ℕ → List ℕ → List ℕ → Unitdata
basic is_service first called calling body = record {
  kind = Basic;
  is_service = is_service;
  first = first;
  hop = None;
  called = called;
  calling = calling;
  body = body;
  segmentation = None;
  importance = None;
}

abbrev pub with_hop : Kind → Bool → ℕ → ℕ → List ℕ → List ℕ → List ℕ → Option (List ℕ) → Option ℕ → Unitdata
with_hop kind is_service first hop called calling body segmentation importance = record {
  kind = kind;
  is_service = is_service;
  first = first;
  hop = Some hop;
  called = called;
  calling = calling;
  body = body;
  segmentation = segmentation;
  importance = importance;
}

-- the unit or service message that a message is, if it is of the connectionless service
unfoldable pub unitdata_of : Message → Option Unitdata
unitdata_of (Udt class called calling body) = Some (basic false class called calling body)
unitdata_of (Udts cause called calling body) = Some (basic true cause called calling body)
unitdata_of (Xudt class hop called calling body segmentation importance) = Some (with_hop Extended false class hop called calling body segmentation importance)
unitdata_of (Xudts cause hop called calling body segmentation importance) = Some (with_hop Extended true cause hop called calling body segmentation importance)
unitdata_of (Ludt class hop called calling body segmentation importance) = Some (with_hop Long false class hop called calling body segmentation importance)
unitdata_of (Ludts cause hop called calling body segmentation importance) = Some (with_hop Long true cause hop called calling body segmentation importance)
unitdata_of _ = None

-- the message that a unit is
abbrev pub message_by : Kind → Bool → Unitdata → Message
message_by Basic false x = Udt x.first x.called x.calling x.body
message_by Basic true x = Udts x.first x.called x.calling x.body
message_by Extended false x = Xudt x.first (unwrap_or x.hop 0) x.called x.calling x.body x.segmentation x.importance
message_by Extended true x = Xudts x.first (unwrap_or x.hop 0) x.called x.calling x.body x.segmentation x.importance
message_by Long false x = Ludt x.first (unwrap_or x.hop 0) x.called x.calling x.body x.segmentation x.importance
message_by Long true x = Ludts x.first (unwrap_or x.hop 0) x.called x.calling x.body x.segmentation x.importance

unfoldable pub message_of : Unitdata → Message
message_of x = message_by x.kind x.is_service x

-- the class of a unit
abbrev pub class_of : Unitdata → ℕ
class_of x = protocol_class x.first
