-- Data that leave in segments (Q.714, 4.1.1).
use Rattle.std.specs.Prelude.{ℕ, ◌+◌, ◌-◌, ◌*◌, ◌/◌, ◌==◌, ◌&&◌, nat_le, Bool, false, List, ◌∷◌, length, map, take, drop, if◌then◌else◌, Option, Some, None}
use Rattle.std.specs.List.{range_with_len}
use Rattle.relay_base.specs.declared.words.Output.{Output}
use Rattle.relay_base.specs.declared.words.Output.TheVariants.{Sent}
use Rattle.q713_codec.specs.Messages.{octets3}
use Rattle.connectionless.specs.declared.cutting.TheConstants.{MOST_SEGMENTS, SEGMENT_ROOM}
use Rattle.connectionless.specs.declared.unitdata.Kind.TheVariants.{Extended}
use Rattle.connectionless.specs.Unitdata.{Unitdata, with_hop}
use Rattle.connectionless.specs.Leaving.{unit_octets}

-- What is cut: the point and the link selection that it leaves for, the data with their class, and what all segments have in common.
pub record Cutting : Type 0 where
  pub point : ℕ
  pub sls : ℕ
  pub class : ℕ
  pub ret : Bool
  pub hop : ℕ
  pub called : List ℕ
  pub calling : List ℕ
  pub body : List ℕ
  pub importance : Option ℕ
  pub reference : ℕ

-- bit 8 of the class octet (Q.713, 3.6)
abbrev pub return_bit : Bool → ℕ
return_bit ret = if ret then 128 else 0

-- the octets of an importance with its name and its length (Q.713, 3.19)
abbrev pub importance_size : Option ℕ → ℕ
importance_size None = 0
importance_size (Some level) = 3

-- the octets of data in a full segment (Q.713, 4.18), and how many segments there are
abbrev pub segment_size : Cutting → ℕ
segment_size c = SEGMENT_ROOM - length c.called - length c.calling - importance_size c.importance

abbrev pub segment_count : Cutting → ℕ
segment_count c = (length c.body + segment_size c - 1) / segment_size c

-- the most segments hold the data
abbrev pub can_be_cut : Cutting → Bool
can_be_cut c = nat_le 1 (segment_size c) && nat_le (length c.body) (MOST_SEGMENTS * segment_size c)

-- the first segment has bit 8; bit 7 is the class of the data, and bits 4 to 1 tell how many segments remain (Q.713, 3.17)
abbrev pub segmentation_octets : Cutting → ℕ → List ℕ
segmentation_octets c k =
    ((if k == 0 then 128 else 0) + 64 * c.class + (segment_count c - 1 - k)) ∷ octets3 c.reference

-- the segment at place k, from 0: an XUDT of class 1 (Q.714, 4.1.1)
abbrev pub segment : Cutting → ℕ → Unitdata
segment c k =
    with_hop Extended false (1 + return_bit c.ret) c.hop c.called c.calling
    (take (segment_size c) (drop (segment_size c * k) c.body))
    (Some (segmentation_octets c k)) c.importance

unfoldable pub segment_output : Cutting → ℕ → Output
segment_output c k = Sent c.point c.sls (unit_octets (segment c k))

abbrev pub segment_outputs : Cutting → List Output
segment_outputs c = map (segment_output c) (range_with_len 0 (segment_count c))
