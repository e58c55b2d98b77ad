-- The segments of what is cut arrive, and come together.
use Rattle.std.proofs.Common.{◌≡◌, ℕ, ◌+◌, ◌-◌, ◌*◌, ◌/◌, ◌%◌, ◌≤◌, true, false, List, length, take, drop, refl, ap, Option, Some, Ok, arith, length-take}
use Rattle.std.specs.Prelude.{nat_le, nat_lt}
use Rattle.std.proofs.lemmas.Bool.{and_parts, leb-true}
use Rattle.std.proofs.lemmas.Bool.Decides.{nat_tests}
use Rattle.relay_base.specs.declared.words.Output.TheVariants.{Told}
use Rattle.relay_base.specs.declared.words.Tell.TheVariants.{Unit as UnitTold}
use Rattle.q713_codec.specs.Longest.{is_too_long}
use Rattle.q713_codec.specs.Names.{Message}
use Rattle.q713_codec.specs.Reading.{reading_of}
use Rattle.q713_codec.specs.Writing.{spelling_of}
use Rattle.q713_codec.specs.declared.longest.TheConstants.{LONGEST}
use Rattle.q713_codec.specs.declared.message.Message.TheVariants.{Xudt}
use Rattle.q713_codec.proofs.ReadBack.{reads_back}
use Rattle.connectionless.specs.declared.cutting.TheConstants.{MOST_SEGMENTS, SEGMENT_ROOM}
use Rattle.connectionless.specs.Unitdata.{unitdata_of, message_of}
use Rattle.connectionless.specs.Leaving.{unit_octets}
use Rattle.connectionless.specs.Routed.{delivery}
use Rattle.connectionless.specs.Asking.{message_in}
use Rattle.connectionless.specs.Cutting.{Cutting, importance_size, return_bit, segment, segment_size, segment_count, segmentation_octets, can_be_cut}
use Rattle.connectionless.proofs.Ranges.{segment-in_range}
use Rattle.data_lane.specs.declared.effect.Work.TheVariants as work
use Rattle.data_lane.specs.Legal.{whole_told}
use Rattle.unit_law.specs.Together.{arrived, work_by_message, piece_at, whole, IsForSegments, SegmentsComeTogether}
use Rattle.unit_law.proofs.Sizes.{counted}
use Rattle.unit_law.proofs.Lengths.{length-segment}
use Rattle.unit_law.proofs.Feeding.{Counts, answered}

-- octets of no more than that many aren't too long
not_more : (n : ℕ) → n ≤ LONGEST → nat_lt LONGEST n ≡ false
not_more n few = grind (arith, nat_tests)

pub not_long : (bytes : List ℕ) → length bytes ≤ LONGEST → is_too_long bytes ≡ false
not_long bytes few = rw (not_more (length bytes) few) refl

arrives : (first hop : ℕ) (called calling body segmentation : List ℕ) (importance : Option ℕ) → length segmentation ≡ 4
    → length called + length calling + length body + importance_size importance ≤ SEGMENT_ROOM
    → message_in (spelling_of (Xudt first hop called calling body (Some segmentation) importance)) ≡ Ok (Xudt first hop called calling body (Some segmentation) importance)
unfolding message_in
arrives first hop called calling body segmentation importance four few =
    let message : Message = Xudt first hop called calling body (Some segmentation) importance in
    let short : is_too_long (spelling_of message) ≡ false =
    not_long (spelling_of message) (omega (arith, few, length-segment first hop called calling body segmentation importance four)) in
    let reads : reading_of (spelling_of message) ≡ Ok message =
    reads_back message (tt, refl) (segment-in_range first hop called calling body segmentation importance few four) in
    rw (short, reads) refl

-- the data of a segment have room
pub has_room : (c : Cutting) (k : ℕ) → 1 ≤ segment_size c
    → length c.called + length c.calling + length (take (segment_size c) (drop (segment_size c * k) c.body)) + importance_size c.importance ≤ SEGMENT_ROOM
has_room c k some = omega (arith, length-take (segment_size c) (drop (segment_size c * k) c.body))

arrive : (c : Cutting) (opc ssn k : ℕ) → 1 ≤ segment_size c → arrived opc c.sls ssn (unit_octets (segment c k)) ≡ work.Segment (piece_at c opc ssn k)
unfolding message_of unitdata_of delivery
arrive c opc ssn k some =
    ap (work_by_message opc c.sls ssn)
    (arrives (1 + return_bit c.ret) c.hop c.called c.calling (take (segment_size c) (drop (segment_size c * k) c.body)) (segmentation_octets c k) c.importance refl (has_room c k some))

pub least : (c : Cutting) → can_be_cut c ≡ true → 1 ≤ segment_size c
least c cuttable = leb-true 1 (segment_size c) (and_parts (nat_le 1 (segment_size c)) (nat_le (length c.body) (MOST_SEGMENTS * segment_size c)) cuttable).0

most : (c : Cutting) → can_be_cut c ≡ true → length c.body ≤ MOST_SEGMENTS * segment_size c
most c cuttable =
    leb-true (length c.body) (MOST_SEGMENTS * segment_size c) (and_parts (nat_le 1 (segment_size c)) (nat_le (length c.body) (MOST_SEGMENTS * segment_size c)) cuttable).1

counts : (c : Cutting) → IsForSegments c → Counts c
counts c is = (is.class, counted (segment_size c) (length c.body) (least c is.cuttable) is.size (most c is.cuttable))

class_told : (class left : ℕ) → class ≤ 1 → left ≤ 15 → (128 + 64 * class + left) / 64 % 2 ≡ class
class_told class left few small = omega arith

told : (c : Cutting) (opc ssn : ℕ) → Counts c → whole_told (whole c opc ssn) ≡ Told ssn (UnitTold c.class c.called c.calling c.body)
told c opc ssn counts =
    ap (λ class. Told ssn (UnitTold class c.called c.calling c.body)) (class_told c.class (segment_count c - 1 - 0) counts.0 (omega (arith, counts.1.most)))

pub come_together : SegmentsComeTogether
come_together c opc ssn is = record {
  arrive = λ k within. arrive c opc ssn k (least c is.cuttable);
  answered = λ ticks processes none room. answered c opc ssn ticks (counts c is) processes none room;
  told = told c opc ssn (counts c is);
}
