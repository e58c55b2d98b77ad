-- What an LUDT or an LUDTS becomes is short enough, and its segments come together.
use Rattle.std.proofs.Common.{◌≡◌, ℕ, ◌+◌, ◌*◌, ◌≤◌, ◌<◌, Bool, true, false, List, [], ◌∷◌, length, map, take, drop, if◌then◌else◌, refl, sym, ap, ◌∙◌, Option, Some, None, arith}
use Rattle.std.specs.Prelude.{◌&&◌, ◌||◌, nat_le, IfSome}
use Rattle.std.specs.List.{AllByRecursion, range_with_len}
use Rattle.std.proofs.lemmas.Bool.{and_parts, and_from, leb-true, leb-false, true≢false}
use Rattle.std.proofs.lemmas.Bool.Decides.{nat_tests}
use Rattle.relay_base.specs.declared.causes.TheConstants.{RETURN_SEGMENTATION_FAILURE}
use Rattle.relay_base.specs.declared.limits.TheConstants.{LONGEST_PARAMETER}
use Rattle.relay_base.specs.declared.words.Output.TheVariants.{Lost as Dropped}
use Rattle.relay_base.specs.declared.words.Lost.TheVariants.{Cause}
use Rattle.q713_shape.specs.Writing.{octets_of}
use Rattle.q713_codec.specs.Longest.{is_too_long}
use Rattle.q713_codec.specs.Writing.{spelling_of, is_in_range}
use Rattle.q713_codec.specs.declared.longest.TheConstants.{LONGEST}
use Rattle.connectionless.specs.declared.cutting.TheConstants.{SEGMENT_ROOM}
use Rattle.connectionless.specs.declared.unitdata.Kind.{Kind}
use Rattle.connectionless.specs.declared.unitdata.Kind.TheVariants.{Basic, Extended, Long}
use Rattle.connectionless.specs.Unitdata.{Unitdata, with_hop, message_of, message_by}
use Rattle.connectionless.specs.Leaving.{unit_octets, leaving_octets, leaving_by, sent_or}
use Rattle.connectionless.specs.Returning.{returned, return_point, return_output, asks_return, refusal_output}
use Rattle.connectionless.specs.Given.{uncut}
use Rattle.connectionless.specs.Cutting.{Cutting, importance_size, return_bit, segment, segment_size, segment_count, segmentation_octets, can_be_cut, segment_output}
use Rattle.long_interwork.specs.declared.forward.Forward.{Forward}
use Rattle.long_interwork.specs.Shortening.{extended, option_size, is_small, fits, is_entire, cutting, in_one, in_segments, service_shortened, shortened}
use Rattle.unit_law.specs.Short.{IsShort, ShortenedAreShort, IsInSegments, ShortenedComeTogether}
use Rattle.unit_law.proofs.Lengths.{length-segment, length-xudt, length-xudts, xudt-in_range}
use Rattle.unit_law.proofs.Together.{not_long, has_room, least, come_together}

-- What fits is short.

small_parts : (u : Unitdata) → fits u ≡ true → 10 + length u.called + length u.calling + length u.body + option_size u.importance ≤ LONGEST
small_parts u is =
    let small : is_small u ≡ true = (and_parts (is_small u) (is_in_range (message_of u)) is).0 in
    leb-true (10 + length u.called + length u.calling + length u.body + option_size u.importance) LONGEST
    (and_parts (nat_le (length u.body) LONGEST_PARAMETER) (nat_le (10 + length u.called + length u.calling + length u.body + option_size u.importance) LONGEST) small).1

length-one : (service : Bool) (first hop : ℕ) (called calling body : List ℕ) (importance : Option ℕ)
    → length (unit_octets (with_hop Extended service first hop called calling body None importance)) ≡ 10 + length called + length calling + length body + option_size importance
unfolding message_of
length-one true first hop called calling body importance = length-xudts first hop called calling body importance
length-one false first hop called calling body importance = length-xudt first hop called calling body importance

one_short : (to : Forward) (x : Unitdata) → fits (extended to x) ≡ true → is_too_long (unit_octets (extended to x)) ≡ false
one_short to x is =
    not_long (unit_octets (extended to x)) (omega (arith, small_parts (extended to x) is, length-one x.is_service x.first to.hop to.called to.calling x.body x.importance))

-- What leaves is short, or an LUDT or LUDTS.

abbrev AreShort : Option (List ℕ) → Type 0
AreShort octets = IfSome octets (λ bytes. is_too_long bytes ≡ false)

any_long : (long : Bool) → (long && false) ≡ false
any_long true = refl
any_long false = refl

short_by : (in_range short : Bool) (bytes : List ℕ) → (short ≡ true → is_too_long bytes ≡ false) → AreShort (if in_range && short then Some bytes else None)
short_by true true bytes h = h refl
short_by true false bytes h = tt
short_by false short bytes h = tt

long_ones : (service : Bool) (x : Unitdata) → is_too_long (spelling_of (message_by Long service x)) ≡ false
unfolding spelling_of octets_of
long_ones true x = any_long _
long_ones false x = any_long _

leaving_short : (kind : Kind) (service : Bool) (x : Unitdata) → AreShort (leaving_by kind (message_by kind service x))
leaving_short Basic service x =
    short_by (is_in_range (message_by Basic service x)) (false || nat_le (length (spelling_of (message_by Basic service x))) LONGEST) (spelling_of (message_by Basic service x))
    (λ e. not_long (spelling_of (message_by Basic service x)) (leb-true (length (spelling_of (message_by Basic service x))) LONGEST e))
leaving_short Extended service x =
    short_by (is_in_range (message_by Extended service x)) (false || nat_le (length (spelling_of (message_by Extended service x))) LONGEST) (spelling_of (message_by Extended service x))
    (λ e. not_long (spelling_of (message_by Extended service x)) (leb-true (length (spelling_of (message_by Extended service x))) LONGEST e))
leaving_short Long service x =
    short_by (is_in_range (message_by Long service x)) true (spelling_of (message_by Long service x)) (λ e. long_ones service x)

octets_short : (x : Unitdata) → AreShort (leaving_octets x)
unfolding leaving_octets message_of
octets_short x = leaving_short x.kind x.is_service x

or_short : (point sls cause : ℕ) (octets : Option (List ℕ)) → AreShort octets → IsShort (sent_or point sls (Dropped (Cause cause)) octets)
or_short point sls cause None short = tt
or_short point sls cause (Some bytes) short = short

refusal_short : (own opc sls cause : ℕ) (x : Unitdata) → IsShort (refusal_output own opc sls cause x)
unfolding refusal_output
refusal_short own opc sls cause x = by_test (asks_return x)
  where
    by_test : (asks : Bool) → IsShort (if asks then return_output own opc sls cause x else Dropped (Cause cause))
    by_test true = or_short (return_point own opc x.calling) sls cause (leaving_octets (returned cause x)) (octets_short (returned cause x))
    by_test false = tt

-- Segments are short.

segment_short : (c : Cutting) (k : ℕ) → 1 ≤ segment_size c → IsShort (segment_output c k)
unfolding segment_output message_of
segment_short c k some =
    not_long (unit_octets (segment c k))
    (omega (arith, has_room c k some, length-segment (1 + return_bit c.ret) c.hop c.called c.calling (take (segment_size c) (drop (segment_size c * k) c.body)) (segmentation_octets c k) c.importance refl))

segments_short : (c : Cutting) (places : List ℕ) → 1 ≤ segment_size c → AllByRecursion IsShort (map (segment_output c) places)
segments_short c [] some = tt
segments_short c (k ∷ places) some = (segment_short c k some, segments_short c places some)

-- All are.

service_short : (sls : ℕ) (to : Forward) (x : Unitdata) → AllByRecursion IsShort (service_shortened sls to x).outs
service_short sls to x = by_test (fits (extended to x)) refl
  where
    by_test : (fit : Bool) → fits (extended to x) ≡ fit
        → AllByRecursion IsShort (if fit then in_one sls to x else uncut (Dropped (Cause RETURN_SEGMENTATION_FAILURE))).outs
    by_test true is = (one_short to x is, tt)
    by_test false is = (tt, tt)

second_of : (a b : Bool) → (a && b) ≡ true → b ≡ true
second_of a b e = (and_parts a b e).1

pub shortened_short : ShortenedAreShort
unfolding shortened
shortened_short own opc sls to x reference = by_service x.is_service
  where
    by_tests : (one several : Bool) → (is_entire x.segmentation && fits (extended to x)) ≡ one → (is_entire x.segmentation && can_be_cut (cutting sls to x reference)) ≡ several
        → AllByRecursion IsShort (if one then in_one sls to x else if several then in_segments (cutting sls to x reference) else uncut (refusal_output own opc sls RETURN_SEGMENTATION_FAILURE x)).outs
    by_tests true several is cut = (one_short to x (second_of (is_entire x.segmentation) (fits (extended to x)) is), tt)
    by_tests false true is cut =
        segments_short (cutting sls to x reference) (range_with_len 0 (segment_count (cutting sls to x reference)))
        (least (cutting sls to x reference) (second_of (is_entire x.segmentation) (can_be_cut (cutting sls to x reference)) cut))
    by_tests false false is cut = (refusal_short own opc sls RETURN_SEGMENTATION_FAILURE x, tt)

    by_service : (service : Bool)
        → AllByRecursion IsShort (if service then service_shortened sls to x else if is_entire x.segmentation && fits (extended to x) then in_one sls to x else if is_entire x.segmentation && can_be_cut (cutting sls to x reference) then in_segments (cutting sls to x reference) else uncut (refusal_output own opc sls RETURN_SEGMENTATION_FAILURE x)).outs
    by_service true = service_short sls to x
    by_service false = by_tests (is_entire x.segmentation && fits (extended to x)) (is_entire x.segmentation && can_be_cut (cutting sls to x reference)) refl refl

-- What is cut has more data than a segment holds, since it doesn't fit one message.

small_enough : (first hop : ℕ) (called calling body : List ℕ) (importance : Option ℕ) → length called + length calling + length body + importance_size importance ≤ SEGMENT_ROOM
    → is_small (with_hop Extended false first hop called calling body None importance) ≡ true
small_enough first hop called calling body None few = grind (arith, nat_tests)
small_enough first hop called calling body (Some level) few = grind (arith, nat_tests)

fits_one : (first hop : ℕ) (called calling body : List ℕ) (importance : Option ℕ) → length called + length calling + length body + importance_size importance ≤ SEGMENT_ROOM
    → fits (with_hop Extended false first hop called calling body None importance) ≡ true
unfolding message_of
fits_one first hop called calling body importance few =
    and_from _ _ (small_enough first hop called calling body importance few) (xudt-in_range first hop called calling body importance few)

more_data : (sls : ℕ) (to : Forward) (x : Unitdata) (reference : ℕ) → x.is_service ≡ false → 1 ≤ segment_size (cutting sls to x reference) → fits (extended to x) ≡ false
    → segment_size (cutting sls to x reference) < length x.body
more_data sls to x reference unit some unfit = by_test (nat_le (length x.body) (segment_size (cutting sls to x reference))) refl
  where
    by_test : (few : Bool) → nat_le (length x.body) (segment_size (cutting sls to x reference)) ≡ few → segment_size (cutting sls to x reference) < length x.body
    by_test true is =
        let few : length x.body ≤ segment_size (cutting sls to x reference) = leb-true (length x.body) (segment_size (cutting sls to x reference)) is in
        let fit : fits (extended to x) ≡ true =
        ap (λ service. fits (with_hop Extended service x.first to.hop to.called to.calling x.body None x.importance)) unit
        ∙ fits_one x.first to.hop to.called to.calling x.body x.importance (omega arith) in
        absurd (true≢false (sym fit ∙ unfit))
    by_test false is = leb-false (length x.body) (segment_size (cutting sls to x reference)) is

never : (sls : ℕ) (to : Forward) (x : Unitdata) → (service_shortened sls to x).is_cut ≡ false
never sls to x = by_test (fits (extended to x))
  where
    by_test : (fit : Bool) → (if fit then in_one sls to x else uncut (Dropped (Cause RETURN_SEGMENTATION_FAILURE))).is_cut ≡ false
    by_test true = refl
    by_test false = refl

first_of : (a b : Bool) → (a && b) ≡ true → a ≡ true
first_of a b e = (and_parts a b e).0

unfit : (entire fit : Bool) → entire ≡ true → (entire && fit) ≡ false → fit ≡ false
unfit true fit e none = none
unfit false fit e none = cc

pub shortened_together : ShortenedComeTogether
unfolding shortened
shortened_together own opc sls to x reference ssn class = by_tests x.is_service (is_entire x.segmentation && fits (extended to x)) (is_entire x.segmentation && can_be_cut (cutting sls to x reference)) refl refl refl
  where
    by_tests : (service one several : Bool) → x.is_service ≡ service → (is_entire x.segmentation && fits (extended to x)) ≡ one → (is_entire x.segmentation && can_be_cut (cutting sls to x reference)) ≡ several
        → (if service then service_shortened sls to x else if one then in_one sls to x else if several then in_segments (cutting sls to x reference) else uncut (refusal_output own opc sls RETURN_SEGMENTATION_FAILURE x)).is_cut ≡ true
        → IsInSegments own opc sls to x reference ssn
    by_tests true one several is fit cuttable cut = absurd (true≢false (sym cut ∙ never sls to x))
    by_tests false true several is fit cuttable cut = absurd (true≢false (sym cut))
    by_tests false false false is fit cuttable cut = absurd (true≢false (sym cut))
    by_tests false false true is fit cuttable cut =
        let can : can_be_cut (cutting sls to x reference) ≡ true = second_of (is_entire x.segmentation) (can_be_cut (cutting sls to x reference)) cuttable in
        let entire : is_entire x.segmentation ≡ true = first_of (is_entire x.segmentation) (can_be_cut (cutting sls to x reference)) cuttable in
        let none : fits (extended to x) ≡ false = unfit (is_entire x.segmentation) (fits (extended to x)) entire fit in
        record {
          unit = is;
          outputs = rw (fit, cuttable, is) refl;
          together = come_together (cutting sls to x reference) own ssn (record { class = class; cuttable = can; size = more_data sls to x reference is (least (cutting sls to x reference) can) none });
        }
