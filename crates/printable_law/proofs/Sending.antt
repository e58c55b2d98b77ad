-- What comes of a unit is in its ranges.
use Rattle.std.proofs.Common.{◌≡◌, ℕ, ◌+◌, ◌-◌, ◌*◌, ◌≤◌, ◌<◌, ◌==◌, ◌&&◌, nat_lt, nat_le, not, Bool, true, false, List, [], ◌∷◌, length, drop, if◌then◌else◌, Option, Some, None, is_none, Ok, Err, refl, arith}
use Rattle.std.specs.Prelude.{IfSome, IfOk, unwrap_or}
use Rattle.std.specs.declared.result.Result.{Result}
use Rattle.std.specs.List.{range_with_len}
use Rattle.std.proofs.Math.Nat.{div-le_of_le-mul}
use Rattle.std.proofs.lemmas.Bool.{and_parts, leb-true, ltb-false}
use Rattle.relay_base.specs.declared.causes.TheConstants.{RETURN_SEGMENTATION_FAILURE, RETURN_UNQUALIFIED}
use Rattle.relay_base.specs.declared.words.Lost.TheVariants.{Cause}
use Rattle.relay_base.specs.declared.words.Output.{Output}
use Rattle.relay_base.specs.declared.words.Output.TheVariants.{Lost as Dropped}
use Rattle.sccp_address.specs.Form.{Form}
use Rattle.sccp_address.specs.Parsing.{address_of}
use Rattle.sccp_address.specs.Spelling.{address_spelling}
use Rattle.sccp_address.specs.declared.address.AddressFault.{AddressFault}
use Rattle.plant_core.specs.Causes.{return_code}
use Rattle.plant_core.specs.declared.answer.Answer.{Answer}
use Rattle.plant_core.specs.declared.answer.Answer.TheVariants.{Local, Forward as Onward, Refused}
use Rattle.plant_core.specs.declared.answer.Rewrite.{Rewrite}
use Rattle.plant_core.specs.declared.answer.RouteCause.{RouteCause}
use Rattle.plant_core.specs.declared.answer.RouteCause.TheVariants.{NoNature, NoAddress, PointBarred, SubsystemBarred, Unequipped, Hop}
use Rattle.plant_core.proofs.AddressLengths.{length-called_onward}
use Rattle.connectionless.specs.declared.cutting.TheConstants.{MOST_SEGMENTS}
use Rattle.connectionless.specs.declared.segment.Next.{Next}
use Rattle.connectionless.specs.declared.segment.Next.TheVariants.{Done, Gather}
use Rattle.connectionless.specs.declared.segment.Segment.{Segment}
use Rattle.connectionless.specs.declared.unitdata.Kind.{Kind}
use Rattle.connectionless.specs.declared.unitdata.Kind.TheVariants.{Basic, Extended, Long}
use Rattle.connectionless.specs.Unitdata.{Unitdata, message_by, message_of, class_of}
use Rattle.connectionless.specs.Leaving.{can_leave, leaving_octets, unit_octets, sent_or, is_long}
use Rattle.connectionless.specs.Returning.{returned, point_named, point_in, return_point, return_output, asks_return, refusal_output}
use Rattle.connectionless.specs.Cutting.{Cutting, return_bit, segment_size, segment_count, can_be_cut, segment, segment_output, segment_outputs}
use Rattle.connectionless.specs.Given.{Given, Outgoing, Sending, is_cut, whole, whole_output, sent_outputs, refused_by, given_outcome, outgoing, uncut}
use Rattle.connectionless.specs.Given as given
use Rattle.connectionless.specs.Routed.{Outcome, told_by, segmentation_by, segmentation_in, delivery_by, delivery, with_origin_by, calling_with_origin, calling_by, forwarded, forward_output, unit_outcome}
use Rattle.connectionless.specs.Asking.{is_of_wrong_class}
use Rattle.long_interwork.specs.declared.forward.Forward.{Forward}
use Rattle.long_interwork.specs.Shortening.{extended, fits, is_entire, cutting, in_one, in_segments, unit_shortened, service_shortened, shortened}
use Rattle.long_interwork.specs.Routed.{Routed, forward_of, forward_in, routed_by, routed}
use Rattle.plant_core.specs.Plant.{is_among}
use Rattle.printable_law.specs.OctetLaw.{IsOctet, AreOctets, HasOctets, IsForm, IsRewrite}
use Rattle.printable_law.specs.Ranges.{IsPoint, IsSelection, AnswerInRange, TellInRange, OutputInRange, OutputsInRange}
use Rattle.printable_law.proofs.Addresses.{address-read, address-written, addresses_have_octets}
use Rattle.printable_law.proofs.Lists.{either, all-given, all-take, all-drop}
use Rattle.printable_law.proofs.Management.{management_keeps_ranges}
use Rattle.printable_law.proofs.Spelling.{spelling-octets}
use Rattle.printable_law.proofs.Units.{UnitInRange, GivenInRange}

-- What leaves.

hop-small : (hop : Option ℕ) → IfSome hop IsOctet → IsOctet (unwrap_or hop 0)
hop-small None small = omega arith
hop-small (Some hop) small = small

message-octets : (kind : Kind) (service : Bool) (x : Unitdata) → UnitInRange x → HasOctets (message_by kind service x)
message-octets Basic false x in_range = (in_range.first, in_range.called, in_range.calling, in_range.body)
message-octets Basic true x in_range = (in_range.first, in_range.called, in_range.calling, in_range.body)
message-octets Extended false x in_range = (in_range.first, hop-small x.hop in_range.hop, in_range.called, in_range.calling, in_range.body, in_range.segmentation, in_range.importance)
message-octets Extended true x in_range = (in_range.first, hop-small x.hop in_range.hop, in_range.called, in_range.calling, in_range.body, in_range.segmentation, in_range.importance)
message-octets Long false x in_range = (in_range.first, hop-small x.hop in_range.hop, in_range.called, in_range.calling, in_range.body, in_range.segmentation, in_range.importance)
message-octets Long true x in_range = (in_range.first, hop-small x.hop in_range.hop, in_range.called, in_range.calling, in_range.body, in_range.segmentation, in_range.importance)

pub octets-sent : (x : Unitdata) → UnitInRange x → AreOctets (unit_octets x)
unfolding message_of
octets-sent x in_range = spelling-octets (message_by x.kind x.is_service x) (message-octets x.kind x.is_service x in_range)

octets-leave : (x : Unitdata) → UnitInRange x → IfSome (leaving_octets x) AreOctets
unfolding leaving_octets
octets-leave x in_range =
    either (λ (octets : Option (List ℕ)). IfSome octets AreOctets) (can_leave x.kind (message_of x)) (Some (unit_octets x)) None (octets-sent x in_range) tt

or-other : (point sls : ℕ) (other : Output) (octets : Option (List ℕ)) → IsPoint point → IsSelection sls → OutputInRange other → IfSome octets AreOctets
    → OutputInRange (sent_or point sls other octets)
or-other point sls other None p s given are = given
or-other point sls other (Some octets) p s given are = (p, s, are)

-- A return.

named-point : (own opc : ℕ) (a : Form) → IsPoint opc → IsForm a → IsPoint (unwrap_or (point_named own a) opc)
named-point own opc a p is =
    either (λ point. IsPoint (unwrap_or point opc)) (a.on_ssn && not (unwrap_or a.point own == own)) a.point None (there a.point is.point) p
  where
    there : (point : Option ℕ) → IfSome point IsPoint → IsPoint (unwrap_or point opc)
    there None small = p
    there (Some point) small = small

origin-point : (own opc : ℕ) (r : Result Form AddressFault) → IsPoint opc → IfOk r IsForm → IsPoint (unwrap_or (point_in own r) opc)
origin-point own opc (Ok a) p is = named-point own opc a p is
origin-point own opc (Err fault) p is = p

returned-in : (cause : ℕ) (x : Unitdata) → IsOctet cause → UnitInRange x → UnitInRange (returned cause x)
returned-in cause x small in_range = record {
  first = small;
  hop = omega arith;
  called = in_range.calling;
  calling = in_range.called;
  body = in_range.body;
  segmentation = in_range.segmentation;
  importance = in_range.importance;
}

pub refusal-given : (own opc sls cause : ℕ) (x : Unitdata) → IsPoint opc → IsSelection sls → IsOctet cause → UnitInRange x → OutputInRange (refusal_output own opc sls cause x)
unfolding refusal_output
refusal-given own opc sls cause x p s small in_range =
    either OutputInRange (asks_return x) (return_output own opc sls cause x) (Dropped (Cause cause))
    (or-other (return_point own opc x.calling) sls (Dropped (Cause cause)) (leaving_octets (returned cause x))
    (origin-point own opc (address_of x.calling) p (address-read x.calling in_range.calling)) s small
    (octets-leave (returned cause x) (returned-in cause x small in_range)))
    small

-- A unit that goes on.

with_origin : (opc : ℕ) (octets : List ℕ) (r : Result Form AddressFault) → IsPoint opc → AreOctets octets → IfOk r IsForm → AreOctets (with_origin_by r opc octets)
with_origin opc octets (Ok a) p are is =
    either AreOctets (a.on_ssn && is_none a.point) (address_spelling (record a { point = Some opc })) octets
    (address-written (record a { point = Some opc }) (record { point = p; ssn = is.ssn; title = is.title })) are
with_origin opc octets (Err fault) p are is = are

calling-onward : (service : Bool) (opc : ℕ) (octets : List ℕ) → IsPoint opc → AreOctets octets → AreOctets (calling_by service opc octets)
unfolding calling_with_origin
calling-onward false opc octets p are = with_origin opc octets (address_of octets) p are (address-read octets are)
calling-onward true opc octets p are = are

forwarded-in : (opc : ℕ) (rewrite : Rewrite) (hop : Option ℕ) (x : Unitdata) → IsPoint opc → IsRewrite rewrite → IfSome hop IsOctet → UnitInRange x
    → UnitInRange (forwarded opc rewrite hop x)
forwarded-in opc rewrite hop x p r h in_range = record {
  first = in_range.first;
  hop = h;
  called = addresses_have_octets.onward rewrite x.called r in_range.called;
  calling = calling-onward x.is_service opc x.calling p in_range.calling;
  body = in_range.body;
  segmentation = in_range.segmentation;
  importance = in_range.importance;
}

forward-given : (own opc sls point : ℕ) (rewrite : Rewrite) (hop : Option ℕ) (x : Unitdata) → IsPoint opc → IsSelection sls → IsPoint point → IsRewrite rewrite
    → IfSome hop IsOctet → UnitInRange x → OutputInRange (forward_output own opc sls point rewrite hop x)
unfolding forward_output
forward-given own opc sls point rewrite hop x p s to r h in_range =
    or-other point sls (refusal_output own opc sls RETURN_UNQUALIFIED x) (leaving_octets (forwarded opc rewrite hop x)) to s
    (refusal-given own opc sls RETURN_UNQUALIFIED x p s (omega arith) in_range) (octets-leave (forwarded opc rewrite hop x) (forwarded-in opc rewrite hop x p r h in_range))

-- A unit for a user.

class-small : (x : Unitdata) → IsOctet (class_of x)
class-small x = omega arith

told-given : (service : Bool) (x : Unitdata) → UnitInRange x → TellInRange (told_by service x)
told-given false x in_range = (class-small x, in_range.called, in_range.calling, in_range.body)
told-given true x in_range = (in_range.first, in_range.called, in_range.calling, in_range.body)

pub record SegmentInRange (s : Segment) : Type 0 where
  pub opc : IsPoint s.opc
  pub sls : IsSelection s.sls
  pub class_octet : IsOctet s.class_octet
  pub called : AreOctets s.called
  pub calling : AreOctets s.calling
  pub body : AreOctets s.body
  pub segmentation : AreOctets s.segmentation
  pub importance : IfSome s.importance IsOctet

abbrev pub NextInRange : Next → Type 0
NextInRange Done = Unit {0}
NextInRange (Gather s ssn) = SegmentInRange s × IsOctet ssn

abbrev OutcomeInRange : Outcome → Type 0
OutcomeInRange x = OutputsInRange x.outs × NextInRange x.next

segmentation-octets : (kind : Kind) (service : Bool) (x : Option (List ℕ)) → IfSome x AreOctets → IfSome (segmentation_by kind service x) AreOctets
segmentation-octets Extended false x are = are
segmentation-octets Extended true x are = tt
segmentation-octets Basic service x are = tt
segmentation-octets Long service x are = tt

delivered-given : (segmentation : Option (List ℕ)) (opc sls ssn : ℕ) (x : Unitdata) → IfSome segmentation AreOctets → IsPoint opc → IsSelection sls → IsOctet ssn
    → UnitInRange x → OutcomeInRange (delivery_by segmentation opc sls ssn x)
delivered-given None opc sls ssn x are p s to in_range = (((to, told-given x.is_service x in_range), tt), tt)
delivered-given (Some segmentation) opc sls ssn x are p s to in_range = (
  tt,
  (
    record {
      opc = p;
      sls = s;
      class_octet = in_range.first;
      called = in_range.called;
      calling = in_range.calling;
      body = in_range.body;
      segmentation = are;
      importance = in_range.importance;
    },
    to,
  ),
)

pub cause-small : (cause : RouteCause) → IsOctet (return_code cause)
cause-small NoNature = omega arith
cause-small NoAddress = omega arith
cause-small PointBarred = omega arith
cause-small SubsystemBarred = omega arith
cause-small Unequipped = omega arith
cause-small Hop = omega arith

outcome-given : (own opc sls : ℕ) (x : Unitdata) (answer : Answer) → IsPoint own → IsPoint opc → IsSelection sls → AnswerInRange answer → UnitInRange x
    → OutcomeInRange (unit_outcome own opc sls x answer)
unfolding unit_outcome delivery
outcome-given own opc sls x (Local ssn) o p s a in_range =
    delivered-given (segmentation_in x) opc sls ssn x (segmentation-octets x.kind x.is_service x.segmentation in_range.segmentation) p s a in_range
outcome-given own opc sls x (Onward point rewrite hop) o p s a in_range = ((forward-given own opc sls point rewrite hop x p s a.0 a.1 a.2 in_range, tt), tt)
outcome-given own opc sls x (Refused cause local) o p s a in_range =
    ((refusal-given own opc sls (return_code cause) x p s (cause-small cause) in_range, management_keeps_ranges.told own opc sls local o p s a), tt)

-- Segments.

pub record CuttingInRange (c : Cutting) : Type 0 where
  pub point : IsPoint c.point
  pub sls : IsSelection c.sls
  pub class : c.class ≤ 1
  pub hop : IsOctet c.hop
  pub called : AreOctets c.called
  pub calling : AreOctets c.calling
  pub body : AreOctets c.body
  pub importance : IfSome c.importance IsOctet
  pub few : segment_count c ≤ MOST_SEGMENTS + 1

few-segments : (c : Cutting) → 1 ≤ segment_size c → length c.body ≤ MOST_SEGMENTS * segment_size c → segment_count c ≤ MOST_SEGMENTS + 1
few-segments c some fit = div-le_of_le-mul (segment_size c) {m = length c.body + segment_size c - 1} {n = MOST_SEGMENTS + 1} (omega (arith, some, fit))

first-octet : (first : Bool) (class count k : ℕ) → class ≤ 1 → count ≤ MOST_SEGMENTS + 1 → IsOctet ((if first then 128 else 0) + 64 * class + (count - 1 - k))
first-octet true class count k c few = omega (arith, c, few)
first-octet false class count k c few = omega (arith, c, few)

return-small : (ret : Bool) → 1 + return_bit ret < 256
return-small true = omega arith
return-small false = omega arith

segment-in : (c : Cutting) (k : ℕ) → CuttingInRange c → UnitInRange (segment c k)
segment-in c k in_range = record {
  first = return-small c.ret;
  hop = in_range.hop;
  called = in_range.called;
  calling = in_range.calling;
  body = all-take IsOctet (segment_size c) (drop (segment_size c * k) c.body) (all-drop IsOctet (segment_size c * k) c.body in_range.body);
  segmentation = (first-octet (k == 0) c.class (segment_count c) k in_range.class in_range.few, (omega arith, (omega arith, (omega arith, tt))));
  importance = in_range.importance;
}

segments-given : (c : Cutting) → CuttingInRange c → OutputsInRange (segment_outputs c)
unfolding segment_output
segments-given c in_range =
    all-given OutputInRange (segment_output c) (λ k. (in_range.point, in_range.sls, octets-sent (segment c k) (segment-in c k in_range))) (range_with_len 0 (segment_count c))

-- An LUDT or an LUDTS for a point that can't take it.

abbrev pub SendingInRange : Sending → Type 0
SendingInRange s = OutputsInRange s.outs

pub record ForwardInRange (to : Forward) : Type 0 where
  pub point : IsPoint to.dpc
  pub called : AreOctets to.called
  pub calling : AreOctets to.calling
  pub hop : IsOctet to.hop

one-given : (sls : ℕ) (to : Forward) (x : Unitdata) → IsSelection sls → ForwardInRange to → UnitInRange x → SendingInRange (in_one sls to x)
one-given sls to x s onward in_range = (
  (
    onward.point,
    s,
    octets-sent (extended to x) (record {
      first = in_range.first;
      hop = onward.hop;
      called = onward.called;
      calling = onward.calling;
      body = in_range.body;
      segmentation = tt;
      importance = in_range.importance;
    }),
  ),
  tt,
)

-- the class of a unit that asks
small-class : (service wrong : Bool) (class : ℕ) → service ≡ false → (not service && nat_lt 1 class) ≡ false → class ≤ 1
small-class true wrong class e h = cc
small-class false wrong class e h = ltb-false 1 class h

unit-class : (x : Unitdata) → x.is_service ≡ false → is_of_wrong_class x ≡ false → class_of x ≤ 1
unit-class x e h = small-class x.is_service true (class_of x) e h

cutting-in : (sls : ℕ) (to : Forward) (x : Unitdata) (reference : ℕ) → IsSelection sls → ForwardInRange to → UnitInRange x → class_of x ≤ 1
    → can_be_cut (cutting sls to x reference) ≡ true → CuttingInRange (cutting sls to x reference)
cutting-in sls to x reference s onward in_range class is =
    let c = cutting sls to x reference in
    let both = and_parts (nat_le 1 (segment_size c)) (nat_le (length c.body) (MOST_SEGMENTS * segment_size c)) is in record {
      point = onward.point;
      sls = s;
      class = class;
      hop = onward.hop;
      called = onward.called;
      calling = onward.calling;
      body = in_range.body;
      importance = in_range.importance;
      few = few-segments c (leb-true 1 (segment_size c) both.0) (leb-true (length c.body) (MOST_SEGMENTS * segment_size c) both.1);
    }

unit-given : (own opc sls : ℕ) (to : Forward) (x : Unitdata) (reference : ℕ) → IsPoint opc → IsSelection sls → ForwardInRange to → UnitInRange x → class_of x ≤ 1
    → SendingInRange (unit_shortened own opc sls to x reference)
unit-given own opc sls to x reference p s onward in_range class =
    either SendingInRange (is_entire x.segmentation && fits (extended to x)) (in_one sls to x) _ (one-given sls to x s onward in_range)
    (by_test (is_entire x.segmentation && can_be_cut (cutting sls to x reference)) refl)
  where
    by_test : (several : Bool) → (is_entire x.segmentation && can_be_cut (cutting sls to x reference)) ≡ several
        → SendingInRange (if several then in_segments (cutting sls to x reference) else uncut (refusal_output own opc sls RETURN_SEGMENTATION_FAILURE x))
    by_test true cut =
        segments-given (cutting sls to x reference)
        (cutting-in sls to x reference s onward in_range class (and_parts (is_entire x.segmentation) (can_be_cut (cutting sls to x reference)) cut).1)
    by_test false cut = (refusal-given own opc sls RETURN_SEGMENTATION_FAILURE x p s (omega arith) in_range, tt)

service-given : (sls : ℕ) (to : Forward) (x : Unitdata) → IsSelection sls → ForwardInRange to → UnitInRange x → SendingInRange (service_shortened sls to x)
service-given sls to x s onward in_range =
    either SendingInRange (fits (extended to x)) (in_one sls to x) (uncut (Dropped (Cause RETURN_SEGMENTATION_FAILURE))) (one-given sls to x s onward in_range) (omega arith, tt)

shortened-given : (own opc sls : ℕ) (to : Forward) (x : Unitdata) (reference : ℕ) → IsPoint opc → IsSelection sls → ForwardInRange to → UnitInRange x
    → is_of_wrong_class x ≡ false → SendingInRange (shortened own opc sls to x reference)
unfolding shortened
shortened-given own opc sls to x reference p s onward in_range right = by_service x.is_service refl
  where
    by_service : (service : Bool) → x.is_service ≡ service
        → SendingInRange (if service then service_shortened sls to x else unit_shortened own opc sls to x reference)
    by_service true e = service-given sls to x s onward in_range
    by_service false e = unit-given own opc sls to x reference p s onward in_range (unit-class x e right)

abbrev pub RoutedInRange : Routed → Type 0
RoutedInRange r = OutputsInRange r.outs × NextInRange r.next

forward-in : (short : List ℕ) (opc : ℕ) (x : Unitdata) (answer : Answer) → IsPoint opc → AnswerInRange answer → UnitInRange x
    → IfSome (forward_in short opc x answer) ForwardInRange
forward-in short opc x (Local ssn) p a in_range = tt
forward-in short opc x (Refused cause local) p a in_range = tt
forward-in short opc x (Onward point rewrite hop) p a in_range =
    either (λ (to : Option Forward). IfSome to ForwardInRange) (is_long x.kind && is_among point short) (Some (forward_of opc point rewrite hop x)) None
    (record {
      point = a.0;
      called = addresses_have_octets.onward rewrite x.called a.1 in_range.called;
      calling = calling-onward x.is_service opc x.calling p in_range.calling;
      hop = hop-small hop a.2;
    })
    tt

pub routed-given : (short : List ℕ) (own opc sls : ℕ) (x : Unitdata) (answer : Answer) (reference : ℕ) → IsPoint own → IsPoint opc → IsSelection sls
    → AnswerInRange answer → UnitInRange x → is_of_wrong_class x ≡ false → RoutedInRange (routed short own opc sls x answer reference)
unfolding routed
routed-given short own opc sls x answer reference o p s a in_range right = by_forward (forward_in short opc x answer) (forward-in short opc x answer p a in_range)
  where
    by_forward : (to : Option Forward) → IfSome to ForwardInRange → RoutedInRange (routed_by to own opc sls x answer reference)
    by_forward None onward = outcome-given own opc sls x answer o p s a in_range
    by_forward (Some to) onward = (shortened-given own opc sls to x reference p s onward in_range right, tt)

-- A user's unit.

class-octet : (class : ℕ) (ret : Bool) → class ≤ 1 → IsOctet (class + return_bit ret)
class-octet class true small = omega (arith, small)
class-octet class false small = omega (arith, small)

outgoing-few : (u : Outgoing) → length u.called ≤ 41 → length u.given.calling ≤ 40 → length u.given.body ≤ 2_560 → segment_count (given.cutting u) ≤ MOST_SEGMENTS + 1
outgoing-few u called calling body = few-segments (given.cutting u) (omega (arith, called, calling)) (omega (arith, called, calling, body))

outgoing-given : (u : Outgoing) → GivenInRange u.given → IsPoint u.point → AreOctets u.called → length u.called ≤ 41 → OutputsInRange (sent_outputs u)
unfolding sent_outputs whole_output
outgoing-given u g p called size =
    either OutputsInRange (is_cut u) (segment_outputs (given.cutting u)) (whole_output u ∷ [])
    (segments-given (given.cutting u) (record {
      point = p;
      sls = g.sls;
      class = g.class;
      hop = omega arith;
      called = called;
      calling = g.calling;
      body = g.body;
      importance = tt;
      few = outgoing-few u size g.calling_size g.body_size;
    })) (
      (
        p,
        g.sls,
        octets-sent (whole u) (record {
          first = class-octet u.given.class u.given.ret g.class;
          hop = tt;
          called = called;
          calling = g.calling;
          body = g.body;
          segmentation = tt;
          importance = tt;
        }),
      ),
      tt,
    )

refused-given : (ret : Bool) (cause : ℕ) (g : Given) → IsOctet cause → GivenInRange g → OutputInRange (refused_by ret cause g)
refused-given false cause g small in_range = small
refused-given true cause g small in_range = (in_range.ssn, (small, in_range.calling, in_range.called, in_range.body))

one-octet : (n : ℕ) → n ≤ 1 → IsOctet n
one-octet n small = omega (arith, small)

pub given-given : (g : Given) (answer : Answer) (reference : ℕ) → GivenInRange g → AnswerInRange answer → SendingInRange (given_outcome g answer reference)
unfolding given_outcome
given-given g (Local ssn) reference in_range a = ((a, (one-octet g.class in_range.class, in_range.called, in_range.calling, in_range.body)), tt)
given-given g (Onward point rewrite hop) reference in_range a =
    outgoing-given (outgoing g point rewrite reference) in_range a.0 (addresses_have_octets.onward rewrite g.called a.1 in_range.called)
    (omega (arith, in_range.called_size, length-called_onward rewrite g.called))
given-given g (Refused cause local) reference in_range a = (refused-given g.ret (return_code cause) g (cause-small cause) in_range, tt)
