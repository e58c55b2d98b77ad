-- What the words of a line state is in its ranges.
use Rattle.std.proofs.Common.{◌≡◌, ℕ, ◌+◌, ◌-◌, ◌%◌, ◌<◌, ◌≤◌, ◌==◌, ◌||◌, ◌&&◌, nat_lt, nat_le, Bool, true, false, List, [], ◌∷◌, length, if◌then◌else◌, Option, Some, None, Ok, Err, refl, arith}
use Rattle.std.specs.Prelude.{IfSome, IfOk, is_ok}
use Rattle.std.specs.List.{list_any}
use Rattle.std.specs.declared.result.Result.{Result}
use Rattle.std.proofs.lemmas.Bool.{and_parts, leb-true, ltb-true}
use Rattle.std.proofs.lemmas.Bool.Decides.{nat_tests}
use Rattle.hex.specs.Hex.{hex_digit_value, digit_or_error, value_at, pair_value, decode_pairs, decode_of}
use Rattle.hex.specs.declared.error.FromHexError.{FromHexError}
use Rattle.hex.specs.declared.error.FromHexError.TheVariants.{OddLength}
use Rattle.relay_base.proofs.GivingLemmas.{bound}
use Rattle.relay_base.specs.Decimal.{number_of}
use Rattle.relay_base.specs.declared.limits.TheConstants.{LONGEST_GIVEN_ADDRESS, POINT_CODES, SUBSYSTEM_NUMBERS}
use Rattle.sccp_address.specs.Parsing.{address_of}
use Rattle.node_head.proofs.Given.{by_test}
use Rattle.capture_form.specs.Text.{is_dash, hex_of}
use Rattle.capture_form.specs.Words.{or_kind, number_below, below, link_in, link_of, class_in, class_of, user_of, other_point_of, octets_of, address_in, called_of, calling_of, body_of, text_of}
use Rattle.capture_form.specs.declared.fault.LineKind.{LineKind}
use Rattle.capture_form.specs.declared.fault.LineKind.TheVariants.{Number, Hex, Address, Size, User, Point}
use Rattle.printable_law.specs.OctetLaw.{IsOctet, AreOctets}
use Rattle.printable_law.specs.Ranges.{IsPoint}
use Rattle.printable_law.proofs.Lists.{either}

-- Numbers.

number-in : (limit : ℕ) (n : Option ℕ) → IfOk (number_below limit n) (λ n. n < limit)
number-in limit None = tt
number-in limit (Some n) = by_test (λ n. n < limit) (nat_lt n limit) (Ok n) (Err Number) (λ is. ltb-true n limit is) (λ is. tt)

pub below-in : (limit : ℕ) (word : List ℕ) → IfOk (below limit word) (λ n. n < limit)
below-in limit word = number-in limit (number_of word)

linked : (links : ℕ) (n : Option ℕ) → IfOk (link_in links n) (λ n. n ≤ links)
linked links None = tt
linked links (Some n) =
    by_test (λ n. n ≤ links) (nat_le 1 n && nat_le n links) (Ok n) (Err Number) (λ is. leb-true n links (and_parts (nat_le 1 n) (nat_le n links) is).1) (λ is. tt)

pub link-in : (links : ℕ) (word : List ℕ) → IfOk (link_of links word) (λ n. n ≤ links)
link-in links word = linked links (number_of word)

two-or-three : (n : ℕ) → (n == 2 || n == 3) ≡ true → n < 256
two-or-three n is = grind (arith, nat_tests)

classed : (n : Option ℕ) → IfOk (class_in n) IsOctet
classed None = tt
classed (Some n) = by_test IsOctet (n == 2 || n == 3) (Ok n) (Err Number) (λ is. two-or-three n is) (λ is. tt)

pub class-in : (word : List ℕ) → IfOk (class_of word) IsOctet
class-in word = classed (number_of word)

pub user-in : (users word : List ℕ) → IfOk (user_of users word) IsOctet
user-in users word =
    bound IsOctet IsOctet (below SUBSYSTEM_NUMBERS word) _ (below-in SUBSYSTEM_NUMBERS word) (λ ssn small.
    either (λ r. IfOk r IsOctet) (list_any (λ user. user == ssn) users) (Ok ssn) (Err User) small tt)

pub other_point-in : (own : ℕ) (word : List ℕ) → IfOk (other_point_of own word) IsPoint
other_point-in own word =
    bound IsPoint IsPoint (below POINT_CODES word) _ (below-in POINT_CODES word) (λ point small.
    either (λ r. IfOk r IsPoint) (point == own) (Err Point) (Ok point) tt small)

-- Octets.

abbrev IsDigit : Option ℕ → Type 0
IsDigit digit = IfSome digit (λ n. n < 16)

within : (least most c : ℕ) (digit other : Option ℕ) → (c ≤ most → IsDigit digit) → IsDigit other → IsDigit (if nat_le least c && nat_le c most then digit else other)
within least most c digit other small more = by_range (nat_le least c && nat_le c most) (λ is. small (leb-true c most (and_parts (nat_le least c) (nat_le c most) is).1))
  where
    by_range : (t : Bool) → (t ≡ true → IsDigit digit) → IsDigit (if t then digit else other)
    by_range true here = here refl
    by_range false here = more

digit-in : (c : ℕ) → IsDigit (hex_digit_value c)
digit-in c =
    within 65 70 c (Some (c - 55)) _ (λ few. omega (arith, few))
    (within 97 102 c (Some (c - 87)) _ (λ few. omega (arith, few)) (within 48 57 c (Some (c - 48)) None (λ few. omega (arith, few)) tt))

valued : (c i : ℕ) (digit : Option ℕ) → IfSome digit (λ n. n < 16) → IfOk (digit_or_error c i digit) (λ n. n < 16)
valued c i None small = tt
valued c i (Some n) small = small

pair-in : (high low i : ℕ) → IfOk (pair_value high low i) IsOctet
pair-in high low i =
    bound (λ n. n < 16) IsOctet (value_at high i) _ (valued high i (hex_digit_value high) (digit-in high)) (λ h hs.
    bound (λ n. n < 16) IsOctet (value_at low (i + 1)) _ (valued low (i + 1) (hex_digit_value low) (digit-in low)) (λ l ls. omega (arith, hs, ls)))

pairs-in : (i : ℕ) (text : List ℕ) → IfOk (decode_pairs i text) AreOctets
unfolding decode_pairs
pairs-in i [] = tt
pairs-in i (digit ∷ []) = tt
pairs-in i (high ∷ low ∷ rest) =
    bound IsOctet AreOctets (pair_value high low i) _ (pair-in high low i) (λ byte small.
    bound AreOctets AreOctets (decode_pairs (i + 2) rest) _ (pairs-in (i + 2) rest) (λ bytes are. (small, are)))

hex-in : (word : List ℕ) → IfSome (hex_of word) AreOctets
unfolding hex_of
hex-in word = either (λ (o : Option (List ℕ)). IfSome o AreOctets) (is_dash word) (Some []) _ tt (by_result (decode_of word) decoded)
  where
    decoded : IfOk (decode_of word) AreOctets
    decoded = either (λ (r : Result (List ℕ) FromHexError). IfOk r AreOctets) (length word % 2 == 1) (Err OddLength) (decode_pairs 0 word) tt (pairs-in 0 word)

    by_result : (r : Result (List ℕ) FromHexError) → IfOk r AreOctets → IfSome (elim r [ Ok bytes ↦ Some bytes | Err e ↦ None ]) AreOctets
    by_result (Ok bytes) are = are
    by_result (Err e) are = tt

pub kinded : {A : Type 0} (P : A → Type 0) (o : Option A) (kind : LineKind) → IfSome o P → IfOk (or_kind o kind) P
kinded P None kind is = tt
kinded P (Some x) kind is = is

pub octets-in : (word : List ℕ) → IfOk (octets_of word) AreOctets
octets-in word = kinded AreOctets (hex_of word) Hex (hex-in word)

pub called-in : (word : List ℕ) → IfOk (called_of word) AreOctets
called-in word =
    bound AreOctets AreOctets (octets_of word) address_in (octets-in word) (λ octets are.
    either (λ r. IfOk r AreOctets) (is_ok (address_of octets)) (if nat_le (length octets) LONGEST_GIVEN_ADDRESS then Ok octets else Err Size) (Err Address)
    (either (λ r. IfOk r AreOctets) (nat_le (length octets) LONGEST_GIVEN_ADDRESS) (Ok octets) (Err Size) are tt) tt)

pub calling-in : (word : List ℕ) → IfOk (calling_of word) (λ octets. IfSome octets AreOctets)
calling-in word =
    either (λ r. IfOk r (λ octets. IfSome octets AreOctets)) (is_dash word) (Ok None) _ tt
    (bound AreOctets (λ octets. IfSome octets AreOctets) (called_of word) _ (called-in word) (λ octets are. are))

pub body-in : (most : ℕ) (word : List ℕ) → IfOk (body_of most word) AreOctets
body-in most word =
    bound AreOctets AreOctets (octets_of word) _ (octets-in word) (λ octets are.
    either (λ r. IfOk r AreOctets) (nat_le (length octets) most) (Ok octets) (Err Size) are tt)

pub text-in : (most : ℕ) (word : List ℕ) → IfOk (text_of most word) AreOctets
text-in most word =
    bound AreOctets AreOctets (body_of most word) _ (body-in most word) (λ octets are.
    either (λ r. IfOk r AreOctets) (length octets == 0) (Err Size) (Ok octets) tt are)
