-- What the words of a line state, or what is wrong with a word.
use Rattle.std.specs.Prelude.{ℕ, ◌==◌, ◌||◌, ◌&&◌, nat_lt, nat_le, codes, Bool, List, [], length, if◌then◌else◌, Option, Some, None, Ok, Err, is_ok}
use Rattle.std.specs.List.{list_any}
use Rattle.std.specs.declared.result.Result.{Result}
use Rattle.relay_base.specs.declared.limits.TheConstants.{LONGEST_GIVEN_ADDRESS, POINT_CODES, SUBSYSTEM_NUMBERS}
use Rattle.relay_base.specs.Giving.{◌>>=◌}
use Rattle.relay_base.specs.Decimal.{number_of}
use Rattle.sccp_address.specs.Parsing.{address_of}
use Rattle.gtt_table.specs.declared.row.Entity.{Entity}
use Rattle.node_head.specs.Entity.{digits_of, entity_of}
use Rattle.capture_form.specs.Text.{same, is_dash, hex_of}
use Rattle.capture_form.specs.declared.fault.LineKind.{LineKind}
use Rattle.capture_form.specs.declared.fault.LineKind.TheVariants.{Number, Hex, Address, Size, Digits, Entity as NoEntity, User, Point}

-- the value, or this kind of fault where there is none
abbrev pub or_kind : {A : Type 0} → Option A → LineKind → Result A LineKind
or_kind None kind = Err kind
or_kind (Some x) kind = Ok x

abbrev pub number_below : ℕ → Option ℕ → Result ℕ LineKind
number_below limit None = Err Number
number_below limit (Some n) = if nat_lt n limit then Ok n else Err Number

-- a number below a limit
abbrev pub below : ℕ → List ℕ → Result ℕ LineKind
below limit word = number_below limit (number_of word)

abbrev pub link_in : ℕ → Option ℕ → Result ℕ LineKind
link_in links None = Err Number
link_in links (Some n) = if nat_le 1 n && nat_le n links then Ok n else Err Number

-- a link, from 1
abbrev pub link_of : ℕ → List ℕ → Result ℕ LineKind
link_of links word = link_in links (number_of word)

abbrev pub class_in : Option ℕ → Result ℕ LineKind
class_in None = Err Number
class_in (Some n) = if n == 2 || n == 3 then Ok n else Err Number

-- a class of connections, 2 or 3
abbrev pub class_of : List ℕ → Result ℕ LineKind
class_of word = class_in (number_of word)

-- the subsystem number of a user
abbrev pub user_of : List ℕ → List ℕ → Result ℕ LineKind
user_of users word = do
  ssn ← below SUBSYSTEM_NUMBERS word
  if list_any (λ user. user == ssn) users then Ok ssn else Err User

-- a point other than the own one
abbrev pub other_point_of : ℕ → List ℕ → Result ℕ LineKind
other_point_of own word = do
  point ← below POINT_CODES word
  if point == own then Err Point else Ok point

-- the digits of a prefix, or a dash for none
abbrev pub prefix_of : List ℕ → Result (List ℕ) LineKind
prefix_of word = if is_dash word then Ok [] else or_kind (digits_of word) Digits

-- where a translation leads
abbrev pub lead_of : ℕ → List ℕ → Result Entity LineKind
lead_of own word = or_kind (entity_of own word) NoEntity

abbrev pub octets_of : List ℕ → Result (List ℕ) LineKind
octets_of word = or_kind (hex_of word) Hex

-- an address that parses, of at most 40 octets
abbrev pub address_in : List ℕ → Result (List ℕ) LineKind
address_in octets =
    if is_ok (address_of octets) then (if nat_le (length octets) LONGEST_GIVEN_ADDRESS then Ok octets else Err Size) else Err Address

abbrev pub called_of : List ℕ → Result (List ℕ) LineKind
called_of word = octets_of word >>= address_in

abbrev pub calling_of : List ℕ → Result (Option (List ℕ)) LineKind
calling_of word = if is_dash word then Ok None else (do
  octets ← called_of word
  Ok (Some octets))

-- at most so many octets
abbrev pub body_of : ℕ → List ℕ → Result (List ℕ) LineKind
body_of most word = do
  octets ← octets_of word
  if nat_le (length octets) most then Ok octets else Err Size

-- one octet or more, and at most so many
abbrev pub text_of : ℕ → List ℕ → Result (List ℕ) LineKind
text_of most word = do
  octets ← body_of most word
  if length octets == 0 then Err Size else Ok octets

-- the word of return on error that is asked
abbrev pub asks_return : List ℕ → Bool
asks_return word = same word (codes "r")

-- a word that says whether return on error is asked
abbrev pub is_return : List ℕ → Bool
is_return word = asks_return word || is_dash word
