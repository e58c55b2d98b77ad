-- The formats of the messages (Q.713, 4.2 to 4.21), as one table.
use Rattle.std.specs.Prelude.{ℕ, true, false, List, [], ◌∷◌, ◌++◌, replicate, Option, Some, None}
use Rattle.relay_base.specs.declared.limits.TheConstants.{LONGEST_EXPEDITED, LONGEST_PARAMETER}
use Rattle.q713_shape.specs.declared.rules.VarRule.{VarRule}
use Rattle.q713_shape.specs.Format.{Format}
use Rattle.q713_codec.specs.declared.shapes.TheConstants.{LONG_DATA_OCTETS}

-- the names of the parameters
abbrev pub destination_reference : ℕ
destination_reference = 0x01

abbrev pub source_reference : ℕ
source_reference = 0x02

abbrev pub called_address : ℕ
called_address = 0x03

abbrev pub calling_address : ℕ
calling_address = 0x04

abbrev pub protocol_class : ℕ
protocol_class = 0x05

abbrev pub segmenting : ℕ
segmenting = 0x06

abbrev pub receive_number : ℕ
receive_number = 0x07

abbrev pub sequencing : ℕ
sequencing = 0x08

abbrev pub credit : ℕ
credit = 0x09

abbrev pub release_cause : ℕ
release_cause = 0x0A

abbrev pub return_cause : ℕ
return_cause = 0x0B

abbrev pub reset_cause : ℕ
reset_cause = 0x0C

abbrev pub error_cause : ℕ
error_cause = 0x0D

abbrev pub refusal_cause : ℕ
refusal_cause = 0x0E

abbrev pub user_data : ℕ
user_data = 0x0F

abbrev pub segmentation : ℕ
segmentation = 0x10

abbrev pub hop_counter : ℕ
hop_counter = 0x11

abbrev pub importance : ℕ
importance = 0x12

abbrev pub long_data : ℕ
long_data = 0x13

-- the octets of the fixed part, each with the name of its parameter
abbrev pub to : List ℕ
to = replicate 3 destination_reference

abbrev pub from : List ℕ
from = replicate 3 source_reference

abbrev one : ℕ → List ℕ
one name = name ∷ []

abbrev numbers : List ℕ
numbers = replicate 2 sequencing

-- the variable parameters, with the least and the greatest number of their octets
abbrev pub address : ℕ → VarRule
address name = record { name = name; least = 0; most = LONGEST_PARAMETER }

abbrev pub within : ℕ → ℕ → ℕ → VarRule
within name least most = record { name = name; least = least; most = most }

abbrev unitdata : VarRule → List VarRule
unitdata body = address called_address ∷ address calling_address ∷ body ∷ []

-- a message whose pointers have one octet, and one whose pointers have two
abbrev narrow : ℕ → List ℕ → List VarRule → Option (List ℕ) → Format
narrow kind fixed vars options = record { kind = kind; fixed = fixed; vars = vars; options = options; wide = false }

abbrev wide : ℕ → List ℕ → List VarRule → Option (List ℕ) → Format
wide kind fixed vars options = record { kind = kind; fixed = fixed; vars = vars; options = options; wide = true }

abbrev pub cr_format : Format
cr_format = narrow 0x01 (from ++ one protocol_class) (address called_address ∷ []) (Some (credit ∷ calling_address ∷ user_data ∷ hop_counter ∷ importance ∷ []))

abbrev pub cc_format : Format
cc_format = narrow 0x02 (to ++ from ++ one protocol_class) [] (Some (credit ∷ called_address ∷ user_data ∷ importance ∷ []))

abbrev pub cref_format : Format
cref_format = narrow 0x03 (to ++ one refusal_cause) [] (Some (called_address ∷ user_data ∷ importance ∷ []))

abbrev pub rlsd_format : Format
rlsd_format = narrow 0x04 (to ++ from ++ one release_cause) [] (Some (user_data ∷ importance ∷ []))

abbrev pub rlc_format : Format
rlc_format = narrow 0x05 (to ++ from) [] None

abbrev pub dt1_format : Format
dt1_format = narrow 0x06 (to ++ one segmenting) (within user_data 1 LONGEST_PARAMETER ∷ []) None

abbrev pub dt2_format : Format
dt2_format = narrow 0x07 (to ++ numbers) (within user_data 1 LONGEST_PARAMETER ∷ []) None

abbrev pub ak_format : Format
ak_format = narrow 0x08 (to ++ one receive_number ++ one credit) [] None

abbrev pub udt_format : Format
udt_format = narrow 0x09 (one protocol_class) (unitdata (within user_data 0 LONGEST_PARAMETER)) None

abbrev pub udts_format : Format
udts_format = narrow 0x0A (one return_cause) (unitdata (within user_data 0 LONGEST_PARAMETER)) None

abbrev pub ed_format : Format
ed_format = narrow 0x0B to (within user_data 1 LONGEST_EXPEDITED ∷ []) None

abbrev pub ea_format : Format
ea_format = narrow 0x0C to [] None

abbrev pub rsr_format : Format
rsr_format = narrow 0x0D (to ++ from ++ one reset_cause) [] None

abbrev pub rsc_format : Format
rsc_format = narrow 0x0E (to ++ from) [] None

abbrev pub err_format : Format
err_format = narrow 0x0F (to ++ one error_cause) [] None

abbrev pub it_format : Format
it_format = narrow 0x10 (to ++ from ++ one protocol_class ++ numbers ++ one credit) [] None

abbrev pub xudt_format : Format
xudt_format = narrow 0x11 (one protocol_class ++ one hop_counter) (unitdata (within user_data 0 LONGEST_PARAMETER)) (Some (segmentation ∷ importance ∷ []))

abbrev pub xudts_format : Format
xudts_format = narrow 0x12 (one return_cause ++ one hop_counter) (unitdata (within user_data 0 LONGEST_PARAMETER)) (Some (segmentation ∷ importance ∷ []))

abbrev pub ludt_format : Format
ludt_format = wide 0x13 (one protocol_class ++ one hop_counter) (unitdata (within long_data 0 LONG_DATA_OCTETS)) (Some (segmentation ∷ importance ∷ []))

abbrev pub ludts_format : Format
ludts_format = wide 0x14 (one return_cause ++ one hop_counter) (unitdata (within long_data 0 LONG_DATA_OCTETS)) (Some (segmentation ∷ importance ∷ []))
