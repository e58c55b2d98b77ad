-- A message that is read has the lengths of Q.713.
use Rattle.std.proofs.Common.{◌≡◌, ℕ, zero, suc, ◌≤◌, nat_le, List, [], ◌∷◌, length, slice_get, slice_index_or, IfOk, IfSome, refl, subst, arith, leb-true}
use Rattle.std.specs.Prelude.{Option, Some, None, IsTrue}
use Rattle.std.proofs.lemmas.Bool.{and_parts}
use Rattle.relay_base.specs.declared.limits.TheConstants.{LONGEST_DATA, LONGEST_EXPEDITED, LONGEST_PARAMETER}
use Rattle.q713_shape.specs.declared.rules.VarRule.{VarRule}
use Rattle.q713_shape.specs.Format.{Values, is_length_of}
use Rattle.q713_shape.specs.Reading.{values_of}
use Rattle.q713_shape.specs.Writing.{have_lengths, is_option, have_option_lengths}
use Rattle.q713_codec.specs.Formats.{cr_format, cc_format, cref_format, rlsd_format, dt1_format, dt2_format, ed_format, address, within, called_address, calling_address, user_data, credit, hop_counter, importance}
use Rattle.q713_codec.specs.Messages.{cr_of, cc_of, cref_of, rlsd_of, dt1_of, dt2_of, ed_of}
use Rattle.q713_codec.specs.Reading.{Kind, kind_of, kinds, kind_at, message_as, message_by, reading_of}
use Rattle.section_model.specs.Lengths.{IsWithin, IsAddress, IsData, HasLengths, ReadsWithin}
use Rattle.section_model.proofs.ReadLengths.{HaveLengths, values-lengths}
use Rattle.relay_base.proofs.GivingLemmas.{bound}

-- the only variable parameter, and the optional one of a place
only : (rule : VarRule) (values : List (List ℕ)) → 1 ≤ length values → IsTrue (have_lengths (rule ∷ []) values) → IsWithin rule.least rule.most (slice_index_or values 0 [])
only rule [] some h = absurd (omega arith)
only rule (value ∷ values) some h =
    let good = and_parts (is_length_of rule (length value)) (have_lengths [] values) h in
    let both = and_parts (nat_le rule.least (length value)) (nat_le (length value) rule.most) good.0 in
    (leb-true rule.least (length value) both.0, leb-true (length value) rule.most both.1)

option : (names : List ℕ) (values : List (Option (List ℕ))) (place name : ℕ) → slice_get names place ≡ Some name → IsTrue (have_option_lengths names values) → IsTrue (is_option name (slice_index_or values place None))
option [] values place name e h = absurd (cc)
option (first ∷ names) [] place name e h = refl
option (first ∷ names) (value ∷ values) zero name e h =
    let same : first ≡ name = cc in
    subst (λ n. IsTrue (is_option n value)) same (and_parts (is_option first value) (have_option_lengths names values) h).0
option (first ∷ names) (value ∷ values) (suc place) name e h =
    option names values place name e (and_parts (is_option first value) (have_option_lengths names values) h).1

called : (x : Option (List ℕ)) → IsTrue (is_option 0x03 x) → IsAddress x
called None h = tt
called (Some octets) h = leb-true (length octets) LONGEST_PARAMETER h

calling : (x : Option (List ℕ)) → IsTrue (is_option 0x04 x) → IsAddress x
calling None h = tt
calling (Some octets) h = leb-true (length octets) LONGEST_PARAMETER h

data_within : (x : Option (List ℕ)) → IsTrue (is_option 0x0F x) → IsData x
data_within None h = tt
data_within (Some octets) h =
    let both = and_parts (nat_le 1 (length octets)) (nat_le (length octets) LONGEST_DATA) h in
    (leb-true 1 (length octets) both.0, leb-true (length octets) LONGEST_DATA both.1)

-- the message that values are has the lengths, where the values have those of its format
abbrev Reads : Kind → Type 0
Reads kind = (values : Values) → HaveLengths kind.format values → HasLengths (kind.message values)

cr-within : Reads (kind_of cr_format cr_of)
cr-within values h =
    let names : List ℕ = credit ∷ calling_address ∷ user_data ∷ hop_counter ∷ importance ∷ [] in
    let one = only (address called_address) values.vars h.count h.vars in
    (one.1, calling (slice_index_or values.options 1 None) (option names values.options 1 0x04 refl h.options), data_within (slice_index_or values.options 2 None) (option names values.options 2 0x0F refl h.options))

cc-within : Reads (kind_of cc_format cc_of)
cc-within values h =
    let names : List ℕ = credit ∷ called_address ∷ user_data ∷ importance ∷ [] in
    (called (slice_index_or values.options 1 None) (option names values.options 1 0x03 refl h.options), data_within (slice_index_or values.options 2 None) (option names values.options 2 0x0F refl h.options))

cref-within : Reads (kind_of cref_format cref_of)
cref-within values h =
    let names : List ℕ = called_address ∷ user_data ∷ importance ∷ [] in
    (called (slice_index_or values.options 0 None) (option names values.options 0 0x03 refl h.options), data_within (slice_index_or values.options 1 None) (option names values.options 1 0x0F refl h.options))

rlsd-within : Reads (kind_of rlsd_format rlsd_of)
rlsd-within values h = data_within (slice_index_or values.options 0 None) (option (user_data ∷ importance ∷ []) values.options 0 0x0F refl h.options)

dt1-within : Reads (kind_of dt1_format dt1_of)
dt1-within values h = only (within user_data 1 LONGEST_PARAMETER) values.vars h.count h.vars

dt2-within : Reads (kind_of dt2_format dt2_of)
dt2-within values h = only (within user_data 1 LONGEST_PARAMETER) values.vars h.count h.vars

ed-within : Reads (kind_of ed_format ed_of)
ed-within values h = only (within user_data 1 LONGEST_EXPEDITED) values.vars h.count h.vars

-- of each type
abbrev AllRead : List Kind → Type 0
AllRead [] = Unit {0}
AllRead (kind ∷ rest) = Reads kind × AllRead rest

all-read : AllRead kinds
all-read = (
  cr-within,
  (
    cc-within,
    (
      cref-within,
      (
        rlsd-within,
        (
          λ values h. tt,
          (
            dt1-within,
            (
              dt2-within,
              (
                λ values h. tt,
                (
                  λ values h. tt,
                  (
                    λ values h. tt,
                    (ed-within, (λ values h. tt, (λ values h. tt, (λ values h. tt, (λ values h. tt, (λ values h. tt, (λ values h. tt, (λ values h. tt, (λ values h. tt, (λ values h. tt, tt)))))))))),
                  ),
                ),
              ),
            ),
          ),
        ),
      ),
    ),
  ),
)

reads-at : (rest : List Kind) → AllRead rest → (n : ℕ) → IfSome (slice_get rest n) Reads
reads-at [] all n = tt
reads-at (kind ∷ rest) all zero = all.0
reads-at (kind ∷ rest) all (suc n) = reads-at rest all.1 n

reads-kind : (octet : ℕ) → IfSome (kind_at octet) Reads
reads-kind zero = tt
reads-kind (suc n) = reads-at kinds all-read n

message-within : (kind : Option Kind) (octet : ℕ) (b : List ℕ) → IfSome kind Reads → IfOk (message_by kind octet b) HasLengths
unfolding message_as
message-within None octet b reads = tt
message-within (Some kind) octet b reads = bound (HaveLengths kind.format) HasLengths (values_of kind.format b) _ (values-lengths kind.format b) reads

reading-within : (b : List ℕ) → IfOk (reading_of b) HasLengths
unfolding reading_of
reading-within [] = tt
reading-within (octet ∷ rest) = message-within (kind_at octet) octet (octet ∷ rest) (reads-kind octet)

pub read_within : ReadsWithin
read_within b m e = subst (λ r. IfOk r HasLengths) e (reading-within b)
