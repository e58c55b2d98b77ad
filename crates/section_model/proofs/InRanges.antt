-- The messages of a connection may be written.
use Rattle.std.proofs.Common.{◌-◌, ℕ, ◌+◌, ◌≤◌, ◌==◌, ◌&&◌, nat_le, Bool, true, false, List, [], length, refl, arith, length-append, le-leb, if◌then◌else◌}
use Rattle.std.specs.Prelude.{Option, Some, None, IsTrue}
use Rattle.std.specs.List.{list_all}
use Rattle.std.proofs.lemmas.Bool.{and_from}
use Rattle.section_model.specs.declared.limits.TheConstants.{LONGEST_ADDRESS}
use Rattle.relay_base.specs.declared.limits.TheConstants.{GREATEST_OCTET, LONGEST_DATA, LONGEST_EXPEDITED, LONGEST_PARAMETER}
use Rattle.q713_shape.specs.Format.{is_option_length}
use Rattle.q713_shape.specs.Writing.{have_lengths, is_option, are_options, fits_pointer, pointers, optional_skip_of, are_in_range}
use Rattle.q713_codec.specs.Names.{Message}
use Rattle.q713_codec.specs.declared.message.Message.TheVariants.{Cr, Cc, Cref, Rlsd, Rlc, Dt1, Dt2, Ak, Ed, Ea, Rsr, Rsc, Err as Error, It}
use Rattle.q713_codec.specs.Messages.{format_in, values_of_message, in_one}
use Rattle.q713_codec.specs.Writing.{is_in_range, InRange}
use Rattle.section_model.specs.Lengths.{IsWithin, IsAddress, IsData, WritesWithin}

both : {a b : Bool} → IsTrue a → IsTrue b → IsTrue (a && b)
both {a = a} {b = b} h k = and_from a b h k

-- a message may be written by its lengths and its pointers
in_range : (m : Message) → IsTrue (have_lengths (format_in m).vars (values_of_message m).vars) → IsTrue (are_options (format_in m).options (values_of_message m).options) → IsTrue (list_all (fits_pointer (format_in m).wide) (pointers (format_in m) (values_of_message m))) → InRange m
unfolding is_in_range are_in_range
in_range m lengths options fit = both (both lengths options) fit

-- the optional parameters
one : (name : ℕ) (x : Option ℕ) → IsTrue (is_option_length name 1) → IsTrue (is_option name (in_one x))
one name None h = refl
one name (Some octet) h = h

called-option : (x : Option (List ℕ)) → IsAddress x → IsTrue (is_option 0x03 x)
called-option None h = refl
called-option (Some octets) h = le-leb (length octets) LONGEST_PARAMETER h

calling-option : (x : Option (List ℕ)) → IsAddress x → IsTrue (is_option 0x04 x)
calling-option None h = refl
calling-option (Some octets) h = le-leb (length octets) LONGEST_PARAMETER h

data-option : (x : Option (List ℕ)) → IsData x → IsTrue (is_option 0x0F x)
data-option None h = refl
data-option (Some octets) h = both (le-leb 1 (length octets) h.0) (le-leb (length octets) LONGEST_DATA h.1)

-- the only variable parameter
only : (least most : ℕ) (octets : List ℕ) → IsWithin least most octets → IsTrue ((nat_le least (length octets) && nat_le (length octets) most) && true)
only least most octets h = both (both (le-leb least (length octets) h.0) (le-leb (length octets) most h.1)) refl

-- the pointer of the optional part
skip-fits : (before size : ℕ) → 1 + before ≤ GREATEST_OCTET → IsTrue (fits_pointer false (optional_skip_of before size))
skip-fits before size h = by_test (size == 0)
  where
    by_test : (test : Bool) → IsTrue (fits_pointer false (if test then 0 else 1 + before))
    by_test true = refl
    by_test false = le-leb (1 + before) GREATEST_OCTET (omega arith)

pub cr-in_range : (slr class : ℕ) (called : List ℕ) (credit : Option ℕ) (calling body : Option (List ℕ)) (hop importance : Option ℕ) → length called ≤ LONGEST_ADDRESS - 2 → IsAddress calling → IsData body → InRange (Cr slr class called credit calling body hop importance)
cr-in_range slr class called credit calling body hop importance short address content =
    in_range (Cr slr class called credit calling body hop importance)
    (only 0 LONGEST_PARAMETER called (omega arith, omega arith))
    (both (one 0x09 credit refl) (both (calling-option calling address) (both (data-option body content) (both (one 0x11 hop refl) (both (one 0x12 importance refl) refl)))))
    (both refl (both (skip-fits _ _ (omega (arith, short, length-append called []))) refl))

pub cc-in_range : (dlr slr class : ℕ) (credit : Option ℕ) (called body : Option (List ℕ)) (importance : Option ℕ) → IsAddress called → IsData body → InRange (Cc dlr slr class credit called body importance)
cc-in_range dlr slr class credit called body importance address content =
    in_range (Cc dlr slr class credit called body importance) refl
    (both (one 0x09 credit refl) (both (called-option called address) (both (data-option body content) (both (one 0x12 importance refl) refl))))
    (both (skip-fits 0 _ (omega arith)) refl)

pub cref-in_range : (dlr cause : ℕ) (called body : Option (List ℕ)) (importance : Option ℕ) → IsAddress called → IsData body → InRange (Cref dlr cause called body importance)
cref-in_range dlr cause called body importance address content =
    in_range (Cref dlr cause called body importance) refl
    (both (called-option called address) (both (data-option body content) (both (one 0x12 importance refl) refl)))
    (both (skip-fits 0 _ (omega arith)) refl)

pub rlsd-in_range : (dlr slr cause : ℕ) (body : Option (List ℕ)) (importance : Option ℕ) → IsData body → InRange (Rlsd dlr slr cause body importance)
rlsd-in_range dlr slr cause body importance content =
    in_range (Rlsd dlr slr cause body importance) refl
    (both (data-option body content) (both (one 0x12 importance refl) refl))
    (both (skip-fits 0 _ (omega arith)) refl)

pub dt1-in_range : (dlr segmenting : ℕ) (body : List ℕ) → IsWithin 1 LONGEST_PARAMETER body → InRange (Dt1 dlr segmenting body)
dt1-in_range dlr segmenting body h = in_range (Dt1 dlr segmenting body) (only 1 LONGEST_PARAMETER body h) refl refl

pub dt2-in_range : (dlr : ℕ) (sequencing body : List ℕ) → IsWithin 1 LONGEST_PARAMETER body → InRange (Dt2 dlr sequencing body)
dt2-in_range dlr sequencing body h = in_range (Dt2 dlr sequencing body) (only 1 LONGEST_PARAMETER body h) refl refl

pub ed-in_range : (dlr : ℕ) (body : List ℕ) → IsWithin 1 LONGEST_EXPEDITED body → InRange (Ed dlr body)
ed-in_range dlr body h = in_range (Ed dlr body) (only 1 LONGEST_EXPEDITED body h) refl refl

-- messages of a fixed part alone
pub rlc-in_range : (dlr slr : ℕ) → InRange (Rlc dlr slr)
rlc-in_range dlr slr = in_range (Rlc dlr slr) refl refl refl

pub ak-in_range : (dlr receive credit : ℕ) → InRange (Ak dlr receive credit)
ak-in_range dlr receive credit = in_range (Ak dlr receive credit) refl refl refl

pub ea-in_range : (dlr : ℕ) → InRange (Ea dlr)
ea-in_range dlr = in_range (Ea dlr) refl refl refl

pub rsr-in_range : (dlr slr cause : ℕ) → InRange (Rsr dlr slr cause)
rsr-in_range dlr slr cause = in_range (Rsr dlr slr cause) refl refl refl

pub rsc-in_range : (dlr slr : ℕ) → InRange (Rsc dlr slr)
rsc-in_range dlr slr = in_range (Rsc dlr slr) refl refl refl

pub error-in_range : (dlr cause : ℕ) → InRange (Error dlr cause)
error-in_range dlr cause = in_range (Error dlr cause) refl refl refl

pub it-in_range : (dlr slr class : ℕ) (sequencing : List ℕ) (credit : ℕ) → InRange (It dlr slr class sequencing credit)
it-in_range dlr slr class sequencing credit = in_range (It dlr slr class sequencing credit) refl refl refl

pub writes_within : WritesWithin
writes_within = record {
  cr = cr-in_range;
  cc = cc-in_range;
  cref = cref-in_range;
  rlsd = rlsd-in_range;
  rlc = rlc-in_range;
  dt1 = dt1-in_range;
  dt2 = dt2-in_range;
  ak = ak-in_range;
  ed = ed-in_range;
  ea = ea-in_range;
  rsr = rsr-in_range;
  rsc = rsc-in_range;
  error = error-in_range;
  it = it-in_range;
}
