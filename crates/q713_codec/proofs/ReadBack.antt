-- What is written reads back as the message.
use Rattle.std.proofs.Common.{◌≡◌, ℕ, ◌+◌, ◌*◌, ◌/◌, ◌%◌, ◌<◌, List, [], ◌∷◌, length, take, nat_le, Ok, Err, IfOk, refl, ap, ◌∙◌, subst, arith, leb-true, eqb-true, length-append}
use Rattle.std.specs.Prelude.{Option, Some, None, IsTrue}
use Rattle.std.specs.declared.result.Result.{Result}
use Rattle.relay_base.specs.declared.limits.TheConstants.{REFERENCES}
use Rattle.relay_base.specs.Giving.{◌>>=◌}
use Rattle.q713_shape.specs.Format.{Format, Values, filled}
use Rattle.q713_shape.specs.Reading.{values_of}
use Rattle.q713_shape.specs.Writing.{octets_of, are_in_range, is_option, have_option_lengths, are_options}
use Rattle.q713_shape.proofs.Counting.{and-both}
use Rattle.q713_shape.proofs.Ranges.{in_range-options}
use Rattle.q713_shape.proofs.ReadBack.{is_made, HasPlaces, names_in, values_of-octets_of}
use Rattle.q713_codec.specs.Names.{Message, Cr, Cc, Cref, Rlsd, Rlc, Dt1, Dt2, Ak, Udt, Udts, Ed, Ea, Rsr, Rsc, Error, It, Xudt, Xudts, Ludt, Ludts}
use Rattle.q713_codec.specs.Formats.{cr_format, cc_format, cref_format, rlsd_format, rlc_format, dt1_format, dt2_format, ak_format, udt_format, udts_format, ed_format, ea_format, rsr_format, rsc_format, err_format, it_format, xudt_format, xudts_format, ludt_format, ludts_format}
use Rattle.q713_codec.specs.Messages.{cr_of, cc_of, cref_of, rlsd_of, rlc_of, dt1_of, dt2_of, ak_of, udt_of, udts_of, ed_of, ea_of, rsr_of, rsc_of, err_of, it_of, xudt_of, xudts_of, ludt_of, ludts_of, one_octet, four_octets, in_one, format_in, values_of_message}
use Rattle.q713_codec.specs.Reading.{Kind, kind_of, kind_at, message_as, message_by, reading_of}
use Rattle.q713_codec.specs.Writing.{spelling_of, is_in_range, InRange}
use Rattle.q713_codec.specs.Types.{HasTypes}

-- the fields that their octets are
reference : (n : ℕ) → n < REFERENCES → n % 256 + 256 * (n / 256 % 256) + 65_536 * (n / 65_536 % 256) ≡ n
reference n h = omega arith

one : (x : Option ℕ) → one_octet (in_one x) ≡ x
one None = refl
one (Some x) = refl

four : (x : Option (List ℕ)) → IsTrue (is_option 0x10 x) → four_octets x ≡ x
four None h = refl
four (Some []) h = absurd (cc)
four (Some (a ∷ [])) h = absurd (cc)
four (Some (a ∷ b ∷ [])) h = absurd (cc)
four (Some (a ∷ b ∷ c ∷ [])) h = absurd (cc)
four (Some (a ∷ b ∷ c ∷ d ∷ [])) h = refl
four (Some (a ∷ b ∷ c ∷ d ∷ e ∷ r)) h = absurd (omega (arith, eqb-true (length (a ∷ b ∷ c ∷ d ∷ e ∷ r)) 4 h))

-- a message in range has its segmentation in four octets
segmentation-four : (format : Format) (values : Values) (names : List ℕ) (x : Option (List ℕ)) (more : List (Option (List ℕ))) → format.options ≡ Some (0x10 ∷ names) → values.options ≡ x ∷ more → IsTrue (are_in_range format values) → four_octets x ≡ x
segmentation-four format values names x more e f h =
    let good : IsTrue (are_options (Some (0x10 ∷ names)) (x ∷ more)) = subst (λ o. IsTrue (are_options (Some (0x10 ∷ names)) o)) f (subst (λ o. IsTrue (are_options o values.options)) e (in_range-options format values h)) in
    four x (and-both (is_option 0x10 x) (have_option_lengths names more) good).0

in_range-parts : (m : Message) → InRange m → IsTrue (are_in_range (format_in m) (values_of_message m))
unfolding is_in_range
in_range-parts m h = h

-- values have their places in a format
places : (format : Format) (values : Values) → length values.fixed ≡ length format.fixed → filled 3 [] (take (length format.vars) values.vars) ≡ values.vars → IsTrue (nat_le (length format.vars) (length values.vars)) → filled 5 None (take (length (names_in format.options)) values.options) ≡ values.options → IsTrue (nat_le (length (names_in format.options)) (length values.options)) → HasPlaces format values
places format values fixed vars some options more = record {
  fixed = fixed;
  vars = vars;
  some = leb-true (length format.vars) (length values.vars) some;
  options = options;
  more = leb-true (length (names_in format.options)) (length values.options) more;
}

-- a message of this kind reads back
reads_back-as : (m : Message) (kind : Kind) → kind_at (format_in m).kind ≡ Some kind → kind.format ≡ format_in m → kind.message (values_of_message m) ≡ m → IsTrue (is_made (format_in m)) → HasPlaces (format_in m) (values_of_message m) → InRange m → reading_of (spelling_of m) ≡ Ok m
unfolding reading_of spelling_of message_as octets_of
reads_back-as m kind k f e made has range =
    let b : List ℕ = octets_of (format_in m) (values_of_message m) in
    ap (λ x. message_by x (format_in m).kind b) k
    ∙ ap (λ x. values_of x b >>= (λ values. Ok (kind.message values))) f
    ∙ ap (λ r. r >>= (λ values. Ok (kind.message values))) (values_of-octets_of (format_in m) (values_of_message m) made has (in_range-parts m range))
    ∙ ap Ok e

pub reads_back : (m : Message) → HasTypes m → InRange m → reading_of (spelling_of m) ≡ Ok m
reads_back (Cr slr class called credit calling body hop importance) types range = reads_back-as (Cr slr class called credit calling body hop importance) (kind_of cr_format cr_of) refl refl (rw (reference slr types.0.0, one credit, one hop, one importance) refl) refl (places cr_format (values_of_message (Cr slr class called credit calling body hop importance)) types.1 refl refl refl refl) range
reads_back (Cc dlr slr class credit called body importance) types range = reads_back-as (Cc dlr slr class credit called body importance) (kind_of cc_format cc_of) refl refl (rw (reference dlr types.0.0, reference slr types.0.1.0, one credit, one importance) refl) refl (places cc_format (values_of_message (Cc dlr slr class credit called body importance)) types.1 refl refl refl refl) range
reads_back (Cref dlr cause called body importance) types range = reads_back-as (Cref dlr cause called body importance) (kind_of cref_format cref_of) refl refl (rw (reference dlr types.0.0, one importance) refl) refl (places cref_format (values_of_message (Cref dlr cause called body importance)) types.1 refl refl refl refl) range
reads_back (Rlsd dlr slr cause body importance) types range = reads_back-as (Rlsd dlr slr cause body importance) (kind_of rlsd_format rlsd_of) refl refl (rw (reference dlr types.0.0, reference slr types.0.1.0, one importance) refl) refl (places rlsd_format (values_of_message (Rlsd dlr slr cause body importance)) types.1 refl refl refl refl) range
reads_back (Rlc dlr slr) types range = reads_back-as (Rlc dlr slr) (kind_of rlc_format rlc_of) refl refl (rw (reference dlr types.0.0, reference slr types.0.1.0) refl) refl (places rlc_format (values_of_message (Rlc dlr slr)) types.1 refl refl refl refl) range
reads_back (Dt1 dlr segmenting body) types range = reads_back-as (Dt1 dlr segmenting body) (kind_of dt1_format dt1_of) refl refl (rw (reference dlr types.0.0) refl) refl (places dt1_format (values_of_message (Dt1 dlr segmenting body)) types.1 refl refl refl refl) range
reads_back (Dt2 dlr [] body) types range = absurd (omega (arith, types.1))
reads_back (Dt2 dlr (a ∷ []) body) types range = absurd (omega (arith, types.1))
reads_back (Dt2 dlr (a ∷ b ∷ c ∷ r) body) types range = absurd (omega (arith, types.1))
reads_back (Dt2 dlr (a ∷ b ∷ []) body) types range = reads_back-as (Dt2 dlr (a ∷ b ∷ []) body) (kind_of dt2_format dt2_of) refl refl (rw (reference dlr types.0.0) refl) refl (places dt2_format (values_of_message (Dt2 dlr (a ∷ b ∷ []) body)) types.1 refl refl refl refl) range
reads_back (Ak dlr receive credit) types range = reads_back-as (Ak dlr receive credit) (kind_of ak_format ak_of) refl refl (rw (reference dlr types.0.0) refl) refl (places ak_format (values_of_message (Ak dlr receive credit)) types.1 refl refl refl refl) range
reads_back (Udt class called calling body) types range = reads_back-as (Udt class called calling body) (kind_of udt_format udt_of) refl refl refl refl (places udt_format (values_of_message (Udt class called calling body)) types.1 refl refl refl refl) range
reads_back (Udts cause called calling body) types range = reads_back-as (Udts cause called calling body) (kind_of udts_format udts_of) refl refl refl refl (places udts_format (values_of_message (Udts cause called calling body)) types.1 refl refl refl refl) range
reads_back (Ed dlr body) types range = reads_back-as (Ed dlr body) (kind_of ed_format ed_of) refl refl (rw (reference dlr types.0.0) refl) refl (places ed_format (values_of_message (Ed dlr body)) types.1 refl refl refl refl) range
reads_back (Ea dlr) types range = reads_back-as (Ea dlr) (kind_of ea_format ea_of) refl refl (rw (reference dlr types.0.0) refl) refl (places ea_format (values_of_message (Ea dlr)) types.1 refl refl refl refl) range
reads_back (Rsr dlr slr cause) types range = reads_back-as (Rsr dlr slr cause) (kind_of rsr_format rsr_of) refl refl (rw (reference dlr types.0.0, reference slr types.0.1.0) refl) refl (places rsr_format (values_of_message (Rsr dlr slr cause)) types.1 refl refl refl refl) range
reads_back (Rsc dlr slr) types range = reads_back-as (Rsc dlr slr) (kind_of rsc_format rsc_of) refl refl (rw (reference dlr types.0.0, reference slr types.0.1.0) refl) refl (places rsc_format (values_of_message (Rsc dlr slr)) types.1 refl refl refl refl) range
reads_back (Error dlr cause) types range = reads_back-as (Error dlr cause) (kind_of err_format err_of) refl refl (rw (reference dlr types.0.0) refl) refl (places err_format (values_of_message (Error dlr cause)) types.1 refl refl refl refl) range
reads_back (It dlr slr class [] credit) types range = absurd (omega (arith, types.1))
reads_back (It dlr slr class (a ∷ []) credit) types range = absurd (omega (arith, types.1))
reads_back (It dlr slr class (a ∷ b ∷ c ∷ r) credit) types range = absurd (omega (arith, types.1, length-append r (credit ∷ [])))
reads_back (It dlr slr class (a ∷ b ∷ []) credit) types range = reads_back-as (It dlr slr class (a ∷ b ∷ []) credit) (kind_of it_format it_of) refl refl (rw (reference dlr types.0.0, reference slr types.0.1.0) refl) refl (places it_format (values_of_message (It dlr slr class (a ∷ b ∷ []) credit)) types.1 refl refl refl refl) range
reads_back (Xudt class hop called calling body segmentation importance) types range = reads_back-as (Xudt class hop called calling body segmentation importance) (kind_of xudt_format xudt_of) refl refl (rw (one importance, segmentation-four xudt_format (values_of_message (Xudt class hop called calling body segmentation importance)) (0x12 ∷ []) segmentation _ refl refl (in_range-parts (Xudt class hop called calling body segmentation importance) range)) refl) refl (places xudt_format (values_of_message (Xudt class hop called calling body segmentation importance)) types.1 refl refl refl refl) range
reads_back (Xudts cause hop called calling body segmentation importance) types range = reads_back-as (Xudts cause hop called calling body segmentation importance) (kind_of xudts_format xudts_of) refl refl (rw (one importance, segmentation-four xudts_format (values_of_message (Xudts cause hop called calling body segmentation importance)) (0x12 ∷ []) segmentation _ refl refl (in_range-parts (Xudts cause hop called calling body segmentation importance) range)) refl) refl (places xudts_format (values_of_message (Xudts cause hop called calling body segmentation importance)) types.1 refl refl refl refl) range
reads_back (Ludt class hop called calling body segmentation importance) types range = reads_back-as (Ludt class hop called calling body segmentation importance) (kind_of ludt_format ludt_of) refl refl (rw (one importance, segmentation-four ludt_format (values_of_message (Ludt class hop called calling body segmentation importance)) (0x12 ∷ []) segmentation _ refl refl (in_range-parts (Ludt class hop called calling body segmentation importance) range)) refl) refl (places ludt_format (values_of_message (Ludt class hop called calling body segmentation importance)) types.1 refl refl refl refl) range
reads_back (Ludts cause hop called calling body segmentation importance) types range = reads_back-as (Ludts cause hop called calling body segmentation importance) (kind_of ludts_format ludts_of) refl refl (rw (one importance, segmentation-four ludts_format (values_of_message (Ludts cause hop called calling body segmentation importance)) (0x12 ∷ []) segmentation _ refl refl (in_range-parts (Ludts cause hop called calling body segmentation importance) range)) refl) refl (places ludts_format (values_of_message (Ludts cause hop called calling body segmentation importance)) types.1 refl refl refl refl) range

-- what is written reads back
pub read_back-spelled : {E : Type 0} (message : Message) (written : Result (List ℕ) E) → HasTypes message → InRange message → IfOk written (λ o. o ≡ spelling_of message) → IfOk written (λ o. reading_of o ≡ Ok message)
read_back-spelled message (Err e) types range w = w
read_back-spelled message (Ok o) types range w = ap reading_of w ∙ reads_back message types range
