-- Which references are read of a message that is written.
use Rattle.std.proofs.Common.{◌≡◌, ℕ, map, ◌+◌, ◌*◌, ◌/◌, ◌%◌, ◌<◌, ◌==◌, nat_lt, true, List, [], ◌∷◌, ◌++◌, length, take, drop, Option, Some, Result, Ok, Err, IfOk, IfSome, refl, sym, subst, ap, ◌∙◌, arith, take_all, append_assoc}
use Rattle.std.specs.List.{concat}
use Rattle.std.proofs.lemmas.Bool.{false≢true}
use Rattle.std.proofs.lemmas.List.{take-append-le}
use Rattle.relay_base.specs.declared.limits.TheConstants.{REFERENCES}
use Rattle.relay_base.specs.declared.words.ReadFault.{ReadFault}
use Rattle.relay_base.specs.Giving.{◌>>=◌}
use Rattle.q713_shape.specs.Format.{Format, Values, pointer_width}
use Rattle.q713_shape.specs.Reading.{values_of, filled_variables, options_at}
use Rattle.q713_shape.specs.Writing.{number_octets, variables, optional_part, pointers, octets_of}
use Rattle.q713_codec.specs.Names.{Message}
use Rattle.q713_codec.specs.declared.message.Message.TheVariants.{Cr, Cc, Cref, Rlsd, Rlc, Dt1, Dt2, Ak, Ed, Ea, Rsr, Rsc, Err as Error, It, Udt}
use Rattle.q713_codec.specs.Formats.{cr_format, udt_format, cc_format, cref_format, rlsd_format, rlc_format, dt1_format, dt2_format, ak_format, ed_format, ea_format, rsr_format, rsc_format, err_format, it_format}
use Rattle.q713_codec.specs.Messages.{reference_at, cr_of, udt_of, cc_of, cref_of, rlsd_of, rlc_of, dt1_of, dt2_of, ak_of, ed_of, ea_of, rsr_of, rsc_of, err_of, it_of, format_in, values_of_message}
use Rattle.q713_codec.specs.Reading.{Kind, kind_of, kind_at, message_as, message_by, reading_of}
use Rattle.q713_codec.specs.Writing.{spelling_of}
use Rattle.section_model.specs.declared.cell.Occasion.{Occasion}
use Rattle.section_model.specs.declared.cell.Occasion.TheVariants as on
use Rattle.section_model.specs.Parameters.{Arrival, arrival_of}
use Rattle.connection_law.proofs.Flow.Flowing.{either}
use Rattle.passage_law.specs.Naming.{gives_source}

-- the fixed part is read as it stands
abbrev HasFixed : Format → List ℕ → Result Values ReadFault → Type 0
HasFixed format b r = IfOk r (λ values. values.fixed ≡ take (length format.fixed) (drop 1 b))

fixed_read : (format : Format) (b : List ℕ) → HasFixed format b (values_of format b)
unfolding values_of
fixed_read format b =
    either (HasFixed format b) (length b == 0) _ _ (λ _. tt)
    (λ _. either (HasFixed format b) (nat_lt (length b) _) _ _ (λ _. tt)
    (λ _. by_variables (filled_variables format.wide b (1 + length format.fixed) format.vars)))
  where
    by_options : (vars : List (List ℕ)) (r : Result (List (Option (List ℕ))) ReadFault)
        → HasFixed format b (r >>= (λ options. Ok (record { fixed = take (length format.fixed) (drop 1 b); vars = vars; options = options })))
    by_options vars (Ok options) = refl
    by_options vars (Err fault) = tt

    by_variables : (r : Result (List (List ℕ)) ReadFault)
        → HasFixed format b
        (r >>= (λ vars. options_at format.wide b (1 + length format.fixed + pointer_width format.wide * length format.vars) format.options
        >>= (λ options. Ok (record { fixed = take (length format.fixed) (drop 1 b); vars = vars; options = options }))))
    by_variables (Ok vars) = by_options vars (options_at format.wide b (1 + length format.fixed + pointer_width format.wide * length format.vars) format.options)
    by_variables (Err fault) = tt

front : (xs ys : List ℕ) (n : ℕ) → length xs ≡ n → take n (xs ++ ys) ≡ xs
front xs ys n long = take-append-le n xs ys (omega (arith, long)) ∙ take_all n xs (omega (arith, long))

fixed_of : (format : Format) (values : Values) (n : ℕ) → length values.fixed ≡ n → take n (drop 1 (octets_of format values)) ≡ values.fixed
unfolding octets_of
fixed_of format values n long =
    let a : List ℕ = concat (map (number_octets format.wide) (pointers format values)) in
    let b : List ℕ = concat (variables format.vars values.vars) in
    let c : List ℕ = optional_part format.options values.options in
    ap (take n) (append_assoc (values.fixed ++ a) b c ∙ append_assoc values.fixed a (b ++ c)) ∙ front values.fixed (a ++ (b ++ c)) n long

-- what is read of a written message, if anything is: a message of its type with its fixed part
read_as : (m : Message) (kind : Kind) (P : Result Message ReadFault → Type 0) → kind_at (format_in m).kind ≡ Some kind → length (values_of_message m).fixed ≡ length kind.format.fixed
    → ((fault : ReadFault) → P (Err fault)) → ((values : Values) → values.fixed ≡ (values_of_message m).fixed → P (Ok (kind.message values))) → P (reading_of (spelling_of m))
unfolding reading_of spelling_of octets_of message_as
read_as m kind P is long fails arrives =
    subst (λ k. P (message_by k (format_in m).kind (octets_of (format_in m) (values_of_message m)))) (sym is)
    (by_values (values_of kind.format (octets_of (format_in m) (values_of_message m))) (fixed_read kind.format (octets_of (format_in m) (values_of_message m))))
  where
    by_values : (r : Result Values ReadFault) → HasFixed kind.format (octets_of (format_in m) (values_of_message m)) r → P (r >>= (λ values. Ok (kind.message values)))
    by_values (Ok values) fixed = arrives values (fixed ∙ fixed_of (format_in m) (values_of_message m) (length kind.format.fixed) long)
    by_values (Err fault) fixed = fails fault

-- a reference in its octets
reference : (n : ℕ) → n < REFERENCES → n % 256 + 256 * (n / 256 % 256) + 65_536 * (n / 65_536 % 256) ≡ n
reference n h = omega arith

-- a message for this reference, of this type, which names its source if its type does; and none is CR
abbrev pub IsFor : ℕ → ℕ → Occasion → Arrival → Type 0
IsFor dlr slr o a = (a.parameters.dlr ≡ dlr) × (gives_source a.occasion ≡ true → a.parameters.slr ≡ slr) × (a.occasion ≡ o)

abbrev pub IsNoCr : Message → Type 0
IsNoCr (Cr slr class called credit calling body hop importance) = ⊥
IsNoCr _ = Unit {0}

abbrev pub IsReadAs : ℕ → ℕ → Occasion → Result Message ReadFault → Type 0
IsReadAs dlr slr o r = IfOk r (λ m. IfSome (arrival_of m) (IsFor dlr slr o) × IsNoCr m)

abbrev pub Reads : Message → ℕ → ℕ → Occasion → Type 0
Reads m dlr slr o = IsReadAs dlr slr o (reading_of (spelling_of m))

pub reads_cc : (dlr : ℕ) (slr : ℕ) (class : ℕ) (credit : Option ℕ) (called : Option (List ℕ)) (body : Option (List ℕ)) (importance : Option ℕ) → dlr < REFERENCES → slr < REFERENCES → Reads (Cc dlr slr class credit called body importance) dlr slr on.Cc
unfolding arrival_of
reads_cc dlr slr class credit called body importance h k =
    read_as (Cc dlr slr class credit called body importance) (kind_of cc_format cc_of) (IsReadAs dlr slr on.Cc) refl refl (λ fault. tt)
    (λ values is. ((ap (reference_at 0) is ∙ reference dlr h, λ _. ap (reference_at 3) is ∙ reference slr k, refl), tt))

pub reads_cref : (dlr : ℕ) (cause : ℕ) (called : Option (List ℕ)) (body : Option (List ℕ)) (importance : Option ℕ) (slr : ℕ) → dlr < REFERENCES → Reads (Cref dlr cause called body importance) dlr slr on.Cref
unfolding arrival_of
reads_cref dlr cause called body importance slr h =
    read_as (Cref dlr cause called body importance) (kind_of cref_format cref_of) (IsReadAs dlr slr on.Cref) refl refl (λ fault. tt) (λ values is. ((ap (reference_at 0) is ∙ reference dlr h, λ source. absurd (false≢true source), refl), tt))

pub reads_rlsd : (dlr : ℕ) (slr : ℕ) (cause : ℕ) (body : Option (List ℕ)) (importance : Option ℕ) → dlr < REFERENCES → slr < REFERENCES → Reads (Rlsd dlr slr cause body importance) dlr slr on.Rlsd
unfolding arrival_of
reads_rlsd dlr slr cause body importance h k =
    read_as (Rlsd dlr slr cause body importance) (kind_of rlsd_format rlsd_of) (IsReadAs dlr slr on.Rlsd) refl refl (λ fault. tt)
    (λ values is. ((ap (reference_at 0) is ∙ reference dlr h, λ _. ap (reference_at 3) is ∙ reference slr k, refl), tt))

pub reads_rlc : (dlr : ℕ) (slr : ℕ) → dlr < REFERENCES → slr < REFERENCES → Reads (Rlc dlr slr) dlr slr on.Rlc
unfolding arrival_of
reads_rlc dlr slr h k =
    read_as (Rlc dlr slr) (kind_of rlc_format rlc_of) (IsReadAs dlr slr on.Rlc) refl refl (λ fault. tt)
    (λ values is. ((ap (reference_at 0) is ∙ reference dlr h, λ _. ap (reference_at 3) is ∙ reference slr k, refl), tt))

pub reads_dt1 : (dlr : ℕ) (segmenting : ℕ) (body : List ℕ) (slr : ℕ) → dlr < REFERENCES → Reads (Dt1 dlr segmenting body) dlr slr on.Dt1
unfolding arrival_of
reads_dt1 dlr segmenting body slr h =
    read_as (Dt1 dlr segmenting body) (kind_of dt1_format dt1_of) (IsReadAs dlr slr on.Dt1) refl refl (λ fault. tt) (λ values is. ((ap (reference_at 0) is ∙ reference dlr h, λ source. absurd (false≢true source), refl), tt))

pub reads_ak : (dlr : ℕ) (receive : ℕ) (credit : ℕ) (slr : ℕ) → dlr < REFERENCES → Reads (Ak dlr receive credit) dlr slr on.Ak
unfolding arrival_of
reads_ak dlr receive credit slr h =
    read_as (Ak dlr receive credit) (kind_of ak_format ak_of) (IsReadAs dlr slr on.Ak) refl refl (λ fault. tt) (λ values is. ((ap (reference_at 0) is ∙ reference dlr h, λ source. absurd (false≢true source), refl), tt))

pub reads_ed : (dlr : ℕ) (body : List ℕ) (slr : ℕ) → dlr < REFERENCES → Reads (Ed dlr body) dlr slr on.Ed
unfolding arrival_of
reads_ed dlr body slr h =
    read_as (Ed dlr body) (kind_of ed_format ed_of) (IsReadAs dlr slr on.Ed) refl refl (λ fault. tt) (λ values is. ((ap (reference_at 0) is ∙ reference dlr h, λ source. absurd (false≢true source), refl), tt))

pub reads_ea : (dlr : ℕ) (slr : ℕ) → dlr < REFERENCES → Reads (Ea dlr) dlr slr on.Ea
unfolding arrival_of
reads_ea dlr slr h =
    read_as (Ea dlr) (kind_of ea_format ea_of) (IsReadAs dlr slr on.Ea) refl refl (λ fault. tt) (λ values is. ((ap (reference_at 0) is ∙ reference dlr h, λ source. absurd (false≢true source), refl), tt))

pub reads_rsr : (dlr : ℕ) (slr : ℕ) (cause : ℕ) → dlr < REFERENCES → slr < REFERENCES → Reads (Rsr dlr slr cause) dlr slr on.Rsr
unfolding arrival_of
reads_rsr dlr slr cause h k =
    read_as (Rsr dlr slr cause) (kind_of rsr_format rsr_of) (IsReadAs dlr slr on.Rsr) refl refl (λ fault. tt)
    (λ values is. ((ap (reference_at 0) is ∙ reference dlr h, λ _. ap (reference_at 3) is ∙ reference slr k, refl), tt))

pub reads_rsc : (dlr : ℕ) (slr : ℕ) → dlr < REFERENCES → slr < REFERENCES → Reads (Rsc dlr slr) dlr slr on.Rsc
unfolding arrival_of
reads_rsc dlr slr h k =
    read_as (Rsc dlr slr) (kind_of rsc_format rsc_of) (IsReadAs dlr slr on.Rsc) refl refl (λ fault. tt)
    (λ values is. ((ap (reference_at 0) is ∙ reference dlr h, λ _. ap (reference_at 3) is ∙ reference slr k, refl), tt))

pub reads_err : (dlr : ℕ) (cause : ℕ) (slr : ℕ) → dlr < REFERENCES → Reads (Error dlr cause) dlr slr on.Err
unfolding arrival_of
reads_err dlr cause slr h =
    read_as (Error dlr cause) (kind_of err_format err_of) (IsReadAs dlr slr on.Err) refl refl (λ fault. tt) (λ values is. ((ap (reference_at 0) is ∙ reference dlr h, λ source. absurd (false≢true source), refl), tt))

-- with two octets of sequence numbers
pub reads_dt2 : (dlr one two : ℕ) (body : List ℕ) (slr : ℕ) → dlr < REFERENCES → Reads (Dt2 dlr (one ∷ two ∷ []) body) dlr slr on.Dt2
unfolding arrival_of
reads_dt2 dlr one two body slr h =
    read_as (Dt2 dlr (one ∷ two ∷ []) body) (kind_of dt2_format dt2_of) (IsReadAs dlr slr on.Dt2) refl refl (λ fault. tt) (λ values is. ((ap (reference_at 0) is ∙ reference dlr h, λ source. absurd (false≢true source), refl), tt))

pub reads_it : (dlr slr class one two credit : ℕ) → dlr < REFERENCES → slr < REFERENCES → Reads (It dlr slr class (one ∷ two ∷ []) credit) dlr slr on.It
unfolding arrival_of
reads_it dlr slr class one two credit h k =
    read_as (It dlr slr class (one ∷ two ∷ []) credit) (kind_of it_format it_of) (IsReadAs dlr slr on.It) refl refl (λ fault. tt)
    (λ values is. ((ap (reference_at 0) is ∙ reference dlr h, λ _. ap (reference_at 3) is ∙ reference slr k, refl), tt))

-- RLC whose source may be too large a number
pub reads_rlc_for : (dlr slr : ℕ) → dlr < REFERENCES → Reads (Rlc dlr slr) dlr (slr % 256 + 256 * (slr / 256 % 256) + 65_536 * (slr / 65_536 % 256)) on.Rlc
unfolding arrival_of
reads_rlc_for dlr slr h =
    read_as (Rlc dlr slr) (kind_of rlc_format rlc_of) (IsReadAs dlr (slr % 256 + 256 * (slr / 256 % 256) + 65_536 * (slr / 65_536 % 256)) on.Rlc) refl refl (λ fault. tt)
    (λ values is. ((ap (reference_at 0) is ∙ reference dlr h, λ _. ap (reference_at 3) is, refl), tt))

-- CR, and UDT
abbrev pub IsCrWith : ℕ → Message → Type 0
IsCrWith slr (Cr source class called credit calling body hop importance) = source ≡ slr
IsCrWith slr _ = ⊥

pub reads_cr : (slr class : ℕ) (called : List ℕ) (credit : Option ℕ) (calling body : Option (List ℕ)) (hop importance : Option ℕ) → slr < REFERENCES
    → IfOk (reading_of (spelling_of (Cr slr class called credit calling body hop importance))) (IsCrWith slr)
reads_cr slr class called credit calling body hop importance h =
    read_as (Cr slr class called credit calling body hop importance) (kind_of cr_format cr_of) (λ r. IfOk r (IsCrWith slr)) refl refl (λ fault. tt)
    (λ values is. ap (reference_at 0) is ∙ reference slr h)

abbrev pub IsUnit : Message → Type 0
IsUnit (Udt class called calling body) = Unit {0}
IsUnit _ = ⊥

pub reads_udt : (class : ℕ) (called calling body : List ℕ) → IfOk (reading_of (spelling_of (Udt class called calling body))) IsUnit
reads_udt class called calling body = read_as (Udt class called calling body) (kind_of udt_format udt_of) (λ r. IfOk r IsUnit) refl refl (λ fault. tt) (λ values is. tt)
