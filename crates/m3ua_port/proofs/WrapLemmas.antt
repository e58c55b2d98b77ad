-- What a wrapped message brings back.
use Rattle.std.proofs.Common.{◌≡◌, ℕ, zero, suc, ◌+◌, ◌-◌, ◌<◌, ◌≤◌, ◌==◌, slice_index, true, List, [], ◌∷◌, ◌++◌, length, take, drop, replicate, Ok, refl, ap, sym, ◌∙◌, arith, length-append}
use Rattle.std.specs.Prelude.{Option, Some}
use Rattle.std.specs.declared.result.Result.{Result}
use Rattle.std.proofs.lemmas.Bool.{le-ltb, lt-ltb, eq-eqb}
use Rattle.std.proofs.lemmas.List.{take_all, length-replicate}
use Rattle.std.proofs.Math.ListN.{drop_of_length-le}
use Rattle.std.proofs.Math.Seq.{take-append-add, take-append_seam}
use Rattle.byteorder.specs.Endian.{big_number, big_bytes}
use Rattle.byteorder.specs.Numbers.{big_number-reads_back}
use Rattle.relay_base.specs.Giving.{◌>>=◌}
use Rattle.relay_base.specs.declared.limits.TheConstants.{POINT_CODES, LINK_SELECTIONS}
use Rattle.relay_base.specs.declared.words.Event.{Event}
use Rattle.relay_base.specs.declared.words.Event.TheVariants.{Message}
use Rattle.m3ua_port.specs.declared.fault.PortKind.{PortKind}
use Rattle.m3ua_port.specs.declared.limits.TheConstants.{LONGEST_CARRIED, LONGEST_MESSAGE, VERSION, PROTOCOL_DATA, SCCP, LABEL, HEADER, PARAMETER_HEADER}
use Rattle.m3ua_port.specs.Frames.{Parameter, version_of, first_data, transfer_of, length_of, message_length, parameter_length, parameter_of, padded, parameters_of, protocol_data, data_event, message_event, front_event, no_frames, frames_by, frames_from, frames_of}
use Rattle.m3ua_port.specs.Wrapping.{label, parameter_size, wrapped, one_transfer, IsInRange}
use Rattle.m3ua_port.proofs.FrameLemmas.{frames_from-step}
use Rattle.m3ua_port.proofs.ParameterLemmas.{step, behind}

-- what stands behind the user's octets
abbrev filler : ℕ → List ℕ
filler count = replicate (padded (parameter_size count) - parameter_size count) 0

-- the parameter, with what it is filled up with
abbrev parameter : ℕ → ℕ → ℕ → List ℕ → List ℕ
parameter own point sls octets =
    (big_bytes 2 PROTOCOL_DATA ++ big_bytes 2 (parameter_size (length octets)) ++ label own point sls) ++ (octets ++ filler (length octets))

pub zeros : (count : ℕ) → count ≤ 3 → take count (0 ∷ 0 ∷ 0 ∷ []) ≡ replicate {A = ℕ} count 0
zeros zero h = refl
zeros (suc zero) h = refl
zeros (suc (suc zero)) h = refl
zeros (suc (suc (suc zero))) h = refl
zeros (suc (suc (suc (suc n)))) h = absurd (omega arith)

padded-le : (n : ℕ) → n ≤ padded n
padded-le n = omega arith

padded-lt : (n : ℕ) → padded n < n + 4
padded-lt n = omega arith

length-parameter : (own point sls : ℕ) (octets : List ℕ) → length (parameter own point sls octets) ≡ padded (parameter_size (length octets))
length-parameter own point sls octets =
    omega (arith, length-append octets (filler (length octets)), length-replicate {A = ℕ} (padded (parameter_size (length octets)) - parameter_size (length octets)) 0, padded-le (parameter_size (length octets)))

size-is : (own point sls : ℕ) (octets : List ℕ) → length octets ≤ LONGEST_CARRIED → parameter_length (parameter own point sls octets) ≡ parameter_size (length octets)
size-is own point sls octets few =
    big_number-reads_back 2 (parameter_size (length octets)) (label own point sls ++ (octets ++ filler (length octets))) (omega arith)

front-is : (own point sls : ℕ) (octets : List ℕ) → take (parameter_size (length octets)) (parameter own point sls octets) ≡ (big_bytes 2 PROTOCOL_DATA ++ big_bytes 2 (parameter_size (length octets)) ++ label own point sls) ++ octets
front-is own point sls octets =
    let front = big_bytes 2 PROTOCOL_DATA ++ big_bytes 2 (parameter_size (length octets)) ++ label own point sls in
    take-append-add front (octets ++ filler (length octets)) (length octets)
    ∙ ap (λ (l : List ℕ). front ++ l) (take-append_seam octets (filler (length octets)))

parameter_of-by : (b : List ℕ) (size : ℕ) → parameter_length b ≡ size → PARAMETER_HEADER ≤ size → size ≤ length b → parameter_of b ≡ Ok (record { tag = big_number 2 b; value = drop PARAMETER_HEADER (take size b) })
unfolding parameter_of
parameter_of-by b size e least fits = rw e (rw (le-ltb (length b) PARAMETER_HEADER (omega arith), le-ltb size PARAMETER_HEADER least, le-ltb (length b) size fits) refl)

message_length-by : (b : List ℕ) (size : ℕ) → (version_of b == VERSION) ≡ true → length_of b ≡ size → HEADER ≤ size → size ≤ LONGEST_MESSAGE → size ≡ length b → message_length b ≡ Ok size
unfolding message_length
message_length-by b size version e least most fits =
    rw (version, e) (rw (le-ltb (length b) HEADER (omega arith), le-ltb size HEADER least, le-ltb LONGEST_MESSAGE size most, le-ltb (length b) size (omega arith)) refl)

-- its value is the label, and then the user's octets
parameter-is : (own point sls : ℕ) (octets : List ℕ) → length octets ≤ LONGEST_CARRIED → parameter_of (parameter own point sls octets) ≡ Ok (record { tag = PROTOCOL_DATA; value = label own point sls ++ octets })
parameter-is own point sls octets few =
    let len = length-parameter own point sls octets in
    parameter_of-by (parameter own point sls octets) (parameter_size (length octets)) (size-is own point sls octets few) (omega arith) (omega (arith, len, padded-le (parameter_size (length octets))))
    ∙ ap (λ (l : List ℕ). Ok (record { tag = PROTOCOL_DATA; value = drop PARAMETER_HEADER l })) (front-is own point sls octets)

parameters-are : (own point sls : ℕ) (octets : List ℕ) → length octets ≤ LONGEST_CARRIED → protocol_data (parameter own point sls octets) ≡ Ok (label own point sls ++ octets)
unfolding parameters_of
parameters-are own point sls octets few =
    let len = length-parameter own point sls octets in
    let p = parameter own point sls octets in
    let ends : behind p ≡ [] = drop_of_length-le p {i = padded (parameter_length p)} (omega (arith, len, ap padded (size-is own point sls octets few))) in
    ap (λ (r : Result (List Parameter) PortKind). r >>= first_data)
    (step p (omega (arith, len, padded-le (parameter_size (length octets))))
    ∙ ap (λ (l : List ℕ). parameter_of p >>= λ first. parameters_of l >>= λ more. Ok (first ∷ more)) ends
    ∙ ap (λ (r : Result Parameter PortKind). r >>= λ first. Ok (first ∷ [])) (parameter-is own point sls octets few))

data_event-by : (point : ℕ) (v : List ℕ) → LABEL ≤ length v → (slice_index v 8 == SCCP) ≡ true → big_number 4 (drop 4 v) ≡ point → big_number 4 v < POINT_CODES → slice_index v 11 < LINK_SELECTIONS → data_event point v ≡ Ok (Some (transfer_of v))
unfolding data_event
data_event-by point v long sccp dpc opc sls =
    rw (le-ltb (length v) LABEL long, sccp, dpc) (rw (eq-eqb point point refl, lt-ltb (big_number 4 v) POINT_CODES opc, lt-ltb (slice_index v 11) LINK_SELECTIONS sls) refl)

event-is : (own point sls : ℕ) (octets : List ℕ) → IsInRange own point sls → data_event point (label own point sls ++ octets) ≡ Ok (Some (Message own sls octets))
event-is own point sls octets range =
    let opc : big_number 4 (label own point sls ++ octets) ≡ own = big_number-reads_back 4 own (drop 4 (label own point sls ++ octets)) (omega (arith, range.opc)) in
    let dpc : big_number 4 (drop 4 (label own point sls ++ octets)) ≡ point = big_number-reads_back 4 point (drop 8 (label own point sls ++ octets)) (omega (arith, range.dpc)) in
    data_event-by point (label own point sls ++ octets) (omega arith) refl dpc (omega (arith, opc, range.opc)) range.selection
    ∙ ap (λ (n : ℕ). Ok (Some (Message n sls octets))) opc

length-wrapped : (own point sls : ℕ) (octets : List ℕ) → length (wrapped own point sls octets) ≡ HEADER + padded (parameter_size (length octets))
length-wrapped own point sls octets = omega (arith, length-parameter own point sls octets)

message-is : (own point sls : ℕ) (octets : List ℕ) → length octets ≤ LONGEST_CARRIED → IsInRange own point sls → message_event point (wrapped own point sls octets) ≡ Ok (Some (Message own sls octets))
unfolding message_event
message-is own point sls octets few range =
    ap (λ (r : Result (List ℕ) PortKind). r >>= data_event point) (parameters-are own point sls octets few) ∙ event-is own point sls octets range

length_of-wrapped : (own point sls : ℕ) (octets : List ℕ) → length octets ≤ LONGEST_CARRIED → length_of (wrapped own point sls octets) ≡ HEADER + padded (parameter_size (length octets))
length_of-wrapped own point sls octets few =
    big_number-reads_back 4 (HEADER + padded (parameter_size (length octets))) (parameter own point sls octets) (omega (arith, padded-lt (parameter_size (length octets))))

-- it brings back what it carries
pub wrapped-frames : (own point sls : ℕ) (octets : List ℕ) → length octets ≤ LONGEST_CARRIED → IsInRange own point sls → frames_of point (wrapped own point sls octets) ≡ one_transfer own sls octets
unfolding frames_from
wrapped-frames own point sls octets few range =
    let m = wrapped own point sls octets in
    let size : ℕ = HEADER + padded (parameter_size (length octets)) in
    let len : length m ≡ size = length-wrapped own point sls octets in
    let of : length_of m ≡ size = length_of-wrapped own point sls octets few in
    let whole : message_length m ≡ Ok size = message_length-by m size refl of (omega arith) (omega (arith, padded-lt (parameter_size (length octets)))) (sym len) in
    let all : take size m ≡ m = take_all size m (omega (arith, len)) in
    let ends : drop (length_of m) m ≡ [] = drop_of_length-le m {i = length_of m} (omega (arith, len, of)) in
    frames_from-step point 1 m (omega (arith, len))
    ∙ ap (λ (l : List ℕ). frames_by 1 (front_event point m) (frames_from point 2 l)) ends
    ∙ ap (λ (r : Result ℕ PortKind). frames_by 1 (r >>= λ n. message_event point (take n m)) no_frames) whole
    ∙ ap (λ (l : List ℕ). frames_by 1 (message_event point l) no_frames) all
    ∙ ap (λ (r : Result (Option Event) PortKind). frames_by 1 r no_frames) (message-is own point sls octets few range)
