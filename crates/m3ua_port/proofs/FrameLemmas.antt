-- The messages of a stream, from its front on, and what stays where more octets follow.
use Rattle.std.proofs.Common.{◌≡◌, ◌≢◌, ℕ, zero, suc, ◌+◌, ◌<◌, ◌≤◌, ◌==◌, ◌||◌, nat_lt, Bool, true, false, not, List, [], ◌∷◌, ◌++◌, length, take, drop, Ok, Err, refl, ap, ◌∙◌, arith, length-append, length-drop, if◌then◌else◌}
use Rattle.std.specs.Prelude.{Option}
use Rattle.std.specs.declared.result.Result.{Result}
use Rattle.std.proofs.lemmas.Bool.{ltb-false, le-ltb}
use Rattle.std.proofs.lemmas.List.{take-append-le, drop-append-le, get_or_append_left}
use Rattle.byteorder.specs.Endian.{big_number}
use Rattle.byteorder.specs.Numbers.{big_from-append}
use Rattle.relay_base.specs.Giving.{◌>>=◌}
use Rattle.relay_base.specs.declared.words.Event.{Event}
use Rattle.m3ua_port.specs.declared.fault.PortKind.{PortKind}
use Rattle.m3ua_port.specs.declared.fault.PortKind.TheVariants as kind
use Rattle.m3ua_port.specs.declared.limits.TheConstants.{VERSION, HEADER, LONGEST_MESSAGE}
use Rattle.m3ua_port.specs.Frames.{Frames, version_of, length_of, message_length, message_event, front_event, frames_by, frames_in, frames_from}
use Rattle.m3ua_port.specs.Inner.Reading.{ended, IsPart, part_fault}

-- a message that is whole
pub record IsWhole (octets : List ℕ) (size : ℕ) : Type 0 where
  pub version : not (version_of octets == VERSION) ≡ false
  pub head : HEADER ≤ length octets
  pub least : HEADER ≤ size
  pub bounds : (nat_lt (length_of octets) HEADER || nat_lt LONGEST_MESSAGE (length_of octets)) ≡ false
  pub within : size ≤ length octets
  pub is : length_of octets ≡ size

pub is_whole : (b : List ℕ) (size : ℕ) → message_length b ≡ Ok size → IsWhole b size
unfolding message_length
is_whole b size h = grind arith

pub length_of-append : (b more : List ℕ) → HEADER ≤ length b → length_of (b ++ more) ≡ length_of b
length_of-append b more h =
    ap (big_number 4) (drop-append-le 4 b more (omega arith))
    ∙ big_from-append 4 (drop 4 b) more (omega (arith, length-drop {A = ℕ}))

pub version_of-append : (b more : List ℕ) → 0 < length b → version_of (b ++ more) ≡ version_of b
version_of-append b more h = get_or_append_left b more 0 0 h

pub whole-append : (b more : List ℕ) (size : ℕ) → message_length b ≡ Ok size → message_length (b ++ more) ≡ Ok size
unfolding message_length
whole-append b more size h =
    let w = is_whole b size h in
    let len = length_of-append b more w.head in
    let ver = version_of-append b more (omega (arith, w.head)) in
    let long : nat_lt (length (b ++ more)) HEADER ≡ false = le-ltb (length (b ++ more)) HEADER (omega (arith, w.head, length-append b more)) in
    let fits : nat_lt (length (b ++ more)) size ≡ false = le-ltb (length (b ++ more)) size (omega (arith, w.within, length-append b more)) in
    rw (ver, w.version, long, len, w.bounds, w.is, fits) refl

-- what the tests of a header answer
abbrev tested : Bool → Bool → Bool → Bool → ℕ → Result ℕ PortKind
tested version head size rest n =
    if version then Err kind.Version else if head then Err kind.End else if size then Err kind.Length else if rest then Err kind.End else Ok n

-- a fault stays where the tests before it do
tested-kept : (t u v w u' v' w' : Bool) (n n' : ℕ) (fault : PortKind) → fault ≢ kind.End → (u ≡ false → u' ≡ false) → (u ≡ false → v' ≡ v) → tested t u v w n ≡ Err fault → tested t u' v' w' n' ≡ Err fault
tested-kept true u v w u' v' w' n n' fault other long same h = h
tested-kept false true v w u' v' w' n n' fault other long same h = absurd (other (cc))
tested-kept false false true w u' v' w' n n' fault other long same h = rw (long refl, same refl) h
tested-kept false false false true u' v' w' n n' fault other long same h = absurd (other (cc))
tested-kept false false false false u' v' w' n n' fault other long same h = absurd (cc)

-- a fault of a header stays
pub fault-append : (b more : List ℕ) (fault : PortKind) → 0 < length b → fault ≢ kind.End → message_length b ≡ Err fault → message_length (b ++ more) ≡ Err fault
unfolding message_length
fault-append b more fault some other h =
    rw (version_of-append b more some)
    (tested-kept (not (version_of b == VERSION)) (nat_lt (length b) HEADER) (nat_lt (length_of b) HEADER || nat_lt LONGEST_MESSAGE (length_of b)) (nat_lt (length b) (length_of b))
    (nat_lt (length (b ++ more)) HEADER) (nat_lt (length_of (b ++ more)) HEADER || nat_lt LONGEST_MESSAGE (length_of (b ++ more))) (nat_lt (length (b ++ more)) (length_of (b ++ more)))
    (length_of b) (length_of (b ++ more)) fault other
    (λ long. le-ltb (length (b ++ more)) HEADER (omega (arith, ltb-false (length b) HEADER long, length-append b more)))
    (λ long. ap (λ n. nat_lt n HEADER || nat_lt LONGEST_MESSAGE n) (length_of-append b more (ltb-false (length b) HEADER long)))
    h)

-- the front of a stream where it is whole
pub front_event-append : (own : ℕ) (b more : List ℕ) (size : ℕ) → message_length b ≡ Ok size → front_event own (b ++ more) ≡ message_event own (take size b)
front_event-append own b more size h =
    let w = is_whole b size h in
    ap (λ (r : Result ℕ PortKind). r >>= λ n. message_event own (take n (b ++ more))) (whole-append b more size h)
    ∙ ap (message_event own) (take-append-le size b more w.within)

-- two rests that agree where there is no fault
by-ext : (number : ℕ) (r : Result ℕ PortKind) (event : ℕ → Result (Option Event) PortKind) (x y : Frames) → ((n : ℕ) → r ≡ Ok n → x ≡ y) → frames_by number (r >>= event) x ≡ frames_by number (r >>= event) y
by-ext number (Ok n) event x y h = ap (frames_by number (event n)) (h n refl)
by-ext number (Err e) event x y h = refl

-- enough fuel is as good as more
frames_in-any : (own number n m : ℕ) (b : List ℕ) → length b ≤ n → length b ≤ m → frames_in own number n b ≡ frames_in own number m b
frames_in-any own number zero zero b h k = refl
frames_in-any own number zero (suc m) [] h k = refl
frames_in-any own number zero (suc m) (x ∷ r) h k = absurd (omega arith)
frames_in-any own number (suc n) zero [] h k = refl
frames_in-any own number (suc n) zero (x ∷ r) h k = absurd (omega arith)
frames_in-any own number (suc n) (suc m) [] h k = refl
frames_in-any own number (suc n) (suc m) (x ∷ r) h k =
    by-ext number (message_length (x ∷ r)) _ _ _ (λ size e.
    let w = is_whole (x ∷ r) size e in
    frames_in-any own (number + 1) n m (drop (length_of (x ∷ r)) (x ∷ r)) (omega (arith, w.least, w.is, length-drop {A = ℕ})) (omega (arith, w.least, w.is, length-drop {A = ℕ})))

pub frames_from-step : (own number : ℕ) (b : List ℕ) → 0 < length b → frames_from own number b ≡ frames_by number (front_event own b) (frames_from own (number + 1) (drop (length_of b) b))
unfolding frames_from
frames_from-step own number [] h = absurd (omega arith)
frames_from-step own number (x ∷ r) h =
    by-ext number (message_length (x ∷ r)) _ _ _ (λ size e.
    let w = is_whole (x ∷ r) size e in
    frames_in-any own (number + 1) (length r) (length (drop (length_of (x ∷ r)) (x ∷ r))) (drop (length_of (x ∷ r)) (x ∷ r)) (omega (arith, w.least, w.is, length-drop {A = ℕ})) (omega arith))

-- a whole message at the front, and what follows it
pub frames_from-whole : (own number : ℕ) (b more : List ℕ) (size : ℕ) → message_length b ≡ Ok size → frames_from own number (b ++ more) ≡ frames_by number (message_event own (take size b)) (frames_from own (number + 1) (drop size b ++ more))
frames_from-whole own number b more size h =
    let w = is_whole b size h in
    let rest : drop (length_of (b ++ more)) (b ++ more) ≡ drop size b ++ more =
    ap (λ n. drop n (b ++ more)) (length_of-append b more w.head ∙ w.is) ∙ drop-append-le size b more w.within in
    frames_from-step own number (b ++ more) (omega (arith, w.head, length-append b more))
    ∙ ap (λ r. frames_by number r (frames_from own (number + 1) (drop (length_of (b ++ more)) (b ++ more)))) (front_event-append own b more size h)
    ∙ ap (λ l. frames_by number (message_event own (take size b)) (frames_from own (number + 1) l)) rest

pub frames_from-fault : (own number : ℕ) (b more : List ℕ) (fault : PortKind) → 0 < length b → fault ≢ kind.End → message_length b ≡ Err fault → frames_from own number (b ++ more) ≡ ended [] (record { message = number; kind = fault })
frames_from-fault own number b more fault some other h =
    frames_from-step own number (b ++ more) (omega (arith, length-append b more))
    ∙ ap (λ (r : Result ℕ PortKind). frames_by number (r >>= λ n. message_event own (take n (b ++ more))) (frames_from own (number + 1) (drop (length_of (b ++ more)) (b ++ more)))) (fault-append b more fault some other h)

pub frames_from-part : (own number : ℕ) (b : List ℕ) → IsPart b → frames_from own number b ≡ record { events = []; fault = part_fault number b }
unfolding frames_from
frames_from-part own number [] h = refl
frames_from-part own number (x ∷ r) h =
    ap (λ (s : Result ℕ PortKind). frames_by number (s >>= λ n. message_event own (take n (x ∷ r))) (frames_in own (number + 1) (length r) (drop (length_of (x ∷ r)) (x ∷ r)))) (h (omega arith))
