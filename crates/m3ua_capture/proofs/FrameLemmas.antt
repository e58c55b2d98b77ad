-- What the octets of a stream give stays where more follow.
use Rattle.std.proofs.Common.{◌≡◌, ◌≢◌, ◌⊎◌, ⊎_elim, inl, inr, ℕ, zero, suc, ◌+◌, ◌<◌, ◌≤◌, List, [], ◌∷◌, ◌++◌, length, take, drop, Ok, Err, refl, ap, sym, subst, ◌∙◌, arith, append_assoc, append-nil, length-append, length-drop, lt-ltb}
use Rattle.std.specs.Prelude.{Option, Some, None}
use Rattle.std.specs.declared.result.Result.{Result}
use Rattle.std.proofs.lemmas.Bool.{le-ltb}
use Rattle.std.proofs.lemmas.Option.{same_Some}
use Rattle.capture_form.specs.declared.steps.TheConstants.{MOST_LINES}
use Rattle.relay_base.specs.declared.words.Stamp.{Stamp}
use Rattle.relay_base.specs.declared.words.Event.{Event}
use Rattle.m3ua_port.specs.declared.fault.PortKind.{PortKind}
use Rattle.m3ua_port.specs.declared.fault.PortKind.TheVariants as kind
use Rattle.m3ua_port.specs.declared.fault.PortFault.{PortFault}
use Rattle.m3ua_port.specs.declared.fault.PortRefused.TheVariants.{Fault}
use Rattle.m3ua_port.specs.Frames.{Frames, message_length, message_event, stamped, frames_by, frames_from, frames_of}
use Rattle.m3ua_port.specs.Ports.{unless_end, answer_to, answer_of, events_of}
use Rattle.m3ua_port.specs.Inner.Reading.{IsPart, part_fault}
use Rattle.capture_form.specs.declared.fault.Limit.TheVariants.{Lines}
use Rattle.capture_form.specs.declared.fault.CaptureFault.TheVariants as refused
use Rattle.m3ua_capture.specs.declared.fault.StreamFault.TheVariants as stream
use Rattle.relay_base.specs.Giving.{RefusesOrMemory}
use Rattle.m3ua_capture.specs.declared.fault.StreamFault.{StreamFault}
use Rattle.m3ua_capture.specs.Streams.{fault_in, limited}
use Rattle.m3ua_capture.specs.Inner.Feeding.{Refuses}
use Rattle.m3ua_port.proofs.FrameLemmas.{is_whole, frames_from-whole, frames_from-fault, frames_from-part}

-- the fault of a message that isn't whole, or another one
is_end-or : (k : PortKind) → (k ≡ kind.End) ⊎ (k ≢ kind.End)
is_end-or kind.Version = inr (λ h. absurd (cc))
is_end-or kind.Length = inr (λ h. absurd (cc))
is_end-or kind.End = inl refl
is_end-or kind.Parameter = inr (λ h. absurd (cc))
is_end-or kind.Missing = inr (λ h. absurd (cc))
is_end-or kind.Short = inr (λ h. absurd (cc))
is_end-or kind.Range = inr (λ h. absurd (cc))

-- more events may come behind those before, but none behind a fault
pub record Stays (before after : Frames) : Type 0 where
  pub events : List (Stamp × Event)
  pub put : after.events ≡ before.events ++ events
  pub ended : (fault : PortFault) → before.fault ≡ Some fault → fault.kind ≢ kind.End → after ≡ before

same_stays : (a b : Frames) → b ≡ a → Stays a b
same_stays a b e = record {
  events = [];
  put = ap (λ (f : Frames). f.events) e ∙ sym (append-nil a.events);
  ended = λ fault is other. e;
}

by-stays : (number : ℕ) (r : Result (Option Event) PortKind) (a b : Frames) → Stays a b → Stays (frames_by number r a) (frames_by number r b)
by-stays number (Err k) a b s = same_stays _ _ refl
by-stays number (Ok event) a b s = record {
  events = s.events;
  put = ap (λ l. stamped number event ++ l) s.put ∙ sym (append_assoc (stamped number event) a.events s.events);
  ended = λ fault is other. ap (frames_by number (Ok event)) (s.ended fault is other);
}

-- the first message, whose front is a part of what follows too
abbrev StaysFrom : ℕ → ℕ → List ℕ → List ℕ → Type 0
StaysFrom own number b more = Stays (frames_from own number b) (frames_from own number (b ++ more))

whole_stays : (own number size : ℕ) (b more : List ℕ) → message_length b ≡ Ok size → StaysFrom own (number + 1) (drop size b) more → StaysFrom own number b more
whole_stays own number size b more h s =
    let event = message_event own (take size b) in
    let alone : frames_from own number b ≡ frames_by number event (frames_from own (number + 1) (drop size b)) =
    ap (frames_from own number) (sym (append-nil b)) ∙ frames_from-whole own number b [] size h
    ∙ ap (λ l. frames_by number event (frames_from own (number + 1) l)) (append-nil (drop size b)) in
    rw (alone, frames_from-whole own number b more size h) (by-stays number event _ _ s)

part-ends : (number : ℕ) (b : List ℕ) (fault : PortFault) → part_fault number b ≡ Some fault → fault.kind ≡ kind.End
part-ends number [] fault h = absurd (cc)
part-ends number (octet ∷ octets) fault h = ap (λ (f : PortFault). f.kind) (sym (same_Some _ _ h))

part_stays : (own number : ℕ) (b more : List ℕ) → IsPart b → StaysFrom own number b more
part_stays own number b more h =
    let part = frames_from-part own number b h in
    record {
      events = (frames_from own number (b ++ more)).events;
      put = ap (λ (f : Frames). f.events ++ (frames_from own number (b ++ more)).events) (sym part);
      ended = λ fault is other. absurd (other (part-ends number b fault (ap (λ (f : Frames). f.fault) (sym part) ∙ is)));
    }

fault_stays : (own number : ℕ) (b more : List ℕ) (k : PortKind) → 0 < length b → k ≢ kind.End → message_length b ≡ Err k → StaysFrom own number b more
fault_stays own number b more k some other h =
    let alone = ap (frames_from own number) (sym (append-nil b)) ∙ frames_from-fault own number b [] k some other h in
    same_stays _ _ (frames_from-fault own number b more k some other h ∙ sym alone)

stays : (own number n : ℕ) (b more : List ℕ) → length b ≤ n → StaysFrom own number b more
stays own number n [] more h = part_stays own number [] more (λ some. absurd (omega (arith, some)))
stays own number zero (x ∷ r) more h = absurd (omega (arith, h))
stays own number (suc n) (x ∷ r) more h = by (message_length (x ∷ r)) refl (λ size few. stays own (number + 1) n (drop size (x ∷ r)) more few)
  where
    by : (size : Result ℕ PortKind) → message_length (x ∷ r) ≡ size → ((k : ℕ) → length (drop k (x ∷ r)) ≤ n → StaysFrom own (number + 1) (drop k (x ∷ r)) more) → StaysFrom own number (x ∷ r) more
    by (Ok size) e behind =
        let w = is_whole (x ∷ r) size e in
        whole_stays own number size (x ∷ r) more e (behind size (omega (arith, w.least, h, length-drop {A = ℕ})))
    by (Err k) e behind = ⊎_elim
        (λ end. part_stays own number (x ∷ r) more (λ some. e ∙ ap Err end))
        (λ other. fault_stays own number (x ∷ r) more k (omega arith) other e)
        (is_end-or k)

-- ---- what a port answers

unless-answered : (k : PortKind) (f fault : PortFault) → unless_end k f ≡ Err (Fault fault) → (f ≡ fault) × (k ≢ kind.End)
unless-answered kind.Version f fault h = (cc, λ e. absurd (cc))
unless-answered kind.Length f fault h = (cc, λ e. absurd (cc))
unless-answered kind.End f fault h = absurd (cc)
unless-answered kind.Parameter f fault h = (cc, λ e. absurd (cc))
unless-answered kind.Missing f fault h = (cc, λ e. absurd (cc))
unless-answered kind.Short f fault h = (cc, λ e. absurd (cc))
unless-answered kind.Range f fault h = (cc, λ e. absurd (cc))

answered : (found : Option PortFault) (fault : PortFault) → answer_to found ≡ Err (Fault fault) → (found ≡ Some fault) × (fault.kind ≢ kind.End)
answered None fault h = absurd (cc)
answered (Some f) fault h =
    let a = unless-answered f.kind f fault h in
    (ap Some a.0, λ end. a.1 (ap (λ (g : PortFault). g.kind) a.0 ∙ end))

-- a fault behind not too many events is that of the stream
pub fault-given : (own : ℕ) (fed more : List ℕ) (fault : PortFault) → answer_of own fed ≡ Err (Fault fault) → length (events_of own fed) ≤ MOST_LINES
    → limited (frames_of own (fed ++ more)) ≡ Err (stream.Port fault)
fault-given own fed more fault h few =
    let a = answered (frames_of own fed).fault fault h in
    let s = stays own 1 (length fed) fed more (omega arith) in
    rw (s.ended fault a.0 a.1, le-ltb MOST_LINES (length (events_of own fed)) few, a.0) refl

-- too many events are too many where more follow
pub many-given : (own : ℕ) (fed more : List ℕ) → MOST_LINES < length (events_of own fed) → limited (frames_of own (fed ++ more)) ≡ Err (stream.Capture (refused.TooLong Lines))
many-given own fed more many =
    let s = stays own 1 (length fed) fed more (omega arith) in
    let size = ap length s.put ∙ length-append (events_of own fed) s.events in
    rw (lt-ltb MOST_LINES (length (events_of own (fed ++ more))) (omega (arith, many, size))) refl

-- nothing came yet
pub none-given : (own : ℕ) → [] ≡ events_of own []
unfolding frames_from
none-given own = refl

-- what is refused of all octets
pub whole-refused : (own : ℕ) (octets : List ℕ) (fault : StreamFault) → Refuses own octets fault → RefusesOrMemory (fault_in fault) (limited (frames_of own octets))
whole-refused own octets fault h = subst (λ l. RefusesOrMemory (fault_in fault) (limited (frames_of own l))) (append-nil octets) (h [])
