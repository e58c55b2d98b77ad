-- One message of a stream read, or its fault found.
use Rattle.std.proofs.Common.{◌≡◌, ◌≢◌, ℕ, ◌+◌, ◌<◌, List, [], ◌++◌, length, take, drop, Ok, Err, ap, sym, ◌∙◌, append_assoc, append-nil}
use Rattle.std.proofs.lemmas.List.{take-append-drop}
use Rattle.relay_base.specs.declared.words.Stamp.{Stamp}
use Rattle.relay_base.specs.declared.words.Event.{Event}
use Rattle.m3ua_port.specs.declared.fault.PortKind.{PortKind}
use Rattle.m3ua_port.specs.declared.fault.PortKind.TheVariants as kind
use Rattle.m3ua_port.specs.declared.fault.PortFault.{PortFault}
use Rattle.m3ua_port.specs.declared.fault.PortRefused.{PortRefused}
use Rattle.m3ua_port.specs.declared.fault.PortRefused.TheVariants.{Fault, Memory}
use Rattle.m3ua_port.specs.Frames.{message_length, message_event, frames_from}
use Rattle.m3ua_port.specs.Inner.Reading.{IfFault, preceded, ended, AddsEvent, IsFaultOf, LeadsTo, EndsWith}
use Rattle.m3ua_port.proofs.FrameLemmas.{frames_from-whole, frames_from-fault}

-- a whole message stands in front of the rest
pub lead-whole : (own number : ℕ) (before after : List (Stamp × Event)) (octets b rest next : List ℕ) (size : ℕ) → octets ≡ b ++ rest → next ≡ drop size b ++ rest → message_length b ≡ Ok size → AddsEvent number (message_event own (take size b)) before after → LeadsTo own (record { events = before; number = number; octets = octets }) (record { events = after; number = number + 1; octets = next })
lead-whole own number before after octets b rest next size e f h adds more =
    ap (λ (l : List ℕ). preceded before (frames_from own number l)) (ap (λ (l : List ℕ). l ++ more) e ∙ append_assoc b rest more)
    ∙ ap (preceded before) (frames_from-whole own number b (rest ++ more) size h)
    ∙ adds (frames_from own (number + 1) (drop size b ++ (rest ++ more)))
    ∙ ap (λ (l : List ℕ). preceded after (frames_from own (number + 1) l)) (sym (append_assoc (drop size b) rest more) ∙ ap (λ (l : List ℕ). l ++ more) (sym f))

-- the whole message in front has a fault
pub end-event : (own number : ℕ) (before after : List (Stamp × Event)) (octets b rest : List ℕ) (size : ℕ) (fault : PortFault) → octets ≡ b ++ rest → message_length b ≡ Ok size → IsFaultOf number (message_event own (take size b)) before after fault → EndsWith own (record { events = before; number = number; octets = octets }) after fault
end-event own number before after octets b rest size fault e h is = record {
  frames = λ more.
      ap (λ (l : List ℕ). preceded before (frames_from own number l)) (ap (λ (l : List ℕ). l ++ more) e ∙ append_assoc b rest more)
      ∙ ap (preceded before) (frames_from-whole own number b (rest ++ more) size h)
      ∙ is.frames (frames_from own (number + 1) (drop size b ++ (rest ++ more)));
  stands = is.stands;
}

-- the header in front has a fault
pub end-header : (own number : ℕ) (before : List (Stamp × Event)) (octets b rest : List ℕ) (fault : PortKind) → octets ≡ b ++ rest → 0 < length b → (message_length b ≡ Err fault) × (fault ≢ kind.End) → EndsWith own (record { events = before; number = number; octets = octets }) before (record { message = number; kind = fault })
end-header own number before octets b rest fault e some h = record {
  frames = λ more.
      ap (λ (l : List ℕ). preceded before (frames_from own number l)) (ap (λ (l : List ℕ). l ++ more) e ∙ append_assoc b rest more)
      ∙ ap (preceded before) (frames_from-fault own number b (rest ++ more) fault some h.1 h.0)
      ∙ ap (λ (l : List (Stamp × Event)). ended l (record { message = number; kind = fault })) (append-nil before);
  stands = h.1;
}

-- octets of the rest are put to a part
pub split : (part piece : List ℕ) (count : ℕ) → part ++ piece ≡ (part ++ take count piece) ++ drop count piece
split part piece count = sym (append_assoc part (take count piece) (drop count piece) ∙ ap (λ (l : List ℕ). part ++ l) (take-append-drop count piece))

-- no part stands in front
pub alone : (part piece : List ℕ) → part ≡ [] → part ++ piece ≡ piece ++ []
alone part piece e = ap (λ (l : List ℕ). l ++ piece) e ∙ sym (append-nil piece)

pub if_fault-map : (A B : Type 0) (refused : PortRefused) (P Q : PortFault → Type 0) → ((fault : PortFault) → P fault → Q fault) → IfFault {A = A} (Err refused) P → IfFault {A = B} (Err refused) Q
if_fault-map A B (Fault fault) P Q f p = f fault p
if_fault-map A B Memory P Q f p = tt
