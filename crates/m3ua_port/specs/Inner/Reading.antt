-- How far a stream is read: what that leaves to read gives the same events and the same fault, whatever follows.
use Rattle.std.specs.Prelude.{◌≡◌, ◌≢◌, ◌<◌, ◌≤◌, ℕ, List, [], ◌∷◌, ◌++◌, length, Option, Some, None, Ok, Err}
use Rattle.std.specs.declared.result.Result.{Result}
use Rattle.relay_base.specs.declared.words.Stamp.{Stamp}
use Rattle.relay_base.specs.declared.words.Event.{Event}
use Rattle.m3ua_port.specs.declared.fault.PortKind.{PortKind}
use Rattle.m3ua_port.specs.declared.fault.PortKind.TheVariants as kind
use Rattle.m3ua_port.specs.declared.fault.PortFault.{PortFault}
use Rattle.m3ua_port.specs.declared.fault.PortRefused.{PortRefused}
use Rattle.m3ua_port.specs.declared.fault.PortRefused.TheVariants.{Fault, Memory}
use Rattle.m3ua_port.specs.Frames.{Frames, frames_by, frames_from, message_length}

-- a fact on the fault that a call answered
abbrev pub IfFault : {A : Type 0} → Result A PortRefused → (PortFault → Type 0) → Type 0
IfFault (Ok x) P = Unit {0}
IfFault (Err (Fault fault)) P = P fault
IfFault (Err Memory) P = Unit {0}

-- events in front of those of a stream
abbrev pub preceded : List (Stamp × Event) → Frames → Frames
preceded events frames = record { events = events ++ frames.events; fault = frames.fault }

-- a stream that ends with a fault
abbrev pub ended : List (Stamp × Event) → PortFault → Frames
ended events fault = record { events = events; fault = Some fault }

-- the event of a message was put at the end
abbrev pub AddsEvent : ℕ → Result (Option Event) PortKind → List (Stamp × Event) → List (Stamp × Event) → Type 0
AddsEvent number event old new = (later : Frames) → preceded old (frames_by number event later) ≡ preceded new later

-- its fault was found, which is none of a header that isn't whole
pub record IsFaultOf (number : ℕ) (event : Result (Option Event) PortKind) (old new : List (Stamp × Event)) (fault : PortFault) : Type 0 where
  pub frames : (later : Frames) → preceded old (frames_by number event later) ≡ ended new fault
  pub stands : fault.kind ≢ kind.End

-- The events so far, the number of the next message, and the octets from its front on.
pub record Reading : Type 0 where
  pub events : List (Stamp × Event)
  pub number : ℕ
  pub octets : List ℕ

-- what a reading comes to where more octets follow
abbrev pub comes_to : ℕ → Reading → List ℕ → Frames
comes_to own reading more = preceded reading.events (frames_from own reading.number (reading.octets ++ more))

abbrev pub LeadsTo : ℕ → Reading → Reading → Type 0
LeadsTo own old new = (more : List ℕ) → comes_to own old more ≡ comes_to own new more

pub record EndsWith (own : ℕ) (old : Reading) (events : List (Stamp × Event)) (fault : PortFault) : Type 0 where
  pub frames : (more : List ℕ) → comes_to own old more ≡ ended events fault
  pub stands : fault.kind ≢ kind.End

-- the front of a message that isn't whole, and in which there is no fault yet
abbrev pub IsPart : List ℕ → Type 0
IsPart octets = 0 < length octets → message_length octets ≡ Err kind.End

-- what is told of the length of the message at the front
abbrev pub IsLengthOf : Result (Option ℕ) PortKind → List ℕ → Type 0
IsLengthOf (Ok None) octets = message_length octets ≡ Err kind.End
IsLengthOf (Ok (Some size)) octets = message_length octets ≡ Ok size
IsLengthOf (Err fault) octets = (message_length octets ≡ Err fault) × (fault ≢ kind.End)

-- where so many octets at most come behind a part, a whole message ends with them
abbrev pub Wants : List ℕ → ℕ → Type 0
Wants part count = (more : List ℕ) (size : ℕ) → length more ≤ count → message_length (part ++ more) ≡ Ok size → size ≡ length (part ++ more)

-- the fault of a stream that ends behind a part of the message of this number
abbrev pub part_fault : ℕ → List ℕ → Option PortFault
part_fault number [] = None
part_fault number (octet ∷ octets) = Some (record { message = number; kind = kind.End })
