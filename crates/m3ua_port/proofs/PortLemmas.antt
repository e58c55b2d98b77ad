-- The octets fed, before a piece and with it.
use Rattle.std.proofs.Common.{◌≡◌, ◌≢◌, ℕ, List, [], ◌∷◌, ◌++◌, length, Ok, Err, refl, ap, subst, sym, ◌∙◌, arith, append_assoc, append-nil, length-append}
use Rattle.std.specs.Prelude.{Some}
use Rattle.relay_base.specs.declared.words.Stamp.{Stamp}
use Rattle.relay_base.specs.declared.words.Event.{Event}
use Rattle.m3ua_port.specs.declared.fault.PortKind.{PortKind}
use Rattle.m3ua_port.specs.declared.fault.PortKind.TheVariants as kind
use Rattle.m3ua_port.specs.declared.fault.PortFault.{PortFault}
use Rattle.m3ua_port.specs.declared.fault.PortRefused.TheVariants.{Fault}
use Rattle.m3ua_port.specs.declared.reader.Reader.{Reader}
use Rattle.m3ua_port.specs.Frames.{Frames, frames_from, frames_of}
use Rattle.m3ua_port.specs.Ports.{events_of, unless_end, answer_to, answer_of}
use Rattle.m3ua_port.specs.Inner.Reading.{preceded, ended, LeadsTo, EndsWith, IsPart, part_fault}
use Rattle.m3ua_port.specs.Inner.Steps.{reading_of, Reads}
use Rattle.m3ua_port.specs.Inner.Standing.{start_of, IsOpen}
use Rattle.m3ua_port.proofs.FrameLemmas.{frames_from-part}

preceded-twice : (first second : List (Stamp × Event)) (frames : Frames) → preceded first (preceded second frames) ≡ preceded (first ++ second) frames
preceded-twice first second frames = ap (λ (l : List (Stamp × Event)). record { events = l; fault = frames.fault }) (sym (append_assoc first second frames.events))

-- the octets behind a part and a piece
behind : (part piece more : List ℕ) → (part ++ []) ++ (piece ++ more) ≡ (part ++ piece) ++ more
behind part piece more = ap (λ (l : List ℕ). l ++ (piece ++ more)) (append-nil part) ∙ sym (append_assoc part piece more)

-- what a piece leaves to read, after the octets before it
before-piece : (own number : ℕ) (events : List (Stamp × Event)) (fed part piece more : List ℕ) → LeadsTo own (start_of fed) (record { events = events; number = number; octets = part ++ [] }) → frames_of own ((fed ++ piece) ++ more) ≡ preceded events (frames_from own number ((part ++ piece) ++ more))
before-piece own number events fed part piece more leads =
    ap (frames_of own) (append_assoc fed piece more) ∙ leads (piece ++ more)
    ∙ ap (λ (l : List ℕ). preceded events (frames_from own number l)) (behind part piece more)

pub leads-on : (own number later : ℕ) (events added : List (Stamp × Event)) (fed part rest piece : List ℕ) → LeadsTo own (start_of fed) (record { events = events; number = number; octets = part ++ [] }) → LeadsTo own (record { events = []; number = number; octets = part ++ piece }) (record { events = added; number = later; octets = rest }) → LeadsTo own (start_of (fed ++ piece)) (record { events = events ++ added; number = later; octets = rest })
leads-on own number later events added fed part rest piece leads next more =
    before-piece own number events fed part piece more leads ∙ ap (preceded events) (next more)
    ∙ preceded-twice events added (frames_from own later (rest ++ more))

pub ends-on : (own number : ℕ) (events added : List (Stamp × Event)) (fed part piece : List ℕ) (fault : PortFault) → LeadsTo own (start_of fed) (record { events = events; number = number; octets = part ++ [] }) → EndsWith own (record { events = []; number = number; octets = part ++ piece }) added fault → EndsWith own (start_of (fed ++ piece)) (events ++ added) fault
ends-on own number events added fed part piece fault leads next = record {
  frames = λ more. before-piece own number events fed part piece more leads ∙ ap (preceded events) (next.frames more);
  stands = next.stands;
}

-- all that was fed, where it has a fault, and where it has none
pub ends-frames : (own : ℕ) (events : List (Stamp × Event)) (fed : List ℕ) (fault : PortFault) → EndsWith own (start_of fed) events fault → frames_of own fed ≡ ended events fault
ends-frames own events fed fault ends = ap (frames_of own) (sym (append-nil fed)) ∙ ends.frames []

pub leads-frames : (own number : ℕ) (events : List (Stamp × Event)) (fed part : List ℕ) → LeadsTo own (start_of fed) (record { events = events; number = number; octets = part ++ [] }) → IsPart part → frames_of own fed ≡ record { events = events; fault = part_fault number part }
leads-frames own number events fed part leads is_part =
    ap (frames_of own) (sym (append-nil fed)) ∙ leads []
    ∙ ap (λ (l : List ℕ). preceded events (frames_from own number l)) (append-nil (part ++ []) ∙ append-nil part)
    ∙ ap (preceded events) (frames_from-part own number part is_part)
    ∙ ap (λ (l : List (Stamp × Event)). record { events = l; fault = part_fault number part }) (append-nil events)

-- a part is no fault yet, and another fault is one
pub part-answer : (number : ℕ) (part : List ℕ) → answer_to (part_fault number part) ≡ Ok tt
part-answer number [] = refl
part-answer number (octet ∷ octets) = refl

pub fault-answer : (kinds : PortKind) (fault : PortFault) → kinds ≢ kind.End → unless_end kinds fault ≡ Err (Fault fault)
fault-answer kind.Version fault other = refl
fault-answer kind.Length fault other = refl
fault-answer kind.End fault other = absurd (other refl)
fault-answer kind.Parameter fault other = refl
fault-answer kind.Missing fault other = refl
fault-answer kind.Short fault other = refl
fault-answer kind.Range fault other = refl

-- a reader that stood open stands so behind a piece
pub record OpensOn (old new : Reader) (fed piece : List ℕ) (added : List (Stamp × Event)) : Type 0 where
  pub frames : frames_of old.own (fed ++ piece) ≡ record { events = events_of old.own fed ++ added; fault = part_fault new.number new.part.items }
  pub opens : IsOpen new (fed ++ piece)

pub opens-on : (old new : Reader) (fed piece : List ℕ) (added : List (Stamp × Event)) → IsOpen old fed → Reads old new piece [] added → new.own ≡ old.own → OpensOn old new fed piece added
opens-on old new fed piece added stood reads same =
    let leads : LeadsTo old.own (start_of (fed ++ piece)) (reading_of new [] (events_of old.own fed ++ added)) =
    leads-on old.own old.number new.number (events_of old.own fed) added fed old.part.items (new.part.items ++ []) piece stood.leads reads.leads in
    let frames = leads-frames old.own new.number (events_of old.own fed ++ added) (fed ++ piece) new.part.items leads reads.part in
    let whole : events_of old.own (fed ++ piece) ≡ events_of old.own fed ++ added = ap (λ (f : Frames). f.events) frames in
    let E : List (Stamp × Event) → Type 0 = λ l. LeadsTo old.own (start_of (fed ++ piece)) (reading_of new [] l) in
    let O : ℕ → Type 0 = λ own. LeadsTo own (start_of (fed ++ piece)) (reading_of new [] (events_of own (fed ++ piece))) in
    record {
      frames = frames;
      opens = record {
        leads = subst O (sym same) (subst E (sym whole) leads);
        part = reads.part;
        bound = omega (arith, stood.bound, reads.bound, length-append fed piece);
      };
    }

-- a reader that stood open stands at a fault behind a piece
pub ended-on : (old : Reader) (fed piece : List ℕ) (added : List (Stamp × Event)) (fault : PortFault) → IsOpen old fed → EndsWith old.own (reading_of old piece []) added fault → EndsWith old.own (start_of (fed ++ piece)) (events_of old.own fed ++ added) fault
ended-on old fed piece added fault stood ends = ends-on old.own old.number (events_of old.own fed) added fed old.part.items piece fault stood.leads ends

-- the events of a stream stand in its end
pub ended-events : (own : ℕ) (events : List (Stamp × Event)) (fed : List ℕ) (fault : PortFault) → EndsWith own (start_of fed) events fault → EndsWith own (start_of fed) (events_of own fed) fault
ended-events own events fed fault ends =
    let E : List (Stamp × Event) → Type 0 = λ l. EndsWith own (start_of fed) l fault in
    subst E (sym (ap (λ (f : Frames). f.events) (ends-frames own events fed fault ends))) ends

pub ended-answer : (own : ℕ) (events : List (Stamp × Event)) (fed : List ℕ) (fault : PortFault) → EndsWith own (start_of fed) events fault → answer_of own fed ≡ Err (Fault fault)
ended-answer own events fed fault ends =
    ap (λ (f : Frames). answer_to f.fault) (ends-frames own events fed fault ends) ∙ fault-answer fault.kind fault ends.stands

pub open-answer : (reader : Reader) (fed : List ℕ) → IsOpen reader fed → answer_of reader.own fed ≡ Ok tt
open-answer reader fed stood =
    ap (λ (f : Frames). answer_to f.fault) (leads-frames reader.own reader.number (events_of reader.own fed) fed reader.part.items stood.leads stood.part) ∙ part-answer reader.number reader.part.items

pub open-start : (reader : Reader) (octets : List ℕ) → octets ≡ [] → reader.number ≡ 1 → reader.part.items ≡ [] → IsOpen reader octets
unfolding frames_from
open-start reader octets none number part =
    rw none (record {
      leads = λ more. ap (λ (n : ℕ). preceded [] (frames_from reader.own n more)) (sym number) ∙ ap (λ (l : List ℕ). preceded [] (frames_from reader.own reader.number ((l ++ []) ++ more))) (sym part);
      part = λ some. absurd (omega (arith, ap length part));
      bound = omega (arith, ap length part, number);
    })

-- what a port keeps of the fault that it found
pub stands-at : (old new : Reader) (fed : List ℕ) (fault found : PortFault) → EndsWith old.own (start_of fed) (events_of old.own fed) fault → new.own ≡ old.own → Some fault ≡ Some found → EndsWith new.own (start_of fed) (events_of new.own fed) found
stands-at old new fed fault found ends own same =
    let F : PortFault → Type 0 = λ f. EndsWith old.own (start_of fed) (events_of old.own fed) f in
    let O : ℕ → Type 0 = λ n. EndsWith n (start_of fed) (events_of n fed) found in
    let is : fault ≡ found = cc in
    subst O (sym own) (subst F is ends)
