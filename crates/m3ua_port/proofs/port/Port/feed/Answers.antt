use Rattle.std.proofs.Common.{◌≡◌, ◌+◌, ◌≤◌, ◌++◌, Ok, Err, length, ap, sym, ◌∙◌, refl, arith, length-append}
use Rattle.m3ua_port.specs.declared.fault.PortRefused.TheVariants.{Fault}
use Rattle.m3ua_port.specs.declared.limits.TheConstants.{MOST_OCTETS}
use Rattle.m3ua_port.specs.Frames.{Frames}
use Rattle.m3ua_port.specs.Ports.{answer_to, answer_of}
use Rattle.m3ua_port.specs.Inner.Steps.{TookToFault}
use Rattle.m3ua_port.specs.Inner.Standing.{IsOpen}
use Rattle.m3ua_port.proofs.PortLemmas.{opens-on, ended-on, ended-events, ended-answer, stands-at, open-answer, ends-frames, part-answer}
use Rattle.m3ua_port.proofs.port.Port.feed.Goals as goal

pub returns-in-Some-clause-again : goal.returns-in-Some-clause-again
returns-in-Some-clause-again c =
    let answer : answer_of c.self.inside.reader.own c.self.inside.fed.value ≡ Err (Fault c.in-Some.fault) =
    ended-answer c.self.inside.reader.own _ c.self.inside.fed.value c.in-Some.fault (c.self.invariant.ended c.if-self.false c.in-Some.fault c.in-Some.is) in
    λ going. rw (← c.self.view_is, answer) refl

pub invariant_of-self-in-Ok : goal.invariant_of-self-in-Ok
invariant_of-self-in-Ok c =
    let room : length c.self.inside.fed.value + length c.args.piece.now ≤ MOST_OCTETS = rw (← c.self.view_is) at c.requires in
    let stood : IsOpen c.self.inside.reader c.self.inside.fed.value = c.self.invariant.reads c.if-self.false c.in_default.is in
    let on = opens-on c.self.inside.reader c.take.new.self c.self.inside.fed.value c.args.piece.now c.in-Ok.ensures.ok.added stood c.in-Ok.ensures.ok.reads c.in-Ok.ensures.own in
    rw c.fed_with-fed.ensures (record {
      few = omega (arith, room, length-append c.self.inside.fed.value c.args.piece.now);
      reads = λ _ _. on.opens;
      ended = λ _ found h. absurd (cc);
    })

pub invariant_of-self-in-Err-Fault : goal.invariant_of-self-in-Err-Fault
invariant_of-self-in-Err-Fault c =
    let room : length c.self.inside.fed.value + length c.args.piece.now ≤ MOST_OCTETS = rw (← c.self.view_is) at c.requires in
    let stood : IsOpen c.self.inside.reader c.self.inside.fed.value = c.self.invariant.reads c.if-self.false c.in_default.is in
    let took : TookToFault c.self.inside.reader c.args.piece.now c.args.events.now c.take.new.events c.in-Err-Fault.fault = rw c.in-Err-Fault.field-0-is at c.in-Err-Fault.ensures.fault in
    let ends = ended-on c.self.inside.reader c.self.inside.fed.value c.args.piece.now took.added c.in-Err-Fault.fault stood took.ends in
    let whole = ended-events c.self.inside.reader.own _ (c.self.inside.fed.value ++ c.args.piece.now) c.in-Err-Fault.fault ends in
    rw c.fed_with-fed.ensures (record {
      few = omega (arith, room, length-append c.self.inside.fed.value c.args.piece.now);
      reads = λ _ h. absurd (cc);
      ended = λ _ found h. stands-at c.self.inside.reader c.take.new.self (c.self.inside.fed.value ++ c.args.piece.now) c.in-Err-Fault.fault found whole c.in-Err-Fault.ensures.own h;
    })

pub returns-in-Ok-clause-events : goal.returns-in-Ok-clause-events
returns-in-Ok-clause-events c =
    let stood : IsOpen c.self.inside.reader c.self.inside.fed.value = c.self.invariant.reads c.if-self.false c.in_default.is in
    let on = opens-on c.self.inside.reader c.take.new.self c.self.inside.fed.value c.args.piece.now c.in-Ok.ensures.ok.added stood c.in-Ok.ensures.ok.reads c.in-Ok.ensures.own in
    λ other. rw (← c.self.view_is, c.fed_with-fed.ensures) (record {
      events = c.in-Ok.ensures.ok.added;
      put = c.in-Ok.ensures.ok.put;
      all = ap (λ (f : Frames). f.events) on.frames;
    })

pub returns-in-Ok-clause-answer : goal.returns-in-Ok-clause-answer
returns-in-Ok-clause-answer c =
    let stood : IsOpen c.self.inside.reader c.self.inside.fed.value = c.self.invariant.reads c.if-self.false c.in_default.is in
    let on = opens-on c.self.inside.reader c.take.new.self c.self.inside.fed.value c.args.piece.now c.in-Ok.ensures.ok.added stood c.in-Ok.ensures.ok.reads c.in-Ok.ensures.own in
    λ other. rw (← c.self.view_is, c.fed_with-fed.ensures) (sym (ap (λ (f : Frames). answer_to f.fault) on.frames ∙ part-answer c.take.new.self.number c.take.new.self.part.items))

pub returns-in-Ok-clause-again : goal.returns-in-Ok-clause-again
returns-in-Ok-clause-again c =
    let stood : IsOpen c.self.inside.reader c.self.inside.fed.value = c.self.invariant.reads c.if-self.false c.in_default.is in
    let answer : answer_of c.self.inside.reader.own c.self.inside.fed.value ≡ Ok tt = open-answer c.self.inside.reader c.self.inside.fed.value stood in
    λ going. rw (← c.self.view_is, answer) tt

pub returns-in-Err-Fault-clause-events : goal.returns-in-Err-Fault-clause-events
returns-in-Err-Fault-clause-events c =
    let stood : IsOpen c.self.inside.reader c.self.inside.fed.value = c.self.invariant.reads c.if-self.false c.in_default.is in
    let took : TookToFault c.self.inside.reader c.args.piece.now c.args.events.now c.take.new.events c.in-Err-Fault.fault = rw c.in-Err-Fault.field-0-is at c.in-Err-Fault.ensures.fault in
    let ends = ended-on c.self.inside.reader c.self.inside.fed.value c.args.piece.now took.added c.in-Err-Fault.fault stood took.ends in
    λ other. rw (← c.self.view_is, c.fed_with-fed.ensures) (record {
      events = took.added;
      put = took.put;
      all = ap (λ (f : Frames). f.events) (ends-frames c.self.inside.reader.own _ (c.self.inside.fed.value ++ c.args.piece.now) c.in-Err-Fault.fault ends);
    })

pub returns-in-Err-Fault-clause-answer : goal.returns-in-Err-Fault-clause-answer
returns-in-Err-Fault-clause-answer c =
    let stood : IsOpen c.self.inside.reader c.self.inside.fed.value = c.self.invariant.reads c.if-self.false c.in_default.is in
    let took : TookToFault c.self.inside.reader c.args.piece.now c.args.events.now c.take.new.events c.in-Err-Fault.fault = rw c.in-Err-Fault.field-0-is at c.in-Err-Fault.ensures.fault in
    let ends = ended-on c.self.inside.reader c.self.inside.fed.value c.args.piece.now took.added c.in-Err-Fault.fault stood took.ends in
    λ other. rw (← c.self.view_is, c.fed_with-fed.ensures) (sym (ended-answer c.self.inside.reader.own _ (c.self.inside.fed.value ++ c.args.piece.now) c.in-Err-Fault.fault ends))

pub returns-in-Err-Fault-clause-again : goal.returns-in-Err-Fault-clause-again
returns-in-Err-Fault-clause-again c =
    let stood : IsOpen c.self.inside.reader c.self.inside.fed.value = c.self.invariant.reads c.if-self.false c.in_default.is in
    let answer : answer_of c.self.inside.reader.own c.self.inside.fed.value ≡ Ok tt = open-answer c.self.inside.reader c.self.inside.fed.value stood in
    λ going. rw (← c.self.view_is, answer) tt

pub returns-in-Err-Memory-clause-again : goal.returns-in-Err-Memory-clause-again
returns-in-Err-Memory-clause-again c =
    let stood : IsOpen c.self.inside.reader c.self.inside.fed.value = c.self.invariant.reads c.if-self.false c.in_default.is in
    let answer : answer_of c.self.inside.reader.own c.self.inside.fed.value ≡ Ok tt = open-answer c.self.inside.reader c.self.inside.fed.value stood in
    λ going. rw (← c.self.view_is, answer) tt

pub returns-in-Ok-clause-still : goal.returns-in-Ok-clause-still
returns-in-Ok-clause-still c =
    let stood : IsOpen c.self.inside.reader c.self.inside.fed.value = c.self.invariant.reads c.if-self.false c.in_default.is in
    let answer : answer_of c.self.inside.reader.own c.self.inside.fed.value ≡ Ok tt = open-answer c.self.inside.reader c.self.inside.fed.value stood in
    λ going. rw (← c.self.view_is, answer) tt

pub returns-in-Err-Fault-clause-still : goal.returns-in-Err-Fault-clause-still
returns-in-Err-Fault-clause-still c =
    let stood : IsOpen c.self.inside.reader c.self.inside.fed.value = c.self.invariant.reads c.if-self.false c.in_default.is in
    let answer : answer_of c.self.inside.reader.own c.self.inside.fed.value ≡ Ok tt = open-answer c.self.inside.reader c.self.inside.fed.value stood in
    λ going. rw (← c.self.view_is, answer) tt
