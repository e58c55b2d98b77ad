use Rattle.std.proofs.Common.{◌≡◌, false, ap, sym, ◌∙◌, refl}
use Rattle.std.specs.Prelude.{Some, None}
use Rattle.m3ua_port.specs.Frames.{Frames}
use Rattle.m3ua_port.specs.Ports.{events_of, unless_fault}
use Rattle.m3ua_port.specs.Inner.Reading.{part_fault}
use Rattle.m3ua_port.specs.Inner.Standing.{IsOpen}
use Rattle.m3ua_port.proofs.PortLemmas.{ends-frames, leads-frames}
use Rattle.m3ua_port.proofs.port.Port.finish.Goals as goal

pub returns-in-Some : goal.returns-in-Some
returns-in-Some c =
    let going : c.self.inside.exhausted ≡ false = rw (← c.self.view_is) at c.requires in
    let frames = ends-frames c.self.inside.reader.own (events_of c.self.inside.reader.own c.self.inside.fed.value) c.self.inside.fed.value c.in-Some.fault (c.self.invariant.ended going c.in-Some.fault c.in-Some.is) in
    rw (← c.self.view_is, frames) refl

pub returns-in-Some-end_fault : goal.returns-in-Some-end_fault
returns-in-Some-end_fault c =
    let going : c.self.inside.exhausted ≡ false = rw (← c.self.view_is) at c.requires in
    let stood : IsOpen c.self.inside.reader c.self.inside.fed.value = c.self.invariant.reads going c.in_default.is in
    let frames = leads-frames c.self.inside.reader.own c.self.inside.reader.number (events_of c.self.inside.reader.own c.self.inside.fed.value) c.self.inside.fed.value c.self.inside.reader.part.items stood.leads stood.part in
    let part : part_fault c.self.inside.reader.number c.self.inside.reader.part.items ≡ Some c.in-Some-end_fault.fault = sym c.end_fault.ensures ∙ c.in-Some-end_fault.is in
    rw (← c.self.view_is) (sym (ap (λ (f : Frames). unless_fault f.fault) frames ∙ ap unless_fault part))

pub returns : goal.returns
returns c =
    let going : c.self.inside.exhausted ≡ false = rw (← c.self.view_is) at c.requires in
    let stood : IsOpen c.self.inside.reader c.self.inside.fed.value = c.self.invariant.reads going c.in_default.is in
    let frames = leads-frames c.self.inside.reader.own c.self.inside.reader.number (events_of c.self.inside.reader.own c.self.inside.fed.value) c.self.inside.fed.value c.self.inside.reader.part.items stood.leads stood.part in
    let part : part_fault c.self.inside.reader.number c.self.inside.reader.part.items ≡ None = sym c.end_fault.ensures ∙ c.in-None.is in
    rw (← c.self.view_is) (sym (ap (λ (f : Frames). unless_fault f.fault) frames ∙ ap unless_fault part))
