use Rattle.std.proofs.Common.{List, ap, ◌∙◌, append-nil}
use Rattle.std.specs.Prelude.{Option}
use Rattle.std.specs.declared.result.Result.{Result}
use Rattle.relay_base.specs.declared.words.Stamp.{Stamp}
use Rattle.relay_base.specs.declared.words.Event.{Event}
use Rattle.m3ua_port.specs.declared.fault.PortKind.{PortKind}
use Rattle.m3ua_port.specs.Frames.{frames_by}
use Rattle.m3ua_port.specs.Inner.Reading.{preceded, ended}
use Rattle.m3ua_port.proofs.FaultKinds.{message-stands}
use Rattle.m3ua_port.proofs.events.take_message.Goals as goal

pub returns-in-Err-clause-fault : goal.returns-in-Err-clause-fault
returns-in-Err-clause-fault c = record {
  frames = λ later.
      ap (λ (r : Result (Option Event) PortKind). preceded c.args.events.now (frames_by c.args.number r later)) c.in-Err.ensures
      ∙ ap (λ (l : List (Stamp × Event)). ended l (record { message = c.args.number; kind = c.in-Err.kind })) (append-nil c.args.events.now);
  stands = message-stands c.args.own c.args.message.now c.in-Err.kind c.in-Err.ensures;
}
