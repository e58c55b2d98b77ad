use Rattle.std.proofs.Common.{◌≡◌, ℕ, [], Ok, Err, length, drop, ap, sym, arith, rules}
use Rattle.std.proofs.lemmas.List.{length-take-le}
use Rattle.m3ua_port.specs.Frames.{message_length}
use Rattle.m3ua_port.proofs.FrameLemmas.{is_whole, IsWhole}
use Rattle.m3ua_port.proofs.StepLemmas.{lead-whole, end-event, end-header, alone, if_fault-map}
use Rattle.m3ua_port.proofs.reader.Reader.step_in_piece.Goals as goal

pub slice_bounds-take_message-end : goal.slice_bounds-take_message-end
slice_bounds-take_message-end c =
    let w : IsWhole c.args.piece.now c.in-Ok-Some.size = is_whole c.args.piece.now c.in-Ok-Some.size (search rules) in
    sym (length-take-le c.in-Ok-Some.size c.args.piece.now w.within)

pub take_message-requires : goal.take_message-requires
take_message-requires c =
    let w : IsWhole c.args.piece.now c.in-Ok-Some.size = is_whole c.args.piece.now c.in-Ok-Some.size (search rules) in
    rw (length-take-le c.in-Ok-Some.size c.args.piece.now w.within) w.least

pub returns-in_err-take_message-in-Ok-Some-clause-fault : goal.returns-in_err-take_message-in-Ok-Some-clause-fault
returns-in_err-take_message-in-Ok-Some-clause-fault c =
    let whole : message_length c.args.piece.now ≡ Ok c.in-Ok-Some.size = search rules in
    let is : c.from_residual.result ≡ Err c.in_err-take_message-in-Ok-Some.field-0.0 = search rules in
    rw is (if_fault-map (Unit {0}) ℕ _ _ _ (λ f p. end-event c.args.self.now.own c.args.self.now.number c.args.events.now c.take_message.new.events _ c.args.piece.now [] c.in-Ok-Some.size f (alone c.args.self.now.part.items c.args.piece.now c.requires.empty) whole p) c.in_err-take_message-in-Ok-Some.ensures.fault)

pub returns-in_ok-take_message-in-Ok-Some-clause-ok : goal.returns-in_ok-take_message-in-Ok-Some-clause-ok
returns-in_ok-take_message-in-Ok-Some-clause-ok c =
    let whole : message_length c.args.piece.now ≡ Ok c.in-Ok-Some.size = search rules in
    let w : IsWhole c.args.piece.now c.in-Ok-Some.size = is_whole c.args.piece.now c.in-Ok-Some.size whole in
    record {
      leads = lead-whole c.args.self.now.own c.args.self.now.number c.args.events.now c.take_message.new.events _ c.args.piece.now [] _ c.in-Ok-Some.size (alone c.args.self.now.part.items c.args.piece.now c.requires.empty) (alone c.args.self.now.part.items (drop c.in-Ok-Some.size c.args.piece.now) c.requires.empty) whole c.in_ok-take_message-in-Ok-Some.ensures.ok;
      some = omega (arith, w.least);
      within = w.within;
      part = λ some. absurd (omega (arith, ap length c.requires.empty));
      bound = omega (arith, w.least);
    }

pub returns-in-Err-clause-fault : goal.returns-in-Err-clause-fault
returns-in-Err-clause-fault c =
    rw c.fault.ensures (end-header c.args.self.now.own c.args.self.now.number c.args.events.now _ c.args.piece.now [] c.in-Err.kind (alone c.args.self.now.part.items c.args.piece.now c.requires.empty) c.requires.some c.in-Err.ensures)
