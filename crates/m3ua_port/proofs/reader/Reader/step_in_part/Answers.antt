use Rattle.std.proofs.Common.{◌≡◌, ◌<◌, ◌≤◌, ◌++◌, List, ℕ, Ok, Err, length, take, drop, ap, sym, ◌∙◌, arith, rules, length-append}
use Rattle.std.proofs.lemmas.List.{length-take, take_all}
use Rattle.std.proofs.Math.ListN.{drop_of_length-le}
use Rattle.m3ua_port.specs.Frames.{message_length, message_event}
use Rattle.m3ua_port.specs.Inner.Reading.{AddsEvent, Wants}
use Rattle.m3ua_port.proofs.FrameLemmas.{is_whole}
use Rattle.m3ua_port.proofs.StepLemmas.{lead-whole, end-event, end-header, split, if_fault-map}
use Rattle.m3ua_port.proofs.reader.Reader.step_in_part.Goals as goal

-- the message that the part became
whole : (part kept piece : List ℕ) (count wanted size : ℕ) → kept ≡ part ++ take count piece → Wants part wanted → count ≤ wanted → message_length kept ≡ Ok size → size ≡ length kept
whole part kept piece count wanted size e wants few h =
    let more : length (take count piece) ≤ wanted = omega (arith, length-take count piece) in
    wants (take count piece) size more (ap message_length (sym e) ∙ h) ∙ ap length (sym e)

joined : (part kept piece : List ℕ) (count : ℕ) → kept ≡ part ++ take count piece → part ++ piece ≡ kept ++ drop count piece
joined part kept piece count e = split part piece count ∙ ap (λ (l : List ℕ). l ++ drop count piece) (sym e)

pub take_message-requires : goal.take_message-requires
take_message-requires c =
    let found : message_length c.deref-2.result.now ≡ Ok c.in-Ok-Some.field-0-0 = rw c.in-Ok-Some.field-0-is at c.in-Ok-Some.ensures in
    let w = is_whole c.deref-2.result.now c.in-Ok-Some.field-0-0 found in
    rw (c.deref-in-Ok-Some.ensures.value, ← c.deref-2.ensures.value) (omega (arith, w.least, w.within))

pub returns-in_err-take_message-in-Ok-Some-clause-fault : goal.returns-in_err-take_message-in-Ok-Some-clause-fault
returns-in_err-take_message-in-Ok-Some-clause-fault c =
    let found : message_length c.deref-2.result.now ≡ Ok c.in-Ok-Some.field-0-0 = rw c.in-Ok-Some.field-0-is at c.in-Ok-Some.ensures in
    let kept : c.deref-2.result.now ≡ c.args.self.now.part.items ++ take c.min-count.result c.args.piece.now = c.deref-2.ensures.value ∙ c.in_ok-keep.ensures in
    let same : c.deref-in-Ok-Some.result.now ≡ c.deref-2.result.now = c.deref-in-Ok-Some.ensures.value ∙ sym c.deref-2.ensures.value in
    let ends : c.in-Ok-Some.field-0-0 ≡ length c.deref-2.result.now = whole c.args.self.now.part.items c.deref-2.result.now c.args.piece.now c.min-count.result c.wanted.result c.in-Ok-Some.field-0-0 kept (rw c.deref.ensures.value at c.wanted.ensures.whole) (search rules) found in
    let front : take c.in-Ok-Some.field-0-0 c.deref-2.result.now ≡ c.deref-in-Ok-Some.result.now = take_all c.in-Ok-Some.field-0-0 c.deref-2.result.now (omega (arith, ends)) ∙ sym same in
    let is : c.from_residual-in_err-take_message-in-Ok-Some.result ≡ Err c.in_err-take_message-in-Ok-Some.field-0.0 = search rules in
    rw is (if_fault-map (Unit {0}) ℕ _ _ _ (λ f p. end-event c.args.self.now.own c.args.self.now.number c.args.events.now c.take_message.new.events _ c.deref-2.result.now (drop c.min-count.result c.args.piece.now) c.in-Ok-Some.field-0-0 f (joined c.args.self.now.part.items c.deref-2.result.now c.args.piece.now c.min-count.result kept) found (rw front p)) c.in_err-take_message-in-Ok-Some.ensures.fault)

pub returns-in_ok-take_message-in-Ok-Some-clause-ok : goal.returns-in_ok-take_message-in-Ok-Some-clause-ok
returns-in_ok-take_message-in-Ok-Some-clause-ok c =
    let found : message_length c.deref-2.result.now ≡ Ok c.in-Ok-Some.field-0-0 = rw c.in-Ok-Some.field-0-is at c.in-Ok-Some.ensures in
    let w = is_whole c.deref-2.result.now c.in-Ok-Some.field-0-0 found in
    let kept : c.deref-2.result.now ≡ c.args.self.now.part.items ++ take c.min-count.result c.args.piece.now = c.deref-2.ensures.value ∙ c.in_ok-keep.ensures in
    let same : c.deref-in-Ok-Some.result.now ≡ c.deref-2.result.now = c.deref-in-Ok-Some.ensures.value ∙ sym c.deref-2.ensures.value in
    let few : c.min-count.result ≤ c.wanted.result = search rules in
    let within : c.min-count.result ≤ length c.args.piece.now = search rules in
    let some : 0 < c.min-count.result = search rules in
    let ends : c.in-Ok-Some.field-0-0 ≡ length c.deref-2.result.now = whole c.args.self.now.part.items c.deref-2.result.now c.args.piece.now c.min-count.result c.wanted.result c.in-Ok-Some.field-0-0 kept (rw c.deref.ensures.value at c.wanted.ensures.whole) few found in
    let front : take c.in-Ok-Some.field-0-0 c.deref-2.result.now ≡ c.deref-in-Ok-Some.result.now = take_all c.in-Ok-Some.field-0-0 c.deref-2.result.now (omega (arith, ends)) ∙ sym same in
    let adds : AddsEvent c.args.self.now.number (message_event c.args.self.now.own (take c.in-Ok-Some.field-0-0 c.deref-2.result.now)) c.args.events.now c.take_message.new.events = rw front c.in_ok-take_message-in-Ok-Some.ensures.ok in
    let next : c.clear.new.self.items ++ drop c.min-count.result c.args.piece.now ≡ drop c.in-Ok-Some.field-0-0 c.deref-2.result.now ++ drop c.min-count.result c.args.piece.now =
    ap (λ (l : List ℕ). l ++ drop c.min-count.result c.args.piece.now) (c.clear.ensures.items ∙ sym (drop_of_length-le c.deref-2.result.now (omega (arith, ends)))) in
    record {
      leads = lead-whole c.args.self.now.own c.args.self.now.number c.args.events.now c.take_message.new.events _ c.deref-2.result.now (drop c.min-count.result c.args.piece.now) _ c.in-Ok-Some.field-0-0 (joined c.args.self.now.part.items c.deref-2.result.now c.args.piece.now c.min-count.result kept) next found adds;
      some = some;
      within = within;
      part = λ some. absurd (omega (arith, ap length c.clear.ensures.items));
      bound = omega (arith, w.least, ends, ap length c.clear.ensures.items, ap length kept, length-append c.args.self.now.part.items (take c.min-count.result c.args.piece.now), length-take c.min-count.result c.args.piece.now);
    }

pub returns-in-Err-clause-fault : goal.returns-in-Err-clause-fault
returns-in-Err-clause-fault c =
    let kept : c.deref-2.result.now ≡ c.args.self.now.part.items ++ take c.min-count.result c.args.piece.now = c.deref-2.ensures.value ∙ c.in_ok-keep.ensures in
    let count : 0 < c.min-count.result = search rules in
    let within : c.min-count.result ≤ length c.args.piece.now = search rules in
    let some : 0 < length c.deref-2.result.now = omega (arith, ap length kept, length-append c.args.self.now.part.items (take c.min-count.result c.args.piece.now), length-take c.min-count.result c.args.piece.now) in
    rw c.fault.ensures (end-header c.args.self.now.own c.args.self.now.number c.args.events.now _ c.deref-2.result.now (drop c.min-count.result c.args.piece.now) c.in-Err.kind (joined c.args.self.now.part.items c.deref-2.result.now c.args.piece.now c.min-count.result kept) some c.in-Err.ensures)
