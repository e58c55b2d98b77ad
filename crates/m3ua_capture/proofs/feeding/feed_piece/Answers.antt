use Rattle.std.proofs.Common.{◌≡◌, ◌≢◌, ◌∙◌, ◌<◌, ◌≤◌, ◌++◌, length, Err, sym, ap, arith, rules}
use Rattle.capture_form.specs.declared.steps.TheConstants.{MOST_LINES}
use Rattle.m3ua_port.specs.declared.fault.PortRefused.TheVariants.{Fault, Memory}
use Rattle.m3ua_port.specs.Ports.{answer_of, events_of}
use Rattle.m3ua_capture.proofs.FrameLemmas.{fault-given, many-given}
use Rattle.m3ua_capture.proofs.feeding.feed_piece.Goals as goal

pub returns-then-len-clause-refused : goal.returns-then-len-clause-refused
returns-then-len-clause-refused c = λ more.
    let own = c.args.port.now.own in
    let fed = c.args.port.now.fed ++ c.args.piece.now in
    let many : MOST_LINES < length c.feed-answer.new.events = search rules in
    let held : c.feed-answer.result ≢ Err Memory = λ e. omega (arith, many, c.requires.fed.few, ap length (c.feed-answer.ensures.kept e)) in
    let brings = c.feed-answer.ensures.events held in
    let now = ap (λ p. p.fed) (c.feed-answer.ensures.fed held) in
    let given : c.feed-answer.new.events ≡ events_of own fed =
    brings.put ∙ ap (λ l. l ++ brings.events) c.requires.fed.given ∙ sym brings.all ∙ ap (events_of own) now in
    many-given own fed more (omega (arith, many, ap length given))

pub returns-in-Err-Fault-clause-refused : goal.returns-in-Err-Fault-clause-refused
returns-in-Err-Fault-clause-refused c = λ more.
    let own = c.args.port.now.own in
    let fed = c.args.port.now.fed ++ c.args.piece.now in
    let few : length c.feed-answer.new.events ≤ MOST_LINES = search rules in
    let is : c.feed-answer.result ≡ Err (Fault c.in-Err-Fault.fault) = search rules in
    let held : c.feed-answer.result ≢ Err Memory = λ e. absurd (cc) in
    let brings = c.feed-answer.ensures.events held in
    let now = ap (λ p. p.fed) (c.feed-answer.ensures.fed held) in
    let given : c.feed-answer.new.events ≡ events_of own fed =
    brings.put ∙ ap (λ l. l ++ brings.events) c.requires.fed.given ∙ sym brings.all ∙ ap (events_of own) now in
    let answer : answer_of own fed ≡ Err (Fault c.in-Err-Fault.fault) = ap (answer_of own) (sym now) ∙ sym (c.feed-answer.ensures.answer held) ∙ is in
    fault-given own fed more c.in-Err-Fault.fault answer (omega (arith, few, ap length given))
