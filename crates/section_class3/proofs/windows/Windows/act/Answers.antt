use Rattle.std.proofs.Common.{rules, ◌≡◌}
use Rattle.std.specs.Prelude.{OnErr}
use Rattle.section_class3.proofs.Within.{waits-after, hands-after}
use Rattle.section_class3.proofs.windows.Windows.act.Goals as goal

pub returns-in-Event-clause-waits : goal.returns-in-Event-clause-waits
returns-in-Event-clause-waits c =
    waits-after c.hear_event.result c.args.cell c.args.input.now c.args.wire.now c.hear_event.new.wire c.args.self.now c.hear_event.new.self c.requires.waits c.requires.input (rw c.in-Event.is c.hear_event.ensures.ok) c.hear_event.ensures.err

pub returns-in-Event-clause-hands : goal.returns-in-Event-clause-hands
returns-in-Event-clause-hands c own =
    hands-after c.hear_event.result c.args.cell c.args.input.now c.args.wire.now c.hear_event.new.wire c.args.self.now c.hear_event.new.self (rw c.in-Event.is c.hear_event.ensures.ok) own

pub returns-in-Timer-clause-hands : goal.returns-in-Timer-clause-hands
returns-in-Timer-clause-hands c own =
    hands-after c.fire.result c.args.cell c.args.input.now c.args.wire.now c.args.wire.now c.args.self.now c.args.self.now (rw c.in-Timer.is c.fire.ensures) own

pub returns-in-Hand-clause-waits : goal.returns-in-Hand-clause-waits
returns-in-Hand-clause-waits c =
    waits-after c.take.result c.args.cell c.args.input.now c.args.wire.now c.take.new.wire c.args.self.now c.take.new.self c.requires.waits c.requires.input (rw c.in-Hand.is c.take.ensures.ok) c.take.ensures.err

pub returns-in-Hand-clause-hands : goal.returns-in-Hand-clause-hands
returns-in-Hand-clause-hands c own =
    hands-after c.take.result c.args.cell c.args.input.now c.args.wire.now c.take.new.wire c.args.self.now c.take.new.self (rw c.in-Hand.is c.take.ensures.ok) own

pub returns-in-Turn-clause-waits : goal.returns-in-Turn-clause-waits
returns-in-Turn-clause-waits c =
    let err : OnErr c.turn.result ((c.args.wire.now ≡ c.args.wire.now) × (c.turn.new.self ≡ c.args.self.now)) = search rules in
    waits-after c.turn.result c.args.cell c.args.input.now c.args.wire.now c.args.wire.now c.args.self.now c.turn.new.self c.requires.waits c.requires.input (rw c.in-Turn.is c.turn.ensures.ok) err

pub returns-in-Turn-clause-hands : goal.returns-in-Turn-clause-hands
returns-in-Turn-clause-hands c own =
    hands-after c.turn.result c.args.cell c.args.input.now c.args.wire.now c.args.wire.now c.args.self.now c.turn.new.self (rw c.in-Turn.is c.turn.ensures.ok) own
