use Rattle.section_class2.proofs.Within.{keeps-after, hands-after}
use Rattle.section_class2.proofs.line.Line.act.Goals as goal

pub returns-in-Event-clause-keeps : goal.returns-in-Event-clause-keeps
returns-in-Event-clause-keeps c =
    keeps-after c.hear_event.result c.args.cell c.args.input.now c.args.wire.now c.hear_event.new.wire c.args.self.now c.hear_event.new.self c.requires.kept c.requires.input (rw c.in-Event.is c.hear_event.ensures.ok) c.hear_event.ensures.err

pub returns-in-Event-clause-hands : goal.returns-in-Event-clause-hands
returns-in-Event-clause-hands c dt1 =
    hands-after c.hear_event.result c.args.cell c.args.input.now c.args.wire.now c.hear_event.new.wire c.args.self.now c.hear_event.new.self (rw c.in-Event.is c.hear_event.ensures.ok) dt1

pub returns-in-Timer-clause-keeps : goal.returns-in-Timer-clause-keeps
returns-in-Timer-clause-keeps c =
    keeps-after c.fire.result c.args.cell c.args.input.now c.args.wire.now c.fire.new.wire c.args.self.now c.fire.new.self c.requires.kept c.requires.input (rw c.in-Timer.is c.fire.ensures.ok) c.fire.ensures.err

pub returns-in-Timer-clause-hands : goal.returns-in-Timer-clause-hands
returns-in-Timer-clause-hands c dt1 =
    hands-after c.fire.result c.args.cell c.args.input.now c.args.wire.now c.fire.new.wire c.args.self.now c.fire.new.self (rw c.in-Timer.is c.fire.ensures.ok) dt1

pub returns-in-Hand-clause-keeps : goal.returns-in-Hand-clause-keeps
returns-in-Hand-clause-keeps c =
    keeps-after c.take.result c.args.cell c.args.input.now c.args.wire.now c.take.new.wire c.args.self.now c.take.new.self c.requires.kept c.requires.input (rw c.in-Hand.is c.take.ensures.ok) c.take.ensures.err

pub returns-in-Hand-clause-hands : goal.returns-in-Hand-clause-hands
returns-in-Hand-clause-hands c dt1 =
    hands-after c.take.result c.args.cell c.args.input.now c.args.wire.now c.take.new.wire c.args.self.now c.take.new.self (rw c.in-Hand.is c.take.ensures.ok) dt1
