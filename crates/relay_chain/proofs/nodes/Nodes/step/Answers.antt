use Rattle.std.proofs.Common.{length}
use Rattle.chain_step.proofs.Running.{asker_exists, passer_exists, neighbour_exists, ticker_exists}
use Rattle.relay_chain.proofs.nodes.Nodes.step.Goals as goal

pub ask-requires-clause-least : goal.ask-requires-clause-least
ask-requires-clause-least c = (asker_exists (length c.args.self.now.nodes) c.in-Ask.node _ c.args.step.now c.in-Ask.is c.requires.least c.requires.step).0

pub ask-requires-clause-most : goal.ask-requires-clause-most
ask-requires-clause-most c = (asker_exists (length c.args.self.now.nodes) c.in-Ask.node _ c.args.step.now c.in-Ask.is c.requires.least c.requires.step).1

pub pass-requires-clause-least : goal.pass-requires-clause-least
pass-requires-clause-least c = (passer_exists (length c.args.self.now.nodes) c.in-Pass.node c.in-Pass.forward c.args.step.now c.in-Pass.is c.requires.step).0

pub pass-requires-clause-most : goal.pass-requires-clause-most
pass-requires-clause-most c = (passer_exists (length c.args.self.now.nodes) c.in-Pass.node c.in-Pass.forward c.args.step.now c.in-Pass.is c.requires.step).1

pub pass-requires-clause-least_next : goal.pass-requires-clause-least_next
pass-requires-clause-least_next c = (neighbour_exists (length c.args.self.now.nodes) c.in-Pass.node c.in-Pass.forward c.args.step.now c.in-Pass.is c.requires.step).0

pub pass-requires-clause-most_next : goal.pass-requires-clause-most_next
pass-requires-clause-most_next c = (neighbour_exists (length c.args.self.now.nodes) c.in-Pass.node c.in-Pass.forward c.args.step.now c.in-Pass.is c.requires.step).1

pub take-requires-clause-least : goal.take-requires-clause-least
take-requires-clause-least c = (ticker_exists (length c.args.self.now.nodes) c.in-Tick.node c.args.step.now c.in-Tick.is c.requires.step).0

pub take-requires-clause-most : goal.take-requires-clause-most
take-requires-clause-most c = (ticker_exists (length c.args.self.now.nodes) c.in-Tick.node c.args.step.now c.in-Tick.is c.requires.step).1
