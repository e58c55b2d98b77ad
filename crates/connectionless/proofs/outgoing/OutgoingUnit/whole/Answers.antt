use Rattle.std.proofs.Common.{arith}
use Rattle.connectionless.specs.Inner.Units.{seen_outgoing}
use Rattle.connectionless.specs.Unitdata.{message_of}
use Rattle.connectionless.proofs.Ranges.{whole-in_range, uncut-body}
use Rattle.connectionless.proofs.outgoing.OutgoingUnit.whole.Goals as goal

pub octets_of-requires : goal.octets_of-requires
unfolding message_of
octets_of-requires c =
    let given = c.args.self.now.given.now in
    let called = c.args.self.now.called.now in
    whole-in_range _ called given.calling.now given.body.now (omega arith) (uncut-body (seen_outgoing c.args.self.now) c.requires.uncut)
