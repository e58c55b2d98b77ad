use Rattle.std.proofs.Common.{◌∙◌, refl}
use Rattle.connectionless.specs.Inner.Units.{seen_given}
use Rattle.connectionless.proofs.Ranges.{short}
use Rattle.connectionless.proofs.user.sent.Goals as goal

pub sending-requires : goal.sending-requires
sending-requires c =
    short (seen_given c.args.given.now) c.args.rewrite.now _ c.requires refl (c.as_slice.ensures ∙ c.in_ok-called.ensures)
