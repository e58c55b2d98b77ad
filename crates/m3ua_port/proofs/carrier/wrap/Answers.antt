use Rattle.std.proofs.Common.{refl, ap, ◌∙◌}
use Rattle.m3ua_port.specs.Frames.{frames_of}
use Rattle.m3ua_port.proofs.WrapLemmas.{wrapped-frames}
use Rattle.m3ua_port.proofs.carrier.wrap.Goals as goal

pub returns-clause-octets : goal.returns-clause-octets
returns-clause-octets c =
    rw (c.in_ok-push_filler.ensures, c.in_ok-extend.ensures.ok, c.in_ok-push_label.ensures.label, c.in_ok-push_u16-2.ensures, c.in_ok-push_u16.ensures, c.in_ok-octets.ensures, c.padded-filled.ensures) refl

pub returns-clause-read_back : goal.returns-clause-read_back
returns-clause-read_back c =
    ap (frames_of c.args.point) (returns-clause-octets c)
    ∙ wrapped-frames c.args.own c.args.point c.args.sls c.args.bytes.now c.requires c.in_ok-push_label.ensures.range
