use Rattle.section_user.proofs.Cutting.{one_more}
use Rattle.section_user.proofs.units.units_of.Goals as goal

pub loop-place-preserved : goal.loop-place-preserved
loop-place-preserved c =
    cc (c.in_ok-push.ensures.ok, c.in_ok-unit_at.ensures, c.loop-place.invariant, one_more c.args.body.now c.loop-place.place)
