use Rattle.section_coupling.specs.Sound.{SoundPair}
use Rattle.section_coupling.proofs.Keeping.{kept-opened, of-some}
use Rattle.section_coupling.proofs.duo.Duo.begin_read.Goals as goal

pub invariant_of-duo : goal.invariant_of-duo
invariant_of-duo c = (
  of-some SoundPair c.in_ok-pair.field-0.pair c.in-Some.pair c.in_ok-pair.ensures.sound c.in-Some.is,
  kept-opened c.args.terms.now c.args.event.now _ _ _ c.in_ok-pair.field-0.pair c.in-Some.pair _ c.requires.credit c.in_ok-pair.ensures.value c.in-Some.is,
)
