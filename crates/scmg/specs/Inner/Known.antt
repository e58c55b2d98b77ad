-- What users are told of a status.
use Rattle.std.specs.Prelude.{ℕ, Bool, Option, Some, None}
use Rattle.relay_base.specs.declared.words.Tell.{Tell}
use Rattle.relay_base.specs.declared.words.Tell.TheVariants as tell
use Rattle.scmg.specs.declared.known.Status.{Status}

abbrev pub told_at : ℕ → Option ℕ → Bool → Tell
told_at point None up = tell.Point point up
told_at point (Some ssn) up = tell.State ssn point up

abbrev pub told_of : Status → Tell
told_of status = told_at status.point status.subsystem status.up
