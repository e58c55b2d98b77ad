-- The acts of a user's end by their cases.
use Rattle.std.proofs.Common.{◌≡◌, ℕ, List, ◌++◌, length, Bool, true, false, nat_lt}
use Rattle.relay_base.specs.declared.limits.TheConstants.{LONGEST_TEXT}
use Rattle.section_model.specs.declared.hand.Hand.TheVariants as hand
use Rattle.section_model.specs.declared.hand.Acted.{Acted}
use Rattle.section_model.specs.UserEnd.{collects, overruns, continues, completes}
use Rattle.section_user.specs.declared.side.UserSide.{UserSide}
use Rattle.section_user.specs.Side.{ActsAs}

pub too_long : (body : List ℕ) (more : Bool) (old new : UserSide) (done : Acted) → nat_lt LONGEST_TEXT (length (old.text ++ body)) ≡ true → ActsAs overruns old new done → ActsAs (collects (hand.Unit more body)) old new done
too_long body more old new done e acts = λ got passed. rw e (acts got passed)

pub joined : (body : List ℕ) (old new : UserSide) (done : Acted) → nat_lt LONGEST_TEXT (length (old.text ++ body)) ≡ false → ActsAs (continues body) old new done → ActsAs (collects (hand.Unit true body)) old new done
joined body old new done e acts = λ got passed. rw e (acts got passed)

pub told_whole : (body : List ℕ) (old new : UserSide) (done : Acted) → nat_lt LONGEST_TEXT (length (old.text ++ body)) ≡ false → ActsAs (completes body) old new done → ActsAs (collects (hand.Unit false body)) old new done
told_whole body old new done e acts = λ got passed. rw e (acts got passed)
