-- What private contracts of acts say.
use Rattle.section_model.specs.declared.hand.Acted.{Acted}
use Rattle.section_model.specs.Ends.{User}
use Rattle.section_user.specs.Side.{ActsAs}
use Rattle.section_user.specs.declared.side.UserSide.{UserSide}

-- Whatever end it is, the act keeps it as it is, and does this.
abbrev pub KeepsEnd : (User → User × Acted) → Acted → Type 0
KeepsEnd act done = (x : UserSide) → ActsAs act x x done
