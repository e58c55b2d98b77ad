-- A user's end as the code keeps it: without its counts.
use Rattle.std.specs.Prelude.{◌≡◌, ℕ, List}
use Rattle.relay_base.specs.declared.words.Event.{Event}
use Rattle.relay_base.specs.declared.words.Event.TheVariants.{Message as Arrived, Asked as Requested, Tick}
use Rattle.section_model.specs.declared.cell.Cell.{Cell}
use Rattle.section_model.specs.declared.input.Input.{Input}
use Rattle.section_model.specs.declared.input.Input.TheVariants as input
use Rattle.section_flow.specs.declared.unit.Unit.{Unit as DataUnit}
use Rattle.section_model.specs.declared.hand.Acted.{Acted}
use Rattle.section_model.specs.Ends.{User, no_effect}
use Rattle.section_model.specs.UserEnd.{user_asks, user_takes}
use Rattle.section_user.specs.declared.side.UserSide.{UserSide}

-- with the units that the user gave since the counts were cleared, and how many of them left
abbrev pub user_of : UserSide → List DataUnit → ℕ → User
user_of x got passed = record {
  ssn = x.ssn;
  mine = x.mine;
  state = x.state;
  class = x.class;
  credit = x.credit;
  text = x.text;
  got = got;
  passed = passed;
}

abbrev pub user_side_of : User → UserSide
user_side_of x = record { ssn = x.ssn; mine = x.mine; state = x.state; class = x.class; credit = x.credit; text = x.text }

-- Whatever the counts are, the act makes this end of the one before, and does this.
abbrev pub ActsAs : (User → User × Acted) → UserSide → UserSide → Acted → Type 0
ActsAs act old new done =
    (got : List DataUnit) (passed : ℕ) →
    let r = act (user_of old got passed) in (user_side_of r.0 ≡ new) × (r.1 ≡ done)

-- What a user's end does upon an input, by the cell that the table has for it.

abbrev pub user_hears_event : Cell → Event → User → User × Acted
user_hears_event c (Arrived point sls bytes) x = (x, no_effect)
user_hears_event c (Requested ssn r) x = user_asks c r x
user_hears_event c Tick x = (x, no_effect)

abbrev pub user_acts : Cell → Input → User → User × Acted
user_acts c (input.Event event) x = user_hears_event c event.now x
user_acts c (input.Timer number) x = (x, no_effect)
user_acts c (input.Hand h) x = user_takes c h.now x
user_acts c input.Turn x = (x, no_effect)
