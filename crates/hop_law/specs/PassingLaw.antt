-- The law of what passes through a connection in one step (Q.714, 3.5): the units that come in at an end by an event, and those that leave as
-- DT1 (Q.713, 4.7) on the other one.
use Rattle.std.specs.Prelude.{IsTrue, ◌≡◌, ◌⊎◌, ◌==◌, List, [], ◌++◌, filter, if◌then◌else◌}
use Rattle.relay_base.specs.declared.words.Event.{Event}
use Rattle.relay_base.specs.declared.words.Event.TheVariants.{Message as Arrived, Asked as Requested}
use Rattle.relay_base.specs.declared.words.Output.{Output}
use Rattle.relay_base.specs.declared.words.Request.TheVariants as request
use Rattle.plant_core.specs.declared.terms.Ticks.{Ticks}
use Rattle.section_model.specs.declared.cell.SectionState.TheVariants.{Up}
use Rattle.section_model.specs.declared.cell.UserState.TheVariants.{Ready}
use Rattle.section_model.specs.Ends.{End, wire, owner, DataUnit, SectionHead, Connection}
use Rattle.section_model.specs.UserEnd.{units_of}
use Rattle.section_model.specs.Step.{hears, connection_step}
use Rattle.connection_law.specs.InStep.{got_at, IsInStep}
use Rattle.connection_law.specs.Messages.{is_of_type}
use Rattle.hop_law.specs.CarriedLaw.{all_as_dt1}
use Rattle.hop_law.specs.Units.{units_for}

-- DT1
unfoldable pub dt1_among : List Output → List Output
dt1_among outs = filter (is_of_type 0x06) outs

-- the units that a section passes on at once, as DT1: all but in class 3, where they wait for the window
abbrev pub passed_on : SectionHead → List DataUnit → List Output
passed_on x units = if x.class == 3 then [] else all_as_dt1 x units

abbrev pub at_once : End → List DataUnit → List Output
at_once (wire x) units = passed_on x.head units
at_once (owner u) units = []

-- what came in at an end stays as it was, or begins anew
abbrev pub StaysOrClears : End → End → Type 0
StaysOrClears before after = (got_at after ≡ got_at before) ⊎ (got_at after ≡ [])

-- nothing comes in, and no DT1 leaves
pub record NonePass (before after : Connection) (outs : List Output) : Type 0 where
  pub this : StaysOrClears before.this after.this
  pub that : StaysOrClears before.that after.that
  pub sends : dt1_among outs ≡ []

-- what an event brings for an end: the unit of a DT1 or DT2 for the reference of a section, or a text that its user sends
abbrev pub Brings : Event → End → List DataUnit → Type 0
Brings (Arrived point sls bytes) (wire x) units = units ≡ units_for x.head.mine bytes
Brings (Requested ssn (request.Send mine body)) (owner u) units = units ≡ units_of body
Brings _ end units = ⊥

-- data may come in at an end: of a section that is up, or of a user's end that is ready
abbrev pub IsOpen : End → Type 0
IsOpen (wire x) = x.head.state ≡ Up
IsOpen (owner u) = u.state ≡ Ready

-- units come in at an end, and leave at once on the other one if they may
pub record Pass (IsBrought : End → List DataUnit → Type 0) (units : List DataUnit) (end other end_after other_after : End) (outs : List Output) : Type 0 where
  pub brought : IsBrought end units
  pub is_open : IsOpen end
  pub comes : got_at end_after ≡ got_at end ++ units
  pub stays : StaysOrClears other other_after
  pub sends : dt1_among outs ≡ at_once other units

pub data Passing (IsBrought : End → List DataUnit → Type 0) (before after : Connection) (outs : List Output) : Type 0 where
  none : NonePass before after outs → Passing IsBrought before after outs
  on_this : (units : List DataUnit) → Pass IsBrought units before.this before.that after.this after.that outs → Passing IsBrought before after outs
  on_that : (units : List DataUnit) → Pass IsBrought units before.that before.this after.that after.this outs → Passing IsBrought before after outs

-- The law, of what a connection hears whose ends are in step, as those of each connection are from its opening on.
abbrev pub UnitsPass : Type 0
UnitsPass =
    (ticks : Ticks) (c : Connection) (event : Event) → IsTrue (hears c event) → IsInStep c
    → (let r = connection_step ticks c event in Passing (Brings event) c r.0 r.1)
