-- What keeps the two ends of a connection in step, from its opening on (Q.714, 3.5.2).
use Rattle.std.specs.Prelude.{◌≡◌, ℕ, ◌+◌, ◌≤◌, List, [], length, drop}
use Rattle.relay_base.specs.declared.limits.TheConstants.{GREATEST_CREDIT}
use Rattle.section_model.specs.declared.cell.SectionState.{SectionState}
use Rattle.section_model.specs.declared.cell.SectionState.TheVariants.{Asked, Asking, Waning, Up, Resetting, Ending, Gone}
use Rattle.section_model.specs.declared.cell.UserState.{UserState}
use Rattle.section_model.specs.declared.cell.UserState.TheVariants as user
use Rattle.section_flow.specs.declared.unit.Unit.{Unit as DataUnit}
use Rattle.section_model.specs.Ends.{End, wire, owner, Connection}
use Rattle.section_flow.specs.Windows.{Windows}

-- the class of an end, and its credit
abbrev pub class_at : End → ℕ
class_at (wire x) = x.head.class
class_at (owner u) = u.class

abbrev pub credit_at : End → ℕ
credit_at (wire x) = x.head.credit
credit_at (owner u) = u.credit

-- the units that came in at an end since the counts were last cleared, and how many of them left on the other end
abbrev pub got_at : End → List DataUnit
got_at (wire x) = x.windows.got
got_at (owner u) = u.got

abbrev pub passed_at : End → ℕ
passed_at (wire x) = x.windows.passed
passed_at (owner u) = u.passed

-- the units sent on an end since then; a user's end sends none
abbrev pub sent_at : End → ℕ
sent_at (wire x) = x.windows.sent
sent_at (owner u) = 0

-- What came: the last P(R) sent is no more than what left on the other end, that no more than what came, and this within the credit.
abbrev pub InCredit : ℕ → Windows → Type 0
InCredit credit w = (w.told ≤ w.passed) × (w.passed ≤ length w.got) × (length w.got ≤ w.told + credit)

-- What was sent: the last P(R) received is no more than that, and that no more than 127 beyond it.
abbrev pub InWindow : Windows → Type 0
InWindow w = (w.acked ≤ w.sent) × (w.sent ≤ w.acked + GREATEST_CREDIT) × (w.credit ≤ GREATEST_CREDIT)

-- What came in at the other end: so many of its units were sent as left there, and the rest waits.
abbrev pub PassesOn : Windows → ℕ → List DataUnit → Type 0
PassesOn w passed got = (w.sent ≡ passed) × (passed ≤ length got) × (w.waits ≡ drop passed got)

abbrev pub FlowsWith : End → ℕ → List DataUnit → Type 0
FlowsWith (wire x) passed got = InCredit x.head.credit x.windows × InWindow x.windows × PassesOn x.windows passed got
FlowsWith (owner u) passed got = Unit {0}

abbrev pub Flows : End → End → Type 0
Flows this that = FlowsWith this (passed_at that) (got_at that)

-- In class 2 nothing waits: all that came in at the other end left here.
abbrev pub SendsAllWith : End → ℕ → List DataUnit → Type 0
SendsAllWith (wire x) passed got = passed ≡ length got
SendsAllWith (owner u) passed got = Unit {0}

abbrev pub SendsAll : End → End → Type 0
SendsAll this that = SendsAllWith this (passed_at that) (got_at that)

-- How far an end has come: it was asked for the connection, or asks for it; data may pass; or all is over. A user that is offered a
-- connection stands where a section stands that asks for one, and a user that calls where one stands that was asked.
pub data Stage : Type 0 where
  asked : Stage
  asking : Stage
  connected : Stage
  over : Stage

abbrev pub section_stage : SectionState → Stage
section_stage Asked = asked
section_stage Asking = asking
section_stage Waning = over
section_stage Up = connected
section_stage Resetting = connected
section_stage Ending = over
section_stage Gone = over

abbrev pub user_stage : UserState → Stage
user_stage user.Offered = asking
user_stage user.Calling = asked
user_stage user.Ready = connected
user_stage user.Renewing = connected
user_stage user.Gone = over

abbrev pub stage_at : End → Stage
stage_at (wire x) = section_stage x.head.state
stage_at (owner u) = user_stage u.state

-- the stages that the two ends are in together
abbrev pub Meets : Stage → Stage → Type 0
Meets asked asking = Unit {0}
Meets asking asked = Unit {0}
Meets connected connected = Unit {0}
Meets over over = Unit {0}
Meets _ _ = ⊥

-- while a user awaits the end of its reset, the section is not up
abbrev pub IsAwaited : SectionState → UserState → Type 0
IsAwaited Up user.Renewing = ⊥
IsAwaited _ _ = Unit {0}

abbrev pub ResetIsAwaited : End → End → Type 0
ResetIsAwaited (wire x) (owner u) = IsAwaited x.head.state u.state
ResetIsAwaited (owner u) (wire x) = IsAwaited x.head.state u.state
ResetIsAwaited _ _ = Unit {0}

-- before a connection is set up, its user gave nothing
abbrev pub GaveNothing : UserState → List DataUnit → ℕ → Type 0
GaveNothing user.Offered got passed = (got ≡ []) × (passed ≡ 0)
GaveNothing user.Calling got passed = (got ≡ []) × (passed ≡ 0)
GaveNothing _ got passed = Unit {0}

abbrev pub IsFresh : End → Type 0
IsFresh (wire x) = Unit {0}
IsFresh (owner u) = GaveNothing u.state u.got u.passed

-- The two ends: their stages meet, they are of one class, no credit is above 127, and a user gave nothing too early; in class 3 a user
-- awaits the end of its reset only where its section isn't up, and data flow both ways; in class 2 all that comes in leaves at once.
abbrev pub AreInStep : End → End → Type 0
AreInStep this that =
    Meets (stage_at this) (stage_at that)
    × (class_at this ≡ class_at that)
    × ((credit_at this ≤ GREATEST_CREDIT) × (credit_at that ≤ GREATEST_CREDIT))
    × (IsFresh this × IsFresh that)
    × (class_at this ≡ 3 → ResetIsAwaited this that × Flows this that × Flows that this)
    × (class_at this ≡ 2 → SendsAll this that × SendsAll that this)

abbrev pub IsInStep : Connection → Type 0
IsInStep c = AreInStep c.this c.that
