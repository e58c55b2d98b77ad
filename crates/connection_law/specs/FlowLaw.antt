-- The law of the windows of class 3 (Q.714, 3.5.2), and of what leaves in class 2: what holds at every moment of a connection, whatever it hears.
--
-- Let X and Y be its ends, where section Y is of class 3. The units that came in on X since the counts were last cleared are got(X), and
-- passed(X) of them left on Y.
-- (a) The units sent on Y since then are the first passed(X) of got(X), in order (`OrderLaw`, in SentUnits), and the rest waits (`PassesOn`).
--     Each step numbers those that leave from sent(Y) on, which is how many left before (`SendingLaw`), so P(S) is 0, 1, 2 .. modulo 128.
-- (b) On X, told <= passed <= length of got <= told + the credit agreed on: this is `InCredit`.
-- (c) On Y, acked <= sent <= acked + 127: this is `InWindow`. So a count is known by its remainder modulo 128. Each unit of a step leaves
--     while sent - acked is below the send credit: `within` of `SendingLaw`.
-- (d) Whether ED is unanswered on Y is one truth value, so there is at most one such; and none leaves while it is true: `one_expedited`
--     and `none_at_once` of `SendingLaw`. EA makes it false before what waits leaves, and lets nothing leave where it is false (`none_unasked`).
-- In class 2 no window holds a unit back: where section Y is of class 2, all that came in on X left on Y, so passed(X) is the length of got(X)
-- (`EndKept`).
-- What a connection sends by this as DT2 and ED, octet for octet, is said in DataSent, DataAlong and ExpeditedSent.
use Rattle.std.specs.Prelude.{◌≡◌, ℕ, ◌+◌, ◌-◌, ◌≤◌, ◌<◌, ◌==◌, ◌&&◌, not, true, false, List, [], ◌∷◌, ◌++◌, length, if◌then◌else◌, Option, Some, unwrap_or, is_some}
use Rattle.relay_base.specs.declared.words.Event.{Event}
use Rattle.plant_core.specs.declared.answer.Answer.{Answer}
use Rattle.plant_core.specs.declared.terms.Terms.{Terms}
use Rattle.plant_core.specs.declared.terms.Ticks.{Ticks}
use Rattle.relay_base.specs.declared.words.Output.{Output}
use Rattle.relay_base.specs.declared.words.Output.TheVariants.{Lost as Dropped}
use Rattle.relay_base.specs.declared.words.Lost.TheVariants as lost
use Rattle.q713_codec.specs.declared.message.Message.TheVariants.{Ed}
use Rattle.relay_base.specs.declared.limits.TheConstants.{GREATEST_CREDIT}
use Rattle.section_model.specs.declared.cell.Cell.{Cell}
use Rattle.section_model.specs.declared.cell.Cell.TheVariants as cell
use Rattle.section_model.specs.declared.hand.Hand.{Hand}
use Rattle.section_flow.specs.declared.unit.Unit.{Unit as DataUnit}
use Rattle.section_model.specs.Parameters.{Parameters}
use Rattle.section_model.specs.Ends.{End, wire, owner, SectionHead, Section, Connection, no_effect, gives, is_up}
use Rattle.section_model.specs.Line.{sent_on}
use Rattle.section_model.specs.Windowed.{Windowed, windowed_hears, windowed_fires, windowed_takes, HasCome, numbered, leaves, acknowledges}
use Rattle.section_flow.specs.Windows.{may_leave}
use Rattle.section_model.specs.Step.{connection_step}
use Rattle.section_model.specs.Opening.{wish_of, opened}
use Rattle.section_model.specs.Lane.{heard, follow}
use Rattle.connection_law.specs.InStep.{passed_at, got_at, InCredit, InWindow, PassesOn, IsInStep}
use Rattle.connection_law.specs.SentUnits.{leaving}

-- (b) and (c) on a section of class 3, and of (a) what the two ends show; and in class 2 that all units left that came.
abbrev pub EndKept : End → End → Type 0
EndKept (wire x) other =
    (x.head.class ≡ 3 → InCredit x.head.credit x.windows × InWindow x.windows × PassesOn x.windows (passed_at other) (got_at other))
    × (x.head.class ≡ 2 → passed_at other ≡ length (got_at other))
EndKept (owner u) other = Unit {0}

abbrev pub FlowKept : Connection → Type 0
FlowKept c = EndKept c.this c.that × EndKept c.that c.this

-- The law, from an opening on.
abbrev pub FlowLaw : Type 0
FlowLaw =
    (terms : Terms) (event : Event) (answer : Option Answer) (references : List ℕ) (c : Connection) (events : List Event)
    → terms.credit ≤ GREATEST_CREDIT
    → (opened terms (wish_of terms event) answer references).connection ≡ Some c
    → FlowKept (follow terms.ticks c (heard terms.ticks c events))

-- What carries it: an opening keeps more, and so does each step.
abbrev pub OpeningKeeps : Type 0
OpeningKeeps =
    (terms : Terms) (event : Event) (answer : Option Answer) (references : List ℕ) (c : Connection)
    → terms.credit ≤ GREATEST_CREDIT
    → (opened terms (wish_of terms event) answer references).connection ≡ Some c
    → IsInStep c

abbrev pub StepKeeps : Type 0
StepKeeps = (ticks : Ticks) (c : Connection) (event : Event) → IsInStep c → IsInStep (connection_step ticks c event).0

-- What a section keeps alone at each act, whatever the other end does: a message, a timer, an effect of the other end, by which no more left
-- than came, and the two parts of what follows each event.
abbrev pub WindowsAreKept : Windowed → Type 0
WindowsAreKept x = (x.head.credit ≤ GREATEST_CREDIT) × InCredit x.head.credit x.windows × InWindow x.windows

pub record ActsKeep : Type 0 where
  pub hears : (c : Cell) (m : Parameters) (x : Windowed) → WindowsAreKept x → WindowsAreKept (windowed_hears c m x).0
  pub fires : (x : Windowed) → WindowsAreKept x → WindowsAreKept (windowed_fires x).0
  pub takes : (c : Cell) (h : Hand) (x : Windowed) → HasCome h x.windows → WindowsAreKept x → WindowsAreKept (windowed_takes c h x).0
  pub leaves : (x : Windowed) → WindowsAreKept x → WindowsAreKept (leaves x).0
  pub acknowledges : (x : Windowed) → WindowsAreKept x → WindowsAreKept (acknowledges x).0

-- What leaves in one step: DT2 and ED leave by `leaves`, after an event, and ED at once by the cells that pass it on or take EA.

abbrev pub windowed : Section → Windowed
windowed x = record { head = x.head; windows = x.windows }

-- expedited data that waits and may leave, as ED
abbrev pub expedited_leaving : Windowed → List Output
expedited_leaving x =
    if is_some x.windows.waiting && not x.windows.unanswered then sent_on x.head (Ed x.head.other (unwrap_or x.windows.waiting [])) ∷ [] else []

pub record SendingLaw : Type 0 where
  -- on a section of class 3 that is up, the units that leave are put into DT2 with P(S) from the count of those sent on
  pub carries :
      (x : Section) → (is_up x.head.state && x.head.class == 3) ≡ true
      → (leaves (windowed x)).1.outs ≡ numbered x.head x.windows.sent x.windows.passed (leaving (wire x)) ++ expedited_leaving (windowed x)
  -- of units that are numbered on, the last one has the number of those before it
  pub numbers :
      (x : SectionHead) (ps pr : ℕ) (units : List DataUnit) (u : DataUnit)
      → numbered x ps pr (units ++ u ∷ []) ≡ numbered x ps pr units ++ numbered x (ps + length units) pr (u ∷ [])
  -- and so many are sent more
  pub counts : (x : Windowed) → (leaves x).0.windows.sent ≡ x.windows.sent + may_leave x.windows
  -- each leaves while those that are sent and not acknowledged are fewer than the send credit
  pub within : (x : Windowed) (k : ℕ) → k < may_leave x.windows → (x.windows.sent + k) - x.windows.acked < x.windows.credit
  -- while expedited data is unanswered no other leaves, after the event or at once
  pub one_expedited : (x : Windowed) → x.windows.unanswered ≡ true → expedited_leaving x ≡ []
  pub none_at_once : (h : Hand) (x : Windowed) → x.windows.unanswered ≡ true → (windowed_takes cell.PassExpedited h x).1 ≡ no_effect
  -- and EA that answers none lets none leave
  pub none_unasked :
      (m : Parameters) (x : Windowed) → x.windows.unanswered ≡ false
      → windowed_hears cell.TakeExpeditedAcknowledgement m x ≡ (x, gives (Dropped lost.State ∷ []))
