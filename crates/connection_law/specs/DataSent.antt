-- The DT2 of one step of a connection (Q.714, 3.5.2), octet for octet.
use Rattle.std.specs.Prelude.{◌≡◌, ◌⊎◌, ℕ, suc, ◌+◌, ◌-◌, ◌*◌, ◌%◌, ◌≤◌, ◌<◌, ◌==◌, List, [], ◌∷◌, ◌++◌, take, drop, if◌then◌else◌}
use Rattle.relay_base.specs.declared.words.Event.{Event}
use Rattle.relay_base.specs.declared.words.Output.{Output}
use Rattle.relay_base.specs.declared.words.Output.TheVariants.{Sent}
use Rattle.plant_core.specs.declared.terms.Ticks.{Ticks}
use Rattle.q713_codec.specs.declared.message.Message.TheVariants.{Dt2}
use Rattle.q713_codec.specs.Writing.{spelling_of}
use Rattle.section_flow.specs.declared.unit.Unit.{Unit as DataUnit}
use Rattle.section_model.specs.Ends.{End, wire, owner, SectionHead, Connection}
use Rattle.section_model.specs.Step.{connection_step}
use Rattle.connection_law.specs.InStep.{passed_at, got_at, sent_at, IsInStep}
use Rattle.connection_law.specs.Messages.{data_among, acted, stepped}

-- A unit as DT2 on a section (Q.713, 3.9): P(S) and P(R) modulo 128, from bit 2 on, and in bit 1 of the second octet M.
abbrev pub as_data : SectionHead → ℕ → ℕ → DataUnit → Output
as_data x ps pr u =
    Sent x.point x.sls (spelling_of (Dt2 x.other ((2 * (ps % 128)) ∷ ((2 * (pr % 128)) + (if u.more then 1 else 0)) ∷ []) u.body))

-- units, numbered on
abbrev pub all_as_data : SectionHead → ℕ → ℕ → List DataUnit → List Output
all_as_data x ps pr [] = []
all_as_data x ps pr (u ∷ units) = as_data x ps pr u ∷ all_as_data x (suc ps) pr units

-- The DT2 of a section of class 3, with this P(R): the units of the other end from the count of those sent before on up to the count of those
-- sent after, P(S) being that count modulo 128.
abbrev pub data_on : End → ℕ → End → End → List Output
data_on (wire x) pr after other =
    if x.head.class == 3 then all_as_data x.head x.windows.sent pr (drop x.windows.sent (take (sent_at after) (got_at other))) else []
data_on (owner u) pr after other = []

-- each unit leaves while those that are sent and not acknowledged are fewer than the send credit
abbrev pub IsWithinCredit : End → End → Type 0
IsWithinCredit (wire x) after = (k : ℕ) → x.windows.sent ≤ k → k < sent_at after → k - x.windows.acked < x.windows.credit
IsWithinCredit (owner u) after = Unit {0}

-- the number goes on from before the step, or from 0 where the event cleared the counts
abbrev pub GoesOn : End → End → Type 0
GoesOn before e = (sent_at e ≡ sent_at before) ⊎ (sent_at e ≡ 0)

-- The outputs of a step: the DT2 of the one end, then those of the other one, and no other DT2. P(R) is the count of the units that came in there and
-- left on the other end, as it is when they leave.
pub record SendsData (ticks : Ticks) (c : Connection) (event : Event) (outs : List Output) : Type 0 where
  pub sends :
      (let before = acted ticks c event in let after = stepped ticks c event in
      data_among outs
      ≡ data_on before.this (passed_at before.this) after.this after.that ++ data_on before.that (passed_at after.that) after.that after.this)
  pub goes_on : GoesOn c.this (acted ticks c event).this × GoesOn c.that (acted ticks c event).that
  pub within :
      IsWithinCredit (acted ticks c event).this (stepped ticks c event).this × IsWithinCredit (acted ticks c event).that (stepped ticks c event).that

-- The law, of any connection whose ends are in step, as those of each connection are from its opening on.
abbrev pub DataSentLaw : Type 0
DataSentLaw = (ticks : Ticks) (c : Connection) (event : Event) → IsInStep c → SendsData ticks c event (connection_step ticks c event).1
