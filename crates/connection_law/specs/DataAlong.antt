-- The DT2 of a connection along whatever it hears (Q.714, 3.5.2).
use Rattle.std.specs.Prelude.{◌≡◌, ℕ, suc, ◌-◌, ◌≤◌, ◌==◌, List, [], ◌∷◌, ◌++◌, take, drop, if◌then◌else◌, Option, Some}
use Rattle.relay_base.specs.declared.words.Event.{Event}
use Rattle.relay_base.specs.declared.words.Output.{Output}
use Rattle.plant_core.specs.declared.answer.Answer.{Answer}
use Rattle.plant_core.specs.declared.terms.Terms.{Terms}
use Rattle.plant_core.specs.declared.terms.Ticks.{Ticks}
use Rattle.relay_base.specs.declared.limits.TheConstants.{GREATEST_CREDIT}
use Rattle.section_flow.specs.declared.unit.Unit.{Unit as DataUnit}
use Rattle.section_model.specs.Ends.{End, wire, owner, SectionHead, Connection}
use Rattle.section_model.specs.Step.{connection_step}
use Rattle.section_model.specs.Opening.{wish_of, opened}
use Rattle.section_model.specs.Lane.{next, heard, follow}
use Rattle.connection_law.specs.InStep.{passed_at, got_at, sent_at}
use Rattle.connection_law.specs.Messages.{data_among, acted, stepped}
use Rattle.connection_law.specs.DataSent.{as_data}

-- The DT2 that were sent on the one end and on the other since the counts there were last cleared, in order.
pub record SentData : Type 0 where
  pub this : List Output
  pub that : List Output

-- those sent before, which are none where the event cleared the counts: then the count of units sent is 0
abbrev pub kept_from : End → List Output → List Output
kept_from e before = if sent_at e == 0 then [] else before

-- after one more event: of the DT2 among its outputs the first are those of the one end, as many as its count of units sent rose by
abbrev pub sent_data_next : Ticks → Connection → Event → SentData → SentData
sent_data_next ticks c event before =
    let outs = data_among (connection_step ticks c event).1 in
    let count = sent_at (stepped ticks c event).this - sent_at (acted ticks c event).this in record {
      this = kept_from (acted ticks c event).this before.this ++ take count outs;
      that = kept_from (acted ticks c event).that before.that ++ drop count outs;
    }

unfoldable pub sent_data_along : Ticks → Connection → List Event → SentData → SentData
sent_data_along ticks c [] before = before
sent_data_along ticks c (event ∷ events) before = sent_data_along ticks (next ticks c event) events (sent_data_next ticks c event before)

-- DT2 with a unit and a P(S), and with the P(R) of its time, on a section
pub record IsData (ps : ℕ) (unit : DataUnit) (out : Output) : Type 0 where
  pub section : SectionHead
  pub pr : ℕ
  pub spelled : out ≡ as_data section ps pr unit

-- as many of them as units, numbered on
abbrev pub AreData : ℕ → List DataUnit → List Output → Type 0
AreData ps [] [] = Unit {0}
AreData ps (unit ∷ units) (out ∷ outs) = IsData ps unit out × AreData (suc ps) units outs
AreData ps _ _ = ⊥

-- on a section of class 3 they carry the units that left of the other end, P(S) being 0, 1, 2 .. modulo 128
abbrev pub AreThoseLeft : List Output → End → End → Type 0
AreThoseLeft outs (wire x) other = x.head.class ≡ 3 → AreData 0 (take (passed_at other) (got_at other)) outs
AreThoseLeft outs (owner u) other = Unit {0}

-- The law, from an opening on.
abbrev pub DataAlongLaw : Type 0
DataAlongLaw =
    (terms : Terms) (event : Event) (answer : Option Answer) (references : List ℕ) (c : Connection) (events : List Event)
    → terms.credit ≤ GREATEST_CREDIT
    → (opened terms (wish_of terms event) answer references).connection ≡ Some c
    → (let hears = heard terms.ticks c events in
    let sent = sent_data_along terms.ticks c hears (record { this = []; that = [] }) in
    let after = follow terms.ticks c hears in AreThoseLeft sent.this after.this after.that × AreThoseLeft sent.that after.that after.this)
