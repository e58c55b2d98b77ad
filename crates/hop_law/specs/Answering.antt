-- How a section that was asked for a connection answers (Q.714, 3.1.3): by CC as it comes up, or by CREF as it is over; and it sends nothing before.
use Rattle.std.specs.Prelude.{◌≡◌, ℕ, List, [], ◌∷◌, Option}
use Rattle.relay_base.specs.declared.words.Event.{Event}
use Rattle.plant_core.specs.declared.terms.Ticks.{Ticks}
use Rattle.q713_codec.specs.Names.{Message}
use Rattle.q713_codec.specs.declared.message.Message.TheVariants.{Cc, Cref}
use Rattle.q713_codec.specs.Writing.{spelling_of}
use Rattle.section_model.specs.declared.cell.SectionState.TheVariants.{Asked, Up, Gone}
use Rattle.section_model.specs.Ends.{End, wire, SectionHead, Section, Connection}
use Rattle.section_model.specs.Line.{credit_of}
use Rattle.section_model.specs.Step.{connection_step}
use Rattle.connection_law.specs.InStep.{IsInStep}
use Rattle.connection_law.specs.Messages.{acted}
use Rattle.hop_law.specs.LeavingLaw.{AreSides, IsApart}
use Rattle.hop_law.specs.Waiting.{Waiting, messages_to}

abbrev pub waiting_on : SectionHead → Message → Waiting
waiting_on x message = record { sls = x.sls; bytes = spelling_of message }

-- a section before and after, and what it sent
pub data Answers (x y : SectionHead) (queue : List Waiting) : Type 0 where
  silent : y ≡ x → queue ≡ [] → Answers x y queue
  accepts :
      (called body : Option (List ℕ)) (importance : Option ℕ) → y.state ≡ Up →
      queue ≡ waiting_on x (Cc x.other x.mine y.class (credit_of y.class y.credit) called body importance) ∷ [] → Answers x y queue
  refuses :
      (cause : ℕ) (called body : Option (List ℕ)) (importance : Option ℕ) → y.state ≡ Gone →
      queue ≡ waiting_on x (Cref x.other cause called body importance) ∷ [] → Answers x y queue

-- The law, of one step: all the messages to the point of the section, if the other end is no section to that point.
abbrev pub IsAnswered : Type 0
IsAnswered =
    (ticks : Ticks) (c : Connection) (event : Event) (end other : Connection → End) (x y : Section) →
    IsInStep c → AreSides end other → end c ≡ wire x → x.head.state ≡ Asked → end (connection_step ticks c event).0 ≡ wire y →
    IsApart x.head (other (acted ticks c event)) → Answers x.head y.head (messages_to x.head.point (connection_step ticks c event).1)
