-- Where a section isn't set up, or is over, nothing passes through its connection (Q.714, 3.1 and 3.5).
use Rattle.std.specs.Prelude.{◌≡◌, ℕ, false, List, []}
use Rattle.relay_base.specs.declared.words.Event.{Event}
use Rattle.relay_base.specs.declared.words.Output.{Output}
use Rattle.plant_core.specs.declared.terms.Ticks.{Ticks}
use Rattle.section_model.specs.Ends.{End, wire, SectionHead, Section, Connection, is_connected}
use Rattle.section_model.specs.Lane.{fed, part_by}
use Rattle.hop_law.specs.Units.{units_on}
use Rattle.hop_law.specs.LeavingLaw.{AreSides}
use Rattle.hop_law.specs.Waiting.{messages_to, units_waiting}
use Rattle.hop_law.specs.Hop.{GotNothing}
use Rattle.hop_law.specs.Soundness.{IsSound}

-- nothing came in at either end, and no unit leaves, on any section
pub record Nothing (after : Connection) (outs : List Output) : Type 0 where
  pub came : GotNothing after
  pub leaves : (y : SectionHead) → units_on y outs ≡ []
  pub waits : (reference point : ℕ) → units_waiting reference (messages_to point outs) ≡ []

-- The law, of any event, whether the connection hears it or not: a section that isn't connected before the event, even if the event sets it up.
abbrev pub NothingPasses : Type 0
NothingPasses =
    (ticks : Ticks) (c : Connection) (event : Event) (end other : Connection → End) (x : Section) →
    IsSound c → AreSides end other → end c ≡ wire x → is_connected x.head.state ≡ false → GotNothing c →
    Nothing (fed ticks c event) (part_by ticks event c)
