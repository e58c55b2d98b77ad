-- The units that come in at a section by one event (Q.714, 3.5), as long as neither RSR nor RSC is sent: those that a message brings while the section
-- is up. And no section is reset, or takes units again once it takes none (3.1, 3.3 and 3.7).
use Rattle.std.specs.Prelude.{◌≡◌, false, ◌++◌}
use Rattle.std.specs.List.{list_any}
use Rattle.relay_base.specs.declared.words.Event.{Event}
use Rattle.plant_core.specs.declared.terms.Ticks.{Ticks}
use Rattle.section_model.specs.Ends.{End, wire, Section, Connection}
use Rattle.section_model.specs.Lane.{fed, part_by}
use Rattle.hop_law.specs.LeavingLaw.{AreSides}
use Rattle.hop_law.specs.ClearingLaw.{is_reset}
use Rattle.hop_law.specs.ClosingLaw.{IsNoOpening}
use Rattle.hop_law.specs.TakenAlong.{brought_to, Fits}
use Rattle.hop_law.specs.Soundness.{IsSound}

-- The laws, of any event, whether the connection hears it or not.
abbrev pub UnitsComeIn : Type 0
UnitsComeIn =
    (ticks : Ticks) (c : Connection) (event : Event) (end other : Connection → End) (x y : Section) →
    IsSound c → AreSides end other → end c ≡ wire x → end (fed ticks c event) ≡ wire y →
    Fits (wire x) event → list_any is_reset (part_by ticks event c) ≡ false →
    y.windows.got ≡ x.windows.got ++ brought_to (wire x) event

abbrev pub SectionsStayShut : Type 0
SectionsStayShut =
    (ticks : Ticks) (c : Connection) (event : Event) (end other : Connection → End) (x y : Section) →
    IsSound c → AreSides end other → end c ≡ wire x → end (fed ticks c event) ≡ wire y → list_any is_reset (part_by ticks event c) ≡ false →
    IsNoOpening x.head.state y.head.state
