-- Where nothing would leave a connection after an event (Q.714, 3.5.2 and 3.6).
use Rattle.std.specs.Prelude.{◌≡◌, ◌==◌, ◌&&◌, not, true, false, is_some}
use Rattle.section_model.specs.Ends.{End, wire, owner, Connection, is_up}
use Rattle.section_flow.specs.Windows.{Windows, may_leave}

-- no unit may leave, and no expedited data waits that may
abbrev pub AreDrained : Windows → Type 0
AreDrained w = (may_leave w ≡ 0) × ((is_some w.waiting && not w.unanswered) ≡ false)

-- and what left on the other end is acknowledged
abbrev pub AreResting : Windows → Type 0
AreResting w = AreDrained w × (w.passed ≡ w.told)

-- an end, whose windows matter where it is a section of class 3 that is up
abbrev pub EndRests : End → Type 0
EndRests (wire x) = (is_up x.head.state && x.head.class == 3) ≡ true → AreResting x.windows
EndRests (owner u) = Unit {0}

abbrev pub Rests : Connection → Type 0
Rests c = EndRests c.this × EndRests c.that
