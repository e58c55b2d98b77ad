-- What holds of a connection at all times: what is kept, waits and is handed over has the lengths of Q.713, and each credit has its range.
use Rattle.std.specs.Prelude.{◌≡◌, ℕ, ◌≤◌, false, List, [], ◌∷◌}
use Rattle.section_model.specs.declared.hand.Hand.{Hand}
use Rattle.section_model.specs.declared.hand.Hand.TheVariants as hand
use Rattle.section_model.specs.declared.hand.Acted.{Acted}
use Rattle.section_model.specs.declared.input.Input.{Input}
use Rattle.section_model.specs.declared.input.Input.TheVariants as input
use Rattle.relay_base.specs.declared.limits.TheConstants.{GREATEST_CREDIT}
use Rattle.section_model.specs.declared.hand.Came.{Came}
use Rattle.section_model.specs.Ends.{End, wire, owner}
use Rattle.section_flow.specs.Windows.{Windows as SectionWindows}
use Rattle.section_model.specs.Windowed.{HasCome}
use Rattle.section_model.specs.Lengths.{HandsWithin, InputWithin, KeptWithin, WindowsWithin}
use Rattle.section_coupling.specs.declared.wire.Wire.{Wire}
use Rattle.section_coupling.specs.declared.owner.Owner.{Owner}
use Rattle.section_coupling.specs.declared.side.Side.{Side}
use Rattle.section_coupling.specs.declared.side.Side.TheVariants as side
use Rattle.section_coupling.specs.declared.pair.Pair.{Pair}

-- the greatest credit (Q.713, 3.10)
abbrev pub IsCredit : ℕ → Type 0
IsCredit credit = credit ≤ GREATEST_CREDIT

-- the credit that an effect agrees on, if it does
abbrev pub IsGranted : Hand → Type 0
IsGranted (hand.Accept class credit called body importance) = IsCredit credit
IsGranted _ = Unit {0}

abbrev pub AreGranted : List Hand → Type 0
AreGranted [] = Unit {0}
AreGranted (h ∷ hands) = IsGranted h × AreGranted hands

-- what is handed over
abbrev pub SoundHands : List Hand → Type 0
SoundHands hands = AreGranted hands × HandsWithin hands

-- Of the units that an effect says to have left: they had come in at the end that takes it, and had not left before. In class 2 only clauses
-- count them, and at a user's end.
abbrev pub HasComeAt : Hand → End → Type 0
HasComeAt h (wire x) = x.head.class ≡ 3 → HasCome h x.windows
HasComeAt h (owner u) = Unit {0}

-- a unit that an end hands over may be said to have left
abbrev pub MayLeave : Hand → End → Type 0
MayLeave (hand.Unit more body) e = HasComeAt (hand.Left 1 false) e
MayLeave _ e = Unit {0}

-- no unit is said to have left
abbrev pub LeavesNone : Hand → Type 0
LeavesNone (hand.Left units expedited) = units ≡ 0
LeavesNone _ = Unit {0}

abbrev pub LeaveNone : List Hand → Type 0
LeaveNone [] = Unit {0}
LeaveNone (h ∷ hands) = LeavesNone h × LeaveNone hands

-- a section hands over one effect at a time
abbrev pub IsAlone : End → List Hand → Type 0
IsAlone (wire x) hands = hands ≡ []
IsAlone (owner u) hands = Unit {0}

-- what one end hands to the other: the units that leave by it had come in there, and those that go on by it here
abbrev pub AreOfWhatCame : End → List Hand → End → Type 0
AreOfWhatCame this [] that = Unit {0}
AreOfWhatCame this (h ∷ hands) that = HasComeAt h that × MayLeave h this × IsAlone this hands × LeaveNone hands

abbrev pub SoundActed : Acted → Type 0
SoundActed acted = SoundHands acted.first × SoundHands acted.then

-- what is taken
abbrev pub IsGrantedInput : Input → Type 0
IsGrantedInput (input.Hand h) = IsGranted h.now
IsGrantedInput _ = Unit {0}

abbrev pub SoundInput : Input → Type 0
SoundInput i = IsGrantedInput i × InputWithin i

-- what came in, by the windows of a section
abbrev pub came_in : SectionWindows → Came
came_in w = record { got = w.got; passed = w.passed }

-- the windows of a section have the credit that it agreed on, and in class 3 they count what came in too
pub record SoundWire (w : Wire) : Type 0 where
  pub kept : KeptWithin w.line.kept
  pub windows : WindowsWithin w.windows.windows
  pub agreed : w.windows.agreed ≡ w.head.credit
  pub credit : IsCredit w.head.credit
  pub came : w.head.class ≡ 3 → w.line.came.value ≡ came_in w.windows.windows

abbrev pub SoundOwner : Owner → Type 0
SoundOwner o = IsCredit o.side.credit

abbrev pub SoundSide : Side → Type 0
SoundSide (side.Wire w) = SoundWire w
SoundSide (side.User o) = SoundOwner o

abbrev pub AreSound : Side → Side → Type 0
AreSound this that = SoundSide this × SoundSide that

abbrev pub SoundPair : Pair → Type 0
SoundPair p = AreSound p.this p.that
