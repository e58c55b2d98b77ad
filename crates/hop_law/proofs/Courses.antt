-- What is kept of a course of a hop.
use Rattle.std.proofs.Common.{◌≡◌, ◌≢◌, ◌⊎◌, ℕ, ◌<◌, true, false, List, [], ◌∷◌, Option, Some, None}
use Rattle.relay_base.specs.declared.limits.TheConstants.{REFERENCES}
use Rattle.relay_base.specs.declared.words.Output.{Output}
use Rattle.section_model.specs.declared.cell.SectionState.TheVariants.{Asked, Up, Gone}
use Rattle.section_model.specs.Parameters.{Arrival, arrival_in}
use Rattle.section_model.specs.Ends.{DataUnit, SectionHead, Section, Connection, is_reached}
use Rattle.hop_law.specs.Units.{units_for, units_on}
use Rattle.hop_law.specs.Waiting.{Waiting, units_waiting}
use Rattle.hop_law.specs.Hop.{Neighbours, Course, GotNothing}
use Rattle.hop_law.specs.SectionLaw.{is_early}
use Rattle.hop_law.specs.Going.{BringOfClass}
use Rattle.hop_law.specs.Setup.{IsConfirmOf}
use Rattle.hop_law.proofs.Queues.{units_to, NoConfirmFor, NoneConfirm}
use Rattle.hop_law.proofs.Sides.{IsSide}
use Rattle.hop_law.proofs.Flows.{Flows}

-- What stays of the two sections to each other: their local references and their link selections; and the references of the other ends.
pub record Pair : Type 0 where
  pub near : ℕ
  pub far : ℕ
  pub near_sls : ℕ
  pub far_sls : ℕ
  pub near_other : Option ℕ
  pub far_other : Option ℕ

-- the near section as it is once it knows the far one, and the far section
abbrev pub near_head : Neighbours → Pair → SectionHead
near_head n p = record { point = n.far; mine = p.near; other = p.far; sls = p.near_sls; state = Up; class = 0; credit = 0 }

abbrev pub far_head : Neighbours → Pair → SectionHead
far_head n p = record { point = n.near; mine = p.far; other = p.near; sls = p.far_sls; state = Up; class = 0; credit = 0 }

abbrev pub NearSide : Neighbours → Pair → Connection → Section → Type 0
NearSide n p c x = IsSide (near_head n p) p.near_other (λ c. c.that) (λ c. c.this) c x

abbrev pub FarSide : Neighbours → Pair → Connection → Section → Type 0
FarSide n p c y = IsSide (far_head n p) p.far_other (λ c. c.this) (λ c. c.that) c y

-- the units that were sent from the one to the other
abbrev pub sent_forward : Neighbours → Pair → List Output → List DataUnit
sent_forward n p outs = units_to p.far n.far outs

abbrev pub sent_back : Neighbours → Pair → List Output → List DataUnit
sent_back n p outs = units_to p.near n.near outs

-- CC of the far section in a class
abbrev pub IsConfirmIn : Neighbours → Pair → ℕ → Option Arrival → Type 0
IsConfirmIn n p class None = ⊥
IsConfirmIn n p class (Some a) = IsConfirmOf (far_head n p) (record (far_head n p) { class = class }) a

-- among the messages that wait there is such a CC: before it no other and no unit, and after it units of the class
abbrev pub HasConfirm : Neighbours → Pair → ℕ → List Waiting → Type 0
HasConfirm n p class [] = ⊥
HasConfirm n p class (m ∷ queue) =
    (IsConfirmIn n p class (arrival_in m.bytes) × BringOfClass p.near class queue)
    ⊎ ((units_for p.near m.bytes ≡ []) × NoConfirmFor (Some p.near) (arrival_in m.bytes) × HasConfirm n p class queue)

-- As long as the near section asks: the far one hasn't answered, or it refused and is over; or it accepted, and its CC is among what waits.
pub data Answering (n : Neighbours) (p : Pair) (far : Connection) (y : Section) (back : List Waiting) : Type 0 where
  unanswered :
      (y.head.state ≡ Asked) ⊎ (y.head.state ≡ Gone) → GotNothing far → units_waiting p.near back ≡ [] → NoneConfirm (Some p.near) back → Answering n p far y back
  accepted : is_early y.head.state ≡ false → HasConfirm n p y.head.class back → Answering n p far y back

-- The near section doesn't know the far one, or is over and never knew it: no unit was sent forward, and those that were sent back wait.
pub record Unknown (n : Neighbours) (p : Pair) (g : Course) (x y : Section) : Type 0 where
  pub state : (is_reached x.head.state ≡ false) ⊎ (x.head.state ≡ Gone)
  pub nothing : GotNothing g.hop.near
  pub none_on : (h : SectionHead) → units_on h g.near_outs ≡ []
  pub none_sent : sent_forward n p g.near_outs ≡ []
  pub none_came : y.windows.got ≡ []
  pub none_waits : units_waiting p.far g.hop.forward ≡ []
  pub all_wait : is_reached x.head.state ≡ false → sent_back n p g.far_outs ≡ units_waiting p.near g.hop.back
  pub answer : is_reached x.head.state ≡ false → Answering n p g.hop.far y g.hop.back

-- Both know each other, and units flow both ways.
pub record Known (n : Neighbours) (p : Pair) (g : Course) (x y : Section) : Type 0 where
  pub near_set : is_early x.head.state ≡ false
  pub far_set : is_early y.head.state ≡ false
  pub reached : is_reached x.head.state ≡ true
  pub point : x.head.point ≡ n.far
  pub other : x.head.other ≡ p.far
  pub forward : Flows p.far g.hop.near x y (sent_forward n p g.near_outs) g.hop.forward
  pub back : Flows p.near g.hop.far y x (sent_back n p g.far_outs) g.hop.back

-- All that is kept, for the two sections: what holds whether the near one knows the far one or not, and what holds in each case.
pub record Held (n : Neighbours) (p : Pair) (g : Course) (x y : Section) : Type 0 where
  pub within : (p.near < REFERENCES) × (p.far < REFERENCES)
  pub near : NearSide n p g.hop.near x
  pub far : FarSide n p g.hop.far y
  pub not_asked : x.head.state ≢ Asked
  pub reached : is_reached y.head.state ≡ true
  pub point : y.head.point ≡ n.near
  pub other : y.head.other ≡ p.near
  pub forward_on : sent_forward n p g.near_outs ≡ units_on (near_head n p) g.near_outs
  pub back_on : sent_back n p g.far_outs ≡ units_on (far_head n p) g.far_outs
  pub forward_quiet : NoneConfirm p.far_other g.hop.forward
  pub back_quiet : NoneConfirm p.near_other g.hop.back
  pub phase : Unknown n p g x y ⊎ Known n p g x y
