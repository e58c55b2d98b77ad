-- What each act of an end keeps, and so each part of a step.
use Rattle.std.proofs.Common.{◌≡◌, ℕ, Bool, true, false, if◌then◌else◌, Option, Some, ap}
use Rattle.relay_base.specs.declared.words.Request.{Request}
use Rattle.relay_base.specs.declared.words.Output.{Output}
use Rattle.plant_core.specs.declared.terms.Ticks.{Ticks}
use Rattle.section_model.specs.declared.cell.Occasion.{Occasion}
use Rattle.section_model.specs.declared.hand.Hand.{Hand}
use Rattle.section_model.specs.Ends.{End, wire, owner, Section, User, Connection, turned}
use Rattle.section_model.specs.Parameters.{Parameters}
use Rattle.section_model.specs.Windowed.{leaves, acknowledges}
use Rattle.section_model.specs.UserEnd.{user_asks}
use Rattle.section_model.specs.Acting.{timed, by_windows, end_takes}
use Rattle.section_model.specs.Step.{hears_checked, in_touch, asking_cell}
use Rattle.connection_law.specs.ReferenceLaw.{Stays}

-- a property of both arms
pub either : {A : Type 0} (P : A → Type 0) (b : Bool) (x y : A) → P x → P y → P (if b then x else y)
either P true x y f g = f
either P false x y f g = g

-- a section whose head did not change
pub same_head : (x y : Section) → y.head ≡ x.head → Stays (wire x) (wire y)
same_head x y e = record { reference = ap (λ h. Some h.mine) e; gone = λ g. rw e g }

-- A relation of an end to what it is later: each act but those of its timers is within it.
pub record IsKept (ticks : Ticks) (Later : End → End → Type 0) : Type 0 where
  pub same : (e : End) → Later e e
  pub in_turn : (e f g : End) → Later e f → Later f g → Later e g
  pub hears :
      (o : Occasion) (point : ℕ) (m : Parameters) (x : Section) (checked : Option Output)
      → Later (wire x) (hears_checked ticks o point m (in_touch ticks x) checked).0
  pub takes : (h : Hand) (e : End) → Later e (end_takes ticks h e).0
  pub asks : (r : Request) (u : User) → Later (owner u) (owner (user_asks (asking_cell u.state r) r u).0)
  pub leaves : (x : Section) → Later (wire x) (timed ticks x (by_windows leaves x)).0
  pub acknowledges : (x : Section) → Later (wire x) (timed ticks x (by_windows acknowledges x)).0

-- both ends of a connection are in it
abbrev pub Both : (End → End → Type 0) → Connection → Connection → Type 0
Both Later c d = Later c.this d.this × Later c.that d.that

pub both_same : {ticks : Ticks} {Later : End → End → Type 0} → IsKept ticks Later → (c : Connection) → Both Later c c
both_same k c = (k.same c.this, k.same c.that)

pub both_in_turn : {ticks : Ticks} {Later : End → End → Type 0} → IsKept ticks Later → (c d e : Connection) → Both Later c d → Both Later d e → Both Later c e
both_in_turn k c d e one other = (k.in_turn c.this d.this e.this one.0 other.0, k.in_turn c.that d.that e.that one.1 other.1)

-- seen from the other end
pub both_turned : (Later : End → End → Type 0) (c d : Connection) → Both Later (turned c) d → Both Later c (turned d)
both_turned Later c d s = (s.1, s.0)
