-- What the messages of a connection name (Q.713, 3.2 and 3.3): as the destination the reference of the other end of the section that they leave on, and as
-- the source, where they give one, the section's own; and ERR a reference that a message gave.
use Rattle.std.specs.Prelude.{◌≡◌, ◌⊎◌, ℕ, ◌<◌, ◌≤◌, Bool, true, false, List, IfSome, IfOk}
use Rattle.std.specs.List.{AllByRecursion}
use Rattle.relay_base.specs.declared.limits.TheConstants.{REFERENCES}
use Rattle.relay_base.specs.declared.words.Event.{Event}
use Rattle.relay_base.specs.declared.words.Event.TheVariants.{Message as Arrived}
use Rattle.relay_base.specs.declared.words.Output.{Output}
use Rattle.relay_base.specs.declared.words.Output.TheVariants.{Sent}
use Rattle.q713_codec.specs.Names.{Message}
use Rattle.q713_codec.specs.declared.message.Message.TheVariants.{Cr}
use Rattle.q713_codec.specs.Reading.{reading_of}
use Rattle.section_model.specs.declared.cell.Occasion.{Occasion}
use Rattle.section_model.specs.declared.cell.Occasion.TheVariants as on
use Rattle.section_model.specs.Parameters.{Arrival, arrival_of, arrival_in}
use Rattle.section_model.specs.Ends.{End, wire, owner, Connection}

-- CC, RLSD, RLC, RSR, RSC and IT give the source too
abbrev pub gives_source : Occasion → Bool
gives_source on.Cc = true
gives_source on.Rlsd = true
gives_source on.Rlc = true
gives_source on.Rsr = true
gives_source on.Rsc = true
gives_source on.It = true
gives_source _ = false

-- What a node may name to a point.
pub record Allowed : Type 1 where
  -- what may stand on a section: its point, the reference of its other end, and its own
  pub stands : ℕ → ℕ → ℕ → Type 0
  -- the destination of a message of this type to a point, which answers another one outside of a section
  pub answers : Occasion → ℕ → ℕ → Type 0
  -- the source of CR to a point
  pub asks : ℕ → ℕ → Type 0

-- a message to a point leaves on such a section, or is such an answer
abbrev pub IsOnSection : Allowed → ℕ → Arrival → Type 0
IsOnSection A point a = (mine : ℕ) × A.stands point a.parameters.dlr mine × (gives_source a.occasion ≡ true → a.parameters.slr ≡ mine)

abbrev pub NamesArrival : Allowed → ℕ → Arrival → Type 0
NamesArrival A point a = IsOnSection A point a ⊎ A.answers a.occasion point a.parameters.dlr

abbrev pub AsksFrom : Allowed → ℕ → Message → Type 0
AsksFrom A point (Cr slr class called credit calling body hop importance) = A.asks point slr
AsksFrom A point _ = Unit {0}

abbrev pub NamesMessage : Allowed → ℕ → Message → Type 0
NamesMessage A point m = IfSome (arrival_of m) (NamesArrival A point) × AsksFrom A point m

abbrev pub Names : Allowed → Output → Type 0
Names A (Sent point sls bytes) = IfOk (reading_of bytes) (NamesMessage A point)
Names A _ = Unit {0}

abbrev pub AllName : Allowed → List Output → Type 0
AllName A outs = AllByRecursion (Names A) outs

-- what stands on the sections of a connection
abbrev pub StandsOn : (ℕ → ℕ → ℕ → Type 0) → End → Type 0
StandsOn S (wire x) = S x.head.point x.head.other x.head.mine
StandsOn S (owner u) = Unit {0}

abbrev pub BothStand : (ℕ → ℕ → ℕ → Type 0) → Connection → Type 0
BothStand S c = StandsOn S c.this × StandsOn S c.that

-- What a message from a point makes of it: CC sets its point and its source on the section that is its destination; and the source of CC, RLSD, RSR and IT may be named by
-- ERR or by RLC.
abbrev pub is_answered : Occasion → Bool
is_answered on.Cc = true
is_answered on.Rlsd = true
is_answered on.Rsr = true
is_answered on.It = true
is_answered _ = false

abbrev pub MakesOf : Allowed → ℕ → Arrival → Type 0
MakesOf A point a =
    (a.occasion ≡ on.Cc → (from other : ℕ) → A.stands from other a.parameters.dlr → A.stands point a.parameters.slr a.parameters.dlr)
    × (is_answered a.occasion ≡ true → A.answers on.Err point a.parameters.slr × A.answers on.Rlc point a.parameters.slr)

abbrev pub EventMakes : Allowed → Event → Type 0
EventMakes A (Arrived point sls bytes) = IfSome (arrival_in bytes) (MakesOf A point)
EventMakes A _ = Unit {0}

-- references have 24 bits, and none that is given is 0
pub record AreReferences (A : Allowed) : Type 0 where
  pub stands : (point other mine : ℕ) → A.stands point other mine → (other < REFERENCES) × (mine < REFERENCES) × (1 ≤ mine)
  pub answers : (o : Occasion) (point reference : ℕ) → A.answers o point reference → reference < REFERENCES
  pub asks : (point reference : ℕ) → A.asks point reference → reference < REFERENCES
