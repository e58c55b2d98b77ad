-- The two ends of a connection: a connection section of the network, or a user of this node.
use Rattle.std.specs.Prelude.{ℕ, List, [], Bool, true, false, Option, None}
pub use Rattle.plant_core.specs.declared.terms.Terms.{Terms}
pub use Rattle.plant_core.specs.declared.terms.Ticks.{Ticks}
pub use Rattle.section_model.specs.declared.cell.SectionState.{SectionState}
pub use Rattle.section_model.specs.declared.cell.UserState.{UserState}
pub use Rattle.section_model.specs.declared.cell.SectionState.TheVariants as section
pub use Rattle.section_model.specs.declared.cell.UserState.TheVariants as user
pub use Rattle.section_flow.specs.declared.unit.Unit.{Unit as DataUnit}
use Rattle.section_flow.specs.Windows.{Windows}
pub use Rattle.section_model.specs.declared.hand.Hand.{Hand}
pub use Rattle.section_model.specs.declared.hand.Acted.{Acted}
pub use Rattle.section_model.specs.declared.hand.KeptRelease.{KeptRelease}
pub use Rattle.relay_base.specs.declared.words.Output.{Output}
use Rattle.section_model.specs.declared.cell.SectionState.TheVariants.{Asking, Waning, Up, Resetting, Gone}

-- A section: the point that it reaches, its own reference and the other end's, its signalling link selection, its state, and the class
-- and the credit agreed on.
pub record SectionHead : Type 0 where
  pub point : ℕ
  pub mine : ℕ
  pub other : ℕ
  pub sls : ℕ
  pub state : SectionState
  pub class : ℕ
  pub credit : ℕ

-- The timers of a section: the ticks that are left, where it runs.
pub record Timers : Type 0 where
  pub connect : Option ℕ
  pub reset : Option ℕ
  pub iar : Option ℕ
  pub ias : Option ℕ
  pub rel : Option ℕ
  pub int : Option ℕ
  pub repeat : Option ℕ

-- A section without what class 3 alone has.
pub record Line : Type 0 where
  pub head : SectionHead
  pub kept : KeptRelease
  pub got : List DataUnit  -- the units that came in on this section
  pub passed : ℕ  -- how many of them left on the other end

pub record Section : Type 0 where
  pub head : SectionHead
  pub kept : KeptRelease
  pub windows : Windows
  pub timers : Timers

pub record User : Type 0 where
  pub ssn : ℕ
  pub mine : ℕ  -- the reference of the section at the other end
  pub state : UserState
  pub class : ℕ
  pub credit : ℕ
  pub text : List ℕ  -- what is put together of a text
  pub got : List DataUnit  -- in both classes, the units that the user gave since the counts were cleared
  pub passed : ℕ  -- how many of them left

pub data End : Type 0 where
  wire : Section → End
  owner : User → End

-- A connection, seen from one of its ends.
pub record Connection : Type 0 where
  pub this : End
  pub that : End

abbrev pub turned : Connection → Connection
turned c = record { this = c.that; that = c.this }

-- An act with no effect, with outputs alone, and with what is handed over after them.
abbrev pub no_effect : Acted
no_effect = record { first = []; outs = []; then = [] }

abbrev pub gives : List Output → Acted
gives outs = record { first = []; outs = outs; then = [] }

abbrev pub gives_then : List Output → List Hand → Acted
gives_then outs hands = record { first = []; outs = outs; then = hands }

-- what a release says that has a cause alone
abbrev pub only_cause : ℕ → KeptRelease
only_cause cause = record { cause = cause; body = None; importance = None }

abbrev pub no_kept : KeptRelease
no_kept = only_cause 0

-- the counts when they begin, with the credit that was agreed on
abbrev pub cleared : ℕ → Windows
cleared credit = record { got = []; passed = 0; told = 0; sent = 0; acked = 0; credit = credit; waits = []; waiting = None; unanswered = false; owed = false }

abbrev pub no_timers : Timers
no_timers = record { connect = None; reset = None; iar = None; ias = None; rel = None; int = None; repeat = None }

abbrev pub is_up : SectionState → Bool
is_up Up = true
is_up _ = false

abbrev pub is_gone : SectionState → Bool
is_gone Gone = true
is_gone _ = false

-- data may pass, now or after a reset
abbrev pub is_connected : SectionState → Bool
is_connected Up = true
is_connected Resetting = true
is_connected _ = false

-- the other end of the section is known
abbrev pub is_reached : SectionState → Bool
is_reached Asking = false
is_reached Waning = false
is_reached _ = true
