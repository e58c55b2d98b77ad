-- The ranges of what a lane is told at its start: the ticks of each timer (Q.714, 3.1, 3.3, 3.4, 3.7, 4.1, 5.3), and the greatest credit (Q.713, 3.10).
use Rattle.std.specs.Prelude.{ℕ, ◌≤◌}
use Rattle.relay_base.specs.declared.limits.TheConstants.{GREATEST_CREDIT}
use Rattle.plant_core.specs.declared.terms.TheConstants.{MOST_TICKS}
use Rattle.plant_core.specs.declared.terms.Ticks.{Ticks}
use Rattle.plant_core.specs.declared.terms.Terms.{Terms}
use Rattle.plant_core.specs.declared.terms.LaneHead.{LaneHead}

abbrev pub IsWithin : ℕ → ℕ → ℕ → Type 0
IsWithin least n most = (least ≤ n) × (n ≤ most)

pub record AreTicks (t : Ticks) : Type 0 where
  pub connect : IsWithin 1 t.connect MOST_TICKS
  pub ias : IsWithin 60 t.ias MOST_TICKS
  pub iar : IsWithin 1 t.iar MOST_TICKS
  pub rel : IsWithin 1 t.rel MOST_TICKS
  pub repeat : IsWithin 5 t.repeat MOST_TICKS
  pub int : IsWithin 1 t.int MOST_TICKS
  pub reset : IsWithin 1 t.reset MOST_TICKS
  pub reassembly : IsWithin 1 t.reassembly MOST_TICKS
  pub freeze : IsWithin 1 t.freeze MOST_TICKS
  pub status : IsWithin 1 t.status MOST_TICKS
  pub status_max : IsWithin t.status t.status_max MOST_TICKS
  pub coord : IsWithin 1 t.coord MOST_TICKS

pub record AreTerms (t : Terms) : Type 0 where
  pub credit : IsWithin 1 t.credit GREATEST_CREDIT
  pub ticks : AreTicks t.ticks

pub record IsLaneHead (h : LaneHead) : Type 0 where
  pub terms : AreTerms h.terms
  pub reassembly : IsWithin 1 h.reassembly MOST_TICKS
