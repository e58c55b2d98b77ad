-- What the ends hand to each other, by which no unit passes.
use Rattle.std.proofs.Common.{ℕ, List, [], ◌++◌, refl, inl}
use Rattle.relay_base.specs.declared.words.Output.{Output}
use Rattle.plant_core.specs.declared.terms.Ticks.{Ticks}
use Rattle.section_model.specs.declared.hand.Acted.{Acted}
use Rattle.section_model.specs.Ends.{End, Connection, turned}
use Rattle.section_model.specs.Coupling.{exchange, settles}
use Rattle.section_model.specs.Laws.{hands_of}
use Rattle.connection_law.specs.InStep.{got_at}
use Rattle.hop_law.proofs.Effects.{AreTaken, exchanged}
use Rattle.hop_law.proofs.Quiet.{IsQuiet, IsOther, AreOther, Kept, kept_then, ActsQuiet, quiet_joined, none_quiet, end_takes_quiet}

abbrev pub both : End → End → Connection
both this that = record { this = this; that = that }

-- from a connection to another one with outputs: what came in at both ends is kept, and no DT1 leaves
unfoldable pub Quiet : Connection → Connection × List Output → Type 0
Quiet c r = IsQuiet r.1 × Kept (got_at c.this) (got_at r.0.this) × Kept (got_at c.that) (got_at r.0.that)

pub quiet_nowhere : (c : Connection) → Quiet c (c, [])
unfolding Quiet
quiet_nowhere c = (none_quiet, inl refl, inl refl)

pub quiet_then : (c : Connection) (r s : Connection × List Output) → Quiet c r → Quiet r.0 s → Quiet c (s.0, r.1 ++ s.1)
unfolding Quiet
quiet_then c r s p q = (
  quiet_joined r.1 s.1 p.0 q.0,
  kept_then (got_at c.this) (got_at r.0.this) (got_at s.0.this) p.1 q.1,
  kept_then (got_at c.that) (got_at r.0.that) (got_at s.0.that) p.2 q.2,
)

pub quiet_back : (c : Connection) (r : Connection × List Output) → Quiet c r → Quiet (turned c) (turned r.0, r.1)
unfolding Quiet
quiet_back c r q = (q.0, q.2, q.1)

unfoldable pub Exchanges : ℕ → Ticks → Type 0
Exchanges n ticks = (acting : End × Acted) (that : End) → IsQuiet acting.1.outs → AreOther (hands_of acting.1) → Quiet (both acting.0 that) (exchange n ticks acting that)

quiet_taken : (ticks : Ticks) → AreTaken ticks IsOther IsQuiet (λ e f. Kept (got_at e) (got_at f))
unfolding ActsQuiet AreOther
quiet_taken ticks = record {
  same = λ e. inl refl;
  in_turn = λ e f g one other. kept_then (got_at e) (got_at f) (got_at g) one other;
  none = none_quiet;
  joined = quiet_joined;
  takes = λ h e o. let t = end_takes_quiet ticks h e o in (t.2, t.0, t.1);
}

pub exchange_quiet : (n : ℕ) (ticks : Ticks) → Exchanges n ticks
unfolding Exchanges Quiet AreOther
exchange_quiet n ticks acting that p o = let q = exchanged (quiet_taken ticks) n acting that p o in (q.1, q.0.0, q.0.1)

-- an act of an end, and what the ends hand to each other then
pub settles_quiet : (ticks : Ticks) (e that : End) (acting : End × Acted) → ActsQuiet (got_at e) (got_at acting.0) acting.1 → Quiet (both e that) (settles ticks acting that)
unfolding ActsQuiet Exchanges Quiet
settles_quiet ticks e that acting a =
    let q = exchange_quiet 2 ticks acting that a.0 a.1 in
    (q.0, kept_then (got_at e) (got_at acting.0) (got_at (settles ticks acting that).0.this) a.2 q.1, q.2)
