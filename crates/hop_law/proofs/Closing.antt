-- A section takes units only where it did before, but by a reset.
use Rattle.std.proofs.Common.{◌≡◌, ◌⊎◌, inl, inr, List, sym, subst}
use Rattle.relay_base.specs.declared.words.Output.{Output}
use Rattle.section_model.specs.Ends.{End, wire, owner, SectionHead, Connection}
use Rattle.section_model.specs.Step.{event_step, connection_step, after_event}
use Rattle.connection_law.specs.InStep.{class_at}
use Rattle.connection_law.proofs.Reference.Ends.{Both}
use Rattle.hop_law.specs.ClearingLaw.{is_reset, SendsReset}
use Rattle.hop_law.specs.ClosingLaw.{IsNoOpening, StaysClosed, NoOpening}
use Rattle.hop_law.proofs.Accepting.{any_after}
use Rattle.hop_law.proofs.Taking.{SameHead}
use Rattle.hop_law.proofs.Heads.{after_heads}
use Rattle.hop_law.proofs.Clearing.{Goes, closed_same, closed_then, event_goes}

of_head : (e f : End) → SameHead e f → StaysClosed e f
of_head (wire x) (wire y) same = subst (λ (h : SectionHead). IsNoOpening x.head.state h.state) (sym same) (closed_same (wire x))
of_head (owner u) (owner v) same = tt
of_head (wire x) (owner v) same = absurd same
of_head (owner u) (wire y) same = absurd same

pub no_opening : NoOpening
unfolding connection_step
no_opening ticks c event k class = let r = event_step ticks c event in by_event r (after_heads ticks r) (event_goes ticks c event k class)
  where
    by_event : (r : Connection × List Output) → Both SameHead r.0 (after_event ticks r).0 → ((class_at c.this ≡ 3) × SendsReset r.1) ⊎ Both Goes c r.0
        → (let s = after_event ticks r in SendsReset s.1 ⊎ (StaysClosed c.this s.0.this × StaysClosed c.that s.0.that))
    by_event r same (inl reset) = inl (any_after is_reset ticks r reset.1)
    by_event r same (inr goes) =
        let s = after_event ticks r in inr (
          closed_then c.this r.0.this s.0.this goes.0.2 (of_head r.0.this s.0.this same.0),
          closed_then c.that r.0.that s.0.that goes.1.2 (of_head r.0.that s.0.that same.1),
        )
