-- One tick more leaves one tick less.
use Rattle.std.proofs.Common.{◌≡◌, ℕ, ◌+◌, ◌-◌, refl, subst, ap, arith}
use Rattle.std.specs.Prelude.{pred, Option, Some, None, option_map}
use Rattle.section_model.specs.Ends.{wire}
use Rattle.section_model.specs.Step.{ticked}
use Rattle.section_model.specs.Timing.{lowered}
use Rattle.section_coupling.specs.declared.timers.Timers.{Timers}
use Rattle.section_coupling.specs.declared.side.Side.{Side}
use Rattle.section_coupling.specs.declared.side.Side.TheVariants as side
use Rattle.section_coupling.specs.declared.pair.Pair.{Pair}
use Rattle.section_coupling.specs.Views.{left_at, timers_at, section_at, end_at, connection_at}

one-less : (tick now : ℕ) → pred (tick - now) ≡ tick - (now + 1)
one-less tick now = omega arith

left-less : (now : ℕ) (deadline : Option ℕ) → option_map pred (left_at now deadline) ≡ left_at (now + 1) deadline
left-less now None = refl
left-less now (Some tick) = ap Some (one-less tick now)

timers-less : (now : ℕ) (t : Timers) → lowered (timers_at now t) ≡ timers_at (now + 1) t
timers-less now t = rw (left-less now t.connect) (rw (left-less now t.reset) (rw (left-less now t.iar) (rw (left-less now t.ias) (rw (left-less now t.rel) (rw (left-less now t.int) (rw (left-less now t.repeat) refl))))))

end-less : (now : ℕ) (s : Side) → ticked (end_at now s) ≡ end_at (now + 1) s
end-less now (side.Wire w) = ap (λ t. wire (record (section_at now w) { timers = t })) (timers-less now w.timers)
end-less now (side.User u) = refl

pub ticked_pair : (before now : ℕ) (p : Pair) → before + 1 ≡ now → record { this = ticked (end_at before p.this); that = ticked (end_at before p.that) } ≡ connection_at now p
ticked_pair before now p e = subst (λ n. record { this = ticked (end_at before p.this); that = ticked (end_at before p.that) } ≡ connection_at n p) e
    (rw (end-less before p.this) (rw (end-less before p.that) refl))
