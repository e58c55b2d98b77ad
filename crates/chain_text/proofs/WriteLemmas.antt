-- What a sink holds once what waits was written.
use Rattle.std.proofs.Common.{◌≡◌, ℕ, List, Result, Err, refl, sym, subst, ◌∙◌}
use Rattle.std.specs.Prelude.{Option}
use Rattle.relay_base.specs.Causes.{Rose}
use Rattle.journal_text.specs.declared.writing.WriteFault.{WriteFault}
use Rattle.journal_text.specs.declared.writing.WriteFault.TheVariants as write_fault
use Rattle.journal_text.specs.Inner.Writing.{Writes, Carried, Carries}
use Rattle.journal_text.proofs.Parts.{Carries-lacks, Carried-ends, Carried-ends-part}

-- a call failed before
pub Writes-fails : {T : Type 0} (a b : Option (List ℕ)) (f g : ℕ) (text waits : List ℕ) (e : WriteFault) (r : Result T WriteFault) → Carries {T = T} a b f g text waits (Err e) → r ≡ Err e
    → Writes a b f g text r
Writes-fails {T} a b f g text waits e r p is = subst (Writes {T = T} a b f g text) (sym is) (record { ok = tt; err = p.err; fault = p.fault; kept = p.kept })

-- memory ran out before
pub Writes-lacks : {T : Type 0} (a b : Option (List ℕ)) (f g : ℕ) (text left : List ℕ) (r : Result T WriteFault) → Carried a b f g text left → r ≡ Err write_fault.Memory → Writes a b f g text r
Writes-lacks {T} a b f g text left r p is = Writes-fails a b f g text left write_fault.Memory r (Carries-lacks {U = T} a b f g text left left (Err write_fault.Memory) p refl) is

-- it was written, or a part of it was
pub Writes-ends : {T : Type 0} (a b c : Option (List ℕ)) (f g h : ℕ) (text waits last : List ℕ) (r : Result T WriteFault) → Carried a b f g text waits → last ≡ waits → Writes b c g h last r
    → Writes a c f h text r
Writes-ends a b c f g h text waits last r p same q = record {
  ok = Carried-ends a b c f g text waits last r p same q.ok;
  err = Carried-ends-part a b c f g text waits last r p same q.err;
  fault = λ s. subst (λ n. Rose n h) p.kept (q.fault s);
  kept = λ s. q.kept s ∙ p.kept;
}
