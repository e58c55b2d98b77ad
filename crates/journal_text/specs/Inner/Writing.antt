-- What writing a text to a sink does.
use Rattle.std.specs.Prelude.{◌≡◌, ◌≢◌, ◌++◌, ℕ, List, Option, Err, OnOk, OnErr}
use Rattle.std.specs.declared.result.Result.{Result}
use Rattle.std.specs.Io.KnownBytes.{Appends}
use Rattle.relay_base.specs.Causes.{Rose}
use Rattle.relay_base.specs.Streams.{AppendedPart}
use Rattle.journal_text.specs.declared.writing.WriteFault.{WriteFault}
use Rattle.journal_text.specs.declared.writing.WriteFault.TheVariants as write_fault

-- a text was written, or a front of it where the sink failed or memory ran out; the fault is the sink's exactly where
-- its count of failures rose
pub record Writes {T : Type 0} (old new : Option (List ℕ)) (before now : ℕ) (text : List ℕ) (result : Result T WriteFault) : Type 0 where
  pub ok : OnOk result (Appends old new text)
  pub err : OnErr result (AppendedPart old new text)
  pub fault : result ≡ Err write_fault.Sink → Rose before now
  pub kept : result ≢ Err write_fault.Sink → now ≡ before

-- of a text a front was written, and the rest waits
pub record Carried (old new : Option (List ℕ)) (before now : ℕ) (text waits : List ℕ) : Type 0 where
  pub written : List ℕ
  pub went : Appends old new written
  pub kept : now ≡ before
  pub same : written ++ waits ≡ text

-- so it is after a call; or where the sink failed or memory ran out, a front was written; the fault is the sink's only
-- where its count of failures rose
pub record Carries {T : Type 0} (old new : Option (List ℕ)) (before now : ℕ) (text waits : List ℕ) (result : Result T WriteFault) : Type 0 where
  pub ok : OnOk result (Carried old new before now text waits)
  pub err : OnErr result (AppendedPart old new text)
  pub fault : result ≡ Err write_fault.Sink → Rose before now
  pub kept : result ≢ Err write_fault.Sink → now ≡ before

-- the same of a sink before and after, by what it holds and how often it failed
abbrev pub CarriesTo : {S T : Type 0} → (S → Option (List ℕ)) → (S → ℕ) → S → S → List ℕ → List ℕ → Result T WriteFault → Type 0
CarriesTo held faults old new text waits result = Carries (held old) (held new) (faults old) (faults new) text waits result

-- a print joined the text that waited, and so much of both still waits
abbrev pub Joins : {S T : Type 0} → (S → Option (List ℕ)) → (S → ℕ) → S → S → List ℕ → List ℕ → List ℕ → Result T WriteFault → Type 0
Joins held faults old new text waits print result = CarriesTo held faults old new (text ++ print) waits result
