-- What is taken of a source.
use Rattle.std.specs.Prelude.{◌≡◌, ℕ, List, Option, Some, None, Err}
use Rattle.std.specs.declared.result.Result.{Result}
use Rattle.std.specs.Io.KnownBytes.{Consumes, IsAtEnd}
use Rattle.relay_base.specs.Streams.{TookMore}
use Rattle.relay_base.specs.declared.limits.TheConstants.{MOST_BYTES}
use Rattle.relay_base.specs.declared.errors.ReadAllFault.TheVariants.{TooLong}
use Rattle.capture_form.specs.Capture.{capture_of, fault_in}
use Rattle.capture_form.specs.declared.capture.Capture.{Capture}
use Rattle.capture_form.specs.declared.fault.CaptureFault.{CaptureFault}
use Rattle.capture_pieces.specs.declared.fault.PieceFault.{PieceFault}
use Rattle.capture_pieces.specs.declared.fault.PieceFault.TheVariants as fault

-- the source was read to its end, and its octets state this
abbrev pub States : Option (List ℕ) → Option (List ℕ) → Result Capture CaptureFault → Type 0
States old new stated = (came : List ℕ) × Consumes old new came × IsAtEnd new × (capture_of came ≡ stated)

-- a fault of what came, unless memory ran out
abbrev pub IsRefused : Option (List ℕ) → Option (List ℕ) → Option CaptureFault → Type 0
IsRefused old new None = Unit {0}
IsRefused old new (Some f) = States old new (Err f)

-- why no capture was taken
abbrev pub TakesNone : Option (List ℕ) → Option (List ℕ) → PieceFault → Type 0
TakesNone old new (fault.Capture f) = IsRefused old new (fault_in f)
TakesNone old new (fault.Read TooLong) = TookMore old new MOST_BYTES
TakesNone old new (fault.Read _) = Unit {0}
