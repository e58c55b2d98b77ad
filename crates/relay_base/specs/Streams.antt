-- What reading and writing a whole stream do to the bytes that a device tells.
use Rattle.std.specs.Prelude.{◌≡◌, ℕ, ◌+◌, ◌≤◌, List, length, take, Option}
use Rattle.std.specs.Io.KnownBytes.{Consumes, Appends, IsAtEnd}

-- at most this many bytes came, up to the end
pub record ReadWhole (old new : Option (List ℕ)) (most : ℕ) (bytes : List ℕ) : Type 0 where
  pub bytes_came : Consumes old new bytes
  pub at_end : IsAtEnd new
  pub within : length bytes ≤ most

-- one byte more than these was taken
abbrev pub TookMore : Option (List ℕ) → Option (List ℕ) → ℕ → Type 0
TookMore old new most = (bytes : List ℕ) × Consumes old new bytes × (length bytes ≡ most + 1)

-- no more bytes than these were taken
abbrev pub TookWithin : Option (List ℕ) → Option (List ℕ) → ℕ → Type 0
TookWithin old new most = (bytes : List ℕ) × Consumes old new bytes × (length bytes ≤ most)

-- a front of the bytes was appended
abbrev pub AppendedPart : Option (List ℕ) → Option (List ℕ) → List ℕ → Type 0
AppendedPart old new bytes = (n : ℕ) × Appends old new (take n bytes)
