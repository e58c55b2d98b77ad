-- What came from a source.
use Rattle.std.specs.Prelude.{◌≡◌, ◌⊎◌, ℕ, ◌+◌, ◌-◌, ◌≤◌, true, false, List, ◌++◌, length, take, slice_index, Option, Ok, Err}
use Rattle.std.specs.List.{list_any}
use Rattle.std.specs.declared.result.Result.{Result}
use Rattle.std.specs.Io.KnownBytes.{Consumes, IsAtEnd}
use Rattle.relay_base.specs.Streams.{TookMore}
use Rattle.relay_base.specs.declared.limits.TheConstants.{MOST_BYTES}
use Rattle.relay_base.specs.declared.errors.ReadAllFault.{ReadAllFault}
use Rattle.relay_base.specs.declared.errors.ReadAllFault.TheVariants.{TooLong}
use Rattle.node_head.specs.Lines.{is_mark, lines}
use Rattle.capture_pieces.specs.declared.feed.Feed.{Feed}

-- since the source told the first of these, it gave octets that were read, and those of the feed behind them
pub record HasCome (first now : Option (List ℕ)) (feed : Feed) (taken : List ℕ) : Type 0 where
  pub octets : Consumes first now (taken ++ feed.text.items)
  pub count : feed.came ≡ length (taken ++ feed.text.items)
  pub end : feed.ended ≡ true → IsAtEnd now

-- and so it is after a call, but that too many octets may have come, or the call failed otherwise
abbrev pub Comes : {T : Type 0} → Option (List ℕ) → List ℕ → Option (List ℕ) → Feed → Result T ReadAllFault → Type 0
Comes first taken now feed (Ok x) = HasCome first now feed taken
Comes first taken now feed (Err TooLong) = TookMore first now MOST_BYTES
Comes first taken now feed (Err _) = Unit {0}

-- as many octets more are there as came
abbrev pub RiseAlike : Feed → Feed → Type 0
RiseAlike old new = new.came + length old.text.items ≡ old.came + length new.text.items

-- octets end with the end of a line, or there are none
abbrev pub EndsLine : List ℕ → Type 0
EndsLine octets = (length octets ≡ 0) ⊎ (slice_index octets (length octets - 1) ≡ 10)

-- so many octets are whole lines: all, where none comes any more
pub record IsWhole (feed : Feed) (count : ℕ) : Type 0 where
  pub within : count ≤ length feed.text.items
  pub all : feed.ended ≡ true → count ≡ length feed.text.items
  pub ends : feed.ended ≡ false → EndsLine (take count feed.text.items)

-- the mark of a head stands among them, or none comes any more
abbrev pub HasMark : Feed → ℕ → Type 0
HasMark feed count = (feed.ended ≡ true) ⊎ (list_any is_mark (lines (take count feed.text.items)) ≡ true)

-- all came, and this stands behind what was read before
abbrev pub PassedOver : {T : Type 0} → Option (List ℕ) → List ℕ → Feed → Option (List ℕ) → Result T ReadAllFault → Type 0
PassedOver first taken feed now (Ok x) =
    (rest : List ℕ) × Consumes first now (taken ++ (feed.text.items ++ rest)) × IsAtEnd now
    × (length (taken ++ (feed.text.items ++ rest)) ≤ MOST_BYTES) × (feed.ended ≡ true → length rest ≡ 0)
PassedOver first taken feed now (Err TooLong) = TookMore first now MOST_BYTES
PassedOver first taken feed now (Err _) = Unit {0}
