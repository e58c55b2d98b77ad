-- Laws of the definitions.
use Rattle.std.specs.Prelude.{◌≡◌, ℕ, ◌≤◌, true, false, List, length, if◌then◌else◌, None}
use Rattle.reassembly.specs.Segments.{Key, key_of, same_key}
use Rattle.reassembly.specs.Reassembly.{IsOnePerKey, live, has_no_room, reassembly_after, reassembly_after_tick, takes, after_tick}
use Rattle.reassembly.specs.declared.piece.Piece.{Piece}
use Rattle.reassembly.specs.declared.piece.Now.TheVariants.{NoRoom}
use Rattle.reassembly.specs.declared.process.Process.{Process}
use Rattle.reassembly.specs.declared.processes.TheConstants.{MOST_REASSEMBLIES}

-- The process of a key hears the segments of its key, unless there is no room, and the ticks; and nothing else.
pub record HearsItsKeyAlone : Type 0 where
  pub of_segment : (ticks : ℕ) (processes : List Process) (piece : Piece) (key : Key) → has_no_room piece processes ≡ false → live key (takes ticks processes piece).0 ≡ (if same_key key (key_of piece) then (reassembly_after ticks (live key processes) piece).process else live key processes)
  pub answer : (ticks : ℕ) (processes : List Process) (piece : Piece) → has_no_room piece processes ≡ false → (takes ticks processes piece).1 ≡ (reassembly_after ticks (live (key_of piece) processes) piece).taken
  pub without_room : (ticks : ℕ) (processes : List Process) (piece : Piece) → has_no_room piece processes ≡ true → takes ticks processes piece ≡ (processes, record { failed = None; now = NoRoom piece })
  pub of_tick : (processes : List Process) (key : Key) → IsOnePerKey processes → live key (after_tick processes) ≡ reassembly_after_tick (live key processes)

-- There is at most one process a key, and there are no more than the most.
pub record IsWithinBounds (processes : List Process) : Type 0 where
  pub one_per_key : IsOnePerKey processes
  pub few : length processes ≤ MOST_REASSEMBLIES

-- So it stays.
pub record StaysWithinBounds : Type 0 where
  pub after_segment : (ticks : ℕ) (processes : List Process) (piece : Piece) → IsWithinBounds processes → IsWithinBounds (takes ticks processes piece).0
  pub after_tick : (processes : List Process) → IsWithinBounds processes → IsWithinBounds (after_tick processes)
