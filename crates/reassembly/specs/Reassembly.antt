-- Reassembly (Q.714, 4.1.1): one process puts the segments of one key together, and hears these segments and the ticks alone.
use Rattle.std.specs.Prelude.{ℕ, ◌+◌, ◌-◌, ◌==◌, ◌≤◌, ◌&&◌, nat_le, not, Bool, List, [], ◌∷◌, ◌++◌, length, map, filter, find, count_by, if◌then◌else◌, Option, Some, None}
use Rattle.std.specs.Option.{option_map}
use Rattle.reassembly.specs.Segments.{Key, key_of, same_key, is_first, remaining}
use Rattle.reassembly.specs.declared.piece.Piece.{Piece}
use Rattle.reassembly.specs.declared.piece.Now.TheVariants.{Waiting, Whole, NoRoom, Orphan, Broken}
use Rattle.reassembly.specs.declared.piece.Taken.{Taken}
use Rattle.reassembly.specs.declared.process.Process.{Process}
use Rattle.reassembly.specs.declared.processes.TheConstants.{MOST_REASSEMBLIES}

-- a first segment begins a process, with all its ticks
abbrev pub process_begun : ℕ → Piece → Process
process_begun ticks piece = record { first = piece; body = piece.body; left = remaining piece; ticks = ticks }

-- a later segment is put in; the timer runs on
abbrev pub extended : Process → Piece → Process
extended process piece = record process { body = process.body ++ piece.body; left = remaining piece }

-- the first segment, with all that was put together
abbrev pub whole_of : Process → Piece
whole_of process = record process.first { body = process.body }

-- What a segment leaves of the process of its key, and the answer to it.
pub record After : Type 0 where
  pub process : Option Process
  pub taken : Taken

-- a first segment: a process of its key fails, and the segment is taken as if there had been none
abbrev pub after_first : ℕ → Option Process → Piece → After
after_first ticks process piece =
    let failed = option_map (λ x. x.first) process in
    if remaining piece == 0 then record { process = None; taken = record { failed = failed; now = Whole piece } }
    else record { process = Some (process_begun ticks piece); taken = record { failed = failed; now = Waiting } }

-- a later segment: its remaining count is one less than the last one, or the process fails
abbrev pub after_later : Option Process → Piece → After
after_later None piece = record { process = None; taken = record { failed = None; now = Orphan } }
after_later (Some x) piece =
    if not (remaining piece + 1 == x.left) then record { process = None; taken = record { failed = Some x.first; now = Broken } }
    else if remaining piece == 0 then record { process = None; taken = record { failed = None; now = Whole (whole_of (extended x piece)) } }
    else record { process = Some (extended x piece); taken = record { failed = None; now = Waiting } }

unfoldable pub reassembly_after : ℕ → Option Process → Piece → After
reassembly_after ticks process piece = if is_first piece then after_first ticks process piece else after_later process piece

-- a tick lowers the timer, and the process fails where that brings it to 0
abbrev pub is_due : Process → Bool
is_due process = nat_le process.ticks 1

abbrev pub aged : Process → Process
aged process = record process { ticks = process.ticks - 1 }

unfoldable pub reassembly_after_tick : Option Process → Option Process
reassembly_after_tick None = None
reassembly_after_tick (Some x) = if is_due x then None else Some (aged x)

-- Many processes, in the order in which they began: the one of a key, and that there is no second one.
abbrev pub is_of : Key → Process → Bool
is_of key process = same_key key (key_of process.first)

abbrev pub IsOnePerKey : List Process → Type 0
IsOnePerKey processes = (key : Key) → length (filter (is_of key) processes) ≤ 1

-- the process of a key
abbrev pub live : Key → List Process → Option Process
live key processes = find (is_of key) processes

-- the processes of the other keys
abbrev pub others : Key → List Process → List Process
others key processes = filter (λ x. not (is_of key x)) processes

-- what becomes of them where the process of this segment's key becomes this one: one that begins stands last, one that goes on keeps its place
abbrev pub replaced : Piece → Option Process → List Process → List Process
replaced piece None processes = others (key_of piece) processes
replaced piece (Some x) processes =
    if is_first piece then others (key_of piece) processes ++ x ∷ []
    else map (λ y. if is_of (key_of piece) y then x else y) processes

-- a first segment that isn't alone, while the most other keys have a process
abbrev pub has_no_room : Piece → List Process → Bool
has_no_room piece processes =
    is_first piece && (not (remaining piece == 0) && nat_le MOST_REASSEMBLIES (count_by (λ x. not (is_of (key_of piece) x)) processes))

abbrev pub goes_in : Piece → After → List Process → List Process × Taken
goes_in piece after processes = (replaced piece after.process processes, after.taken)

-- what a segment leaves, and the answer to it
unfoldable pub takes : ℕ → List Process → Piece → List Process × Taken
takes ticks processes piece =
    if has_no_room piece processes then (processes, record { failed = None; now = NoRoom piece })
    else goes_in piece (reassembly_after ticks (live (key_of piece) processes) piece) processes

-- the first segments of the processes that a tick ends, in the order in which these began
abbrev pub ended_by_tick : List Process → List Piece
ended_by_tick processes = map (λ x. x.first) (filter is_due processes)

-- the processes that go on after a tick
abbrev pub after_tick : List Process → List Process
after_tick processes = map aged (filter (λ x. not (is_due x)) processes)

-- The processes under way, and the ticks that a new one has.
pub record Reassemblies : Type 0 where
  pub ticks : ℕ
  pub processes : List Process
