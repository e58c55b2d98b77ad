-- Which of the connections of a lane a tick wakes.
use Rattle.std.specs.Prelude.{◌≡◌, ◌==◌, ℕ, ◌+◌, ◌<◌, ◌≤◌, true, false, Bool, List, [], ◌∷◌, length, get_or, Option, None, IfSome}
use Rattle.std.specs.List.{list_any}
use Rattle.connection_law.specs.TimerLaw.{IsQuiet}
use Rattle.section_coupling.specs.Duos.{DuoState, duo_at}
use Rattle.conn_journal.specs.declared.change.Next.{Next}
use Rattle.conn_journal.specs.declared.change.Change.{Change}
use Rattle.conn_journal.specs.declared.change.Change.TheVariants.{Nothing, Heard, Opened, Ticked}
use Rattle.conn_journal.specs.Inner.Ticking.{TickedAt}

abbrev pub is_in : ℕ → List ℕ → Bool
is_in number numbers = list_any (λ n. n == number) numbers

-- connections by rising number from this one on, of so many
abbrev pub AreRising : ℕ → ℕ → List ℕ → Type 0
AreRising count from [] = Unit {0}
AreRising count from (n ∷ numbers) = (from ≤ n) × (n < count) × AreRising count (n + 1) numbers

-- where no timer of a connection fires, the tick only brings its timers nearer
abbrev pub AreQuiet : ℕ → List (Option DuoState) → Type 0
AreQuiet taken kept = (number : ℕ) → IfSome (get_or kept number None) (λ d. IsQuiet d.ticks (duo_at taken d))

-- connections by rising number; and for all others from this number on the tick only brings timers nearer
pub record WakesAll (now : ℕ) (kept : List (Option DuoState)) (from : ℕ) (numbers : List ℕ) : Type 0 where
  pub rising : AreRising (length kept) from numbers
  pub asleep : (number : ℕ) → from ≤ number → number < length kept → is_in number numbers ≡ false → TickedAt now (get_or kept number None) None

abbrev pub is_next : ℕ → List Next → Bool
is_next number nexts = list_any (λ n. n.number == number) nexts

-- those that a tick wakes are among those that it changes
abbrev pub IsWoken : ℕ → Option DuoState → List Next → Type 0
IsWoken number one nexts = IfSome one (λ d. is_next number nexts ≡ true)

abbrev pub AllWoken : (ℕ → Bool) → List (Option DuoState) → List Next → Type 0
AllWoken wakes kept nexts = (number : ℕ) → wakes number ≡ true → IsWoken number (get_or kept number None) nexts

abbrev pub WakesDue : (ℕ → Bool) → List (Option DuoState) → Change → Type 0
WakesDue wakes kept (Ticked nexts) = AllWoken wakes kept nexts.items
WakesDue wakes kept _ = Unit {0}

-- how many connections a change opens, or puts as they are next
abbrev pub count_of : Change → ℕ
count_of Nothing = 0
count_of (Heard next) = 1
count_of (Opened new) = 1
count_of (Ticked nexts) = length nexts.items
