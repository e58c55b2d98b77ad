-- How far a capture is read whose octets are still coming.
use Rattle.std.specs.Prelude.{◌≡◌, ◌≢◌, ℕ, ◌+◌, ◌≤◌, true, false, List, [], ◌++◌, length, Option, Ok, Err}
use Rattle.std.specs.List.{AllByRecursion}
use Rattle.std.specs.declared.result.Result.{Result}
use Rattle.std.specs.Io.KnownBytes.{Consumes, IsAtEnd}
use Rattle.relay_base.specs.Causes.{Rose}
use Rattle.relay_base.specs.Giving.{◌>>=◌, GivesOrMemory, RefusesOrMemory}
use Rattle.relay_base.specs.Streams.{TookMore}
use Rattle.relay_base.specs.declared.limits.TheConstants.{MOST_BYTES}
use Rattle.relay_base.specs.declared.errors.ReadAllFault.TheVariants.{TooLong, Fault}
use Rattle.node_head.specs.declared.head.Head.{Head}
use Rattle.capture_form.specs.Capture.{capture_within, fault_in}
use Rattle.capture_form.specs.Inner.Progress.{IsOfHead, capture_begun, octets_read}
use Rattle.capture_form.specs.declared.fault.CaptureFault.{CaptureFault}
use Rattle.capture_form.specs.declared.capture.Capture.{Capture}
use Rattle.capture_form.specs.declared.progress.Progress.{Progress}
use Rattle.capture_pieces.specs.Inner.Blocks.{Block, IsBlock, SayOctets, lines_in}
use Rattle.capture_pieces.specs.Inner.Feeds.{EndsLine, HasCome}
use Rattle.capture_pieces.specs.declared.fault.PieceFault.{PieceFault}
use Rattle.capture_pieces.specs.declared.fault.PieceFault.TheVariants as fault
use Rattle.capture_pieces.specs.declared.feed.Feed.{Feed}

-- these octets may come behind those of the feed
abbrev pub MayCome : Feed → List ℕ → Type 0
MayCome feed future = feed.ended ≡ true → future ≡ []

-- a capture's octets are read as far as their lines go, and others behind them like this, up to where none comes any more
pub record IsReadBeside (first now : Option (List ℕ)) (head : Head) (feed : Feed) (p : Progress) (pending : List ℕ) : Type 0 where
  pub taken : List ℕ
  pub came : HasCome first now feed taken
  pub ends : feed.ended ≡ false → EndsLine pending
  pub goes : feed.ended ≡ false → (rest : List ℕ) → capture_begun (taken ++ rest) ≡ (octets_read head p (pending ++ rest) >>= (λ q. Ok (head, q)))
  pub all : feed.ended ≡ true → feed.text.items ≡ []
  pub stops : feed.ended ≡ true → capture_begun taken ≡ (octets_read head p pending >>= (λ q. Ok (head, q)))

-- none of them waits
abbrev pub IsReadTo : Option (List ℕ) → Option (List ℕ) → Head → Feed → Progress → Type 0
IsReadTo first now head feed p = IsReadBeside first now head feed p []

-- lines were read, and blocks say what those that wait say
pub record IsReadOn (first now : Option (List ℕ)) (head : Head) (feed : Feed) (p : Progress) (blocks : List Block) : Type 0 where
  pub pending : List ℕ
  pub says : SayOctets head pending blocks
  pub read : IsReadBeside first now head feed p pending

-- the number of the line to come is no greater than one more than the count of octets before it
abbrev pub IsSmall : Feed → Progress → Type 0
IsSmall feed p = p.number + length feed.text.items ≤ feed.came + 1

-- and so is that of the line behind those that wait, which blocks say
pub record IsWaiting (head : Head) (feed : Feed) (p : Progress) (waiting : List Block) : Type 0 where
  pub links : IsOfHead head p
  pub blocks : AllByRecursion (IsBlock head) waiting
  pub small : p.number + lines_in waiting + length feed.text.items ≤ feed.came + 1

-- what was taken of blocks is given beside what else is given, unless memory ran out
abbrev pub StepReads : {A : Type 0} → Result (Progress × A) CaptureFault → Result Progress CaptureFault → Type 0
StepReads result given = GivesOrMemory (λ (t : Progress × _). t.0) fault_in result given

-- all octets came, and were read
pub record IsReadWhole (first now : Option (List ℕ)) (head : Head) (feed : Feed) (p : Progress) : Type 0 where
  pub all : List ℕ
  pub came : HasCome first now feed all
  pub ended : feed.ended ≡ true
  pub none : feed.text.items ≡ []
  pub read : capture_begun all ≡ Ok (head, p)

-- all octets came, and are this capture
pub record IsWholeCapture (first now : Option (List ℕ)) (capture : Capture) : Type 0 where
  pub all : List ℕ
  pub came : Consumes first now all
  pub end : IsAtEnd now
  pub few : length all ≤ MOST_BYTES
  pub read : capture_within all ≡ Ok capture

-- what came is refused, whatever comes behind it
pub record IsFaulty (first now : Option (List ℕ)) (feed : Feed) (fault : Option CaptureFault) : Type 0 where
  pub taken : List ℕ
  pub came : HasCome first now feed taken
  pub refused : (future : List ℕ) → MayCome feed future → RefusesOrMemory fault (capture_within (taken ++ (feed.text.items ++ future)))

-- why a capture isn't read on
abbrev pub Stops : Option (List ℕ) → Option (List ℕ) → Feed → PieceFault → Type 0
Stops first now feed (fault.Capture f) = IsFaulty first now feed (fault_in f)
Stops first now feed (fault.Read TooLong) = TookMore first now MOST_BYTES
Stops first now feed (fault.Read _) = Unit {0}

-- the source failed only where its count of failures rose
pub record FailsBy {T : Type 0} (before now : ℕ) (result : Result T PieceFault) : Type 0 where
  pub rose : result ≡ Err (fault.Read Fault) → Rose before now
  pub kept : result ≢ Err (fault.Read Fault) → now ≡ before
