-- How far a capture is read, from the end of one line to that of another.
use Rattle.std.specs.Prelude.{◌≡◌, ℕ, ◌+◌, ◌<◌, ◌^◌, List, length, Ok}
use Rattle.std.specs.declared.result.Result.{Result}
use Rattle.relay_base.specs.Giving.{◌>>=◌, GivesOrMemory}
use Rattle.node_head.specs.Lines.{lines, halves}
use Rattle.node_head.specs.Head.{begun}
use Rattle.node_head.specs.declared.head.Head.{Head}
use Rattle.capture_form.specs.Capture.{fault_in, at_head}
use Rattle.capture_form.specs.declared.fault.CaptureFault.{CaptureFault}
use Rattle.capture_form.specs.declared.capture.Capture.{Capture}
use Rattle.capture_form.specs.declared.line_read.LineRead.{LineRead}
use Rattle.capture_form.specs.declared.progress.Progress.{Progress}
use Rattle.capture_form.specs.Inner.Stated.{numbered}
use Rattle.capture_form.specs.Inner.Reader.{lines_taken, nothing_read, phases_closed}

-- the call left how far is read by then, unless memory ran out
abbrev pub TakesPart : {U : Type 0} → Progress → Result U CaptureFault → Result Progress CaptureFault → Type 0
TakesPart left result given = GivesOrMemory (λ _. left) fault_in result given

-- there is a list for each link of the head
abbrev pub IsOfHead : Head → Progress → Type 0
IsOfHead head p = length p.read.current ≡ head.links + 1

-- a line's number, counted from this one on, is a small one
abbrev pub is_numbered : ℕ → LineRead → Type 0
is_numbered first line = first + line.number < 2 ^ 32

-- the lines that come next were read, or octets that are such lines
abbrev pub lines_read : Head → Progress → List (List ℕ) → Result Progress CaptureFault
lines_read head p ls = lines_taken head p.read (numbered p.number ls) >>= (λ r. Ok (record { read = r; number = p.number + length ls }))

abbrev pub octets_read : Head → Progress → List ℕ → Result Progress CaptureFault
octets_read head p octets = lines_read head p (lines octets)

-- before the first line behind a head
abbrev pub first_progress : Head → ℕ → Progress
first_progress head number = record { read = nothing_read head; number = number }

-- a head, of which so many lines stand before the mark, and the lines after it were read
abbrev pub begun_from : Head × ℕ × List (List ℕ) → Result (Head × Progress) CaptureFault
begun_from parts = lines_read parts.0 (first_progress parts.0 (parts.1 + 2)) parts.2 >>= (λ p. Ok (parts.0, p))

-- octets were read that begin with a head
abbrev pub capture_begun : List ℕ → Result (Head × Progress) CaptureFault
capture_begun octets = at_head (begun (halves (lines octets))) >>= begun_from

-- no line comes any more
abbrev pub capture_ended : Head → Progress → Result Capture CaptureFault
capture_ended head p = phases_closed p.read >>= (λ phases. Ok (record { head = head; phases = phases }))
