-- What a line says, whatever stands above it.
use Rattle.std.specs.Prelude.{◌≡◌, ℕ, nat_lt, codes, Bool, true, false, List, length, map, Option, Some, None, if◌then◌else◌}
use Rattle.node_head.specs.declared.head.Head.{Head}
use Rattle.capture_form.specs.Text.{words}
use Rattle.capture_form.specs.Line.{meaning_of}
use Rattle.capture_form.specs.Groups.{is_edit, is_commit}
use Rattle.capture_form.specs.Capture.{begins, barrier_form}
use Rattle.capture_form.specs.declared.changes.OpenGroup.{OpenGroup}
use Rattle.capture_form.specs.declared.groups.Standing.{Standing}
use Rattle.capture_form.specs.declared.groups.Standing.TheVariants.{Edit, Commit, Other}
use Rattle.capture_form.specs.declared.groups.TheConstants.{MOST_CHANGES}
use Rattle.capture_form.specs.declared.line_read.EventRead.{EventRead}
use Rattle.capture_form.specs.declared.line_read.LineRead.{LineRead}
use Rattle.capture_form.specs.declared.line_read.Saying.{Saying}
use Rattle.capture_form.specs.declared.line_read.Saying.TheVariants.{Barrier, Event}
use Rattle.capture_form.specs.declared.part.PartRead.{PartRead}
use Rattle.capture_form.specs.Inner.Stated.{Stated, numbered}

-- how a line may stand among groups, by its words
abbrev pub standing_of : List (List ℕ) → Standing
standing_of ws = if is_commit ws then Commit else if is_edit ws then Edit else Other

-- whether a line that may stand so may stand where this group is open
abbrev pub may_stand_as : Option OpenGroup → Standing → Bool
may_stand_as None Commit = false
may_stand_as None Edit = true
may_stand_as None Other = true
may_stand_as (Some group) Commit = true
may_stand_as (Some group) Edit = nat_lt (length group.changes) MOST_CHANGES
may_stand_as (Some group) Other = false

-- an event line
abbrev pub event_read : Head → List (List ℕ) → EventRead
event_read head ws = record { standing = standing_of ws; is_tick = begins (codes "t") ws; meaning = meaning_of head ws }

-- the words of a line
abbrev pub words_read : Head → List (List ℕ) → Saying
words_read head ws = if begins (codes "w") ws then Barrier (standing_of ws) (barrier_form ws) else Event (event_read head ws)

-- a line
abbrev pub line_read : Head → Stated → LineRead
line_read head line = record { number = line.0; saying = words_read head (words line.1) }

-- this is what the lines of a part say, of which the first has number 0, and how many lines it has
pub record IsOfPart (head : Head) (ls : List (List ℕ)) (part : PartRead) : Type 0 where
  pub reads : part.reads.items ≡ map (line_read head) (numbered 0 ls)
  pub lines : part.lines ≡ length ls
