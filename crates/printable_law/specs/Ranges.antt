-- The ranges of the numbers and of the octets in what lanes take and give: points of 14 bits, link selections of 4, references of 24 (Q.713, 3).
use Rattle.std.specs.Prelude.{ℕ, ◌<◌, List, Option, IfSome}
use Rattle.std.specs.List.{AllByRecursion}
use Rattle.relay_base.specs.declared.limits.TheConstants.{LINK_SELECTIONS, POINT_CODES, REFERENCES}
use Rattle.relay_base.specs.declared.words.Event.{Event}
use Rattle.relay_base.specs.declared.words.Event.TheVariants as event
use Rattle.relay_base.specs.declared.words.Request.{Request}
use Rattle.relay_base.specs.declared.words.Request.TheVariants as request
use Rattle.relay_base.specs.declared.words.Tell.{Tell}
use Rattle.relay_base.specs.declared.words.Tell.TheVariants as tell
use Rattle.relay_base.specs.declared.words.Lost.{Lost}
use Rattle.relay_base.specs.declared.words.Lost.TheVariants as lost
use Rattle.relay_base.specs.declared.words.Output.{Output}
use Rattle.relay_base.specs.declared.words.Output.TheVariants as output
use Rattle.gtt_table.specs.declared.row.Entity.{Entity}
use Rattle.gtt_table.specs.declared.row.Row.{Row}
use Rattle.plant_core.specs.Asking.{Question, answer_in, answer_to}
use Rattle.plant_core.specs.Plant.{RoutingData}
use Rattle.plant_core.specs.Changes.{plant_after}
use Rattle.plant_core.specs.declared.answer.Answer.{Answer}
use Rattle.plant_core.specs.declared.answer.Answer.TheVariants.{Local, Forward, Refused}
use Rattle.plant_core.specs.declared.change.Change.{Change}
use Rattle.plant_core.specs.declared.change.Change.TheVariants.{AddRow, DelRow, BarPoint, FreePoint, BarSub, FreeSub, LocalUp, LocalDown}
use Rattle.plant_core.specs.declared.change.Group.{Group}
use Rattle.plant_core.specs.declared.entry.ControlEvent.{ControlEvent}
use Rattle.plant_core.specs.declared.entry.ControlEvent.TheVariants.{Plain, Change as Changed}
use Rattle.plant_core.specs.declared.entry.Entry.{Entry}
use Rattle.plant_core.specs.declared.terms.LaneHead.{LaneHead}
use Rattle.scmg_messages.specs.Messages.{sent, status_outputs, data_in, notice_in}
use Rattle.scmg_messages.specs.declared.message.Format.{Format}
use Rattle.scmg_messages.specs.declared.message.Notice.{Notice}
use Rattle.printable_law.specs.OctetLaw.{IsOctet, AreOctets, IsSmallFault, IsForm, IsRewrite}

abbrev pub IsPoint : ℕ → Type 0
IsPoint n = n < POINT_CODES

abbrev pub IsSelection : ℕ → Type 0
IsSelection n = n < LINK_SELECTIONS

abbrev pub IsReference : ℕ → Type 0
IsReference n = n < REFERENCES

-- the tag of a request for a connection has two octets
abbrev pub IsTag : ℕ → Type 0
IsTag n = n < 65_536

-- ---- what lanes take

abbrev pub RequestInRange : Request → Type 0
RequestInRange (request.Unit sls class ret called calling body) = IsSelection sls × IsOctet class × AreOctets called × IfSome calling AreOctets × AreOctets body
RequestInRange (request.Conn tag class credit called body) = IsTag tag × IsOctet class × IsOctet credit × AreOctets called × AreOctets body
RequestInRange (request.Accept mine class credit body) = IsReference mine × IsOctet class × IsOctet credit × AreOctets body
RequestInRange (request.Refuse mine cause body) = IsReference mine × IsOctet cause × AreOctets body
RequestInRange (request.Send mine body) = IsReference mine × AreOctets body
RequestInRange (request.Expedite mine body) = IsReference mine × AreOctets body
RequestInRange (request.Reset mine) = IsReference mine
RequestInRange (request.Disc mine cause body) = IsReference mine × IsOctet cause × AreOctets body
RequestInRange request.Coord = Unit {0}
RequestInRange (request.Grant point) = IsPoint point

abbrev pub EventInRange : Event → Type 0
EventInRange (event.Message opc sls bytes) = IsPoint opc × IsSelection sls × AreOctets bytes
EventInRange (event.Asked ssn r) = IsOctet ssn × RequestInRange r
EventInRange event.Tick = Unit {0}

-- where a translation leads, and what an operator or a message changes

abbrev pub EntityInRange : Entity → Type 0
EntityInRange e = IsPoint e.point × IfSome e.ssn IsOctet

abbrev pub RowInRange : Row → Type 0
RowInRange row = EntityInRange row.first × IfSome row.second EntityInRange

abbrev pub ChangeInRange : Change → Type 0
ChangeInRange (AddRow row) = RowInRange row
ChangeInRange (DelRow selector prefix) = Unit {0}
ChangeInRange (BarPoint point) = IsPoint point
ChangeInRange (FreePoint point) = IsPoint point
ChangeInRange (BarSub point ssn) = IsPoint point × IsOctet ssn
ChangeInRange (FreeSub point ssn) = IsPoint point × IsOctet ssn
ChangeInRange (LocalUp ssn) = IsOctet ssn
ChangeInRange (LocalDown ssn) = IsOctet ssn

abbrev pub GroupInRange : Group → Type 0
GroupInRange group = AllByRecursion ChangeInRange group.changes

abbrev pub ControlEventInRange : ControlEvent → Type 0
ControlEventInRange (Plain e) = EventInRange e
ControlEventInRange (Changed group) = GroupInRange group

-- ---- what routing is asked, and answers

abbrev pub QuestionInRange : Question → Type 0
QuestionInRange q = IsForm q.called × IfSome q.hop IsOctet

abbrev pub AnswerInRange : Answer → Type 0
AnswerInRange (Local ssn) = IsOctet ssn
AnswerInRange (Forward point rewrite hop) = IsPoint point × IsRewrite rewrite × IfSome hop IsOctet
AnswerInRange (Refused cause local) = IfSome local IsOctet

pub record RoutingInRange (p : RoutingData) : Type 0 where
  pub own : IsPoint p.own
  pub rows : AllByRecursion RowInRange p.rows

-- an entry of a connection lane or of a data lane has an event and an answer in their ranges
abbrev pub EntryInRange : Entry → Type 0
EntryInRange entry = EventInRange entry.event × IfSome (answer_in entry.asked) AnswerInRange

-- ---- what lanes give

abbrev pub TellInRange : Tell → Type 0
TellInRange (tell.Unit class called calling body) = IsOctet class × AreOctets called × AreOctets calling × AreOctets body
TellInRange (tell.Notice cause called calling body) = IsOctet cause × AreOctets called × AreOctets calling × AreOctets body
TellInRange (tell.Conn mine class credit called calling body) =
    IsReference mine × IsOctet class × IsOctet credit × AreOctets called × IfSome calling AreOctets × IfSome body AreOctets
TellInRange (tell.Named tag mine) = IsTag tag × IsReference mine
TellInRange (tell.NotMade tag cause) = IsTag tag × IsOctet cause
TellInRange (tell.Confirm mine class credit called body) =
    IsReference mine × IsOctet class × IsOctet credit × IfSome called AreOctets × IfSome body AreOctets
TellInRange (tell.Text mine body) = IsReference mine × AreOctets body
TellInRange (tell.Expedited mine body) = IsReference mine × AreOctets body
TellInRange (tell.Renewed mine cause) = IsReference mine × IsOctet cause
TellInRange (tell.ResetDone mine) = IsReference mine
TellInRange (tell.Disc mine cause body) = IsReference mine × IsOctet cause × IfSome body AreOctets
TellInRange (tell.State ssn point up) = IsOctet ssn × IsPoint point
TellInRange (tell.Point point up) = IsPoint point
TellInRange (tell.Coord point) = IsPoint point
TellInRange (tell.Granted point) = IsPoint point
TellInRange (tell.Denied point) = IsPoint point
TellInRange (tell.No reason) = Unit {0}

abbrev pub LostInRange : Lost → Type 0
LostInRange (lost.Read fault) = IsSmallFault fault
LostInRange (lost.Cause cause) = IsOctet cause
LostInRange _ = Unit {0}

abbrev pub OutputInRange : Output → Type 0
OutputInRange (output.Sent point sls bytes) = IsPoint point × IsSelection sls × AreOctets bytes
OutputInRange (output.Told ssn t) = IsOctet ssn × TellInRange t
OutputInRange (output.Lost l) = LostInRange l

abbrev pub OutputsInRange : List Output → Type 0
OutputsInRange outs = AllByRecursion OutputInRange outs

-- ---- routing keeps to the ranges

pub record RoutingKeepsRanges : Type 0 where
  pub answers : (p : RoutingData) (q : Question) → RoutingInRange p → QuestionInRange q → AnswerInRange (answer_to p q)
  pub changes : (p : RoutingData) (group : Group) → RoutingInRange p → GroupInRange group → RoutingInRange (plant_after p group)

-- ---- management

abbrev pub NoticeInRange : Notice → Type 0
NoticeInRange n = IsOctet n.ssn × IsPoint n.point

pub record ManagementKeepsRanges : Type 0 where
  pub sent : (to : ℕ) (format : Format) (ssn point : ℕ) → IsPoint to → IsOctet ssn → IsPoint point → OutputInRange (sent to format ssn point)
  pub told : (own opc sls : ℕ) (local : Option ℕ) → IsPoint own → IsPoint opc → IsSelection sls → IfSome local IsOctet
      → OutputsInRange (status_outputs own opc sls local)
  pub heard : (octets : List ℕ) → AreOctets octets → IfSome (data_in octets) AreOctets
  pub noticed : (octets : List ℕ) → AreOctets octets → IfSome (notice_in octets) NoticeInRange

-- ---- lanes

-- what a connection lane or a data lane is told at its start: the own point, and the greatest credit
pub record LaneHeadInRange (head : LaneHead) : Type 0 where
  pub own : IsPoint head.terms.own
  pub credit : IsOctet head.terms.credit
