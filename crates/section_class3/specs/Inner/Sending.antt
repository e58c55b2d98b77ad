-- What leaves a section after an event.
use Rattle.std.specs.Prelude.{ℕ, ◌+◌, ◌*◌, ◌==◌, List, [], ◌∷◌, take, drop, if◌then◌else◌, Option, Some, None}
use Rattle.q713_codec.specs.declared.message.Message.TheVariants.{Dt2, Ed, It}
use Rattle.relay_base.specs.declared.words.Output.{Output}
use Rattle.section_flow.specs.declared.unit.Unit.{Unit as DataUnit}
use Rattle.section_model.specs.Ends.{SectionHead}
use Rattle.section_flow.specs.Windows.{Windows, may_leave}
use Rattle.section_model.specs.Line.{sent_on}
use Rattle.section_model.specs.Windowed.{numbered}
use Rattle.section_flow.specs.Flow.{FlowState, windows_of}

-- DT2 with a unit of data, P(S) and P(R), and IT with P(S) and P(R)
abbrev pub numbered_output : SectionHead → ℕ → ℕ → DataUnit → Output
numbered_output x ps pr u = sent_on x (Dt2 x.other (2 * ps ∷ (2 * pr + (if u.more then 1 else 0)) ∷ []) u.body)

abbrev pub test_output : SectionHead → ℕ → ℕ → Output
test_output x ps pr = sent_on x (It x.other x.mine x.class (2 * ps ∷ 2 * pr ∷ []) x.credit)

-- the flow control when all units that may leave were sent, but for its room
abbrev pub all_sent : FlowState → FlowState
all_sent f = let count = may_leave (windows_of f) in record f {
  waits = drop count f.waits;
  counts = record f.counts { sent = f.counts.sent + count; told = (if count == 0 then f.counts.told else f.counts.passed) };
  room = 0;
}

-- the units that may leave, as DT2
abbrev pub units_output : SectionHead → FlowState → List Output
units_output x f = numbered x f.counts.sent f.counts.passed (take (may_leave (windows_of f)) f.waits)

-- the expedited data that may leave
abbrev pub ready_expedited : Windows → Option (List ℕ)
ready_expedited w = if w.unanswered then None else w.waiting

abbrev pub expedited_output : SectionHead → Option (List ℕ) → List Output
expedited_output x None = []
expedited_output x (Some body) = sent_on x (Ed x.other body) ∷ []
