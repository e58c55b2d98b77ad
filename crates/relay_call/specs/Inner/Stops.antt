-- What stands where a run stops.
use Rattle.std.specs.Prelude.{◌≡◌, ◌≢◌, ◌⊎◌, ℕ, List, Option, Some, None, Err}
use Rattle.std.specs.declared.result.Result.{Result}
use Rattle.std.specs.Io.KnownBytes.{Keeps}
use Rattle.relay_base.specs.Causes.{Rose}
use Rattle.capture_input.specs.declared.reading.AuditInput.{AuditInput}
use Rattle.journal_text.specs.declared.book.Book.{Book}
use Rattle.command_words.specs.declared.command.Command.{Command}
use Rattle.capture_input.specs.declared.input.Form.{Form}
use Rattle.capture_input.specs.declared.input.Input.{Input}
use Rattle.capture_input.specs.declared.stop.Stop.{Stop}
use Rattle.capture_input.specs.declared.stop.Stop.TheVariants as stop
use Rattle.capture_input.specs.Input.{Bytes, ReadTooMuch}
use Rattle.capture_input.specs.Stops.{NotedAs}
use Rattle.relay_call.specs.Outcome.{form_read, IsJudgement, WroteAll, WroteSome, Untouched, Filled, IsDone, IsDonePartly}

-- how often a device had failed, before and after a call, rose where it stopped for this reason, and else it is the same
abbrev pub RoseFor : {T : Type 0} → Stop → Result T Stop → ℕ → ℕ → Type 0
RoseFor reason result before after = (result ≡ Err reason → Rose before after) × (result ≢ Err reason → after ≡ before)

-- the text of a journal was judged, and this is said of the line of what was found and of the status with which that ends
abbrev pub Judged : (ℕ → List ℕ → Type 0) → AuditInput → Type 0
Judged Written audited = (status : ℕ) × (text : List ℕ) × IsJudgement audited status text × Written status text

-- what stands where judging it stopped
abbrev pub StoppedJudging : Bytes → AuditInput → Stop → Type 0
StoppedJudging written audited stop.Memory = Keeps written.before written.after ⊎ Judged (WroteSome written) audited
StoppedJudging written audited stop.WriteFault = Judged (WroteSome written) audited
StoppedJudging written audited stop.Illegal = Judged (WroteAll written 9) audited
StoppedJudging written audited _ = ⊥

-- what stands where a command stopped once its input was known
abbrev pub StoppedLate : Command → Bytes → Input → Book → Stop → Type 0
StoppedLate command written given book stop.Memory = Untouched written book ⊎ Filled (WroteSome written) command given book
StoppedLate command written given book stop.WriteFault = Filled (WroteSome written) command given book
StoppedLate command written given book stop.Illegal = Filled (WroteAll written 9) command given book
StoppedLate command written given book _ = ⊥

-- why a command has no input: it is refused, or can't be read, or memory ran out
abbrev pub LacksInput : Option Command → Bytes → Stop → Type 0
LacksInput stated read (stop.Refused fault note) = (form : Form) × (form_read stated ≡ Some form) × NotedAs form read fault note
LacksInput stated read stop.Bytes = (form : Form) × (form_read stated ≡ Some form) × ReadTooMuch read
LacksInput stated read stop.ReadFault = (form : Form) × (form_read stated ≡ Some form)
LacksInput stated read stop.Memory = Unit {0}
LacksInput stated read _ = ⊥

-- what stands where the command stopped that words state
abbrev pub Stopped : Option Command → Bytes → Bytes → Book → Stop → Type 0
Stopped stated read written book stop.Usage = (stated ≡ None) × Untouched written book
Stopped stated read written book stop.WriteFault = IsDonePartly stated read written book
Stopped stated read written book stop.Memory = Untouched written book ⊎ IsDonePartly stated read written book
Stopped stated read written book stop.Illegal = IsDone stated read written book 9
Stopped stated read written book (stop.Refused fault note) = LacksInput stated read (stop.Refused fault note) × Untouched written book
Stopped stated read written book stop.Bytes = LacksInput stated read stop.Bytes × Untouched written book
Stopped stated read written book stop.ReadFault = LacksInput stated read stop.ReadFault × Untouched written book
