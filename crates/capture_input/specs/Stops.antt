-- Why a command stops, and the status and the note of each reason.
use Rattle.std.specs.Prelude.{◌≡◌, ℕ, codes, List, [], Option, Some, None, Err}
use Rattle.std.specs.declared.result.Result.{Result}
use Rattle.relay_base.specs.Giving.{GivesOrMemory}
use Rattle.relay_base.specs.declared.errors.ReadAllFault.{ReadAllFault}
use Rattle.relay_base.specs.declared.errors.ReadAllFault.TheVariants as read_fault
use Rattle.capture_form.specs.declared.fault.CaptureFault.TheVariants as refused
use Rattle.journal_text.specs.declared.writing.WriteFault.{WriteFault}
use Rattle.journal_text.specs.declared.writing.WriteFault.TheVariants as write_fault
use Rattle.m3ua_capture.specs.declared.fault.StreamFault.TheVariants as stream
use Rattle.capture_input.specs.declared.fault.InputFault.{InputFault}
use Rattle.capture_input.specs.declared.fault.InputFault.TheVariants as fault
use Rattle.capture_input.specs.declared.input.Form.{Form}
use Rattle.capture_input.specs.declared.stop.Stop.{Stop}
use Rattle.capture_input.specs.declared.stop.Stop.TheVariants as stop
use Rattle.capture_input.specs.Input.{Bytes, ReadAs, ReadTooMuch, input_note, refusal_status}

-- the fault that a refusal tells; none is want of memory
abbrev pub fault_in : InputFault → Option InputFault
fault_in (fault.Stream (stream.Capture refused.Memory)) = None
fault_in f = Some f

-- the call gave what the definition gives, unless memory ran out
abbrev pub Reads : {Y : Type 0} → Result Y InputFault → Result Y InputFault → Type 0
Reads result given = GivesOrMemory (λ x. x) fault_in result given

-- the stop for an output that was not written to its end
abbrev pub stop_of : WriteFault → Stop
stop_of write_fault.Sink = stop.WriteFault
stop_of write_fault.Memory = stop.Memory

-- the stop for bytes that were not taken
abbrev pub read_stop : ReadAllFault → Stop
read_stop read_fault.TooLong = stop.Bytes
read_stop read_fault.Fault = stop.ReadFault
read_stop read_fault.Memory = stop.Memory

-- the stop for a refusal, unless memory ran out
abbrev pub StopsFor : InputFault → Stop → Type 0
StopsFor f stop.Memory = Unit {0}
StopsFor f (stop.Refused found note) = (f ≡ found) × (note ≡ input_note found) × (fault_in found ≡ Some found)
StopsFor f _ = ⊥

-- a refusal of the input, with its note
abbrev pub NotedAs : Form → Bytes → InputFault → List ℕ → Type 0
NotedAs form read f note = ReadAs form read (λ parts. parts ≡ Err f) × (note ≡ input_note f)

-- why no input was taken
abbrev pub TakesNone : Form → Bytes → Stop → Type 0
TakesNone form read (stop.Refused f note) = NotedAs form read f note
TakesNone form read stop.Bytes = ReadTooMuch read
TakesNone form read stop.ReadFault = Unit {0}
TakesNone form read stop.Memory = Unit {0}
TakesNone form read _ = ⊥

-- what `notes` is told
abbrev pub note_of : Stop → List ℕ
note_of stop.Usage = codes "usage\n"
note_of (stop.Refused f note) = note
note_of stop.Bytes = codes "too long bytes\n"
note_of stop.ReadFault = codes "read fault\n"
note_of stop.WriteFault = codes "write fault\n"
note_of stop.Memory = codes "memory\n"
note_of stop.Illegal = []

abbrev pub status_of : Stop → ℕ
status_of stop.Usage = 1
status_of (stop.Refused f note) = refusal_status f
status_of stop.Bytes = 4
status_of stop.ReadFault = 5
status_of stop.WriteFault = 6
status_of stop.Memory = 7
status_of stop.Illegal = 9
