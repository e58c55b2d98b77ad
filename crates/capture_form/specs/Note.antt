-- What an operator is told of a capture that is refused.
use Rattle.std.specs.Prelude.{ℕ, codes, List, [], ◌∷◌, ◌++◌}
use Rattle.std.specs.Fmt.{decimal}
use Rattle.node_head.specs.declared.fault.HeadKind.{HeadKind}
use Rattle.node_head.specs.declared.fault.HeadKind.TheVariants as head
use Rattle.node_head.specs.declared.fault.HeadFault.{HeadFault}
use Rattle.capture_form.specs.declared.fault.LineKind.{LineKind}
use Rattle.capture_form.specs.declared.fault.LineKind.TheVariants as line
use Rattle.capture_form.specs.declared.fault.Limit.{Limit}
use Rattle.capture_form.specs.declared.fault.Limit.TheVariants as limit
use Rattle.capture_form.specs.declared.fault.CaptureFault.{CaptureFault}
use Rattle.capture_form.specs.declared.fault.CaptureFault.TheVariants as refused
use Rattle.journal_text.specs.Print.{spaced}

abbrev pub head_word : HeadKind → List ℕ
head_word head.End = codes "end"
head_word head.Text = codes "text"
head_word head.Unknown = codes "unknown"
head_word head.Missing = codes "missing"
head_word head.Kind = codes "kind"
head_word head.Range = codes "range"

abbrev pub line_word : LineKind → List ℕ
line_word line.Words = codes "words"
line_word line.Group = codes "group"
line_word line.Number = codes "number"
line_word line.Hex = codes "hex"
line_word line.Address = codes "address"
line_word line.Size = codes "size"
line_word line.Digits = codes "digits"
line_word line.Entity = codes "entity"
line_word line.User = codes "user"
line_word line.Point = codes "point"

abbrev pub limit_word : Limit → List ℕ
limit_word limit.Bytes = codes "bytes"
limit_word limit.Lines = codes "lines"
limit_word limit.Ticks = codes "ticks"
limit_word limit.Barriers = codes "barriers"

abbrev pub head_text : HeadFault → List ℕ
head_text f = codes "head " ++ head_word f.kind ++ codes " " ++ f.key

abbrev pub line_text : ℕ → LineKind → List ℕ
line_text number kind = spaced (codes "line" ∷ decimal number ∷ line_word kind ∷ [])

abbrev pub limit_text : Limit → List ℕ
limit_text what = codes "too long " ++ limit_word what

abbrev pub fault_text : CaptureFault → List ℕ
fault_text (refused.Head f) = head_text f
fault_text (refused.Line f) = line_text f.line f.kind
fault_text (refused.TooLong what) = limit_text what
fault_text refused.Memory = codes "memory"

-- the line for each refusal
abbrev pub fault_note : CaptureFault → List ℕ
fault_note fault = fault_text fault ++ codes "\n"
