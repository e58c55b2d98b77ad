-- What an operator is told of a stream that is refused.
use Rattle.std.specs.Prelude.{ℕ, codes, List, [], ◌∷◌, ◌++◌}
use Rattle.std.specs.Fmt.{decimal}
use Rattle.journal_text.specs.Print.{spaced}
use Rattle.capture_form.specs.Note.{fault_note}
use Rattle.m3ua_port.specs.declared.fault.PortFault.{PortFault}
use Rattle.m3ua_port.specs.declared.fault.PortKind.{PortKind}
use Rattle.m3ua_port.specs.declared.fault.PortKind.TheVariants as kind
use Rattle.m3ua_capture.specs.declared.fault.StreamFault.{StreamFault}
use Rattle.m3ua_capture.specs.declared.fault.StreamFault.TheVariants.{Capture, Port}

abbrev pub kind_word : PortKind → List ℕ
kind_word kind.Version = codes "version"
kind_word kind.Length = codes "length"
kind_word kind.End = codes "end"
kind_word kind.Parameter = codes "parameter"
kind_word kind.Missing = codes "missing"
kind_word kind.Short = codes "short"
kind_word kind.Range = codes "range"

-- the number of a message, from 1, and what is wrong with it
abbrev pub port_text : PortFault → List ℕ
port_text fault = spaced (codes "port" ∷ decimal fault.message ∷ kind_word fault.kind ∷ [])

abbrev pub stream_note : StreamFault → List ℕ
stream_note (Capture fault) = fault_note fault
stream_note (Port fault) = port_text fault ++ codes "\n"
