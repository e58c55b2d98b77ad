-- The capture that an input begins with and the text behind it, or its first fault.
use Rattle.std.specs.Prelude.{ℕ, ◌&&◌, ◌||◌, nat_eq, nat_lt, codes, Bool, false, List, [], ◌∷◌, length, if◌then◌else◌, Option, Some, None, option_map, Ok, Err}
use Rattle.std.specs.List.{flat_map}
use Rattle.std.specs.declared.result.Result.{Result}
use lib.Pointwise.{pointwise}
use Rattle.bstr.specs.Text.{lines_of, without_terminator}
use Rattle.relay_base.specs.Giving.{◌>>=◌, GivesOrMemory}
use Rattle.relay_base.specs.declared.limits.TheConstants.{MOST_BYTES}
use Rattle.node_head.specs.Head.{head_of}
use Rattle.capture_form.specs.Capture.{at_head, capture_of}
use Rattle.capture_form.specs.declared.fault.CaptureFault.{CaptureFault}
use Rattle.capture_form.specs.declared.fault.CaptureFault.TheVariants as refused
use Rattle.capture_form.specs.declared.fault.Limit.TheVariants.{Bytes}
use Rattle.capture_input.specs.declared.audit_fault.AuditFault.{AuditFault}
use Rattle.capture_input.specs.declared.audit_fault.AuditFault.TheVariants as audit
use Rattle.capture_input.specs.declared.reading.AuditInput.{AuditInput}

-- ---- calls that read an input

-- the fault that a refusal tells; none is want of memory
abbrev pub fault_in : AuditFault → Option AuditFault
fault_in (audit.Capture refused.Memory) = None
fault_in fault = Some fault

-- the call gave what the definition gives, unless memory ran out
abbrev pub Reads : {Y : Type 0} → Result Y AuditFault → Result Y AuditFault → Type 0
Reads result given = GivesOrMemory (λ x. x) fault_in result given

-- ---- the two parts of an input, over its lines with their ends

-- a line, without its end, is this one
abbrev pub is_line : List ℕ → List ℕ → Bool
is_line word line = pointwise nat_eq (without_terminator line) word

-- the lines before the first `%%%` that stands behind a `%%`, and those behind it; headed where a `%%` stands above these lines
unfoldable pub halves : Bool → List (List ℕ) → Option (List (List ℕ) × List (List ℕ))
halves headed [] = None
halves headed (line ∷ more) =
    if headed && is_line (codes "%%%") line then Some ([], more)
    else option_map (λ h. (line ∷ h.0, h.1)) (halves (headed || is_line (codes "%%") line) more)

-- the octets of lines
abbrev pub octets_of : List (List ℕ) → List ℕ
octets_of ls = flat_map (λ l. l) ls

-- the octets before the first line `%%%` behind the first line `%%`, and those behind it
abbrev pub parts_of : List ℕ → Option (List ℕ × List ℕ)
parts_of bytes = option_map (λ h. (octets_of h.0, octets_of h.1)) (halves false (lines_of bytes))

-- ---- the capture and the text

-- what a capture gives, or its fault
abbrev pub at_capture : {A : Type 0} → Result A CaptureFault → Result A AuditFault
at_capture (Ok x) = Ok x
at_capture (Err fault) = Err (audit.Capture fault)

-- an input that no line parts is at fault: by its head, if that is faulty
abbrev pub unparted : List ℕ → Result AuditInput AuditFault
unparted bytes = do
  head ← at_capture (at_head (head_of bytes))
  Err audit.NoJournal

-- the capture that the first part is, with the other part as the text
abbrev pub of_parts : List ℕ × List ℕ → Result AuditInput AuditFault
of_parts parts = do
  capture ← at_capture (capture_of parts.0)
  Ok (record { capture = capture; text = parts.1 })

abbrev pub audit_within : List ℕ → Option (List ℕ × List ℕ) → Result AuditInput AuditFault
audit_within bytes None = unparted bytes
audit_within bytes (Some parts) = of_parts parts

-- the input that is not too long
unfoldable pub audit_of : List ℕ → Result AuditInput AuditFault
audit_of bytes =
    if nat_lt MOST_BYTES (length bytes) then Err (audit.Capture (refused.TooLong Bytes))
    else audit_within bytes (parts_of bytes)
