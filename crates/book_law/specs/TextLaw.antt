-- The law of the generator's text.
use Rattle.std.specs.Prelude.{◌≡◌, ◌≤◌, ℕ, Ok}
use Rattle.relay_base.specs.declared.limits.TheConstants.{MOST_GENERATED_LINES}
use Rattle.capture_form.specs.Capture.{capture_of}
use Rattle.capture_generator.specs.Generator.{generated_capture}
use Rattle.capture_generator.specs.Text.{generated_text}

-- the text of a number and a count of lines, of which there are at most 199,000, reads as the capture that is made of them
abbrev pub TextLaw : Type 0
TextLaw = (number lines : ℕ) → lines ≤ MOST_GENERATED_LINES → capture_of (generated_text number lines) ≡ Ok (generated_capture number lines)
