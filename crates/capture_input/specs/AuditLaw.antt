-- What a capture and a text are read as that stand in one input.
use Rattle.std.specs.Prelude.{◌≡◌, ℕ, ◌≤◌, codes, List, [], ◌∷◌, ◌++◌, length, None, Ok}
use Rattle.relay_base.specs.declared.limits.TheConstants.{MOST_BYTES}
use Rattle.capture_form.specs.Capture.{capture_of}
use Rattle.capture_form.specs.declared.capture.Capture.{Capture}
use Rattle.capture_input.specs.Audit.{parts_of, audit_of}

-- octets, a line `%%%` and a text
abbrev pub joined : List ℕ → List ℕ → List ℕ
joined octets text = octets ++ (codes "%%%" ++ 10 ∷ text)

-- Octets that end with a line feed, are a capture and have no line `%%%` behind their `%%`, such a line, and any text, which are together no more
-- than an input may be: these are that capture and that text.
abbrev pub JoinedReadsBack : Type 0
JoinedReadsBack =
    (front text : List ℕ) (capture : Capture) →
    let octets = front ++ 10 ∷ [] in
    capture_of octets ≡ Ok capture → parts_of octets ≡ None → length (joined octets text) ≤ MOST_BYTES →
    audit_of (joined octets text) ≡ Ok (record { capture = capture; text = text })
