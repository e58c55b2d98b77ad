-- What a right book sends.
use Rattle.std.proofs.Common.{◌≡◌, ℕ, ◌+◌, List, [], ◌∷◌, ◌++◌, length, map, if◌then◌else◌, refl, ap, ap₂, le-leb}
use Rattle.std.specs.List.{AllByRecursion, flat_map}
use Rattle.relay_base.specs.declared.words.Output.{Output}
use Rattle.relay_base.specs.declared.words.Output.TheVariants.{Sent, Told, Lost}
use Rattle.m3ua_port.specs.declared.limits.TheConstants.{LONGEST_CARRIED}
use Rattle.m3ua_port.specs.Wrapping.{wrapped}
use Rattle.plant_core.specs.declared.entry.Entry.{Entry}
use Rattle.plant_core.specs.declared.entry.ControlEntry.{ControlEntry}
use Rattle.capture_generator.specs.Counts.{journal_outputs, outputs_in}
use Rattle.book_output.specs.Sending.{frame_of, frames_of_outs}
use Rattle.right_book.specs.Heads.{routing_of, lane_head_of, control_head_of}
use Rattle.right_book.specs.Lanes.{LanesFrom}
use Rattle.book_law.specs.LengthLaw.{IsCarried, AreCarried, LanesAreCarried, BookIsCarried, frame_of_any, NoneIsLeftOut}
use Rattle.book_law.proofs.Outputs.{all-append}
use Rattle.book_law.proofs.Management.{control_is_carried}
use Rattle.book_law.proofs.Connections.{conn_is_carried}
use Rattle.book_law.proofs.Units.{data_is_carried}

pub lanes_are_carried : LanesAreCarried
lanes_are_carried = record { control = control_is_carried; conns = conn_is_carried; units = data_is_carried }

-- the outputs of journals
journal-outputs : {X : Type 0} (outs : X → List Output) (journal : List X) → AllByRecursion (λ e. AreCarried (outs e)) journal
    → AllByRecursion AreCarried (map outs journal)
journal-outputs outs [] all = tt
journal-outputs outs (entry ∷ journal) all = (all.0, journal-outputs outs journal all.1)

lanes-outputs : (IsLegal : ℕ → List Entry → Type 0) → ((number : ℕ) (journal : List Entry) → IsLegal number journal
    → AllByRecursion (λ e. AreCarried e.outs) journal)
    → (number : ℕ) (lanes : List (List Entry)) → LanesFrom IsLegal number lanes → AllByRecursion AreCarried (flat_map journal_outputs lanes)
lanes-outputs IsLegal law number [] legal = tt
lanes-outputs IsLegal law number (journal ∷ lanes) legal =
    all-append AreCarried (journal_outputs journal) (flat_map journal_outputs lanes)
    (journal-outputs (λ e. e.outs) journal (law number journal legal.0)) (lanes-outputs IsLegal law (number + 1) lanes legal.1)

pub book_is_carried : BookIsCarried
book_is_carried head phases book right =
    let control = map (λ (e : ControlEntry). e.outs) book.control in
    let conns = flat_map journal_outputs book.conns in
    all-append AreCarried (control ++ conns) (flat_map journal_outputs book.units)
    (all-append AreCarried control conns
    (journal-outputs (λ e. e.outs) book.control (control_is_carried (control_head_of head) (routing_of head) book.control right.legal.control))
    (lanes-outputs _ (conn_is_carried (lane_head_of head)) 0 book.conns right.legal.conns))
    (lanes-outputs _ (data_is_carried (lane_head_of head)) 0 book.units right.legal.units)

-- So each has a message.

whole-frame : (own : ℕ) (output : Output) → IsCarried output → frame_of own output ≡ frame_of_any own output
whole-frame own (Sent point sls octets) fit =
    ap (λ b. if b then wrapped own point sls octets else []) (le-leb (length octets) LONGEST_CARRIED fit)
whole-frame own (Told ssn tell) fit = refl
whole-frame own (Lost lost) fit = refl

same-flat_map : {A : Type 0} (P : A → Type 0) (f g : A → List ℕ) → ((x : A) → P x → f x ≡ g x) → (xs : List A) → AllByRecursion P xs → flat_map f xs ≡ flat_map g xs
same-flat_map P f g same [] all = refl
same-flat_map P f g same (x ∷ xs) all = ap₂ (λ (one more : List ℕ). one ++ more) (same x all.0) (same-flat_map P f g same xs all.1)

pub none_is_left_out : NoneIsLeftOut
none_is_left_out own head phases book right =
    same-flat_map AreCarried (frames_of_outs own) (flat_map (frame_of_any own))
    (λ outs carried. same-flat_map IsCarried (frame_of own) (frame_of_any own) (whole-frame own) outs carried)
    (outputs_in book) (book_is_carried head phases book right)
