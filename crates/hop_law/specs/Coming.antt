-- Where RSR comes from in a hop of a connection (Q.714, 3.7): each one that waits for a section was sent by the connection at the other node.
use Rattle.std.specs.Prelude.{◌≡◌, false, List}
use Rattle.std.specs.List.{AllByRecursion, list_any}
use Rattle.relay_base.specs.declared.words.Output.{Output}
use Rattle.section_model.specs.Parameters.{arrival_in}
use Rattle.section_model.specs.Ends.{End}
use Rattle.section_model.specs.Lane.{reference_of}
use Rattle.hop_law.specs.Waiting.{Waiting}
use Rattle.hop_law.specs.Hop.{Hop, Neighbours, HopStep, hop_along, begun, AreFair, IsBegun}
use Rattle.hop_law.specs.ResetAnswering.{is_rsr, IsRsrFor}

abbrev pub SendsNoRsr : List Output → Type 0
SendsNoRsr outs = list_any is_rsr outs ≡ false

-- no RSR for an end is among the messages that wait
abbrev pub NoRsrWaits : End → List Waiting → Type 0
NoRsrWaits e queue = AllByRecursion (λ (m : Waiting). IsRsrFor (reference_of e) (arrival_in m.bytes) → ⊥) queue

-- The law, in both directions: as long as the one connection sends no RSR, none waits for the section of the other one.
abbrev pub RsrIsSent : Type 0
RsrIsSent =
    (n : Neighbours) (h : Hop) (steps : List HopStep) → IsBegun n h → AreFair n (begun h) steps →
    (let g = hop_along n (begun h) steps in
    (SendsNoRsr g.near_outs → NoRsrWaits g.hop.far.this g.hop.forward) × (SendsNoRsr g.far_outs → NoRsrWaits g.hop.near.that g.hop.back))
