use Rattle.std.proofs.Common.{◌≡◌, ◌≢◌, ◌∙◌, ◌-◌, ℕ, List, [], take, length, get_or, ap, sym, subst, rules}
use Rattle.std.specs.Borrow.{Bor}
use Rattle.journal_form.specs.Form.{fault_in, last_piece}
use Rattle.journal_form.specs.Parts.{TellsFault}
use Rattle.journal_form.specs.Inner.Seen.{texts, seen_lanes}
use Rattle.journal_form.proofs.LaneLemmas.{refused}
use Rattle.journal_form.proofs.FormLemmas.{ended_is, last_is, tells, line_left, rest_left, is_form, of_pieces, inside, outside}
use Rattle.journal_form.proofs.parts.read_pieces.Goals as goal

pub returns-in_err-lanes-clause-fault : goal.returns-in_err-lanes-clause-fault
returns-in_err-lanes-clause-fault c =
    let names = c.args.names.now in
    let pieces = c.args.pieces.now in
    refused c.from_residual.result c.in_err-lanes.field-0.0 (TellsFault (fault_in names (texts pieces))) (search rules) (
    tells names (texts pieces) (texts (take (length pieces - 1) pieces)) c.in_err-lanes.field-0.0 (ended_is pieces) c.in_err-lanes.ensures.fault
    )

pub returns-then-at-end-clause-fault : goal.returns-then-at-end-clause-fault
returns-then-at-end-clause-fault c =
    let names = c.args.names.now in
    let pieces = c.args.pieces.now in
    let lanes = seen_lanes c.in_ok-lanes.lanes.items in
    let at = c.in_ok-lanes.at in
    line_left names (texts pieces) lanes at (of_pieces names pieces lanes at c.in_ok-lanes.ensures.lanes) (inside pieces at c.if-at-end.true)

pub returns-then-not-is_empty-clause-fault : goal.returns-then-not-is_empty-clause-fault
returns-then-not-is_empty-clause-fault c =
    let names = c.args.names.now in
    let pieces = c.args.pieces.now in
    let lanes = seen_lanes c.in_ok-lanes.lanes.items in
    let at = c.in_ok-lanes.at in
    let none : Bor (List ℕ) = record { ref_ptr = (0, 0); now = [] } in
    let some : length (get_or pieces (length pieces - 1) none).now ≢ 0 = search rules in
    let rest : length (last_piece (texts pieces)) ≢ 0 = subst (λ l. length l ≢ 0) (sym (last_is pieces none c.requires.some)) some in
    rest_left names (texts pieces) lanes at (of_pieces names pieces lanes at c.in_ok-lanes.ensures.lanes) (outside pieces at c.if-at-end.false) rest

pub returns-clause-form : goal.returns-clause-form
returns-clause-form c =
    let names = c.args.names.now in
    let pieces = c.args.pieces.now in
    let lanes = seen_lanes c.in_ok-lanes.lanes.items in
    let at = c.in_ok-lanes.at in
    let none : Bor (List ℕ) = record { ref_ptr = (0, 0); now = [] } in
    let nothing : length (get_or pieces (length pieces - 1) none).now ≡ 0 = search rules in
    let rest : length (last_piece (texts pieces)) ≡ 0 = ap length (last_is pieces none c.requires.some) ∙ nothing in
    is_form names (texts pieces) lanes at (of_pieces names pieces lanes at c.in_ok-lanes.ensures.lanes) (outside pieces at c.if-at-end.false) rest
