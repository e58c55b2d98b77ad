use Rattle.std.proofs.Common.{◌≡◌, Some, None, position, arith, sym, ◌∙◌, refl}
use Rattle.std.proofs.lemmas.Grind.{common_steps}
use Rattle.reassembly.specs.Segments.{key_of}
use Rattle.reassembly.specs.Reassembly.{is_of}
use Rattle.reassembly.proofs.Places.{placed, missing}
use Rattle.reassembly.proofs.processes.end.Goals as goal

pub returns-in_err-at-clause-ended : goal.returns-in_err-at-clause-ended
returns-in_err-at-clause-ended c =
    let at : position (is_of (key_of c.args.piece.now)) c.args.processes.now.items ≡ None = grind (arith, common_steps) in
    let m = missing (is_of (key_of c.args.piece.now)) c.args.processes.now.items at in
    rw m.not_found (grind (arith, common_steps))

pub returns-in_err-at-clause-kept : goal.returns-in_err-at-clause-kept
returns-in_err-at-clause-kept c =
    let at : position (is_of (key_of c.args.piece.now)) c.args.processes.now.items ≡ None = grind (arith, common_steps) in
    sym (missing (is_of (key_of c.args.piece.now)) c.args.processes.now.items at).all

pub returns-clause-ended : goal.returns-clause-ended
returns-clause-ended c =
    let at : position (is_of (key_of c.args.piece.now)) c.args.processes.now.items ≡ Some c.in_ok-at.at = grind (arith, common_steps) in
    let p = placed (is_of (key_of c.args.piece.now)) c.args.processes.now.items c.in_ok-at.at at (c.requires (key_of c.args.piece.now)) in
    rw (p.found c.remove-process.result c.remove-process.ensures.value) refl

pub returns-clause-kept : goal.returns-clause-kept
returns-clause-kept c =
    let at : position (is_of (key_of c.args.piece.now)) c.args.processes.now.items ≡ Some c.in_ok-at.at = grind (arith, common_steps) in
    let p = placed (is_of (key_of c.args.piece.now)) c.args.processes.now.items c.in_ok-at.at at (c.requires (key_of c.args.piece.now)) in
    c.remove-process.ensures.items ∙ p.without
