use Rattle.std.proofs.Common.{◌≡◌, ◌+◌, ◌==◌, true, false, Some, None, position, arith}
use Rattle.std.proofs.lemmas.Grind.{common_steps}
use Rattle.std.proofs.lemmas.Bool.Decides.{nat_tests}
use Rattle.reassembly.specs.Segments.{key_of, remaining}
use Rattle.reassembly.specs.Reassembly.{is_of}
use Rattle.reassembly.proofs.Places.{placed, missing}
use Rattle.reassembly.proofs.Later.{orphan, broken, waiting, whole}
use Rattle.reassembly.proofs.processes.take_later.Goals as goal

pub returns-in_default-clause-ok : goal.returns-in_default-clause-ok
returns-in_default-clause-ok c =
    λ ticks.
    let at : position (is_of (key_of c.args.piece.now)) c.args.processes.now.items ≡ None = grind (arith, common_steps) in
    orphan ticks c.args.processes.now.items c.args.piece.now c.requires.later (missing (is_of (key_of c.args.piece.now)) c.args.processes.now.items at)

pub returns-then-not-awaits-clause-ok : goal.returns-then-not-awaits-clause-ok
returns-then-not-awaits-clause-ok c =
    λ ticks.
    let at : position (is_of (key_of c.args.piece.now)) c.args.processes.now.items ≡ Some c.in-Some.at = grind (arith, common_steps) in
    let p = placed (is_of (key_of c.args.piece.now)) c.args.processes.now.items c.in-Some.at at (c.requires.apart (key_of c.args.piece.now)) in
    let tested = p.found c.index.result.now c.index.ensures in
    let removed = p.found c.remove-process.result c.remove-process.ensures.value in
    let same : c.index.result.now ≡ c.remove-process.result = cc in
    let t : (remaining c.args.piece.now + 1 == c.remove-process.result.left) ≡ false = grind (arith, nat_tests) in
    rw c.remove-process.ensures.items (broken ticks c.args.processes.now.items c.args.piece.now c.in-Some.at c.remove-process.result c.requires.later p c.remove-process.ensures.value t)

pub returns-then-remaining-gt0-clause-ok : goal.returns-then-remaining-gt0-clause-ok
returns-then-remaining-gt0-clause-ok c =
    λ ticks.
    let at : position (is_of (key_of c.args.piece.now)) c.args.processes.now.items ≡ Some c.in-Some.at = grind (arith, common_steps) in
    let p = placed (is_of (key_of c.args.piece.now)) c.args.processes.now.items c.in-Some.at at (c.requires.apart (key_of c.args.piece.now)) in
    let tested = p.found c.index.result.now c.index.ensures in
    let written = p.found c.index_mut.result.now c.index_mut.ensures.value in
    let same : c.index.result.now ≡ c.index_mut.result.now = cc in
    let t : (remaining c.args.piece.now + 1 == c.index_mut.result.now.left) ≡ true = grind (arith, nat_tests) in
    let r : (remaining c.args.piece.now == 0) ≡ false = grind (arith, nat_tests) in
    rw c.in_ok-append.ensures.ok (waiting ticks c.args.processes.now.items c.args.piece.now c.in-Some.at c.index_mut.result.now c.requires.later p c.index_mut.ensures.value t r)

pub returns-clause-ok : goal.returns-clause-ok
returns-clause-ok c =
    λ ticks.
    let at : position (is_of (key_of c.args.piece.now)) c.args.processes.now.items ≡ Some c.in-Some.at = grind (arith, common_steps) in
    let p = placed (is_of (key_of c.args.piece.now)) c.args.processes.now.items c.in-Some.at at (c.requires.apart (key_of c.args.piece.now)) in
    let tested = p.found c.index.result.now c.index.ensures in
    let written = p.found c.index_mut.result.now c.index_mut.ensures.value in
    let same : c.index.result.now ≡ c.index_mut.result.now = cc in
    let t : (remaining c.args.piece.now + 1 == c.index_mut.result.now.left) ≡ true = grind (arith, nat_tests) in
    let r : (remaining c.args.piece.now == 0) ≡ true = grind (arith, nat_tests) in
    rw (c.remove-process-2.ensures.items, c.into_whole.ensures, c.in_ok-append.ensures.ok) (whole ticks c.args.processes.now.items c.args.piece.now c.in-Some.at c.index_mut.result.now c.remove-process-2.result c.requires.later p c.index_mut.ensures.value t r (rw c.in_ok-append.ensures.ok at c.remove-process-2.ensures.value))
