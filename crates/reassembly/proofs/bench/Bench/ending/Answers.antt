use Rattle.std.proofs.Common.{◌≡◌, ◌+◌, ◌==◌, true, false, Some, None, position, arith, ap, sym}
use Rattle.std.proofs.Math.ListN.{get_or}
use Rattle.std.proofs.lemmas.Grind.{common_steps}
use Rattle.std.proofs.lemmas.Bool.Decides.{nat_tests}
use Rattle.reassembly.specs.Segments.{key_of, is_first, remaining}
use Rattle.reassembly.specs.Reassembly.{is_of, IsOnePerKey, has_no_room}
use Rattle.reassembly.proofs.Places.{placed, missing}
use Rattle.reassembly.proofs.Ending.{none_full, none_live, none_awaited, repeated, unexpected}
use Rattle.reassembly.proofs.bench.Bench.ending.Goals.{else-not-is_first-via-then-not-is_first+else-awaits, else-not-is_first-via-else-not-is_first}
use Rattle.reassembly.proofs.bench.Bench.ending.Goals as goal

pub returns-then-is_full_for : goal.returns-then-is_full_for
returns-then-is_full_for c =
    let all = c.args.self.now in
    let full : has_no_room c.args.piece.now all.processes ≡ true = grind (arith, common_steps) in
    sym (none_full all.ticks all.processes c.args.piece.now full)

pub returns-in_err-at : goal.returns-in_err-at
returns-in_err-at c =
    let all = c.args.self.now in
    let at : position (is_of (key_of c.args.piece.now)) all.processes ≡ None = grind (arith, common_steps) in
    let room : has_no_room c.args.piece.now all.processes ≡ false = grind (arith, common_steps) in
    let m = missing (is_of (key_of c.args.piece.now)) all.processes at in
    let e = none_live all.ticks all.processes c.args.piece.now room m.not_found in
    rw c.from_residual.ensures (sym e)

pub returns-then-awaits : goal.returns-then-awaits
returns-then-awaits c =
    let all = c.args.self.now in
    let at : position (is_of (key_of c.args.piece.now)) all.processes ≡ Some c.in_ok-at.at = grind (arith, common_steps) in
    let room : has_no_room c.args.piece.now all.processes ≡ false = grind (arith, common_steps) in
    let same : c.self.inside.processes.items ≡ all.processes = ap (λ r. r.processes) c.self.view_is in
    let one : IsOnePerKey all.processes = rw same at c.self.invariant.one_per_key in
    let item : c.index-process.result.now ≡ get_or all.processes c.in_ok-at.at c.index-process.result.now = rw same at c.index-process.ensures in
    let p = placed (is_of (key_of c.args.piece.now)) all.processes c.in_ok-at.at at (one (key_of c.args.piece.now)) in
    let later : is_first c.args.piece.now ≡ false = grind (arith, nat_tests) in
    let next : (remaining c.args.piece.now + 1 == c.index-process.result.now.left) ≡ true = grind (arith, nat_tests) in
    sym (none_awaited all.ticks all.processes c.args.piece.now c.index-process.result.now room later (p.found c.index-process.result.now item) next)

pub returns : goal.returns
returns c =
    let all = c.args.self.now in
    let at : position (is_of (key_of c.args.piece.now)) all.processes ≡ Some c.in_ok-at.at = grind (arith, common_steps) in
    let room : has_no_room c.args.piece.now all.processes ≡ false = grind (arith, common_steps) in
    let same : c.self.inside.processes.items ≡ all.processes = ap (λ r. r.processes) c.self.view_is in
    let one : IsOnePerKey all.processes = rw same at c.self.invariant.one_per_key in
    let item : c.index-process.result.now ≡ get_or all.processes c.in_ok-at.at c.index-process.result.now = rw same at c.index-process.ensures in
    let p = placed (is_of (key_of c.args.piece.now)) all.processes c.in_ok-at.at at (one (key_of c.args.piece.now)) in
    let found = p.found c.index-process.result.now item in
    elim c.else-not-is_first.branch [
      | else-not-is_first-via-then-not-is_first+else-awaits w ↦
          let later : is_first c.args.piece.now ≡ false = grind (arith, nat_tests) in
          let next : (remaining c.args.piece.now + 1 == c.index-process.result.now.left) ≡ false = grind (arith, nat_tests) in
          sym (unexpected all.ticks all.processes c.args.piece.now c.index-process.result.now room later found next)
      | else-not-is_first-via-else-not-is_first w ↦
          let first : is_first c.args.piece.now ≡ true = grind (arith, nat_tests) in
          sym (repeated all.ticks all.processes c.args.piece.now c.index-process.result.now room first found)
    ]
