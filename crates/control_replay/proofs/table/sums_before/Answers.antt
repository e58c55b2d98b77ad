use Rattle.std.proofs.Common.{◌≡◌, ℕ, ◌+◌, List, get_or, length, sum, take, ap, ◌∙◌, arith}
use Rattle.std.proofs.lemmas.List.{length_push}
use Rattle.std.proofs.lemmas.List.Sums.{sum_by_more}
use Rattle.control_replay.proofs.TableLemmas.{sums_pushed}
use Rattle.control_replay.proofs.table.sums_before.Goals as goal

pub loop-count-preserved : goal.loop-count-preserved
loop-count-preserved c =
    let counts = c.args.counts.now in
    let n = c.loop-count.count-index in
    let sums = c.loop-count.sums.items in
    let total : c.loop-count.total + get_or counts n 0 ≡ sum (take (n + 1) counts) = omega (arith, c.loop-count.invariant.total, sum_by_more (λ (k : ℕ). k) counts n 0 c.loop-count-test.true) in
    let pushed = c.in_ok-push.ensures.items in
    record {
      size = ap length pushed ∙ length_push sums _ ∙ ap (λ k. k + 1) c.loop-count.invariant.size;
      total = total;
      each = λ at few. ap (λ (s : List ℕ). get_or s at 0) pushed ∙ sums_pushed sums counts n _ c.loop-count.invariant.size total c.loop-count.invariant.each at few;
    }
