use Rattle.std.proofs.Common.{◌≡◌, ◌++◌, List, length, take, drop, sym, ◌∙◌, subst, ap}
use Rattle.std.proofs.Math.Seq.{take-append_seam}
use Rattle.lane_gate.specs.declared.pass.Pass.{Pass}
use Rattle.lane_gate.specs.Gates.{AreAllPasses, callers_of}
use Rattle.gate_tests.proofs.TrialLemmas.{all_back}
use Rattle.gate_tests.proofs.turns.taken_from_nine.Goals as goal

pub close-entries-requires : goal.close-entries-requires
close-entries-requires g c = let gate = c.in_ok-gate.gate in let made = c.in_ok-gate.ensures in let new = c.feed_all.new.passes in let left : List Pass = drop (length new) c.into_vec-passes.result.items in
    let size : c.into_vec-passes.result.len ≡ length new = sym (c.feed_all.auto.passes ∙ c.as_mut_slice.ensures.len) in
    let nine : length new ≡ callers_of gate = c.feed_all.auto.passes ∙ (ap length c.as_mut_slice.ensures.value ∙ (ap length c.into_vec-passes.ensures ∙ (made.passes.1.count ∙ sym made.gate.1))) in
    subst (AreAllPasses gate) (sym (c.from.ensures ∙ (ap (λ n. take n (new ++ left)) size ∙ take-append_seam new left))) (all_back gate new nine c.feed_all.ensures)
