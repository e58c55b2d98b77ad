use Rattle.std.proofs.Common.{length, ap, arith}
use Rattle.m3ua_port.proofs.PortLemmas.{open-start}
use Rattle.m3ua_port.proofs.port.Port.new.Goals as goal

pub invariant_of-result : goal.invariant_of-result
invariant_of-result c = record {
  few = omega (arith, ap length c.none_fed.ensures);
  reads = λ _ _. open-start c.new.result c.none_fed.result.value c.none_fed.ensures c.new.ensures.number c.new.ensures.part;
  ended = λ _ found h. absurd (cc);
}
