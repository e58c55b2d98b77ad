use Rattle.std.proofs.Common.{◌∙◌, ◌+◌, get_or, refl, sym, ap, arith, eq-eqb, ne_eqb}
use Rattle.m3ua_capture.proofs.PartLemmas.{looking, looks_on, starts_line}
use Rattle.m3ua_capture.proofs.parts.stream_start.Goals.{then-octet-eq10+else-is_mark, else-octet-eq10}
use Rattle.m3ua_capture.proofs.parts.stream_start.Goals as goal

pub loop-index-preserved : goal.loop-index-preserved
loop-index-preserved c =
    let bytes = c.args.bytes.now in
    let line = c.loop-index.line in
    let i = c.loop-index.index in
    let octet = get_or bytes i 0 in
    elim c.if-octet-eq10.branch [
      | then-octet-eq10+else-is_mark w ↦ record {
        begun = omega (arith, w.line-is);
        left = ap (λ n. looking bytes n (i + 1)) w.line-is
            ∙ starts_line bytes line i octet c.loop-index-test.true refl (eq-eqb octet 10 w.if-octet-eq10.true) (sym w.is_mark.ensures ∙ w.if-is_mark.false)
            ∙ c.loop-index.invariant.left;
      }
      | else-octet-eq10 w ↦ record {
        begun = omega (arith, w.line-is, c.loop-index.invariant.begun);
        left = ap (λ n. looking bytes n (i + 1)) w.line-is
            ∙ looks_on bytes line i octet c.loop-index.invariant.begun c.loop-index-test.true refl (ne_eqb octet 10 w.if-octet-eq10.false)
            ∙ c.loop-index.invariant.left;
      }
    ]
