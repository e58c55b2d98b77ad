use Rattle.std.proofs.Common.{arith}
use Rattle.sccp_address.proofs.DigitLemmas.{put_pair, put_rest}
use Rattle.sccp_address.proofs.ResultLemmas.{OnOk-map}
use Rattle.sccp_address.proofs.digits.put_digits.Goals as goal

pub loop-place-preserved : goal.loop-place-preserved
loop-place-preserved c =
    put_pair c.args.octets.now c.loop-place.octets c.push.new.self c.as_slice-all.result.now c.loop-place.place
    c.loop-place.invariant c.in_ok-push.ensures.ok (omega (arith, c.loop-place-test.true))

pub returns-clause-value : goal.returns-clause-value
returns-clause-value c =
    OnOk-map c.extend.result
    (put_rest c.args.octets.now c.loop-place.octets c.extend.new.self c.as_slice-all.result.now c.args.digits.now c.loop-place.place
    c.loop-place.invariant (omega arith) c.as_slice-all.ensures.value)
    c.extend.ensures.ok
