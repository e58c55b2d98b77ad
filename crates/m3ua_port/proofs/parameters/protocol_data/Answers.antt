use Rattle.std.proofs.Common.{◌≡◌, ◌<◌, length, Err, sym, ◌∙◌, rules}
use Rattle.std.specs.Option.{option_map}
use Rattle.m3ua_port.specs.Frames.{protocol_data}
use Rattle.m3ua_port.specs.Inner.Parameters.{parameter_seen}
use Rattle.m3ua_port.proofs.ParameterLemmas.{after-step, after-fault, after-end, at_end-gives, found_at_end}
use Rattle.m3ua_port.proofs.parameters.protocol_data.Goals as goal

pub returns-in_err-parameter : goal.returns-in_err-parameter
returns-in_err-parameter c =
    let some : 0 < length c.loop-rest.rest.now = search rules in
    let fault : protocol_data c.args.parameters.now ≡ Err c.in_err-parameter.field-0.0 =
    sym c.loop-rest.invariant ∙ after-fault (option_map (λ v. v.now) c.loop-rest.found) c.loop-rest.rest.now _ some c.in_err-parameter.ensures.parameter in
    rw fault (search rules)

pub loop-rest-preserved : goal.loop-rest-preserved
loop-rest-preserved c =
    let some : 0 < length c.loop-rest.rest.now = search rules in
    let next = after-step (option_map (λ v. v.now) c.loop-rest.found) c.loop-rest.rest.now (parameter_seen c.in_ok-parameter.parameter) some c.in_ok-parameter.ensures.parameter in
    rw (c.first_of-found.ensures, c.in_ok-parameter.ensures.behind) (sym next ∙ c.loop-rest.invariant)

pub returns : goal.returns
returns c =
    let end : length c.loop-rest.rest.now ≡ 0 = search rules in
    let found : protocol_data c.args.parameters.now ≡ found_at_end (option_map (λ v. v.now) c.loop-rest.found) =
    sym c.loop-rest.invariant ∙ after-end (option_map (λ v. v.now) c.loop-rest.found) c.loop-rest.rest.now end in
    rw (c.ok_or.ensures.value, found) (at_end-gives c.loop-rest.found)
