use Rattle.std.proofs.Common.{◌≡◌, ◌∙◌, ◌++◌, ◌∷◌, ◌+◌, [], get_or, ap, sym, subst, rules}
use Rattle.journal_form.specs.Inner.Seen.{texts, seen_lane, seen_lanes}
use Rattle.journal_form.specs.Inner.Reading.{HasLanes, BreaksForm}
use Rattle.journal_form.proofs.LaneLemmas.{HasLanes-then, BreaksForm-at, lanes-then, refused}
use Rattle.journal_form.proofs.parts.read_lanes.Goals as goal

pub returns-in_err-lane-clause-fault : goal.returns-in_err-lane-clause-fault
returns-in_err-lane-clause-fault c =
    let names = c.args.names.now in
    let lines = texts c.args.lines.now in
    let k = c.loop-name.name-index in
    let same : c.as_slice.result.now ≡ c.name-item.result = search rules in
    let is = subst (λ n. n ≡ get_or names k n) (sym same) c.name-item.is in
    refused c.from_residual.result c.in_err-lane.field-0.0 (BreaksForm names lines) (search rules) (
    BreaksForm-at names lines k (seen_lanes c.loop-name.lanes.items) c.loop-name.at c.as_slice.result.now c.in_err-lane.field-0.0 c.loop-name-test.true is c.loop-name.invariant c.in_err-lane.ensures.fault
    )

pub loop-name-preserved : goal.loop-name-preserved
loop-name-preserved c =
    let names = c.args.names.now in
    let lines = texts c.args.lines.now in
    let k = c.loop-name.name-index in
    let lanes = c.loop-name.lanes.items in
    let lane = c.in_ok-lane.lane in
    let same : c.as_slice.result.now ≡ c.name-item.result = search rules in
    let is = subst (λ n. n ≡ get_or names k n) (sym same) c.name-item.is in
    let items : c.push.new.self.items ≡ lanes ++ lane ∷ [] = search rules in
    subst (λ l. HasLanes names lines (k + 1) l c.in_ok-lane.next) (sym (ap seen_lanes items ∙ lanes-then lanes lane)) (
    HasLanes-then names lines k (seen_lanes lanes) c.loop-name.at c.as_slice.result.now (seen_lane lane) c.in_ok-lane.next c.loop-name-test.true is c.loop-name.invariant c.in_ok-lane.ensures.lane
    )
