use Rattle.std.proofs.Common.{◌≡◌, ◌++◌, [], ◌∷◌, map, ap, ◌∙◌}
use Rattle.lane_events.specs.Placing.{kept}
use Rattle.lane_events.proofs.PlacingLemmas.{kept_more}
use Rattle.lane_events.proofs.lane_events.LinkEvents.new.Goals as goal

pub loop-place-preserved : goal.loop-place-preserved
loop-place-preserved c =
    let x = c.loop-place-item.result in
    let seen : map (λ e. (e.0, e.1.now)) c.deref-place-items.result.now ≡ c.args.placed.now = ap (map (λ e. (e.0, e.1.now))) c.deref-place-items.ensures.value ∙ c.placed.view_is in
    c.in_ok-put_event.ensures
    ∙ ap (λ k. k ++ kept c.args.lane ((x.0, x.1.now) ∷ [])) c.loop-place.invariant
    ∙ kept_more c.args.lane c.deref-place-items.result.now c.args.placed.now c.loop-place.place-index x seen c.loop-place-test.true c.loop-place-item.is
