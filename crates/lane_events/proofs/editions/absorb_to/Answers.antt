use Rattle.std.proofs.Common.{◌≡◌, ◌+◌, ◌<◌, length, take, ap, sym, ◌∙◌, arith}
use Rattle.plant_core.specs.Changes.{plant_after, plant_after_all}
use Rattle.lane_events.proofs.EditionLemmas.{absorbed_more}
use Rattle.lane_events.proofs.editions.absorb_to.Goals as goal

pub loop-at-preserved : goal.loop-at-preserved
loop-at-preserved c =
    let groups = c.args.groups.now in
    let at = c.loop-at.at in
    let within : at < length groups = omega (arith, c.loop-at-test.true, c.requires.within) in
    let edition : c.absorb.new.self.edition ≡ at + 1 = c.in_ok-absorb.ensures.edition ∙ ap (λ n. n + 1) c.loop-at.invariant.edition in
    record {
      edition = edition;
      routing = λ start first.
          c.in_ok-absorb.ensures.routing
          ∙ ap (λ p. plant_after p c.index-groups-at.result) (c.loop-at.invariant.routing start first ∙ ap (λ n. plant_after_all start (take n groups)) c.loop-at.invariant.edition)
          ∙ ap (plant_after (plant_after_all start (take at groups))) c.index-groups-at.is
          ∙ sym (absorbed_more start groups at c.index-groups-at.result within)
          ∙ ap (λ n. plant_after_all start (take n groups)) (sym edition);
    }
