use Rattle.std.proofs.Common.{◌≡◌, ◌++◌, [], ◌∷◌, true, length, sym, ap, ◌∙◌, arith, length-append}
use Rattle.std.proofs.lemmas.List.{map-append}
use Rattle.std.proofs.lemmas.List.Elements.{All-push}
use Rattle.link_threads.proofs.feeders.used_hands.Goals as goal

pub loop-feeder-preserved : goal.loop-feeder-preserved
loop-feeder-preserved g c =
    let inv = c.loop-feeder.invariant in
    let feeder = c.in-Some.feeder in
    let ended : feeder.ended ≡ true = sym c.into_parts-passes.ensures.1 ∙ c.if-not-ended.false in
    let items = c.push_reserved.ensures.items in
    record {
      ended = All-push (λ f. f.ended ≡ true) c.loop-feeder.yielded feeder inv.ended ended;
      hands = items ∙ ((λ i. (inv.hands i) ++ (c.into_parts-passes.ensures.0 i) ∷ []) ∙ sym (map-append (λ f. f.passes) c.loop-feeder.yielded (feeder ∷ [])));
      room = omega (arith, ap length items, length-append c.loop-feeder.hands.items (c.into_parts-passes.result.0 ∷ []), ap length c.in-Some.ensures.steps.0, inv.room, c.push_reserved.ensures.capacity);
    }
