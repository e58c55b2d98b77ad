use Rattle.std.proofs.Common.{[], map, sym, ◌∙◌, subst}
use Rattle.std.proofs.lemmas.List.{length-map}
use Rattle.link_threads.specs.Gates.{AreDealt}
use Rattle.link_threads.proofs.DealLemmas.{dealt_none}
use Rattle.link_threads.proofs.dealing.open.Goals as goal

pub doors-requires-clause-empty : goal.doors-requires-clause-empty
doors-requires-clause-empty g c =
    subst (AreDealt g.L.LaneState.plan (map g.A.Arrivals.left c.args.links.now) []) (sym c.as_mut_slice.ensures.value)
    (dealt_none g.L.LaneState.plan (map g.A.Arrivals.left c.args.links.now) c.in_ok-hands.hands.items (c.in_ok-hands.ensures.count ∙ sym (length-map c.args.links.now g.A.Arrivals.left)) c.in_ok-hands.ensures.empty)
