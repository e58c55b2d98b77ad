use Rattle.std.proofs.Common.{◌≡◌, ◌++◌, [], ◌∷◌, ◌+◌, false, length, map, drop, suc, sym, refl, ap, ◌∙◌, subst, arith, length-append, length-drop}
use Rattle.std.specs.Prelude.{option_to_list}
use Rattle.link_threads.specs.Pairs.{PairsFrom}
use Rattle.link_threads.specs.Gates.{FeederState, IsFeederOf}
use Rattle.link_threads.proofs.PairLemmas.{pairs-length, pairs-push}
use Rattle.link_threads.proofs.FeederLemmas.{first_left, left_behind}
use Rattle.link_threads.proofs.feeders.feeders.Goals as goal

pub unwrap-link-requires : goal.unwrap-link-requires
unwrap-link-requires g c =
    let inv = c.loop-passes.invariant in
    c.next-in-loop-passes.ensures.variant.1
    (omega (arith, c.loop-passes.left.rest.ok.0, ap length inv.left, length-drop (length c.loop-passes.yielded) c.args.links.items, inv.count, ap length c.in-Some.ensures.steps.0))

pub loop-passes-preserved : goal.loop-passes-preserved
loop-passes-preserved g c =
    let inv = c.loop-passes.invariant in
    let all = c.args.links.items in
    let links = map g.A.Arrivals.left all in
    let Is = IsFeederOf c.args.doors.now links in
    let hand = c.in-Some.passes in
    let link = c.unwrap-link.result in
    let rest = c.next-in-loop-passes.new.self.rest.items in
    let f : FeederState g.row.L.Denot g.row.L-Event.Denot = record { doors = c.args.doors.now; number = c.len-in-loop-passes.result; left = g.A.Arrivals.left link; passes = hand; ended = false } in
    let step = c.in-Some.ensures.steps.0 in
    let items = c.push_reserved.ensures.items in
    let gone = c.loop-passes.yielded in
    let number : c.len-in-loop-passes.result ≡ 0 + length gone = omega (arith, c.len-in-loop-passes.ensures, c.loop-passes.feeders.ok.0, pairs-length Is 0 gone c.loop-passes.feeders.items inv.each) in
    let is : drop (length gone) all ≡ link ∷ rest = inv.left ∙ (c.next-in-loop-passes.ensures.items ∙ ap (λ o. option_to_list o ++ rest) c.unwrap-link.ensures) in
    record {
      count = omega (arith, ap length step, inv.count, length-append gone (hand ∷ []));
      few = omega (arith, ap length items, length-append c.loop-passes.feeders.items (f ∷ []), ap length step, inv.few);
      room = omega (arith, ap length items, length-append c.loop-passes.feeders.items (f ∷ []), ap length step, inv.room, c.push_reserved.ensures.capacity);
      each = subst (PairsFrom Is 0 (gone ++ hand ∷ [])) (sym items)
          (pairs-push Is 0 gone c.loop-passes.feeders.items hand f inv.each (record {
            doors_are = refl;
            number_is = number;
            left_is = first_left g.A.Arrivals.left all rest (0 + length gone) link [] (subst (λ n. drop n all ≡ link ∷ rest) {x = length gone} {y = 0 + length gone} (omega arith) is);
            passes_are = refl;
          }));
      left = ap (λ n. drop n all) {x = length (gone ++ hand ∷ [])} {y = suc (length gone)} (omega (arith, length-append gone (hand ∷ []))) ∙ left_behind all rest (length gone) link is;
    }
