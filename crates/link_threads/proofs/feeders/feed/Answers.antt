use Rattle.std.proofs.Common.{◌≡◌, true, map, All, Result, Ok, Err, IfOk, sym, ◌∙◌, ap, subst}
use Rattle.std.proofs.lemmas.List.{with_items_is}
use Rattle.block_threads.specs.Items.{Beside}
use Rattle.link_threads.specs.Gates.{HasRun, IsReady}
use Rattle.link_threads.proofs.FeederLemmas.{all_ready, have_used}
use Rattle.link_threads.proofs.feeders.feed.Goals as goal

-- what follows from both that is known of a call's answer
if_both : {A E : Type 0} (r : Result A E) (P Q S : A → Type 0) → ((x : A) → P x → Q x → S x) → IfOk r P → IfOk r Q → IfOk r S
if_both (Ok x) P Q S f p q = f x p q
if_both (Err e) P Q S f p q = tt

pub run_all-requires-after_bounds : goal.run_all-requires-after_bounds
run_all-requires-after_bounds g c κs within =
    subst (All (IsReady g.L.LaneState.plan)) (sym c.as_mut_slice.ensures.value)
    (all_ready g.L.LaneState.plan (map g.A.Arrivals.left c.args.links.items) c.args.doors.now c.args.hands.items c.in_ok-all.all.items c.requires.dealt c.in_ok-all.ensures c.requires.stamped)

pub returns : goal.returns
returns g c =
    let olds = c.in_ok-all.all.items in
    let news = c.run_all.new.all in
    let run = subst (λ l. Beside (HasRun g.L.LaneState.plan) l news) c.as_mut_slice.ensures.value c.run_all.ensures in
    let all = with_items_is c.in_ok-all.all news (c.run_all.auto.all ∙ c.as_mut_slice.ensures.len) in
    if_both c.used_hands.result _ _ _ (λ v ended hands.
    have_used g.L.LaneState.plan (map g.A.Arrivals.left c.args.links.items) c.args.doors.now c.args.hands.items olds c.requires.dealt c.in_ok-all.ensures news v.items run
    (subst (All (λ f. f.ended ≡ true)) all ended) (hands ∙ ap (map (λ f. f.passes)) all)) c.used_hands.ensures.ended c.used_hands.ensures.hands
