use Rattle.std.proofs.Common.{◌≡◌, Ok, Err, OnOk, [], ◌∷◌, length, map, subst, sym, ◌∙◌, rules}
use Rattle.std.proofs.lemmas.List.{length-map}
use Rattle.block_threads.specs.Items.{Beside}
use Rattle.link_threads.specs.Links.{IsStamped}
use Rattle.link_threads.specs.Gates.{HasFed, HaveFedBut, NoneWaits}
use Rattle.link_threads.proofs.RunLemmas.{all_fed, none_of, none_wait}
use Rattle.link_threads.proofs.runs.serve_in_runs.Goals as goal

pub loop-arrival-init : goal.loop-arrival-init
loop-arrival-init g c =
    let plan = g.L.LaneState.plan in
    let doors = c.args.doors.now in
    let units = c.in_ok-units.units.items in
    let lanes : length (map (λ u. u.items) units) ≡ length doors = length-map units (λ u. u.items) ∙ search (rules, c.in_ok-units.ensures.count) in
    record {
      stamped = c.requires.stamped;
      fed = subst (λ ws. HaveFedBut plan c.args.number (g.A.Arrivals.left c.args.link.now) doors (map (λ u. u.items) ws) c.args.passes.now) (sym c.as_mut_slice-waiting.ensures.value)
          (none_wait plan doors c.args.passes.now c.args.number (g.A.Arrivals.left c.args.link.now) (map (λ u. u.items) units) lanes (none_of (λ u. u.items) units c.in_ok-units.ensures.empty) c.requires.ready);
    }

pub loop-arrival-preserved-in-Continue-branch-2 : goal.loop-arrival-preserved-in-Continue-branch-2
loop-arrival-preserved-in-Continue-branch-2 g c =
    let plan = g.L.LaneState.plan in
    let doors = c.args.doors.now in
    let unit = c.in-Some.arrival in
    let left = g.A.Arrivals.left c.next.new.self in
    let stamped = subst (IsStamped c.args.number) c.in-Some.ensures.some c.loop-arrival.invariant.stamped in
    let before = subst (λ l. HaveFedBut plan c.args.number l doors (map (λ u. u.items) c.loop-arrival.waiting) c.loop-arrival.passes) c.in-Some.ensures.some c.loop-arrival.invariant.fed in
    record {
      stamped = stamped.1;
      fed = subst (λ n. HaveFedBut plan n left doors (map (λ u. u.items) c.let_wait.new.waiting) c.let_wait.new.passes) stamped.0
          (c.in_ok-let_wait-in-Some-lane_of_unit.ensures left (subst (λ n. HaveFedBut plan n (unit ∷ left) doors (map (λ u. u.items) c.loop-arrival.waiting) c.loop-arrival.passes) (sym stamped.0) before));
    }

pub returns : goal.returns
returns g c =
    let plan = g.L.LaneState.plan in
    let number = c.args.number in
    let doors = c.args.doors.now in
    let passes = c.empty_all.new.passes in
    let waiting = map (λ u. u.items) c.empty_all.new.waiting in
    let all = subst (λ left. HaveFedBut plan number left doors (map (λ u. u.items) c.loop-arrival.waiting) c.loop-arrival.passes) c.in_default.ensures.none c.loop-arrival.invariant.fed in
    elim c.empty_all.result as (λ r. OnOk r (NoneWaits waiting) → OnOk r (HaveFedBut plan number [] doors waiting passes) → OnOk r (Beside (HasFed plan number []) doors passes)) [
      | Ok x ↦ λ none fed. all_fed plan doors passes number [] waiting fed none
      | Err e ↦ λ _ _. tt
    ] c.empty_all.ensures.none (c.empty_all.ensures.fed [] all)
