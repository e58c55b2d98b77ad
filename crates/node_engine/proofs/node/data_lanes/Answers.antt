use Rattle.std.proofs.Common.{◌≡◌, ◌∙◌, ◌+◌, [], ◌∷◌, length, sym, ap, subst, arith, length-append}
use Rattle.std.specs.List.{AllByRecursion}
use Rattle.data_lane.specs.Legal.{LaneState}
use Rattle.right_book.specs.Lanes.{LanesFrom}
use Rattle.node_engine.specs.Running.{IsDataLaneOf}
use Rattle.right_book.proofs.ListLemmas.{all-push, lanes-push}
use Rattle.node_engine.proofs.node.data_lanes.Goals as goal

pub loop-number-preserved : goal.loop-number-preserved
loop-number-preserved c =
    let lanes = c.loop-number.lanes.items in
    let lane = c.in_ok-lane.lane in
    let grown = c.in_ok-push.ensures.items in
    let of : IsDataLaneOf c.args.head.now c.loop-number.number lane =
    record { of_head = ap (λ (l : LaneState). l.head) c.in_ok-lane.ensures ∙ c.in_ok-lane_head.ensures.value; of_number = ap (λ (l : LaneState). l.number) c.in_ok-lane.ensures } in
    record {
      count = ap length grown ∙ length-append lanes (lane ∷ []) ∙ ap (λ n. n + 1) c.loop-number.invariant.count;
      lanes = subst (LanesFrom (IsDataLaneOf c.args.head.now) 0) (sym grown)
          (lanes-push (IsDataLaneOf c.args.head.now) 0 lanes lane c.loop-number.invariant.lanes (subst (λ n. IsDataLaneOf c.args.head.now n lane) (omega (arith, c.loop-number.invariant.count)) of));
      empty = subst (AllByRecursion (λ (l : LaneState). l.journal ≡ [])) (sym grown) (all-push (λ (l : LaneState). l.journal ≡ []) lanes lane c.loop-number.invariant.empty (ap (λ (l : LaneState). l.journal) c.in_ok-lane.ensures));
    }
