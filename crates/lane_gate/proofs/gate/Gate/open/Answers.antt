use Rattle.std.proofs.Common.{◌≡◌, List, [], ◌∷◌, ◌++◌, sym, ap, ◌∙◌, subst, Option, Some}
use Rattle.atomic_table.specs.Table.{opening}
use Rattle.lane_gate.specs.declared.table.Opening.{Opening}
use Rattle.lane_gate.specs.Inner.Rule.{IsKept, whole_view}
use Rattle.lane_gate.proofs.TurnKeeps.{opens}
use Rattle.lane_gate.proofs.gate.Gate.open.Goals as goal

pub new-requires : goal.new-requires
new-requires g c = let plan = g.L.LaneState.plan in let taken = g.L.LaneState.taken in let key : Opening g.row.L.Denot = record { lane = c.of.result; callers = c.args.callers } in
    let slots : c.push_reserved.new.self.items ≡ Some key.lane.value ∷ [] = c.push_reserved.ensures.items ∙ (ap (λ (xs : List (Option g.row.L.Denot)). xs ++ Some c.args.lane ∷ []) c.in_ok-slots.ensures.items ∙ ap (λ (l : g.row.L.Denot). Some l ∷ []) (sym c.of.ensures)) in
    subst (λ (xs : List (Option g.row.L.Denot)). IsKept plan taken key (opening (0 ∷ []) xs (whole_view key))) (sym slots)
    (opens plan taken key c.requires.callers.1 (λ j. ap (λ (l : g.row.L.Denot). taken l j) c.of.ensures ∙ c.requires.fresh j))
