use Rattle.std.proofs.Common.{rules, ◌∷◌, ℕ, List, sym, ap, ◌∙◌, subst, Option, Some}
use Rattle.atomic_table.specs.Table.{rest}
use Rattle.lane_gate.specs.Inner.Views.{IsIdle}
use Rattle.lane_gate.proofs.TurnKeeps.{enters}
use Rattle.lane_gate.proofs.gate.Gate.enter.Goals as goal

pub compare_exchange-found-requires : goal.compare_exchange-found-requires
compare_exchange-found-requires g c = (
  search rules,
  search rules,
  enters g.L.LaneState.plan g.L.LaneState.taken _ g.K.Known.known c.requires.known g.K.Known.callers c.requires.callers _ _ _ c.from.result (subst (λ (n : ℕ). IsIdle c.args.seat.now.me n) (sym c.from.ensures) c.requires.idle),
)

pub exchange-requires : goal.exchange-requires
exchange-requires g c = let took = c.compare_exchange-found.ensures.2.0 c.if-found-ne0.false in let out = ap (λ m. m.1) took.2 in
    (search rules, (Some took.0, out ∙ ap (λ (held : List (ℕ × Option g.row.L.Denot)). (0, Some took.0) ∷ held) (sym (ap rest out))))
