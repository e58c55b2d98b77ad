use Rattle.std.proofs.Common.{◌≡◌, ℕ, List, map, Contains, sym, refl, ap, ◌∙◌, subst, get_or, Option, Some, IsSome}
use mathlib.Core.Option.{some-injective}
use Rattle.std.proofs.lemmas.List.{get_or_default}
use Rattle.lane_gate.specs.declared.pass.Pass.{Pass}
use Rattle.lane_gate.specs.Passes.{count_of}
use Rattle.lane_gate.proofs.PassLists.{counts_pass, counts_each, past_callers}
use Rattle.lane_gate.proofs.TurnKeeps.{closes}
use Rattle.lane_gate.proofs.gate.Gate.close.Goals as goal

pub unwrap-requires : goal.unwrap-requires
unwrap-requires g c = let counts = c.gather-seat.ensures.counts ∙ ap (map count_of) c.into_vec.ensures in
    let end = closes g.L.LaneState.plan g.L.LaneState.taken c.args.self.table.shared.key _ c.gather-seat.result.me.0 _ _ c.gather-seat.ensures.idle
    (λ j lt. subst (λ (cs : List (ℕ × ℕ)). (d : ℕ) × Contains cs (j, d)) (sym counts) (counts_each c.args.self.table.shared.key.callers c.args.passes c.requires.each j lt)) c.close_with-closed.ensures.values.2 in
    let is : c.take-lane.result ≡ Some end.lane = some-injective _ _ (sym c.take-lane.ensures.value ∙ end.home) in subst (λ (o : Option g.row.L.Denot). IsSome o) (sym is) refl

pub returns-clause-plan : goal.returns-clause-plan
returns-clause-plan g c = let counts = c.gather-seat.ensures.counts ∙ ap (map count_of) c.into_vec.ensures in
    let end = closes g.L.LaneState.plan g.L.LaneState.taken c.args.self.table.shared.key _ c.gather-seat.result.me.0 _ _ c.gather-seat.ensures.idle
    (λ j lt. subst (λ (cs : List (ℕ × ℕ)). (d : ℕ) × Contains cs (j, d)) (sym counts) (counts_each c.args.self.table.shared.key.callers c.args.passes c.requires.each j lt)) c.close_with-closed.ensures.values.2 in
    let is : c.take-lane.result ≡ Some end.lane = some-injective _ _ (sym c.take-lane.ensures.value ∙ end.home) in
    let lane : c.unwrap.result ≡ end.lane = cc in ap g.L.LaneState.plan lane ∙ end.planned

pub returns-clause-taken : goal.returns-clause-taken
returns-clause-taken g c k d lt = let counts = c.gather-seat.ensures.counts ∙ ap (map count_of) c.into_vec.ensures in let p : Pass = get_or c.args.passes k d in
    let end = closes g.L.LaneState.plan g.L.LaneState.taken c.args.self.table.shared.key _ c.gather-seat.result.me.0 _ _ c.gather-seat.ensures.idle
    (λ j lt. subst (λ (cs : List (ℕ × ℕ)). (d : ℕ) × Contains cs (j, d)) (sym counts) (counts_each c.args.self.table.shared.key.callers c.args.passes c.requires.each j lt)) c.close_with-closed.ensures.values.2 in
    let is : c.take-lane.result ≡ Some end.lane = some-injective _ _ (sym c.take-lane.ensures.value ∙ end.home) in
    let lane : c.unwrap.result ≡ end.lane = cc in ap (λ (l : g.row.L.Denot). g.L.LaneState.taken l p.number) lane
    ∙ end.counted p.number (count_of p).1 (subst (λ (cs : List (ℕ × ℕ)). Contains cs (count_of p)) (sym counts) (counts_pass c.args.passes k p lt (get_or_default c.args.passes k p d lt)))

pub returns-clause-others : goal.returns-clause-others
returns-clause-others g c link none = let counts = c.gather-seat.ensures.counts ∙ ap (map count_of) c.into_vec.ensures in
    let end = closes g.L.LaneState.plan g.L.LaneState.taken c.args.self.table.shared.key _ c.gather-seat.result.me.0 _ _ c.gather-seat.ensures.idle
    (λ j lt. subst (λ (cs : List (ℕ × ℕ)). (d : ℕ) × Contains cs (j, d)) (sym counts) (counts_each c.args.self.table.shared.key.callers c.args.passes c.requires.each j lt)) c.close_with-closed.ensures.values.2 in
    let is : c.take-lane.result ≡ Some end.lane = some-injective _ _ (sym c.take-lane.ensures.value ∙ end.home) in
    let lane : c.unwrap.result ≡ end.lane = cc in ap (λ (l : g.row.L.Denot). g.L.LaneState.taken l link) lane ∙ end.others link (past_callers c.args.self.table.shared.key.callers c.args.passes link c.requires.each none)
