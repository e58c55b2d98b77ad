use Rattle.std.proofs.Common.{rules, ◌≡◌, ℕ, ◌+◌, ◌-◌, List, [], ◌∷◌, ◌++◌, All, sym, ap, ◌∙◌, subst, arith, Option}
use Rattle.std.proofs.lemmas.List.Elements.{All-push}
use Rattle.atomic_table.specs.Table.{Me}
use Rattle.lane_gate.specs.declared.table.View.{View}
use Rattle.lane_gate.specs.declared.pass.Pass.{Pass}
use Rattle.lane_gate.specs.Gates.{callers_of, IsPassOf, AreAllPasses, AreNumbered}
use Rattle.lane_gate.specs.Passes.{done_of}
use Rattle.lane_gate.specs.Inner.Views.{only_view, done_in, first_count}
use Rattle.lane_gate.proofs.CallerCounts.{fresh_step}
use Rattle.lane_gate.proofs.PassLists.{one_more, each_there, front_idle, behind_new}
use Rattle.lane_gate.proofs.TurnKeeps.{cuts}
use Rattle.lane_gate.proofs.gate.Gate.hand_out.Goals as goal

pub split_seat-rest-requires : goal.split_seat-rest-requires
split_seat-rest-requires g c = let view = c.loop-number.invariant.view in let number : ℕ = c.loop-number.number in let callers : ℕ = c.args.callers in (
  search rules,
  search rules,
  cuts g.L.LaneState.plan g.L.LaneState.taken c.args.self.now.table.shared.key _ number (callers - (number + 1)) _ (ap (λ (m : Me (Option g.row.L.Denot) View). m.0.noted) view)
      (ap (λ (m : Me (Option g.row.L.Denot) View). m.0.counts) view ∙ fresh_step number (callers - number) (callers - (number + 1)) (omega arith)),
)

pub new-requires : goal.new-requires
new-requires g c = let number : ℕ = c.loop-number.number in let callers : ℕ = c.args.callers in
    (front_idle _ _ number (callers - number) (callers - (number + 1)) (omega arith) c.loop-number.invariant.view c.split_seat-rest.ensures.2).0

pub loop-number-preserved : goal.loop-number-preserved
loop-number-preserved g c = let view = c.loop-number.invariant.view in let number : ℕ = c.loop-number.number in let callers : ℕ = c.args.callers in let gate = c.args.self.now in
    let split = c.split_seat-rest.ensures in let pass = c.new.result in let passes = c.loop-number.passes.items in let size : callers - number ≡ callers - (number + 1) + 1 = omega arith in record {
      table = search rules;
      view = split.4 ∙ behind_new _ number (callers - number) (callers - (number + 1)) size view;
      own = subst (All (IsPassOf gate)) (sym c.push_reserved.ensures.items) (All-push (IsPassOf gate) passes pass c.loop-number.invariant.own (c.new.ensures.1 ∙ (split.0 ∙ c.loop-number.invariant.table)));
      numbered = subst (AreNumbered (number + 1)) (sym c.push_reserved.ensures.items) (one_more number passes pass c.loop-number.invariant.numbered c.new.ensures.0);
      unused = subst (All (λ (p : Pass). done_of p ≡ 0)) (sym c.push_reserved.ensures.items) (All-push (λ (p : Pass). done_of p ≡ 0) passes pass c.loop-number.invariant.unused
          (ap (λ (vs : List View). done_in (only_view vs)) c.new.ensures.2 ∙ (front_idle _ _ number (callers - number) (callers - (number + 1)) size view split.2).1));
      room = search rules;
    }

pub returns-clause-all : goal.returns-clause-all
returns-clause-all g c = let gate = c.args.self.now in let number : ℕ = c.loop-number.number in let callers = c.requires.callers in
    let all : number + 1 ≡ callers_of gate = omega arith in let last : c.new-2.result.number ≡ number = (let n = c.new-2.ensures.0 in omega arith) in
    subst (AreAllPasses gate) (sym c.push_reserved-2.ensures.items) record {
      own = All-push (IsPassOf gate) c.loop-number.passes.items c.new-2.result c.loop-number.invariant.own (c.new-2.ensures.1 ∙ c.loop-number.invariant.table);
      each = each_there (callers_of gate) (c.loop-number.passes.items ++ c.new-2.result ∷ [])
          (subst (λ (n : ℕ). AreNumbered n (c.loop-number.passes.items ++ c.new-2.result ∷ [])) all (one_more number c.loop-number.passes.items c.new-2.result c.loop-number.invariant.numbered last));
    }

pub returns-clause-numbered : goal.returns-clause-numbered
returns-clause-numbered g c = let number : ℕ = c.loop-number.number in let all : number + 1 ≡ c.args.callers = omega arith in let last : c.new-2.result.number ≡ number = (let n = c.new-2.ensures.0 in omega arith) in
    subst (λ (n : ℕ). AreNumbered n c.push_reserved-2.new.self.items) all (subst (AreNumbered (number + 1)) (sym c.push_reserved-2.ensures.items)
    (one_more number c.loop-number.passes.items c.new-2.result c.loop-number.invariant.numbered last))

pub returns-clause-unused : goal.returns-clause-unused
returns-clause-unused g c = let number : ℕ = c.loop-number.number in let callers : ℕ = c.args.callers in
    subst (All (λ (p : Pass). done_of p ≡ 0)) (sym c.push_reserved-2.ensures.items) (All-push (λ (p : Pass). done_of p ≡ 0) c.loop-number.passes.items c.new-2.result c.loop-number.invariant.unused
    (ap (λ (vs : List View). done_in (only_view vs)) c.new-2.ensures.2 ∙ (ap (λ (m : Me (Option g.row.L.Denot) View). done_in m.0) c.loop-number.invariant.view ∙ ap (λ (cs : List (ℕ × ℕ)). (first_count cs).1) (fresh_step number (callers - number) 0 (omega arith)))))
