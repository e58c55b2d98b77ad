use Rattle.std.proofs.Common.{rules, ◌≡◌, [], ◌∷◌, ◌++◌, map, sym, ap, ◌∙◌, Option, Some, append-nil}
use Rattle.std.specs.Option.{option_to_list}
use Rattle.std.proofs.lemmas.List.Elements.{All-pop}
use Rattle.atomic_table.specs.Table.{Me}
use Rattle.lane_gate.specs.declared.table.View.{View}
use Rattle.lane_gate.specs.declared.pass.Pass.{Pass}
use Rattle.lane_gate.specs.Gates.{IsPassOf}
use Rattle.lane_gate.specs.Passes.{count_of}
use Rattle.lane_gate.proofs.PassLists.{seat_counts, taken_back}
use Rattle.lane_gate.proofs.TurnKeeps.{glues}
use Rattle.lane_gate.proofs.gate.Gate.gather.Goals as goal

pub loop-pass-init : goal.loop-pass-init
loop-pass-init g c = let gate = c.args.self.now in let rest = c.pop.new.self.items in let pass = c.unwrap.result in let view = c.into_seat-all.ensures.view in
    let is : c.args.passes.items ≡ rest ++ pass ∷ [] = c.pop.ensures.items ∙ ap (λ (o : Option Pass). rest ++ option_to_list o) c.unwrap.ensures in
    let own = All-pop (IsPassOf gate) c.args.passes.items rest (Some pass) is c.requires.own in let counts = seat_counts pass c.into_seat-all.result.me.0 view.0 view.1.0 in record {
      own = own.0;
      table = c.into_seat-all.ensures.table ∙ own.1;
      empty_handed = view.1.1;
      idle = ap (λ (v : View). v.noted) view.1.0;
      counts = sym (append-nil (map count_of c.args.passes.items)) ∙ taken_back c.args.passes.items rest pass c.into_seat-all.result.me.0.counts [] c.into_seat-all.result.me.0.counts is counts (sym (append-nil c.into_seat-all.result.me.0.counts));
    }

pub join_seat-requires : goal.join_seat-requires
join_seat-requires g c = let gate = c.args.self.now in let rest = c.pop-in-loop-pass.new.self.items in let pass = c.in-Some.pass in let view = c.into_seat-seat.ensures.view in let inv = c.loop-pass.invariant in
    let own = All-pop (IsPassOf gate) c.loop-pass.passes.items rest (Some pass) c.in-Some.ensures.items inv.own in (
      inv.table,
      c.into_seat-seat.ensures.table ∙ own.1,
      view.1.1,
      search rules,
      glues g.L.LaneState.plan g.L.LaneState.taken gate.table.shared.key _ _ _ _ inv.idle (ap (λ (v : View). v.noted) view.1.0),
    )

pub loop-pass-preserved : goal.loop-pass-preserved
loop-pass-preserved g c = let gate = c.args.self.now in let rest = c.pop-in-loop-pass.new.self.items in let pass = c.in-Some.pass in let view = c.into_seat-seat.ensures.view in let inv = c.loop-pass.invariant in
    let own = All-pop (IsPassOf gate) c.loop-pass.passes.items rest (Some pass) c.in-Some.ensures.items inv.own in let now = c.join_seat.ensures.2 in
    let counts = seat_counts pass c.into_seat-seat.result.me.0 view.0 view.1.0 in record {
      own = own.0;
      table = c.join_seat.ensures.0 ∙ inv.table;
      empty_handed = ap (λ (m : Me (Option g.row.L.Denot) View). m.1) now ∙ inv.empty_handed;
      idle = ap (λ (m : Me (Option g.row.L.Denot) View). m.0.noted) now ∙ inv.idle;
      counts = inv.counts ∙ taken_back c.loop-pass.passes.items rest pass c.into_seat-seat.result.me.0.counts c.loop-pass.all.me.0.counts c.join_seat.new.seat.me.0.counts c.in-Some.ensures.items counts
          (ap (λ (m : Me (Option g.row.L.Denot) View). m.0.counts) now);
    }
