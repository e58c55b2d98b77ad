use Rattle.std.proofs.Common.{◌≡◌, ap, sym, ◌∙◌, rules, Global, Vec}
use Rattle.std.specs.List.{list_all}
use Rattle.std.proofs.lemmas.List.Folds.{list_all-map}
use Rattle.lane_events.specs.Pending.{Pending, is_done}
use Rattle.lane_events.proofs.lane_events.LaneEvents.all_taken.Goals as goal

pub returns : goal.returns
returns c =
    let each : c.are_all_done.result ≡ list_all (λ (v : Vec Pending Global). list_all is_done v.items) c.self.inside.phases.items = search rules in
    each ∙ sym (list_all-map (list_all is_done) (λ (v : Vec Pending Global). v.items) c.self.inside.phases.items) ∙ ap (λ w. list_all (list_all is_done) w.phases) c.self.view_is
