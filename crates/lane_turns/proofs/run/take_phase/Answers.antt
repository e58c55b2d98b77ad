use Rattle.std.proofs.Common.{List, All, Result, Ok, Err, IfOk, sym, subst}
use Rattle.block_threads.specs.Items.{Beside}
use Rattle.link_threads.specs.Phases.{links_of}
use Rattle.link_threads.specs.Gates.{IsAtOpening, HasTaken}
use Rattle.lane_turns.specs.Turns.{TurnState, plan_of, taken_of}
use Rattle.lane_turns.specs.Rows.{lanes_of}
use Rattle.lane_turns.proofs.RowLemmas.{ends_in_control, row_at_opening, row_goes_on, row_served}
use Rattle.lane_turns.proofs.run.take_phase.Goals as goal

-- what follows from both that is known of a call's answer
if_both : {A E : Type 0} (r : Result A E) (P Q S : A → Type 0) → ((x : A) → P x → Q x → S x) → IfOk r P → IfOk r Q → IfOk r S
if_both (Ok x) P Q S f p q = f x p q
if_both (Err e) P Q S f p q = tt

pub take_row-requires-clause-lanes : goal.take_row-requires-clause-lanes
take_row-requires-clause-lanes g c κs within =
    subst (All (IsAtOpening plan_of taken_of (λ t. t.opening.name) (links_of c.args.head.now c.args.phase))) (sym c.in_ok-turns.ensures) (row_at_opening c.args.head.now c.args.phase c.args.control c.args.lanes)

pub from_turns-requires : goal.from_turns-requires
from_turns-requires g c =
    let taken = subst (λ (l : List TurnState). Beside (HasTaken plan_of taken_of) l c.in_ok-turns-2.turns.items) c.in_ok-turns.ensures c.in_ok-turns-2.ensures in
    ends_in_control c.args.head.now c.args.phase c.args.control c.args.lanes c.in_ok-turns-2.turns.items taken

pub returns : goal.returns
returns g c =
    let taken = subst (λ (l : List TurnState). Beside (HasTaken plan_of taken_of) l c.in_ok-turns-2.turns.items) c.in_ok-turns.ensures c.in_ok-turns-2.ensures in
    if_both c.from_turns.result _ _ _ (λ t apart turns.
    let served = row_served c.args.head.now c.args.phase c.args.control c.args.lanes c.in_ok-turns-2.turns.items turns taken in
    row_goes_on c.args.head.now c.args.phase c.args.control c.args.lanes (lanes_of c.in_ok-turns-2.turns.items) served t.0 t.1 apart) c.from_turns.ensures.apart c.from_turns.ensures.turns
