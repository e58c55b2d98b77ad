use Rattle.std.proofs.Common.{Result, Ok, Err, IfOk, subst}
use Rattle.lane_gate.specs.Gates.{origin_of}
use Rattle.block_threads.specs.Items.{Beside}
use Rattle.link_threads.specs.Gates.{HasTaken}
use Rattle.block_threads.proofs.BesideLemmas.{beside_map}
use Rattle.link_threads.proofs.run.take_events.Goals as goal

-- what follows from a call's answer
if_ok : {A E : Type 0} (r : Result A E) (P Q : A → Type 0) → ((x : A) → P x → Q x) → IfOk r P → IfOk r Q
if_ok (Ok x) P Q f h = f x h
if_ok (Err e) P Q f h = tt

pub returns : goal.returns
returns g c =
    let Has = HasTaken g.L.LaneState.plan g.L.LaneState.taken in
    if_ok c.close_all.result _ _ (λ v closed.
    subst (λ l. Beside Has l v.items) c.in_ok-doors.ensures.origins (beside_map Has (λ door. origin_of door.gate) c.in_ok-doors.doors.items v.items closed)) c.close_all.ensures
