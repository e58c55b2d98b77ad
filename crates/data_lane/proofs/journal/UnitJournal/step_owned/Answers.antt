use Rattle.std.proofs.Common.{◌≡◌, ◌+◌, ◌∙◌, ◌++◌, ◌∷◌, [], if◌then◌else◌, sym, ap, subst, refl}
use Rattle.data_lane.specs.Legal.{LaneState}
use Rattle.data_lane.specs.Inner.Lane.{IsLane, reduced}
use Rattle.data_lane.proofs.LegalLemmas.{entry_with, IsWritten, lane-goes}
use Rattle.data_lane.proofs.journal.UnitJournal.step_owned.Goals as goal

pub invariant_of-self-2 : goal.invariant_of-self-2
invariant_of-self-2 c =
    let lane = c.self.inside in
    let after = c.write-written.new.bench in
    let effect = c.in_ok-asked.effect in
    let entry = entry_with lane.head lane.bench c.args.stamp c.args.event c.in_ok-asked.asked effect in
    let written : IsWritten lane.head lane.number c.args.plant.now c.args.event lane.cut lane.bench after effect entry = record {
      of_event = refl;
      asked = c.in_ok-asked.ensures.asked;
      by = c.in_ok-asked.ensures.effect;
      outs = refl;
      processes = c.in_ok-written.ensures.processes;
      ticks = c.write-written.ensures.ticks;
      bounds = c.write-written.ensures.bounds;
    } in
    let journal : c.from.result ≡ lane.journal ++ entry ∷ [] =
    c.from.ensures ∙ c.in_ok-written.ensures.entry ∙ ap (λ l. l ++ entry ∷ []) (c.into_vec-journal.ensures ∙ c.replace.ensures.value) in
    let goes = lane-goes lane.head lane.number lane.journal c.args.plant.now c.args.event lane.cut lane.bench after effect entry c.self.invariant written in
    subst (λ n. IsLane lane.head lane.number c.from.result n after) (sym c.count_after-self-inside.ensures)
    (subst (λ l. IsLane lane.head lane.number l (reduced (reduced lane.cut + (if effect.is_cut then 1 else 0))) after) (sym journal) goes)

pub returns-clause-ok : goal.returns-clause-ok
returns-clause-ok c =
    let lane = c.self.inside in
    let entry = entry_with lane.head lane.bench c.args.stamp c.args.event c.in_ok-asked.asked c.in_ok-asked.effect in
    record {
      entry = entry;
      journal = c.from.ensures ∙ c.in_ok-written.ensures.entry ∙ ap (λ l. l ++ entry ∷ []) (c.into_vec-journal.ensures ∙ c.replace.ensures.value) ∙ ap (λ (l : LaneState). l.journal ++ entry ∷ []) c.self.view_is;
      stamped = refl;
      of_event = refl;
      answered = c.in_ok-asked.ensures.asked;
      head = ap (λ (l : LaneState). l.head) c.self.view_is;
      number = ap (λ (l : LaneState). l.number) c.self.view_is;
    }
