-- A hop as one of its nodes meets an event.
use Rattle.std.proofs.Common.{◌≡◌, ℕ, List, [], ◌∷◌, ◌++◌, refl, sym, ◌∙◌, ap, subst, append_assoc, append-nil}
use Rattle.relay_base.specs.declared.words.Event.{Event}
use Rattle.relay_base.specs.declared.words.Output.{Output}
use Rattle.section_model.specs.Lane.{fed, part_by}
use Rattle.hop_law.specs.Waiting.{Waiting, messages_to}
use Rattle.hop_law.specs.Hop.{Neighbours, HopStep, near_meets, far_meets, comes_forward, comes_back, joins_forward, joins_back, Course, near_fed, far_fed, come_forward, come_back, hop_step, hop_along, IsFair, AreFair}
use Rattle.hop_law.proofs.Queued.{messages_joined}
use Rattle.hop_law.proofs.Flows.{Comes, elsewhere, first}
use Rattle.hop_law.proofs.Near.{back_is}
use Rattle.hop_law.proofs.Far.{forward_is}
use Rattle.passage_law.specs.Fair.{AreStrange}

-- Fair steps lead from one course to another.
pub record Leads (n : Neighbours) (g h : Course) : Type 0 where
  pub steps : List HopStep
  pub to : hop_along n g steps ≡ h
  pub fair : AreFair n g steps

along_more : (n : Neighbours) (g : Course) (one other : List HopStep) → hop_along n g (one ++ other) ≡ hop_along n (hop_along n g one) other
unfolding hop_along
along_more n g [] other = refl
along_more n g (step ∷ one) other = along_more n (hop_step n g step) one other

fair_more : (n : Neighbours) (g : Course) (one other : List HopStep) → AreFair n g one → AreFair n (hop_along n g one) other → AreFair n g (one ++ other)
unfolding hop_along AreFair
fair_more n g [] other fair more = more
fair_more n g (step ∷ one) other fair more = (fair.0, fair_more n (hop_step n g step) one other fair.1 more)

pub leads_then : (n : Neighbours) (g h k : Course) → Leads n g h → Leads n h k → Leads n g k
leads_then n g h k one other = record {
  steps = one.steps ++ other.steps;
  to = along_more n g one.steps other.steps ∙ (ap (λ (c : Course). hop_along n c other.steps) one.to ∙ other.to);
  fair = fair_more n g one.steps other.steps one.fair (subst (λ (c : Course). AreFair n c other.steps) (sym one.to) other.fair);
}

pub leads_nowhere : (n : Neighbours) (g : Course) → Leads n g g
unfolding hop_along AreFair
leads_nowhere n g = record { steps = []; to = refl; fair = tt }

leads_by : (n : Neighbours) (g : Course) (step : HopStep) → IsFair n g.hop step → Leads n g (hop_step n g step)
unfolding hop_along AreFair
leads_by n g step fair = record { steps = step ∷ []; to = refl; fair = (fair, tt) }

-- Messages of others join a queue.

forward_joins : (n : Neighbours) (g : Course) (queue : List Waiting) → AreStrange g.hop.far queue → Leads n g (forward_is (g.hop.forward ++ queue) g)
forward_joins n g [] strange = subst (λ all. Leads n g (forward_is all g)) (sym (append-nil g.hop.forward)) (leads_nowhere n g)
forward_joins n g (m ∷ queue) strange =
    let next = forward_is (g.hop.forward ++ m ∷ []) g in
    leads_then n g next (forward_is (g.hop.forward ++ m ∷ queue) g) (leads_by n g (joins_forward m) strange.0)
    (subst (λ all. Leads n next (forward_is all g)) (append_assoc g.hop.forward (m ∷ []) queue) (forward_joins n next queue strange.1))

back_joins : (n : Neighbours) (g : Course) (queue : List Waiting) → AreStrange g.hop.near queue → Leads n g (back_is (g.hop.back ++ queue) g)
back_joins n g [] strange = subst (λ all. Leads n g (back_is all g)) (sym (append-nil g.hop.back)) (leads_nowhere n g)
back_joins n g (m ∷ queue) strange =
    let next = back_is (g.hop.back ++ m ∷ []) g in
    leads_then n g next (back_is (g.hop.back ++ m ∷ queue) g) (leads_by n g (joins_back m) strange.0)
    (subst (λ all. Leads n next (back_is all g)) (append_assoc g.hop.back (m ∷ []) queue) (back_joins n next queue strange.1))

-- The connection of the hop meets the event.

near_alone : (n : Neighbours) (g : Course) (event : Event) (rest : List Waiting) → Comes n.far g.hop.near.that g.hop.back event rest → Leads n g (near_fed n event (back_is rest g))
near_alone n g event rest (elsewhere _ is) = leads_by n g (near_meets event) is
near_alone n g event rest (first m _ is) = subst (Leads n g) (ap (λ queue. come_back n queue g) is) (leads_by n g comes_back tt)

far_alone : (n : Neighbours) (g : Course) (event : Event) (rest : List Waiting) → Comes n.near g.hop.far.this g.hop.forward event rest → Leads n g (far_fed n event (forward_is rest g))
far_alone n g event rest (elsewhere _ is) = leads_by n g (far_meets event) is
far_alone n g event rest (first m _ is) = subst (Leads n g) (ap (λ queue. come_forward n queue g) is) (leads_by n g comes_forward tt)

in_order : (point : ℕ) (queue : List Waiting) (one part other : List Output)
    → queue ++ messages_to point one ++ messages_to point part ++ messages_to point other ≡ queue ++ messages_to point (one ++ part ++ other)
in_order point queue one part other =
    let a = messages_to point one in
    let b = messages_to point part in
    let c = messages_to point other in
    ap (λ first. first ++ c) (append_assoc queue a b)
    ∙ (append_assoc queue (a ++ b) c
    ∙ ap (λ more. queue ++ more) (sym (messages_joined point (one ++ part) other ∙ ap (λ first. first ++ c) (messages_joined point one part))))

-- The course after an event at a node, of which the connection's part and other outputs are sent.

abbrev pub near_after : Neighbours → Event → List Output → List Output → List Waiting → Course → Course
near_after n event one other rest g =
    let outs = part_by n.near_ticks event g.hop.near in record {
      hop = record g.hop { near = fed n.near_ticks g.hop.near event; forward = g.hop.forward ++ messages_to n.far (one ++ outs ++ other); back = rest };
      near_outs = g.near_outs ++ outs;
      far_outs = g.far_outs;
    }

abbrev pub far_after : Neighbours → Event → List Output → List Output → List Waiting → Course → Course
far_after n event one other rest g =
    let outs = part_by n.far_ticks event g.hop.far in record {
      hop = record g.hop { far = fed n.far_ticks g.hop.far event; forward = rest; back = g.hop.back ++ messages_to n.near (one ++ outs ++ other) };
      near_outs = g.near_outs;
      far_outs = g.far_outs ++ outs;
    }

pub near_event : (n : Neighbours) (g : Course) (event : Event) (one other : List Output) (rest : List Waiting) → AreStrange g.hop.far (messages_to n.far one)
    → AreStrange g.hop.far (messages_to n.far other) → Comes n.far g.hop.near.that g.hop.back event rest → Leads n g (near_after n event one other rest g)
near_event n g event one other rest strange more comes =
    let a = forward_is (g.hop.forward ++ messages_to n.far one) g in
    let b = near_fed n event (back_is rest a) in
    let c = forward_is (b.hop.forward ++ messages_to n.far other) b in
    subst (λ all. Leads n g (forward_is all b)) (in_order n.far g.hop.forward one (part_by n.near_ticks event g.hop.near) other)
    (leads_then n g a c (forward_joins n g (messages_to n.far one) strange) (leads_then n a b c (near_alone n a event rest comes) (forward_joins n b (messages_to n.far other) more)))

pub far_event : (n : Neighbours) (g : Course) (event : Event) (one other : List Output) (rest : List Waiting) → AreStrange g.hop.near (messages_to n.near one)
    → AreStrange g.hop.near (messages_to n.near other) → Comes n.near g.hop.far.this g.hop.forward event rest → Leads n g (far_after n event one other rest g)
far_event n g event one other rest strange more comes =
    let a = back_is (g.hop.back ++ messages_to n.near one) g in
    let b = far_fed n event (forward_is rest a) in
    let c = back_is (b.hop.back ++ messages_to n.near other) b in
    subst (λ all. Leads n g (back_is all b)) (in_order n.near g.hop.back one (part_by n.far_ticks event g.hop.far) other)
    (leads_then n g a c (back_joins n g (messages_to n.near one) strange) (leads_then n a b c (far_alone n a event rest comes) (back_joins n b (messages_to n.near other) more)))
