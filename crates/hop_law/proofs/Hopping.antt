-- The law of one hop, step by step.
use Rattle.std.proofs.Common.{◌≡◌, ◌≢◌, ◌⊎◌, inl, inr, ℕ, true, false, List, [], ◌∷◌, ◌++◌, Option, Some, refl, sym, ◌∙◌, ap, subst}
use Rattle.std.specs.List.{AllByRecursion, list_any}
use Rattle.std.proofs.lemmas.Bool.{false≢true}
use Rattle.std.proofs.lemmas.List.Folds.{list_any-append}
use Rattle.relay_base.specs.declared.words.Event.TheVariants.{Message as Arrived}
use Rattle.relay_base.specs.declared.words.Output.{Output}
use Rattle.section_model.specs.declared.cell.SectionState.{SectionState}
use Rattle.section_model.specs.declared.cell.SectionState.TheVariants.{Asked, Asking, Waning, Gone}
use Rattle.section_model.specs.Parameters.{arrival_in}
use Rattle.section_model.specs.Ends.{wire, DataUnit, Section, Connection, is_reached, is_gone}
use Rattle.section_model.specs.Lane.{part_by, reference_of}
use Rattle.hop_law.specs.Units.{units_on}
use Rattle.connection_law.specs.InStep.{class_at, got_at}
use Rattle.hop_law.specs.TextLaw.{Begins}
use Rattle.hop_law.specs.ClassLaw.{IsOfAClass}
use Rattle.hop_law.specs.LeavingLaw.{this_and_that, that_and_this}
use Rattle.hop_law.specs.ClearingLaw.{is_reset}
use Rattle.hop_law.specs.ClosingLaw.{may_take, is_resetting}
use Rattle.hop_law.specs.Waiting.{Waiting, messages_to, units_waiting}
use Rattle.hop_law.specs.Hop.{Hop, Neighbours, HopStep, near_meets, far_meets, comes_forward, comes_back, joins_forward, joins_back, Course, come_forward, come_back, hop_step, hop_along, begun, IsStrange, IsFair, AreFair, IsBegun, IsCarried, HopLaw}
use Rattle.hop_law.proofs.Along.{on_place, apart_place, neither}
use Rattle.hop_law.proofs.Queues.{all_so, HasReference, NoConfirmFor, NoneConfirm, strange_none, strange_confirms}
use Rattle.hop_law.proofs.Counts.{Counted, counted_none, counted_all}
use Rattle.hop_law.proofs.Flows.{elsewhere, first, gone_only}
use Rattle.hop_law.proofs.Courses.{Pair, near_head, far_head, sent_forward, sent_back, unanswered, Unknown, Known, Held}
use Rattle.hop_law.proofs.Near.{near_held}
use Rattle.hop_law.proofs.Far.{far_held}
use Rattle.hop_law.proofs.CourseJoining.{forward_joined, back_joined}

-- No reset among outputs, and so none among those before.

none_of : (one other : List Output) → list_any is_reset (one ++ other) ≡ false → (list_any is_reset one ≡ false) × (list_any is_reset other ≡ false)
none_of one other none = neither (list_any is_reset one) (list_any is_reset other) (sym (list_any-append is_reset one other) ∙ none)

NoReset : Course → Type 0
NoReset g = (list_any is_reset g.near_outs ≡ false) × (list_any is_reset g.far_outs ≡ false)

before_step : (n : Neighbours) (g : Course) (step : HopStep) → NoReset (hop_step n g step) → NoReset g
unfolding NoReset
before_step n g (near_meets event) none = ((none_of g.near_outs (part_by n.near_ticks event g.hop.near) none.0).0, none.1)
before_step n g (far_meets event) none = (none.0, (none_of g.far_outs (part_by n.far_ticks event g.hop.far) none.1).0)
before_step n g comes_forward none = by_queue g.hop.forward none
  where
    by_queue : (queue : List Waiting) → NoReset (come_forward n queue g) → NoReset g
    by_queue [] none = none
    by_queue (m ∷ more) none = (none.0, (none_of g.far_outs (part_by n.far_ticks (Arrived n.near m.sls m.bytes) g.hop.far) none.1).0)
before_step n g comes_back none = by_queue g.hop.back none
  where
    by_queue : (queue : List Waiting) → NoReset (come_back n queue g) → NoReset g
    by_queue [] none = none
    by_queue (m ∷ more) none = ((none_of g.near_outs (part_by n.near_ticks (Arrived n.far m.sls m.bytes) g.hop.near) none.0).0, none.1)
before_step n g (joins_forward m) none = none
before_step n g (joins_back m) none = none

before_steps : (n : Neighbours) (steps : List HopStep) (g : Course) → NoReset (hop_along n g steps) → NoReset g
unfolding hop_along
before_steps n [] g none = none
before_steps n (step ∷ steps) g none = before_step n g step (before_steps n steps (hop_step n g step) none)

-- What is kept over a step.

-- a course with sections for which it is kept
HeldBy : Neighbours → Pair → Course → Type 0
HeldBy n p g = (x : Section) × (y : Section) × Held n p g x y

step_held : (n : Neighbours) (p : Pair) (g : Course) (step : HopStep) (x y : Section) → Held n p g x y → IsFair n g.hop step → NoReset (hop_step n g step) → HeldBy n p (hop_step n g step)
unfolding HeldBy NoReset
step_held n p g (near_meets event) x y held fair none =
    let after = near_held n p event g g.hop.back x y held (elsewhere event fair) (none_of g.near_outs (part_by n.near_ticks event g.hop.near) none.0).1 in
    (after.0, y, after.1)
step_held n p g (far_meets event) x y held fair none =
    let after = far_held n p event g g.hop.forward x y held (elsewhere event fair) (none_of g.far_outs (part_by n.far_ticks event g.hop.far) none.1).1 in
    (x, after.0, after.1)
step_held n p g comes_forward x y held fair none = by_queue g.hop.forward refl none.1
  where
    by_queue : (queue : List Waiting) → g.hop.forward ≡ queue → list_any is_reset (come_forward n queue g).far_outs ≡ false
        → (x : Section) × (y : Section) × Held n p (come_forward n queue g) x y
    by_queue [] e none = (x, y, held)
    by_queue (m ∷ more) e none =
        let event = Arrived n.near m.sls m.bytes in
        let after = far_held n p event g more x y held (first m more e) (none_of g.far_outs (part_by n.far_ticks event g.hop.far) none).1 in
        (x, after.0, after.1)
step_held n p g comes_back x y held fair none = by_queue g.hop.back refl none.0
  where
    by_queue : (queue : List Waiting) → g.hop.back ≡ queue → list_any is_reset (come_back n queue g).near_outs ≡ false
        → (x : Section) × (y : Section) × Held n p (come_back n queue g) x y
    by_queue [] e none = (x, y, held)
    by_queue (m ∷ more) e none =
        let event = Arrived n.far m.sls m.bytes in
        let after = near_held n p event g more x y held (first m more e) (none_of g.near_outs (part_by n.near_ticks event g.hop.near) none).1 in
        (after.0, y, after.1)
step_held n p g (joins_forward m) x y held fair none = (x, y, forward_joined n p g m x y held fair)
step_held n p g (joins_back m) x y held fair none = (x, y, back_joined n p g m x y held fair)

held_along : (n : Neighbours) (p : Pair) (steps : List HopStep) (g : Course) (x y : Section) → Held n p g x y → AreFair n g steps → NoReset (hop_along n g steps)
    → HeldBy n p (hop_along n g steps)
unfolding HeldBy hop_along AreFair
held_along n p [] g x y held fair none = (x, y, held)
held_along n p (step ∷ steps) g x y held fair none =
    let next = hop_step n g step in
    let after = step_held n p g step x y held fair.0 (before_steps n steps next none) in held_along n p steps next after.0 after.1 after.2 fair.1 none

-- Where the hop begins.

pair_of : Hop → Section → Section → Pair
pair_of h asking asked = record {
  near = asking.head.mine;
  far = asked.head.mine;
  near_sls = asking.head.sls;
  far_sls = asked.head.sls;
  near_other = reference_of h.near.this;
  far_other = reference_of h.far.that;
}

all_strange_none : (c : Connection) (reference : ℕ) (queue : List Waiting) → HasReference c (Some reference) → AllByRecursion (λ (m : Waiting). IsStrange c (arrival_in m.bytes)) queue
    → units_waiting reference queue ≡ []
unfolding units_waiting
all_strange_none c reference [] has strange = refl
all_strange_none c reference (m ∷ queue) has strange =
    rw (strange_none c reference m.bytes has strange.0, all_strange_none c reference queue has strange.1) refl

all_strange_quiet : (c : Connection) (reference : Option ℕ) (queue : List Waiting) → HasReference c reference → AllByRecursion (λ (m : Waiting). IsStrange c (arrival_in m.bytes)) queue
    → NoneConfirm reference queue
all_strange_quiet c reference queue has strange =
    all_so (λ (m : Waiting). IsStrange c (arrival_in m.bytes)) (λ (m : Waiting). NoConfirmFor reference (arrival_in m.bytes))
    (λ m. strange_confirms c reference (arrival_in m.bytes) has) queue strange

unknown_not_reset : (s : SectionState) → (is_reached s ≡ false) ⊎ (s ≡ Gone) → is_resetting s ≡ false
unknown_not_reset s (inl unreached) = by_state s unreached
  where
    by_state : (s : SectionState) → is_reached s ≡ false → is_resetting s ≡ false
    by_state Asking e = refl
    by_state Waning e = refl
    by_state _ e = absurd (false≢true (sym e))
unknown_not_reset s (inr gone) = ap is_resetting gone

unknown_not_asked : (s : SectionState) → (is_reached s ≡ false) ⊎ (s ≡ Gone) → s ≢ Asked
unknown_not_asked s (inl unreached) = λ asked. false≢true (sym unreached ∙ ap is_reached asked)
unknown_not_asked s (inr gone) = λ asked. false≢true (sym (ap is_gone asked) ∙ ap is_gone gone)

begun_held : (n : Neighbours) (h : Hop) → (b : IsBegun n h) → Held n (pair_of h b.asking b.asked) (begun h) b.asking b.asked
unfolding pair_of messages_to units_waiting units_on
begun_held n h b =
    let p = pair_of h b.asking b.asked in
    let unknown = waiting b.waits in
    let none_back = all_strange_none h.near b.asking.head.mine h.back (inr (ap reference_of b.is_asking)) b.back in record {
      within = b.references;
      near = record {
        sides = that_and_this;
        is = b.is_asking;
        sound = record {
          in_step = b.in_step.0;
          class = subst IsOfAClass (sym (b.in_step.0.1 ∙ ap class_at b.is_asking)) b.class.0;
          early = (λ early. b.nothing.0.0, λ early. b.nothing.0.1);
          references = b.other_references.0;
        };
        apart = apart_place (record b.asking.head { point = n.far }) (near_head n p) h.near.this refl b.apart.0;
        other_reference = refl;
        mine = refl;
        sls = refl;
        not_reset = unknown_not_reset b.asking.head.state unknown;
      };
      far = record {
        sides = this_and_that;
        is = b.is_asked;
        sound = record {
          in_step = b.in_step.1;
          class = subst IsOfAClass (sym (ap class_at b.is_asked)) b.class.1;
          early = (λ early. b.nothing.1.0, λ early. b.nothing.1.1);
          references = b.other_references.1;
        };
        apart = apart_place b.asked.head (far_head n p) h.far.that (sym b.point) b.apart.1;
        other_reference = refl;
        mine = refl;
        sls = refl;
        not_reset = ap is_resetting b.state;
      };
      not_asked = unknown_not_asked b.asking.head.state unknown;
      reached = ap is_reached b.state;
      point = b.point;
      other = b.named;
      forward_on = refl;
      back_on = refl;
      forward_quiet = all_strange_quiet h.far p.far_other h.forward (inr refl) b.forward;
      back_quiet = all_strange_quiet h.near p.near_other h.back (inl refl) b.back;
      phase = inl (record {
        state = unknown;
        nothing = b.nothing.0;
        none_on = λ head. refl;
        none_sent = refl;
        none_came = sym (ap got_at b.is_asked) ∙ b.nothing.1.0;
        none_waits = all_strange_none h.far b.asked.head.mine h.forward (inl (ap reference_of b.is_asked)) b.forward;
        all_wait = λ _. sym none_back;
        answer = λ _.
            unanswered (inl b.state) b.nothing.1 none_back (all_strange_quiet h.near (Some b.asking.head.mine) h.back (inr (ap reference_of b.is_asking)) b.back);
      });
    }
  where
    waiting : (is_reached b.asking.head.state ≡ false) ⊎ (is_gone b.asking.head.state ≡ true) → (is_reached b.asking.head.state ≡ false) ⊎ (b.asking.head.state ≡ Gone)
    waiting (inl unreached) = inl unreached
    waiting (inr gone) = inr (gone_only b.asking.head.state gone)

-- Where the steps end.

is_carried : (reference : ℕ) (s r : Section) (outs : List Output) (sent : List DataUnit) (queue : List Waiting) → r.head.mine ≡ reference → units_on s.head outs ≡ sent
    → Counted reference r sent queue → IsCarried outs (wire s) (wire r) queue
is_carried reference s r outs sent queue mine on k = (
  subst (Begins r.windows.got) (sym on) k.begins,
  λ may. on ∙ (k.rest may ∙ ap (λ (k : ℕ). r.windows.got ++ units_waiting k queue) (sym mine)),
)

forward_carried : (n : Neighbours) (p : Pair) (g : Course) (x y : Section) → Held n p g x y → IsCarried g.near_outs (wire x) (wire y) g.hop.forward
forward_carried n p g x y held = by_phase held.phase
  where
    by_phase : Unknown n p g x y ⊎ Known n p g x y → IsCarried g.near_outs (wire x) (wire y) g.hop.forward
    by_phase (inl u) = is_carried p.far x y g.near_outs [] g.hop.forward held.far.mine (u.none_on x.head) (counted_none p.far y [] g.hop.forward u.none_came refl u.none_waits)
    by_phase (inr k) =
        is_carried p.far x y g.near_outs (sent_forward n p g.near_outs) g.hop.forward held.far.mine
        (on_place (near_head n p) x.head g.near_outs k.point held.near.sls k.other ∙ sym held.forward_on) k.forward.counted

back_carried : (n : Neighbours) (p : Pair) (g : Course) (x y : Section) → Held n p g x y → IsCarried g.far_outs (wire y) (wire x) g.hop.back
back_carried n p g x y held =
    is_carried p.near y x g.far_outs (sent_back n p g.far_outs) g.hop.back held.near.mine
    (on_place (far_head n p) y.head g.far_outs held.point held.far.sls held.other ∙ sym held.back_on) (by_phase held.phase)
  where
    none_came : Unknown n p g x y → x.windows.got ≡ []
    none_came u = sym (ap got_at held.near.is) ∙ u.nothing.1

    by_state : Unknown n p g x y → (is_reached x.head.state ≡ false) ⊎ (x.head.state ≡ Gone) → Counted p.near x (sent_back n p g.far_outs) g.hop.back
    by_state u (inl unreached) = counted_all p.near x (sent_back n p g.far_outs) g.hop.back (none_came u) (u.all_wait unreached)
    by_state u (inr gone) = record {
      begins = record { more = sent_back n p g.far_outs; is = sym (ap (λ (got : List DataUnit). got ++ sent_back n p g.far_outs) (none_came u)) };
      rest = λ may. absurd (false≢true (sym (ap may_take gone) ∙ may));
    }

    by_phase : Unknown n p g x y ⊎ Known n p g x y → Counted p.near x (sent_back n p g.far_outs) g.hop.back
    by_phase (inl u) = by_state u u.state
    by_phase (inr k) = k.back.counted

both_carried : (n : Neighbours) (p : Pair) (g : Course) → HeldBy n p g
    → IsCarried g.near_outs g.hop.near.that g.hop.far.this g.hop.forward × IsCarried g.far_outs g.hop.far.this g.hop.near.that g.hop.back
unfolding HeldBy
both_carried n p g by =
    let x = by.0 in
    let y = by.1 in
    let held = by.2 in (
      subst (λ e. IsCarried g.near_outs e g.hop.far.this g.hop.forward) (sym held.near.is)
          (subst (λ e. IsCarried g.near_outs (wire x) e g.hop.forward) (sym held.far.is) (forward_carried n p g x y held)),
      subst (λ e. IsCarried g.far_outs e g.hop.near.that g.hop.back) (sym held.far.is)
          (subst (λ e. IsCarried g.far_outs (wire y) e g.hop.back) (sym held.near.is) (back_carried n p g x y held)),
    )

pub one_hop : HopLaw
unfolding NoReset
one_hop n h steps b fair none_near none_far =
    let p = pair_of h b.asking b.asked in
    both_carried n p (hop_along n (begun h) steps) (held_along n p steps (begun h) b.asking b.asked (begun_held n h b) fair (none_near, none_far))
