-- The far connection of a hop meets an event.
use Rattle.std.proofs.Common.{◌≡◌, ◌≢◌, ◌⊎◌, inl, inr, ℕ, ◌<◌, Bool, true, false, List, [], ◌∷◌, ◌++◌, Option, Some, None, refl, sym, ◌∙◌, ap, subst}
use Rattle.std.specs.List.{list_any}
use Rattle.std.proofs.lemmas.Bool.{false≢true}
use Rattle.relay_base.specs.declared.limits.TheConstants.{REFERENCES}
use Rattle.relay_base.specs.declared.words.Event.{Event}
use Rattle.section_model.specs.declared.cell.Occasion.TheVariants as on
use Rattle.section_model.specs.declared.cell.SectionState.{SectionState}
use Rattle.section_model.specs.declared.cell.SectionState.TheVariants.{Asked, Gone}
use Rattle.section_model.specs.Parameters.{Arrival, arrival_in}
use Rattle.section_model.specs.Ends.{DataUnit, SectionHead, Section, Connection, is_gone, is_connected}
use Rattle.section_model.specs.Lane.{fed, part_by}
use Rattle.hop_law.proofs.Reading.{joined_on}
use Rattle.connection_law.specs.InStep.{class_at}
use Rattle.hop_law.specs.ClearingLaw.{is_reset}
use Rattle.hop_law.specs.Waiting.{Waiting, messages_to, units_waiting}
use Rattle.hop_law.specs.Hop.{Neighbours, Course, far_fed}
use Rattle.hop_law.proofs.Along.{apart_place}
use Rattle.hop_law.proofs.Lists.{all_joined}
use Rattle.hop_law.proofs.Queued.{waiting_joined}
use Rattle.hop_law.specs.SectionLaw.{is_early}
use Rattle.hop_law.specs.Going.{BringsOfClass, BringOfClass}
use Rattle.hop_law.specs.Unset.{Nothing}
use Rattle.hop_law.specs.Setup.{IsRefusal, AnswersOnce, silent, accepts, refuses}
use Rattle.hop_law.proofs.ComingIn.{units_come_in}
use Rattle.hop_law.proofs.Going.{sends_of_class, units_go}
use Rattle.hop_law.proofs.Unset.{nothing_passes}
use Rattle.hop_law.proofs.Setup.{sends_no_confirm, asked_answers}
use Rattle.hop_law.proofs.Queues.{units_joined, none_joined, none_first, none_of_class, NoConfirmFor, NoneConfirm, none_confirm}
use Rattle.hop_law.proofs.Sides.{own_reference, Moved, side_moves}
use Rattle.hop_law.proofs.Flows.{Flows, Comes, comes_none, comes_no_confirm, brought_none, fits_event, gone_only, flows_sent, flows_received}
use Rattle.hop_law.proofs.Courses.{Pair, near_head, far_head, NearSide, sent_forward, sent_back, IsConfirmIn, HasConfirm, Answering, unanswered, accepted, Unknown, Known, Held}

abbrev pub forward_is : List Waiting → Course → Course
forward_is rest g = record g { hop = record g.hop { forward = rest } }

abbrev FarMoved : Neighbours → Pair → Event → Course → Section → Type 0
FarMoved n p event g y = Moved (far_head n p) p.far_other (λ c. c.this) (λ c. c.that) (fed n.far_ticks g.hop.far event) y

far_moved : (n : Neighbours) (p : Pair) (event : Event) (g : Course) (rest : List Waiting) (x y : Section) → Held n p g x y → Comes n.near g.hop.far.this g.hop.forward event rest
    → list_any is_reset (part_by n.far_ticks event g.hop.far) ≡ false → FarMoved n p event g y
far_moved n p event g rest x y held comes no_reset =
    side_moves n.far_ticks event (far_head n p) p.far_other (λ c. c.this) (λ c. c.that) g.hop.far y held.far
    (comes_no_confirm n.near g.hop.far.this g.hop.forward rest event p.far_other comes held.forward_quiet).0 no_reset

-- What the section sends that was asked, and what one sends that wasn't or has answered.

is_waiting : SectionState → Bool
is_waiting Asked = true
is_waiting _ = false

asked_or_not : (s : SectionState) → (s ≡ Asked) ⊎ (s ≢ Asked)
unfolding is_waiting
asked_or_not Asked = inl refl
asked_or_not _ = inr (λ e. false≢true (ap is_waiting e))

far_answers : (n : Neighbours) (p : Pair) (event : Event) (g : Course) (x y : Section) → Held n p g x y → (moved : FarMoved n p event g y) → y.head.state ≡ Asked
    → AnswersOnce y.head moved.after.section.head (messages_to n.near (part_by n.far_ticks event g.hop.far))
far_answers n p event g x y held moved asked =
    let c = g.hop.far in
    let side = held.far in
    subst (λ (point : ℕ). AnswersOnce y.head moved.after.section.head (messages_to point (part_by n.far_ticks event c))) held.point
    (asked_answers n.far_ticks c event (λ c. c.this) (λ c. c.that) y moved.after.section side.sound side.sides side.is asked moved.after.is
    (subst (λ (k : ℕ). k < REFERENCES) (sym side.mine) held.within.1) (subst (λ (k : ℕ). k < REFERENCES) (sym held.other) held.within.0)
    (apart_place (far_head n p) y.head (fed n.far_ticks c event).that held.point moved.side.apart))

refusal_quiet : (reference : Option ℕ) (a : Option Arrival) → IsRefusal a → NoConfirmFor reference a
refusal_quiet reference None is = tt
refusal_quiet reference (Some a) is = λ confirms names. differ (sym is ∙ confirms)
  where
    differ : on.Cref ≡ on.Cc → ⊥
    differ e = cc

near_differs : (n : Neighbours) (p : Pair) (c : Connection) (x : Section) → NearSide n p c x → p.near_other ≢ Some p.near
near_differs n p c x side =
    λ e. side.sound.references (side.other_reference ∙ (e ∙ sym (own_reference (near_head n p) p.near_other (λ c. c.that) (λ c. c.this) c x side)))

-- none of it is CC for the near connection's other end
far_quiet : (n : Neighbours) (p : Pair) (event : Event) (g : Course) (x y : Section) → Held n p g x y → FarMoved n p event g y
    → NoneConfirm p.near_other (messages_to n.near (part_by n.far_ticks event g.hop.far))
far_quiet n p event g x y held moved = by_state (asked_or_not y.head.state)
  where
    by_answer : AnswersOnce y.head moved.after.section.head (messages_to n.near (part_by n.far_ticks event g.hop.far))
        → NoneConfirm p.near_other (messages_to n.near (part_by n.far_ticks event g.hop.far))
    by_answer (silent same none) = subst (NoneConfirm p.near_other) (sym none) tt
    by_answer (accepts m a up is arrives own) =
        subst (NoneConfirm p.near_other) (sym is) (
          subst (NoConfirmFor p.near_other) (sym arrives)
              (λ confirms names. near_differs n p g.hop.near x held.near (names ∙ ap (λ (dlr : ℕ). Some dlr) (own.named ∙ held.other))),
          tt,
        )
    by_answer (refuses m gone is refusal) = subst (NoneConfirm p.near_other) (sym is) (refusal_quiet p.near_other (arrival_in m.bytes) refusal, tt)

    by_state : (y.head.state ≡ Asked) ⊎ (y.head.state ≢ Asked) → NoneConfirm p.near_other (messages_to n.near (part_by n.far_ticks event g.hop.far))
    by_state (inl asked) = by_answer (far_answers n p event g x y held moved asked)
    by_state (inr not) =
        none_confirm p.near_other (messages_to n.near (part_by n.far_ticks event g.hop.far))
        (sends_no_confirm n.far_ticks g.hop.far event (λ c. c.this) (λ c. c.that) y (far_head n p) held.far.sides held.far.is not held.far.apart)

-- What waits for a near section that asks.

confirm_joins : (n : Neighbours) (p : Pair) (class : ℕ) (back : List Waiting) (m : Waiting) → units_waiting p.near back ≡ [] → NoneConfirm (Some p.near) back
    → IsConfirmIn n p class (arrival_in m.bytes) → HasConfirm n p class (back ++ m ∷ [])
confirm_joins n p class [] m none quiet is = inl (is, tt)
confirm_joins n p class (b ∷ back) m none quiet is =
    let parts = none_first p.near b back none in inr (parts.0, quiet.0, confirm_joins n p class back m parts.1 quiet.1 is)

pub has_joined : (n : Neighbours) (p : Pair) (class : ℕ) (back more : List Waiting) → HasConfirm n p class back → BringOfClass p.near class more → HasConfirm n p class (back ++ more)
has_joined n p class [] more has of_class = absurd has
has_joined n p class (m ∷ back) more (inl is) of_class =
    inl (is.0, all_joined (λ (m : Waiting). BringsOfClass p.near class (arrival_in m.bytes)) back more is.1 of_class)
has_joined n p class (m ∷ back) more (inr other) of_class = inr (other.0, other.1, has_joined n p class back more other.2 of_class)

unset_not : (s : SectionState) → (s ≡ Asked) ⊎ (s ≡ Gone) → is_connected s ≡ false
unset_not s (inl asked) = ap is_connected asked
unset_not s (inr gone) = ap is_connected gone

answering_after : (n : Neighbours) (p : Pair) (event : Event) (g : Course) (x y : Section) → Held n p g x y → (moved : FarMoved n p event g y) → Answering n p g.hop.far y g.hop.back
    → Answering n p (fed n.far_ticks g.hop.far event) moved.after.section (g.hop.back ++ messages_to n.near (part_by n.far_ticks event g.hop.far))
answering_after n p event g x y held moved (unanswered state nothing none quiet) = by_state state
  where
    later : Section
    later = moved.after.section

    more : List Waiting
    more = messages_to n.near (part_by n.far_ticks event g.hop.far)

    passes : Nothing (fed n.far_ticks g.hop.far event) (part_by n.far_ticks event g.hop.far)
    passes = nothing_passes n.far_ticks g.hop.far event (λ c. c.this) (λ c. c.that) y held.far.sound held.far.sides held.far.is (unset_not y.head.state state) nothing

    still : (later.head.state ≡ Asked) ⊎ (later.head.state ≡ Gone) → NoneConfirm (Some p.near) more → Answering n p (fed n.far_ticks g.hop.far event) later (g.hop.back ++ more)
    still state more_quiet =
        unanswered state passes.came (none_joined p.near g.hop.back more none (passes.waits p.near n.near))
        (all_joined (λ (m : Waiting). NoConfirmFor (Some p.near) (arrival_in m.bytes)) g.hop.back more quiet more_quiet)

    by_answer : y.head.state ≡ Asked → AnswersOnce y.head later.head more → Answering n p (fed n.far_ticks g.hop.far event) later (g.hop.back ++ more)
    by_answer asked (silent same empty) = still (inl (ap (λ (h : SectionHead). h.state) same ∙ asked)) (subst (NoneConfirm (Some p.near)) (sym empty) tt)
    by_answer asked (accepts m a up is arrives own) =
        accepted (ap is_early up)
        (subst (λ (more : List Waiting). HasConfirm n p later.head.class (g.hop.back ++ more)) (sym is)
        (confirm_joins n p later.head.class g.hop.back m none quiet
        (subst (IsConfirmIn n p later.head.class) (sym arrives)
        (record { confirms = own.confirms; named = own.named ∙ held.other; own = own.own ∙ held.far.mine; class = own.class }))))
    by_answer asked (refuses m gone is refusal) =
        still (inr gone) (subst (NoneConfirm (Some p.near)) (sym is) (refusal_quiet (Some p.near) (arrival_in m.bytes) refusal, tt))

    by_state : (y.head.state ≡ Asked) ⊎ (y.head.state ≡ Gone) → Answering n p (fed n.far_ticks g.hop.far event) later (g.hop.back ++ more)
    by_state (inl asked) = by_answer asked (far_answers n p event g x y held moved asked)
    by_state (inr gone) =
        still (inr (gone_only later.head.state (moved.after.gone (ap is_gone gone))))
        (none_confirm (Some p.near) more
        (sends_no_confirm n.far_ticks g.hop.far event (λ c. c.this) (λ c. c.that) y (far_head n p) held.far.sides held.far.is
        (λ asked. false≢true (sym (ap is_gone asked) ∙ ap is_gone gone)) held.far.apart))
answering_after n p event g x y held moved (accepted set has) =
    let later = moved.after.section in
    let more = messages_to n.near (part_by n.far_ticks event g.hop.far) in
    let class = moved.after.class set in
    accepted class.set
    (has_joined n p later.head.class g.hop.back more (subst (λ (class : ℕ). HasConfirm n p class g.hop.back) (sym class.class) has)
    (subst (λ (class : ℕ). BringOfClass p.near class more) (ap class_at moved.after.is)
    (sends_of_class n.far_ticks g.hop.far event (λ c. c.this) (λ c. c.that) (far_head n p) p.near held.far.sound held.far.sides held.far.apart moved.side.apart)))

-- The near section doesn't know the far one, or is over and never knew it.

none_comes : (n : Neighbours) (p : Pair) (event : Event) (g : Course) (rest : List Waiting) (x y : Section) → Held n p g x y → Comes n.near g.hop.far.this g.hop.forward event rest
    → list_any is_reset (part_by n.far_ticks event g.hop.far) ≡ false → Unknown n p g x y → (moved : FarMoved n p event g y) → moved.after.section.windows.got ≡ []
none_comes n p event g rest x y held comes no_reset u moved =
    let side = held.far in
    let none = subst (λ (mine : ℕ). units_waiting mine g.hop.forward ≡ []) (sym side.mine) u.none_waits in
    let comes_here = subst (λ e. Comes n.near e g.hop.forward event rest) side.is comes in
    units_come_in n.far_ticks g.hop.far event (λ c. c.this) (λ c. c.that) y moved.after.section side.sound side.sides side.is moved.after.is
    (fits_event n.near y g.hop.forward rest event comes_here held.point (λ may. none_of_class y.head.mine y.head.class g.hop.forward none)) no_reset
    ∙ rw (u.none_came, brought_none n.near y g.hop.forward rest event comes_here none) refl

far_unknown : (n : Neighbours) (p : Pair) (event : Event) (g : Course) (rest : List Waiting) (x y : Section) → Held n p g x y → Comes n.near g.hop.far.this g.hop.forward event rest
    → list_any is_reset (part_by n.far_ticks event g.hop.far) ≡ false → Unknown n p g x y → (moved : FarMoved n p event g y)
    → Unknown n p (far_fed n event (forward_is rest g)) x moved.after.section
far_unknown n p event g rest x y held comes no_reset u moved =
    let outs = part_by n.far_ticks event g.hop.far in
    let more = messages_to n.near outs in record {
      state = u.state;
      nothing = u.nothing;
      none_on = u.none_on;
      none_sent = u.none_sent;
      none_came = none_comes n p event g rest x y held comes no_reset u moved;
      none_waits = comes_none n.near g.hop.far.this g.hop.forward rest event p.far comes u.none_waits;
      all_wait = λ unreached.
          units_joined p.near n.near g.far_outs outs
          ∙ (ap (λ (units : List DataUnit). units ++ units_waiting p.near more) (u.all_wait unreached) ∙ sym (waiting_joined p.near g.hop.back more));
      answer = λ unreached. answering_after n p event g x y held moved (u.answer unreached);
    }

-- The near section knows the far one.
far_known : (n : Neighbours) (p : Pair) (event : Event) (g : Course) (rest : List Waiting) (x y : Section) → Held n p g x y → Comes n.near g.hop.far.this g.hop.forward event rest
    → list_any is_reset (part_by n.far_ticks event g.hop.far) ≡ false → Known n p g x y → (moved : FarMoved n p event g y)
    → Known n p (far_fed n event (forward_is rest g)) x moved.after.section
far_known n p event g rest x y held comes no_reset k moved =
    let outs = part_by n.far_ticks event g.hop.far in record {
      near_set = k.near_set;
      far_set = (moved.after.class k.far_set).set;
      reached = k.reached;
      point = k.point;
      other = k.other;
      forward =
          flows_received n.far_ticks event n.near (far_head n p) p.far_other (λ c. c.this) (λ c. c.that) g.hop.far g.hop.near x y (sent_forward n p g.near_outs) g.hop.forward rest held.far moved
          comes held.point k.far_set no_reset k.forward;
      back =
          subst (λ (sent : List DataUnit). Flows p.near (fed n.far_ticks g.hop.far event) moved.after.section x sent (g.hop.back ++ messages_to n.near outs))
          (sym (units_joined p.near n.near g.far_outs outs))
          (flows_sent n.far_ticks event (far_head n p) p.far_other (λ c. c.this) (λ c. c.that) g.hop.far y x (sent_back n p g.far_outs) g.hop.back held.far moved k.far_set k.back);
    }

-- All that is kept of the course.
pub far_held : (n : Neighbours) (p : Pair) (event : Event) (g : Course) (rest : List Waiting) (x y : Section) → Held n p g x y → Comes n.near g.hop.far.this g.hop.forward event rest
    → list_any is_reset (part_by n.far_ticks event g.hop.far) ≡ false → (later : Section) × Held n p (far_fed n event (forward_is rest g)) x later
far_held n p event g rest x y held comes no_reset =
    let moved = far_moved n p event g rest x y held comes no_reset in
    let c = g.hop.far in
    let outs = part_by n.far_ticks event c in
    let h = far_head n p in
    let side = held.far in
    let place = moved.after.place.1 held.reached in (
      moved.after.section,
      record {
        within = held.within;
        near = held.near;
        far = moved.side;
        not_asked = held.not_asked;
        reached = place.reached;
        point = place.point ∙ held.point;
        other = place.other ∙ held.other;
        forward_on = held.forward_on;
        back_on =
            units_joined p.near n.near g.far_outs outs
            ∙ (rw (held.back_on, units_go n.far_ticks c event (λ c. c.this) (λ c. c.that) y h side.sound side.sides side.is (sym side.sls) side.apart moved.side.apart) refl
            ∙ sym (joined_on h g.far_outs outs));
        forward_quiet = (comes_no_confirm n.near c.this g.hop.forward rest event p.far_other comes held.forward_quiet).1;
        back_quiet =
            all_joined (λ (m : Waiting). NoConfirmFor p.near_other (arrival_in m.bytes)) g.hop.back (messages_to n.near outs) held.back_quiet (far_quiet n p event g x y held moved);
        phase = by_phase moved held.phase;
      },
    )
  where
    by_phase : (moved : FarMoved n p event g y) → Unknown n p g x y ⊎ Known n p g x y
        → Unknown n p (far_fed n event (forward_is rest g)) x moved.after.section ⊎ Known n p (far_fed n event (forward_is rest g)) x moved.after.section
    by_phase moved (inl u) = inl (far_unknown n p event g rest x y held comes no_reset u moved)
    by_phase moved (inr k) = inr (far_known n p event g rest x y held comes no_reset k moved)
