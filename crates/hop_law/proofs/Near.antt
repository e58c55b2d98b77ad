-- The near connection of a hop meets an event.
use Rattle.std.proofs.Common.{◌≡◌, ◌≢◌, ◌⊎◌, inl, inr, ℕ, true, false, List, [], ◌∷◌, ◌++◌, Option, Some, None, refl, sym, ◌∙◌, ap, subst}
use Rattle.std.specs.List.{list_any}
use Rattle.std.proofs.lemmas.Bool.{false≢true}
use Rattle.relay_base.specs.declared.words.Event.{Event}
use Rattle.relay_base.specs.declared.words.Event.TheVariants.{Message as Arrived, Asked as Requested, Tick}
use Rattle.relay_base.specs.declared.words.Output.{Output}
use Rattle.section_model.specs.declared.cell.Occasion.TheVariants as on
use Rattle.section_model.specs.declared.cell.SectionState.{SectionState}
use Rattle.section_model.specs.declared.cell.SectionState.TheVariants.{Asking, Waning, Up, Ending, Gone}
use Rattle.section_model.specs.Parameters.{Arrival, arrival_in}
use Rattle.section_model.specs.Ends.{End, DataUnit, SectionHead, Section, is_reached, is_gone, is_connected}
use Rattle.section_model.specs.Step.{destination_of}
use Rattle.section_model.specs.Lane.{fed, part_by, reference_of}
use Rattle.hop_law.specs.Units.{units_by, units_for}
use Rattle.hop_law.proofs.Reading.{joined_on}
use Rattle.connection_law.specs.InStep.{got_at}
use Rattle.hop_law.specs.ClearingLaw.{is_reset}
use Rattle.hop_law.specs.ClosingLaw.{may_take}
use Rattle.hop_law.specs.Confirming.{IsStill, IsConfirmed, ByArrival, ByConfirm, is_answer}
use Rattle.hop_law.specs.Waiting.{Waiting, messages_to, units_waiting}
use Rattle.hop_law.specs.Hop.{Neighbours, Course, near_fed, GotNothing, IsElsewhere}
use Rattle.hop_law.proofs.Lists.{all_joined}
use Rattle.hop_law.specs.SectionLaw.{is_early}
use Rattle.hop_law.specs.Going.{BringOfClass}
use Rattle.hop_law.specs.Unset.{Nothing}
use Rattle.hop_law.specs.Setup.{IsConfirmOf}
use Rattle.hop_law.proofs.Going.{units_go}
use Rattle.hop_law.proofs.Unset.{nothing_passes}
use Rattle.hop_law.proofs.Setup.{sends_no_confirm, asking_stays, asking_is_answered}
use Rattle.hop_law.proofs.Queues.{units_to, units_joined, none_joined, first_waits, none_first, none_of_class, NoConfirmFor, none_confirm}
use Rattle.hop_law.proofs.Counts.{counted_none, counted_all}
use Rattle.hop_law.proofs.Sides.{Moved, side_moves}
use Rattle.hop_law.proofs.Flows.{Flows, Comes, elsewhere, first, comes_no_confirm, gone_only, IsIdle, flows_sent, flows_received}
use Rattle.hop_law.proofs.Courses.{Pair, near_head, far_head, sent_forward, sent_back, IsConfirmIn, HasConfirm, Answering, unanswered, accepted, Unknown, Known, Held}

abbrev pub back_is : List Waiting → Course → Course
back_is rest g = record g { hop = record g.hop { back = rest } }

abbrev NearMoved : Neighbours → Pair → Event → Course → Section → Type 0
NearMoved n p event g x = Moved (near_head n p) p.near_other (λ c. c.that) (λ c. c.this) (fed n.near_ticks g.hop.near event) x

near_moved : (n : Neighbours) (p : Pair) (event : Event) (g : Course) (rest : List Waiting) (x y : Section) → Held n p g x y → Comes n.far g.hop.near.that g.hop.back event rest
    → list_any is_reset (part_by n.near_ticks event g.hop.near) ≡ false → NearMoved n p event g x
near_moved n p event g rest x y held comes no_reset =
    side_moves n.near_ticks event (near_head n p) p.near_other (λ c. c.that) (λ c. c.this) g.hop.near x held.near
    (comes_no_confirm n.far g.hop.near.that g.hop.back rest event p.near_other comes held.back_quiet).0 no_reset

-- The near section doesn't know the far one before the event, or is over and never knew it.

unreached_not : (s : SectionState) → is_reached s ≡ false → is_connected s ≡ false
unreached_not Asking e = refl
unreached_not Waning e = refl
unreached_not _ e = absurd (false≢true (sym e))

pub unknown_not : (s : SectionState) → (is_reached s ≡ false) ⊎ (s ≡ Gone) → is_connected s ≡ false
unknown_not s (inl unreached) = unreached_not s unreached
unknown_not s (inr gone) = ap is_connected gone

near_nothing : (n : Neighbours) (p : Pair) (event : Event) (g : Course) (x y : Section) → Held n p g x y → Unknown n p g x y
    → Nothing (fed n.near_ticks g.hop.near event) (part_by n.near_ticks event g.hop.near)
near_nothing n p event g x y held u =
    nothing_passes n.near_ticks g.hop.near event (λ c. c.that) (λ c. c.this) x held.near.sound held.near.sides held.near.is (unknown_not x.head.state u.state) u.nothing

none_joined_to : (reference point : ℕ) (one other : List Output) → units_to reference point one ≡ [] → units_to reference point other ≡ [] → units_to reference point (one ++ other) ≡ []
none_joined_to reference point one other p q = units_joined reference point one other ∙ rw (p, q) refl

-- After the event it doesn't know it still, or is over.
unknown_stays : (n : Neighbours) (p : Pair) (event : Event) (g : Course) (rest : List Waiting) (x later y : Section) → Held n p g x y → Unknown n p g x y
    → (is_reached later.head.state ≡ false) ⊎ (later.head.state ≡ Gone) → (is_reached later.head.state ≡ false → sent_back n p g.far_outs ≡ units_waiting p.near rest)
    → (is_reached later.head.state ≡ false → Answering n p g.hop.far y rest) → Unknown n p (near_fed n event (back_is rest g)) later y
unknown_stays n p event g rest x later y held u state all_wait answer =
    let outs = part_by n.near_ticks event g.hop.near in
    let none = near_nothing n p event g x y held u in record {
      state = state;
      nothing = none.came;
      none_on = λ h. joined_on h g.near_outs outs ∙ rw (u.none_on h, none.leaves h) refl;
      none_sent = none_joined_to p.far n.far g.near_outs outs u.none_sent (none.waits p.far n.far);
      none_came = u.none_came;
      none_waits = none_joined p.far g.hop.forward (messages_to n.far outs) u.none_waits (none.waits p.far n.far);
      all_wait = all_wait;
      answer = answer;
    }

unknown_over : (n : Neighbours) (p : Pair) (event : Event) (g : Course) (rest : List Waiting) (x later y : Section) → Held n p g x y → Unknown n p g x y → later.head.state ≡ Gone
    → Unknown n p (near_fed n event (back_is rest g)) later y
unknown_over n p event g rest x later y held u gone =
    unknown_stays n p event g rest x later y held u (inr gone) (λ unreached. absurd (false≢true (sym unreached ∙ ap is_reached gone)))
    (λ unreached. absurd (false≢true (sym unreached ∙ ap is_reached gone)))

-- By CC it knows it: it is up, in the class that CC names, or it is released.

abbrev IsSetBy : Arrival → SectionHead → Type 0
IsSetBy a x = ((x.state ≡ Up) × (x.class ≡ a.parameters.class)) ⊎ (x.state ≡ Ending)

is_set : (a : Arrival) (x : SectionHead) → IsSetBy a x → (is_early x.state ≡ false) × (is_reached x.state ≡ true)
is_set a x (inl up) = (ap is_early up.0, ap is_reached up.0)
is_set a x (inr ending) = (ap is_early ending, ap is_reached ending)

takes_in_class : (a : Arrival) (x : SectionHead) → IsSetBy a x → may_take x.state ≡ true → x.class ≡ a.parameters.class
takes_in_class a x (inl up) may = up.1
takes_in_class a x (inr ending) may = absurd (false≢true (sym (ap may_take ending) ∙ may))

known_begins : (n : Neighbours) (p : Pair) (event : Event) (g : Course) (rest : List Waiting) (a : Arrival) (x y : Section) → Held n p g x y → Unknown n p g x y
    → (moved : NearMoved n p event g x) → IsConfirmed n.far a x.head moved.after.section.head → IsConfirmOf (far_head n p) (record (far_head n p) { class = y.head.class }) a
    → is_early y.head.state ≡ false → BringOfClass p.near y.head.class rest → sent_back n p g.far_outs ≡ units_waiting p.near rest
    → Known n p (near_fed n event (back_is rest g)) moved.after.section y
known_begins n p event g rest a x y held u moved confirmed own set of_class all_wait =
    let outs = part_by n.near_ticks event g.hop.near in
    let none = near_nothing n p event g x y held u in
    let later = moved.after.section in
    let state = is_set a later.head confirmed.state in
    let none_waits = none_joined p.far g.hop.forward (messages_to n.far outs) u.none_waits (none.waits p.far n.far) in record {
      near_set = state.0;
      far_set = set;
      reached = state.1;
      point = confirmed.point;
      other = confirmed.other ∙ own.own;
      forward = record {
        counted = counted_none p.far y _ _ u.none_came (none_joined_to p.far n.far g.near_outs outs u.none_sent (none.waits p.far n.far)) none_waits;
        of_class = λ may. none_of_class p.far y.head.class _ none_waits;
        agrees = λ may. agrees none.came confirmed.state;
      };
      back = record {
        counted = counted_all p.near later _ _ (sym (ap got_at moved.after.is) ∙ none.came.1) all_wait;
        of_class = λ may. subst (λ (class : ℕ). BringOfClass p.near class rest) (sym (same may)) of_class;
        agrees = λ may. inl (sym (same may));
      };
    }
  where
    same : may_take moved.after.section.head.state ≡ true → moved.after.section.head.class ≡ y.head.class
    same may = takes_in_class a moved.after.section.head confirmed.state may ∙ own.class

    agrees : GotNothing (fed n.near_ticks g.hop.near event) → IsSetBy a moved.after.section.head
        → (moved.after.section.head.class ≡ y.head.class) ⊎ IsIdle (fed n.near_ticks g.hop.near event) moved.after.section
    agrees none (inl up) = inl (up.1 ∙ own.class)
    agrees none (inr ending) = inr (ap may_take ending, none)

-- Nothing but CC makes it known.

elsewhere_confirms : (point : ℕ) (e : End) (event : Event) (x later : SectionHead) → reference_of e ≡ Some x.mine → IsElsewhere point e event → ByConfirm event x later → ⊥
elsewhere_confirms point e (Arrived from sls bytes) x later has is confirms = by_arrival (arrival_in bytes) is.1 confirms
  where
    by_arrival : (a : Option Arrival) → destination_of a ≢ reference_of e → ByArrival from a x later → ⊥
    by_arrival None differs confirms = confirms
    by_arrival (Some a) differs confirms = differs (ap (λ (dlr : ℕ). Some dlr) confirms.named ∙ sym has)
elsewhere_confirms point e (Requested ssn r) x later has is confirms = confirms
elsewhere_confirms point e Tick x later has is confirms = confirms

waiting_confirms : (point mine : ℕ) (a : Option Arrival) (x later : SectionHead) → x.mine ≡ mine → NoConfirmFor (Some mine) a → ByArrival point a x later → ⊥
waiting_confirms point mine None x later is none confirms = confirms
waiting_confirms point mine (Some a) x later is none confirms = none confirms.confirmed (ap (λ (dlr : ℕ). Some dlr) (sym is ∙ sym confirms.named))

confirm_none : (n : Neighbours) (p : Pair) (class : ℕ) (bytes : List ℕ) → IsConfirmIn n p class (arrival_in bytes) → units_for p.near bytes ≡ []
unfolding units_for
confirm_none n p class bytes is = by_arrival (arrival_in bytes) is
  where
    by_arrival : (a : Option Arrival) → IsConfirmIn n p class a → units_by p.near a ≡ []
    by_arrival None is = refl
    by_arrival (Some a) is = rw is.confirms refl

abbrev NearPhase : Neighbours → Pair → Event → Course → List Waiting → Section → Section → Type 0
NearPhase n p event g rest later y = Unknown n p (near_fed n event (back_is rest g)) later y ⊎ Known n p (near_fed n event (back_is rest g)) later y

-- CC arrives
near_confirmed : (n : Neighbours) (p : Pair) (g : Course) (m : Waiting) (rest : List Waiting) (x y : Section) → Held n p g x y → Unknown n p g x y → is_reached x.head.state ≡ false
    → (moved : NearMoved n p (Arrived n.far m.sls m.bytes) g x) → IsConfirmIn n p y.head.class (arrival_in m.bytes) → is_early y.head.state ≡ false → BringOfClass p.near y.head.class rest
    → sent_back n p g.far_outs ≡ units_waiting p.near rest → NearPhase n p (Arrived n.far m.sls m.bytes) g rest moved.after.section y
near_confirmed n p g m rest x y held u unreached moved is set of_class all_wait = by_arrival (arrival_in m.bytes) refl is
  where
    event : Event
    event = Arrived n.far m.sls m.bytes

    answered : (a : Arrival) → IsConfirmOf (far_head n p) (record (far_head n p) { class = y.head.class }) a
        → ((moved.after.section.head.state ≡ Gone) × (moved.after.section.head.point ≡ x.head.point)) ⊎ IsConfirmed n.far a x.head moved.after.section.head
        → NearPhase n p event g rest moved.after.section y
    answered a own (inl gone) = inl (unknown_over n p event g rest x moved.after.section y held u gone.0)
    answered a own (inr confirmed) = inr (known_begins n p event g rest a x y held u moved confirmed own set of_class all_wait)

    by_arrival : (a : Option Arrival) → arrival_in m.bytes ≡ a → IsConfirmIn n p y.head.class a → NearPhase n p event g rest moved.after.section y
    by_arrival None e own = absurd own
    by_arrival (Some a) e own =
        answered a own
        (asking_is_answered n.near_ticks g.hop.near n.far m.sls m.bytes a (λ c. c.that) (λ c. c.this) x moved.after.section held.near.sound held.near.sides held.near.is moved.after.is unreached e
        (ap is_answer own.confirms) (own.named ∙ sym held.near.mine))

-- another message arrives
near_waits : (n : Neighbours) (p : Pair) (g : Course) (m : Waiting) (rest : List Waiting) (x y : Section) → Held n p g x y → Unknown n p g x y → is_reached x.head.state ≡ false
    → (moved : NearMoved n p (Arrived n.far m.sls m.bytes) g x) → NoConfirmFor (Some p.near) (arrival_in m.bytes) → sent_back n p g.far_outs ≡ units_waiting p.near rest
    → Answering n p g.hop.far y rest → NearPhase n p (Arrived n.far m.sls m.bytes) g rest moved.after.section y
near_waits n p g m rest x y held u unreached moved none all_wait answer =
    by_law (asking_stays n.near_ticks g.hop.near (Arrived n.far m.sls m.bytes) (λ c. c.that) (λ c. c.this) x moved.after.section held.near.sides held.near.is moved.after.is unreached)
  where
    by_law : IsStill x.head moved.after.section.head ⊎ ByConfirm (Arrived n.far m.sls m.bytes) x.head moved.after.section.head
        → NearPhase n p (Arrived n.far m.sls m.bytes) g rest moved.after.section y
    by_law (inl still) = inl (unknown_stays n p (Arrived n.far m.sls m.bytes) g rest x moved.after.section y held u still.0 (λ _. all_wait) (λ _. answer))
    by_law (inr confirms) = absurd (waiting_confirms n.far p.near (arrival_in m.bytes) x.head moved.after.section.head held.near.mine none confirms)

-- the first message arrives
near_hears : (n : Neighbours) (p : Pair) (g : Course) (m : Waiting) (rest : List Waiting) (x y : Section) → Held n p g x y → Unknown n p g x y → is_reached x.head.state ≡ false
    → (moved : NearMoved n p (Arrived n.far m.sls m.bytes) g x) → sent_back n p g.far_outs ≡ units_waiting p.near (m ∷ rest) → Answering n p g.hop.far y (m ∷ rest)
    → NearPhase n p (Arrived n.far m.sls m.bytes) g rest moved.after.section y
near_hears n p g m rest x y held u unreached moved all_wait (unanswered state nothing none quiet) =
    let parts = none_first p.near m rest none in
    near_waits n p g m rest x y held u unreached moved quiet.0 (all_wait ∙ (none ∙ sym parts.1)) (unanswered state nothing parts.1 quiet.1)
near_hears n p g m rest x y held u unreached moved all_wait (accepted set has) = by_first has
  where
    without : units_for p.near m.bytes ≡ [] → sent_back n p g.far_outs ≡ units_waiting p.near rest
    without none = all_wait ∙ (first_waits p.near m rest ∙ ap (λ (units : List DataUnit). units ++ units_waiting p.near rest) none)

    by_first : HasConfirm n p y.head.class (m ∷ rest) → NearPhase n p (Arrived n.far m.sls m.bytes) g rest moved.after.section y
    by_first (inl is) = near_confirmed n p g m rest x y held u unreached moved is.0 set is.1 (without (confirm_none n p y.head.class m.bytes is.0))
    by_first (inr other) = near_waits n p g m rest x y held u unreached moved other.1 (without other.0) (accepted set other.2)

near_asks : (n : Neighbours) (p : Pair) (event : Event) (g : Course) (rest : List Waiting) (x y : Section) → Comes n.far g.hop.near.that g.hop.back event rest → Held n p g x y → Unknown n p g x y
    → is_reached x.head.state ≡ false → (moved : NearMoved n p event g x) → NearPhase n p event g rest moved.after.section y
near_asks n p event g rest x y (elsewhere _ is) held u unreached moved =
    by_law (asking_stays n.near_ticks g.hop.near event (λ c. c.that) (λ c. c.this) x moved.after.section held.near.sides held.near.is moved.after.is unreached)
  where
    by_law : IsStill x.head moved.after.section.head ⊎ ByConfirm event x.head moved.after.section.head → NearPhase n p event g g.hop.back moved.after.section y
    by_law (inl still) =
        inl (unknown_stays n p event g g.hop.back x moved.after.section y held u still.0 (λ _. u.all_wait unreached) (λ _. u.answer unreached))
    by_law (inr confirms) = absurd (elsewhere_confirms n.far g.hop.near.that event x.head moved.after.section.head (ap reference_of held.near.is) is confirms)
near_asks n p event g rest x y (first m _ is) held u unreached moved =
    near_hears n p g m rest x y held u unreached moved (u.all_wait unreached ∙ ap (units_waiting p.near) is) (subst (Answering n p g.hop.far y) is (u.answer unreached))

near_unknown : (n : Neighbours) (p : Pair) (event : Event) (g : Course) (rest : List Waiting) (x y : Section) → Comes n.far g.hop.near.that g.hop.back event rest → Held n p g x y → Unknown n p g x y
    → (moved : NearMoved n p event g x) → NearPhase n p event g rest moved.after.section y
near_unknown n p event g rest x y comes held u moved = by_state u.state
  where
    by_state : (is_reached x.head.state ≡ false) ⊎ (x.head.state ≡ Gone) → NearPhase n p event g rest moved.after.section y
    by_state (inl unreached) = near_asks n p event g rest x y comes held u unreached moved
    by_state (inr gone) =
        inl (unknown_over n p event g rest x moved.after.section y held u (gone_only moved.after.section.head.state (moved.after.gone (ap is_gone gone))))

-- The near section knows the far one.
near_known : (n : Neighbours) (p : Pair) (event : Event) (g : Course) (rest : List Waiting) (x y : Section) → Comes n.far g.hop.near.that g.hop.back event rest → Held n p g x y → Known n p g x y
    → (moved : NearMoved n p event g x) → list_any is_reset (part_by n.near_ticks event g.hop.near) ≡ false → Known n p (near_fed n event (back_is rest g)) moved.after.section y
near_known n p event g rest x y comes held k moved no_reset =
    let outs = part_by n.near_ticks event g.hop.near in
    let place = moved.after.place.1 k.reached in record {
      near_set = (moved.after.class k.near_set).set;
      far_set = k.far_set;
      reached = place.reached;
      point = place.point ∙ k.point;
      other = place.other ∙ k.other;
      forward =
          subst (λ (sent : List DataUnit). Flows p.far (fed n.near_ticks g.hop.near event) moved.after.section y sent (g.hop.forward ++ messages_to n.far outs))
          (sym (units_joined p.far n.far g.near_outs outs))
          (flows_sent n.near_ticks event (near_head n p) p.near_other (λ c. c.that) (λ c. c.this) g.hop.near x y (sent_forward n p g.near_outs) g.hop.forward held.near moved k.near_set k.forward);
      back =
          flows_received n.near_ticks event n.far (near_head n p) p.near_other (λ c. c.that) (λ c. c.this) g.hop.near g.hop.far y x (sent_back n p g.far_outs) g.hop.back rest held.near moved comes
          k.point k.near_set no_reset k.back;
    }

-- All that is kept of the course.
pub near_held : (n : Neighbours) (p : Pair) (event : Event) (g : Course) (rest : List Waiting) (x y : Section) → Held n p g x y → Comes n.far g.hop.near.that g.hop.back event rest
    → list_any is_reset (part_by n.near_ticks event g.hop.near) ≡ false → (later : Section) × Held n p (near_fed n event (back_is rest g)) later y
near_held n p event g rest x y held comes no_reset =
    let moved = near_moved n p event g rest x y held comes no_reset in
    let c = g.hop.near in
    let outs = part_by n.near_ticks event c in
    let h = near_head n p in
    let side = held.near in (
      moved.after.section,
      record {
        within = held.within;
        near = moved.side;
        far = held.far;
        not_asked = moved.after.asked held.not_asked;
        reached = held.reached;
        point = held.point;
        other = held.other;
        forward_on =
            units_joined p.far n.far g.near_outs outs
            ∙ (rw (held.forward_on, units_go n.near_ticks c event (λ c. c.that) (λ c. c.this) x h side.sound side.sides side.is (sym side.sls) side.apart moved.side.apart) refl
            ∙ sym (joined_on h g.near_outs outs));
        back_on = held.back_on;
        forward_quiet =
            all_joined (λ (m : Waiting). NoConfirmFor p.far_other (arrival_in m.bytes)) g.hop.forward (messages_to n.far outs) held.forward_quiet
            (none_confirm p.far_other (messages_to n.far outs)
            (sends_no_confirm n.near_ticks c event (λ c. c.that) (λ c. c.this) x h side.sides side.is held.not_asked side.apart));
        back_quiet = (comes_no_confirm n.far c.that g.hop.back rest event p.near_other comes held.back_quiet).1;
        phase = by_phase moved held.phase;
      },
    )
  where
    by_phase : (moved : NearMoved n p event g x) → Unknown n p g x y ⊎ Known n p g x y → NearPhase n p event g rest moved.after.section y
    by_phase moved (inl u) = near_unknown n p event g rest x y comes held u moved
    by_phase moved (inr k) = inr (near_known n p event g rest x y comes held k moved no_reset)
