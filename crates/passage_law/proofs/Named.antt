-- What a connection names in a step.
use Rattle.std.proofs.Common.{◌≡◌, ℕ, zero, suc, ◌==◌, ◌&&◌, ◌||◌, not, Bool, true, false, List, [], ◌∷◌, ◌++◌, fold, Option, Some, None, IfSome, refl, sym, subst, eqb-true}
use Rattle.std.proofs.lemmas.Bool.{false≢true, and_parts}
use Rattle.relay_base.specs.declared.words.Event.{Event}
use Rattle.relay_base.specs.declared.words.Event.TheVariants.{Message as Arrived, Asked as Requested, Tick}
use Rattle.relay_base.specs.declared.words.Output.{Output}
use Rattle.relay_base.specs.declared.words.Reason.{Reason}
use Rattle.relay_base.specs.declared.words.Request.{Request}
use Rattle.plant_core.specs.declared.terms.Ticks.{Ticks}
use Rattle.section_model.specs.declared.cell.Occasion.{Occasion}
use Rattle.section_model.specs.declared.cell.Occasion.TheVariants as on
use Rattle.section_model.specs.declared.cell.Timer.{Timer}
use Rattle.section_model.specs.declared.hand.Acted.{Acted}
use Rattle.section_model.specs.declared.hand.Hand.{Hand}
use Rattle.section_model.specs.Table.{section_cell}
use Rattle.section_model.specs.Parameters.{Parameters, Arrival, arrival_in}
use Rattle.section_model.specs.Timing.{firing_order, firing, rearmed}
use Rattle.section_model.specs.Ends.{End, wire, owner, SectionHead, Section, User, Connection, turned, is_up, is_gone, is_reached}
use Rattle.section_model.specs.Windowed.{Windowed, leaves, acknowledges}
use Rattle.section_model.specs.Acting.{end_takes}
use Rattle.section_model.specs.Coupling.{with_more, other_takes, exchange, settles, and_then, on_that}
use Rattle.section_model.specs.Step.{names_both, checked, is_from_elsewhere, hears_message, asking_cell, reason_against, asks_unless, asks, ticked, is_due_at, fires_at, fires, fires_next, fires_due, ticks_by, on_windows, on_each, after_event, is_named, at_this, heard_by, asked_by, event_step, connection_step, names, destination_of, hears}
use Rattle.section_model.specs.Lane.{fed, part_by}
use Rattle.connection_law.proofs.Flow.Flowing.{either}
use Rattle.passage_law.specs.Naming.{Allowed, Names, AllName, StandsOn, BothStand, is_answered, MakesOf, EventMakes, AreReferences}
use Rattle.hop_law.proofs.Lists.{all_joined}
use Rattle.passage_law.proofs.Naming.{knows_reached, section_fires_names, checked_names, hears_names, user_asks_names, takes_names, leaves_names, acknowledges_names}

module _ (A : Allowed) (bits : AreReferences A) where
  abbrev Acts : End × Acted → Type 0
  Acts done = StandsOn A.stands done.0 × AllName A done.1.outs

  -- the ends after a part of a step, and its outputs
  abbrev Done : Connection × List Output → Type 0
  Done r = BothStand A.stands r.0 × AllName A r.1

  joined : (one other : List Output) → AllName A one → AllName A other → AllName A (one ++ other)
  joined one other p q = all_joined (Names A) one other p q

  -- What the ends hand to each other.

  abbrev Exchanges : (End × Acted → End → Connection × List Output) → Type 0
  Exchanges next = (acting : End × Acted) (that : End) → Acts acting → StandsOn A.stands that → Done (next acting that)

  offered : (ticks : Ticks) (next : End × Acted → End → Connection × List Output) → Exchanges next → (r : Connection × List Output) (h : Hand) → Done r → Done (other_takes next ticks r h)
  offered ticks next goes_on r h done =
      let after = goes_on (end_takes ticks h r.0.that) r.0.this (takes_names A bits ticks h r.0.that done.0.1) done.0.0 in
      ((after.0.1, after.0.0), joined r.1 (next (end_takes ticks h r.0.that) r.0.this).1 done.1 after.1)

  all_offered : (ticks : Ticks) (next : End × Acted → End → Connection × List Output) → Exchanges next → (hands : List Hand) (r : Connection × List Output) → Done r
      → Done (fold (other_takes next ticks) r hands)
  all_offered ticks next goes_on [] r done = done
  all_offered ticks next goes_on (h ∷ hands) r done = all_offered ticks next goes_on hands (other_takes next ticks r h) (offered ticks next goes_on r h done)

  exchanged : (turns : ℕ) (ticks : Ticks) → Exchanges (exchange turns ticks)
  unfolding exchange
  exchanged zero ticks acting that acts stands = ((acts.0, stands), acts.1)
  exchanged (suc turns) ticks acting that acts stands =
      let next = exchange turns ticks in
      let first = fold (other_takes next ticks) (record { this = acting.0; that = that }, []) acting.1.first in
      let done : Done first = all_offered ticks next (exchanged turns ticks) acting.1.first (record { this = acting.0; that = that }, []) ((acts.0, stands), tt) in
      all_offered ticks next (exchanged turns ticks) acting.1.then (with_more acting.1.outs first) (done.0, joined first.1 acting.1.outs done.1 acts.1)

  settled : (ticks : Ticks) (acting : End × Acted) (that : End) → Acts acting → StandsOn A.stands that → Done (settles ticks acting that)
  settled ticks acting that acts stands = exchanged 2 ticks acting that acts stands

  -- Parts of a step, one after another.

  abbrev Part : (Connection → Connection × List Output) → Type 0
  Part part = (c : Connection) → BothStand A.stands c → Done (part c)

  part_then : (part : Connection → Connection × List Output) → Part part → (r : Connection × List Output) → Done r → Done (and_then part r)
  part_then part does r done = let next = does r.0 done.0 in (next.0, joined r.1 (part r.0).1 done.1 next.1)

  part_there : (part : Connection → Connection × List Output) → Part part → Part (on_that part)
  part_there part does c both = let done = does (turned c) (both.1, both.0) in ((done.0.1, done.0.0), done.1)

  -- A message.

  same_point : (point : ℕ) (x : SectionHead) → is_from_elsewhere point x ≡ false → is_reached x.state ≡ true → point ≡ x.point
  same_point point x here known = eqb-true point x.point (by_test (is_reached x.state) (point == x.point) known here)
    where
      by_test : (r p : Bool) → r ≡ true → (r && not p) ≡ false → p ≡ true
      by_test true true known here = refl
      by_test true false known here = absurd (false≢true (sym here))
      by_test false p known here = absurd (false≢true known)

  message_done : (ticks : Ticks) (o : Occasion) (point : ℕ) (m : Parameters) (x : Section) (that : End) → (o ≡ on.Cc → (from other : ℕ) → A.stands from other m.dlr → A.stands point m.slr m.dlr) → (names_both o ≡ true → A.answers on.Err point m.slr)
      → x.head.mine ≡ m.dlr → StandsOn A.stands (wire x) → StandsOn A.stands that → Done (hears_message ticks o point m x that)
  unfolding hears_message
  message_done ticks o point m x that sets answers named own stands =
      either Done (is_from_elsewhere point x.head) _ _ (λ _. ((own, stands), (tt, tt)))
      (λ here. settled ticks _ that
      (hears_names A bits ticks o point m x (checked o m x.head) own (λ is. subst (A.stands point m.slr) (sym named) (sets is x.head.point x.head.other (subst (A.stands x.head.point x.head.other) named own)))
      (checked_names A bits o m x.head (λ both knows. subst (λ p. A.answers on.Err p m.slr) (same_point point x.head here (knows_reached x.head.state knows)) (answers both)))) stands)

  named_here : (reference : ℕ) (x : Section) → is_named reference (wire x) ≡ true → x.head.mine ≡ reference
  named_here reference x is = eqb-true x.head.mine reference (and_parts (x.head.mine == reference) (not (is_gone x.head.state)) is).0

  at_end : (ticks : Ticks) (o : Occasion) (point : ℕ) (m : Parameters) (this that : End) → (o ≡ on.Cc → (from other : ℕ) → A.stands from other m.dlr → A.stands point m.slr m.dlr) → (names_both o ≡ true → A.answers on.Err point m.slr)
      → is_named m.dlr this ≡ true → StandsOn A.stands this → StandsOn A.stands that → Done (at_this (hears_message ticks o point m) (record { this = this; that = that }))
  at_end ticks o point m (wire x) that sets answers named own stands = message_done ticks o point m x that sets answers (named_here m.dlr x named) own stands
  at_end ticks o point m (owner u) that sets answers named own stands = absurd (false≢true named)

  answered_by_error : (o : Occasion) → names_both o ≡ true → is_answered o ≡ true
  answered_by_error on.Rlsd is = refl
  answered_by_error on.Rsr is = refl
  answered_by_error _ is = absurd (false≢true is)

  other_named : (a b : Bool) → (a || b) ≡ true → a ≡ false → b ≡ true
  other_named true b is none = absurd (false≢true (sym none))
  other_named false b is none = is

  heard : (ticks : Ticks) (point : ℕ) (found : Option Arrival) (c : Connection) → names (destination_of found) c ≡ true → IfSome found (MakesOf A point) → BothStand A.stands c → Done (heard_by ticks point found c)
  heard ticks point None c named makes both = (both, tt)
  heard ticks point (Some a) c named makes both =
      let m = a.parameters in
      either Done (is_named m.dlr c.this) _ _ (λ here. at_end ticks a.occasion point m c.this c.that makes.0 (λ is. (makes.1 (answered_by_error a.occasion is)).0) here both.0 both.1)
      (λ none.
      let done = at_end ticks a.occasion point m c.that c.this makes.0 (λ is. (makes.1 (answered_by_error a.occasion is)).0) (other_named (is_named m.dlr c.this) (is_named m.dlr c.that) named none) both.1 both.0 in
      ((done.0.1, done.0.0), done.1))

  -- A request.

  asks_done : (ticks : Ticks) (why : Option Reason) (r : Request) (u : User) (x : Section) → StandsOn A.stands (wire x) → Done (asks_unless why ticks r u x)
  asks_done ticks (Some why) r u x stands = ((tt, stands), (tt, tt))
  asks_done ticks None r u x stands = settled ticks _ (wire x) (tt, user_asks_names A bits (asking_cell u.state r) r u) stands

  asked : (ticks : Ticks) (ssn : ℕ) (r : Request) (this that : End) → StandsOn A.stands this → StandsOn A.stands that → Done (asks ticks ssn r this that)
  unfolding asks
  asked ticks ssn r (owner u) (wire x) own stands =
      either Done (u.ssn == ssn) _ _ (λ _. asks_done ticks (reason_against r u x) r u x stands) (λ _. ((own, stands), (tt, tt)))
  asked ticks ssn r (owner u) (owner v) own stands = ((own, stands), (tt, tt))
  asked ticks ssn r (wire x) that own stands = ((own, stands), (tt, tt))

  request_done : (ticks : Ticks) (ssn : ℕ) (r : Request) (this that : End) → StandsOn A.stands this → StandsOn A.stands that → Done (asked_by ticks ssn r (record { this = this; that = that }))
  request_done ticks ssn r (owner u) that own stands = asked ticks ssn r (owner u) that own stands
  request_done ticks ssn r (wire x) that own stands = let done = asked ticks ssn r that (wire x) stands own in ((done.0.1, done.0.0), done.1)

  -- A tick.

  ticked_stands : (e : End) → StandsOn A.stands e → StandsOn A.stands (ticked e)
  ticked_stands (wire x) own = own
  ticked_stands (owner u) own = own

  fired : (ticks : Ticks) (timer : Timer) (this that : End) → StandsOn A.stands this → StandsOn A.stands that → Done (fires_at ticks timer this that)
  fired ticks timer (wire x) that own stands =
      settled ticks _ that (section_fires_names A bits ticks (section_cell x.head.state (firing timer)) (record x { timers = rearmed ticks timer x.timers }) own) stands
  fired ticks timer (owner u) that own stands = ((own, stands), tt)

  fires_done : (ticks : Ticks) (timer : Timer) → Part (λ c. fires ticks timer c.this c.that)
  fires_done ticks timer c both = either Done (is_due_at timer c.this) _ _ (λ _. fired ticks timer c.this c.that both.0 both.1) (λ _. (both, tt))

  all_fired : (ticks : Ticks) (timers : List Timer) (r : Connection × List Output) → Done r → Done (fold (fires_next ticks) r timers)
  all_fired ticks [] r done = done
  all_fired ticks (timer ∷ timers) r done = all_fired ticks timers (fires_next ticks r timer) (part_then (λ c. fires ticks timer c.this c.that) (fires_done ticks timer) r done)

  due_done : (ticks : Ticks) → Part (fires_due ticks)
  unfolding fires_due
  due_done ticks c both = all_fired ticks firing_order (c, []) (both, tt)

  tick_done : (ticks : Ticks) → Part (ticks_by ticks)
  tick_done ticks c both =
      let lower : Connection = record { this = ticked c.this; that = ticked c.that } in
      part_then (on_that (fires_due ticks)) (part_there (fires_due ticks) (due_done ticks)) (fires_due ticks lower)
      (due_done ticks lower (ticked_stands c.this both.0, ticked_stands c.that both.1))

  -- What follows each event.

  windows_done : (ticks : Ticks) (act : Windowed → Windowed × Acted) → ((x : Windowed) → A.stands x.head.point x.head.other x.head.mine → A.stands (act x).0.head.point (act x).0.head.other (act x).0.head.mine × AllName A (act x).1.outs)
      → (this that : End) → StandsOn A.stands this → StandsOn A.stands that → Done (on_windows ticks act this that)
  windows_done ticks act does (wire x) that own stands =
      either Done (is_up x.head.state && x.head.class == 3) _ _ (λ _. settled ticks _ that (does (record { head = x.head; windows = x.windows }) own) stands) (λ _. ((own, stands), tt))
  windows_done ticks act does (owner u) that own stands = ((own, stands), tt)

  each_done : (part : End → End → Connection × List Output) → ((this that : End) → StandsOn A.stands this → StandsOn A.stands that → Done (part this that)) → (r : Connection × List Output) → Done r → Done (on_each part r)
  each_done part does r done =
      let here : Part (λ c. part c.this c.that) = λ c both. does c.this c.that both.0 both.1 in
      part_then (on_that (λ c. part c.this c.that)) (part_there (λ c. part c.this c.that) here) (and_then (λ c. part c.this c.that) r) (part_then (λ c. part c.this c.that) here r done)

  after_done : (ticks : Ticks) (r : Connection × List Output) → Done r → Done (after_event ticks r)
  unfolding after_event
  after_done ticks r done =
      each_done (on_windows ticks acknowledges) (windows_done ticks acknowledges (acknowledges_names A bits)) (on_each (on_windows ticks leaves) r)
      (each_done (on_windows ticks leaves) (windows_done ticks leaves (leaves_names A bits)) r done)

  -- The step.

  event_done : (ticks : Ticks) (event : Event) (c : Connection) → hears c event ≡ true → EventMakes A event → BothStand A.stands c → Done (event_step ticks c event)
  unfolding hears
  event_done ticks (Arrived point sls bytes) c heard_it makes both = heard ticks point (arrival_in bytes) c heard_it makes both
  event_done ticks (Requested ssn r) c heard_it makes both = request_done ticks ssn r c.this c.that both.0 both.1
  event_done ticks Tick c heard_it makes both = tick_done ticks c both

  pub step_names : (ticks : Ticks) (event : Event) (c : Connection) → hears c event ≡ true → EventMakes A event → BothStand A.stands c → Done (connection_step ticks c event)
  unfolding connection_step
  step_names ticks event c heard_it makes both = after_done ticks (event_step ticks c event) (event_done ticks event c heard_it makes both)

  -- and of an event that it may hear
  pub part_names : (ticks : Ticks) (event : Event) (c : Connection) → EventMakes A event → BothStand A.stands c → BothStand A.stands (fed ticks c event) × AllName A (part_by ticks event c)
  part_names ticks event c makes both = by_test (hears c event) refl
    where
      by_test : (b : Bool) → hears c event ≡ b
          → BothStand A.stands (elim b [ true ↦ (connection_step ticks c event).0 | false ↦ c ]) × AllName A (elim b [ true ↦ (connection_step ticks c event).1 | false ↦ [] ])
      by_test true is = step_names ticks event c is makes both
      by_test false is = (both, tt)
