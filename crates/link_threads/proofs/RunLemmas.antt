-- Units that wait for their lanes.
use Rattle.std.proofs.Common.{◌≡◌, ◌≢◌, ℕ, zero, suc, ◌+◌, ◌<◌, true, false, List, [], ◌∷◌, ◌++◌, length, map, get_or, set, refl, sym, ap, ◌∙◌, subst, arith, length-append, append_assoc, length-set, All}
use mathlib.Core.Logic.{dite}
use native.Mathlib.Decide.{ℕ_discrete}
use Rattle.std.proofs.lemmas.List.{get_or-set_same, get_or-set_other, get_or-map, length-map, map-set}
use Rattle.relay_base.specs.declared.words.Stamp.{Stamp}
use Rattle.lane_gate.specs.declared.pass.Pass.{Pass}
use Rattle.lane_gate.specs.Passes.{done_of, IsSamePass}
use Rattle.lane_gate.specs.Plan.{Plan}
use Rattle.block_threads.specs.Items.{Beside}
use Rattle.link_threads.specs.declared.arrivals.Arrival.{Arrival}
use Rattle.link_threads.specs.declared.door.Door.{Door}
use Rattle.link_threads.specs.Links.{Link, IsStamped, is_in, events_in, events_for}
use Rattle.link_threads.specs.Gates.{HasFed, HasFedBut, HaveFedBut, IsOnlyFor, NoneWaits}
use Rattle.block_threads.proofs.BesideLemmas.{beside_length, beside_at, beside_from}
use Rattle.link_threads.proofs.FeedLemmas.{default, with_first, without_first}

module _ {E : Type 0} (unit : Arrival E) where
  one_behind : (units : Link E) (rest : List (Stamp × E)) → events_in units ++ (unit.stamp, unit.event) ∷ rest ≡ events_in (units ++ unit ∷ []) ++ rest
  one_behind [] rest = refl
  one_behind (u ∷ us) rest = ap (λ es. (u.stamp, u.event) ∷ es) (one_behind us rest)

  stamped_behind : (units : Link E) → IsStamped unit.stamp.link units → IsStamped unit.stamp.link (units ++ unit ∷ [])
  stamped_behind [] h = (refl, tt)
  stamped_behind (u ∷ us) h = (h.0, stamped_behind us h.1)

pub none_of : {W E : Type 0} (units : W → Link E) (waiting : List W) → All (λ w. units w ≡ []) waiting → NoneWaits (map units waiting)
none_of units [] h k d lt = absurd (omega (arith, lt))
none_of units (w ∷ ws) h zero d lt = h zero w (omega arith)
none_of units (w ∷ ws) h (suc k) d lt = none_of units ws (λ j e less. h (suc j) e (omega (arith, less))) k d (omega (arith, lt))

module _ {L E B : Type 0} (plan : L → Plan B E) where
  -- the first of the units went through the pass
  pub fed_first : (number : ℕ) (unit : Arrival E) (units left : Link E) (door : Door L E) (pass after : Pass) → HasFedBut plan number (unit ∷ units) left door pass
      → IsSamePass pass after → done_of after ≡ done_of pass + 1 → HasFedBut plan number units left door after
  fed_first number unit units left door pass after h same done = record {
    had = h.had ++ (unit.stamp, unit.event) ∷ [];
    plan_is = h.plan_is ∙ sym (append_assoc h.had ((unit.stamp, unit.event) ∷ []) (events_in units ++ events_for door.name left));
    stamped = h.stamped.1;
    own = same.gate ∙ h.own;
    number_is = same.number ∙ h.number_is;
    done = omega (arith, done, h.done, length-append h.had ((unit.stamp, unit.event) ∷ []));
  }

  module _ (number : ℕ) (left : Link E) (door : Door L E) (pass : Pass) where
    pub none_left : HasFedBut plan number [] left door pass → HasFed plan number left door pass
    none_left h = record { had = h.had; plan_is = h.plan_is; own = h.own; number_is = h.number_is; done = h.done }

    pub none_yet : HasFed plan number left door pass → HasFedBut plan number [] left door pass
    none_yet h = record { had = h.had; plan_is = h.plan_is; stamped = tt; own = h.own; number_is = h.number_is; done = h.done }

  module _ (unit : Arrival E) (units left : Link E) (door : Door L E) (pass : Pass) (h : HasFedBut plan unit.stamp.link units (unit ∷ left) door pass) where
    -- a unit waits for its lane behind others
    one_waits : is_in door.name unit.place ≡ true → HasFedBut plan unit.stamp.link (units ++ unit ∷ []) left door pass
    one_waits mine = record {
      had = h.had;
      plan_is = h.plan_is ∙ ap (λ es. h.had ++ es) (ap (λ es. events_in units ++ es) (with_first unit left door.name mine) ∙ one_behind unit units (events_for door.name left));
      stamped = stamped_behind unit units h.stamped;
      own = h.own;
      number_is = h.number_is;
      done = h.done;
    }

    -- and doesn't wait for another one
    goes_past : is_in door.name unit.place ≡ false → HasFedBut plan unit.stamp.link units left door pass
    goes_past other = record {
      had = h.had;
      plan_is = h.plan_is ∙ ap (λ es. h.had ++ (events_in units ++ es)) (without_first unit left door.name other);
      stamped = h.stamped;
      own = h.own;
      number_is = h.number_is;
      done = h.done;
    }

  module _ (doors : List (Door L E)) (passes : List Pass) where
    -- nothing is left of the units
    pub all_fed : (number : ℕ) (left : Link E) (waiting : List (Link E)) → HaveFedBut plan number left doors waiting passes → NoneWaits waiting
        → Beside (HasFed plan number left) doors passes
    all_fed number left waiting h none = beside_from (HasFed plan number left) doors passes h.size (λ i d e lt.
        none_left number left (get_or doors i d) (get_or passes i e)
        (subst (λ (us : Link E). HasFedBut plan number us left (get_or doors i d) (get_or passes i e)) (none i [] (omega (arith, lt, h.lanes))) (h.each i d e lt)))

    pub none_wait : (number : ℕ) (left : Link E) (waiting : List (Link E)) → length waiting ≡ length doors → NoneWaits waiting → Beside (HasFed plan number left) doors passes
        → HaveFedBut plan number left doors waiting passes
    none_wait number left waiting lanes none h =
        let size = beside_length (HasFed plan number left) doors passes h in
        record {
          lanes = lanes;
          size = size;
          each = λ k g d lt. subst (λ (us : Link E). HasFedBut plan number us left (get_or doors k g) (get_or passes k d)) (sym (none k [] (omega (arith, lt, lanes))))
              (none_yet number left (get_or doors k g) (get_or passes k d) (beside_at (HasFed plan number left) k doors passes g d (omega (arith, lt, size)) h));
        }

    -- those that wait for a lane are the next that it is to take
    pub units_there : {W : Type 0} (units : W → Link E) (waiting : List W) (lane number : ℕ) (left : Link E) (door : Door L E) (at : W) (d : Pass) → lane < length doors → door ≡ get_or doors lane door
        → HaveFedBut plan number left doors (map units waiting) passes → HasFedBut plan number (units (get_or waiting lane at)) left door (get_or passes lane d)
    units_there units waiting lane number left door at d within is h =
        subst (λ (us : Link E). HasFedBut plan number us left door (get_or passes lane d)) (get_or-map units waiting lane at [] (omega (arith, within, h.lanes, length-map waiting units)))
        (subst (λ (x : Door L E). HasFedBut plan number (get_or (map units waiting) lane []) left x (get_or passes lane d)) (sym is) (h.each lane door d within))

    module _ {W : Type 0} (units : W → Link E) (waiting : List W) (lane : ℕ) (w : W) where
      there : lane < length waiting → get_or (map units (set waiting lane w)) lane [] ≡ units w
      there lt = ap (λ (ws : List (Link E)). get_or ws lane []) (map-set units waiting lane w) ∙ get_or-set_same (map units waiting) lane (units w) [] (omega (arith, lt, length-map waiting units))

      elsewhere : (k : ℕ) → k ≢ lane → get_or (map units (set waiting lane w)) k [] ≡ get_or (map units waiting) k []
      elsewhere k ne = ap (λ (ws : List (Link E)). get_or ws k []) (map-set units waiting lane w) ∙ get_or-set_other (map units waiting) lane k (units w) [] ne

      count : length (map units (set waiting lane w)) ≡ length (map units waiting)
      count = length-map (set waiting lane w) units ∙ length-set waiting lane w ∙ sym (length-map waiting units)

      -- a unit waits for its lane
      pub unit_waits : (unit : Arrival E) (left : Link E) (at : W) → IsOnlyFor unit.place doors lane → units w ≡ units (get_or waiting lane at) ++ unit ∷ []
          → HaveFedBut plan unit.stamp.link (unit ∷ left) doors (map units waiting) passes → HaveFedBut plan unit.stamp.link left doors (map units (set waiting lane w)) passes
      unit_waits unit left at only is h = record {
        lanes = count ∙ h.lanes;
        size = h.size;
        each = λ k g d lt. dite (ℕ_discrete k lane)
            (λ (e : k ≡ lane).
            let within : lane < length waiting = omega (arith, only.within, h.lanes, length-map waiting units) in
            let here : HasFedBut plan unit.stamp.link (get_or (map units (set waiting lane w)) lane []) left (get_or doors lane g) (get_or passes lane d) =
            subst (λ (us : Link E). HasFedBut plan unit.stamp.link us left (get_or doors lane g) (get_or passes lane d)) (sym (there within ∙ is ∙ ap (λ (us : Link E). us ++ unit ∷ []) (sym (get_or-map units waiting lane at [] within))))
            (one_waits unit (get_or (map units waiting) lane []) left (get_or doors lane g) (get_or passes lane d) (h.each lane g d only.within) (only.here g)) in
            subst (λ j. HasFedBut plan unit.stamp.link (get_or (map units (set waiting lane w)) j []) left (get_or doors j g) (get_or passes j d)) (sym e) here)
            (λ (ne : k ≢ lane). subst (λ (us : Link E). HasFedBut plan unit.stamp.link us left (get_or doors k g) (get_or passes k d)) (sym (elsewhere k ne))
            (goes_past unit (get_or (map units waiting) k []) left (get_or doors k g) (get_or passes k d) (h.each k g d lt) (only.others k g ne lt)));
      }

      -- the units of a lane went to it
      pub units_went : (number : ℕ) (left : Link E) (door : Door L E) (after : Pass) → lane < length doors → door ≡ get_or doors lane door → units w ≡ []
          → HasFedBut plan number [] left door after → HaveFedBut plan number left doors (map units waiting) passes → HaveFedBut plan number left doors (map units (set waiting lane w)) (set passes lane after)
      units_went number left door after within is none fed h = record {
        lanes = count ∙ h.lanes;
        size = length-set passes lane after ∙ h.size;
        each = λ k g d lt. dite (ℕ_discrete k lane)
            (λ (e : k ≡ lane).
            let at_waiting : lane < length waiting = omega (arith, within, h.lanes, length-map waiting units) in
            let at_passes : lane < length passes = omega (arith, within, h.size) in
            let here : HasFedBut plan number (get_or (map units (set waiting lane w)) lane []) left (get_or doors lane g) (get_or (set passes lane after) lane d) =
            subst (λ (us : Link E). HasFedBut plan number us left (get_or doors lane g) (get_or (set passes lane after) lane d)) (sym (there at_waiting ∙ none))
            (subst (HasFedBut plan number [] left (get_or doors lane g)) (sym (get_or-set_same passes lane after d at_passes))
            (subst (λ (x : Door L E). HasFedBut plan number [] left x after) (is ∙ default doors lane door g within) fed)) in
            subst (λ j. HasFedBut plan number (get_or (map units (set waiting lane w)) j []) left (get_or doors j g) (get_or (set passes lane after) j d)) (sym e) here)
            (λ (ne : k ≢ lane). subst (λ (us : Link E). HasFedBut plan number us left (get_or doors k g) (get_or (set passes lane after) k d)) (sym (elsewhere k ne))
            (subst (HasFedBut plan number (get_or (map units waiting) k []) left (get_or doors k g)) (sym (get_or-set_other passes lane k after d ne)) (h.each k g d lt)));
      }

      -- and none waits for the lanes so far
      pub none_so_far : lane < length waiting → units w ≡ [] → ((k : ℕ) → k < lane → get_or (map units waiting) k [] ≡ []) → (k : ℕ) → k < lane + 1 → get_or (map units (set waiting lane w)) k [] ≡ []
      none_so_far within none before k lt = dite (ℕ_discrete k lane)
          (λ (e : k ≡ lane). subst (λ j. get_or (map units (set waiting lane w)) j [] ≡ []) (sym e) (there within ∙ none))
          (λ (ne : k ≢ lane). elsewhere k ne ∙ before k (omega (arith, lt, ne)))
