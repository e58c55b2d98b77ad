-- A lane in its gate takes the next event of its plan.
use Rattle.std.proofs.Common.{◌≡◌, ◌≢◌, ℕ, zero, suc, ◌+◌, ◌-◌, ◌<◌, ◌≤◌, Bool, true, false, cond, List, [], ◌∷◌, ◌++◌, length, take, drop, filter, get_or, slice_get, Some, Result, Ok, Err, OnOk, OnErr, refl, sym, ap, ◌∙◌, subst, arith, length-append}
use mathlib.Core.Logic.{dite}
use native.Mathlib.Decide.{ℕ_discrete, dec_le}
use Rattle.std.proofs.lemmas.List.{get_or_past, drop-append-le, take_all}
use Rattle.std.proofs.lemmas.Grind.{flat_map-append}
use Rattle.std.proofs.lemmas.Option.{slice_get_within, slice_get-get_or}
use Rattle.relay_base.specs.declared.words.Stamp.{Stamp}
use Rattle.plant_core.specs.declared.entry.ControlEvent.{ControlEvent}
use Rattle.plant_core.specs.declared.entry.ControlEvent.TheVariants.{Plain, Change as Changing}
use Rattle.node_head.specs.declared.head.Head.{Head}
use Rattle.capture_form.specs.Events.{Stamped, phase_events}
use Rattle.capture_form.specs.Place.{place_of}
use Rattle.lane_gate.specs.Plan.{Plan, IsNext, Raises, Stays}
use Rattle.right_book.specs.Placed.{taken}
use Rattle.link_threads.specs.declared.lane_name.LaneName.{LaneName}
use Rattle.link_threads.specs.declared.lane_name.LaneName.TheVariants as name
use Rattle.lane_turns.specs.LaneStates.{PhaseLane, Control, Conn, Data}
use Rattle.link_threads.specs.Links.{is_in}
use Rattle.link_threads.specs.Gates.{HasTaken}
use Rattle.lane_seats.specs.Plans.{of_link, AreBegun, AreWhole}
use Rattle.lane_turns.specs.Rows.{HasPlace, IsControl, IsPlaced, IsSeated}
use Rattle.lane_turns.specs.Turns.{CanTake, IsPlain, TakesEvent, IsAsBefore, IsNamed, HasRoom, HasGoneOn, HasServed, Opening, TurnState, IsTurn, pairs_in, links_of, plan_of, fresh_of, taken_of, total, left_of, opened_turn}
use Rattle.lane_turns.proofs.PlanLemmas.{begun_more, begun_whole, raises_more, passed, take_one_more}
use Rattle.lane_turns.proofs.GoneLemmas.{gone_other, gone_pairs, takes_pairs, before_pairs, gone_more, gone_before, gone_none, room_more, room_before}

total_same : (n : ℕ) (f g : ℕ → ℕ) → ((j : ℕ) → j < n → g j ≡ f j) → total n g ≡ total n f
total_same zero f g h = refl
total_same (suc n) f g h = omega (arith, total_same n f g (λ j lt. h j (omega (arith, lt))), h n (omega arith))

total_some : (n : ℕ) (f : ℕ → ℕ) (i : ℕ) → i < n → f i ≤ total n f
total_some zero f i lt = absurd (omega (arith, lt))
total_some (suc n) f i lt = dite (ℕ_discrete i n)
    (λ (e : i ≡ n). omega (arith, ap f e))
    (λ (ne : i ≢ n). omega (arith, total_some n f i (omega (arith, lt, ne))))

-- one of the numbers is less by one
total_less : (n : ℕ) (f g : ℕ → ℕ) (i : ℕ) → i < n → g i + 1 ≡ f i → ((j : ℕ) → j ≢ i → g j ≡ f j) → total n g + 1 ≡ total n f
total_less zero f g i lt here others = absurd (omega (arith, lt))
total_less (suc n) f g i lt here others = dite (ℕ_discrete i n)
    (λ (e : i ≡ n). omega (arith, total_same n f g (λ j less. others j (λ s. absurd (omega (arith, s, e, less)))), subst (λ k. g k + 1 ≡ f k) e here))
    (λ (ne : i ≢ n). omega (arith, total_less n f g i (omega (arith, lt, ne)) here others, others n (λ s. ne (sym s))))

-- a change of the routing data stands in the control lane alone
conn_plain : (head : Head) (number : ℕ) (event : ControlEvent) → is_in (name.Conn number) (place_of head event) ≡ true → IsPlain event
unfolding place_of
conn_plain head number (Plain e) mine = tt
conn_plain head number (Changing group) mine = let both : false ≡ true = mine in absurd (cc)

data_plain : (head : Head) (number : ℕ) (event : ControlEvent) → is_in (name.Data number) (place_of head event) ≡ true → IsPlain event
unfolding place_of
data_plain head number (Plain e) mine = tt
data_plain head number (Changing group) mine = let both : false ≡ true = mine in absurd (cc)

-- the lane can take an event that is placed in it
can_take : (Own : Stamped → Type 0) (head : Head) (event : ControlEvent) (events : ℕ) (n : LaneName) (a b : PhaseLane) → 0 < events → is_in n (place_of head event) ≡ true → IsNamed n a → HasGoneOn Own a b → HasRoom events b → CanTake event b
can_take Own head event events name.Control (Control a) (Control b) some mine is h r = (omega (arith, some, r.0), r.1)
can_take Own head event events name.Control (Control a) (Conn b) some mine is h r = absurd h
can_take Own head event events name.Control (Control a) (Data b) some mine is h r = absurd h
can_take Own head event events name.Control (Conn a) b some mine is h r = absurd is
can_take Own head event events name.Control (Data a) b some mine is h r = absurd is
can_take Own head event events (name.Conn k) (Control a) b some mine is h r = absurd is
can_take Own head event events (name.Conn k) (Conn a) (Control b) some mine is h r = absurd h
can_take Own head event events (name.Conn k) (Conn a) (Conn b) some mine is h r = (conn_plain head k event mine, omega (arith, some, r))
can_take Own head event events (name.Conn k) (Conn a) (Data b) some mine is h r = absurd h
can_take Own head event events (name.Conn k) (Data a) b some mine is h r = absurd is
can_take Own head event events (name.Data k) (Control a) b some mine is h r = absurd is
can_take Own head event events (name.Data k) (Conn a) b some mine is h r = absurd is
can_take Own head event events (name.Data k) (Data a) (Control b) some mine is h r = absurd h
can_take Own head event events (name.Data k) (Data a) (Conn b) some mine is h r = absurd h
can_take Own head event events (name.Data k) (Data a) (Data b) some mine is h r = data_plain head k event mine

module _ (t : TurnState) (stamp : Stamp) (event : ControlEvent) (turn : IsTurn t) where
  module _ (next : IsNext (plan_of t) (taken_of t) stamp event) where
    -- the event's link is one of the phase
    link_within : stamp.link < length t.opening.lists
    link_within = dite (dec_le (length t.opening.lists) stamp.link)
        (λ past. let none : links_of t.opening stamp.link ≡ [] = ap (taken (is_in t.opening.name) t.opening.head) (get_or_past t.opening.lists stamp.link [] past) in
        let found : slice_get [] (taken_of t stamp.link) ≡ Some (stamp, event) = subst (λ (l : Stamped). slice_get l (taken_of t stamp.link) ≡ Some (stamp, event)) none next in absurd (cc))
        (λ within. omega (arith, within))

    left_here : taken_of t stamp.link < length (links_of t.opening stamp.link)
    left_here = slice_get_within (links_of t.opening stamp.link) (taken_of t stamp.link) (stamp, event) next

    left_some : 0 < left_of t
    left_some = omega (arith, left_here, total_some (length t.opening.lists) (λ link. length (links_of t.opening link) - taken_of t link) stamp.link link_within)

    pub turn_can_take : CanTake event t.lane
    turn_can_take =
        can_take (AreBegun (links_of t.opening)) t.opening.head event (left_of t) t.opening.name t.opening.first t.lane left_some
        (passed (λ (x : Stamp × ControlEvent). is_in t.opening.name (place_of t.opening.head x.1)) (get_or t.opening.lists stamp.link []) (taken_of t stamp.link) (stamp, event) next)
        turn.named turn.gone turn.room

  module _ (lane : PhaseLane) where
    abbrev pub now : TurnState
    now = record { opening = t.opening; lane = lane }

    module _ (takes : TakesEvent stamp event t.lane lane) where
      fresh : fresh_of now ≡ fresh_of t ++ (stamp, event) ∷ []
      fresh =
          let first : Stamped = pairs_in t.opening.first in
          let gone = gone_pairs (AreBegun (links_of t.opening)) t.opening.first t.lane turn.gone in
          let size : length first ≤ length (pairs_in t.lane) = omega (arith, ap length gone.0, length-append first (drop (length first) (pairs_in t.lane))) in
          ap (drop (length first)) (takes_pairs stamp event t.lane lane takes) ∙ drop-append-le (length first) (pairs_in t.lane) ((stamp, event) ∷ []) size

      pub raised : Raises (taken_of t) (taken_of now) stamp.link
      raised = subst (λ (l : Stamped). Raises (taken_of t) (λ j. length (of_link j l)) stamp.link) (sym fresh) (raises_more (fresh_of t) (stamp, event))

      left_less : IsNext (plan_of t) (taken_of t) stamp event → left_of now + 1 ≡ left_of t
      left_less next =
          total_less (length t.opening.lists) (λ j. length (links_of t.opening j) - taken_of t j) (λ j. length (links_of t.opening j) - taken_of now j) stamp.link (link_within next)
          (omega (arith, raised.here, left_here next)) (λ j ne. omega (arith, raised.others j ne))

      pub turn_after : IsNext (plan_of t) (taken_of t) stamp event → IsTurn now
      turn_after next = record {
        named = turn.named;
        gone = gone_more (AreBegun (links_of t.opening)) (AreBegun (links_of t.opening)) stamp event t.opening.first t.lane lane takes turn.gone
            (λ begun. begun_more (links_of t.opening) (fresh_of t) (stamp, event) next begun);
        room = room_more (left_of t) (left_of now) stamp event t.lane lane (left_less next) takes turn.room;
      }

    module _ (before : IsAsBefore t.lane lane) where
      same : fresh_of now ≡ fresh_of t
      same = ap (drop (length (pairs_in t.opening.first))) (before_pairs t.lane lane before)

      pub stayed : Stays (taken_of t) (taken_of now)
      stayed j = ap (λ (l : Stamped). length (of_link j l)) same

      pub turn_before : IsTurn now
      turn_before = record {
        named = turn.named;
        gone = gone_before (AreBegun (links_of t.opening)) t.opening.first t.lane lane before turn.gone;
        room = room_before (left_of now) t.lane lane before
            (subst (λ n. HasRoom n t.lane) (total_same (length t.opening.lists) (λ j. length (links_of t.opening j) - taken_of now j) (λ j. length (links_of t.opening j) - taken_of t j) (λ j lt. omega (arith, stayed j))) turn.room);
      }

-- calls that may be refused
module _ {U F : Type 0} (t : TurnState) (stamp : Stamp) (event : ControlEvent) (lane : PhaseLane) (turn : IsTurn t) where
  pub turn_done : (r : Result U F) → IsNext (plan_of t) (taken_of t) stamp event → OnOk r (TakesEvent stamp event t.lane lane) → OnErr r (IsAsBefore t.lane lane) → IsTurn (record { opening = t.opening; lane = lane })
  turn_done (Ok u) next ok err = turn_after t stamp event turn lane ok next
  turn_done (Err f) next ok err = turn_before t stamp event turn lane err

  pub turn_raised : (r : Result U F) → OnOk r (TakesEvent stamp event t.lane lane) → OnOk r (Raises (taken_of t) (taken_of (record { opening = t.opening; lane = lane })) stamp.link)
  turn_raised (Ok u) ok = raised t stamp event turn lane ok
  turn_raised (Err f) ok = tt

  pub turn_stayed : (r : Result U F) → OnErr r (IsAsBefore t.lane lane) → OnErr r (Stays (taken_of t) (taken_of (record { opening = t.opening; lane = lane })))
  turn_stayed (Ok u) err = tt
  turn_stayed (Err f) err = stayed t stamp event turn lane err

-- ---- the opening

fresh_none : (t : TurnState) → t.lane ≡ t.opening.first → fresh_of t ≡ []
fresh_none t is = ap (λ l. drop (length (pairs_in t.opening.first)) (pairs_in l)) is ∙ drop_whole (pairs_in t.opening.first)
  where
    drop_whole : (l : Stamped) → drop (length l) l ≡ []
    drop_whole [] = refl
    drop_whole (x ∷ xs) = drop_whole xs

pub taken_none : (t : TurnState) → t.lane ≡ t.opening.first → (link : ℕ) → taken_of t link ≡ 0
taken_none t is link = ap (λ (l : Stamped). length (of_link link l)) (fresh_none t is)

room_less : (more less : ℕ) (lane : PhaseLane) → less ≤ more → HasRoom more lane → HasRoom less lane
room_less more less (Control s) le r = (omega (arith, le, r.0), r.1)
room_less more less (Conn s) le r = omega (arith, le, r)
room_less more less (Data s) le r = tt

total_le : (n : ℕ) (f g : ℕ → ℕ) → ((j : ℕ) → g j ≤ f j) → total n g ≤ total n f
total_le zero f g h = omega arith
total_le (suc n) f g h = omega (arith, total_le n f g h, h n)

filter_le : (p : Stamp × ControlEvent → Bool) (l : Stamped) → length (filter p l) ≤ length l
filter_le p [] = omega arith
filter_le p (x ∷ xs) = elim (p x) as (λ b. length (cond b (x ∷ filter p xs) (filter p xs)) ≤ suc (length xs)) [ true ↦ omega (arith, filter_le p xs) | false ↦ omega (arith, filter_le p xs) ]

total_events : (lists : List Stamped) (n : ℕ) → n ≤ length lists → total n (λ k. length (get_or lists k [])) ≡ length (phase_events (take n lists))
total_events lists zero le = refl
total_events lists (suc n) le =
    let events : Stamped = get_or lists n [] in
    let more : take (suc n) lists ≡ take n lists ++ events ∷ [] = take_one_more lists n events (slice_get-get_or lists n [] (omega (arith, le))) in
    let joined : phase_events (take (suc n) lists) ≡ phase_events (take n lists) ++ (events ++ []) = ap phase_events more ∙ flat_map-append (λ (l : Stamped). l) (take n lists) (events ∷ []) in
    omega (arith, total_events lists n (omega (arith, le)), ap length joined, length-append (phase_events (take n lists)) (events ++ []), length-append {A = Stamp × ControlEvent} events [])

pub turn_new : (head : Head) (lists : List Stamped) (n : LaneName) (lane : PhaseLane) → IsNamed n lane → HasRoom (length (phase_events lists)) lane → IsTurn (opened_turn head lists n lane)
turn_new head lists n lane is room =
    let t : TurnState = opened_turn head lists n lane in
    let none : (link : ℕ) → taken_of t link ≡ 0 = taken_none t refl in
    let most : left_of t ≤ total (length lists) (λ k. length (get_or lists k [])) =
    total_le (length lists) (λ k. length (get_or lists k [])) (λ link. length (links_of t.opening link) - taken_of t link)
    (λ j. omega (arith, filter_le (λ (e : Stamp × ControlEvent). is_in n (place_of head e.1)) (get_or lists j []))) in
    let all : total (length lists) (λ k. length (get_or lists k [])) ≡ length (phase_events lists) =
    total_events lists (length lists) (omega arith) ∙ ap (λ (l : List Stamped). length (phase_events l)) (take_all (length lists) lists (omega arith)) in
    record {
      named = is;
      gone = gone_none (AreBegun (links_of t.opening)) lane (λ link. refl);
      room = room_less (length (phase_events lists)) (left_of t) lane (omega (arith, most, all)) room;
    }

-- ---- the end

-- a lane that has taken all of its plan has served
pub served_all : (put out : TurnState) → put.lane ≡ put.opening.first → HasTaken plan_of taken_of put out → IsTurn out → HasServed put out.lane
served_all put out unmoved taken turn =
    let base : out.opening ≡ put.opening = ap (λ (p : Plan Opening ControlEvent). p.base) taken.same in
    let whole : HasServed out out.lane =
    gone_other (AreBegun (links_of out.opening)) (AreWhole (links_of out.opening)) out.opening.first out.lane turn.gone
    (λ begun. begun_whole (links_of out.opening) (fresh_of out) begun (λ link. taken.all link ∙ ap (λ (o : Opening). length (links_of o link)) (sym base))) in
    subst (λ (o : Opening). HasServed (record { opening = o; lane = put.lane }) out.lane) base whole

-- the kind of a lane is that of its name
pub seated_by : (t : TurnState) → IsTurn t → HasPlace t → IsSeated t.lane
seated_by t turn placed = by t.opening.name t.opening.first t.lane turn.named turn.gone placed
  where
    by : (n : LaneName) (a b : PhaseLane) → IsNamed n a → HasGoneOn (AreBegun (links_of t.opening)) a b → IsPlaced n → IsSeated b
    by name.Control a b named gone placed = absurd placed
    by (name.Conn k) (Conn a) (Conn b) named gone placed = tt
    by (name.Conn k) (Conn a) (Control b) named gone placed = absurd gone
    by (name.Conn k) (Conn a) (Data b) named gone placed = absurd gone
    by (name.Conn k) (Control a) b named gone placed = absurd named
    by (name.Conn k) (Data a) b named gone placed = absurd named
    by (name.Data k) (Data a) (Data b) named gone placed = tt
    by (name.Data k) (Data a) (Control b) named gone placed = absurd gone
    by (name.Data k) (Data a) (Conn b) named gone placed = absurd gone
    by (name.Data k) (Control a) b named gone placed = absurd named
    by (name.Data k) (Conn a) b named gone placed = absurd named

pub control_by : (t : TurnState) → IsTurn t → t.opening.name ≡ name.Control → IsControl t.lane
control_by t turn is = by t.opening.name t.opening.first t.lane turn.named turn.gone is
  where
    by : (n : LaneName) (a b : PhaseLane) → IsNamed n a → HasGoneOn (AreBegun (links_of t.opening)) a b → n ≡ name.Control → IsControl b
    by name.Control (Control a) (Control b) named gone is = tt
    by name.Control (Control a) (Conn b) named gone is = absurd gone
    by name.Control (Control a) (Data b) named gone is = absurd gone
    by name.Control (Conn a) b named gone is = absurd named
    by name.Control (Data a) b named gone is = absurd named
    by (name.Conn k) a b named gone is = absurd (cc)
    by (name.Data k) a b named gone is = absurd (cc)
