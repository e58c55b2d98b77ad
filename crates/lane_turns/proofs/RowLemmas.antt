-- The lanes of a phase in one row, and apart again.
use Rattle.std.proofs.Common.{◌≡◌, ℕ, zero, suc, ◌+◌, ◌-◌, ◌<◌, ◌≤◌, true, false, cond, List, [], ◌∷◌, ◌++◌, length, map, filter, take, All, refl, sym, ap, ◌∙◌, subst, arith, length-append, append-nil, append_assoc}
use Rattle.std.proofs.lemmas.Grind.{flat_map-append}
use Rattle.std.proofs.lemmas.List.{take_at, map-append}
use Rattle.std.proofs.lemmas.List.Elements.{All-append}
use Rattle.std.specs.List.{AllByRecursion, flat_map}
use Rattle.node_head.specs.declared.head.Head.{Head}
use Rattle.plant_core.specs.declared.entry.ControlEvent.{ControlEvent}
use Rattle.capture_form.specs.Events.{Stamped, AreOfLinks}
use Rattle.capture_form.specs.Place.{place_of}
use Rattle.lane_gate.specs.Plan.{Plan}
use Rattle.right_book.specs.Lanes.{LanesFrom}
use Rattle.right_book.specs.Placed.{taken}
use Rattle.link_threads.specs.declared.arrivals.Arrival.{Arrival}
use Rattle.link_threads.specs.Links.{IsStamped, is_in, link_at, planned_for}
use Rattle.link_threads.specs.Phases.{links_of}
use Rattle.link_threads.specs.Gates.{IsAtOpening, HasTaken}
use Rattle.scmg.specs.Lane.{ControlState}
use Rattle.conn_journal.specs.Lanes.{ConnLaneState}
use Rattle.data_lane.specs.Legal.{LaneState}
use Rattle.block_threads.specs.Items.{Beside}
use Rattle.link_threads.specs.Pairs.{PairsFrom}
use Rattle.lane_seats.specs.Seats.{SeatState, WentOn, conn_seat, data_seat, data_seated}
use Rattle.lane_seats.specs.Controls.{ControlSeatState}
use Rattle.lane_seats.specs.Plans.{planned}
use Rattle.lane_turns.specs.ConnSeats.{conn_seated}
use Rattle.lane_turns.specs.Phases.{PhaseState, GoesOn}
use Rattle.link_threads.specs.declared.lane_name.LaneName.{LaneName}
use Rattle.link_threads.specs.declared.lane_name.LaneName.TheVariants as name
use Rattle.gtt_editions.specs.Standing.{Publishing}
use Rattle.scmg.specs.Lane.{changes_of as changes_by}
use Rattle.lane_turns.specs.LaneStates.{PhaseLane, Control, Conn, Data}
use Rattle.lane_turns.specs.Turns.{Opening, TurnState, IsTurn, HasRoom, HasServed, opened_turn, plan_of, taken_of}
use Rattle.lane_turns.specs.Rows.{turns_from, conn_turn, data_turn, control_lane, turns_of, IsPlaced, HasPlace, lanes_of, conn_of, data_of, EndInControl, AreApart}
use Rattle.block_threads.proofs.BesideLemmas.{AreSplit, beside_split}
use Rattle.lane_turns.proofs.TurnLemmas.{taken_none, served_all}

pub turns_push : {A : Type 0} (f : ℕ → A → TurnState) (n : ℕ) (xs : List A) (x : A) → turns_from f n (xs ++ x ∷ []) ≡ turns_from f n xs ++ f (n + length xs) x ∷ []
turns_push f n [] x = ap (λ k. f k x ∷ []) (omega arith)
turns_push f n (y ∷ ys) x = ap (λ l. f n y ∷ l) (turns_push f (n + 1) ys x ∙ ap (λ k. turns_from f (n + 1) ys ++ f k x ∷ []) (omega arith))

pub turns_size : {A : Type 0} (f : ℕ → A → TurnState) (n : ℕ) (xs : List A) → length (turns_from f n xs) ≡ length xs
turns_size f n [] = refl
turns_size f n (x ∷ xs) = ap suc (turns_size f (n + 1) xs)

-- the connection lanes of a row, and no others
pub record AreConns (head : Head) (lists : List Stamped) (n : ℕ) (seats : List (SeatState ConnLaneState)) (lanes : List PhaseLane) : Type 0 where
  pub conns : PairsFrom (WentOn conn_seat head lists) n (map conn_seated seats) (map conn_seated (flat_map conn_of lanes))
  pub units : flat_map data_of lanes ≡ []

pub record AreUnits (head : Head) (lists : List Stamped) (n : ℕ) (seats : List (SeatState LaneState)) (lanes : List PhaseLane) : Type 0 where
  pub units : PairsFrom (WentOn data_seat head lists) n (map data_seated seats) (map data_seated (flat_map data_of lanes))
  pub conns : flat_map conn_of lanes ≡ []

pub conns_served : (head : Head) (lists : List Stamped) (n : ℕ) (seats : List (SeatState ConnLaneState)) (lanes : List PhaseLane) → Beside HasServed (turns_from (conn_turn head lists) n seats) lanes → AreConns head lists n seats lanes
conns_served head lists n [] [] h = record { conns = tt; units = refl }
conns_served head lists n [] (lane ∷ lanes) h = absurd h
conns_served head lists n (s ∷ seats) [] h = absurd h
conns_served head lists n (s ∷ seats) (Conn t ∷ lanes) h =
    let more = conns_served head lists (n + 1) seats lanes h.1 in
    record { conns = (h.0, more.conns); units = more.units }
conns_served head lists n (s ∷ seats) (Control t ∷ lanes) h = absurd h.0
conns_served head lists n (s ∷ seats) (Data t ∷ lanes) h = absurd h.0

pub units_served : (head : Head) (lists : List Stamped) (n : ℕ) (seats : List (SeatState LaneState)) (lanes : List PhaseLane) → Beside HasServed (turns_from (data_turn head lists) n seats) lanes → AreUnits head lists n seats lanes
units_served head lists n [] [] h = record { units = tt; conns = refl }
units_served head lists n [] (lane ∷ lanes) h = absurd h
units_served head lists n (s ∷ seats) [] h = absurd h
units_served head lists n (s ∷ seats) (Data t ∷ lanes) h =
    let more = units_served head lists (n + 1) seats lanes h.1 in
    record { units = (h.0, more.units); conns = more.conns }
units_served head lists n (s ∷ seats) (Control t ∷ lanes) h = absurd h.0
units_served head lists n (s ∷ seats) (Conn t ∷ lanes) h = absurd h.0

abbrev record_of : ControlState → Publishing → ControlSeatState
record_of lane p = record { lane = lane; publisher = p }

-- the control lane alone
pub record IsLast (head : Head) (lists : List Stamped) (old : ControlSeatState) (lanes : List PhaseLane) : Type 0 where
  pub seat : ControlSeatState
  pub is : lanes ≡ Control seat ∷ []
  pub gone : HasServed (opened_turn head lists name.Control (Control old)) (Control seat)

last_served : (head : Head) (lists : List Stamped) (old : ControlSeatState) (lanes : List PhaseLane) → Beside HasServed (opened_turn head lists name.Control (Control old) ∷ []) lanes → IsLast head lists old lanes
last_served head lists old [] h = absurd h
last_served head lists old (Control s ∷ []) h = record { seat = s; is = refl; gone = h.0 }
last_served head lists old (Control s ∷ (lane ∷ lanes)) h = absurd h.1
last_served head lists old (Conn s ∷ lanes) h = absurd h.0
last_served head lists old (Data s ∷ lanes) h = absurd h.0

same_front : {A : Type 0} (xs ys : List A) (x y : A) → xs ++ x ∷ [] ≡ ys ++ y ∷ [] → (xs ≡ ys) × (x ≡ y)
same_front [] [] x y e = (refl, cc)
same_front [] (b ∷ []) x y e = absurd (cc)
same_front [] (b ∷ (c ∷ ys)) x y e = absurd (cc)
same_front (a ∷ []) [] x y e = absurd (cc)
same_front (a ∷ (c ∷ xs)) [] x y e = absurd (cc)
same_front (a ∷ xs) (b ∷ ys) x y e =
    let head : a ≡ b = cc in
    let rest : xs ++ x ∷ [] ≡ ys ++ y ∷ [] = cc in
    let more = same_front xs ys x y rest in ((λ i. (head i) ∷ (more.0 i)), more.1)

module _ (head : Head) (lists : List Stamped) (control : ControlState) (x : PhaseState) (lanes : List PhaseLane) (h : Beside HasServed (turns_of head lists control x) lanes) where
  abbrev ctl : TurnState
  ctl = opened_turn head lists name.Control (control_lane control x.publisher)

  one : AreSplit HasServed (turns_from (conn_turn head lists) 0 x.conns) (turns_from (data_turn head lists) 0 x.units ++ ctl ∷ []) lanes
  one = beside_split HasServed (turns_from (conn_turn head lists) 0 x.conns) (turns_from (data_turn head lists) 0 x.units ++ ctl ∷ []) lanes h

  two : AreSplit HasServed (turns_from (data_turn head lists) 0 x.units) (ctl ∷ []) one.back
  two = beside_split HasServed (turns_from (data_turn head lists) 0 x.units) (ctl ∷ []) one.back one.backs

  last : IsLast head lists (record { lane = control; publisher = x.publisher }) two.back
  last = last_served head lists (record { lane = control; publisher = x.publisher }) two.back two.backs

  conns : AreConns head lists 0 x.conns one.front
  conns = conns_served head lists 0 x.conns one.front one.fronts

  units : AreUnits head lists 0 x.units two.front
  units = units_served head lists 0 x.units two.front two.fronts

  row : lanes ≡ (one.front ++ two.front) ++ Control last.seat ∷ []
  row = one.is ∙ (ap (λ (l : List PhaseLane). one.front ++ l) (two.is ∙ ap (λ (l : List PhaseLane). two.front ++ l) last.is) ∙ sym (append_assoc one.front two.front (Control last.seat ∷ [])))

  pub row_goes_on : (after : ControlState) (y : PhaseState) → AreApart lanes after y → GoesOn head lists control x after y
  row_goes_on after y apart =
      let same = same_front apart.seats (one.front ++ two.front) (control_lane after y.publisher) (Control last.seat) (sym apart.is ∙ row) in
      let seat : record_of after y.publisher ≡ last.seat = cc in
      let lane : after ≡ last.seat.lane = ap (λ (s : ControlSeatState). s.lane) seat in
      let publisher : y.publisher ≡ last.seat.publisher = ap (λ (s : ControlSeatState). s.publisher) seat in
      let conns_are : y.conns ≡ flat_map conn_of one.front =
      apart.conns ∙ (ap (flat_map conn_of) same.0 ∙ (flat_map-append conn_of one.front two.front ∙ (ap (λ l. flat_map conn_of one.front ++ l) units.conns ∙ append-nil (flat_map conn_of one.front)))) in
      let units_are : y.units ≡ flat_map data_of two.front =
      apart.units ∙ (ap (flat_map data_of) same.0 ∙ (flat_map-append data_of one.front two.front ∙ ap (λ l. l ++ flat_map data_of two.front) conns.units)) in
      record {
        more = last.gone.entries;
        journal = ap (λ (l : ControlState). l.journal) lane ∙ last.gone.journal;
        own = last.gone.own;
        head_kept = ap (λ (l : ControlState). l.head) lane ∙ last.gone.head_kept;
        start_kept = ap (λ (l : ControlState). l.start) lane ∙ last.gone.start_kept;
        published = last.gone.grown.more;
        here = ap (λ (l : ControlState). changes_by l) lane ∙ last.gone.grown.there;
        there = ap (λ (p : Publishing). p.seen.changes) publisher ∙ last.gone.grown.here;
        first = ap (λ (p : Publishing). p.opened.number) publisher ∙ last.gone.first;
        conns = subst (λ (l : List (SeatState ConnLaneState)). PairsFrom (WentOn conn_seat head lists) 0 (map conn_seated x.conns) (map conn_seated l)) (sym conns_are) conns.conns;
        units = subst (λ (l : List (SeatState LaneState)). PairsFrom (WentOn data_seat head lists) 0 (map data_seated x.units) (map data_seated l)) (sym units_are) units.units;
      }

-- ---- the row at the opening

all_here : (P : TurnState → Type 0) (x : TurnState) (xs : List TurnState) → P x → All P xs → All P (x ∷ xs)
all_here P x xs here more zero d lt = here
all_here P x xs here more (suc k) d lt = more k d (omega (arith, lt))

-- what is said of each lane of the row
row_all : (P : TurnState → Type 0) (head : Head) (lists : List Stamped) (control : ControlState) (x : PhaseState) → ((n : LaneName) (lane : PhaseLane) → P (opened_turn head lists n lane)) → All P (turns_of head lists control x)
row_all P head lists control x h =
    let last : TurnState = opened_turn head lists name.Control (control_lane control x.publisher) in
    All-append P (turns_from (conn_turn head lists) 0 x.conns) (turns_from (data_turn head lists) 0 x.units ++ last ∷ []) (conns 0 x.conns)
    (All-append P (turns_from (data_turn head lists) 0 x.units) (last ∷ []) (units 0 x.units) (all_here P last [] (h name.Control (control_lane control x.publisher)) (λ k d lt. absurd (omega (arith, lt)))))
  where
    conns : (n : ℕ) (seats : List (SeatState ConnLaneState)) → All P (turns_from (conn_turn head lists) n seats)
    conns n [] k d lt = absurd (omega (arith, lt))
    conns n (s ∷ seats) zero d lt = h (name.Conn n) (Conn s)
    conns n (s ∷ seats) (suc k) d lt = conns (n + 1) seats k d (omega (arith, lt))

    units : (n : ℕ) (seats : List (SeatState LaneState)) → All P (turns_from (data_turn head lists) n seats)
    units n [] k d lt = absurd (omega (arith, lt))
    units n (s ∷ seats) zero d lt = h (name.Data n) (Data s)
    units n (s ∷ seats) (suc k) d lt = units (n + 1) seats k d (omega (arith, lt))

-- what is placed in a lane of a link's list
planned_is : (head : Head) (n : LaneName) (lists : List Stamped) (link : ℕ) → planned (is_in n) head lists link ≡ planned_for n (links_of head lists) link
planned_is head n [] link = refl
planned_is head n (l ∷ ls) zero = in_list l
  where
    in_list : (l : Stamped) → taken (is_in n) head l ≡ planned_for n (links_of head (l ∷ [])) 0
    in_list [] = refl
    in_list (e ∷ es) = elim (is_in n (place_of head e.1)) as (λ b. cond b (e ∷ taken (is_in n) head es) (taken (is_in n) head es) ≡ map (λ (a : Arrival ControlEvent). (a.stamp, a.event)) (cond b (record { place = place_of head e.1; stamp = e.0; event = e.1 } ∷ filter (λ (a : Arrival ControlEvent). is_in n a.place) (link_at (links_of head (es ∷ [])) 0)) (filter (λ (a : Arrival ControlEvent). is_in n a.place) (link_at (links_of head (es ∷ [])) 0))))
        [ true ↦ ap (λ l. e ∷ l) (in_list es) | false ↦ in_list es ]
planned_is head n (l ∷ ls) (suc link) = planned_is head n ls link

pub row_at_opening : (head : Head) (lists : List Stamped) (control : ControlState) (x : PhaseState) → All (IsAtOpening plan_of taken_of (λ t. t.opening.name) (links_of head lists)) (turns_of head lists control x)
row_at_opening head lists control x = row_all (IsAtOpening plan_of taken_of (λ t. t.opening.name) (links_of head lists)) head lists control x (λ n lane. record {
  plan_is = λ link. planned_is head n lists link;
  fresh = λ link. taken_none (opened_turn head lists n lane) refl link;
})

-- ---- the row at the end

-- the names of a row stay
record EndsAlike (olds news : List TurnState) (last : TurnState) : Type 0 where
  pub seats : List TurnState
  pub final : TurnState
  pub is : news ≡ seats ++ final ∷ []
  pub placed : All HasPlace seats
  pub named : final.opening.name ≡ last.opening.name

same_name : (old new : TurnState) → HasTaken plan_of taken_of old new → new.opening.name ≡ old.opening.name
same_name old new taken = ap (λ (p : Plan Opening ControlEvent). p.base.name) taken.same

ends_alike : (olds news : List TurnState) (last : TurnState) → All HasPlace olds → Beside (HasTaken plan_of taken_of) (olds ++ last ∷ []) news → EndsAlike olds news last
ends_alike [] [] last placed h = absurd h
ends_alike [] (t ∷ []) last placed h = record { seats = []; final = t; is = refl; placed = λ k d lt. absurd (omega (arith, lt)); named = same_name last t h.0 }
ends_alike [] (t ∷ (u ∷ us)) last placed h = absurd h.1
ends_alike (o ∷ olds) [] last placed h = absurd h
ends_alike (o ∷ olds) (t ∷ news) last placed h =
    let more = ends_alike olds news last (λ k d lt. placed (suc k) d (omega (arith, lt))) h.1 in
    record {
      seats = t ∷ more.seats;
      final = more.final;
      is = ap (λ (l : List TurnState). t ∷ l) more.is;
      placed = all_here HasPlace t more.seats (subst IsPlaced (sym (same_name o t h.0)) (placed 0 o (omega arith))) more.placed;
      named = more.named;
    }

pub ends_in_control : (head : Head) (lists : List Stamped) (control : ControlState) (x : PhaseState) (news : List TurnState) → Beside (HasTaken plan_of taken_of) (turns_of head lists control x) news → EndInControl news
ends_in_control head lists control x news h =
    let last : TurnState = opened_turn head lists name.Control (control_lane control x.publisher) in
    let conns : List TurnState = turns_from (conn_turn head lists) 0 x.conns in
    let units : List TurnState = turns_from (data_turn head lists) 0 x.units in
    let ends = ends_alike (conns ++ units) news last (All-append HasPlace conns units (conns_placed 0 x.conns) (units_placed 0 x.units))
    (subst (λ (l : List TurnState). Beside (HasTaken plan_of taken_of) l news) (sym (append_assoc conns units (last ∷ []))) h) in
    record { seats = ends.seats; last = ends.final; is = ends.is; placed = ends.placed; control = ends.named }
  where
    conns_placed : (n : ℕ) (seats : List (SeatState ConnLaneState)) → All HasPlace (turns_from (conn_turn head lists) n seats)
    conns_placed n [] k d lt = absurd (omega (arith, lt))
    conns_placed n (s ∷ seats) zero d lt = tt
    conns_placed n (s ∷ seats) (suc k) d lt = conns_placed (n + 1) seats k d (omega (arith, lt))

    units_placed : (n : ℕ) (seats : List (SeatState LaneState)) → All HasPlace (turns_from (data_turn head lists) n seats)
    units_placed n [] k d lt = absurd (omega (arith, lt))
    units_placed n (s ∷ seats) zero d lt = tt
    units_placed n (s ∷ seats) (suc k) d lt = units_placed (n + 1) seats k d (omega (arith, lt))

served_each : (olds news : List TurnState) → All (λ (t : TurnState). t.lane ≡ t.opening.first) olds → All IsTurn news → Beside (HasTaken plan_of taken_of) olds news → Beside HasServed olds (lanes_of news)
served_each [] [] unmoved turns h = tt
served_each [] (t ∷ news) unmoved turns h = absurd h
served_each (o ∷ olds) [] unmoved turns h = absurd h
served_each (o ∷ olds) (t ∷ news) unmoved turns h = (
  served_all o t (unmoved 0 o (omega arith)) h.0 (turns 0 t (omega arith)),
  served_each olds news (λ k d lt. unmoved (suc k) d (omega (arith, lt))) (λ k d lt. turns (suc k) d (omega (arith, lt))) h.1,
)

pub row_served : (head : Head) (lists : List Stamped) (control : ControlState) (x : PhaseState) (news : List TurnState) → All IsTurn news → Beside (HasTaken plan_of taken_of) (turns_of head lists control x) news → Beside HasServed (turns_of head lists control x) (lanes_of news)
row_served head lists control x news turns h =
    served_each (turns_of head lists control x) news (row_all (λ (t : TurnState). t.lane ≡ t.opening.first) head lists control x (λ n lane. refl)) turns h

-- the stamps of a phase
pub phase_stamped : (head : Head) (lists : List Stamped) (phase n : ℕ) → AreOfLinks phase n lists → LanesFrom IsStamped n (links_of head lists)
phase_stamped head [] phase n h = tt
phase_stamped head (l ∷ ls) phase n h = (each l h.0, phase_stamped head ls phase (n + 1) h.1)
  where
    each : (l : Stamped) → AllByRecursion (λ e. (e.0.phase ≡ phase) × (e.0.link ≡ n)) l → IsStamped n (link_at (links_of head (l ∷ [])) 0)
    each [] h = tt
    each (e ∷ es) h = (h.0.1, each es h.1)

pub rooms : (events : ℕ) (seats : List (SeatState ConnLaneState)) → AllByRecursion (λ s. length s.journal + events < 4294967296) (map conn_seated seats) → All (λ (s : SeatState ConnLaneState). HasRoom events (Conn s)) seats
rooms events [] h k d lt = absurd (omega (arith, lt))
rooms events (s ∷ seats) h zero d lt = h.0
rooms events (s ∷ seats) h (suc k) d lt = rooms events seats h.1 k d (omega (arith, lt))

-- ---- one lane more

pub turns_one_more : {A : Type 0} (f : ℕ → A → TurnState) (xs : List A) (turns : List TurnState) (x : A) (n : ℕ) (turn : TurnState) → turns ≡ turns_from f 0 xs → n ≡ length turns → turn ≡ f n x → turns ++ turn ∷ [] ≡ turns_from f 0 (xs ++ x ∷ [])
turns_one_more f xs turns x n turn are number is =
    let many : n ≡ 0 + length xs = omega (arith, number, ap length are, turns_size f 0 xs) in
    (λ i. (are i) ++ (is i) ∷ []) ∙ (ap (λ k. turns_from f 0 xs ++ f k x ∷ []) many ∙ sym (turns_push f 0 xs x))

pub conns_push : (turns : List TurnState) (turn : TurnState) → flat_map conn_of (lanes_of (turns ++ turn ∷ [])) ≡ flat_map conn_of (lanes_of turns) ++ conn_of turn.lane
conns_push turns turn =
    ap (flat_map conn_of) (map-append (λ (t : TurnState). t.lane) turns (turn ∷ [])) ∙ (flat_map-append conn_of (lanes_of turns) (turn.lane ∷ []) ∙ ap (λ l. flat_map conn_of (lanes_of turns) ++ l) (append-nil (conn_of turn.lane)))

pub units_push : (turns : List TurnState) (turn : TurnState) → flat_map data_of (lanes_of (turns ++ turn ∷ [])) ≡ flat_map data_of (lanes_of turns) ++ data_of turn.lane
units_push turns turn =
    ap (flat_map data_of) (map-append (λ (t : TurnState). t.lane) turns (turn ∷ [])) ∙ (flat_map-append data_of (lanes_of turns) (turn.lane ∷ []) ∙ ap (λ l. flat_map data_of (lanes_of turns) ++ l) (append-nil (data_of turn.lane)))

-- the control lane, and the others by their kinds
pub row_apart : (turns rest : List TurnState) (last : TurnState) (control : ControlState) (x : PhaseState) → turns ≡ rest ++ last ∷ [] → last.lane ≡ control_lane control x.publisher → x.conns ≡ flat_map conn_of (lanes_of rest) → x.units ≡ flat_map data_of (lanes_of rest) → AreApart (lanes_of turns) control x
row_apart turns rest last control x is lane conns units = record {
  seats = lanes_of rest;
  is = ap lanes_of is ∙ (map-append (λ (t : TurnState). t.lane) rest (last ∷ []) ∙ ap (λ (l : PhaseLane). lanes_of rest ++ l ∷ []) lane);
  conns = conns;
  units = units;
}

-- those before the last one have places, and the last one is the control lane
pub placed_front : (turns rest : List TurnState) (n : ℕ) → EndInControl turns → n ≡ length turns → rest ≡ take (n - 1) turns → All HasPlace rest
placed_front turns rest n h size is =
    let many : n - 1 ≡ length h.seats = omega (arith, size, ap length h.is, length-append h.seats (h.last ∷ [])) in
    let all : rest ≡ h.seats = is ∙ ((λ i. take (many i) (h.is i)) ∙ take_at h.seats (h.last ∷ []) (length h.seats) refl) in
    subst (All HasPlace) (sym all) h.placed

pub control_back : (turns rest : List TurnState) (last : TurnState) → EndInControl turns → turns ≡ rest ++ last ∷ [] → last.opening.name ≡ name.Control
control_back turns rest last h is = ap (λ (t : TurnState). t.opening.name) (same_front rest h.seats last h.last (sym is ∙ h.is)).1 ∙ h.control

-- at most one lane more of a kind
pub conn_few : (lane : PhaseLane) → length (conn_of lane) ≤ 1
conn_few (Control s) = omega arith
conn_few (Conn s) = omega arith
conn_few (Data s) = omega arith

pub data_few : (lane : PhaseLane) → length (data_of lane) ≤ 1
data_few (Control s) = omega arith
data_few (Conn s) = omega arith
data_few (Data s) = omega arith
