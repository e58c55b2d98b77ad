-- The lanes of a phase go back to their node: what they saw is what the control lane published.
use Rattle.std.proofs.Common.{◌≡◌, ℕ, zero, suc, ◌+◌, ◌-◌, ◌≤◌, ◌<◌, true, List, [], ◌∷◌, ◌++◌, length, map, take, Option, Some, None, Result, Ok, Err, IfOk, refl, sym, ap, ◌∙◌, subst, arith, length-append}
use Rattle.std.proofs.lemmas.List.{length-map}
use Rattle.std.proofs.lemmas.Grind.{flat_map-append}
use Rattle.std.specs.List.{AllByRecursion}
use Rattle.std.specs.List.Sorted.{IsNonDecreasing}
use Rattle.relay_base.specs.declared.words.Event.{Event}
use Rattle.relay_base.specs.declared.words.Stamp.{Stamp}
use Rattle.plant_core.specs.Asking.{Question, answer_to}
use Rattle.plant_core.specs.Plant.{RoutingData}
use Rattle.plant_core.specs.Changes.{plant_after, plant_after_all}
use Rattle.plant_core.specs.declared.change.Group.{Group}
use Rattle.plant_core.specs.declared.entry.Asked.{Asked}
use Rattle.plant_core.specs.declared.entry.Entry.{Entry}
use Rattle.plant_core.specs.declared.entry.ControlEntry.{ControlEntry}
use Rattle.plant_core.specs.declared.entry.ControlEvent.{ControlEvent}
use Rattle.plant_core.specs.declared.entry.ControlEvent.TheVariants.{Plain}
use Rattle.plant_core.specs.declared.terms.LaneHead.{LaneHead}
use Rattle.gtt_editions.specs.Published.{Published, published, nothing, Begins}
use Rattle.gtt_editions.specs.Standing.{Standing, LooksFrom, newest_of}
use Rattle.data_lane.specs.Legal.{LaneState}
use Rattle.conn_journal.specs.Lanes.{ConnLaneState}
use Rattle.node_head.specs.declared.head.Head.{Head}
use Rattle.capture_form.specs.Events.{Stamped, AreOfLinks}
use Rattle.scmg.specs.Control.{IsControlJournal, changes_in, routing_after}
use Rattle.scmg.specs.Lane.{ControlState}
use Rattle.scmg.specs.Lane.{changes_of as changes_by}
use Rattle.node_engine.specs.declared.node.Node.{Node}
use Rattle.right_book.specs.Own.{pairs_of, control_pairs_of}
use Rattle.right_book.specs.Heads.{routing_of, lane_head_of, control_head_of}
use Rattle.right_book.specs.Placed.{in_control}
use Rattle.right_book.specs.Editions.{changes_of, edition_of, editions_before, editions_upto, editions_in, named, IsAnswer, IsRouting}
use Rattle.right_book.specs.Lanes.{LaneKind, LanesFrom, IsRouted, conn_kind, data_kind}
use Rattle.node_engine.specs.Running.{IsConnLaneOf, IsDataLaneOf, IsOf, IsRightSoFar, IsCounted, AreRightSoFar, HasRoom, LaneTook, Went, book_of, conn_journals, data_journals}
use Rattle.node_engine.specs.Barriers.{IsAtOpening, IsOpening, HaveSeen, IsClosing}
use Rattle.link_threads.specs.Pairs.{PairsFrom}
use Rattle.lane_seats.specs.Plans.{planned, AreWhole}
use Rattle.lane_seats.specs.Seats.{SeatState, Seated, SeatKind, IsSeen, IsSeenRouting, IsSeenEntry, WentOn, conn_seat, data_seat, data_seated}
use Rattle.lane_turns.specs.ConnSeats.{conn_seated}
use Rattle.lane_turns.specs.Phases.{PhaseState, GoesOn, HasRoomFor, conns_seated}
use Rattle.right_book.proofs.ListLemmas.{weaker, weaker-two, all-append, all-map, all-mapped, map-twice, any-lanes, lanes-all, lanes-weaker, lanes-map, lanes-mapped}
use Rattle.link_threads.proofs.PairLemmas.{pairs-length, pairs-lanes, pairs-map, pairs-all}
use Rattle.node_engine.proofs.EditionLemmas.{Grows, before-all, before-more, upto-whole}
use Rattle.node_engine.proofs.LaneLemmas.{stands-kept, known-editions}
use Rattle.node_engine.proofs.CountLemmas.{counted-legal}
use Rattle.node_engine.proofs.LinkLemmas.{whole-phase}
use Rattle.node_engine.proofs.RisingLemmas.{rising-append}
use Rattle.node_engine.proofs.SeatLemmas.{routing-moved, editions-least}

-- ---- the control lane

changes-same : (head : Head) (lane : ControlState) → lane.head ≡ control_head_of head → lane.start ≡ routing_of head → changes_by lane ≡ changes_of head lane.journal
changes-same head lane h s = ap (λ t. changes_in t lane.start lane.journal) h ∙ ap (λ t. changes_in (control_head_of head) t lane.journal) s

pub legal-here : (head : Head) (lane : ControlState) → lane.head ≡ control_head_of head → lane.start ≡ routing_of head → IsControlJournal lane.head lane.start lane.journal → IsCounted head lane.journal
legal-here head lane h s legal =
    counted-legal head lane.journal (subst (λ t. IsControlJournal (control_head_of head) t lane.journal) s (subst (λ t. IsControlJournal t lane.start lane.journal) h legal))

within-grown : (head : Head) (phase : ℕ) (old new : List ControlEntry) → Grows head phase old new → AllByRecursion (λ c. c.stamp.phase ≤ phase) old → AllByRecursion (λ c. c.stamp.phase ≤ phase) new
within-grown head phase old new g h =
    subst (AllByRecursion (λ c. c.stamp.phase ≤ phase)) (sym g.journal)
    (all-append (λ c. c.stamp.phase ≤ phase) old g.more h (weaker (λ c. c.stamp.phase ≡ phase) (λ c. c.stamp.phase ≤ phase) g.more (λ c same. omega (arith, same)) g.of_phase))

-- ---- a routing by an edition that was seen is one by the control journal

take-past : {A : Type 0} (n : ℕ) (xs ys : List A) → length xs ≤ n → take n (xs ++ ys) ≡ xs ++ take (n - length xs) ys
take-past n [] ys h = ap (λ k. take k ys) (omega arith)
take-past zero (x ∷ xs) ys h = absurd (omega (arith, h))
take-past (suc n) (x ∷ xs) ys h = ap (λ l. x ∷ l) (take-past n xs ys (omega (arith, h)) ∙ ap (λ k. xs ++ take k ys) (omega arith))

after-both : (p : RoutingData) (xs ys : List Group) → plant_after_all p (xs ++ ys) ≡ plant_after_all (plant_after_all p xs) ys
after-both p [] ys = refl
after-both p (x ∷ xs) ys = after-both (plant_after p x) xs ys

-- the phase was opened on the routing data after the changes before it, and has published what was seen
record OpensAfter (head : Head) (phase : ℕ) (old new : List ControlEntry) (s : Standing) : Type 0 where
  pub routing : s.opened.routing ≡ routing_after (routing_of head) (changes_of head old)
  pub number : s.opened.number ≡ length (changes_of head old)
  pub list : changes_of head new ≡ changes_of head old ++ s.seen.changes
  pub before : editions_before phase new ≤ length (changes_of head old)
  pub upto : editions_upto phase new ≡ length (changes_of head new)

module _ (head : Head) (phase : ℕ) (old new : List ControlEntry) (s : Standing) (opens : OpensAfter head phase old new s) where
  seen-answer : (asks : Question) (asked : Asked) → IsSeen (length (changes_of head old)) s asks asked → IsAnswer head new phase asks asked
  seen-answer asks asked h =
      let n : ℕ = asked.edition in
      let changes : take n (changes_of head new) ≡ changes_of head old ++ take (n - length (changes_of head old)) s.seen.changes =
      ap (take n) opens.list ∙ take-past n (changes_of head old) s.seen.changes h.least in
      let routing : edition_of head new n ≡ plant_after_all s.opened.routing (take (n - s.opened.number) s.seen.changes) =
      ap (plant_after_all (routing_of head)) changes ∙ (after-both (routing_of head) (changes_of head old) (take (n - length (changes_of head old)) s.seen.changes)
      ∙ (λ i. plant_after_all (sym opens.routing i) (take (n - sym opens.number i) s.seen.changes))) in
      record {
        least = omega (arith, opens.before, h.least);
        most = omega (arith, opens.upto, opens.number, h.most, ap length opens.list, length-append (changes_of head old) s.seen.changes);
        answer = h.answer ∙ ap (λ (r : RoutingData). answer_to r asks) (sym routing);
      }

  seen-routing : (asks : Option Question) (asked : Option Asked) → IsSeenRouting (length (changes_of head old)) s asks asked → IsRouting head new phase asks asked
  seen-routing None None h = tt
  seen-routing None (Some a) h = h
  seen-routing (Some q) None h = h
  seen-routing (Some q) (Some a) h = seen-answer q a h

-- ---- one lane

-- what is known of a lane at the opening of a phase
record StoodRight (question : Event → Option Question) (told : LaneHead) (head : Head) (phase : ℕ) (control : List ControlEntry) (s : Seated) : Type 0 where
  pub right : IsRightSoFar question head phase control s.journal
  pub head_is : s.head ≡ told
  pub routing : s.place.opened.routing ≡ routing_after (routing_of head) (changes_of head control)
  pub number : s.place.opened.number ≡ length (changes_of head control)
  pub seen : s.place.seen ≡ nothing

module _ (kind : SeatKind) (told : LaneHead) (head : Head) (phase : ℕ) (old new : List ControlEntry) (lists : List Stamped) (list : List Group)
    (was : IsCounted head old) (counted : IsCounted head new) (grows : Grows head phase old new) (within : AllByRecursion (λ c. c.stamp.phase ≤ phase) new)
    (published_is : changes_of head new ≡ changes_of head old ++ list) (at : AreOfLinks phase 0 lists) where
  abbrev asks : Event → Option Question
  asks = kind.question told

  opens-after : (s : Standing) → s.opened.routing ≡ routing_after (routing_of head) (changes_of head old) → s.opened.number ≡ length (changes_of head old) → s.seen.changes ≡ list → OpensAfter head phase old new s
  opens-after s routing number seen = record {
    routing = routing;
    number = number;
    list = published_is ∙ ap (λ l. changes_of head old ++ l) (sym seen);
    before = omega (arith, ap (editions_before phase) grows.journal, before-more phase phase old grows.more (omega arith) grows.of_phase, before-all phase old, was);
    upto = upto-whole phase new within ∙ counted;
  }

  lane-right : (k : ℕ) (a b : Seated) → StoodRight asks told head phase old a → WentOn kind head lists k a b → Begins (published list true) b.place.seen → IsRightSoFar asks head phase new b.journal
  lane-right k a b stood w seen =
      let n : ℕ = length (changes_of head old) in
      let t : Standing = record { opened = b.place.opened; seen = published list true } in
      let looks : LooksFrom b.place t = record { opened = refl; seen = seen } in
      let oldest : (newest_of a.place).number ≡ n = omega (arith, stood.number, ap (λ p. length p.changes) stood.seen) in
      let opens : OpensAfter head phase old new t = opens-after t (ap (λ o. o.routing) w.looks.opened ∙ stood.routing) (ap (λ o. o.number) w.looks.opened ∙ stood.number) refl in
      let mine : AllByRecursion (IsSeenEntry asks (newest_of a.place).number b.place) w.entries =
      subst (λ h. AllByRecursion (IsSeenEntry (kind.question h) (newest_of a.place).number b.place) w.entries) stood.head_is w.routed in
      let all_seen : AllByRecursion (IsSeenEntry asks n t) w.entries =
      weaker (IsSeenEntry asks (newest_of a.place).number b.place) (IsSeenEntry asks n t) w.entries (λ e r. routing-moved (newest_of a.place).number n b.place t (asks e.event) e.asked (omega (arith, oldest)) looks r) mine in
      let pairs : AllByRecursion (λ p. p.0.phase ≡ phase) (pairs_of w.entries) = whole-phase (kind.is_in k) head phase lists (pairs_of w.entries) at w.own in
      let stamps : AllByRecursion (λ (e : Entry). e.stamp.phase ≡ phase) w.entries = all-mapped (λ (p : Stamp × ControlEvent). p.0.phase ≡ phase) (λ (e : Entry). (e.stamp, Plain e.event)) w.entries pairs in
      let kept : IsRightSoFar asks head phase new a.journal = stands-kept asks head phase old new a.journal was grows stood.right in
      let names : editions_in (a.journal ++ w.entries) ≡ editions_in a.journal ++ editions_in w.entries = flat_map-append (λ (e : Entry). named e.asked) a.journal w.entries in
      subst (IsRightSoFar asks head phase new) (sym w.journal) (record {
        within = all-append (λ e. e.stamp.phase ≤ phase) a.journal w.entries kept.within (weaker (λ (e : Entry). e.stamp.phase ≡ phase) (λ (e : Entry). e.stamp.phase ≤ phase) w.entries (λ e s. omega (arith, s)) stamps);
        routed = all-append (IsRouted asks head new) a.journal w.entries kept.routed
            (weaker-two (λ (e : Entry). e.stamp.phase ≡ phase) (IsSeenEntry asks n t) (IsRouted asks head new) w.entries
            (λ e s r. subst (λ p. IsRouting head new p (asks e.event) e.asked) (sym s) (seen-routing head phase old new t opens (asks e.event) e.asked r)) stamps all_seen);
        rising = subst IsNonDecreasing (sym names)
            (rising-append n (editions_in a.journal) (editions_in w.entries) (known-editions asks head old a.journal was stood.right.routed) (editions-least asks n t w.entries all_seen) stood.right.rising w.rising);
      })

  -- and the lanes of a kind
  lanes-right : (olds bs : List Seated) → AllByRecursion (StoodRight asks told head phase old) olds → PairsFrom (WentOn kind head lists) 0 olds bs → AllByRecursion (λ b. Begins (published list true) b.place.seen) bs → AllByRecursion (λ b. IsRightSoFar asks head phase new b.journal) bs
  lanes-right olds bs stood pairs seen =
      weaker-two (λ (b : Seated). Begins (published list true) b.place.seen) (λ (b : Seated). Begins (published list true) b.place.seen → IsRightSoFar asks head phase new b.journal) (λ (b : Seated). IsRightSoFar asks head phase new b.journal) bs
      (λ b s f. f s) seen
      (pairs-all (StoodRight asks told head phase old) (λ (b : Seated). Begins (published list true) b.place.seen → IsRightSoFar asks head phase new b.journal) (WentOn kind head lists) 0 olds bs (λ k a b s w. lane-right k a b s w) stood pairs)

-- ---- lanes of a kind

abbrev IsSeatOf : LaneHead → ℕ → Seated → Type 0
IsSeatOf told k s = (s.head ≡ told) × (s.number ≡ k)

took-seat : (kind : SeatKind) (form : LaneKind) (head : Head) (lists : List Stamped) (k : ℕ) (a b : Seated) → form.is_in ≡ kind.is_in → WentOn kind head lists k a b → LaneTook form head lists k a.journal b.journal
took-seat kind form head lists k a b same w = record { entries = w.entries; journal = w.journal; own = subst (λ is_in. AreWhole (planned (is_in k) head lists) (pairs_of w.entries)) (sym same) w.own }

module _ {A : Type 0} (seated : SeatState A → Seated) (journal_of : A → List Entry) (told : LaneHead) (IsLane : ℕ → A → Type 0)
    (same_journal : (s : SeatState A) → journal_of s.lane ≡ (seated s).journal) (same_place : (s : SeatState A) → s.place ≡ (seated s).place)
    (there : (k : ℕ) (s : SeatState A) → IsLane k s.lane → IsSeatOf told k (seated s)) (back : (k : ℕ) (s : SeatState A) → IsSeatOf told k (seated s) → IsLane k s.lane) where
  journals-are : (seats : List (SeatState A)) → map journal_of (map (λ s. s.lane) seats) ≡ map (λ s. s.journal) (map seated seats)
  journals-are seats = map-twice journal_of (λ (s : SeatState A). s.lane) (λ (s : Seated). s.journal) seated seats same_journal

  places-are : (seats : List (SeatState A)) → map (λ p. p) (map (λ s. s.place) seats) ≡ map (λ s. s.place) (map seated seats)
  places-are seats = map-twice (λ (p : Standing). p) (λ (s : SeatState A). s.place) (λ (s : Seated). s.place) seated seats same_place

  seats-of : (seats : List (SeatState A)) → LanesFrom IsLane 0 (map (λ s. s.lane) seats) → LanesFrom (IsSeatOf told) 0 (map seated seats)
  seats-of seats h = lanes-map (IsSeatOf told) seated 0 seats (lanes-weaker (λ k (s : SeatState A). IsLane k s.lane) (λ k s. IsSeatOf told k (seated s)) 0 seats there (lanes-mapped IsLane (λ (s : SeatState A). s.lane) 0 seats h))

  lanes-of : (seats : List (SeatState A)) → LanesFrom (IsSeatOf told) 0 (map seated seats) → LanesFrom IsLane 0 (map (λ s. s.lane) seats)
  lanes-of seats h = lanes-map IsLane (λ (s : SeatState A). s.lane) 0 seats (lanes-weaker (λ k s. IsSeatOf told k (seated s)) (λ k (s : SeatState A). IsLane k s.lane) 0 seats back (lanes-mapped (IsSeatOf told) seated 0 seats h))

  module _ (kind : SeatKind) (head : Head) (lists : List Stamped) (xs ys : List (SeatState A)) (went : PairsFrom (WentOn kind head lists) 0 (map seated xs) (map seated ys)) where
    lanes-after : LanesFrom IsLane 0 (map (λ s. s.lane) xs) → LanesFrom IsLane 0 (map (λ s. s.lane) ys)
    lanes-after h =
        lanes-of ys (pairs-lanes (IsSeatOf told) (IsSeatOf told) (WentOn kind head lists) 0 (map seated xs) (map seated ys) (λ k a b s w. (w.head_kept ∙ s.0, w.number_kept ∙ s.1)) (seats-of xs h) went)

    count-after : length (map (λ s. s.lane) ys) ≡ length (map (λ s. s.lane) xs)
    count-after =
        length-map ys (λ (s : SeatState A). s.lane) ∙ (sym (length-map ys seated) ∙ (pairs-length (WentOn kind head lists) 0 (map seated xs) (map seated ys) went ∙ (length-map xs seated ∙ sym (length-map xs (λ (s : SeatState A). s.lane)))))

    took-after : (form : LaneKind) → form.is_in ≡ kind.is_in → PairsFrom (LaneTook form head lists) 0 (map journal_of (map (λ s. s.lane) xs)) (map journal_of (map (λ s. s.lane) ys))
    took-after form same =
        subst (λ l. PairsFrom (LaneTook form head lists) 0 l (map journal_of (map (λ s. s.lane) ys))) (sym (journals-are xs))
        (subst (λ l. PairsFrom (LaneTook form head lists) 0 (map (λ s. s.journal) (map seated xs)) l) (sym (journals-are ys))
        (pairs-map (λ k (s : Seated). Unit {0}) (WentOn kind head lists) (LaneTook form head lists) (λ (s : Seated). s.journal) 0 (map seated xs) (map seated ys)
        (λ k a b u w. took-seat kind form head lists k a b same w) (any-lanes 0 (map seated xs)) went))

    right-after : (phase : ℕ) (old new : List ControlEntry) (start : ControlState) (list : List Group) → IsCounted head old → IsCounted head new → Grows head phase old new → AllByRecursion (λ c. c.stamp.phase ≤ phase) new
        → changes_of head new ≡ changes_of head old ++ list → AreOfLinks phase 0 lists
        → routing_after start.start (changes_by start) ≡ routing_after (routing_of head) (changes_of head old) → length (changes_by start) ≡ length (changes_of head old)
        → LanesFrom IsLane 0 (map (λ s. s.lane) xs) → AllByRecursion (IsAtOpening start) (map (λ s. s.place) xs) → AllByRecursion (λ s. Begins (published list true) s.place.seen) ys
        → AllByRecursion (IsRightSoFar (kind.question told) head phase old) (map journal_of (map (λ s. s.lane) xs)) → AllByRecursion (IsRightSoFar (kind.question told) head phase new) (map journal_of (map (λ s. s.lane) ys))
    right-after phase old new start list was counted grows within published_is at routing number lanes opening seen right =
        let question = kind.question told in
        let heads : AllByRecursion (λ s. s.head ≡ told) (map seated xs) = lanes-all (IsSeatOf told) (λ s. s.head ≡ told) 0 (map seated xs) (λ k s of. of.0) (seats-of xs lanes) in
        let places : AllByRecursion (λ s. IsAtOpening start s.place) (map seated xs) =
        all-mapped (IsAtOpening start) (λ (s : Seated). s.place) (map seated xs) (subst (AllByRecursion (IsAtOpening start)) (places-are xs) (all-map (IsAtOpening start) (λ p. p) (map (λ s. s.place) xs) opening)) in
        let journals : AllByRecursion (λ s. IsRightSoFar question head phase old s.journal) (map seated xs) =
        all-mapped (IsRightSoFar question head phase old) (λ (s : Seated). s.journal) (map seated xs) (subst (AllByRecursion (IsRightSoFar question head phase old)) (journals-are xs) right) in
        let stood : AllByRecursion (StoodRight question told head phase old) (map seated xs) =
        weaker-two (λ (s : Seated). IsRightSoFar question head phase old s.journal) (λ (s : Seated). (s.head ≡ told) × IsAtOpening start s.place) (StoodRight question told head phase old) (map seated xs)
        (λ s r o. record { right = r; head_is = o.0; routing = o.1.routing ∙ routing; number = o.1.number ∙ number; seen = o.1.seen }) journals
        (weaker-two (λ (s : Seated). s.head ≡ told) (λ (s : Seated). IsAtOpening start s.place) (λ (s : Seated). (s.head ≡ told) × IsAtOpening start s.place) (map seated xs) (λ s h p. (h, p)) heads places) in
        let all_seen : AllByRecursion (λ b. Begins (published list true) b.place.seen) (map seated ys) =
        all-map (λ (b : Seated). Begins (published list true) b.place.seen) seated ys (weaker (λ (s : SeatState A). Begins (published list true) s.place.seen) (λ s. Begins (published list true) (seated s).place.seen) ys (λ s b. subst (λ (p : Standing). Begins (published list true) p.seen) (same_place s) b) seen) in
        subst (AllByRecursion (IsRightSoFar question head phase new)) (sym (journals-are ys))
        (all-map (IsRightSoFar question head phase new) (λ (s : Seated). s.journal) (map seated ys)
        (lanes-right kind told head phase old new lists list was counted grows within published_is at (map seated xs) (map seated ys) stood went all_seen))

-- ---- the lanes of a node

pub room-open : (n : ℕ) (node : Node) (x : PhaseState) → HasRoom n node → IsOpening node x → HasRoomFor n node.control x
room-open n node x h opening =
    let journals : AllByRecursion (λ j. length j + n < 4294967296) (map (λ (l : ConnLaneState). l.journal) (map (λ s. s.lane) x.conns)) =
    subst (λ l. AllByRecursion (λ j. length j + n < 4294967296) (conn_journals l)) (sym opening.conns.lanes_are) h.conns in
    let same = map-twice (λ (l : ConnLaneState). l.journal) (λ (s : SeatState ConnLaneState). s.lane) (λ (s : Seated). s.journal) conn_seated x.conns (λ s. refl) in
    record {
      control = h.control;
      conns = all-mapped (λ (j : List Entry). length j + n < 4294967296) (λ (s : Seated). s.journal) (conns_seated x) (subst (AllByRecursion (λ j. length j + n < 4294967296)) same journals);
    }

routing-same : (head : Head) (lane : ControlState) → lane.head ≡ control_head_of head → lane.start ≡ routing_of head → routing_after lane.start (changes_by lane) ≡ routing_after (routing_of head) (changes_of head lane.journal)
routing-same head lane h s = ap (λ t. routing_after t (changes_by lane)) s ∙ ap (routing_after (routing_of head)) (changes-same head lane h s)

module _ (head : Head) (lists : List Stamped) (old new : Node) (x y : PhaseState) (lanes : IsOf head old) (opening : IsOpening old x) (went : GoesOn head lists old.control x new.control y)
    (conns_back : new.conns.items ≡ map (λ s. s.lane) y.conns) (units_back : new.units.items ≡ map (λ s. s.lane) y.units) (conns_seen : HaveSeen y.publisher y.conns) (units_seen : HaveSeen y.publisher y.units)
    (legal_old : IsControlJournal old.control.head old.control.start old.control.journal) (legal_new : IsControlJournal new.control.head new.control.start new.control.journal) where
  conns-old : LanesFrom (IsConnLaneOf head) 0 (map (λ s. s.lane) x.conns)
  conns-old = subst (LanesFrom (IsConnLaneOf head) 0) (sym opening.conns.lanes_are) lanes.conns

  units-old : LanesFrom (IsDataLaneOf head) 0 (map (λ s. s.lane) x.units)
  units-old = subst (LanesFrom (IsDataLaneOf head) 0) (sym opening.units.lanes_are) lanes.units

  conn-there : (k : ℕ) (s : SeatState ConnLaneState) → IsConnLaneOf head k s.lane → IsSeatOf (lane_head_of head) k (conn_seated s)
  conn-there k s of = (of.of_head, of.of_number)

  conn-back : (k : ℕ) (s : SeatState ConnLaneState) → IsSeatOf (lane_head_of head) k (conn_seated s) → IsConnLaneOf head k s.lane
  conn-back k s of = record { of_head = of.0; of_number = of.1 }

  unit-there : (k : ℕ) (s : SeatState LaneState) → IsDataLaneOf head k s.lane → IsSeatOf (lane_head_of head) k (data_seated s)
  unit-there k s of = (of.of_head, of.of_number)

  unit-back : (k : ℕ) (s : SeatState LaneState) → IsSeatOf (lane_head_of head) k (data_seated s) → IsDataLaneOf head k s.lane
  unit-back k s of = record { of_head = of.0; of_number = of.1 }

  after : IsOf head new
  after = record {
    control_head = went.head_kept ∙ lanes.control_head;
    start = went.start_kept ∙ lanes.start;
    conn_lanes = ap length conns_back ∙ (count-after conn_seated (λ (l : ConnLaneState). l.journal) (lane_head_of head) (IsConnLaneOf head) (λ s. refl) (λ s. refl) conn-there conn-back conn_seat head lists x.conns y.conns went.conns
        ∙ (ap length opening.conns.lanes_are ∙ lanes.conn_lanes));
    conns = subst (LanesFrom (IsConnLaneOf head) 0) (sym conns_back)
        (lanes-after conn_seated (λ (l : ConnLaneState). l.journal) (lane_head_of head) (IsConnLaneOf head) (λ s. refl) (λ s. refl) conn-there conn-back conn_seat head lists x.conns y.conns went.conns conns-old);
    data_lanes = ap length units_back ∙ (count-after data_seated (λ (l : LaneState). l.journal) (lane_head_of head) (IsDataLaneOf head) (λ s. refl) (λ s. refl) unit-there unit-back data_seat head lists x.units y.units went.units
        ∙ (ap length opening.units.lanes_are ∙ lanes.data_lanes));
    units = subst (LanesFrom (IsDataLaneOf head) 0) (sym units_back)
        (lanes-after data_seated (λ (l : LaneState). l.journal) (lane_head_of head) (IsDataLaneOf head) (λ s. refl) (λ s. refl) unit-there unit-back data_seat head lists x.units y.units went.units units-old);
  }

  changes-grown : changes_of head new.control.journal ≡ changes_of head old.control.journal ++ went.published
  changes-grown =
      sym (changes-same head new.control after.control_head after.start) ∙ (went.here ∙ ap (λ l. l ++ went.published) (changes-same head old.control lanes.control_head lanes.start))

  grown : (phase : ℕ) → AreOfLinks phase 0 lists → Grows head phase old.control.journal new.control.journal
  grown phase at =
      let pairs : AllByRecursion (λ p. p.0.phase ≡ phase) (control_pairs_of went.more) = whole-phase in_control head phase lists (control_pairs_of went.more) at went.own in
      record {
        more = went.more;
        journal = went.journal;
        of_phase = all-mapped (λ (p : Stamp × ControlEvent). p.0.phase ≡ phase) (λ (e : ControlEntry). (e.stamp, e.event)) went.more pairs;
        published = went.published;
        changes = changes-grown;
      }

  -- what was published in the phase
  list-is : y.publisher.seen.changes ≡ went.published
  list-is = went.there ∙ ap (λ (p : Published). p.changes ++ went.published) opening.publisher.seen

  standing : (phase : ℕ) → AreOfLinks phase 0 lists → AreRightSoFar head phase (book_of old) → AreRightSoFar head phase (book_of new)
  standing phase at s =
      let grows : Grows head phase old.control.journal new.control.journal = grown phase at in
      let counted : IsCounted head new.control.journal = legal-here head new.control after.control_head after.start legal_new in
      let within : AllByRecursion (λ c. c.stamp.phase ≤ phase) new.control.journal = within-grown head phase old.control.journal new.control.journal grows s.within in
      let routing = routing-same head old.control lanes.control_head lanes.start in
      let number = ap length (changes-same head old.control lanes.control_head lanes.start) in
      record {
        counted = counted;
        within = within;
        conns = subst (λ l. AllByRecursion (IsRightSoFar (conn_kind head).question head phase new.control.journal) (conn_journals l)) (sym conns_back)
            (right-after conn_seated (λ (l : ConnLaneState). l.journal) (lane_head_of head) (IsConnLaneOf head) (λ s. refl) (λ s. refl) conn-there conn-back conn_seat head lists x.conns y.conns went.conns
            phase old.control.journal new.control.journal old.control went.published s.counted counted grows within changes-grown at routing number conns-old opening.conns.places
            (subst (λ l. AllByRecursion (λ (t : SeatState ConnLaneState). Begins (published l true) t.place.seen) y.conns) list-is conns_seen)
            (subst (λ l. AllByRecursion (IsRightSoFar (conn_kind head).question head phase old.control.journal) (conn_journals l)) (sym opening.conns.lanes_are) s.conns));
        units = subst (λ l. AllByRecursion (IsRightSoFar data_kind.question head phase new.control.journal) (data_journals l)) (sym units_back)
            (right-after data_seated (λ (l : LaneState). l.journal) (lane_head_of head) (IsDataLaneOf head) (λ s. refl) (λ s. refl) unit-there unit-back data_seat head lists x.units y.units went.units
            phase old.control.journal new.control.journal old.control went.published s.counted counted grows within changes-grown at routing number units-old opening.units.places
            (subst (λ l. AllByRecursion (λ (t : SeatState LaneState). Begins (published l true) t.place.seen) y.units) list-is units_seen)
            (subst (λ l. AllByRecursion (IsRightSoFar data_kind.question head phase old.control.journal) (data_journals l)) (sym opening.units.lanes_are) s.units));
      }

  pub went-phase : Went head lists old new
  went-phase = record {
    lanes = after;
    control = record { entries = went.more; journal = went.journal; own = went.own };
    conns = subst (λ l. PairsFrom (LaneTook (conn_kind head) head lists) 0 (conn_journals l) (conn_journals new.conns.items)) opening.conns.lanes_are
        (subst (λ l. PairsFrom (LaneTook (conn_kind head) head lists) 0 (conn_journals (map (λ s. s.lane) x.conns)) (conn_journals l)) (sym conns_back)
        (took-after conn_seated (λ (l : ConnLaneState). l.journal) (lane_head_of head) (IsConnLaneOf head) (λ s. refl) (λ s. refl) conn-there conn-back conn_seat head lists x.conns y.conns went.conns (conn_kind head) refl));
    units = subst (λ l. PairsFrom (LaneTook data_kind head lists) 0 (data_journals l) (data_journals new.units.items)) opening.units.lanes_are
        (subst (λ l. PairsFrom (LaneTook data_kind head lists) 0 (data_journals (map (λ s. s.lane) x.units)) (data_journals l)) (sym units_back)
        (took-after data_seated (λ (l : LaneState). l.journal) (lane_head_of head) (IsDataLaneOf head) (λ s. refl) (λ s. refl) unit-there unit-back data_seat head lists x.units y.units went.units data_kind refl));
    standing = standing;
  }

-- the same, of a call that may be refused
pub went-closed : {E : Type 0} (head : Head) (lists : List Stamped) (old : Node) (control : ControlState) (x y : PhaseState) (r : Result Node E) → IsOf head old → IsOpening old x → GoesOn head lists old.control x control y
    → IfOk r (λ node. IsClosing control y node) → IsControlJournal old.control.head old.control.start old.control.journal → IsControlJournal control.head control.start control.journal → IfOk r (λ node. Went head lists old node)
went-closed head lists old control x y (Ok new) lanes opening went closing legal_old legal_new =
    went-phase head lists old new x y lanes opening (subst (λ c. GoesOn head lists old.control x c y) (sym closing.control_is) went) closing.conns closing.units closing.conns_seen closing.units_seen legal_old
    (subst (λ (c : ControlState). IsControlJournal c.head c.start c.journal) (sym closing.control_is) legal_new)
went-closed head lists old control x y (Err f) lanes opening went closing legal_old legal_new = tt
