-- A lane goes on with one event more.
use Rattle.std.proofs.Common.{◌≡◌, ℕ, ◌+◌, ◌<◌, [], ◌∷◌, ◌++◌, length, drop, rules, sym, refl, ap, ◌∙◌, subst, arith, length-append, append-nil}
use Rattle.relay_base.specs.declared.words.Stamp.{Stamp}
use Rattle.plant_core.specs.declared.entry.Entry.{Entry}
use Rattle.plant_core.specs.declared.entry.ControlEntry.{ControlEntry}
use Rattle.plant_core.specs.declared.entry.ControlEvent.{ControlEvent}
use Rattle.plant_core.specs.declared.entry.ControlEvent.TheVariants.{Plain, Change as Changing}
use Rattle.capture_form.specs.Events.{Stamped}
use Rattle.scmg.specs.Lane.{changes_of as changes_by}
use Rattle.right_book.specs.Own.{pairs_of, control_pairs_of}
use Rattle.lane_seats.specs.Seats.{conn_seat, data_seat, data_seated}
use Rattle.lane_seats.proofs.SeenLemmas.{pairs_push}
use Rattle.lane_seats.proofs.GrowLemmas.{looks_stay, grow_none, grown_pairs, fresh_pairs, split, seat_more, control_more, seat_before, control_before}
use Rattle.lane_turns.specs.ConnSeats.{conn_seated}
use Rattle.lane_turns.specs.LaneStates.{PhaseLane, Control, Conn, Data}
use Rattle.lane_turns.specs.Turns.{TakesEvent, IsAsBefore, HasGoneOn, HasRoom, pairs_in}

-- ---- the pairs of a journal that grew

-- what a lane went on with is what its journal has past that of the first
pub gone_pairs : (Own : Stamped → Type 0) (a b : PhaseLane) → HasGoneOn Own a b → (pairs_in b ≡ pairs_in a ++ drop (length (pairs_in a)) (pairs_in b)) × Own (drop (length (pairs_in a)) (pairs_in b))
gone_pairs Own (Control a) (Control b) h =
    split Own (control_pairs_of a.lane.journal) (control_pairs_of b.lane.journal) (control_pairs_of h.entries)
    (grown_pairs (λ (e : ControlEntry). (e.stamp, e.event)) a.lane.journal b.lane.journal h.entries h.journal) h.own
gone_pairs Own (Conn a) (Conn b) h =
    split Own (pairs_of a.lane.journal) (pairs_of b.lane.journal) (pairs_of h.entries)
    (grown_pairs (λ (e : Entry). (e.stamp, Plain e.event)) a.lane.journal b.lane.journal h.entries h.journal) h.own
gone_pairs Own (Data a) (Data b) h =
    split Own (pairs_of a.lane.journal) (pairs_of b.lane.journal) (pairs_of h.entries)
    (grown_pairs (λ (e : Entry). (e.stamp, Plain e.event)) a.lane.journal b.lane.journal h.entries h.journal) h.own
gone_pairs Own (Control a) (Conn b) h = absurd h
gone_pairs Own (Control a) (Data b) h = absurd h
gone_pairs Own (Conn a) (Control b) h = absurd h
gone_pairs Own (Conn a) (Data b) h = absurd h
gone_pairs Own (Data a) (Control b) h = absurd h
gone_pairs Own (Data a) (Conn b) h = absurd h

-- a lane that takes an event has its pair at the end
pub takes_pairs : (stamp : Stamp) (event : ControlEvent) (a b : PhaseLane) → TakesEvent stamp event a b → pairs_in b ≡ pairs_in a ++ (stamp, event) ∷ []
takes_pairs stamp event (Control a) (Control b) h =
    let pair : (h.adds.entry.stamp, h.adds.entry.event) ≡ (stamp, event) = λ i. (h.adds.stamped i, h.adds.of_event i) in
    grown_pairs (λ (e : ControlEntry). (e.stamp, e.event)) a.lane.journal b.lane.journal (h.adds.entry ∷ []) h.adds.journal
    ∙ ap (λ p. control_pairs_of a.lane.journal ++ p ∷ []) pair
takes_pairs stamp (Plain e) (Conn a) (Conn b) h =
    ap pairs_of h.journal.journal ∙ pairs_push a.lane.journal h.journal.entry stamp e h.journal.stamped h.journal.of_event
takes_pairs stamp (Plain e) (Data a) (Data b) h =
    ap pairs_of h.journal.journal ∙ pairs_push a.lane.journal h.journal.entry stamp e h.journal.stamped h.journal.of_event
takes_pairs stamp (Changing c) (Conn a) (Conn b) h = absurd h
takes_pairs stamp (Changing c) (Data a) (Data b) h = absurd h
takes_pairs stamp event (Control a) (Conn b) h = absurd h
takes_pairs stamp event (Control a) (Data b) h = absurd h
takes_pairs stamp (Plain e) (Conn a) (Control b) h = absurd h
takes_pairs stamp (Plain e) (Conn a) (Data b) h = absurd h
takes_pairs stamp (Plain e) (Data a) (Control b) h = absurd h
takes_pairs stamp (Plain e) (Data a) (Conn b) h = absurd h
takes_pairs stamp (Changing c) (Conn a) (Control b) h = absurd h
takes_pairs stamp (Changing c) (Conn a) (Data b) h = absurd h
takes_pairs stamp (Changing c) (Data a) (Control b) h = absurd h
takes_pairs stamp (Changing c) (Data a) (Conn b) h = absurd h

-- a lane that is as before has the same
pub before_pairs : (a b : PhaseLane) → IsAsBefore a b → pairs_in b ≡ pairs_in a
before_pairs (Control a) (Control b) h = ap (λ l. control_pairs_of l.journal) h.lane
before_pairs (Conn a) (Conn b) h = ap (λ l. pairs_of l.journal) h.lane
before_pairs (Data a) (Data b) h = ap (λ l. pairs_of l.journal) h.lane
before_pairs (Control a) (Conn b) h = absurd h
before_pairs (Control a) (Data b) h = absurd h
before_pairs (Conn a) (Control b) h = absurd h
before_pairs (Conn a) (Data b) h = absurd h
before_pairs (Data a) (Control b) h = absurd h
before_pairs (Data a) (Conn b) h = absurd h

-- ---- one event more

-- if what the lane went on with and the event's pair make such events
pub gone_more : (Own New : Stamped → Type 0) (stamp : Stamp) (event : ControlEvent) (a b c : PhaseLane) → TakesEvent stamp event b c → HasGoneOn Own a b
    → (Own (drop (length (pairs_in a)) (pairs_in b)) → New (drop (length (pairs_in a)) (pairs_in b) ++ (stamp, event) ∷ [])) → HasGoneOn New a c
gone_more Own New stamp event (Control a) (Control b) (Control c) t h own =
    let same : drop (length (control_pairs_of a.lane.journal)) (control_pairs_of b.lane.journal) ≡ control_pairs_of h.entries =
    fresh_pairs (control_pairs_of a.lane.journal) (control_pairs_of b.lane.journal) (control_pairs_of h.entries)
    (grown_pairs (λ (e : ControlEntry). (e.stamp, e.event)) a.lane.journal b.lane.journal h.entries h.journal) in
    control_more Own New stamp event a b c t h (subst (λ (l : Stamped). Own l → New (l ++ (stamp, event) ∷ [])) same own)
gone_more Own New stamp (Plain e) (Conn a) (Conn b) (Conn c) t h own =
    let same : drop (length (pairs_of a.lane.journal)) (pairs_of b.lane.journal) ≡ pairs_of h.entries =
    fresh_pairs (pairs_of a.lane.journal) (pairs_of b.lane.journal) (pairs_of h.entries)
    (grown_pairs (λ (x : Entry). (x.stamp, Plain x.event)) a.lane.journal b.lane.journal h.entries h.journal) in
    seat_more Own New stamp (Plain e) conn_seat e (conn_seated a) (conn_seated b) (conn_seated c) refl t h (subst (λ (l : Stamped). Own l → New (l ++ (stamp, Plain e) ∷ [])) same own)
gone_more Own New stamp (Plain e) (Data a) (Data b) (Data c) t h own =
    let same : drop (length (pairs_of a.lane.journal)) (pairs_of b.lane.journal) ≡ pairs_of h.entries =
    fresh_pairs (pairs_of a.lane.journal) (pairs_of b.lane.journal) (pairs_of h.entries)
    (grown_pairs (λ (x : Entry). (x.stamp, Plain x.event)) a.lane.journal b.lane.journal h.entries h.journal) in
    seat_more Own New stamp (Plain e) data_seat e (data_seated a) (data_seated b) (data_seated c) refl t h (subst (λ (l : Stamped). Own l → New (l ++ (stamp, Plain e) ∷ [])) same own)
gone_more Own New stamp event (Control a) (Control b) (Conn c) t h own = absurd t
gone_more Own New stamp event (Control a) (Control b) (Data c) t h own = absurd t
gone_more Own New stamp event (Control a) (Conn b) c t h own = absurd h
gone_more Own New stamp event (Control a) (Data b) c t h own = absurd h
gone_more Own New stamp event (Conn a) (Control b) c t h own = absurd h
gone_more Own New stamp (Plain e) (Conn a) (Conn b) (Control c) t h own = absurd t
gone_more Own New stamp (Changing e) (Conn a) (Conn b) (Control c) t h own = absurd t
gone_more Own New stamp (Changing e) (Conn a) (Conn b) (Conn c) t h own = absurd t
gone_more Own New stamp (Plain e) (Conn a) (Conn b) (Data c) t h own = absurd t
gone_more Own New stamp (Changing e) (Conn a) (Conn b) (Data c) t h own = absurd t
gone_more Own New stamp event (Conn a) (Data b) c t h own = absurd h
gone_more Own New stamp event (Data a) (Control b) c t h own = absurd h
gone_more Own New stamp event (Data a) (Conn b) c t h own = absurd h
gone_more Own New stamp (Plain e) (Data a) (Data b) (Control c) t h own = absurd t
gone_more Own New stamp (Changing e) (Data a) (Data b) (Control c) t h own = absurd t
gone_more Own New stamp (Plain e) (Data a) (Data b) (Conn c) t h own = absurd t
gone_more Own New stamp (Changing e) (Data a) (Data b) (Conn c) t h own = absurd t
gone_more Own New stamp (Changing e) (Data a) (Data b) (Data c) t h own = absurd t

-- ---- a lane that is as before

pub gone_before : (Own : Stamped → Type 0) (a b c : PhaseLane) → IsAsBefore b c → HasGoneOn Own a b → HasGoneOn Own a c
gone_before Own (Control a) (Control b) (Control c) u h = control_before Own a b c u h
gone_before Own (Conn a) (Conn b) (Conn c) u h =
    seat_before conn_seat Own (conn_seated a) (conn_seated b) (conn_seated c) (ap (λ l. l.head) u.lane) (ap (λ l. l.number) u.lane) (ap (λ l. l.journal) u.lane) u.looks h
gone_before Own (Data a) (Data b) (Data c) u h =
    seat_before data_seat Own (data_seated a) (data_seated b) (data_seated c) (ap (λ l. l.head) u.lane) (ap (λ l. l.number) u.lane) (ap (λ l. l.journal) u.lane) u.looks h
gone_before Own (Control a) (Control b) (Conn c) u h = absurd u
gone_before Own (Control a) (Control b) (Data c) u h = absurd u
gone_before Own (Control a) (Conn b) c u h = absurd h
gone_before Own (Control a) (Data b) c u h = absurd h
gone_before Own (Conn a) (Control b) c u h = absurd h
gone_before Own (Conn a) (Conn b) (Control c) u h = absurd u
gone_before Own (Conn a) (Conn b) (Data c) u h = absurd u
gone_before Own (Conn a) (Data b) c u h = absurd h
gone_before Own (Data a) (Control b) c u h = absurd h
gone_before Own (Data a) (Conn b) c u h = absurd h
gone_before Own (Data a) (Data b) (Control c) u h = absurd u
gone_before Own (Data a) (Data b) (Conn c) u h = absurd u

-- ---- room

pub room_more : (more less : ℕ) (stamp : Stamp) (event : ControlEvent) (b c : PhaseLane) → less + 1 ≡ more → TakesEvent stamp event b c → HasRoom more b → HasRoom less c
room_more more less stamp event (Control b) (Control c) is t r = (
  omega (arith, is, r.0, ap length t.adds.journal, length-append b.lane.journal (t.adds.entry ∷ [])),
  omega (arith, r.1, t.first, ap length t.grows.here, ap length t.grows.there, length-append b.publisher.seen.changes t.grows.more, length-append (changes_by b.lane) t.grows.more),
)
room_more more less stamp (Plain e) (Conn b) (Conn c) is t r = omega (arith, is, r, ap length t.journal.journal, length-append b.lane.journal (t.journal.entry ∷ []))
room_more more less stamp (Plain e) (Data b) (Data c) is t r = tt
room_more more less stamp event (Control b) (Conn c) is t r = absurd t
room_more more less stamp event (Control b) (Data c) is t r = absurd t
room_more more less stamp (Plain e) (Conn b) (Control c) is t r = absurd t
room_more more less stamp (Changing e) (Conn b) (Control c) is t r = absurd t
room_more more less stamp (Changing e) (Conn b) (Conn c) is t r = absurd t
room_more more less stamp (Plain e) (Conn b) (Data c) is t r = absurd t
room_more more less stamp (Changing e) (Conn b) (Data c) is t r = absurd t
room_more more less stamp (Plain e) (Data b) (Control c) is t r = absurd t
room_more more less stamp (Changing e) (Data b) (Control c) is t r = absurd t
room_more more less stamp (Plain e) (Data b) (Conn c) is t r = absurd t
room_more more less stamp (Changing e) (Data b) (Conn c) is t r = absurd t
room_more more less stamp (Changing e) (Data b) (Data c) is t r = absurd t

pub room_before : (events : ℕ) (b c : PhaseLane) → IsAsBefore b c → HasRoom events b → HasRoom events c
room_before events (Control b) (Control c) u r = (
  subst (λ l. length l.journal + events < 4294967296) (sym u.lane) r.0,
  omega (arith, r.1, u.first, ap length u.published, ap (λ l. length (changes_by l)) u.lane),
)
room_before events (Conn b) (Conn c) u r = subst (λ l. length l.journal + events < 4294967296) (sym u.lane) r
room_before events (Data b) (Data c) u r = tt
room_before events (Control b) (Conn c) u r = absurd u
room_before events (Control b) (Data c) u r = absurd u
room_before events (Conn b) (Control c) u r = absurd u
room_before events (Conn b) (Data c) u r = absurd u
room_before events (Data b) (Control c) u r = absurd u
room_before events (Data b) (Conn c) u r = absurd u

-- ---- a lane at the opening

pub gone_none : (Own : Stamped → Type 0) (a : PhaseLane) → Own [] → HasGoneOn Own a a
gone_none Own (Control a) own = record {
  entries = [];
  journal = sym (append-nil a.lane.journal);
  own = own;
  head_kept = refl;
  start_kept = refl;
  grown = grow_none a.publisher.seen.changes (changes_by a.lane);
  first = refl;
}
gone_none Own (Conn a) own = record {
  entries = [];
  journal = sym (append-nil a.lane.journal);
  own = own;
  looks = looks_stay a.place;
  routed = tt;
  rising = search rules;
  head_kept = refl;
  number_kept = refl;
}
gone_none Own (Data a) own = record {
  entries = [];
  journal = sym (append-nil a.lane.journal);
  own = own;
  looks = looks_stay a.place;
  routed = tt;
  rising = search rules;
  head_kept = refl;
  number_kept = refl;
}

-- ---- what a lane went on with, in other words

pub gone_other : (Own New : Stamped → Type 0) (a b : PhaseLane) → HasGoneOn Own a b → (Own (drop (length (pairs_in a)) (pairs_in b)) → New (drop (length (pairs_in a)) (pairs_in b))) → HasGoneOn New a b
gone_other Own New (Control a) (Control b) h own =
    let same : drop (length (control_pairs_of a.lane.journal)) (control_pairs_of b.lane.journal) ≡ control_pairs_of h.entries =
    fresh_pairs (control_pairs_of a.lane.journal) (control_pairs_of b.lane.journal) (control_pairs_of h.entries)
    (grown_pairs (λ (e : ControlEntry). (e.stamp, e.event)) a.lane.journal b.lane.journal h.entries h.journal) in
    record { entries = h.entries; journal = h.journal; own = subst (λ (l : Stamped). Own l → New l) same own h.own; head_kept = h.head_kept; start_kept = h.start_kept; grown = h.grown; first = h.first }
gone_other Own New (Conn a) (Conn b) h own =
    let same : drop (length (pairs_of a.lane.journal)) (pairs_of b.lane.journal) ≡ pairs_of h.entries =
    fresh_pairs (pairs_of a.lane.journal) (pairs_of b.lane.journal) (pairs_of h.entries)
    (grown_pairs (λ (e : Entry). (e.stamp, Plain e.event)) a.lane.journal b.lane.journal h.entries h.journal) in
    record { entries = h.entries; journal = h.journal; own = subst (λ (l : Stamped). Own l → New l) same own h.own; looks = h.looks; routed = h.routed; rising = h.rising; head_kept = h.head_kept; number_kept = h.number_kept }
gone_other Own New (Data a) (Data b) h own =
    let same : drop (length (pairs_of a.lane.journal)) (pairs_of b.lane.journal) ≡ pairs_of h.entries =
    fresh_pairs (pairs_of a.lane.journal) (pairs_of b.lane.journal) (pairs_of h.entries)
    (grown_pairs (λ (e : Entry). (e.stamp, Plain e.event)) a.lane.journal b.lane.journal h.entries h.journal) in
    record { entries = h.entries; journal = h.journal; own = subst (λ (l : Stamped). Own l → New l) same own h.own; looks = h.looks; routed = h.routed; rising = h.rising; head_kept = h.head_kept; number_kept = h.number_kept }
gone_other Own New (Control a) (Conn b) h own = absurd h
gone_other Own New (Control a) (Data b) h own = absurd h
gone_other Own New (Conn a) (Control b) h own = absurd h
gone_other Own New (Conn a) (Data b) h own = absurd h
gone_other Own New (Data a) (Control b) h own = absurd h
gone_other Own New (Data a) (Conn b) h own = absurd h
