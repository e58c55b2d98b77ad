-- A lane at its place, or the control lane, goes on with one event more.
use Rattle.std.proofs.Common.{◌≡◌, ◌≤◌, List, [], ◌∷◌, ◌++◌, length, map, drop, Option, sym, refl, ap, ◌∙◌, subst, arith, length-append, append-nil, append_assoc}
use Rattle.std.proofs.Math.Seq.{drop-append_seam}
use Rattle.std.proofs.lemmas.List.{map-append}
use Rattle.std.specs.List.{AllByRecursion}
use Rattle.relay_base.specs.declared.words.Event.{Event}
use Rattle.relay_base.specs.declared.words.Stamp.{Stamp}
use Rattle.plant_core.specs.Asking.{Question, asked_at}
use Rattle.plant_core.specs.declared.change.Group.{Group}
use Rattle.plant_core.specs.declared.terms.LaneHead.{LaneHead}
use Rattle.plant_core.specs.declared.entry.Entry.{Entry}
use Rattle.plant_core.specs.declared.entry.ControlEntry.{ControlEntry}
use Rattle.plant_core.specs.declared.entry.ControlEvent.{ControlEvent}
use Rattle.plant_core.specs.declared.entry.ControlEvent.TheVariants.{Plain}
use Rattle.gtt_editions.specs.Standing.{Standing, LooksFrom, newest_of}
use Rattle.capture_form.specs.Events.{Stamped}
use Rattle.scmg.specs.Lane.{GrowAlike}
use Rattle.scmg.specs.Lane.{changes_of as changes_by}
use Rattle.right_book.specs.Own.{pairs_of, control_pairs_of}
use Rattle.lane_seats.specs.Seats.{SeatKind, Seated, Takes, GoneOn, IsSeenEntry}
use Rattle.lane_seats.specs.Controls.{ControlSeatState, ControlTakes, ControlGoneOn, IsUnchanged}
use Rattle.lane_seats.proofs.SeenLemmas.{pairs_push, routed_later, routed_more, rising_more}

-- ---- looks and published groups of changes, one after the other

pub looks_on : (r s t : Standing) → LooksFrom r s → LooksFrom s t → LooksFrom r t
looks_on r s t a b = record {
  opened = b.opened ∙ a.opened;
  seen = record {
    rest = a.seen.rest ++ b.seen.rest;
    longer = b.seen.longer ∙ (ap (λ (l : List Group). l ++ b.seen.rest) a.seen.longer ∙ append_assoc r.seen.changes a.seen.rest b.seen.rest);
    closed = λ ended. let one : s.seen ≡ r.seen = a.seen.closed ended in b.seen.closed (ap (λ p. p.ended) one ∙ ended) ∙ one;
  };
}

pub looks_stay : (s : Standing) → LooksFrom s s
looks_stay s = record { opened = refl; seen = record { rest = []; longer = sym (append-nil s.seen.changes); closed = λ ended. refl } }

pub looked_no_less : (s t : Standing) → LooksFrom s t → (newest_of s).number ≤ (newest_of t).number
looked_no_less s t looks =
    omega (arith, ap (λ o. o.number) looks.opened, ap length looks.seen.longer, length-append s.seen.changes looks.seen.rest)

pub grow_on : (a b c x y z : List Group) → GrowAlike a b x y → GrowAlike b c y z → GrowAlike a c x z
grow_on a b c x y z g h = record {
  more = g.more ++ h.more;
  here = h.here ∙ (ap (λ (l : List Group). l ++ h.more) g.here ∙ append_assoc a g.more h.more);
  there = h.there ∙ (ap (λ (l : List Group). l ++ h.more) g.there ∙ append_assoc x g.more h.more);
}

pub grow_none : (a x : List Group) → GrowAlike a a x x
grow_none a x = record { more = []; here = sym (append-nil a); there = sym (append-nil x) }

-- ---- the pairs of a journal that grew

pub grown_pairs : {A : Type 0} (f : A → Stamp × ControlEvent) (old new more : List A) → new ≡ old ++ more → map f new ≡ map f old ++ map f more
grown_pairs f old new more is = ap (map f) is ∙ map-append f old more

pub fresh_pairs : (old new more : Stamped) → new ≡ old ++ more → drop (length old) new ≡ more
fresh_pairs old new more is = ap (drop (length old)) is ∙ drop-append_seam old more

pub split : (Own : Stamped → Type 0) (old new more : Stamped) → new ≡ old ++ more → Own more → (new ≡ old ++ drop (length old) new) × Own (drop (length old) new)
split Own old new more is own =
    let same : drop (length old) new ≡ more = fresh_pairs old new more is in
    (is ∙ ap (λ (l : Stamped). old ++ l) (sym same), subst Own (sym same) own)

-- ---- one event more

module _ (Own New : Stamped → Type 0) (stamp : Stamp) (event : ControlEvent) where
  pub seat_more : (kind : SeatKind) (e : Event) (a b c : Seated) → event ≡ Plain e → Takes kind stamp e b c → (h : GoneOn kind Own a b) → (Own (pairs_of h.entries) → New (pairs_of h.entries ++ (stamp, event) ∷ [])) → GoneOn kind New a c
  seat_more kind e a b c is t h own =
      let told : b.head ≡ a.head = h.head_kept in
      let asks : LaneHead → Event → Option Question = kind.question in
      let least : (newest_of a.place).number ≤ (newest_of c.place).number = omega (arith, looked_no_less a.place b.place h.looks, looked_no_less b.place c.place t.looks) in
      let answered : t.journal.entry.asked ≡ asked_at (newest_of c.place).number (newest_of c.place).routing (asks a.head e) =
      t.journal.answered ∙ ap (λ (l : LaneHead). asked_at (newest_of c.place).number (newest_of c.place).routing (asks l e)) told in
      let routed : AllByRecursion (IsSeenEntry (asks a.head) (newest_of a.place).number c.place) h.entries =
      routed_later (asks a.head) (newest_of a.place).number b.place c.place h.entries t.looks h.routed in
      record {
        entries = h.entries ++ t.journal.entry ∷ [];
        journal = t.journal.journal ∙ (ap (λ (l : List Entry). l ++ t.journal.entry ∷ []) h.journal ∙ append_assoc a.journal h.entries (t.journal.entry ∷ []));
        own = subst New (sym (pairs_push h.entries t.journal.entry stamp e t.journal.stamped t.journal.of_event ∙ ap (λ x. pairs_of h.entries ++ (stamp, x) ∷ []) (sym is))) (own h.own);
        looks = looks_on a.place b.place c.place h.looks t.looks;
        routed = routed_more (asks a.head) (newest_of a.place).number c.place e h.entries t.journal.entry least t.journal.of_event answered routed;
        rising = rising_more (asks a.head) (newest_of a.place).number c.place e h.entries t.journal.entry least t.journal.of_event answered routed h.rising;
        head_kept = t.head_kept ∙ h.head_kept;
        number_kept = t.number_kept ∙ h.number_kept;
      }

  pub control_more : (a b c : ControlSeatState) → ControlTakes stamp event b c → (h : ControlGoneOn Own a b) → (Own (control_pairs_of h.entries) → New (control_pairs_of h.entries ++ (stamp, event) ∷ [])) → ControlGoneOn New a c
  control_more a b c t h own =
      let pair : (t.adds.entry.stamp, t.adds.entry.event) ≡ (stamp, event) = λ i. (t.adds.stamped i, t.adds.of_event i) in
      let pairs : control_pairs_of (h.entries ++ t.adds.entry ∷ []) ≡ control_pairs_of h.entries ++ (stamp, event) ∷ [] =
      map-append (λ (x : ControlEntry). (x.stamp, x.event)) h.entries (t.adds.entry ∷ []) ∙ ap (λ p. control_pairs_of h.entries ++ p ∷ []) pair in
      record {
        entries = h.entries ++ t.adds.entry ∷ [];
        journal = t.adds.journal ∙ (ap (λ (l : List ControlEntry). l ++ t.adds.entry ∷ []) h.journal ∙ append_assoc a.lane.journal h.entries (t.adds.entry ∷ []));
        own = subst New (sym pairs) (own h.own);
        head_kept = t.adds.head ∙ h.head_kept;
        start_kept = t.adds.start ∙ h.start_kept;
        grown = grow_on a.publisher.seen.changes b.publisher.seen.changes c.publisher.seen.changes (changes_by a.lane) (changes_by b.lane) (changes_by c.lane) h.grown t.grows;
        first = t.first ∙ h.first;
      }

-- ---- a lane that is as before

pub seat_before : (kind : SeatKind) (Own : Stamped → Type 0) (a b c : Seated) → c.head ≡ b.head → c.number ≡ b.number → c.journal ≡ b.journal → LooksFrom b.place c.place → GoneOn kind Own a b → GoneOn kind Own a c
seat_before kind Own a b c head number journal looks h = record {
  entries = h.entries;
  journal = journal ∙ h.journal;
  own = h.own;
  looks = looks_on a.place b.place c.place h.looks looks;
  routed = routed_later (kind.question a.head) (newest_of a.place).number b.place c.place h.entries looks h.routed;
  rising = h.rising;
  head_kept = head ∙ h.head_kept;
  number_kept = number ∙ h.number_kept;
}

pub control_before : (Own : Stamped → Type 0) (a b c : ControlSeatState) → IsUnchanged b c → ControlGoneOn Own a b → ControlGoneOn Own a c
control_before Own a b c u h = record {
  entries = h.entries;
  journal = ap (λ l. l.journal) u.lane ∙ h.journal;
  own = h.own;
  head_kept = ap (λ l. l.head) u.lane ∙ h.head_kept;
  start_kept = ap (λ l. l.start) u.lane ∙ h.start_kept;
  grown = record {
    more = h.grown.more;
    here = u.published ∙ h.grown.here;
    there = ap changes_by u.lane ∙ h.grown.there;
  };
  first = u.first ∙ h.first;
}
