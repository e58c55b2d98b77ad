-- What comes of a part, by its stamp, its event and its routing.
use Rattle.std.proofs.Common.{◌≡◌, ℕ, ◌+◌, ◌≤◌, ◌&&◌, zero, suc, nat_le, Bool, true, false, true≢false, List, [], ◌∷◌, length, map, get_or, Option, Some, None, option_and_then, is_some, Ok, Err, Result, slice_get, if◌then◌else◌, ap, sym, ◌∙◌, refl}
use Rattle.std.specs.List.{list_all}
use Rattle.relay_base.specs.Decimal.{digits_value}
use Rattle.relay_base.specs.declared.words.Stamp.{Stamp}
use Rattle.plant_core.specs.Asking.{Question, asked_at}
use Rattle.plant_core.specs.declared.entry.Asked.{Asked}
use Rattle.plant_core.specs.declared.entry.ControlEvent.{ControlEvent}
use Rattle.capture_form.specs.Events.{Stamped}
use Rattle.right_book.specs.Own.{events_at}
use Rattle.journal_form.specs.Headings.{RoutingWords}
use Rattle.journal_form.specs.Parts.{EntryPart}
use Rattle.journal_form.specs.Stamps.{stamp_of}
use Rattle.journal_finding.specs.declared.finding.FindingKind.{FindingKind}
use Rattle.journal_finding.specs.declared.finding.FindingKind.TheVariants.{Order, Edition}
use Rattle.journal_finding.specs.Entries.{LaneRules, is_same_stamp, next_event, editions_of, if_stamped, event_next, may_name, routing_of, with_stamp, with_event, with_routing, entry_of}
use Rattle.lane_events.specs.Pending.{Pending, Waiting, none_pending, links_in, if_same, next_of, next_in}
use Rattle.lane_events.specs.Editions.{Named, routing_at, before_phase, may_be_next, named_next}
use Rattle.lane_audit.specs.Follows.{Awaits, Names, may_follow, named_by}

-- ---- the event

get_or-each : {A B : Type 0} (f : A → B) (xs : List A) (n : ℕ) (d : A) → get_or (map f xs) n (f d) ≡ f (get_or xs n d)
get_or-each f [] n d = refl
get_or-each f (x ∷ xs) zero d = refl
get_or-each f (x ∷ xs) (suc n) d = get_or-each f xs n d

-- the events of a phase and a link
pub events_there : (phases : List (List Pending)) (phase link : ℕ) → events_at (map (map (λ p. p.events)) phases) phase link ≡ (get_or (links_in phases phase) link none_pending).events
events_there phases zero link = refl
events_there phases (suc n) link =
    ap (λ (links : List Stamped). get_or links link []) (get_or-each (map (λ (p : Pending). p.events)) phases n []) ∙ get_or-each (λ (p : Pending). p.events) (get_or phases n []) link none_pending

module _ {V E : Type 0} (rules : LaneRules V E) where
  taken_as : (stamp : Stamp) (found : Option (Stamp × ControlEvent)) → option_and_then (if_stamped rules stamp) found ≡ option_and_then rules.event (option_and_then (if_same stamp) found)
  taken_as stamp None = refl
  taken_as stamp (Some next) = by (is_same_stamp stamp next.0)
    where
      by : (b : Bool) → (if b then rules.event next.1 else None) ≡ option_and_then rules.event (if b then Some next.1 else None)
      by true = refl
      by false = refl

  where_reached : (b : Bool) (x : Option ControlEvent) → (if b then option_and_then rules.event x else None) ≡ option_and_then rules.event (if b then x else None)
  where_reached true x = refl
  where_reached false x = refl

  -- the event that waits next is the lane's
  pub next_is : (journal : List E) (w : Waiting) (stamp : Stamp) → Awaits rules journal w → event_next rules journal stamp ≡ option_and_then rules.event (next_in w stamp)
  next_is journal w stamp awaits =
      let p = get_or (links_in w.phases stamp.phase) stamp.link none_pending in
      let events : events_at rules.events stamp.phase stamp.link ≡ p.events =
      ap (λ es. events_at es stamp.phase stamp.link) (sym awaits.events) ∙ events_there w.phases stamp.phase stamp.link in
      let found : next_event rules journal stamp.phase stamp.link ≡ slice_get p.events p.taken =
      ap (λ n. slice_get (events_at rules.events stamp.phase stamp.link) n) (sym (awaits.taken stamp.phase stamp.link)) ∙ ap (λ es. slice_get es p.taken) events in
      ap (λ b. if b then option_and_then (if_stamped rules stamp) (next_event rules journal stamp.phase stamp.link) else None) (sym (awaits.reached stamp.phase))
      ∙ ap (λ x. if nat_le w.reached stamp.phase then option_and_then (if_stamped rules stamp) x else None) found
      ∙ ap (λ x. if nat_le w.reached stamp.phase then x else None) (taken_as stamp (slice_get p.events p.taken))
      ∙ where_reached (nat_le w.reached stamp.phase) (next_of stamp p)

  -- ---- what comes of a part

  pub without_stamp : (journal : List E) (part : EntryPart) → stamp_of part.words ≡ None → entry_of rules journal part ≡ Err Order
  unfolding entry_of
  without_stamp journal part none = ap (with_stamp rules journal part) none

  with_next : (journal : List E) (part : EntryPart) (stamp : Stamp) (next : Option V) → stamp_of part.words ≡ Some stamp → event_next rules journal stamp ≡ next
      → entry_of rules journal part ≡ with_event rules journal part stamp next
  unfolding entry_of
  with_next journal part stamp next is event = ap (with_stamp rules journal part) is ∙ ap (with_event rules journal part stamp) event

  pub without_event : (journal : List E) (part : EntryPart) (stamp : Stamp) → stamp_of part.words ≡ Some stamp → event_next rules journal stamp ≡ None → entry_of rules journal part ≡ Err Order
  without_event journal part stamp is none = with_next journal part stamp None is none

  pub by_routing : (journal : List E) (part : EntryPart) (stamp : Stamp) (own : V) (routing : Result (Option Asked) FindingKind) → stamp_of part.words ≡ Some stamp → event_next rules journal stamp ≡ Some own
      → routing_of rules journal stamp.phase (rules.question own) part.words.asked ≡ routing
      → entry_of rules journal part ≡ with_routing rules journal part stamp own routing
  by_routing journal part stamp own routing is event asked =
      with_next journal part stamp (Some own) is event ∙ ap (with_routing rules journal part stamp own) asked

  -- ---- the routing

  module _ (journal : List E) (s : Named) (phase : ℕ) (names : Names rules journal s) (within : phase ≤ length rules.events) where
    may_name-is : (edition : ℕ) → may_name rules journal phase edition ≡ may_be_next s phase edition
    may_name-is edition =
        ap (λ n. nat_le n edition && nat_le edition (rules.last phase) && list_all (λ m. nat_le m edition) (editions_of rules journal)) (sym (names.first phase within))
        ∙ ap (λ n. nat_le (before_phase s phase) edition && nat_le edition n && list_all (λ m. nat_le m edition) (editions_of rules journal)) (sym (names.last phase within))
        ∙ ap (λ b. nat_le (before_phase s phase) edition && nat_le edition (before_phase s (phase + 1)) && b) (sym (names.named edition))

    -- an edition that may not be named
    pub routed_wrong : (q : Option Question) (words : Option RoutingWords) → may_follow s phase words ≡ false → routing_of rules journal phase q words ≡ Err Edition
    routed_wrong q None bad = absurd (true≢false bad)
    routed_wrong None (Some words) bad = refl
    routed_wrong (Some q) (Some words) bad =
        let edition = digits_value words.edition in
        ap (λ b. if b then Ok (asked_at edition (rules.routing edition) (Some q)) else Err Edition) (may_name-is edition ∙ bad)

    -- an edition where nothing is asked, or none where something is
    pub routed_other : (q : Option Question) (words : Option RoutingWords) → (is_some q ≡ is_some words → ⊥) → routing_of rules journal phase q words ≡ Err Edition
    routed_other None None other = absurd (other refl)
    routed_other None (Some words) other = refl
    routed_other (Some q) None other = refl
    routed_other (Some q) (Some words) other = absurd (other refl)

    -- the routing at the edition that is named
    pub routed_so : (q : Option Question) (words : Option RoutingWords) → may_follow s phase words ≡ true → is_some q ≡ is_some words
        → routing_of rules journal phase q words ≡ Ok (asked_at (named_by s phase words).edition (routing_at s (named_by s phase words).edition) q)
    routed_so None None may same = refl
    routed_so None (Some words) may same = absurd (true≢false (sym same))
    routed_so (Some q) None may same = absurd (true≢false same)
    routed_so (Some q) (Some words) may same =
        let edition = digits_value words.edition in
        let named : (named_next s phase edition).edition ≡ edition = ap (λ b. (if b then record s { edition = edition } else s).edition) may in
        ap (λ b. if b then Ok (asked_at edition (rules.routing edition) (Some q)) else Err Edition) (may_name-is edition ∙ may)
        ∙ ap (λ r. Ok (asked_at edition r (Some q))) (sym (names.routing edition))
        ∙ ap (λ n. Ok (asked_at n (routing_at s n) (Some q))) (sym named)
