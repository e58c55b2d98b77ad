-- What a lane saw of the editions stays seen, and what it routes by its newest look is seen.
use Rattle.std.proofs.Common.{◌≡◌, ℕ, ◌-◌, ◌≤◌, List, [], ◌∷◌, ◌++◌, length, take, Option, Some, None, sym, ap, ◌∙◌, subst, arith, length-append, append-nil}
use Rattle.std.proofs.lemmas.List.{map-append, take-append-le, take_all}
use Rattle.std.proofs.lemmas.List.Elements.{All-from_recursion}
use Rattle.std.proofs.lemmas.List.Sorted.{IsNonDecreasingBy-push}
use Rattle.std.proofs.lemmas.Grind.{flat_map-append}
use Rattle.std.specs.List.{AllByRecursion}
use Rattle.std.specs.List.Sorted.{IsNonDecreasing}
use Rattle.relay_base.specs.declared.words.Event.{Event}
use Rattle.relay_base.specs.declared.words.Stamp.{Stamp}
use Rattle.plant_core.specs.Asking.{Question, answer_to, asked_at}
use Rattle.plant_core.specs.Plant.{RoutingData}
use Rattle.plant_core.specs.Changes.{plant_after_all}
use Rattle.plant_core.specs.declared.entry.Asked.{Asked}
use Rattle.plant_core.specs.declared.entry.Entry.{Entry}
use Rattle.plant_core.specs.declared.entry.ControlEvent.TheVariants.{Plain}
use Rattle.gtt_editions.specs.Standing.{Standing, LooksFrom, newest_of}
use Rattle.right_book.specs.Own.{pairs_of}
use Rattle.right_book.specs.Editions.{editions_in, named}
use Rattle.right_book.proofs.ListLemmas.{weaker, all-append, all-push}
use Rattle.lane_seats.specs.Seats.{IsSeen, IsSeenRouting, IsSeenEntry}

-- ---- what was seen stays seen

seen_later : (oldest : ℕ) (s t : Standing) (asks : Question) (asked : Asked) → LooksFrom s t → IsSeen oldest s asks asked → IsSeen oldest t asks asked
seen_later oldest s t asks asked looks h =
    let o : t.opened ≡ s.opened = looks.opened in
    let more : t.seen.changes ≡ s.seen.changes ++ looks.seen.rest = looks.seen.longer in
    let far : asked.edition - s.opened.number ≤ length s.seen.changes = omega (arith, h.most) in
    let same : take (asked.edition - t.opened.number) t.seen.changes ≡ take (asked.edition - s.opened.number) s.seen.changes =
    rw (o, more) (take-append-le (asked.edition - s.opened.number) s.seen.changes looks.seen.rest far) in record {
      least = h.least;
      most = rw (o, more, length-append) (omega (arith, h.most));
      answer = h.answer ∙ sym (λ i. answer_to (plant_after_all (o i).routing (same i)) asks);
    }

pub seen_routing_later : (oldest : ℕ) (s t : Standing) (asks : Option Question) (asked : Option Asked) → LooksFrom s t → IsSeenRouting oldest s asks asked → IsSeenRouting oldest t asks asked
seen_routing_later oldest s t None None looks h = tt
seen_routing_later oldest s t None (Some a) looks h = h
seen_routing_later oldest s t (Some q) None looks h = h
seen_routing_later oldest s t (Some q) (Some a) looks h = seen_later oldest s t q a looks h

-- the newest routing
pub seen_newest : (oldest : ℕ) (s : Standing) (asks : Option Question) → oldest ≤ (newest_of s).number → IsSeenRouting oldest s asks (asked_at (newest_of s).number (newest_of s).routing asks)
seen_newest oldest s None le = tt
seen_newest oldest s (Some q) le =
    let all : take ((newest_of s).number - s.opened.number) s.seen.changes ≡ s.seen.changes = take_all ((newest_of s).number - s.opened.number) s.seen.changes (omega arith) in
    record {
      least = le;
      most = omega arith;
      answer = sym (λ i. answer_to (plant_after_all s.opened.routing (all i)) q);
    }

-- ---- the editions that are named

seen_known : (oldest : ℕ) (s : Standing) (asks : Option Question) (asked : Option Asked) → IsSeenRouting oldest s asks asked → AllByRecursion (λ n. n ≤ (newest_of s).number) (named asked)
seen_known oldest s None None h = tt
seen_known oldest s None (Some a) h = absurd h
seen_known oldest s (Some q) None h = tt
seen_known oldest s (Some q) (Some a) h = (h.most, tt)

known_editions : (question : Event → Option Question) (oldest : ℕ) (s : Standing) (entries : List Entry) → AllByRecursion (IsSeenEntry question oldest s) entries → AllByRecursion (λ n. n ≤ (newest_of s).number) (editions_in entries)
known_editions question oldest s [] h = tt
known_editions question oldest s (e ∷ es) h =
    all-append (λ n. n ≤ (newest_of s).number) (named e.asked) (editions_in es) (seen_known oldest s (question e.event) e.asked h.0) (known_editions question oldest s es h.1)

rising_push : (most : ℕ) (editions : List ℕ) → AllByRecursion (λ n. n ≤ most) editions → IsNonDecreasing editions → IsNonDecreasing (editions ++ most ∷ [])
rising_push most editions h r =
    IsNonDecreasingBy-push (λ n. n) editions most r (λ d some. All-from_recursion (λ n. n ≤ most) editions h (length editions - 1) d (omega (arith, some)))

rising_asked : (most : ℕ) (editions : List ℕ) (routing : RoutingData) (asks : Option Question) → AllByRecursion (λ n. n ≤ most) editions → IsNonDecreasing editions → IsNonDecreasing (editions ++ named (asked_at most routing asks))
rising_asked most editions routing None h r = subst IsNonDecreasing (sym (append-nil editions)) r
rising_asked most editions routing (Some q) h r = rising_push most editions h r

editions_push : (entries : List Entry) (entry : Entry) → editions_in (entries ++ entry ∷ []) ≡ editions_in entries ++ named entry.asked
editions_push entries entry = flat_map-append (λ (e : Entry). named e.asked) entries (entry ∷ []) ∙ ap (λ l. editions_in entries ++ l) (append-nil (named entry.asked))

pub pairs_push : (entries : List Entry) (entry : Entry) (stamp : Stamp) (e : Event) → entry.stamp ≡ stamp → entry.event ≡ e → pairs_of (entries ++ entry ∷ []) ≡ pairs_of entries ++ (stamp, Plain e) ∷ []
pairs_push entries entry stamp e stamped of_event =
    let pair : (entry.stamp, Plain entry.event) ≡ (stamp, Plain e) = λ i. (stamped i, Plain (of_event i)) in
    map-append (λ (x : Entry). (x.stamp, Plain x.event)) entries (entry ∷ []) ∙ ap (λ p. pairs_of entries ++ p ∷ []) pair

-- ---- one entry more

module _ (question : Event → Option Question) (oldest : ℕ) where
  pub routed_later : (s t : Standing) (entries : List Entry) → LooksFrom s t → AllByRecursion (IsSeenEntry question oldest s) entries → AllByRecursion (IsSeenEntry question oldest t) entries
  routed_later s t entries looks h = weaker (IsSeenEntry question oldest s) (IsSeenEntry question oldest t) entries (λ e r. seen_routing_later oldest s t (question e.event) e.asked looks r) h

  module _ (s : Standing) (e : Event) (entries : List Entry) (entry : Entry) (le : oldest ≤ (newest_of s).number) (of_event : entry.event ≡ e)
      (answered : entry.asked ≡ asked_at (newest_of s).number (newest_of s).routing (question e)) (routed : AllByRecursion (IsSeenEntry question oldest s) entries) where
    pub routed_more : AllByRecursion (IsSeenEntry question oldest s) (entries ++ entry ∷ [])
    routed_more =
        let new : IsSeenEntry question oldest s entry =
        subst (IsSeenRouting oldest s (question entry.event)) (sym answered)
        (subst (λ f. IsSeenRouting oldest s (question f) (asked_at (newest_of s).number (newest_of s).routing (question e))) (sym of_event) (seen_newest oldest s (question e) le)) in
        all-push (IsSeenEntry question oldest s) entries entry routed new

    pub rising_more : IsNonDecreasing (editions_in entries) → IsNonDecreasing (editions_in (entries ++ entry ∷ []))
    rising_more rising =
        subst IsNonDecreasing (sym (editions_push entries entry ∙ ap (λ a. editions_in entries ++ named a) answered))
        (rising_asked (newest_of s).number (editions_in entries) (newest_of s).routing (question e) (known_editions question oldest s entries routed) rising)
