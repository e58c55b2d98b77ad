-- Routings of a lane at its place, by editions that were seen from there.
use Rattle.std.proofs.Common.{◌≡◌, ℕ, ◌-◌, ◌≤◌, List, [], ◌∷◌, ◌++◌, length, take, Option, Some, None, sym, ap, ◌∙◌, arith, length-append}
use Rattle.std.proofs.lemmas.List.{take-append-le}
use Rattle.std.specs.List.{AllByRecursion}
use Rattle.relay_base.specs.declared.words.Event.{Event}
use Rattle.plant_core.specs.Asking.{Question, answer_to}
use Rattle.plant_core.specs.Changes.{plant_after_all}
use Rattle.plant_core.specs.declared.entry.Asked.{Asked}
use Rattle.plant_core.specs.declared.entry.Entry.{Entry}
use Rattle.gtt_editions.specs.Standing.{Standing, LooksFrom, newest_of}
use Rattle.right_book.specs.Editions.{editions_in, named}
use Rattle.lane_seats.specs.Seats.{IsSeen, IsSeenRouting, IsSeenEntry}
use Rattle.right_book.proofs.ListLemmas.{all-append}

newest-rises : (s t : Standing) → LooksFrom s t → (newest_of s).number ≤ (newest_of t).number
newest-rises s t looks = omega (arith, ap (λ o. o.number) looks.opened, ap length looks.seen.longer, length-append s.seen.changes looks.seen.rest)

seen-moved : (n m : ℕ) (s t : Standing) (asks : Question) (asked : Asked) → m ≤ n → LooksFrom s t → IsSeen n s asks asked → IsSeen m t asks asked
seen-moved n m s t asks asked le looks h =
    let o : t.opened ≡ s.opened = looks.opened in
    let more : t.seen.changes ≡ s.seen.changes ++ looks.seen.rest = looks.seen.longer in
    let far : asked.edition - s.opened.number ≤ length s.seen.changes = omega (arith, h.most) in
    let same : take (asked.edition - t.opened.number) t.seen.changes ≡ take (asked.edition - s.opened.number) s.seen.changes =
    rw (o, more) (take-append-le (asked.edition - s.opened.number) s.seen.changes looks.seen.rest far) in record {
      least = omega (arith, le, h.least);
      most = omega (arith, h.most, newest-rises s t looks);
      answer = h.answer ∙ sym (λ i. answer_to (plant_after_all (o i).routing (same i)) asks);
    }

pub routing-moved : (n m : ℕ) (s t : Standing) (asks : Option Question) (asked : Option Asked) → m ≤ n → LooksFrom s t → IsSeenRouting n s asks asked → IsSeenRouting m t asks asked
routing-moved n m s t None None le looks h = tt
routing-moved n m s t None (Some a) le looks h = h
routing-moved n m s t (Some q) None le looks h = h
routing-moved n m s t (Some q) (Some a) le looks h = seen-moved n m s t q a le looks h

routing-least : (n : ℕ) (s : Standing) (asks : Option Question) (asked : Option Asked) → IsSeenRouting n s asks asked → AllByRecursion (λ k. n ≤ k) (named asked)
routing-least n s asks None h = tt
routing-least n s None (Some a) h = absurd h
routing-least n s (Some q) (Some a) h = (h.least, tt)

module _ (question : Event → Option Question) (n : ℕ) (s : Standing) where
  pub editions-least : (entries : List Entry) → AllByRecursion (IsSeenEntry question n s) entries → AllByRecursion (λ k. n ≤ k) (editions_in entries)
  editions-least [] h = tt
  editions-least (e ∷ es) h = all-append (λ k. n ≤ k) (named e.asked) (editions_in es) (routing-least n s (question e.event) e.asked h.0) (editions-least es h.1)
