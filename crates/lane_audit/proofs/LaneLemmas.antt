-- The journal that parts write, one more part at a time, and the number of the line behind them.
use Rattle.std.proofs.Common.{◌≡◌, ℕ, ◌+◌, ◌^◌, ◌<◌, ◌≤◌, ◌++◌, true, false, List, [], ◌∷◌, length, length-append, get_or, drop, Some, Ok, Err, if◌then◌else◌, ap, sym, ◌∙◌, arith}
use Rattle.std.proofs.lemmas.List.{at_drop_more, at_drop_all}
use Rattle.std.specs.List.{list_all}
use Rattle.journal_form.specs.declared.parts.EntryForm.{EntryForm}
use Rattle.journal_form.specs.Inner.Seen.{seen_part, seen_parts}
use Rattle.journal_form.specs.Parts.{entry_size, entries_size}
use Rattle.journal_finding.specs.declared.finding.FindingKind.{FindingKind}
use Rattle.journal_finding.specs.declared.finding.FindingKind.TheVariants.{Order}
use Rattle.journal_finding.specs.Entries.{LaneRules, journal_from, at_line, entry_of, ◌>>=◌}
use Rattle.lane_events.specs.Pending.{Waiting, is_done}
use Rattle.lane_events.specs.Editions.{Named}
use Rattle.lane_audit.specs.Follows.{Awaits, Goes, found_of}
use Rattle.lane_audit.proofs.WaitLemmas.{all_is}

-- the lines of the parts from one on
pub size_more : (parts : List EntryForm) (i : ℕ) (part : EntryForm) → i < length parts → part ≡ get_or parts i part → entries_size (seen_parts (drop i parts)) ≡ 1 + length (seen_part part).outs + entries_size (seen_parts (drop (i + 1) parts))
size_more parts i part lt is = at_drop_more (λ l. entries_size (seen_parts l)) parts i part lt ∙ ap (λ p. entry_size (seen_part p) + entries_size (seen_parts (drop (i + 1) parts))) (sym is)

-- ---- each entry so far has a line of its own, as have those of the parts that are left

-- one more entry is not too many, where a part is left
pub few_here : {E : Type 0} (journal : List E) (parts : List EntryForm) (i : ℕ) (part : EntryForm) → i < length parts → part ≡ get_or parts i part
    → length journal + (1 + entries_size (seen_parts (drop i parts))) < 2 ^ 32 → length journal < 4294967295
few_here journal parts i part lt is few = let size = size_more parts i part lt is in omega (arith, size, few)

-- and with it there are still as few
pub few_more : {V E : Type 0} (rules : LaneRules V E) (journal after : List E) (parts : List EntryForm) (i : ℕ) (part : EntryForm) (w : Waiting) (s : Named) → i < length parts → part ≡ get_or parts i part
    → Goes rules journal after (seen_part part) w s → length journal + (1 + entries_size (seen_parts (drop i parts))) < 2 ^ 32 → length after + (1 + entries_size (seen_parts (drop (i + 1) parts))) < 2 ^ 32
few_more rules journal after parts i part w s lt is goes few =
    let size = size_more parts i part lt is in
    let more = ap length goes.journal ∙ length-append journal (goes.entry ∷ []) in
    omega (arith, size, more, few)

-- ---- what is found

module _ {V E : Type 0} (rules : LaneRules V E) (end : ℕ) where
  front : (journal : List E) (parts : List EntryForm) (i : ℕ) (part : EntryForm) → i < length parts → part ≡ get_or parts i part
      → journal_from rules end journal (seen_parts (drop i parts)) ≡ journal_from rules end journal (seen_part part ∷ seen_parts (drop (i + 1) parts))
  front journal parts i part lt is = at_drop_more (λ l. journal_from rules end journal (seen_parts l)) parts i part lt ∙ ap (λ p. journal_from rules end journal (seen_part p ∷ seen_parts (drop (i + 1) parts))) (sym is)

  -- a part whose entry stands at the end of the journal now
  pub from_more : (journal after : List E) (parts : List EntryForm) (i : ℕ) (part : EntryForm) (w : Waiting) (s : Named) → i < length parts → part ≡ get_or parts i part → Goes rules journal after (seen_part part) w s
      → journal_from rules end journal (seen_parts (drop i parts)) ≡ journal_from rules end after (seen_parts (drop (i + 1) parts))
  from_more journal after parts i part w s lt is goes =
      front journal parts i part lt is
      ∙ ap (λ r. at_line part.number r >>= (λ e. journal_from rules end (journal ++ e ∷ []) (seen_parts (drop (i + 1) parts)))) goes.is
      ∙ ap (λ j. journal_from rules end j (seen_parts (drop (i + 1) parts))) (sym goes.journal)

  -- a part with a fault
  pub from_fault : (journal after : List E) (parts : List EntryForm) (i : ℕ) (part : EntryForm) (kind : FindingKind) → i < length parts → part ≡ get_or parts i part → entry_of rules journal (seen_part part) ≡ Err kind
      → journal_from rules end journal (seen_parts (drop i parts)) ≡ found_of after (Some (record { line = part.number; kind = kind }))
  from_fault journal after parts i part kind lt is fault =
      front journal parts i part lt is
      ∙ ap (λ r. at_line part.number r >>= (λ e. journal_from rules end (journal ++ e ∷ []) (seen_parts (drop (i + 1) parts)))) fault

  -- behind the last part, where no event is left
  pub found_all : (from journal : List E) (parts : List EntryForm) (i : ℕ) (w : Waiting) → journal_from rules end from (seen_parts parts) ≡ journal_from rules end journal (seen_parts (drop i parts)) → length parts ≤ i
      → Awaits rules journal w → list_all (list_all is_done) w.phases ≡ true → journal_from rules end from (seen_parts parts) ≡ Ok journal
  found_all from journal parts i w found past awaits done =
      found
      ∙ at_drop_all (λ l. journal_from rules end journal (seen_parts l)) parts i past
      ∙ ap (λ b. if b then Ok journal else Err (record { line = end; kind = Order })) (all_is rules journal w awaits ∙ done)

  -- and where one is
  pub found_left : (from journal : List E) (parts : List EntryForm) (i line : ℕ) (w : Waiting) → journal_from rules end from (seen_parts parts) ≡ journal_from rules end journal (seen_parts (drop i parts)) → length parts ≤ i
      → Awaits rules journal w → list_all (list_all is_done) w.phases ≡ false → line ≡ end → journal_from rules end from (seen_parts parts) ≡ Err (record { line = line; kind = Order })
  found_left from journal parts i line w found past awaits left is =
      found
      ∙ at_drop_all (λ l. journal_from rules end journal (seen_parts l)) parts i past
      ∙ ap (λ b. if b then Ok journal else Err (record { line = end; kind = Order })) (all_is rules journal w awaits ∙ left)
      ∙ ap (λ n. Err (record { line = n; kind = Order })) (sym is)
