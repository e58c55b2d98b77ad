-- The journal that parts of a text write is one whose entries stand next, one after the other; and such a journal is written by its lines.
use Rattle.std.proofs.Common.{◌≡◌, ◌∙◌, ℕ, ◌&&◌, Bool, true, false, cond, List, [], ◌∷◌, ◌++◌, map, Option, Some, None, is_some, Result, Ok, Err, refl, sym, ap, ap₂, subst, append_assoc, append-nil}
use Rattle.std.specs.List.{flat_map}
use Rattle.std.specs.Cmp.Lexicographic.{same_text}
use Rattle.relay_base.specs.Decimal.{digits_value}
use Rattle.relay_base.specs.declared.words.Stamp.{Stamp}
use Rattle.plant_core.specs.Asking.{Question, asked_at}
use Rattle.plant_core.specs.declared.entry.Asked.{Asked}
use Rattle.journal_form.specs.Words.{same}
use Rattle.journal_form.specs.Headings.{RoutingWords}
use Rattle.journal_form.specs.Parts.{EntryPart, entry_lines}
use Rattle.journal_form.specs.Stamps.{stamp_of}
use Rattle.journal_finding.specs.declared.finding.Fault.{Fault}
use Rattle.journal_finding.specs.declared.finding.FindingKind.{FindingKind}
use Rattle.journal_finding.specs.declared.finding.FindingKind.TheVariants.{Order, Edition, Entry}
use Rattle.book_output.specs.Print.{line_of_output}
use Rattle.journal_finding.specs.Entries.{LaneRules, event_next, may_name, routing_of, same_lines, is_written, if_written, with_routing, with_event, with_stamp, entry_of, all_taken, at_line, ◌>>=◌, journal_from}
use Rattle.capture_form.proofs.PhaseLemmas.{both-left, both-right}
use Rattle.printable_law.proofs.Outputs.{same_self}
use Rattle.finding_law.proofs.Next.{IsRoutingNext, HasParts, IsNext, Along, lines_by}
use Rattle.finding_law.proofs.Results.{behind}

-- ---- the lines

lines_are : (lines others : List (List ℕ)) → same_lines lines others ≡ true → lines ≡ others
lines_are [] [] h = refl
lines_are [] (x ∷ xs) h = cc
lines_are (x ∷ xs) [] h = cc
lines_are (x ∷ xs) (y ∷ ys) h =
    ap₂ (λ (l : List ℕ) (m : List (List ℕ)). l ∷ m) (same_text x y (sym (both-left (same x y) (same_lines xs ys) h))) (lines_are xs ys (both-right (same x y) (same_lines xs ys) h))

lines_same : (lines : List (List ℕ)) → same_lines lines lines ≡ true
lines_same [] = refl
lines_same (x ∷ xs) = ap₂ (λ a b. a && b) (same_self x) (lines_same xs)

-- ---- from a text

record IsRead {V E : Type 0} (rules : LaneRules V E) (has : HasParts rules) (journal : List E) (part : EntryPart) (e : E) : Type 0 where
  next : IsNext rules has journal e
  lines : entry_lines part ≡ lines_by rules e

routing_is : {V E : Type 0} (rules : LaneRules V E) (journal : List E) (phase : ℕ) (asks : Option Question) (words : Option RoutingWords) (asked : Option Asked)
    → routing_of rules journal phase asks words ≡ Ok asked → IsRoutingNext rules journal phase asks asked
routing_is rules journal phase None None None h = tt
routing_is rules journal phase None None (Some a) h = absurd cc
routing_is rules journal phase None (Some w) asked h = absurd cc
routing_is rules journal phase (Some q) None asked h = absurd cc
routing_is {V} {E} rules journal phase (Some q) (Some w) asked h = of_test (may_name rules journal phase edition) refl h
  where
    edition : ℕ
    edition = digits_value w.edition

    of_asked : (asked : Option Asked) → may_name rules journal phase edition ≡ true → asked_at edition (rules.routing edition) (Some q) ≡ asked
        → IsRoutingNext rules journal phase (Some q) asked
    of_asked asked e k = subst (IsRoutingNext rules journal phase (Some q)) k (e, refl)

    of_test : (t : Bool) → may_name rules journal phase edition ≡ t → cond t (Ok (asked_at edition (rules.routing edition) (Some q))) (Err Edition) ≡ Ok asked
        → IsRoutingNext rules journal phase (Some q) asked
    of_test true e k = of_asked asked e cc
    of_test false e k = absurd cc

pub asks_alike : {V E : Type 0} (rules : LaneRules V E) (journal : List E) (phase : ℕ) (asks : Option Question) (asked : Option Asked)
    → IsRoutingNext rules journal phase asks asked → is_some asked ≡ is_some asks
asks_alike rules journal phase None None h = refl
asks_alike rules journal phase None (Some a) h = absurd h
asks_alike rules journal phase (Some q) None h = absurd h
asks_alike rules journal phase (Some q) (Some a) h = refl

module _ {V E : Type 0} (rules : LaneRules V E) (has : HasParts rules) (journal : List E) (part : EntryPart) (e : E) where
  written_is : (stamp : Stamp) (event : V) (asked : Option Asked) → event_next rules journal stamp ≡ Some event
      → IsRoutingNext rules journal stamp.phase (rules.question event) asked → if_written rules part (rules.entry journal stamp event asked) ≡ Ok e → IsRead rules has journal part e
  written_is stamp event asked order routed h = of_test (is_written rules made part) refl h
    where
      made : E
      made = rules.entry journal stamp event asked

      stamped : rules.stamp made ≡ stamp
      stamped = has.of_stamp journal stamp event asked

      taken : has.event made ≡ event
      taken = has.of_event journal stamp event asked

      answered : rules.asked made ≡ asked
      answered = has.of_asked journal stamp event asked (asks_alike rules journal stamp.phase (rules.question event) asked routed)

      next : IsNext rules has journal made
      next = record {
        order = ap (event_next rules journal) stamped ∙ order ∙ ap Some (sym taken);
        routed = subst (λ (s : Stamp). IsRoutingNext rules journal s.phase (rules.question (has.event made)) (rules.asked made)) (sym stamped)
            (subst (λ (v : V). IsRoutingNext rules journal stamp.phase (rules.question v) (rules.asked made)) (sym taken)
            (subst (IsRoutingNext rules journal stamp.phase (rules.question event)) (sym answered) routed));
        made = ap (λ s. rules.entry journal s (has.event made) (rules.asked made)) stamped ∙ ap₂ (λ v a. rules.entry journal stamp v a) taken answered;
      }

      lines : is_written rules made part ≡ true → entry_lines part ≡ lines_by rules made
      lines t =
          let text = both-left (same (rules.line made) part.text) (same_lines (map line_of_output (rules.outs made)) part.outs) t in
          let outs = both-right (same (rules.line made) part.text) (same_lines (map line_of_output (rules.outs made)) part.outs) t in
          ap₂ (λ (l : List ℕ) (m : List (List ℕ)). l ∷ m) (sym (same_text (rules.line made) part.text (sym text))) (sym (lines_are (map line_of_output (rules.outs made)) part.outs outs))

      of_test : (t : Bool) → is_written rules made part ≡ t → cond t (Ok made) (Err Entry) ≡ Ok e → IsRead rules has journal part e
      of_test true t k = let same : made ≡ e = cc in subst (IsRead rules has journal part) same (record { next = next; lines = lines t })
      of_test false t k = absurd cc

  routed_is : (stamp : Stamp) (event : V) → event_next rules journal stamp ≡ Some event
      → (r : Result (Option Asked) FindingKind) → routing_of rules journal stamp.phase (rules.question event) part.words.asked ≡ r → with_routing rules journal part stamp event r ≡ Ok e
      → IsRead rules has journal part e
  routed_is stamp event order (Ok asked) is h =
      written_is stamp event asked order (routing_is rules journal stamp.phase (rules.question event) part.words.asked asked is) h
  routed_is stamp event order (Err kind) is h = absurd cc

  event_is : (stamp : Stamp) (o : Option V) → event_next rules journal stamp ≡ o → with_event rules journal part stamp o ≡ Ok e → IsRead rules has journal part e
  event_is stamp None is h = absurd cc
  event_is stamp (Some event) is h = routed_is stamp event is (routing_of rules journal stamp.phase (rules.question event) part.words.asked) refl h

  stamp_is : (o : Option Stamp) → with_stamp rules journal part o ≡ Ok e → IsRead rules has journal part e
  stamp_is None h = absurd cc
  stamp_is (Some stamp) h = event_is stamp (event_next rules journal stamp) refl h

  entry_is : entry_of rules journal part ≡ Ok e → IsRead rules has journal part e
  unfolding entry_of
  entry_is h = stamp_is (stamp_of part.words) h

-- the journal goes on with entries of these lines, and no event is left
pub record IsWrittenFrom {V E : Type 0} (rules : LaneRules V E) (has : HasParts rules) (before : List E) (parts : List EntryPart) (journal : List E) : Type 0 where
  pub more : List E
  pub is : journal ≡ before ++ more
  pub next : Along (IsNext rules has) before more
  pub lines : flat_map entry_lines parts ≡ flat_map (lines_by rules) more
  pub all : all_taken rules journal ≡ true

found_at : {A : Type 0} (line : ℕ) (r : Result A FindingKind) (x : A) → at_line line r ≡ Ok x → r ≡ Ok x
found_at line (Ok y) x h = let same : y ≡ x = cc in ap Ok same
found_at line (Err kind) x h = absurd cc

pub written_from : {V E : Type 0} (rules : LaneRules V E) (has : HasParts rules) (end : ℕ) (before : List E) (parts : List EntryPart) (journal : List E)
    → journal_from rules end before parts ≡ Ok journal → IsWrittenFrom rules has before parts journal
written_from {V} {E} rules has end before [] journal h = of_test (all_taken rules before) refl h
  where
    of_test : (t : Bool) → all_taken rules before ≡ t → cond {A = Result (List E) Fault} t (Ok before) (Err (record { line = end; kind = Order })) ≡ Ok journal → IsWrittenFrom rules has before [] journal
    of_test true e k =
        let same : before ≡ journal = cc in
        record { more = []; is = sym same ∙ sym (append-nil before); next = tt; lines = refl; all = ap (all_taken rules) (sym same) ∙ e }
    of_test false e k = absurd cc
written_from rules has end before (part ∷ parts) journal h =
    let b = behind (at_line part.number (entry_of rules before part)) (λ e. journal_from rules end (before ++ e ∷ []) parts) journal h in
    let read = entry_is rules has before part b.first (found_at part.number (entry_of rules before part) b.first b.is) in
    let later = written_from rules has end (before ++ b.first ∷ []) parts journal b.then in
    record {
      more = b.first ∷ later.more;
      is = later.is ∙ append_assoc before (b.first ∷ []) later.more;
      next = (read.next, later.next);
      lines = ap₂ (λ l m. l ++ m) read.lines later.lines;
      all = later.all;
    }

-- ---- to a text

-- the words of a routing say its edition
abbrev pub SaysEdition : Option Asked → Option RoutingWords → Type 0
SaysEdition None None = Unit {0}
SaysEdition (Some asked) (Some words) = digits_value words.edition ≡ asked.edition
SaysEdition _ _ = ⊥

-- a part is that of an entry
pub record IsPartOf {V E : Type 0} (rules : LaneRules V E) (e : E) (part : EntryPart) : Type 0 where
  pub lines : entry_lines part ≡ lines_by rules e
  pub stamp : stamp_of part.words ≡ Some (rules.stamp e)
  pub asked : SaysEdition (rules.asked e) part.words.asked

abbrev pub ArePartsOf : {V E : Type 0} → LaneRules V E → List E → List EntryPart → Type 0
ArePartsOf rules [] [] = Unit {0}
ArePartsOf rules (e ∷ journal) (part ∷ parts) = IsPartOf rules e part × ArePartsOf rules journal parts
ArePartsOf rules _ _ = ⊥

routing_gives : {V E : Type 0} (rules : LaneRules V E) (journal : List E) (phase : ℕ) (asks : Option Question) (words : Option RoutingWords) (asked : Option Asked)
    → SaysEdition asked words → IsRoutingNext rules journal phase asks asked → routing_of rules journal phase asks words ≡ Ok asked
routing_gives rules journal phase None None None s h = refl
routing_gives rules journal phase None (Some w) None s h = absurd s
routing_gives rules journal phase None words (Some a) s h = absurd h
routing_gives rules journal phase (Some q) words None s h = absurd h
routing_gives rules journal phase (Some q) None (Some a) s h = absurd s
routing_gives rules journal phase (Some q) (Some w) (Some a) s h =
    ap (λ n. cond (may_name rules journal phase n) (Ok (asked_at n (rules.routing n) (Some q))) (Err Edition)) s
    ∙ ap (λ t. cond t (Ok (asked_at a.edition (rules.routing a.edition) (Some q))) (Err Edition)) h.0
    ∙ ap (λ b. Ok (Some (record { edition = a.edition; answer = b }))) (sym h.1)

written_gives : {V E : Type 0} (rules : LaneRules V E) (e : E) (part : EntryPart) → entry_lines part ≡ lines_by rules e → is_written rules e part ≡ true
written_gives rules e part h =
    let text : part.text ≡ rules.line e = cc in
    let outs : part.outs ≡ map line_of_output (rules.outs e) = cc in
    ap₂ (λ a b. a && b)
    (ap (same (rules.line e)) text ∙ same_self (rules.line e))
    (ap (same_lines (map line_of_output (rules.outs e))) outs ∙ lines_same (map line_of_output (rules.outs e)))

entry_gives : {V E : Type 0} (rules : LaneRules V E) (has : HasParts rules) (journal : List E) (e : E) (part : EntryPart) → IsPartOf rules e part → IsNext rules has journal e → entry_of rules journal part ≡ Ok e
unfolding entry_of
entry_gives rules has journal e part is next =
    let stamp = rules.stamp e in
    ap (with_stamp rules journal part) is.stamp
    ∙ ap (with_event rules journal part stamp) next.order
    ∙ ap (with_routing rules journal part stamp (has.event e)) (routing_gives rules journal stamp.phase (rules.question (has.event e)) part.words.asked (rules.asked e) is.asked next.routed)
    ∙ ap (if_written rules part) next.made
    ∙ ap (λ t. cond t (Ok e) (Err Entry)) (written_gives rules e part is.lines)

-- what is found behind a line
abbrev goes_on : {V E : Type 0} → LaneRules V E → ℕ → List E → List EntryPart → Result E Fault → Result (List E) Fault
goes_on rules end before parts r = r >>= λ e. journal_from rules end (before ++ e ∷ []) parts

pub journal_gives : {V E : Type 0} (rules : LaneRules V E) (has : HasParts rules) (end : ℕ) (before journal : List E) (parts : List EntryPart) → ArePartsOf rules journal parts → Along (IsNext rules has) before journal
    → all_taken rules (before ++ journal) ≡ true → journal_from rules end before parts ≡ Ok (before ++ journal)
journal_gives {V} {E} rules has end before [] [] are next all =
    let same : before ++ [] ≡ before = append-nil before in
    ap (λ t. cond {A = Result (List E) Fault} t (Ok before) (Err (record { line = end; kind = Order }))) (ap (all_taken rules) (sym same) ∙ all) ∙ ap Ok (sym same)
journal_gives rules has end before [] (part ∷ parts) are next all = absurd are
journal_gives rules has end before (e ∷ journal) [] are next all = absurd are
journal_gives {V} {E} rules has end before (e ∷ journal) (part ∷ parts) are next all =
    let same : (before ++ e ∷ []) ++ journal ≡ before ++ e ∷ journal = append_assoc before (e ∷ []) journal in
    ap (goes_on rules end before parts) (ap (at_line part.number) (entry_gives rules has before e part are.0 next.0))
    ∙ journal_gives rules has end (before ++ e ∷ []) journal parts are.1 next.1 (ap (all_taken rules) same ∙ all)
    ∙ ap Ok same
