-- What the code counts are the numbers of entries and outputs.
use Rattle.std.proofs.Common.{◌≡◌, ◌∙◌, ℕ, ◌+◌, cond, List, [], ◌∷◌, ◌++◌, length, map, fold, refl, sym, ap, arith}
use Rattle.std.specs.List.{flat_map, count_by, sum_by}
use Rattle.std.proofs.lemmas.List.Folds.{fold-map}
use Rattle.std.proofs.lemmas.List.Sums.{fold-append, sum_by-cons}
use Rattle.relay_base.specs.declared.words.Output.{Output}
use Rattle.relay_base.specs.declared.words.Output.TheVariants.{Sent, Told, Lost}
use Rattle.plant_core.specs.declared.entry.Entry.{Entry}
use Rattle.journal_text.specs.declared.book.Book.{Book}
use Rattle.capture_generator.specs.declared.tally.Counts.{Counts}
use Rattle.capture_generator.specs.Counts.{journal_outputs, is_sent, is_told, is_lost}
use Rattle.capture_generator.specs.Inner.Tally.{no_counts, counts_of, with_output, with_entry, with_journal, with_control, with_lanes}

-- so many more of each
abbrev plus : Counts → ℕ → ℕ → ℕ → ℕ → Counts
plus c e s d l = record { entries = c.entries + e; sent = c.sent + s; told = c.told + d; lost = c.lost + l }

abbrev counts : ℕ → ℕ → ℕ → ℕ → Counts
counts a b c d = record { entries = a; sent = b; told = c; lost = d }

same_counts : (a a' b b' c c' d d' : ℕ) → a ≡ a' → b ≡ b' → c ≡ c' → d ≡ d'
    → counts a b c d ≡ counts a' b' c' d'
same_counts a a' b b' c c' d d' e f g h = rw (e, f, g, h) refl

output-counts : (c : Counts) (o : Output)
    → with_output c o ≡ plus c 0 (cond (is_sent o) 1 0) (cond (is_told o) 1 0) (cond (is_lost o) 1 0)
output-counts c (Sent point sls bytes) = same_counts _ _ _ _ _ _ _ _ (omega arith) refl (omega arith) (omega arith)
output-counts c (Told ssn tell) = same_counts _ _ _ _ _ _ _ _ (omega arith) (omega arith) refl (omega arith)
output-counts c (Lost loss) = same_counts _ _ _ _ _ _ _ _ (omega arith) (omega arith) (omega arith) refl

plus-plus : (c : Counts) (e s d l e' s' d' l' : ℕ) → plus (plus c e s d l) e' s' d' l' ≡ plus c (e + e') (s + s') (d + d') (l + l')
plus-plus c e s d l e' s' d' l' = same_counts _ _ _ _ _ _ _ _ (omega arith) (omega arith) (omega arith) (omega arith)

plus_none : (c : Counts) → plus c 0 0 0 0 ≡ c
plus_none c = same_counts _ _ _ _ _ _ _ _ (omega arith) (omega arith) (omega arith) (omega arith)

one_more : {X : Type 0} (n : ℕ) (f : X → ℕ) (x : X) (xs : List X) → n + (f x + sum_by f xs) ≡ n + sum_by f (x ∷ xs)
one_more n f x xs = ap (λ m. n + m) (sym (sum_by-cons f x xs))

outputs-count : (c : Counts) (outs : List Output)
    → fold with_output c outs ≡ plus c 0 (count_by is_sent outs) (count_by is_told outs) (count_by is_lost outs)
outputs-count c [] = sym (plus_none c)
outputs-count c (o ∷ outs) =
    let d : Counts = plus c 0 (cond (is_sent o) 1 0) (cond (is_told o) 1 0) (cond (is_lost o) 1 0) in
    ap (λ e. fold with_output e outs) (output-counts c o) ∙ outputs-count d outs ∙ plus-plus c 0 _ _ _ 0 _ _ _
    ∙ same_counts _ _ _ _ _ _ _ _ (omega arith) (one_more c.sent _ o outs) (one_more c.told _ o outs) (one_more c.lost _ o outs)

-- so much more by the outputs of these entries
abbrev plus_all : Counts → List (List Output) → Counts
plus_all c outputs = plus c (length outputs) (sum_by (count_by is_sent) outputs) (sum_by (count_by is_told) outputs) (sum_by (count_by is_lost) outputs)

entry-counts : (c : Counts) (outs : List Output) → with_entry c outs ≡ plus c 1 (count_by is_sent outs) (count_by is_told outs) (count_by is_lost outs)
entry-counts c outs = outputs-count (record c { entries = c.entries + 1 }) outs ∙ same_counts _ _ _ _ _ _ _ _ (omega arith) refl refl refl

entries-count : (c : Counts) (outputs : List (List Output)) → fold with_entry c outputs ≡ plus_all c outputs
entries-count c [] = sym (plus_none c)
entries-count c (outs ∷ outputs) =
    ap (λ d. fold with_entry d outputs) (entry-counts c outs)
    ∙ entries-count (plus c 1 (count_by is_sent outs) (count_by is_told outs) (count_by is_lost outs)) outputs
    ∙ plus-plus c 1 _ _ _ _ _ _ _
    ∙ same_counts _ _ _ _ _ _ _ _ (ap (λ n. c.entries + n) (omega arith)) (one_more c.sent _ outs outputs) (one_more c.told _ outs outputs) (one_more c.lost _ outs outputs)

-- the journals of lanes are counted as the entries of all
lanes-fold : (c : Counts) (lanes : List (List Entry)) → with_lanes c lanes ≡ fold with_entry c (flat_map journal_outputs lanes)
lanes-fold c [] = refl
lanes-fold c (journal ∷ lanes) =
    lanes-fold (with_journal c journal) lanes
    ∙ ap (λ d. fold with_entry d (flat_map journal_outputs lanes)) (sym (fold-map with_entry (λ e. e.outs) c journal))
    ∙ sym (fold-append with_entry c (journal_outputs journal) (flat_map journal_outputs lanes))

none_plus : (outputs : List (List Output))
    → plus_all no_counts outputs ≡ counts (length outputs) (sum_by (count_by is_sent) outputs) (sum_by (count_by is_told) outputs) (sum_by (count_by is_lost) outputs)
none_plus outputs = same_counts _ _ _ _ _ _ _ _ (omega arith) (omega arith) (omega arith) (omega arith)

pub book_counts : (book : Book) → with_lanes (with_lanes (with_control no_counts book.control) book.conns) book.units ≡ counts_of book
book_counts book =
    let units : List (List Output) = flat_map journal_outputs book.units in
    let conns : List (List Output) = flat_map journal_outputs book.conns in
    let control : List (List Output) = map (λ e. e.outs) book.control in
    lanes-fold _ book.units
    ∙ ap (λ c. fold with_entry c units) (lanes-fold _ book.conns ∙ ap (λ c. fold with_entry c conns) (sym (fold-map with_entry (λ e. e.outs) _ book.control)))
    ∙ ap (λ c. fold with_entry c units) (sym (fold-append with_entry no_counts control conns))
    ∙ sym (fold-append with_entry no_counts (control ++ conns) units)
    ∙ entries-count no_counts (control ++ conns ++ units)
    ∙ none_plus (control ++ conns ++ units)
