-- Entries and the lines of their outputs, from a place on.
use Rattle.std.proofs.Common.{◌≡◌, ◌∙◌, ◌<◌, ◌≤◌, ◌+◌, ℕ, zero, suc, Bool, true, false, List, [], ◌∷◌, ◌++◌, length, drop, get_or, Option, Some, None, option_map, refl, sym, ap, subst, arith, add-one, add-zero, append_assoc, append-nil, length-drop}
use Rattle.std.proofs.lemmas.List.{length-map}
use Rattle.std.specs.Borrow.{Bor}
use Rattle.journal_form.specs.declared.parts.EntryForm.{EntryForm}
use Rattle.journal_form.specs.Outputs.{is_output_line}
use Rattle.journal_form.specs.Headings.{EntryWords, heading_of}
use Rattle.journal_form.specs.Parts.{EntryPart, outs_front, entry_front, entry_at, entry_size, entries_size, AreEntries}
use Rattle.journal_form.specs.Inner.Seen.{texts, seen_part, seen_parts}
use Rattle.journal_form.specs.Inner.Reading.{HasRead}

line_suc : (lines : List (Bor (List ℕ))) (at : ℕ) (none : Bor (List ℕ)) → at < length lines → drop at (texts lines) ≡ (get_or lines at none).now ∷ drop (suc at) (texts lines)
line_suc [] at none h = absurd (omega (arith, h))
line_suc (line ∷ more) zero none h = refl
line_suc (line ∷ more) (suc at) none h = line_suc more at none (omega (arith, h))

-- the line at a place, and those behind it
pub line_at : (lines : List (Bor (List ℕ))) (at : ℕ) (none : Bor (List ℕ)) → at < length lines → drop at (texts lines) ≡ (get_or lines at none).now ∷ drop (at + 1) (texts lines)
line_at lines at none h = rw add-one (line_suc lines at none h)

texts-then : (xs : List (Bor (List ℕ))) (x : Bor (List ℕ)) → texts (xs ++ x ∷ []) ≡ texts xs ++ x.now ∷ []
texts-then [] x = refl
texts-then (y ∷ xs) x = ap (λ l. y.now ∷ l) (texts-then xs x)

pub outs_no : (line : List ℕ) (more : List (List ℕ)) → is_output_line line ≡ false → outs_front (line ∷ more) ≡ []
outs_no line more is = rw (is, outs_front) refl

pub outs_yes : (line : List ℕ) (more : List (List ℕ)) → is_output_line line ≡ true → outs_front (line ∷ more) ≡ line ∷ outs_front more
outs_yes line more is = rw (is, outs_front) refl

-- the outputs end
pub outs_end : (lines : List (Bor (List ℕ))) (at : ℕ) (none : Bor (List ℕ)) (outs whole : List (List ℕ)) → at < length lines → is_output_line (get_or lines at none).now ≡ false
    → outs ++ outs_front (drop at (texts lines)) ≡ whole → outs ≡ whole
outs_end lines at none outs whole h is so_far =
    let left : outs_front (drop at (texts lines)) ≡ [] = ap outs_front (line_at lines at none h) ∙ outs_no (get_or lines at none).now (drop (at + 1) (texts lines)) is in
    sym (append-nil outs) ∙ ap (λ l. outs ++ l) (sym left) ∙ so_far

-- one more output
pub outs_go : (lines : List (Bor (List ℕ))) (at : ℕ) (none : Bor (List ℕ)) (outs now : List (Bor (List ℕ))) (whole : List (List ℕ)) → at < length lines
    → is_output_line (get_or lines at none).now ≡ true → now ≡ outs ++ get_or lines at none ∷ []
    → texts outs ++ outs_front (drop at (texts lines)) ≡ whole → texts now ++ outs_front (drop (at + 1) (texts lines)) ≡ whole
outs_go lines at none outs now whole h is same so_far =
    let line = get_or lines at none in
    let more = outs_front (drop (at + 1) (texts lines)) in
    let left : outs_front (drop at (texts lines)) ≡ line.now ∷ more = ap outs_front (line_at lines at none h) ∙ outs_yes line.now (drop (at + 1) (texts lines)) is in
    ap (λ l. texts l ++ more) same ∙ ap (λ l. l ++ more) (texts-then outs line) ∙ append_assoc (texts outs) (line.now ∷ []) more ∙ ap (λ l. texts outs ++ l) (sym left) ∙ so_far

-- the line at a place is no entry's
pub entry_none : (lines : List (Bor (List ℕ))) (at : ℕ) (none : Bor (List ℕ)) → at < length lines → heading_of (get_or lines at none).now ≡ None → None ≡ entry_at at (texts lines)
entry_none lines at none h is =
    let line = (get_or lines at none).now in
    let more = drop (at + 1) (texts lines) in
    let front : entry_front (at + 1) (line ∷ more) ≡ None = rw is refl in
    sym (ap (entry_front (at + 1)) (line_at lines at none h) ∙ front)

-- or it is
pub entry_some : (lines : List (Bor (List ℕ))) (at : ℕ) (none : Bor (List ℕ)) (w : EntryWords) (outs : List (List ℕ)) → at < length lines → heading_of (get_or lines at none).now ≡ Some w
    → outs ≡ outs_front (drop (at + 1) (texts lines)) → Some (record { number = at + 1; text = (get_or lines at none).now; words = w; outs = outs }) ≡ entry_at at (texts lines)
entry_some lines at none w outs h is same =
    let line = (get_or lines at none).now in
    let more = drop (at + 1) (texts lines) in
    let front : entry_front (at + 1) (line ∷ more) ≡ Some (record { number = at + 1; text = line; words = w; outs = outs_front more }) = rw is refl in
    rw same (sym (ap (entry_front (at + 1)) (line_at lines at none h) ∙ front))

outs_few : (lines : List (List ℕ)) → length (outs_front lines) ≤ length lines
outs_few [] = omega arith
outs_few (line ∷ more) = of_test (is_output_line line) refl (outs_few more)
  where
    of_test : (t : Bool) → is_output_line line ≡ t → length (outs_front more) ≤ length more → length (outs_front (line ∷ more)) ≤ length (line ∷ more)
    of_test true is few = rw (outs_yes line more is) (omega (arith, few))
    of_test false is few = rw (outs_no line more is) (omega arith)

front_within : (n : ℕ) (lines : List (List ℕ)) (e : EntryPart) → entry_front n lines ≡ Some e → entry_size e ≤ length lines
front_within n [] e is = cc
front_within n (line ∷ more) e is = of_heading (heading_of line) is
  where
    of_heading : (h : Option EntryWords) → option_map (λ w. record { number = n; text = line; words = w; outs = outs_front more }) h ≡ Some e → entry_size e ≤ length (line ∷ more)
    of_heading None k = cc
    of_heading (Some w) k =
        let same : record { number = n; text = line; words = w; outs = outs_front more } ≡ e = cc in
        subst (λ x. entry_size x ≤ length (line ∷ more)) same (omega (arith, outs_few more))

-- an entry ends within the lines
pub entry_within : (at : ℕ) (lines : List (List ℕ)) (e : EntryPart) → at ≤ length lines → entry_at at lines ≡ Some e → at + entry_size e ≤ length lines
entry_within at lines e h is = omega (arith, front_within (at + 1) (drop at lines) e is, length-drop at lines)

pub sizes_then : (es : List EntryPart) (e : EntryPart) → entries_size (es ++ e ∷ []) ≡ entries_size es + entry_size e
sizes_then [] e = omega arith
sizes_then (x ∷ es) e = omega (arith, sizes_then es e)

-- one more entry
pub entries_then : (at : ℕ) (lines : List (List ℕ)) (es : List EntryPart) (e : EntryPart) → AreEntries at lines es → entry_at (at + entries_size es) lines ≡ Some e → AreEntries at lines (es ++ e ∷ [])
entries_then at lines [] e h k = (rw add-zero at k, tt)
entries_then at lines (x ∷ es) e h k =
    let place : at + (entry_size x + entries_size es) ≡ (at + entry_size x) + entries_size es = omega arith in
    (h.0, entries_then (at + entry_size x) lines es e h.1 (subst (λ n. entry_at n lines ≡ Some e) place k))

parts-then : (es : List EntryForm) (e : EntryForm) → seen_parts (es ++ e ∷ []) ≡ seen_parts es ++ seen_part e ∷ []
parts-then [] e = refl
parts-then (x ∷ es) e = ap (λ l. seen_part x ∷ l) (parts-then es e)

-- one more entry was read
pub HasRead-then : (from : ℕ) (lines : List (List ℕ)) (es : List EntryForm) (at : ℕ) (now : List EntryForm) (e : EntryForm) (n : ℕ) → HasRead from lines (seen_parts es) at
    → entry_at at lines ≡ Some (seen_part e) → now ≡ es ++ e ∷ [] → n ≡ length e.outs.items → HasRead from lines (seen_parts now) (at + (1 + n))
HasRead-then from lines es at now e n h is same size =
    let parts : seen_parts now ≡ seen_parts es ++ seen_part e ∷ [] = ap seen_parts same ∙ parts-then es e in
    let outs : entry_size (seen_part e) ≡ 1 + n = omega (arith, size, length-map e.outs.items (λ (w : Bor (List ℕ)). w.now)) in
    let place : entry_at (from + entries_size (seen_parts es)) lines ≡ Some (seen_part e) = subst (λ k. entry_at k lines ≡ Some (seen_part e)) h.place is in
    let more : entries_size (seen_parts es ++ seen_part e ∷ []) ≡ entries_size (seen_parts es) + entry_size (seen_part e) = sizes_then (seen_parts es) (seen_part e) in
    let within : at + entry_size (seen_part e) ≤ length lines = entry_within at lines (seen_part e) h.within is in
    let read : HasRead from lines (seen_parts es ++ seen_part e ∷ []) (at + (1 + n)) = record {
      stand = entries_then from lines (seen_parts es) (seen_part e) h.stand place;
      place = omega (arith, h.place, more, outs);
      within = omega (arith, within, outs);
    } in
    subst (λ l. HasRead from lines l (at + (1 + n))) (sym parts) read
