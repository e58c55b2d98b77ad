-- The lines of the lanes that were read are the lines of the text.
use Rattle.std.proofs.Common.{◌≡◌, ◌∙◌, ◌+◌, ℕ, suc, Bool, true, false, List, [], ◌∷◌, ◌++◌, length, drop, Option, Some, None, option_map, refl, sym, ap, arith, add-zero, append_assoc, append-nil}
use Rattle.std.proofs.Math.Seq.{drop-length}
use Rattle.std.proofs.lemmas.List.{drop-drop}
use Rattle.std.specs.List.{flat_map}
use Rattle.journal_form.specs.Outputs.{is_output_line}
use Rattle.journal_form.specs.Headings.{EntryWords, heading_of}
use Rattle.journal_form.specs.Parts.{EntryPart, LanePart, IsLane, outs_front, entry_front, entry_at, entry_size, entries_size, lane_size, lanes_size, entry_lines, lines_of, AreEntries, AreLanes}
use Rattle.journal_form.proofs.PartLemmas.{outs_no, outs_yes}

outs_lines : (lines : List (List ℕ)) → outs_front lines ++ drop (length (outs_front lines)) lines ≡ lines
outs_lines [] = refl
outs_lines (line ∷ more) = of_test (is_output_line line) refl (outs_lines more)
  where
    of_test : (t : Bool) → is_output_line line ≡ t → outs_front more ++ drop (length (outs_front more)) more ≡ more
        → outs_front (line ∷ more) ++ drop (length (outs_front (line ∷ more))) (line ∷ more) ≡ line ∷ more
    of_test true is h = ap (λ o. o ++ drop (length o) (line ∷ more)) (outs_yes line more is) ∙ ap (λ l. line ∷ l) h
    of_test false is h = ap (λ o. o ++ drop (length o) (line ∷ more)) (outs_no line more is)

front_lines : (n : ℕ) (lines : List (List ℕ)) (e : EntryPart) → entry_front n lines ≡ Some e → entry_lines e ++ drop (entry_size e) lines ≡ lines
front_lines n [] e is = cc
front_lines n (line ∷ more) e is = of_heading (heading_of line) is
  where
    of_heading : (h : Option EntryWords) → option_map {U = EntryPart} (λ w. record { number = n; text = line; words = w; outs = outs_front more }) h ≡ Some e
        → entry_lines e ++ drop (entry_size e) (line ∷ more) ≡ line ∷ more
    of_heading None k = cc
    of_heading (Some w) k =
        let same : record { number = n; text = line; words = w; outs = outs_front more } ≡ e = cc in
        let size : 1 + length (outs_front more) ≡ suc (length (outs_front more)) = omega arith in
        ap (λ x. entry_lines x ++ drop (entry_size x) (line ∷ more)) (sym same)
        ∙ ap (λ k. (line ∷ outs_front more) ++ drop k (line ∷ more)) size ∙ ap (λ l. line ∷ l) (outs_lines more)

-- some lines stand at a place, and more behind them
behind : (first more left : List (List ℕ)) (lines here : List (List ℕ)) → first ++ left ≡ here → more ++ lines ≡ left → (first ++ more) ++ lines ≡ here
behind first more left lines here p q = append_assoc first more lines ∙ ap (λ l. first ++ l) q ∙ p

entry_lines_at : (at : ℕ) (lines : List (List ℕ)) (e : EntryPart) → entry_at at lines ≡ Some e → entry_lines e ++ drop (at + entry_size e) lines ≡ drop at lines
entry_lines_at at lines e is = ap (λ l. entry_lines e ++ l) (sym (drop-drop (entry_size e) at lines)) ∙ front_lines (at + 1) (drop at lines) e is

entries_lines : (at : ℕ) (lines : List (List ℕ)) (es : List EntryPart) → AreEntries at lines es → flat_map entry_lines es ++ drop (at + entries_size es) lines ≡ drop at lines
entries_lines at lines [] h = rw add-zero refl
entries_lines at lines (e ∷ es) h =
    let place : at + (entry_size e + entries_size es) ≡ (at + entry_size e) + entries_size es = omega arith in
    behind (entry_lines e) (flat_map entry_lines es) (drop (at + entry_size e) lines) (drop (at + (entry_size e + entries_size es)) lines) (drop at lines)
    (entry_lines_at at lines e h.0)
    (ap (λ n. flat_map entry_lines es ++ drop n lines) place ∙ entries_lines (at + entry_size e) lines es h.1)

lane_lines_at : (at : ℕ) (lines : List (List ℕ)) (name : List ℕ) (lane : LanePart) → IsLane at lines name lane → lines_of lane ++ drop (at + lane_size lane) lines ≡ drop at lines
lane_lines_at at lines name lane is =
    let place : at + lane_size lane ≡ (at + 1) + entries_size lane.entries = omega arith in
    ap (λ n. lines_of lane ++ drop n lines) place ∙ ap (λ l. lane.text ∷ l) (entries_lines (at + 1) lines lane.entries is.entries)
    ∙ ap (λ t. t ∷ drop (at + 1) lines) is.text ∙ sym is.line

lanes_lines : (at : ℕ) (lines names : List (List ℕ)) (lanes : List LanePart) → AreLanes at lines names lanes → flat_map lines_of lanes ++ drop (at + lanes_size lanes) lines ≡ drop at lines
lanes_lines at lines [] [] h = rw add-zero refl
lanes_lines at lines [] (lane ∷ lanes) h = absurd h
lanes_lines at lines (name ∷ names) [] h = absurd h
lanes_lines at lines (name ∷ names) (lane ∷ lanes) h =
    let place : at + (lane_size lane + lanes_size lanes) ≡ (at + lane_size lane) + lanes_size lanes = omega arith in
    behind (lines_of lane) (flat_map lines_of lanes) (drop (at + lane_size lane) lines) (drop (at + (lane_size lane + lanes_size lanes)) lines) (drop at lines)
    (lane_lines_at at lines name lane h.0)
    (ap (λ n. flat_map lines_of lanes ++ drop n lines) place ∙ lanes_lines (at + lane_size lane) lines names lanes h.1)

-- all lines are theirs
pub together : (lines names : List (List ℕ)) (lanes : List LanePart) → AreLanes 0 lines names lanes → lanes_size lanes ≡ length lines → flat_map lines_of lanes ≡ lines
together lines names lanes h whole =
    let past : 0 + lanes_size lanes ≡ length lines = omega (arith, whole) in
    let left : drop (0 + lanes_size lanes) lines ≡ [] = ap (λ n. drop n lines) past ∙ drop-length lines in
    sym (append-nil (flat_map lines_of lanes)) ∙ ap (λ l. flat_map lines_of lanes ++ l) (sym left) ∙ lanes_lines 0 lines names lanes h
