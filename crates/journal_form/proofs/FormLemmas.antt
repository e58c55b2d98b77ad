-- The lines of a text and what stands behind them, and the first fault.
use Rattle.std.proofs.Common.{◌≡◌, ◌≢◌, ◌∙◌, ◌<◌, ◌≤◌, ◌+◌, ◌-◌, ◌++◌, ◌==◌, ℕ, zero, suc, List, [], ◌∷◌, length, take, drop, get_or, Some, None, refl, sym, ap, subst, arith, append_assoc, append-nil, length-take, length-drop}
use Rattle.std.proofs.Math.Seq.{drop-length, take-length}
use Rattle.std.proofs.lemmas.List.Splits.{length-slice_split}
use Rattle.std.proofs.lemmas.List.Sums.{count_by-le-length}
use Rattle.std.specs.Borrow.{Bor}
use Rattle.journal_form.specs.declared.parts.FormRefused.{FormRefused}
use Rattle.journal_form.specs.declared.parts.FormRefused.TheVariants.{Fault, Memory}
use Rattle.journal_form.specs.Words.{parted}
use Rattle.journal_form.specs.Form.{AtTop, lane_line, kind_lines, first_fault, fault_at_end, ended_lines, last_piece, fault_in}
use Rattle.journal_form.specs.Parts.{LanePart, entry_front, AreLanes, IsForm, TellsFault, lanes_size}
use Rattle.journal_form.specs.Inner.Seen.{texts}
use Rattle.journal_form.specs.Inner.Reading.{place_of, HasLanes, BreaksForm}
use Rattle.journal_form.proofs.LaneLemmas.{texts_length, stands_not}
use Rattle.journal_form.proofs.LineLemmas.{together}

-- ---- pieces

texts_take : (n : ℕ) (pieces : List (Bor (List ℕ))) → texts (take n pieces) ≡ take n (texts pieces)
texts_take zero pieces = refl
texts_take (suc n) [] = refl
texts_take (suc n) (piece ∷ pieces) = ap (λ l. piece.now ∷ l) (texts_take n pieces)

pub ended_is : (pieces : List (Bor (List ℕ))) → texts (take (length pieces - 1) pieces) ≡ ended_lines (texts pieces)
ended_is pieces = texts_take (length pieces - 1) pieces ∙ ap (λ n. take (n - 1) (texts pieces)) (sym (texts_length pieces))

ended_length : (pieces : List (Bor (List ℕ))) → length (ended_lines (texts pieces)) ≡ length pieces - 1
ended_length pieces = length-take (length (texts pieces) - 1) (texts pieces) ∙ omega (arith, texts_length pieces)

texts_get : (pieces : List (Bor (List ℕ))) (k : ℕ) (none : Bor (List ℕ)) → k < length pieces → get_or (texts pieces) k [] ≡ (get_or pieces k none).now
texts_get [] k none h = absurd (omega (arith, h))
texts_get (piece ∷ pieces) zero none h = refl
texts_get (piece ∷ pieces) (suc k) none h = texts_get pieces k none (omega (arith, h))

pub last_is : (pieces : List (Bor (List ℕ))) (none : Bor (List ℕ)) → 0 < length pieces → last_piece (texts pieces) ≡ (get_or pieces (length pieces - 1) none).now
last_is pieces none h = ap (λ n. get_or (texts pieces) (n - 1) []) (texts_length pieces) ∙ texts_get pieces (length pieces - 1) none (omega (arith, h))

-- ---- faults

pub tells : (names pieces lines : List (List ℕ)) (e : FormRefused) → lines ≡ ended_lines pieces → BreaksForm names lines e → TellsFault (fault_in names pieces) e
tells names pieces lines Memory is h = tt
tells names pieces lines (Fault n) is h = ap (first_fault names AtTop 1 (last_piece pieces)) (sym is) ∙ h (last_piece pieces)

-- all lanes were read
over : (names pieces : List (List ℕ)) (lanes : List LanePart) (at : ℕ) → HasLanes names (ended_lines pieces) (length names) lanes at
    → fault_in names pieces ≡ first_fault [] (place_of (length names)) (at + 1) (last_piece pieces) (drop at (ended_lines pieces))
over names pieces lanes at h =
    let rest = last_piece pieces in
    let lines = ended_lines pieces in
    h.fault rest ∙ ap (λ l. first_fault l (place_of (length names)) (at + 1) rest (drop at lines)) (drop-length names)

more_lines : (k n : ℕ) (rest : List ℕ) (lines : List (List ℕ)) → (0 < k → entry_front n lines ≡ None) → 0 < length lines → first_fault [] (place_of k) n rest lines ≡ Some n
more_lines k n rest [] h p = absurd (omega (arith, p))
more_lines k n rest (line ∷ more) h p = rw (stands_not k n line more h, first_fault) refl

no_lines : (k n : ℕ) (rest : List ℕ) (lines : List (List ℕ)) → length lines ≡ 0 → first_fault [] (place_of k) n rest lines ≡ fault_at_end [] n rest
no_lines k n rest [] p = refl
no_lines k n rest (line ∷ more) p = absurd (omega (arith, p))

rest_fault : (n : ℕ) (rest : List ℕ) → length rest ≢ 0 → fault_at_end [] n rest ≡ Some n
rest_fault n [] h = absurd (h refl)
rest_fault n (b ∷ rest) h = refl

-- a line is left
pub line_left : (names pieces : List (List ℕ)) (lanes : List LanePart) (at : ℕ) → HasLanes names (ended_lines pieces) (length names) lanes at → at < length (ended_lines pieces)
    → fault_in names pieces ≡ Some (at + 1)
line_left names pieces lanes at h more =
    let some : 0 < length (drop at (ended_lines pieces)) = omega (arith, length-drop at (ended_lines pieces), more) in
    over names pieces lanes at h ∙ more_lines (length names) (at + 1) (last_piece pieces) (drop at (ended_lines pieces)) h.end some

none_left : (names pieces : List (List ℕ)) (lanes : List LanePart) (at : ℕ) → HasLanes names (ended_lines pieces) (length names) lanes at → length (ended_lines pieces) ≤ at
    → fault_in names pieces ≡ fault_at_end [] (at + 1) (last_piece pieces)
none_left names pieces lanes at h past =
    let none : length (drop at (ended_lines pieces)) ≡ 0 = omega (arith, length-drop at (ended_lines pieces), past) in
    over names pieces lanes at h ∙ no_lines (length names) (at + 1) (last_piece pieces) (drop at (ended_lines pieces)) none

-- no line is left, but something stands behind the last line feed
pub rest_left : (names pieces : List (List ℕ)) (lanes : List LanePart) (at : ℕ) → HasLanes names (ended_lines pieces) (length names) lanes at → length (ended_lines pieces) ≤ at
    → length (last_piece pieces) ≢ 0 → fault_in names pieces ≡ Some (at + 1)
rest_left names pieces lanes at h past rest = none_left names pieces lanes at h past ∙ rest_fault (at + 1) (last_piece pieces) rest

nothing : (l : List ℕ) → length l ≡ 0 → l ≡ []
nothing [] h = refl
nothing (b ∷ l) h = absurd (omega (arith, h))

all_lanes : (names lines : List (List ℕ)) (lanes : List LanePart) → AreLanes 0 lines (take (length names) names) lanes → AreLanes 0 lines names lanes
all_lanes names lines lanes h = rw (take-length names) at h

-- nothing is left
pub is_form : (names pieces : List (List ℕ)) (lanes : List LanePart) (at : ℕ) → HasLanes names (ended_lines pieces) (length names) lanes at → length (ended_lines pieces) ≤ at
    → length (last_piece pieces) ≡ 0 → IsForm names pieces lanes
is_form names pieces lanes at h past rest =
    let end : last_piece pieces ≡ [] = nothing (last_piece pieces) rest in
    let stand : AreLanes 0 (ended_lines pieces) names lanes = all_lanes names (ended_lines pieces) lanes h.stand in
    let size : lanes_size lanes ≡ length (ended_lines pieces) = omega (arith, h.place, h.within, past) in
    record {
      stand = stand;
      whole = together (ended_lines pieces) names lanes stand size;
      end = end;
      right = none_left names pieces lanes at h past ∙ ap (fault_at_end [] (at + 1)) end;
    }

-- ---- the same of the pieces that the code has

-- the lanes, read of the pieces but the last
pub of_pieces : (names : List (List ℕ)) (pieces : List (Bor (List ℕ))) (lanes : List LanePart) (at : ℕ) → HasLanes names (texts (take (length pieces - 1) pieces)) (length names) lanes at
    → HasLanes names (ended_lines (texts pieces)) (length names) lanes at
of_pieces names pieces lanes at h = subst (λ l. HasLanes names l (length names) lanes at) (ended_is pieces) h

pub inside : (pieces : List (Bor (List ℕ))) (at : ℕ) → at < length pieces - 1 → at < length (ended_lines (texts pieces))
inside pieces at h = omega (arith, ended_length pieces, h)

pub outside : (pieces : List (Bor (List ℕ))) (at : ℕ) → length pieces - 1 ≤ at → length (ended_lines (texts pieces)) ≤ at
outside pieces at h = omega (arith, ended_length pieces, h)

-- a text has a piece at least, and one more than its line feeds
pub some_piece : (octet : ℕ) (text : List ℕ) → 0 < length (parted octet text)
some_piece octet text = omega (arith, length-slice_split (λ (b : ℕ). b == octet) text)

pub few_pieces : (octet : ℕ) (text : List ℕ) → length (parted octet text) ≤ length text + 1
few_pieces octet text = omega (arith, length-slice_split (λ (b : ℕ). b == octet) text, count_by-le-length (λ (b : ℕ). b == octet) text)

-- ---- the lines of the lanes of a kind

kind_more : (name : List ℕ) (number count : ℕ) → number < count → kind_lines name number (count - number) ≡ lane_line name number ∷ kind_lines name (number + 1) (count - (number + 1))
kind_more name number count h =
    let size : count - number ≡ suc (count - (number + 1)) = omega (arith, h) in
    ap (kind_lines name number) size

kind_none : (name : List ℕ) (number count : ℕ) → count ≤ number → kind_lines name number (count - number) ≡ []
kind_none name number count h =
    let size : count - number ≡ 0 = omega (arith, h) in
    ap (kind_lines name number) size

-- one more line
pub kind_then : (name : List ℕ) (number count : ℕ) (lines now whole : List (List ℕ)) → number < count → now ≡ lines ++ lane_line name number ∷ []
    → lines ++ kind_lines name number (count - number) ≡ whole → now ++ kind_lines name (number + 1) (count - (number + 1)) ≡ whole
kind_then name number count lines now whole h is so_far =
    let more = kind_lines name (number + 1) (count - (number + 1)) in
    ap (λ l. l ++ more) is ∙ append_assoc lines (lane_line name number ∷ []) more ∙ ap (λ l. lines ++ l) (sym (kind_more name number count h)) ∙ so_far

-- all lines
pub kind_whole : (name : List ℕ) (number count : ℕ) (lines whole : List (List ℕ)) → count ≤ number → lines ++ kind_lines name number (count - number) ≡ whole → lines ≡ whole
kind_whole name number count lines whole h so_far = sym (append-nil lines) ∙ ap (λ l. lines ++ l) (sym (kind_none name number count h)) ∙ so_far
